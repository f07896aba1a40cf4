-- Values of C and of slot code, and what operators make of them.
use Rattle.std.proofs.Common.{◌≡◌, ℕ, zero, suc, ◌+◌, ◌%◌, ◌^◌, ◌<◌, Bool, true, false, Some, None, refl, ap, ◌∙◌, subst, arith}
use Rattle.std.specs.Prelude.{slice_get, ◌==◌, not, if◌then◌else◌, Result, Ok, Err}
use Rattle.nx_base.specs.Arithmetic.{alu_of, flag}
use Rattle.nx_base.specs.declared.operations.AluOp.TheVariants as alu
use Rattle.nx_checked.specs.declared.checked.Element.{Element}
use Rattle.nx_checked.specs.declared.checked.Element.TheVariants as element
use Rattle.nx_checked.specs.declared.checked.IntOperator.{IntOperator}
use Rattle.nx_checked.specs.declared.checked.IntOperator.TheVariants as int
use Rattle.nx_cobjects.specs.declared.value.Value.{Value}
use Rattle.nx_cobjects.specs.declared.value.Value.TheVariants as value
use Rattle.nx_cobjects.specs.declared.value.WrongKind.{WrongKind}
use Rattle.nx_cobjects.specs.declared.value.WrongKind.TheVariants as wrong
use Rattle.nx_cobjects.specs.Values.{operated}
use Rattle.nx_cobjects.specs.Memory.{Memory, object_at, has_elements, moved}
use Rattle.nx_slot.specs.declared.op.Binary.TheVariants as binary_op
use Rattle.nx_slot.specs.declared.op.Comparison.TheVariants as compare
use Rattle.nx_slot.specs.declared.op.Unary.TheVariants as unary_op
use Rattle.nx_slot.specs.Objects.{object_of, same_width, binary, holds, unary}
use Rattle.nx_slot.specs.Objects as slot
use Rattle.nx_lower.specs.Shown.{Counts, counts_of, name_of, shown, width_of, object_shown, objects_of}
use Rattle.nx_lower.specs.Code.{binary_of}
use Rattle.nx_lower.specs.Laws.{names_from}
use Rattle.nx_lower.proofs.Objects.{has_kind, shown_at, is_text, ok_value}

pub operated_same : (o : IntOperator) (a b : ℕ) → binary (binary_of o) a b ≡ operated o a b
unfolding binary holds
operated_same int.BitOr a b = refl
operated_same int.BitXor a b = refl
operated_same int.BitAnd a b = refl
operated_same int.Equal a b = refl
operated_same int.NotEqual a b = refl
operated_same int.Less a b = refl
operated_same int.AtMost a b = refl
operated_same int.Greater a b = refl
operated_same int.AtLeast a b = refl
operated_same int.ShiftLeft a b = refl
operated_same int.ShiftRight a b = refl
operated_same int.Add a b = refl
operated_same int.Subtract a b = refl
operated_same int.Multiply a b = refl
operated_same int.Divide a b = refl
operated_same int.Remainder a b = refl

pub minus_same : (a : ℕ) → unary unary_op.Negate a ≡ alu_of alu.Sub 0 a
unfolding unary
minus_same a = refl

pub low_same : (a : ℕ) → unary unary_op.LowByte a ≡ a % 256
unfolding unary
low_same a = refl

pub not_same : (a : ℕ) → binary (binary_op.Compare compare.Equal) a 0 ≡ flag (a == 0)
unfolding binary holds
not_same a = refl

pub truth_same : (a : ℕ) → binary (binary_op.Compare compare.Unequal) a 0 ≡ flag (not (a == 0))
unfolding binary holds
truth_same a = refl

pub complement_same : (a : ℕ) → binary binary_op.Xor a 4294967295 ≡ alu_of alu.Xor a 4294967295
unfolding binary
complement_same a = refl

widths_same : (w : Element) → same_width (width_of w) (width_of w) ≡ true
widths_same element.Int = refl
widths_same element.Char = refl

-- A pointer moves alike.
pub moved_same : (m : Memory) (c : Counts) (w : Element) (v x : Value) (n : ℕ) → counts_of m.group ≡ c → moved m w v n ≡ Ok x → slot.moved (objects_of m) (width_of w) (shown c v) n ≡ Some (shown c x)
moved_same m c w (value.Int k) x n e h = absurd cc
moved_same m c w (value.Entry f) x n e h = absurd cc
moved_same m c element.Int (value.Forged k) x n e h = ap (λ v. Some (shown c v)) (ok_value _ x h)
moved_same m c element.Char (value.Forged k) x n e h = ap (λ v. Some (shown c v)) (ok_value _ x h)
moved_same m c w (value.Point o at) x n e h = go (has_elements m w o) refl h
  where
    go : (b : Bool) → has_elements m w o ≡ b → ◌≡◌ {A = Result Value WrongKind} (if b then Ok (value.Point o ((at + n) % 2 ^ 32)) else Err wrong.Bounds) (Ok x) → slot.moved (objects_of m) (width_of w) (slot.Pointer (name_of c o) at) n ≡ Some (shown c x)
    go false q h = absurd cc
    go true q h =
        let k = has_kind m w o q in
        let z = subst (λ c. object_of (objects_of m) (name_of c o) ≡ object_shown (is_text o) (object_at m o)) e (shown_at m o k.0) in
        ap (λ x. if same_width x.width (width_of w) then Some (slot.Pointer (name_of c o) ((at + n) % 2 ^ 32)) else None) z
        ∙ ap (λ x. if same_width (width_of x) (width_of w) then Some (slot.Pointer (name_of c o) ((at + n) % 2 ^ 32)) else None) k.1
        ∙ ap (λ b. if b then Some (slot.Pointer (name_of c o) ((at + n) % 2 ^ 32)) else None) (widths_same w)
        ∙ ap (λ v. Some (shown c v)) (ok_value _ x h)

-- The names of arrays.
pub names_get : (b k i : ℕ) → i < k → slice_get (names_from b k) i ≡ Some (b + i)
names_get b zero i h = absurd (omega arith)
names_get b (suc k) zero h = let e : b ≡ b + 0 = omega arith in ap Some e
names_get b (suc k) (suc i) h = let e : b + 1 + i ≡ b + suc i = omega arith in names_get (b + 1) k i (omega arith) ∙ ap Some e

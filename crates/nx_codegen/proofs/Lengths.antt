-- How many instructions code has, wherever it stands.
use Rattle.std.proofs.Common.{◌≡◌, ℕ, zero, suc, ◌+◌, ◌*◌, ◌%◌, ◌≤◌, Bool, true, false, List, [], ◌∷◌, ◌++◌, length, Some, refl, sym, ap, ◌∙◌, arith, length-append}
use Rattle.std.specs.Prelude.{slice_get}
use Rattle.nx_rv.specs.declared.inst.Inst.{Inst}
use Rattle.nx_rv.specs.declared.inst.Inst.TheVariants.{Lui, Store}
use Rattle.nx_slot.specs.declared.op.Comparison.{Comparison}
use Rattle.nx_slot.specs.declared.op.SlotOp.{SlotOp}
use Rattle.nx_slot.specs.declared.op.SlotOp.TheVariants as op
use Rattle.nx_slot.specs.declared.program.SlotFunction.{SlotFunction}
use Rattle.nx_codegen.specs.declared.output.Target.TheVariants.{Function, Call}
use Rattle.nx_codegen.specs.Addresses.{Links, no_links, upper, lower, target_of}
use Rattle.nx_codegen.specs.Moves.{get_code, source, answer_code}
use Rattle.nx_codegen.specs.Operators.{jump_code, skip_code}
use Rattle.nx_codegen.specs.Calling.{arguments_code, kept_at, save_code, restore_code, call_code}
use Rattle.nx_codegen.specs.Code.{sides_code, operation_code, size_of, offset, is_near, place_of}

pub by_test : {A : Type 0} (q : Bool) → (q ≡ true → A) → (q ≡ false → A) → A
by_test true f g = f refl
by_test false f g = g refl

jump_length : (near : Bool) (a b c d : ℕ) → length (jump_code near a b) ≡ length (jump_code near c d)
unfolding jump_code
jump_length true a b c d = refl
jump_length false a b c d = refl

skip_length : (near : Bool) (test : Comparison) (x y a b c d : ℕ) → length (skip_code near test x y a b) ≡ length (skip_code near test x y c d)
unfolding skip_code
skip_length true test x y a b c d = refl
skip_length false test x y a b c d = ap suc (jump_length false (a + 4) b (c + 4) d)

call_length : (a b : ℕ) → length (call_code a) ≡ length (call_code b)
unfolding call_code
call_length a b = refl

both : (a b c d : List Inst) → length a ≡ length c → length b ≡ length d → length (a ++ b) ≡ length (c ++ d)
both a b c d e f = length-append a b ∙ ap (λ n. n + length b) e ∙ ap (λ n. length c + n) f ∙ sym (length-append c d)

pub same_length : (l : Links) (near : Bool) (g : SlotFunction) (there : ℕ → ℕ) (here at : ℕ) (o : SlotOp) → 4 * length (operation_code l near g there here at o) ≡ size_of near g o
unfolding size_of
same_length l near g there here at (op.Move to from) = refl
same_length l near g there here at (op.Forge to from) = refl
same_length l near g there here at (op.Apply o to left right) = refl
same_length l near g there here at (op.Change o to from) = refl
same_length l near g there here at (op.SkipUnless test left right past) =
    ap (λ n. 4 * n) (both (sides_code g left right) _ (sides_code g left right) _ refl (skip_length near test _ _ _ _ _ _))
same_length l near g there here at (op.Skip past) = ap (λ n. 4 * n) (jump_length near _ _ _ _)
same_length l near g there here at (op.Back by) = ap (λ n. 4 * n) (jump_length near _ _ _ _)
same_length l near g there here at (op.Ask number first count) =
    ap (λ n. 4 * n) (both (arguments_code g first count) _ (arguments_code g first count) _ refl (both (call_code (l (Call number))) (answer_code g first) (call_code 0) (answer_code g first) (call_length _ _) refl))
same_length l near g there here at (op.Go function first count) =
    ap (λ n. 4 * n) (both (save_code (kept_at g first)) _ (save_code (kept_at g first)) _ refl
    (both (arguments_code g first count) _ (arguments_code g first count) _ refl
    (both (call_code (l (Function function))) (restore_code (kept_at g first) ++ answer_code g first) (call_code 0) (restore_code (kept_at g first) ++ answer_code g first) (call_length _ _) refl)))
same_length l near g there here at (op.Give value) = refl
same_length l near g there here at (op.Make k) = refl
same_length l near g there here at (op.Local to k) = refl
same_length l near g there here at (op.Static to o) = refl
same_length l near g there here at (op.Entry to function) = refl
same_length l near g there here at (op.Fetch to o) = refl
same_length l near g there here at (op.Keep o from) =
    ap (λ n. 4 * n) (both (get_code g 6 from) (Lui 5 (upper (l (target_of o))) ∷ Store 4 5 (source g 6 from) (lower (l (target_of o))) ∷ []) (get_code g 6 from) (Lui 5 (upper 0) ∷ Store 4 5 (source g 6 from) (lower 0) ∷ []) refl refl)
same_length l near g there here at (op.Index to base index w) = refl
same_length l near g there here at (op.Load to place w) = refl
same_length l near g there here at (op.Store place value w) = refl

offset_aligned : (near : Bool) (g : SlotFunction) (ops : List SlotOp) (k : ℕ) → offset near g ops k % 4 ≡ 0
unfolding offset size_of
offset_aligned near g [] k = refl
offset_aligned near g (o ∷ ops) zero = refl
offset_aligned near g (o ∷ ops) (suc k) = let h = offset_aligned near g ops k in omega (arith, h)

pub place_aligned : (g : SlotFunction) (at : ℕ) → place_of g at % 4 ≡ 0
unfolding place_of
place_aligned g at = let h = offset_aligned (is_near g) g g.ops at in omega (arith, h)

pub size_aligned : (near : Bool) (g : SlotFunction) (o : SlotOp) → size_of near g o % 4 ≡ 0
unfolding size_of
size_aligned near g o = omega arith

pub offset_first : (near : Bool) (g : SlotFunction) (ops : List SlotOp) → offset near g ops 0 ≡ 0
unfolding offset
offset_first near g [] = refl
offset_first near g (o ∷ ops) = refl

pub offset_next : (near : Bool) (g : SlotFunction) (ops : List SlotOp) (k : ℕ) (o : SlotOp) → slice_get ops k ≡ Some o → offset near g ops (suc k) ≡ offset near g ops k + size_of near g o
unfolding offset
offset_next near g [] k o e = absurd cc
offset_next near g (p ∷ ops) zero o e =
    let w : p ≡ o = cc in
    let q : size_of near g p ≡ size_of near g o = ap (size_of near g) w in
    let z = offset_first near g ops in
    omega (arith, q, z)
offset_next near g (p ∷ ops) (suc k) o e = let h = offset_next near g ops k o e in omega (arith, h)

-- No operation begins behind all of them.
pub offset_up : (near : Bool) (g : SlotFunction) (ops : List SlotOp) (k : ℕ) → offset near g ops k ≤ offset near g ops (length ops)
unfolding offset
offset_up near g [] k = omega arith
offset_up near g (o ∷ ops) zero = omega arith
offset_up near g (o ∷ ops) (suc k) = let h = offset_up near g ops k in omega (arith, h)

-- An operation ends before the last one does.
pub place_room : (g : SlotFunction) (at : ℕ) (o : SlotOp) → slice_get g.ops at ≡ Some o → place_of g at + size_of (is_near g) g o ≤ place_of g (length g.ops)
unfolding place_of
place_room g at o e =
    let h = offset_next (is_near g) g g.ops at o e in
    let u = offset_up (is_near g) g g.ops (suc at) in
    omega (arith, h, u)

pub size_is : (near : Bool) (g : SlotFunction) (o : SlotOp) (is : List Inst) → is ≡ operation_code no_links near g (λ i. 0) 0 0 o → 4 * length is ≡ size_of near g o
unfolding size_of
size_is near g o is e = ap (λ x. 4 * length x) e

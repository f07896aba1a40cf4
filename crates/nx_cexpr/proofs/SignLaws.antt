-- The signs of tokens, and at which of them an expression stops.
use Rattle.std.proofs.Common.{◌≡◌, ℕ, ◌<◌, Bool, true, false, [], refl, sym, ap, ◌∙◌, arith}
use Rattle.std.specs.Prelude.{Option, None, Some, if◌then◌else◌, ◌==◌}
use Rattle.std.proofs.lemmas.Bool.{eqb-true, eq-eqb, ne_eqb}
use denote.Enum.Bare.{same_true, true_same}
use Rattle.nx_ctree.specs.contracts.sign.Sign.{the_type}
use Rattle.nx_ctree.specs.declared.sign.Sign.{Sign}
use Rattle.nx_ctree.specs.declared.sign.Sign.TheVariants as sign
use Rattle.nx_ctree.specs.declared.sign.Signed.{Signed}
use Rattle.nx_ctree.specs.declared.expression.BinaryOperator.{BinaryOperator}
use Rattle.nx_ctree.specs.declared.expression.BinaryOperator.TheVariants as binary
use Rattle.nx_ctree.specs.Expressions.{step_of, binary_of, assign_of}
use Rattle.nx_grammar.specs.Reading.{expect}
use Rattle.nx_grammar.specs.Lawful.{Any, Law}
use Rattle.nx_grammar.specs.Sparing.{Spares}
use Rattle.nx_grammar.proofs.Choices.{law_expect}
use Rattle.nx_grammar.proofs.Spares.{spares_expect}
use Rattle.nx_cexpr.specs.Signs.{is_sign, rank, Stops, operator_at}

-- The token has this sign.
abbrev pub Is : Sign → Signed → Type 0
Is s t = t.sign ≡ s

-- Some token with this sign.
abbrev pub tok : Sign → Signed
tok s = record { sign = s; text = []; line = 0 }

pub is_true : (s : Sign) (t : Signed) → t.sign ≡ s → is_sign s t ≡ true
is_true s t e = true_same the_type t.sign s e

pub true_is : (s : Sign) (t : Signed) → is_sign s t ≡ true → t.sign ≡ s
true_is s t e = same_true the_type tt t.sign s e

-- A token of another sign is none of this one.
pub differs : (s : Sign) (t : Signed) → (t.sign ≡ s → ⊥) → is_sign s t ≡ false
differs s t h = by (is_sign s t) refl
  where
    by : (b : Bool) → is_sign s t ≡ b → is_sign s t ≡ false
    by true e = absurd (h (true_is s t e))
    by false e = e

-- A token whose sign has another rank is none of this sign.
pub other_rank : (s : Sign) (n : ℕ) (t : Signed) → rank s ≡ n → n < rank t.sign → is_sign s t ≡ false
other_rank s n t e l = differs s t (λ h. let r : rank t.sign ≡ rank s = ap rank h in absurd (omega arith))

-- A token with this sign stops what its rank is above.
pub stops_at : (s : Sign) (n : ℕ) (t : Signed) → n < rank s → t.sign ≡ s → Stops n t
stops_at s n t l e = let r : rank t.sign ≡ rank s = ap rank e in omega arith

-- The law of one token that is expected.
pub sign_law : (s : Sign) → Law (expect (is_sign s)) Any (Is s)
sign_law s = law_expect (is_sign s) (Is s) (tok s) (is_true s (tok s) refl) refl

pub sign_spares : (s : Sign) → (s ≡ sign.End → ⊥) → Spares (Is sign.End) (expect (is_sign s))
sign_spares s h = spares_expect (Is sign.End) (is_sign s) (λ t e k. h (sym (true_is s t e) ∙ k))

-- Signs above level 1 are no steps.
no_step_by : (s : Sign) → 1 < rank s → step_of s ≡ None
no_step_by sign.Increment h = absurd (omega arith)
no_step_by sign.Decrement h = absurd (omega arith)
no_step_by _ h = refl

pub no_step : (t : Signed) → Stops 1 t → step_of t.sign ≡ None
no_step t h = no_step_by t.sign h

-- An operator of a level above is none of this level.
level_passes : (op : BinaryOperator) (m n : ℕ) → n < m → operator_at n (Some (op, m)) ≡ None
level_passes op m n h = rw (ne_eqb m n (λ e. absurd (omega arith))) refl

no_operator_by : (s : Sign) (n : ℕ) → n < rank s → operator_at n (binary_of s) ≡ None
no_operator_by sign.Star n h = level_passes binary.Multiply 2 n h
no_operator_by sign.Slash n h = level_passes binary.Divide 2 n h
no_operator_by sign.Percent n h = level_passes binary.Remainder 2 n h
no_operator_by sign.Plus n h = level_passes binary.Add 3 n h
no_operator_by sign.Minus n h = level_passes binary.Subtract 3 n h
no_operator_by sign.ShiftLeft n h = level_passes binary.ShiftLeft 4 n h
no_operator_by sign.ShiftRight n h = level_passes binary.ShiftRight 4 n h
no_operator_by sign.Less n h = level_passes binary.Less 5 n h
no_operator_by sign.AtMost n h = level_passes binary.AtMost 5 n h
no_operator_by sign.Greater n h = level_passes binary.Greater 5 n h
no_operator_by sign.AtLeast n h = level_passes binary.AtLeast 5 n h
no_operator_by sign.Equal n h = level_passes binary.Equal 6 n h
no_operator_by sign.NotEqual n h = level_passes binary.NotEqual 6 n h
no_operator_by sign.BitAnd n h = level_passes binary.BitAnd 7 n h
no_operator_by sign.BitXor n h = level_passes binary.BitXor 8 n h
no_operator_by sign.BitOr n h = level_passes binary.BitOr 9 n h
no_operator_by sign.AndMark n h = level_passes binary.And 10 n h
no_operator_by sign.OrMark n h = level_passes binary.Or 11 n h
no_operator_by _ n h = refl

pub no_operator : (n : ℕ) (t : Signed) → Stops n t → operator_at n (binary_of t.sign) ≡ None
no_operator n t h = no_operator_by t.sign n h

-- An operator of a level has that level.
found_case : (op one : BinaryOperator) (m n : ℕ) (b : Bool) → (m == n) ≡ b → (let o : Option BinaryOperator = if b then Some op else None in o) ≡ Some one → (let o : Option (BinaryOperator × ℕ) = Some (op, m) in o) ≡ Some (one, n)
found_case op one m n true e h = let same : op ≡ one = cc in ap (λ x. Some (x, m)) same ∙ ap (λ k. Some (one, k)) (eqb-true m n e)
found_case op one m n false e h = absurd cc

pub operator_found : (n : ℕ) (o : Option (BinaryOperator × ℕ)) (op : BinaryOperator) → operator_at n o ≡ Some op → o ≡ Some (op, n)
operator_found n None op e = absurd cc
operator_found n (Some x) op e = found_case x.0 op x.1 n (x.1 == n) refl e

-- An operator that has a level is one of it.
pub operator_on : (n : ℕ) (o : Option (BinaryOperator × ℕ)) (op : BinaryOperator) → o ≡ Some (op, n) → operator_at n o ≡ Some op
operator_on n o op e = ap (operator_at n) e ∙ rw (eq-eqb n n refl) refl

-- No sign that stops a whole expression is an assignment's.
no_assign_by : (s : Sign) → 13 < rank s → assign_of s ≡ None
no_assign_by sign.Set h = absurd (omega arith)
no_assign_by sign.AddSet h = absurd (omega arith)
no_assign_by sign.SubtractSet h = absurd (omega arith)
no_assign_by sign.MultiplySet h = absurd (omega arith)
no_assign_by sign.DivideSet h = absurd (omega arith)
no_assign_by sign.RemainderSet h = absurd (omega arith)
no_assign_by _ h = refl

pub no_assign : (t : Signed) → Stops 13 t → assign_of t.sign ≡ None
no_assign t h = no_assign_by t.sign h

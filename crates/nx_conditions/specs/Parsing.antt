-- How tokens are read.
use Rattle.std.specs.Prelude.{ℕ, zero, suc, Bool, true, false, List, [], ◌∷◌, Ok, Err}
use Rattle.nx_grammar.specs.declared.kind.Kind.TheVariants.{Syntax, Limit}
use Rattle.nx_grammar.specs.Reading.{Out, Pick, Refuse, Pass, Take, dispatch, seq, done, expect, loop}
use Rattle.nx_grammar.specs.Chains.{chain_pick}
use Rattle.nx_conditions.specs.declared.token.Token.{Token}
use Rattle.nx_conditions.specs.declared.token.Token.TheVariants as token
use Rattle.nx_conditions.specs.declared.token.Comparison.{Comparison}
use Rattle.nx_conditions.specs.declared.condition.Condition.{Condition}
use Rattle.nx_conditions.specs.declared.condition.Condition.TheVariants as condition

-- A reading of tokens that gives a tree.
abbrev pub Reading : Type 0
Reading = List Token → Out Token Condition

-- "(".
abbrev pub is_open : Token → Bool
is_open token.Open = true
is_open other = false

-- ")".
abbrev pub is_close : Token → Bool
is_close token.Close = true
is_close other = false

-- "&&".
abbrev pub is_and : Token → Bool
is_and token.And = true
is_and other = false

-- "||".
abbrev pub is_or : Token → Bool
is_or token.Or = true
is_or other = false

-- The end.
abbrev pub is_end : Token → Bool
is_end token.End = true
is_end other = false

-- A name is taken.
abbrev pub name_pick : Token → Pick Token (List ℕ)
name_pick (token.Name name) = Take (done name)
name_pick other = Refuse Syntax

-- "(", a name, ")".
unfoldable pub defined_rest : Reading
defined_rest = seq (expect is_open) (λ open_token. seq (dispatch name_pick) (λ name. seq (expect is_close) (λ close_token. done (condition.Defined name))))

-- What a negation negates.
unfoldable pub not_rest : Reading → Reading
not_rest unary = seq unary (λ a. done (condition.Not a))

-- A condition and ")".
unfoldable pub group_rest : Reading → Reading
group_rest whole = seq whole (λ a. seq (expect is_close) (λ close_token. done a))

-- What a token begins.
abbrev pub unary_pick : Reading → Reading → Token → Pick Token Condition
unary_pick unary whole (token.Number n) = Take (done (condition.Number n))
unary_pick unary whole (token.Name name) = Take (done (condition.Name name))
unary_pick unary whole token.Defined = Take defined_rest
unary_pick unary whole token.Not = Take (not_rest unary)
unary_pick unary whole token.Open = Take (group_rest whole)
unary_pick unary whole other = Refuse Syntax

-- The right side of a comparison.
unfoldable pub compare_rest : Reading → Comparison → Condition → Reading
compare_rest unary by a = seq unary (λ b. done (condition.Compare by a b))

-- A comparison after its left side, or that alone.
abbrev pub compare_pick : Reading → Condition → Token → Pick Token Condition
compare_pick unary a (token.Compare by) = Take (compare_rest unary by a)
compare_pick unary a other = Pass a

-- A comparison over this reading of its sides.
unfoldable pub comparison : Reading → Reading
comparison unary = seq unary (λ a. dispatch (compare_pick unary a))

-- The right side of "&&".
unfoldable pub and_rest : Reading → Condition → Reading
and_rest part a = seq part (λ b. done (condition.And a b))

-- The right side of "||".
unfoldable pub or_rest : Reading → Condition → Reading
or_rest part a = seq part (λ b. done (condition.Or a b))

-- "&&" after a conjunction, or that alone.
abbrev pub and_pick : Reading → Condition → Token → Pick Token Condition
and_pick part = chain_pick is_and (and_rest part)

-- "||" after a disjunction, or that alone.
abbrev pub or_pick : Reading → Condition → Token → Pick Token Condition
or_pick part = chain_pick is_or (or_rest part)

-- A conjunction over this reading of its parts.
unfoldable pub conjunction : Reading → Reading
conjunction part = seq part (loop (and_pick part))

-- A disjunction over this reading of its parts.
unfoldable pub disjunction : Reading → Reading
disjunction part = seq part (loop (or_pick part))

-- A whole disjunction over this reading of its unaries.
abbrev pub whole : Reading → Reading
whole unary = disjunction (conjunction (comparison unary))

-- A unary with at most so many negations and parentheses around its inmost part.
unfoldable pub unary_at : ℕ → Reading
unary_at zero ts = Err (Limit, ts)
unary_at (suc d) ts = dispatch (unary_pick (unary_at d) (whole (unary_at d))) ts

-- A disjunction and the end.
unfoldable pub full_at : ℕ → Reading
full_at d = seq (whole (unary_at d)) (λ a. seq (expect is_end) (λ end_token. done a))

-- Nothing and the end, or a disjunction and the end.
abbrev pub condition_at : ℕ → Reading
condition_at d [] = Err (Syntax, [])
condition_at d (token.End ∷ rest) = Ok (condition.Always, rest)
condition_at d (t ∷ ts) = full_at d (t ∷ ts)

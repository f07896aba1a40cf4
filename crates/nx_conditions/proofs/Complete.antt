-- What has a tree by the grammar is read, with that tree.
use Rattle.std.proofs.Common.{◌≡◌, ℕ, zero, suc, ◌≤◌, false, List, [], ◌∷◌, length, refl, ap, ◌∙◌, arith}
use Rattle.std.specs.Prelude.{Ok}
use Rattle.nx_grammar.specs.Reading.{Out, picked, dispatch, bind, loop}
use Rattle.nx_grammar.specs.Lawful.{Heads}
use Rattle.nx_grammar.proofs.Chains.{chain_takes, chain_stops}
use Rattle.nx_conditions.specs.declared.token.Token.{Token}
use Rattle.nx_conditions.specs.declared.token.Token.TheVariants as token
use Rattle.nx_conditions.specs.declared.token.Comparison.{Comparison}
use Rattle.nx_conditions.specs.declared.condition.Condition.{Condition}
use Rattle.nx_conditions.specs.declared.condition.Condition.TheVariants as condition
use Rattle.nx_conditions.specs.Grammar.{IsUnary, Number, Name, Defined, Not, Group, IsComparison, Lone, Compare, IsConjunction, Single, And, IsDisjunction, Whole, Or, IsWhole, Empty, Full}
use Rattle.nx_conditions.specs.Parsing.{Reading, is_and, is_or, defined_rest, not_rest, group_rest, unary_pick, compare_rest, compare_pick, comparison, and_rest, or_rest, and_pick, or_pick, conjunction, disjunction, whole, unary_at, full_at, condition_at}
use Rattle.nx_conditions.proofs.Lengths.{unary_less, conjunction_less, disjunction_less}
use Rattle.nx_conditions.proofs.Sound.{Short, and_short_at, or_short_at}

-- The level of an operator, strongest first; other tokens are above all.
abbrev pub level : Token → ℕ
level (token.Compare by) = 0
level token.And = 1
level token.Or = 2
level other = 3

-- What comes after is no operator below this level.
abbrev pub Stops : ℕ → List Token → Type 0
Stops n rest = Heads (λ t. n ≤ level t) rest

-- What stops at a level stops below it.
stops_less : (n m : ℕ) (rest : List Token) → n ≤ m → Stops m rest → Stops n rest
stops_less n m [] h s = s
stops_less n m (t ∷ ts) h s = omega arith

-- Above "&&" stands none.
not_and : (t : Token) → 2 ≤ level t → is_and t ≡ false
not_and token.And h = absurd (omega arith)
not_and other h = refl

-- Above "||" stands none.
not_or : (t : Token) → 3 ≤ level t → is_or t ≡ false
not_or token.Or h = absurd (omega arith)
not_or other h = refl

-- ---- Each form on its own tokens.

-- A unary is what its first token begins, one level further in.
unary_on : (d : ℕ) (t : Token) (ts : List Token) (o : Out Token Condition) → picked (unary_pick (unary_at d) (whole (unary_at d)) t) t ts ≡ o → unary_at (suc d) (t ∷ ts) ≡ o
unfolding unary_at
unary_on d t ts o h = h

-- "(", a name and ")" are read after "defined".
defined_on : (name : List ℕ) (rest : List Token) → defined_rest (token.Open ∷ token.Name name ∷ token.Close ∷ rest) ≡ Ok (condition.Defined name, rest)
unfolding defined_rest
defined_on name rest = refl

-- A unary is read after "!".
not_on : (unary : Reading) (ts : List Token) (a : Condition) (rest : List Token) → unary ts ≡ Ok (a, rest) → not_rest unary ts ≡ Ok (condition.Not a, rest)
unfolding not_rest
not_on unary ts a rest e = rw e refl

-- A disjunction and ")" are read after "(".
group_on : (read : Reading) (ts : List Token) (a : Condition) (rest : List Token) → read ts ≡ Ok (a, token.Close ∷ rest) → group_rest read ts ≡ Ok (a, rest)
unfolding group_rest
group_on read ts a rest e = rw e refl

-- A left side alone.
pass_on : (unary : Reading) (a : Condition) (rest : List Token) → Stops 1 rest → dispatch (compare_pick unary a) rest ≡ Ok (a, rest)
pass_on unary a [] s = absurd s
pass_on unary a (token.Compare by ∷ us) s = absurd (omega arith)
pass_on unary a (other ∷ us) s = refl

-- A unary with no comparison after it is read alone.
lone_on : (unary : Reading) (ts : List Token) (a : Condition) (rest : List Token) → unary ts ≡ Ok (a, rest) → Stops 1 rest → comparison unary ts ≡ Ok (a, rest)
unfolding comparison
lone_on unary ts a rest e s = ap (λ o. bind o (λ x. dispatch (compare_pick unary x))) e ∙ pass_on unary a rest s

-- Two unaries with a comparison between them are read as one.
compare_on : (unary : Reading) (by : Comparison) (ts us : List Token) (a b : Condition) (rest : List Token) → unary ts ≡ Ok (a, token.Compare by ∷ us) → unary us ≡ Ok (b, rest) → comparison unary ts ≡ Ok (condition.Compare by a b, rest)
unfolding comparison compare_rest
compare_on unary by ts us a b rest e f = rw (e, f) refl

-- A part is read after "&&".
and_on : (part : Reading) (a b : Condition) (us rest : List Token) → part us ≡ Ok (b, rest) → and_rest part a us ≡ Ok (condition.And a b, rest)
unfolding and_rest
and_on part a b us rest e = rw e refl

-- A part is read after "||".
or_on : (part : Reading) (a b : Condition) (us rest : List Token) → part us ≡ Ok (b, rest) → or_rest part a us ≡ Ok (condition.Or a b, rest)
unfolding or_rest
or_on part a b us rest e = rw e refl

-- A conjunction begins with a part, and goes on from there.
single_on : (part : Reading) (ts : List Token) (a : Condition) (rest : List Token) → part ts ≡ Ok (a, rest) → conjunction part ts ≡ loop (and_pick part) a rest
unfolding conjunction
single_on part ts a rest e = ap (λ o. bind o (loop (and_pick part))) e

-- A disjunction begins with a part, and goes on from there.
whole_on : (part : Reading) (ts : List Token) (a : Condition) (rest : List Token) → part ts ≡ Ok (a, rest) → disjunction part ts ≡ loop (or_pick part) a rest
unfolding disjunction
whole_on part ts a rest e = ap (λ o. bind o (loop (or_pick part))) e

-- One more part of a conjunction.
and_more : (part : Reading) → Short (and_rest part) → (a b : Condition) (us rest : List Token) → part us ≡ Ok (b, rest) → loop (and_pick part) a (token.And ∷ us) ≡ loop (and_pick part) (condition.And a b) rest
and_more part short a b us rest e = chain_takes is_and (and_rest part) short a token.And us refl ∙ ap (λ o. bind o (loop (and_pick part))) (and_on part a b us rest e)

-- One more part of a disjunction.
or_more : (part : Reading) → Short (or_rest part) → (a b : Condition) (us rest : List Token) → part us ≡ Ok (b, rest) → loop (or_pick part) a (token.Or ∷ us) ≡ loop (or_pick part) (condition.Or a b) rest
or_more part short a b us rest e = chain_takes is_or (or_rest part) short a token.Or us refl ∙ ap (λ o. bind o (loop (or_pick part))) (or_on part a b us rest e)

-- A conjunction is over where no "&&" stands.
and_over : (part : Reading) → Short (and_rest part) → (a : Condition) (rest : List Token) → Stops 2 rest → loop (and_pick part) a rest ≡ Ok (a, rest)
and_over part short a [] s = absurd s
and_over part short a (t ∷ us) s = chain_stops is_and (and_rest part) short a t us (not_and t s)

-- A disjunction is over where no "||" stands.
or_over : (part : Reading) → Short (or_rest part) → (a : Condition) (rest : List Token) → Stops 3 rest → loop (or_pick part) a rest ≡ Ok (a, rest)
or_over part short a [] s = absurd s
or_over part short a (t ∷ us) s = chain_stops is_or (or_rest part) short a t us (not_or t s)

-- ---- By the derivation, at each depth of at least the number of tokens.

mutual
  -- A unary is read, with its tree.
  pub complete_unary : {ts : List Token} {a : Condition} {rest : List Token} → IsUnary ts a rest → (d : ℕ) → length ts ≤ d → unary_at d ts ≡ Ok (a, rest)
  complete_unary (Number n rest) zero l = absurd (omega arith)
  complete_unary (Number n rest) (suc d) l = unary_on d (token.Number n) rest _ refl
  complete_unary (Name name rest) zero l = absurd (omega arith)
  complete_unary (Name name rest) (suc d) l = unary_on d (token.Name name) rest _ refl
  complete_unary (Defined name rest) zero l = absurd (omega arith)
  complete_unary (Defined name rest) (suc d) l = unary_on d token.Defined (token.Open ∷ token.Name name ∷ token.Close ∷ rest) _ (defined_on name rest)
  complete_unary (Not ts a rest x) zero l = absurd (omega arith)
  complete_unary (Not ts a rest x) (suc d) l = unary_on d token.Not ts _ (not_on (unary_at d) ts a rest (complete_unary x d (omega arith)))
  complete_unary (Group ts a rest x) zero l = absurd (omega arith)
  complete_unary (Group ts a rest x) (suc d) l =
      unary_on d token.Open ts _ (group_on (whole (unary_at d)) ts a rest (complete_disjunction x d (omega arith) (omega arith) ∙ or_over (conjunction (comparison (unary_at d))) (or_short_at d) a (token.Close ∷ rest) (omega arith)))

  -- A comparison is read, with its tree, where no further comparison comes after it.
  pub complete_comparison : {ts : List Token} {a : Condition} {rest : List Token} → IsComparison ts a rest → (d : ℕ) → length ts ≤ d → Stops 1 rest → comparison (unary_at d) ts ≡ Ok (a, rest)
  complete_comparison (Lone ts a rest x) d l s = lone_on (unary_at d) ts a rest (complete_unary x d l) s
  complete_comparison (Compare by ts us a b rest x y) d l s = compare_on (unary_at d) by ts us a b rest (complete_unary x d l) (complete_unary y d (omega (arith, unary_less x)))

  -- A conjunction's reading goes on from its tree.
  pub complete_conjunction : {ts : List Token} {a : Condition} {rest : List Token} → IsConjunction ts a rest → (d : ℕ) → length ts ≤ d → Stops 1 rest → conjunction (comparison (unary_at d)) ts ≡ loop (and_pick (comparison (unary_at d))) a rest
  complete_conjunction (Single ts a rest x) d l s = single_on (comparison (unary_at d)) ts a rest (complete_comparison x d l s)
  complete_conjunction (And ts us a b rest x y) d l s =
      complete_conjunction x d l (omega arith) ∙ and_more (comparison (unary_at d)) (and_short_at d) a b us rest (complete_comparison y d (omega (arith, conjunction_less x)) s)

  -- A disjunction's reading goes on from its tree.
  pub complete_disjunction : {ts : List Token} {a : Condition} {rest : List Token} → IsDisjunction ts a rest → (d : ℕ) → length ts ≤ d → Stops 2 rest → whole (unary_at d) ts ≡ loop (or_pick (conjunction (comparison (unary_at d)))) a rest
  complete_disjunction (Whole ts a rest x) d l s =
      whole_on (conjunction (comparison (unary_at d))) ts a rest (complete_conjunction x d l (stops_less 1 2 rest (omega arith) s) ∙ and_over (comparison (unary_at d)) (and_short_at d) a rest s)
  complete_disjunction (Or ts us a b rest x y) d l s =
      complete_disjunction x d l (omega arith)
      ∙ or_more (conjunction (comparison (unary_at d))) (or_short_at d) a b us rest (complete_conjunction y d (omega (arith, disjunction_less x)) (stops_less 1 2 rest (omega arith) s) ∙ and_over (comparison (unary_at d)) (and_short_at d) b rest s)

-- ---- The whole.

-- A disjunction and the end are read as the whole.
full_on : (d : ℕ) (ts : List Token) (a : Condition) (rest : List Token) → whole (unary_at d) ts ≡ Ok (a, token.End ∷ rest) → full_at d ts ≡ Ok (a, rest)
unfolding full_at
full_on d ts a rest e = rw e refl

-- No disjunction begins with the end.
mutual
  -- What begins a unary is no end.
  unary_begins : {ts : List Token} {a : Condition} {rest : List Token} → IsUnary ts a rest → (d : ℕ) → condition_at d ts ≡ full_at d ts
  unary_begins (Number n rest) d = refl
  unary_begins (Name name rest) d = refl
  unary_begins (Defined name rest) d = refl
  unary_begins (Not ts a rest x) d = refl
  unary_begins (Group ts a rest x) d = refl

  -- Nor is what begins a comparison.
  comparison_begins : {ts : List Token} {a : Condition} {rest : List Token} → IsComparison ts a rest → (d : ℕ) → condition_at d ts ≡ full_at d ts
  comparison_begins (Lone ts a rest x) d = unary_begins x d
  comparison_begins (Compare by ts us a b rest x y) d = unary_begins x d

  -- Nor is what begins a conjunction.
  conjunction_begins : {ts : List Token} {a : Condition} {rest : List Token} → IsConjunction ts a rest → (d : ℕ) → condition_at d ts ≡ full_at d ts
  conjunction_begins (Single ts a rest x) d = comparison_begins x d
  conjunction_begins (And ts us a b rest x y) d = conjunction_begins x d

  -- Nor is what begins a disjunction.
  disjunction_begins : {ts : List Token} {a : Condition} {rest : List Token} → IsDisjunction ts a rest → (d : ℕ) → condition_at d ts ≡ full_at d ts
  disjunction_begins (Whole ts a rest x) d = conjunction_begins x d
  disjunction_begins (Or ts us a b rest x y) d = disjunction_begins x d

-- A whole condition is read, with its tree, at each depth of at least the number of its tokens.
pub condition_complete : (d : ℕ) {ts : List Token} {a : Condition} → IsWhole ts a → length ts ≤ d → (rest : List Token) × (condition_at d ts ≡ Ok (a, rest))
condition_complete d (Empty rest) l = (rest, refl)
condition_complete d (Full ts a rest x) l =
    (rest, disjunction_begins x d ∙ full_on d ts a rest (complete_disjunction x d l (omega arith) ∙ or_over (conjunction (comparison (unary_at d))) (or_short_at d) a (token.End ∷ rest) (omega arith)))

-- What is read has its tree by the grammar.
use Rattle.std.proofs.Common.{◌≡◌, ℕ, zero, suc, ◌≤◌, Bool, true, List, [], ◌∷◌, length, refl, sym, ap, ◌∙◌, arith, subst}
use Rattle.std.specs.Prelude.{Ok}
use Rattle.nx_grammar.specs.Reading.{Out, picked, dispatch, expect}
use Rattle.nx_grammar.proofs.Results.{bound, ok_same, found}
use Rattle.nx_grammar.proofs.Chains.{chain_keeps}
use Rattle.nx_conditions.specs.declared.token.Token.{Token}
use Rattle.nx_conditions.specs.declared.token.Token.TheVariants as token
use Rattle.nx_conditions.specs.declared.condition.Condition.{Condition}
use Rattle.nx_conditions.specs.declared.condition.Condition.TheVariants as condition
use Rattle.nx_conditions.specs.Grammar.{IsUnary, Number, Name, Defined, Not, Group, IsComparison, Lone, Compare, IsConjunction, Single, And, IsDisjunction, Whole, Or, IsWhole, Empty, Full}
use Rattle.nx_conditions.specs.Parsing.{Reading, is_open, is_close, is_and, is_or, is_end, name_pick, defined_rest, not_rest, group_rest, unary_pick, compare_rest, compare_pick, comparison, and_rest, or_rest, conjunction, disjunction, whole, unary_at, full_at, condition_at}
use Rattle.nx_conditions.proofs.Lengths.{comparison_less, conjunction_less}

-- What this reading reads is so.
abbrev pub Sounds : (List Token → Condition → List Token → Type 0) → Reading → Type 0
Sounds Is read = (ts : List Token) (a : Condition) (rest : List Token) → read ts ≡ Ok (a, rest) → Is ts a rest

-- A right side leaves no more tokens than there were.
abbrev pub Short : (Condition → Reading) → Type 0
Short right = (a : Condition) (ts : List Token) (b : Condition) (rest : List Token) → right a ts ≡ Ok (b, rest) → length rest ≤ length ts

-- The same tree and the same rest.
moved : (Is : Condition → List Token → Type 0) (a b : Condition) (r s : List Token) → (a ≡ b) × (r ≡ s) → Is a r → Is b s
moved Is a b r s e x = subst (λ u. Is b u) e.1 (subst (λ c. Is c r) e.0 x)

-- A token that passes a test is that token.
pub open_is : (t : Token) → is_open t ≡ true → t ≡ token.Open
open_is token.Open e = refl
open_is other e = absurd cc

-- The same of ")".
pub close_is : (t : Token) → is_close t ≡ true → t ≡ token.Close
close_is token.Close e = refl
close_is other e = absurd cc

-- The same of "&&".
pub and_is : (t : Token) → is_and t ≡ true → t ≡ token.And
and_is token.And e = refl
and_is other e = absurd cc

-- The same of "||".
pub or_is : (t : Token) → is_or t ≡ true → t ≡ token.Or
or_is token.Or e = refl
or_is other e = absurd cc

-- The same of the end.
pub end_is : (t : Token) → is_end t ≡ true → t ≡ token.End
end_is token.End e = refl
end_is other e = absurd cc

-- A token that was expected stood at the front.
at_front : (test : Token → Bool) (is : Token) → ((t : Token) → test t ≡ true → t ≡ is) → (ts : List Token) (t : Token) (rest : List Token) → expect test ts ≡ Ok (t, rest) → ts ≡ is ∷ rest
at_front test is same ts t rest h = let f = found test ts t rest h in f.is ∙ ap (λ u. u ∷ rest) (same t f.good)

-- One name is one list of bytes.
name_same : (n m : List ℕ) (r s : List Token) → (let o : Out Token (List ℕ) = Ok (n, r) in o) ≡ Ok (m, s) → (n ≡ m) × (r ≡ s)
name_same n m r s e = ok_same n m r s e

-- A name that was read stood at the front.
name_front : (ts : List Token) (name : List ℕ) (rest : List Token) → dispatch name_pick ts ≡ Ok (name, rest) → ts ≡ token.Name name ∷ rest
name_front [] name rest h = absurd cc
name_front (token.Name n ∷ us) name rest h = let o = name_same n name us rest h in ap (λ m. token.Name m ∷ us) o.0 ∙ ap (λ u. token.Name name ∷ u) o.1
name_front (other ∷ us) name rest h = absurd cc

-- ---- Unaries.

-- What was read after "defined" is a name in parentheses.
found_defined : (ts : List Token) (a : Condition) (rest : List Token) → defined_rest ts ≡ Ok (a, rest) → IsUnary (token.Defined ∷ ts) a rest
unfolding defined_rest
found_defined ts a rest h =
    let o = bound (expect is_open ts) _ (a, rest) h in
    let n = bound (dispatch name_pick o.1) _ (a, rest) o.3 in
    let c = bound (expect is_close n.1) _ (a, rest) n.3 in
    let fo = at_front is_open token.Open open_is ts o.0 o.1 o.2 in
    let fn = name_front o.1 n.0 n.1 n.2 in
    let fc = at_front is_close token.Close close_is n.1 c.0 c.1 c.2 in
    let all : ts ≡ token.Open ∷ token.Name n.0 ∷ token.Close ∷ c.1 = fo ∙ ap (λ u. token.Open ∷ u) fn ∙ ap (λ u. token.Open ∷ token.Name n.0 ∷ u) fc in
    subst (λ u. IsUnary (token.Defined ∷ u) a rest) (sym all)
    (moved (λ x r. IsUnary (token.Defined ∷ token.Open ∷ token.Name n.0 ∷ token.Close ∷ c.1) x r) (condition.Defined n.0) a c.1 rest (ok_same (condition.Defined n.0) a c.1 rest c.3) (Defined n.0 c.1))

-- What was read after "!" is a unary.
found_not : (unary : Reading) → Sounds IsUnary unary → (ts : List Token) (a : Condition) (rest : List Token) → not_rest unary ts ≡ Ok (a, rest) → IsUnary (token.Not ∷ ts) a rest
unfolding not_rest
found_not unary s ts a rest h =
    let m = bound (unary ts) _ (a, rest) h in
    moved (λ x r. IsUnary (token.Not ∷ ts) x r) (condition.Not m.0) a m.1 rest (ok_same (condition.Not m.0) a m.1 rest m.3) (Not ts m.0 m.1 (s ts m.0 m.1 m.2))

-- What was read after "(" is a disjunction and ")".
found_group : (read : Reading) → Sounds IsDisjunction read → (ts : List Token) (a : Condition) (rest : List Token) → group_rest read ts ≡ Ok (a, rest) → IsUnary (token.Open ∷ ts) a rest
unfolding group_rest
found_group read s ts a rest h =
    let m = bound (read ts) _ (a, rest) h in
    let c = bound (expect is_close m.1) _ (a, rest) m.3 in
    let fc = at_front is_close token.Close close_is m.1 c.0 c.1 c.2 in
    moved (λ x r. IsUnary (token.Open ∷ ts) x r) m.0 a c.1 rest (ok_same m.0 a c.1 rest c.3) (Group ts m.0 c.1 (subst (λ u. IsDisjunction ts m.0 u) fc (s ts m.0 m.1 m.2)))

-- By the first token.
unary_by : (unary read : Reading) → Sounds IsUnary unary → Sounds IsDisjunction read → (t : Token) (ts : List Token) (a : Condition) (rest : List Token) → picked (unary_pick unary read t) t ts ≡ Ok (a, rest) → IsUnary (t ∷ ts) a rest
unary_by unary read s w (token.Number n) ts a rest h = moved (λ x r. IsUnary (token.Number n ∷ ts) x r) (condition.Number n) a ts rest (ok_same (condition.Number n) a ts rest h) (Number n ts)
unary_by unary read s w (token.Name name) ts a rest h = moved (λ x r. IsUnary (token.Name name ∷ ts) x r) (condition.Name name) a ts rest (ok_same (condition.Name name) a ts rest h) (Name name ts)
unary_by unary read s w token.Defined ts a rest h = found_defined ts a rest h
unary_by unary read s w token.Not ts a rest h = found_not unary s ts a rest h
unary_by unary read s w token.Open ts a rest h = found_group read w ts a rest h
unary_by unary read s w other ts a rest h = absurd cc

-- Every list has a first token or none.
unary_case : (unary read : Reading) → Sounds IsUnary unary → Sounds IsDisjunction read → Sounds IsUnary (dispatch (unary_pick unary read))
unary_case unary read s w [] a rest h = absurd cc
unary_case unary read s w (t ∷ ts) a rest h = unary_by unary read s w t ts a rest h

-- ---- Comparisons.

-- By the token after the left side.
compare_by : (unary : Reading) → Sounds IsUnary unary → (ts : List Token) (l : Condition) (t : Token) (us : List Token) → IsUnary ts l (t ∷ us) → (a : Condition) (rest : List Token) → picked (compare_pick unary l t) t us ≡ Ok (a, rest) → IsComparison ts a rest
unfolding compare_rest
compare_by unary s ts l (token.Compare by) us x a rest h =
    let m = bound (unary us) _ (a, rest) h in
    moved (λ y r. IsComparison ts y r) (condition.Compare by l m.0) a m.1 rest (ok_same (condition.Compare by l m.0) a m.1 rest m.3) (Compare by ts us l m.0 m.1 x (s us m.0 m.1 m.2))
compare_by unary s ts l other us x a rest h = moved (λ y r. IsComparison ts y r) l a (other ∷ us) rest (ok_same l a (other ∷ us) rest h) (Lone ts l (other ∷ us) x)

-- A token stands after the left side.
compare_case : (unary : Reading) → Sounds IsUnary unary → (ts : List Token) (l : Condition) (mid : List Token) → IsUnary ts l mid → (a : Condition) (rest : List Token) → dispatch (compare_pick unary l) mid ≡ Ok (a, rest) → IsComparison ts a rest
compare_case unary s ts l [] x a rest h = absurd cc
compare_case unary s ts l (t ∷ us) x a rest h = compare_by unary s ts l t us x a rest h

-- A reading of comparisons is sound where that of unaries is.
pub sound_comparison : (unary : Reading) → Sounds IsUnary unary → Sounds IsComparison (comparison unary)
unfolding comparison
sound_comparison unary s ts a rest h =
    let m = bound (unary ts) _ (a, rest) h in
    compare_case unary s ts m.0 m.1 (s ts m.0 m.1 m.2) a rest m.3

-- ---- Conjunctions and disjunctions.

-- The right side of "&&" leaves no more tokens than there were.
pub and_short : (part : Reading) → Sounds IsComparison part → Short (and_rest part)
unfolding and_rest
and_short part s a ts b rest h =
    let m = bound (part ts) _ (b, rest) h in
    let o = ok_same (condition.And a m.0) b m.1 rest m.3 in
    let l = comparison_less (s ts m.0 m.1 m.2) in
    omega (arith, l, ap length o.1)

-- One more part makes a longer conjunction.
and_step : (part : Reading) → Sounds IsComparison part → (ts : List Token) (l : Condition) (t : Token) (us : List Token) (b : Condition) (mid : List Token) → is_and t ≡ true → and_rest part l us ≡ Ok (b, mid) → IsConjunction ts l (t ∷ us) → IsConjunction ts b mid
unfolding and_rest
and_step part s ts l t us b mid e h x =
    let m = bound (part us) _ (b, mid) h in
    moved (λ y r. IsConjunction ts y r) (condition.And l m.0) b m.1 mid (ok_same (condition.And l m.0) b m.1 mid m.3) (And ts us l m.0 m.1 (subst (λ u. IsConjunction ts l (u ∷ us)) (and_is t e) x) (s us m.0 m.1 m.2))

-- A reading of conjunctions is sound where that of comparisons is.
pub sound_conjunction : (part : Reading) → Sounds IsComparison part → Sounds IsConjunction (conjunction part)
unfolding conjunction
sound_conjunction part s ts a rest h =
    let m = bound (part ts) _ (a, rest) h in
    chain_keeps is_and (and_rest part) (and_short part s) (λ x us. IsConjunction ts x us) (λ l t us b mid e k x. and_step part s ts l t us b mid e k x) m.0 m.1 a rest m.3 (Single ts m.0 m.1 (s ts m.0 m.1 m.2))

-- The right side of "||" leaves no more tokens than there were.
pub or_short : (part : Reading) → Sounds IsConjunction part → Short (or_rest part)
unfolding or_rest
or_short part s a ts b rest h =
    let m = bound (part ts) _ (b, rest) h in
    let o = ok_same (condition.Or a m.0) b m.1 rest m.3 in
    let l = conjunction_less (s ts m.0 m.1 m.2) in
    omega (arith, l, ap length o.1)

-- One more part makes a longer disjunction.
or_step : (part : Reading) → Sounds IsConjunction part → (ts : List Token) (l : Condition) (t : Token) (us : List Token) (b : Condition) (mid : List Token) → is_or t ≡ true → or_rest part l us ≡ Ok (b, mid) → IsDisjunction ts l (t ∷ us) → IsDisjunction ts b mid
unfolding or_rest
or_step part s ts l t us b mid e h x =
    let m = bound (part us) _ (b, mid) h in
    moved (λ y r. IsDisjunction ts y r) (condition.Or l m.0) b m.1 mid (ok_same (condition.Or l m.0) b m.1 mid m.3) (Or ts us l m.0 m.1 (subst (λ u. IsDisjunction ts l (u ∷ us)) (or_is t e) x) (s us m.0 m.1 m.2))

-- A reading of disjunctions is sound where that of conjunctions is.
sound_disjunction : (part : Reading) → Sounds IsConjunction part → Sounds IsDisjunction (disjunction part)
unfolding disjunction
sound_disjunction part s ts a rest h =
    let m = bound (part ts) _ (a, rest) h in
    chain_keeps is_or (or_rest part) (or_short part s) (λ x us. IsDisjunction ts x us) (λ l t us b mid e k x. or_step part s ts l t us b mid e k x) m.0 m.1 a rest m.3 (Whole ts m.0 m.1 (s ts m.0 m.1 m.2))

-- ---- At each depth.

-- A reading of disjunctions is sound where that of unaries is.
pub sound_whole : (unary : Reading) → Sounds IsUnary unary → Sounds IsDisjunction (whole unary)
sound_whole unary s = sound_disjunction (conjunction (comparison unary)) (sound_conjunction (comparison unary) (sound_comparison unary s))

-- The reading of unaries is sound at each depth.
pub sound_unary : (d : ℕ) → Sounds IsUnary (unary_at d)
unfolding unary_at
sound_unary zero ts a rest h = absurd cc
sound_unary (suc d) ts a rest h = unary_case (unary_at d) (whole (unary_at d)) (sound_unary d) (sound_whole (unary_at d) (sound_unary d)) ts a rest h

-- The right sides of "&&" at a depth.
pub and_short_at : (d : ℕ) → Short (and_rest (comparison (unary_at d)))
and_short_at d = and_short (comparison (unary_at d)) (sound_comparison (unary_at d) (sound_unary d))

-- The right sides of "||" at a depth.
pub or_short_at : (d : ℕ) → Short (or_rest (conjunction (comparison (unary_at d))))
or_short_at d = or_short (conjunction (comparison (unary_at d))) (sound_conjunction (comparison (unary_at d)) (sound_comparison (unary_at d) (sound_unary d)))

-- ---- The whole.

-- What was read up to the end is a whole condition.
full_sound : (d : ℕ) (ts : List Token) (a : Condition) (rest : List Token) → full_at d ts ≡ Ok (a, rest) → IsWhole ts a
unfolding full_at
full_sound d ts a rest h =
    let m = bound (whole (unary_at d) ts) _ (a, rest) h in
    let c = bound (expect is_end m.1) _ (a, rest) m.3 in
    let fc = at_front is_end token.End end_is m.1 c.0 c.1 c.2 in
    moved (λ x r. IsWhole ts x) m.0 a c.1 rest (ok_same m.0 a c.1 rest c.3) (Full ts m.0 c.1 (subst (λ u. IsDisjunction ts m.0 u) fc (sound_whole (unary_at d) (sound_unary d) ts m.0 m.1 m.2)))

-- What was read is a whole condition.
pub condition_sound : (d : ℕ) (ts : List Token) (a : Condition) (rest : List Token) → condition_at d ts ≡ Ok (a, rest) → IsWhole ts a
condition_sound d [] a rest h = absurd cc
condition_sound d (token.End ∷ us) a rest h = moved (λ x r. IsWhole (token.End ∷ us) x) condition.Always a us rest (ok_same condition.Always a us rest h) (Empty us)
condition_sound d (other ∷ us) a rest h = full_sound d (other ∷ us) a rest h

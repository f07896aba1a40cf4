-- One step of reading parts with commas between them.
use Rattle.std.proofs.Common.{◌≡◌, ◌<◌, arith, List, [], ◌∷◌, ◌++◌, length, refl, sym, ap, ◌∙◌}
use Rattle.std.specs.Prelude.{Ok, Err, Some, None}
use Rattle.nx_grammar.specs.declared.kind.Kind.TheVariants.{Syntax}
use Rattle.nx_grammar.specs.Reading.{Out, Reading, bind}
use Rattle.nx_grammar.specs.Lawful.{Law}
use Rattle.nx_grammar.specs.Chains.{after_first, closed}
use Rattle.nx_grammar.proofs.Chains.{chain_on, chain_closed}
use Rattle.nx_ctree.specs.declared.sign.Sign.TheVariants as sign
use Rattle.nx_ctree.specs.declared.sign.Signed.{Signed}
use Rattle.nx_cexpr.specs.declared.stop.ParseStop.{ParseStop}
use Rattle.nx_cexpr.specs.declared.stop.ParseStop.TheVariants as stop
use Rattle.nx_cexpr.specs.Answers.{GivesFault}
use Rattle.nx_cexpr.specs.Signs.{is_sign}
use Rattle.nx_cparse.specs.Commas.{next, others, commas}
use Rattle.nx_cparse.proofs.Commas.{next_short}

-- A list is its first part and the others.
by_first : {A : Type 0} (part : Reading Signed A) (o : Out Signed A) → bind o (λ a. others part (a ∷ [])) ≡ bind (bind o (λ a rest. Ok ([] ++ a ∷ [], rest))) (others part)
by_first part (Ok x) = refl
by_first part (Err e) = refl

pub commas_first : {A : Type 0} (part : Reading Signed A) (ts : List Signed) → commas part ts ≡ bind (next part [] ts) (others part)
commas_first part ts = by_first part (part ts)

-- After a first part the list goes on.
pub commas_on : {A : Type 0} (part : Reading Signed A) (ts : List Signed) (xs : List A) (rest : List Signed) → next part [] ts ≡ Ok (xs, rest) → others part xs rest ≡ commas part ts
commas_on part ts xs rest h = sym (commas_first part ts ∙ ap (λ o. bind o (others part)) h)

module _ {A : Type 0} (part : Reading Signed A) (F I : Signed → Type 0) (law : Law part F I) where
  -- After a comma it goes on with a part.
  pub others_step : (xs : List A) (ts us : List Signed) → after_first (is_sign sign.Comma) ts ≡ Some us → others part xs ts ≡ bind (next part xs us) (others part)
  others_step xs ts us e = chain_on (is_sign sign.Comma) (next part) (next_short part F I law) xs ts us e

  pub others_more : (xs ys : List A) (ts us vs : List Signed) → after_first (is_sign sign.Comma) ts ≡ Some us → next part xs us ≡ Ok (ys, vs) → others part ys vs ≡ others part xs ts
  others_more xs ys ts us vs e h = sym (others_step xs ts us e ∙ ap (λ o. bind o (others part)) h)

  -- Elsewhere it is over.
  pub others_over : (xs : List A) (ts : List Signed) → after_first (is_sign sign.Comma) ts ≡ None → others part xs ts ≡ closed xs ts
  others_over xs ts e = chain_closed (is_sign sign.Comma) (next part) (next_short part F I law) xs ts e

-- A fault of a step is one of the whole.
pub fails_on : {A B : Type 0} (e : ParseStop) (o : Out Signed A) (p : Out Signed B) (f : A → List Signed → Out Signed B) → p ≡ bind o f → GivesFault e o → GivesFault e p
fails_on stop.Memory o p f h g = tt
fails_on (stop.Fault kind at) o p f h g = h ∙ ap (λ x. bind x f) g

-- A list that is over, by whether a token stands after it.
pub closed_empty : {A : Type 0} (xs : List A) (ts : List Signed) → length ts < 1 → closed xs ts ≡ Err (Syntax, ts)
closed_empty xs [] h = refl
closed_empty xs (t ∷ ts) h = absurd (omega arith)

pub closed_full : {A : Type 0} (xs : List A) (ts : List Signed) → 0 < length ts → closed xs ts ≡ Ok (xs, ts)
closed_full xs [] h = absurd (omega arith)
closed_full xs (t ∷ ts) h = refl

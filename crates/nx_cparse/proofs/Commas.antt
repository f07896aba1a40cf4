-- The laws of parts with commas between them.
use Rattle.std.proofs.Common.{◌≡◌, ◌≤◌, Bool, true, false, List, [], ◌∷◌, ◌++◌, length, refl, sym, ap, ◌∙◌, subst}
use Rattle.std.specs.Prelude.{Ok, if◌then◌else◌}
use Rattle.nx_grammar.specs.Reading.{Reading, Pick, Pass, Take, bind}
use Rattle.nx_grammar.specs.Lawful.{Any, Lives, Law, Rounds}
use Rattle.nx_grammar.specs.Growing.{Wider, PickGrown}
use Rattle.nx_grammar.specs.Sparing.{Spares, SparesPick}
use Rattle.nx_grammar.specs.Chains.{chain_pick}
use Rattle.nx_grammar.proofs.Results.{bound, ok_same}
use Rattle.nx_grammar.proofs.Sequences.{law_seq, law_done}
use Rattle.nx_grammar.proofs.Choices.{taken_by}
use Rattle.nx_grammar.proofs.Loops.{passed_shorter}
use Rattle.nx_grammar.proofs.LoopLaws.{law_loop}
use Rattle.nx_grammar.proofs.LoopGrowth.{grows_loop}
use Rattle.nx_grammar.proofs.Growth.{wider_seq, wider_done, shortens}
use Rattle.nx_grammar.proofs.Spares.{spares_seq, spares_done, spares_loop}
use Rattle.nx_grammar.proofs.Chains.{chain_takes, chain_stops, chain_keeps}
use Rattle.nx_ctree.specs.declared.sign.Sign.TheVariants as sign
use Rattle.nx_ctree.specs.declared.sign.Signed.{Signed}
use Rattle.nx_cexpr.specs.Signs.{is_sign}
use Rattle.nx_cstmt.proofs.Signs.{Is, sign_is}
use Rattle.nx_cstmt.specs.Lists.{add}
use Rattle.nx_cparse.specs.Commas.{next, others, commas}

-- A comma is no end.
differs : (t : Signed) → is_sign sign.Comma t ≡ true → t.sign ≡ sign.End → ⊥
differs t e f = let same : sign.Comma ≡ sign.End = sym (sign_is t.sign sign.Comma e) ∙ f in cc

module _ {A : Type 0} where
  round_takes : (F : Signed → Type 0) (b : Bool) (xs : List A) (p q : Reading Signed (List A)) → Lives p F Any → (let x : Pick Signed (List A) = if b then Take p else Pass xs in x) ≡ Take q → Lives q F Any
  round_takes F true xs p q law e = let same : p ≡ q = cc in subst (λ x. Lives x F Any) same law
  round_takes F false xs p q law e = absurd cc

  round_passes : (b : Bool) (xs ys : List A) (p : Reading Signed (List A)) → (let x : Pick Signed (List A) = if b then Take p else Pass xs in x) ≡ Pass ys → ys ≡ xs
  round_passes true xs ys p e = absurd cc
  round_passes false xs ys p e = cc

  module _ (part : Reading Signed A) (F I : Signed → Type 0) (law : Law part F I) where
    next_law : (xs : List A) → Law (next part xs) F I
    next_law xs = law_seq part _ F I F F law (λ a. law_done (xs ++ a ∷ []) F) (λ t i. i)

    -- What a part more reads leaves no more tokens than there were.
    pub next_short : (xs : List A) (ts : List Signed) (ys : List A) (rest : List Signed) → next part xs ts ≡ Ok (ys, rest) → length rest ≤ length ts
    next_short xs ts ys rest h = passed_shorter (next part xs) F I ts (next part xs ts) ys rest ((next_law xs).lives.on ts) h

    module _ (H : Signed → Type 0) (stops : (t : Signed) → H t → is_sign sign.Comma t ≡ false) (fits : (t : Signed) → H t → F t) where
      -- The rounds after commas, up to the tokens of H.
      pub commas_rounds : Rounds (chain_pick (is_sign sign.Comma) (next part)) H H
      commas_rounds = record {
        takes = λ xs t q e. round_takes H (is_sign sign.Comma t) xs (next part xs) q (taken_by (next part xs) F H I fits (next_law xs)) e;
        stops = λ xs t h. rw (stops t h) refl;
        same = λ xs ys t e. round_passes (is_sign sign.Comma t) xs ys (next part xs) e;
        fits = λ t h. h;
      }

      pub others_law : (xs : List A) → Law (others part xs) H H
      others_law xs = law_loop (chain_pick (is_sign sign.Comma) (next part)) H H commas_rounds xs

      pub commas_law : Law (commas part) H I
      commas_law = law_seq part _ F I H H law (λ a. others_law (a ∷ [])) fits

      -- No part takes the end, so no list does.
      pub others_spare : Spares (Is sign.End) part → (xs : List A) → Spares (Is sign.End) (others part xs)
      others_spare s xs = spares_loop (Is sign.End) (chain_pick (is_sign sign.Comma) (next part)) H H commas_rounds (λ ys t. round_spares (is_sign sign.Comma t) ys t (spares_seq (Is sign.End) part _ s (λ a. spares_done (Is sign.End) (ys ++ a ∷ []))) refl) xs
        where
          round_spares : (b : Bool) (ys : List A) (t : Signed) → Spares (Is sign.End) (next part ys) → is_sign sign.Comma t ≡ b → SparesPick {A = List A} (Is sign.End) t (if b then Take (next part ys) else Pass ys)
          round_spares true ys t z e = record { takes = λ q k. (λ f. differs t e f, subst (λ y. Spares (Is sign.End) y) (let y : next part ys ≡ q = cc in y) z) }
          round_spares false ys t z e = record { takes = λ q k. absurd cc }

      pub commas_spare : Spares (Is sign.End) part → Spares (Is sign.End) (commas part)
      commas_spare s = spares_seq (Is sign.End) part _ s (λ a. others_spare s (a ∷ []))

    -- Lists that were read: by what one part is, and by what one part more makes of them.
    pub others_found : (Are : List A → List Signed → Type 0) →
        ((xs : List A) (m : Signed) (us : List Signed) (a : A) (rest : List Signed) → Are xs (m ∷ us) → m.sign ≡ sign.Comma → part us ≡ Ok (a, rest) → Are (xs ++ a ∷ []) rest) →
        (xs : List A) (ts : List Signed) (ys : List A) (rest : List Signed) → others part xs ts ≡ Ok (ys, rest) → Are xs ts → Are ys rest
    others_found Are step xs ts ys rest h p =
        chain_keeps (is_sign sign.Comma) (next part) next_short Are
        (λ zs t us ws mid e g k.
        let b = bound (part us) (add zs) (ws, mid) g in
        let o = ok_same (zs ++ b.0 ∷ []) ws b.1 mid b.3 in
        subst (λ z. Are z mid) o.0 (subst (λ z. Are (zs ++ b.0 ∷ []) z) o.1 (step zs t us b.0 b.1 k (sign_is t.sign sign.Comma e) b.2)))
        xs ts ys rest h p

    -- After a comma the list goes on with a part.
    pub others_go : (xs : List A) (m : Signed) (us : List Signed) (a : A) (rest : List Signed) → is_sign sign.Comma m ≡ true → part us ≡ Ok (a, rest) → others part xs (m ∷ us) ≡ others part (xs ++ a ∷ []) rest
    others_go xs m us a rest e h = chain_takes (is_sign sign.Comma) (next part) next_short xs m us e ∙ ap (λ o. bind (bind o (add xs)) (others part)) h

    -- At any other token it is over.
    pub others_end : (xs : List A) (t : Signed) (us : List Signed) → is_sign sign.Comma t ≡ false → others part xs (t ∷ us) ≡ Ok (xs, t ∷ us)
    others_end xs t us e = chain_stops (is_sign sign.Comma) (next part) next_short xs t us e

  -- A round against a wider limit.
  round_grown : (b : Bool) (p q : Reading Signed A) (xs : List A) → Wider p q → PickGrown {T = Signed} {A = List A} (if b then Take (next p xs) else Pass xs) (if b then Take (next q xs) else Pass xs)
  round_grown true p q xs w = (next q xs, refl, (wider_seq p q _ _ w (λ a. wider_done (xs ++ a ∷ []))).grows)
  round_grown false p q xs w = refl

  module _ (p q : Reading Signed A) (F I H : Signed → Type 0) (law : Law p F I) (more : Law q F I) (stops : (t : Signed) → H t → is_sign sign.Comma t ≡ false) (fits : (t : Signed) → H t → F t) (w : Wider p q) where
    pub others_wider : (xs : List A) → Wider (others p xs) (others q xs)
    others_wider xs = record {
      grows = grows_loop (chain_pick (is_sign sign.Comma) (next p)) (chain_pick (is_sign sign.Comma) (next q)) H H (commas_rounds p F I law H stops fits) (commas_rounds q F I more H stops fits) (λ ys t. round_grown (is_sign sign.Comma t) p q ys w) xs;
      short = shortens (others q xs) H H (others_law q F I more H stops fits xs);
    }

    pub commas_wider : Wider (commas p) (commas q)
    commas_wider = wider_seq p q _ _ w (λ a. others_wider (a ∷ []))

-- How far the tokens of a text are read.
use Rattle.std.proofs.Common.{◌≡◌, ℕ, Bool, true, false, List, [], ◌∷◌, ◌++◌, length, refl, sym, ap, ◌∙◌, append_assoc, subst}
use Rattle.std.proofs.lemmas.Bool.{eqb-true}
use Rattle.std.proofs.lemmas.List.{nil_from_length}
use Rattle.std.specs.Prelude.{Option, None, Some, Err, ◌==◌}
use Rattle.nx_conditions.specs.declared.token.Token.{Token}
use Rattle.nx_conditions.specs.declared.token.Token.TheVariants as token
use Rattle.nx_conditions.specs.declared.stop.ConditionStop.{ConditionStop}
use Rattle.nx_conditions.specs.declared.stop.ConditionStop.TheVariants as stop
use Rattle.nx_conditions.specs.Answers.{IsNotFound, IsGiven}
use Rattle.nx_conditions.specs.Tokens.{token_at, after_blanks, AreTokens, End, More, AreTokensOf}

-- These tokens stand before rest: the text's tokens are these and those of rest.
pub record Reached (bytes : List ℕ) (found : List Token) (rest : List ℕ) : Type 0 where
  pub on : (ts : List Token) → AreTokens rest ts → AreTokensOf bytes (found ++ ts)
  pub back : (ts : List Token) → AreTokensOf bytes ts → (more : List Token) × (ts ≡ found ++ more) × AreTokens rest more

-- At first none stands there.
pub reached_first : (bytes : List ℕ) → Reached bytes [] (after_blanks bytes)
reached_first bytes = record { on = λ ts x. x; back = λ ts x. (ts, refl, x) }

-- One token and one rest are in one answer.
some_same : (t u : Token) (r s : List ℕ) → (let o : Option (Token × List ℕ) = Some (t, r) in o) ≡ Some (u, s) → (t ≡ u) × (r ≡ s)
some_same t u r s e = let p : (t, r) ≡ (u, s) = cc in (ap (λ (x : Token × List ℕ). x.0) p, ap (λ (x : Token × List ℕ). x.1) p)

-- The tokens of a text begin with the one at its front.
invert : (bytes rest : List ℕ) (t : Token) (ts : List Token) → token_at bytes ≡ Some (t, rest) → AreTokens bytes ts → (more : List Token) × (ts ≡ t ∷ more) × AreTokens (after_blanks rest) more
invert bytes rest t ts e End = absurd cc
invert bytes rest t ts e (More text rest' t' more f x) =
    let s = some_same t' t rest' rest (sym f ∙ e) in
    (more, ap (λ u. u ∷ more) s.0, subst (λ r. AreTokens (after_blanks r) more) s.1 x)

-- A token more.
pub reached_more : (bytes : List ℕ) (found : List Token) (rest following : List ℕ) (t : Token) → token_at rest ≡ Some (t, following) → Reached bytes found rest → Reached bytes (found ++ t ∷ []) (after_blanks following)
reached_more bytes found rest following t e r = record {
  on = λ ts x. subst (λ us. AreTokensOf bytes us) (sym (append_assoc found (t ∷ []) ts)) (r.on (t ∷ ts) (More rest following t ts e x));
  back = λ ts x.
      let b = r.back ts x in
      let i = invert rest following t b.0 e b.2 in
      (i.0, b.1 ∙ ap (λ us. found ++ us) i.1 ∙ sym (append_assoc found (t ∷ []) i.0), i.2);
}

-- At the end the tokens are these and the end.
pub reached_end : (bytes : List ℕ) (found : List Token) (rest : List ℕ) → rest ≡ [] → Reached bytes found rest → AreTokensOf bytes (found ++ token.End ∷ [])
reached_end bytes found rest e r = r.on (token.End ∷ []) (subst (λ x. AreTokens x (token.End ∷ [])) (sym e) End)

-- Nothing but the end is at the end.
only_end : (bytes : List ℕ) (ts : List Token) → bytes ≡ [] → AreTokens bytes ts → ts ≡ token.End ∷ []
only_end bytes ts e End = refl
only_end bytes ts e (More text rest t more f x) = let n : token_at bytes ≡ None = ap token_at e in absurd cc

-- And no other tokens are the text's.
pub reached_only : (bytes : List ℕ) (found : List Token) (rest : List ℕ) (ts : List Token) → rest ≡ [] → Reached bytes found rest → AreTokensOf bytes ts → found ++ token.End ∷ [] ≡ ts
reached_only bytes found rest ts e r x =
    let b = r.back ts x in
    sym (b.1 ∙ ap (λ us. found ++ us) (only_end rest b.0 e b.2))

-- Where no token stands before the end, a text has no tokens.
none_there : (bytes : List ℕ) (ts : List Token) → token_at bytes ≡ None → (bytes ≡ [] → ⊥) → AreTokens bytes ts → ⊥
none_there bytes ts e n End = n refl
none_there bytes ts e n (More text rest t more f x) = cc

-- So the whole text has none.
pub reached_bad : (bytes : List ℕ) (found : List Token) (rest : List ℕ) (ts : List Token) → token_at rest ≡ None → (rest ≡ [] → ⊥) → Reached bytes found rest → AreTokensOf bytes ts → ⊥
reached_bad bytes found rest ts e n r x = let b = r.back ts x in none_there rest b.0 e n b.2

-- A token more, as the code has it.
pub reached_next : (bytes : List ℕ) (found more : List Token) (rest following after : List ℕ) (t : Token) → token_at rest ≡ Some (t, following) → more ≡ found ++ t ∷ [] → after ≡ after_blanks following → Reached bytes found rest → Reached bytes more after
reached_next bytes found more rest following after t e m a r = subst (λ x. Reached bytes x after) (sym m) (subst (λ x. Reached bytes (found ++ t ∷ []) x) (sym a) (reached_more bytes found rest following t e r))

-- Where the token at the front is bad, so is the text.
pub reached_stop : (bytes : List ℕ) (found : List Token) (rest : List ℕ) (e : ConditionStop) → IsNotFound e (token_at rest) → (rest ≡ [] → ⊥) → Reached bytes found rest → (ts : List Token) → AreTokensOf bytes ts → IsGiven {X = List Token} (Err e) ts
reached_stop bytes found rest stop.Bad h n r ts x = reached_bad bytes found rest ts h n r x
reached_stop bytes found rest stop.Memory h n r ts x = tt

-- A text that is found empty is.
pub nil_if : (xs : List ℕ) (b : Bool) → b ≡ (length xs == 0) → b ≡ true → xs ≡ []
nil_if xs b e h = nil_from_length xs (eqb-true (length xs) 0 (sym e ∙ h))

-- A text that is found not empty is not.
pub not_nil : (xs : List ℕ) (b : Bool) → b ≡ (length xs == 0) → b ≡ false → xs ≡ [] → ⊥
not_nil [] b e h n = cc
not_nil (x ∷ xs) b e h n = cc

-- The laws of one token of a sign.
use Rattle.std.proofs.Common.{◌≡◌, true, false, List, [], ◌∷◌, refl, sym, ◌∙◌}
use Rattle.std.specs.Prelude.{Ok}
use denote.Enum.Bare.{sameb, same_true, true_same, false_same, same_false}
use Rattle.nx_ctree.specs.contracts.sign.Sign.{the_type}
use Rattle.nx_grammar.specs.Lawful.{Any, Law}
use Rattle.nx_grammar.specs.Growing.{Wider}
use Rattle.nx_grammar.specs.Sparing.{Spares}
use Rattle.nx_grammar.proofs.Choices.{law_expect}
use Rattle.nx_grammar.proofs.Growth.{wider_expect}
use Rattle.nx_grammar.proofs.Results.{found, expect_on}
use Rattle.nx_grammar.proofs.Spares.{spares_expect}
use Rattle.nx_ctree.specs.declared.sign.Sign.{Sign}
use Rattle.nx_ctree.specs.declared.sign.Sign.TheVariants as sign
use Rattle.nx_ctree.specs.declared.sign.Signed.{Signed}
use Rattle.nx_cexpr.specs.Signs.{is_sign}
use Rattle.nx_cstmt.specs.Reading.{sign_at}

-- A token has this sign.
abbrev pub Is : Sign → Signed → Type 0
Is s t = t.sign ≡ s

-- A token with nothing but a sign.
abbrev pub bare : Sign → Signed
bare s = record { sign = s; text = []; line = 0 }

-- A test of a sign that it has passes.
pub signed : (s r : Sign) → s ≡ r → sameb the_type s r ≡ true
signed s r e = true_same the_type s r e

-- A test of a sign that it hasn't fails.
pub not_signed : (s r : Sign) → (s ≡ r → ⊥) → sameb the_type s r ≡ false
not_signed s r e = false_same the_type tt s r e

-- A test that passes says which sign.
pub sign_is : (s r : Sign) → sameb the_type s r ≡ true → s ≡ r
sign_is s r e = same_true the_type tt s r e

-- A test that fails says which sign it is not.
pub sign_is_not : (s r : Sign) → sameb the_type s r ≡ false → s ≡ r → ⊥
sign_is_not s r e = same_false the_type s r e

-- A token of the sign is read.
pub sign_law : (s : Sign) → Law (sign_at s) Any (Is s)
sign_law s = law_expect (is_sign s) (Is s) (bare s) (signed s s refl) refl

-- It is so within each limit.
pub sign_wider : (s : Sign) → Wider (sign_at s) (sign_at s)
sign_wider s = wider_expect (is_sign s)

-- A sign but the end's takes no end.
pub sign_spares : (s : Sign) → (s ≡ sign.End → ⊥) → Spares (Is sign.End) (sign_at s)
sign_spares s ne = spares_expect (Is sign.End) (is_sign s) (λ t e f. ne (sym (sign_is t.sign s e) ∙ f))

-- What was read is a token of the sign.
pub record FoundSign (s : Sign) (ts : List Signed) (t : Signed) (rest : List Signed) : Type 0 where
  pub is : ts ≡ t ∷ rest
  pub sign : t.sign ≡ s

pub found_sign : (s : Sign) (ts : List Signed) (t : Signed) (rest : List Signed) → sign_at s ts ≡ Ok (t, rest) → FoundSign s ts t rest
found_sign s ts t rest e = let f = found (is_sign s) ts t rest e in record { is = f.is; sign = sign_is t.sign s f.good }

-- A token of the sign is read from before the rest.
pub sign_on : (s : Sign) (t : Signed) (rest : List Signed) → t.sign ≡ s → sign_at s (t ∷ rest) ≡ Ok (t, rest)
sign_on s t rest e = expect_on (is_sign s) t rest (signed t.sign s e)

-- The reading of a condition's tokens against the grammar of its bytes.
use Rattle.std.proofs.Common.{◌≡◌, ℕ, ◌≤◌, List, length, sym, ◌∙◌, subst}
use Rattle.std.specs.Prelude.{Ok, Err}
use Rattle.nx_grammar.specs.declared.kind.Kind.{Kind}
use Rattle.nx_grammar.proofs.Results.{ok_same}
use Rattle.nx_conditions.specs.declared.token.Token.{Token}
use Rattle.nx_conditions.specs.declared.condition.Condition.{Condition}
use Rattle.nx_conditions.specs.declared.stop.ConditionStop.{ConditionStop}
use Rattle.nx_conditions.specs.declared.stop.ConditionStop.TheVariants as stop
use Rattle.nx_conditions.specs.Tokens.{AreTokensOf}
use Rattle.nx_conditions.specs.Grammar.{IsWhole, IsCondition}
use Rattle.nx_conditions.specs.Parsing.{condition_at}
use Rattle.nx_conditions.specs.Answers.{IsGiven}
use Rattle.nx_conditions.proofs.Sound.{condition_sound}
use Rattle.nx_conditions.proofs.Complete.{condition_complete}

-- What is read is the bytes' tree.
pub tree_read : (d : ℕ) (bytes : List ℕ) (ts : List Token) (a : Condition) (rest : List Token) → AreTokensOf bytes ts → condition_at d ts ≡ Ok (a, rest) → IsCondition bytes a
tree_read d bytes ts a rest s h = record { tokens = ts; spelled = s; read = condition_sound d ts a rest h }

-- The bytes' tree is that of the tokens that were given.
whole_of : (bytes : List ℕ) (ts : List Token) (a : Condition) → ((us : List Token) → AreTokensOf bytes us → ts ≡ us) → IsCondition bytes a → IsWhole ts a
whole_of bytes ts a one p = subst (λ us. IsWhole us a) (sym (one p.tokens p.spelled)) p.read

-- A tree that the bytes have is the one that is read.
pub tree_only : (d : ℕ) (bytes : List ℕ) (ts : List Token) (a b : Condition) (rest : List Token) → length ts ≤ d → ((us : List Token) → AreTokensOf bytes us → ts ≡ us) → condition_at d ts ≡ Ok (b, rest) → IsCondition bytes a → b ≡ a
tree_only d bytes ts a b rest l one h p =
    let k = condition_complete d (whole_of bytes ts a one p) l in
    (ok_same b a rest k.0 (sym h ∙ k.1)).0

-- Where the reading has a fault, the bytes have no tree.
pub tree_none : (d : ℕ) (bytes : List ℕ) (ts : List Token) (a : Condition) (kind : Kind) (rest : List Token) → length ts ≤ d → ((us : List Token) → AreTokensOf bytes us → ts ≡ us) → condition_at d ts ≡ Err (kind, rest) → IsCondition bytes a → ⊥
tree_none d bytes ts a kind rest l one h p = let yes = (condition_complete d (whole_of bytes ts a one p) l).1 in absurd cc

-- Where the bytes have no tokens, they have no tree.
pub no_tokens : (e : ConditionStop) (bytes : List ℕ) → ((us : List Token) → AreTokensOf bytes us → IsGiven {X = List Token} (Err e) us) → (a : Condition) → IsCondition bytes a → IsGiven {X = Condition} (Err e) a
no_tokens stop.Bad bytes none a p = none p.tokens p.spelled
no_tokens stop.Memory bytes none a p = tt

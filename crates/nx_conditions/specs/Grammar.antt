-- Which tokens are a condition, with which tree.
use Rattle.std.specs.Prelude.{ℕ, List, ◌∷◌}
use Rattle.nx_conditions.specs.declared.token.Token.{Token}
use Rattle.nx_conditions.specs.declared.token.Token.TheVariants as token
use Rattle.nx_conditions.specs.declared.token.Comparison.{Comparison}
use Rattle.nx_conditions.specs.declared.condition.Condition.{Condition}
use Rattle.nx_conditions.specs.declared.condition.Condition.TheVariants as condition
use Rattle.nx_conditions.specs.Tokens.{AreTokensOf}

-- Each relation is over the tokens, the tree and the tokens after it.
mutual
  -- A number, a name, whether a name is defined, a negation, or a condition in parentheses.
  pub data IsUnary : List Token → Condition → List Token → Type 0 where
    Number : (n : ℕ) (rest : List Token) → IsUnary (token.Number n ∷ rest) (condition.Number n) rest
    Name : (name : List ℕ) (rest : List Token) → IsUnary (token.Name name ∷ rest) (condition.Name name) rest
    Defined : (name : List ℕ) (rest : List Token) → IsUnary (token.Defined ∷ token.Open ∷ token.Name name ∷ token.Close ∷ rest) (condition.Defined name) rest
    Not : (ts : List Token) (a : Condition) (rest : List Token) → IsUnary ts a rest → IsUnary (token.Not ∷ ts) (condition.Not a) rest
    Group : (ts : List Token) (a : Condition) (rest : List Token) → IsDisjunction ts a (token.Close ∷ rest) → IsUnary (token.Open ∷ ts) a rest

  -- One unary, or two with a comparison between them.
  pub data IsComparison : List Token → Condition → List Token → Type 0 where
    Lone : (ts : List Token) (a : Condition) (rest : List Token) → IsUnary ts a rest → IsComparison ts a rest
    Compare : (by : Comparison) (ts us : List Token) (a b : Condition) (rest : List Token) → IsUnary ts a (token.Compare by ∷ us) → IsUnary us b rest → IsComparison ts (condition.Compare by a b) rest

  -- Comparisons with "&&" between them, from the left.
  pub data IsConjunction : List Token → Condition → List Token → Type 0 where
    Single : (ts : List Token) (a : Condition) (rest : List Token) → IsComparison ts a rest → IsConjunction ts a rest
    And : (ts us : List Token) (a b : Condition) (rest : List Token) → IsConjunction ts a (token.And ∷ us) → IsComparison us b rest → IsConjunction ts (condition.And a b) rest

  -- Conjunctions with "||" between them, from the left.
  pub data IsDisjunction : List Token → Condition → List Token → Type 0 where
    Whole : (ts : List Token) (a : Condition) (rest : List Token) → IsConjunction ts a rest → IsDisjunction ts a rest
    Or : (ts us : List Token) (a b : Condition) (rest : List Token) → IsDisjunction ts a (token.Or ∷ us) → IsConjunction us b rest → IsDisjunction ts (condition.Or a b) rest

-- No token before the end, which is always true, or a disjunction up to the end.
pub data IsWhole : List Token → Condition → Type 0 where
  Empty : (rest : List Token) → IsWhole (token.End ∷ rest) condition.Always
  Full : (ts : List Token) (a : Condition) (rest : List Token) → IsDisjunction ts a (token.End ∷ rest) → IsWhole ts a

-- The bytes of a condition with this tree.
pub record IsCondition (bytes : List ℕ) (a : Condition) : Type 0 where
  pub tokens : List Token
  pub spelled : AreTokensOf bytes tokens
  pub read : IsWhole tokens a

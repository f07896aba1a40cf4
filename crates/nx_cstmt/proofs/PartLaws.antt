-- What statements ask of the reading of their expressions.
use Rattle.std.proofs.Common.{◌≡◌, ℕ, suc, ◌+◌, ◌≤◌, List}
use Rattle.std.specs.Prelude.{Ok}
use Rattle.nx_grammar.specs.Reading.{Reading, Pick, Pass, Take, dispatch}
use Rattle.nx_grammar.specs.Lawful.{Heads, Any, Lives, Opens}
use Rattle.nx_grammar.specs.Growing.{PickGrown}
use Rattle.nx_grammar.specs.Sparing.{SparesPick}
use Rattle.nx_ctree.specs.declared.sign.Sign.TheVariants as sign
use Rattle.nx_ctree.specs.declared.sign.Signed.{Signed}
use Rattle.nx_ctree.specs.declared.expression.Expr.{Expr}
use Rattle.nx_ctree.specs.Statements.{IsPart}
use Rattle.nx_cstmt.proofs.Signs.{Is}

-- part d begins expressions of at most d nodes, which stop at the tokens of F.
pub record PartLives (part : ℕ → Signed → Pick Signed Expr) (F : Signed → Type 0) : Type 0 where
  pub takes : (d : ℕ) (t : Signed) (read : Reading Signed Expr) → part d t ≡ Take read → Lives read F Any
  pub passes : (d : ℕ) (t : Signed) (a : Expr) → part d t ≡ Pass a → ⊥
  pub opens : (d : ℕ) → Opens (dispatch (part (suc d))) F (Is sign.Number)
  pub semicolon : (t : Signed) → Is sign.Semicolon t → F t
  pub comma : (t : Signed) → Is sign.Comma t → F t
  pub close : (t : Signed) → Is sign.CloseParen t → F t

-- And what is read so are the grammar's expressions; a limit that is wider by the margin takes what the limit alone refused.
pub record Parts (part : ℕ → Signed → Pick Signed Expr) (F : Signed → Type 0) (margin : ℕ) : Type 0 where
  pub lives : PartLives part F
  pub sound : (d : ℕ) (ts : List Signed) (a : Expr) (rest : List Signed) → dispatch (part d) ts ≡ Ok (a, rest) → IsPart d ts a rest
  pub complete : (d : ℕ) (ts : List Signed) (a : Expr) (rest : List Signed) → IsPart d ts a rest → Heads F rest → dispatch (part d) ts ≡ Ok (a, rest)
  pub grown : (d e : ℕ) → d + margin ≤ e → (t : Signed) → PickGrown (part d t) (part e t)
  pub spares : (d : ℕ) (t : Signed) → SparesPick (Is sign.End) t (part d t)

-- What a reading says of the grammar.
use Rattle.std.specs.Prelude.{◌≡◌, ℕ, suc, ◌≤◌, List, [], Ok, Err}
use Rattle.nx_grammar.specs.declared.kind.Kind.{Kind}
use Rattle.nx_grammar.specs.Lawful.{Heads}
use Rattle.nx_grammar.specs.Faults.{IsFault, EndsIn}
use Rattle.nx_ctree.specs.declared.sign.Sign.TheVariants as sign
use Rattle.nx_ctree.specs.declared.sign.Signed.{Signed}
use Rattle.nx_ctree.specs.declared.expression.Expr.{Expr}
use Rattle.nx_ctree.specs.Expressions.{whole, IsExpr}
use Rattle.nx_cexpr.specs.declared.operand.Tall.{Tall}
use Rattle.nx_cexpr.specs.Signs.{Stops}
use Rattle.nx_cexpr.specs.Reading.{expr_at}

-- An expression stood before the rest, with this tree, and no path in it has more than d nodes.
pub record WasThere (d : ℕ) (ts : List Signed) (x : Tall) (rest : List Signed) : Type 0 where
  pub has : IsExpr whole ts x.expr x.height rest
  pub within : x.height ≤ d

-- What is read within d nodes was there.
abbrev pub ReadsWhatIsThere : Type 0
ReadsWhatIsThere = (d : ℕ) (ts : List Signed) (x : Tall) (rest : List Signed) → expr_at d ts ≡ Ok (x, rest) → WasThere d ts x rest

-- What was there within d nodes, before a token that stops a whole expression, is read.
abbrev pub ReadsAllThatIsThere : Type 0
ReadsAllThatIsThere = (d : ℕ) (ts : List Signed) (x : Tall) (rest : List Signed) → WasThere d ts x rest → Heads (Stops whole) rest → expr_at d ts ≡ Ok (x, rest)

-- Tokens that begin with an expression have one tree, and one place where it ends.
abbrev pub HasOneTree : Type 0
HasOneTree = (ts : List Signed) (a b : Expr) (h k : ℕ) (r s : List Signed) → IsExpr whole ts a h r → Heads (Stops whole) r → IsExpr whole ts b k s → Heads (Stops whole) s → (a ≡ b) × (h ≡ k) × (r ≡ s)

-- Expressions as a grammar with a limit: one with at most a node more stands before a token that goes on with none.
pub record HasExpr (limit : ℕ) (ts : List Signed) (x : Tall) : Type 0 where
  pub rest : List Signed
  pub there : WasThere (suc limit) ts x rest
  pub stops : Heads (Stops whole) rest

-- The token at the end of a text.
abbrev pub IsEnd : Signed → Type 0
IsEnd t = t.sign ≡ sign.End

abbrev pub last : Signed
last = record { sign = sign.End; text = []; line = 0 }

-- A text up to its end is refused at the first token that ends no beginning of an expression.
abbrev pub GoesWrongThere : Type 0
GoesWrongThere = (limit : ℕ) (ts : List Signed) (why : Kind) (rest : List Signed) → EndsIn IsEnd ts → expr_at (suc limit) ts ≡ Err (why, rest) → IsFault HasExpr limit ts why rest

-- What the answers of the functions that read statements say.
use Rattle.std.specs.Prelude.{◌<◌, ◌≤◌, ℕ, Bool, List, length, Result, IfOk}
use Rattle.std.specs.Borrow.{Bor}
use Rattle.nx_grammar.specs.Reading.{dispatch}
use Rattle.nx_ctree.specs.declared.sign.Signed.{Signed}
use Rattle.nx_ctree.specs.declared.expression.Expr.{Expr}
use Rattle.nx_ctree.specs.declared.statement.Stmt.{Stmt}
use Rattle.nx_cexpr.specs.declared.stop.ParseStop.{ParseStop}
use Rattle.nx_cexpr.specs.Answers.{Gives}
use Rattle.nx_cstmt.specs.Reading.{part_pick, stmt_at}

-- What a function returned that reads an expression of at most d nodes.
pub record PartIsRead (d : ℕ) (ts : List Signed) (r : Result (Expr × Bor (List Signed)) ParseStop) : Type 0 where
  pub gives : Gives (λ x. (x.0, x.1.now)) r (dispatch (part_pick d) ts)
  pub shorter : IfOk r (λ x. length x.1.now < length ts)

-- What is passed to read expressions reads each of at most so many nodes, up to 64.
pub record ReadsParts (pre : Bor (List Signed) → ℕ → Type 0) (post : Bor (List Signed) → ℕ → Result (Expr × Bor (List Signed)) ParseStop → Type 0) : Type 0 where
  pub callable : (ts : Bor (List Signed)) (d : ℕ) → d ≤ 64 → pre ts d
  pub reads : (ts : Bor (List Signed)) (d : ℕ) (r : Result (Expr × Bor (List Signed)) ParseStop) → d ≤ 64 → post ts d r → PartIsRead d ts.now r

-- What a function returned that reads a statement of at most d nodes deep, in a loop or not.
pub record IsRead (d : ℕ) (in_loop : Bool) (ts : List Signed) (r : Result (Stmt × Bor (List Signed)) ParseStop) : Type 0 where
  pub gives : Gives (λ x. (x.0, x.1.now)) r (stmt_at part_pick d in_loop ts)
  pub shorter : IfOk r (λ x. length x.1.now < length ts)

-- What is passed to read the statements in a statement reads each with at most d nodes.
pub record ReadsTo (pre : Bor (List Signed) → Bool → Type 0) (post : Bor (List Signed) → Bool → Result (Stmt × Bor (List Signed)) ParseStop → Type 0) (d : ℕ) : Type 0 where
  pub callable : (ts : Bor (List Signed)) (in_loop : Bool) → pre ts in_loop
  pub reads : (ts : Bor (List Signed)) (in_loop : Bool) (r : Result (Stmt × Bor (List Signed)) ParseStop) → post ts in_loop r → IsRead d in_loop ts.now r

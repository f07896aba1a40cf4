-- What reads the parts of an expression.
use Rattle.std.specs.Prelude.{◌<◌, ◌≤◌, ℕ, List, length, Result, IfOk}
use Rattle.std.specs.Borrow.{Bor}
use Rattle.nx_ctree.specs.declared.sign.Signed.{Signed}
use Rattle.nx_cexpr.specs.declared.stop.ParseStop.{ParseStop}
use Rattle.nx_cexpr.specs.declared.operand.Operand.{Operand}
use Rattle.nx_cexpr.specs.Answers.{Gives}
use Rattle.nx_cexpr.specs.Reading.{level_at}

-- What a function returned that reads an expression of level n with at most d nodes on a path.
pub record IsRead (d n : ℕ) (ts : List Signed) (r : Result (Operand × Bor (List Signed)) ParseStop) : Type 0 where
  pub gives : Gives (λ x. (x.0, x.1.now)) r (level_at d n ts)
  pub shorter : IfOk r (λ x. length x.1.now < length ts)
  pub within : IfOk r (λ x. x.0.height ≤ d)

-- What is passed to read the parts of an expression reads them with at most so many nodes on a path.
pub record ReadsTo (pre : Bor (List Signed) → ℕ → ℕ → Type 0) (post : Bor (List Signed) → ℕ → ℕ → Result (Operand × Bor (List Signed)) ParseStop → Type 0) (lower : ℕ) : Type 0 where
  pub callable : (ts : Bor (List Signed)) (d n : ℕ) → d ≤ lower → n ≤ 13 → pre ts d n
  pub reads : (ts : Bor (List Signed)) (d n : ℕ) (r : Result (Operand × Bor (List Signed)) ParseStop) → d ≤ lower → n ≤ 13 → post ts d n r → IsRead d n ts.now r

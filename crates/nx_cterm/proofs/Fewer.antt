-- Reading parts with fewer nodes on a path.
use Rattle.std.proofs.Common.{ℕ, ◌≤◌, List, arith}
use Rattle.std.specs.Borrow.{Bor}
use Rattle.std.specs.Prelude.{Result}
use Rattle.nx_ctree.specs.declared.sign.Signed.{Signed}
use Rattle.nx_cexpr.specs.declared.stop.ParseStop.{ParseStop}
use Rattle.nx_cexpr.specs.declared.operand.Operand.{Operand}
use Rattle.nx_cterm.specs.Readers.{ReadsTo}

-- What reads with at most so many nodes on a path reads with fewer.
pub reads_fewer : (pre : Bor (List Signed) → ℕ → ℕ → Type 0) (post : Bor (List Signed) → ℕ → ℕ → Result (Operand × Bor (List Signed)) ParseStop → Type 0) (d e : ℕ) → e ≤ d → ReadsTo pre post d → ReadsTo pre post e
reads_fewer pre post d e l r = record {
  callable = λ ts k n h m. r.callable ts k n (omega (arith, h, l)) m;
  reads = λ ts k n x h m p. r.reads ts k n x (omega (arith, h, l)) m p;
}

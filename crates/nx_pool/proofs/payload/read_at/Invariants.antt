use Rattle.std.proofs.Common.{◌≡◌, ◌<◌, ◌+◌, ◌/◌, ℕ, get_or}
use Rattle.std.specs.Prelude.{slice_index}
use Rattle.nx_pool.specs.Chains.{block_at, content_of}
use Rattle.nx_pool.proofs.payload.read_at.Given as goal

abbrev pub invariant-loop-byte : goal.invariant-loop-byte
invariant-loop-byte l = record {
  read : (k : ℕ) → k < l.byte-index → get_or l.into k 0 ≡ slice_index (content_of l.bytes l.index.next.items l.chain) (l.at + k);
  block : l.block ≡ block_at l.index.next.items l.chain.first (l.place / 64);
  place : l.place ≡ l.at + l.byte-index;
}

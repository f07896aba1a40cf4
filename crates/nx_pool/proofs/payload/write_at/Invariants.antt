use Rattle.std.proofs.Common.{◌≡◌, ◌+◌, ◌*◌, ◌/◌, length, drop, List, ℕ}
use Rattle.nx_base.specs.ByteLists.{put_bytes}
use Rattle.nx_pool.specs.Chains.{block_at, content_of, AreApart}
use Rattle.nx_pool.specs.Effects.{Becomes}
use Rattle.nx_pool.proofs.payload.write_at.Given as goal

abbrev pub invariant-loop-byte : goal.invariant-loop-byte
invariant-loop-byte l = record {
  becomes : (free : List ℕ) → Becomes (AreApart l.index.next.items free) (AreApart l.index.next.items free) (content_of l.fn.bytes l.index.next.items) (content_of l.bytes l.index.next.items) l.chain l.chain (content_of l.bytes l.index.next.items l.chain);
  rest : put_bytes (content_of l.bytes l.index.next.items l.chain) (l.at + l.byte-index) (drop l.byte-index l.from) ≡ put_bytes (content_of l.fn.bytes l.index.next.items l.chain) l.at l.from;
  block : l.block ≡ block_at l.index.next.items l.chain.first (l.place / 64);
  place : l.place ≡ l.at + l.byte-index;
  whole : length l.bytes ≡ 64 * length l.index.next.items;
}

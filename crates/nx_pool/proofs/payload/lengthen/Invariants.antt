use Rattle.std.proofs.Common.{◌≡◌, ◌≤◌, ◌<◌, ◌+◌, ◌-◌, ◌/◌, ◌*◌, ◌++◌, length, vec_len, replicate}
use Rattle.nx_pool.specs.Chains.{blocks_for, block_at, content_of, IsApart, AreApart}
use Rattle.nx_pool.specs.Effects.{Becomes}
use Rattle.nx_pool.proofs.payload.lengthen.Given as goal

abbrev pub invariant-loop-chain : goal.invariant-loop-chain
invariant-loop-chain l = record {
  becomes : Becomes (AreApart l.fn.index.next.items l.fn.index.free.items) (AreApart l.index.next.items l.index.free.items) (content_of l.fn.bytes l.fn.index.next.items) (content_of l.bytes l.index.next.items) l.fn.chain l.chain (content_of l.fn.bytes l.fn.index.next.items l.fn.chain ++ replicate (l.chain.bytes - l.fn.chain.bytes) 0);
  apart : IsApart l.index.next.items l.index.free.items l.chain;
  whole : length l.bytes ≡ 64 * length l.index.next.items;
  blocks : length l.index.next.items ≡ length l.fn.index.next.items;
  longer : l.fn.chain.bytes ≤ l.chain.bytes;
  short : l.chain.bytes ≤ l.size;
  last : 0 < l.chain.bytes → l.last ≡ block_at l.index.next.items l.chain.first ((l.chain.bytes - 1) / 64);
  room : vec_len l.index.free + blocks_for l.chain.bytes ≡ vec_len l.fn.index.free + blocks_for l.fn.chain.bytes;
}

abbrev pub decreases-loop-chain : goal.decreases-loop-chain
decreases-loop-chain l = l.size - l.chain.bytes

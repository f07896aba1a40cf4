use Rattle.std.proofs.Common.{arith}
use Rattle.nx_pool.proofs.LinkLemmas.{held_is_apart, apart_inside}
use Rattle.nx_pool.proofs.StoreLemmas.{given, free_after, room_of}
use Rattle.nx_pool.proofs.pool_index.PoolIndex.release.Goals as goal

pub push_chain-requires-clause-inside : goal.push_chain-requires-clause-inside
push_chain-requires-clause-inside c =
    let s = c.args.self.now in
    rw c.as_slice.ensures.value (λ k l. apart_inside s.next.items s.free.items c.args.chain (held_is_apart s.next.items s.free.items c.args.chain c.requires) k (omega (arith, c.block_count-count.ensures)))

pub push_chain-requires-clause-room : goal.push_chain-requires-clause-room
push_chain-requires-clause-room c =
    let s = c.args.self.now in
    let r = room_of s.next.items s.free.items c.args.chain c.requires in
    omega (arith, c.block_count-count.ensures, s.free.ok.0, s.next.ok.0, s.room)

pub invariant_of-self : goal.invariant_of-self
invariant_of-self c =
    let s = c.args.self.now in
    let r = room_of s.next.items s.free.items c.args.chain c.requires in
    record {
      room = omega (arith, s.room, c.push_chain.ensures.capacity);
      small = s.small;
      fewer = omega (arith, c.block_count-count.ensures, s.free.ok.0, s.next.ok.0, c.push_chain.ensures.long);
      once = free_after s.next.items s.free.items c.push_chain.new.free.items c.args.chain c.requires (rw (c.as_slice.ensures.value, c.block_count-count.ensures) at c.push_chain.ensures.count);
    }

pub returns-clause-gone : goal.returns-clause-gone
returns-clause-gone c = λ content.
    let s = c.args.self.now in
    let count = rw (c.as_slice.ensures.value, c.block_count-count.ensures) at c.push_chain.ensures.count in
    given s.next.items _ _ content c.args.chain count (omega (arith, c.block_count-count.ensures, c.push_chain.new.free.ok.0, s.free.ok.0, c.push_chain.ensures.long))

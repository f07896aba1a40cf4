use Rattle.std.proofs.Common.{◌<◌, arith, rules}
use Rattle.std.proofs.lemmas.List.{length-set}
use Rattle.nx_pool.proofs.GrowthLemmas.{inside_becomes, first_becomes, first_apart, first_last, after_becomes, after_apart, after_last, popped, popped_inside, last_inside}
use Rattle.nx_pool.proofs.StoreLemmas.{free_of_apart}
use Rattle.nx_pool.proofs.pool_index.PoolIndex.extend.Goals as goal

-- in the last block

pub returns-then-chain-ne0-clause-becomes : goal.returns-then-chain-ne0-clause-becomes
returns-then-chain-ne0-clause-becomes c = λ bytes whole.
    let part = c.if-chain-ne0.true in
    inside_becomes c.args.self.now.next.items c.args.self.now.free.items bytes c.args.last c.args.chain.now whole c.requires.apart part (c.requires.last (omega arith))

pub returns-then-chain-ne0-clause-inside : goal.returns-then-chain-ne0-clause-inside
returns-then-chain-ne0-clause-inside c =
    let part = c.if-chain-ne0.true in
    let some : 0 < c.args.chain.now.bytes = omega arith in
    last_inside c.args.self.now.next.items c.args.self.now.free.items c.args.last c.args.chain.now c.requires.apart some (c.requires.last some)

-- the first block

pub invariant_of-self : goal.invariant_of-self
invariant_of-self c =
    let s = c.args.self.now in
    let pop = popped _ _ _ _ c.pop.ensures.items c.unwrap-block.ensures in
    record {
      room = search rules;
      small = s.small;
      fewer = search rules;
      once = free_of_apart _ _ _ (first_apart s.next.items s.free.items c.pop.new.self.items c.unwrap-block.result c.args.chain.now c.requires.apart c.if-chain-eq0.true pop);
    }

pub returns-then-chain-eq0-clause-becomes : goal.returns-then-chain-eq0-clause-becomes
returns-then-chain-eq0-clause-becomes c = λ bytes whole.
    first_becomes c.args.self.now.next.items c.args.self.now.free.items c.pop.new.self.items bytes c.unwrap-block.result c.args.chain.now whole c.requires.apart c.if-chain-eq0.true (popped _ _ _ _ c.pop.ensures.items c.unwrap-block.ensures)

pub returns-then-chain-eq0-clause-apart : goal.returns-then-chain-eq0-clause-apart
returns-then-chain-eq0-clause-apart c =
    first_apart c.args.self.now.next.items c.args.self.now.free.items c.pop.new.self.items c.unwrap-block.result c.args.chain.now c.requires.apart c.if-chain-eq0.true (popped _ _ _ _ c.pop.ensures.items c.unwrap-block.ensures)

pub returns-then-chain-eq0-clause-inside : goal.returns-then-chain-eq0-clause-inside
returns-then-chain-eq0-clause-inside c =
    popped_inside c.args.self.now.next.items c.args.self.now.free.items c.pop.new.self.items c.unwrap-block.result c.args.chain.now c.requires.apart (popped _ _ _ _ c.pop.ensures.items c.unwrap-block.ensures)

pub returns-then-chain-eq0-clause-last : goal.returns-then-chain-eq0-clause-last
returns-then-chain-eq0-clause-last c = first_last c.args.self.now.next.items c.unwrap-block.result c.args.chain.now.bytes c.if-chain-eq0.true

-- one more block after the last one

pub index_mut-requires : goal.index_mut-requires
index_mut-requires c =
    let s = c.args.self.now in
    let more = c.if-chain-eq0.false in
    let some : 0 < c.args.chain.now.bytes = omega arith in
    omega (arith, s.next.ok.0, last_inside s.next.items s.free.items c.args.last c.args.chain.now c.requires.apart some (c.requires.last some))

pub invariant_of-self-2 : goal.invariant_of-self-2
invariant_of-self-2 c =
    let s = c.args.self.now in
    let more = c.if-chain-eq0.false in
    let full = c.if-chain-ne0.false in
    let some : 0 < c.args.chain.now.bytes = omega arith in
    let pop = popped _ _ _ _ c.pop.ensures.items c.unwrap-block.ensures in
    record {
      room = search rules;
      small = s.small;
      fewer = search rules;
      once = free_of_apart _ _ _ (after_apart s.next.items s.free.items c.pop.new.self.items c.unwrap-block.result c.args.last c.args.chain.now c.requires.apart full some (c.requires.last some) pop);
    }

pub returns-clause-becomes : goal.returns-clause-becomes
returns-clause-becomes c = λ bytes whole.
    let s = c.args.self.now in
    let more = c.if-chain-eq0.false in
    let some : 0 < c.args.chain.now.bytes = omega arith in
    after_becomes s.next.items s.free.items c.pop.new.self.items bytes c.unwrap-block.result c.args.last c.args.chain.now whole c.requires.apart c.if-chain-ne0.false some (c.requires.last some) (popped _ _ _ _ c.pop.ensures.items c.unwrap-block.ensures)

pub returns-clause-apart : goal.returns-clause-apart
returns-clause-apart c =
    let s = c.args.self.now in
    let more = c.if-chain-eq0.false in
    let some : 0 < c.args.chain.now.bytes = omega arith in
    after_apart s.next.items s.free.items c.pop.new.self.items c.unwrap-block.result c.args.last c.args.chain.now c.requires.apart c.if-chain-ne0.false some (c.requires.last some) (popped _ _ _ _ c.pop.ensures.items c.unwrap-block.ensures)

pub returns-clause-inside : goal.returns-clause-inside
returns-clause-inside c =
    let s = c.args.self.now in
    rw length-set (popped_inside s.next.items s.free.items c.pop.new.self.items c.unwrap-block.result c.args.chain.now c.requires.apart (popped _ _ _ _ c.pop.ensures.items c.unwrap-block.ensures))

pub returns-clause-last : goal.returns-clause-last
returns-clause-last c =
    let s = c.args.self.now in
    let more = c.if-chain-eq0.false in
    let some : 0 < c.args.chain.now.bytes = omega arith in
    after_last s.next.items s.free.items c.unwrap-block.result c.args.last c.args.chain.now c.requires.apart c.if-chain-ne0.false some (c.requires.last some)

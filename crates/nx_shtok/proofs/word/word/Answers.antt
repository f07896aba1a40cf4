use Rattle.std.proofs.Common.{refl, arith}
use Rattle.nx_shtok.proofs.Progress.{word_first, word_whole, word_ends, word_broken}
use Rattle.nx_shtok.proofs.word.word.Goals as goal

pub loop-begun-init : goal.loop-begun-init
loop-begun-init c = word_first c.args.bytes.now _ c.new.ensures refl refl

pub take-requires : goal.take-requires
take-requires c = omega (arith, c.loop-begun.invariant.few, c.requires)

pub loop-begun-preserved : goal.loop-begun-preserved
loop-begun-preserved c = let s = rw c.in-Goes.is at c.in_ok-step.ensures in s.follows c.args.bytes.now c.loop-begun.invariant

pub loop-begun-smaller : goal.loop-begun-smaller
loop-begun-smaller c = let s = rw c.in-Goes.is at c.in_ok-step.ensures in s.less

pub returns-in-Broken-clause-gives : goal.returns-in-Broken-clause-gives
returns-in-Broken-clause-gives c = word_broken c.args.bytes.now c.loop-begun.begun c.loop-begun.rest.now c.in-Broken.kind c.loop-begun.invariant (rw c.in-Broken.is at c.in_ok-step.ensures)

pub returns-in-Over-clause-gives : goal.returns-in-Over-clause-gives
returns-in-Over-clause-gives c =
    word_whole c.args.bytes.now c.loop-begun.begun c.take.new.self c.loop-begun.rest.now c.in-Over.after.now c.loop-begun.invariant (rw c.in-Over.is at c.in_ok-step.ensures)

pub returns-in-Over-clause-left : goal.returns-in-Over-clause-left
returns-in-Over-clause-left c =
    word_ends c.args.bytes.now c.loop-begun.begun c.take.new.self c.loop-begun.rest.now c.in-Over.after.now c.loop-begun.invariant (rw c.in-Over.is at c.in_ok-step.ensures)

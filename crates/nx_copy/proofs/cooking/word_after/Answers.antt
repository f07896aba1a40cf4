use Rattle.std.proofs.Common.{arith}
use Rattle.nx_copy.proofs.Inputs.{word_next, word_last}
use Rattle.nx_copy.proofs.cooking.word_after.Goals as goal

pub returns-then-place-kinds : goal.returns-then-place-kinds
returns-then-place-kinds c = word_next c.args.regs.now c.args.kinds.now c.args.place c.get.result _ c.if-place-kinds.true c.get.ensures (omega arith)

pub returns-else-place-kinds : goal.returns-else-place-kinds
returns-else-place-kinds c = word_last c.args.regs.now c.args.kinds.now c.args.place c.requires.place (omega (arith, c.if-place-kinds.false))

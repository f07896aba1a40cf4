use Rattle.std.proofs.Common.{◌≡◌, ◌+◌, suc, length, ap, ◌∙◌, arith}
use Rattle.nx_shrun.specs.Rooms.{HeldSteps}
use Rattle.nx_shstep.proofs.Weights.{abandon_more}
use Rattle.nx_shstep.proofs.going.put_abandons.Goals as goal

pub loop-preserved : goal.loop-preserved
loop-preserved c = record {
  steps = λ fds e. ap (λ (s : HeldSteps). s.steps) c.push.ensures ∙ abandon_more c.loop.todo.steps c.loop.counter c.loop.invariant.steps fds e;
  room = ap (λ (s : HeldSteps). s.room) c.push.ensures ∙ c.loop.invariant.room;
  long = let more : suc (length c.loop.todo.steps) ≡ c.loop.counter + 1 = omega (arith, c.loop.invariant.long) in ap (λ (s : HeldSteps). length s.steps) c.push.ensures ∙ more;
}

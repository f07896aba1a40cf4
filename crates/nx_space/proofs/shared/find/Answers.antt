use Rattle.std.proofs.Common.{arith}
use Rattle.nx_space.proofs.Sharings.{place_here, place_later, place_none}
use Rattle.nx_space.proofs.shared.find.Goals as goal

pub returns-then-live-i : goal.returns-then-live-i
returns-then-live-i c = omega (arith, c.loop-i.invariant, place_here c.args.live.now c.loop-i.i c.args.number _ c.loop-i-test.true c.if-live-i.true)

pub loop-i-preserved : goal.loop-i-preserved
loop-i-preserved c = omega (arith, c.loop-i.invariant, place_later c.args.live.now c.loop-i.i c.args.number _ c.loop-i-test.true c.if-live-i.false)

pub returns : goal.returns
returns c = omega (arith, c.loop-i.invariant, place_none c.args.live.now c.loop-i.i c.args.number c.loop-i-test.false, c.loop-i-test.false, c.loop-i.auto.i-end)

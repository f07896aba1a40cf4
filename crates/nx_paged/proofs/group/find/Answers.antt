use Rattle.std.proofs.Common.{◌∙◌, sym, ap, arith}
use Rattle.nx_paged.proofs.Numbers.{place_here, place_later, place_none}
use Rattle.nx_paged.proofs.group.find.Goals as goal

pub returns-then-number : goal.returns-then-number
returns-then-number c =
    omega (arith, c.loop-i.invariant, place_here c.args.groups.now c.loop-i.i c.args.number c.index-groups-i.result c.loop-i-test.true (ap (λ t. t.number) (sym c.index-groups-i.is) ∙ sym c.number.ensures ∙ c.if-number.true))

pub loop-i-preserved : goal.loop-i-preserved
loop-i-preserved c =
    omega (arith, c.loop-i.invariant, place_later c.args.groups.now c.loop-i.i c.args.number c.index-groups-i.result c.loop-i-test.true (λ q. c.if-number.false (c.number.ensures ∙ ap (λ t. t.number) c.index-groups-i.is ∙ q)))

pub returns : goal.returns
returns c = omega (arith, c.loop-i.invariant, place_none c.args.groups.now c.loop-i.i c.args.number c.loop-i-test.false, c.loop-i-test.false, c.loop-i.auto.i-end)

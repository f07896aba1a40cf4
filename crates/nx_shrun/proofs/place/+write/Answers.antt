use Rattle.std.proofs.Common.{◌≡◌, ◌<◌, ◌+◌, ◌-◌, ℕ, length, get_or, sym, ap, ◌∙◌, subst, arith}
use Rattle.nx_shrun.proofs.Grown.{coded_step, loop_keeps, kept_both}
use Rattle.nx_shrun.proofs.Arms.{arm_if, arm_if_else, arm_while, arm_until, item_at_place}
use Rattle.nx_shrun.proofs.place.+write.Goals as goal

pub write_item-returns-in_ok-here-in-If-clause-here : goal.write_item-returns-in_ok-here-in-If-clause-here
write_item-returns-in_ok-here-in-If-clause-here t c =
    arm_if c.args.item.now _ _ _ _ _ _ _ c.in-If.is c.in_ok-x-in-If.ensures.here c.in_ok-here-in-If.ensures.keeps c.in_ok-here-in-If.ensures.here

pub write_item-returns-in_ok-here-in-IfElse-clause-here : goal.write_item-returns-in_ok-here-in-IfElse-clause-here
write_item-returns-in_ok-here-in-IfElse-clause-here t c =
    arm_if_else c.args.item.now _ _ _ _ _ _ _ _ _ _ c.in-IfElse.is c.in_ok-x-in-IfElse.ensures.here c.in_ok-y-in-IfElse.ensures.keeps c.in_ok-y-in-IfElse.ensures.here c.in_ok-here-in-IfElse.ensures.keeps c.in_ok-here-in-IfElse.ensures.here

pub write_item-returns-in_ok-x-in-While-clause-here : goal.write_item-returns-in_ok-x-in-While-clause-here
write_item-returns-in_ok-x-in-While-clause-here t c =
    arm_while c.args.item.now _ _ _ _ _ _ _ _ _ c.in-While.is c.in_ok-here-in-While.ensures.nodes c.in_ok-here-in-While.ensures.here.0 c.in_ok-x-in-While.ensures.keeps c.in_ok-x-in-While.ensures.here c.fill.ensures

pub write_item-returns-in_ok-x-in-While-clause-keeps : goal.write_item-returns-in_ok-x-in-While-clause-keeps
write_item-returns-in_ok-x-in-While-clause-keeps t c =
    loop_keeps _ _ _ _ _ _ c.in_ok-here-in-While.ensures.nodes c.in_ok-here-in-While.ensures.here.0 c.in_ok-x-in-While.ensures.keeps c.fill.ensures

pub write_item-returns-in_ok-x-in-Until-clause-here : goal.write_item-returns-in_ok-x-in-Until-clause-here
write_item-returns-in_ok-x-in-Until-clause-here t c =
    arm_until c.args.item.now _ _ _ _ _ _ _ _ _ c.in-Until.is c.in_ok-here-in-Until.ensures.nodes c.in_ok-here-in-Until.ensures.here.0 c.in_ok-x-in-Until.ensures.keeps c.in_ok-x-in-Until.ensures.here c.fill-in-Until.ensures

pub write_item-returns-in_ok-x-in-Until-clause-keeps : goal.write_item-returns-in_ok-x-in-Until-clause-keeps
write_item-returns-in_ok-x-in-Until-clause-keeps t c =
    loop_keeps _ _ _ _ _ _ c.in_ok-here-in-Until.ensures.nodes c.in_ok-here-in-Until.ensures.here.0 c.in_ok-x-in-Until.ensures.keeps c.fill-in-Until.ensures

pub write_list-loop-left-preserved : goal.write_list-loop-left-preserved
write_list-loop-left-preserved t c =
    let at = c.loop-left.left - 1 in
    let long : length c.as_slice-items.result.now ≡ length c.args.list.now = ap length c.loop-left.invariant.same in
    let inside : at < length c.args.list.now = omega (arith, c.loop-left.invariant.within, c.loop-left-test.true, long) in
    let next : c.loop-left.left ≡ at + 1 = omega (arith, c.loop-left-test.true) in
    record {
      within = omega (arith, c.loop-left.invariant.within);
      same = c.loop-left.invariant.same;
      coded = coded_step _ _ c.args.list.now at c.loop-left.left c.index-items-left.result _ _ _ next
          (item_at_place c.args.list.now at c.index-items-left.result inside (c.index-items-left.is ∙ ap (λ xs. get_or xs at c.index-items-left.result) c.loop-left.invariant.same))
          c.loop-left.invariant.coded c.in_ok-next.ensures.keeps c.in_ok-next.ensures.here;
      keeps = kept_both c.loop-left.invariant.keeps c.in_ok-next.ensures.keeps;
    }

use Rattle.std.proofs.Common.{map, sym, ap, ◌∙◌, arith}
use Rattle.nx_grammar.specs.Reading.{bind, loop}
use Rattle.nx_shtree.specs.Trees.{item_of}
use Rattle.nx_shtree.specs.Reading.{list_pick, reserved_pick}
use Rattle.nx_shtree.proofs.Rounds.{fails_on, closed_empty, closed_full}
use Rattle.nx_shtree.proofs.ListRounds.{lists_more, lists_over}
use Rattle.nx_shtree.proofs.list.+list.Goals as goal

pub list-returns-in-Err-clause-gives : goal.list-returns-in-Err-clause-gives
list-returns-in-Err-clause-gives t c =
    fails_on c.in-Err.stop _ _ _ (sym c.loop-first.invariant.same ∙ lists_more c.args.limit c.args.depth c.requires.within (map item_of c.loop-first.items) c.in-Some.first.now c.loop-first.rest.now c.in-Some.others.now (sym c.in-Some.ensures.gives)) c.in-Err.ensures.gives

pub list-loop-first-preserved : goal.list-loop-first-preserved
list-loop-first-preserved t c =
    let m = c.args.limit in
    let d = c.args.depth in
    record {
      same = sym (lists_more m d c.requires.within (map item_of c.loop-first.items) c.in-Some.first.now c.loop-first.rest.now c.in-Some.others.now (sym c.in-Some.ensures.gives) ∙ ap (λ o. bind o (loop (list_pick m (reserved_pick m d)))) c.in-Ok.ensures.gives) ∙ c.loop-first.invariant.same;
      fewer = omega (arith, c.in-Ok.ensures.shorter, c.in-Some.ensures.shorter, c.loop-first.invariant.fewer);
    }

pub list-returns-in-empty-clause-gives : goal.list-returns-in-empty-clause-gives
list-returns-in-empty-clause-gives t c =
    sym c.loop-first.invariant.same ∙ lists_over c.args.limit c.args.depth c.requires.within (map item_of c.loop-first.items) c.loop-first.rest.now (sym c.in_default.ensures.gives) ∙ closed_empty (map item_of c.loop-first.items) c.loop-first.rest.now (omega (arith, c.in-empty.len_below))

pub list-returns-clause-gives : goal.list-returns-clause-gives
list-returns-clause-gives t c =
    sym c.loop-first.invariant.same ∙ lists_over c.args.limit c.args.depth c.requires.within (map item_of c.loop-first.items) c.loop-first.rest.now (sym c.in_default.ensures.gives) ∙ closed_full (map item_of c.loop-first.items) c.loop-first.rest.now (omega (arith, c.in_default-rest.len_at_least))

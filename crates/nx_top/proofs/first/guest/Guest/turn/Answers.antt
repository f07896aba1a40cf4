use Rattle.std.proofs.Common.{◌∙◌, ap, arith, sym, subst}
use Rattle.nx_base.specs.Views.{View}
use Rattle.nx_rv.specs.Execution.{Call}
use Rattle.nx_space.specs.World.{World, IsEntered, view_in}
use Rattle.nx_space.proofs.Stays.{entered_stays}
use Rattle.nx_top.specs.first.ExpectedRuns.{LiesAt}
use Rattle.nx_top.proofs.first_path.GuestLemmas.{Writes, Ends, next_of}
use Rattle.nx_top.proofs.first_path.TurnLemmas.{for_each_plan, after_write, after_end, no_call}
use Rattle.nx_top.proofs.first.guest.Guest.turn.Goals as goal

pub answer-requires-clause-entered : goal.answer-requires-clause-entered
answer-requires-clause-entered g c = entered_stays _ _ c.run.ensures.only c.requires.entered

pub returns-in-Call-clause-entered : goal.returns-in-Call-clause-entered
returns-in-Call-clause-entered g c = subst (λ (w : World). IsEntered w) (sym c.answer.ensures.same) (entered_stays _ _ c.run.ensures.only c.requires.entered)

pub returns-in-Trap-clause-entered : goal.returns-in-Trap-clause-entered
returns-in-Trap-clause-entered g c = entered_stays _ _ c.run.ensures.only c.requires.entered

pub returns-in-Call-clause-planned : goal.returns-in-Call-clause-planned
returns-in-Call-clause-planned g c = for_each_plan _ _ _ _ (λ expected_run within remains.
    let ran = c.in-Call.ensures in
    let comes = next_of expected_run _ c.run.new.self _ (view_in (g.S.Space.world c.run.new.space)) _ _ _ _ c.run.new.count.used _ Call c.requires.room.1 (ran.within c.requires.room.1) ran.limit within ran.stretch remains in
    let same = ap view_in c.answer.ensures.same ∙ comes.view in
    elim comes.next [
      | Writes string at a b d e fits lies rest ↦ after_write _ expected_run _ _ _ _ string same (c.answer.ensures.writes string at a b d e fits (subst (λ (v : View). LiesAt v string at) (sym comes.view) lies)) rest
      | Ends a b done ↦ after_end _ expected_run _ _ _ _ (omega (arith, b, within.small)) (c.answer.ensures.ends a) done
    ])

pub returns-in-Trap-clause-made : goal.returns-in-Trap-clause-made
returns-in-Trap-clause-made g c = λ e. absurd cc

pub returns-in-Trap-clause-planned : goal.returns-in-Trap-clause-planned
returns-in-Trap-clause-planned g c = λ expected_run within remains.
    let ran = c.run.ensures in
    let comes = next_of expected_run _ c.run.new.self _ (view_in (g.S.Space.world c.run.new.space)) _ _ _ _ c.run.new.count.used _ _ c.requires.room.1 (ran.within c.requires.room.1) ran.limit within ran.stretch remains in
    no_call c.run.result c.in-Trap.is comes.halt

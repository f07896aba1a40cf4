use Rattle.std.proofs.Common.{subst, Option}
use Rattle.nx_top.specs.declared.first.guest.GuestRun.{GuestRun}
use Rattle.nx_top.specs.first.ExpectedRuns.{RanAs}
use Rattle.nx_top.proofs.first_path.ExpectedLemmas.{expected_of, ran_as_expected, run_of, text_fits}
use Rattle.nx_top.proofs.first_path.KeepsProgram.{keeps}
use Rattle.nx_top.proofs.first.run_program.run_image.Goals as goal

pub boot-requires-clause-short : goal.boot-requires-clause-short
boot-requires-clause-short c = text_fits c.requires.compiled.0 c.args.image c.requires.compiled.1 c.requires.compiled.2

pub unreachable-requires : goal.unreachable-requires
unreachable-requires c =
    let p = c.requires.compiled in
    let saw = c.in_ok-space.ensures.sees in
    let expected_run = expected_of p.0 (keeps p.0 c.args.image p.1 p.2).places in
    let went = ran_as_expected p.0 c.args.image saw.0 p.1 p.2 _ _ _ saw.1 c.in_ok-space.ensures.regs saw.2 c.in_ok-run.ensures in
    subst (λ (o : Option GuestRun). RanAs expected_run o) c.in-None.is went

pub returns : goal.returns
returns c = λ p fits compiled.
    let saw = c.in_ok-space.ensures.sees in
    let expected_run = expected_of p (keeps p c.args.image fits compiled).places in
    let went = ran_as_expected p c.args.image saw.0 fits compiled _ _ _ saw.1 c.in_ok-space.ensures.regs saw.2 c.in_ok-run.ensures in
    run_of p c.args.image saw.0 _ c.in-Some.run' saw.1 (subst (λ (o : Option GuestRun). RanAs expected_run o) c.in-Some.is went)

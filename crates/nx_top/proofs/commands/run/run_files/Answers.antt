use Rattle.std.proofs.Common.{refl, subst, MatchOption, Option}
use Rattle.nx_top.specs.first.Inputs.{HasProgram}
use Rattle.nx_top.specs.first.Program.{Program}
use Rattle.nx_top.proofs.Listings.{comes_to}
use Rattle.nx_top.proofs.Runs.{no_config, no_calls, no_program, no_script, ran}
use Rattle.nx_top.proofs.commands.run.run_files.Goals as goal

pub returns-then-not-has_config : goal.returns-then-not-has_config
returns-then-not-has_config c = comes_to c.not_built.result _ _ _ (no_config _ _ _ _ _ (λ h. let no = c.if-not-has_config.ensures.1 h in cc)) c.not_built.ensures

pub returns-then-not-has_calls : goal.returns-then-not-has_calls
returns-then-not-has_calls c =
    comes_to c.not_built-then-not-has_calls.result _ _ _ (no_calls _ _ _ _ _ (c.if-not-has_config.ensures.0 refl) (λ h. let no = c.if-not-has_calls.ensures.1 h in cc)) c.not_built-then-not-has_calls.ensures

pub returns-in-None : goal.returns-in-None
returns-in-None c =
    let none = subst (λ (o : Option Program). MatchOption o ((p : Program) → ¬ HasProgram c.args.program.now p) (λ p. HasProgram c.args.program.now p)) c.in-None.is c.in_ok-program_of.ensures in
    comes_to c.not_built-in-None.result _ _ _ (no_program _ _ _ _ _ (c.if-not-has_config.ensures.0 refl) (c.if-not-has_calls.ensures.0 refl) none) c.not_built-in-None.ensures

pub returns-then-not-has_script : goal.returns-then-not-has_script
returns-then-not-has_script c =
    let some = subst (λ (o : Option Program). MatchOption o ((p : Program) → ¬ HasProgram c.args.program.now p) (λ p. HasProgram c.args.program.now p)) c.in-Some.is c.in_ok-program_of.ensures in
    comes_to c.not_built-then-not-has_script.result _ _ _ (no_script _ _ _ _ _ c.in-Some.program (c.if-not-has_config.ensures.0 refl) (c.if-not-has_calls.ensures.0 refl) some (λ h. let no = c.if-not-has_script.ensures.1 h in cc)) c.not_built-then-not-has_script.ensures

pub returns-else-not-has_script : goal.returns-else-not-has_script
returns-else-not-has_script c =
    let some = subst (λ (o : Option Program). MatchOption o ((p : Program) → ¬ HasProgram c.args.program.now p) (λ p. HasProgram c.args.program.now p)) c.in-Some.is c.in_ok-program_of.ensures in
    ran c.report_answer.result _ _ _ _ _ c.in-Some.program (c.if-not-has_config.ensures.0 refl) (c.if-not-has_calls.ensures.0 refl) some (c.if-not-has_script.ensures.0 refl) c.report_answer.ensures

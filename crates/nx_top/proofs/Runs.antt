-- What the files of a run come to.
use Rattle.std.proofs.Common.{◌≡◌, ℕ, List, [], ◌∷◌, Option, Result, Ok, Err, IfOk, inl, inr, refl, ap, ◌∙◌}
use Rattle.nx_base.specs.declared.out_of_memory.OutOfMemory.{OutOfMemory}
use Rattle.nx_top.specs.declared.answer.Answer.{Answer}
use Rattle.nx_top.specs.declared.answer.Answer.TheVariants.{Done, NotBuilt}
use Rattle.nx_top.specs.declared.report.Report.{Report}
use Rattle.nx_top.specs.CommandLine.{RunForm, Run}
use Rattle.nx_top.specs.Promises.{ContentsComeTo, Refused, Answered}
use Rattle.nx_top.specs.Report.{stop_status, report_pieces}
use Rattle.nx_top.specs.commands.RunCommand.{IsReportAnswer}
use Rattle.nx_top.specs.first.Inputs.{IsConfig, IsCalls, IsScript, HasProgram}
use Rattle.nx_top.specs.first.Program.{Program}

pub report_put : (report : Report) (status : ℕ) (pieces : List (List ℕ)) → status ≡ stop_status report.stop → pieces ≡ report_pieces report → Done status pieces ≡ Done (stop_status report.stop) (report_pieces report)
report_put report status pieces e f = ap (λ (s : ℕ). Done s pieces) e ∙ ap (λ (ps : List (List ℕ)). Done (stop_status report.stop) ps) f

pub no_config : (form : RunForm) (config calls script program : Option (List ℕ)) → ¬ IsConfig config → ContentsComeTo (Run form) (config ∷ calls ∷ script ∷ program ∷ []) (NotBuilt form.config)
no_config form config calls script program n = Refused _ (inl (n, refl))

pub no_calls : (form : RunForm) (config calls script program : Option (List ℕ)) → IsConfig config → ¬ IsCalls calls → ContentsComeTo (Run form) (config ∷ calls ∷ script ∷ program ∷ []) (NotBuilt form.calls)
no_calls form config calls script program a n = Refused _ (inr (a, inl (n, refl)))

pub no_program : (form : RunForm) (config calls script program : Option (List ℕ)) → IsConfig config → IsCalls calls → ((p : Program) → ¬ HasProgram program p)
    → ContentsComeTo (Run form) (config ∷ calls ∷ script ∷ program ∷ []) (NotBuilt form.file)
no_program form config calls script program a b n = Refused _ (inr (a, inr (b, inl (n, refl))))

pub no_script : (form : RunForm) (config calls script program : Option (List ℕ)) (p : Program) → IsConfig config → IsCalls calls → HasProgram program p → ¬ IsScript form.name script
    → ContentsComeTo (Run form) (config ∷ calls ∷ script ∷ program ∷ []) (NotBuilt form.script)
no_script form config calls script program p a b h n = Refused _ (inr (a, inr (b, inr ((p, h), inl (n, refl)))))

pub ran : (r : Result Answer OutOfMemory) (form : RunForm) (config calls script program : Option (List ℕ)) (p : Program) → IsConfig config → IsCalls calls → HasProgram program p → IsScript form.name script
    → IfOk r (IsReportAnswer form.name p) → IfOk r (λ a. ContentsComeTo (Run form) (config ∷ calls ∷ script ∷ program ∷ []) a)
ran (Ok x) form config calls script program p a b h s is = Answered x (a, (b, ((p, h), (s, tt)))) (p, h, is)
ran (Err e) form config calls script program p a b h s is = tt

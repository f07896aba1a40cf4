use Rattle.std.proofs.Common.{◌∙◌, ap, []}
use Rattle.std.specs.Prelude.{Some, None, slice_set}
use Rattle.nx_fs.proofs.PlaceLemmas.{set_again}
use Rattle.nx_fs.proofs.chains.empty_at.Goals as goal

pub returns-clause-files : goal.returns-clause-files
returns-clause-files g c = c.take_at.ensures.files ∙ ap (λ fs. slice_set fs c.args.place (Some [])) c.give_at.ensures.files ∙ set_again _ c.args.place None (Some [])

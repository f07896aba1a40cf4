use Rattle.std.proofs.Common.{◌∙◌, sym}
use Rattle.nx_config.proofs.Choices.{build_memory}
use Rattle.nx_config.proofs.config.Config.build.Goals as goal

pub returns-clause-memory : goal.returns-clause-memory
returns-clause-memory c = λ e. build_memory _ (sym c.build_in.ensures ∙ e)

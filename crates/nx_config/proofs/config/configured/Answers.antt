use Rattle.std.proofs.Common.{sym, ◌∙◌}
use Rattle.nx_config.proofs.Ranges.{limits_in_range}
use Rattle.nx_config.proofs.config.configured.Goals as goal

pub invariant_of-result : goal.invariant_of-result
invariant_of-result c = limits_in_range _ c.in-Ok-limits_in.limits (sym c.in-Ok-limits_in.ensures)

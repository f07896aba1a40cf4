use Rattle.std.proofs.Common.{◌-◌, ap, ◌∙◌}
use Rattle.nx_lowering.proofs.Closing.{closed}
use Rattle.nx_lowering.proofs.statement.close.Goals as goal

pub returns : goal.returns
returns c parts rest x e n = c.patch.ensures ∙ closed c.args.code.now parts rest x c.args.end _ e n (ap (λ k. k - c.args.end - 1) c.len.ensures)

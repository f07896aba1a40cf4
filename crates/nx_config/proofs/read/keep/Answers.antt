use Rattle.std.proofs.Common.{◌∙◌, sym}
use Rattle.nx_config.proofs.Lines.{follows_put}
use Rattle.nx_config.proofs.read.keep.Goals as goal

pub returns-in-Ok : goal.returns-in-Ok
returns-in-Ok c = follows_put c.args.line c.args.assignment c.args.table.now c.put.new.self (sym c.fits.ensures ∙ c.if-not-fits.false) c.in-Ok.ensures

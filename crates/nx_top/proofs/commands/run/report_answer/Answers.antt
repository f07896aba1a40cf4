use Rattle.nx_top.proofs.Runs.{report_put}
use Rattle.nx_top.proofs.commands.run.report_answer.Goals as goal

pub returns : goal.returns
returns c = (c.in_ok-report.report, c.in_ok-report.ensures, report_put c.in_ok-report.report c.status.result c.in_ok-pieces.field-0 c.status.ensures c.in_ok-pieces.ensures)

use Rattle.std.proofs.Common.{sym}
use Rattle.nx_shtok.proofs.Progress.{refused, follow_skip, follow_mark}
use Rattle.nx_shtok.proofs.reader.Reader.take.Goals as goal

pub returns-in-Wrong-clause-err : goal.returns-in-Wrong-clause-err
returns-in-Wrong-clause-err c = refused c.args.text.now c.args.rest.now c.args.self.now.line c.in-Wrong.kind c.requires.more (sym c.in-Wrong.ensures.gives) c.requires.place

pub returns-in-Skips-clause-ok : goal.returns-in-Skips-clause-ok
returns-in-Skips-clause-ok c = follow_skip c.args.text.now c.args.self.now c.args.rest.now c.in-Skips.after.now (sym c.in-Skips.ensures.gives) c.in-Skips.ensures.left c.requires.place

pub returns-in_ok-push-in-Marks-clause-ok : goal.returns-in_ok-push-in-Marks-clause-ok
returns-in_ok-push-in-Marks-clause-ok c =
    follow_mark c.args.text.now c.args.self.now c.push.new.self c.args.rest.now c.in-Marks.after.now c.in-Marks.kind (sym c.in-Marks.ensures.gives) c.in-Marks.ensures.left c.requires.place
    (rw c.mark_lines-lines.ensures.lines at c.in_ok-push-in-Marks.ensures)

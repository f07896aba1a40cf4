use Rattle.nx_shtok.proofs.Progress.{refused_word, follow_word}
use Rattle.nx_shtok.proofs.reader.Reader.take_word.Goals as goal

pub returns-in-Broken-clause-err : goal.returns-in-Broken-clause-err
returns-in-Broken-clause-err c =
    refused_word c.args.text.now c.args.rest.now c.in-Broken.at.now c.line_at.result c.in-Broken.kind c.requires.word (rw c.in-Broken.is at c.in_ok-spelling.ensures.gives) c.line_at.ensures

pub returns-in_ok-push-in-Whole-clause-ok : goal.returns-in_ok-push-in-Whole-clause-ok
returns-in_ok-push-in-Whole-clause-ok c =
    follow_word c.args.text.now c.args.self.now c.push.new.self c.args.rest.now c.in-Whole.after.now c.in-Whole.word c.in-Whole.lines
    c.requires.word (rw c.in-Whole.is at c.in_ok-spelling.ensures.gives) (rw c.in-Whole.is at c.in_ok-spelling.ensures.left) c.requires.place c.in_ok-push-in-Whole.ensures

use Rattle.nx_shtok.specs.Words.{Open}
use Rattle.nx_shtok.proofs.Progress.{quote_goes}
use Rattle.nx_shtok.proofs.word.Begun.take_quote.Goals as goal

pub returns-in-Broken : goal.returns-in-Broken
returns-in-Broken c = Open c.args.rest.now c.args.quote c.args.inner.now c.in-Broken.kind c.requires.opens (rw c.in-Broken.is at c.in_ok-quoted.ensures.gives)

pub returns-in_ok-append-in-Closed : goal.returns-in_ok-append-in-Closed
returns-in_ok-append-in-Closed c =
    quote_goes c.args.self.now c.append.new.self c.args.rest.now c.args.inner.now c.in-Closed.after.now c.args.quote c.in-Closed.found
    c.requires.opens c.requires.less (rw c.in-Closed.is at c.in_ok-quoted.ensures.gives) (rw c.in-Closed.is at c.in_ok-quoted.ensures.left) c.in_ok-append-in-Closed.ensures

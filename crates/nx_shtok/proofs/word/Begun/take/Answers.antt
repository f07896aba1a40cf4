use Rattle.std.proofs.Common.{sym}
use Rattle.nx_shtok.specs.Words.{Fails}
use Rattle.nx_shtok.proofs.Progress.{part_goes}
use Rattle.nx_shtok.proofs.word.Begun.take.Goals as goal

pub take_quote-requires-clause-opens : goal.take_quote-requires-clause-opens
take_quote-requires-clause-opens c = sym (rw c.in-Opens.is at c.in_ok-front.ensures.gives)

pub take_quote-requires-clause-less : goal.take_quote-requires-clause-less
take_quote-requires-clause-less c = rw c.in-Opens.is at c.in_ok-front.ensures.left

pub returns-in-Wrong : goal.returns-in-Wrong
returns-in-Wrong c =
    let gives = rw c.in-Plain.is at c.in_ok-front.ensures.gives in
    Fails c.args.rest.now c.in-Wrong.kind (sym (rw c.in-Wrong.is at gives))

pub returns-in_ok-push-in-Gives : goal.returns-in_ok-push-in-Gives
returns-in_ok-push-in-Gives c =
    let gives = rw c.in-Plain.is at c.in_ok-front.ensures.gives in
    let left = rw c.in-Plain.is at c.in_ok-front.ensures.left in
    part_goes c.args.self.now c.push.new.self c.args.rest.now c.in-Gives.after.now c.in-Gives.part c.in-Gives.quoted
    (sym (rw c.in-Gives.is at gives)) (rw c.in-Gives.is at left) c.in_ok-push-in-Gives.ensures

use Rattle.std.proofs.Common.{sym}
use Rattle.nx_shtok.proofs.Progress.{quote_first, quote_more, quote_closed, quote_left, quote_broken}
use Rattle.nx_shtok.proofs.word.quote_rest.Goals as goal

pub loop-found-init : goal.loop-found-init
loop-found-init c = rw c.new-found.ensures (quote_first c.args.quote c.args.bytes.now)

pub loop-found-preserved : goal.loop-found-preserved
loop-found-preserved c =
    quote_more c.args.quote c.args.bytes.now c.loop-found.found c.push.new.self c.loop-found.rest.now c.in-Gives.after.now c.in-Gives.part _ c.loop-found.invariant
    (sym (rw c.in-Gives.is at c.in_ok-piece.ensures.gives)) (rw c.in-Gives.is at c.in_ok-piece.ensures.left) c.in_ok-push-in-Gives.ensures.ok

pub loop-found-smaller : goal.loop-found-smaller
loop-found-smaller c = let left = rw c.in-Gives.is at c.in_ok-piece.ensures.left in left.less

pub returns-in-Over-clause-gives : goal.returns-in-Over-clause-gives
returns-in-Over-clause-gives c =
    quote_closed c.args.quote c.args.bytes.now c.loop-found.found c.loop-found.rest.now c.in-Over.after.now c.loop-found.invariant (sym (rw c.in-Over.is at c.in_ok-piece.ensures.gives))

pub returns-in-Over-clause-left : goal.returns-in-Over-clause-left
returns-in-Over-clause-left c =
    quote_left c.args.quote c.args.bytes.now c.loop-found.found c.loop-found.rest.now c.in-Over.after.now c.loop-found.invariant (rw c.in-Over.is at c.in_ok-piece.ensures.left)

pub returns-in-Wrong-clause-gives : goal.returns-in-Wrong-clause-gives
returns-in-Wrong-clause-gives c =
    quote_broken c.args.quote c.args.bytes.now c.loop-found.found c.loop-found.rest.now c.in-Wrong.kind c.loop-found.invariant (sym (rw c.in-Wrong.is at c.in_ok-piece.ensures.gives))

use Rattle.nx_ksys.specs.Gathered.{replies_of}
use Rattle.nx_shrun.specs.ShellCalls.{started, after}
use Rattle.nx_shell.proofs.Resuming.{going_fits, going_last, last_is}
use Rattle.nx_shell.proofs.whole.resumed.Goals as goal

pub answer-requires-clause-fits : goal.answer-requires-clause-fits
answer-requires-clause-fits c =
    going_fits c.loop-reply.shell c.args.replies.now c.loop-reply.reply-index c.reply-item.result (after (started c.args.script.now) (replies_of c.args.replies.now)) c.loop-reply-test.true c.reply-item.is c.loop-reply.invariant.goes

pub returns-clause-last : goal.returns-clause-last
returns-clause-last c =
    last_is c.loop-reply.shell c.args.script.now (replies_of c.args.replies.now)
    (going_last c.loop-reply.shell c.args.replies.now c.loop-reply.reply-index (after (started c.args.script.now) (replies_of c.args.replies.now)) c.loop-reply-test.false c.loop-reply.invariant.goes)

use Rattle.nx_ksys.specs.Gathered.{reply_of}
use Rattle.nx_shell.proofs.Walked.{starts_follow, asks_follow}
use Rattle.nx_shell.proofs.walk.Walk.hear.Goals as goal

pub returns-in-Starts-clause-follows : goal.returns-in-Starts-clause-follows
returns-in-Starts-clause-follows c =
    starts_follow c.args.simple.now c.args.background c.args.status c.args.self.now c.expand.new.self c.args.self.now.filling.words c.clear.new.self c.expand.result (reply_of c.args.reply.now)
    c.in-Starts.is c.clear.ensures.words c.clear.ensures.text c.clear.ensures.part c.expand.ensures.comes

pub returns-in-Asks-clause-follows : goal.returns-in-Asks-clause-follows
returns-in-Asks-clause-follows c =
    asks_follow c.args.simple.now c.args.background c.args.status c.args.self.now c.expand-in-Asks.new.self c.add.new.self c.value_in.result.now c.expand-in-Asks.result (reply_of c.args.reply.now)
    c.in-Asks.is c.value_in.ensures c.add.ensures.words c.add.ensures.text c.add.ensures.part c.expand-in-Asks.ensures.comes

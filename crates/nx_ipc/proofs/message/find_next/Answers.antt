use Rattle.std.proofs.Common.{ap, ◌∙◌}
use Rattle.std.specs.List.{position_from}
use Rattle.nx_ksys.specs.QueueCalls.{has_priority}
use Rattle.nx_ipc.specs.Tables.{messages_of}
use Rattle.nx_ipc.proofs.message.find_next.Goals as goal

pub returns-clause-first : goal.returns-clause-first
returns-clause-first c = λ content. c.first_with.ensures.first content ∙ ap (λ n. position_from (has_priority n) 0 (messages_of content c.args.messages.now)) (c.top_of.ensures content)

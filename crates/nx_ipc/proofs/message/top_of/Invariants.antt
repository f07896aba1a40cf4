use Rattle.std.proofs.Common.{◌≡◌, drop, max}
use Rattle.nx_ksys.specs.QueueCalls.{top_priority}
use Rattle.nx_ipc.specs.Tables.{messages_of}
use Rattle.nx_ipc.proofs.message.top_of.Given as goal

abbrev pub invariant-loop-message : goal.invariant-loop-message
invariant-loop-message l = (content : _) → max l.top (top_priority (messages_of content (drop l.message-index l.messages))) ≡ top_priority (messages_of content l.messages)

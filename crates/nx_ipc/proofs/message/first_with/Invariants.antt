use Rattle.std.proofs.Common.{◌≡◌, drop}
use Rattle.std.specs.List.{position_from}
use Rattle.nx_ksys.specs.QueueCalls.{has_priority}
use Rattle.nx_ipc.specs.Tables.{messages_of}
use Rattle.nx_ipc.proofs.message.first_with.Given as goal

abbrev pub invariant-loop-i : goal.invariant-loop-i
invariant-loop-i l = (content : _) → position_from (has_priority l.priority) l.i (messages_of content (drop l.i l.messages)) ≡ position_from (has_priority l.priority) 0 (messages_of content l.messages)

use Rattle.std.proofs.Common.{◌≡◌, ◌<◌, ◌≤◌, ◌+◌, ◌-◌, ◌^◌, ◌++◌, length}
use Rattle.nx_ksys.specs.Gathered.{replies_of}
use Rattle.nx_ksys.specs.Picking.{wake_due}
use Rattle.nx_kbounds.specs.Counts.{waiting}
use Rattle.nx_kernel.proofs.due.wake_due.Given as goal

abbrev pub invariant-loop : goal.invariant-loop
invariant-loop l = record {
  state : (wake_due l.time (l.count - l.counter) l.threads).sched ≡ (wake_due l.time l.count l.fn.threads).sched;
  told : replies_of l.replies.replies ++ (wake_due l.time (l.count - l.counter) l.threads).replies ≡ replies_of l.fn.replies.replies ++ (wake_due l.time l.count l.fn.threads).replies;
  room : l.replies.room ≡ l.fn.replies.room;
  few : length l.replies.replies + waiting l.threads.threads ≤ l.fn.replies.room;
  moments : l.threads.moments + waiting l.threads.threads < 2 ^ 64;
}

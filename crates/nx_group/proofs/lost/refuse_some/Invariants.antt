use Rattle.std.proofs.Common.{◌≡◌, ◌<◌, ◌≤◌, ◌+◌, ◌-◌, ◌^◌, ◌++◌, length}
use Rattle.nx_ksys.specs.Gathered.{replies_of}
use Rattle.nx_ksys.specs.Ends.{refuse_lost}
use Rattle.nx_group.specs.Waiting.{waiting}
use Rattle.nx_group.proofs.lost.refuse_some.Given as goal

abbrev pub invariant-loop : goal.invariant-loop
invariant-loop l = record {
  state : (refuse_lost l.groups l.codes.codes l.parent (l.count - l.counter) l.threads).sched ≡ (refuse_lost l.groups l.codes.codes l.parent l.count l.fn.threads).sched;
  told : replies_of l.replies.replies ++ (refuse_lost l.groups l.codes.codes l.parent (l.count - l.counter) l.threads).replies ≡ replies_of l.fn.replies.replies ++ (refuse_lost l.groups l.codes.codes l.parent l.count l.fn.threads).replies;
  room : l.replies.room ≡ l.fn.replies.room;
  few : length l.replies.replies + waiting l.threads.threads ≤ l.fn.replies.room;
  moments : l.threads.moments + waiting l.threads.threads < 2 ^ 64;
}

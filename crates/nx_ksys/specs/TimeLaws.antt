-- What holds of time, whatever the state.
use Rattle.std.specs.Prelude.{◌≡◌, ◌<◌, true, false}
use Rattle.std.specs.List.{list_any}
use Rattle.std.specs.Option.{is_some}
use Rattle.nx_ksys.specs.declared.pick.Pick.TheVariants.{Idle}
use Rattle.nx_ksys.specs.Threads.{is_ready, is_timed, deadline_of}
use Rattle.nx_ksys.specs.State.{KernelState}
use Rattle.nx_ksys.specs.Picking.{picked}
use Rattle.nx_ksys.specs.Soundness.{EachStanding}

-- where a run idles no thread is ready, and none has a deadline
abbrev pub IdleWithoutDeadlines : Type 0
IdleWithoutDeadlines = (k : KernelState) → (picked k).pick ≡ Idle → EachStanding (λ t. (is_ready t.doing ≡ false) × (is_timed t.doing ≡ false)) k.sched.threads

-- where no thread was ready, the deadlines that are left after a choice are later than its time
abbrev pub DueThreadsWake : Type 0
DueThreadsWake = (k : KernelState) → list_any is_some k.groups ≡ true → EachStanding (λ t. is_ready t.doing ≡ false) k.sched.threads → EachStanding (λ t. is_timed t.doing ≡ true → (picked k).to.time < deadline_of t.doing) (picked k).to.sched.threads

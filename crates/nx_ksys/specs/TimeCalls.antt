-- Calls on time: nx_sleep, nx_ticks.
use Rattle.std.specs.Prelude.{ℕ, ◌+◌, ◌%◌, ◌^◌, ◌==◌, if◌then◌else◌, [], Some}
use Rattle.nx_base.specs.declared.errno.Errno.TheVariants.{Einval}
use Rattle.nx_ksys.specs.declared.thread.Wait.TheVariants as wait
use Rattle.nx_ksys.specs.State.{KernelState}
use Rattle.nx_ksys.specs.Answers.{Stepped, Caller, replied, failed, waits, is_negative}

-- the caller sleeps up to a deadline, so many ticks from now
unfoldable pub sleep_row : KernelState → Caller → ℕ → Stepped
sleep_row k c ticks =
    if is_negative ticks then failed k c Einval
    else if ticks == 0 then replied k c 0 []
    else waits k c wait.Sleep (Some (k.time + ticks))

-- the time as an int that isn't below 0
unfoldable pub ticks_row : KernelState → Caller → Stepped
ticks_row k c = replied k c (k.time % 2 ^ 31) []

-- What bounds the kernel's tables, in every state that is reached.
use Rattle.std.specs.Prelude.{◌≡◌, ℕ, ◌+◌, ◌^◌, ◌<◌, ◌≤◌, List, length, Option}
use Rattle.nx_base.specs.Calls.{AreInputs}
use Rattle.nx_base.specs.declared.calls.KCall.{KCall}
use Rattle.nx_ksys.specs.Threads.{live}
use Rattle.nx_ksys.specs.State.{Limits, KernelState}
use Rattle.nx_ksys.specs.Step.{step}
use Rattle.nx_ksys.specs.Picking.{picked}
use Rattle.nx_ksys.specs.Boot.{booted}
use Rattle.nx_ksys.specs.Soundness.{IsSound}
use Rattle.nx_ksys.specs.TableLaws.{kinds_in}
use Rattle.nx_ksys.specs.ByteLaws.{Each}
use Rattle.nx_ksys.specs.Ends.{end_group}
use Rattle.nx_kbounds.specs.Counts.{places, first_places, live_groups, IsFew, IsTimely, most_late}
use Rattle.nx_kbounds.specs.Shortness.{longest_path, IsShort}

-- what holds before a call of a thread holds after it, where no two threads have one number, and the call has its inputs
abbrev pub CallsKeep : (KernelState → Type 0) → Type 0
CallsKeep P = (k : KernelState) (thread : ℕ) (which : Option KCall) (words : List ℕ) (inputs : List (List ℕ)) → IsSound k → AreInputs (kinds_in which) words inputs → P k → P (step k thread which words inputs).to

-- and so it is with choices, and with the end of a group from outside
abbrev pub ChoicesKeep : (KernelState → Type 0) → Type 0
ChoicesKeep P = (k : KernelState) → P k → P (picked k).to

abbrev pub EndsKeep : (KernelState → Type 0) → Type 0
EndsKeep P = (k : KernelState) (place code : ℕ) → P k → P (end_group k place code).to

-- ---- places

abbrev pub BootTakesPlaces : Type 0
BootTakesPlaces = (limits : Limits) (others : ℕ) (input late : List ℕ) → places (booted limits others input late) ≡ first_places limits (others + 1)

abbrev pub CallsTakeNone : Type 0
CallsTakeNone = (k : KernelState) (thread : ℕ) (which : Option KCall) (words : List ℕ) (inputs : List (List ℕ)) → IsSound k → AreInputs (kinds_in which) words inputs → places (step k thread which words inputs).to ≡ places k

abbrev pub ChoicesTakeNone : Type 0
ChoicesTakeNone = (k : KernelState) → places (picked k).to ≡ places k

abbrev pub EndsTakeNone : Type 0
EndsTakeNone = (k : KernelState) (place code : ℕ) → places (end_group k place code).to ≡ places k

-- ---- counts

abbrev pub BootIsFew : Type 0
BootIsFew = (limits : Limits) (others : ℕ) (input late : List ℕ) → IsFew (booted limits others input late)

-- a live group has its main thread, so there are no more groups than threads, and no more threads than slots
abbrev pub GroupsAreFew : Type 0
GroupsAreFew = (k : KernelState) → IsSound k → (live_groups k.groups ≤ live k.sched.threads) × (live k.sched.threads ≤ length k.sched.threads)

-- ---- time

-- latenesses of a list that boot takes
abbrev pub AreLate : List ℕ → Type 0
AreLate late = (length late ≤ most_late) × Each (λ n. n < 2 ^ 31) late

abbrev pub BootIsTimely : Type 0
BootIsTimely = (limits : Limits) (others : ℕ) (input late : List ℕ) → AreLate late → IsTimely (booted limits others input late)

-- ---- texts. The name of a program makes a path with `/bin/`

abbrev pub BootIsShort : Type 0
BootIsShort = (limits : Limits) (others : ℕ) (input late : List ℕ) → Each (λ name. length name + 5 ≤ longest_path) limits.programs → IsShort (booted limits others input late)

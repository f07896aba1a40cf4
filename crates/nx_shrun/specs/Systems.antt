-- The whole system: the kernel, the shell, and the threads of programs, whatever these are.
use Rattle.std.specs.Prelude.{ℕ, ◌==◌, if◌then◌else◌, List, [], ◌∷◌, ◌++◌, Option, Some, None}
use Rattle.nx_base.specs.Calls.{Reply}
use Rattle.nx_ksys.specs.State.{KernelState}
use Rattle.nx_ksys.specs.Answers.{Start, Effect, Stays, EndsGroup, Begins, Stepped}
use Rattle.nx_ksys.specs.ThreadTable.{ThreadRow, threads}
use Rattle.nx_shtree.specs.Trees.{Item}
use Rattle.nx_shrun.specs.Calls.{Call}
use Rattle.nx_shrun.specs.ShellCalls.{started, after, call_made}

-- The shell's thread.
abbrev pub shell_thread : ℕ
shell_thread = 1

-- The shell's next call, after these replies.
abbrev pub next_call : List Item → List Reply → Call
next_call script said = call_made (after (started script) said)

-- Guests: what a start makes of them, by a call with these words; what a reply to a thread; and what a group's end.
pub record Guests (M : Type 0) : Type 0 where
  pub begin : M → Start → List ℕ → M
  pub answer : M → ThreadRow → Reply → M
  pub finish : M → ℕ → M

-- The kernel, the replies to the shell so far, what the calls so far began and ended, and the guests.
pub record System (M : Type 0) : Type 0 where
  pub kernel : KernelState
  pub said : List Reply
  pub effects : List Effect
  pub guests : M

abbrev pub with_guests : {M : Type 0} → System M → M → System M
with_guests s m = record { kernel = s.kernel; said = s.said; effects = s.effects; guests = m }

-- A reply to a thread that there isn't changes nothing.
abbrev pub answered_in : {M : Type 0} → Guests M → M → Option ThreadRow → Reply → M
answered_in o m None r = m
answered_in o m (Some row) r = o.answer m row r

abbrev pub tell : {M : Type 0} → Guests M → System M → Reply → System M
tell o s r =
    if r.thread == shell_thread then record { kernel = s.kernel; said = s.said ++ r ∷ []; effects = s.effects; guests = s.guests }
    else with_guests s (answered_in o s.guests (threads s.kernel r.thread) r)

-- Replies are told in their order.
unfoldable pub told : {M : Type 0} → Guests M → System M → List Reply → System M
told o s [] = s
told o s (r ∷ rs) = told o (tell o s r) rs

abbrev pub affected : {M : Type 0} → Guests M → M → Effect → List ℕ → M
affected o m Stays words = m
affected o m (EndsGroup group) words = o.finish m group
affected o m (Begins start) words = o.begin m start words

-- The system after a call with these words: what it began or ended, and then the replies.
unfoldable pub responded : {M : Type 0} → Guests M → System M → Stepped → List ℕ → System M
responded o s res words = told o (record { kernel = res.to; said = s.said; effects = s.effects ++ res.effect ∷ []; guests = affected o s.guests res.effect words }) res.replies

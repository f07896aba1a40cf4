-- What a thread that is due leaves.
use Rattle.std.proofs.Common.{◌<◌, ◌^◌}
use Rattle.nx_ksys.specs.ByteLaws.{Each}
use Rattle.nx_ksys.specs.Picking.{next_late}
use Rattle.nx_kbounds.specs.Counts.{AreNear}
use Rattle.std.proofs.Common.{◌≡◌, ℕ, zero, suc, ◌+◌, ◌≤◌, ◌==◌, ◌∷◌, [], ◌++◌, Bool, true, false, List, length, Option, Some, None, refl, sym, ap, ◌∙◌, arith}
use Rattle.std.specs.Prelude.{if◌then◌else◌, nat_le}
use Rattle.nx_base.specs.ErrorNumbers.{number_of}
use Rattle.nx_base.specs.declared.errno.Errno.{Errno}
use Rattle.nx_base.specs.declared.errno.Errno.TheVariants.{Etimedout}
use Rattle.nx_ksys.specs.declared.thread.Doing.{Doing}
use Rattle.nx_ksys.specs.declared.thread.Doing.TheVariants as doing
use Rattle.nx_ksys.specs.declared.thread.Thread.{Thread}
use Rattle.nx_ksys.specs.declared.thread.Wait.{Wait}
use Rattle.nx_ksys.specs.declared.thread.Wait.TheVariants as wait
use Rattle.nx_ksys.specs.declared.thread.Search.TheVariants as search
use Rattle.nx_ksys.specs.Threads.{Schedule, is_ready, is_timed, is_sought, awaited, change_thread, wake, with_error, first_of, changed, Woken, none_woken, woken_then, woken_with, woken_failing}
use Rattle.nx_ksys.specs.Picking.{timed_out, if_due, first_due, wake_first, wake_due}
use Rattle.nx_ksys.specs.Threads.{deadline_of}
use Rattle.std.specs.Prelude.{cond}
use Rattle.nx_ksys.proofs.Standing.{none_some}
use Rattle.nx_ksys.proofs.Waking.{Found, first_stands}
use Rattle.nx_kbounds.specs.Counts.{waits_one, waiting}
use Rattle.nx_kbounds.proofs.Standings.{waiting_woken, waiting_changed}
use Rattle.nx_kernel.specs.Waking.{is_sleep}

pub sleeper_told : (s : Schedule) (t : Thread) (w : Option Wait) → is_sleep w ≡ true → timed_out s t w ≡ woken_with s t 0 []
sleeper_told s t None e = absurd cc
sleeper_told s t (Some wait.Sleep) e = refl
sleeper_told s t (Some (wait.Receive place)) e = absurd cc
sleeper_told s t (Some (wait.Send place)) e = absurd cc
sleeper_told s t (Some (wait.Semaphore place)) e = absurd cc
sleeper_told s t (Some (wait.Child number)) e = absurd cc
sleeper_told s t (Some wait.AnyChild) e = absurd cc
sleeper_told s t (Some (wait.Thread number)) e = absurd cc

pub other_told : (s : Schedule) (t : Thread) (w : Option Wait) → is_sleep w ≡ false → timed_out s t w ≡ woken_failing s t Etimedout
other_told s t None e = refl
other_told s t (Some wait.Sleep) e = absurd cc
other_told s t (Some (wait.Receive place)) e = refl
other_told s t (Some (wait.Send place)) e = refl
other_told s t (Some (wait.Semaphore place)) e = refl
other_told s t (Some (wait.Child number)) e = refl
other_told s t (Some wait.AnyChild) e = refl
other_told s t (Some (wait.Thread number)) e = refl

due_first : (time : ℕ) (s : Schedule) (t : Thread) → first_due time s ≡ Some t → first_of search.Timed s.threads ≡ Some t
unfolding first_due
due_first time s t e = by_first (first_of search.Timed s.threads) e
  where
    by_first : (o : Option Thread) → if_due time o ≡ Some t → o ≡ Some t
    by_first None q = absurd (none_some t q)
    by_first (Some u) q = by_test (nat_le (deadline_of u.doing) time) q
      where
        by_test : (b : Bool) → (if b then Some u else None) ≡ Some t → Some u ≡ Some t
        by_test true r = r
        by_test false r = absurd (none_some t r)

timed_waits : (d : Doing) → is_timed d ≡ true → is_ready d ≡ false
timed_waits (doing.Ready since) e = absurd cc
timed_waits (doing.Waits for since) e = absurd cc
timed_waits (doing.Until for since deadline) e = refl

-- one that was due waits no more
pub record Leaves (s x : Schedule) : Type 0 where
  pub fewer : waiting x.threads + 1 ≤ waiting s.threads
  pub moments : x.moments ≡ s.moments + 1

pub leaves : (time : ℕ) (s : Schedule) (t : Thread) → first_due time s ≡ Some t → (w : Option Wait) → Leaves s (timed_out s t w).sched
unfolding wake with_error
leaves time s t e w = by_sleep (is_sleep w) refl
  where
    f : Found s.threads (is_sought search.Timed) t
    f = first_stands search.Timed s.threads t (due_first time s t e)

    less : waiting (change_thread t.number (λ u. record u { doing = doing.Ready s.moments }) s.threads) + 1 ≤ waiting s.threads
    less = waiting_woken (λ u. record u { doing = doing.Ready s.moments }) (λ u. refl) t s.threads f.slot f.stands (timed_waits t.doing f.passes)

    by_sleep : (b : Bool) → is_sleep w ≡ b → Leaves s (timed_out s t w).sched
    by_sleep true q = rw (sleeper_told s t w q) (record { fewer = less; moments = refl })
    by_sleep false q =
        let same = waiting_changed t.number (λ u. record u { errno = number_of Etimedout }) (λ u. omega arith) (change_thread t.number (λ u. record u { doing = doing.Ready s.moments }) s.threads) in
        rw (other_told s t w q) (record { fewer = omega (arith, less, same); moments = refl })

pub due_next : (time n m : ℕ) (s : Schedule) (t : Thread) → first_due time s ≡ Some t → n ≡ suc m → wake_due time n s ≡ woken_then (timed_out s t (awaited t.doing)) (wake_due time m)
due_next time n m s t e k = rw (k, e) refl

pub due_none : (time n : ℕ) (s : Schedule) → first_due time s ≡ None → wake_due time n s ≡ none_woken s
due_none time zero s e = refl
due_none time (suc n) s e = rw e refl

-- ---- time stays within a word of 64 bits

late_few : (late : List ℕ) → Each (λ n. n < 2 ^ 31) late → next_late late < 2 ^ 31
late_few [] h = omega arith
late_few (n ∷ late) h = h 0 n refl

pub time_fits : (time : ℕ) (late : List ℕ) (s : Schedule) (t : Thread) → AreNear time late s → s.moments + waiting s.threads < 2 ^ 32 → first_of search.Timed s.threads ≡ Some t → deadline_of t.doing + next_late late < 2 ^ 64
time_fits time late s t near few e =
    let f = first_stands search.Timed s.threads t e in
    let d = near.deadlines f.slot t f.stands in
    let l = late_few late near.lateness in
    omega (arith, d, l, few)

-- Threads that go on: each was waiting, in a call that its reply fits, and is ready after.
use Rattle.std.proofs.Common.{◌≡◌, ℕ, zero, suc, ◌≤◌, inl, inr, Bool, true, false, List, [], ◌∷◌, ◌++◌, length, min, Option, Some, None, refl, sym, ap, ◌∙◌, subst, arith}
use mathlib.Core.Path.{fun_ext}
use Rattle.std.specs.Prelude.{ℤ, nat_le, if◌then◌else◌}
use Rattle.std.proofs.lemmas.Bool.{and_parts}
use Rattle.nx_base.specs.Calls.{Reply}
use Rattle.nx_base.specs.Replies.{FitsCall, HaveRoom, output_rooms, most_moved}
use Rattle.nx_base.specs.KernelCalls.{kinds_of}
use Rattle.nx_base.specs.declared.calls.KCall.TheVariants as call
use Rattle.nx_base.specs.declared.errno.Errno.{Errno}
use Rattle.nx_base.specs.declared.errno.Errno.TheVariants as errno
use Rattle.nx_base.proofs.ByteLemmas.{length-to_le}
use Rattle.nx_ksys.specs.declared.thread.Asked.{Asked}
use Rattle.nx_ksys.specs.declared.thread.Doing.{Doing}
use Rattle.nx_ksys.specs.declared.thread.Doing.TheVariants.{Ready, Waits, Until}
use Rattle.nx_ksys.specs.declared.thread.Thread.{Thread}
use Rattle.nx_ksys.specs.declared.thread.Wait.{Wait}
use Rattle.nx_ksys.specs.declared.thread.Wait.TheVariants as wait
use Rattle.nx_ksys.specs.declared.thread.Search.{Search}
use Rattle.nx_ksys.specs.declared.thread.Search.TheVariants as search
use Rattle.nx_base.specs.ErrorNumbers.{number_of}
use Rattle.nx_ksys.specs.Telling.{both, reply, failure}
use Rattle.nx_ksys.specs.Threads.{Schedule, thread_of, changed, change_thread, awaited, deadline_of, is_ready, is_timed, is_sought, comes_before, precedes, best_from, is_for_child, is_for_thread, is_for_message, first_of, wake, with_error, Woken, none_woken, woken_then, woken_with, woken_failing}
use Rattle.nx_ksys.specs.State.{Group, Code, KernelState}
use Rattle.nx_ksys.specs.Answers.{int_out, word_at}
use Rattle.nx_ksys.specs.QueueCalls.{room_of}
use Rattle.nx_ksys.specs.Ends.{is_lost_wait, is_lost, first_lost, refuse_first, refuse_lost}
use Rattle.nx_ksys.specs.Picking.{timed_out, if_due, first_due, wake_first, wake_due}
use Rattle.nx_ksys.specs.ThreadTable.{WaitingCall, ThreadRow, waits_in, threads}
use Rattle.nx_ksys.specs.Soundness.{Stands, IsAsked, IsReceiving, Agrees, AreSound}
use Rattle.nx_ksys.specs.TableLaws.{Table, set_at, waiting, ready, made_ready, after_replies, kinds_in, AreDue}
use Rattle.nx_ksys.proofs.Standing.{none_some, off_on, best_has, length_map}
use Rattle.nx_ksys.proofs.Tables.{set_at_same, replies_keep, row_of, row_in, table_of, thread_only, table_kept, table_changed, sound_changed}

-- ---- replies in their turn

-- a reply is for a thread that waits, in a call that its outputs fit
pub record IsFit (t : Table) (a : Reply) : Type 0 where
  pub row : ThreadRow
  pub call : WaitingCall
  pub waits : t a.thread ≡ Some (waiting row call)
  pub fits : FitsCall (kinds_in call.call) call.words a.outputs

abbrev pub AreFit : Table → List Reply → Type 0
AreFit t [] = Unit {0}
AreFit t (a ∷ rs) = IsFit t a × AreFit (set_at t a.thread (made_ready (t a.thread))) rs

pub due_from : (k : KernelState) (rs : List Reply) (t : Table) → AreFit t rs → ((n : ℕ) → threads k n ≡ after_replies t rs n) → AreDue k t rs
unfolding AreDue after_replies
due_from k [] t fit same = tt
due_from k (a ∷ rs) t fit same =
    let f = fit.0 in
    let u = set_at t a.thread (made_ready (t a.thread)) in (
      record {
        row = f.row;
        call = f.call;
        waits = f.waits;
        fits = f.fits;
        there = same a.thread ∙ replies_keep rs u a.thread f.row (set_at_same t a.thread (made_ready (t a.thread)) ∙ ap made_ready f.waits);
      },
      due_from k rs u fit.1 same,
    )

pub fit_append : (rs qs : List Reply) (t : Table) → AreFit t rs → AreFit (after_replies t rs) qs → AreFit t (rs ++ qs)
unfolding after_replies
fit_append [] qs t a b = b
fit_append (r ∷ rs) qs t a b = (a.0, fit_append rs qs (set_at t r.thread (made_ready (t r.thread))) a.1 b)

pub replies_append : (rs qs : List Reply) (t : Table) → after_replies t (rs ++ qs) ≡ after_replies (after_replies t rs) qs
unfolding after_replies
replies_append [] qs t = refl
replies_append (r ∷ rs) qs t = replies_append rs qs (set_at t r.thread (made_ready (t r.thread)))

pub no_replies : (t : Table) → after_replies t [] ≡ t
unfolding after_replies
no_replies t = refl

-- the call that a thread keeps
abbrev pub call_of : Asked → WaitingCall
call_of a = record { call = a.call; words = a.words }

-- ---- what fits a call

no_room : (rooms : List ℕ) → HaveRoom rooms ([] ∷ [] ∷ [])
no_room [] = (refl, (refl, tt))
no_room (r ∷ []) = (omega arith, (refl, tt))
no_room (r ∷ q ∷ rooms) = (omega arith, (omega arith, tt))

-- outputs without bytes fit each call
pub nothing_fits : (a : Asked) → FitsCall (kinds_in a.call) a.words ([] ∷ [] ∷ [])
nothing_fits a = no_room (output_rooms (kinds_in a.call) a.words)

pub fits_waitpid : (a : Asked) (n : ℕ) → IsAsked call.Waitpid a → FitsCall (kinds_in a.call) a.words (int_out n ∷ [] ∷ [])
fits_waitpid a n asked = subst (λ o. FitsCall (kinds_in o) a.words (int_out n ∷ [] ∷ [])) (sym asked.call) (by_words a.words asked.words)
  where
    by_words : (words : List ℕ) → 3 ≤ length words → FitsCall (kinds_of call.Waitpid) words (int_out n ∷ [] ∷ [])
    by_words [] le = absurd (omega (arith, le))
    by_words (a ∷ []) le = absurd (omega (arith, le))
    by_words (a ∷ b ∷ []) le = absurd (omega (arith, le))
    by_words (a ∷ b ∷ c ∷ words) le = (let e = length-to_le 4 n in omega (arith, e), (refl, tt))

pub fits_join : (a : Asked) (n : ℕ) → IsAsked call.NxJoin a → FitsCall (kinds_in a.call) a.words (int_out n ∷ [] ∷ [])
fits_join a n asked = subst (λ o. FitsCall (kinds_in o) a.words (int_out n ∷ [] ∷ [])) (sym asked.call) (by_words a.words asked.words)
  where
    by_words : (words : List ℕ) → 2 ≤ length words → FitsCall (kinds_of call.NxJoin) words (int_out n ∷ [] ∷ [])
    by_words [] le = absurd (omega (arith, le))
    by_words (a ∷ []) le = absurd (omega (arith, le))
    by_words (a ∷ b ∷ words) le = (let e = length-to_le 4 n in omega (arith, e), (refl, tt))

-- a message of the size that a receive has room for, and its priority
pub fits_receive : (a : Asked) (bytes : List ℕ) (n : ℕ) → IsReceiving a → length bytes ≤ room_of a → FitsCall (kinds_in a.call) a.words (bytes ∷ int_out n ∷ [])
fits_receive a bytes n (inl asked) short = subst (λ o. FitsCall (kinds_in o) a.words (bytes ∷ int_out n ∷ [])) (sym asked.call) (by_words a.words asked.words short)
  where
    by_words : (words : List ℕ) → 4 ≤ length words → length bytes ≤ min (word_at words 2) most_moved → FitsCall (kinds_of call.MqReceive) words (bytes ∷ int_out n ∷ [])
    by_words [] le s = absurd (omega (arith, le))
    by_words (a ∷ []) le s = absurd (omega (arith, le))
    by_words (a ∷ b ∷ []) le s = absurd (omega (arith, le))
    by_words (a ∷ b ∷ c ∷ []) le s = absurd (omega (arith, le))
    by_words (a ∷ b ∷ c ∷ d ∷ words) le s = (s, (let e = length-to_le 4 n in omega (arith, e), tt))
fits_receive a bytes n (inr asked) short = subst (λ o. FitsCall (kinds_in o) a.words (bytes ∷ int_out n ∷ [])) (sym asked.call) (by_words a.words asked.words short)
  where
    by_words : (words : List ℕ) → 5 ≤ length words → length bytes ≤ min (word_at words 2) most_moved → FitsCall (kinds_of call.NxMqTimedreceive) words (bytes ∷ int_out n ∷ [])
    by_words [] le s = absurd (omega (arith, le))
    by_words (a ∷ []) le s = absurd (omega (arith, le))
    by_words (a ∷ b ∷ []) le s = absurd (omega (arith, le))
    by_words (a ∷ b ∷ c ∷ []) le s = absurd (omega (arith, le))
    by_words (a ∷ b ∷ c ∷ d ∷ []) le s = absurd (omega (arith, le))
    by_words (a ∷ b ∷ c ∷ d ∷ e ∷ words) le s = (s, (let q = length-to_le 4 n in omega (arith, q), tt))

-- ---- what going on owes

pub record Wakes (gs : List (Option Group)) (num : ℕ) (s : Schedule) (w : Woken) : Type 0 where
  pub sound : AreSound w.sched.threads gs num
  pub fit : AreFit (table_of s.threads gs) w.replies
  pub table : table_of w.sched.threads gs ≡ after_replies (table_of s.threads gs) w.replies
  pub slots : length w.sched.threads ≡ length s.threads

pub wakes_none : (gs : List (Option Group)) (num : ℕ) (s : Schedule) → AreSound s.threads gs num → Wakes gs num s (none_woken s)
wakes_none gs num s sound = record { sound = sound; fit = tt; table = sym (no_replies (table_of s.threads gs)); slots = refl }

pub wakes_then : (gs : List (Option Group)) (num : ℕ) (s : Schedule) (w : Woken) (more : Schedule → Woken) → Wakes gs num s w → Wakes gs num w.sched (more w.sched) → Wakes gs num s (woken_then w more)
wakes_then gs num s w more a b = record {
  sound = b.sound;
  fit = fit_append w.replies (more w.sched).replies (table_of s.threads gs) a.fit (subst (λ t. AreFit t (more w.sched).replies) a.table b.fit);
  table = b.table ∙ ap (λ t. after_replies t (more w.sched).replies) a.table ∙ sym (replies_append w.replies (more w.sched).replies (table_of s.threads gs));
  slots = b.slots ∙ a.slots;
}

pub waits_with : (t : Thread) (d : Doing) → is_ready d ≡ false → waits_in (record t { doing = d }) ≡ Some (call_of t.asked)
waits_with t (Ready since) e = absurd cc
waits_with t (Waits for since) e = refl
waits_with t (Until for since deadline) e = refl

waits_errno : (t : Thread) (e : ℤ) (d : Doing) → waits_in (record t { errno = e; doing = d }) ≡ waits_in (record t { doing = d })
waits_errno t e (Ready since) = refl
waits_errno t e (Waits for since) = refl
waits_errno t e (Until for since deadline) = refl

-- an error number is not shown
pub errno_waits : (t : Thread) (e : Errno) → waits_in (record t { errno = number_of e }) ≡ waits_in t
errno_waits t e = waits_errno t (number_of e) t.doing

module _ (gs : List (Option Group)) (num : ℕ) (s : Schedule) (slot : ℕ) (t : Thread) (sound : AreSound s.threads gs num) (stands : Stands s.threads slot t) (waits : is_ready t.doing ≡ false) where
  woken : Thread → Thread
  woken u = record u { doing = Ready s.moments }

  found : thread_of s.threads t.number ≡ Some t
  found = (thread_only s.threads gs num slot t sound stands).0

  pub was_waiting : table_of s.threads gs t.number ≡ Some (waiting (row_of s.threads gs t) (call_of t.asked))
  was_waiting = ap (row_in s.threads gs) found ∙ ap (λ w. Some (let x : ThreadRow = record (row_of s.threads gs t) { waits = w } in x)) (waits_with t t.doing waits)

  now_ready : set_at (table_of s.threads gs) t.number (made_ready (table_of s.threads gs t.number)) ≡ set_at (table_of s.threads gs) t.number (Some (ready (row_of s.threads gs t)))
  now_ready = ap (λ o. set_at (table_of s.threads gs) t.number (made_ready o)) was_waiting

  after_one : (a : Reply) → a.thread ≡ t.number → after_replies (table_of s.threads gs) (a ∷ []) ≡ set_at (table_of s.threads gs) t.number (Some (ready (row_of s.threads gs t)))
  unfolding after_replies
  after_one a e = ap (λ n. set_at (table_of s.threads gs) n (made_ready (table_of s.threads gs n))) e ∙ now_ready

  fit_one : (a : Reply) → a.thread ≡ t.number → FitsCall (kinds_in t.asked.call) t.asked.words a.outputs → AreFit (table_of s.threads gs) (a ∷ [])
  fit_one a e f = (record { row = row_of s.threads gs t; call = call_of t.asked; waits = ap (table_of s.threads gs) e ∙ was_waiting; fits = f }, tt)

  sound_woken : AreSound (wake s t.number).threads gs num
  unfolding wake
  sound_woken = sound_changed (λ u. record u { doing = Ready s.moments }) (λ u. refl) (λ u. refl) t.number s.threads gs num sound (λ r u a e. tt)

  table_woken : table_of (wake s t.number).threads gs ≡ set_at (table_of s.threads gs) t.number (Some (ready (row_of s.threads gs t)))
  unfolding wake
  table_woken = fun_ext (λ m. table_changed (λ u. record u { doing = Ready s.moments }) (λ u. refl) (λ u. refl) t.number s.threads gs t found refl m)

  slots_woken : length (wake s t.number).threads ≡ length s.threads
  unfolding wake change_thread
  slots_woken = length_map (changed t.number (λ u. record u { doing = Ready s.moments })) s.threads

  pub wakes_with : (value : ℕ) (outputs : List (List ℕ)) → FitsCall (kinds_in t.asked.call) t.asked.words (both outputs) → Wakes gs num s (woken_with s t value outputs)
  wakes_with value outputs f = record {
    sound = sound_woken;
    fit = fit_one (reply t.number value outputs) refl f;
    table = table_woken ∙ sym (after_one (reply t.number value outputs) refl);
    slots = slots_woken;
  }

  pub wakes_failing : (e : Errno) → Wakes gs num s (woken_failing s t e)
  unfolding with_error change_thread
  wakes_failing e = record {
    sound = sound_changed (λ u. record u { errno = number_of e }) (λ u. refl) (λ u. refl) t.number (wake s t.number).threads gs num sound_woken (λ r u a q. let w = sound_woken.each_thread r u a in w.agrees);
    fit = fit_one (failure t.number e) refl (nothing_fits t.asked);
    table = fun_ext (λ m. table_kept (λ u. record u { errno = number_of e }) (λ u. refl) (λ u. refl) t.number (wake s t.number).threads gs (λ u. errno_waits u e) m) ∙ table_woken ∙ sym (after_one (failure t.number e) refl);
    slots = length_map (changed t.number (λ u. record u { errno = number_of e })) (wake s t.number).threads ∙ slots_woken;
  }

-- ---- who is found waits

-- a thread of a sort stands in the schedule
pub record Found (ts : List (Option Thread)) (test : Thread → Bool) (t : Thread) : Type 0 where
  pub slot : ℕ
  pub stands : Stands ts slot t
  pub passes : test t ≡ true

pub best_found : (test : Thread → Bool) (before : Thread → Thread → Bool) (ts : List (Option Thread)) (t : Thread) → best_from test before None ts ≡ Some t → Found ts test t
best_found test before ts t e = best_has test before (Found ts test) None ts (λ u q. absurd (none_some u q)) (λ p u a b. record { slot = p; stands = a; passes = b }) t e

pub first_stands : (s : Search) (ts : List (Option Thread)) (t : Thread) → first_of s ts ≡ Some t → Found ts (is_sought s) t
unfolding first_of
first_stands s ts t e = best_found (is_sought s) (precedes s) ts t e

lost_waits : (groups : List (Option Group)) (codes : List Code) (parent : ℕ) (d : Doing) → is_lost_wait groups codes parent (awaited d) ≡ true → is_ready d ≡ false
lost_waits groups codes parent (Ready since) e = absurd cc
lost_waits groups codes parent (Waits for since) e = refl
lost_waits groups codes parent (Until for since deadline) e = refl

pub child_waits : (child : ℕ) (d : Doing) → is_for_child child (awaited d) ≡ true → is_ready d ≡ false
child_waits child (Ready since) e = absurd cc
child_waits child (Waits for since) e = refl
child_waits child (Until for since deadline) e = refl

pub thread_waits : (number : ℕ) (d : Doing) → is_for_thread number (awaited d) ≡ true → is_ready d ≡ false
thread_waits number (Ready since) e = absurd cc
thread_waits number (Waits for since) e = refl
thread_waits number (Until for since deadline) e = refl

-- who waits for anything isn't ready
pub awaited_waits : (test : Option Wait → Bool) → test None ≡ false → (d : Doing) → test (awaited d) ≡ true → is_ready d ≡ false
awaited_waits test none (Ready since) e = absurd (off_on (test None) none e)
awaited_waits test none (Waits for since) e = refl
awaited_waits test none (Until for since deadline) e = refl

timed_waits : (d : Doing) → is_timed d ≡ true → is_ready d ≡ false
timed_waits (Ready since) e = absurd cc
timed_waits (Waits for since) e = absurd cc
timed_waits (Until for since deadline) e = refl

pub child_asked : (child : ℕ) (w : Option Wait) (a : Asked) → is_for_child child w ≡ true → Agrees w a → IsAsked call.Waitpid a
child_asked child None a e q = absurd cc
child_asked child (Some wait.Sleep) a e q = absurd cc
child_asked child (Some (wait.Receive place)) a e q = absurd cc
child_asked child (Some (wait.Send place)) a e q = absurd cc
child_asked child (Some (wait.Semaphore place)) a e q = absurd cc
child_asked child (Some (wait.Child number)) a e q = q
child_asked child (Some wait.AnyChild) a e q = q
child_asked child (Some (wait.Thread number)) a e q = absurd cc

pub thread_asked : (number : ℕ) (w : Option Wait) (a : Asked) → is_for_thread number w ≡ true → Agrees w a → IsAsked call.NxJoin a
thread_asked number None a e q = absurd cc
thread_asked number (Some wait.Sleep) a e q = absurd cc
thread_asked number (Some (wait.Receive place)) a e q = absurd cc
thread_asked number (Some (wait.Send place)) a e q = absurd cc
thread_asked number (Some (wait.Semaphore place)) a e q = absurd cc
thread_asked number (Some (wait.Child child)) a e q = absurd cc
thread_asked number (Some wait.AnyChild) a e q = absurd cc
thread_asked number (Some (wait.Thread thread)) a e q = q

pub message_asked : (place : ℕ) (w : Option Wait) (a : Asked) → is_for_message place w ≡ true → Agrees w a → IsReceiving a
message_asked place None a e q = absurd cc
message_asked place (Some wait.Sleep) a e q = absurd cc
message_asked place (Some (wait.Receive queue)) a e q = q
message_asked place (Some (wait.Send queue)) a e q = absurd cc
message_asked place (Some (wait.Semaphore semaphore)) a e q = absurd cc
message_asked place (Some (wait.Child child)) a e q = absurd cc
message_asked place (Some wait.AnyChild) a e q = absurd cc
message_asked place (Some (wait.Thread thread)) a e q = absurd cc

-- ---- those that wait for no child any more, and those whose deadline has come

pub refused_wake : (groups : List (Option Group)) (codes : List Code) (parent : ℕ) (gs : List (Option Group)) (num n : ℕ) (s : Schedule) → AreSound s.threads gs num → Wakes gs num s (refuse_lost groups codes parent n s)
unfolding first_lost
refused_wake groups codes parent gs num zero s sound = wakes_none gs num s sound
refused_wake groups codes parent gs num (suc n) s sound = by_thread (first_lost groups codes parent s) refl (λ r ok. refused_wake groups codes parent gs num n r ok)
  where
    by_thread : (o : Option Thread) → first_lost groups codes parent s ≡ o → ((r : Schedule) → AreSound r.threads gs num → Wakes gs num r (refuse_lost groups codes parent n r)) → Wakes gs num s (refuse_first s (refuse_lost groups codes parent n) o)
    by_thread None e more = wakes_none gs num s sound
    by_thread (Some t) e more =
        let f = best_found (is_lost groups codes parent) comes_before s.threads t e in
        let w = wakes_failing gs num s f.slot t sound f.stands (lost_waits groups codes parent t.doing (and_parts _ _ f.passes).1) errno.Echild in
        wakes_then gs num s (woken_failing s t errno.Echild) (refuse_lost groups codes parent n) w (more (woken_failing s t errno.Echild).sched w.sound)

pub due_wake : (time : ℕ) (gs : List (Option Group)) (num n : ℕ) (s : Schedule) → AreSound s.threads gs num → Wakes gs num s (wake_due time n s)
unfolding first_due
due_wake time gs num zero s sound = wakes_none gs num s sound
due_wake time gs num (suc n) s sound = by_thread (first_due time s) refl (λ r ok. due_wake time gs num n r ok)
  where
    by_wait : (t : Thread) → (f : Found s.threads (is_sought search.Timed) t) → (w : Option Wait) → Wakes gs num s (timed_out s t w)
    by_wait t f (Some wait.Sleep) = wakes_with gs num s f.slot t sound f.stands (timed_waits t.doing f.passes) 0 [] (nothing_fits t.asked)
    by_wait t f None = wakes_failing gs num s f.slot t sound f.stands (timed_waits t.doing f.passes) errno.Etimedout
    by_wait t f (Some (wait.Receive place)) = wakes_failing gs num s f.slot t sound f.stands (timed_waits t.doing f.passes) errno.Etimedout
    by_wait t f (Some (wait.Send place)) = wakes_failing gs num s f.slot t sound f.stands (timed_waits t.doing f.passes) errno.Etimedout
    by_wait t f (Some (wait.Semaphore place)) = wakes_failing gs num s f.slot t sound f.stands (timed_waits t.doing f.passes) errno.Etimedout
    by_wait t f (Some (wait.Child child)) = wakes_failing gs num s f.slot t sound f.stands (timed_waits t.doing f.passes) errno.Etimedout
    by_wait t f (Some wait.AnyChild) = wakes_failing gs num s f.slot t sound f.stands (timed_waits t.doing f.passes) errno.Etimedout
    by_wait t f (Some (wait.Thread thread)) = wakes_failing gs num s f.slot t sound f.stands (timed_waits t.doing f.passes) errno.Etimedout

    by_due : (o : Option Thread) → first_of search.Timed s.threads ≡ o → (t : Thread) → if_due time o ≡ Some t → Found s.threads (is_sought search.Timed) t
    by_due None e t q = absurd (none_some t q)
    by_due (Some u) e t q = by_test (nat_le (deadline_of u.doing) time) q
      where
        by_test : (b : Bool) → (if b then Some u else None) ≡ Some t → Found s.threads (is_sought search.Timed) t
        by_test true z = first_stands search.Timed s.threads t (e ∙ z)
        by_test false z = absurd (none_some t z)

    due_found : (t : Thread) → first_due time s ≡ Some t → Found s.threads (is_sought search.Timed) t
    due_found t e = by_due (first_of search.Timed s.threads) refl t e

    by_thread : (o : Option Thread) → first_due time s ≡ o → ((r : Schedule) → AreSound r.threads gs num → Wakes gs num r (wake_due time n r)) → Wakes gs num s (wake_first s (wake_due time n) o)
    by_thread None e more = wakes_none gs num s sound
    by_thread (Some t) e more =
        let w = by_wait t (due_found t e) (awaited t.doing) in
        wakes_then gs num s (timed_out s t (awaited t.doing)) (wake_due time n) w (more (timed_out s t (awaited t.doing)).sched w.sound)

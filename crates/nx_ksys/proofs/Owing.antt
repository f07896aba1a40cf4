-- What a call owes: the table that its answers say, replies that are due, a lawful start, and a sound state.
use Rattle.std.proofs.Common.{◌≡◌, ℕ, ◌+◌, ◌≤◌, Bool, true, false, List, [], ◌∷◌, ◌++◌, length, min, Option, Some, None, refl, sym, ap, ◌∙◌, subst, arith, length-append}
use mathlib.Core.Path.{fun_ext}
use Rattle.std.specs.Prelude.{nat_lt, if◌then◌else◌}
use Rattle.std.proofs.lemmas.Bool.Decides.{nat_tests}
use Rattle.nx_base.specs.Calls.{Reply}
use Rattle.nx_base.specs.Replies.{FitsCall, most_moved}
use Rattle.nx_base.specs.ErrorNumbers.{number_of}
use Rattle.nx_base.specs.declared.calls.KCall.{KCall}
use Rattle.nx_base.specs.declared.errno.Errno.{Errno}
use Rattle.nx_base.specs.declared.errno.Errno.TheVariants as errno
use Rattle.nx_ksys.specs.declared.thread.Asked.{Asked}
use Rattle.nx_ksys.specs.declared.thread.Thread.{Thread}
use Rattle.nx_ksys.specs.declared.thread.Wait.{Wait}
use Rattle.nx_ksys.specs.Telling.{both, reply, failure}
use Rattle.nx_ksys.specs.Threads.{thread_of, changed, change_thread, with_error, awaited, begin_wait, block, Woken}
use Rattle.nx_ksys.specs.State.{Message, Group, KernelState}
use Rattle.nx_ksys.specs.Answers.{Stays, Stepped, Caller, with_errno, replied, replied_then, failed, waits, text_out}
use Rattle.nx_ksys.specs.ThreadTable.{WaitingCall, ThreadRow, waits_in}
use Rattle.nx_ksys.specs.Soundness.{Stands, Agrees, AreSound, IsSound}
use Rattle.nx_ksys.specs.TableLaws.{Table, set_at, waiting, ready, made_ready, after_replies, after_effect, kinds_in, IsAllowed}
use Rattle.nx_ksys.proofs.Standing.{some_same, length_map}
use Rattle.nx_ksys.proofs.Tables.{set_at_same, set_id, set_set, row_of, row_in, table_of, thread_only, table_kept, table_changed, sound_changed}
use Rattle.nx_ksys.proofs.Waking.{AreFit, no_replies, call_of, nothing_fits, errno_waits, Wakes}

-- a wait that begins
begun_waits : (t : Thread) (a : Asked) (moment : ℕ) (for : Wait) (deadline : Option ℕ) → waits_in (record t { doing = begin_wait moment for deadline; asked = a }) ≡ Some (call_of a)
begun_waits t a moment for None = refl
begun_waits t a moment for (Some deadline) = refl

begun_awaits : (moment : ℕ) (for : Wait) (deadline : Option ℕ) → awaited (begin_wait moment for deadline) ≡ Some for
begun_awaits moment for None = refl
begun_awaits moment for (Some deadline) = refl

-- the table of a state
abbrev pub tab : KernelState → Table
tab k = table_of k.sched.threads k.groups

pub tab_at : (k : KernelState) (ts : List (Option Thread)) (gs : List (Option Group)) → k.sched.threads ≡ ts → k.groups ≡ gs → tab k ≡ table_of ts gs
tab_at k ts gs a b = ap (λ us. table_of us k.groups) a ∙ ap (table_of ts) b

pub sound_at : (k : KernelState) (ts : List (Option Thread)) (gs : List (Option Group)) (num : ℕ) → k.sched.threads ≡ ts → k.groups ≡ gs → k.numbers ≡ num → AreSound ts gs num → IsSound k
sound_at k ts gs num a b c s = subst (λ us. AreSound us k.groups k.numbers) (sym a) (subst (λ hs. AreSound ts hs k.numbers) (sym b) (subst (AreSound ts gs) (sym c) s))

-- threads and groups as they were, but for what the table doesn't show
pub record Same (k l : KernelState) : Type 0 where
  pub sound : IsSound k → IsSound l
  pub table : tab l ≡ tab k
  pub slots : length l.sched.threads ≡ length k.sched.threads

-- none of a schedule, the groups and the count of numbers changes
pub record Keeps (k l : KernelState) : Type 0 where
  pub sched : l.sched ≡ k.sched
  pub groups : l.groups ≡ k.groups
  pub numbers : l.numbers ≡ k.numbers

pub keeps_refl : (k : KernelState) → Keeps k k
keeps_refl k = record { sched = refl; groups = refl; numbers = refl }

pub keeps_on : (k l m : KernelState) → Keeps k l → Keeps l m → Keeps k m
keeps_on k l m a b = record { sched = b.sched ∙ a.sched; groups = b.groups ∙ a.groups; numbers = b.numbers ∙ a.numbers }

pub keeps_either : (k : KernelState) (b : Bool) (l m : KernelState) → Keeps k l → Keeps k m → Keeps k (if b then l else m)
keeps_either k true l m x y = x
keeps_either k false l m x y = y

pub keeps_same : (k l : KernelState) → Keeps k l → Same k l
keeps_same k l e = record {
  sound = λ s. sound_at l k.sched.threads k.groups k.numbers (ap (λ t. t.threads) e.sched) e.groups e.numbers s;
  table = tab_at l k.sched.threads k.groups (ap (λ t. t.threads) e.sched) e.groups;
  slots = ap (λ t. length t.threads) e.sched;
}

-- a caller stands in its slot, and its group in its place
pub record Calls (k : KernelState) (c : Caller) : Type 0 where
  pub sound : IsSound k
  pub slot : ℕ
  pub stands : Stands k.sched.threads slot c.thread
  pub lives : Stands k.groups c.place c.group
  pub member : c.thread.group ≡ c.group.number

-- the caller waits in its call
abbrev pub waits_table : KernelState → Caller → ThreadRow → Table
waits_table k c x = set_at (tab k) c.thread.number (Some (waiting x (call_of c.asked)))

-- the caller is ready
abbrev pub IsReady : KernelState → ℕ → ThreadRow → Type 0
IsReady k i x = tab k i ≡ Some (ready x)

pub record Owes (k : KernelState) (i : ℕ) (x : ThreadRow) (which : Option KCall) (u : Table) (s : Stepped) : Type 0 where
  pub effect : IsReady k i x → IsAllowed k u x which s.effect
  pub fit : IsReady k i x → AreFit (after_effect u s.effect) s.replies
  pub table : IsReady k i x → tab s.to ≡ after_replies (after_effect u s.effect) s.replies
  pub sound : IsSound s.to
  pub slots : length s.to.sched.threads ≡ length k.sched.threads

-- a call that isn't a thread's last
pub record Lawful (k : KernelState) (c : Caller) (x : ThreadRow) (s : Stepped) : Type 0 where
  pub owes : Owes k c.thread.number x c.asked.call (waits_table k c x) s

-- outputs of so many bytes fit the call, for a buffer of a size
abbrev pub Takes : Asked → ℕ → Type 0
Takes a size = (o : List ℕ) → length o ≤ min size most_moved → FitsCall (kinds_in a.call) a.words (o ∷ [] ∷ [])

pub either : (k : KernelState) (c : Caller) (x : ThreadRow) (b : Bool) (s t : Stepped) → Lawful k c x s → Lawful k c x t → Lawful k c x (if b then s else t)
either k c x true s t p q = p
either k c x false s t p q = q

-- the caller's reply makes it ready again
pub caller_replied : (t : Table) (x : ThreadRow) (c : WaitingCall) (a : Reply) (rs : List Reply) → after_replies (set_at t a.thread (Some (waiting x c))) (a ∷ rs) ≡ after_replies (set_at t a.thread (Some (ready x))) rs
unfolding after_replies
caller_replied t x c a rs =
    ap (λ o. after_replies (set_at (set_at t a.thread (Some (waiting x c))) a.thread (made_ready o)) rs) (set_at_same t a.thread (Some (waiting x c)))
    ∙ ap (λ f. after_replies f rs) (set_set t a.thread (Some (waiting x c)) (Some (ready x)))

-- a reply to a caller that waits fits the table
pub caller_fits : (t : Table) (x : ThreadRow) (c : WaitingCall) (a : Reply) → FitsCall (kinds_in c.call) c.words a.outputs → AreFit (set_at t a.thread (Some (waiting x c))) (a ∷ [])
caller_fits t x c a f = (record { row = x; call = c; waits = set_at_same t a.thread (Some (waiting x c)); fits = f }, tt)

module _ (k : KernelState) (c : Caller) (x : ThreadRow) (h : Calls k c) where
  told_at_once : (l : KernelState) (a : Reply) → a.thread ≡ c.thread.number → Same k l → FitsCall (kinds_in c.asked.call) c.asked.words a.outputs → Lawful k c x (record { to = l; effect = Stays; replies = a ∷ [] })
  told_at_once l a e same f = record {
    owes = record {
      effect = λ r. tt;
      fit = λ r. subst (λ n. AreFit (set_at (tab k) n (Some (waiting x (call_of c.asked)))) (a ∷ [])) e (caller_fits (tab k) x (call_of c.asked) a f);
      table = λ r. same.table ∙ sym (set_id (tab k) c.thread.number (Some (ready x)) r) ∙ sym (no_replies (set_at (tab k) c.thread.number (Some (ready x))))
          ∙ sym (subst (λ n. after_replies (set_at (tab k) n (Some (waiting x (call_of c.asked)))) (a ∷ []) ≡ after_replies (set_at (tab k) n (Some (ready x))) []) e (caller_replied (tab k) x (call_of c.asked) a []));
      sound = same.sound h.sound;
      slots = same.slots;
    };
  }

  pub answers : (l : KernelState) (value : ℕ) (outputs : List (List ℕ)) → Same k l → FitsCall (kinds_in c.asked.call) c.asked.words (both outputs) → Lawful k c x (replied l c value outputs)
  answers l value outputs same f = told_at_once l (reply c.thread.number value outputs) refl same f

  pub plain : (l : KernelState) (value : ℕ) → Same k l → Lawful k c x (replied l c value [])
  plain l value same = answers l value [] same (nothing_fits c.asked)

  with_errno_same : (l : KernelState) (e : Errno) → Same k l → Same k (with_errno l c.thread.number e)
  unfolding with_error change_thread
  with_errno_same l e same = record {
    sound = λ s. let o = same.sound s in sound_changed (λ u. record u { errno = number_of e }) (λ u. refl) (λ u. refl) c.thread.number l.sched.threads l.groups l.numbers o (λ r u a q. let w = o.each_thread r u a in w.agrees);
    table = fun_ext (λ m. table_kept (λ u. record u { errno = number_of e }) (λ u. refl) (λ u. refl) c.thread.number l.sched.threads l.groups (λ u. errno_waits u e) m) ∙ same.table;
    slots = length_map (changed c.thread.number (λ u. record u { errno = number_of e })) l.sched.threads ∙ same.slots;
  }

  pub fails_after : (l : KernelState) (e : Errno) → Same k l → Lawful k c x (failed l c e)
  fails_after l e same = told_at_once (with_errno l c.thread.number e) (failure c.thread.number e) refl (with_errno_same l e same) (nothing_fits c.asked)

  pub fails : (e : Errno) → Lawful k c x (failed k c e)
  fails e = fails_after k e (record { sound = λ s. s; table = refl; slots = refl })

  pub texts : (size : ℕ) (text : List ℕ) → Takes c.asked size → Lawful k c x (text_out k c size text)
  texts size text takes = by_test (nat_lt (length text) (min size most_moved)) refl
    where
      by_test : (b : Bool) → nat_lt (length text) (min size most_moved) ≡ b → Lawful k c x (if b then replied k c (length text) ((text ++ 0 ∷ []) ∷ []) else failed k c errno.Einval)
      by_test true e = answers k (length text) ((text ++ 0 ∷ []) ∷ []) (keeps_same k k (keeps_refl k)) (takes (text ++ 0 ∷ []) (fits_in e))
        where
          fits_in : nat_lt (length text) (min size most_moved) ≡ true → length (text ++ 0 ∷ []) ≤ min size most_moved
          fits_in q = let l : length text + 1 ≤ min size most_moved = grind (arith, nat_tests) in let a = length-append text (0 ∷ []) in omega (arith, l, a)
      by_test false e = fails errno.Einval

  found : thread_of k.sched.threads c.thread.number ≡ Some c.thread
  found = (thread_only k.sched.threads k.groups k.numbers h.slot c.thread h.sound h.stands).0

  pub caller_row : IsReady k c.thread.number x → row_of k.sched.threads k.groups c.thread ≡ ready x
  caller_row r = some_same (row_of k.sched.threads k.groups c.thread) (ready x) (sym (ap (row_in k.sched.threads k.groups) found) ∙ r)

  -- the caller waits, perhaps with a message that it sends
  pub blocks_sending : (sending : List (Option Message)) (for : Wait) (deadline : Option ℕ) → Agrees (Some for) c.asked → Lawful k c x (waits (record k { sending = sending }) c for deadline)
  unfolding block change_thread
  blocks_sending sending for deadline agrees = record {
    owes = record {
      effect = λ r. tt;
      fit = λ r. tt;
      table = λ r. fun_ext (λ m. table_changed (λ u. record u { doing = begin_wait k.sched.moments for deadline; asked = c.asked }) (λ u. refl) (λ u. refl) c.thread.number k.sched.threads k.groups c.thread found refl m)
          ∙ ap (λ w. set_at (tab k) c.thread.number (Some (let y : ThreadRow = record (row_of k.sched.threads k.groups c.thread) { waits = w } in y))) (begun_waits c.thread c.asked k.sched.moments for deadline)
          ∙ ap (λ y. set_at (tab k) c.thread.number (Some (waiting y (call_of c.asked)))) (caller_row r)
          ∙ sym (no_replies (waits_table k c x));
      sound = sound_changed (λ u. record u { doing = begin_wait k.sched.moments for deadline; asked = c.asked }) (λ u. refl) (λ u. refl) c.thread.number k.sched.threads k.groups k.numbers h.sound
          (λ r u a q. subst (λ w. Agrees w c.asked) (sym (begun_awaits k.sched.moments for deadline)) agrees);
      slots = length_map (changed c.thread.number (λ u. record u { doing = begin_wait k.sched.moments for deadline; asked = c.asked })) k.sched.threads;
    };
  }

  pub blocks : (for : Wait) (deadline : Option ℕ) → Agrees (Some for) c.asked → Lawful k c x (waits k c for deadline)
  blocks for deadline agrees = blocks_sending k.sending for deadline agrees

  -- the caller is answered, and then others go on
  pub answers_then : (l : KernelState) (value : ℕ) (outputs : List (List ℕ)) (w : Woken) → Keeps k l → FitsCall (kinds_in c.asked.call) c.asked.words (both outputs) → Wakes k.groups k.numbers k.sched w → Lawful k c x (replied_then l c value outputs w)
  answers_then l value outputs w keep f wakes =
      let told : Table = waits_table k c x in
      let answered : (t : Table) → Type 0 = λ t. AreFit t w.replies in
      record {
        owes = record {
          effect = λ r. tt;
          fit = λ r. (
            (caller_fits (tab k) x (call_of c.asked) (reply c.thread.number value outputs) f).0,
            subst answered (sym (ap (λ o. set_at told c.thread.number (made_ready o)) (set_at_same (tab k) c.thread.number (Some (waiting x (call_of c.asked))))
                ∙ set_set (tab k) c.thread.number (Some (waiting x (call_of c.asked))) (Some (ready x))
                ∙ set_id (tab k) c.thread.number (Some (ready x)) r)) wakes.fit,
          );
          table = λ r. ap (table_of w.sched.threads) keep.groups ∙ wakes.table ∙ sym (ap (λ t. after_replies t w.replies) (set_id (tab k) c.thread.number (Some (ready x)) r))
              ∙ sym (caller_replied (tab k) x (call_of c.asked) (reply c.thread.number value outputs) w.replies);
          sound = sound_at (record l { sched = w.sched }) w.sched.threads k.groups k.numbers refl keep.groups keep.numbers wakes.sound;
          slots = wakes.slots;
        };
      }

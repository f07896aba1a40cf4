-- Ends, starts and choices: what they tell is words and bytes.
use Rattle.std.proofs.Common.{◌≡◌, ℕ, zero, suc, ◌+◌, ◌<◌, ◌%◌, ◌^◌, ◌==◌, Bool, true, false, List, [], ◌∷◌, ◌++◌, length, drop, map, Option, Some, None, refl, sym, ap, ◌∙◌, subst, arith}
use Rattle.std.specs.Prelude.{not, slice_get, slice_set, if◌then◌else◌}
use Rattle.std.specs.List.{list_any}
use Rattle.std.specs.Option.{is_some}
use Rattle.nx_base.specs.ByteLists.{AreBytes}
use Rattle.nx_base.specs.ErrorNumbers.{number_of}
use Rattle.nx_base.specs.declared.errno.Errno.{Errno}
use Rattle.nx_base.specs.declared.errno.Errno.TheVariants as errno
use Rattle.nx_ksys.specs.declared.thread.Doing.TheVariants.{Ready}
use Rattle.nx_ksys.specs.declared.thread.Thread.{Thread}
use Rattle.nx_ksys.specs.declared.thread.Wait.{Wait}
use Rattle.nx_ksys.specs.declared.thread.Wait.TheVariants as wait
use Rattle.nx_ksys.specs.declared.thread.Search.TheVariants as search
use Rattle.nx_ksys.specs.declared.pick.Pick.TheVariants.{Ended}
use Rattle.nx_ksys.specs.Telling.{reply, failure}
use Rattle.nx_ksys.specs.Threads.{Schedule, flat, awaited, deadline_of, first_of, wake, with_error, Woken, none_woken, woken_then, woken_with, woken_failing}
use Rattle.nx_ksys.specs.State.{Message, Group, Code, ThreadValue, Ending, KernelState}
use Rattle.nx_ksys.specs.Descriptors.{queue_lives, living_from, without_idle}
use Rattle.nx_ksys.specs.Answers.{Caller, replied_then, int_out}
use Rattle.nx_ksys.specs.Ends.{WithReplies, told_by, first_lost, refuse_first, refuse_lost, and_lost, without_group, kept_message, kept_messages, vanished, without_descriptors, nobodys, left_alone, recorded, hand_over, told_parent, end_of, end_group, exit_row, without_thread, gone, hand_value, end_thread, thread_exit_row}
use Rattle.nx_ksys.specs.Picking.{timed_out, first_due, wake_first, wake_due, next_late, passed, passed_if, advanced, Picked, picked_after, picked}
use Rattle.nx_ksys.specs.Soundness.{Stands, EachStanding}
use Rattle.nx_ksys.specs.ByteLaws.{Each, IsGroupOfBytes, IsThreadOfBytes, IsCodeOfWord, IsMessageOfBytes, IsQueueOfBytes, IsOfBytes, IsTold}
use Rattle.nx_ksys.proofs.Standing.{some_same, none_some, flat_some}
use Rattle.nx_ksys.proofs.ByteWalks.{each_none, each_more, each_joined, each_kept, standing_changed, standing_gone}
use Rattle.nx_ksys.proofs.PathBytes.{either_is}
use Rattle.nx_ksys.proofs.Saying.{told_reply, told_failure, one_told, int_output, changed_bytes, errno_fits, with_threads_bytes, with_codes_bytes, with_queues_bytes, Says, either}
use Rattle.nx_ksys.proofs.FileBytes.{all_closed_bytes}

-- ---- threads that go on

pub record WakesBytes (w : Woken) : Type 0 where
  pub threads : EachStanding IsThreadOfBytes w.sched.threads
  pub told : Each IsTold w.replies

wakes_none : (s : Schedule) → EachStanding IsThreadOfBytes s.threads → WakesBytes (none_woken s)
wakes_none s h = record { threads = h; told = each_none IsTold }

wakes_then : (w : Woken) (more : Schedule → Woken) → WakesBytes w → WakesBytes (more w.sched) → WakesBytes (woken_then w more)
wakes_then w more a b = record { threads = b.threads; told = each_joined IsTold w.replies (more w.sched).replies a.told b.told }

pub wakes_with : (s : Schedule) (t : Thread) (value : ℕ) (outputs : List (List ℕ)) → EachStanding IsThreadOfBytes s.threads → value < 2 ^ 32 → Each AreBytes outputs → WakesBytes (woken_with s t value outputs)
unfolding wake
wakes_with s t value outputs h v o = record {
  threads = changed_bytes (λ u. record u { doing = Ready s.moments }) t.number s.threads (λ u g. let p = g.priority in let e = g.errno in record { priority = p; errno = e }) h;
  told = one_told (reply t.number value outputs) (told_reply t.number value outputs v o);
}

wakes_failing : (s : Schedule) (t : Thread) (e : Errno) → EachStanding IsThreadOfBytes s.threads → WakesBytes (woken_failing s t e)
unfolding with_error wake
wakes_failing s t e h = record {
  threads = changed_bytes (λ u. record u { errno = number_of e }) t.number (wake s t.number).threads (λ u g. let p = g.priority in record { priority = p; errno = errno_fits e })
      (changed_bytes (λ u. record u { doing = Ready s.moments }) t.number s.threads (λ u g. let p = g.priority in let f = g.errno in record { priority = p; errno = f }) h);
  told = one_told (failure t.number e) (told_failure t.number e);
}

refused_bytes : (groups : List (Option Group)) (codes : List Code) (parent n : ℕ) (s : Schedule) → EachStanding IsThreadOfBytes s.threads → WakesBytes (refuse_lost groups codes parent n s)
refused_bytes groups codes parent zero s h = wakes_none s h
refused_bytes groups codes parent (suc n) s h = by_thread (first_lost groups codes parent s) (λ r g. refused_bytes groups codes parent n r g)
  where
    by_thread : (o : Option Thread) → ((r : Schedule) → EachStanding IsThreadOfBytes r.threads → WakesBytes (refuse_lost groups codes parent n r)) → WakesBytes (refuse_first s (refuse_lost groups codes parent n) o)
    by_thread None more = wakes_none s h
    by_thread (Some t) more = let w = wakes_failing s t errno.Echild h in wakes_then (woken_failing s t errno.Echild) (refuse_lost groups codes parent n) w (more (woken_failing s t errno.Echild).sched w.threads)

due_bytes : (time n : ℕ) (s : Schedule) → EachStanding IsThreadOfBytes s.threads → WakesBytes (wake_due time n s)
due_bytes time zero s h = wakes_none s h
due_bytes time (suc n) s h = by_thread (first_due time s) (λ r g. due_bytes time n r g)
  where
    by_wait : (t : Thread) (w : Option Wait) → WakesBytes (timed_out s t w)
    by_wait t (Some wait.Sleep) = wakes_with s t 0 [] h (omega arith) (each_none AreBytes)
    by_wait t None = wakes_failing s t errno.Etimedout h
    by_wait t (Some (wait.Receive place)) = wakes_failing s t errno.Etimedout h
    by_wait t (Some (wait.Send place)) = wakes_failing s t errno.Etimedout h
    by_wait t (Some (wait.Semaphore place)) = wakes_failing s t errno.Etimedout h
    by_wait t (Some (wait.Child child)) = wakes_failing s t errno.Etimedout h
    by_wait t (Some wait.AnyChild) = wakes_failing s t errno.Etimedout h
    by_wait t (Some (wait.Thread thread)) = wakes_failing s t errno.Etimedout h

    by_thread : (o : Option Thread) → ((r : Schedule) → EachStanding IsThreadOfBytes r.threads → WakesBytes (wake_due time n r)) → WakesBytes (wake_first s (wake_due time n) o)
    by_thread None more = wakes_none s h
    by_thread (Some t) more = let w = by_wait t (awaited t.doing) in wakes_then (timed_out s t (awaited t.doing)) (wake_due time n) w (more (timed_out s t (awaited t.doing)).sched w.threads)

-- the caller is answered, and then others go on
pub says_then : (l : KernelState) (c : Caller) (value : ℕ) (outputs : List (List ℕ)) (w : Woken) → IsOfBytes l → value < 2 ^ 32 → Each AreBytes outputs → WakesBytes w → Says (replied_then l c value outputs w)
says_then l c value outputs w h v o g = record {
  kept = with_threads_bytes l w.sched.threads h g.threads;
  told = each_more IsTold (reply c.thread.number value outputs) w.replies (told_reply c.thread.number value outputs v o) g.told;
}

-- ---- ends

record TellsBytes (told : WithReplies) : Type 0 where
  kept : IsOfBytes told.to
  replies : Each IsTold told.replies

woken_tells : (k : KernelState) (w : Woken) → IsOfBytes k → WakesBytes w → TellsBytes (told_by k w)
woken_tells k w b h = record { kept = with_threads_bytes k w.sched.threads b h.threads; replies = h.told }

lost_tells : (parent : ℕ) (told : WithReplies) → TellsBytes told → TellsBytes (and_lost parent told)
lost_tells parent told h =
    let l = told.to in
    let w = refuse_lost l.groups l.codes parent (length l.sched.threads) l.sched in
    let r = refused_bytes l.groups l.codes parent (length l.sched.threads) l.sched (let k = h.kept in k.each_thread) in
    record { kept = with_threads_bytes l w.sched.threads h.kept r.threads; replies = each_joined IsTold told.replies w.replies h.replies r.told }

parent_tells : (k : KernelState) (code : Code) → IsOfBytes k → IsCodeOfWord code → TellsBytes (told_parent code k)
unfolding told_parent
parent_tells k code b c =
    either_is TellsBytes (code.parent == 0) (record { to = k; replies = [] }) (and_lost code.parent (hand_over k code (first_of (search.Parent code.parent code.child) k.sched.threads)))
    (record { kept = b; replies = each_none IsTold }) (lost_tells code.parent _ (handed (first_of (search.Parent code.parent code.child) k.sched.threads)))
  where
    handed : (o : Option Thread) → TellsBytes (hand_over k code o)
    handed None = record { kept = with_codes_bytes k (k.codes ++ code ∷ []) b (each_joined IsCodeOfWord k.codes (code ∷ []) b.children (each_more IsCodeOfWord code [] c (each_none IsCodeOfWord))); replies = each_none IsTold }
    handed (Some t) = woken_tells k (woken_with k.sched t code.child (int_out code.code ∷ [])) b (wakes_with k.sched t code.child (int_out code.code ∷ []) b.each_thread c (int_output code.code))

-- threads that vanish leave what the others are
dropped_bytes : (f : Option Thread → Option Thread) → ((t y : Thread) → f (Some t) ≡ Some y → t ≡ y) → f None ≡ None → (ts : List (Option Thread)) → EachStanding IsThreadOfBytes ts → EachStanding IsThreadOfBytes (map f ts)
dropped_bytes f same none ts h = standing_changed IsThreadOfBytes f ts by_one h
  where
    by_one : (o : Option Thread) (y : Thread) → f o ≡ Some y → ((x : Thread) → o ≡ Some x → IsThreadOfBytes x) → IsThreadOfBytes y
    by_one None y e g = absurd (none_some y (sym none ∙ e))
    by_one (Some t) y e g = subst IsThreadOfBytes (same t y e) (g t refl)

left_if : (b : Bool) (t y : Thread) → (if b then None else Some t) ≡ Some y → t ≡ y
left_if true t y e = absurd (none_some y e)
left_if false t y e = some_same t y e

nobodys_bytes : (number : ℕ) (gs : List (Option Group)) → EachStanding IsGroupOfBytes gs → EachStanding IsGroupOfBytes (map (nobodys number) gs)
nobodys_bytes number gs h = standing_changed IsGroupOfBytes (nobodys number) gs by_one h
  where
    by_test : (g y : Group) (b : Bool) → (if b then Some (record g { parent = 0 }) else Some g) ≡ Some y → IsGroupOfBytes g → IsGroupOfBytes y
    by_test g y true e p = let d = p.directory in let a = p.arguments in let f = p.few in let n = p.names in let v = p.values in subst IsGroupOfBytes (some_same (record g { parent = 0 }) y e) (record { directory = d; arguments = a; few = f; names = n; values = v })
    by_test g y false e p = subst IsGroupOfBytes (some_same g y e) p

    by_one : (o : Option Group) (y : Group) → nobodys number o ≡ Some y → ((x : Group) → o ≡ Some x → IsGroupOfBytes x) → IsGroupOfBytes y
    by_one None y e p = absurd (none_some y e)
    by_one (Some g) y e p = by_test g y (g.parent == number) e (p g refl)

-- a message that is left stood there
messages_left : (group : ℕ) (ts : List (Option Thread)) (ms : List (Option Message)) → EachStanding IsMessageOfBytes ms → EachStanding IsMessageOfBytes (kept_messages group ts ms)
messages_left group [] ms h = h
messages_left group (t ∷ ts) [] h = h
messages_left group (t ∷ ts) (m ∷ ms) h = by_place (messages_left group ts ms (λ p y e. h (suc p) y e))
  where
    by_test : (b : Bool) (y : Message) → (if b then None else m) ≡ Some y → IsMessageOfBytes y
    by_test true y e = absurd (none_some y e)
    by_test false y e = h 0 y (ap Some e)

    by_thread : (o : Option Thread) (y : Message) → kept_message group o m ≡ Some y → IsMessageOfBytes y
    by_thread None y e = h 0 y (ap Some e)
    by_thread (Some u) y e = by_test (u.group == group) y e

    by_place : EachStanding IsMessageOfBytes (kept_messages group ts ms) → (p : ℕ) (y : Message) → slice_get (kept_message group t m ∷ kept_messages group ts ms) p ≡ Some (Some y) → IsMessageOfBytes y
    by_place rest zero y e = by_thread t y (some_same (kept_message group t m) (Some y) e)
    by_place rest (suc p) y e = rest p y e

living_standing : {A : Type 0} (P : A → Type 0) (lives : ℕ → Bool) (place : ℕ) (xs : List (Option A)) → EachStanding P xs → EachStanding P (living_from lives place xs)
living_standing P lives place [] h = h
living_standing {A} P lives place (x ∷ xs) h = by_place (living_standing P lives (place + 1) xs (λ p y e. h (suc p) y e))
  where
    by_test : (b : Bool) (y : A) → (if b then x else None) ≡ Some y → P y
    by_test true y e = h 0 y (ap Some e)
    by_test false y e = absurd (none_some y e)

    by_place : EachStanding P (living_from lives (place + 1) xs) → (p : ℕ) (y : A) → slice_get ((if lives place then x else None) ∷ living_from lives (place + 1) xs) p ≡ Some (Some y) → P y
    by_place rest zero y e = by_test (lives place) y (some_same (if lives place then x else None) (Some y) e)
    by_place rest (suc p) y e = rest p y e

idle_bytes : (k : KernelState) → IsOfBytes k → IsOfBytes (without_idle k)
unfolding without_idle
idle_bytes k b = with_queues_bytes k (living_from (queue_lives k) 0 k.queues) k.sending b (living_standing IsQueueOfBytes (queue_lives k) 0 k.queues b.each_queue) b.each_sent

vanished_bytes : (k : KernelState) (g : Group) → IsOfBytes k → IsOfBytes (vanished g.number k)
unfolding vanished
vanished_bytes k g b = idle_bytes _ (record {
  names = b.names;
  paths = b.paths;
  contents = b.contents;
  each_group = b.each_group;
  each_thread = dropped_bytes (without_group g.number) (λ t y q. left_if (t.group == g.number) t y q) refl k.sched.threads b.each_thread;
  children = b.children;
  rest = b.rest;
  each_queue = b.each_queue;
  each_sent = messages_left g.number k.sched.threads k.sending b.each_sent;
})

ended_bytes : (k : KernelState) (place : ℕ) (g : Group) (e : Ending) → IsOfBytes k → IsOfBytes (recorded e (left_alone place g.number (without_descriptors place (vanished g.number k))))
unfolding left_alone without_descriptors
ended_bytes k place g e b =
    let d = all_closed_bytes 32 0 place (vanished g.number k) (vanished_bytes k g b) in
    record {
      names = d.names;
      paths = d.paths;
      contents = d.contents;
      each_group = nobodys_bytes g.number (slice_set (without_descriptors place (vanished g.number k)).groups place None) (standing_gone IsGroupOfBytes (without_descriptors place (vanished g.number k)).groups place d.each_group);
      each_thread = d.each_thread;
      children = each_kept IsCodeOfWord (λ c. not (c.parent == g.number)) (without_descriptors place (vanished g.number k)).codes d.children;
      rest = d.rest;
      each_queue = d.each_queue;
      each_sent = d.each_sent;
    }

group_tells : (k : KernelState) (place code : ℕ) → IsOfBytes k → ((g : Group) → Stands k.groups place g → g.number < 2 ^ 32) → TellsBytes (end_group k place code)
unfolding end_group
group_tells k place code b numbers = by_group (flat (slice_get k.groups place)) refl
  where
    by_group : (o : Option Group) → flat (slice_get k.groups place) ≡ o → TellsBytes (end_of k place code o)
    by_group None e = record { kept = b; replies = each_none IsTold }
    by_group (Some g) e =
        parent_tells (recorded (record { pid = g.number; name = g.program; code = code }) (left_alone place g.number (without_descriptors place (vanished g.number k)))) (record { parent = g.parent; child = g.number; code = code })
        (ended_bytes k place g (record { pid = g.number; name = g.program; code = code }) b) (numbers g (flat_some (slice_get k.groups place) g e))

pub exit_says : (k : KernelState) (c : Caller) (b : IsOfBytes k) (value : ℕ) → ((g : Group) → Stands k.groups c.place g → g.number < 2 ^ 32) → Says (exit_row k c value)
unfolding exit_row
exit_says k c b value numbers = let t = group_tells k c.place (value % 256) b numbers in record { kept = t.kept; told = t.replies }

pub thread_exit_says : (k : KernelState) (c : Caller) (b : IsOfBytes k) (value : ℕ) → ((g : Group) → Stands k.groups c.place g → g.number < 2 ^ 32) → Says (thread_exit_row k c value)
unfolding thread_exit_row
thread_exit_says k c b value numbers = either (c.thread.number == c.group.number) _ _ (exit_says k c b value numbers) (let t = alone in record { kept = t.kept; told = t.replies })
  where
    left : IsOfBytes (gone k c.thread.number)
    left = with_threads_bytes k (map (without_thread c.thread.number) k.sched.threads) b (dropped_bytes (without_thread c.thread.number) (λ t y q. left_if (t.number == c.thread.number) t y q) refl k.sched.threads b.each_thread)

    handed : (v : ThreadValue) (o : Option Thread) → TellsBytes (hand_value (gone k c.thread.number) v o)
    handed v None = record { kept = left; replies = each_none IsTold }
    handed v (Some t) = woken_tells (gone k c.thread.number) (woken_with (gone k c.thread.number).sched t 0 (int_out v.value ∷ [])) left
        (wakes_with (gone k c.thread.number).sched t 0 (int_out v.value ∷ []) (let l = left in l.each_thread) (omega arith) (int_output v.value))

    alone : TellsBytes (end_thread k c value)
    alone = handed (record { group = c.group.number; thread = c.thread.number; value = value }) (first_of (search.Joiner c.thread.number) (gone k c.thread.number).sched.threads)

-- ---- choices

record SaysBytes (p : Picked) : Type 0 where
  kept : IsOfBytes p.to
  told : Each IsTold p.replies

advance_tells : (k : KernelState) → IsOfBytes k → TellsBytes (advanced k)
unfolding advanced
advance_tells k b = by_ready (first_of search.Ready k.sched.threads)
  where
    by_timed : (t : Option Thread) → TellsBytes (passed k t)
    by_timed None = record { kept = b; replies = each_none IsTold }
    by_timed (Some t) =
        let w = woken_tells (record k { time = deadline_of t.doing + next_late k.late; late = drop 1 k.late }) (wake_due (deadline_of t.doing + next_late k.late) (length k.sched.threads) k.sched) b
        (due_bytes (deadline_of t.doing + next_late k.late) (length k.sched.threads) k.sched b.each_thread) in
        record { kept = idle_bytes _ w.kept; replies = w.replies }

    by_ready : (t : Option Thread) → TellsBytes (passed_if k t)
    by_ready (Some t) = record { kept = b; replies = each_none IsTold }
    by_ready None = by_timed (first_of search.Timed k.sched.threads)

picked_bytes : (k : KernelState) → IsOfBytes k → SaysBytes (picked k)
unfolding picked
picked_bytes k b = either_is SaysBytes (list_any is_some k.groups) (picked_after (advanced k)) (record { to = k; replies = []; pick = Ended })
    (let t = advance_tells k b in record { kept = t.kept; told = t.replies }) (record { kept = b; told = each_none IsTold })

pub choice_tells : (k : KernelState) → IsOfBytes k → IsOfBytes (picked k).to × Each IsTold (picked k).replies
choice_tells k b = let p = picked_bytes k b in (p.kept, p.told)

-- Choosing a thread: who woke was due, and who is chosen is ready.
use Rattle.std.proofs.Common.{◌≡◌, ℕ, ◌+◌, Bool, true, false, [], length, Option, Some, None, refl, sym, ap, ◌∙◌, subst}
use mathlib.Core.Path.{fun_ext}
use Rattle.std.specs.Prelude.{if◌then◌else◌}
use Rattle.std.specs.List.{list_any}
use Rattle.std.specs.Option.{is_some}
use Rattle.nx_ksys.specs.declared.thread.Doing.{Doing}
use Rattle.nx_ksys.specs.declared.thread.Doing.TheVariants.{Ready, Waits, Until}
use Rattle.nx_ksys.specs.declared.thread.Thread.{Thread}
use Rattle.nx_ksys.specs.declared.thread.Search.TheVariants as search
use Rattle.nx_ksys.specs.declared.pick.Pick.TheVariants.{Run, Ended}
use Rattle.nx_ksys.specs.Threads.{deadline_of, is_ready, first_of}
use Rattle.nx_ksys.specs.State.{KernelState}
use Rattle.nx_ksys.specs.Descriptors.{without_idle}
use Rattle.nx_ksys.specs.Picking.{Picked, next_late, passed, passed_if, advanced, runs, picked_after, picked}
use Rattle.nx_ksys.specs.ThreadTable.{ThreadRow, waits_in, threads}
use Rattle.nx_ksys.specs.Soundness.{IsSound}
use Rattle.nx_ksys.specs.TableLaws.{ready, after_replies, ChoicesStaySound, ChoicesChangeThreads}
use Rattle.nx_ksys.proofs.Tables.{row_of, row_in, threads_are, thread_only}
use Rattle.nx_ksys.proofs.Waking.{AreFit, due_from, due_wake, first_stands}
use Rattle.nx_ksys.proofs.EndRows.{Tells, tells_nothing}
use Rattle.nx_ksys.proofs.Owing.{tab}

advance_tells : (k : KernelState) → IsSound k → Tells k (advanced k)
unfolding advanced without_idle
advance_tells k sound = by_ready (first_of search.Ready k.sched.threads)
  where
    by_timed : (t : Option Thread) → Tells k (passed k t)
    by_timed None = tells_nothing k k sound refl refl
    by_timed (Some t) =
        let w = due_wake (deadline_of t.doing + next_late k.late) k.groups k.numbers (length k.sched.threads) k.sched sound in
        record { sound = w.sound; fit = w.fit; table = w.table; slots = w.slots }

    by_ready : (t : Option Thread) → Tells k (passed_if k t)
    by_ready (Some t) = tells_nothing k k sound refl refl
    by_ready None = by_timed (first_of search.Timed k.sched.threads)

picks_tell : (k : KernelState) → IsSound k → Tells k (record { to = (picked k).to; replies = (picked k).replies })
unfolding picked
picks_tell k sound = by_test (list_any is_some k.groups)
  where
    by_test : (b : Bool) → Tells k (let p : Picked = if b then picked_after (advanced k) else record { to = k; replies = []; pick = Ended } in record { to = p.to; replies = p.replies })
    by_test true = let t = advance_tells k sound in record { sound = t.sound; fit = t.fit; table = t.table; slots = t.slots }
    by_test false = tells_nothing k k sound refl refl

pub choices_stay_sound : ChoicesStaySound
choices_stay_sound k sound = (picks_tell k sound).sound

-- who is found ready stands in the table, ready
ready_with : (t : Thread) (d : Doing) → is_ready d ≡ true → waits_in (record t { doing = d }) ≡ None
ready_with t (Ready since) e = refl
ready_with t (Waits for since) e = absurd cc
ready_with t (Until for since deadline) e = absurd cc

ready_stands : (k : KernelState) (n : ℕ) → IsSound k → (o : Option Thread) → first_of search.Ready k.sched.threads ≡ o → runs o ≡ Run n → (x : ThreadRow) × (tab k n ≡ Some (ready x))
ready_stands k n sound None e q = absurd cc
ready_stands k n sound (Some t) e q =
    let f = first_stands search.Ready k.sched.threads t e in
    let only = thread_only k.sched.threads k.groups k.numbers f.slot t sound f.stands in
    let number : t.number ≡ n = cc in (
      row_of k.sched.threads k.groups t,
      ap (tab k) (sym number) ∙ ap (row_in k.sched.threads k.groups) only.0 ∙ ap (λ w. Some (let x : ThreadRow = record (row_of k.sched.threads k.groups t) { waits = w } in x)) (ready_with t t.doing f.passes),
    )

chosen_runs : (k : KernelState) (n : ℕ) → IsSound k → (picked k).pick ≡ Run n → (x : ThreadRow) × (tab (picked k).to n ≡ Some (ready x))
unfolding picked
chosen_runs k n sound e = by_test (list_any is_some k.groups) e
  where
    by_test : (b : Bool) → (let p : Picked = if b then picked_after (advanced k) else record { to = k; replies = []; pick = Ended } in p).pick ≡ Run n → (x : ThreadRow) × (tab (let p : Picked = if b then picked_after (advanced k) else record { to = k; replies = []; pick = Ended } in p).to n ≡ Some (ready x))
    by_test true q = ready_stands (advanced k).to n (advance_tells k sound).sound (first_of search.Ready (advanced k).to.sched.threads) refl q
    by_test false q = absurd cc

pub choices_change_threads : ChoicesChangeThreads
choices_change_threads k sound = record {
  due = due_from (picked k).to (picked k).replies (threads k) (subst (λ u. AreFit u (picked k).replies) same t.fit) table;
  table = table;
  runs = λ n e. let r = chosen_runs k n sound e in (r.0, threads_are (picked k).to n ∙ r.1);
  slots = t.slots;
}
  where
    same : tab k ≡ threads k
    same = fun_ext (λ n. sym (threads_are k n))

    t : Tells k (record { to = (picked k).to; replies = (picked k).replies })
    t = picks_tell k sound

    table : (n : ℕ) → threads (picked k).to n ≡ after_replies (threads k) (picked k).replies n
    table n = threads_are (picked k).to n ∙ ap (λ u. u n) (picks_tell k sound).table ∙ ap (λ u. after_replies u (picked k).replies n) same

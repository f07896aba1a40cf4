-- The choice of a thread.
use Rattle.std.proofs.Common.{◌≡◌, ℕ, Bool, true, false, if◌then◌else◌, List, [], Option, Some, None, length, refl, sym, ap, ◌∙◌, subst}
use Rattle.std.specs.List.{list_any}
use Rattle.std.specs.Option.{is_some}
use Rattle.nx_base.specs.Calls.{Reply}
use Rattle.nx_ksys.specs.State.{KernelState}
use Rattle.nx_ksys.specs.declared.thread.Thread.{Thread}
use Rattle.nx_ksys.specs.declared.thread.Search.TheVariants as search
use Rattle.nx_ksys.specs.declared.pick.Pick.TheVariants.{Run, Idle, Ended}
use Rattle.nx_ksys.specs.Threads.{first_of, is_ready, is_timed}
use Rattle.nx_ksys.specs.Picking.{Picked, passed, passed_if, advanced, runs, picked_after, picked}
use Rattle.nx_ksys.specs.Soundness.{EachStanding, IsSound}
use Rattle.nx_ksys.specs.ThreadTable.{threads}
use Rattle.nx_ksys.specs.TableLaws.{after_replies}
use Rattle.nx_ksys.proofs.Waking.{first_stands}
use Rattle.nx_ksys.proofs.Deadlines.{idle_without_deadlines}
use Rattle.nx_ksys.proofs.Choices.{choices_change_threads}
use Rattle.nx_ksys.proofs.Still.{picking_is_still}
use Rattle.nx_shrun.specs.Calls.{Call}
use Rattle.nx_abstract.specs.Kernels.{IsChosen, is_ready_at, is_ready_row}
use Rattle.nx_abstract.specs.Standing.{lives, FitShell, Waits, NoneForShell}
use Rattle.nx_abstract.proofs.Waiting.{due_fits, after_waits, table_waits}
use Rattle.nx_abstract.proofs.Calling.{alive_after}

on_off : {A : Type 0} (b : Bool) → b ≡ true → b ≡ false → A
on_off b e f = absurd cc

-- Where no thread is chosen, nothing changed.
idle_to : (k : KernelState) → (picked k).pick ≡ Idle → (picked k).to ≡ k
unfolding picked advanced
idle_to k e = by_groups (list_any is_some k.groups) (idle_without_deadlines k e)
  where
    by_timed : (o : Option Thread) → first_of search.Timed k.sched.threads ≡ o → EachStanding (λ t. (is_ready t.doing ≡ false) × (is_timed t.doing ≡ false)) k.sched.threads → (passed k o).to ≡ k
    by_timed None f law = refl
    by_timed (Some t) f law = let w = first_stands search.Timed k.sched.threads t f in on_off (is_timed t.doing) w.passes (law w.slot t w.stands).1

    by_ready : (o : Option Thread) → EachStanding (λ t. (is_ready t.doing ≡ false) × (is_timed t.doing ≡ false)) k.sched.threads → (passed_if k o).to ≡ k
    by_ready (Some t) law = refl
    by_ready None law = by_timed (first_of search.Timed k.sched.threads) refl law

    by_groups : (b : Bool) → EachStanding (λ t. (is_ready t.doing ≡ false) × (is_timed t.doing ≡ false)) k.sched.threads → (let p : Picked = if b then picked_after (advanced k) else record { to = k; replies = []; pick = Ended } in p).to ≡ k
    by_groups true law = by_ready (first_of search.Ready k.sched.threads) law
    by_groups false law = refl

ended_to : (k : KernelState) → (picked k).pick ≡ Ended → (picked k).to ≡ k
unfolding picked
ended_to k e = by_groups (list_any is_some k.groups) e
  where
    not_run : {A : Type 0} (o : Option Thread) → runs o ≡ Ended → A
    not_run None q = absurd cc
    not_run (Some t) q = absurd cc

    by_groups : (b : Bool) → (let p : Picked = if b then picked_after (advanced k) else record { to = k; replies = []; pick = Ended } in p).pick ≡ Ended → (let p : Picked = if b then picked_after (advanced k) else record { to = k; replies = []; pick = Ended } in p).to ≡ k
    by_groups true q = not_run (first_of search.Ready (advanced k).to.sched.threads) q
    by_groups false q = refl

pub idle_same : (k new : KernelState) (rs : List Reply) → IsChosen k new Idle rs → new ≡ k
idle_same k new rs e = sym (ap (λ (p : Picked). p.to) e) ∙ idle_to k (ap (λ (p : Picked). p.pick) e)

pub ended_same : (k new : KernelState) (rs : List Reply) → IsChosen k new Ended rs → new ≡ k
ended_same k new rs e = sym (ap (λ (p : Picked). p.to) e) ∙ ended_to k (ap (λ (p : Picked). p.pick) e)

-- What the choice of a thread leaves.
pub record Chosen (k new : KernelState) (n : ℕ) (q : Call) (rs : List Reply) : Type 0 where
  pub fits : FitShell q rs
  pub waits : (call : Call) → (NoneForShell rs → call ≡ q) → Waits (threads new) call
  pub slots : length new.sched.threads ≡ length k.sched.threads
  pub calls : new.calls ≡ k.calls
  pub ready : is_ready_at new n ≡ true
  pub alive : (i : ℕ) → lives new i ≡ true → lives k i ≡ true

pub chosen : (k new : KernelState) (n : ℕ) (q : Call) (rs : List Reply) → IsSound k → IsChosen k new (Run n) rs → length q.words ≡ 6 → Waits (threads k) q → Chosen k new n q rs
chosen k new n q rs sound e l w =
    let h = choices_change_threads k sound in
    let still = picking_is_still k in
    of (picked k) e (record {
      fits = due_fits (picked k).to q (picked k).replies (threads k) l h.due w;
      waits = λ call on. table_waits (after_replies (threads k) (picked k).replies) (threads (picked k).to) call h.table (after_waits (picked k).to q call (picked k).replies (threads k) h.due w on);
      slots = h.slots;
      calls = still.calls;
      ready = let r = h.runs n (ap (λ (p : Picked). p.pick) e) in ap is_ready_row r.1;
      alive = λ i a. sym (ap is_some (h.table i) ∙ alive_after (picked k).replies (threads k) i) ∙ a;
    })
  where
    of : (p : Picked) → p ≡ record { to = new; replies = rs; pick = Run n } → Chosen k p.to n q p.replies → Chosen k new n q rs
    of p f c = subst (λ (x : Picked). Chosen k x.to n q x.replies) f c

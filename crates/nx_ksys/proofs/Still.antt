-- Choosing a thread makes no call, writes nothing, and ends no group; and choosing again chooses the same.
use Rattle.std.proofs.Common.{◌≡◌, ℕ, Bool, true, false, [], Option, Some, None, refl, ap, ◌∙◌}
use Rattle.std.specs.Prelude.{if◌then◌else◌, ◌↔◌}
use Rattle.std.specs.List.{list_any}
use Rattle.std.specs.Option.{is_some}
use Rattle.nx_ksys.specs.declared.thread.Thread.{Thread}
use Rattle.nx_ksys.specs.declared.thread.Search.TheVariants as search
use Rattle.nx_ksys.specs.declared.pick.Pick.TheVariants.{Run, Ended}
use Rattle.nx_ksys.specs.Threads.{first_of}
use Rattle.nx_ksys.specs.State.{KernelState}
use Rattle.nx_ksys.specs.Descriptors.{without_idle}
use Rattle.nx_ksys.specs.Picking.{Picked, passed, passed_if, advanced, runs, picked_after, picked}
use Rattle.nx_ksys.specs.Laws.{IsStill}

still_refl : (k : KernelState) → IsStill k k
still_refl k = record { calls = refl; console = refl; ended = refl; groups = refl }

advanced_still : (k : KernelState) → IsStill k (advanced k).to
unfolding advanced without_idle
advanced_still k = by_ready (first_of search.Ready k.sched.threads)
  where
    by_timed : (t : Option Thread) → IsStill k (passed k t).to
    by_timed None = still_refl k
    by_timed (Some t) = record { calls = refl; console = refl; ended = refl; groups = refl }

    by_ready : (t : Option Thread) → IsStill k (passed_if k t).to
    by_ready (Some t) = still_refl k
    by_ready None = by_timed (first_of search.Timed k.sched.threads)

pub picking_is_still : (k : KernelState) → IsStill k (picked k).to
unfolding picked
picking_is_still k = by_test (list_any is_some k.groups)
  where
    by_test : (b : Bool) → IsStill k (let p : Picked = if b then picked_after (advanced k) else record { to = k; replies = []; pick = Ended } in p).to
    by_test true = advanced_still k
    by_test false = still_refl k

-- ---- choosing again

-- a thread that is ready is chosen without time passing
ready_chosen : (k : KernelState) (t : Thread) → list_any is_some k.groups ≡ true → first_of search.Ready k.sched.threads ≡ Some t → picked k ≡ record { to = k; replies = []; pick = Run t.number }
unfolding picked advanced
ready_chosen k t g r = rw (g, r, r) refl

pub chosen_again : (k : KernelState) (thread : ℕ) → (picked k).pick ≡ Run thread → picked (picked k).to ≡ record { to = (picked k).to; replies = []; pick = Run thread }
unfolding picked
chosen_again k thread e = by_test (list_any is_some k.groups) refl e
  where
    after : KernelState
    after = (advanced k).to

    by_ready : (o : Option Thread) → first_of search.Ready after.sched.threads ≡ o → list_any is_some k.groups ≡ true → runs o ≡ Run thread → picked after ≡ record { to = after; replies = []; pick = Run thread }
    by_ready None r g f = absurd cc
    by_ready (Some t) r g f =
        let n : t.number ≡ thread = cc in
        ready_chosen after t (ap (list_any is_some) (advanced_still k).groups ∙ g) r ∙ ap (λ m. let p : Picked = record { to = after; replies = []; pick = Run m } in p) n

    by_test : (b : Bool) → list_any is_some k.groups ≡ b → (let p : Picked = if b then picked_after (advanced k) else record { to = k; replies = []; pick = Ended } in p).pick ≡ Run thread → picked (let p : Picked = if b then picked_after (advanced k) else record { to = k; replies = []; pick = Ended } in p).to ≡ record { to = (let p : Picked = if b then picked_after (advanced k) else record { to = k; replies = []; pick = Ended } in p).to; replies = []; pick = Run thread }
    by_test true g f = by_ready (first_of search.Ready after.sched.threads) refl g f
    by_test false g f = absurd cc

pub ended_without_groups : (k : KernelState) → ((picked k).pick ≡ Ended) ↔ (list_any is_some k.groups ≡ false)
unfolding picked
ended_without_groups k = by_test (list_any is_some k.groups)
  where
    by_ready : (o : Option Thread) → runs o ≡ Ended → ⊥
    by_ready None e = cc
    by_ready (Some t) e = cc

    by_test : (b : Bool) → ((let p : Picked = if b then picked_after (advanced k) else record { to = k; replies = []; pick = Ended } in p).pick ≡ Ended) ↔ (b ≡ false)
    by_test true = (λ e. absurd (by_ready (first_of search.Ready (advanced k).to.sched.threads) e), λ e. absurd cc)
    by_test false = (λ e. refl, λ e. refl)

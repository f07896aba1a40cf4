-- What a choice leaves, where time passes and where it doesn't.
use Rattle.std.proofs.Common.{◌≡◌, ◌≤◌, Bool, true, false, List, [], ◌∷◌, ◌++◌, length, refl, sym, ap, ◌∙◌, arith}
use Rattle.std.specs.Prelude.{Option, Some, None, if◌then◌else◌}
use Rattle.std.specs.List.{list_any}
use Rattle.std.specs.Option.{is_some}
use Rattle.nx_base.specs.Calls.{Reply}
use Rattle.nx_ksys.specs.declared.thread.Thread.{Thread}
use Rattle.nx_ksys.specs.declared.thread.Search.TheVariants as search
use Rattle.nx_ksys.specs.declared.pick.Pick.TheVariants.{Ended}
use Rattle.nx_ksys.specs.Threads.{first_of, is_ready}
use Rattle.nx_ksys.specs.State.{Group, KernelState}
use Rattle.nx_ksys.specs.Descriptors.{without_idle}
use Rattle.nx_ksys.specs.Picking.{Picked, advanced, runs, picked_after, picked}
use Rattle.nx_kbounds.specs.Counts.{waits_one, waiting}
use Rattle.nx_kbounds.proofs.Reached.{choices_take_none}
use Rattle.nx_kernel.specs.Waking.{HasPassed}
use Rattle.nx_group.specs.Living.{IsTold}
use Rattle.nx_env.specs.Joined.{Variables, joined_one, joined}
use Rattle.nx_env.proofs.JoinedLemmas.{joined_any}
use Rattle.nx_kturns.specs.Turns.{Picks}

some_one : (v : Variables) (g : Option Group) → is_some (joined_one v g) ≡ is_some g
some_one v None = refl
some_one v (Some g) = refl

-- a group lives whatever variables it has
pub lives_joined : (gs : List (Option Group)) (vs : List Variables) → list_any is_some (joined gs vs) ≡ list_any is_some gs
lives_joined gs vs = joined_any is_some some_one gs vs

waits_few : (t : Option Thread) → waits_one t ≤ 1
waits_few None = omega arith
waits_few (Some t) = by_test (is_ready t.doing)
  where
    by_test : (b : Bool) → (if b then 0 else 1) ≤ 1
    by_test true = omega arith
    by_test false = omega arith

pub waiting_few : (ts : List (Option Thread)) → waiting ts ≤ length ts
waiting_few [] = omega arith
waiting_few (t ∷ ts) = let a = waits_few t in let b = waiting_few ts in omega (arith, a, b)

abbrev picked_if : KernelState → Bool → Picked
picked_if k lives = if lives then picked_after (advanced k) else record { to = k; replies = []; pick = Ended }

module _ (k : KernelState) where
  pub ends_picked : list_any is_some k.groups ≡ false → picked k ≡ record { to = k; replies = []; pick = Ended }
  unfolding picked
  ends_picked e = ap (picked_if k) e

  pub goes_picked : list_any is_some k.groups ≡ true → picked k ≡ picked_after (advanced k)
  unfolding picked
  goes_picked e = ap (picked_if k) e

  advanced_slots : list_any is_some k.groups ≡ true → length (advanced k).to.sched.threads ≡ length k.sched.threads
  advanced_slots e = ap (λ (p : Picked). length p.to.sched.threads) (sym (goes_picked e)) ∙ ap (λ x. x.threads) (choices_take_none k)

idle_slots : (k : KernelState) → length (without_idle k).sched.threads ≡ length k.sched.threads
unfolding without_idle
idle_slots k = refl

has_passed_slots : (now : KernelState) (b : Bool) → length (if b then without_idle now else now).sched.threads ≡ length now.sched.threads
has_passed_slots now true = idle_slots now
has_passed_slots now false = refl

-- time passes in as many slots
pub passed_slots : (now k : KernelState) (b : Bool) (before after : List Reply) → list_any is_some k.groups ≡ true → HasPassed now b before after (advanced k) → length now.sched.threads ≡ length k.sched.threads
passed_slots now k b before after e h = sym (has_passed_slots now b) ∙ ap (λ (x : KernelState). length x.sched.threads) h.state ∙ advanced_slots k e

pub told_still : (now k : KernelState) (b : Bool) (before after : List Reply) → before ≡ [] → b ≡ false → HasPassed now b before after (advanced k) → IsTold [] after now (advanced k)
told_still now k b before after z e h = record { state = ap (λ x. if x then without_idle now else now) (sym e) ∙ h.state; replies = h.replies ∙ ap (λ rs. rs ++ (advanced k).replies) z }

pub told_passed : (now later k : KernelState) (b : Bool) (before after : List Reply) → before ≡ [] → b ≡ true → later ≡ without_idle now → HasPassed now b before after (advanced k) → IsTold [] after later (advanced k)
told_passed now later k b before after z e l h = record { state = l ∙ ap (λ x. if x then without_idle now else now) (sym e) ∙ h.state; replies = h.replies ∙ ap (λ rs. rs ++ (advanced k).replies) z }

-- what a choice is
pub none_picks : (k : KernelState) (told : List Reply) → told ≡ [] → list_any is_some k.groups ≡ false → Picks k told Ended (picked k)
none_picks k told z e = let p = ends_picked k e in record { state = sym (ap (λ (x : Picked). x.to) p); replies = z ∙ sym (ap (λ (x : Picked). x.replies) p); pick = sym (ap (λ (x : Picked). x.pick) p) }

pub one_picks : (k now : KernelState) (after : List Reply) → list_any is_some k.groups ≡ true → IsTold [] after now (advanced k) → Picks now after (runs (first_of search.Ready now.sched.threads)) (picked k)
one_picks k now after e t =
    let p = goes_picked k e in record {
      state = t.state ∙ sym (ap (λ (x : Picked). x.to) p);
      replies = t.replies ∙ sym (ap (λ (x : Picked). x.replies) p);
      pick = ap (λ (x : KernelState). runs (first_of search.Ready x.sched.threads)) t.state ∙ sym (ap (λ (x : Picked). x.pick) p);
    }

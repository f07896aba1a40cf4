-- What a parent is told doesn't depend on the variables of groups.
use Rattle.std.proofs.Common.{◌≡◌, ℕ, zero, suc, ◌==◌, Bool, true, false, List, [], ◌++◌, length, refl, sym, ap, ◌∙◌}
use Rattle.std.specs.Prelude.{Option, Some, None, not, ◌&&◌, ◌||◌, if◌then◌else◌}
use Rattle.std.specs.List.{list_any}
use Rattle.nx_base.specs.Calls.{Reply}
use Rattle.nx_ksys.specs.declared.thread.Thread.{Thread}
use Rattle.nx_ksys.specs.declared.thread.Wait.{Wait}
use Rattle.nx_ksys.specs.declared.thread.Wait.TheVariants as wait
use Rattle.nx_ksys.specs.declared.thread.Search.TheVariants as search
use Rattle.nx_ksys.specs.Threads.{Schedule, Woken, awaited, comes_before, best_from, first_of}
use Rattle.nx_ksys.specs.State.{Group, Code, KernelState}
use Rattle.nx_ksys.specs.Ends.{WithReplies, is_child, is_any_child, is_code, is_any_code, is_lost_wait, is_lost, first_lost, refuse_first, refuse_lost, and_lost, hand_over, told_parent}
use Rattle.nx_group.specs.Living.{IsTold}
use Rattle.nx_env.specs.Joined.{Variables, joined_one, joined}
use Rattle.nx_env.proofs.JoinedLemmas.{joined_any}

child_one : (parent child : ℕ) (v : Variables) (g : Option Group) → is_child parent child (joined_one v g) ≡ is_child parent child g
child_one parent child v None = refl
child_one parent child v (Some g) = refl

any_child_one : (parent : ℕ) (v : Variables) (g : Option Group) → is_any_child parent (joined_one v g) ≡ is_any_child parent g
any_child_one parent v None = refl
any_child_one parent v (Some g) = refl

pub child_joined : (parent child : ℕ) (gs : List (Option Group)) (vs : List Variables) → list_any (is_child parent child) (joined gs vs) ≡ list_any (is_child parent child) gs
child_joined parent child gs vs = joined_any (is_child parent child) (child_one parent child) gs vs

pub any_child_joined : (parent : ℕ) (gs : List (Option Group)) (vs : List Variables) → list_any (is_any_child parent) (joined gs vs) ≡ list_any (is_any_child parent) gs
any_child_joined parent gs vs = joined_any (is_any_child parent) (any_child_one parent) gs vs

module _ (gs : List (Option Group)) (vs : List Variables) (codes : List Code) (parent : ℕ) where
  wait_same : (w : Option Wait) → is_lost_wait (joined gs vs) codes parent w ≡ is_lost_wait gs codes parent w
  wait_same None = refl
  wait_same (Some (wait.Child child)) = ap (λ b. not (b || list_any (is_code parent child) codes)) (child_joined parent child gs vs)
  wait_same (Some wait.AnyChild) = ap (λ b. not (b || list_any (is_any_code parent) codes)) (any_child_joined parent gs vs)
  wait_same (Some (wait.Receive place)) = refl
  wait_same (Some (wait.Send place)) = refl
  wait_same (Some (wait.Semaphore place)) = refl
  wait_same (Some wait.Sleep) = refl
  wait_same (Some (wait.Thread number)) = refl

  lost_same : (t : Thread) → is_lost (joined gs vs) codes parent t ≡ is_lost gs codes parent t
  lost_same t = ap (λ b. t.group == parent && b) (wait_same (awaited t.doing))

  first_same : (s : Schedule) → first_lost (joined gs vs) codes parent s ≡ first_lost gs codes parent s
  unfolding first_lost
  first_same s = ap (λ f. best_from f comes_before None s.threads) (λ i t. lost_same t i)

  refused_first : (s : Schedule) (more more' : Schedule → Woken) (t : Option Thread) → ((r : Schedule) → more r ≡ more' r) → refuse_first s more t ≡ refuse_first s more' t
  refused_first s more more' None h = refl
  refused_first s more more' (Some t) h = ap (λ f. refuse_first s f (Some t)) (λ i r. h r i)

  refused_same : (n : ℕ) (s : Schedule) → refuse_lost (joined gs vs) codes parent n s ≡ refuse_lost gs codes parent n s
  refused_same zero s = refl
  refused_same (suc n) s =
      ap (refuse_first s (refuse_lost (joined gs vs) codes parent n)) (first_same s)
      ∙ refused_first s (refuse_lost (joined gs vs) codes parent n) (refuse_lost gs codes parent n) (first_lost gs codes parent s) (λ r. refused_same n r)

-- a state with other groups
abbrev pub regrouped : List (Option Group) → WithReplies → WithReplies
regrouped gs w = record { to = record w.to { groups = gs }; replies = w.replies }

and_lost_same : (gs : List (Option Group)) (vs : List Variables) (parent : ℕ) (w : WithReplies) → w.to.groups ≡ gs → and_lost parent (regrouped (joined gs vs) w) ≡ regrouped (joined gs vs) (and_lost parent w)
and_lost_same gs vs parent w e =
    let n = length w.to.sched.threads in
    let r : refuse_lost (joined gs vs) w.to.codes parent n w.to.sched ≡ refuse_lost w.to.groups w.to.codes parent n w.to.sched
    = refused_same gs vs w.to.codes parent n w.to.sched ∙ ap (λ x. refuse_lost x w.to.codes parent n w.to.sched) (sym e) in
    ap (λ (x : Woken). record { to = record w.to { groups = joined gs vs; sched = x.sched }; replies = w.replies ++ x.replies }) r

handed : (gs : List (Option Group)) (k : KernelState) (code : Code) (t : Option Thread) → hand_over (record k { groups = gs }) code t ≡ regrouped gs (hand_over k code t)
handed gs k code None = refl
handed gs k code (Some t) = refl

handed_groups : (k : KernelState) (code : Code) (t : Option Thread) → (hand_over k code t).to.groups ≡ k.groups
handed_groups k code None = refl
handed_groups k code (Some t) = refl

pub told_joined : (k : KernelState) (vs : List Variables) (code : Code) → told_parent code (record k { groups = joined k.groups vs }) ≡ regrouped (joined k.groups vs) (told_parent code k)
unfolding told_parent
told_joined k vs code = by_test (code.parent == 0)
  where
    told : Option Thread
    told = first_of (search.Parent code.parent code.child) k.sched.threads

    by_test : (b : Bool) → (if b then record { to = record k { groups = joined k.groups vs }; replies = [] } else and_lost code.parent (hand_over (record k { groups = joined k.groups vs }) code told))
        ≡ regrouped (joined k.groups vs) (if b then record { to = k; replies = [] } else and_lost code.parent (hand_over k code told))
    by_test true = refl
    by_test false = ap (and_lost code.parent) (handed (joined k.groups vs) k code told) ∙ and_lost_same k.groups vs code.parent (hand_over k code told) (handed_groups k code told)

-- so what it is told with variables is what it is told without
pub tells_joined : (before after : List Reply) (now k : KernelState) (gs : List (Option Group)) (vs : List Variables) (code : Code) → k.groups ≡ joined gs vs
    → IsTold before after now (told_parent code (record k { groups = gs })) → IsTold before after (record now { groups = k.groups }) (told_parent code k)
tells_joined before after now k gs vs code e t =
    let whole : told_parent code k ≡ regrouped k.groups (told_parent code (record k { groups = gs }))
    = ap (λ x. told_parent code (record k { groups = x })) e ∙ told_joined (record k { groups = gs }) vs code ∙ ap (λ x. regrouped x (told_parent code (record k { groups = gs }))) (sym e) in
    record {
      state = ap (λ (x : KernelState). record x { groups = k.groups }) t.state ∙ sym (ap (λ (w : WithReplies). w.to) whole);
      replies = t.replies ∙ sym (ap (λ (w : WithReplies). before ++ w.replies) whole);
    }

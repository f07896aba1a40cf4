-- A parent is told of a child's end, step by step.
use Rattle.std.proofs.Common.{◌≡◌, ◌≢◌, ℕ, ◌+◌, ◌≤◌, ◌==◌, ◌&&◌, ◌++◌, Bool, true, false, cond, List, [], ◌∷◌, length, Option, Some, None, refl, sym, ap, ◌∙◌, subst, arith, append_assoc, append-nil}
use Rattle.std.specs.Prelude.{if◌then◌else◌}
use Rattle.nx_base.specs.Calls.{Reply}
use Rattle.nx_ksys.specs.declared.thread.Thread.{Thread}
use Rattle.nx_ksys.specs.declared.thread.Doing.{Doing}
use Rattle.nx_ksys.specs.declared.thread.Doing.TheVariants.{Ready, Waits, Until}
use Rattle.nx_ksys.specs.declared.thread.Search.TheVariants as search
use Rattle.nx_ksys.specs.Telling.{reply}
use Rattle.nx_ksys.specs.Answers.{int_out}
use Rattle.nx_ksys.specs.Threads.{Schedule, is_ready, is_sought, awaited, is_for_child, is_for_thread, first_of, wake}
use Rattle.nx_ksys.specs.State.{Group, Code, ThreadValue, KernelState}
use Rattle.nx_ksys.specs.Ends.{WithReplies, refuse_lost, and_lost, hand_over, hand_value, told_parent}
use Rattle.nx_ksys.proofs.Standing.{ne_to, eq_to}
use Rattle.nx_ksys.proofs.Waking.{Found, first_stands}
use Rattle.nx_group.specs.Waiting.{waiting}
use Rattle.nx_group.specs.Living.{living, with_values, IsTold}
use Rattle.nx_group.proofs.Waits.{less_at, and_right}

waits_for : (d : Doing) (child : ℕ) → is_for_child child (awaited d) ≡ true → is_ready d ≡ false
waits_for (Ready since) child e = cc
waits_for (Waits for since) child e = refl
waits_for (Until for since deadline) child e = refl

-- a thread of the parent that goes on leaves fewer that wait
pub served : (s : Schedule) (parent child : ℕ) (t : Thread) → first_of (search.Parent parent child) s.threads ≡ Some t → waiting (wake s t.number).threads + 1 ≤ waiting s.threads
unfolding wake
served s parent child t e =
    let f = first_stands (search.Parent parent child) s.threads t e in
    less_at s.moments t s.threads f.slot f.stands (waits_for t.doing child (and_right (t.group == parent) _ f.passes))

pub woken_moments : (s : Schedule) (number : ℕ) → (wake s number).moments ≡ s.moments + 1
unfolding wake
woken_moments s number = refl

pub code_is : (c : Code) (parent child code : ℕ) → parent ≡ c.parent → child ≡ c.child → code ≡ c.code → ◌≡◌ {A = Code} (record { parent = parent; child = child; code = code }) c
code_is c parent child code p h v = rw (p, h, v) refl

pub handed_none : (k : KernelState) (s : Schedule) (groups : List (Option Group)) (codes after : List Code) (c : Code) (t : Option Thread) (rs : List Reply) → t ≡ None → after ≡ codes ++ c ∷ [] → IsTold rs rs (living k s groups after) (hand_over (living k s groups codes) c t)
handed_none k s groups codes after c t rs n e = rw n (record { state = ap (λ cs. living k s groups cs) e; replies = sym (append-nil rs) })

pub handed_some : (k : KernelState) (s x : Schedule) (groups : List (Option Group)) (codes : List Code) (c : Code) (o : Option Thread) (t : Thread) (rs after : List Reply) → o ≡ Some t → x ≡ wake s t.number
    → after ≡ rs ++ reply t.number c.child (int_out c.code ∷ []) ∷ [] → IsTold rs after (living k x groups codes) (hand_over (living k s groups codes) c o)
handed_some k s x groups codes c o t rs after n w e = rw n (record { state = ap (λ q. living k q groups codes) w; replies = e })

lost_after : (k : KernelState) (x y : Schedule) (groups : List (Option Group)) (codes : List Code) (parent : ℕ) (rs us vs : List Reply) (h : WithReplies) → IsTold rs us (living k x groups codes) h
    → y ≡ (refuse_lost groups codes parent (length x.threads) x).sched → vs ≡ us ++ (refuse_lost groups codes parent (length x.threads) x).replies → IsTold rs vs (living k y groups codes) (and_lost parent h)
lost_after k x y groups codes parent rs us vs h t s e =
    let told : WithReplies = record { to = living k x groups codes; replies = h.replies } in
    let same : told ≡ h = ap (λ q. (let w : WithReplies = record { to = q; replies = h.replies } in w)) t.state in
    subst (λ q. IsTold rs vs (living k y groups codes) (and_lost parent q)) same (record {
      state = ap (λ q. living k q groups codes) s;
      replies = e ∙ ap (λ q. q ++ (refuse_lost groups codes parent (length x.threads) x).replies) t.replies ∙ append_assoc rs h.replies _;
    })

pub told_nobody : (c : Code) (k : KernelState) (rs : List Reply) → c.parent ≡ 0 → IsTold rs rs k (told_parent c k)
unfolding told_parent
told_nobody c k rs z = rw (eq_to c.parent 0 z) (record { state = refl; replies = sym (append-nil rs) })

pub told_someone : (c : Code) (k : KernelState) (s x y : Schedule) (groups : List (Option Group)) (codes after : List Code) (rs us vs : List Reply) → c.parent ≢ 0
    → IsTold rs us (living k x groups after) (hand_over (living k s groups codes) c (first_of (search.Parent c.parent c.child) s.threads))
    → y ≡ (refuse_lost groups after c.parent (length x.threads) x).sched → vs ≡ us ++ (refuse_lost groups after c.parent (length x.threads) x).replies
    → IsTold rs vs (living k y groups after) (told_parent c (living k s groups codes))
unfolding told_parent
told_someone c k s x y groups codes after rs us vs z t a b = rw (ne_to c.parent 0 z) (lost_after k x y groups after c.parent rs us vs _ t a b)

-- ---- the value of a thread that ended

joins : (d : Doing) (thread : ℕ) → is_for_thread thread (awaited d) ≡ true → is_ready d ≡ false
joins (Ready since) thread e = cc
joins (Waits for since) thread e = refl
joins (Until for since deadline) thread e = refl

pub joined : (s : Schedule) (thread : ℕ) (t : Thread) → first_of (search.Joiner thread) s.threads ≡ Some t → waiting (wake s t.number).threads + 1 ≤ waiting s.threads
unfolding wake
joined s thread t e =
    let f = first_stands (search.Joiner thread) s.threads t e in
    less_at s.moments t s.threads f.slot f.stands (joins t.doing thread f.passes)

pub value_kept : (k : KernelState) (s : Schedule) (values after : List ThreadValue) (v : ThreadValue) (t : Option Thread) (rs : List Reply) → t ≡ None → after ≡ values ++ v ∷ [] → IsTold rs rs (with_values k s after) (hand_value (with_values k s values) v t)
value_kept k s values after v t rs n e = rw n (record { state = ap (λ vs. with_values k s vs) e; replies = sym (append-nil rs) })

pub value_taken : (k : KernelState) (s x : Schedule) (values : List ThreadValue) (v : ThreadValue) (o : Option Thread) (t : Thread) (rs after : List Reply) → o ≡ Some t → x ≡ wake s t.number
    → after ≡ rs ++ reply t.number 0 (int_out v.value ∷ []) ∷ [] → IsTold rs after (with_values k x values) (hand_value (with_values k s values) v o)
value_taken k s x values v o t rs after n w e = rw n (record { state = ap (λ q. with_values k q values) w; replies = e })

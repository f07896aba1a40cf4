-- Time: each thread that is due wakes, and without a deadline a run idles.
use Rattle.std.proofs.Common.{◌≡◌, ℕ, zero, suc, ◌+◌, ◌<◌, ◌≤◌, ◌==◌, Bool, true, false, List, [], ◌∷◌, length, map, Option, Some, None, refl, sym, ap, ◌∙◌, subst, arith}
use Rattle.std.specs.Prelude.{nat_le, slice_get, if◌then◌else◌}
use Rattle.std.specs.List.{list_any}
use Rattle.std.specs.Option.{is_some}
use Rattle.std.proofs.lemmas.Bool.Decides.{nat_tests}
use Rattle.nx_base.specs.ErrorNumbers.{number_of}
use Rattle.nx_base.specs.declared.errno.Errno.{Errno}
use Rattle.nx_base.specs.declared.errno.Errno.TheVariants as errno
use Rattle.nx_ksys.specs.declared.thread.Doing.TheVariants.{Ready}
use Rattle.nx_ksys.specs.declared.thread.Thread.{Thread}
use Rattle.nx_ksys.specs.declared.thread.Wait.{Wait}
use Rattle.nx_ksys.specs.declared.thread.Wait.TheVariants as wait
use Rattle.nx_ksys.specs.declared.thread.Search.{Search}
use Rattle.nx_ksys.specs.declared.thread.Search.TheVariants as search
use Rattle.nx_ksys.specs.declared.pick.Pick.TheVariants.{Idle, Ended}
use Rattle.nx_ksys.specs.Threads.{Schedule, awaited, deadline_of, is_ready, is_timed, is_sought, is_due_before, precedes, better, best_from, first_of, changed, change_thread, wake, with_error}
use Rattle.nx_ksys.specs.State.{KernelState}
use Rattle.nx_ksys.specs.Descriptors.{without_idle}
use Rattle.nx_ksys.specs.Picking.{timed_out, if_due, first_due, wake_first, wake_due, next_late, passed, passed_if, advanced, Picked, runs, picked_after, picked}
use Rattle.nx_ksys.specs.Soundness.{Stands, EachStanding}
use Rattle.nx_ksys.specs.TimeLaws.{IdleWithoutDeadlines, DueThreadsWake}
use Rattle.nx_ksys.proofs.Standing.{some_same, none_some, off_on, map_stands, eq_to}
use Rattle.nx_ksys.proofs.Waking.{Found, first_stands}

-- ---- how many threads have a deadline

abbrev timed_one : Option Thread → ℕ
timed_one None = 0
timed_one (Some t) = if is_timed t.doing then 1 else 0

abbrev timed : List (Option Thread) → ℕ
timed [] = 0
timed (t ∷ ts) = timed_one t + timed ts

at_most_one : (b : Bool) → (if b then 1 else 0) ≤ 1
at_most_one true = omega arith
at_most_one false = omega arith

few_timed : (ts : List (Option Thread)) → timed ts ≤ length ts
few_timed [] = omega arith
few_timed (None ∷ ts) = let r = few_timed ts in omega (arith, r)
few_timed (Some t ∷ ts) = let r = few_timed ts in let o = at_most_one (is_timed t.doing) in omega (arith, r, o)

-- a change that gives no thread a deadline
module _ (f : Thread → Thread) (less : (t : Thread) → timed_one (Some (f t)) ≤ timed_one (Some t)) where
  one_less : (n : ℕ) (o : Option Thread) → timed_one (changed n f o) ≤ timed_one o
  one_less n None = omega arith
  one_less n (Some t) = by_test (t.number == n)
    where
      by_test : (b : Bool) → timed_one (if b then Some (f t) else Some t) ≤ timed_one (Some t)
      by_test true = less t
      by_test false = omega arith

  all_less : (n : ℕ) (ts : List (Option Thread)) → timed (map (changed n f) ts) ≤ timed ts
  all_less n [] = omega arith
  all_less n (t ∷ ts) = let a = one_less n t in let b = all_less n ts in omega (arith, a, b)

  -- and takes the deadline of one
  fewer : (ts : List (Option Thread)) (p : ℕ) (t : Thread) → Stands ts p t → is_timed t.doing ≡ true → is_timed (f t).doing ≡ false → timed (map (changed t.number f) ts) + 1 ≤ timed ts
  fewer [] p t h was is = absurd (none_some (Some t) h)
  fewer (o ∷ ts) zero t h was is =
      let now : timed_one (changed t.number f (Some t)) ≡ 0 = ap (λ b. timed_one (if b then Some (f t) else Some t)) (eq_to t.number t.number refl) ∙ ap (λ b. if b then 1 else 0) is in
      let before : timed_one (Some t) ≡ 1 = ap (λ b. if b then 1 else 0) was in
      let rest = all_less t.number ts in
      subst (λ q. timed_one (changed t.number f q) + timed (map (changed t.number f) ts) + 1 ≤ timed_one q + timed ts) (sym (some_same o (Some t) h)) (omega (arith, now, before, rest))
  fewer (o ∷ ts) (suc p) t h was is = let a = one_less t.number o in let r = fewer ts p t h was is in omega (arith, a, r)

wake_fewer : (s : Schedule) (p : ℕ) (t : Thread) → Stands s.threads p t → is_timed t.doing ≡ true → timed (wake s t.number).threads + 1 ≤ timed s.threads
unfolding wake change_thread
wake_fewer s p t h was = fewer (λ u. record u { doing = Ready s.moments }) (λ u. omega arith) s.threads p t h was refl

error_less : (s : Schedule) (n : ℕ) (e : Errno) → timed (with_error s n e).threads ≤ timed s.threads
unfolding with_error change_thread
error_less s n e = all_less (λ u. record u { errno = number_of e }) (λ u. omega arith) n s.threads

out_fewer : (s : Schedule) (p : ℕ) (t : Thread) → Stands s.threads p t → is_timed t.doing ≡ true → (w : Option Wait) → timed (timed_out s t w).sched.threads + 1 ≤ timed s.threads
out_fewer s p t h was w = by_wait w
  where
    awake : timed (wake s t.number).threads + 1 ≤ timed s.threads
    awake = wake_fewer s p t h was

    failing : timed (with_error (wake s t.number) t.number errno.Etimedout).threads + 1 ≤ timed s.threads
    failing = let a = awake in let e = error_less (wake s t.number) t.number errno.Etimedout in omega (arith, a, e)

    by_wait : (w : Option Wait) → timed (timed_out s t w).sched.threads + 1 ≤ timed s.threads
    by_wait (Some wait.Sleep) = awake
    by_wait None = failing
    by_wait (Some (wait.Receive place)) = failing
    by_wait (Some (wait.Send place)) = failing
    by_wait (Some (wait.Semaphore place)) = failing
    by_wait (Some (wait.Child child)) = failing
    by_wait (Some wait.AnyChild) = failing
    by_wait (Some (wait.Thread thread)) = failing

-- ---- who is due wakes

due_is : (time : ℕ) (o : Option Thread) (t : Thread) → if_due time o ≡ Some t → o ≡ Some t
due_is time None t e = absurd (none_some t e)
due_is time (Some u) t e = by_test (nat_le (deadline_of u.doing) time) e
  where
    by_test : (b : Bool) → (if b then Some u else None) ≡ Some t → Some u ≡ Some t
    by_test true q = q
    by_test false q = absurd (none_some t q)

due_found : (time : ℕ) (s : Schedule) (t : Thread) → first_due time s ≡ Some t → Found s.threads (is_sought search.Timed) t
unfolding first_due
due_found time s t e = first_stands search.Timed s.threads t (due_is time (first_of search.Timed s.threads) t e)

due_fewer : (time : ℕ) (s : Schedule) (t : Thread) → first_due time s ≡ Some t → timed (timed_out s t (awaited t.doing)).sched.threads + 1 ≤ timed s.threads
due_fewer time s t e = let f = due_found time s t e in out_fewer s f.slot t f.stands f.passes (awaited t.doing)

none_left : (time n : ℕ) (s : Schedule) → timed s.threads ≤ n → first_due time (wake_due time n s).sched ≡ None
none_left time zero s l = by_thread (first_due time s) refl
  where
    by_thread : (o : Option Thread) → first_due time s ≡ o → first_due time s ≡ None
    by_thread None e = e
    by_thread (Some t) e = let f = due_fewer time s t e in absurd (omega (arith, f, l))
none_left time (suc n) s l = by_thread (first_due time s) refl (λ r m. none_left time n r m)
  where
    by_thread : (o : Option Thread) → first_due time s ≡ o → ((r : Schedule) → timed r.threads ≤ n → first_due time (wake_due time n r).sched ≡ None) → first_due time (wake_first s (wake_due time n) o).sched ≡ None
    by_thread None e more = e
    by_thread (Some t) e more = let f = due_fewer time s t e in more (timed_out s t (awaited t.doing)).sched (omega (arith, f, l))

-- ---- who is woken is ready, and found

record HasReady (ts : List (Option Thread)) : Type 0 where
  slot : ℕ
  thread : Thread
  stands : Stands ts slot thread
  ready : is_ready thread.doing ≡ true

kept_ready : (f : Thread → Thread) (n : ℕ) (ts : List (Option Thread)) → ((t : Thread) → is_ready t.doing ≡ true → is_ready (f t).doing ≡ true) → HasReady ts → HasReady (map (changed n f) ts)
kept_ready f n ts keep r = by_test (r.thread.number == n) refl
  where
    there : slice_get (map (changed n f) ts) r.slot ≡ Some (changed n f (Some r.thread))
    there = map_stands (changed n f) ts r.slot (Some r.thread) r.stands

    by_test : (b : Bool) → (r.thread.number == n) ≡ b → HasReady (map (changed n f) ts)
    by_test true e = record { slot = r.slot; thread = f r.thread; stands = there ∙ ap (λ b. Some (if b then Some (f r.thread) else Some r.thread)) e; ready = keep r.thread r.ready }
    by_test false e = record { slot = r.slot; thread = r.thread; stands = there ∙ ap (λ b. Some (if b then Some (f r.thread) else Some r.thread)) e; ready = r.ready }

wake_keeps : (s : Schedule) (n : ℕ) → HasReady s.threads → HasReady (wake s n).threads
unfolding wake change_thread
wake_keeps s n r = kept_ready (λ u. record u { doing = Ready s.moments }) n s.threads (λ t h. refl) r

wake_makes : (s : Schedule) (p : ℕ) (t : Thread) → Stands s.threads p t → HasReady (wake s t.number).threads
unfolding wake change_thread
wake_makes s p t h =
    let f : Thread → Thread = λ u. record u { doing = Ready s.moments } in
    record {
      slot = p;
      thread = f t;
      stands = map_stands (changed t.number f) s.threads p (Some t) h ∙ ap (λ b. Some (if b then Some (f t) else Some t)) (eq_to t.number t.number refl);
      ready = refl;
    }

error_keeps : (s : Schedule) (n : ℕ) (e : Errno) → HasReady s.threads → HasReady (with_error s n e).threads
unfolding with_error change_thread
error_keeps s n e r = kept_ready (λ u. record u { errno = number_of e }) n s.threads (λ t h. h) r

out_ready : (s : Schedule) (t : Thread) → HasReady (wake s t.number).threads → (w : Option Wait) → HasReady (timed_out s t w).sched.threads
out_ready s t r (Some wait.Sleep) = r
out_ready s t r None = error_keeps (wake s t.number) t.number errno.Etimedout r
out_ready s t r (Some (wait.Receive place)) = error_keeps (wake s t.number) t.number errno.Etimedout r
out_ready s t r (Some (wait.Send place)) = error_keeps (wake s t.number) t.number errno.Etimedout r
out_ready s t r (Some (wait.Semaphore place)) = error_keeps (wake s t.number) t.number errno.Etimedout r
out_ready s t r (Some (wait.Child child)) = error_keeps (wake s t.number) t.number errno.Etimedout r
out_ready s t r (Some wait.AnyChild) = error_keeps (wake s t.number) t.number errno.Etimedout r
out_ready s t r (Some (wait.Thread thread)) = error_keeps (wake s t.number) t.number errno.Etimedout r

due_keeps : (time n : ℕ) (s : Schedule) → HasReady s.threads → HasReady (wake_due time n s).sched.threads
due_keeps time zero s r = r
due_keeps time (suc n) s r = by_thread (first_due time s) (λ x h. due_keeps time n x h)
  where
    by_thread : (o : Option Thread) → ((x : Schedule) → HasReady x.threads → HasReady (wake_due time n x).sched.threads) → HasReady (wake_first s (wake_due time n) o).sched.threads
    by_thread None more = r
    by_thread (Some t) more = more (timed_out s t (awaited t.doing)).sched (out_ready s t (wake_keeps s t.number r) (awaited t.doing))

-- where one is due, one is ready after
due_makes : (time n : ℕ) (s : Schedule) (t : Thread) → first_due time s ≡ Some t → 1 ≤ n → HasReady (wake_due time n s).sched.threads
due_makes time zero s t e le = absurd (omega (arith, le))
due_makes time (suc n) s t e le =
    let f = due_found time s t e in
    let first = due_keeps time n (timed_out s t (awaited t.doing)).sched (out_ready s t (wake_makes s f.slot t f.stands) (awaited t.doing)) in
    subst (λ o. HasReady (wake_first s (wake_due time n) o).sched.threads) (sym e) first

better_some : (before : Thread → Thread → Bool) (v : Thread) (best : Option Thread) → better before v best ≡ None → ⊥
better_some before v None e = cc
better_some before v (Some b) e = by_test (before v b) e
  where
    by_test : (c : Bool) → (if c then Some v else Some b) ≡ None → ⊥
    by_test true q = cc
    by_test false q = cc

-- where none is found, none passes
record NonePasses (test : Thread → Bool) (best : Option Thread) (ts : List (Option Thread)) : Type 0 where
  none : best ≡ None
  fails : EachStanding (λ t. test t ≡ false) ts

none_passes : (test : Thread → Bool) (before : Thread → Thread → Bool) (best : Option Thread) (ts : List (Option Thread)) → best_from test before best ts ≡ None → NonePasses test best ts
none_passes test before best [] e = record { none = e; fails = λ p t h. absurd (none_some (Some t) h) }
none_passes test before best (None ∷ ts) e = by_rest (none_passes test before best ts e)
  where
    by_rest : NonePasses test best ts → NonePasses test best (None ∷ ts)
    by_rest r = record { none = r.none; fails = by_place }
      where
        by_place : (p : ℕ) (t : Thread) → slice_get (None ∷ ts) p ≡ Some (Some t) → test t ≡ false
        by_place zero t h = absurd (none_some t (some_same None (Some t) h))
        by_place (suc p) t h = r.fails p t h
none_passes test before best (Some v ∷ ts) e = by_test (test v) refl (λ c q. none_passes test before c ts q) e
  where
    by_test : (b : Bool) → test v ≡ b → ((c : Option Thread) → best_from test before c ts ≡ None → NonePasses test c ts) → best_from test before (if b then better before v best else best) ts ≡ None → NonePasses test best (Some v ∷ ts)
    by_test true q more h = absurd (better_some before v best (more (better before v best) h).none)
    by_test false q more h = record { none = (more best h).none; fails = by_place (more best h) }
      where
        by_place : NonePasses test best ts → (p : ℕ) (t : Thread) → slice_get (Some v ∷ ts) p ≡ Some (Some t) → test t ≡ false
        by_place r zero t g = ap test (sym (some_same v t (some_same (Some v) (Some t) g))) ∙ q
        by_place r (suc p) t g = r.fails p t g

none_found : (s : Search) (ts : List (Option Thread)) → first_of s ts ≡ None → EachStanding (λ t. is_sought s t ≡ false) ts
unfolding first_of
none_found s ts e = (none_passes (is_sought s) (precedes s) None ts e).fails

ready_found : (ts : List (Option Thread)) → HasReady ts → first_of search.Ready ts ≡ None → ⊥
ready_found ts r e = off_on (is_ready r.thread.doing) (none_found search.Ready ts e r.slot r.thread r.stands) r.ready

-- ---- the first deadline is the least

record IsLeast (u : Thread) (best : Option Thread) (ts : List (Option Thread)) : Type 0 where
  best_later : (b : Thread) → best ≡ Some b → deadline_of u.doing ≤ deadline_of b.doing
  each_later : EachStanding (λ t. is_timed t.doing ≡ true → deadline_of u.doing ≤ deadline_of t.doing) ts

least : (u : Thread) (best : Option Thread) (ts : List (Option Thread)) → best_from (is_sought search.Timed) is_due_before best ts ≡ Some u → IsLeast u best ts
least u best [] e = record { best_later = λ b q. let same = some_same u b (sym e ∙ q) in subst (λ v. deadline_of u.doing ≤ deadline_of v.doing) same (omega arith); each_later = λ p t h. absurd (none_some (Some t) h) }
least u best (None ∷ ts) e = by_rest (least u best ts e)
  where
    by_rest : IsLeast u best ts → IsLeast u best (None ∷ ts)
    by_rest r = record { best_later = r.best_later; each_later = by_place }
      where
        by_place : (p : ℕ) (t : Thread) → slice_get (None ∷ ts) p ≡ Some (Some t) → is_timed t.doing ≡ true → deadline_of u.doing ≤ deadline_of t.doing
        by_place zero t h = absurd (none_some t (some_same None (Some t) h))
        by_place (suc p) t h = r.each_later p t h
least u best (Some v ∷ ts) e = by_test (is_timed v.doing) refl (λ c q. least u c ts q) e
  where
    -- from the rest, with what is known of v and of the best so far
    joined : (c : Option Thread) → IsLeast u c ts → ((b : Thread) → best ≡ Some b → deadline_of u.doing ≤ deadline_of b.doing) → (is_timed v.doing ≡ true → deadline_of u.doing ≤ deadline_of v.doing) → IsLeast u best (Some v ∷ ts)
    joined c r of_best of_v = record { best_later = of_best; each_later = by_place }
      where
        by_place : (p : ℕ) (t : Thread) → slice_get (Some v ∷ ts) p ≡ Some (Some t) → is_timed t.doing ≡ true → deadline_of u.doing ≤ deadline_of t.doing
        by_place zero t g = let same = some_same v t (some_same (Some v) (Some t) g) in subst (λ w. is_timed w.doing ≡ true → deadline_of u.doing ≤ deadline_of w.doing) same of_v
        by_place (suc p) t g = r.each_later p t g

    sooner : (b : Thread) → (c : Bool) → is_due_before v b ≡ c → ((d : Option Thread) → best_from (is_sought search.Timed) is_due_before d ts ≡ Some u → IsLeast u d ts) → best ≡ Some b → best_from (is_sought search.Timed) is_due_before (if c then Some v else Some b) ts ≡ Some u → IsLeast u best (Some v ∷ ts)
    sooner b true q more is h =
        let r = more (Some v) h in
        let first : deadline_of v.doing ≤ deadline_of b.doing = grind (arith, nat_tests) in
        let mine = r.best_later v refl in
        joined (Some v) r (λ d z. subst (λ w. deadline_of u.doing ≤ deadline_of w.doing) (some_same b d (sym is ∙ z)) (omega (arith, first, mine))) (λ _. mine)
    sooner b false q more is h =
        let r = more (Some b) h in
        let first : deadline_of b.doing ≤ deadline_of v.doing = grind (arith, nat_tests) in
        let mine = r.best_later b refl in
        joined (Some b) r (λ d z. subst (λ w. deadline_of u.doing ≤ deadline_of w.doing) (some_same b d (sym is ∙ z)) mine) (λ _. omega (arith, first, mine))

    by_best : (o : Option Thread) → best ≡ o → ((d : Option Thread) → best_from (is_sought search.Timed) is_due_before d ts ≡ Some u → IsLeast u d ts) → best_from (is_sought search.Timed) is_due_before (better is_due_before v o) ts ≡ Some u → IsLeast u best (Some v ∷ ts)
    by_best None is more h = let r = more (Some v) h in joined (Some v) r (λ d z. absurd (none_some d (sym is ∙ z))) (λ _. r.best_later v refl)
    by_best (Some b) is more h = sooner b (is_due_before v b) refl more is h

    by_test : (b : Bool) → is_timed v.doing ≡ b → ((d : Option Thread) → best_from (is_sought search.Timed) is_due_before d ts ≡ Some u → IsLeast u d ts) → best_from (is_sought search.Timed) is_due_before (if b then better is_due_before v best else best) ts ≡ Some u → IsLeast u best (Some v ∷ ts)
    by_test true q more h = by_best best refl more h
    by_test false q more h = let r = more best h in joined best r r.best_later (λ t. absurd (off_on (is_timed v.doing) q t))

-- where none is due, the deadlines that are left are later
none_due : (time : ℕ) (s : Schedule) → first_due time s ≡ None → EachStanding (λ t. is_timed t.doing ≡ true → time < deadline_of t.doing) s.threads
unfolding first_due first_of
none_due time s e = by_first (first_of search.Timed s.threads) refl e
  where
    by_test : (u : Thread) → IsLeast u None s.threads → (b : Bool) → nat_le (deadline_of u.doing) time ≡ b → (if b then Some u else None) ≡ None → EachStanding (λ t. is_timed t.doing ≡ true → time < deadline_of t.doing) s.threads
    by_test u l true q z = absurd cc
    by_test u l false q z = let first : time < deadline_of u.doing = grind (arith, nat_tests) in λ p t h d. let later = l.each_later p t h d in omega (arith, first, later)

    by_first : (o : Option Thread) → first_of search.Timed s.threads ≡ o → if_due time o ≡ None → EachStanding (λ t. is_timed t.doing ≡ true → time < deadline_of t.doing) s.threads
    by_first None f z = λ p t h d. absurd (off_on (is_timed t.doing) (none_found search.Timed s.threads f p t h) d)
    by_first (Some u) f z = by_test u (least u None s.threads f) (nat_le (deadline_of u.doing) time) refl z

-- ---- the laws

due_at_once : (s : Schedule) (t : Thread) (late : ℕ) → first_of search.Timed s.threads ≡ Some t → first_due (deadline_of t.doing + late) s ≡ Some t
unfolding first_due
due_at_once s t late e =
    let come : nat_le (deadline_of t.doing) (deadline_of t.doing + late) ≡ true = grind arith in
    ap (if_due (deadline_of t.doing + late)) e ∙ ap (λ b. if b then Some t else None) come

some_stand : (ts : List (Option Thread)) (p : ℕ) (t : Thread) → Stands ts p t → 1 ≤ length ts
some_stand [] p t h = absurd (none_some (Some t) h)
some_stand (o ∷ ts) p t h = omega arith

passed_ready : (k : KernelState) (t : Thread) → first_of search.Timed k.sched.threads ≡ Some t → HasReady (passed k (Some t)).to.sched.threads
unfolding without_idle
passed_ready k t e =
    let f = first_stands search.Timed k.sched.threads t e in
    due_makes (deadline_of t.doing + next_late k.late) (length k.sched.threads) k.sched t (due_at_once k.sched t (next_late k.late) e) (some_stand k.sched.threads f.slot t f.stands)

pub idle_without_deadlines : IdleWithoutDeadlines
unfolding picked advanced
idle_without_deadlines k e = by_groups (list_any is_some k.groups) e
  where
    by_timed : (o : Option Thread) → first_of search.Timed k.sched.threads ≡ o → first_of search.Ready (passed k o).to.sched.threads ≡ None → EachStanding (λ t. is_timed t.doing ≡ false) k.sched.threads
    by_timed None f h = none_found search.Timed k.sched.threads f
    by_timed (Some t) f h = absurd (ready_found (passed k (Some t)).to.sched.threads (passed_ready k t f) h)

    by_ready : (o : Option Thread) → first_of search.Ready k.sched.threads ≡ o → first_of search.Ready (passed_if k o).to.sched.threads ≡ None → EachStanding (λ t. (is_ready t.doing ≡ false) × (is_timed t.doing ≡ false)) k.sched.threads
    by_ready None f h = λ p t s. (none_found search.Ready k.sched.threads f p t s, by_timed (first_of search.Timed k.sched.threads) refl h p t s)
    by_ready (Some u) f h = absurd (none_some u (sym h ∙ f))

    by_run : (o : Option Thread) → runs o ≡ Idle → o ≡ None
    by_run None q = refl
    by_run (Some t) q = absurd cc

    by_groups : (b : Bool) → (let p : Picked = if b then picked_after (advanced k) else record { to = k; replies = []; pick = Ended } in p).pick ≡ Idle → EachStanding (λ t. (is_ready t.doing ≡ false) × (is_timed t.doing ≡ false)) k.sched.threads
    by_groups true q = by_ready (first_of search.Ready k.sched.threads) refl (by_run (first_of search.Ready (advanced k).to.sched.threads) q)
    by_groups false q = absurd cc

-- a time that has come, and no later deadline
abbrev IsPast : KernelState → Type 0
IsPast l = EachStanding (λ t. is_timed t.doing ≡ true → l.time < deadline_of t.doing) l.sched.threads

pub due_threads_wake : DueThreadsWake
unfolding picked advanced without_idle
due_threads_wake k groups none = subst (λ b. IsPast (let p : Picked = if b then picked_after (advanced k) else record { to = k; replies = []; pick = Ended } in p).to) (sym groups) (by_ready (first_of search.Ready k.sched.threads) refl)
  where
    by_timed : (o : Option Thread) → first_of search.Timed k.sched.threads ≡ o → IsPast (passed k o).to
    by_timed None f = λ p t h d. absurd (off_on (is_timed t.doing) (none_found search.Timed k.sched.threads f p t h) d)
    by_timed (Some u) f =
        let time = deadline_of u.doing + next_late k.late in
        let few = few_timed k.sched.threads in
        none_due time (wake_due time (length k.sched.threads) k.sched).sched (none_left time (length k.sched.threads) k.sched few)

    by_ready : (o : Option Thread) → first_of search.Ready k.sched.threads ≡ o → IsPast (passed_if k o).to
    by_ready None f = by_timed (first_of search.Timed k.sched.threads) refl
    by_ready (Some t) f = let s = first_stands search.Ready k.sched.threads t f in absurd (off_on (is_ready t.doing) (none s.slot t s.stands) s.passes)

-- Time and deadlines stay near.
use Rattle.std.proofs.Common.{◌≡◌, ℕ, zero, suc, ◌+◌, ◌*◌, ◌^◌, ◌<◌, ◌≤◌, ◌==◌, Bool, true, false, List, [], ◌∷◌, length, map, drop, Option, Some, None, refl, ap, subst, arith}
use Rattle.std.specs.Prelude.{if◌then◌else◌}
use Rattle.nx_base.specs.ErrorNumbers.{number_of}
use Rattle.nx_ksys.specs.declared.thread.Doing.{Doing}
use Rattle.nx_ksys.specs.declared.thread.Doing.TheVariants as doing
use Rattle.nx_ksys.specs.declared.thread.Wait.{Wait}
use Rattle.nx_ksys.specs.declared.thread.Thread.{Thread}
use Rattle.nx_ksys.specs.Threads.{deadline_of, begin_wait, changed, change_thread, wake, block, with_error}
use Rattle.nx_ksys.specs.State.{KernelState}
use Rattle.nx_ksys.specs.Descriptors.{without_idle}
use Rattle.nx_ksys.specs.Ends.{without_group, without_thread, is_thread, left_alone}
use Rattle.nx_ksys.specs.ThreadCalls.{at_the_end}
use Rattle.nx_ksys.specs.Picking.{next_late}
use Rattle.nx_ksys.specs.Soundness.{EachStanding}
use Rattle.nx_ksys.specs.ByteLaws.{Each}
use Rattle.nx_ksys.proofs.Standing.{some_same, none_some}
use Rattle.nx_ksys.proofs.ByteWalks.{each_rest, standing_changed, standing_set}
use Rattle.nx_kbounds.specs.Counts.{AreNear, IsTimely}
use Rattle.nx_kbounds.proofs.Changes.{Change, Same, Then, Fails, Wakes, Waits, Prioritises, Yields, ThreadBegins, GroupBegins, ThreadGoes, ThreadLeaves, Vanishes, Passes, IsNear}

-- threads that change keep their deadlines, or get such
pub each_changed : (number : ℕ) (f : Thread → Thread) (P Q : Thread → Type 0) (ts : List (Option Thread)) → ((t : Thread) → P t → Q (f t)) → ((t : Thread) → P t → Q t) → EachStanding P ts → EachStanding Q (change_thread number f ts)
unfolding change_thread
each_changed number f P Q [] own same h p t s = absurd (none_some (Some t) s)
each_changed number f P Q (o ∷ ts) own same h zero t s = by_one o (λ u e. h 0 u (ap Some e)) (some_same _ (Some t) s)
  where
    by_one : (v : Option Thread) → ((u : Thread) → v ≡ Some u → P u) → changed number f v ≡ Some t → Q t
    by_one None k e = absurd (none_some t e)
    by_one (Some u) k e = by_test (u.number == number) e
      where
        by_test : (b : Bool) → (if b then Some (f u) else Some u) ≡ Some t → Q t
        by_test true q = subst Q (some_same (f u) t q) (own u (k u refl))
        by_test false q = subst Q (some_same u t q) (same u (k u refl))
each_changed number f P Q (o ∷ ts) own same h (suc p) t s = each_changed number f P Q ts own same (λ q u e. h (suc q) u e) p t s

each_weaker : (P Q : Thread → Type 0) (ts : List (Option Thread)) → ((t : Thread) → P t → Q t) → EachStanding P ts → EachStanding Q ts
each_weaker P Q ts weaker h p t s = weaker t (h p t s)

pub each_left : (P : Thread → Type 0) (f : Option Thread → Option Thread) → ((o : Option Thread) (t : Thread) → f o ≡ Some t → o ≡ Some t) → (ts : List (Option Thread)) → EachStanding P ts → EachStanding P (map f ts)
each_left P f same ts h = standing_changed P f ts (λ o t e k. k t (same o t e)) h

pub left_of_group : (group : ℕ) (o : Option Thread) (t : Thread) → without_group group o ≡ Some t → o ≡ Some t
left_of_group group None t e = e
left_of_group group (Some u) t e = by_test (u.group == group) e
  where
    by_test : (b : Bool) → (if b then None else Some u) ≡ Some t → Some u ≡ Some t
    by_test true q = absurd (none_some t q)
    by_test false q = q

pub left_of_number : (number : ℕ) (o : Option Thread) (t : Thread) → without_thread number o ≡ Some t → o ≡ Some t
left_of_number number o t e = by_test (is_thread number o) e
  where
    by_test : (b : Bool) → (if b then None else o) ≡ Some t → o ≡ Some t
    by_test true q = absurd (none_some t q)
    by_test false q = q

end_deadline : (moment : ℕ) (d : Doing) → deadline_of (at_the_end moment d) ≡ deadline_of d
end_deadline moment (doing.Ready since) = refl
end_deadline moment (doing.Waits for since) = refl
end_deadline moment (doing.Until for since deadline) = refl

-- a wait begins with a deadline that is near
begun : (time late moments : ℕ) (for : Wait) (deadline : Option ℕ) → IsNear time deadline → time + 2 ^ 31 * late ≤ 2 ^ 31 * (moments + 4096) → deadline_of (begin_wait moments for deadline) + 2 ^ 31 * late ≤ 2 ^ 31 * (moments + 1 + 4096)
begun time late moments for None near h = omega (arith, h)
begun time late moments for (Some d) near h = let n = near d refl in omega (arith, h, n)

-- time passes to a deadline
passed : (d time : ℕ) (late : List ℕ) (moments : ℕ) → Each (λ n. n < 2 ^ 31) late → d + 2 ^ 31 * length late ≤ 2 ^ 31 * (moments + 4096) → d + next_late late + 2 ^ 31 * length (drop 1 late) ≤ 2 ^ 31 * (moments + 4096)
passed d time [] moments each h = omega (arith, h)
passed d time (n ∷ ns) moments each h = let l = each 0 n refl in omega (arith, h, l)

fewer_late : (late : List ℕ) → length (drop 1 late) ≤ length late
fewer_late [] = omega arith
fewer_late (n ∷ ns) = omega arith

each_later : (late : List ℕ) → Each (λ n. n < 2 ^ 31) late → Each (λ n. n < 2 ^ 31) (drop 1 late)
each_later [] h = h
each_later (n ∷ ns) h = each_rest (λ m. m < 2 ^ 31) n ns h

-- one moment more
more : (time : ℕ) (late : List ℕ) (moments : ℕ) (ts us : List (Option Thread)) → AreNear time late (record { threads = ts; moments = moments }) → EachStanding (λ t. deadline_of t.doing + 2 ^ 31 * length late ≤ 2 ^ 31 * (moments + 1 + 4096)) us → AreNear time late (record { threads = us; moments = moments + 1 })
more time late moments ts us h each = record { lateness = h.lateness; passed = (let p = h.passed in omega (arith, p)); deadlines = each }

same_moment : (time : ℕ) (late : List ℕ) (moments : ℕ) (ts us : List (Option Thread)) → AreNear time late (record { threads = ts; moments = moments }) → EachStanding (λ t. deadline_of t.doing + 2 ^ 31 * length late ≤ 2 ^ 31 * (moments + 4096)) us → AreNear time late (record { threads = us; moments = moments })
same_moment time late moments ts us h each = record { lateness = h.lateness; passed = h.passed; deadlines = each }

pub change_near : {a : ℕ} {k l : KernelState} → Change a k l → IsTimely k → IsTimely l
unfolding wake block with_error without_idle left_alone
change_near Same h = h
change_near (Then c d) h = change_near d (change_near c h)
change_near (Fails {k = k} thread e) h = same_moment k.time k.late k.sched.moments k.sched.threads _ h
    (each_changed thread (λ t. record t { errno = number_of e }) (λ t. deadline_of t.doing + 2 ^ 31 * length k.late ≤ 2 ^ 31 * (k.sched.moments + 4096)) (λ t. deadline_of t.doing + 2 ^ 31 * length k.late ≤ 2 ^ 31 * (k.sched.moments + 4096)) k.sched.threads (λ t p. p) (λ t p. p) h.deadlines)
change_near (Wakes {k = k} t slot s r) h = more k.time k.late k.sched.moments k.sched.threads _ h
    (each_changed t.number (λ u. record u { doing = doing.Ready k.sched.moments }) (λ t. deadline_of t.doing + 2 ^ 31 * length k.late ≤ 2 ^ 31 * (k.sched.moments + 4096)) (λ t. deadline_of t.doing + 2 ^ 31 * length k.late ≤ 2 ^ 31 * (k.sched.moments + 1 + 4096)) k.sched.threads (λ u p. let q = h.passed in omega (arith, q)) (λ u p. omega (arith, p)) h.deadlines)
change_near (Waits {k = k} thread asked for deadline numbered near awaits) h = more k.time k.late k.sched.moments k.sched.threads _ h
    (each_changed thread (λ t. record t { doing = begin_wait k.sched.moments for deadline; asked = asked }) (λ t. deadline_of t.doing + 2 ^ 31 * length k.late ≤ 2 ^ 31 * (k.sched.moments + 4096)) (λ t. deadline_of t.doing + 2 ^ 31 * length k.late ≤ 2 ^ 31 * (k.sched.moments + 1 + 4096)) k.sched.threads
    (λ u p. begun k.time (length k.late) k.sched.moments for deadline near h.passed) (λ u p. omega (arith, p)) h.deadlines)
change_near (Prioritises {k = k} thread priority) h = more k.time k.late k.sched.moments k.sched.threads _ h
    (each_changed thread (λ t. record t { priority = priority; doing = at_the_end k.sched.moments t.doing }) (λ t. deadline_of t.doing + 2 ^ 31 * length k.late ≤ 2 ^ 31 * (k.sched.moments + 4096)) (λ t. deadline_of t.doing + 2 ^ 31 * length k.late ≤ 2 ^ 31 * (k.sched.moments + 1 + 4096)) k.sched.threads
    (λ t p. let e = end_deadline k.sched.moments t.doing in omega (arith, p, e)) (λ u p. omega (arith, p)) h.deadlines)
change_near (Yields {k = k} thread) h = more k.time k.late k.sched.moments k.sched.threads _ h
    (each_changed thread (λ t. record t { doing = at_the_end k.sched.moments t.doing }) (λ t. deadline_of t.doing + 2 ^ 31 * length k.late ≤ 2 ^ 31 * (k.sched.moments + 4096)) (λ t. deadline_of t.doing + 2 ^ 31 * length k.late ≤ 2 ^ 31 * (k.sched.moments + 1 + 4096)) k.sched.threads
    (λ t p. let e = end_deadline k.sched.moments t.doing in omega (arith, p, e)) (λ u p. omega (arith, p)) h.deadlines)
change_near (ThreadBegins {k = k} slot group priority free few) h = more k.time k.late k.sched.moments k.sched.threads _ h
    (standing_set (λ t. deadline_of t.doing + 2 ^ 31 * length k.late ≤ 2 ^ 31 * (k.sched.moments + 1 + 4096)) k.sched.threads slot _ (let q = h.passed in omega (arith, q))
    (each_weaker (λ t. deadline_of t.doing + 2 ^ 31 * length k.late ≤ 2 ^ 31 * (k.sched.moments + 4096)) (λ t. deadline_of t.doing + 2 ^ 31 * length k.late ≤ 2 ^ 31 * (k.sched.moments + 1 + 4096)) k.sched.threads (λ u p. omega (arith, p)) h.deadlines))
change_near (GroupBegins {k = k} c slot program priority arguments free few there short empty) h = more k.time k.late k.sched.moments k.sched.threads _ h
    (standing_set (λ t. deadline_of t.doing + 2 ^ 31 * length k.late ≤ 2 ^ 31 * (k.sched.moments + 1 + 4096)) k.sched.threads slot _ (let q = h.passed in omega (arith, q))
    (each_weaker (λ t. deadline_of t.doing + 2 ^ 31 * length k.late ≤ 2 ^ 31 * (k.sched.moments + 4096)) (λ t. deadline_of t.doing + 2 ^ 31 * length k.late ≤ 2 ^ 31 * (k.sched.moments + 1 + 4096)) k.sched.threads (λ u p. omega (arith, p)) h.deadlines))
change_near (ThreadGoes {k = k} t slot s) h = same_moment k.time k.late k.sched.moments k.sched.threads _ h
    (each_left (λ t. deadline_of t.doing + 2 ^ 31 * length k.late ≤ 2 ^ 31 * (k.sched.moments + 4096)) (without_thread t.number) (left_of_number t.number) k.sched.threads h.deadlines)
change_near (ThreadLeaves {k = k} t slot v s) h = same_moment k.time k.late k.sched.moments k.sched.threads _ h
    (each_left (λ t. deadline_of t.doing + 2 ^ 31 * length k.late ≤ 2 ^ 31 * (k.sched.moments + 4096)) (without_thread t.number) (left_of_number t.number) k.sched.threads h.deadlines)
change_near (Vanishes {k = k} group) h = same_moment k.time k.late k.sched.moments k.sched.threads _ h
    (each_left (λ t. deadline_of t.doing + 2 ^ 31 * length k.late ≤ 2 ^ 31 * (k.sched.moments + 4096)) (without_group group) (left_of_group group) k.sched.threads h.deadlines)
change_near (Passes {k = k} t slot s) h = record {
  lateness = each_later k.late h.lateness;
  passed = passed (deadline_of t.doing) k.time k.late k.sched.moments h.lateness (h.deadlines slot t s);
  deadlines = λ p u q. (let a = h.deadlines p u q in let b = fewer_late k.late in omega (arith, a, b));
}
change_near c h = h

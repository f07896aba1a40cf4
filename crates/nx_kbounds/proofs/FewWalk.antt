-- No change brings more than the numbers and moments that are given.
use Rattle.std.proofs.Common.{◌≡◌, ℕ, ◌+◌, ◌≤◌, ◌==◌, Bool, true, false, not, List, [], ◌∷◌, length, map, Option, Some, None, ℤ, pos, refl, ap, arith, length-append}
use Rattle.std.specs.Prelude.{if◌then◌else◌, slice_get, slice_set, nat_le, filter}
use Rattle.std.specs.Option.{is_some}
use Rattle.std.proofs.lemmas.Bool.{eq-eqb}
use Rattle.std.proofs.lemmas.Bool.Decides.{nat_tests}
use Rattle.nx_base.specs.ErrorNumbers.{number_of}
use Rattle.nx_ksys.specs.declared.thread.Doing.{Doing}
use Rattle.nx_ksys.specs.declared.thread.Doing.TheVariants as doing
use Rattle.nx_ksys.specs.declared.thread.Thread.{Thread}
use Rattle.nx_ksys.specs.Threads.{Schedule, flat, begin_wait, wake, block, with_error}
use Rattle.nx_ksys.specs.State.{Group, Code, ThreadValue, Ending, KernelState}
use Rattle.nx_ksys.specs.Answers.{Caller}
use Rattle.nx_ksys.specs.Descriptors.{without_idle}
use Rattle.nx_ksys.specs.Ends.{without_group, without_thread, is_thread, nobodys, left_alone}
use Rattle.nx_ksys.specs.GroupCalls.{most_numbers, nothing_asked}
use Rattle.nx_ksys.specs.ThreadCalls.{at_the_end}
use Rattle.nx_ksys.specs.Bounds.{one_if}
use Rattle.nx_kbounds.specs.Counts.{waits_one, waiting}
use Rattle.nx_kbounds.proofs.Standings.{standing, one_more, no_more, one_fewer, fewer_mapped, one_fewer_mapped, shorter, live_changed, waiting_changed, waiting_woken, waiting_blocked, waiting_begun, waiting_mapped}
use Rattle.nx_kbounds.proofs.Changes.{Change, Same, Then, Fails, Wakes, Waits, Prioritises, Yields, ThreadBegins, GroupBegins, ThreadGoes, ThreadLeaves, Vanishes, GroupGoes, GroupLeaves, CodeTaken, ValueTaken, Enters, Sets}

-- what is counted
pub record Counted : Type 0 where
  pub sched : Schedule
  pub groups : List (Option Group)
  pub codes : List Code
  pub values : List ThreadValue
  pub ended : List Ending
  pub numbers : ℕ

abbrev pub counted : KernelState → Counted
counted k = record { sched = k.sched; groups = k.groups; codes = k.codes; values = k.values; ended = k.ended; numbers = k.numbers }

-- what bounded the one bounds the other, with so many moments more
pub record Grows (a : ℕ) (x y : Counted) : Type 0 where
  pub made : y.sched.moments + waiting y.sched.threads ≤ x.sched.moments + waiting x.sched.threads + a
  pub given : x.numbers ≤ 65535 → y.numbers ≤ 65535
  pub ends : length x.ended + standing x.groups ≤ x.numbers → length y.ended + standing y.groups ≤ y.numbers
  pub children : length x.codes + standing x.groups ≤ x.numbers → length y.codes + standing y.groups ≤ y.numbers
  pub results : length x.values + standing x.sched.threads ≤ x.numbers → length y.values + standing y.sched.threads ≤ y.numbers

stays : (x : Counted) → Grows 0 x x
stays x = record { made = omega arith; given = λ h. h; ends = λ h. h; children = λ h. h; results = λ h. h }

on : (a b : ℕ) (x y z : Counted) → Grows a x y → Grows b y z → Grows (a + b) x z
on a b x y z g h = record {
  made = (let m = g.made in let n = h.made in omega (arith, m, n));
  given = λ p. h.given (g.given p);
  ends = λ p. h.ends (g.ends p);
  children = λ p. h.children (g.children p);
  results = λ p. h.results (g.results p);
}

-- threads change, and nothing else
threads_change : (a : ℕ) (x : Counted) (s : Schedule) → s.moments + waiting s.threads ≤ x.sched.moments + waiting x.sched.threads + a → standing s.threads ≤ standing x.sched.threads → Grows a x (record x { sched = s })
threads_change a x s m l = record { made = m; given = λ h. h; ends = λ h. h; children = λ h. h; results = λ h. omega (arith, h, l) }

-- groups keep how many there are
groups_change : (x : Counted) (gs : List (Option Group)) → standing gs ≡ standing x.groups → Grows 0 x (record x { groups = gs })
groups_change x gs e = record { made = omega arith; given = λ h. h; ends = λ h. omega (arith, h, e); children = λ h. omega (arith, h, e); results = λ h. h }

abbrev woken : ℕ → Thread → Thread
woken moment t = record t { doing = doing.Ready moment }

abbrev failed : ℤ → Thread → Thread
failed e t = record t { errno = e }

end_waits : (moment : ℕ) (t : Thread) (p : ℕ) → waits_one (Some (record t { priority = p; doing = at_the_end moment t.doing })) ≤ waits_one (Some t)
end_waits moment t p = by_doing t.doing
  where
    by_doing : (d : Doing) → waits_one (Some (record t { priority = p; doing = at_the_end moment d })) ≤ waits_one (Some (record t { doing = d }))
    by_doing (doing.Ready since) = omega arith
    by_doing (doing.Waits for since) = omega arith
    by_doing (doing.Until for since deadline) = omega arith

-- ---- those that vanish

none_of_group : (group : ℕ) (o : Option Thread) → one_if (is_some (without_group group o)) ≤ one_if (is_some o)
none_of_group group None = omega arith
none_of_group group (Some t) = by_test (t.group == group)
  where
    by_test : (b : Bool) → one_if (is_some (let o : Option Thread = if b then None else Some t in o)) ≤ 1
    by_test true = omega arith
    by_test false = omega arith

none_waits : (group : ℕ) (o : Option Thread) → waits_one (without_group group o) ≤ waits_one o
none_waits group None = omega arith
none_waits group (Some t) = by_test (t.group == group)
  where
    by_test : (b : Bool) → waits_one (if b then None else Some t) ≤ waits_one (Some t)
    by_test true = omega arith
    by_test false = omega arith

none_of_number : (number : ℕ) (o : Option Thread) → one_if (is_some (without_thread number o)) ≤ one_if (is_some o)
none_of_number number o = by_test (is_thread number o)
  where
    by_test : (b : Bool) → one_if (is_some (let u : Option Thread = if b then None else o in u)) ≤ one_if (is_some o)
    by_test true = omega arith
    by_test false = omega arith

number_waits : (number : ℕ) (o : Option Thread) → waits_one (without_thread number o) ≤ waits_one o
number_waits number o = by_test (is_thread number o)
  where
    by_test : (b : Bool) → waits_one (if b then None else o) ≤ waits_one o
    by_test true = omega arith
    by_test false = omega arith

own_number : (t : Thread) → without_thread t.number (Some t) ≡ None
own_number t = ap (λ b. if b then None else Some t) (eq-eqb t.number t.number refl)

nobodys_stand : (group : ℕ) (o : Option Group) → one_if (is_some (nobodys group o)) ≤ one_if (is_some o)
nobodys_stand group None = omega arith
nobodys_stand group (Some g) = by_test (g.parent == group)
  where
    by_test : (b : Bool) → one_if (is_some (if b then Some (record g { parent = 0 }) else Some g)) ≤ 1
    by_test true = omega arith
    by_test false = omega arith

group_gone : (gs : List (Option Group)) (place : ℕ) (g : Group) → flat (slice_get gs place) ≡ Some g → standing (map (nobodys g.number) (slice_set gs place None)) + 1 ≤ standing gs
group_gone gs place g e = let a = fewer_mapped (nobodys g.number) (nobodys_stand g.number) (slice_set gs place None) in let b = one_fewer gs place g e in omega (arith, a, b)

-- a thread that begins
abbrev begun : KernelState → ℕ → ℕ → Thread
begun k group priority = record { number = k.numbers + 1; group = if group == 0 then k.numbers + 1 else group; priority = priority; errno = pos 0; doing = doing.Ready k.sched.moments; asked = nothing_asked }

abbrev group_begun : KernelState → Caller → ℕ → List (List ℕ) → Group
group_begun k c program arguments = record { number = k.numbers + 1; program = program; parent = c.group.number; directory = c.group.directory; arguments = arguments; environment = c.group.environment }

below : (n : ℕ) → nat_le most_numbers n ≡ false → n + 1 ≤ 65535
below n e = grind (arith, nat_tests)

pub change_grows : {a : ℕ} {k l : KernelState} → Change a k l → Grows a (counted k) (counted l)
unfolding wake block with_error left_alone without_idle
change_grows {k = k} Same = stays (counted k)
change_grows (Then {a = a} {b = b} {k = k} {l = l} {m = m} c d) = on a b (counted k) (counted l) (counted m) (change_grows c) (change_grows d)
change_grows (Fails {k = k} thread e) =
    threads_change 0 (counted k) _
    (let w = waiting_changed thread (failed (number_of e)) (λ t. omega arith) k.sched.threads in omega (arith, w))
    (let s = live_changed thread (failed (number_of e)) k.sched.threads in omega (arith, s))
change_grows (Wakes {k = k} t slot s r) =
    threads_change 0 (counted k) _
    (let w = waiting_woken (woken k.sched.moments) (λ u. refl) t k.sched.threads slot s r in omega (arith, w))
    (let n = live_changed t.number (woken k.sched.moments) k.sched.threads in omega (arith, n))
change_grows (Waits {k = k} thread asked for deadline numbered near awaits) =
    threads_change 2 (counted k) _
    (let w = waiting_blocked thread (λ t. record t { doing = begin_wait k.sched.moments for deadline; asked = asked }) k.sched.threads numbered in omega (arith, w))
    (let n = live_changed thread (λ t. record t { doing = begin_wait k.sched.moments for deadline; asked = asked }) k.sched.threads in omega (arith, n))
change_grows (Prioritises {k = k} thread priority) =
    threads_change 1 (counted k) _
    (let w = waiting_changed thread (λ t. record t { priority = priority; doing = at_the_end k.sched.moments t.doing }) (λ t. end_waits k.sched.moments t priority) k.sched.threads in omega (arith, w))
    (let n = live_changed thread (λ t. record t { priority = priority; doing = at_the_end k.sched.moments t.doing }) k.sched.threads in omega (arith, n))
change_grows (Yields {k = k} thread) =
    threads_change 1 (counted k) _
    (let w = waiting_changed thread (λ t. record t { doing = at_the_end k.sched.moments t.doing }) (λ t. end_waits k.sched.moments t t.priority) k.sched.threads in omega (arith, w))
    (let n = live_changed thread (λ t. record t { doing = at_the_end k.sched.moments t.doing }) k.sched.threads in omega (arith, n))
change_grows (ThreadBegins {k = k} slot group priority free few) = record {
  made = (let w = waiting_begun k.sched.threads slot (begun k group priority) refl in omega (arith, w));
  given = λ h. below k.numbers few;
  ends = λ h. omega (arith, h);
  children = λ h. omega (arith, h);
  results = λ h. (let s = one_more k.sched.threads slot (begun k group priority) in omega (arith, h, s));
}
change_grows (GroupBegins {k = k} c slot program priority arguments free few there short empty) = record {
  made = (let w = waiting_begun k.sched.threads slot (begun k 0 priority) refl in omega (arith, w));
  given = λ h. below k.numbers few;
  ends = λ h. (let s = one_more k.groups slot (group_begun k c program arguments) in omega (arith, h, s));
  children = λ h. (let s = one_more k.groups slot (group_begun k c program arguments) in omega (arith, h, s));
  results = λ h. (let s = one_more k.sched.threads slot (begun k 0 priority) in omega (arith, h, s));
}
change_grows (ThreadGoes {k = k} t slot s) =
    threads_change 0 (counted k) _
    (let w = waiting_mapped (without_thread t.number) (number_waits t.number) k.sched.threads in omega (arith, w))
    (let n = fewer_mapped (without_thread t.number) (none_of_number t.number) k.sched.threads in omega (arith, n))
change_grows (ThreadLeaves {k = k} t slot v s) = record {
  made = (let w = waiting_mapped (without_thread t.number) (number_waits t.number) k.sched.threads in omega (arith, w));
  given = λ h. h;
  ends = λ h. h;
  children = λ h. h;
  results = λ h. (let n = one_fewer_mapped (without_thread t.number) (none_of_number t.number) k.sched.threads slot t s (own_number t) in let a = length-append k.values (v ∷ []) in omega (arith, h, n, a));
}
change_grows (Vanishes {k = k} group) = record {
  made = (let w = waiting_mapped (without_group group) (none_waits group) k.sched.threads in omega (arith, w));
  given = λ h. h;
  ends = λ h. h;
  children = λ h. h;
  results = λ h. (let n = fewer_mapped (without_group group) (none_of_group group) k.sched.threads in let f = shorter (λ (v : ThreadValue). not (v.group == group)) k.values in omega (arith, h, n, f));
}
change_grows (GroupGoes {k = k} place g e there none) = record {
  made = omega arith;
  given = λ h. h;
  ends = λ h. (let n = group_gone k.groups place g there in let a = length-append k.ended (e ∷ []) in omega (arith, h, n, a));
  children = λ h. (let n = group_gone k.groups place g there in let f = shorter (λ (c : Code). not (c.parent == g.number)) k.codes in omega (arith, h, n, f));
  results = λ h. h;
}
change_grows (GroupLeaves {k = k} place g e code there none) = record {
  made = omega arith;
  given = λ h. h;
  ends = λ h. (let n = group_gone k.groups place g there in let a = length-append k.ended (e ∷ []) in omega (arith, h, n, a));
  children = λ h. (let n = group_gone k.groups place g there in let f = shorter (λ (c : Code). not (c.parent == g.number)) k.codes in let a = length-append (filter (λ (c : Code). not (c.parent == g.number)) k.codes) (code ∷ []) in omega (arith, h, n, f, a));
  results = λ h. h;
}
change_grows (CodeTaken {k = k} code) = record {
  made = omega arith;
  given = λ h. h;
  ends = λ h. h;
  children = λ h. (let f = shorter (λ (c : Code). not (c.child == code.child)) k.codes in omega (arith, h, f));
  results = λ h. h;
}
change_grows (ValueTaken {k = k} v) = record {
  made = omega arith;
  given = λ h. h;
  ends = λ h. h;
  children = λ h. h;
  results = λ h. (let f = shorter (λ (w : ThreadValue). not (w.thread == v.thread)) k.values in omega (arith, h, f));
}
change_grows (Enters {k = k} place g path there short) = groups_change (counted k) _ (no_more k.groups place _ g there)
change_grows (Sets {k = k} place g variables there short) = groups_change (counted k) _ (no_more k.groups place _ g there)
change_grows {k = k} c = stays (counted k)

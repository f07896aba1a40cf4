-- A thread that goes on leaves fewer that wait.
use Rattle.std.proofs.Common.{◌≡◌, ℕ, zero, suc, ◌+◌, ◌≤◌, ◌==◌, ◌&&◌, ◌++◌, Bool, true, false, cond, List, [], ◌∷◌, length, map, Option, Some, None, refl, sym, ap, ◌∙◌, arith}
use Rattle.std.specs.Prelude.{if◌then◌else◌, slice_get}
use Rattle.std.proofs.lemmas.Bool.{eq-eqb}
use Rattle.std.proofs.lemmas.List.{length-map}
use Rattle.nx_base.specs.ErrorNumbers.{number_of}
use Rattle.nx_base.specs.declared.errno.Errno.{Errno}
use Rattle.nx_base.specs.declared.errno.Errno.TheVariants.{Echild}
use Rattle.nx_ksys.specs.declared.thread.Thread.{Thread}
use Rattle.nx_ksys.specs.declared.thread.Doing.{Doing}
use Rattle.nx_ksys.specs.declared.thread.Doing.TheVariants.{Ready, Waits, Until}
use Rattle.nx_ksys.specs.Threads.{Schedule, is_ready, comes_before, changed, change_thread, wake, with_error, awaited, Woken, woken_failing, woken_then, none_woken}
use Rattle.nx_ksys.specs.State.{Group, Code}
use Rattle.nx_ksys.specs.Ends.{is_lost, is_lost_wait, first_lost, refuse_first, refuse_lost}
use Rattle.nx_ksys.specs.Soundness.{Stands}
use Rattle.nx_ksys.proofs.Standing.{some_same}
use Rattle.nx_ksys.proofs.Waking.{Found, best_found}
use Rattle.nx_group.specs.Waiting.{waits_one, waiting}

woken : ℕ → Thread → Thread
woken moment t = record t { doing = Ready moment }

less_one : (number moment : ℕ) (t : Option Thread) → waits_one (changed number (λ u. record u { doing = Ready moment }) t) ≤ waits_one t
less_one number moment None = omega arith
less_one number moment (Some t) = elim (t.number == number) as (λ b. waits_one (cond b (Some (record t { doing = Ready moment })) (Some t)) ≤ waits_one (Some t)) [ true ↦ omega arith | false ↦ omega arith ]

less_all : (number moment : ℕ) (ts : List (Option Thread)) → waiting (change_thread number (λ u. record u { doing = Ready moment }) ts) ≤ waiting ts
unfolding change_thread
less_all number moment [] = omega arith
less_all number moment (t ∷ ts) = let a = less_one number moment t in let b = less_all number moment ts in omega (arith, a, b)

less_own : (moment : ℕ) (t : Thread) → is_ready t.doing ≡ false → waits_one (changed t.number (λ u. record u { doing = Ready moment }) (Some t)) + 1 ≤ waits_one (Some t)
less_own moment t e =
    let own : (t.number == t.number) ≡ true = eq-eqb t.number t.number refl in
    rw (own, e) (omega arith)

pub less_at : (moment : ℕ) (t : Thread) (ts : List (Option Thread)) (slot : ℕ) → Stands ts slot t → is_ready t.doing ≡ false → waiting (change_thread t.number (λ u. record u { doing = Ready moment }) ts) + 1 ≤ waiting ts
unfolding change_thread
less_at moment t [] slot s e = absurd cc
less_at moment t (u ∷ us) zero s e =
    let same : u ≡ Some t = some_same u (Some t) s in
    let own = less_own moment t e in
    let rest = less_all t.number moment us in
    rw same (omega (arith, own, rest))
less_at moment t (u ∷ us) (suc slot) s e = let one = less_one t.number moment u in let rest = less_at moment t us slot s e in omega (arith, one, rest)

same_one : (number : ℕ) (e : Errno) (t : Option Thread) → waits_one (changed number (λ u. record u { errno = number_of e }) t) ≡ waits_one t
same_one number e None = refl
same_one number e (Some t) = elim (t.number == number) as (λ b. waits_one (cond b (Some (record t { errno = number_of e })) (Some t)) ≡ waits_one (Some t)) [ true ↦ refl | false ↦ refl ]

same_all : (number : ℕ) (e : Errno) (ts : List (Option Thread)) → waiting (change_thread number (λ u. record u { errno = number_of e }) ts) ≡ waiting ts
unfolding change_thread
same_all number e [] = refl
same_all number e (t ∷ ts) = let a = same_one number e t in let b = same_all number e ts in omega (arith, a, b)

-- ---- a thread that waits for a child where there is none

not_ready : (d : Doing) (groups : List (Option Group)) (codes : List Code) (parent : ℕ) → is_lost_wait groups codes parent (awaited d) ≡ true → is_ready d ≡ false
not_ready (Ready since) groups codes parent e = cc
not_ready (Waits for since) groups codes parent e = refl
not_ready (Until for since deadline) groups codes parent e = refl

pub and_right : (a b : Bool) → (a && b) ≡ true → b ≡ true
and_right true b e = e
and_right false b e = absurd cc

-- what one more that is refused leaves
pub record Refused (s x : Schedule) : Type 0 where
  pub fewer : waiting x.threads + 1 ≤ waiting s.threads
  pub moments : x.moments ≡ s.moments + 1

pub refused : (groups : List (Option Group)) (codes : List Code) (parent : ℕ) (s : Schedule) (t : Thread) → first_lost groups codes parent s ≡ Some t → Refused s (with_error (wake s t.number) t.number Echild)
unfolding first_lost wake with_error
refused groups codes parent s t e =
    let f = best_found (is_lost groups codes parent) comes_before s.threads t e in
    let waits = not_ready t.doing groups codes parent (and_right (t.group == parent) _ f.passes) in
    let less = less_at s.moments t s.threads f.slot f.stands waits in
    let same = same_all t.number Echild (change_thread t.number (λ u. record u { doing = Ready s.moments }) s.threads) in
    record { fewer = omega (arith, less, same); moments = refl }

pub refused_next : (groups : List (Option Group)) (codes : List Code) (parent n m : ℕ) (s : Schedule) (t : Thread) → first_lost groups codes parent s ≡ Some t → n ≡ suc m
    → refuse_lost groups codes parent n s ≡ woken_then (woken_failing s t Echild) (refuse_lost groups codes parent m)
refused_next groups codes parent n m s t e k = rw (k, e) refl

pub refused_none : (groups : List (Option Group)) (codes : List Code) (parent n : ℕ) (s : Schedule) → first_lost groups codes parent s ≡ None → refuse_lost groups codes parent n s ≡ none_woken s
refused_none groups codes parent zero s e = refl
refused_none groups codes parent (suc n) s e = rw e refl

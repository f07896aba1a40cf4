-- The next message is the oldest of the greatest priority.
use Rattle.std.proofs.Common.{◌≡◌, ◌≢◌, ◌+◌, ◌≤◌, ◌<◌, ◌==◌, ℕ, zero, suc, List, [], ◌∷◌, refl, sym, ap, ◌∙◌, arith, rules, cond, Bool, true, false}
use Rattle.std.specs.Prelude.{Option, Some, None, slice_get, max, find}
use Rattle.std.proofs.lemmas.Bool.Decides.{nat_tests}
use Rattle.nx_ksys.specs.State.{Message}
use Rattle.nx_ksys.specs.QueueCalls.{has_priority, top_priority, next_message}
use Rattle.nx_ipc.specs.NextMessage.{IsOldestOfGreatest}

-- the first message of a priority
record IsFirstOf (p : ℕ) (ms : List Message) (m : Message) : Type 0 where
  place : ℕ
  stands : slice_get ms place ≡ Some m
  same : m.priority ≡ p
  before : (i : ℕ) (other : Message) → i < place → slice_get ms i ≡ Some other → other.priority ≢ p

equal : (a b : ℕ) → a == b ≡ true → a ≡ b
equal a b e = search (rules, arith)

unequal : (a b : ℕ) → a == b ≡ false → a ≢ b
unequal a b e q = grind (arith, nat_tests)

before_more : (p place : ℕ) (m : Message) (ms : List Message) → m.priority ≢ p → ((i : ℕ) (other : Message) → i < place → slice_get ms i ≡ Some other → other.priority ≢ p)
    → (i : ℕ) (other : Message) → i < suc place → slice_get (m ∷ ms) i ≡ Some other → other.priority ≢ p
before_more p place m ms ne before zero other lt g = let s : m ≡ other = cc in λ q. ne (ap (λ (x : Message). x.priority) s ∙ q)
before_more p place m ms ne before (suc i) other lt g = before i other (omega arith) g

first_by : (p : ℕ) (m x : Message) (ms : List Message) (found : Option Message) (t : Bool) → (m.priority == p) ≡ t → (found ≡ Some x → IsFirstOf p ms x) → cond t (Some m) found ≡ Some x → IsFirstOf p (m ∷ ms) x
first_by p m x ms found true e h g =
    let s : m ≡ x = cc in
    record { place = 0; stands = g; same = ap (λ (y : Message). y.priority) (sym s) ∙ equal m.priority p e; before = λ i other lt k. absurd (omega arith) }
first_by p m x ms found false e h g =
    let f : IsFirstOf p ms x = h g in
    record { place = suc f.place; stands = f.stands; same = f.same; before = before_more p f.place m ms (unequal m.priority p e) f.before }

first_found : (p : ℕ) (ms : List Message) (x : Message) → find (has_priority p) ms ≡ Some x → IsFirstOf p ms x
first_found p [] x e = absurd cc
first_found p (m ∷ ms) x e = first_by p m x ms (find (has_priority p) ms) (m.priority == p) refl (λ h. first_found p ms x h) e

none_by : (p : ℕ) (m : Message) (ms : List Message) (found : Option Message) (t : Bool) → (m.priority == p) ≡ t
    → (found ≡ None → (i : ℕ) (other : Message) → slice_get ms i ≡ Some other → other.priority ≢ p) → cond t (Some m) found ≡ None
    → (i : ℕ) (other : Message) → slice_get (m ∷ ms) i ≡ Some other → other.priority ≢ p
none_by p m ms found true e h g i other k = absurd cc
none_by p m ms found false e h g zero other k = let s : m ≡ other = cc in λ q. unequal m.priority p e (ap (λ (x : Message). x.priority) s ∙ q)
none_by p m ms found false e h g (suc i) other k = h g i other k

none_found : (p : ℕ) (ms : List Message) → find (has_priority p) ms ≡ None → (i : ℕ) (other : Message) → slice_get ms i ≡ Some other → other.priority ≢ p
none_found p [] e i other k = absurd cc
none_found p (m ∷ ms) e i other k = none_by p m ms (find (has_priority p) ms) (m.priority == p) refl (λ h. none_found p ms h) e i other k

below_top : (ms : List Message) (i : ℕ) (other : Message) → slice_get ms i ≡ Some other → other.priority ≤ top_priority ms
below_top [] i other g = absurd cc
below_top (m ∷ ms) zero other g =
    let s : m ≡ other = cc in
    let q : m.priority ≡ other.priority = ap (λ (x : Message). x.priority) s in
    omega arith
below_top (m ∷ ms) (suc i) other g = let l = below_top ms i other g in omega arith

-- messages of which none has the greatest priority
unattained : (p : ℕ) (ms : List Message) → ((i : ℕ) (other : Message) → slice_get ms i ≡ Some other → other.priority ≢ p) → top_priority ms ≡ p → ms ≡ []
unattained p [] h e = refl
unattained p (m ∷ ms) h e =
    let ne : m.priority ≢ p = h 0 m refl in
    let t : top_priority ms ≡ p = omega arith in
    let r : ms ≡ [] = unattained p ms (λ i other g. h (suc i) other g) t in
    let z : top_priority ms ≡ 0 = ap top_priority r in
    absurd (omega arith)

oldest_of : (ms : List Message) (m : Message) → IsFirstOf (top_priority ms) ms m → IsOldestOfGreatest ms m
oldest_of ms m f = record {
  place = f.place;
  stands = f.stands;
  greatest = λ i other g. let l = below_top ms i other g in omega (arith, f.same);
  oldest = λ i other lt g. let l = below_top ms i other g in let ne = f.before i other lt g in omega (arith, f.same);
}

pub next_is_oldest : (ms : List Message) (m : Message) → next_message ms ≡ Some m → IsOldestOfGreatest ms m
unfolding next_message
next_is_oldest ms m e = oldest_of ms m (first_found (top_priority ms) ms m e)

pub no_next_message : (ms : List Message) → next_message ms ≡ None → ms ≡ []
unfolding next_message
no_next_message ms e = unattained (top_priority ms) ms (none_found (top_priority ms) ms e) refl

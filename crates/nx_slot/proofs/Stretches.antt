-- Runs in parts, their one answer, and their costs.
use Rattle.std.proofs.Common.{◌≡◌, ℕ, zero, suc, ◌+◌, ◌≤◌, List, [], ◌∷◌, refl, ap, ◌∙◌, subst, arith}
use Rattle.std.specs.Prelude.{nat_lt, slice_get}
use Rattle.nx_slot.specs.Objects.{Value, Int, Pointer, Forged, Entry, Object}
use Rattle.nx_slot.specs.Meaning.{Code, SlotFrame, SlotState, SlotTurn, Goes, Requests, Finishes, Overflows, Fails, function_at, stack_need, opened, waiting, given, step_of, step}
use Rattle.nx_slot.specs.Runs.{SlotReach, Going, Requested, Finished, Overflowed, Failed, dearer, then_on, run}
use Rattle.nx_slot.specs.Laws.{IsAnswered, AnswersOnce, RunsInParts, CostsEach}
use Rattle.nx_slot.proofs.Turns.{by_test}
use Rattle.nx_slot.proofs.Below.{turns}

dearer_answered : (c : ℕ) (r : SlotReach) → IsAnswered (dearer c r) → IsAnswered r
dearer_answered c (Going s cost) h = h
dearer_answered c (Requested call outputs s cost) h = tt
dearer_answered c (Finished n os cost) h = tt
dearer_answered c (Overflowed need cost) h = tt
dearer_answered c (Failed fault) h = tt

dearer_twice : (a b c : ℕ) (r : SlotReach) → a + b ≡ c → dearer a (dearer b r) ≡ dearer c r
dearer_twice a b c (Going s cost) e = ap (Going s) (omega (arith, e))
dearer_twice a b c (Requested call outputs s cost) e = ap (Requested call outputs s) (omega (arith, e))
dearer_twice a b c (Finished n os cost) e = ap (Finished n os) (omega (arith, e))
dearer_twice a b c (Overflowed need cost) e = ap (Overflowed need) (omega (arith, e))
dearer_twice a b c (Failed fault) e = refl

dearer_none : (r : SlotReach) → r ≡ dearer 0 r
dearer_none (Going s cost) = ap (Going s) (omega arith)
dearer_none (Requested call outputs s cost) = ap (Requested call outputs s) (omega arith)
dearer_none (Finished n os cost) = ap (Finished n os) (omega arith)
dearer_none (Overflowed need cost) = ap (Overflowed need) (omega arith)
dearer_none (Failed fault) = refl

then_same : (t : SlotTurn) (f g : SlotState → SlotReach) → ((s : SlotState) → IsAnswered (f s) → g s ≡ f s) → IsAnswered (then_on t f) → then_on t g ≡ then_on t f
then_same (Goes s cost) f g more h = ap (dearer cost) (more s (dearer_answered cost (f s) h))
then_same (Requests c outputs s cost) f g more h = refl
then_same (Finishes n os cost) f g more h = refl
then_same (Overflows need cost) f g more h = refl
then_same (Fails fault) f g more h = refl

pub once : AnswersOnce
unfolding run
once p zero m s le h = absurd h
once p (suc n) zero s le h = absurd (omega arith)
once p (suc n) (suc m) s le h = then_same (step p s) (run p n) (run p m) (λ t a. once p n m t (omega arith) a) h

-- What is left of a cost.
dearer_going : (c : ℕ) (r : SlotReach) (t : SlotState) (cost : ℕ) → dearer c r ≡ Going t cost → (d : ℕ) × (r ≡ Going t d) × (c + d ≡ cost)
dearer_going c (Going s d) t cost e = (d, ap (λ x. Going x d) (left e), right e)
  where
    state_in : SlotReach → SlotState
    state_in (Going s c) = s
    state_in r = t

    cost_in : SlotReach → ℕ
    cost_in (Going s c) = c
    cost_in r = 0

    left : Going s (c + d) ≡ Going t cost → s ≡ t
    left e = ap state_in e

    right : Going s (c + d) ≡ Going t cost → c + d ≡ cost
    right e = ap cost_in e
dearer_going c (Requested call outputs s d) t cost e = absurd cc
dearer_going c (Finished n os d) t cost e = absurd cc
dearer_going c (Overflowed need d) t cost e = absurd cc
dearer_going c (Failed fault) t cost e = absurd cc

-- The first step of a run that goes on.
pub record Began (p : Code) (n : ℕ) (s t : SlotState) (cost : ℕ) (turn : SlotTurn) : Type 0 where
  pub middle : SlotState
  pub first : ℕ
  pub rest : ℕ
  pub is : turn ≡ Goes middle first
  pub more : run p n middle ≡ Going t rest
  pub sum : first + rest ≡ cost

began : (p : Code) (n : ℕ) (s t : SlotState) (cost : ℕ) (turn : SlotTurn) → then_on turn (run p n) ≡ Going t cost → Began p n s t cost turn
began p n s t cost (Goes u c) e = let q = dearer_going c (run p n u) t cost e in record { middle = u; first = c; rest = q.0; is = refl; more = q.1; sum = q.2 }
began p n s t cost (Requests c outputs u d) e = absurd cc
began p n s t cost (Finishes k os c) e = absurd cc
began p n s t cost (Overflows need c) e = absurd cc
began p n s t cost (Fails fault) e = absurd cc

pub parts : RunsInParts
unfolding run
parts p zero m s t cost e =
    let z : 0 + m ≡ m = omega arith in
    rw z (dearer_none (run p m s) ∙ zero_cost s t cost e)
  where
    state_in : SlotReach → SlotState
    state_in (Going s c) = s
    state_in r = t

    cost_in : SlotReach → ℕ
    cost_in (Going s c) = c
    cost_in r = 0

    zero_cost : (s t : SlotState) (cost : ℕ) → Going s 0 ≡ Going t cost → dearer 0 (run p m s) ≡ dearer cost (run p m t)
    zero_cost s t cost e = ap (λ c. dearer c (run p m s)) (ap cost_in e) ∙ ap (λ u. dearer cost (run p m u)) (ap state_in e)
parts p (suc n) m s t cost e =
    let b = began p n s t cost (step p s) e in
    let z : suc n + m ≡ suc (n + m) = omega arith in
    rw z (ap (λ turn. then_on turn (run p (n + m))) b.is ∙ ap (dearer b.first) (parts p n m b.middle t b.rest b.more) ∙ dearer_twice b.first b.rest cost (run p m t) b.sum)

-- A turn that goes on costs something.
abbrev CostsSome : SlotTurn → Type 0
CostsSome (Goes s cost) = 1 ≤ cost
CostsSome (Requests c outputs s cost) = Unit {0}
CostsSome (Finishes n os cost) = Unit {0}
CostsSome (Overflows need cost) = Unit {0}
CostsSome (Fails fault) = Unit {0}

ends_cost : (below : List SlotFrame) (os : List Object) (c : ℕ) → 1 ≤ c → (x : Value) → CostsSome (given below os c x)
ends_cost [] os c l (Int n) = tt
ends_cost [] os c l (Pointer o at) = tt
ends_cost [] os c l (Forged n) = tt
ends_cost [] os c l (Entry f) = tt
ends_cost (f ∷ below) os c l x = l

step_cost : (p : Code) (os : List Object) (frames : List SlotFrame) → CostsSome (step_of p os frames)
step_cost p os [] = tt
step_cost p os (f ∷ below) =
    turns p f below CostsSome
    (record {
      bad = λ k. tt;
      stays = λ n os c l e. l;
      enters = λ h i args os c l. by_test (nat_lt p.stack (stack_need p (opened h args ∷ waiting f i ∷ below))) CostsSome _ _ tt l;
      asks = λ i call outputs os c l. tt;
      ends = λ os c l x. ends_cost below os c l x;
    })
    os (function_at p f.function) (slice_get (function_at p f.function).ops f.place)

pub each : CostsEach
unfolding run
each p zero s t cost e = omega arith
each p (suc n) s t cost e =
    let b = began p n s t cost (step p s) e in
    let one = subst CostsSome b.is (step_cost p s.objects s.frames) in
    let rest = each p n b.middle t b.rest b.more in
    let sum = b.sum in
    omega (arith, one, rest, sum)

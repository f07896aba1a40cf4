-- Cells below those of a call's arguments survive it.
use Rattle.std.proofs.Common.{◌≡◌, ℕ, zero, suc, ◌<◌, ◌≤◌, Bool, true, false, List, [], ◌∷◌, ◌++◌, length, take, Some, refl, ap, ◌∙◌, subst, arith}
use Rattle.std.specs.Prelude.{◌==◌, nat_lt, slice_get, if◌then◌else◌}
use Rattle.std.proofs.lemmas.Bool.Decides.{nat_tests}
use Rattle.std.proofs.lemmas.List.{length-take-le}
use Rattle.nx_slot.specs.declared.op.SlotOp.TheVariants as op
use Rattle.nx_slot.specs.declared.program.SlotFunction.{SlotFunction}
use Rattle.nx_slot.specs.Objects.{Value, Object}
use Rattle.nx_slot.specs.Calls.{call_inputs}
use Rattle.nx_slot.specs.Meaning.{Code, SlotFrame, SlotState, SlotTurn, Goes, Requests, Finishes, Overflows, Fails, function_at, stack_need, put, cells_from, may_hand, waiting, opened, act}
use Rattle.nx_slot.specs.Laws.{Survives, Entered, CallersSurvive, Asked, AskersSurvive}
use Rattle.nx_slot.proofs.Turns.{by_test, any_inputs}

pub put_end : (cells : List Value) (i : ℕ) (x : Value) → length cells ≡ i → put cells i x ≡ cells ++ x ∷ []
unfolding put
put_end cells i x e = grind (arith, nat_tests)

taken_get : (cells rest : List Value) (n i : ℕ) → n ≤ length cells → i < n → slice_get (take n cells ++ rest) i ≡ slice_get cells i
taken_get cells rest zero i h l = absurd (omega arith)
taken_get [] rest (suc n) i h l = absurd (omega arith)
taken_get (y ∷ cells) rest (suc n) zero h l = refl
taken_get (y ∷ cells) rest (suc n) (suc i) h l = taken_get cells rest n i (omega arith) (omega arith)

last_get : (cells : List Value) (x : Value) → slice_get (cells ++ x ∷ []) (length cells) ≡ Some x
last_get [] x = refl
last_get (y ∷ cells) x = last_get cells x

handed : (g : SlotFunction) (cells : List Value) (i k : ℕ) → may_hand g cells i k ≡ true → i ≤ length cells
unfolding may_hand
handed g cells i k h = grind (arith, nat_tests)

waits : (f : SlotFrame) (i : ℕ) → i ≤ length f.cells → Survives f (waiting f i)
waits f i h =
    let e = length-take-le i f.cells h in
    record {
      function = refl;
      place = refl;
      arrays = refl;
      cells = λ x j l. ap (λ cs. slice_get cs j) (put_end (take i f.cells) i x e) ∙ taken_get f.cells (x ∷ []) i j h l;
      value = λ x. ap (λ cs. slice_get cs i) (put_end (take i f.cells) i x e) ∙ subst (λ n. slice_get (take i f.cells ++ x ∷ []) n ≡ Some x) e (last_get (take i f.cells) x);
    }

by_fact : (b : Bool) (P : SlotTurn → Type 0) (a c : SlotTurn) → (b ≡ true → P a) → P c → P (if b then a else c)
by_fact true P a c h k = h refl
by_fact false P a c h k = k

-- Where a turn leads to a state, this holds of it.
abbrev LeadsTo : (SlotState → Type 0) → SlotTurn → Type 0
LeadsTo Q (Goes s cost) = Q s
LeadsTo Q (Requests c outputs s cost) = Q s
LeadsTo Q (Finishes n os cost) = Unit {0}
LeadsTo Q (Overflows need cost) = Unit {0}
LeadsTo Q (Fails fault) = Unit {0}

go_leads : (p : Code) (below : List SlotFrame) (os : List Object) (g : SlotFunction) (f : SlotFrame) (c h first count : ℕ) → LeadsTo (Entered f below h first count) (act p below os g f c (op.Go h first count))
go_leads p below os g f c h first count =
    let P = LeadsTo (Entered f below h first count) in
    by_fact (may_hand g f.cells first count) P _ _
    (λ e. by_test (length (cells_from f.cells first count) == (function_at p h).params) P _ _
    (by_test (nat_lt p.stack (stack_need p (opened h (cells_from f.cells first count) ∷ waiting f first ∷ below))) P _ _ tt
    (record { caller = waiting f first; frames = refl; wants = refl; survives = waits f first (handed g f.cells first count e) }))
    tt)
    tt

pub callers : CallersSurvive
callers p below os g f c h first count s cost e = subst (LeadsTo (Entered f below h first count)) e (go_leads p below os g f c h first count)

ask_leads : (p : Code) (below : List SlotFrame) (os : List Object) (g : SlotFunction) (f : SlotFrame) (c number first count : ℕ) → LeadsTo (Asked f below first) (act p below os g f c (op.Ask number first count))
ask_leads p below os g f c number first count =
    let P = LeadsTo (Asked f below first) in
    by_fact (may_hand g f.cells first count) P _ _
    (λ e. by_test (number == 0) P _ _ tt
    (any_inputs P (λ k. tt) (call_inputs (p.rows number) os (cells_from f.cells first count)) _
    (λ inputs. record { caller = waiting f first; frames = refl; wants = refl; survives = waits f first (handed g f.cells first count e) })))
    tt

pub askers : AskersSurvive
askers p below os g f c number first count call outputs s cost e = subst (LeadsTo (Asked f below first)) e (ask_leads p below os g f c number first count)

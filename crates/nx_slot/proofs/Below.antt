-- A step leaves the calls below the open one, and an entry needs the bytes of all.
use Rattle.std.proofs.Common.{◌≡◌, ℕ, ◌≤◌, Bool, true, false, List, [], ◌∷◌, length, Option, Some, None, refl, arith}
use Rattle.std.specs.Prelude.{◌==◌, nat_lt, slice_get, if◌then◌else◌}
use Rattle.std.proofs.lemmas.Bool.Decides.{nat_tests}
use Rattle.nx_base.specs.Calls.{Call}
use Rattle.nx_slot.specs.declared.op.Width.{Width}
use Rattle.nx_slot.specs.declared.op.Width.TheVariants.{Word}
use Rattle.nx_slot.specs.declared.op.SlotOp.{SlotOp}
use Rattle.nx_slot.specs.declared.op.SlotOp.TheVariants as op
use Rattle.nx_slot.specs.declared.program.SlotArray.{SlotArray}
use Rattle.nx_slot.specs.declared.program.SlotFunction.{SlotFunction}
use Rattle.nx_slot.specs.Objects.{Value, Int, Pointer, Forged, Entry, Object, object_of, element, moved}
use Rattle.nx_slot.specs.Calls.{call_inputs}
use Rattle.nx_slot.specs.Costs.{cost_of}
use Rattle.nx_slot.specs.Meaning.{Code, SlotFrame, SlotFault, SlotTurn, Goes, Requests, Overflows, Fails, function_at, stack_need, cells_from, may_write, may_hand, operand, on_int, written, stored, waiting, opened, entered, given, made, act, fetched, step_of}
use Rattle.nx_slot.specs.Laws.{Stays, Enters, Leaves, LeavesBelow, ChangesTheOpenCall, IsTooMuch, EntriesNeedTheOpenCalls}
use Rattle.nx_slot.proofs.Prices.{little}
use Rattle.nx_slot.proofs.Turns.{by_test, any_value, any_int, any_element, any_moved, any_name, any_inputs}

-- What holds of each operation: of a fault, of what goes on in the open call, of an entry, of a call of the kernel, and
-- of an end.
pub record Holds (p : Code) (f : SlotFrame) (below : List SlotFrame) (P : SlotTurn → Type 0) : Type 0 where
  pub bad : (k : SlotFault) → P (Fails k)
  pub stays : (n : SlotFrame) (os : List Object) (c : ℕ) → 1 ≤ c → n.function ≡ f.function → P (Goes (record { frames = n ∷ below; objects = os }) c)
  pub enters : (h i : ℕ) (args : List Value) (os : List Object) (c : ℕ) → 1 ≤ c → P (entered p (opened h args ∷ waiting f i ∷ below) os c)
  pub asks : (i : ℕ) (call : Call) (outputs : List Value) (os : List Object) (c : ℕ) → 1 ≤ c → P (Requests call outputs (record { frames = waiting f i ∷ below; objects = os }) c)
  pub ends : (os : List Object) (c : ℕ) → 1 ≤ c → (x : Value) → P (given below os c x)

module _ (p : Code) (f : SlotFrame) (below : List SlotFrame) (P : SlotTurn → Type 0) (h : Holds p f below P) where
  writes : (g : SlotFunction) (os : List Object) (c : ℕ) → 1 ≤ c → (i : ℕ) (x : Value) → P (written g below os f c i x)
  writes g os c l i x = by_test (may_write g f.cells i) P _ _ (h.stays _ os c l refl) (h.bad _)

  stores : (os : List Object) (c : ℕ) → 1 ≤ c → (w : Width) (o at n : ℕ) → P (stored below os f c w o at n)
  stores os c l w o at n = by_test (object_of os o).fixed P _ _ (h.bad _) (h.stays _ _ c l refl)

  makes : (os : List Object) (c : ℕ) → 1 ≤ c → (k : ℕ) (a : Option SlotArray) → P (made below os f c k a)
  makes os c l k None = h.bad _
  makes os c l k (Some a) = by_test (k == length f.arrays) P _ _ (h.stays _ _ c l refl) (h.bad _)

  acts : (os : List Object) (g : SlotFunction) (c : ℕ) → 1 ≤ c → (o : SlotOp) → P (act p below os g f c o)
  acts os g c l (op.Move to from) = any_value P h.bad (operand f.cells from) _ (λ x. writes g os c l to x)
  acts os g c l (op.Forge to from) = any_int P h.bad (slice_get f.cells from) _ (λ n. writes g os c l to _)
  acts os g c l (op.Apply o to left right) = any_int P h.bad (slice_get f.cells left) _ (λ a. any_int P h.bad (operand f.cells right) _ (λ b. writes g os c l to _))
  acts os g c l (op.Change o to from) = any_int P h.bad (slice_get f.cells from) _ (λ n. writes g os c l to _)
  acts os g c l (op.SkipUnless test left right past) =
      any_int P h.bad (slice_get f.cells left) _ (λ a. any_int P h.bad (operand f.cells right) _ (λ b. h.stays _ os c l refl))
  acts os g c l (op.Skip past) = h.stays _ os c l refl
  acts os g c l (op.Back by) = h.stays _ os c l refl
  acts os g c l (op.Ask number first count) =
      by_test (may_hand g f.cells first count) P _ _
      (by_test (number == 0) P _ _ (h.bad _) (any_inputs P h.bad (call_inputs (p.rows number) os (cells_from f.cells first count)) _ (λ inputs. h.asks first _ _ os c l)))
      (h.bad _)
  acts os g c l (op.Go k first count) =
      by_test (may_hand g f.cells first count) P _ _ (by_test (length (cells_from f.cells first count) == (function_at p k).params) P _ _ (h.enters k first _ os c l) (h.bad _)) (h.bad _)
  acts os g c l (op.Give value) = any_value P h.bad (operand f.cells value) _ (λ x. h.ends _ c l x)
  acts os g c l (op.Make k) = makes os c l k (slice_get g.arrays k)
  acts os g c l (op.Local to k) = any_name P h.bad (slice_get f.arrays k) _ (λ n. writes g os c l to _)
  acts os g c l (op.Static to o) = writes g os c l to _
  acts os g c l (op.Entry to k) = writes g os c l to _
  acts os g c l (op.Fetch to o) = any_element P h.bad os Word (Some (Pointer o.name 0)) (λ q at. written g below os f c to (Int (element Word (object_of os q) at))) (λ q at. writes g os c l to _)
  acts os g c l (op.Keep o from) = any_element P h.bad os Word (Some (Pointer o.name 0)) (λ q at. on_int (slice_get f.cells from) (λ n. stored below os f c Word q at n)) (λ q at. any_int P h.bad (slice_get f.cells from) _ (λ n. stores os c l Word q at n))
  acts os g c l (op.Index to base index w) =
      any_int P h.bad (operand f.cells index) _ (λ n. any_value P h.bad (slice_get f.cells base) _ (λ x. any_moved P h.bad (moved os w x n) _ (λ y. writes g os c l to y)))
  acts os g c l (op.Load to place w) = any_element P h.bad os w (slice_get f.cells place) _ (λ q at. writes g os c l to _)
  acts os g c l (op.Store place value w) =
      any_element P h.bad os w (slice_get f.cells place) _ (λ q at. any_int P h.bad (slice_get f.cells value) _ (λ n. stores os c l w q at n))

  pub turns : (os : List Object) (g : SlotFunction) (o : Option SlotOp) → P (fetched p below os g f o)
  turns os g None = h.bad _
  turns os g (Some o) = acts os g (cost_of g o) (little g o).0 o

ends_below : (below : List SlotFrame) (os : List Object) (c : ℕ) (x : Value) → LeavesBelow below (given below os c x)
ends_below [] os c (Int n) = refl
ends_below [] os c (Pointer o at) = tt
ends_below [] os c (Forged n) = tt
ends_below [] os c (Entry f) = tt
ends_below (f ∷ below) os c x = Leaves x refl

pub below_stays : ChangesTheOpenCall
below_stays p f below os =
    turns p f below (LeavesBelow below)
    (record {
      bad = λ k. tt;
      stays = λ n os c l e. Stays n refl;
      enters = λ h i args os c l. by_test (nat_lt p.stack (stack_need p (opened h args ∷ waiting f i ∷ below))) (LeavesBelow below) _ _ tt (Enters _ _ refl);
      asks = λ i call outputs os c l. Stays _ refl;
      ends = λ os c l x. ends_below below os c x;
    })
    os (function_at p f.function) (slice_get (function_at p f.function).ops f.place)

-- An entry, by its test.
entry_need : (p : Code) (f : SlotFrame) (below : List SlotFrame) (h i : ℕ) (args : List Value) (os : List Object) (c : ℕ) (b : Bool) → nat_lt p.stack (stack_need p (opened h args ∷ waiting f i ∷ below)) ≡ b → IsTooMuch p (f ∷ below) (if b then Overflows (stack_need p (opened h args ∷ waiting f i ∷ below)) c else Goes (record { frames = opened h args ∷ waiting f i ∷ below; objects = os }) c)
entry_need p f below h i args os c true e = (h, refl, grind (arith, nat_tests))
entry_need p f below h i args os c false e = λ fits. grind (arith, nat_tests)

ends_need : (p : Code) (f : SlotFrame) (below : List SlotFrame) (os : List Object) (c : ℕ) (x : Value) → IsTooMuch p (f ∷ below) (given below os c x)
ends_need p f [] os c (Int n) = tt
ends_need p f [] os c (Pointer o at) = tt
ends_need p f [] os c (Forged n) = tt
ends_need p f [] os c (Entry k) = tt
ends_need p f (g ∷ below) os c x = λ fits. omega (arith, fits)

frames_need : (p : Code) (os : List Object) (frames : List SlotFrame) → IsTooMuch p frames (step_of p os frames)
frames_need p os [] = tt
frames_need p os (f ∷ below) =
    turns p f below (IsTooMuch p (f ∷ below))
    (record {
      bad = λ k. tt;
      stays = λ n os c l e. λ fits. same_need n e fits;
      enters = λ h i args os c l. entry_need p f below h i args os c (nat_lt p.stack (stack_need p (opened h args ∷ waiting f i ∷ below))) refl;
      asks = λ i call outputs os c l. refl;
      ends = λ os c l x. ends_need p f below os c x;
    })
    os (function_at p f.function) (slice_get (function_at p f.function).ops f.place)
  where
    same_need : (n : SlotFrame) → n.function ≡ f.function → stack_need p (f ∷ below) ≤ p.stack → stack_need p (n ∷ below) ≤ p.stack
    same_need n e fits = rw e fits

pub needs : EntriesNeedTheOpenCalls
needs p s = frames_need p s.objects s.frames

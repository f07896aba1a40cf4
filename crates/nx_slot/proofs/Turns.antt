-- What holds of every fault, and of what an operation goes on to, holds of the operation.
use Rattle.std.proofs.Common.{ℕ, Bool, true, false, Option, Some, None, List}
use Rattle.std.specs.Prelude.{if◌then◌else◌}
use Rattle.nx_slot.specs.declared.op.Width.{Width}
use Rattle.nx_slot.specs.Objects.{Value, Int, Pointer, Forged, Entry, Object, object_of, has_element}
use Rattle.nx_slot.specs.Meaning.{SlotFault, SlotTurn, Fails, on_value, on_int, on_element, on_moved, on_name, on_inputs}

pub by_test : (b : Bool) (P : SlotTurn → Type 0) (a c : SlotTurn) → P a → P c → P (if b then a else c)
by_test true P a c h k = h
by_test false P a c h k = k

module _ (P : SlotTurn → Type 0) (bad : (fault : SlotFault) → P (Fails fault)) where
  pub any_value : (x : Option Value) (go : Value → SlotTurn) → ((y : Value) → P (go y)) → P (on_value x go)
  any_value None go h = bad _
  any_value (Some x) go h = h x

  pub any_int : (x : Option Value) (go : ℕ → SlotTurn) → ((n : ℕ) → P (go n)) → P (on_int x go)
  any_int None go h = bad _
  any_int (Some (Int n)) go h = h n
  any_int (Some (Pointer o at)) go h = bad _
  any_int (Some (Forged n)) go h = bad _
  any_int (Some (Entry f)) go h = bad _

  pub any_element : (os : List Object) (w : Width) (x : Option Value) (go : ℕ → ℕ → SlotTurn) → ((o at : ℕ) → P (go o at)) → P (on_element os w x go)
  any_element os w None go h = bad _
  any_element os w (Some (Int n)) go h = bad _
  any_element os w (Some (Pointer o at)) go h = by_test (has_element (object_of os o) w at) P _ _ (h o at) (bad _)
  any_element os w (Some (Forged n)) go h = bad _
  any_element os w (Some (Entry f)) go h = bad _

  pub any_moved : (x : Option Value) (go : Value → SlotTurn) → ((y : Value) → P (go y)) → P (on_moved x go)
  any_moved None go h = bad _
  any_moved (Some x) go h = h x

  pub any_name : (x : Option ℕ) (go : ℕ → SlotTurn) → ((n : ℕ) → P (go n)) → P (on_name x go)
  any_name None go h = bad _
  any_name (Some n) go h = h n

  pub any_inputs : (x : Option (List (List ℕ))) (go : List (List ℕ) → SlotTurn) → ((inputs : List (List ℕ)) → P (go inputs)) → P (on_inputs x go)
  any_inputs None go h = bad _
  any_inputs (Some inputs) go h = h inputs

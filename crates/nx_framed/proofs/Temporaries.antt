-- An expression keeps a value at least, and arguments keep one each.
use Rattle.std.proofs.Common.{◌≤◌, arith}
use Rattle.nx_checked.specs.Trees.{Expr, Constant, Literal, Function, Read, Array, Load, AddressOf, Unary, Binary, And, Or, Conditional, Convert, Advance, AdvanceBy, Retreat, Assign, AssignElement, Compound, CompoundElement, Step, StepElement, Kernel, Call, Place, Index, Deref, Args, NoMore, More, count}
use Rattle.nx_lower.specs.Bodies.{temps_of, place_temps, args_temps}

mutual
  pub some_value : (e : Expr) → 1 ≤ temps_of e
  some_value (Constant n) = omega arith
  some_value (Literal i) = omega arith
  some_value (Function f) = omega arith
  some_value (Read x) = omega arith
  some_value (Array a) = omega arith
  some_value (Load w p) = place_value p
  some_value (AddressOf w a i) = omega arith
  some_value (Unary o a) = some_value a
  some_value (Binary o a b) = omega arith
  some_value (And a b) = let h = some_value a in omega (arith, h)
  some_value (Or a b) = let h = some_value a in omega (arith, h)
  some_value (Conditional c a b) = let h = some_value c in omega (arith, h)
  some_value (Convert to a) = some_value a
  some_value (Advance w a i) = omega arith
  some_value (AdvanceBy w i a) = omega arith
  some_value (Retreat w a i) = omega arith
  some_value (Assign s x e) = some_value e
  some_value (AssignElement w p e) = omega arith
  some_value (Compound o s x e) = omega arith
  some_value (CompoundElement o w p e) = omega arith
  some_value (Step v up s x) = omega arith
  some_value (StepElement v up w p) = omega arith
  some_value (Kernel k xs) = omega arith
  some_value (Call f xs) = omega arith

  pub place_value : (p : Place) → 1 ≤ place_temps p
  place_value (Index a i) = omega arith
  place_value (Deref a) = some_value a

pub one_each : (xs : Args) → count xs ≤ args_temps xs
one_each NoMore = omega arith
one_each (More e xs) = let h = one_each xs in omega (arith, h)

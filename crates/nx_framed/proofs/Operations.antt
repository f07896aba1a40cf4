-- The cells that operations of parts of expressions name.
use Rattle.std.proofs.Common.{◌≡◌, ℕ, suc, ◌+◌, ◌<◌, ◌≤◌, Bool, List, [], ◌∷◌, ◌++◌, length, arith}
use Rattle.nx_checked.specs.declared.checked.Element.{Element}
use Rattle.nx_checked.specs.declared.checked.Element.TheVariants as element
use Rattle.nx_checked.specs.declared.checked.Scalar.{Scalar}
use Rattle.nx_checked.specs.declared.checked.Scalar.TheVariants as scalar
use Rattle.nx_checked.specs.declared.checked.Cell.{Cell}
use Rattle.nx_checked.specs.declared.checked.Cell.TheVariants as cell
use Rattle.nx_checked.specs.declared.checked.ArrayName.{ArrayName}
use Rattle.nx_checked.specs.declared.checked.ArrayName.TheVariants as array
use Rattle.nx_checked.specs.declared.checked.Conversion.{Conversion}
use Rattle.nx_checked.specs.declared.checked.Conversion.TheVariants as conversion
use Rattle.nx_checked.specs.declared.checked.IntPrefix.{IntPrefix}
use Rattle.nx_checked.specs.declared.checked.IntPrefix.TheVariants as prefix
use Rattle.nx_checked.specs.declared.checked.IntOperator.{IntOperator}
use Rattle.nx_checked.specs.declared.checked.IntOperator.TheVariants as int
use Rattle.nx_checked.specs.declared.checked.StepValue.{StepValue}
use Rattle.nx_checked.specs.declared.checked.StepValue.TheVariants.{New, Old}
use Rattle.nx_checked.specs.Trees.{Expr, Constant}
use Rattle.nx_slot.specs.declared.op.Operand.{Operand}
use Rattle.nx_slot.specs.declared.op.SlotOp.{SlotOp}
use Rattle.nx_slot.specs.declared.program.SlotFunction.{SlotFunction}
use Rattle.nx_codegen.specs.Cells.{IsCell, IsOperand, HasCells, AllHaveCells}
use Rattle.nx_lower.specs.Code.{Source, right_of, right_code, kept_code, convert_code, prefix_code, negate_code, raise_code, arguments_code, cut_code, read_code, write_code, array_code, step_element_code}
use Rattle.nx_lower.specs.Sound as sound
use Rattle.nx_lower.specs.Sound.{Stage}

module _ (g : SlotFunction) where
  pub all_both : (xs ys : List SlotOp) → AllHaveCells g xs → AllHaveCells g ys → AllHaveCells g (xs ++ ys)
  all_both [] ys h k = k
  all_both (x ∷ xs) ys h k = (h.0, all_both xs ys h.1 k)

  -- A temporary.
  pub temporary : (d : ℕ) → d < g.temporaries → IsCell g (g.locals + d)
  temporary d h = omega (arith, h)

  pub right_cell : (e : Expr) (i : ℕ) → IsCell g i → IsOperand g (right_of e i)
  right_cell (Constant n) i h = tt
  right_cell _ i h = h

  pub right_cells : (e : Expr) (code : List SlotOp) → AllHaveCells g code → AllHaveCells g (right_code e code)
  right_cells (Constant n) code h = tt
  right_cells _ code h = h

  pub kept_cells : (t : Scalar) (i : ℕ) → IsCell g i → AllHaveCells g (kept_code t i)
  kept_cells scalar.Int i h = tt
  kept_cells scalar.Char i h = ((h, h), tt)
  kept_cells (scalar.Pointer w) i h = tt

  pub convert_cells : (to : Conversion) (i : ℕ) → IsCell g i → AllHaveCells g (convert_code to i)
  convert_cells conversion.ToInt i h = tt
  convert_cells conversion.ToChar i h = ((h, h), tt)
  convert_cells conversion.ToPointer i h = ((h, h), tt)

  pub prefix_cells : (o : IntPrefix) (i : ℕ) → IsCell g i → HasCells g (prefix_code o i)
  prefix_cells prefix.Minus i h = (h, h)
  prefix_cells prefix.Not i h = (h, h, tt)
  prefix_cells prefix.Complement i h = (h, h, tt)

  pub negate_cells : (o : IntOperator) (t : Scalar) (i : ℕ) → IsCell g i → AllHaveCells g (negate_code o t i)
  negate_cells o scalar.Int i h = tt
  negate_cells o scalar.Char i h = tt
  negate_cells int.Subtract (scalar.Pointer w) i h = ((h, h), tt)
  negate_cells _ (scalar.Pointer w) i h = tt

  pub raise_cells : (o : IntOperator) (t : Scalar) (to i : ℕ) (r : Operand) → IsCell g to → IsCell g i → IsOperand g r → AllHaveCells g (raise_code o t to i r)
  raise_cells o scalar.Int to i r h k l = ((h, k, l), tt)
  raise_cells o scalar.Char to i r h k l = ((h, k, l), ((h, h), tt))
  raise_cells o (scalar.Pointer w) to i r h k l = ((h, k, l), tt)

  pub cut_cells : (w : Element) (to i : ℕ) → IsCell g to → IsCell g i → HasCells g (cut_code w to i)
  cut_cells element.Int to i h k = (h, k)
  cut_cells element.Char to i h k = (h, k)

  pub array_cells : (s : Source) (a : ArrayName) (i : ℕ) → IsCell g i → HasCells g (array_code s a i)
  array_cells s (array.Local a) i h = h
  array_cells s (array.Global a) i h = h

  pub argument_cells : (ts : List Scalar) (i n : ℕ) → length ts ≤ n → i + n ≤ g.locals + g.temporaries → AllHaveCells g (arguments_code ts i)
  argument_cells [] i n h k = tt
  argument_cells (t ∷ ts) i n h k =
      all_both (kept_code t i) (arguments_code ts (i + 1)) (kept_cells t i (omega (arith, h, k))) (argument_cells ts (i + 1) (length ts) (omega arith) (omega (arith, h, k)))

  module _ (s : Source) (z : Stage) (e : z.cells ≡ g.locals) where
    pub read_cells : (x : Cell) (i : ℕ) → sound.IsCell s z x → IsCell g i → HasCells g (read_code s x i)
    read_cells (cell.Local x) i h k = (k, omega (arith, h, e))
    read_cells (cell.Global x) i h k = k

    pub write_cells : (x : Cell) (i : ℕ) → sound.IsCell s z x → IsCell g i → HasCells g (write_code s x i)
    write_cells (cell.Local x) i h k = (omega (arith, h, e), k)
    write_cells (cell.Global x) i h k = k

  pub step_cells : (d : ℕ) (v : StepValue) (up : Bool) (w : Element) → d + 3 ≤ g.temporaries → AllHaveCells g (step_element_code g.locals d v up w)
  step_cells d New up w h =
      let a = temporary d (omega (arith, h)) in let b = temporary (suc d) (omega (arith, h)) in
      ((b, b, tt), ((a, b), (cut_cells w (g.locals + d) (g.locals + suc d) a b, tt)))
  step_cells d Old up w h =
      let a = temporary d (omega (arith, h)) in let b = temporary (suc d) (omega (arith, h)) in let c = temporary (suc (suc d)) (omega (arith, h)) in
      ((c, b, tt), ((a, c), ((a, b), tt)))

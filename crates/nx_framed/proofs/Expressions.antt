-- The cells that expressions name.
use Rattle.std.proofs.Common.{◌≡◌, ℕ, suc, ◌+◌, ◌<◌, ◌≤◌, List, [], ◌∷◌, ◌++◌, length, arith}
use Rattle.nx_base.specs.Calls.{Rows}
use Rattle.nx_checked.specs.declared.checked.Element.{Element}
use Rattle.nx_checked.specs.declared.checked.StepValue.{StepValue}
use Rattle.nx_checked.specs.declared.checked.StepValue.TheVariants.{New, Old}
use Rattle.nx_checked.specs.Trees.{Expr, Constant, Literal, Function, Read, Array, Load, AddressOf, Unary, Binary, And, Or, Conditional, Convert, Advance, AdvanceBy, Retreat, Assign, AssignElement, Compound, CompoundElement, Step, StepElement, Kernel, Call, Place, Index, Deref, Args, NoMore, More, count}
use Rattle.nx_cmean.specs.Meaning.{fun_at}
use Rattle.nx_slot.specs.declared.op.Operand.TheVariants as operand
use Rattle.nx_slot.specs.declared.op.Comparison.TheVariants as compare
use Rattle.nx_slot.specs.declared.op.Unary.TheVariants as unary
use Rattle.nx_slot.specs.declared.op.SlotOp.{SlotOp}
use Rattle.nx_slot.specs.declared.op.SlotOp.TheVariants as op
use Rattle.nx_slot.specs.declared.program.SlotFunction.{SlotFunction}
use Rattle.nx_codegen.specs.Cells.{IsCell, AllHaveCells}
use Rattle.nx_lower.specs.Shown.{width_of}
use Rattle.nx_lower.specs.Code.{Source, number_of, binary_of, truth_code, prefix_code, convert_code, right_of, right_code, kept_code, write_code, cut_code, raise_code, stepping_operator, step_number, new_cell, arguments_code, negate_code, step_element_code, expr_code, loaded_code, place_code, fetched_code, args_code}
use Rattle.nx_lower.specs.Bodies.{temps_of, place_temps, args_temps}
use Rattle.nx_lower.specs.Sound.{Stage, SoundExpr, SoundPlace, SoundArgs, SoundProgram}
use Rattle.nx_framed.proofs.Temporaries.{some_value, one_each}
use Rattle.nx_framed.proofs.Operations.{all_both, temporary, right_cell, right_cells, kept_cells, convert_cells, prefix_cells, negate_cells, raise_cells, cut_cells, array_cells, argument_cells, read_cells, write_cells, step_cells}

module _ (s : Source) (rows : Rows) (w : SoundProgram s rows) (g : SlotFunction) (z : Stage) (same : z.cells ≡ g.locals) where
  abbrev n : ℕ
  n = g.locals

  -- Two operands, of which the second may be a constant, and what is done to them.
  two : (a b : Expr) (d : ℕ) (last : List SlotOp) → AllHaveCells g (expr_code s n d a) → AllHaveCells g (expr_code s n (suc d) b) → AllHaveCells g last → AllHaveCells g (expr_code s n d a ++ (right_code b (expr_code s n (suc d) b) ++ last))
  two a b d last h k l =
      all_both g (expr_code s n d a) (right_code b (expr_code s n (suc d) b) ++ last) h
      (all_both g (right_code b (expr_code s n (suc d) b)) last (right_cells g b (expr_code s n (suc d) b) k) l)

  new_is : (v : StepValue) (i j : ℕ) → IsCell g i → IsCell g j → IsCell g (new_cell v i j)
  new_is New i j h k = h
  new_is Old i j h k = k

  mutual
    pub expr_cells : (e : Expr) (d : ℕ) → SoundExpr s z e → d + temps_of e ≤ g.temporaries → AllHaveCells g (expr_code s n d e)
    expr_cells (Constant c) d sound fits = ((temporary g d (omega (arith, fits)), tt), tt)
    expr_cells (Literal i) d sound fits = (temporary g d (omega (arith, fits)), tt)
    expr_cells (Function f) d sound fits = (temporary g d (omega (arith, fits)), tt)
    expr_cells (Read x) d sound fits = (read_cells g s z same x (n + d) sound (temporary g d (omega (arith, fits))), tt)
    expr_cells (Array a) d sound fits = (array_cells g s a (n + d) (temporary g d (omega (arith, fits))), tt)
    expr_cells (Load v p) d sound fits = loaded_cells p v d sound fits
    expr_cells (AddressOf v a i) d sound fits =
        let t = some_value i in let x = temporary g d (omega (arith, fits, t)) in
        two a i d (op.Index (n + d) (n + d) (right_of i (n + suc d)) (width_of v) ∷ []) (expr_cells a d sound.0 (omega (arith, fits))) (expr_cells i (suc d) sound.1 (omega (arith, fits)))
        ((x, x, right_cell g i (n + suc d) (temporary g (suc d) (omega (arith, fits, t)))), tt)
    expr_cells (Unary o a) d sound fits =
        let t = some_value a in
        all_both g (expr_code s n d a) (prefix_code o (n + d) ∷ []) (expr_cells a d sound fits) (prefix_cells g o (n + d) (temporary g d (omega (arith, fits, t))), tt)
    expr_cells (Binary o a b) d sound fits =
        let t = some_value b in let x = temporary g d (omega (arith, fits, t)) in
        two a b d (op.Apply (binary_of o) (n + d) (n + d) (right_of b (n + suc d)) ∷ []) (expr_cells a d sound.0 (omega (arith, fits))) (expr_cells b (suc d) sound.1 (omega (arith, fits)))
        ((x, x, right_cell g b (n + suc d) (temporary g (suc d) (omega (arith, fits, t)))), tt)
    expr_cells (And a b) d sound fits =
        let t = some_value a in let x = temporary g d (omega (arith, fits, t)) in
        let cb = expr_code s n d b in
        all_both g (expr_code s n d a) (op.SkipUnless compare.Unequal (n + d) (operand.Number 0) (length cb) ∷ (cb ++ truth_code (n + d) ∷ [])) (expr_cells a d sound.0 (omega (arith, fits)))
        ((x, tt), all_both g cb (truth_code (n + d) ∷ []) (expr_cells b d sound.1 (omega (arith, fits))) ((x, x, tt), tt))
    expr_cells (Or a b) d sound fits =
        let t = some_value a in let x = temporary g d (omega (arith, fits, t)) in
        let cb = expr_code s n d b in
        all_both g (expr_code s n d a) (op.SkipUnless compare.Equal (n + d) (operand.Number 0) (length cb) ∷ (cb ++ truth_code (n + d) ∷ [])) (expr_cells a d sound.0 (omega (arith, fits)))
        ((x, tt), all_both g cb (truth_code (n + d) ∷ []) (expr_cells b d sound.1 (omega (arith, fits))) ((x, x, tt), tt))
    expr_cells (Conditional c a b) d sound fits =
        let t = some_value c in let x = temporary g d (omega (arith, fits, t)) in
        let ca = expr_code s n d a in let cb = expr_code s n d b in
        all_both g (expr_code s n d c) (op.SkipUnless compare.Unequal (n + d) (operand.Number 0) (length ca + 1) ∷ (ca ++ op.Skip (length cb) ∷ cb)) (expr_cells c d sound.0 (omega (arith, fits)))
        ((x, tt), all_both g ca (op.Skip (length cb) ∷ cb) (expr_cells a d sound.1 (omega (arith, fits))) (tt, expr_cells b d sound.2 (omega (arith, fits))))
    expr_cells (Convert to a) d sound fits =
        let t = some_value a in
        all_both g (expr_code s n d a) (convert_code to (n + d)) (expr_cells a d sound fits) (convert_cells g to (n + d) (temporary g d (omega (arith, fits, t))))
    expr_cells (Advance v a i) d sound fits =
        let t = some_value i in let x = temporary g d (omega (arith, fits, t)) in
        two a i d (op.Index (n + d) (n + d) (right_of i (n + suc d)) (width_of v) ∷ []) (expr_cells a d sound.0 (omega (arith, fits))) (expr_cells i (suc d) sound.1 (omega (arith, fits)))
        ((x, x, right_cell g i (n + suc d) (temporary g (suc d) (omega (arith, fits, t)))), tt)
    expr_cells (AdvanceBy v i a) d sound fits =
        let t = some_value a in let x = temporary g d (omega (arith, fits, t)) in let y = temporary g (suc d) (omega (arith, fits, t)) in
        let ci = expr_code s n d i in let ca = expr_code s n (suc d) a in let last = op.Index (n + d) (n + suc d) (operand.Cell (n + d)) (width_of v) ∷ [] in
        all_both g ci (ca ++ last) (expr_cells i d sound.0 (omega (arith, fits))) (all_both g ca last (expr_cells a (suc d) sound.1 (omega (arith, fits))) ((x, y, x), tt))
    expr_cells (Retreat v a i) d sound fits =
        let t = some_value i in let x = temporary g d (omega (arith, fits, t)) in let y = temporary g (suc d) (omega (arith, fits, t)) in
        let ca = expr_code s n d a in let ci = expr_code s n (suc d) i in
        let last = op.Change unary.Negate (n + suc d) (n + suc d) ∷ op.Index (n + d) (n + d) (operand.Cell (n + suc d)) (width_of v) ∷ [] in
        all_both g ca (ci ++ last) (expr_cells a d sound.0 (omega (arith, fits))) (all_both g ci last (expr_cells i (suc d) sound.1 (omega (arith, fits))) ((y, y), ((x, x, y), tt)))
    expr_cells (Assign t x e) d sound fits =
        let some = some_value e in let i = temporary g d (omega (arith, fits, some)) in
        let last = write_code s x (n + d) ∷ [] in
        all_both g (expr_code s n d e) (kept_code t (n + d) ++ last) (expr_cells e d sound.1 fits) (all_both g (kept_code t (n + d)) last (kept_cells g t (n + d) i) (write_cells g s z same x (n + d) sound.0 i, tt))
    expr_cells (AssignElement v p e) d sound fits =
        let t = some_value e in let x = temporary g d (omega (arith, fits, t)) in let y = temporary g (suc d) (omega (arith, fits, t)) in
        let cp = place_code s n d v p in let ce = expr_code s n (suc d) e in let last = op.Store (n + d) (n + suc d) (width_of v) ∷ cut_code v (n + d) (n + suc d) ∷ [] in
        all_both g cp (ce ++ last) (place_cells p v d sound.0 (omega (arith, fits))) (all_both g ce last (expr_cells e (suc d) sound.1 (omega (arith, fits))) ((x, y), (cut_cells g v (n + d) (n + suc d) x y, tt)))
    expr_cells (Compound o t x e) d sound fits =
        let some = some_value e in let i = temporary g d (omega (arith, fits, some)) in let j = temporary g (suc d) (omega (arith, fits, some)) in
        let ce = expr_code s n (suc d) e in let cn = negate_code o t (n + suc d) in let cr = raise_code o t (n + d) (n + d) (operand.Cell (n + suc d)) in let last = write_code s x (n + d) ∷ [] in (
          read_cells g s z same x (n + d) sound.0 i,
          all_both g ce (cn ++ (cr ++ last)) (expr_cells e (suc d) sound.1 (omega (arith, fits)))
              (all_both g cn (cr ++ last) (negate_cells g o t (n + suc d) j) (all_both g cr last (raise_cells g o t (n + d) (n + d) (operand.Cell (n + suc d)) i i j) (write_cells g s z same x (n + d) sound.0 i, tt))),
        )
    expr_cells (CompoundElement o v p e) d sound fits =
        let some = some_value e in let x = temporary g d (omega (arith, fits, some)) in let y = temporary g (suc d) (omega (arith, fits, some)) in let q = temporary g (suc (suc d)) (omega (arith, fits, some)) in
        let cp = fetched_code s n d v p in let ce = expr_code s n (suc (suc d)) e in
        let last = op.Apply (binary_of o) (n + suc d) (n + suc d) (operand.Cell (n + suc (suc d))) ∷ op.Store (n + d) (n + suc d) (width_of v) ∷ cut_code v (n + d) (n + suc d) ∷ [] in
        all_both g cp (ce ++ last) (fetched_cells p v d sound.0 (omega (arith, fits)) (omega (arith, fits, some)))
        (all_both g ce last (expr_cells e (suc (suc d)) sound.1 (omega (arith, fits))) ((y, y, q), ((x, y), (cut_cells g v (n + d) (n + suc d) x y, tt))))
    expr_cells (Step v up t x) d sound fits =
        let i = temporary g d (omega (arith, fits)) in let j = temporary g (suc d) (omega (arith, fits)) in
        let to = new_cell v (n + d) (n + suc d) in let at = new_is v (n + d) (n + suc d) i j in
        let cr = raise_code (stepping_operator up) t to (n + d) (operand.Number (step_number up t)) in
        (read_cells g s z same x (n + d) sound i, all_both g cr (write_code s x to ∷ []) (raise_cells g (stepping_operator up) t to (n + d) (operand.Number (step_number up t)) at i tt) (write_cells g s z same x to sound at, tt))
    expr_cells (StepElement v up u p) d sound fits =
        all_both g (fetched_code s n d u p) (step_element_code n d v up u) (fetched_cells p u d sound (omega (arith, fits)) (omega (arith, fits))) (step_cells g d v up u (omega (arith, fits)))
    expr_cells (Kernel k xs) d sound fits =
        let c = sound.0.0 in let few = (w.calls k c sound.0.1).few in let each = one_each xs in let many = sound.0.2 in
        all_both g (args_code s n d xs) (op.Ask (number_of s k) (n + d) (count xs) ∷ []) (args_cells xs d sound.1 (omega (arith, fits)))
        ((omega arith, omega (arith, few, many), temporary g d (omega (arith, fits)), omega (arith, fits, each)), tt)
    expr_cells (Call f xs) d sound fits =
        let few = (w.functions f sound.0).few in let each = one_each xs in let many = sound.1 in
        let ps = (fun_at s.program f).params in
        let last = op.Go f (n + d) (count xs) ∷ [] in
        all_both g (args_code s n d xs) (arguments_code ps (n + d) ++ last) (args_cells xs d sound.2 (omega (arith, fits)))
        (all_both g (arguments_code ps (n + d)) last (argument_cells g ps (n + d) (count xs) (omega (arith, many)) (omega (arith, fits, each)))
        ((omega arith, omega (arith, few, many), temporary g d (omega (arith, fits)), omega (arith, fits, each)), tt))

    loaded_cells : (p : Place) (v : Element) (d : ℕ) → SoundPlace s z p → d + place_temps p ≤ g.temporaries → AllHaveCells g (loaded_code s n d v p)
    loaded_cells (Index a i) v d sound fits =
        let t = some_value i in let x = temporary g d (omega (arith, fits, t)) in
        two a i d (op.Index (n + d) (n + d) (right_of i (n + suc d)) (width_of v) ∷ op.Load (n + d) (n + d) (width_of v) ∷ []) (expr_cells a d sound.0 (omega (arith, fits))) (expr_cells i (suc d) sound.1 (omega (arith, fits)))
        ((x, x, right_cell g i (n + suc d) (temporary g (suc d) (omega (arith, fits, t)))), ((x, x), tt))
    loaded_cells (Deref a) v d sound fits =
        let t = some_value a in let x = temporary g d (omega (arith, fits, t)) in
        all_both g (expr_code s n d a) (op.Load (n + d) (n + d) (width_of v) ∷ []) (expr_cells a d sound fits) ((x, x), tt)

    place_cells : (p : Place) (v : Element) (d : ℕ) → SoundPlace s z p → d + place_temps p ≤ g.temporaries → AllHaveCells g (place_code s n d v p)
    place_cells (Index a i) v d sound fits =
        let t = some_value i in let x = temporary g d (omega (arith, fits, t)) in
        two a i d (op.Index (n + d) (n + d) (right_of i (n + suc d)) (width_of v) ∷ []) (expr_cells a d sound.0 (omega (arith, fits))) (expr_cells i (suc d) sound.1 (omega (arith, fits)))
        ((x, x, right_cell g i (n + suc d) (temporary g (suc d) (omega (arith, fits, t)))), tt)
    place_cells (Deref a) v d sound fits = expr_cells a d sound fits

    fetched_cells : (p : Place) (v : Element) (d : ℕ) → SoundPlace s z p → d + place_temps p ≤ g.temporaries → suc d < g.temporaries → AllHaveCells g (fetched_code s n d v p)
    fetched_cells (Index a i) v d sound fits small =
        let t = some_value i in let x = temporary g d (omega (arith, fits, t)) in let y = temporary g (suc d) small in
        two a i d (op.Index (n + d) (n + d) (right_of i (n + suc d)) (width_of v) ∷ op.Load (n + suc d) (n + d) (width_of v) ∷ []) (expr_cells a d sound.0 (omega (arith, fits))) (expr_cells i (suc d) sound.1 (omega (arith, fits)))
        ((x, x, right_cell g i (n + suc d) y), ((y, x), tt))
    fetched_cells (Deref a) v d sound fits small =
        let t = some_value a in let x = temporary g d (omega (arith, fits, t)) in
        all_both g (expr_code s n d a) (op.Load (n + suc d) (n + d) (width_of v) ∷ []) (expr_cells a d sound fits) ((temporary g (suc d) small, x), tt)

    args_cells : (xs : Args) (d : ℕ) → SoundArgs s z xs → d + args_temps xs ≤ g.temporaries → AllHaveCells g (args_code s n d xs)
    args_cells NoMore d sound fits = tt
    args_cells (More e xs) d sound fits = all_both g (expr_code s n d e) (args_code s n (suc d) xs) (expr_cells e d sound.0 (omega (arith, fits))) (args_cells xs (suc d) sound.1 (omega (arith, fits)))

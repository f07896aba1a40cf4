use Rattle.std.proofs.Common.{◌≡◌, ℕ, suc, ◌+◌, List, [], ◌∷◌, ◌++◌, length, refl, sym, ap, ◌∙◌, arith}
use Rattle.std.proofs.lemmas.Result.{on_ok_weaker}
use Rattle.nx_checked.specs.declared.checked.CheckedExpr.{CheckedExpr}
use Rattle.nx_checked.specs.declared.checked.CheckedPlace.{CheckedPlace}
use Rattle.nx_checked.specs.Trees.{Expr, Place, expr_of, place_of, args_of, count}
use Rattle.nx_slot.specs.declared.op.Operand.{Operand}
use Rattle.nx_slot.specs.declared.op.Operand.TheVariants as operand
use Rattle.nx_slot.specs.declared.op.Comparison.TheVariants as compare
use Rattle.nx_slot.specs.declared.op.Unary.TheVariants as unary
use Rattle.nx_slot.specs.declared.op.Width.{Width}
use Rattle.nx_slot.specs.declared.op.Binary as slot_binary
use Rattle.nx_slot.specs.declared.op.SlotOp.{SlotOp}
use Rattle.nx_slot.specs.declared.op.SlotOp.TheVariants as op
use Rattle.nx_cmean.proofs.Forms as form
use Rattle.nx_lower.specs.Shown.{width_of}
use Rattle.nx_lower.specs.Code.{expr_code, place_code, fetched_code, args_code, right_code, right_of, binary_of, read_code, cut_code, raise_code, negate_code, number_of}
use Rattle.nx_lowerexpr.specs.Sources.{source_of}
use Rattle.nx_lowerexpr.proofs.Joining.{deeper, join1, join2, join3, ops2, ops3, put_length, put_more, put_before}
use Rattle.nx_lowerexpr.proofs.expression.+put.Goals as goal

pub put_expr-returns-in_ok-put_right-in-AddressOf : goal.put_expr-returns-in_ok-put_right-in-AddressOf
put_expr-returns-in_ok-put_right-in-AddressOf t c =
    let s = source_of c.args.program.now in let n = c.args.n in let d = c.args.d in let old = c.args.code.now in
    let deep : d + 1 ≡ suc d = deeper d in
    on_ok_weaker c.put_expr.result
    (λ e. join2 _ _ _ _ _ _ old _ _ _ _ c.in_ok-put-in-AddressOf.ensures c.in_ok-put_right-in-AddressOf.ensures e (ap (λ (x : CheckedExpr). expr_code s n d (expr_of x)) c.get-in-AddressOf-3.ensures) (ap (λ (x : CheckedExpr). right_code (expr_of x) (expr_code s n (d + 1) (expr_of x))) c.get-in-AddressOf-2.ensures ∙ ap (λ (k : ℕ). right_code (expr_of c.in-AddressOf.i) (expr_code s n k (expr_of c.in-AddressOf.i))) deep)
    (ap (λ (x : Operand). op.Index (n + d) (n + d) x c.width.result ∷ []) (c.right.ensures ∙ ap (λ (x : CheckedExpr). right_of (expr_of x) (n + (d + 1))) c.get-in-AddressOf.ensures ∙ ap (λ (k : ℕ). right_of (expr_of c.in-AddressOf.i) (n + k)) deep) ∙ ap (λ (w : Width). op.Index (n + d) (n + d) (right_of (expr_of c.in-AddressOf.i) (n + suc d)) w ∷ []) c.width.ensures)
    (ap (λ (x : CheckedExpr). expr_code s n d (expr_of x)) c.in-AddressOf.is ∙ ap (λ (x : Expr). expr_code s n d x) (form.at_address_of c.in-AddressOf.w c.in-AddressOf.a c.in-AddressOf.i)))
    c.put_expr.ensures

pub put_expr-returns-in_ok-put_right-in-Advance : goal.put_expr-returns-in_ok-put_right-in-Advance
put_expr-returns-in_ok-put_right-in-Advance t c =
    let s = source_of c.args.program.now in let n = c.args.n in let d = c.args.d in let old = c.args.code.now in
    let deep : d + 1 ≡ suc d = deeper d in
    on_ok_weaker c.put_expr-in-Advance.result
    (λ e. join2 _ _ _ _ _ _ old _ _ _ _ c.in_ok-put-in-Advance.ensures c.in_ok-put_right-in-Advance.ensures e (ap (λ (x : CheckedExpr). expr_code s n d (expr_of x)) c.get-in-Advance-3.ensures) (ap (λ (x : CheckedExpr). right_code (expr_of x) (expr_code s n (d + 1) (expr_of x))) c.get-in-Advance-2.ensures ∙ ap (λ (k : ℕ). right_code (expr_of c.in-Advance.i) (expr_code s n k (expr_of c.in-Advance.i))) deep)
    (ap (λ (x : Operand). op.Index (n + d) (n + d) x c.width-in-Advance.result ∷ []) (c.right-in-Advance.ensures ∙ ap (λ (x : CheckedExpr). right_of (expr_of x) (n + (d + 1))) c.get-in-Advance.ensures ∙ ap (λ (k : ℕ). right_of (expr_of c.in-Advance.i) (n + k)) deep) ∙ ap (λ (w : Width). op.Index (n + d) (n + d) (right_of (expr_of c.in-Advance.i) (n + suc d)) w ∷ []) c.width-in-Advance.ensures)
    (ap (λ (x : CheckedExpr). expr_code s n d (expr_of x)) c.in-Advance.is ∙ ap (λ (x : Expr). expr_code s n d x) (form.at_advance c.in-Advance.w c.in-Advance.a c.in-Advance.i)))
    c.put_expr-in-Advance.ensures

pub put_place-returns-in_ok-put_right-in-Index : goal.put_place-returns-in_ok-put_right-in-Index
put_place-returns-in_ok-put_right-in-Index t c =
    let s = source_of c.args.program.now in let n = c.args.n in let d = c.args.d in let old = c.args.code.now in
    let deep : d + 1 ≡ suc d = deeper d in
    on_ok_weaker c.put_expr.result
    (λ e. join2 _ _ _ _ _ _ old _ _ _ _ c.in_ok-put-in-Index.ensures c.in_ok-put_right-in-Index.ensures e (ap (λ (x : CheckedExpr). expr_code s n d (expr_of x)) c.get-in-Index-2.ensures) (ap (λ (x : CheckedExpr). right_code (expr_of x) (expr_code s n (d + 1) (expr_of x))) c.get-in-Index.ensures ∙ ap (λ (k : ℕ). right_code (expr_of c.in-Index.i) (expr_code s n k (expr_of c.in-Index.i))) deep)
    (ap (λ (x : Operand). op.Index (n + d) (n + d) x c.width.result ∷ []) (c.right.ensures ∙ ap (λ (x : CheckedExpr). right_of (expr_of x) (n + (d + 1))) c.get.ensures ∙ ap (λ (k : ℕ). right_of (expr_of c.in-Index.i) (n + k)) deep) ∙ ap (λ (w : Width). op.Index (n + d) (n + d) (right_of (expr_of c.in-Index.i) (n + suc d)) w ∷ []) c.width.ensures)
    (ap (λ (x : CheckedPlace). place_code s n d c.args.w (place_of x)) c.in-Index.is ∙ ap (λ (x : Place). place_code s n d c.args.w x) (form.place_index c.in-Index.a c.in-Index.i)))
    c.put_expr.ensures

pub put_expr-returns-in_ok-put-in-Unary : goal.put_expr-returns-in_ok-put-in-Unary
put_expr-returns-in_ok-put-in-Unary t c =
    let s = source_of c.args.program.now in let n = c.args.n in let d = c.args.d in let old = c.args.code.now in
    let deep : d + 1 ≡ suc d = deeper d in
    on_ok_weaker c.put_expr-in-Unary.result
    (λ e. join1 _ _ _ _ old _ _ _ c.in_ok-put-in-Unary.ensures e (ap (λ (x : CheckedExpr). expr_code s n d (expr_of x)) c.get-in-Unary.ensures) (ap (λ (o : SlotOp). o ∷ []) c.prefix.ensures) (ap (λ (x : CheckedExpr). expr_code s n d (expr_of x)) c.in-Unary.is ∙ ap (λ (x : Expr). expr_code s n d x) (form.at_unary c.in-Unary.op c.in-Unary.a)))
    c.put_expr-in-Unary.ensures

pub put_expr-returns-in_ok-put_right-in-Binary : goal.put_expr-returns-in_ok-put_right-in-Binary
put_expr-returns-in_ok-put_right-in-Binary t c =
    let s = source_of c.args.program.now in let n = c.args.n in let d = c.args.d in let old = c.args.code.now in
    let deep : d + 1 ≡ suc d = deeper d in
    on_ok_weaker c.put_expr-in-Binary.result
    (λ e. join2 _ _ _ _ _ _ old _ _ _ _ c.in_ok-put-in-Binary.ensures c.in_ok-put_right-in-Binary.ensures e (ap (λ (x : CheckedExpr). expr_code s n d (expr_of x)) c.get-in-Binary-3.ensures) (ap (λ (x : CheckedExpr). right_code (expr_of x) (expr_code s n (d + 1) (expr_of x))) c.get-in-Binary-2.ensures ∙ ap (λ (k : ℕ). right_code (expr_of c.in-Binary.b) (expr_code s n k (expr_of c.in-Binary.b))) deep)
    (ap (λ (o : slot_binary.Binary). op.Apply o (n + d) (n + d) c.right-in-Binary.result ∷ []) c.binary.ensures ∙ ap (λ (x : Operand). op.Apply (binary_of c.in-Binary.op) (n + d) (n + d) x ∷ []) (c.right-in-Binary.ensures ∙ ap (λ (x : CheckedExpr). right_of (expr_of x) (n + (d + 1))) c.get-in-Binary.ensures ∙ ap (λ (k : ℕ). right_of (expr_of c.in-Binary.b) (n + k)) deep))
    (ap (λ (x : CheckedExpr). expr_code s n d (expr_of x)) c.in-Binary.is ∙ ap (λ (x : Expr). expr_code s n d x) (form.at_binary c.in-Binary.op c.in-Binary.a c.in-Binary.b)))
    c.put_expr-in-Binary.ensures

pub put_expr-returns-in_ok-put-in-And-2 : goal.put_expr-returns-in_ok-put-in-And-2
put_expr-returns-in_ok-put-in-And-2 t c =
    let s = source_of c.args.program.now in let n = c.args.n in let d = c.args.d in let old = c.args.code.now in
    let deep : d + 1 ≡ suc d = deeper d in
    let past = put_length _ _ _ c.len-end.result c.len.result c.in_ok-put_expr-in-And.ensures c.len-end.ensures c.len.ensures ∙ ap (λ (x : CheckedExpr). length (expr_code s n d (expr_of x))) c.get-in-And.ensures in
    on_ok_weaker c.put_expr-in-And-2.result
    (λ e. join3 _ _ _ _ _ _ _ _ old _ _ _ _ _ c.in_ok-put-in-And.ensures c.in_ok-put_expr-in-And.ensures c.in_ok-put-in-And-2.ensures e (ap (λ (x : CheckedExpr). expr_code s n d (expr_of x)) c.get-in-And-2.ensures)
    (ap (λ (k : ℕ). op.SkipUnless compare.Unequal (n + d) (operand.Number 0) k ∷ []) past) (ap (λ (x : CheckedExpr). expr_code s n d (expr_of x)) c.get-in-And.ensures) (ap (λ (o : SlotOp). o ∷ []) c.truth.ensures)
    (ap (λ (x : CheckedExpr). expr_code s n d (expr_of x)) c.in-And.is ∙ ap (λ (x : Expr). expr_code s n d x) (form.at_and c.in-And.a c.in-And.b)))
    c.put_expr-in-And-2.ensures

pub put_expr-returns-in_ok-put-in-Or-2 : goal.put_expr-returns-in_ok-put-in-Or-2
put_expr-returns-in_ok-put-in-Or-2 t c =
    let s = source_of c.args.program.now in let n = c.args.n in let d = c.args.d in let old = c.args.code.now in
    let deep : d + 1 ≡ suc d = deeper d in
    let past = put_length _ _ _ c.len-end-in-Or.result c.len-in-Or.result c.in_ok-put_expr-in-Or.ensures c.len-end-in-Or.ensures c.len-in-Or.ensures ∙ ap (λ (x : CheckedExpr). length (expr_code s n d (expr_of x))) c.get-in-Or.ensures in
    on_ok_weaker c.put_expr-in-Or-2.result
    (λ e. join3 _ _ _ _ _ _ _ _ old _ _ _ _ _ c.in_ok-put-in-Or.ensures c.in_ok-put_expr-in-Or.ensures c.in_ok-put-in-Or-2.ensures e (ap (λ (x : CheckedExpr). expr_code s n d (expr_of x)) c.get-in-Or-2.ensures)
    (ap (λ (k : ℕ). op.SkipUnless compare.Equal (n + d) (operand.Number 0) k ∷ []) past) (ap (λ (x : CheckedExpr). expr_code s n d (expr_of x)) c.get-in-Or.ensures) (ap (λ (o : SlotOp). o ∷ []) c.truth-in-Or.ensures)
    (ap (λ (x : CheckedExpr). expr_code s n d (expr_of x)) c.in-Or.is ∙ ap (λ (x : Expr). expr_code s n d x) (form.at_or c.in-Or.a c.in-Or.b)))
    c.put_expr-in-Or-2.ensures

pub put_expr-returns-in_ok-put-in-Conditional-2 : goal.put_expr-returns-in_ok-put-in-Conditional-2
put_expr-returns-in_ok-put-in-Conditional-2 t c =
    let s = source_of c.args.program.now in let n = c.args.n in let d = c.args.d in let old = c.args.code.now in
    let x = c.in-Conditional.a in let y = c.in-Conditional.b in
    let ex = ap (λ (x : CheckedExpr). expr_code s n d (expr_of x)) c.get-in-Conditional-2.ensures in
    let ey = ap (λ (x : CheckedExpr). expr_code s n d (expr_of x)) c.get-in-Conditional.ensures in
    let skip = put_length _ _ _ c.len-end-in-Conditional.result c.len-between.result c.in_ok-put_expr-in-Conditional.ensures c.len-end-in-Conditional.ensures c.len-between.ensures ∙ ap (λ (l : List SlotOp). length l) ey in
    let past = put_more _ _ _ _ _ c.len-between.result c.len-in-Conditional.result c.in_ok-put-in-Conditional.ensures c.in_ok-put_expr-in-Conditional-2.ensures c.len-between.ensures c.len-in-Conditional.ensures ∙ ap (λ (l : List SlotOp). length l + 1) ex in
    on_ok_weaker c.put_expr-in-Conditional-3.result
    (λ e. join3 _ _ _ _ _ _ _ _ old _ _ _ _ _ (put_before _ _ old _ _ c.in_ok-put_expr-in-Conditional.ensures c.in_ok-put-in-Conditional.ensures) c.in_ok-put_expr-in-Conditional-2.ensures c.in_ok-put-in-Conditional-2.ensures e (ap (λ (x : CheckedExpr). expr_code s n d (expr_of x)) c.get-in-Conditional-3.ensures)
    (ap (λ (k : ℕ). op.SkipUnless compare.Unequal (n + d) (operand.Number 0) k ∷ []) past) ex
    (ap (λ (k : ℕ). op.Skip k ∷ expr_code s n d (expr_of c.get-in-Conditional.result.now)) skip ∙ ap (λ (l : List SlotOp). op.Skip (length (expr_code s n d (expr_of y))) ∷ l) ey)
    (ap (λ (x : CheckedExpr). expr_code s n d (expr_of x)) c.in-Conditional.is ∙ ap (λ (x : Expr). expr_code s n d x) (form.at_conditional c.in-Conditional.c x y)))
    c.put_expr-in-Conditional-3.ensures

pub put_expr-returns-in_ok-put_conversion-in-Convert : goal.put_expr-returns-in_ok-put_conversion-in-Convert
put_expr-returns-in_ok-put_conversion-in-Convert t c =
    let s = source_of c.args.program.now in let n = c.args.n in let d = c.args.d in let old = c.args.code.now in
    let deep : d + 1 ≡ suc d = deeper d in
    on_ok_weaker c.put_expr-in-Convert.result
    (λ e. join1 _ _ _ _ old _ _ _ c.in_ok-put_conversion-in-Convert.ensures e (ap (λ (x : CheckedExpr). expr_code s n d (expr_of x)) c.get-in-Convert.ensures) refl (ap (λ (x : CheckedExpr). expr_code s n d (expr_of x)) c.in-Convert.is ∙ ap (λ (x : Expr). expr_code s n d x) (form.at_convert c.in-Convert.kind c.in-Convert.a)))
    c.put_expr-in-Convert.ensures

pub put_expr-returns-in_ok-put_expr-in-AdvanceBy : goal.put_expr-returns-in_ok-put_expr-in-AdvanceBy
put_expr-returns-in_ok-put_expr-in-AdvanceBy t c =
    let s = source_of c.args.program.now in let n = c.args.n in let d = c.args.d in let old = c.args.code.now in
    let deep : d + 1 ≡ suc d = deeper d in
    on_ok_weaker c.put_expr-in-AdvanceBy-2.result
    (λ e. join2 _ _ _ _ _ _ old _ _ _ _ c.in_ok-put-in-AdvanceBy.ensures c.in_ok-put_expr-in-AdvanceBy.ensures e (ap (λ (x : CheckedExpr). expr_code s n d (expr_of x)) c.get-in-AdvanceBy-2.ensures) (ap (λ (x : CheckedExpr). expr_code s n (d + 1) (expr_of x)) c.get-in-AdvanceBy.ensures ∙ ap (λ (k : ℕ). expr_code s n k (expr_of c.in-AdvanceBy.a)) deep)
    (ap (λ (w : Width). op.Index (n + d) (n + (d + 1)) (operand.Cell (n + d)) w ∷ []) c.width-in-AdvanceBy.ensures ∙ ap (λ (k : ℕ). op.Index (n + d) (n + k) (operand.Cell (n + d)) (width_of c.in-AdvanceBy.w) ∷ []) deep)
    (ap (λ (x : CheckedExpr). expr_code s n d (expr_of x)) c.in-AdvanceBy.is ∙ ap (λ (x : Expr). expr_code s n d x) (form.at_advance_by c.in-AdvanceBy.w c.in-AdvanceBy.i c.in-AdvanceBy.a)))
    c.put_expr-in-AdvanceBy-2.ensures

pub put_expr-returns-in_ok-put_expr-in-Retreat : goal.put_expr-returns-in_ok-put_expr-in-Retreat
put_expr-returns-in_ok-put_expr-in-Retreat t c =
    let s = source_of c.args.program.now in let n = c.args.n in let d = c.args.d in let old = c.args.code.now in
    let deep : d + 1 ≡ suc d = deeper d in
    on_ok_weaker c.put_expr-in-Retreat-2.result
    (λ e. join2 _ _ _ _ _ _ old _ _ _ _ (ops2 _ _ old _ _ c.in_ok-put-in-Retreat.ensures c.in_ok-put-in-Retreat-2.ensures) c.in_ok-put_expr-in-Retreat.ensures e (ap (λ (x : CheckedExpr). expr_code s n d (expr_of x)) c.get-in-Retreat-2.ensures) (ap (λ (x : CheckedExpr). expr_code s n (d + 1) (expr_of x)) c.get-in-Retreat.ensures ∙ ap (λ (k : ℕ). expr_code s n k (expr_of c.in-Retreat.i)) deep)
    (ap (λ (w : Width). op.Change unary.Negate (n + (d + 1)) (n + (d + 1)) ∷ op.Index (n + d) (n + d) (operand.Cell (n + (d + 1))) w ∷ []) c.width-in-Retreat.ensures ∙ ap (λ (k : ℕ). op.Change unary.Negate (n + k) (n + k) ∷ op.Index (n + d) (n + d) (operand.Cell (n + k)) (width_of c.in-Retreat.w) ∷ []) deep)
    (ap (λ (x : CheckedExpr). expr_code s n d (expr_of x)) c.in-Retreat.is ∙ ap (λ (x : Expr). expr_code s n d x) (form.at_retreat c.in-Retreat.w c.in-Retreat.a c.in-Retreat.i)))
    c.put_expr-in-Retreat-2.ensures

pub put_expr-returns-in_ok-put_kept-in-Assign : goal.put_expr-returns-in_ok-put_kept-in-Assign
put_expr-returns-in_ok-put_kept-in-Assign t c =
    let s = source_of c.args.program.now in let n = c.args.n in let d = c.args.d in let old = c.args.code.now in
    let deep : d + 1 ≡ suc d = deeper d in
    on_ok_weaker c.put_expr-in-Assign.result
    (λ e. join2 _ _ _ _ _ _ old _ _ _ _ c.in_ok-put_write-in-Assign.ensures c.in_ok-put_kept-in-Assign.ensures e (ap (λ (x : CheckedExpr). expr_code s n d (expr_of x)) c.get-in-Assign.ensures) refl refl (ap (λ (x : CheckedExpr). expr_code s n d (expr_of x)) c.in-Assign.is ∙ ap (λ (x : Expr). expr_code s n d x) (form.at_assign c.in-Assign.s c.in-Assign.x c.in-Assign.e)))
    c.put_expr-in-Assign.ensures

pub put_expr-returns-in_ok-put_expr-in-AssignElement : goal.put_expr-returns-in_ok-put_expr-in-AssignElement
put_expr-returns-in_ok-put_expr-in-AssignElement t c =
    let s = source_of c.args.program.now in let n = c.args.n in let d = c.args.d in let old = c.args.code.now in
    let deep : d + 1 ≡ suc d = deeper d in
    let w = c.in-AssignElement.w in
    on_ok_weaker c.put_place.result
    (λ e. join2 _ _ _ _ _ _ old _ _ _ _ (ops2 _ _ old _ _ c.in_ok-put-in-AssignElement.ensures c.in_ok-put-in-AssignElement-2.ensures) c.in_ok-put_expr-in-AssignElement.ensures e
    (ap (λ (x : CheckedPlace). place_code s n d w (place_of x)) c.get-in-AssignElement-2.ensures) (ap (λ (x : CheckedExpr). expr_code s n (d + 1) (expr_of x)) c.get-in-AssignElement.ensures ∙ ap (λ (k : ℕ). expr_code s n k (expr_of c.in-AssignElement.e)) deep)
    (ap (λ (x : Width). op.Store (n + d) (n + (d + 1)) x ∷ c.cut.result ∷ []) c.width-in-AssignElement.ensures ∙ ap (λ (o : SlotOp). op.Store (n + d) (n + (d + 1)) (width_of w) ∷ o ∷ []) c.cut.ensures ∙ ap (λ (k : ℕ). op.Store (n + d) (n + k) (width_of w) ∷ cut_code w (n + d) (n + k) ∷ []) deep)
    (ap (λ (x : CheckedExpr). expr_code s n d (expr_of x)) c.in-AssignElement.is ∙ ap (λ (x : Expr). expr_code s n d x) (form.at_assign_element c.in-AssignElement.w c.in-AssignElement.p c.in-AssignElement.e)))
    c.put_place.ensures

pub put_expr-returns-in_ok-put_expr-in-Compound : goal.put_expr-returns-in_ok-put_expr-in-Compound
put_expr-returns-in_ok-put_expr-in-Compound t c =
    let s = source_of c.args.program.now in let n = c.args.n in let d = c.args.d in let old = c.args.code.now in
    let deep : d + 1 ≡ suc d = deeper d in
    let x = c.in-Compound.x in let q = c.in-Compound.op in let v = c.in-Compound.s in
    on_ok_weaker c.put_read-in-Compound.result
    (λ e. e ∙ ap (λ (l : List SlotOp). read_code s x (n + d) ∷ l)
    (join3 _ _ _ _ _ _ _ _ old _ _ _ _ _ c.in_ok-put_write-in-Compound.ensures c.in_ok-put_raise-in-Compound.ensures c.in_ok-put_negate-in-Compound.ensures c.in_ok-put_expr-in-Compound.ensures (ap (λ (x : CheckedExpr). expr_code s n (d + 1) (expr_of x)) c.get-in-Compound.ensures ∙ ap (λ (k : ℕ). expr_code s n k (expr_of c.in-Compound.e)) deep)
    (ap (λ (k : ℕ). negate_code q v (n + k)) deep) (ap (λ (k : ℕ). raise_code q v (n + d) (n + d) (operand.Cell (n + k))) deep) refl refl)
    ∙ ap (λ (l : List SlotOp). l ++ old) (sym (ap (λ (x : CheckedExpr). expr_code s n d (expr_of x)) c.in-Compound.is ∙ ap (λ (x : Expr). expr_code s n d x) (form.at_compound q v x c.in-Compound.e))))
    c.put_read-in-Compound.ensures

pub put_expr-returns-in_ok-put_expr-in-CompoundElement : goal.put_expr-returns-in_ok-put_expr-in-CompoundElement
put_expr-returns-in_ok-put_expr-in-CompoundElement t c =
    let s = source_of c.args.program.now in let n = c.args.n in let d = c.args.d in let old = c.args.code.now in
    let deep : d + 1 ≡ suc d = deeper d in
    let w = c.in-CompoundElement.w in let q = c.in-CompoundElement.op in
    let more : d + 1 + 1 ≡ suc (suc d) = omega arith in
    on_ok_weaker c.put_fetched.result
    (λ e. join2 _ _ _ _ _ _ old _ _ _ _ (ops3 _ _ _ old _ _ _ c.in_ok-put-in-CompoundElement.ensures c.in_ok-put-in-CompoundElement-2.ensures c.in_ok-put-in-CompoundElement-3.ensures) c.in_ok-put_expr-in-CompoundElement.ensures e
    (ap (λ (x : CheckedPlace). fetched_code s n d w (place_of x)) c.get-in-CompoundElement-2.ensures)
    (ap (λ (x : CheckedExpr). expr_code s n (d + 1 + 1) (expr_of x)) c.get-in-CompoundElement.ensures ∙ ap (λ (k : ℕ). expr_code s n k (expr_of c.in-CompoundElement.e)) more)
    (ap (λ (b : slot_binary.Binary). op.Apply b (n + (d + 1)) (n + (d + 1)) (operand.Cell (n + (d + 1 + 1))) ∷ op.Store (n + d) (n + (d + 1)) c.width-in-CompoundElement.result ∷ c.cut-in-CompoundElement.result ∷ []) c.binary-in-CompoundElement.ensures
    ∙ ap (λ (x : Width). op.Apply (binary_of q) (n + (d + 1)) (n + (d + 1)) (operand.Cell (n + (d + 1 + 1))) ∷ op.Store (n + d) (n + (d + 1)) x ∷ c.cut-in-CompoundElement.result ∷ []) c.width-in-CompoundElement.ensures
    ∙ ap (λ (o : SlotOp). op.Apply (binary_of q) (n + (d + 1)) (n + (d + 1)) (operand.Cell (n + (d + 1 + 1))) ∷ op.Store (n + d) (n + (d + 1)) (width_of w) ∷ o ∷ []) c.cut-in-CompoundElement.ensures
    ∙ ap (λ (k : ℕ). op.Apply (binary_of q) (n + k) (n + k) (operand.Cell (n + (k + 1))) ∷ op.Store (n + d) (n + k) (width_of w) ∷ cut_code w (n + d) (n + k) ∷ []) deep
    ∙ ap (λ (k : ℕ). op.Apply (binary_of q) (n + suc d) (n + suc d) (operand.Cell (n + k)) ∷ op.Store (n + d) (n + suc d) (width_of w) ∷ cut_code w (n + d) (n + suc d) ∷ []) (deeper (suc d)))
    (ap (λ (x : CheckedExpr). expr_code s n d (expr_of x)) c.in-CompoundElement.is ∙ ap (λ (x : Expr). expr_code s n d x) (form.at_compound_element q w c.in-CompoundElement.p c.in-CompoundElement.e)))
    c.put_fetched.ensures

pub put_expr-returns-in_ok-put_step-in-StepElement : goal.put_expr-returns-in_ok-put_step-in-StepElement
put_expr-returns-in_ok-put_step-in-StepElement t c =
    let s = source_of c.args.program.now in let n = c.args.n in let d = c.args.d in let old = c.args.code.now in
    let deep : d + 1 ≡ suc d = deeper d in
    let w = c.in-StepElement.w in
    on_ok_weaker c.put_fetched-in-StepElement.result
    (λ e. join1 _ _ _ _ old _ _ _ c.in_ok-put_step-in-StepElement.ensures e (ap (λ (x : CheckedPlace). fetched_code s n d w (place_of x)) c.get-in-StepElement.ensures) refl (ap (λ (x : CheckedExpr). expr_code s n d (expr_of x)) c.in-StepElement.is ∙ ap (λ (x : Expr). expr_code s n d x) (form.at_step_element c.in-StepElement.v c.in-StepElement.up w c.in-StepElement.p)))
    c.put_fetched-in-StepElement.ensures

pub put_expr-returns-in_ok-put-in-Kernel : goal.put_expr-returns-in_ok-put-in-Kernel
put_expr-returns-in_ok-put-in-Kernel t c =
    let s = source_of c.args.program.now in let n = c.args.n in let d = c.args.d in let old = c.args.code.now in
    let deep : d + 1 ≡ suc d = deeper d in
    on_ok_weaker c.put_args.result
    (λ e. join1 _ _ _ _ old _ _ _ c.in_ok-put-in-Kernel.ensures e (ap (λ (l : List CheckedExpr). args_code s n d (args_of l)) c.as_slice-in-Kernel.ensures)
    (ap (λ (k : ℕ). op.Ask k (n + d) c.count_of.result ∷ []) c.call_at.ensures ∙ ap (λ (k : ℕ). op.Ask (number_of s c.in-Kernel.k) (n + d) k ∷ []) (c.count_of.ensures ∙ ap (λ (l : List CheckedExpr). count (args_of l)) c.as_slice.ensures))
    (ap (λ (x : CheckedExpr). expr_code s n d (expr_of x)) c.in-Kernel.is ∙ ap (λ (x : Expr). expr_code s n d x) (form.at_kernel c.in-Kernel.k c.in-Kernel.xs)))
    c.put_args.ensures

pub put_expr-returns-in_ok-put_arguments-in-Call : goal.put_expr-returns-in_ok-put_arguments-in-Call
put_expr-returns-in_ok-put_arguments-in-Call t c =
    let s = source_of c.args.program.now in let n = c.args.n in let d = c.args.d in let old = c.args.code.now in
    let deep : d + 1 ≡ suc d = deeper d in
    on_ok_weaker c.put_args-in-Call.result
    (λ e. join2 _ _ _ _ _ _ old _ _ _ _ c.in_ok-put-in-Call.ensures c.in_ok-put_arguments-in-Call.ensures e (ap (λ (l : List CheckedExpr). args_code s n d (args_of l)) c.as_slice-in-Call-2.ensures) refl
    (ap (λ (k : ℕ). op.Go c.in-Call.f (n + d) k ∷ []) (c.count_of-in-Call.ensures ∙ ap (λ (l : List CheckedExpr). count (args_of l)) c.as_slice-in-Call.ensures))
    (ap (λ (x : CheckedExpr). expr_code s n d (expr_of x)) c.in-Call.is ∙ ap (λ (x : Expr). expr_code s n d x) (form.at_call c.in-Call.f c.in-Call.xs)))
    c.put_args-in-Call.ensures

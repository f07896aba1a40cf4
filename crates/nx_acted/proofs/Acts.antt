-- Operations on cells, as slot code makes them.
use Rattle.std.proofs.Common.{◌≡◌, ℕ, ◌+◌, ◌-◌, ◌*◌, ◌%◌, ◌^◌, ◌<◌, true, List, length, Some, refl, sym, ap, ◌∙◌, subst, arith}
use Rattle.std.specs.Prelude.{slice_get}
use Rattle.std.proofs.lemmas.Option.{slice_get_within, get_or_from_slice_get}
use Rattle.std.proofs.Math.Nat.{mul-zero}
use Rattle.nx_base.specs.declared.regs.Regs.{Regs}
use Rattle.nx_base.specs.Views.{View}
use Rattle.nx_slot.specs.declared.op.Operand.{Operand}
use Rattle.nx_slot.specs.declared.op.Operand.TheVariants.{Cell, Number}
use Rattle.nx_slot.specs.declared.op.SlotOp.TheVariants as op
use Rattle.nx_slot.specs.Objects.{Value, Int, Pointer, Forged, Entry, Object, object_of, bytes_of, holds, binary, unary, moved}
use Rattle.nx_slot.specs.Meaning.{SlotFrame, NoCell, may_write, operand}
use Rattle.nx_codegen.specs.declared.output.Target.TheVariants.{Function}
use Rattle.nx_codegen.specs.Addresses.{target_of}
use Rattle.nx_codegen.specs.Frames.{words_end, array_at}
use Rattle.nx_codegen.specs.Code.{is_near, place_of}
use Rattle.nx_pieces.specs.Cells.{cell_word}
use Rattle.nx_pieces.proofs.Cells.{by_test, frame_fits}
use Rattle.nx_operations.specs.Laws.{operand_word, IsShown, Operations}
use Rattle.nx_operations.proofs.Operations.{operations}
use Rattle.nx_operations.proofs.Jumps.{jumps, tests}
use Rattle.nx_linked.specs.Linked.{Program, IsShort, IsLinked, IsCompiled}
use Rattle.nx_linked.specs.Meant.{Means}
use Rattle.nx_linked.specs.Standing.{function_in, IsActive}
use Rattle.nx_linked.proofs.Arrays.{array_past}
use Rattle.nx_acted.specs.Laws.{IsDone, OperationsOnCellsAreDone}
use Rattle.nx_acted.proofs.Cells.{writes_is}
use Rattle.nx_acted.proofs.Peeling.{does_if, does_value, does_int, does_name, does_moved, moved_means}
use Rattle.nx_acted.proofs.Written.{pc_in, is_here, is_there, few_enough, cell_room, cell_written, place_gone}

-- An operand that there is.
pub record Given (c : Program) (os : List Object) (f : SlotFrame) (fs : List SlotFrame) (r : Regs) (v : View) (a : IsActive c os f fs r v) (o : Operand) (x : Value) : Type 0 where
  pub shown : IsShown (function_in c f.function) o
  pub means : Means c a.base os x (operand_word (function_in c f.function) a.sp a.registers a.bytes o)

pub is_given : (c : Program) (os : List Object) (f : SlotFrame) (fs : List SlotFrame) (r : Regs) (v : View) (a : IsActive c os f fs r v) (o : Operand) (x : Value) → IsShort o → operand f.cells o ≡ Some x → Given c os f fs r v a o x
is_given c os f fs r v a (Cell i) x s e = record { shown = cell_room c os f fs r v (pc_in c f) a i x e; means = a.cells i x e }
is_given c os f fs r v a (Number n) x s e = let q : Int n ≡ x = cc in record { shown = s; means = subst (λ y. Means c a.base os y n) q refl }

pub compiled : (c : Program) (os : List Object) (f : SlotFrame) (fs : List SlotFrame) (r : Regs) (v : View) → IsLinked c → IsActive c os f fs r v → IsCompiled c f.function
compiled c os f fs r v l a = l.functions f.function a.known

-- What operations write, where the innermost call stands.
pub operations_here : (c : Program) (os : List Object) (f : SlotFrame) (fs : List SlotFrame) (r : Regs) (v : View) (a : IsActive c os f fs r v) (to : ℕ) → may_write (function_in c f.function) f.cells to ≡ true → Operations c.place (function_in c f.function) a.sp r v (pc_in c f) to a.registers a.bytes
operations_here c os f fs r v a to q = operations c.place (function_in c f.function) a.sp r v (pc_in c f) to a.registers a.bytes a.opened (writes_is (function_in c f.function) f.cells to q).room a.pointer a.at

move_done : (to : ℕ) (from : Operand) → IsDone (op.Move to from)
move_done to from c os f fs r v l e a = does_value c r v (operand f.cells from) _ (λ x p. does_if c r v (may_write (function_in c f.function) f.cells to) _ NoCell (λ q.
    let i = compiled c os f fs r v l a in
    let here = is_here c f (op.Move to from) i e in
    let z = is_given c os f fs r v a from x (i.operations f.place (op.Move to from) e) p in
    cell_written c os f fs r v (op.Move to from) a to _ x tt here (writes_is _ f.cells to q) z.means ((operations_here c os f fs r v a to q).moved from z.shown here.stands)))

forge_done : (to from : ℕ) → IsDone (op.Forge to from)
forge_done to from c os f fs r v l e a = does_int c r v (slice_get f.cells from) _ (λ n p. does_if c r v (may_write (function_in c f.function) f.cells to) _ NoCell (λ q.
    let i = compiled c os f fs r v l a in
    let here = is_here c f (op.Forge to from) i e in
    cell_written c os f fs r v (op.Forge to from) a to _ (Forged n) tt here (writes_is _ f.cells to q) (a.cells from (Int n) p) ((operations_here c os f fs r v a to q).moved (Cell from) (cell_room c os f fs r v (pc_in c f) a from (Int n) p) here.stands)))

apply_done : (o : _) (to left : ℕ) (right : Operand) → IsDone (op.Apply o to left right)
apply_done o to left right c os f fs r v l e a = does_int c r v (slice_get f.cells left) _ (λ x p. does_int c r v (operand f.cells right) _ (λ y p2. does_if c r v (may_write (function_in c f.function) f.cells to) _ NoCell (λ q.
    let g = function_in c f.function in
    let i = compiled c os f fs r v l a in
    let here = is_here c f (op.Apply o to left right) i e in
    let z = is_given c os f fs r v a right (Int y) (i.operations f.place (op.Apply o to left right) e) p2 in
    let value : binary o (cell_word g a.sp a.registers a.bytes left) (operand_word g a.sp a.registers a.bytes right) ≡ binary o x y = ap (λ k. binary o k (operand_word g a.sp a.registers a.bytes right)) (a.cells left (Int x) p) ∙ ap (binary o x) z.means in
    cell_written c os f fs r v (op.Apply o to left right) a to _ (Int (binary o x y)) tt here (writes_is _ f.cells to q) value ((operations_here c os f fs r v a to q).applied o left right (cell_room c os f fs r v (pc_in c f) a left (Int x) p) z.shown here.stands))))

change_done : (o : _) (to from : ℕ) → IsDone (op.Change o to from)
change_done o to from c os f fs r v l e a = does_int c r v (slice_get f.cells from) _ (λ x p. does_if c r v (may_write (function_in c f.function) f.cells to) _ NoCell (λ q.
    let i = compiled c os f fs r v l a in
    let here = is_here c f (op.Change o to from) i e in
    cell_written c os f fs r v (op.Change o to from) a to _ (Int (unary o x)) tt here (writes_is _ f.cells to q) (ap (unary o) (a.cells from (Int x) p)) ((operations_here c os f fs r v a to q).changed o from (cell_room c os f fs r v (pc_in c f) a from (Int x) p) here.stands)))

skip_done : (past : ℕ) → IsDone (op.Skip past)
skip_done past c os f fs r v l e a =
    let g = function_in c f.function in
    let i = compiled c os f fs r v l a in
    let here = is_here c f (op.Skip past) i e in
    let to = f.place + 1 + past in
    place_gone c os f fs r v a 2 _ to _ refl (jumps c.place r v (c.links (Function f.function)) (place_of g f.place) (place_of g to) (is_near g) a.registers a.bytes l.place (is_there c f.function to i) here.stands a.at) (few_enough c f (op.Skip past) tt)

back_done : (by : ℕ) → IsDone (op.Back by)
back_done by c os f fs r v l e a =
    let g = function_in c f.function in
    let i = compiled c os f fs r v l a in
    let here = is_here c f (op.Back by) i e in
    let to = f.place - by in
    place_gone c os f fs r v a 2 _ to _ refl (jumps c.place r v (c.links (Function f.function)) (place_of g f.place) (place_of g to) (is_near g) a.registers a.bytes l.place (is_there c f.function to i) here.stands a.at) (few_enough c f (op.Back by) tt)

test_done : (test : _) (left : ℕ) (right : Operand) (past : ℕ) → IsDone (op.SkipUnless test left right past)
test_done test left right past c os f fs r v l e a = does_int c r v (slice_get f.cells left) _ (λ x p. does_int c r v (operand f.cells right) _ (λ y p2.
    let g = function_in c f.function in
    let i = compiled c os f fs r v l a in
    let o = op.SkipUnless test left right past in
    let here = is_here c f o i e in
    let z = is_given c os f fs r v a right (Int y) (i.operations f.place o e) p2 in
    let to = f.place + 1 + past in
    let m = tests c.place g a.sp r v (c.links (Function f.function)) (place_of g f.place) (place_of g to) (is_near g) test left right a.registers a.bytes a.opened a.pointer (cell_room c os f fs r v (pc_in c f) a left (Int x) p) z.shown (is_there c f.function to i) here.stands a.at in
    let same : holds test (cell_word g a.sp a.registers a.bytes left) (operand_word g a.sp a.registers a.bytes right) ≡ holds test x y = ap (λ k. holds test k (operand_word g a.sp a.registers a.bytes right)) (a.cells left (Int x) p) ∙ ap (holds test x) z.means in
    by_test (holds test x y)
    (λ q. rw q (place_gone c os f fs r v a 9 _ (f.place + 1) _ (sym here.next) (m.holding (same ∙ q)) (few_enough c f o tt)))
    (λ q. rw q (place_gone c os f fs r v a 9 _ to _ refl (m.failing (same ∙ q)) (few_enough c f o tt)))))

local_done : (to k : ℕ) → IsDone (op.Local to k)
unfolding array_at
local_done to k c os f fs r v l e a = does_name c r v (slice_get f.arrays k) _ (λ name p. does_if c r v (may_write (function_in c f.function) f.cells to) _ NoCell (λ q.
    let g = function_in c f.function in
    let i = compiled c os f fs r v l a in
    let here = is_here c f (op.Local to k) i e in
    let past = array_past g.arrays (words_end g) k in let holds = a.opened.function.holds in
    let fit = frame_fits c.place g a.sp a.opened in
    let within = slice_get_within f.arrays k name p in
    let is = get_or_from_slice_get f.arrays k name 0 p in
    let own = a.owned.0.arrays k within in
    let zero_is = mul-zero (bytes_of (object_of os name).width) in
    let base_is : a.base name ≡ a.sp + array_at g k = ap a.base (sym is) ∙ own.1 in
    let means : Means c a.base os (Pointer name 0) (a.sp + array_at g k) = (subst (λ y. y < length os) is own.0, omega (arith, zero_is, base_is, fit, past, holds)) in
    cell_written c os f fs r v (op.Local to k) a to _ (Pointer name 0) tt here (writes_is _ f.cells to q) means ((operations_here c os f fs r v a to q).local k (omega (arith, fit, past, holds)) here.stands)))

static_done : (to : ℕ) (o : _) → IsDone (op.Static to o)
static_done to o c os f fs r v l e a = does_if c r v (may_write (function_in c f.function) f.cells to) _ NoCell (λ q.
    let i = compiled c os f fs r v l a in
    let here = is_here c f (op.Static to o) i e in
    let placed = i.operations f.place (op.Static to o) e in
    let x = c.links (target_of o) in
    let is = placed.1 in
    let small = l.objects o.name placed.0 in
    let st = a.shown.statics o.name placed.0 in
    let base_is = st.1 in
    let zero_is = mul-zero (bytes_of (object_of os o.name).width) in
    let means : Means c a.base os (Pointer o.name 0) x = (st.0, omega (arith, zero_is, base_is, small, is)) in
    cell_written c os f fs r v (op.Static to o) a to x (Pointer o.name 0) tt here (writes_is _ f.cells to q) means ((operations_here c os f fs r v a to q).address x (omega (arith, is, small)) here.stands))

entry_done : (to h : ℕ) → IsDone (op.Entry to h)
entry_done to h c os f fs r v l e a = does_if c r v (may_write (function_in c f.function) f.cells to) _ NoCell (λ q.
    let i = compiled c os f fs r v l a in
    let here = is_here c f (op.Entry to h) i e in
    let fit = (l.functions h (i.operations f.place (op.Entry to h) e)).stands.1 in
    cell_written c os f fs r v (op.Entry to h) a to (c.links (Function h)) (Entry h) tt here (writes_is _ f.cells to q) refl ((operations_here c os f fs r v a to q).address (c.links (Function h)) (omega (arith, fit)) here.stands))

index_done : (to base : ℕ) (index : Operand) (w : _) → IsDone (op.Index to base index w)
index_done to base index w c os f fs r v l e a = does_int c r v (operand f.cells index) _ (λ n p. does_value c r v (slice_get f.cells base) _ (λ x p2. does_moved c r v (moved os w x n) _ (λ y p3. does_if c r v (may_write (function_in c f.function) f.cells to) _ NoCell (λ q.
    let g = function_in c f.function in
    let i = compiled c os f fs r v l a in
    let o = op.Index to base index w in
    let here = is_here c f o i e in
    let z = is_given c os f fs r v a index (Int n) (i.operations f.place o e) p in
    let means = subst (λ k. Means c a.base os y ((cell_word g a.sp a.registers a.bytes base + bytes_of w * k) % 2 ^ 32)) (sym z.means) (moved_means c a.base os w x n y (cell_word g a.sp a.registers a.bytes base) p3 (a.cells base x p2)) in
    cell_written c os f fs r v o a to _ y tt here (writes_is _ f.cells to q) means ((operations_here c os f fs r v a to q).indexed base index w (cell_room c os f fs r v (pc_in c f) a base x p2) z.shown here.stands)))))

pub done : OperationsOnCellsAreDone
done (op.Move to from) p = move_done to from
done (op.Forge to from) p = forge_done to from
done (op.Apply o to left right) p = apply_done o to left right
done (op.Change o to from) p = change_done o to from
done (op.SkipUnless test left right past) p = test_done test left right past
done (op.Skip past) p = skip_done past
done (op.Back by) p = back_done by
done (op.Local to k) p = local_done to k
done (op.Static to o) p = static_done to o
done (op.Entry to h) p = entry_done to h
done (op.Index to base index w) p = index_done to base index w
done (op.Ask number first count) p = absurd p
done (op.Go function first count) p = absurd p
done (op.Give value) p = absurd p
done (op.Make k) p = absurd p
done (op.Fetch to o) p = absurd p
done (op.Keep o from) p = absurd p
done (op.Load to place w) p = absurd p
done (op.Store place value w) p = absurd p

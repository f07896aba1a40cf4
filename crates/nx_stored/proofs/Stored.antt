-- Operations on objects, as slot code makes them.
use Rattle.std.proofs.Common.{◌≡◌, ℕ, ◌+◌, ◌*◌, ◌/◌, ◌<◌, List, [], ◌∷◌, ◌++◌, length, Option, Some, None, refl, arith}
use Rattle.std.specs.Prelude.{slice_get, ◌==◌}
use Rattle.std.proofs.lemmas.Bool.Decides.{nat_tests}
use Rattle.std.proofs.Math.Nat.{mul-zero}
use Rattle.nx_base.specs.declared.regs.Regs.{Regs}
use Rattle.nx_base.specs.Views.{View}
use Rattle.nx_slot.specs.declared.op.Width.{Width}
use Rattle.nx_slot.specs.declared.op.Width.TheVariants.{Word}
use Rattle.nx_slot.specs.declared.op.StaticObject.{StaticObject}
use Rattle.nx_slot.specs.declared.op.SlotOp.TheVariants as op
use Rattle.nx_slot.specs.declared.program.SlotArray.{SlotArray}
use Rattle.nx_slot.specs.Objects.{Int, Pointer, Object, object_of, bytes_of, has_element, element}
use Rattle.nx_slot.specs.Costs.{words_of}
use Rattle.nx_slot.specs.Meaning.{SlotFrame, NoCell, NoFit, Outside, may_write, made}
use Rattle.nx_codegen.specs.Addresses.{target_of}
use Rattle.nx_pieces.specs.Cells.{cell_word}
use Rattle.nx_operations.specs.Accesses.{Accesses}
use Rattle.nx_operations.proofs.Accesses.{accesses}
use Rattle.nx_linked.specs.Linked.{Program, IsLinked}
use Rattle.nx_linked.specs.Meant.{Means}
use Rattle.nx_linked.specs.Standing.{function_in, IsActive}
use Rattle.nx_linked.specs.Doing.{Went, Does}
use Rattle.nx_acted.specs.Laws.{IsDone}
use Rattle.nx_acted.proofs.Cells.{writes_is}
use Rattle.nx_acted.proofs.Peeling.{does_if, does_unless, does_int, does_element}
use Rattle.nx_acted.proofs.Written.{pc_in, is_here, cell_room, cell_written}
use Rattle.nx_acted.proofs.Acts.{compiled}
use Rattle.nx_stored.specs.Laws.{OperationsOnObjectsAreDone}
use Rattle.nx_stored.proofs.Elements.{element_at, element_read, element_write, element_is}
use Rattle.nx_stored.proofs.Storing.{element_stored}
use Rattle.nx_stored.proofs.Making.{zeroed, made_done}

accesses_here : (c : Program) (os : List Object) (f : SlotFrame) (fs : List SlotFrame) (r : Regs) (v : View) (a : IsActive c os f fs r v) → Accesses c.place (function_in c f.function) a.sp r v (pc_in c f) a.registers a.bytes
accesses_here c os f fs r v a = accesses c.place (function_in c f.function) a.sp r v (pc_in c f) a.registers a.bytes a.opened a.pointer a.at

load_done : (to at : ℕ) (w : Width) → IsDone (op.Load to at w)
load_done to at w c os f fs r v l e a = does_element c r v os w (slice_get f.cells at) _ (λ o p q hp. does_if c r v (may_write (function_in c f.function) f.cells to) _ NoCell (λ u.
    let g = function_in c f.function in
    let i = compiled c os f fs r v l a in
    let here = is_here c f (op.Load to at w) i e in
    let n = cell_word g a.sp a.registers a.bytes at in
    let h = writes_is g f.cells to u in
    let el = element_at c a.base os a.bytes w o p n l.place a.shown hp (a.cells at (Pointer o p) q) in
    cell_written c os f fs r v (op.Load to at w) a to _ (Int (element w (object_of os o) p)) tt here h (element_is c a.base os a.bytes w o p n a.shown el)
    ((accesses_here c os f fs r v a).loaded to at n w h.room (cell_room c os f fs r v (pc_in c f) a at (Pointer o p) q) refl el.aligned (element_read c a.base os w o p n el) here.stands)))

store_done : (at from : ℕ) (w : Width) → IsDone (op.Store at from w)
store_done at from w c os f fs r v l e a = does_element c r v os w (slice_get f.cells at) _ (λ o p q hp. does_int c r v (slice_get f.cells from) _ (λ n q2. does_unless c r v (object_of os o).fixed _ Outside (λ fixed.
    let g = function_in c f.function in
    let i = compiled c os f fs r v l a in
    let here = is_here c f (op.Store at from w) i e in
    let k = cell_word g a.sp a.registers a.bytes at in
    let el = element_at c a.base os a.bytes w o p k l.place a.shown hp (a.cells at (Pointer o p) q) in
    element_stored c os f fs r v (op.Store at from w) from w o p n k tt here a q2 el
    ((accesses_here c os f fs r v a).stored at from k w (cell_room c os f fs r v (pc_in c f) a at (Pointer o p) q) (cell_room c os f fs r v (pc_in c f) a from (Int n) q2) refl el.aligned (element_write c a.base os w o p k fixed el) here.stands))))

-- A global number is an object of one element.
static_means : (c : Program) (os : List Object) (f : SlotFrame) (fs : List SlotFrame) (r : Regs) (v : View) (o : StaticObject) → IsLinked c → (o.name < c.statics) × (c.links (target_of o) ≡ c.address o.name) → (a : IsActive c os f fs r v) → Means c a.base os (Pointer o.name 0) (c.links (target_of o))
static_means c os f fs r v o l placed a =
    let small = l.objects o.name placed.0 in
    let st = a.shown.statics o.name placed.0 in
    let base_is = st.1 in
    let is = placed.1 in
    let zero_is = mul-zero (bytes_of (object_of os o.name).width) in
    (st.0, omega (arith, zero_is, base_is, small, is))

fetch_done : (to : ℕ) (o : StaticObject) → IsDone (op.Fetch to o)
fetch_done to o c os f fs r v l e a = does_if c r v (has_element (object_of os o.name) Word 0) _ Outside (λ hp. does_if c r v (may_write (function_in c f.function) f.cells to) _ NoCell (λ u.
    let g = function_in c f.function in
    let i = compiled c os f fs r v l a in
    let here = is_here c f (op.Fetch to o) i e in
    let placed = i.operations f.place (op.Fetch to o) e in
    let n = c.links (target_of o) in
    let h = writes_is g f.cells to u in
    let small = l.objects o.name placed.0 in let is = placed.1 in
    let el = element_at c a.base os a.bytes Word o.name 0 n l.place a.shown hp (static_means c os f fs r v o l placed a) in
    cell_written c os f fs r v (op.Fetch to o) a to _ (Int (element Word (object_of os o.name) 0)) tt here h (element_is c a.base os a.bytes Word o.name 0 n a.shown el)
    ((accesses_here c os f fs r v a).fetched to n h.room (omega (arith, is, small)) el.aligned (element_read c a.base os Word o.name 0 n el) here.stands)))

keep_done : (o : StaticObject) (from : ℕ) → IsDone (op.Keep o from)
keep_done o from c os f fs r v l e a = does_if c r v (has_element (object_of os o.name) Word 0) _ Outside (λ hp. does_int c r v (slice_get f.cells from) _ (λ n q2. does_unless c r v (object_of os o.name).fixed _ Outside (λ fixed.
    let i = compiled c os f fs r v l a in
    let here = is_here c f (op.Keep o from) i e in
    let placed = i.operations f.place (op.Keep o from) e in
    let k = c.links (target_of o) in
    let small = l.objects o.name placed.0 in let is = placed.1 in
    let el = element_at c a.base os a.bytes Word o.name 0 k l.place a.shown hp (static_means c os f fs r v o l placed a) in
    element_stored c os f fs r v (op.Keep o from) from Word o.name 0 n k tt here a q2 el
    ((accesses_here c os f fs r v a).kept from k (cell_room c os f fs r v (pc_in c f) a from (Int n) q2) (omega (arith, is, small)) el.aligned (element_write c a.base os Word o.name 0 k fixed el) here.stands))))

does_made : (c : Program) (os : List Object) (f : SlotFrame) (fs : List SlotFrame) (r : Regs) (v : View) (k : ℕ) (x : Option SlotArray)
    → ((y : SlotArray) → x ≡ Some y → k ≡ length f.arrays → Went c (3 * ((y.bytes + 3) / 4) + 6) r v (os ++ zeroed y ∷ []) (record f { place = f.place + 1; arrays = f.arrays ++ length os ∷ [] }) fs) → Does c r v (made fs os f (3 * words_of x + 6) k x)
does_made c os f fs r v k None h = tt
does_made c os f fs r v k (Some y) h = does_if c r v (k == length f.arrays) _ NoFit (λ q. h y refl (grind (arith, nat_tests)))

make_done : (k : ℕ) → IsDone (op.Make k)
make_done k c os f fs r v l e a =
    let i = compiled c os f fs r v l a in
    let here = is_here c f (op.Make k) i e in
    does_made c os f fs r v k (slice_get (function_in c f.function).arrays k) (λ y q p. made_done c os f fs r v k y i here a q p)

pub done : OperationsOnObjectsAreDone
done (op.Make k) p = make_done k
done (op.Fetch to o) p = fetch_done to o
done (op.Keep o from) p = keep_done o from
done (op.Load to place w) p = load_done to place w
done (op.Store place value w) p = store_done place value w
done (op.Move to from) p = absurd p
done (op.Forge to from) p = absurd p
done (op.Apply o to left right) p = absurd p
done (op.Change o to from) p = absurd p
done (op.SkipUnless test left right past) p = absurd p
done (op.Skip past) p = absurd p
done (op.Back by) p = absurd p
done (op.Ask number first count) p = absurd p
done (op.Go function first count) p = absurd p
done (op.Give value) p = absurd p
done (op.Local to k) p = absurd p
done (op.Static to o) p = absurd p
done (op.Entry to h) p = absurd p
done (op.Index to base index w) p = absurd p

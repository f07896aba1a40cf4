-- A cell is written, or only the place changes.
use Rattle.std.proofs.Common.{◌≡◌, ℕ, suc, ◌+◌, ◌*◌, ◌<◌, ◌≤◌, ◌⊎◌, inl, inr, List, length, Some, sym, ap, ◌∙◌, subst, arith, ⊎_elim}
use Rattle.std.specs.Prelude.{slice_get}
use Rattle.std.proofs.lemmas.Bool.{cases_lt}
use Rattle.std.proofs.lemmas.Option.{slice_get_within}
use Rattle.nx_base.specs.declared.regs.Regs.{Regs}
use Rattle.nx_base.specs.Views.{View}
use Rattle.nx_rv.specs.declared.inst.Inst.{Inst}
use Rattle.nx_slot.specs.declared.op.SlotOp.{SlotOp}
use Rattle.nx_slot.specs.Objects.{Value, Object}
use Rattle.nx_slot.specs.Costs.{cost_of}
use Rattle.nx_slot.specs.Meaning.{SlotFrame, put, jumped}
use Rattle.nx_codegen.specs.declared.output.Target.TheVariants.{Function}
use Rattle.nx_codegen.specs.Cells.{IsCell}
use Rattle.nx_codegen.specs.Frames.{words_end}
use Rattle.nx_codegen.specs.Code.{is_near, place_of}
use Rattle.nx_shown.specs.Bytes.{number_at}
use Rattle.nx_shown.specs.Leading.{At}
use Rattle.nx_shown.proofs.Stores.{same_number}
use Rattle.nx_pieces.specs.Parts.{IsCode}
use Rattle.nx_pieces.specs.Cells.{cell_word, Wrote}
use Rattle.nx_pieces.proofs.Cells.{words_fit}
use Rattle.nx_places.specs.Laws.{code_at, IsPlain}
use Rattle.nx_places.proofs.Standing.{stand, follow, lie}
use Rattle.nx_places.proofs.Costs.{suffice}
use Rattle.nx_places.proofs.There.{are_there}
use Rattle.nx_operations.specs.Jumps.{Leads, IsThere}
use Rattle.nx_operations.proofs.Operations.{same_cell}
use Rattle.nx_linked.specs.Linked.{Program, IsCompiled}
use Rattle.nx_linked.specs.Meant.{IsIn, Means, IsWord}
use Rattle.nx_linked.specs.Standing.{function_in, address_of, AreBelow, Rests, IsActive}
use Rattle.nx_linked.specs.Doing.{Went}
use Rattle.nx_linked.proofs.Arrays.{words_four}
use Rattle.nx_linked.proofs.Staying.{extends_same, words_above, below_kept, shown_same, not_words}
use Rattle.nx_acted.proofs.Cells.{put_get, put_length, Writes}

-- The instructions of an operation that a call stands at.
abbrev pub code_in : Program → SlotFrame → SlotOp → List Inst
code_in c f o = code_at c.links (function_in c f.function) f.place o

abbrev pub pc_in : Program → SlotFrame → ℕ
pc_in c f = address_of c f.function f.place

pub record IsHere (c : Program) (f : SlotFrame) (o : SlotOp) : Type 0 where
  pub stands : IsCode c.place (pc_in c f) (code_in c f o)
  pub next : address_of c f.function (f.place + 1) ≡ pc_in c f + 4 * length (code_in c f o)

pub is_here : (c : Program) (f : SlotFrame) (o : SlotOp) → IsCompiled c f.function → slice_get (function_in c f.function).ops f.place ≡ Some o → IsHere c f o
is_here c f o i e =
    let g = function_in c f.function in
    let n = follow c.links g f.place o e in
    let q : f.place + 1 ≡ suc f.place = omega arith in
    let w = ap (place_of g) q in
    record {
      stands = stand c.place c.links g (c.links (Function f.function)) f.place o i.stands e;
      next = omega (arith, n, w);
    }

-- Each place of a function can be jumped to.
pub is_there : (c : Program) (f at : ℕ) → IsCompiled c f → IsThere (c.links (Function f)) (place_of (function_in c f) at)
is_there c f at i = let h = lie c.place c.links (function_in c f) (c.links (Function f)) at i.stands i.aligned in record { aligned = h.0; below = h.1 }

pub few_enough : (c : Program) (f : SlotFrame) (o : SlotOp) → IsPlain o → length (code_in c f o) ≤ cost_of (function_in c f.function) o
few_enough c f o p = let g = function_in c f.function in suffice c.links (is_near g) g (place_of g) (place_of g f.place) f.place o p

pub one_or_more : (c : Program) (f : SlotFrame) (o : SlotOp) → IsPlain o → 1 ≤ length (code_in c f o)
one_or_more c f o p = let g = function_in c f.function in are_there c.links (is_near g) g (place_of g) (place_of g f.place) f.place o p

-- A cell that there is lies in the frame.
pub cell_room : (c : Program) (os : List Object) (f : SlotFrame) (fs : List SlotFrame) (r : Regs) (v : View) (pc : ℕ) (a : Rests c os f fs r v pc) (i : ℕ) (x : Value) → slice_get f.cells i ≡ Some x → IsCell (function_in c f.function) i
cell_room c os f fs r v pc a i x e = let z = slice_get_within f.cells i x e in let y = a.few in omega (arith, z, y)

-- A cell is written, and the call then stands at another place.
pub cell_taken : (c : Program) (os : List Object) (f : SlotFrame) (fs : List SlotFrame) (r : Regs) (v : View) (pc : ℕ) (code : List Inst) (a : Rests c os f fs r v pc) (place to w n : ℕ) (x : Value) → Writes (function_in c f.function) f.cells to → Means c a.base os x w → address_of c f.function place ≡ pc + 4 * length code
    → Wrote c.place (function_in c f.function) a.sp code r v pc to w a.registers a.bytes → length code ≤ n → 1 ≤ length code → Went c n r v os (record f { place = place; cells = put f.cells to x }) fs
cell_taken c os f fs r v pc code a place to w n x has means next m few some =
    let g = function_in c f.function in
    let we = words_fit c.place g a.sp a.opened in
    let wf = words_four g in
    let ra : number_at m.bytes a.sp 4 ≡ number_at a.bytes a.sp 4 = same_number m.bytes a.bytes a.sp 4 (λ k p q. m.rest k (inl q)) in
    let off : (k : ℕ) → IsWord c fs (a.sp + g.frame) k → m.bytes k ≡ a.bytes k = λ k p. let z = words_above c fs (a.sp + g.frame) k p in m.rest k (inr (omega (arith, z, we))) in
    record {
      regs = m.next.regs;
      view = m.next.view;
      count = length code;
      leads = m.next.leads;
      few = few;
      some = some;
      only = m.next.only;
      active = record {
        base = a.base;
        sp = a.sp;
        registers = m.new;
        bytes = m.bytes;
        known = a.known;
        opened = a.opened;
        at = subst (λ p. At c.place m.next.regs m.next.view p m.new m.bytes) (sym next) m.next.at;
        pointer = m.fixed 2 (omega arith) (omega arith) ∙ a.pointer;
        top = m.fixed 3 (omega arith) (omega arith) ∙ a.top;
        low = m.fixed 4 (omega arith) (omega arith) ∙ a.low;
        cells = λ i y e. ⊎_elim
            (λ q. subst (λ i. Means c a.base os y (cell_word g a.sp m.new m.bytes i)) (sym q.0) (subst (λ y. Means c a.base os y (cell_word g a.sp m.new m.bytes to)) (sym q.1) (subst (λ k. Means c a.base os x k) (sym m.is) means)))
            (λ q. subst (λ k. Means c a.base os y k) (sym (m.others i (cell_room c os f fs r v pc a i y q.1) q.0)) (a.cells i y q.1))
            (put_get f.cells to x i y has.next e);
        few = put_length f.cells to x (g.locals + g.temporaries) a.few has.room;
        below = subst (λ k. AreBelow c a.base os fs (a.sp + g.frame) k m.bytes) (sym ra) (below_kept c a.base os a.base os fs (a.sp + g.frame) (number_at a.bytes a.sp 4) a.bytes m.bytes (extends_same a.base os) off a.below);
        shown = shown_same c a.base os a.bytes m.bytes (λ q k i. m.rest k (out q k i)) a.shown;
        owned = a.owned;
        under = a.under;
      };
    }
  where
    out : (q k : ℕ) → IsIn a.base os q k → (k < a.sp + 4) ⊎ (a.sp + words_end (function_in c f.function) ≤ k)
    out q k i = ⊎_elim
        (λ l. inl (omega (arith, l)))
        (λ l. ⊎_elim (λ p. absurd (not_words c (function_in c f.function) a.base os f.arrays a.sp q k a.opened a.owned.0 i l p)) (λ p. inr p) (cases_lt k (a.sp + words_end (function_in c f.function))))
        (cases_lt k a.sp)

-- An operation writes a cell.
pub cell_written : (c : Program) (os : List Object) (f : SlotFrame) (fs : List SlotFrame) (r : Regs) (v : View) (o : SlotOp) (a : IsActive c os f fs r v) (to w : ℕ) (x : Value) → IsPlain o → IsHere c f o → Writes (function_in c f.function) f.cells to → Means c a.base os x w
    → Wrote c.place (function_in c f.function) a.sp (code_in c f o) r v (pc_in c f) to w a.registers a.bytes → Went c (cost_of (function_in c f.function) o) r v os (record f { place = f.place + 1; cells = put f.cells to x }) fs
cell_written c os f fs r v o a to w x p here has means m =
    cell_taken c os f fs r v (pc_in c f) (code_in c f o) a (f.place + 1) to w (cost_of (function_in c f.function) o) x has means here.next m (few_enough c f o p) (one_or_more c f o p)

-- Nothing but the place and spare registers changes.
pub place_gone : (c : Program) (os : List Object) (f : SlotFrame) (fs : List SlotFrame) (r : Regs) (v : View) (a : IsActive c os f fs r v) (n most at to : ℕ) → to ≡ address_of c f.function at → Leads c.place most r v to a.registers a.bytes → most ≤ n → Went c n r v os (jumped f at) fs
place_gone c os f fs r v a n most at to is m low =
    let g = function_in c f.function in
    let few = m.few in
    record {
      regs = m.next.regs;
      view = m.next.view;
      count = m.count;
      leads = m.next.leads;
      few = omega (arith, few, low);
      some = m.some;
      only = m.next.only;
      active = record {
        base = a.base;
        sp = a.sp;
        registers = m.new;
        bytes = a.bytes;
        known = a.known;
        opened = a.opened;
        at = subst (λ p. At c.place m.next.regs m.next.view p m.new a.bytes) is m.next.at;
        pointer = m.keeps.fixed 2 (omega arith) (omega arith) ∙ a.pointer;
        top = m.keeps.fixed 3 (omega arith) (omega arith) ∙ a.top;
        low = m.keeps.fixed 4 (omega arith) (omega arith) ∙ a.low;
        cells = λ i y e. subst (λ k. Means c a.base os y k) (sym (same_cell g a.sp a.registers m.new a.bytes i m.keeps)) (a.cells i y e);
        few = a.few;
        below = a.below;
        shown = a.shown;
        owned = a.owned;
        under = a.under;
      };
    }

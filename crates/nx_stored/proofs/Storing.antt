-- An element is written: the object's bytes change, and nothing else.
use Rattle.std.proofs.Common.{◌≡◌, ◌≢◌, ℕ, ◌+◌, ◌*◌, ◌<◌, ◌≤◌, ◌⊎◌, inl, inr, List, ◌∷◌, length, Some, refl, sym, ap, ◌∙◌, subst, arith, ⊎_elim}
use Rattle.std.specs.Prelude.{slice_get, slice_set, slice_index}
use Rattle.std.proofs.lemmas.Bool.{cases_eq, cases_lt}
use Rattle.std.proofs.lemmas.List.{length-set}
use Rattle.nx_base.specs.declared.regs.Regs.{Regs}
use Rattle.nx_base.specs.Views.{View}
use Rattle.nx_slot.specs.declared.op.Width.{Width}
use Rattle.nx_slot.specs.declared.op.SlotOp.{SlotOp}
use Rattle.nx_slot.specs.Objects.{Int, Object, object_of, bytes_of, with_element}
use Rattle.nx_slot.specs.Costs.{cost_of}
use Rattle.nx_slot.specs.Meaning.{SlotFrame, next}
use Rattle.nx_shown.specs.Bytes.{number_at, with_number}
use Rattle.nx_shown.specs.Leading.{At}
use Rattle.nx_shown.proofs.Stores.{same_number, other_byte}
use Rattle.nx_pieces.specs.Cells.{cell_word}
use Rattle.nx_places.specs.Laws.{IsPlain}
use Rattle.nx_operations.specs.Accesses.{Puts}
use Rattle.nx_linked.specs.Linked.{Program}
use Rattle.nx_linked.specs.Meant.{size_of, IsIn, Means, HasForm, IsWord}
use Rattle.nx_linked.specs.Standing.{function_in, AreBelow, IsActive}
use Rattle.nx_linked.specs.Doing.{Went}
use Rattle.nx_linked.specs.Laws.{Extends}
use Rattle.nx_linked.proofs.Arrays.{words_four}
use Rattle.nx_linked.proofs.Objects.{set_object, set_object_other}
use Rattle.nx_linked.proofs.Staying.{means_kept, below_kept, owned_kept, open_all, off_words}
use Rattle.nx_acted.proofs.Written.{code_in, pc_in, IsHere, few_enough, one_or_more, cell_room}
use Rattle.nx_stored.proofs.Elements.{Element, one_byte, Alike, changed_alike, lives_alike, written_byte, cells_stay}

-- All objects have kept their sizes, widths and kinds.
pub alike_all : (os : List Object) (o : ℕ) (x : Object) → o < length os → Alike (object_of os o) x → (q : ℕ) → Alike (object_of os q) (object_of (slice_set os o x) q)
alike_all os o x h a q = ⊎_elim
    (λ y. subst (λ k. Alike (object_of os k) (object_of (slice_set os o x) k)) (sym y) (subst (λ k. Alike (object_of os o) k) (sym (set_object os o x h)) a))
    (λ y. subst (λ k. Alike (object_of os q) k) (sym (set_object_other os o q x y)) (record { size = refl; width = refl; fixed = refl }))
    (cases_eq q o)

pub form_alike : (x y : Object) (f : _) → Alike x y → HasForm f x → HasForm f y
form_alike x y f a h = record { bytes = a.size ∙ h.bytes; width = a.width ∙ h.width; fixed = a.fixed ∙ h.fixed }

pub element_stored : (c : Program) (os : List Object) (f : SlotFrame) (fs : List SlotFrame) (r : Regs) (v : View) (op : SlotOp) (from : ℕ) (w : Width) (o p n at : ℕ) → IsPlain op → IsHere c f op → (a : IsActive c os f fs r v) → slice_get f.cells from ≡ Some (Int n) → Element c a.base os w o p at
    → Puts c.place (code_in c f op) r v (pc_in c f) at (bytes_of w) (cell_word (function_in c f.function) a.sp a.registers a.bytes from) a.registers a.bytes
    → Went c (cost_of (function_in c f.function) op) r v (slice_set os o (with_element w (object_of os o) p n)) (next f) fs
element_stored c os f fs r v op from w o p n at plain here a e el m =
    let g = function_in c f.function in
    let x = object_of os o in let x' = with_element w x p n in
    let os' = slice_set os o x' in
    let size = bytes_of w in
    let some = one_byte w in
    let sm = el.small in let wa = el.at in let within = el.within in let known = el.known in
    let word = cell_word g a.sp a.registers a.bytes from in
    let d = with_number a.bytes at size word in
    let value = a.cells from (Int n) e in
    let alike = alike_all os o x' known (changed_alike w x p n within) in
    let one : object_of os' o ≡ x' = set_object os o x' known in
    let l0 = length-set os o x' in
    let back : (q k : ℕ) → IsIn a.base os' q k → IsIn a.base os q k = λ q k i. (i.0, subst (λ y. k < a.base q + y) (alike q).size i.1) in
    let mine : (k : ℕ) → at ≤ k → k < at + size → IsIn a.base os o k = λ k i j. (omega (arith, i, wa), omega (arith, j, wa, within)) in
    let apart : (q k : ℕ) → q ≢ o → IsIn a.base os q k → (k < at) ⊎ (at + size ≤ k) = λ q k y i. ⊎_elim (λ z. inl z) (λ z. ⊎_elim (λ u. absurd (y (a.shown.apart q o k i (mine k z u)))) (λ u. inr u) (cases_lt k (at + size))) (cases_lt k at) in
    let ext : Extends a.base os a.base os' = record { more = omega (arith, l0); bases = λ q h. refl; widths = λ q h. (alike q).width } in
    let all = open_all c a.base os fs (a.sp + g.frame) (number_at a.bytes a.sp 4) a.bytes a.below in
    let clear : (k : ℕ) → IsWord c (f ∷ fs) a.sp k → d k ≡ a.bytes k = λ k y. other_byte a.bytes at size word k
    (⊎_elim (λ z. inl z) (λ z. ⊎_elim (λ u. absurd (off_words c a.base os (f ∷ fs) a.sp o k (a.opened, all) a.owned (mine k z u) y)) (λ u. inr u) (cases_lt k (at + size))) (cases_lt k at)) in
    let four = words_four g in
    let ra : number_at d a.sp 4 ≡ number_at a.bytes a.sp 4 = same_number d a.bytes a.sp 4 (λ k y z. clear k (inl (y, omega (arith, z, four)))) in
    record {
      regs = m.next.regs;
      view = m.next.view;
      count = length (code_in c f op);
      leads = m.next.leads;
      few = few_enough c f op plain;
      some = one_or_more c f op plain;
      only = m.next.only;
      active = record {
        base = a.base;
        sp = a.sp;
        registers = m.new;
        bytes = d;
        known = a.known;
        opened = a.opened;
        at = subst (λ k. At c.place m.next.regs m.next.view k m.new d) (sym here.next) m.next.at;
        pointer = m.keeps.fixed 2 (omega arith) (omega arith) ∙ a.pointer;
        top = m.keeps.fixed 3 (omega arith) (omega arith) ∙ a.top;
        low = m.keeps.fixed 4 (omega arith) (omega arith) ∙ a.low;
        cells = λ i y q. let h = cell_room c os f fs r v (pc_in c f) a i y q in
            subst (λ k. Means c a.base os' y k) (sym (cells_stay g a.sp a.registers m.new a.bytes d i h m.keeps.temporaries (λ k z u. clear k (inl (z, u))))) (means_kept c a.base os a.base os' y _ ext (a.cells i y q));
        few = a.few;
        below = subst (λ k. AreBelow c a.base os' fs (a.sp + g.frame) k d) (sym ra) (below_kept c a.base os a.base os' fs (a.sp + g.frame) (number_at a.bytes a.sp 4) a.bytes d ext (λ k y. clear k (inr y)) a.below);
        shown = record {
          bytes = λ q i h. ⊎_elim
              (λ y. subst (λ k. i < size_of os' k → d (a.base k + i) ≡ slice_index (object_of os' k).bytes i) (sym y) (λ h'.
              let i_in : i < size_of os o = subst (λ k. i < k) (alike o).size h' in
              ap (λ k. with_number a.bytes k size word (a.base o + i)) wa
              ∙ ap (λ k. with_number a.bytes (a.base o + size * p) size k (a.base o + i)) value
              ∙ written_byte w x (a.base o) a.bytes p n i within (a.shown.bytes o i i_in)
              ∙ ap (λ (k : Object). slice_index k.bytes i) (sym one)) h)
              (λ y. let h' : i < size_of os q = subst (λ k. i < k) (alike q).size h in other_byte a.bytes at size word (a.base q + i) (apart q (a.base q + i) y (omega arith, omega (arith, h'))) ∙ a.shown.bytes q i h' ∙ ap (λ (k : Object). slice_index k.bytes i) (sym (set_object_other os o q x' y)))
              (cases_eq q o);
          aligned = λ q h. a.shown.aligned q (sym (alike q).width ∙ h);
          lives = λ q h. lives_alike c.place (a.base q) (object_of os q) (object_of os' q) (alike q) (a.shown.lives q (subst (λ k. 1 ≤ k) (alike q).size h));
          apart = λ q t k i j. a.shown.apart q t k (back q k i) (back t k j);
          own = λ q h k. let y = a.shown.own q h (subst (λ n. 1 ≤ n) (alike q).size k) in (y.0, subst (λ n. a.base q + n ≤ c.place.top) (sym (alike q).size) y.1);
          statics = λ q h. let y = a.shown.statics q h in let y0 = y.0 in (omega (arith, y0, l0), y.1);
          forms = λ q h. form_alike (object_of os q) (object_of os' q) (c.forms q) (alike q) (a.shown.forms q h);
        };
        owned = owned_kept c a.base os a.base os' (f ∷ fs) a.sp ext (λ q k i y z. back q k i) (let t = a.opened.top in omega (arith, t)) (a.opened, all) a.owned;
        under = λ q k i y z. a.under q k (back q k i) y z;
      };
    }

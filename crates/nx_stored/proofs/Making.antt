-- An object is made: it lies where no other does.
use Rattle.std.proofs.Common.{◌≡◌, ◌≢◌, ℕ, zero, suc, ◌+◌, ◌*◌, ◌/◌, ◌%◌, ◌<◌, ◌≤◌, ◌⊎◌, inl, inr, false, List, [], ◌∷◌, ◌++◌, length, Some, refl, sym, ap, ◌∙◌, subst, arith, ⊎_elim, length-append}
use Rattle.std.specs.Prelude.{slice_get, slice_index, get_or, replicate}
use Rattle.std.proofs.lemmas.Bool.{cases_eq, cases_lt}
use Rattle.std.proofs.lemmas.List.{get_or_append_left, get_or_at, get_or-replicate, length-replicate}
use Rattle.nx_base.specs.declared.regs.Regs.{Regs}
use Rattle.nx_base.specs.Views.{View}
use Rattle.nx_slot.specs.declared.op.Width.TheVariants.{Byte, Word}
use Rattle.nx_slot.specs.declared.op.SlotOp.TheVariants as op
use Rattle.nx_slot.specs.declared.program.SlotArray.{SlotArray}
use Rattle.nx_slot.specs.Objects.{Object, object_of}
use Rattle.nx_slot.specs.Meaning.{SlotFrame}
use Rattle.nx_codegen.specs.Frames.{words_end, rounded, array_from, array_at}
use Rattle.nx_codegen.specs.Calling.{clear_code}
use Rattle.nx_shown.specs.Bytes.{number_at, put}
use Rattle.nx_shown.specs.Leading.{At}
use Rattle.nx_shown.proofs.Stores.{put_same, put_other, same_number}
use Rattle.nx_pieces.specs.Parts.{IsCode}
use Rattle.nx_clearing.proofs.Clearing.{cleared}
use Rattle.nx_linked.specs.Linked.{Program, IsCompiled}
use Rattle.nx_linked.specs.Meant.{size_of, IsIn, Means, LivesAt, HasForm, IsWord}
use Rattle.nx_linked.specs.Standing.{function_in, AreBelow, IsActive}
use Rattle.nx_linked.specs.Doing.{Went}
use Rattle.nx_linked.specs.Laws.{Extends}
use Rattle.nx_linked.proofs.Arrays.{arrays_up, array_next, array_order, array_past, array_aligned, array_some, words_four, words_aligned}
use Rattle.nx_linked.proofs.Objects.{more_object_old, more_object_new, more_object_past}
use Rattle.nx_linked.proofs.Staying.{means_kept, words_above, below_kept, owned_kept, open_all}
use Rattle.nx_acted.proofs.Written.{code_in, pc_in, IsHere, cell_room}
use Rattle.nx_stored.proofs.Elements.{cells_stay}

rounded_covers : (n : ℕ) → (n ≤ 4 * ((n + 3) / 4)) × (rounded n ≡ 4 * ((n + 3) / 4))
unfolding rounded
rounded_covers n = (omega arith, omega arith)

statics_few : (n m : ℕ) → ((o : ℕ) → o < n → o < m) → n ≤ m
statics_few zero m h = omega arith
statics_few (suc n) m h = let z = h n (omega arith) in omega (arith, z)

abbrev pub zeroed : SlotArray → Object
zeroed x = record { bytes = replicate x.bytes 0; width = x.width; fixed = false }

byte_or_word : Byte ≡ Word → ⊥
byte_or_word e = absurd cc

pub made_done : (c : Program) (os : List Object) (f : SlotFrame) (fs : List SlotFrame) (r : Regs) (v : View) (k : ℕ) (x : SlotArray) → IsCompiled c f.function → IsHere c f (op.Make k) → IsActive c os f fs r v → slice_get (function_in c f.function).arrays k ≡ Some x → k ≡ length f.arrays
    → Went c (3 * ((x.bytes + 3) / 4) + 6) r v (os ++ zeroed x ∷ []) (record f { place = f.place + 1; arrays = f.arrays ++ length os ∷ [] }) fs
unfolding array_at
made_done c os f fs r v k x i here a e ke =
    let g = function_in c f.function in
    let new : Object = zeroed x in
    let os' = os ++ new ∷ [] in
    let some = array_some g.arrays k x i.arrays e in
    let off = array_from g.arrays (words_end g) k in
    let addr = a.sp + off in
    let step = array_next g.arrays (words_end g) k x e in
    let past = array_past g.arrays (words_end g) (suc k) in
    let holds = a.opened.function.holds in
    let low = arrays_up g.arrays (words_end g) k in
    let al = array_aligned g.arrays (words_end g) k (words_aligned g) in
    let rd = rounded_covers x.bytes in let rd0 = rd.0 in let rd1 = rd.1 in
    let spa = a.opened.aligned in let top = a.opened.top in let bot = a.opened.low in
    let code : code_in c f (op.Make k) ≡ clear_code g k (Some x) = ap (clear_code g k) e in
    let m = cleared c.place g a.sp k x r v (pc_in c f) a.registers a.bytes a.opened some (omega (arith, step, past, holds)) al a.pointer (subst (λ y. IsCode c.place (pc_in c f) y) code here.stands) a.at in
    let base' = put a.base (length os) addr in
    let d = m.bytes in
    let l0 = length-append os (new ∷ []) in
    let old_base : (o : ℕ) → o < length os → base' o ≡ a.base o = λ o h. put_other a.base (length os) addr o (λ q. omega (arith, q, h)) in
    let new_base : base' (length os) ≡ addr = put_same a.base (length os) addr (length os) refl in
    let new_object : object_of os' (length os) ≡ new = more_object_new os new in
    let ext : Extends a.base os base' os' = record { more = omega (arith, l0); bases = old_base; widths = λ o h. ap (λ (y : Object). y.width) (more_object_old os new o h) } in
    let new_size : size_of os' (length os) ≡ x.bytes = ap (λ (y : Object). length y.bytes) new_object ∙ length-replicate x.bytes 0 in
    let early : c.statics ≤ length os = statics_few c.statics (length os) (λ o h. (a.shown.statics o h).0) in
    let cases : (o j : ℕ) → IsIn base' os' o j → (IsIn a.base os o j × (o < length os)) ⊎ ((o ≡ length os) × (addr ≤ j) × (j < addr + x.bytes)) = λ o j y. ⊎_elim
    (λ h. inl ((subst (λ n. n ≤ j) (old_base o h) y.0, subst (λ n. j < n + size_of os o) (old_base o h) (subst (λ (n : Object). j < base' o + length n.bytes) (more_object_old os new o h) y.1)), h))
    (λ h. ⊎_elim
    (λ q. inr (q, subst (λ n. n ≤ j) (ap base' q ∙ new_base) y.0, subst (λ n. j < n + x.bytes) (ap base' q ∙ new_base) (subst (λ n. j < base' o + n) (ap (size_of os') q ∙ new_size) y.1)))
    (λ q. absurd (let z = y.0 in let z1 = subst (λ (n : Object). j < base' o + length n.bytes) (more_object_past os new o (above o h q)) y.1 in omega (arith, z, z1)))
    (cases_eq o (length os)))
    (cases_lt o (length os)) in
    let away : (o j : ℕ) → IsIn a.base os o j → (j < addr) ⊎ (addr + 4 * ((x.bytes + 3) / 4) ≤ j) = λ o j y. ⊎_elim (λ z. inl z) (λ z. ⊎_elim
    (λ u. let w = a.owned.0.each o j y (omega (arith, z)) (omega (arith, u, rd1, step, past, holds)) in
    let w1 = w.made in let w2 = w.to in let w3 = array_order g.arrays (words_end g) (suc w.place) k (omega (arith, w1, ke)) in absurd (omega (arith, z, w2, w3)))
    (λ u. inr u) (cases_lt j (addr + 4 * ((x.bytes + 3) / 4)))) (cases_lt j addr) in
    let all = open_all c a.base os fs (a.sp + g.frame) (number_at a.bytes a.sp 4) a.bytes a.below in
    let four = words_four g in
    let low_same : (j : ℕ) → j < a.sp + words_end g → d j ≡ a.bytes j = λ j h. m.rest j (inl (omega (arith, h, low))) in
    let ra : number_at d a.sp 4 ≡ number_at a.bytes a.sp 4 = same_number d a.bytes a.sp 4 (λ j y z. low_same j (omega (arith, z, four))) in
    let kept_below : (j : ℕ) → IsWord c fs (a.sp + g.frame) j → d j ≡ a.bytes j = λ j y. let z = words_above c fs (a.sp + g.frame) j y in m.rest j (inr (omega (arith, z, rd1, step, past, holds))) in
    record {
      regs = m.next.regs;
      view = m.next.view;
      count = m.count;
      leads = m.next.leads;
      few = m.few;
      some = m.some;
      only = m.next.only;
      active = record {
        base = base';
        sp = a.sp;
        registers = m.new;
        bytes = d;
        known = a.known;
        opened = a.opened;
        at = subst (λ y. At c.place m.next.regs m.next.view y m.new d) (sym (here.next ∙ ap (λ y. pc_in c f + 4 * length y) code)) m.next.at;
        pointer = m.keeps.fixed 2 (omega arith) (omega arith) ∙ a.pointer;
        top = m.keeps.fixed 3 (omega arith) (omega arith) ∙ a.top;
        low = m.keeps.fixed 4 (omega arith) (omega arith) ∙ a.low;
        cells = λ j y q. let h = cell_room c os f fs r v (pc_in c f) a j y q in
            subst (λ n. Means c base' os' y n) (sym (cells_stay g a.sp a.registers m.new a.bytes d j h m.keeps.temporaries (λ n z u. low_same n u))) (means_kept c a.base os base' os' y _ ext (a.cells j y q));
        few = a.few;
        below = subst (λ n. AreBelow c base' os' fs (a.sp + g.frame) n d) (sym ra) (below_kept c a.base os base' os' fs (a.sp + g.frame) (number_at a.bytes a.sp 4) a.bytes d ext kept_below a.below);
        shown = record {
          bytes = λ o j h. ⊎_elim
              (λ y. let h' : j < size_of os o = subst (λ (n : Object). j < length n.bytes) (more_object_old os new o y) h in
              ap (λ n. d (n + j)) (old_base o y) ∙ m.rest (a.base o + j) (away o (a.base o + j) (omega arith, omega (arith, h'))) ∙ a.shown.bytes o j h' ∙ ap (λ (n : Object). slice_index n.bytes j) (sym (more_object_old os new o y)))
              (λ y. ⊎_elim
              (λ q. let h' : j < x.bytes = subst (λ n. j < n) (ap (size_of os') q ∙ new_size) h in
              ap (λ n. d (n + j)) (ap base' q ∙ new_base) ∙ m.zeros (addr + j) (omega arith) (omega (arith, h', rd0)) ∙ sym (get_or-replicate x.bytes j 0 0 h') ∙ ap (λ (n : Object). slice_index n.bytes j) (sym new_object) ∙ ap (λ n. slice_index (object_of os' n).bytes j) (sym q))
              (λ q. absurd (let z = subst (λ (n : Object). j < length n.bytes) (more_object_past os new o (above o y q)) h in omega (arith, z)))
              (cases_eq o (length os)))
              (cases_lt o (length os));
          aligned = λ o s. ⊎_elim
              (λ y. ap (λ n. n % 4) (old_base o y) ∙ a.shown.aligned o (ap (λ (n : Object). n.width) (sym (more_object_old os new o y)) ∙ s))
              (λ y. ⊎_elim
              (λ q. ap (λ n. n % 4) (ap base' q ∙ new_base) ∙ omega (arith, al, spa))
              (λ q. absurd (byte_or_word (sym (ap (λ (n : Object). n.width) (more_object_past os new o (above o y q))) ∙ s)))
              (cases_eq o (length os)))
              (cases_lt o (length os));
          lives = λ o s. ⊎_elim
              (λ y. subst (λ n. LivesAt c.place n (object_of os' o)) (sym (old_base o y)) (subst (λ n. LivesAt c.place (a.base o) n) (sym (more_object_old os new o y)) (a.shown.lives o (subst (λ (n : Object). 1 ≤ length n.bytes) (more_object_old os new o y) s))))
              (λ y. ⊎_elim
              (λ q. subst (λ n. LivesAt c.place n (object_of os' o)) (sym (ap base' q ∙ new_base)) (inl (inl (omega (arith, bot), let z = ap (size_of os') q ∙ new_size in omega (arith, z, rd0, step, past, holds, top, rd1)))))
              (λ q. absurd (let z = subst (λ (n : Object). 1 ≤ length n.bytes) (more_object_past os new o (above o y q)) s in omega (arith, z)))
              (cases_eq o (length os)))
              (cases_lt o (length os));
          apart = λ o q j y z. same_one o q j (cases o j y) (cases q j z) rd0 away;
          own = λ o h s. ⊎_elim
              (λ y. let same = ap (λ (n : Object). length n.bytes) (more_object_old os new o y) in let w = a.shown.own o h (subst (λ n. 1 ≤ n) same s) in let b0 = old_base o y in let w0 = w.0 in let w1 = w.1 in (omega (arith, b0, w0), omega (arith, b0, w1, same)))
              (λ y. ⊎_elim
              (λ q. let b0 = ap base' q ∙ new_base in let n0 = ap (size_of os') q ∙ new_size in (omega (arith, b0, bot), omega (arith, b0, n0, rd0, step, past, holds, top, rd1)))
              (λ q. absurd (let z = subst (λ (n : Object). 1 ≤ length n.bytes) (more_object_past os new o (above o y q)) s in omega (arith, z)))
              (cases_eq o (length os)))
              (cases_lt o (length os));
          statics = λ o h. let y = a.shown.statics o h in let y0 = y.0 in (omega (arith, y0, l0), old_base o y.0 ∙ y.1);
          forms = λ o h. subst (λ n. HasForm (c.forms o) n) (sym (more_object_old os new o (a.shown.statics o h).0)) (a.shown.forms o h);
        };
        owned = (
          record {
            each = λ o j y z u. ⊎_elim
                (λ w. let w' = a.owned.0.each o j w.0 z u in let w1 = w'.made in let ln = length-append f.arrays (length os ∷ []) in record { place = w'.place; made = omega (arith, w1, ln); name = get_or_append_left f.arrays (length os ∷ []) 0 w'.place w1 ∙ w'.name; from = w'.from; to = w'.to })
                (λ w. let ln = length-append f.arrays (length os ∷ []) in let w1 = w.1 in let w2 = w.2 in record { place = k; made = omega (arith, ln, ke); name = get_or_at f.arrays (length os) [] 0 k (sym ke) ∙ sym w.0; from = w1; to = omega (arith, w2, step, rd0, rd1) })
                (cases o j y);
            arrays = λ j h. let ln = length-append f.arrays (length os ∷ []) in ⊎_elim
                (λ y. let w = a.owned.0.arrays j y in let w0 = w.0 in let n = get_or_append_left f.arrays (length os ∷ []) 0 j y in
                (subst (λ z. z < length os') (sym n) (omega (arith, w0, l0)), ap base' n ∙ old_base (get_or f.arrays j 0) w0 ∙ w.1))
                (λ y. let q : length f.arrays ≡ j = omega (arith, h, ln, y) in let n = get_or_at f.arrays (length os) [] 0 j q in
                (subst (λ z. z < length os') (sym n) (omega (arith, l0)), ap base' n ∙ new_base ∙ ap (λ z. a.sp + array_from g.arrays (words_end g) z) (ke ∙ q)))
                (cases_lt j (length f.arrays));
            later = λ j h. let ln = length-append f.arrays (length os ∷ []) in ⊎_elim
                (λ y. subst (λ z. c.statics ≤ z) (sym (get_or_append_left f.arrays (length os ∷ []) 0 j y)) (a.owned.0.later j y))
                (λ y. let q : length f.arrays ≡ j = omega (arith, h, ln, y) in subst (λ z. c.statics ≤ z) (sym (get_or_at f.arrays (length os) [] 0 j q)) early)
                (cases_lt j (length f.arrays));
          },
          owned_kept c a.base os base' os' fs (a.sp + g.frame) ext (λ o j y z u. ⊎_elim (λ w. w.0) (λ w. let w2 = w.2 in absurd (omega (arith, w2, z, rd0, step, past, holds, rd1))) (cases o j y)) top all a.owned.1,
        );
        under = λ o j y z u. ⊎_elim (λ w. a.under o j w.0 z u) (λ w. let w1 = w.1 in omega (arith, w1)) (cases o j y);
      };
    }
  where
    above : (o : ℕ) → length os ≤ o → o ≢ length os → length os < o
    above o h q = ⊎_elim (λ n. n) (λ n. absurd (q (omega (arith, h, n)))) (cases_lt (length os) o)

    same_one : (o q j : ℕ) → (IsIn a.base os o j × (o < length os)) ⊎ ((o ≡ length os) × (a.sp + array_from (function_in c f.function).arrays (words_end (function_in c f.function)) k ≤ j) × (j < a.sp + array_from (function_in c f.function).arrays (words_end (function_in c f.function)) k + x.bytes))
        → (IsIn a.base os q j × (q < length os)) ⊎ ((q ≡ length os) × (a.sp + array_from (function_in c f.function).arrays (words_end (function_in c f.function)) k ≤ j) × (j < a.sp + array_from (function_in c f.function).arrays (words_end (function_in c f.function)) k + x.bytes))
        → x.bytes ≤ 4 * ((x.bytes + 3) / 4) → ((o j : ℕ) → IsIn a.base os o j → (j < a.sp + array_from (function_in c f.function).arrays (words_end (function_in c f.function)) k) ⊎ (a.sp + array_from (function_in c f.function).arrays (words_end (function_in c f.function)) k + 4 * ((x.bytes + 3) / 4) ≤ j)) → o ≡ q
    same_one o q j (inl y) (inl z) h w = a.shown.apart o q j y.0 z.0
    same_one o q j (inl y) (inr z) h w = let z1 = z.1 in let z2 = z.2 in ⊎_elim (λ n. absurd (omega (arith, n, z1))) (λ n. absurd (omega (arith, n, z2, h))) (w o j y.0)
    same_one o q j (inr y) (inl z) h w = let y1 = y.1 in let y2 = y.2 in ⊎_elim (λ n. absurd (omega (arith, n, y1))) (λ n. absurd (omega (arith, n, y2, h))) (w q j z.0)
    same_one o q j (inr y) (inr z) h w = y.0 ∙ sym z.0

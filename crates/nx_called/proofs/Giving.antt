-- A function's return.
use Rattle.std.proofs.Common.{◌≡◌, ◌≢◌, ℕ, zero, suc, ◌+◌, ◌-◌, ◌*◌, ◌^◌, ◌%◌, ◌<◌, ◌≤◌, inl, List, [], ◌∷◌, length, refl, sym, ap, ◌∙◌, subst, arith, ⊎_elim, length-append}
use Rattle.std.specs.Prelude.{pos, slice_index, get_or}
use Rattle.std.proofs.lemmas.Bool.{cases_lt}
use Rattle.std.proofs.lemmas.Option.{slice_get_within}
use Rattle.nx_base.specs.declared.regs.Regs.{Regs}
use Rattle.nx_base.specs.Views.{View}
use Rattle.nx_rv.specs.declared.inst.Inst.TheVariants.{Ecall}
use Rattle.nx_rv.specs.Execution.{plus}
use Rattle.nx_slot.specs.declared.op.Operand.{Operand}
use Rattle.nx_slot.specs.declared.op.SlotOp.TheVariants as op
use Rattle.nx_slot.specs.declared.program.SlotFunction.{SlotFunction}
use Rattle.nx_slot.specs.Objects.{Value, Int, Pointer, Forged, Entry, Object, object_of}
use Rattle.nx_slot.specs.Meaning.{SlotFrame, put, without, given}
use Rattle.nx_codegen.specs.Frames.{in_register, register_of}
use Rattle.nx_codegen.specs.Moves.{addi, answer_code}
use Rattle.nx_codegen.specs.Calling.{kept_at, restore_code, stub_code}
use Rattle.nx_codegen.specs.Code.{give_code}
use Rattle.nx_shown.specs.Bytes as shown
use Rattle.nx_shown.specs.Bytes.{Bytes, number_at}
use Rattle.nx_shown.proofs.Stores.{put_same, put_other}
use Rattle.nx_shown.proofs.Steps.{instructions}
use Rattle.nx_pieces.specs.Parts.{IsCode}
use Rattle.nx_pieces.proofs.Parts.{first, rest, front, back, below as behind_fits, plus_up, add_next, copy_next}
use Rattle.nx_pieces.proofs.Cells.{by_test, register_bounds, temporary_at}
use Rattle.nx_pieces.proofs.Writes.{cell_in_register, cell_in_word}
use Rattle.nx_operations.specs.Laws.{operand_word}
use Rattle.nx_entries.specs.Laws.{Returned}
use Rattle.nx_entries.proofs.Entries.{leads, only_then, reach}
use Rattle.nx_calling.proofs.Keeping.{come_back}
use Rattle.nx_linked.specs.Linked.{Program, IsLinked}
use Rattle.nx_linked.specs.Meant.{IsIn, Means, LivesAt, HasForm}
use Rattle.nx_linked.specs.Standing.{function_in, AreBelow, AreOwned, Rests, IsActive}
use Rattle.nx_linked.specs.Doing.{Does}
use Rattle.nx_linked.specs.Laws.{Extends}
use Rattle.nx_linked.proofs.Staying.{means_kept, below_kept, owned_kept, open_all}
use Rattle.nx_acted.proofs.Cells.{Writes}
use Rattle.nx_acted.proofs.Written.{pc_in, IsHere}
use Rattle.nx_acted.proofs.Acts.{Given}
use Rattle.nx_called.proofs.Lengths.{answer_few, kept_bounds, restore_length, give_few}
use Rattle.nx_called.proofs.Taking.{taken_in, went_later, leads_then}
use Rattle.nx_called.proofs.Ending.{without_length, survives, width_stays, unnamed_stays}

to_aligned : (c : Program) (base : ℕ → ℕ) (os : List Object) (fs : List SlotFrame) (sp to : ℕ) (b : Bytes) → IsLinked c → AreBelow c base os fs sp to b → to % 4 ≡ 0
to_aligned c base os [] sp to b l w = ap (λ n. n % 4) w.1 ∙ l.stub_aligned
to_aligned c base os (f ∷ fs) sp to b l w = w.0.behind.aligned

stub_stands : (c : Program) → IsLinked c → IsCode c.place c.stub (addi 11 10 (pos 0) ∷ addi 10 0 (pos c.ending) ∷ Ecall ∷ [])
unfolding stub_code
stub_stands c l = l.stub

register_word : (g : SlotFunction) (i : ℕ) (t : ℕ → ℕ) → t (register_of g i) ≡ t (18 + (i - g.locals))
unfolding register_of
register_word g i t = refl

not_named : (n m o : ℕ) → n ≤ m → o < n → m ≢ o
not_named n m o h k e = omega (arith, h, k, e)

pub give_done : (c : Program) (os : List Object) (f : SlotFrame) (fs : List SlotFrame) (r : Regs) (v : View) (value : Operand) (x : Value) → IsLinked c → IsHere c f (op.Give value) → (a : IsActive c os f fs r v) → Given c os f fs r v a value x → Does c r v (given fs (without f.arrays os) 20 x)
give_done c os f fs r v value x linked here a z =
    let g = function_in c f.function in
    let al = to_aligned c a.base os fs (a.sp + g.frame) (number_at a.bytes a.sp 4) a.bytes linked a.below in
    let m = leads c.place g a.sp r v (pc_in c f) value a.registers a.bytes a.opened z.shown a.pointer al here.stands a.at in
    let few = give_few g value in
    back_to fs a.below a.owned m few z.means
  where
    g0 : SlotFunction
    g0 = function_in c f.function

    os' : List Object
    os' = without f.arrays os

    w0 : ℕ
    w0 = operand_word g0 a.sp a.registers a.bytes value

    static : (o : ℕ) → o < c.statics → object_of os' o ≡ object_of os o
    static o h = unnamed_stays f.arrays os o (λ j k. not_named c.statics (get_or f.arrays j 0) o (a.owned.0.later j k) h)

    at_end : (x : Value) → AreBelow c a.base os [] (a.sp + g0.frame) (number_at a.bytes a.sp 4) a.bytes → Returned c.place g0 a.sp w0 (number_at a.bytes a.sp 4) (length (give_code g0 value)) r v a.registers a.bytes → length (give_code g0 value) ≤ 8
        → Means c a.base os x w0 → Does c r v (given [] os' 20 x)
    at_end (Pointer o p) below m few means = tt
    at_end (Forged n) below m few means = tt
    at_end (Entry h) below m few means = tt
    at_end (Int n) below m few means =
        let i1 = addi 11 10 (pos 0) in let i2 = addi 10 0 (pos c.ending) in
        let e = c.place in
        let pc = number_at a.bytes a.sp 4 in
        let stub : IsCode e pc (i1 ∷ i2 ∷ Ecall ∷ []) = subst (λ n. IsCode e n (i1 ∷ i2 ∷ Ecall ∷ [])) (sym below.1) (stub_stands c linked) in
        let small = linked.ending in
        let a1 = copy_next e m.next.regs m.next.view pc m.new a.bytes 11 10 a.opened.place (first e pc i1 (i2 ∷ Ecall ∷ []) stub) (refl, omega arith) m.next.at in
        let t1 = shown.put m.new 11 (m.new 10) in
        let s2 = rest e pc i1 (i2 ∷ Ecall ∷ []) stub in
        let a2 = add_next e a1.regs a1.view (pc + 4) t1 a.bytes 10 0 c.ending (pos c.ending) a.opened.place (first e (pc + 4) i2 (Ecall ∷ []) s2) (refl, omega arith) (ap (λ n. plus n (pos c.ending)) a1.at.zero ∙ plus_up 0 c.ending (omega (arith, small)) ∙ omega arith) a1.at in
        let t2 = shown.put t1 10 c.ending in
        let s3 = rest e (pc + 4) i2 (Ecall ∷ []) s2 in
        let a3 = (instructions e a2.regs a2.view (pc + 4 + 4) t2 a.bytes a.opened.place a2.at).call s3.0 (behind_fits e (pc + 4 + 4) Ecall [] s3) in
        let k = length (give_code g0 value) in
        let c1 = reach e 1 1 a1.regs a1.view (pc + 4 + 4) (pc + 4 + 4 + 4) t2 t2 a.bytes a.bytes a2 a3 in
        let c2 = reach e 1 (1 + 1) m.next.regs m.next.view (pc + 4) (pc + 4 + 4 + 4) t1 t2 a.bytes a.bytes a1 c1 in
        let rc = reach e k (1 + (1 + 1)) r v pc (pc + 4 + 4 + 4) m.new t2 a.bytes a.bytes m.next c2 in
        let lo = without_length f.arrays os in
        record {
          regs = rc.regs;
          view = rc.view;
          count = k + (1 + (1 + 1));
          reaches = rc.reaches;
          few = omega (arith, few);
          only = rc.only;
          number = rc.at.holds 10 ∙ put_same t1 10 c.ending 10 refl;
          value_is = rc.at.holds 11 ∙ put_other t1 10 c.ending 11 (λ z. omega (arith, z)) ∙ put_same m.new 11 (m.new 10) 11 refl ∙ m.value ∙ means;
          small = subst (λ k. k < 2 ^ 32) (m.value ∙ means) (m.next.at.small 10);
          leaves = record {
            bytes = a.bytes;
            sees = rc.at.sees;
            there = early c.statics (length os') (λ o h. let y = (a.shown.statics o h).0 in omega (arith, y, lo));
            forms = λ o h. subst (λ y. HasForm (c.forms o) y) (sym (static o h)) (a.shown.forms o h);
            shown = λ o i h q.
                let same = static o h in
                let st = (a.shown.statics o h).1 in
                ap (λ n. a.bytes (n + i)) (sym st) ∙ a.shown.bytes o i (subst (λ (y : Object). i < length y.bytes) same q) ∙ ap (λ (y : Object). slice_index y.bytes i) (sym same);
          };
        }
      where
        early : (n m : ℕ) → ((o : ℕ) → o < n → o < m) → n ≤ m
        early zero m h = omega arith
        early (suc n) m h = let z = h n (omega arith) in omega (arith, z)

    back_to : (fs : List SlotFrame) → AreBelow c a.base os fs (a.sp + g0.frame) (number_at a.bytes a.sp 4) a.bytes → AreOwned c a.base os (f ∷ fs) a.sp → Returned c.place g0 a.sp w0 (number_at a.bytes a.sp 4) (length (give_code g0 value)) r v a.registers a.bytes → length (give_code g0 value) ≤ 8
        → Means c a.base os x w0 → Does c r v (given fs os' 20 x)
    back_to [] below owned m few means = at_end x below m few means
    back_to (f1 ∷ fs1) below owned m few means =
        let e = c.place in
        let w = below.0 in
        let g = function_in c f1.function in
        let sp1 = a.sp + g0.frame in
        let kept1 = kept_at g f1.wants in
        let lb = kept_bounds g f1.wants in let lb0 = lb.0 in let lb1 = lb.1 in
        let ret = number_at a.bytes a.sp 4 in
        let xs = restore_code kept1 in let ys = answer_code g f1.wants in
        let ft = w.opened.function.temporaries in
        let n1 = come_back e g sp1 kept1 m.next.regs m.next.view ret m.new a.bytes w.opened lb0 (let rm = w.room in omega (arith, lb1, rm)) m.pointer (front e ret xs ys w.behind.stands) m.next.at in
        let pc1 = ret + 4 * length xs in
        let lo = without_length f.arrays os in
        let ext : Extends a.base os a.base os' = record { more = omega (arith, lo); bases = λ q h. refl; widths = λ q h. width_stays f.arrays os q } in
        let in_old : (o k : ℕ) → IsIn a.base os' o k → IsIn a.base os o k = λ o k i. let s = survives f.arrays os o (let i0 = i.0 in let i1 = i.1 in omega (arith, i0, i1)) in (i.0, subst (λ (y : Object). k < a.base o + length y.bytes) s.same i.1) in
        let all = open_all c a.base os fs1 (sp1 + g.frame) (number_at a.bytes sp1 4) a.bytes below.1 in
        let rests : Rests c os' f1 fs1 n1.next.regs n1.next.view pc1 = record {
          base = a.base;
          sp = sp1;
          registers = n1.new;
          bytes = a.bytes;
          known = w.known;
          opened = w.opened;
          at = n1.next.at;
          pointer = n1.others 2 (inl (omega arith)) ∙ m.pointer;
          top = n1.others 3 (inl (omega arith)) ∙ m.fixed 3 (omega arith) (omega arith) ∙ a.top;
          low = n1.others 4 (inl (omega arith)) ∙ m.fixed 4 (omega arith) (omega arith) ∙ a.low;
          cells = λ i y q.
              let within = slice_get_within f1.cells i y q in
              let nx = w.next in
              subst (λ n. Means c a.base os' y n) (sym (by_test (in_register g i)
              (λ h. let rb = register_bounds g i h in let rb0 = rb.0 in let rb1 = rb.1 in
              cell_in_register g sp1 n1.new a.bytes i h ∙ register_word g i n1.new ∙ n1.words (i - g.locals) (lb.2 (i - g.locals) (omega (arith, rb0, rb1)) (omega (arith, rb0, within, nx))) ∙ ap (λ n. number_at a.bytes (sp1 + n) 4) (sym (temporary_at g i rb0)))
              (λ h. cell_in_word g sp1 n1.new a.bytes i h))) (means_kept c a.base os a.base os' y _ ext (w.cells i y q));
          few = let nx = w.next in let rm = w.room in omega (arith, nx, rm);
          below = below_kept c a.base os a.base os' fs1 (sp1 + g.frame) (number_at a.bytes sp1 4) a.bytes a.bytes ext (λ k h. refl) below.1;
          shown = record {
            bytes = λ o i h. let s = survives f.arrays os o (omega (arith, h)) in a.shown.bytes o i (subst (λ (y : Object). i < length y.bytes) s.same h) ∙ ap (λ (y : Object). slice_index y.bytes i) (sym s.same);
            aligned = λ o h. a.shown.aligned o (sym (width_stays f.arrays os o) ∙ h);
            lives = λ o h. let s = survives f.arrays os o h in subst (λ y. LivesAt c.place (a.base o) y) (sym s.same) (a.shown.lives o (subst (λ (y : Object). 1 ≤ length y.bytes) s.same h));
            apart = λ o q k i j. a.shown.apart o q k (in_old o k i) (in_old q k j);
            own = λ o h k. let s = survives f.arrays os o k in let same = ap (λ (y : Object). length y.bytes) s.same in let y = a.shown.own o h (subst (λ n. 1 ≤ n) same k) in let y1 = y.1 in (y.0, omega (arith, y1, same));
            statics = λ o h. let y = a.shown.statics o h in let y0 = y.0 in (omega (arith, y0, lo), y.1);
            forms = λ o h. subst (λ y. HasForm (c.forms o) y) (sym (static o h)) (a.shown.forms o h);
          };
          owned = owned_kept c a.base os a.base os' (f1 ∷ fs1) sp1 ext (λ o k i p q. in_old o k i) (let t = a.opened.top in t) (w.opened, all) owned.1;
          under = λ o k i p q. let s = survives f.arrays os o (let i0 = i.0 in let i1 = i.1 in omega (arith, i0, i1)) in
              ⊎_elim (λ z. absurd (let mn = owned.0.each o k (in_old o k i) (a.under o k (in_old o k i) p q) z in s.unnamed mn.place mn.made mn.name)) (λ z. z) (cases_lt k sp1);
        } in
        let rl = restore_length kept1 in let tf = answer_few g f1.wants w.temporary w.room ft in let tf1 = tf.1 in
        let lr = length-append xs ys in
        let bl = w.behind.leads in
        let hc : Writes g f1.cells f1.wants = record { next = let nx = w.next in omega (arith, nx); room = w.room } in
        let taken : n1.new 10 ≡ w0 = n1.others 10 (inl (omega arith)) ∙ m.value in
        let tk = taken_in c os' f1 fs1 n1.next.regs n1.next.view pc1 rests x hc (subst (λ n. Means c a.base os' x n) (sym taken) (means_kept c a.base os a.base os' x _ ext means)) (back e ret xs ys w.behind.stands) (bl ∙ omega (arith, lr)) in
        let k = length (give_code g0 value) in
        let l12 = leads_then k (length xs) r v m.next.regs m.next.view n1.next.regs n1.next.view m.next.leads n1.next.leads in
        went_later c (k + length xs) (length ys) 20 r v n1.next.regs n1.next.view os' (record f1 { cells = put f1.cells f1.wants x }) fs1 (omega (arith, few, rl, tf1, lb0)) l12 (only_then e v m.next.view n1.next.view m.next.only n1.next.only) tk

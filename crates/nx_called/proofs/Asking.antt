-- A call of the kernel, and the way back.
use Rattle.std.proofs.Common.{◌≡◌, ◌≢◌, ℕ, ◌+◌, ◌*◌, ◌%◌, ◌^◌, ◌<◌, ◌≤◌, ◌⊎◌, inl, inr, List, [], ◌∷◌, ◌++◌, length, take, Some, refl, sym, ap, ◌∙◌, subst, arith, ⊎_elim, length-append, append_assoc}
use Rattle.std.specs.Prelude.{pos}
use Rattle.nx_base.specs.declared.regs.Regs.{Regs}
use Rattle.nx_base.specs.Registers.{with_reg}
use Rattle.nx_base.specs.Views.{View}
use Rattle.nx_rv.specs.declared.inst.Inst.TheVariants.{Jalr, Ecall}
use Rattle.nx_rv.specs.Execution.{plus}
use Rattle.nx_slot.specs.declared.op.SlotOp.TheVariants as op
use Rattle.nx_slot.specs.Objects.{Int, Object}
use Rattle.nx_slot.specs.Calls.{words_of, call_inputs, outputs_of}
use Rattle.nx_slot.specs.Meaning.{SlotFrame, put, cells_from, waiting}
use Rattle.nx_codegen.specs.declared.output.Target.TheVariants.{Call}
use Rattle.nx_codegen.specs.Moves.{addi, answer_code}
use Rattle.nx_codegen.specs.Calling.{arguments_code, call_code, moves_code, proxy_code}
use Rattle.nx_shown.specs.Bytes as memory
use Rattle.nx_shown.specs.Bytes.{Bytes, number_at}
use Rattle.nx_shown.specs.Places.{Place, Sees}
use Rattle.nx_shown.specs.Leading.{At}
use Rattle.nx_shown.proofs.Stores.{put_same, put_other, same_number}
use Rattle.nx_shown.proofs.Steps.{instructions, after_write}
use Rattle.nx_pieces.specs.Parts.{IsCode}
use Rattle.nx_pieces.proofs.Parts.{front, back, below, plus_up}
use Rattle.nx_entries.proofs.Entries.{reach}
use Rattle.nx_calling.proofs.Handing.{come, calls, proxies}
use Rattle.nx_linked.specs.Linked.{Program, IsGate}
use Rattle.nx_linked.specs.Meant.{IsIn, Means}
use Rattle.nx_linked.specs.Standing.{function_in, AreBelow, Rests, IsActive}
use Rattle.nx_linked.specs.Doing.{Asked}
use Rattle.nx_linked.specs.Laws.{Extends}
use Rattle.nx_linked.proofs.Arrays.{words_four}
use Rattle.nx_linked.proofs.Staying.{means_kept, below_kept, owned_kept, open_all, off_words, words_inside}
use Rattle.nx_acted.proofs.Cells.{Writes}
use Rattle.nx_acted.proofs.Written.{pc_in, IsHere, cell_room}
use Rattle.nx_stored.proofs.Elements.{cells_stay}
use Rattle.nx_called.proofs.Lengths.{from_get, take_get, take_length, Hands, arguments_length, answer_few, call_two, moves_length}
use Rattle.nx_called.proofs.Taking.{taken_in, went_later}

proxy_end : (number k : ℕ) → proxy_code number k ≡ (moves_code k ++ addi 10 0 (pos number) ∷ Ecall ∷ []) ++ (Jalr 0 1 (pos 0) ∷ [])
unfolding proxy_code
proxy_end number k = sym (append_assoc (moves_code k) (addi 10 0 (pos number) ∷ Ecall ∷ []) (Jalr 0 1 (pos 0) ∷ []))

proxy_front : (number k : ℕ) → length (moves_code k ++ addi 10 0 (pos number) ∷ Ecall ∷ []) ≡ k + 2
proxy_front number k = let l = length-append (moves_code k) (addi 10 0 (pos number) ∷ Ecall ∷ []) in let m = moves_length k in omega (arith, l, m)

behind_aligned : (p n : ℕ) → p % 4 ≡ 0 → (p + 4 * n + 8) % 4 ≡ 0
behind_aligned p n h = omega (arith, h)

-- A value in a register, over another view.
replied_at : (e : Place) (r : Regs) (v w : View) (pc : ℕ) (t : ℕ → ℕ) (b d : Bytes) (x : ℕ) → x < 2 ^ 32 → Sees e w d → At e r v pc t b → At e (with_reg r 10 x) w pc (memory.put t 10 x) d
replied_at e r v w pc t b d x small sees a =
    let m = after_write e r v pc t b 10 x refl (omega arith) small a in
    record { pc_is = m.pc_is; aligned = m.aligned; size = m.size; holds = m.holds; zero = m.zero; small = m.small; sees = sees }

pub ask_done : (c : Program) (os : List Object) (f : SlotFrame) (fs : List SlotFrame) (r : Regs) (v : View) (number at count : ℕ) (inputs : List (List ℕ)) → IsGate c number count → 1 ≤ number → IsHere c f (op.Ask number at count) → IsActive c os f fs r v → Hands (function_in c f.function) f.cells at count
    → call_inputs (c.code.rows number) os (cells_from f.cells at count) ≡ Some inputs
    → Asked c 20 r v (record { number = number; words = words_of (cells_from f.cells at count); inputs = inputs }) (outputs_of (c.code.rows number).kinds (cells_from f.cells at count)) os (waiting f at) fs
ask_done c os f fs r v number at count inputs gate some here a has given =
    let g = function_in c f.function in
    let e = c.place in
    let to = c.links (Call number) in
    let x = arguments_code g at count in let y = call_code to in let z = answer_code g at in
    let pc = pc_in c f in
    let few = has.few in let there = has.there in let af = a.few in
    let ft = a.opened.function.temporaries in
    let l1 = length-append x (y ++ z) in let l2 = length-append y z in let lx = arguments_length g at count has.temporary (omega (arith, there, af)) ft in let ly = call_two to in let lz = answer_few g at has.temporary has.room ft in
    let gs = gate.small in let gf = gate.few in let gt = gate.stands.1 in
    let m1 = come e g a.sp at count r v pc a.registers a.bytes a.opened few (omega (arith, there, af)) a.pointer (front e pc x (y ++ z) here.stands) a.at in
    let pc1 = pc + 4 * length x in
    let s1 = back e pc x (y ++ z) here.stands in
    let f1 = s1.1 in
    let m2 = calls e m1.next.regs m1.next.view pc1 to m1.new a.bytes a.opened.place (omega (arith, gt)) gate.aligned (front e pc1 y z s1) m1.next.at in
    let m3 = proxies e m2.next.regs m2.next.view to number count m2.new a.bytes a.opened.place gs gf gate.stands m2.next.at in
    let end = to + 4 * (count + 2) in
    let r2 = reach e 2 (count + 2) m1.next.regs m1.next.view to end m2.new m3.new a.bytes a.bytes m2.next m3.reaches in
    let rc = reach e (length x) (2 + (count + 2)) r v pc1 end m1.new m3.new a.bytes a.bytes m1.next r2 in
    let f' : SlotFrame = waiting f at in
    let all = open_all c a.base os fs (a.sp + g.frame) (number_at a.bytes a.sp 4) a.bytes a.below in
    let three : (j : ℕ) → (j < 10) ⊎ (10 + count < j) → j ≢ 1 → m3.new j ≡ a.registers j = λ j p q. m3.others j p ∙ m2.others j q ∙ m1.others j (⊎_elim (λ w. inl w) (λ w. inr (omega (arith, w))) p) in
    let kept : (j : ℕ) → 18 ≤ j → m3.new j ≡ a.registers j = λ j p. three j (inr (omega (arith, p, few))) (λ q. omega (arith, q, p)) in
    let ret : m3.new 1 ≡ pc1 + 8 = m3.others 1 (inl (omega arith)) ∙ m2.back in
    record {
      regs = rc.regs;
      view = rc.view;
      count = length x + (2 + (count + 2));
      reaches = rc.reaches;
      few = omega (arith, lx, few);
      only = rc.only;
      arguments = cells_from f.cells at count;
      words = refl;
      inputs = given;
      outputs_are = refl;
      number = rc.at.holds 10 ∙ m3.number_is;
      some = some;
      base = a.base;
      sp = a.sp;
      bytes = a.bytes;
      sees = rc.at.sees;
      arguments_are = λ j w q. let h = from_get f.cells count at j w there q in
          subst (λ k. Means c a.base os w k) (sym (rc.at.holds (11 + j) ∙ m3.words j h.0 ∙ m2.others (10 + j) (λ k. omega (arith, k)) ∙ m1.arguments j h.0)) (a.cells (at + j) w h.1);
      shown = a.shown;
      inside = λ k p. words_inside c (f ∷ fs) a.sp k (a.opened, all) p;
      off = λ q k i p. off_words c a.base os (f ∷ fs) a.sp q k (a.opened, all) a.owned i p;
      on = λ w new u d small shape sees shown words.
          let behind = to + 4 * (count + 2) in
          let t4 = memory.put m3.new 10 w in
          let at4 = replied_at e rc.regs rc.view u behind m3.new a.bytes d w small sees rc.at in
          let pf = proxy_front number count in
          let sj : IsCode e behind (Jalr 0 1 (pos 0) ∷ []) = subst (λ k. IsCode e (to + 4 * k) (Jalr 0 1 (pos 0) ∷ [])) pf (back e to (moves_code count ++ addi 10 0 (pos number) ∷ Ecall ∷ []) (Jalr 0 1 (pos 0) ∷ []) (subst (λ k. IsCode e to k) (proxy_end number count) gate.stands)) in
          let one : t4 1 ≡ pc1 + 8 = put_other m3.new 10 w 1 (λ q. omega (arith, q)) ∙ ret in
          let m5 = (instructions e (with_reg rc.regs 10 w) u behind t4 d a.opened.place at4).return 1 (pc1 + 8) (pos 0) sj.0 (below e behind (Jalr 0 1 (pos 0)) [] sj) (ap (λ n. plus n (pos 0)) one ∙ plus_up (pc1 + 8) 0 (omega (arith, f1, l2, ly)) ∙ omega arith) (behind_aligned pc (length x) a.at.aligned) in
          let same_count = shape.count in
          let ext : Extends a.base os a.base new = record { more = omega (arith, same_count); bases = λ q h. refl; widths = λ q h. shape.widths q } in
          let in_same : (q k : ℕ) → IsIn a.base new q k → IsIn a.base os q k = λ q k i. (i.0, subst (λ n. k < a.base q + n) (shape.sizes q) i.1) in
          let four = words_four g in
          let fixed : (j : ℕ) → 2 ≤ j → j < 5 → t4 j ≡ a.registers j = λ j p q. put_other m3.new 10 w j (λ n. omega (arith, n, q)) ∙ three j (inl (omega (arith, q))) (λ n. omega (arith, n, p)) in
          let rest : Rests c new f' fs m5.regs m5.view (pc1 + 8) = record {
            base = a.base;
            sp = a.sp;
            registers = t4;
            bytes = d;
            known = a.known;
            opened = a.opened;
            at = m5.at;
            pointer = fixed 2 (omega arith) (omega arith) ∙ a.pointer;
            top = fixed 3 (omega arith) (omega arith) ∙ a.top;
            low = fixed 4 (omega arith) (omega arith) ∙ a.low;
            cells = λ i q h. let k = take_get f.cells at i q h in
                subst (λ n. Means c a.base new q n) (sym (cells_stay g a.sp a.registers t4 a.bytes d i (cell_room c os f fs r v pc a i q k.1) (λ j p. put_other m3.new 10 w j (λ n. omega (arith, n, p)) ∙ kept j p) (λ n p p'. words n (inl (p, p'))))) (means_kept c a.base os a.base new q _ ext (a.cells i q k.1));
            few = let tl = take_length f.cells at (omega (arith, there)) in let rm = has.room in omega (arith, tl, rm);
            below = subst (λ n. AreBelow c a.base new fs (a.sp + g.frame) n d) (sym (same_number d a.bytes a.sp 4 (λ n p q. words n (inl (p, omega (arith, q, four)))))) (below_kept c a.base os a.base new fs (a.sp + g.frame) (number_at a.bytes a.sp 4) a.bytes d ext (λ n p. words n (inr p)) a.below);
            shown = shown;
            owned = owned_kept c a.base os a.base new (f ∷ fs) a.sp ext (λ q n i p p'. in_same q n i) (let t = a.opened.top in omega (arith, t)) (a.opened, all) a.owned;
            under = λ q n i p p'. a.under q n (in_same q n i) p p';
          } in
          let tl = take_length f.cells at (omega (arith, there)) in
          let hc : Writes g (take at f.cells) at = record { next = omega (arith, tl); room = has.room } in
          let st : IsCode e (pc1 + 8) z = subst (λ n. IsCode e (pc1 + 4 * n) z) ly (back e pc1 y z s1) in
          let hn = here.next in
          let tk = taken_in c new f' fs m5.regs m5.view (pc1 + 8) rest (Int w) hc (put_same m3.new 10 w 10 refl) st (hn ∙ omega (arith, l1, l2, ly)) in
          let lz1 = lz.1 in
          went_later c 1 (length z) 4 (with_reg rc.regs 10 w) u m5.regs m5.view new (record f' { cells = put f'.cells f'.wants (Int w) }) fs (omega (arith, lz1)) m5.leads m5.only tk;
    }

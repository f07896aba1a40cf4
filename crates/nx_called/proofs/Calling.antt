-- The called function's entry is reached: the cells that are kept stand in their words.
use Rattle.std.proofs.Common.{◌≡◌, ℕ, ◌+◌, ◌-◌, ◌*◌, ◌%◌, ◌^◌, ◌<◌, ◌≤◌, ◌⊎◌, inl, inr, true, false, List, ◌++◌, length, refl, sym, ap, ◌∙◌, arith, ⊎_elim}
use Rattle.std.specs.Prelude.{nat_le, nat_lt, ◌&&◌}
use Rattle.std.proofs.lemmas.Bool.{cases_lt}
use Rattle.std.proofs.lemmas.Bool.Decides.{nat_tests}
use Rattle.nx_base.specs.declared.regs.Regs.{Regs}
use Rattle.nx_base.specs.Views.{View}
use Rattle.nx_rv.specs.declared.inst.Inst.{Inst}
use Rattle.nx_slot.specs.declared.program.SlotFunction.{SlotFunction}
use Rattle.nx_codegen.specs.Frames.{in_register, register_of, cell_at, words_end}
use Rattle.nx_codegen.specs.Cells.{IsCell}
use Rattle.nx_codegen.specs.Calling.{arguments_code, kept_at, save_code, call_code}
use Rattle.nx_shown.specs.Bytes.{Bytes, number_at}
use Rattle.nx_shown.specs.Places.{Place}
use Rattle.nx_shown.specs.Leading.{At, Next}
use Rattle.nx_shown.proofs.Stores.{same_number}
use Rattle.nx_shown.proofs.Steps.{on}
use Rattle.nx_pieces.specs.Parts.{IsCode}
use Rattle.nx_pieces.specs.Cells.{cell_word, Open}
use Rattle.nx_pieces.proofs.Parts.{front, back}
use Rattle.nx_pieces.proofs.Cells.{by_test, register_bounds, local_at, temporary_at}
use Rattle.nx_pieces.proofs.Writes.{cell_in_register, cell_in_word}
use Rattle.nx_calling.proofs.Handing.{come, calls}
use Rattle.nx_calling.proofs.Keeping.{kept}
use Rattle.nx_called.proofs.Lengths.{arguments_length, call_two, kept_bounds, save_length}

words_end_is : (g : SlotFunction) → words_end g ≡ 4 * (1 + g.temporaries + g.locals)
unfolding words_end
words_end_is g = refl

register_is : (g : SlotFunction) (sp : ℕ) (t : ℕ → ℕ) (b : Bytes) (i : ℕ) → in_register g i ≡ true → t (18 + (i - g.locals)) ≡ cell_word g sp t b i
unfolding register_of
register_is g sp t b i q = sym (cell_in_register g sp t b i q)

both_hold : (g : SlotFunction) (i : ℕ) → g.locals ≤ i → i < g.locals + 8 → (nat_le g.locals i && nat_lt i (g.locals + 8)) ≡ false → ⊥
both_hold g i l h q = grind (arith, nat_tests)

not_register : (g : SlotFunction) (i : ℕ) → in_register g i ≡ false → g.locals ≤ i → 8 ≤ i - g.locals
unfolding in_register
not_register g i q l = ⊎_elim (λ h. absurd (both_hold g i l h q)) (λ h. omega (arith, h)) (cases_lt i (g.locals + 8))

far : (g : SlotFunction) (at sp i m k : ℕ) → in_register g i ≡ false → IsCell g i → sp + cell_at g i ≤ k → m ≤ 8 → m ≤ at - g.locals → at < g.locals + g.temporaries → sp + 4 * (1 + m) ≤ k
far g at sp i m k q h p lb0 lb1 room = ⊎_elim
    (λ l. let e = local_at g i l in omega (arith, e, p, lb1, room))
    (λ l. let e = temporary_at g i l in let n = not_register g i q l in omega (arith, e, p, lb0, n))
    (cases_lt i g.locals)

pub record Entering (e : Place) (g : SlotFunction) (sp to at count ret : ℕ) (r : Regs) (v : View) (t : ℕ → ℕ) (b : Bytes) : Type 0 where
  pub new : ℕ → ℕ
  pub bytes : Bytes
  pub steps : ℕ
  pub next : Next e steps r v to new bytes
  pub few : steps ≤ 16
  pub back : new 1 ≡ ret
  pub fixed : (j : ℕ) → 2 ≤ j → j < 5 → new j ≡ t j
  pub arguments : (j : ℕ) → j < count → new (10 + j) ≡ cell_word g sp t b (at + j)
  pub held : (i : ℕ) → i < at → number_at bytes (sp + cell_at g i) 4 ≡ cell_word g sp t b i
  pub rest : (k : ℕ) → (k < sp + 4) ⊎ (sp + words_end g ≤ k) → bytes k ≡ b k

pub entering : (e : Place) (g : SlotFunction) (sp to at count : ℕ) (r : Regs) (v : View) (pc : ℕ) (t : ℕ → ℕ) (b : Bytes) (behind : List Inst) → Open e g sp → g.locals ≤ at → IsCell g at → at + count ≤ g.locals + g.temporaries → count ≤ 6 → t 2 ≡ sp → to < 2 ^ 32 → to % 4 ≡ 0
    → IsCode e pc (save_code (kept_at g at) ++ (arguments_code g at count ++ (call_code to ++ behind))) → At e r v pc t b → Entering e g sp to at count (pc + 4 * (kept_at g at + count + 2)) r v t b
entering e g sp to at count r v pc t b behind o temp room there few two small al s a =
    let m = kept_at g at in
    let lb = kept_bounds g at in let lb0 = lb.0 in let lb1 = lb.1 in let lb2 = lb.2 in
    let x = save_code m in let y = arguments_code g at count in let z = call_code to in
    let ft = o.function.temporaries in
    let lx = save_length m in let ly = arguments_length g at count temp there ft in let lz = call_two to in
    let we = words_end_is g in
    let a1 = kept e g sp m r v pc t b o lb0 (omega (arith, lb1, room)) two (front e pc x (y ++ (z ++ behind)) s) a in
    let pc1 = pc + 4 * length x in
    let s1 = back e pc x (y ++ (z ++ behind)) s in
    let b1 = a1.bytes in
    let same_word : (i : ℕ) → IsCell g i → in_register g i ≡ false → number_at b1 (sp + cell_at g i) 4 ≡ number_at b (sp + cell_at g i) 4 = λ i h q.
    same_number b1 b (sp + cell_at g i) 4 (λ k p w. a1.rest k (inr (far g at sp i m k q h p lb0 lb1 room))) in
    let same_cell : (i : ℕ) → IsCell g i → cell_word g sp t b1 i ≡ cell_word g sp t b i = λ i h. by_test (in_register g i)
    (λ q. cell_in_register g sp t b1 i q ∙ sym (cell_in_register g sp t b i q))
    (λ q. cell_in_word g sp t b1 i q ∙ same_word i h q ∙ sym (cell_in_word g sp t b i q)) in
    let a2 = come e g sp at count a1.next.regs a1.next.view pc1 t b1 o few there two (front e pc1 y (z ++ behind) s1) a1.next.at in
    let pc2 = pc1 + 4 * length y in
    let s2 = back e pc1 y (z ++ behind) s1 in
    let a3 = calls e a2.next.regs a2.next.view pc2 to a2.new b1 o.place small al (front e pc2 z behind s2) a2.next.at in
    let n1 = on e (length y) 2 a1.next.regs a1.next.view pc2 to a2.new a3.new b1 b1 a2.next a3.next in
    record {
      new = a3.new;
      bytes = b1;
      steps = length x + (length y + 2);
      next = on e (length x) (length y + 2) r v pc1 to t a3.new b1 b1 a1.next n1;
      few = omega (arith, lx, ly, lb0, few);
      back = a3.back ∙ omega (arith, lx, ly);
      fixed = λ j p q. a3.others j (λ k. omega (arith, k, p)) ∙ a2.others j (inl (omega (arith, q)));
      arguments = λ j h. a3.others (10 + j) (λ k. omega (arith, k)) ∙ a2.arguments j h ∙ same_cell (at + j) (omega (arith, h, there));
      held = λ i h. by_test (in_register g i)
          (λ q. let rb = register_bounds g i q in let rb0 = rb.0 in let rb1 = rb.1 in let ta = temporary_at g i rb0 in
          ap (λ k. number_at b1 (sp + k) 4) ta ∙ a1.words (i - g.locals) (lb2 (i - g.locals) (omega (arith, rb0, rb1)) (omega (arith, rb0, h))) ∙ register_is g sp t b i q)
          (λ q. same_word i (omega (arith, h, room)) q ∙ sym (cell_in_word g sp t b i q));
      rest = λ k h. a1.rest k (⊎_elim (λ w. inl w) (λ w. inr (omega (arith, w, we, lb1, room))) h);
    }

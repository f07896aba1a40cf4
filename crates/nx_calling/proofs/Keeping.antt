-- Temporaries go into their words and come back.
use Rattle.std.proofs.Common.{◌≡◌, ℕ, zero, suc, ◌+◌, ◌*◌, ◌<◌, ◌≤◌, inl, inr, true, [], ◌∷◌, length, refl, ap, ◌∙◌, subst, arith, ⊎_elim}
use Rattle.std.specs.Prelude.{pos}
use Rattle.std.proofs.lemmas.Bool.{cases_lt}
use Rattle.std.proofs.lemmas.Bool.Decides.{nat_tests}
use Rattle.nx_rv.specs.declared.inst.Inst.TheVariants.{Load, Store}
use Rattle.nx_rv.specs.Execution.{plus}
use Rattle.nx_slot.specs.declared.program.SlotFunction.{SlotFunction}
use Rattle.nx_codegen.specs.Frames.{words_end}
use Rattle.nx_codegen.specs.Calling.{save_code, restore_code}
use Rattle.nx_shown.specs.Bytes.{put, number_at, with_number}
use Rattle.nx_shown.specs.Leading.{IsWritten}
use Rattle.nx_shown.proofs.Stores.{put_same, put_other, number_put, other_number, other_byte, word_small}
use Rattle.nx_shown.proofs.Steps.{instructions}
use Rattle.nx_pieces.proofs.Parts.{below, front, back, ran_none, ran_append, plus_up}
use Rattle.nx_pieces.proofs.Cells.{words_fit, may_write, frame_fits, word_is}
use Rattle.nx_calling.specs.Laws.{TemporariesAreKept, TemporariesComeBack}

words_end_is : (g : SlotFunction) → words_end g ≡ 4 * (1 + g.temporaries + g.locals)
unfolding words_end
words_end_is g = refl

pub kept : TemporariesAreKept
unfolding save_code
kept e g sp zero r v pc t b o h k two s a = record { bytes = b; next = ran_none e r v pc t b a; words = λ d l. absurd (omega (arith, l)); rest = λ c l. refl }
kept e g sp (suc d) r v pc t b o h k two s a =
    let y = save_code d in
    let i = Store 4 2 (18 + d) (pos (4 * (1 + d))) in
    let at = sp + 4 * (1 + d) in
    let m = kept e g sp d r v pc t b o (omega arith) (omega arith) two (front e pc y (i ∷ []) s) a in
    let s2 = back e pc y (i ∷ []) s in
    let fit = words_fit e g sp o in let end = words_end_is g in
    let p = frame_fits e g sp o in let spa = o.aligned in
    let b1 = with_number m.bytes at 4 (t (18 + d)) in
    let one = (instructions e m.next.regs m.next.view (pc + 4 * length y) t m.bytes o.place m.next.at).store 4 2 (18 + d) at (t (18 + d)) (pos (4 * (1 + d))) s2.0 (below e (pc + 4 * length y) i [] s2) (ap (λ z. plus z (pos (4 * (1 + d)))) two ∙ plus_up sp (4 * (1 + d)) (omega (arith, p, fit, end, k))) (omega (arith, spa)) (omega arith) (may_write e g sp (4 * (1 + d)) o (omega (arith, fit, end, k))) refl in
    record {
      bytes = b1;
      next = ran_append e y (i ∷ []) r v pc t t m.bytes b1 m.next one;
      words = λ c l. ⊎_elim
          (λ q. other_number m.bytes at 4 (t (18 + d)) (sp + 4 * (1 + c)) 4 (inl (omega (arith, q))) ∙ m.words c q)
          (λ q. let z : d ≡ c = omega (arith, l, q) in subst (λ n. number_at b1 (sp + 4 * (1 + n)) 4 ≡ t (18 + n)) z (number_put m.bytes at 4 (t (18 + d)) (a.small (18 + d))))
          (cases_lt c d);
      rest = λ c l. other_byte m.bytes at 4 (t (18 + d)) c (⊎_elim (λ q. inl (omega arith)) (λ q. inr (omega arith)) l) ∙ m.rest c (⊎_elim (λ q. inl q) (λ q. inr (omega arith)) l);
    }

written : (n : ℕ) → 1 ≤ n → n < 32 → IsWritten n
written n l h = (grind (arith, nat_tests), h)

pub come_back : TemporariesComeBack
unfolding restore_code
come_back e g sp zero r v pc t b o h k two s a = record { new = t; next = ran_none e r v pc t b a; words = λ d l. absurd (omega (arith, l)); others = λ j l. refl }
come_back e g sp (suc d) r v pc t b o h k two s a =
    let y = restore_code d in
    let i = Load 4 true (18 + d) 2 (pos (4 * (1 + d))) in
    let at = sp + 4 * (1 + d) in
    let x = number_at b at 4 in
    let m = come_back e g sp d r v pc t b o (omega arith) (omega arith) two (front e pc y (i ∷ []) s) a in
    let s2 = back e pc y (i ∷ []) s in
    let fit = words_fit e g sp o in let end = words_end_is g in
    let p = frame_fits e g sp o in let spa = o.aligned in
    let two' = m.others 2 (inl (omega arith)) ∙ two in
    let one = (instructions e m.next.regs m.next.view (pc + 4 * length y) m.new b o.place m.next.at).load 4 true (18 + d) 2 at x (pos (4 * (1 + d))) s2.0 (below e (pc + 4 * length y) i [] s2) (written (18 + d) (omega arith) (omega arith)) (ap (λ z. plus z (pos (4 * (1 + d)))) two' ∙ plus_up sp (4 * (1 + d)) (omega (arith, p, fit, end, k))) (omega (arith, spa)) (omega arith) (inl (may_write e g sp (4 * (1 + d)) o (omega (arith, fit, end, k)))) (word_is x) (word_small b at a.sees.small) in
    let u = put m.new (18 + d) x in
    record {
      new = u;
      next = ran_append e y (i ∷ []) r v pc m.new u b b m.next one;
      words = λ c l. ⊎_elim
          (λ q. put_other m.new (18 + d) x (18 + c) (λ w. omega (arith, w, q)) ∙ m.words c q)
          (λ q. let z : d ≡ c = omega (arith, l, q) in subst (λ n. u (18 + n) ≡ number_at b (sp + 4 * (1 + n)) 4) z (put_same m.new (18 + d) x (18 + d) refl))
          (cases_lt c d);
      others = λ j l. put_other m.new (18 + d) x j (λ q. ⊎_elim (λ w. omega (arith, q, w)) (λ w. omega (arith, q, w)) l) ∙ m.others j (⊎_elim (λ q. inl q) (λ q. inr (omega arith)) l);
    }

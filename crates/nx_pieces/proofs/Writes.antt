-- Code that reads and writes one cell of the open frame.
use Rattle.std.proofs.Common.{◌≡◌, ◌≢◌, ℕ, ◌+◌, ◌*◌, ◌^◌, ◌<◌, ◌≤◌, inl, inr, true, false, List, [], ◌∷◌, ◌++◌, length, refl, sym, ap, ◌∙◌, subst, arith, ⊎_elim}
use Rattle.std.specs.Prelude.{pos, if◌then◌else◌}
use Rattle.std.proofs.lemmas.Bool.Decides.{nat_tests}
use Rattle.nx_base.specs.declared.regs.Regs.{Regs}
use Rattle.nx_base.specs.Views.{View}
use Rattle.nx_rv.specs.declared.inst.Inst.{Inst}
use Rattle.nx_slot.specs.declared.program.SlotFunction.{SlotFunction}
use Rattle.nx_codegen.specs.Frames.{in_register, register_of, cell_at}
use Rattle.nx_codegen.specs.Cells.{IsCell}
use Rattle.nx_codegen.specs.Moves.{addi, load_code, store_code, into_code, get_code, source, set_code}
use Rattle.nx_shown.specs.Bytes.{Bytes, number_at, with_number}
use Rattle.nx_shown.specs.Places.{Place}
use Rattle.nx_shown.specs.Leading.{At, IsWritten}
use Rattle.nx_shown.proofs.Stores.{number_put, other_number, other_byte}
use Rattle.nx_pieces.specs.Parts.{IsCode, Ran, Sets}
use Rattle.nx_pieces.specs.Cells.{cell_word, Open, IsSpare, Got, Keeps, Wrote}
use Rattle.nx_pieces.specs.Laws.{CellsAreRead, CellsAreWritten}
use Rattle.nx_pieces.proofs.Parts.{back, ran_none, ran_append, sets_one, copy_next}
use Rattle.nx_pieces.proofs.Cells.{by_test, register_bounds, inside, cells_apart, words_fit, load_sets, store_saves}

spare_written : (s : ℕ) → IsSpare s → IsWritten s
spare_written s h = (grind (arith, nat_tests), omega (arith, h))

pub cell_in_register : (g : SlotFunction) (sp : ℕ) (t : ℕ → ℕ) (b : Bytes) (i : ℕ) → in_register g i ≡ true → cell_word g sp t b i ≡ t (register_of g i)
unfolding cell_word
cell_in_register g sp t b i q = rw q refl

pub cell_in_word : (g : SlotFunction) (sp : ℕ) (t : ℕ → ℕ) (b : Bytes) (i : ℕ) → in_register g i ≡ false → cell_word g sp t b i ≡ number_at b (sp + cell_at g i) 4
unfolding cell_word
cell_in_word g sp t b i q = rw q refl

source_in_register : (g : SlotFunction) (s i : ℕ) → in_register g i ≡ true → source g s i ≡ register_of g i
unfolding source
source_in_register g s i q = rw q refl

source_in_word : (g : SlotFunction) (s i : ℕ) → in_register g i ≡ false → source g s i ≡ s
unfolding source
source_in_word g s i q = rw q refl

pub record IsCellRegister (g : SlotFunction) (i : ℕ) : Type 0 where
  pub low : 18 ≤ register_of g i
  pub high : register_of g i < 26

pub cell_register : (g : SlotFunction) (i : ℕ) → in_register g i ≡ true → IsCellRegister g i
unfolding register_of
cell_register g i q = let h = register_bounds g i q in record { low = omega arith; high = omega (arith, h) }

registers_apart : (g : SlotFunction) (i j : ℕ) → in_register g i ≡ true → in_register g j ≡ true → i ≢ j → register_of g i ≢ register_of g j
unfolding register_of
registers_apart g i j p q o e = let h = register_bounds g i p in let k = register_bounds g j q in o (omega (arith, h, k, e))

-- A cell's value comes into a register.
pub got : (e : Place) (g : SlotFunction) (sp : ℕ) (r : Regs) (v : View) (pc s i : ℕ) (t : ℕ → ℕ) (b : Bytes) → Open e g sp → IsSpare s → IsCell g i → t 2 ≡ sp → IsCode e pc (get_code g s i) → At e r v pc t b → Got e (get_code g s i) r v pc s (source g s i) (cell_word g sp t b i) t b
unfolding get_code
got e g sp r v pc s i t b o z h two st a = by_test (in_register g i)
    (λ q. let n = ran_none e r v pc t b a in record {
      new = t;
      next = rw q n;
      is = ap t (source_in_register g s i q) ∙ sym (cell_in_register g sp t b i q);
      others = λ j k. refl;
    })
    (λ q.
    let w = inside g i h in
    let fit = words_fit e g sp o in
    let code = if in_register g i then [] else load_code s (cell_at g i) in
    let same : code ≡ load_code s (cell_at g i) = rw q refl in
    let m = load_sets e g sp r v pc s (cell_at g i) t b o (let k = w.top in omega (arith, k, fit)) w.aligned (spare_written s z) (λ k. omega (arith, k, z)) two (subst (λ c. IsCode e pc c) same st) a in
    record {
      new = m.new;
      next = subst (λ c. Ran e c r v pc m.new b) (sym same) m.next;
      is = ap m.new (source_in_word g s i q) ∙ m.is ∙ sym (cell_in_word g sp t b i q);
      others = m.others;
    })

pub into_sets : (e : Place) (g : SlotFunction) (sp : ℕ) (r : Regs) (v : View) (pc rd i : ℕ) (t : ℕ → ℕ) (b : Bytes) → Open e g sp → IsWritten rd → rd ≢ 2 → IsCell g i → t 2 ≡ sp → IsCode e pc (into_code g rd i) → At e r v pc t b → Sets e (into_code g rd i) r v pc rd (cell_word g sp t b i) t b
unfolding into_code
into_sets e g sp r v pc rd i t b o z out h two st a = by_test (in_register g i)
    (λ q.
    let code = if in_register g i then addi rd (register_of g i) (pos 0) ∷ [] else load_code rd (cell_at g i) in
    let same : code ≡ addi rd (register_of g i) (pos 0) ∷ [] = rw q refl in
    let n = sets_one e _ r v pc rd (t (register_of g i)) t b (copy_next e r v pc t b rd (register_of g i) o.place (subst (λ c. IsCode e pc c) same st) z a) in
    let m = subst (λ c. Sets e c r v pc rd (t (register_of g i)) t b) (sym same) n in
    subst (λ x. Sets e code r v pc rd x t b) (sym (cell_in_register g sp t b i q)) m)
    (λ q.
    let w = inside g i h in
    let fit = words_fit e g sp o in
    let code = if in_register g i then addi rd (register_of g i) (pos 0) ∷ [] else load_code rd (cell_at g i) in
    let same : code ≡ load_code rd (cell_at g i) = rw q refl in
    let n = load_sets e g sp r v pc rd (cell_at g i) t b o (let k = w.top in omega (arith, k, fit)) w.aligned z out two (subst (λ c. IsCode e pc c) same st) a in
    let m = subst (λ c. Sets e c r v pc rd (number_at b (sp + cell_at g i) 4) t b) (sym same) n in
    subst (λ x. Sets e code r v pc rd x t b) (sym (cell_in_word g sp t b i q)) m)

pub reads : CellsAreRead
reads e g sp r v pc i t b o h two a = record {
  got = λ s z st. got e g sp r v pc s i t b o z h two st a;
  into = λ rd z out st. into_sets e g sp r v pc rd i t b o z out h two st a;
}

-- A register's number is written into a cell that has a word.
pub stores_cell : (e : Place) (g : SlotFunction) (sp : ℕ) (code : List Inst) (r : Regs) (v : View) (pc to rs x : ℕ) (t u w : ℕ → ℕ) (b : Bytes) → Open e g sp → IsCell g to → t 2 ≡ sp → Keeps t u → ((j : ℕ) → j ≢ 5 → w j ≡ u j) → rs ≢ 7 → w rs ≡ x → in_register g to ≡ false
    → IsCode e pc (code ++ store_code rs (cell_at g to)) → Ran e code r v pc w b → Wrote e g sp (code ++ store_code rs (cell_at g to)) r v pc to x t b
stores_cell e g sp code r v pc to rs x t u w b o h two keeps others out is q st n =
    let z = inside g to h in
    let fit = words_fit e g sp o in
    let two' : w 2 ≡ sp = others 2 (λ k. omega (arith, k)) ∙ keeps.fixed 2 (omega arith) (omega arith) ∙ two in
    let s = store_saves e g sp n.regs n.view (pc + 4 * length code) rs (cell_at g to) x w b o (let k = z.top in omega (arith, k, fit)) z.aligned out two' is
    (back e pc code (store_code rs (cell_at g to)) st) n.at in
    let made = with_number b (sp + cell_at g to) 4 x in
    let small : x < 2 ^ 32 = subst (λ k. k < 2 ^ 32) is (n.at.small rs) in
    record {
      new = s.new;
      bytes = made;
      next = ran_append e code (store_code rs (cell_at g to)) r v pc w s.new b made n s.next;
      fixed = λ j k m. s.others j (λ p. omega (arith, p, m)) ∙ others j (λ p. omega (arith, p, m)) ∙ keeps.fixed j k m;
      is = cell_in_word g sp s.new made to q ∙ number_put b (sp + cell_at g to) 4 x small;
      others = λ i k m. by_test (in_register g i)
          (λ p. let c = cell_register g i p in cell_in_register g sp s.new made i p ∙ s.others (register_of g i) (λ y. let z = c.low in omega (arith, y, z)) ∙ others (register_of g i) (λ y. let z = c.low in omega (arith, y, z)) ∙ keeps.temporaries (register_of g i) c.low ∙ sym (cell_in_register g sp t b i p))
          (λ p. cell_in_word g sp s.new made i p ∙ other_number b (sp + cell_at g to) 4 x (sp + cell_at g i) 4 (⊎_elim (λ y. inl (omega arith)) (λ y. inr (omega arith)) (cells_apart g i to k h m)) ∙ sym (cell_in_word g sp t b i p));
      rest = λ c k. other_byte b (sp + cell_at g to) 4 x c (let y = z.low in let y' = z.top in ⊎_elim (λ m. inl (omega arith)) (λ m. inr (omega arith)) k);
    }

-- What stands in a cell's register, or in 5, is written.
pub put_cell : CellsAreWritten
unfolding set_code
put_cell e g sp code r v pc to x t u w b o h two keeps others is st n = by_test (in_register g to) kept stored
  where
    last : List Inst
    last = if in_register g to then [] else store_code 5 (cell_at g to)

    kept : in_register g to ≡ true → Wrote e g sp (code ++ last) r v pc to x t b
    kept q =
        let c = cell_register g to q in
        let d = source_in_register g 5 to q in
        let same : last ≡ [] = rw q refl in
        let m = ran_append e code [] r v pc w w b b n (ran_none e n.regs n.view (pc + 4 * length code) w b n.at) in
        let away : (j : ℕ) → j ≢ register_of g to → w j ≡ u j = λ j k. others j (λ p. k (p ∙ d)) in
        record {
          new = w;
          bytes = b;
          next = subst (λ l. Ran e (code ++ l) r v pc w b) (sym same) m;
          fixed = λ j l k. away j (λ p. let z = c.low in omega (arith, p, z, k)) ∙ keeps.fixed j l k;
          is = cell_in_register g sp w b to q ∙ ap w (sym d) ∙ is;
          others = λ i l k. by_test (in_register g i)
              (λ p. cell_in_register g sp w b i p ∙ away (register_of g i) (registers_apart g i to p q k) ∙ keeps.temporaries (register_of g i) (cell_register g i p).low ∙ sym (cell_in_register g sp t b i p))
              (λ p. cell_in_word g sp w b i p ∙ sym (cell_in_word g sp t b i p));
          rest = λ c k. refl;
        }

    stored : in_register g to ≡ false → Wrote e g sp (code ++ last) r v pc to x t b
    stored q =
        let d = source_in_word g 5 to q in
        let same : last ≡ store_code 5 (cell_at g to) = rw q refl in
        subst (λ l. Wrote e g sp (code ++ l) r v pc to x t b) (sym same)
        (stores_cell e g sp code r v pc to 5 x t u w b o h two keeps (λ j k. others j (λ p. k (p ∙ d))) (λ k. omega (arith, k)) (ap w (sym d) ∙ is) q (subst (λ k. IsCode e pc (code ++ k)) same st) n)

-- A frame is opened and closed, and parameters come into their words.
use Rattle.std.proofs.Common.{◌≡◌, ◌≢◌, ℕ, zero, suc, ◌+◌, ◌-◌, ◌*◌, ◌^◌, ◌<◌, ◌≤◌, ◌⊎◌, inl, inr, Bool, true, false, List, [], ◌∷◌, ◌++◌, length, refl, ◌∙◌, subst, arith, ⊎_elim}
use Rattle.std.specs.Prelude.{pos, negsuc, nat_lt, nat_le, if◌then◌else◌}
use Rattle.std.proofs.lemmas.Bool.{cases_lt}
use Rattle.nx_base.specs.declared.regs.Regs.{Regs}
use Rattle.nx_base.specs.declared.operations.AluOp.TheVariants as alu
use Rattle.nx_base.specs.Arithmetic.{alu_of}
use Rattle.nx_base.specs.Views.{View}
use Rattle.nx_rv.specs.declared.inst.Inst.{Inst}
use Rattle.nx_rv.specs.declared.inst.Inst.TheVariants.{Op}
use Rattle.nx_rv.specs.Execution.{plus}
use Rattle.nx_slot.specs.declared.program.SlotFunction.{SlotFunction}
use Rattle.nx_codegen.specs.Frames.{cell_at, words_end}
use Rattle.nx_codegen.specs.Moves.{addi, number_code, store_code}
use Rattle.nx_codegen.specs.Calling.{open_code, close_code, parameters_code}
use Rattle.nx_shown.specs.Bytes.{Bytes, put, number_at, with_number}
use Rattle.nx_shown.specs.Places.{Place, IsPlace}
use Rattle.nx_shown.specs.Leading.{At, IsWritten}
use Rattle.nx_shown.proofs.Stores.{put_same, put_other, number_put, other_number, other_byte}
use Rattle.nx_pieces.specs.Parts.{IsCode, Ran}
use Rattle.nx_pieces.specs.Cells.{Open}
use Rattle.nx_pieces.proofs.Parts.{front, back, ran_none, ran_append, plus_up, add_next, number_sets}
use Rattle.nx_pieces.proofs.Cells.{inside, cells_apart, words_fit, store_saves}
use Rattle.nx_operations.proofs.Operators.{two_next}

-- The stack pointer is another, and none but register 5 besides.
pub record Shifted (e : Place) (code : List Inst) (r : Regs) (v : View) (pc x : ℕ) (t : ℕ → ℕ) (b : Bytes) : Type 0 where
  pub new : ℕ → ℕ
  pub next : Ran e code r v pc new b
  pub is : new 2 ≡ x
  pub others : (j : ℕ) → j ≢ 2 → j ≢ 5 → new j ≡ t j

plus_down : (n k : ℕ) → 1 ≤ k → k ≤ n → n < 2 ^ 32 → plus n (negsuc (k - 1)) ≡ n - k
unfolding plus
plus_down n k a b c = omega arith

pub sub_down : (a b : ℕ) → b ≤ a → a < 2 ^ 32 → alu_of alu.Sub a b ≡ a - b
unfolding alu_of
sub_down a b h k = omega arith

sum_up : (a b : ℕ) → a + b < 2 ^ 32 → alu_of alu.Add a b ≡ a + b
unfolding alu_of
sum_up a b h = omega arith

two_written : IsWritten 2
two_written = (refl, omega arith)

pub five_written : IsWritten 5
five_written = (refl, omega arith)

pub opened : (e : Place) (r : Regs) (v : View) (pc n : ℕ) (t : ℕ → ℕ) (b : Bytes) → IsPlace e → 1 ≤ n → n ≤ t 2 → IsCode e pc (open_code n) → At e r v pc t b → Shifted e (open_code n) r v pc (t 2 - n) t b
unfolding open_code
opened e r v pc n t b p one h s a = by_size (nat_le n 2048) s
  where
    code : Bool → List Inst
    code q = if q then addi 2 2 (negsuc (n - 1)) ∷ [] else number_code 5 n ++ Op alu.Sub 2 2 5 ∷ []

    by_size : (q : Bool) → IsCode e pc (code q) → Shifted e (code q) r v pc (t 2 - n) t b
    by_size true s =
        let x = t 2 - n in
        let m = add_next e r v pc t b 2 2 x (negsuc (n - 1)) p s two_written (plus_down (t 2) n one h (a.small 2)) a in
        record { new = put t 2 x; next = m; is = put_same t 2 x 2 refl; others = λ j o q. put_other t 2 x j o }
    by_size false s =
        let c = number_code 5 n in let i = Op alu.Sub 2 2 5 in
        let small = a.small 2 in
        let m = number_sets e r v pc 5 n t b p (omega (arith, small, h)) five_written (front e pc c (i ∷ []) s) a in
        let x = t 2 - n in
        let w = two_next e m.next.regs m.next.view (pc + 4 * length c) m.new b alu.Sub 2 2 5 (t 2) n x p (back e pc c (i ∷ []) s) two_written tt (m.others 2 (λ q. omega (arith, q))) m.is (sub_down (t 2) n h small) m.next.at in
        record { new = put m.new 2 x; next = ran_append e c (i ∷ []) r v pc m.new (put m.new 2 x) b b m.next w; is = put_same m.new 2 x 2 refl; others = λ j o q. put_other m.new 2 x j o ∙ m.others j q }

pub closed : (e : Place) (r : Regs) (v : View) (pc n : ℕ) (t : ℕ → ℕ) (b : Bytes) → IsPlace e → t 2 + n < 2 ^ 32 → IsCode e pc (close_code n) → At e r v pc t b → Shifted e (close_code n) r v pc (t 2 + n) t b
unfolding close_code
closed e r v pc n t b p h s a = by_size (nat_lt n 2048) s
  where
    code : Bool → List Inst
    code q = if q then addi 2 2 (pos n) ∷ [] else number_code 5 n ++ Op alu.Add 2 2 5 ∷ []

    by_size : (q : Bool) → IsCode e pc (code q) → Shifted e (code q) r v pc (t 2 + n) t b
    by_size true s =
        let x = t 2 + n in
        let m = add_next e r v pc t b 2 2 x (pos n) p s two_written (plus_up (t 2) n h) a in
        record { new = put t 2 x; next = m; is = put_same t 2 x 2 refl; others = λ j o q. put_other t 2 x j o }
    by_size false s =
        let c = number_code 5 n in let i = Op alu.Add 2 2 5 in
        let m = number_sets e r v pc 5 n t b p (omega (arith, h)) five_written (front e pc c (i ∷ []) s) a in
        let x = t 2 + n in
        let w = two_next e m.next.regs m.next.view (pc + 4 * length c) m.new b alu.Add 2 2 5 (t 2) n x p (back e pc c (i ∷ []) s) two_written tt (m.others 2 (λ q. omega (arith, q))) m.is (sum_up (t 2) n h) m.next.at in
        record { new = put m.new 2 x; next = ran_append e c (i ∷ []) r v pc m.new (put m.new 2 x) b b m.next w; is = put_same m.new 2 x 2 refl; others = λ j o q. put_other m.new 2 x j o ∙ m.others j q }

-- The first parameters come into their words.
pub record Parameters (e : Place) (g : SlotFunction) (sp k : ℕ) (r : Regs) (v : View) (pc : ℕ) (t : ℕ → ℕ) (b : Bytes) : Type 0 where
  pub new : ℕ → ℕ
  pub bytes : Bytes
  pub next : Ran e (parameters_code g k) r v pc new bytes
  pub words : (j : ℕ) → j < k → number_at bytes (sp + cell_at g j) 4 ≡ t (10 + j)
  pub others : (j : ℕ) → j ≢ 7 → new j ≡ t j
  pub rest : (c : ℕ) → (c < sp + 4) ⊎ (sp + words_end g ≤ c) → bytes c ≡ b c

pub parameters : (e : Place) (g : SlotFunction) (sp k : ℕ) (r : Regs) (v : View) (pc : ℕ) (t : ℕ → ℕ) (b : Bytes) → Open e g sp → k ≤ 6 → k ≤ g.locals → t 2 ≡ sp → IsCode e pc (parameters_code g k) → At e r v pc t b → Parameters e g sp k r v pc t b
unfolding parameters_code
parameters e g sp zero r v pc t b o h l two s a = record {
  new = t;
  bytes = b;
  next = ran_none e r v pc t b a;
  words = λ j p. absurd (omega (arith, p));
  others = λ j p. refl;
  rest = λ c p. refl;
}
parameters e g sp (suc k) r v pc t b o h l two s a =
    let y = parameters_code g k in let x = store_code (10 + k) (cell_at g k) in
    let m = parameters e g sp k r v pc t b o (omega arith) (omega arith) two (front e pc y x s) a in
    let z = inside g k (omega arith) in
    let fit = words_fit e g sp o in
    let value : m.new (10 + k) ≡ t (10 + k) = m.others (10 + k) (λ q. omega (arith, q)) in
    let one = store_saves e g sp m.next.regs m.next.view (pc + 4 * length y) (10 + k) (cell_at g k) (t (10 + k)) m.new m.bytes o (let w = z.top in omega (arith, w, fit)) z.aligned (λ q. omega (arith, q)) (m.others 2 (λ q. omega (arith, q)) ∙ two) value (back e pc y x s) m.next.at in
    let d = with_number m.bytes (sp + cell_at g k) 4 (t (10 + k)) in
    record {
      new = one.new;
      bytes = d;
      next = ran_append e y x r v pc m.new one.new m.bytes d m.next one.next;
      words = λ j p. ⊎_elim
          (λ w. other_number m.bytes (sp + cell_at g k) 4 (t (10 + k)) (sp + cell_at g j) 4 (⊎_elim (λ u. inl (omega arith)) (λ u. inr (omega arith)) (cells_apart g j k (omega arith) (omega arith) (λ u. omega (arith, u, w)))) ∙ m.words j w)
          (λ w. let u : k ≡ j = omega (arith, p, w) in subst (λ i. number_at d (sp + cell_at g i) 4 ≡ t (10 + i)) u (number_put m.bytes (sp + cell_at g k) 4 (t (10 + k)) (a.small (10 + k))))
          (cases_lt j k);
      others = λ j p. one.others j p ∙ m.others j p;
      rest = λ c p. other_byte m.bytes (sp + cell_at g k) 4 (t (10 + k)) c (let z1 = z.low in let z2 = z.top in ⊎_elim (λ u. inl (omega arith)) (λ u. inr (omega arith)) p) ∙ m.rest c p;
    }

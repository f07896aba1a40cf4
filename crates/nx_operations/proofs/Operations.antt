-- Operations on the cells of an open frame.
use Rattle.std.proofs.Common.{◌≡◌, ◌≢◌, ℕ, ◌+◌, ◌*◌, ◌%◌, ◌^◌, ◌<◌, ◌≤◌, true, false, List, [], ◌∷◌, ◌++◌, length, refl, sym, ap, ◌∙◌, subst, arith, ⊎_elim, append-nil}
use Rattle.std.specs.Prelude.{pos}
use Rattle.std.proofs.lemmas.Bool.{cases_eq}
use Rattle.std.proofs.lemmas.Bool.Decides.{nat_tests}
use Rattle.nx_base.specs.declared.regs.Regs.{Regs}
use Rattle.nx_base.specs.declared.operations.AluOp.TheVariants as alu
use Rattle.nx_base.specs.Arithmetic.{alu_of}
use Rattle.nx_base.specs.Views.{View}
use Rattle.nx_rv.specs.declared.inst.Inst.{Inst}
use Rattle.nx_rv.specs.declared.inst.Inst.TheVariants.{Lui, OpImm, Op}
use Rattle.nx_rv.specs.Execution.{plus}
use Rattle.nx_slot.specs.declared.op.Binary.{Binary}
use Rattle.nx_slot.specs.declared.op.Unary.{Unary}
use Rattle.nx_slot.specs.declared.op.Operand.{Operand}
use Rattle.nx_slot.specs.declared.op.Operand.TheVariants.{Cell, Number}
use Rattle.nx_slot.specs.declared.op.Width.{Width}
use Rattle.nx_slot.specs.declared.op.Width.TheVariants.{Byte, Word}
use Rattle.nx_slot.specs.declared.program.SlotFunction.{SlotFunction}
use Rattle.nx_slot.specs.Objects.{binary, unary, bytes_of}
use Rattle.nx_codegen.specs.Addresses.{upper, lower}
use Rattle.nx_codegen.specs.Frames.{in_register, register_of, cell_at, array_at}
use Rattle.nx_codegen.specs.Cells.{IsCell}
use Rattle.nx_codegen.specs.Moves.{addi, number_code, above_code, into_code, get_code, source, set_code, target, move_code, moved_code, store_code}
use Rattle.nx_codegen.specs.Operators.{binary_code, short_code, constant_code, applied_code, unary_code, changed_code, scaled_code, indexed_code}
use Rattle.nx_codegen.specs.Code.{local_code, address_code}
use Rattle.nx_shown.specs.Bytes.{Bytes, put}
use Rattle.nx_shown.specs.Places.{Place, IsPlace}
use Rattle.nx_shown.specs.Leading.{At, IsWritten}
use Rattle.nx_shown.proofs.Stores.{put_same, put_other}
use Rattle.nx_pieces.specs.Parts.{IsCode, Ran, Sets}
use Rattle.nx_pieces.specs.Cells.{cell_word, Open, IsSpare, Got, Keeps, Wrote}
use Rattle.nx_pieces.proofs.Parts.{first, rest, front, back, ran_append, ran_cons, sets_one, sets_cons, add_next, lui_next, number_sets, above_sets, parts_make}
use Rattle.nx_pieces.proofs.Cells.{by_test}
use Rattle.nx_pieces.proofs.Writes.{cell_register, got, into_sets, stores_cell, put_cell}
use Rattle.nx_operations.specs.Laws.{Gives, operand_word, IsShown, OperationsWrite}
use Rattle.nx_operations.proofs.Numbers.{sum_is, scaled_is}
use Rattle.nx_operations.proofs.Operators.{two_next, one_next, gives, short_gives, binaries, constants, unaries}

-- Code that left the kept registers and the temporaries as they were.
pub keeps_same : (t : ℕ → ℕ) → Keeps t t
keeps_same t = record { fixed = λ j a b. refl; temporaries = λ j a. refl }

pub keeps_then : (t u w : ℕ → ℕ) → Keeps t u → Keeps u w → Keeps t w
keeps_then t u w p q = record { fixed = λ j a b. q.fixed j a b ∙ p.fixed j a b; temporaries = λ j a. q.temporaries j a ∙ p.temporaries j a }

pub keeps_others : (t u : ℕ → ℕ) (s : ℕ) → IsSpare s → ((j : ℕ) → j ≢ s → u j ≡ t j) → Keeps t u
keeps_others t u s z o = record { fixed = λ j a b. o j (λ k. omega (arith, k, z, b)); temporaries = λ j a. o j (λ k. omega (arith, k, z, a)) }

pub same_cell : (g : SlotFunction) (sp : ℕ) (t u : ℕ → ℕ) (b : Bytes) (i : ℕ) → Keeps t u → cell_word g sp u b i ≡ cell_word g sp t b i
unfolding cell_word register_of
same_cell g sp t u b i h = by_test (in_register g i) (λ q. rw q (h.temporaries _ (omega arith))) (λ q. rw q refl)

-- Code in front that changes spare registers alone.
pub wrote_behind : (e : Place) (g : SlotFunction) (sp : ℕ) (a c : List Inst) (r : Regs) (v : View) (pc to x : ℕ) (t u : ℕ → ℕ) (b : Bytes) → Keeps t u → (n : Ran e a r v pc u b) → Wrote e g sp c n.regs n.view (pc + 4 * length a) to x u b → Wrote e g sp (a ++ c) r v pc to x t b
wrote_behind e g sp a c r v pc to x t u b k n w = record {
  new = w.new;
  bytes = w.bytes;
  next = ran_append e a c r v pc u w.new b w.bytes n w.next;
  fixed = λ j l m. w.fixed j l m ∙ k.fixed j l m;
  is = w.is;
  others = λ i l m. w.others i l m ∙ same_cell g sp t u b i k;
  rest = w.rest;
}

pub five : IsSpare 5
five = (omega arith, omega arith)

pub six : IsSpare 6
six = (omega arith, omega arith)

-- A cell's register, or a spare one.
pub at_source : (g : SlotFunction) (s i : ℕ) (P : ℕ → Type 0) → (in_register g i ≡ true → P (register_of g i)) → P s → P (source g s i)
unfolding source
at_source g s i P h k = by_test (in_register g i) (λ q. rw q (h q)) (λ q. rw q k)

pub target_written : (g : SlotFunction) (to : ℕ) → IsWritten (target g to)
target_written g to = at_source g 5 to IsWritten (λ q. let c = cell_register g to q in written (register_of g to) c.low c.high) (refl, omega arith)
  where
    written : (n : ℕ) → 18 ≤ n → n < 26 → IsWritten n
    written n l h = (grind (arith, nat_tests), omega arith)

pub not_six : (g : SlotFunction) (i : ℕ) → source g 5 i ≢ 6
not_six g i = at_source g 5 i (λ n. n ≢ 6) (λ q e. let c = (cell_register g i q).low in omega (arith, c, e)) (λ e. omega (arith, e))

pub not_two : (g : SlotFunction) (i : ℕ) → source g 5 i ≢ 2
not_two g i = at_source g 5 i (λ n. n ≢ 2) (λ q e. let c = (cell_register g i q).low in omega (arith, c, e)) (λ e. omega (arith, e))

-- A value comes in, and what code gives of it is written.
pub sets_cell : (e : Place) (g : SlotFunction) (sp : ℕ) (c : List Inst) (r : Regs) (v : View) (pc to x : ℕ) (t : ℕ → ℕ) (b : Bytes) → Open e g sp → IsCell g to → t 2 ≡ sp → IsCode e pc (c ++ set_code g to) → Sets e c r v pc (target g to) x t b → Wrote e g sp (c ++ set_code g to) r v pc to x t b
sets_cell e g sp c r v pc to x t b o h two s m = put_cell e g sp c r v pc to x t t m.new b o h two (keeps_same t) m.others m.is s m.next

pub gives_cell : (e : Place) (g : SlotFunction) (sp : ℕ) (c : List Inst) (r : Regs) (v : View) (pc to x : ℕ) (t : ℕ → ℕ) (b : Bytes) → Open e g sp → IsCell g to → t 2 ≡ sp → IsCode e pc (c ++ set_code g to) → Gives e c r v pc (target g to) x t b → Wrote e g sp (c ++ set_code g to) r v pc to x t b
gives_cell e g sp c r v pc to x t b o h two s m =
    put_cell e g sp c r v pc to x t (put t 6 (m.new 6)) m.new b o h two (keeps_others t (put t 6 (m.new 6)) 6 six (λ j k. put_other t 6 (m.new 6) j k))
    (λ j k. ⊎_elim (λ q. ap m.new q ∙ sym (put_same t 6 (m.new 6) j q)) (λ q. m.others j k q ∙ sym (put_other t 6 (m.new 6) j q)) (cases_eq j 6)) m.is s m.next

-- One value comes in, and two.
pub record One (e : Place) (g : SlotFunction) (sp : ℕ) (r : Regs) (v : View) (pc i : ℕ) (t : ℕ → ℕ) (b : Bytes) : Type 0 where
  pub got : Got e (get_code g 5 i) r v pc 5 (source g 5 i) (cell_word g sp t b i) t b
  pub keeps : Keeps t got.new
  pub two : got.new 2 ≡ sp

pub one_in : (e : Place) (g : SlotFunction) (sp : ℕ) (r : Regs) (v : View) (pc i : ℕ) (t : ℕ → ℕ) (b : Bytes) → Open e g sp → IsCell g i → t 2 ≡ sp → IsCode e pc (get_code g 5 i) → At e r v pc t b → One e g sp r v pc i t b
one_in e g sp r v pc i t b o h two s a =
    let m = got e g sp r v pc 5 i t b o five h two s a in
    record { got = m; keeps = keeps_others t m.new 5 five m.others; two = m.others 2 (λ k. omega (arith, k)) ∙ two }

pub wrote_one : (e : Place) (g : SlotFunction) (sp : ℕ) (c : List Inst) (r : Regs) (v : View) (pc to i x : ℕ) (t : ℕ → ℕ) (b : Bytes) → (n : One e g sp r v pc i t b) → Wrote e g sp c n.got.next.regs n.got.next.view (pc + 4 * length (get_code g 5 i)) to x n.got.new b → Wrote e g sp (get_code g 5 i ++ c) r v pc to x t b
wrote_one e g sp c r v pc to i x t b n w = wrote_behind e g sp (get_code g 5 i) c r v pc to x t n.got.new b n.keeps n.got.next w

-- A second value comes into a register of its own.
pub record Both (e : Place) (g : SlotFunction) (sp : ℕ) (r : Regs) (v : View) (pc i j : ℕ) (t : ℕ → ℕ) (b : Bytes) : Type 0 where
  pub one : One e g sp r v pc i t b
  pub got : Got e (get_code g 6 j) one.got.next.regs one.got.next.view (pc + 4 * length (get_code g 5 i)) 6 (source g 6 j) (cell_word g sp t b j) one.got.new b
  pub keeps : Keeps one.got.new got.new
  pub left : got.new (source g 5 i) ≡ cell_word g sp t b i
  pub two : got.new 2 ≡ sp

pub both_in : (e : Place) (g : SlotFunction) (sp : ℕ) (r : Regs) (v : View) (pc i j : ℕ) (t : ℕ → ℕ) (b : Bytes) → Open e g sp → IsCell g i → IsCell g j → t 2 ≡ sp → IsCode e pc (get_code g 5 i) → IsCode e (pc + 4 * length (get_code g 5 i)) (get_code g 6 j) → At e r v pc t b → Both e g sp r v pc i j t b
both_in e g sp r v pc i j t b o h k two s q a =
    let n = one_in e g sp r v pc i t b o h two s a in
    let m = got e g sp n.got.next.regs n.got.next.view (pc + 4 * length (get_code g 5 i)) 6 j n.got.new b o six k n.two q n.got.next.at in
    record {
      one = n;
      got = subst (λ x. Got e (get_code g 6 j) n.got.next.regs n.got.next.view (pc + 4 * length (get_code g 5 i)) 6 (source g 6 j) x n.got.new b) (same_cell g sp t n.got.new b j n.keeps) m;
      keeps = keeps_others n.got.new m.new 6 six m.others;
      left = m.others (source g 5 i) (not_six g i) ∙ n.got.is;
      two = m.others 2 (λ k. omega (arith, k)) ∙ n.two;
    }

pub wrote_both : (e : Place) (g : SlotFunction) (sp : ℕ) (c : List Inst) (r : Regs) (v : View) (pc to i j x : ℕ) (t : ℕ → ℕ) (b : Bytes) → (n : Both e g sp r v pc i j t b)
    → Wrote e g sp c n.got.next.regs n.got.next.view (pc + 4 * length (get_code g 5 i) + 4 * length (get_code g 6 j)) to x n.got.new b → Wrote e g sp (get_code g 5 i ++ (get_code g 6 j ++ c)) r v pc to x t b
wrote_both e g sp c r v pc to i j x t b n w =
    wrote_one e g sp (get_code g 6 j ++ c) r v pc to i x t b n.one
    (wrote_behind e g sp (get_code g 6 j) c n.one.got.next.regs n.one.got.next.view (pc + 4 * length (get_code g 5 i)) to x n.one.got.new n.got.new b n.keeps n.got.next w)

-- The operations.
applied : (e : Place) (g : SlotFunction) (sp : ℕ) (r : Regs) (v : View) (pc to : ℕ) (t : ℕ → ℕ) (b : Bytes) (op : Binary) (left : ℕ) (right : Operand) → Open e g sp → IsCell g to → t 2 ≡ sp → At e r v pc t b → IsCell g left → IsShown g right → IsCode e pc (applied_code g op to left right)
    → Wrote e g sp (applied_code g op to left right) r v pc to (binary op (cell_word g sp t b left) (operand_word g sp t b right)) t b
applied e g sp r v pc to t b op left (Cell right) o h two a l m s =
    let c = binary_code op (target g to) (source g 5 left) (source g 6 right) in
    let s2 = back e pc (get_code g 5 left) (get_code g 6 right ++ (c ++ set_code g to)) s in
    let to2 = pc + 4 * length (get_code g 5 left) in
    let s3 = back e to2 (get_code g 6 right) (c ++ set_code g to) s2 in
    let to3 = to2 + 4 * length (get_code g 6 right) in
    let n = both_in e g sp r v pc left right t b o l m two (front e pc (get_code g 5 left) (get_code g 6 right ++ (c ++ set_code g to)) s) (front e to2 (get_code g 6 right) (c ++ set_code g to) s2) a in
    wrote_both e g sp (c ++ set_code g to) r v pc to left right _ t b n
    (sets_cell e g sp c n.got.next.regs n.got.next.view to3 to _ n.got.new b o h n.two s3
    (binaries e n.got.next.regs n.got.next.view to3 n.got.new b op (target g to) (source g 5 left) (source g 6 right) _ _ o.place (front e to3 c (set_code g to) s3) (target_written g to) n.left n.got.is n.got.next.at))
applied e g sp r v pc to t b op left (Number n) o h two a l m s =
    let c = constant_code op (target g to) (source g 5 left) n in
    let s2 = back e pc (get_code g 5 left) (c ++ set_code g to) s in
    let to2 = pc + 4 * length (get_code g 5 left) in
    let k = one_in e g sp r v pc left t b o l two (front e pc (get_code g 5 left) (c ++ set_code g to) s) a in
    wrote_one e g sp (c ++ set_code g to) r v pc to left _ t b k
    (gives_cell e g sp c k.got.next.regs k.got.next.view to2 to _ k.got.new b o h k.two s2
    (constants e k.got.next.regs k.got.next.view to2 k.got.new b op (target g to) (source g 5 left) _ n o.place (front e to2 c (set_code g to) s2) m (target_written g to) (not_six g left) k.got.is k.got.next.at))

changed : (e : Place) (g : SlotFunction) (sp : ℕ) (r : Regs) (v : View) (pc to : ℕ) (t : ℕ → ℕ) (b : Bytes) (op : Unary) (from : ℕ) → Open e g sp → IsCell g to → t 2 ≡ sp → At e r v pc t b → IsCell g from → IsCode e pc (changed_code g op to from)
    → Wrote e g sp (changed_code g op to from) r v pc to (unary op (cell_word g sp t b from)) t b
changed e g sp r v pc to t b op from o h two a l s =
    let c = unary_code op (target g to) (source g 5 from) in
    let s2 = back e pc (get_code g 5 from) (c ++ set_code g to) s in
    let to2 = pc + 4 * length (get_code g 5 from) in
    let k = one_in e g sp r v pc from t b o l two (front e pc (get_code g 5 from) (c ++ set_code g to) s) a in
    wrote_one e g sp (c ++ set_code g to) r v pc to from _ t b k
    (sets_cell e g sp c k.got.next.regs k.got.next.view to2 to _ k.got.new b o h k.two s2
    (unaries e k.got.next.regs k.got.next.view to2 k.got.new b op (target g to) (source g 5 from) _ o.place (front e to2 c (set_code g to) s2) (target_written g to) k.got.is k.got.next.at))

local : (e : Place) (g : SlotFunction) (sp : ℕ) (r : Regs) (v : View) (pc to : ℕ) (t : ℕ → ℕ) (b : Bytes) (k : ℕ) → Open e g sp → IsCell g to → t 2 ≡ sp → At e r v pc t b → sp + array_at g k < 2 ^ 32 → IsCode e pc (local_code g to k)
    → Wrote e g sp (local_code g to k) r v pc to (sp + array_at g k) t b
local e g sp r v pc to t b k o h two a l s =
    let n = array_at g k in
    let c = above_code (target g to) n in
    let m = above_sets e r v pc (target g to) n t b o.place (omega (arith, two, l)) (target_written g to) (not_two g to) (front e pc c (set_code g to) s) a in
    sets_cell e g sp c r v pc to (sp + n) t b o h two s (subst (λ x. Sets e c r v pc (target g to) (x + n) t b) two m)

address : (e : Place) (g : SlotFunction) (sp : ℕ) (r : Regs) (v : View) (pc to : ℕ) (t : ℕ → ℕ) (b : Bytes) (x : ℕ) → Open e g sp → IsCell g to → t 2 ≡ sp → At e r v pc t b → x < 2 ^ 32 → IsCode e pc (address_code g to x) → Wrote e g sp (address_code g to x) r v pc to x t b
address e g sp r v pc to t b x o h two a l s =
    let rd = target g to in
    let i = Lui rd (upper x) in let j = addi rd rd (lower x) in
    let c = i ∷ j ∷ [] in
    let z = target_written g to in
    let f = front e pc c (set_code g to) s in
    let one = lui_next e r v pc t b rd (upper x) o.place (first e pc i (j ∷ []) f) z a in
    let two' = add_next e one.regs one.view (pc + 4) (put t rd (upper x)) b rd rd x (lower x) o.place (rest e pc i (j ∷ []) f) z
    (ap (λ y. plus_of y) (put_same t rd (upper x) rd refl) ∙ parts_make x l) one.at in
    sets_cell e g sp c r v pc to x t b o h two s (sets_cons e i (j ∷ []) r v pc rd (upper x) x t b one (sets_one e j one.regs one.view (pc + 4) rd x (put t rd (upper x)) b two'))
  where
    plus_of : ℕ → ℕ
    plus_of y = plus y (lower x)

not_seven : (g : SlotFunction) (i : ℕ) → source g 5 i ≢ 7
not_seven g i = at_source g 5 i (λ n. n ≢ 7) (λ q e. let c = (cell_register g i q).low in omega (arith, c, e)) (λ e. omega (arith, e))

kept_code : (g : SlotFunction) (to from : ℕ) → in_register g to ≡ true → into_code g (target g to) from ++ set_code g to ≡ move_code g to from
unfolding set_code source move_code
kept_code g to from q = rw q (append-nil (into_code g (register_of g to) from))

stored_code_is : (g : SlotFunction) (to from : ℕ) → in_register g to ≡ false → get_code g 5 from ++ store_code (source g 5 from) (cell_at g to) ≡ move_code g to from
unfolding move_code
stored_code_is g to from q = rw q refl

-- A register's number, as many times as an element has bytes, is added to another's.
scales : (e : Place) (r : Regs) (v : View) (pc : ℕ) (t : ℕ → ℕ) (b : Bytes) (w : Width) (rd rs1 rs2 x y : ℕ) → IsPlace e → IsCode e pc (scaled_code w rd rs1 rs2) → IsWritten rd → rs1 ≢ 6 → t rs1 ≡ x → t rs2 ≡ y → At e r v pc t b
    → Gives e (scaled_code w rd rs1 rs2) r v pc rd ((x + bytes_of w * y) % 2 ^ 32) t b
scales e r v pc t b Byte rd rs1 rs2 x y i s z out p q a =
    let n : (x + y) % 2 ^ 32 ≡ (x + 1 * y) % 2 ^ 32 = omega arith in
    gives e _ r v pc rd _ t b (sets_one e _ r v pc rd _ t b (two_next e r v pc t b alu.Add rd rs1 rs2 x y _ i s z tt p q (sum_is x y ∙ n) a))
scales e r v pc t b Word rd rs1 rs2 x y i s z out p q a =
    let c = OpImm alu.Sll 6 rs2 (pos 2) in let d = Op alu.Add rd rs1 6 in
    let k = alu_of alu.Sll y 2 in
    let one = one_next e r v pc t b alu.Sll 6 rs2 y 2 k (pos 2) i (first e pc c (d ∷ []) s) (refl, omega arith) tt (omega arith) q refl refl a in
    let t1 = put t 6 k in
    let last = two_next e one.regs one.view (pc + 4) t1 b alu.Add rd rs1 6 x k _ i (rest e pc c (d ∷ []) s) z tt (put_other t 6 k rs1 out ∙ p) (put_same t 6 k 6 refl) (scaled_is x y) one.at in
    record {
      new = put t1 rd ((x + 4 * y) % 2 ^ 32);
      next = ran_cons e c (d ∷ []) r v pc t1 _ b b one last;
      is = put_same t1 rd _ rd refl;
      others = λ j m n. put_other t1 rd _ j m ∙ put_other t 6 k j n;
    }

wrapped : (a k : ℕ) → (a + k % 2 ^ 32) % 2 ^ 32 ≡ (a + k) % 2 ^ 32
wrapped a k = omega arith

moved : (e : Place) (g : SlotFunction) (sp : ℕ) (r : Regs) (v : View) (pc to : ℕ) (t : ℕ → ℕ) (b : Bytes) (from : Operand) → Open e g sp → IsCell g to → t 2 ≡ sp → At e r v pc t b → IsShown g from → IsCode e pc (moved_code g to from)
    → Wrote e g sp (moved_code g to from) r v pc to (operand_word g sp t b from) t b
moved e g sp r v pc to t b (Number n) o h two a l s =
    let c = number_code (target g to) n in
    sets_cell e g sp c r v pc to n t b o h two s (number_sets e r v pc (target g to) n t b o.place l (target_written g to) (front e pc c (set_code g to) s) a)
moved e g sp r v pc to t b (Cell from) o h two a l s = by_test (in_register g to) kept stored
  where
    kept : in_register g to ≡ true → Wrote e g sp (move_code g to from) r v pc to (cell_word g sp t b from) t b
    kept q =
        let c = into_code g (target g to) from in
        let same : c ++ set_code g to ≡ move_code g to from = kept_code g to from q in
        subst (λ k. Wrote e g sp k r v pc to (cell_word g sp t b from) t b) same
        (sets_cell e g sp c r v pc to _ t b o h two (subst (λ k. IsCode e pc k) (sym same) s)
        (into_sets e g sp r v pc (target g to) from t b o (target_written g to) (not_two g to) l two (front e pc c (set_code g to) (subst (λ k. IsCode e pc k) (sym same) s)) a))

    stored : in_register g to ≡ false → Wrote e g sp (move_code g to from) r v pc to (cell_word g sp t b from) t b
    stored q =
        let c = get_code g 5 from in
        let d = store_code (source g 5 from) (cell_at g to) in
        let same : c ++ d ≡ move_code g to from = stored_code_is g to from q in
        let s' = subst (λ k. IsCode e pc k) (sym same) s in
        let n = one_in e g sp r v pc from t b o l two (front e pc c d s') a in
        subst (λ k. Wrote e g sp k r v pc to (cell_word g sp t b from) t b) same
        (stores_cell e g sp c r v pc to (source g 5 from) _ t t n.got.new b o h two (keeps_same t) n.got.others (not_seven g from) n.got.is q s' n.got.next)

indexed : (e : Place) (g : SlotFunction) (sp : ℕ) (r : Regs) (v : View) (pc to : ℕ) (t : ℕ → ℕ) (b : Bytes) (base : ℕ) (index : Operand) (w : Width) → Open e g sp → IsCell g to → t 2 ≡ sp → At e r v pc t b → IsCell g base → IsShown g index → IsCode e pc (indexed_code g to base index w)
    → Wrote e g sp (indexed_code g to base index w) r v pc to ((cell_word g sp t b base + bytes_of w * operand_word g sp t b index) % 2 ^ 32) t b
indexed e g sp r v pc to t b base (Cell index) w o h two a l m s =
    let c = scaled_code w (target g to) (source g 5 base) (source g 6 index) in
    let s2 = back e pc (get_code g 5 base) (get_code g 6 index ++ (c ++ set_code g to)) s in
    let to2 = pc + 4 * length (get_code g 5 base) in
    let s3 = back e to2 (get_code g 6 index) (c ++ set_code g to) s2 in
    let to3 = to2 + 4 * length (get_code g 6 index) in
    let n = both_in e g sp r v pc base index t b o l m two (front e pc (get_code g 5 base) (get_code g 6 index ++ (c ++ set_code g to)) s) (front e to2 (get_code g 6 index) (c ++ set_code g to) s2) a in
    wrote_both e g sp (c ++ set_code g to) r v pc to base index _ t b n
    (gives_cell e g sp c n.got.next.regs n.got.next.view to3 to _ n.got.new b o h n.two s3
    (scales e n.got.next.regs n.got.next.view to3 n.got.new b w (target g to) (source g 5 base) (source g 6 index) _ _ o.place (front e to3 c (set_code g to) s3) (target_written g to) (not_six g base) n.left n.got.is n.got.next.at))
indexed e g sp r v pc to t b base (Number n) w o h two a l m s =
    let k = bytes_of w * n % 2 ^ 32 in
    let c = short_code alu.Add (target g to) (source g 5 base) k in
    let s2 = back e pc (get_code g 5 base) (c ++ set_code g to) s in
    let to2 = pc + 4 * length (get_code g 5 base) in
    let q = one_in e g sp r v pc base t b o l two (front e pc (get_code g 5 base) (c ++ set_code g to) s) a in
    wrote_one e g sp (c ++ set_code g to) r v pc to base _ t b q
    (gives_cell e g sp c q.got.next.regs q.got.next.view to2 to _ q.got.new b o h q.two s2
    (short_gives e q.got.next.regs q.got.next.view to2 q.got.new b alu.Add (target g to) (source g 5 base) _ k _ o.place (front e to2 c (set_code g to) s2) (omega arith) (target_written g to) tt (not_six g base) q.got.is
    (sum_is (cell_word g sp t b base) k ∙ wrapped (cell_word g sp t b base) (bytes_of w * n)) q.got.next.at))

pub operations : OperationsWrite
operations e g sp r v pc to t b o h two a = record {
  moved = λ from l s. moved e g sp r v pc to t b from o h two a l s;
  applied = λ op left right l m s. applied e g sp r v pc to t b op left right o h two a l m s;
  changed = λ op from l s. changed e g sp r v pc to t b op from o h two a l s;
  indexed = λ base index w l m s. indexed e g sp r v pc to t b base index w o h two a l m s;
  local = λ k l s. local e g sp r v pc to t b k o h two a l s;
  address = λ x l s. address e g sp r v pc to t b x o h two a l s;
}

-- Entry and return.
use Rattle.std.proofs.Common.{◌≡◌, ◌≢◌, ℕ, ◌+◌, ◌-◌, ◌*◌, ◌<◌, ◌≤◌, inl, inr, true, false, List, [], ◌∷◌, ◌++◌, length, refl, sym, ap, ◌∙◌, subst, arith, ⊎_elim, length-append}
use Rattle.std.specs.Prelude.{pos, nat_le, ◌==◌}
use Rattle.std.proofs.lemmas.Bool.Decides.{nat_tests}
use Rattle.nx_base.specs.declared.regs.Regs.{Regs}
use Rattle.nx_base.specs.declared.operations.AluOp.TheVariants as alu
use Rattle.nx_base.specs.declared.operations.Cond.TheVariants as cond
use Rattle.nx_base.specs.Arithmetic.{taken_of}
use Rattle.nx_base.specs.Views.{View}
use Rattle.nx_rv.specs.declared.inst.Inst.{Inst}
use Rattle.nx_rv.specs.declared.inst.Inst.TheVariants.{Jalr, Branch, Load, Store, Op, Ecall}
use Rattle.nx_rv.specs.Execution.{plus, stretch}
use Rattle.nx_slot.specs.declared.op.Operand.{Operand}
use Rattle.nx_slot.specs.declared.op.Operand.TheVariants.{Cell, Number}
use Rattle.nx_slot.specs.declared.program.SlotFunction.{SlotFunction}
use Rattle.nx_codegen.specs.Frames.{words_end}
use Rattle.nx_codegen.specs.Addresses.{upper}
use Rattle.nx_codegen.specs.Moves.{addi, number_code, operand_code}
use Rattle.nx_codegen.specs.Calling.{open_code, close_code, test_code, parameters_code, enter_code, leave_code}
use Rattle.nx_codegen.specs.Code.{give_code}
use Rattle.nx_shown.specs.Bytes.{Bytes, put, number_at, with_number}
use Rattle.nx_shown.specs.Places.{Place, IsPlace, MayWrite, Only}
use Rattle.nx_shown.specs.Leading.{At, Next, Reaches, IsWritten}
use Rattle.nx_shown.proofs.Stores.{put_same, put_other, same_number, number_put, other_byte, word_small}
use Rattle.nx_shown.proofs.Steps.{on, instructions}
use Rattle.nx_pieces.specs.Parts.{IsCode, Sets}
use Rattle.nx_pieces.specs.Cells.{Open}
use Rattle.nx_pieces.proofs.Parts.{first, rest, below, front, back, plus_up, add_next, copy_next, number_sets}
use Rattle.nx_pieces.proofs.Cells.{by_test, words_fit, may_write, frame_fits, word_is}
use Rattle.nx_pieces.proofs.Writes.{into_sets}
use Rattle.nx_operations.specs.Laws.{operand_word, IsShown}
use Rattle.nx_operations.proofs.Operators.{two_next}
use Rattle.nx_entries.specs.Laws.{KnowsTop, EntriesOpen, EntriesTell, ReturnsLead}
use Rattle.nx_entries.proofs.Frames.{sub_down, opened, closed, parameters}

words_end_is : (g : SlotFunction) → 4 ≤ words_end g
unfolding words_end
words_end_is g = omega arith

is_some : (x : ℕ) → x ≢ 0 → taken_of cond.Ne x 0 ≡ true
unfolding taken_of
is_some x e = grind (arith, nat_tests)

is_none : (x : ℕ) → x ≡ 0 → taken_of cond.Ne x 0 ≡ false
unfolding taken_of
is_none x e = grind (arith, nat_tests)

fits_yes : (x y : ℕ) → y ≤ x → taken_of cond.Geu x y ≡ true
unfolding taken_of
fits_yes x y h = grind (arith, nat_tests)

fits_not : (x y : ℕ) → x < y → taken_of cond.Geu x y ≡ false
unfolding taken_of
fits_not x y h = grind (arith, nat_tests)

-- Register 3 comes to hold the stack's end.
abbrev top_code : List Inst
top_code = Branch cond.Ne 3 0 (pos 8) ∷ addi 3 2 (pos 0) ∷ []

record Topped (e : Place) (r : Regs) (v : View) (pc : ℕ) (t : ℕ → ℕ) (b : Bytes) : Type 0 where
  new : ℕ → ℕ
  count : ℕ
  next : Next e count r v (pc + 8) new b
  few : count ≤ 2
  some : 1 ≤ count
  is : new 3 ≡ e.top
  others : (j : ℕ) → j ≢ 3 → new j ≡ t j

topped : (e : Place) (r : Regs) (v : View) (pc : ℕ) (t : ℕ → ℕ) (b : Bytes) → IsPlace e → KnowsTop e t → IsCode e pc top_code → At e r v pc t b → Topped e r v pc t b
topped e r v pc t b p (inl k) s a =
    let high = p.high in let ord = p.ordered in let al = a.aligned in let f = s.1 in
    let i = Branch cond.Ne 3 0 (pos 8) in
    let m = (instructions e r v pc t b p a).taken cond.Ne 3 0 (t 3) (t 0) (pc + 8) (pos 8) (first e pc i (addi 3 2 (pos 0) ∷ []) s).0 (plus_up pc 8 (omega (arith, f))) (omega (arith, al)) refl refl (ap (λ n. taken_of cond.Ne (t 3) n) a.zero ∙ is_some (t 3) (λ q. omega (arith, q, k, high, ord))) in
    record { new = t; count = 1; next = m; few = omega arith; some = omega arith; is = k; others = λ j o. refl }
topped e r v pc t b p (inr k) s a =
    let i = Branch cond.Ne 3 0 (pos 8) in let j = addi 3 2 (pos 0) in
    let one = (instructions e r v pc t b p a).passed cond.Ne 3 0 (t 3) (t 0) (pos 8) (first e pc i (j ∷ []) s).0 (below e pc i (j ∷ []) s) refl refl (ap (λ n. taken_of cond.Ne (t 3) n) a.zero ∙ is_none (t 3) k.0) in
    let two = copy_next e one.regs one.view (pc + 4) t b 3 2 p (rest e pc i (j ∷ []) s) (refl, omega arith) one.at in
    let q : pc + 4 + 4 ≡ pc + 8 = omega arith in
    record {
      new = put t 3 (t 2);
      count = 2;
      next = subst (λ n. Next e 2 r v n (put t 3 (t 2)) b) q (on e 1 1 r v (pc + 4) (pc + 4 + 4) t (put t 3 (t 2)) b b one two);
      few = omega arith;
      some = omega arith;
      is = put_same t 3 (t 2) 3 refl ∙ k.1;
      others = λ j o. put_other t 3 (t 2) j o;
    }

-- The front of an entry: the frame is opened.
abbrev front_code : SlotFunction → List Inst
front_code g = top_code ++ open_code g.frame

abbrev behind_code : SlotFunction → List Inst
behind_code g = Store 4 2 1 (pos 0) ∷ parameters_code g g.params

in_parts : (g : SlotFunction) → enter_code g ≡ front_code g ++ (test_code ++ behind_code g)
unfolding enter_code
in_parts g = refl

open_few : (n : ℕ) → length (open_code n) ≤ 3
unfolding open_code number_code
open_few n = by_test (nat_le n 2048) (λ q. rw q (omega arith)) (λ q. rw q (by_test (upper n == 0) (λ p. rw p (omega arith)) (λ p. rw p (omega arith))))

record Fronted (e : Place) (g : SlotFunction) (r : Regs) (v : View) (pc : ℕ) (t : ℕ → ℕ) (b : Bytes) : Type 0 where
  new : ℕ → ℕ
  count : ℕ
  next : Next e count r v (pc + 4 * length (front_code g)) new b
  few : count ≤ length (front_code g)
  some : 1 ≤ count
  pointer : new 2 ≡ t 2 - g.frame
  top : new 3 ≡ e.top
  others : (j : ℕ) → j ≢ 2 → j ≢ 3 → j ≢ 5 → new j ≡ t j

fronted : (e : Place) (g : SlotFunction) (r : Regs) (v : View) (pc : ℕ) (t : ℕ → ℕ) (b : Bytes) → IsPlace e → 1 ≤ g.frame → g.frame ≤ t 2 → KnowsTop e t → IsCode e pc (front_code g) → At e r v pc t b → Fronted e g r v pc t b
fronted e g r v pc t b p one h k s a =
    let c = open_code g.frame in
    let m = topped e r v pc t b p k (front e pc top_code c s) a in
    let two : m.new 2 ≡ t 2 = m.others 2 (λ q. omega (arith, q)) in
    let eight : pc + 4 * length top_code ≡ pc + 8 = omega arith in
    let n = opened e m.next.regs m.next.view (pc + 8) g.frame m.new b p one (omega (arith, h, two)) (subst (λ z. IsCode e z c) eight (back e pc top_code c s)) m.next.at in
    let q : pc + 8 + 4 * length c ≡ pc + 4 * length (top_code ++ c) = omega arith in
    let few = m.few in let some = m.some in
    record {
      new = n.new;
      count = m.count + length c;
      next = subst (λ x. Next e (m.count + length c) r v x n.new b) q (on e m.count (length c) r v (pc + 8) (pc + 8 + 4 * length c) m.new n.new b b m.next n.next);
      few = omega (arith, few);
      some = omega (arith, some);
      pointer = n.is ∙ ap (λ x. x - g.frame) two;
      top = n.others 3 (λ q. omega (arith, q)) (λ q. omega (arith, q)) ∙ m.is;
      others = λ j x y z. n.others j x z ∙ m.others j y;
    }

test_length : (c : List Inst) → length (test_code ++ c) ≡ 4 + length c
unfolding test_code
test_length c = omega arith

test_end : (at : ℕ) → at + 4 * length test_code ≡ at + 16
unfolding test_code
test_end at = omega arith

test_is : test_code ≡ Branch cond.Geu 2 4 (pos 16) ∷ Op alu.Sub 11 3 2 ∷ addi 10 0 (pos 0) ∷ Ecall ∷ []
unfolding test_code
test_is = refl

-- A frame that doesn't fit.
pub only_then : (e : Place) (v w u : View) → Only e v w → Only e w u → Only e v u
only_then e v w u p q = record { shows = λ written low top b ap h. q.shows written low top b ap (p.shows written low top b ap h); runs = λ at ap. q.runs at ap ∙ p.runs at ap }

pub reach : (e : Place) (m n : ℕ) (r : Regs) (v : View) (pc to : ℕ) (t u : ℕ → ℕ) (b d : Bytes) → (a : Next e m r v pc t b) → Reaches e n a.regs a.view to u d → Reaches e (m + n) r v to u d
reach e m n r v pc to t u b d a c = record {
  regs = c.regs;
  view = c.view;
  only = only_then e v a.view c.view a.only c.only;
  reaches = λ k. let q : k + (m + n) ≡ (k + n) + m = omega arith in ap (λ j. stretch j r v) q ∙ a.leads (k + n) ∙ c.reaches k;
  at = c.at;
}

ten_written : IsWritten 10
ten_written = (refl, omega arith)

eleven_written : IsWritten 11
eleven_written = (refl, omega arith)

pub tells : EntriesTell
tells e g r v pc t b p one h top short low k s0 a =
    let x = front_code g in let y = test_code ++ behind_code g in
    let s : IsCode e pc (x ++ y) = subst (λ c. IsCode e pc c) (in_parts g) s0 in
    let m = fronted e g r v pc t b p one h k (front e pc x y s) a in
    let at = pc + 4 * length x in
    let i1 = Branch cond.Geu 2 4 (pos 16) in let i2 = Op alu.Sub 11 3 2 in let i3 = addi 10 0 (pos 0) in
    let s3 : IsCode e at (i1 ∷ i2 ∷ i3 ∷ Ecall ∷ []) = subst (λ c. IsCode e at c) test_is (front e at test_code (behind_code g) (back e pc x y s)) in
    let s4 = rest e at i1 (i2 ∷ i3 ∷ Ecall ∷ []) s3 in
    let s5 = rest e (at + 4) i2 (i3 ∷ Ecall ∷ []) s4 in
    let s6 = rest e (at + 4 + 4) i3 (Ecall ∷ []) s5 in
    let u = m.new in
    let fit = p.fits in
    let sp = t 2 - g.frame in
    let need = e.top - sp in
    let four : u 4 ≡ e.low = m.others 4 (λ q. omega (arith, q)) (λ q. omega (arith, q)) (λ q. omega (arith, q)) ∙ low in
    let a1 = (instructions e m.next.regs m.next.view at u b p m.next.at).passed cond.Geu 2 4 sp e.low (pos 16) (first e at i1 (i2 ∷ i3 ∷ Ecall ∷ []) s3).0 (below e at i1 (i2 ∷ i3 ∷ Ecall ∷ []) s3) m.pointer four (fits_not sp e.low short) in
    let a2 = two_next e a1.regs a1.view (at + 4) u b alu.Sub 11 3 2 e.top sp need p (first e (at + 4) i2 (i3 ∷ Ecall ∷ []) s4) eleven_written tt m.top m.pointer (sub_down e.top sp (omega (arith, top)) fit) a1.at in
    let u2 = put u 11 need in
    let a3 = add_next e a2.regs a2.view (at + 4 + 4) u2 b 10 0 0 (pos 0) p (first e (at + 4 + 4) i3 (Ecall ∷ []) s5) ten_written (ap (λ n. plus n (pos 0)) a2.at.zero ∙ plus_up 0 0 (omega arith)) a2.at in
    let u3 = put u2 10 0 in
    let a4 = (instructions e a3.regs a3.view (at + 4 + 4 + 4) u3 b p a3.at).call s6.0 (below e (at + 4 + 4 + 4) Ecall [] s6) in
    let few = m.few in let three = open_few g.frame in
    let end = at + 4 + 4 + 4 + 4 in
    let c1 = reach e 1 1 a2.regs a2.view (at + 4 + 4 + 4) end u3 u3 b b a3 a4 in
    let c2 = reach e 1 (1 + 1) a1.regs a1.view (at + 4 + 4) end u2 u3 b b a2 c1 in
    let c3 = reach e 1 (1 + (1 + 1)) m.next.regs m.next.view (at + 4) end u u3 b b a1 c2 in
    let c4 = reach e m.count (1 + (1 + (1 + 1))) r v at end u u3 b b m.next c3 in
    record {
      new = u3;
      behind = end;
      count = m.count + (1 + (1 + (1 + 1)));
      reaches = c4;
      few = omega (arith, few, three);
      number = put_same u2 10 0 10 refl;
      need_is = put_other u2 10 0 11 (λ q. omega (arith, q)) ∙ put_same u 11 need 11 refl;
    }

-- A frame that fits.
pub opens : EntriesOpen
opens e g sp r v pc t b o one two low k s0 a =
    let x = front_code g in let y = test_code ++ behind_code g in
    let s : IsCode e pc (x ++ y) = subst (λ c. IsCode e pc c) (in_parts g) s0 in
    let m = fronted e g r v pc t b o.place one (omega (arith, two)) k (front e pc x y s) a in
    let at = pc + 4 * length x in
    let st = Store 4 2 1 (pos 0) in let ps = parameters_code g g.params in
    let i1 = Branch cond.Geu 2 4 (pos 16) in let i2 = Op alu.Sub 11 3 2 in let i3 = addi 10 0 (pos 0) in
    let s2 = back e pc x y s in
    let s3 : IsCode e at (i1 ∷ i2 ∷ i3 ∷ Ecall ∷ []) = subst (λ c. IsCode e at c) test_is (front e at test_code (behind_code g) s2) in
    let four_more : at + 4 * length test_code ≡ at + 16 = test_end at in
    let s4 : IsCode e (at + 16) (st ∷ ps) = subst (λ z. IsCode e z (st ∷ ps)) four_more (back e at test_code (behind_code g) s2) in
    let u = m.new in
    let fit = frame_fits e g sp o in let spa = o.aligned in let hl = o.low in let al = m.next.at.aligned in
    let sp_is : u 2 ≡ sp = m.pointer ∙ omega (arith, two) in
    let four : u 4 ≡ e.low = m.others 4 (λ q. omega (arith, q)) (λ q. omega (arith, q)) (λ q. omega (arith, q)) ∙ low in
    let f4 = s4.1 in
    let a1 = (instructions e m.next.regs m.next.view at u b o.place m.next.at).taken cond.Geu 2 4 sp e.low (at + 16) (pos 16) (first e at i1 (i2 ∷ i3 ∷ Ecall ∷ []) s3).0 (plus_up at 16 (omega (arith, f4))) (omega (arith, al)) sp_is four (fits_yes sp e.low hl) in
    let wf = words_fit e g sp o in let we = words_end_is g in
    let here : sp + 0 ≡ sp = omega arith in
    let a2 = (instructions e a1.regs a1.view (at + 16) u b o.place a1.at).store 4 2 1 sp (u 1) (pos 0) (first e (at + 16) st ps s4).0 (below e (at + 16) st ps s4) (ap (λ n. plus n (pos 0)) sp_is ∙ plus_up sp 0 (omega (arith, fit)) ∙ here) (omega (arith, spa)) (omega arith) (subst (λ n. MayWrite e n 4) here (may_write e g sp 0 o (omega (arith, wf, we)))) refl in
    let b1 = with_number b sp 4 (u 1) in
    let a3 = parameters e g sp g.params a2.regs a2.view (at + 16 + 4) u b1 o o.function.params o.function.has_params sp_is (rest e (at + 16) st ps s4) a2.at in
    let few = m.few in let some = m.some in
    let end = at + 16 + 4 + 4 * length ps in
    let n1 = on e 1 (length ps) a1.regs a1.view (at + 16 + 4) end u a3.new b1 a3.bytes a2 a3.next in
    let n2 = on e 1 (1 + length ps) m.next.regs m.next.view (at + 16) end u a3.new b a3.bytes a1 n1 in
    let n3 = on e m.count (1 + (1 + length ps)) r v at end u a3.new b a3.bytes m.next n2 in
    let l = length-append x y in let tl = test_length (behind_code g) in
    let whole : length (enter_code g) ≡ length (x ++ y) = ap length (in_parts g) in
    let q : end ≡ pc + 4 * length (enter_code g) = omega (arith, l, tl, whole) in
    record {
      new = a3.new;
      bytes = a3.bytes;
      count = m.count + (1 + (1 + length ps));
      next = subst (λ n. Next e (m.count + (1 + (1 + length ps))) r v n a3.new a3.bytes) q n3;
      few = omega (arith, few, l, tl, whole);
      some = omega (arith, some);
      pointer = a3.others 2 (λ q. omega (arith, q)) ∙ sp_is;
      top = a3.others 3 (λ q. omega (arith, q)) ∙ m.top;
      low = a3.others 4 (λ q. omega (arith, q)) ∙ m.others 4 (λ q. omega (arith, q)) (λ q. omega (arith, q)) (λ q. omega (arith, q));
      back = same_number a3.bytes b1 sp 4 (λ c h w. a3.rest c (inl w)) ∙ number_put b sp 4 (u 1) (a2.at.small 1) ∙ m.others 1 (λ q. omega (arith, q)) (λ q. omega (arith, q)) (λ q. omega (arith, q));
      words = λ j h. a3.words j h ∙ m.others (10 + j) (λ q. omega (arith, q)) (λ q. omega (arith, q)) (λ q. omega (arith, q));
      rest = λ c h. a3.rest c (⊎_elim (λ d. inl (omega (arith, d))) (λ d. inr d) h) ∙ other_byte b sp 4 (u 1) c (⊎_elim (λ d. inl d) (λ d. inr (omega (arith, d, we))) h);
    }

-- An operand's value comes into register 10.
value_in : (e : Place) (g : SlotFunction) (sp : ℕ) (r : Regs) (v : View) (pc : ℕ) (value : Operand) (t : ℕ → ℕ) (b : Bytes) → Open e g sp → IsShown g value → t 2 ≡ sp → IsCode e pc (operand_code g 10 value) → At e r v pc t b → Sets e (operand_code g 10 value) r v pc 10 (operand_word g sp t b value) t b
value_in e g sp r v pc (Cell i) t b o h two s a = into_sets e g sp r v pc 10 i t b o ten_written (λ q. omega (arith, q)) h two s a
value_in e g sp r v pc (Number n) t b o h two s a = number_sets e r v pc 10 n t b o.place h ten_written s a

leave_is : (g : SlotFunction) → leave_code g ≡ Load 4 true 1 2 (pos 0) ∷ (close_code g.frame ++ Jalr 0 1 (pos 0) ∷ [])
unfolding leave_code
leave_is g = refl

pub leads : ReturnsLead
leads e g sp r v pc value t b o h two al s0 a =
    let x = operand_code g 10 value in let i = Load 4 true 1 2 (pos 0) in let c = close_code g.frame in let j = Jalr 0 1 (pos 0) in
    let y = i ∷ (c ++ j ∷ []) in
    let same : give_code g value ≡ x ++ y = ap (λ l. x ++ l) (leave_is g) in
    let s : IsCode e pc (x ++ y) = subst (λ l. IsCode e pc l) same s0 in
    let to = number_at b sp 4 in
    let l = length-append x y in let l2 = length-append c (j ∷ []) in
    let one = value_in e g sp r v pc value t b o h two (front e pc x y s) a in
    let at = pc + 4 * length x in
    let s2 = back e pc x y s in
    let fit = frame_fits e g sp o in let spa = o.aligned in let wf = words_fit e g sp o in let we = words_end_is g in
    let two' : one.new 2 ≡ sp = one.others 2 (λ q. omega (arith, q)) ∙ two in
    let here : sp + 0 ≡ sp = omega arith in
    let small = word_small b sp a.sees.small in
    let a1 = (instructions e one.next.regs one.next.view at one.new b o.place one.next.at).load 4 true 1 2 sp to (pos 0) (first e at i (c ++ j ∷ []) s2).0 (below e at i (c ++ j ∷ []) s2) (refl, omega arith) (ap (λ n. plus n (pos 0)) two' ∙ plus_up sp 0 (omega (arith, fit)) ∙ here) (omega (arith, spa)) (omega arith) (inl (subst (λ n. MayWrite e n 4) here (may_write e g sp 0 o (omega (arith, wf, we))))) (word_is to) small in
    let t1 = put one.new 1 to in
    let s3 = rest e at i (c ++ j ∷ []) s2 in
    let t12 : t1 2 ≡ sp = put_other one.new 1 to 2 (λ q. omega (arith, q)) ∙ two' in
    let a2 = closed e a1.regs a1.view (at + 4) g.frame t1 b o.place (omega (arith, t12, fit)) (front e (at + 4) c (j ∷ []) s3) a1.at in
    let at2 = at + 4 + 4 * length c in
    let s4 = back e (at + 4) c (j ∷ []) s3 in
    let ra : a2.new 1 ≡ to = a2.others 1 (λ q. omega (arith, q)) (λ q. omega (arith, q)) ∙ put_same one.new 1 to 1 refl in
    let a3 = (instructions e a2.next.regs a2.next.view at2 a2.new b o.place a2.next.at).return 1 to (pos 0) s4.0 (below e at2 j [] s4) (ap (λ n. plus n (pos 0)) ra ∙ plus_up to 0 (omega (arith, small)) ∙ omega arith) al in
    let n1 = on e (length c) 1 a1.regs a1.view at2 to a2.new a2.new b b a2.next a3 in
    let n2 = on e 1 (length c + 1) one.next.regs one.next.view (at + 4) to t1 a2.new b b a1 n1 in
    let n3 = on e (length x) (1 + (length c + 1)) r v at to one.new a2.new b b one.next n2 in
    let whole : length x + (1 + (length c + 1)) ≡ length (give_code g value) = (let k : length (x ++ y) ≡ length (give_code g value) = ap length (sym same) in omega (arith, l, l2, k)) in
    record {
      new = a2.new;
      next = subst (λ k. Next e k r v to a2.new b) whole n3;
      value = a2.others 10 (λ q. omega (arith, q)) (λ q. omega (arith, q)) ∙ put_other one.new 1 to 10 (λ q. omega (arith, q)) ∙ one.is;
      pointer = a2.is ∙ ap (λ n. n + g.frame) t12;
      fixed = λ j p q. a2.others j (λ w. omega (arith, w, p)) (λ w. omega (arith, w, q)) ∙ put_other one.new 1 to j (λ w. omega (arith, w, p)) ∙ one.others j (λ w. omega (arith, w, q));
    }

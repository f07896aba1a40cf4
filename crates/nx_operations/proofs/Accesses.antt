-- Loads and stores of elements and of named numbers.
use Rattle.std.proofs.Common.{◌≡◌, ◌≢◌, ℕ, ◌+◌, ◌*◌, ◌%◌, ◌^◌, ◌<◌, ◌≤◌, true, false, [], ◌∷◌, ◌++◌, length, refl, ap, ◌∙◌, arith}
use Rattle.std.specs.Prelude.{pos}
use Rattle.nx_base.specs.declared.regs.Regs.{Regs}
use Rattle.nx_base.specs.ByteLists.{from_le}
use Rattle.nx_base.specs.Views.{View}
use Rattle.nx_rv.specs.declared.inst.Inst.TheVariants.{Lui, Load, Store}
use Rattle.nx_rv.specs.Execution.{plus, widened}
use Rattle.nx_slot.specs.declared.op.Width.{Width}
use Rattle.nx_slot.specs.declared.op.Width.TheVariants.{Byte, Word}
use Rattle.nx_slot.specs.declared.program.SlotFunction.{SlotFunction}
use Rattle.nx_slot.specs.Objects.{bytes_of}
use Rattle.nx_codegen.specs.Addresses.{upper, lower}
use Rattle.nx_codegen.specs.Cells.{IsCell}
use Rattle.nx_codegen.specs.Moves.{get_code, source, set_code, target}
use Rattle.nx_codegen.specs.Operators.{load_of, loaded_code, stored_code}
use Rattle.nx_codegen.specs.Code.{fetch_code, keep_code}
use Rattle.nx_shown.specs.Bytes.{Bytes, put, bytes_at, number_at}
use Rattle.nx_shown.specs.Places.{Place, IsPlace, MayRead, MayWrite}
use Rattle.nx_shown.specs.Leading.{At, Next, IsWritten}
use Rattle.nx_shown.proofs.Stores.{put_same, put_other, word_small}
use Rattle.nx_shown.proofs.Steps.{instructions}
use Rattle.nx_pieces.specs.Parts.{IsCode}
use Rattle.nx_pieces.specs.Cells.{cell_word, Open, Wrote}
use Rattle.nx_pieces.proofs.Parts.{first, rest, below, front, back, ran_append, ran_cons, sets_one, plus_up, lui_next, parts_make}
use Rattle.nx_pieces.proofs.Cells.{word_is}
use Rattle.nx_pieces.proofs.Writes.{cell_register, got, put_cell}
use Rattle.nx_operations.specs.Accesses.{Puts, AccessesAreMade}
use Rattle.nx_operations.proofs.Operations.{keeps_then, keeps_others, five, six, at_source, target_written, sets_cell, one_in, wrote_one, both_in}

byte_small : (b : Bytes) (a : ℕ) → ((c : ℕ) → b c < 256) → number_at b a 1 < 2 ^ 32
unfolding number_at bytes_at from_le
byte_small b a h = let h0 = h a in omega (arith, h0)

byte_is : (n : ℕ) → widened 1 false n ≡ n
unfolding widened
byte_is n = refl

-- An element comes into a register.
element_next : (e : Place) (r : Regs) (v : View) (pc : ℕ) (t : ℕ → ℕ) (b : Bytes) (w : Width) (rd rs1 a : ℕ) → IsPlace e → IsCode e pc (load_of w rd rs1 ∷ []) → IsWritten rd → t rs1 ≡ a → a % bytes_of w ≡ 0 → MayRead e a (bytes_of w) → At e r v pc t b
    → Next e 1 r v (pc + 4) (put t rd (number_at b a (bytes_of w))) b
element_next e r v pc t b Byte rd rs1 a i s z p al m st =
    let h = st.small rs1 in
    (instructions e r v pc t b i st).load 1 false rd rs1 a _ (pos 0) s.0 (below e pc (Load 1 false rd rs1 (pos 0)) [] s) z (plus_up (t rs1) 0 (omega (arith, h)) ∙ omega (arith, p)) al (omega arith) m (byte_is _) (byte_small b a st.sees.small)
element_next e r v pc t b Word rd rs1 a i s z p al m st =
    let h = st.small rs1 in
    (instructions e r v pc t b i st).load 4 true rd rs1 a _ (pos 0) s.0 (below e pc (Load 4 true rd rs1 (pos 0)) [] s) z (plus_up (t rs1) 0 (omega (arith, h)) ∙ omega (arith, p)) al (omega arith) m (word_is _) (word_small b a st.sees.small)

loaded : (e : Place) (g : SlotFunction) (sp : ℕ) (r : Regs) (v : View) (pc : ℕ) (t : ℕ → ℕ) (b : Bytes) (to place a : ℕ) (w : Width) → Open e g sp → t 2 ≡ sp → At e r v pc t b → IsCell g to → IsCell g place → cell_word g sp t b place ≡ a → a % bytes_of w ≡ 0 → MayRead e a (bytes_of w) → IsCode e pc (loaded_code g to place w)
    → Wrote e g sp (loaded_code g to place w) r v pc to (number_at b a (bytes_of w)) t b
loaded e g sp r v pc t b to place a w o two st h l p al m s =
    let i = load_of w (target g to) (source g 5 place) in
    let s2 = back e pc (get_code g 5 place) (i ∷ set_code g to) s in
    let to2 = pc + 4 * length (get_code g 5 place) in
    let k = one_in e g sp r v pc place t b o l two (front e pc (get_code g 5 place) (i ∷ set_code g to) s) st in
    wrote_one e g sp (i ∷ set_code g to) r v pc to place _ t b k
    (sets_cell e g sp (i ∷ []) k.got.next.regs k.got.next.view to2 to _ k.got.new b o h k.two s2
    (sets_one e i k.got.next.regs k.got.next.view to2 (target g to) _ k.got.new b
    (element_next e k.got.next.regs k.got.next.view to2 k.got.new b w (target g to) (source g 5 place) a o.place (first e to2 i (set_code g to) s2) (target_written g to) (k.got.is ∙ p) al m k.got.next.at)))

one_byte : (w : Width) → 1 ≤ bytes_of w
one_byte Byte = omega arith
one_byte Word = omega arith

stored : (e : Place) (g : SlotFunction) (sp : ℕ) (r : Regs) (v : View) (pc : ℕ) (t : ℕ → ℕ) (b : Bytes) (place value a : ℕ) (w : Width) → Open e g sp → t 2 ≡ sp → At e r v pc t b → IsCell g place → IsCell g value → cell_word g sp t b place ≡ a → a % bytes_of w ≡ 0 → MayWrite e a (bytes_of w) → IsCode e pc (stored_code g place value w)
    → Puts e (stored_code g place value w) r v pc a (bytes_of w) (cell_word g sp t b value) t b
stored e g sp r v pc t b place value a w o two st l k p al m s =
    let i = Store (bytes_of w) (source g 5 place) (source g 6 value) (pos 0) in
    let c = get_code g 5 place in let d = get_code g 6 value in
    let s2 = back e pc c (d ++ i ∷ []) s in
    let to2 = pc + 4 * length c in
    let s3 = back e to2 d (i ∷ []) s2 in
    let to3 = to2 + 4 * length d in
    let n = both_in e g sp r v pc place value t b o l k two (front e pc c (d ++ i ∷ []) s) (front e to2 d (i ∷ []) s2) st in
    let q = n.left ∙ p in
    let h = n.got.next.at.small (source g 5 place) in
    let last = (instructions e n.got.next.regs n.got.next.view to3 n.got.new b o.place n.got.next.at).store (bytes_of w) (source g 5 place) (source g 6 value) a _ (pos 0) s3.0 (below e to3 i [] s3)
    (plus_up (n.got.new (source g 5 place)) 0 (omega (arith, h)) ∙ omega (arith, q)) al (one_byte w) m n.got.is in
    record {
      new = n.got.new;
      next = ran_append e c (d ++ i ∷ []) r v pc n.one.got.new n.got.new b _ n.one.got.next (ran_append e d (i ∷ []) n.one.got.next.regs n.one.got.next.view to2 n.got.new n.got.new b _ n.got.next last);
      keeps = keeps_then t n.one.got.new n.got.new n.one.keeps n.keeps;
    }

five_written : IsWritten 5
five_written = (refl, omega arith)

fetched : (e : Place) (g : SlotFunction) (sp : ℕ) (r : Regs) (v : View) (pc : ℕ) (t : ℕ → ℕ) (b : Bytes) (to a : ℕ) → Open e g sp → t 2 ≡ sp → At e r v pc t b → IsCell g to → a < 2 ^ 32 → a % 4 ≡ 0 → MayRead e a 4 → IsCode e pc (fetch_code g to a) → Wrote e g sp (fetch_code g to a) r v pc to (number_at b a 4) t b
fetched e g sp r v pc t b to a o two st h l al m s =
    let rd = target g to in
    let i = Lui 5 (upper a) in let j = Load 4 true rd 5 (lower a) in
    let f = front e pc (i ∷ j ∷ []) (set_code g to) s in
    let s2 = rest e pc i (j ∷ []) f in
    let t1 = put t 5 (upper a) in
    let x = number_at b a 4 in
    let one = lui_next e r v pc t b 5 (upper a) o.place (first e pc i (j ∷ []) f) five_written st in
    let last = (instructions e one.regs one.view (pc + 4) t1 b o.place one.at).load 4 true rd 5 a x (lower a) s2.0 (below e (pc + 4) j [] s2) (target_written g to) (ap (λ y. plus y (lower a)) (put_same t 5 (upper a) 5 refl) ∙ parts_make a l) al (omega arith) m (word_is x) (word_small b a st.sees.small) in
    put_cell e g sp (i ∷ j ∷ []) r v pc to x t t1 (put t1 rd x) b o h two (keeps_others t t1 5 five (λ k n. put_other t 5 (upper a) k n)) (λ k n. put_other t1 rd x k n) (put_same t1 rd x rd refl) s
    (ran_cons e i (j ∷ []) r v pc t1 (put t1 rd x) b b one last)

not_five : (g : SlotFunction) (i : ℕ) → source g 6 i ≢ 5
not_five g i = at_source g 6 i (λ n. n ≢ 5) (λ q e. let c = (cell_register g i q).low in omega (arith, c, e)) (λ e. omega (arith, e))

kept : (e : Place) (g : SlotFunction) (sp : ℕ) (r : Regs) (v : View) (pc : ℕ) (t : ℕ → ℕ) (b : Bytes) (from a : ℕ) → Open e g sp → t 2 ≡ sp → At e r v pc t b → IsCell g from → a < 2 ^ 32 → a % 4 ≡ 0 → MayWrite e a 4 → IsCode e pc (keep_code g from a) → Puts e (keep_code g from a) r v pc a 4 (cell_word g sp t b from) t b
kept e g sp r v pc t b from a o two st h l al m s =
    let c = get_code g 6 from in
    let i = Lui 5 (upper a) in let j = Store 4 5 (source g 6 from) (lower a) in
    let to = pc + 4 * length c in
    let s2 = back e pc c (i ∷ j ∷ []) s in
    let s3 = rest e to i (j ∷ []) s2 in
    let n = got e g sp r v pc 6 from t b o six h two (front e pc c (i ∷ j ∷ []) s) st in
    let one = lui_next e n.next.regs n.next.view to n.new b 5 (upper a) o.place (first e to i (j ∷ []) s2) five_written n.next.at in
    let t1 = put n.new 5 (upper a) in
    let last = (instructions e one.regs one.view (to + 4) t1 b o.place one.at).store 4 5 (source g 6 from) a _ (lower a) s3.0 (below e (to + 4) j [] s3)
    (ap (λ y. plus y (lower a)) (put_same n.new 5 (upper a) 5 refl) ∙ parts_make a l) al (omega arith) m (put_other n.new 5 (upper a) (source g 6 from) (not_five g from) ∙ n.is) in
    record {
      new = t1;
      next = ran_append e c (i ∷ j ∷ []) r v pc n.new t1 b _ n.next (ran_cons e i (j ∷ []) n.next.regs n.next.view to t1 t1 b _ one last);
      keeps = keeps_then t n.new t1 (keeps_others t n.new 6 six n.others) (keeps_others n.new t1 5 five (λ k q. put_other n.new 5 (upper a) k q));
    }

pub accesses : AccessesAreMade
accesses e g sp r v pc t b o two st = record {
  loaded = λ to place a w h l p al m s. loaded e g sp r v pc t b to place a w o two st h l p al m s;
  stored = λ place value a w l k p al m s. stored e g sp r v pc t b place value a w o two st l k p al m s;
  fetched = λ to a h l al m s. fetched e g sp r v pc t b to a o two st h l al m s;
  kept = λ from a h l al m s. kept e g sp r v pc t b from a o two st h l al m s;
}

-- Operators on registers.
use Rattle.std.proofs.Common.{◌≡◌, ◌≢◌, ℕ, ◌+◌, ◌-◌, ◌*◌, ◌%◌, ◌^◌, ◌<◌, Bool, true, false, List, [], ◌∷◌, ◌++◌, length, refl, ap, ◌∙◌, subst, arith}
use Rattle.std.specs.Prelude.{ℤ, pos, ◌==◌, if◌then◌else◌, int_lt}
use Rattle.std.specs.Int.{w32, cast_unsigned}
use Rattle.std.proofs.lemmas.Bool.Decides.{nat_tests}
use Rattle.nx_base.specs.declared.regs.Regs.{Regs}
use Rattle.nx_base.specs.declared.operations.AluOp.{AluOp}
use Rattle.nx_base.specs.declared.operations.AluOp.TheVariants as alu
use Rattle.nx_base.specs.Arithmetic.{alu_of, flag, signed}
use Rattle.nx_base.specs.Views.{View}
use Rattle.nx_rv.specs.declared.inst.Inst.{Inst}
use Rattle.nx_rv.specs.declared.inst.Inst.TheVariants.{OpImm, Op}
use Rattle.nx_slot.specs.declared.op.Comparison.TheVariants.{Equal, Unequal, Less, AtMost, Greater, AtLeast}
use Rattle.nx_slot.specs.declared.op.Binary.{Binary}
use Rattle.nx_slot.specs.declared.op.Binary.TheVariants.{Add, Subtract, Multiply, Divide, Remainder, And, Or, Xor, ShiftLeft, ShiftRight, Compare}
use Rattle.nx_slot.specs.declared.op.Unary.TheVariants.{Negate, LowByte}
use Rattle.nx_slot.specs.Objects.{holds, binary, unary}
use Rattle.nx_codegen.specs.Addresses.{upper, lower}
use Rattle.nx_codegen.specs.Moves.{number_code}
use Rattle.nx_codegen.specs.Operators.{binary_code, short_code}
use Rattle.nx_shown.specs.Bytes.{Bytes, put}
use Rattle.nx_shown.specs.Places.{Place, IsPlace}
use Rattle.nx_shown.specs.Leading.{At, Next, IsWritten}
use Rattle.nx_shown.proofs.Stores.{put_same}
use Rattle.nx_shown.proofs.Steps.{instructions}
use Rattle.nx_pieces.specs.Parts.{IsCode, Sets}
use Rattle.nx_pieces.proofs.Parts.{first, rest, below, front, back, ran_append, sets_one, sets_cons, number_sets}
use Rattle.nx_operations.specs.Laws.{Gives, ComparisonsGive, BinariesGive, ConstantsGive, UnariesGive}
use Rattle.nx_operations.proofs.Numbers.{IsUsed, alu_small, sub_is, equal_is, unequal_is, less_is, at_least_is, equal_by_xor, unequal_by_xor, subtract_is, low_is, left_is, right_is, short_is}

-- An operation on two registers, and on a register and a number.
pub two_next : (e : Place) (r : Regs) (v : View) (pc : ℕ) (t : ℕ → ℕ) (b : Bytes) (o : AluOp) (rd rs1 rs2 x y w : ℕ) → IsPlace e → IsCode e pc (Op o rd rs1 rs2 ∷ []) → IsWritten rd → IsUsed o → t rs1 ≡ x → t rs2 ≡ y → alu_of o x y ≡ w → At e r v pc t b → Next e 1 r v (pc + 4) (put t rd w) b
two_next e r v pc t b o rd rs1 rs2 x y w i s z u p q h a =
    (instructions e r v pc t b i a).operation o rd rs1 rs2 x y w s.0 (below e pc (Op o rd rs1 rs2) [] s) z.0 p q h
    (subst (λ n. n < 2 ^ 32) h (alu_small o x y u (subst (λ n. n < 2 ^ 32) p (a.small rs1)) (subst (λ n. n < 2 ^ 32) q (a.small rs2))))

pub one_next : (e : Place) (r : Regs) (v : View) (pc : ℕ) (t : ℕ → ℕ) (b : Bytes) (o : AluOp) (rd rs1 x y w : ℕ) (imm : ℤ) → IsPlace e → IsCode e pc (OpImm o rd rs1 imm ∷ []) → IsWritten rd → IsUsed o → y < 2 ^ 32 → t rs1 ≡ x → cast_unsigned w32 imm ≡ y → alu_of o x y ≡ w → At e r v pc t b → Next e 1 r v (pc + 4) (put t rd w) b
one_next e r v pc t b o rd rs1 x y w imm i s z u m p q h a =
    (instructions e r v pc t b i a).immediate o rd rs1 x w imm s.0 (below e pc (OpImm o rd rs1 imm) [] s) z p (ap (alu_of o x) q ∙ h)
    (subst (λ n. n < 2 ^ 32) h (alu_small o x y u (subst (λ n. n < 2 ^ 32) p (a.small rs1)) m))

one_set : (e : Place) (r : Regs) (v : View) (pc : ℕ) (t : ℕ → ℕ) (b : Bytes) (o : AluOp) (rd rs1 rs2 x y w : ℕ) → IsPlace e → IsCode e pc (Op o rd rs1 rs2 ∷ []) → IsWritten rd → IsUsed o → t rs1 ≡ x → t rs2 ≡ y → alu_of o x y ≡ w → At e r v pc t b → Sets e (Op o rd rs1 rs2 ∷ []) r v pc rd w t b
one_set e r v pc t b o rd rs1 rs2 x y w i s z u p q h a = sets_one e (Op o rd rs1 rs2) r v pc rd w t b (two_next e r v pc t b o rd rs1 rs2 x y w i s z u p q h a)

-- Two operations, the second of which is on what the first gave.
two_set : (e : Place) (i j : Inst) (r : Regs) (v : View) (pc s x y : ℕ) (t : ℕ → ℕ) (b : Bytes) → (n : Next e 1 r v (pc + 4) (put t s x) b) → Next e 1 n.regs n.view (pc + 4 + 4) (put (put t s x) s y) b → Sets e (i ∷ j ∷ []) r v pc s y t b
two_set e i j r v pc s x y t b n m = sets_cons e i (j ∷ []) r v pc s x y t b n (sets_one e j n.regs n.view (pc + 4) s y (put t s x) b m)

with_one : (e : Place) (r : Regs) (v : View) (pc : ℕ) (t : ℕ → ℕ) (b : Bytes) (o second : AluOp) (rd rs1 rs2 x y d w : ℕ) → IsPlace e → IsCode e pc (Op o rd rs1 rs2 ∷ OpImm second rd rd (pos 1) ∷ []) → IsWritten rd → IsUsed o → IsUsed second → t rs1 ≡ x → t rs2 ≡ y → alu_of o x y ≡ d → alu_of second d 1 ≡ w → At e r v pc t b
    → Sets e (Op o rd rs1 rs2 ∷ OpImm second rd rd (pos 1) ∷ []) r v pc rd w t b
with_one e r v pc t b o second rd rs1 rs2 x y d w k s z u l p q h m a =
    let i = Op o rd rs1 rs2 in let j = OpImm second rd rd (pos 1) in
    let one = two_next e r v pc t b o rd rs1 rs2 x y d k (first e pc i (j ∷ []) s) z u p q h a in
    two_set e i j r v pc rd d w t b one (one_next e one.regs one.view (pc + 4) (put t rd d) b second rd rd d 1 w (pos 1) k (rest e pc i (j ∷ []) s) z l (omega arith) (put_same t rd d rd refl) refl m one.at)

with_zero : (e : Place) (r : Regs) (v : View) (pc : ℕ) (t : ℕ → ℕ) (b : Bytes) (o : AluOp) (rd rs1 rs2 x y d w : ℕ) → IsPlace e → IsCode e pc (Op o rd rs1 rs2 ∷ Op alu.Sltu rd 0 rd ∷ []) → IsWritten rd → IsUsed o → t rs1 ≡ x → t rs2 ≡ y → alu_of o x y ≡ d → alu_of alu.Sltu 0 d ≡ w → At e r v pc t b
    → Sets e (Op o rd rs1 rs2 ∷ Op alu.Sltu rd 0 rd ∷ []) r v pc rd w t b
with_zero e r v pc t b o rd rs1 rs2 x y d w k s z u p q h m a =
    let i = Op o rd rs1 rs2 in let j = Op alu.Sltu rd 0 rd in
    let one = two_next e r v pc t b o rd rs1 rs2 x y d k (first e pc i (j ∷ []) s) z u p q h a in
    two_set e i j r v pc rd d w t b one (two_next e one.regs one.view (pc + 4) (put t rd d) b alu.Sltu rd 0 rd 0 d w k (rest e pc i (j ∷ []) s) z tt one.at.zero (put_same t rd d rd refl) m one.at)

small_at : (t : ℕ → ℕ) (s x : ℕ) → t s ≡ x → ((k : ℕ) → t k < 2 ^ 32) → x < 2 ^ 32
small_at t s x p h = subst (λ n. n < 2 ^ 32) p (h s)

pub comparisons : ComparisonsGive
unfolding holds
comparisons e r v pc t b Equal rd rs1 rs2 x y i s z p q a = with_one e r v pc t b alu.Sub alu.Sltu rd rs1 rs2 x y ((x + (2 ^ 32 - y)) % 2 ^ 32) (flag (x == y)) i s z tt tt p q (sub_is x y) (equal_is x y (small_at t rs1 x p a.small) (small_at t rs2 y q a.small)) a
comparisons e r v pc t b Unequal rd rs1 rs2 x y i s z p q a = with_zero e r v pc t b alu.Sub rd rs1 rs2 x y ((x + (2 ^ 32 - y)) % 2 ^ 32) _ i s z tt p q (sub_is x y) (unequal_is x y (small_at t rs1 x p a.small) (small_at t rs2 y q a.small)) a
comparisons e r v pc t b Less rd rs1 rs2 x y i s z p q a = one_set e r v pc t b alu.Slt rd rs1 rs2 x y _ i s z tt p q (less_is x y) a
comparisons e r v pc t b AtMost rd rs1 rs2 x y i s z p q a = with_one e r v pc t b alu.Slt alu.Xor rd rs2 rs1 y x (flag (int_lt (signed y) (signed x))) _ i s z tt tt q p (less_is y x) (at_least_is y x) a
comparisons e r v pc t b Greater rd rs1 rs2 x y i s z p q a = one_set e r v pc t b alu.Slt rd rs2 rs1 y x _ i s z tt q p (less_is y x) a
comparisons e r v pc t b AtLeast rd rs1 rs2 x y i s z p q a = with_one e r v pc t b alu.Slt alu.Xor rd rs1 rs2 x y (flag (int_lt (signed x) (signed y))) _ i s z tt tt p q (less_is x y) (at_least_is x y) a

pub binaries : BinariesGive
unfolding binary
binaries e r v pc t b Add rd rs1 rs2 x y i s z p q a = one_set e r v pc t b alu.Add rd rs1 rs2 x y _ i s z tt p q refl a
binaries e r v pc t b Subtract rd rs1 rs2 x y i s z p q a = one_set e r v pc t b alu.Sub rd rs1 rs2 x y _ i s z tt p q refl a
binaries e r v pc t b Multiply rd rs1 rs2 x y i s z p q a = one_set e r v pc t b alu.Mul rd rs1 rs2 x y _ i s z tt p q refl a
binaries e r v pc t b Divide rd rs1 rs2 x y i s z p q a = one_set e r v pc t b alu.Div rd rs1 rs2 x y _ i s z tt p q refl a
binaries e r v pc t b Remainder rd rs1 rs2 x y i s z p q a = one_set e r v pc t b alu.Rem rd rs1 rs2 x y _ i s z tt p q refl a
binaries e r v pc t b And rd rs1 rs2 x y i s z p q a = one_set e r v pc t b alu.And rd rs1 rs2 x y _ i s z tt p q refl a
binaries e r v pc t b Or rd rs1 rs2 x y i s z p q a = one_set e r v pc t b alu.Or rd rs1 rs2 x y _ i s z tt p q refl a
binaries e r v pc t b Xor rd rs1 rs2 x y i s z p q a = one_set e r v pc t b alu.Xor rd rs1 rs2 x y _ i s z tt p q refl a
binaries e r v pc t b ShiftLeft rd rs1 rs2 x y i s z p q a = one_set e r v pc t b alu.Sll rd rs1 rs2 x y _ i s z tt p q refl a
binaries e r v pc t b ShiftRight rd rs1 rs2 x y i s z p q a = one_set e r v pc t b alu.Sra rd rs1 rs2 x y _ i s z tt p q refl a
binaries e r v pc t b (Compare c) rd rs1 rs2 x y i s z p q a = comparisons e r v pc t b c rd rs1 rs2 x y i s z p q a

pub unaries : UnariesGive
unfolding unary
unaries e r v pc t b Negate rd rs1 x i s z p a = one_set e r v pc t b alu.Sub rd 0 rs1 0 x _ i s z tt a.zero p refl a
unaries e r v pc t b LowByte rd rs1 x i s z p a = sets_one e _ r v pc rd _ t b (one_next e r v pc t b alu.And rd rs1 x 255 _ (pos 255) i s z tt (omega arith) p refl (low_is x) a)

-- Code that gives a number, and goes on.
pub gives : (e : Place) (code : List Inst) (r : Regs) (v : View) (pc rd x : ℕ) (t : ℕ → ℕ) (b : Bytes) → Sets e code r v pc rd x t b → Gives e code r v pc rd x t b
gives e code r v pc rd x t b s = record { new = s.new; next = s.next; is = s.is; others = λ j o p. s.others j o }

gives_on : (e : Place) (a c : List Inst) (r : Regs) (v : View) (pc rd x y : ℕ) (t : ℕ → ℕ) (b : Bytes) → (n : Gives e a r v pc rd x t b) → Sets e c n.next.regs n.next.view (pc + 4 * length a) rd y n.new b → Gives e (a ++ c) r v pc rd y t b
gives_on e a c r v pc rd x y t b n m = record {
  new = m.new;
  next = ran_append e a c r v pc n.new m.new b b n.next m.next;
  is = m.is;
  others = λ j o p. m.others j o ∙ n.others j o p;
}

-- A number comes into register 6, and then an operator has it.
behind_number : (e : Place) (c : List Inst) (r : Regs) (v : View) (pc rd n y : ℕ) (t : ℕ → ℕ) (b : Bytes) → (k : Sets e (number_code 6 n) r v pc 6 n t b) → Sets e c k.next.regs k.next.view (pc + 4 * length (number_code 6 n)) rd y k.new b → Gives e (number_code 6 n ++ c) r v pc rd y t b
behind_number e c r v pc rd n y t b k m = record {
  new = m.new;
  next = ran_append e (number_code 6 n) c r v pc k.new m.new b b k.next m.next;
  is = m.is;
  others = λ j o p. m.others j o ∙ k.others j p;
}

six : IsWritten 6
six = (refl, omega arith)

pub short_gives : (e : Place) (r : Regs) (v : View) (pc : ℕ) (t : ℕ → ℕ) (b : Bytes) (o : AluOp) (rd rs1 x n w : ℕ) → IsPlace e → IsCode e pc (short_code o rd rs1 n) → n < 2 ^ 32 → IsWritten rd → IsUsed o → rs1 ≢ 6 → t rs1 ≡ x → alu_of o x n ≡ w → At e r v pc t b → Gives e (short_code o rd rs1 n) r v pc rd w t b
unfolding short_code
short_gives e r v pc t b o rd rs1 x n w i s m z u out p h a = by_upper (upper n == 0) refl s
  where
    code : Bool → List Inst
    code q = if q then OpImm o rd rs1 (lower n) ∷ [] else number_code 6 n ++ Op o rd rs1 6 ∷ []

    by_upper : (q : Bool) → (upper n == 0) ≡ q → IsCode e pc (code q) → Gives e (code q) r v pc rd w t b
    by_upper true q s =
        let k : upper n ≡ 0 = grind (arith, nat_tests) in
        gives e _ r v pc rd w t b (sets_one e _ r v pc rd w t b (one_next e r v pc t b o rd rs1 x n w (lower n) i s z u m p (short_is n m k) h a))
    by_upper false q s =
        let j = Op o rd rs1 6 in
        let one = number_sets e r v pc 6 n t b i m six (front e pc (number_code 6 n) (j ∷ []) s) a in
        behind_number e (j ∷ []) r v pc rd n w t b one
        (one_set e one.next.regs one.next.view (pc + 4 * length (number_code 6 n)) one.new b o rd rs1 6 x n w i (back e pc (number_code 6 n) (j ∷ []) s) z u (one.others rs1 out ∙ p) one.is h one.next.at)

-- A short operation, and one more on its result.
short_one : (e : Place) (r : Regs) (v : View) (pc : ℕ) (t : ℕ → ℕ) (b : Bytes) (o second : AluOp) (rd rs1 x n d w : ℕ) → IsPlace e → IsCode e pc (short_code o rd rs1 n ++ OpImm second rd rd (pos 1) ∷ []) → n < 2 ^ 32 → IsWritten rd → IsUsed o → IsUsed second → rs1 ≢ 6 → t rs1 ≡ x → alu_of o x n ≡ d → alu_of second d 1 ≡ w → At e r v pc t b
    → Gives e (short_code o rd rs1 n ++ OpImm second rd rd (pos 1) ∷ []) r v pc rd w t b
short_one e r v pc t b o second rd rs1 x n d w i s m z u l out p h k a =
    let c = short_code o rd rs1 n in let j = OpImm second rd rd (pos 1) in
    let one = short_gives e r v pc t b o rd rs1 x n d i (front e pc c (j ∷ []) s) m z u out p h a in
    gives_on e c (j ∷ []) r v pc rd d w t b one (sets_one e j one.next.regs one.next.view (pc + 4 * length c) rd w one.new b
    (one_next e one.next.regs one.next.view (pc + 4 * length c) one.new b second rd rd d 1 w (pos 1) i (back e pc c (j ∷ []) s) z l (omega arith) one.is refl k one.next.at))

short_zero : (e : Place) (r : Regs) (v : View) (pc : ℕ) (t : ℕ → ℕ) (b : Bytes) (o : AluOp) (rd rs1 x n d w : ℕ) → IsPlace e → IsCode e pc (short_code o rd rs1 n ++ Op alu.Sltu rd 0 rd ∷ []) → n < 2 ^ 32 → IsWritten rd → IsUsed o → rs1 ≢ 6 → t rs1 ≡ x → alu_of o x n ≡ d → alu_of alu.Sltu 0 d ≡ w → At e r v pc t b
    → Gives e (short_code o rd rs1 n ++ Op alu.Sltu rd 0 rd ∷ []) r v pc rd w t b
short_zero e r v pc t b o rd rs1 x n d w i s m z u out p h k a =
    let c = short_code o rd rs1 n in let j = Op alu.Sltu rd 0 rd in
    let one = short_gives e r v pc t b o rd rs1 x n d i (front e pc c (j ∷ []) s) m z u out p h a in
    gives_on e c (j ∷ []) r v pc rd d w t b one
    (one_set e one.next.regs one.next.view (pc + 4 * length c) one.new b alu.Sltu rd 0 rd 0 d w i (back e pc c (j ∷ []) s) z tt one.next.at.zero one.is k one.next.at)

-- An operator whose number comes into register 6 first.
long : (e : Place) (r : Regs) (v : View) (pc : ℕ) (t : ℕ → ℕ) (b : Bytes) (o : Binary) (rd rs1 x n : ℕ) → IsPlace e → IsCode e pc (number_code 6 n ++ binary_code o rd rs1 6) → n < 2 ^ 32 → IsWritten rd → rs1 ≢ 6 → t rs1 ≡ x → At e r v pc t b
    → Gives e (number_code 6 n ++ binary_code o rd rs1 6) r v pc rd (binary o x n) t b
long e r v pc t b o rd rs1 x n i s m z out p a =
    let c = binary_code o rd rs1 6 in
    let one = number_sets e r v pc 6 n t b i m six (front e pc (number_code 6 n) c s) a in
    behind_number e c r v pc rd n (binary o x n) t b one
    (binaries e one.next.regs one.next.view (pc + 4 * length (number_code 6 n)) one.new b o rd rs1 6 x n i (back e pc (number_code 6 n) c s) z (one.others rs1 out ∙ p) one.is one.next.at)

shifted : (n : ℕ) → cast_unsigned w32 (pos (n % 32)) ≡ n % 32
shifted n = omega arith

pub constants : ConstantsGive
unfolding binary holds
constants e r v pc t b Add rd rs1 x n i s m z out p a = short_gives e r v pc t b alu.Add rd rs1 x n _ i s m z tt out p refl a
constants e r v pc t b Subtract rd rs1 x n i s m z out p a = short_gives e r v pc t b alu.Add rd rs1 x ((2 ^ 32 - n) % 2 ^ 32) _ i s (omega arith) z tt out p (subtract_is x n m) a
constants e r v pc t b Multiply rd rs1 x n i s m z out p a = long e r v pc t b Multiply rd rs1 x n i s m z out p a
constants e r v pc t b Divide rd rs1 x n i s m z out p a = long e r v pc t b Divide rd rs1 x n i s m z out p a
constants e r v pc t b Remainder rd rs1 x n i s m z out p a = long e r v pc t b Remainder rd rs1 x n i s m z out p a
constants e r v pc t b And rd rs1 x n i s m z out p a = short_gives e r v pc t b alu.And rd rs1 x n _ i s m z tt out p refl a
constants e r v pc t b Or rd rs1 x n i s m z out p a = short_gives e r v pc t b alu.Or rd rs1 x n _ i s m z tt out p refl a
constants e r v pc t b Xor rd rs1 x n i s m z out p a = short_gives e r v pc t b alu.Xor rd rs1 x n _ i s m z tt out p refl a
constants e r v pc t b ShiftLeft rd rs1 x n i s m z out p a =
    gives e _ r v pc rd _ t b (sets_one e _ r v pc rd _ t b (one_next e r v pc t b alu.Sll rd rs1 x (n % 32) _ (pos (n % 32)) i s z tt (omega arith) p (shifted n) (left_is x n) a))
constants e r v pc t b ShiftRight rd rs1 x n i s m z out p a =
    gives e _ r v pc rd _ t b (sets_one e _ r v pc rd _ t b (one_next e r v pc t b alu.Sra rd rs1 x (n % 32) _ (pos (n % 32)) i s z tt (omega arith) p (shifted n) (right_is x n) a))
constants e r v pc t b (Compare Equal) rd rs1 x n i s m z out p a = short_one e r v pc t b alu.Xor alu.Sltu rd rs1 x n _ _ i s m z tt tt out p refl (equal_by_xor x n) a
constants e r v pc t b (Compare Unequal) rd rs1 x n i s m z out p a = short_zero e r v pc t b alu.Xor rd rs1 x n _ _ i s m z tt out p refl (unequal_by_xor x n) a
constants e r v pc t b (Compare Less) rd rs1 x n i s m z out p a = short_gives e r v pc t b alu.Slt rd rs1 x n _ i s m z tt out p (less_is x n) a
constants e r v pc t b (Compare AtMost) rd rs1 x n i s m z out p a = long e r v pc t b (Compare AtMost) rd rs1 x n i s m z out p a
constants e r v pc t b (Compare Greater) rd rs1 x n i s m z out p a = long e r v pc t b (Compare Greater) rd rs1 x n i s m z out p a
constants e r v pc t b (Compare AtLeast) rd rs1 x n i s m z out p a = short_one e r v pc t b alu.Slt alu.Xor rd rs1 x n (flag (int_lt (signed x) (signed n))) _ i s m z tt tt out p (less_is x n) (at_least_is x n) a

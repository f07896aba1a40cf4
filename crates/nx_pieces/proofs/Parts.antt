-- Code that sets one register.
use Rattle.std.proofs.Common.{◌≡◌, ◌≢◌, ℕ, ◌+◌, ◌-◌, ◌*◌, ◌/◌, ◌%◌, ◌^◌, ◌<◌, ◌≤◌, Bool, true, false, List, [], ◌∷◌, ◌++◌, length, refl, sym, ap, ◌∙◌, subst, arith, ⊎_elim, length-append}
use Rattle.std.specs.Prelude.{ℤ, pos, negsuc, ◌==◌, nat_lt, if◌then◌else◌}
use Rattle.std.specs.Int.{w32, cast_unsigned}
use Rattle.std.proofs.lemmas.Bool.{cases_lt}
use Rattle.std.proofs.lemmas.Bool.Decides.{nat_tests}
use Rattle.nx_base.specs.declared.regs.Regs.{Regs}
use Rattle.nx_base.specs.declared.operations.AluOp.TheVariants as alu
use Rattle.nx_base.specs.Arithmetic.{alu_of}
use Rattle.nx_base.specs.Views.{View}
use Rattle.nx_rv.specs.declared.inst.Inst.{Inst}
use Rattle.nx_rv.specs.declared.inst.Inst.TheVariants.{Lui, Op}
use Rattle.nx_rv.specs.Execution.{plus}
use Rattle.nx_codegen.specs.Addresses.{upper, lower}
use Rattle.nx_codegen.specs.Moves.{addi, number_code, above_code}
use Rattle.nx_shown.specs.Bytes.{Bytes, put}
use Rattle.nx_shown.specs.Places.{Place, IsPlace, AreHere}
use Rattle.nx_shown.specs.Leading.{At, Next, IsWritten}
use Rattle.nx_shown.proofs.Stores.{put_same, put_other}
use Rattle.nx_shown.proofs.Steps.{on, stay, instructions}
use Rattle.nx_pieces.specs.Parts.{IsCode, Ran, Sets}

-- Code in two parts.
here_front : (v : View) (at : ℕ) (a c : List Inst) → AreHere v at (a ++ c) → AreHere v at a
here_front v at [] c h = tt
here_front v at (i ∷ a) c h = (h.0, here_front v (at + 4) a c h.1)

here_back : (v : View) (at to : ℕ) (a c : List Inst) → to ≡ at + 4 * length a → AreHere v at (a ++ c) → AreHere v to c
here_back v at to [] c q h = let p : at ≡ to = omega (arith, q) in subst (λ n. AreHere v n c) p h
here_back v at to (i ∷ a) c q h = here_back v (at + 4) to a c (omega (arith, q)) h.1

pub front : (e : Place) (pc : ℕ) (a c : List Inst) → IsCode e pc (a ++ c) → IsCode e pc a
front e pc a c s = ((λ v h. here_front v pc a c (s.0 v h)), (let l = length-append a c in let f = s.1 in omega (arith, l, f)))

pub back : (e : Place) (pc : ℕ) (a c : List Inst) → IsCode e pc (a ++ c) → IsCode e (pc + 4 * length a) c
back e pc a c s = ((λ v h. here_back v pc (pc + 4 * length a) a c refl (s.0 v h)), (let l = length-append a c in let f = s.1 in omega (arith, l, f)))

pub first : (e : Place) (pc : ℕ) (i : Inst) (c : List Inst) → IsCode e pc (i ∷ c) → IsCode e pc (i ∷ [])
first e pc i c s = front e pc (i ∷ []) c s

pub rest : (e : Place) (pc : ℕ) (i : Inst) (c : List Inst) → IsCode e pc (i ∷ c) → IsCode e (pc + 4) c
rest e pc i c s = ((λ v h. (s.0 v h).1), (let f = s.1 in omega (arith, f)))

pub below : (e : Place) (pc : ℕ) (i : Inst) (c : List Inst) → IsCode e pc (i ∷ c) → pc + 4 < 2 ^ 32
below e pc i c s = let f = s.1 in omega (arith, f)

-- Straight code, part after part.
pub ran_none : (e : Place) (r : Regs) (v : View) (pc : ℕ) (t : ℕ → ℕ) (b : Bytes) → At e r v pc t b → Ran e [] r v pc t b
ran_none e r v pc t b a = let q : pc ≡ pc + 4 * 0 = omega arith in subst (λ p. Next e 0 r v p t b) q (stay e r v pc t b a)

pub ran_append : (e : Place) (a c : List Inst) (r : Regs) (v : View) (pc : ℕ) (t u : ℕ → ℕ) (b d : Bytes) → (n : Ran e a r v pc t b) → Ran e c n.regs n.view (pc + 4 * length a) u d → Ran e (a ++ c) r v pc u d
ran_append e a c r v pc t u b d n m =
    let l : length a + length c ≡ length (a ++ c) = sym (length-append a c) in
    let q : pc + 4 * length a + 4 * length c ≡ pc + 4 * length (a ++ c) = omega (arith, l) in
    subst (λ p. Next e (length (a ++ c)) r v p u d) q (subst (λ k. Next e k r v (pc + 4 * length a + 4 * length c) u d) l
    (on e (length a) (length c) r v (pc + 4 * length a) (pc + 4 * length a + 4 * length c) t u b d n m))

pub ran_cons : (e : Place) (i : Inst) (c : List Inst) (r : Regs) (v : View) (pc : ℕ) (t u : ℕ → ℕ) (b d : Bytes) → (n : Next e 1 r v (pc + 4) t b) → Ran e c n.regs n.view (pc + 4) u d → Ran e (i ∷ c) r v pc u d
ran_cons e i c r v pc t u b d n m = ran_append e (i ∷ []) c r v pc t u b d n m

pub sets_one : (e : Place) (i : Inst) (r : Regs) (v : View) (pc rd x : ℕ) (t : ℕ → ℕ) (b : Bytes) → Next e 1 r v (pc + 4) (put t rd x) b → Sets e (i ∷ []) r v pc rd x t b
sets_one e i r v pc rd x t b n = record {
  new = put t rd x;
  next = n;
  is = put_same t rd x rd refl;
  others = λ j o. put_other t rd x j o;
}

pub sets_append : (e : Place) (a c : List Inst) (r : Regs) (v : View) (pc rd x y : ℕ) (t : ℕ → ℕ) (b : Bytes) → (n : Sets e a r v pc rd x t b) → Sets e c n.next.regs n.next.view (pc + 4 * length a) rd y n.new b → Sets e (a ++ c) r v pc rd y t b
sets_append e a c r v pc rd x y t b n m = record {
  new = m.new;
  next = ran_append e a c r v pc n.new m.new b b n.next m.next;
  is = m.is;
  others = λ j o. m.others j o ∙ n.others j o;
}

pub sets_cons : (e : Place) (i : Inst) (c : List Inst) (r : Regs) (v : View) (pc rd x y : ℕ) (t : ℕ → ℕ) (b : Bytes) → (n : Next e 1 r v (pc + 4) (put t rd x) b) → Sets e c n.regs n.view (pc + 4) rd y (put t rd x) b → Sets e (i ∷ c) r v pc rd y t b
sets_cons e i c r v pc rd x y t b n m = record {
  new = m.new;
  next = ran_cons e i c r v pc (put t rd x) m.new b b n m.next;
  is = m.is;
  others = λ j o. m.others j o ∙ put_other t rd x j o;
}

-- Sums with a signed number, and with the two parts of a number.
pub plus_up : (n k : ℕ) → n + k < 2 ^ 32 → plus n (pos k) ≡ n + k
unfolding plus
plus_up n k h = omega arith

parts_up : (n a : ℕ) → a < 2 ^ 32 → a % 4096 < 2048 → plus ((n + (a + 2048) / 4096 * 4096 % 2 ^ 32) % 2 ^ 32) (pos (a % 4096)) ≡ (n + a) % 2 ^ 32
unfolding plus
parts_up n a h k = omega arith

parts_down : (n a : ℕ) → a < 2 ^ 32 → 2048 ≤ a % 4096 → plus ((n + (a + 2048) / 4096 * 4096 % 2 ^ 32) % 2 ^ 32) (negsuc (4095 - a % 4096)) ≡ (n + a) % 2 ^ 32
unfolding plus
parts_down n a h k = omega arith

pub parts_add : (n a : ℕ) → a < 2 ^ 32 → plus ((n + upper a) % 2 ^ 32) (lower a) ≡ (n + a) % 2 ^ 32
unfolding upper lower
parts_add n a h = ⊎_elim
    (λ l. let q : nat_lt (a % 4096) 2048 ≡ true = grind (arith, nat_tests) in rw q (parts_up n a h l))
    (λ l. let q : nat_lt (a % 4096) 2048 ≡ false = grind (arith, nat_tests) in rw q (parts_down n a h l))
    (cases_lt (a % 4096) 2048)

upper_small : (a : ℕ) → upper a < 2 ^ 32
unfolding upper
upper_small a = omega arith

pub parts_make : (a : ℕ) → a < 2 ^ 32 → plus (upper a) (lower a) ≡ a
parts_make a h =
    let u = upper_small a in
    let q : upper a ≡ (0 + upper a) % 2 ^ 32 = omega (arith, u) in
    let z : (0 + a) % 2 ^ 32 ≡ a = omega arith in
    ap (λ x. plus x (lower a)) q ∙ parts_add 0 a h ∙ z

add_immediate : (x : ℕ) (z : ℤ) → alu_of alu.Add x (cast_unsigned w32 z) ≡ plus x z
unfolding alu_of plus
add_immediate x z = refl

plus_small : (x : ℕ) (z : ℤ) → plus x z < 2 ^ 32
unfolding plus
plus_small x z = omega arith

-- A register and a number are added, and two registers.
pub add_next : (e : Place) (r : Regs) (v : View) (pc : ℕ) (t : ℕ → ℕ) (b : Bytes) (rd rs1 y : ℕ) (imm : ℤ) → IsPlace e → IsCode e pc (addi rd rs1 imm ∷ []) → IsWritten rd → plus (t rs1) imm ≡ y → At e r v pc t b → Next e 1 r v (pc + 4) (put t rd y) b
add_next e r v pc t b rd rs1 y imm p s z q a =
    (instructions e r v pc t b p a).immediate alu.Add rd rs1 (t rs1) y imm s.0 (below e pc (addi rd rs1 imm) [] s) z refl (add_immediate (t rs1) imm ∙ q) (subst (λ n. n < 2 ^ 32) q (plus_small (t rs1) imm))

pub copy_next : (e : Place) (r : Regs) (v : View) (pc : ℕ) (t : ℕ → ℕ) (b : Bytes) (rd rs1 : ℕ) → IsPlace e → IsCode e pc (addi rd rs1 (pos 0) ∷ []) → IsWritten rd → At e r v pc t b → Next e 1 r v (pc + 4) (put t rd (t rs1)) b
copy_next e r v pc t b rd rs1 p s z a =
    let h = a.small rs1 in
    add_next e r v pc t b rd rs1 (t rs1) (pos 0) p s z (plus_up (t rs1) 0 (omega (arith, h)) ∙ omega arith) a

sum_is : (a b : ℕ) → alu_of alu.Add a b ≡ (a + b) % 2 ^ 32
unfolding alu_of
sum_is a b = refl

sum_small : (n : ℕ) → n % 2 ^ 32 < 2 ^ 32
sum_small n = omega arith

pub sum_next : (e : Place) (r : Regs) (v : View) (pc : ℕ) (t : ℕ → ℕ) (b : Bytes) (rd rs1 rs2 y : ℕ) → IsPlace e → IsCode e pc (Op alu.Add rd rs1 rs2 ∷ []) → IsWritten rd → (t rs1 + t rs2) % 2 ^ 32 ≡ y → At e r v pc t b → Next e 1 r v (pc + 4) (put t rd y) b
sum_next e r v pc t b rd rs1 rs2 y p s z q a =
    (instructions e r v pc t b p a).operation alu.Add rd rs1 rs2 (t rs1) (t rs2) y s.0 (below e pc (Op alu.Add rd rs1 rs2) [] s) z.0 refl refl (sum_is (t rs1) (t rs2) ∙ q) (subst (λ n. n < 2 ^ 32) q (sum_small (t rs1 + t rs2)))

pub lui_next : (e : Place) (r : Regs) (v : View) (pc : ℕ) (t : ℕ → ℕ) (b : Bytes) (rd n : ℕ) → IsPlace e → IsCode e pc (Lui rd n ∷ []) → IsWritten rd → At e r v pc t b → Next e 1 r v (pc + 4) (put t rd n) b
lui_next e r v pc t b rd n p s z a = (instructions e r v pc t b p a).lui rd n s.0 (below e pc (Lui rd n) [] s) z.0

-- A number.
pub number_sets : (e : Place) (r : Regs) (v : View) (pc rd n : ℕ) (t : ℕ → ℕ) (b : Bytes) → IsPlace e → n < 2 ^ 32 → IsWritten rd → IsCode e pc (number_code rd n) → At e r v pc t b → Sets e (number_code rd n) r v pc rd n t b
unfolding number_code
number_sets e r v pc rd n t b p h z s a = by_upper (upper n == 0) refl s
  where
    code : Bool → List Inst
    code q = if q then addi rd 0 (lower n) ∷ [] else Lui rd (upper n) ∷ addi rd rd (lower n) ∷ []

    by_upper : (q : Bool) → (upper n == 0) ≡ q → IsCode e pc (code q) → Sets e (code q) r v pc rd n t b
    by_upper true q s =
        let u : upper n ≡ 0 = grind (arith, nat_tests) in
        sets_one e (addi rd 0 (lower n)) r v pc rd n t b (add_next e r v pc t b rd 0 n (lower n) p s z (ap (λ x. plus x (lower n)) (a.zero ∙ sym u) ∙ parts_make n h) a)
    by_upper false q s =
        let i = Lui rd (upper n) in let j = addi rd rd (lower n) in
        let one = lui_next e r v pc t b rd (upper n) p (first e pc i (j ∷ []) s) z a in
        let two = add_next e one.regs one.view (pc + 4) (put t rd (upper n)) b rd rd n (lower n) p (rest e pc i (j ∷ []) s) z
        (ap (λ x. plus x (lower n)) (put_same t rd (upper n) rd refl) ∙ parts_make n h) one.at in
        sets_cons e i (j ∷ []) r v pc rd (upper n) n t b one (sets_one e j one.regs one.view (pc + 4) rd n (put t rd (upper n)) b two)

-- The address so many bytes above the stack pointer.
pub above_sets : (e : Place) (r : Regs) (v : View) (pc rd n : ℕ) (t : ℕ → ℕ) (b : Bytes) → IsPlace e → t 2 + n < 2 ^ 32 → IsWritten rd → rd ≢ 2 → IsCode e pc (above_code rd n) → At e r v pc t b → Sets e (above_code rd n) r v pc rd (t 2 + n) t b
unfolding above_code
above_sets e r v pc rd n t b p h z o s a = by_near (nat_lt n 2048) s
  where
    code : Bool → List Inst
    code q = if q then addi rd 2 (pos n) ∷ [] else number_code rd n ++ Op alu.Add rd rd 2 ∷ []

    by_near : (q : Bool) → IsCode e pc (code q) → Sets e (code q) r v pc rd (t 2 + n) t b
    by_near true s = sets_one e (addi rd 2 (pos n)) r v pc rd (t 2 + n) t b (add_next e r v pc t b rd 2 (t 2 + n) (pos n) p s z (plus_up (t 2) n h) a)
    by_near false s =
        let j = Op alu.Add rd rd 2 in
        let one = number_sets e r v pc rd n t b p (omega arith) z (front e pc (number_code rd n) (j ∷ []) s) a in
        let to = pc + 4 * length (number_code rd n) in
        let q : (one.new rd + one.new 2) % 2 ^ 32 ≡ t 2 + n = let x = one.is in let y = one.others 2 (λ p. o (sym p)) in omega (arith, x, y, h) in
        let two = sum_next e one.next.regs one.next.view to one.new b rd rd 2 (t 2 + n) p (back e pc (number_code rd n) (j ∷ []) s) z q one.next.at in
        sets_append e (number_code rd n) (j ∷ []) r v pc rd n (t 2 + n) t b one (sets_one e j one.next.regs one.next.view to rd (t 2 + n) one.new b two)

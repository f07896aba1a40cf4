-- Jumps and tests.
use Rattle.std.proofs.Common.{◌≡◌, ◌≢◌, ℕ, suc, ◌+◌, ◌-◌, ◌*◌, ◌%◌, ◌^◌, ◌<◌, ◌≤◌, Bool, true, false, List, [], ◌∷◌, ◌++◌, length, refl, sym, ap, ◌∙◌, subst, arith, ⊎_elim, length-append}
use Rattle.std.specs.Prelude.{ℤ, pos, negsuc, ◌==◌, nat_le, if◌then◌else◌, not, int_lt, int_le}
use Rattle.std.proofs.lemmas.Bool.{cases_lt}
use Rattle.std.proofs.lemmas.Bool.Decides.{nat_tests}
use Rattle.nx_base.specs.declared.regs.Regs.{Regs}
use Rattle.nx_base.specs.declared.operations.Cond.TheVariants as cond
use Rattle.nx_base.specs.Arithmetic.{taken_of, signed}
use Rattle.nx_base.specs.Views.{View}
use Rattle.nx_rv.specs.declared.inst.Inst.{Inst}
use Rattle.nx_rv.specs.declared.inst.Inst.TheVariants.{Auipc, Jalr}
use Rattle.nx_rv.specs.Execution.{plus}
use Rattle.nx_slot.specs.declared.op.Comparison.{Comparison}
use Rattle.nx_slot.specs.declared.op.Comparison.TheVariants.{Equal, Unequal, Less, AtMost, Greater, AtLeast}
use Rattle.nx_slot.specs.declared.op.Operand.{Operand}
use Rattle.nx_slot.specs.declared.op.Operand.TheVariants.{Cell, Number}
use Rattle.nx_slot.specs.declared.program.SlotFunction.{SlotFunction}
use Rattle.nx_slot.specs.Objects.{holds}
use Rattle.nx_codegen.specs.Addresses.{upper, lower, from_to, distance}
use Rattle.nx_codegen.specs.Moves.{number_code, get_code, source}
use Rattle.nx_codegen.specs.Operators.{jump_code, branch_if, branch_unless, skip_code, right_code, right_source}
use Rattle.nx_shown.specs.Bytes.{Bytes, put}
use Rattle.nx_shown.specs.Places.{Place, IsPlace}
use Rattle.nx_shown.specs.Leading.{At, Next}
use Rattle.nx_shown.proofs.Stores.{put_same, put_other}
use Rattle.nx_shown.proofs.Steps.{on, instructions}
use Rattle.nx_pieces.specs.Parts.{IsCode, Ran}
use Rattle.nx_pieces.specs.Cells.{cell_word, Open, Keeps}
use Rattle.nx_pieces.proofs.Parts.{first, rest, below, front, back, ran_none, ran_append, parts_add, number_sets}
use Rattle.nx_pieces.proofs.Writes.{got}
use Rattle.nx_operations.specs.Laws.{operand_word, IsShown}
use Rattle.nx_operations.specs.Jumps.{Leads, IsThere, JumpsLead, TestsLead}
use Rattle.nx_operations.proofs.Numbers.{le_is}
use Rattle.nx_operations.proofs.Operations.{keeps_same, keeps_then, keeps_others, same_cell, five, six, not_six, one_in}

way_on : (start here there : ℕ) → start + there < 2 ^ 32 → here ≤ there → plus (start + here) (pos (there - here)) ≡ start + there
unfolding plus
way_on start here there f l = omega arith

way_back : (start here there : ℕ) → start + here < 2 ^ 32 → there < here → plus (start + here) (negsuc (here - there - 1)) ≡ start + there
unfolding plus
way_back start here there f l = omega arith

way : (start here there : ℕ) → start + here < 2 ^ 32 → start + there < 2 ^ 32 → plus (start + here) (from_to here there) ≡ start + there
unfolding from_to
way start here there f k = ⊎_elim
    (λ l. let q : nat_le here there ≡ false = grind (arith, nat_tests) in rw q (way_back start here there f l))
    (λ l. let q : nat_le here there ≡ true = grind (arith, nat_tests) in rw q (way_on start here there k l))
    (cases_lt there here)

small_distance : (here there : ℕ) → distance here there < 2 ^ 32
unfolding distance
small_distance here there = omega arith

distance_sum : (start here there : ℕ) → start + here < 2 ^ 32 → start + there < 2 ^ 32 → (start + here + distance here there) % 2 ^ 32 ≡ start + there
unfolding distance
distance_sum start here there f k = omega arith

far_way : (start here there : ℕ) → start + here < 2 ^ 32 → start + there < 2 ^ 32 → plus ((start + here + upper (distance here there)) % 2 ^ 32) (lower (distance here there)) ≡ start + there
far_way start here there f k = parts_add (start + here) (distance here there) (small_distance here there) ∙ distance_sum start here there f k

far_length : (here there : ℕ) → length (jump_code false here there) ≡ 2
unfolding jump_code
far_length here there = refl

over_way : (pc n : ℕ) → n ≡ 2 → pc + 4 * suc n < 2 ^ 32 → plus pc (pos 12) ≡ pc + 4 * suc n
unfolding plus
over_way pc n e f = omega arith

pub jumps : JumpsLead
unfolding jump_code
jumps e r v start here there true t b i k s a = record {
  count = 1;
  few = omega arith;
  some = omega arith;
  new = t;
  next = (instructions e r v (start + here) t b i a).jump (start + there) (from_to here there) s.0 (way start here there (let f = s.1 in omega (arith, f)) k.below) k.aligned;
  keeps = keeps_same t;
}
jumps e r v start here there false t b i k s a =
    let d = distance here there in
    let c = Auipc 5 (upper d) in let j = Jalr 0 5 (lower d) in
    let pc = start + here in
    let s2 = rest e pc c (j ∷ []) s in
    let t1 = put t 5 ((pc + upper d) % 2 ^ 32) in
    let one = (instructions e r v pc t b i a).auipc 5 (upper d) (first e pc c (j ∷ []) s).0 (below e pc c (j ∷ []) s) refl in
    let last = (instructions e one.regs one.view (pc + 4) t1 b i one.at).return 5 (start + there) (lower d) s2.0 (below e (pc + 4) j [] s2)
    (ap (λ y. plus y (lower d)) (put_same t 5 ((pc + upper d) % 2 ^ 32) 5 refl) ∙ far_way start here there (let f = s.1 in omega (arith, f)) k.below) k.aligned in
    record {
      count = 2;
      few = omega arith;
      some = omega arith;
      new = t1;
      next = on e 1 1 r v (pc + 4) (start + there) t1 t1 b b one last;
      keeps = keeps_others t t1 5 five (λ j q. put_other t 5 _ j q);
    }

-- Whether a branch is taken.
abbrev unless_taken : Comparison → ℕ → ℕ → Bool
unless_taken Equal x y = taken_of cond.Ne x y
unless_taken Unequal x y = taken_of cond.Eq x y
unless_taken Less x y = taken_of cond.Ge x y
unless_taken AtMost x y = taken_of cond.Lt y x
unless_taken Greater x y = taken_of cond.Ge y x
unless_taken AtLeast x y = taken_of cond.Lt x y

twice : (q : Bool) → q ≡ not (not q)
twice true = refl
twice false = refl

unless_is : (o : Comparison) (x y : ℕ) → unless_taken o x y ≡ not (holds o x y)
unfolding taken_of holds
unless_is Equal x y = refl
unless_is Unequal x y = twice (x == y)
unless_is Less x y = le_is (signed y) (signed x)
unless_is AtMost x y = twice _ ∙ ap not (sym (le_is (signed x) (signed y)))
unless_is Greater x y = le_is (signed x) (signed y)
unless_is AtLeast x y = twice _ ∙ ap not (sym (le_is (signed y) (signed x)))

unless_next : (e : Place) (r : Regs) (v : View) (pc : ℕ) (t : ℕ → ℕ) (b : Bytes) (o : Comparison) (rs1 rs2 x y to : ℕ) (offset : ℤ) → IsPlace e → IsCode e pc (branch_unless o rs1 rs2 offset ∷ []) → plus pc offset ≡ to → to % 4 ≡ 0 → t rs1 ≡ x → t rs2 ≡ y → At e r v pc t b → unless_taken o x y ≡ true → Next e 1 r v to t b
unless_next e r v pc t b Equal rs1 rs2 x y to z i s p al f g a q = (instructions e r v pc t b i a).taken cond.Ne rs1 rs2 x y to z s.0 p al f g q
unless_next e r v pc t b Unequal rs1 rs2 x y to z i s p al f g a q = (instructions e r v pc t b i a).taken cond.Eq rs1 rs2 x y to z s.0 p al f g q
unless_next e r v pc t b Less rs1 rs2 x y to z i s p al f g a q = (instructions e r v pc t b i a).taken cond.Ge rs1 rs2 x y to z s.0 p al f g q
unless_next e r v pc t b AtMost rs1 rs2 x y to z i s p al f g a q = (instructions e r v pc t b i a).taken cond.Lt rs2 rs1 y x to z s.0 p al g f q
unless_next e r v pc t b Greater rs1 rs2 x y to z i s p al f g a q = (instructions e r v pc t b i a).taken cond.Ge rs2 rs1 y x to z s.0 p al g f q
unless_next e r v pc t b AtLeast rs1 rs2 x y to z i s p al f g a q = (instructions e r v pc t b i a).taken cond.Lt rs1 rs2 x y to z s.0 p al f g q

unless_passed : (e : Place) (r : Regs) (v : View) (pc : ℕ) (t : ℕ → ℕ) (b : Bytes) (o : Comparison) (rs1 rs2 x y : ℕ) (offset : ℤ) → IsPlace e → IsCode e pc (branch_unless o rs1 rs2 offset ∷ []) → t rs1 ≡ x → t rs2 ≡ y → At e r v pc t b → unless_taken o x y ≡ false → Next e 1 r v (pc + 4) t b
unless_passed e r v pc t b Equal rs1 rs2 x y z i s f g a q = (instructions e r v pc t b i a).passed cond.Ne rs1 rs2 x y z s.0 (let k = s.1 in omega (arith, k)) f g q
unless_passed e r v pc t b Unequal rs1 rs2 x y z i s f g a q = (instructions e r v pc t b i a).passed cond.Eq rs1 rs2 x y z s.0 (let k = s.1 in omega (arith, k)) f g q
unless_passed e r v pc t b Less rs1 rs2 x y z i s f g a q = (instructions e r v pc t b i a).passed cond.Ge rs1 rs2 x y z s.0 (let k = s.1 in omega (arith, k)) f g q
unless_passed e r v pc t b AtMost rs1 rs2 x y z i s f g a q = (instructions e r v pc t b i a).passed cond.Lt rs2 rs1 y x z s.0 (let k = s.1 in omega (arith, k)) g f q
unless_passed e r v pc t b Greater rs1 rs2 x y z i s f g a q = (instructions e r v pc t b i a).passed cond.Ge rs2 rs1 y x z s.0 (let k = s.1 in omega (arith, k)) g f q
unless_passed e r v pc t b AtLeast rs1 rs2 x y z i s f g a q = (instructions e r v pc t b i a).passed cond.Lt rs1 rs2 x y z s.0 (let k = s.1 in omega (arith, k)) f g q

eq_taken : (x y : ℕ) {q : Bool} → (x == y) ≡ q → taken_of cond.Eq x y ≡ q
unfolding taken_of
eq_taken x y h = h

ne_taken : (x y : ℕ) (q : Bool) → not (x == y) ≡ q → taken_of cond.Ne x y ≡ q
unfolding taken_of
ne_taken x y q h = h

lt_taken : (x y : ℕ) (q : Bool) → int_lt (signed x) (signed y) ≡ q → taken_of cond.Lt x y ≡ q
unfolding taken_of
lt_taken x y q h = h

ge_taken : (x y : ℕ) (q : Bool) → int_le (signed y) (signed x) ≡ q → taken_of cond.Ge x y ≡ q
unfolding taken_of
ge_taken x y q h = h

if_next : (e : Place) (r : Regs) (v : View) (pc : ℕ) (t : ℕ → ℕ) (b : Bytes) (o : Comparison) (rs1 rs2 x y to : ℕ) (offset : ℤ) → IsPlace e → IsCode e pc (branch_if o rs1 rs2 offset ∷ []) → plus pc offset ≡ to → to % 4 ≡ 0 → t rs1 ≡ x → t rs2 ≡ y → At e r v pc t b → holds o x y ≡ true → Next e 1 r v to t b
unfolding holds
if_next e r v pc t b Equal rs1 rs2 x y to z i s p al f g a q = (instructions e r v pc t b i a).taken cond.Eq rs1 rs2 x y to z s.0 p al f g (eq_taken x y q)
if_next e r v pc t b Unequal rs1 rs2 x y to z i s p al f g a q = (instructions e r v pc t b i a).taken cond.Ne rs1 rs2 x y to z s.0 p al f g (ne_taken x y true q)
if_next e r v pc t b Less rs1 rs2 x y to z i s p al f g a q = (instructions e r v pc t b i a).taken cond.Lt rs1 rs2 x y to z s.0 p al f g (lt_taken x y true q)
if_next e r v pc t b AtMost rs1 rs2 x y to z i s p al f g a q = (instructions e r v pc t b i a).taken cond.Ge rs2 rs1 y x to z s.0 p al g f (ge_taken y x true q)
if_next e r v pc t b Greater rs1 rs2 x y to z i s p al f g a q = (instructions e r v pc t b i a).taken cond.Lt rs2 rs1 y x to z s.0 p al g f (lt_taken y x true q)
if_next e r v pc t b AtLeast rs1 rs2 x y to z i s p al f g a q = (instructions e r v pc t b i a).taken cond.Ge rs1 rs2 x y to z s.0 p al f g (ge_taken x y true q)

if_passed : (e : Place) (r : Regs) (v : View) (pc : ℕ) (t : ℕ → ℕ) (b : Bytes) (o : Comparison) (rs1 rs2 x y : ℕ) (offset : ℤ) → IsPlace e → IsCode e pc (branch_if o rs1 rs2 offset ∷ []) → t rs1 ≡ x → t rs2 ≡ y → At e r v pc t b → holds o x y ≡ false → Next e 1 r v (pc + 4) t b
unfolding holds
if_passed e r v pc t b Equal rs1 rs2 x y z i s f g a q = (instructions e r v pc t b i a).passed cond.Eq rs1 rs2 x y z s.0 (let k = s.1 in omega (arith, k)) f g (eq_taken x y q)
if_passed e r v pc t b Unequal rs1 rs2 x y z i s f g a q = (instructions e r v pc t b i a).passed cond.Ne rs1 rs2 x y z s.0 (let k = s.1 in omega (arith, k)) f g (ne_taken x y false q)
if_passed e r v pc t b Less rs1 rs2 x y z i s f g a q = (instructions e r v pc t b i a).passed cond.Lt rs1 rs2 x y z s.0 (let k = s.1 in omega (arith, k)) f g (lt_taken x y false q)
if_passed e r v pc t b AtMost rs1 rs2 x y z i s f g a q = (instructions e r v pc t b i a).passed cond.Ge rs2 rs1 y x z s.0 (let k = s.1 in omega (arith, k)) g f (ge_taken y x false q)
if_passed e r v pc t b Greater rs1 rs2 x y z i s f g a q = (instructions e r v pc t b i a).passed cond.Lt rs2 rs1 y x z s.0 (let k = s.1 in omega (arith, k)) g f (lt_taken y x false q)
if_passed e r v pc t b AtLeast rs1 rs2 x y z i s f g a q = (instructions e r v pc t b i a).passed cond.Ge rs1 rs2 x y z s.0 (let k = s.1 in omega (arith, k)) f g (ge_taken x y false q)

-- Code in front of a jump.
leads_behind : (e : Place) (c : List Inst) (most : ℕ) (r : Regs) (v : View) (pc to : ℕ) (t u : ℕ → ℕ) (b : Bytes) → (n : Ran e c r v pc u b) → Keeps t u → Leads e most n.regs n.view to u b → Leads e (length c + most) r v to t b
leads_behind e c most r v pc to t u b n k m = record {
  count = length c + m.count;
  few = let f = m.few in omega (arith, f);
  some = let f = m.some in omega (arith, f);
  new = m.new;
  next = on e (length c) m.count r v (pc + 4 * length c) to u m.new b b n m.next;
  keeps = keeps_then t u m.new k m.keeps;
}

one_leads : (e : Place) (most : ℕ) (r : Regs) (v : View) (to : ℕ) (t : ℕ → ℕ) (b : Bytes) → 1 ≤ most → Next e 1 r v to t b → Leads e most r v to t b
one_leads e most r v to t b l n = record { count = 1; few = l; some = omega arith; new = t; next = n; keeps = keeps_same t }

-- A test whose two sides are in registers.
record Skips (e : Place) (o : Comparison) (x y most : ℕ) (r : Regs) (v : View) (behind to : ℕ) (t : ℕ → ℕ) (b : Bytes) : Type 0 where
  holding : holds o x y ≡ true → Leads e most r v behind t b
  failing : holds o x y ≡ false → Leads e most r v to t b

skips : (e : Place) (r : Regs) (v : View) (start here there : ℕ) (near : Bool) (o : Comparison) (rs1 rs2 x y : ℕ) (t : ℕ → ℕ) (b : Bytes) → IsPlace e → IsThere start there → IsCode e (start + here) (skip_code near o rs1 rs2 here there) → t rs1 ≡ x → t rs2 ≡ y → At e r v (start + here) t b
    → Skips e o x y (length (skip_code near o rs1 rs2 here there)) r v (start + here + 4 * length (skip_code near o rs1 rs2 here there)) (start + there) t b
unfolding skip_code
skips e r v start here there true o rs1 rs2 x y t b i k s f g a = record {
  holding = λ q. one_leads e 1 r v (start + here + 4) t b (omega arith) (unless_passed e r v (start + here) t b o rs1 rs2 x y (from_to here there) i s f g a (unless_is o x y ∙ ap not q));
  failing = λ q. one_leads e 1 r v (start + there) t b (omega arith) (unless_next e r v (start + here) t b o rs1 rs2 x y (start + there) (from_to here there) i s (way start here there (let m = s.1 in omega (arith, m)) k.below) k.aligned f g a (unless_is o x y ∙ ap not q));
}
skips e r v start here there false o rs1 rs2 x y t b i k s f g a = record { holding = over; failing = through }
  where
    j : Inst
    j = branch_if o rs1 rs2 (pos 12)

    jump : List Inst
    jump = jump_code false (here + 4) there

    over : holds o x y ≡ true → Leads e (suc (length jump)) r v (start + here + 4 * suc (length jump)) t b
    over q =
        let al = a.aligned in let m = s.1 in
        let l : length jump ≡ 2 = far_length (here + 4) there in
        one_leads e (suc (length jump)) r v (start + here + 4 * suc (length jump)) t b (omega arith)
        (if_next e r v (start + here) t b o rs1 rs2 x y (start + here + 4 * suc (length jump)) (pos 12) i (first e (start + here) j jump s) (over_way (start + here) (length jump) l m) (omega (arith, al, l)) f g a q)

    through : holds o x y ≡ false → Leads e (suc (length jump)) r v (start + there) t b
    through q =
        let n = if_passed e r v (start + here) t b o rs1 rs2 x y (pos 12) i (first e (start + here) j jump s) f g a q in
        let p : start + here + 4 ≡ start + (here + 4) = omega arith in
        let m = jumps e n.regs n.view start (here + 4) there false t b i k (subst (λ z. IsCode e z jump) p (rest e (start + here) j jump s)) (subst (λ z. At e n.regs n.view z t b) p n.at) in
        let z : 1 + length jump ≡ suc (length jump) = omega arith in
        subst (λ k. Leads e k r v (start + there) t b) z (leads_behind e (j ∷ []) (length jump) r v (start + here) (start + there) t t b n (keeps_same t) m)

-- The right side of a test comes in.
record RightIn (e : Place) (g : SlotFunction) (right : Operand) (x : ℕ) (r : Regs) (v : View) (pc : ℕ) (t : ℕ → ℕ) (b : Bytes) : Type 0 where
  new : ℕ → ℕ
  next : Ran e (right_code g right) r v pc new b
  is : new (right_source g right) ≡ x
  others : (j : ℕ) → j ≢ 6 → new j ≡ t j

right_number : (e : Place) (g : SlotFunction) (r : Regs) (v : View) (pc n : ℕ) (t : ℕ → ℕ) (b : Bytes) → IsPlace e → n < 2 ^ 32 → (q : Bool) → (n == 0) ≡ q → IsCode e pc (if q then [] else number_code 6 n) → At e r v pc t b → RightIn e g (Number n) n r v pc t b
unfolding right_code right_source
right_number e g r v pc n t b i l true h s a = let z : n ≡ 0 = grind (arith, nat_tests) in record { new = t; next = rw h (ran_none e r v pc t b a); is = rw h (a.zero ∙ sym z); others = λ j o. refl }
right_number e g r v pc n t b i l false h s a = let m = number_sets e r v pc 6 n t b i l (refl, omega arith) s a in record { new = m.new; next = rw h m.next; is = rw h m.is; others = m.others }

same_operand : (g : SlotFunction) (sp : ℕ) (t u : ℕ → ℕ) (b : Bytes) (right : Operand) → Keeps t u → operand_word g sp u b right ≡ operand_word g sp t b right
same_operand g sp t u b (Cell i) k = same_cell g sp t u b i k
same_operand g sp t u b (Number n) k = refl

right_in : (e : Place) (g : SlotFunction) (sp : ℕ) (r : Regs) (v : View) (pc : ℕ) (right : Operand) (t : ℕ → ℕ) (b : Bytes) → Open e g sp → t 2 ≡ sp → IsShown g right → IsCode e pc (right_code g right) → At e r v pc t b → RightIn e g right (operand_word g sp t b right) r v pc t b
unfolding right_code right_source
right_in e g sp r v pc (Cell i) t b o two l s a = let m = got e g sp r v pc 6 i t b o six l two s a in record { new = m.new; next = m.next; is = m.is; others = m.others }
right_in e g sp r v pc (Number n) t b o two l s a = by_zero (n == 0) refl s
  where
    code : Bool → List Inst
    code q = if q then [] else number_code 6 n

    by_zero : (q : Bool) → (n == 0) ≡ q → IsCode e pc (code q) → RightIn e g (Number n) n r v pc t b
    by_zero q h s = right_number e g r v pc n t b o.place l q h s a

pub tests : TestsLead
tests e g sp r v start here there near o left right t b op two l m k s a =
    let c = get_code g 5 left in let d = right_code g right in
    let sides = c ++ d in
    let i = source g 5 left in let j = right_source g right in
    let place = here + 4 * length sides in
    let skip = skip_code near o i j place there in
    let pc = start + here in
    let sc = front e pc sides skip s in
    let one = one_in e g sp r v pc left t b op l two (front e pc c d sc) a in
    let two' = right_in e g sp one.got.next.regs one.got.next.view (pc + 4 * length c) right one.got.new b op one.two m (back e pc c d sc) one.got.next.at in
    let ran = ran_append e c d r v pc one.got.new two'.new b b one.got.next two'.next in
    let p : pc + 4 * length sides ≡ start + place = omega arith in
    let y : two'.new j ≡ operand_word g sp t b right = two'.is ∙ same_operand g sp t one.got.new b right one.keeps in
    let x : two'.new i ≡ cell_word g sp t b left = two'.others i (not_six g left) ∙ one.got.is in
    let keeps = keeps_then t one.got.new two'.new one.keeps (keeps_others one.got.new two'.new 6 six two'.others) in
    let q = skips e ran.regs ran.view start place there near o i j _ _ two'.new b op.place k (subst (λ z. IsCode e z skip) p (back e pc sides skip s)) x y (subst (λ z. At e ran.regs ran.view z two'.new b) p ran.at) in
    let n : length sides + length skip ≡ length (sides ++ skip) = sym (length-append sides skip) in
    let w : start + place + 4 * length skip ≡ pc + 4 * length (sides ++ skip) = omega (arith, n) in
    record {
      holding = λ h. subst (λ z. Leads e z r v (pc + 4 * length (sides ++ skip)) t b) n (subst (λ z. Leads e (length sides + length skip) r v z t b) w (leads_behind e sides (length skip) r v pc (start + place + 4 * length skip) t two'.new b ran keeps (q.holding h)));
      failing = λ h. subst (λ z. Leads e z r v (start + there) t b) n (leads_behind e sides (length skip) r v pc (start + there) t two'.new b ran keeps (q.failing h));
    }

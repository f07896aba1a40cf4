-- Where cells stand, and words of a frame in code.
use Rattle.std.proofs.Common.{◌≡◌, ◌≢◌, ℕ, zero, suc, ◌+◌, ◌-◌, ◌*◌, ◌%◌, ◌^◌, ◌<◌, ◌≤◌, ◌⊎◌, inl, inr, Bool, true, false, List, [], ◌∷◌, length, refl, sym, ap, ◌∙◌, arith, ⊎_elim}
use Rattle.std.specs.Prelude.{pos, nat_lt, nat_le, if◌then◌else◌}
use Rattle.std.proofs.lemmas.Bool.{cases_lt}
use Rattle.std.proofs.lemmas.Bool.Decides.{nat_tests}
use Rattle.nx_base.specs.declared.regs.Regs.{Regs}
use Rattle.nx_base.specs.declared.operations.AluOp.TheVariants as alu
use Rattle.nx_base.specs.Views.{View}
use Rattle.nx_rv.specs.declared.inst.Inst.{Inst}
use Rattle.nx_rv.specs.declared.inst.Inst.TheVariants.{Lui, Load, Store, Op}
use Rattle.nx_rv.specs.Execution.{plus, widened}
use Rattle.nx_slot.specs.declared.program.SlotFunction.{SlotFunction}
use Rattle.nx_slot.specs.declared.program.SlotArray.{SlotArray}
use Rattle.nx_codegen.specs.Addresses.{upper, lower}
use Rattle.nx_codegen.specs.Frames.{in_register, cell_at, words_end, rounded, array_from}
use Rattle.nx_codegen.specs.Cells.{IsCell}
use Rattle.nx_codegen.specs.Moves.{load_code, store_code}
use Rattle.nx_shown.specs.Bytes.{Bytes, put, number_at}
use Rattle.nx_shown.specs.Places.{Place, MayWrite}
use Rattle.nx_shown.specs.Leading.{At, IsWritten}
use Rattle.nx_shown.proofs.Stores.{put_same, put_other, word_small}
use Rattle.nx_shown.proofs.Steps.{instructions}
use Rattle.nx_pieces.specs.Parts.{IsCode, Sets}
use Rattle.nx_pieces.specs.Cells.{Open, Saves}
use Rattle.nx_pieces.proofs.Parts.{first, rest, below, ran_cons, sets_one, sets_cons, plus_up, parts_add, sum_next, lui_next}

pub by_test : {A : Type 0} (q : Bool) → (q ≡ true → A) → (q ≡ false → A) → A
by_test true f g = f refl
by_test false f g = g refl

pub register_bounds : (g : SlotFunction) (i : ℕ) → in_register g i ≡ true → (g.locals ≤ i) × (i < g.locals + 8)
unfolding in_register
register_bounds g i h = (grind (arith, nat_tests), grind (arith, nat_tests))

pub local_at : (g : SlotFunction) (i : ℕ) → i < g.locals → cell_at g i ≡ 4 * (1 + g.temporaries + i)
unfolding cell_at
local_at g i h = let q : nat_lt i g.locals ≡ true = grind (arith, nat_tests) in rw q refl

pub temporary_at : (g : SlotFunction) (i : ℕ) → g.locals ≤ i → cell_at g i ≡ 4 * (1 + (i - g.locals))
unfolding cell_at
temporary_at g i h = let q : nat_lt i g.locals ≡ false = grind (arith, nat_tests) in rw q refl

pub record Inside (g : SlotFunction) (i : ℕ) : Type 0 where
  pub low : 4 ≤ cell_at g i
  pub top : cell_at g i + 4 ≤ words_end g
  pub aligned : cell_at g i % 4 ≡ 0

pub inside : (g : SlotFunction) (i : ℕ) → IsCell g i → Inside g i
unfolding words_end
inside g i h = ⊎_elim
    (λ l. let e = local_at g i l in record { low = omega (arith, e); top = omega (arith, e); aligned = omega (arith, e) })
    (λ l. let e = temporary_at g i l in record { low = omega (arith, e); top = omega (arith, e); aligned = omega (arith, e) })
    (cases_lt i g.locals)

order : (i j : ℕ) → j ≤ i → i ≢ j → j < i
order i j l o = ⊎_elim (λ n. n) (λ n. absurd (o (omega (arith, l, n)))) (cases_lt j i)

pub cells_apart : (g : SlotFunction) (i j : ℕ) → IsCell g i → IsCell g j → i ≢ j → (cell_at g i + 4 ≤ cell_at g j) ⊎ (cell_at g j + 4 ≤ cell_at g i)
cells_apart g i j h k o = ⊎_elim
    (λ l. let e = local_at g i l in ⊎_elim
    (λ m. let f = local_at g j m in ⊎_elim (λ n. inl (omega (arith, e, f, n))) (λ n. inr (let p : j < i = order i j n o in omega (arith, e, f, p))) (cases_lt i j))
    (λ m. let f = temporary_at g j m in inr (omega (arith, e, f, k)))
    (cases_lt j g.locals))
    (λ l. let e = temporary_at g i l in ⊎_elim
    (λ m. let f = local_at g j m in inl (omega (arith, e, f, h)))
    (λ m. let f = temporary_at g j m in ⊎_elim (λ n. inl (omega (arith, e, f, n, l))) (λ n. inr (let p : j < i = order i j n o in omega (arith, e, f, p, m))) (cases_lt i j))
    (cases_lt j g.locals))
    (cases_lt i g.locals)

arrays_up : (all : List SlotArray) (at k : ℕ) → at ≤ array_from all at k
arrays_up [] at k = omega arith
arrays_up (a ∷ more) at zero = omega arith
arrays_up (a ∷ more) at (suc k) = let h = arrays_up more (at + rounded a.bytes) k in omega (arith, h)

pub words_fit : (e : Place) (g : SlotFunction) (sp : ℕ) → Open e g sp → words_end g ≤ g.frame
words_fit e g sp o = let h = o.function.holds in let k = arrays_up g.arrays (words_end g) (length g.arrays) in omega (arith, h, k)

pub may_write : (e : Place) (g : SlotFunction) (sp n : ℕ) → Open e g sp → n + 4 ≤ g.frame → MayWrite e (sp + n) 4
may_write e g sp n o h = let l = o.low in let t = o.top in inl (omega (arith, l), omega (arith, t, h))

pub frame_fits : (e : Place) (g : SlotFunction) (sp : ℕ) → Open e g sp → sp + g.frame < 2 ^ 32
frame_fits e g sp o = let t = o.top in let p = o.place.fits in omega (arith, t, p)

pub word_is : (n : ℕ) → widened 4 true n ≡ n
unfolding widened
word_is n = by_test (nat_le (2 ^ 31) n) (λ q. rw q (omega arith)) (λ q. rw q refl)

-- A word of the frame comes into a register.
pub load_sets : (e : Place) (g : SlotFunction) (sp : ℕ) (r : Regs) (v : View) (pc rd n : ℕ) (t : ℕ → ℕ) (b : Bytes) → Open e g sp → n + 4 ≤ g.frame → n % 4 ≡ 0 → IsWritten rd → rd ≢ 2 → t 2 ≡ sp
    → IsCode e pc (load_code rd n) → At e r v pc t b → Sets e (load_code rd n) r v pc rd (number_at b (sp + n) 4) t b
unfolding load_code
load_sets e g sp r v pc rd n t b o h al z out two s a = by_near (nat_lt n 2048) s
  where
    code : Bool → List Inst
    code q = if q then Load 4 true rd 2 (pos n) ∷ [] else Lui rd (upper n) ∷ Op alu.Add rd rd 2 ∷ Load 4 true rd rd (lower n) ∷ []

    by_near : (q : Bool) → IsCode e pc (code q) → Sets e (code q) r v pc rd (number_at b (sp + n) 4) t b
    by_near true s =
        let f = frame_fits e g sp o in
        let spa = o.aligned in
        let i = Load 4 true rd 2 (pos n) in
        sets_one e i r v pc rd _ t b ((instructions e r v pc t b o.place a).load 4 true rd 2 (sp + n) (number_at b (sp + n) 4) (pos n) s.0 (below e pc i [] s) z
        (ap (λ x. plus x (pos n)) two ∙ plus_up sp n (omega (arith, f, h))) (omega (arith, al, spa)) (omega arith) (inl (may_write e g sp n o h)) (word_is _) (word_small b (sp + n) a.sees.small))
    by_near false s =
        let f = frame_fits e g sp o in
        let spa = o.aligned in
        let i = Lui rd (upper n) in let j = Op alu.Add rd rd 2 in let k = Load 4 true rd rd (lower n) in
        let s2 = rest e pc i (j ∷ k ∷ []) s in
        let s3 = rest e (pc + 4) j (k ∷ []) s2 in
        let x = (sp + upper n) % 2 ^ 32 in
        let one = lui_next e r v pc t b rd (upper n) o.place (first e pc i (j ∷ k ∷ []) s) z a in
        let t1 = put t rd (upper n) in
        let sum : (t1 rd + t1 2) % 2 ^ 32 ≡ x = let y = put_same t rd (upper n) rd refl in let w = put_other t rd (upper n) 2 (λ q. out (sym q)) in omega (arith, y, w, two) in
        let next = sum_next e one.regs one.view (pc + 4) t1 b rd rd 2 x o.place (first e (pc + 4) j (k ∷ []) s2) z sum one.at in
        let t2 = put t1 rd x in
        let there : plus (t2 rd) (lower n) ≡ sp + n = ap (λ y. plus y (lower n)) (put_same t1 rd x rd refl) ∙ parts_add sp n (omega (arith, f, h)) ∙ omega (arith, f, h) in
        let last = (instructions e next.regs next.view (pc + 4 + 4) t2 b o.place next.at).load 4 true rd rd (sp + n) (number_at b (sp + n) 4) (lower n) s3.0 (below e (pc + 4 + 4) k [] s3) z
        there (omega (arith, al, spa)) (omega arith) (inl (may_write e g sp n o h)) (word_is _) (word_small b (sp + n) a.sees.small) in
        sets_cons e i (j ∷ k ∷ []) r v pc rd (upper n) _ t b one (sets_cons e j (k ∷ []) one.regs one.view (pc + 4) rd x _ t1 b next (sets_one e k next.regs next.view (pc + 4 + 4) rd _ t2 b last))

-- A register's number goes into a word of the frame.
pub store_saves : (e : Place) (g : SlotFunction) (sp : ℕ) (r : Regs) (v : View) (pc rs n x : ℕ) (t : ℕ → ℕ) (b : Bytes) → Open e g sp → n + 4 ≤ g.frame → n % 4 ≡ 0 → rs ≢ 7 → t 2 ≡ sp → t rs ≡ x
    → IsCode e pc (store_code rs n) → At e r v pc t b → Saves e (store_code rs n) r v pc (sp + n) x t b
unfolding store_code
store_saves e g sp r v pc rs n x t b o h al out two is s a = by_near (nat_lt n 2048) s
  where
    code : Bool → List Inst
    code q = if q then Store 4 2 rs (pos n) ∷ [] else Lui 7 (upper n) ∷ Op alu.Add 7 7 2 ∷ Store 4 7 rs (lower n) ∷ []

    by_near : (q : Bool) → IsCode e pc (code q) → Saves e (code q) r v pc (sp + n) x t b
    by_near true s =
        let f = frame_fits e g sp o in
        let spa = o.aligned in
        let i = Store 4 2 rs (pos n) in
        record {
          new = t;
          next = (instructions e r v pc t b o.place a).store 4 2 rs (sp + n) x (pos n) s.0 (below e pc i [] s) (ap (λ y. plus y (pos n)) two ∙ plus_up sp n (omega (arith, f, h))) (omega (arith, al, spa)) (omega arith) (may_write e g sp n o h) is;
          others = λ j q. refl;
        }
    by_near false s =
        let f = frame_fits e g sp o in
        let spa = o.aligned in
        let i = Lui 7 (upper n) in let j = Op alu.Add 7 7 2 in let k = Store 4 7 rs (lower n) in
        let s2 = rest e pc i (j ∷ k ∷ []) s in
        let s3 = rest e (pc + 4) j (k ∷ []) s2 in
        let y = (sp + upper n) % 2 ^ 32 in
        let z : IsWritten 7 = (refl, omega arith) in
        let one = lui_next e r v pc t b 7 (upper n) o.place (first e pc i (j ∷ k ∷ []) s) z a in
        let t1 = put t 7 (upper n) in
        let sum : (t1 7 + t1 2) % 2 ^ 32 ≡ y = omega (arith, two) in
        let next = sum_next e one.regs one.view (pc + 4) t1 b 7 7 2 y o.place (first e (pc + 4) j (k ∷ []) s2) z sum one.at in
        let t2 = put t1 7 y in
        let there : plus (t2 7) (lower n) ≡ sp + n = parts_add sp n (omega (arith, f, h)) ∙ omega (arith, f, h) in
        let value : t2 rs ≡ x = put_other t1 7 y rs out ∙ put_other t 7 (upper n) rs out ∙ is in
        let last = (instructions e next.regs next.view (pc + 4 + 4) t2 b o.place next.at).store 4 7 rs (sp + n) x (lower n) s3.0 (below e (pc + 4 + 4) k [] s3) there (omega (arith, al, spa)) (omega arith) (may_write e g sp n o h) value in
        record {
          new = t2;
          next = ran_cons e i (j ∷ k ∷ []) r v pc t1 t2 b _ one (ran_cons e j (k ∷ []) one.regs one.view (pc + 4) t2 t2 b _ next last);
          others = λ j q. put_other t1 7 y j q ∙ put_other t 7 (upper n) j q;
        }

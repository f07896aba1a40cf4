-- Single turns, and straight code of instructions that write one register each.
use Rattle.std.proofs.Common.{◌≡◌, ℕ, suc, ◌+◌, ◌-◌, ◌*◌, ◌%◌, ◌^◌, ◌<◌, false, List, [], ◌∷◌, ◌++◌, length, Ok, refl, sym, ap, ◌∙◌, subst, arith, ⊎_elim}
use Rattle.std.specs.Prelude.{ℤ, pos, ◌==◌, if◌then◌else◌}
use Rattle.std.proofs.lemmas.Bool.{cases_eq}
use Rattle.std.proofs.lemmas.Bool.Decides.{nat_tests}
use Rattle.nx_base.specs.declared.regs.Regs.{Regs}
use Rattle.nx_base.specs.declared.operations.AluOp.TheVariants as op
use Rattle.nx_base.specs.Arithmetic.{alu_of}
use Rattle.nx_base.specs.Registers.{reg, with_reg}
use Rattle.nx_base.specs.Views.{View, fetch_word}
use Rattle.nx_base.proofs.RegisterLemmas.{reg-zero, reg-with_same, reg-with_other, length-with_reg, pc-with_reg, with_reg-zero}
use Rattle.nx_rv.specs.declared.inst.Inst.{Inst}
use Rattle.nx_rv.specs.declared.inst.Inst.TheVariants.{Lui, Jal, Jalr, OpImm, Ecall}
use Rattle.nx_rv.specs.Table.{encode_of, IsInRange}
use Rattle.nx_rv.specs.Execution.{plus, advance, jump, Turn, Goes, Calls, linked, execute, decoded, fetched, turn, after, stretch, ReachesCall}
use Rattle.nx_rv.proofs.Rows.{decode_encode}

-- an instruction stands at an address
pub record IsHere (v : View) (at : ℕ) (i : Inst) : Type 0 where
  pub word : fetch_word v at ≡ Ok (encode_of i)
  pub in_range : IsInRange i

-- instructions stand from an address on
abbrev pub AreHere : View → ℕ → List Inst → Type 0
AreHere v at [] = Unit {0}
AreHere v at (i ∷ is) = IsHere v at i × AreHere v (at + 4) is

pub here_front : (v : View) (at : ℕ) (a b : List Inst) → AreHere v at (a ++ b) → AreHere v at a
here_front v at [] b h = tt
here_front v at (x ∷ a) b h = (h.0, here_front v (at + 4) a b h.1)

pub here_back : (v : View) (at to : ℕ) (a b : List Inst) → to ≡ at + 4 * length a → AreHere v at (a ++ b) → AreHere v to b
here_back v at to [] b e h = let q : at ≡ to = omega arith in subst (λ n. AreHere v n b) q h
here_back v at to (x ∷ a) b e h = here_back v (at + 4) to a b (omega arith) h.1

-- the registers, as a function of their numbers, and the address of the next instruction
pub record IsAt (r : Regs) (pc : ℕ) (t : ℕ → ℕ) : Type 0 where
  pub pc_is : r.pc ≡ pc
  pub aligned : pc % 4 ≡ 0
  pub size : length r.x ≡ 32
  pub holds : (k : ℕ) → reg r k ≡ t k

-- n instructions lead from one state to another
pub record Leads (n : ℕ) (r : Regs) (v : View) (r' : Regs) : Type 0 where
  pub by : (k : ℕ) → stretch (k + n) r v ≡ stretch k r' v

pub leads_none : (r : Regs) (v : View) → Leads 0 r v r
leads_none r v = record { by = λ k. let e : k + 0 ≡ k = omega arith in ap (λ j. stretch j r v) e }

pub leads_then : (m n s : ℕ) (r : Regs) (v : View) (r1 r2 : Regs) → s ≡ m + n → Leads m r v r1 → Leads n r1 v r2 → Leads s r v r2
leads_then m n s r v r1 r2 q a b =
    record { by = λ k. let e : k + s ≡ (k + n) + m = omega arith in ap (λ j. stretch j r v) e ∙ a.by (k + n) ∙ b.by k }

stretch_more : (n : ℕ) (r : Regs) (v : View) (t : Turn) → turn r v ≡ t → stretch (n + 1) r v ≡ after t n (stretch n)
unfolding stretch
stretch_more n r v t h = let e : n + 1 ≡ suc n = omega arith in ap (λ k. stretch k r v) e ∙ ap (λ s. after s n (stretch n)) h

goes : (r : Regs) (v : View) (r' : Regs) → turn r v ≡ Goes r' v → Leads 1 r v r'
goes r v r' e = record { by = λ k. stretch_more k r v (Goes r' v) e }

turn_is : (r : Regs) (v : View) (i : Inst) → r.pc % 4 ≡ 0 → fetch_word v r.pc ≡ Ok (encode_of i) → IsInRange i → turn r v ≡ execute i r v
unfolding turn fetched decoded
turn_is r v i a f h = rw (a, f, decode_encode i h)

pub turn_at : (r : Regs) (v : View) (pc : ℕ) (t : ℕ → ℕ) (i : Inst) → IsAt r pc t → IsHere v pc i → turn r v ≡ execute i r v
turn_at r v pc t i s h = turn_is r v i (ap (λ p. p % 4) s.pc_is ∙ s.aligned) (ap (fetch_word v) s.pc_is ∙ h.word) h.in_range

-- a register's number, as a function sees a write to it
abbrev pub put : (ℕ → ℕ) → ℕ → ℕ → ℕ → ℕ
put t k n j = if j == k then n else t j

-- a write to a register other than 0
pub wrote : (r : Regs) (pc : ℕ) (t : ℕ → ℕ) (k n : ℕ) → (k == 0) ≡ false → k < 32 → IsAt r pc t → IsAt (with_reg r k n) pc (put t k n)
wrote r pc t k n z b s = record {
  pc_is = pc-with_reg r k n z ∙ s.pc_is;
  aligned = s.aligned;
  size = length-with_reg r k n z ∙ s.size;
  holds = λ j. ⊎_elim
      (λ e. subst (λ j. reg (with_reg r k n) j ≡ put t k n j) (sym e) (reg-with_same r k n z (omega (arith, s.size)) ∙ grind (arith, nat_tests)))
      (λ o. reg-with_other r k n j z o ∙ s.holds j ∙ grind (arith, nat_tests))
      (cases_eq j k);
}

reg-advance : (r : Regs) (j : ℕ) → reg (advance r) j ≡ reg r j
unfolding reg advance
reg-advance r j = refl

reg-jump : (r : Regs) (to j : ℕ) → reg (jump r to) j ≡ reg r j
unfolding reg jump
reg-jump r to j = refl

pub advanced : (r : Regs) (pc : ℕ) (t : ℕ → ℕ) → pc + 4 < 2 ^ 32 → IsAt r pc t → IsAt (advance r) (pc + 4) t
unfolding advance reg
advanced r pc t h s = record { pc_is = rw s.pc_is (omega arith); aligned = omega (arith, s.aligned); size = s.size; holds = s.holds }

pub jumped : (r : Regs) (pc to : ℕ) (t : ℕ → ℕ) → to % 4 ≡ 0 → IsAt r pc t → IsAt (jump r to) to t
unfolding jump reg
jumped r pc to t a s = record { pc_is = refl; aligned = a; size = s.size; holds = s.holds }

-- the same registers as another function
pub holds_as : (r : Regs) (pc : ℕ) (t u : ℕ → ℕ) → ((k : ℕ) → t k ≡ u k) → IsAt r pc t → IsAt r pc u
holds_as r pc t u e s = record { pc_is = s.pc_is; aligned = s.aligned; size = s.size; holds = λ k. s.holds k ∙ e k }

-- what an instruction of straight code writes
abbrev pub temps_after : Inst → (ℕ → ℕ) → ℕ → ℕ
temps_after (Lui rd imm) t = put t rd imm
temps_after (OpImm o rd rs1 imm) t = put t rd (plus (t rs1) imm)
temps_after _ t = t

abbrev pub temps_in : List Inst → (ℕ → ℕ) → ℕ → ℕ
temps_in [] t = t
temps_in (i ∷ is) t = temps_in is (temps_after i t)

-- an instruction that writes a register other than 0 and goes on to the next
abbrev pub IsStraight : Inst → Type 0
IsStraight (Lui rd imm) = (rd == 0) ≡ false
IsStraight (OpImm op.Add rd rs1 imm) = (rd == 0) ≡ false
IsStraight _ = ⊥

abbrev pub AreStraight : List Inst → Type 0
AreStraight [] = Unit {0}
AreStraight (i ∷ is) = IsStraight i × AreStraight is

-- where instructions lead
pub record Went (n : ℕ) (r : Regs) (v : View) (pc : ℕ) (t : ℕ → ℕ) : Type 0 where
  pub regs : Regs
  pub leads : Leads n r v regs
  pub is_at : IsAt regs pc t

execute_lui : (r : Regs) (v : View) (rd imm : ℕ) → execute (Lui rd imm) r v ≡ Goes (advance (with_reg r rd imm)) v
unfolding execute
execute_lui r v rd imm = refl

execute_add : (r : Regs) (v : View) (t : ℕ → ℕ) (pc rd rs1 : ℕ) (imm : ℤ) → IsAt r pc t → execute (OpImm op.Add rd rs1 imm) r v ≡ Goes (advance (with_reg r rd (plus (t rs1) imm))) v
unfolding execute alu_of plus
execute_add r v t pc rd rs1 imm s = ap (λ n. Goes (advance (with_reg r rd (plus n imm))) v) (s.holds rs1)

pub one_went : (r : Regs) (v : View) (pc : ℕ) (t : ℕ → ℕ) (i : Inst) → pc + 4 < 2 ^ 32 → IsHere v pc i → IsStraight i → IsAt r pc t → Went 1 r v (pc + 4) (temps_after i t)
one_went r v pc t (Lui rd imm) fits h z s = record {
  regs = advance (with_reg r rd imm);
  leads = goes r v _ (turn_at r v pc t (Lui rd imm) s h ∙ execute_lui r v rd imm);
  is_at = advanced _ pc _ fits (wrote r pc t rd imm z h.in_range.0 s);
}
one_went r v pc t (OpImm op.Add rd rs1 imm) fits h z s = record {
  regs = advance (with_reg r rd (plus (t rs1) imm));
  leads = goes r v _ (turn_at r v pc t (OpImm op.Add rd rs1 imm) s h ∙ execute_add r v t pc rd rs1 imm s);
  is_at = advanced _ pc _ fits (wrote r pc t rd (plus (t rs1) imm) z h.in_range.0 s);
}
one_went r v pc t _ fits h z s = absurd z

pub went_then : (m n k : ℕ) (r : Regs) (v : View) (pc pc' : ℕ) (t t' : ℕ → ℕ) → k ≡ m + n → (a : Went m r v pc t) → Went n a.regs v pc' t' → Went k r v pc' t'
went_then m n k r v pc pc' t t' e a b = record {
  regs = b.regs;
  leads = leads_then m n k r v a.regs b.regs e a.leads b.leads;
  is_at = b.is_at;
}

pub straight : (r : Regs) (v : View) (pc to : ℕ) (t : ℕ → ℕ) (is : List Inst) → to ≡ pc + 4 * length is → to < 2 ^ 32 → AreHere v pc is → AreStraight is → IsAt r pc t → Went (length is) r v to (temps_in is t)
straight r v pc to t [] e fits h all s = let q : pc ≡ to = omega arith in record {
  regs = r;
  leads = leads_none r v;
  is_at = subst (λ p. IsAt r p t) q s;
}
straight r v pc to t (i ∷ is) e fits h all s =
    let a = one_went r v pc t i (omega arith) h.0 all.0 s in
    let b = straight a.regs v (pc + 4) to (temps_after i t) is (omega arith) fits h.1 all.1 a.is_at in
    went_then 1 (length is) (length (i ∷ is)) r v (pc + 4) to (temps_after i t) _ (omega arith) a b

-- sums with an immediate
pub plus_up : (n k : ℕ) → n + k < 2 ^ 32 → plus n (pos k) ≡ n + k
unfolding plus
plus_up n k h = omega arith

pub plus_none : (n m : ℕ) → n ≡ m → m < 2 ^ 32 → plus n (pos 0) ≡ m
plus_none n m e h = plus_up n 0 (omega arith) ∙ omega arith

pub plus_from_zero : (r : Regs) (k : ℕ) → k < 2 ^ 32 → plus (reg r 0) (pos k) ≡ k
plus_from_zero r k h = ap (λ n. plus n (pos k)) (reg-zero r) ∙ plus_up 0 k (omega arith) ∙ omega arith

execute_jal : (r : Regs) (v : View) (pc to rd link : ℕ) (offset : ℤ) → r.pc ≡ pc → plus pc offset ≡ to → to % 4 ≡ 0 → link ≡ pc + 4 → link < 2 ^ 32 → execute (Jal rd offset) r v ≡ Goes (jump (with_reg r rd link) to) v
unfolding execute linked
execute_jal r v pc to rd link offset e p a l h = let q : (pc + 4) % 2 ^ 32 ≡ link = omega arith in rw (e, p, a, q)

-- a jump that keeps the address after it
pub jal_went : (r : Regs) (v : View) (pc to : ℕ) (t : ℕ → ℕ) (rd link : ℕ) (offset : ℤ) → plus pc offset ≡ to → to % 4 ≡ 0 → link ≡ pc + 4 → link < 2 ^ 32 → (rd == 0) ≡ false → IsHere v pc (Jal rd offset) → IsAt r pc t → Went 1 r v to (put t rd link)
jal_went r v pc to t rd link offset p a l h z here s = record {
  regs = jump (with_reg r rd link) to;
  leads = goes r v _ (turn_at r v pc t (Jal rd offset) s here ∙ execute_jal r v pc to rd link offset s.pc_is p a l h);
  is_at = jumped (with_reg r rd link) pc to _ a (wrote r pc t rd link z here.in_range.0 s);
}

execute_jalr : (r : Regs) (v : View) (to rs1 : ℕ) → reg r rs1 ≡ to → to % 4 ≡ 0 → to < 2 ^ 32 → execute (Jalr 0 rs1 (pos 0)) r v ≡ Goes (jump r to) v
unfolding execute linked
execute_jalr r v to rs1 e a h =
    let p : plus to (pos 0) ≡ to = plus_none to to refl h in
    let q : to - to % 2 ≡ to = omega arith in
    rw (e, p, q, a, with_reg-zero r ((r.pc + 4) % 2 ^ 32))

-- a jump to a register's address
pub jalr_went : (r : Regs) (v : View) (pc to : ℕ) (t : ℕ → ℕ) (rs1 : ℕ) → t rs1 ≡ to → to % 4 ≡ 0 → to < 2 ^ 32 → IsHere v pc (Jalr 0 rs1 (pos 0)) → IsAt r pc t → Went 1 r v to t
jalr_went r v pc to t rs1 e a h here s = record {
  regs = jump r to;
  leads = goes r v _ (turn_at r v pc t (Jalr 0 rs1 (pos 0)) s here ∙ execute_jalr r v to rs1 (s.holds rs1 ∙ e) a h);
  is_at = jumped r pc to t a s;
}

execute_ecall : (r : Regs) (v : View) → execute Ecall r v ≡ Calls (advance r) v
unfolding execute
execute_ecall r v = refl

-- instructions that lead to a call
pub reaches_call : (m n : ℕ) (r : Regs) (v : View) (pc : ℕ) (t : ℕ → ℕ) → n ≡ m + 1 → (a : Went m r v pc t) → IsHere v pc Ecall → ReachesCall n r v (advance a.regs) v
reaches_call m n r v pc t e a here =
    let q : n ≡ 1 + m = omega arith in
    ap (λ j. stretch j r v) q ∙ a.leads.by 1 ∙ stretch_more 0 a.regs v (Calls (advance a.regs) v) (turn_at a.regs v pc t Ecall a.is_at here ∙ execute_ecall a.regs v)

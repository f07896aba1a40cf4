-- The choices by funct3 and funct7, both ways.
use Rattle.std.proofs.Common.{◌≡◌, ℕ, ◌%◌, ◌<◌, Bool, true, false, Option, Some, refl, sym, ap, ◌∙◌, subst, arith, ⊎_elim, inl, inr}
use Rattle.std.specs.Prelude.{ℤ, if◌then◌else◌, ◌==◌, ◌&&◌}
use Rattle.std.proofs.lemmas.Bool.Decides.{nat_tests}
use Rattle.nx_base.specs.declared.operations.AluOp.{AluOp}
use Rattle.nx_base.specs.declared.operations.AluOp.TheVariants as op
use Rattle.nx_base.specs.declared.operations.Cond.{Cond}
use Rattle.nx_base.specs.declared.operations.Cond.TheVariants as cond
use Rattle.nx_rv.specs.declared.inst.Inst.{Inst}
use Rattle.nx_rv.specs.declared.inst.Inst.TheVariants.{Branch, Load, Store, Op}
use Rattle.nx_rv.specs.Formats.{pack, low_bits, pack_i, pack_s, pack_b}
use Rattle.nx_rv.specs.Codes.{branch_funct3, branch_of, load_funct3, load_of, store_funct3, store_of, op_funct3, op_funct7, op_imm_of, op_of, base_op_of, other_op_of, multiply_of}
use Rattle.nx_rv.specs.Table.{FitsR, FitsI, FitsS, FitsB, IsLoad, IsStore, IsInRange, op_imm_word, table_word}

-- a choice that gives something, by its test
by_test : {P : Type 0} (b : Bool) (x y : Option Inst) (i : Inst) → (if b then x else y) ≡ Some i → (b ≡ true → x ≡ Some i → P) → (y ≡ Some i → P) → P
by_test true x y i e f g = f refl e
by_test false x y i e f g = g e

pub by_eq : {P : Type 0} (a b : ℕ) (x y : Option Inst) (i : Inst) → (if a == b then x else y) ≡ Some i → (a ≡ b → x ≡ Some i → P) → (y ≡ Some i → P) → P
by_eq a b x y i e f g = by_test (a == b) x y i e (λ t s. f (grind (arith, nat_tests)) s) g

pub by_both : {P : Type 0} (a b c d : ℕ) (x y : Option Inst) (i : Inst) → (if a == b && c == d then x else y) ≡ Some i → (a ≡ b → c ≡ d → x ≡ Some i → P) → (y ≡ Some i → P) → P
by_both a b c d x y i e f g = by_test (a == b && c == d) x y i e (λ t s. f (grind (arith, nat_tests)) (grind (arith, nat_tests)) s) g

-- an instruction in range, and its word
abbrev pub Encodes : ℕ → Inst → Type 0
Encodes w i = IsInRange i × (table_word i ≡ w)

-- what was found is what it is
pub found : (w : ℕ) (j i : Inst) → Some j ≡ Some i → IsInRange j → table_word j ≡ w → Encodes w i
found w j i s h e = let s' : j ≡ i = cc in subst (Encodes w) s' (h, e)

pub branch_encodes : (f3 rs1 rs2 : ℕ) (offset : ℤ) (i : Inst) → FitsB rs1 rs2 offset → branch_of f3 rs1 rs2 offset ≡ Some i → Encodes (pack_b 0x63 f3 rs1 rs2 (low_bits 8192 offset)) i
unfolding branch_of table_word
branch_encodes f3 rs1 rs2 offset i h e =
    by_eq f3 0 _ _ i e (row cond.Eq)
    (λ e. by_eq f3 1 _ _ i e (row cond.Ne)
    (λ e. by_eq f3 4 _ _ i e (row cond.Lt)
    (λ e. by_eq f3 5 _ _ i e (row cond.Ge)
    (λ e. by_eq f3 6 _ _ i e (row cond.Ltu)
    (λ e. by_eq f3 7 _ _ i e (row cond.Geu)
    (λ e. absurd cc))))))
  where
    row : (c : Cond) → f3 ≡ branch_funct3 c → Some (Branch c rs1 rs2 offset) ≡ Some i → Encodes (pack_b 0x63 f3 rs1 rs2 (low_bits 8192 offset)) i
    row c q s = found _ _ i s h (ap (λ k. pack_b 0x63 k rs1 rs2 (low_bits 8192 offset)) (sym q))

pub branch_back : (c : Cond) (rs1 rs2 : ℕ) (offset : ℤ) → branch_of (branch_funct3 c) rs1 rs2 offset ≡ Some (Branch c rs1 rs2 offset)
unfolding branch_of
branch_back cond.Eq rs1 rs2 offset = refl
branch_back cond.Ne rs1 rs2 offset = refl
branch_back cond.Lt rs1 rs2 offset = refl
branch_back cond.Ge rs1 rs2 offset = refl
branch_back cond.Ltu rs1 rs2 offset = refl
branch_back cond.Geu rs1 rs2 offset = refl

pub branch_small : (c : Cond) → branch_funct3 c < 8
branch_small cond.Eq = omega arith
branch_small cond.Ne = omega arith
branch_small cond.Lt = omega arith
branch_small cond.Ge = omega arith
branch_small cond.Ltu = omega arith
branch_small cond.Geu = omega arith

pub load_encodes : (f3 rd rs1 : ℕ) (imm : ℤ) (i : Inst) → FitsI rd rs1 imm → load_of f3 rd rs1 imm ≡ Some i → Encodes (pack_i 0x03 rd f3 rs1 (low_bits 4096 imm)) i
unfolding load_of table_word
load_encodes f3 rd rs1 imm i h e =
    by_eq f3 0 _ _ i e (row 1 true (inl refl))
    (λ e. by_eq f3 1 _ _ i e (row 2 true (inr (inl refl)))
    (λ e. by_eq f3 2 _ _ i e (row 4 true (inr (inr refl)))
    (λ e. by_eq f3 4 _ _ i e (row 1 false (inl refl))
    (λ e. by_eq f3 5 _ _ i e (row 2 false (inr refl))
    (λ e. absurd cc)))))
  where
    row : (width : ℕ) (signed : Bool) → IsLoad width signed → f3 ≡ load_funct3 width signed → Some (Load width signed rd rs1 imm) ≡ Some i → Encodes (pack_i 0x03 rd f3 rs1 (low_bits 4096 imm)) i
    row width signed l q s = found _ _ i s (l, h) (ap (λ k. pack_i 0x03 rd k rs1 (low_bits 4096 imm)) (sym q))

pub load_back : (width : ℕ) (signed : Bool) (rd rs1 : ℕ) (imm : ℤ) → IsLoad width signed → load_of (load_funct3 width signed) rd rs1 imm ≡ Some (Load width signed rd rs1 imm)
unfolding load_of
load_back width true rd rs1 imm h =
    ⊎_elim (λ e. rw e refl) (λ o. ⊎_elim (λ e. rw e refl) (λ e. rw e refl) o) h
load_back width false rd rs1 imm h =
    ⊎_elim (λ e. rw e refl) (λ e. rw e refl) h

pub load_small : (width : ℕ) (signed : Bool) → IsLoad width signed → load_funct3 width signed < 8
load_small width true h =
    ⊎_elim (λ e. rw e (omega arith)) (λ o. ⊎_elim (λ e. rw e (omega arith)) (λ e. rw e (omega arith)) o) h
load_small width false h =
    ⊎_elim (λ e. rw e (omega arith)) (λ e. rw e (omega arith)) h

pub store_encodes : (f3 rs1 rs2 : ℕ) (imm : ℤ) (i : Inst) → FitsS rs1 rs2 imm → store_of f3 rs1 rs2 imm ≡ Some i → Encodes (pack_s 0x23 f3 rs1 rs2 (low_bits 4096 imm)) i
unfolding store_of table_word
store_encodes f3 rs1 rs2 imm i h e =
    by_eq f3 0 _ _ i e (row 1 (inl refl))
    (λ e. by_eq f3 1 _ _ i e (row 2 (inr (inl refl)))
    (λ e. by_eq f3 2 _ _ i e (row 4 (inr (inr refl)))
    (λ e. absurd cc)))
  where
    row : (width : ℕ) → IsStore width → f3 ≡ store_funct3 width → Some (Store width rs1 rs2 imm) ≡ Some i → Encodes (pack_s 0x23 f3 rs1 rs2 (low_bits 4096 imm)) i
    row width l q s = found _ _ i s (l, h) (ap (λ k. pack_s 0x23 k rs1 rs2 (low_bits 4096 imm)) (sym q))

pub store_back : (width rs1 rs2 : ℕ) (imm : ℤ) → IsStore width → store_of (store_funct3 width) rs1 rs2 imm ≡ Some (Store width rs1 rs2 imm)
unfolding store_of
store_back width rs1 rs2 imm h =
    ⊎_elim (λ e. rw e refl) (λ o. ⊎_elim (λ e. rw e refl) (λ e. rw e refl) o) h

pub store_small : (width : ℕ) → IsStore width → store_funct3 width < 8
store_small width h =
    ⊎_elim (λ e. rw e (omega arith)) (λ o. ⊎_elim (λ e. rw e (omega arith)) (λ e. rw e (omega arith)) o) h

pub op_imm_encodes : (f3 f7 rd rs1 rs2 : ℕ) (imm : ℤ) (i : Inst) (w : ℕ) → FitsI rd rs1 imm → rs2 < 32 → pack_i 0x13 rd f3 rs1 (low_bits 4096 imm) ≡ w → pack 0x13 rd f3 rs1 rs2 f7 ≡ w → op_imm_of f3 f7 rd rs1 rs2 imm ≡ Some i → Encodes w i
unfolding op_imm_of table_word op_imm_word low_bits
op_imm_encodes f3 f7 rd rs1 rs2 imm i w h l p q e =
    by_eq f3 0 _ _ i e (λ a s. found _ _ i s h (ap (λ k. pack_i 0x13 rd k rs1 (low_bits 4096 imm)) (sym a) ∙ p))
    (λ e. by_eq f3 2 _ _ i e (λ a s. found _ _ i s h (ap (λ k. pack_i 0x13 rd k rs1 (low_bits 4096 imm)) (sym a) ∙ p))
    (λ e. by_eq f3 3 _ _ i e (λ a s. found _ _ i s h (ap (λ k. pack_i 0x13 rd k rs1 (low_bits 4096 imm)) (sym a) ∙ p))
    (λ e. by_eq f3 4 _ _ i e (λ a s. found _ _ i s h (ap (λ k. pack_i 0x13 rd k rs1 (low_bits 4096 imm)) (sym a) ∙ p))
    (λ e. by_eq f3 6 _ _ i e (λ a s. found _ _ i s h (ap (λ k. pack_i 0x13 rd k rs1 (low_bits 4096 imm)) (sym a) ∙ p))
    (λ e. by_eq f3 7 _ _ i e (λ a s. found _ _ i s h (ap (λ k. pack_i 0x13 rd k rs1 (low_bits 4096 imm)) (sym a) ∙ p))
    (λ e. by_both f3 1 f7 0x00 _ _ i e (λ a b s. found _ _ i s (h.0, h.1, l) (shift 1 0x00 a b))
    (λ e. by_both f3 5 f7 0x00 _ _ i e (λ a b s. found _ _ i s (h.0, h.1, l) (shift 5 0x00 a b))
    (λ e. by_both f3 5 f7 0x20 _ _ i e (λ a b s. found _ _ i s (h.0, h.1, l) (shift 5 0x20 a b))
    (λ e. absurd cc)))))))))
  where
    shift : (k m : ℕ) → f3 ≡ k → f7 ≡ m → pack 0x13 rd k rs1 (rs2 % 32) m ≡ w
    shift k m a b = let c : rs2 % 32 ≡ rs2 = omega arith in rw (c, sym a, sym b) q

pub op_encodes : (f3 f7 rd rs1 rs2 : ℕ) (i : Inst) → FitsR rd rs1 rs2 → op_of f3 f7 rd rs1 rs2 ≡ Some i → Encodes (pack 0x33 rd f3 rs1 rs2 f7) i
unfolding op_of base_op_of other_op_of multiply_of table_word
op_encodes f3 f7 rd rs1 rs2 i h e =
    by_eq f7 0x00 _ _ i e base
    (λ e. by_eq f7 0x20 _ _ i e other
    (λ e. by_eq f7 0x01 _ _ i e multiply
    (λ e. absurd cc)))
  where
    row : (o : AluOp) → f7 ≡ op_funct7 o → f3 ≡ op_funct3 o → Some (Op o rd rs1 rs2) ≡ Some i → Encodes (pack 0x33 rd f3 rs1 rs2 f7) i
    row o b a s = found _ _ i s h (ap (λ k. pack 0x33 rd k rs1 rs2 (op_funct7 o)) (sym a) ∙ ap (λ k. pack 0x33 rd f3 rs1 rs2 k) (sym b))

    base : f7 ≡ 0x00 → base_op_of f3 rd rs1 rs2 ≡ Some i → Encodes (pack 0x33 rd f3 rs1 rs2 f7) i
    base b e =
        by_eq f3 0 _ _ i e (row op.Add b)
        (λ e. by_eq f3 1 _ _ i e (row op.Sll b)
        (λ e. by_eq f3 2 _ _ i e (row op.Slt b)
        (λ e. by_eq f3 3 _ _ i e (row op.Sltu b)
        (λ e. by_eq f3 4 _ _ i e (row op.Xor b)
        (λ e. by_eq f3 5 _ _ i e (row op.Srl b)
        (λ e. by_eq f3 6 _ _ i e (row op.Or b)
        (λ e. by_eq f3 7 _ _ i e (row op.And b)
        (λ e. absurd cc))))))))

    other : f7 ≡ 0x20 → other_op_of f3 rd rs1 rs2 ≡ Some i → Encodes (pack 0x33 rd f3 rs1 rs2 f7) i
    other b e =
        by_eq f3 0 _ _ i e (row op.Sub b)
        (λ e. by_eq f3 5 _ _ i e (row op.Sra b)
        (λ e. absurd cc))

    multiply : f7 ≡ 0x01 → multiply_of f3 rd rs1 rs2 ≡ Some i → Encodes (pack 0x33 rd f3 rs1 rs2 f7) i
    multiply b e =
        by_eq f3 0 _ _ i e (row op.Mul b)
        (λ e. by_eq f3 1 _ _ i e (row op.Mulh b)
        (λ e. by_eq f3 2 _ _ i e (row op.Mulhsu b)
        (λ e. by_eq f3 3 _ _ i e (row op.Mulhu b)
        (λ e. by_eq f3 4 _ _ i e (row op.Div b)
        (λ e. by_eq f3 5 _ _ i e (row op.Divu b)
        (λ e. by_eq f3 6 _ _ i e (row op.Rem b)
        (λ e. by_eq f3 7 _ _ i e (row op.Remu b)
        (λ e. absurd cc))))))))

pub op_back : (o : AluOp) (rd rs1 rs2 : ℕ) → op_of (op_funct3 o) (op_funct7 o) rd rs1 rs2 ≡ Some (Op o rd rs1 rs2)
unfolding op_of base_op_of other_op_of multiply_of
op_back op.Add rd rs1 rs2 = refl
op_back op.Sub rd rs1 rs2 = refl
op_back op.Sll rd rs1 rs2 = refl
op_back op.Slt rd rs1 rs2 = refl
op_back op.Sltu rd rs1 rs2 = refl
op_back op.Xor rd rs1 rs2 = refl
op_back op.Srl rd rs1 rs2 = refl
op_back op.Sra rd rs1 rs2 = refl
op_back op.Or rd rs1 rs2 = refl
op_back op.And rd rs1 rs2 = refl
op_back op.Mul rd rs1 rs2 = refl
op_back op.Mulh rd rs1 rs2 = refl
op_back op.Mulhsu rd rs1 rs2 = refl
op_back op.Mulhu rd rs1 rs2 = refl
op_back op.Div rd rs1 rs2 = refl
op_back op.Divu rd rs1 rs2 = refl
op_back op.Rem rd rs1 rs2 = refl
op_back op.Remu rd rs1 rs2 = refl

pub op_small : (o : AluOp) → (op_funct3 o < 8) × (op_funct7 o < 128)
op_small op.Add = (omega arith, omega arith)
op_small op.Sub = (omega arith, omega arith)
op_small op.Sll = (omega arith, omega arith)
op_small op.Slt = (omega arith, omega arith)
op_small op.Sltu = (omega arith, omega arith)
op_small op.Xor = (omega arith, omega arith)
op_small op.Srl = (omega arith, omega arith)
op_small op.Sra = (omega arith, omega arith)
op_small op.Or = (omega arith, omega arith)
op_small op.And = (omega arith, omega arith)
op_small op.Mul = (omega arith, omega arith)
op_small op.Mulh = (omega arith, omega arith)
op_small op.Mulhsu = (omega arith, omega arith)
op_small op.Mulhu = (omega arith, omega arith)
op_small op.Div = (omega arith, omega arith)
op_small op.Divu = (omega arith, omega arith)
op_small op.Rem = (omega arith, omega arith)
op_small op.Remu = (omega arith, omega arith)

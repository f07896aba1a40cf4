-- Single instructions, and parts of code one after another.
use Rattle.std.proofs.Common.{◌≡◌, ◌≢◌, ℕ, suc, ◌+◌, ◌-◌, ◌%◌, ◌^◌, ◌<◌, Bool, true, false, [], ◌∷◌, Ok, refl, sym, ap, ◌∙◌, subst, arith, ⊎_elim}
use Rattle.std.specs.Prelude.{ℤ, ◌==◌}
use Rattle.std.specs.Int.{w32, cast_unsigned}
use Rattle.std.proofs.lemmas.Bool.{cases_eq}
use Rattle.std.proofs.lemmas.Bool.Decides.{nat_tests}
use Rattle.nx_base.specs.declared.regs.Regs.{Regs}
use Rattle.nx_base.specs.declared.operations.AluOp.{AluOp}
use Rattle.nx_base.specs.declared.operations.Cond.{Cond}
use Rattle.nx_base.specs.Arithmetic.{alu_of, taken_of}
use Rattle.nx_base.specs.Registers.{reg, with_reg}
use Rattle.nx_base.specs.Views.{View, load_bytes, store_bytes}
use Rattle.nx_base.proofs.RegisterLemmas.{with_reg-zero}
use Rattle.nx_rv.specs.declared.inst.Inst.{Inst}
use Rattle.nx_rv.specs.declared.inst.Inst.TheVariants.{Lui, Auipc, Jal, Jalr, Branch, Load, Store, OpImm, Op, Ecall}
use Rattle.nx_rv.specs.Table.{IsInRange}
use Rattle.nx_rv.specs.Execution.{plus, advance, jump, Turn, Goes, Calls, linked, branched, loaded, stored, widened, execute, turn, after, stretch}
use Rattle.nx_rv.proofs.Turns.{IsAt, wrote, advanced, jumped, turn_at}
use Rattle.nx_shown.specs.Bytes.{Bytes, put, number_at, with_number}
use Rattle.nx_shown.specs.Places.{Place, Sees, Only}
use Rattle.nx_shown.specs.Leading.{At, Stands, Next, Kept, InstructionsLead, LeadsOn}
use Rattle.nx_shown.proofs.Stores.{put_same, put_other}
use Rattle.nx_shown.proofs.Accesses.{loads, stores}

only_same : (e : Place) (v : View) → Only e v v
only_same e v = record { shows = λ written low top b ap h. h; runs = λ at ap. refl }

only_then : (e : Place) (v w u : View) → Only e v w → Only e w u → Only e v u
only_then e v w u p q = record { shows = λ written low top b ap h. q.shows written low top b ap (p.shows written low top b ap h); runs = λ at ap. q.runs at ap ∙ p.runs at ap }

pub on : LeadsOn
on e m n r v pc to t u b d a c = record {
  regs = c.regs;
  view = c.view;
  only = only_then e v a.view c.view a.only c.only;
  leads = λ k. let q : k + (m + n) ≡ (k + n) + m = omega arith in ap (λ j. stretch j r v) q ∙ a.leads (k + n) ∙ c.leads k;
  at = c.at;
}

pub stay : (e : Place) (r : Regs) (v : View) (pc : ℕ) (t : ℕ → ℕ) (b : Bytes) → At e r v pc t b → Next e 0 r v pc t b
stay e r v pc t b a = record { regs = r; view = v; only = only_same e v; leads = λ k. let q : k + 0 ≡ k = omega arith in ap (λ j. stretch j r v) q; at = a }

one_more : (k : ℕ) (r : Regs) (v : View) (s : Turn) → turn r v ≡ s → stretch (k + 1) r v ≡ after s k (stretch k)
unfolding stretch
one_more k r v s h = let e : k + 1 ≡ suc k = omega arith in ap (λ j. stretch j r v) e ∙ ap (λ x. after x k (stretch k)) h

is_at : (e : Place) (r : Regs) (v : View) (pc : ℕ) (t : ℕ → ℕ) (b : Bytes) → At e r v pc t b → IsAt r pc t
is_at e r v pc t b a = record { pc_is = a.pc_is; aligned = a.aligned; size = a.size; holds = a.holds }

stands_at : (e : Place) (r : Regs) (v : View) (pc : ℕ) (t : ℕ → ℕ) (b : Bytes) → IsAt r pc t → Sees e v b → t 0 ≡ 0 → ((k : ℕ) → t k < 2 ^ 32) → At e r v pc t b
stands_at e r v pc t b i s z m = record { pc_is = i.pc_is; aligned = i.aligned; size = i.size; holds = i.holds; zero = z; small = m; sees = s }

turn_here : (e : Place) (r : Regs) (v : View) (pc : ℕ) (t : ℕ → ℕ) (b : Bytes) (i : Inst) → Stands e pc (i ∷ []) → At e r v pc t b → turn r v ≡ execute i r v
turn_here e r v pc t b i s a = let h = (s v a.sees.text).0 in turn_at r v pc t i (is_at e r v pc t b a) (record { word = h.0; in_range = h.1 })

fits : (e : Place) (r : Regs) (v : View) (pc : ℕ) (t : ℕ → ℕ) (b : Bytes) (i : Inst) → Stands e pc (i ∷ []) → At e r v pc t b → IsInRange i
fits e r v pc t b i s a = (s v a.sees.text).0.1

-- One register is written, the pc goes on, or it jumps.
pub after_write : (e : Place) (r : Regs) (v : View) (pc : ℕ) (t : ℕ → ℕ) (b : Bytes) (rd x : ℕ) → (rd == 0) ≡ false → rd < 32 → x < 2 ^ 32 → At e r v pc t b → At e (with_reg r rd x) v pc (put t rd x) b
after_write e r v pc t b rd x z l h a =
    stands_at e _ v pc (put t rd x) b (wrote r pc t rd x z l (is_at e r v pc t b a)) a.sees
    (put_other t rd x 0 (λ q. let n : rd ≢ 0 = grind (arith, nat_tests) in n (sym q)) ∙ a.zero)
    (λ k. ⊎_elim (λ q. subst (λ y. y < 2 ^ 32) (sym (put_same t rd x k q)) h) (λ q. subst (λ y. y < 2 ^ 32) (sym (put_other t rd x k q)) (a.small k)) (cases_eq k rd))

after_advance : (e : Place) (r : Regs) (v : View) (pc : ℕ) (t : ℕ → ℕ) (b : Bytes) → pc + 4 < 2 ^ 32 → At e r v pc t b → At e (advance r) v (pc + 4) t b
after_advance e r v pc t b f a = stands_at e _ v (pc + 4) t b (advanced r pc t f (is_at e r v pc t b a)) a.sees a.zero a.small

after_jump : (e : Place) (r : Regs) (v : View) (pc to : ℕ) (t : ℕ → ℕ) (b : Bytes) → to % 4 ≡ 0 → At e r v pc t b → At e (jump r to) v to t b
after_jump e r v pc to t b f a = stands_at e _ v to t b (jumped r pc to t f (is_at e r v pc t b a)) a.sees a.zero a.small

goes : (e : Place) (r : Regs) (v : View) (pc to : ℕ) (t u : ℕ → ℕ) (b : Bytes) (i : Inst) (r' : Regs) → Stands e pc (i ∷ []) → At e r v pc t b → execute i r v ≡ Goes r' v → At e r' v to u b → Next e 1 r v to u b
goes e r v pc to t u b i r' s a w z = record {
  regs = r';
  view = v;
  only = only_same e v;
  leads = λ k. one_more k r v (Goes r' v) (turn_here e r v pc t b i s a ∙ w);
  at = z;
}

writes : (e : Place) (r : Regs) (v : View) (pc : ℕ) (t : ℕ → ℕ) (b : Bytes) (i : Inst) (rd x : ℕ) → Stands e pc (i ∷ []) → pc + 4 < 2 ^ 32 → (rd == 0) ≡ false → rd < 32 → x < 2 ^ 32
    → execute i r v ≡ Goes (advance (with_reg r rd x)) v → At e r v pc t b → Next e 1 r v (pc + 4) (put t rd x) b
writes e r v pc t b i rd x s f z l h w a = goes e r v pc (pc + 4) t (put t rd x) b i (advance (with_reg r rd x)) s a w (after_advance e _ v pc _ b f (after_write e r v pc t b rd x z l h a))

do_lui : (r : Regs) (v : View) (rd imm : ℕ) → execute (Lui rd imm) r v ≡ Goes (advance (with_reg r rd imm)) v
unfolding execute
do_lui r v rd imm = refl

do_auipc : (r : Regs) (v : View) (pc rd imm : ℕ) → r.pc ≡ pc → execute (Auipc rd imm) r v ≡ Goes (advance (with_reg r rd ((pc + imm) % 2 ^ 32))) v
unfolding execute
do_auipc r v pc rd imm e = ap (λ n. Goes (advance (with_reg r rd ((n + imm) % 2 ^ 32))) v) e

do_immediate : (r : Regs) (v : View) (o : AluOp) (rd rs1 x y : ℕ) (imm : ℤ) → reg r rs1 ≡ x → alu_of o x (cast_unsigned w32 imm) ≡ y → execute (OpImm o rd rs1 imm) r v ≡ Goes (advance (with_reg r rd y)) v
unfolding execute
do_immediate r v o rd rs1 x y imm e f = ap (λ n. Goes (advance (with_reg r rd (alu_of o n (cast_unsigned w32 imm)))) v) e ∙ ap (λ n. Goes (advance (with_reg r rd n)) v) f

do_operation : (r : Regs) (v : View) (o : AluOp) (rd rs1 rs2 x y z : ℕ) → reg r rs1 ≡ x → reg r rs2 ≡ y → alu_of o x y ≡ z → execute (Op o rd rs1 rs2) r v ≡ Goes (advance (with_reg r rd z)) v
unfolding execute
do_operation r v o rd rs1 rs2 x y z e f g = rw (e, f, g)

do_load : (r : Regs) (v : View) (a width : ℕ) (signed : Bool) (rd rs1 x y : ℕ) (imm : ℤ) → plus (reg r rs1) imm ≡ a → a % width ≡ 0 → load_bytes v a width ≡ Ok x → widened width signed x ≡ y
    → execute (Load width signed rd rs1 imm) r v ≡ Goes (advance (with_reg r rd y)) v
unfolding execute loaded
do_load r v a width signed rd rs1 x y imm e f g h = rw (e, f, g, h)

do_store : (r : Regs) (v new : View) (a width rs1 rs2 x : ℕ) (imm : ℤ) → plus (reg r rs1) imm ≡ a → a % width ≡ 0 → reg r rs2 ≡ x → store_bytes v a width x ≡ Ok new → execute (Store width rs1 rs2 imm) r v ≡ Goes (advance r) new
unfolding execute stored
do_store r v new a width rs1 rs2 x imm e f g h = rw (e, f, g, h)

do_branch : (r : Regs) (v : View) (c : Cond) (rs1 rs2 x y to : ℕ) (offset : ℤ) (taken : Bool) → reg r rs1 ≡ x → reg r rs2 ≡ y → taken_of c x y ≡ taken → plus r.pc offset ≡ to → execute (Branch c rs1 rs2 offset) r v ≡ branched taken to r v
unfolding execute
do_branch r v c rs1 rs2 x y to offset taken e f g h = rw (e, f, g, h)

branch_on : (r : Regs) (v : View) (to : ℕ) → to % 4 ≡ 0 → branched true to r v ≡ Goes (jump r to) v
unfolding branched
branch_on r v to a = rw a

branch_off : (r : Regs) (v : View) (to : ℕ) → branched false to r v ≡ Goes (advance r) v
unfolding branched
branch_off r v to = refl

do_jal : (r : Regs) (v : View) (pc to : ℕ) (offset : ℤ) → r.pc ≡ pc → plus pc offset ≡ to → to % 4 ≡ 0 → execute (Jal 0 offset) r v ≡ Goes (jump r to) v
unfolding execute linked jump with_reg
do_jal r v pc to offset e p a = rw (e, p, a) refl

do_jalr : (r : Regs) (v : View) (pc to rd rs1 : ℕ) (imm : ℤ) → r.pc ≡ pc → pc + 4 < 2 ^ 32 → plus (reg r rs1) imm ≡ to → to % 4 ≡ 0 → execute (Jalr rd rs1 imm) r v ≡ Goes (jump (with_reg r rd (pc + 4)) to) v
unfolding execute linked
do_jalr r v pc to rd rs1 imm e f p a =
    let q : to - to % 2 ≡ to = omega arith in
    let g : (pc + 4) % 2 ^ 32 ≡ pc + 4 = omega arith in
    rw (p, q, a, e, g)

do_ecall : (r : Regs) (v : View) → execute Ecall r v ≡ Calls (advance r) v
unfolding execute
do_ecall r v = refl

kept_next : (e : Place) (r : Regs) (v : View) (pc : ℕ) (t : ℕ → ℕ) (b : Bytes) (width rs1 rs2 a x : ℕ) (imm : ℤ) → Stands e pc (Store width rs1 rs2 imm ∷ []) → pc + 4 < 2 ^ 32 → plus (t rs1) imm ≡ a → a % width ≡ 0 → t rs2 ≡ x
    → At e r v pc t b → Kept e v a width x b → Next e 1 r v (pc + 4) t (with_number b a width x)
kept_next e r v pc t b width rs1 rs2 a x imm s f g al w st k = record {
  regs = advance r;
  view = k.new;
  only = k.only;
  leads = λ n. one_more n r v (Goes (advance r) k.new) (turn_here e r v pc t b (Store width rs1 rs2 imm) s st ∙ do_store r v k.new a width rs1 rs2 x imm (ap (λ m. plus m imm) (st.holds rs1) ∙ g) al (st.holds rs2 ∙ w) k.is);
  at = stands_at e _ k.new (pc + 4) t _ (advanced r pc t f (is_at e r v pc t b st)) k.sees st.zero st.small;
}

pub instructions : InstructionsLead
instructions e r v pc t b i a = record {
  lui = λ rd imm s f z. let k = fits e r v pc t b (Lui rd imm) s a in writes e r v pc t b (Lui rd imm) rd imm s f z k.0 k.1 (do_lui r v rd imm) a;
  auipc = λ rd imm s f z. let k = fits e r v pc t b (Auipc rd imm) s a in writes e r v pc t b (Auipc rd imm) rd ((pc + imm) % 2 ^ 32) s f z k.0 (omega arith) (do_auipc r v pc rd imm a.pc_is) a;
  immediate = λ o rd rs1 x y imm s f z g h q. writes e r v pc t b (OpImm o rd rs1 imm) rd y s f z.0 z.1 q (do_immediate r v o rd rs1 x y imm (a.holds rs1 ∙ g) h) a;
  operation = λ o rd rs1 rs2 x y z s f n g h w q. let k = fits e r v pc t b (Op o rd rs1 rs2) s a in writes e r v pc t b (Op o rd rs1 rs2) rd z s f n k.0 q (do_operation r v o rd rs1 rs2 x y z (a.holds rs1 ∙ g) (a.holds rs2 ∙ h) w) a;
  load = λ width signed rd rs1 at x imm s f z g al p m w q. writes e r v pc t b (Load width signed rd rs1 imm) rd x s f z.0 z.1 q (do_load r v at width signed rd rs1 (number_at b at width) x imm (ap (λ n. plus n imm) (a.holds rs1) ∙ g) al (loads e v at width b a.sees m p) w) a;
  store = λ width rs1 rs2 at x imm s f g al p m w. kept_next e r v pc t b width rs1 rs2 at x imm s f g al w a (stores e v at width x b i a.sees m p);
  taken = λ c rs1 rs2 x y to offset s p al g h q. goes e r v pc to t t b (Branch c rs1 rs2 offset) (jump r to) s a (do_branch r v c rs1 rs2 x y to offset true (a.holds rs1 ∙ g) (a.holds rs2 ∙ h) q (ap (λ n. plus n offset) a.pc_is ∙ p) ∙ branch_on r v to al) (after_jump e r v pc to t b al a);
  passed = λ c rs1 rs2 x y offset s f g h q. goes e r v pc (pc + 4) t t b (Branch c rs1 rs2 offset) (advance r) s a (do_branch r v c rs1 rs2 x y (plus r.pc offset) offset false (a.holds rs1 ∙ g) (a.holds rs2 ∙ h) q refl ∙ branch_off r v (plus r.pc offset)) (after_advance e r v pc t b f a);
  jump = λ to offset s p al. goes e r v pc to t t b (Jal 0 offset) (jump r to) s a (do_jal r v pc to offset a.pc_is p al) (after_jump e r v pc to t b al a);
  linked = λ rd rs1 to imm s f z p al. goes e r v pc to t (put t rd (pc + 4)) b (Jalr rd rs1 imm) (jump (with_reg r rd (pc + 4)) to) s a (do_jalr r v pc to rd rs1 imm a.pc_is f (ap (λ n. plus n imm) (a.holds rs1) ∙ p) al) (after_jump e _ v pc to _ b al (after_write e r v pc t b rd (pc + 4) z.0 z.1 f a));
  return = λ rs1 to imm s f p al. goes e r v pc to t t b (Jalr 0 rs1 imm) (jump r to) s a (do_jalr r v pc to 0 rs1 imm a.pc_is f (ap (λ n. plus n imm) (a.holds rs1) ∙ p) al ∙ ap (λ q. Goes (jump q to) v) (with_reg-zero r (pc + 4))) (after_jump e r v pc to t b al a);
  call = λ s f. record {
    regs = advance r;
    view = v;
    only = only_same e v;
    reaches = λ k. one_more k r v (Calls (advance r) v) (turn_here e r v pc t b Ecall s a ∙ do_ecall r v);
    at = after_advance e r v pc t b f a;
  };
}

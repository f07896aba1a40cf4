-- One instruction of a stretch.
use Rattle.std.proofs.Common.{◌≡◌, ℕ, zero, suc, ◌≤◌, sym, ap, ◌∙◌, arith}
use Rattle.nx_base.specs.declared.regs.Regs.{Regs}
use Rattle.nx_base.specs.Views.{View}
use Rattle.nx_rv.specs.Execution.{Turn, Goes, Calls, Traps, End, Trap, Fuel, turn, after, stretch}

pub stretch_more : (m n : ℕ) (r : Regs) (v : View) (t : Turn) → m ≡ suc n → t ≡ turn r v → stretch m r v ≡ after t n (stretch n)
unfolding stretch
stretch_more m n r v t e h = ap (λ k. stretch k r v) e ∙ ap (λ s. after s n (stretch n)) (sym h)

pub stretch_over : (m k : ℕ) (r : Regs) (v : View) → m ≡ 0 → k ≡ 0 → (let x : End = record { regs = r; view = v; left = k; halt = Fuel } in x) ≡ stretch m r v
unfolding stretch
stretch_over m k r v e h = ap (λ k. let x : End = record { regs = r; view = v; left = k; halt = Fuel } in x) h ∙ sym (ap (λ k. stretch k r v) e)

after_traps : (t : Turn) (m n : ℕ) (go on : Regs → View → End) (cause : ℕ) → ((r : Regs) (v : View) → (go r v).halt ≡ Trap cause → (on r v).halt ≡ Trap cause) → (after t m go).halt ≡ Trap cause → (after t n on).halt ≡ Trap cause
after_traps (Goes r v) m n go on cause h e = h r v e
after_traps (Calls r v) m n go on cause h e = e
after_traps (Traps c r v) m n go on cause h e = e

-- a trap stays a trap with more instructions
pub still_traps : (m n : ℕ) (r : Regs) (v : View) (cause : ℕ) → m ≤ n → (stretch m r v).halt ≡ Trap cause → (stretch n r v).halt ≡ Trap cause
unfolding stretch
still_traps zero n r v cause h e = absurd cc
still_traps (suc m) zero r v cause h e = absurd (omega arith)
still_traps (suc m) (suc n) r v cause h e = after_traps (turn r v) m n (stretch m) (stretch n) cause (λ r' v' t. still_traps m n r' v' cause (omega arith) t) e

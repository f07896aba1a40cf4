-- What was read at a level, and what a level above makes of it.
use Rattle.std.proofs.Common.{◌≡◌, ℕ, zero, suc, ◌+◌, ◌-◌, ◌≤◌, ◌<◌, List, refl, ap, sym, ◌∙◌, arith, subst}
use Rattle.std.specs.Prelude.{Ok}
use Rattle.std.proofs.Math.Nat.{add-sub_of_le}
use Rattle.nx_grammar.specs.Reading.{Out, bind, dispatch}
use Rattle.nx_ctree.specs.declared.sign.Signed.{Signed}
use Rattle.nx_cexpr.specs.declared.operand.Operand.{Operand}
use Rattle.nx_cexpr.specs.declared.stop.ParseStop.{ParseStop}
use Rattle.nx_cexpr.specs.Answers.{GivesFault}
use Rattle.nx_cexpr.specs.Reading.{within, has_node, unary_pick, conditional_pick, assign_pick, level_pick, level_rest}
use Rattle.nx_cexpr.proofs.Steps.{fails_on, level_one, level_next}

-- What is read at a level, where a node fits.
abbrev pub at : ℕ → ℕ → List Signed → Out Signed Operand
at d n = dispatch (level_pick (within d) (has_node d) (suc d) n)

fails_above : (d : ℕ) (e : ParseStop) (m k : ℕ) (ts : List Signed) → 1 ≤ m → GivesFault e (at d m ts) → GivesFault e (at d (m + k) ts)
fails_above d e m zero ts l h =
    let same : m ≡ m + 0 = omega arith in
    subst (λ j. GivesFault e (at d j ts)) same h
fails_above d e m (suc k) ts l h =
    let up : suc (m + k) ≡ m + suc k = omega arith in
    subst (λ j. GivesFault e (at d j ts)) up (fails_on e _ _ _ (level_next d (m + k) ts (omega (arith, l))) (fails_above d e m k ts l h))

-- A fault of a level is one of each level above.
pub fails_to : (d : ℕ) (e : ParseStop) (m n : ℕ) (ts : List Signed) → 1 ≤ m → m ≤ n → GivesFault e (at d m ts) → GivesFault e (at d n ts)
fails_to d e m n ts l k h = subst (λ j. GivesFault e (at d j ts)) (add-sub_of_le k) (fails_above d e m (n - m) ts l h)

-- A fault of a unary expression is one of each level.
pub fails_unary : (d : ℕ) (e : ParseStop) (n : ℕ) (ts : List Signed) → 1 ≤ n → GivesFault e (dispatch (unary_pick (within d) (has_node d) (suc d)) ts) → GivesFault e (at d n ts)
fails_unary d e n ts l h = fails_to d e 1 n ts (omega arith) l (subst (λ o. GivesFault e o) (sym (level_one d 1 ts refl)) h)

-- What was read at a level and what makes it one of the next are read at the next.
pub rises : (d n : ℕ) (ts us : List Signed) (a : Operand) → 1 ≤ n → at d n ts ≡ Ok (a, us) → at d (suc n) ts ≡ level_rest (within d) (has_node d) (suc d) n a us
rises d n ts us a l h = level_next d n ts l ∙ ap (λ o. bind o (level_rest (within d) (has_node d) (suc d) n)) h

-- A fault of what makes it one of the next level is one of each level above.
pub fails_rising : (d : ℕ) (e : ParseStop) (m n : ℕ) (ts us : List Signed) (a : Operand) → 1 ≤ m → m < n → at d m ts ≡ Ok (a, us) →
    GivesFault e (level_rest (within d) (has_node d) (suc d) m a us) → GivesFault e (at d n ts)
fails_rising d e m n ts us a l k h f = fails_to d e (suc m) n ts (omega arith) (omega (arith, k)) (subst (λ o. GivesFault e o) (sym (rises d m ts us a l h)) f)

-- What was read, before the same tokens.
pub before_same : (o : Out Signed Operand) (a : Operand) (us vs : List Signed) → o ≡ Ok (a, us) → vs ≡ us → o ≡ Ok (a, vs)
before_same o a us vs h e = subst (λ ws. o ≡ Ok (a, ws)) (sym e) h

-- The two highest levels.
pub choice_rest : (d n : ℕ) (a : Operand) (ts : List Signed) → n ≡ 11 → level_rest (within d) (has_node d) (suc d) n a ts ≡ dispatch (conditional_pick (within d) (has_node d) (suc d) a) ts
unfolding level_rest
choice_rest d n a ts h = ap (λ k. level_rest (within d) (has_node d) (suc d) k a ts) h

pub assignment_rest : (d n : ℕ) (a : Operand) (ts : List Signed) → n ≡ 12 → level_rest (within d) (has_node d) (suc d) n a ts ≡ dispatch (assign_pick (within d) (has_node d) (suc d) a) ts
unfolding level_rest
assignment_rest d n a ts h = ap (λ k. level_rest (within d) (has_node d) (suc d) k a ts) h

-- The unary level is where levels rise from.
pub unary_at : (d : ℕ) (ts : List Signed) (o : Out Signed Operand) → dispatch (unary_pick (within d) (has_node d) (suc d)) ts ≡ o → at d 1 ts ≡ o
unary_at d ts o h = level_one d 1 ts refl ∙ h

-- One step of reading expressions.
use Rattle.std.proofs.Common.{◌≡◌, ℕ, zero, suc, ◌≤◌, Bool, true, false, List, [], ◌∷◌, refl, ap, ◌∙◌, arith}
use Rattle.std.specs.Prelude.{Option, None, Some, if◌then◌else◌, ◌&&◌, nat_lt}
use Rattle.nx_grammar.specs.declared.kind.Kind.TheVariants.{Limit}
use Rattle.nx_grammar.specs.Reading.{Out, Reading, Pick, Refuse, Take, picked, dispatch, bind, done, round, then_pick}
use Rattle.nx_grammar.proofs.Thens.{Takes, picked_then}
use Rattle.nx_ctree.specs.declared.sign.Signed.{Signed}
use Rattle.nx_ctree.specs.declared.program.Base.{Base}
use Rattle.nx_ctree.specs.declared.expression.StepOperator.{StepOperator}
use Rattle.nx_ctree.specs.declared.expression.AssignOperator.{AssignOperator}
use Rattle.nx_ctree.specs.Expressions.{written}
use Rattle.nx_cexpr.specs.declared.stop.ParseStop.{ParseStop}
use Rattle.nx_cexpr.specs.declared.stop.ParseStop.TheVariants as stop
use Rattle.nx_cexpr.specs.declared.operand.Operand.{Operand}
use Rattle.nx_cexpr.specs.declared.operand.Lvalue.{Lvalue}
use Rattle.nx_cexpr.specs.Operands
use Rattle.nx_cexpr.specs.Answers.{GivesFault, part_at, stepped_at, assigned_at, full_pick}
use Rattle.nx_cexpr.specs.Types.{base_pick, base_at}
use Rattle.nx_cexpr.specs.Reading.{Below, step_by, assign_rest, assign_by, primary_pick, unary_pick, level_rest, level_pick, has_node, within, level_at, place_pick, call_rest}
use Rattle.nx_cexpr.proofs.Laws
use Rattle.nx_cexpr.proofs.PrimaryLaws.{primary_passes, base_passes}
use Rattle.nx_cexpr.proofs.Laws.{lows, level_at_passes}

-- A fault of a step is one of the whole.
pub fails_on : {A B : Type 0} (e : ParseStop) (o : Out Signed A) (p : Out Signed B) (next : A → Reading Signed B) → p ≡ bind o next → GivesFault e o → GivesFault e p
fails_on stop.Memory o p next h g = tt
fails_on (stop.Fault kind from) o p next h g = h ∙ ap (λ x. bind x next) g

-- A part, where what stands before it may go down by a node, is a round.
pub round_part : {A : Type 0} (read : Reading Signed A) (b : Bool) (t : Signed) (us : List Signed) (on : A → Reading Signed A) →
    round (if b then Take read else Refuse Limit) t us on ≡ bind (part_at read b (t ∷ us) us) on
round_part read true t us on = refl
round_part read false t us on = refl

-- What is taken after a sign, where what stands before it may go down by a node, is such a part.
pub picked_part : {A : Type 0} (read : Reading Signed A) (b : Bool) (t : Signed) (us : List Signed) → picked (if b then Take read else Refuse Limit) t us ≡ part_at read b (t ∷ us) us
picked_part read true t us = refl
picked_part read false t us = refl

pub step_same : (d : ℕ) (a : Operand) (op : StepOperator) (p : Option Lvalue) (t : Signed) (us : List Signed) → picked (step_by d a (Some op) p) t us ≡ stepped_at op p d (t ∷ us) us
step_same d a op None t us = refl
step_same d a op (Some p) t us = picked_part (done (Operands.after op p)) (nat_lt p.height d) t us

pub assign_same : (low : Below) (fits : Bool) (d : ℕ) (a : Operand) (op : AssignOperator) (p : Option Lvalue) (t : Signed) (us : List Signed) →
    picked (assign_by low fits d a (Some op) p) t us ≡ assigned_at low fits d op p (t ∷ us) us
assign_same low fits d a op None t us = refl
assign_same low fits d a op (Some p) t us = picked_part (assign_rest low op p) (fits && nat_lt (written op (Operands.place_kind p.target) p.height) d) t us

-- ---- What a part begins and more after it is one reading after another.

pub then_at : {A B : Type 0} (pick : Signed → Pick Signed A) (next : A → Reading Signed B) → ((t : Signed) → Takes (pick t)) → (ts : List Signed) → dispatch (λ t. then_pick (pick t) next) ts ≡ bind (dispatch pick ts) next
then_at pick next passes [] = refl
then_at pick next passes (t ∷ ts) = picked_then (pick t) next t ts (passes t)

pub level_then : {B : Type 0} (d n : ℕ) (next : Operand → Reading Signed B) (ts : List Signed) → dispatch (λ t. then_pick ((within d).level n t) next) ts ≡ bind (level_at d n ts) next
level_then d n next ts = then_at ((within d).level n) next (level_at_passes d n) ts

pub primary_then : (d : ℕ) (next : Operand → Reading Signed Operand) (ts : List Signed) →
    dispatch (λ t. then_pick (primary_pick (within d) (has_node d) t t.sign) next) ts ≡ bind (dispatch (λ t. primary_pick (within d) (has_node d) t t.sign) ts) next
primary_then d next ts = then_at (λ t. primary_pick (within d) (has_node d) t t.sign) next (λ t. primary_passes (within d) (has_node d) (lows d) t t.sign) ts

pub base_then : (next : Base → Reading Signed Operand) (ts : List Signed) → dispatch (λ t. then_pick (base_pick t) next) ts ≡ bind (base_at ts) next
base_then next ts = then_at base_pick next base_passes ts

-- ---- A node further down.

pub level_down : (d e n : ℕ) (ts : List Signed) → d ≡ suc e → level_at d n ts ≡ dispatch (level_pick (within e) (has_node e) (suc e) n) ts
unfolding within
level_down d e n ts h = ap (λ k. level_at k n ts) h

pub level_full : (d n : ℕ) (ts : List Signed) → d ≡ 0 → level_at d n ts ≡ dispatch full_pick ts
unfolding within
level_full d n ts h = ap (λ k. level_at k n ts) h

pub place_down : (d e : ℕ) (ts : List Signed) → d ≡ suc e → dispatch (within d).place ts ≡ dispatch (place_pick (within e) (has_node e) (suc e)) ts
unfolding within
place_down d e ts h = ap (λ k. dispatch (within k).place ts) h

pub call_down : (d e : ℕ) (t : Signed) (ts : List Signed) → d ≡ suc e → (within d).call t ts ≡ call_rest (within e) (has_node e) t ts
unfolding within
call_down d e t ts h = ap (λ k. (within k).call t ts) h

-- ---- Levels by their number.

module _ (d : ℕ) where
  pub level_zero : (n : ℕ) (ts : List Signed) → n ≡ 0 → dispatch (level_pick (within d) (has_node d) (suc d) n) ts ≡ dispatch (λ t. primary_pick (within d) (has_node d) t t.sign) ts
  unfolding level_pick
  level_zero n ts h = ap (λ k. dispatch (level_pick (within d) (has_node d) (suc d) k) ts) h

  pub level_one : (n : ℕ) (ts : List Signed) → n ≡ 1 → dispatch (level_pick (within d) (has_node d) (suc d) n) ts ≡ dispatch (unary_pick (within d) (has_node d) (suc d)) ts
  unfolding level_pick
  level_one n ts h = ap (λ k. dispatch (level_pick (within d) (has_node d) (suc d) k) ts) h

  pub level_same : (n m : ℕ) (ts : List Signed) → n ≡ m → dispatch (level_pick (within d) (has_node d) (suc d) n) ts ≡ dispatch (level_pick (within d) (has_node d) (suc d) m) ts
  level_same n m ts h = ap (λ k. dispatch (level_pick (within d) (has_node d) (suc d) k) ts) h

  -- A level above the unary one is the one below and what stands after it.
  pub level_next : (n : ℕ) (ts : List Signed) → 1 ≤ n → dispatch (level_pick (within d) (has_node d) (suc d) (suc n)) ts ≡ bind (dispatch (level_pick (within d) (has_node d) (suc d) n) ts) (level_rest (within d) (has_node d) (suc d) n)
  level_next zero ts h = absurd (omega arith)
  level_next (suc n) ts h = Laws.level_then (within d) (has_node d) (lows d) (suc d) n ts

-- Expressions of the levels with operators between their parts are read.
use Rattle.std.proofs.Common.{◌≡◌, ℕ, zero, suc, ◌<◌, ◌≤◌, Bool, true, List, ◌∷◌, refl, ap, ◌∙◌, arith}
use Rattle.std.specs.Prelude.{Ok, Option, Some, max}
use Rattle.std.proofs.lemmas.Bool.{lt-ltb}
use Rattle.nx_ctree.specs.declared.sign.Sign.{Sign}
use Rattle.nx_ctree.specs.declared.sign.Sign.TheVariants as sign
use Rattle.nx_ctree.specs.declared.sign.Signed.{Signed}
use Rattle.nx_ctree.specs.declared.expression.Expr.{Expr}
use Rattle.nx_ctree.specs.declared.expression.ExprKind.TheVariants as kind
use Rattle.nx_ctree.specs.declared.expression.Place.{Place}
use Rattle.nx_ctree.specs.declared.expression.BinaryOperator.{BinaryOperator}
use Rattle.nx_ctree.specs.declared.expression.BinaryOperator.TheVariants as binary
use Rattle.nx_ctree.specs.declared.expression.AssignOperator.{AssignOperator}
use Rattle.nx_ctree.specs.Expressions.{expr, written, binary_of, assign_of, whole}
use Rattle.nx_grammar.specs.Reading.{picked, dispatch, loop}
use Rattle.nx_grammar.specs.Lawful.{Heads}
use Rattle.nx_grammar.proofs.LoopLaws.{loop_stops}
use Rattle.nx_cexpr.specs.declared.operand.Operand.{Operand}
use Rattle.nx_cexpr.specs.declared.operand.Lvalue.{Lvalue}
use Rattle.nx_cexpr.specs.Signs.{rank, Stops}
use Rattle.nx_cexpr.specs.Operands
use Rattle.nx_cexpr.specs.Operands.{expr_of, place_of, place_kind}
use Rattle.nx_cexpr.specs.Reading.{Below, operator_pick, assign_by, level_rest, level_pick, has_node, within}
use Rattle.nx_cexpr.proofs.SignLaws.{is_true, stops_at}
use Rattle.nx_cexpr.proofs.PrimaryLaws.{Lows}
use Rattle.nx_cexpr.proofs.Laws.{lows, operator_rounds}
use Rattle.nx_cexpr.proofs.Forms.{right_on, conditional_on, assign_on}
use Rattle.nx_cexpr.proofs.Levels.{level_step, level_up, rest_is_loop, chain_on}
use Rattle.nx_cexpr.proofs.CompleteClaims.{from_node, node_fits, stops_less, Reads, Placed}
use Rattle.nx_cexpr.proofs.CompletePrimary.{level_is, level_was}

-- ---- The ranks of operators.

pub record Ranked (s : Sign) (n : ℕ) : Type 0 where
  pub rank_is : rank s ≡ n
  pub least : 2 ≤ n
  pub most : n ≤ 11

one_some : {X : Type 0} (x y : X) → (let o : Option X = Some x in o) ≡ Some y → x ≡ y
one_some x y e = cc

ranked_by : (s : Sign) (p op : BinaryOperator) (m n : ℕ) → rank s ≡ m → 2 ≤ m → m ≤ 11 → (let o : Option (BinaryOperator × ℕ) = Some (p, m) in o) ≡ Some (op, n) → Ranked s n
ranked_by s p op m n r least most e =
    let same : m ≡ n = ap (λ (x : BinaryOperator × ℕ). x.1) (one_some {X = BinaryOperator × ℕ} (p, m) (op, n) e) in
    record { rank_is = r ∙ same; least = omega (arith, same, least); most = omega (arith, same, most) }

ranked : (s : Sign) (op : BinaryOperator) (n : ℕ) → binary_of s ≡ Some (op, n) → Ranked s n
ranked sign.Star op n e = ranked_by sign.Star binary.Multiply op 2 n refl (omega arith) (omega arith) e
ranked sign.Slash op n e = ranked_by sign.Slash binary.Divide op 2 n refl (omega arith) (omega arith) e
ranked sign.Percent op n e = ranked_by sign.Percent binary.Remainder op 2 n refl (omega arith) (omega arith) e
ranked sign.Plus op n e = ranked_by sign.Plus binary.Add op 3 n refl (omega arith) (omega arith) e
ranked sign.Minus op n e = ranked_by sign.Minus binary.Subtract op 3 n refl (omega arith) (omega arith) e
ranked sign.ShiftLeft op n e = ranked_by sign.ShiftLeft binary.ShiftLeft op 4 n refl (omega arith) (omega arith) e
ranked sign.ShiftRight op n e = ranked_by sign.ShiftRight binary.ShiftRight op 4 n refl (omega arith) (omega arith) e
ranked sign.Less op n e = ranked_by sign.Less binary.Less op 5 n refl (omega arith) (omega arith) e
ranked sign.AtMost op n e = ranked_by sign.AtMost binary.AtMost op 5 n refl (omega arith) (omega arith) e
ranked sign.Greater op n e = ranked_by sign.Greater binary.Greater op 5 n refl (omega arith) (omega arith) e
ranked sign.AtLeast op n e = ranked_by sign.AtLeast binary.AtLeast op 5 n refl (omega arith) (omega arith) e
ranked sign.Equal op n e = ranked_by sign.Equal binary.Equal op 6 n refl (omega arith) (omega arith) e
ranked sign.NotEqual op n e = ranked_by sign.NotEqual binary.NotEqual op 6 n refl (omega arith) (omega arith) e
ranked sign.BitAnd op n e = ranked_by sign.BitAnd binary.BitAnd op 7 n refl (omega arith) (omega arith) e
ranked sign.BitXor op n e = ranked_by sign.BitXor binary.BitXor op 8 n refl (omega arith) (omega arith) e
ranked sign.BitOr op n e = ranked_by sign.BitOr binary.BitOr op 9 n refl (omega arith) (omega arith) e
ranked sign.AndMark op n e = ranked_by sign.AndMark binary.And op 10 n refl (omega arith) (omega arith) e
ranked sign.OrMark op n e = ranked_by sign.OrMark binary.Or op 11 n refl (omega arith) (omega arith) e
ranked _ op n e = absurd cc

pub operator_rank : (t : Signed) (op : BinaryOperator) (n : ℕ) → binary_of t.sign ≡ Some (op, n) → Ranked t.sign n
operator_rank t op n e = ranked t.sign op n e

assign_rank : (s : Sign) (op : AssignOperator) → assign_of s ≡ Some op → rank s ≡ 13
assign_rank sign.Set op e = refl
assign_rank sign.AddSet op e = refl
assign_rank sign.SubtractSet op e = refl
assign_rank sign.MultiplySet op e = refl
assign_rank sign.DivideSet op e = refl
assign_rank sign.RemainderSet op e = refl
assign_rank _ op e = absurd cc

-- ---- From one level to the next.

pub next_level : (n : ℕ) (ts : List Signed) (a : Expr) (h : ℕ) (rest : List Signed) → 1 ≤ h → Reads n ts a h rest → Reads (suc n) ts a h rest
next_level n ts a h rest one r = record {
  operand = r.operand;
  shows = r.shows;
  tall = r.tall;
  reads = from_node (λ d. Heads (Stops (suc (suc n))) rest → dispatch ((within d).level (suc (suc n))) ts ≡ Ok (r.operand, rest)) h one
      (λ e l s. level_is e (suc (suc n)) ts (Ok (r.operand, rest)) (level_up (within e) (has_node e) (lows e) (suc e) n ts r.operand rest
      (level_was e (suc n) ts (Ok (r.operand, rest)) (r.reads (suc e) l (stops_less (suc n) (suc (suc n)) (omega arith) rest s))) s));
  loops = λ e l below most s.
      level_step (within e) (has_node e) (lows e) (suc e) n ts r.operand rest (level_was e (suc n) ts (Ok (r.operand, rest)) (r.reads (suc e) l s))
      ∙ rest_is_loop (within e) (has_node e) (lows e) (suc e) (suc n) r.operand rest most;
}

-- ---- Operators.

binary_shows : (op : BinaryOperator) (x y : Operand) (a b : Expr) → expr_of x ≡ a → expr_of y ≡ b → expr_of (Operands.binary op x y) ≡ expr a.line (kind.Binary op a b)
binary_shows op x y a b e g = ap (λ (z : Expr). expr z.line (kind.Binary op z (expr_of y))) e ∙ ap (λ z. expr a.line (kind.Binary op a z)) g

pub binary_read : (n : ℕ) (t : Signed) (ts us rest : List Signed) (op : BinaryOperator) (a b : Expr) (h k : ℕ) → binary_of t.sign ≡ Some (op, suc (suc n)) → 1 ≤ k → Reads (suc n) ts a h (t ∷ us) → Reads n us b k rest →
    Reads (suc n) ts (expr a.line (kind.Binary op a b)) (suc (max h k)) rest
binary_read n t ts us rest op a b h k g one r q =
    let x : Operand = Operands.binary op r.operand q.operand in
    let w : Ranked t.sign (suc (suc n)) = operator_rank t op (suc (suc n)) g in
    let stop : Stops (suc n) t = omega (arith, w.rank_is) in
    let chain : (e : ℕ) → suc (max h k) ≤ suc e → Heads (Stops (suc n)) rest → dispatch (level_pick (within e) (has_node e) (suc e) (suc (suc n))) ts ≡ loop (operator_pick (within e) (has_node e) (suc e) (suc n)) x rest =
    λ e l s.
    r.loops e (omega (arith, l)) (omega arith) (omega (arith, w.most)) stop
    ∙ chain_on (within e) (has_node e) (lows e) (suc e) (suc n) t op g (node_fits e (omega (arith, l, one))) r.operand (omega (arith, r.tall, l)) us x rest
    (right_on (within e) (has_node e) (suc e) (suc n) op r.operand us q.operand rest (q.reads e (omega (arith, l)) s)) in
    record {
      operand = x;
      shows = binary_shows op r.operand q.operand a b r.shows q.shows;
      tall = ap (λ z. suc (max z q.operand.height)) r.tall ∙ ap (λ z. suc (max h z)) q.tall;
      reads = from_node (λ d. Heads (Stops (suc (suc n))) rest → dispatch ((within d).level (suc (suc n))) ts ≡ Ok (x, rest)) (suc (max h k)) (omega arith)
          (λ e l s. level_is e (suc (suc n)) ts (Ok (x, rest)) (chain e l (stops_less (suc n) (suc (suc n)) (omega arith) rest s)
          ∙ loop_stops (operator_pick (within e) (has_node e) (suc e) (suc n)) (Stops (suc (suc n))) (Stops (suc n)) (operator_rounds (within e) (has_node e) (lows e) (suc e) (suc n)) x rest s));
      loops = λ e l below most s. chain e l s;
    }

-- ---- Conditional expressions.

module _ (low : Below) (fits : Bool) (law : Lows low fits) (d : ℕ) where
  question : fits ≡ true → (a : Operand) → a.height < d → (q c : Signed) (us vs : List Signed) (b x : Operand) (rest : List Signed) → q.sign ≡ sign.Question → dispatch (low.level whole) us ≡ Ok (b, c ∷ vs) → c.sign ≡ sign.Colon → dispatch (low.level 12) vs ≡ Ok (x, rest) →
      level_rest low fits d 11 a (q ∷ us) ≡ Ok (Operands.conditional a b x, rest)
  unfolding level_rest
  question f a l q c us vs b x rest e g h k = rw (is_true sign.Question q e, f, lt-ltb a.height d l) (conditional_on low fits d a c us vs b x rest g h k)

  setting : fits ≡ true → (a : Operand) (p : Lvalue) (op : AssignOperator) → Operands.lvalue_of a ≡ Some p → written op (place_kind p.target) p.height < d → (t : Signed) (us : List Signed) (x : Operand) (rest : List Signed) → assign_of t.sign ≡ Some op → dispatch (low.level whole) us ≡ Ok (x, rest) →
      level_rest low fits d 12 a (t ∷ us) ≡ Ok (Operands.assign op p x, rest)
  unfolding level_rest
  setting f a p op h l t us x rest e g =
      ap (λ o. picked (assign_by low fits d a o (Operands.lvalue_of a)) t us) e ∙ ap (λ o. picked (assign_by low fits d a (Some op) o) t us) h
      ∙ rw (f, lt-ltb (written op (place_kind p.target) p.height) d l) (assign_on low fits d op p us x rest g)

  -- A unary expression before what stops each level below assignments is one of each.
  raised : (n : ℕ) → n ≤ 11 → (ts : List Signed) (a : Operand) (rest : List Signed) → dispatch (level_pick low fits d 1) ts ≡ Ok (a, rest) → Heads (Stops 12) rest → dispatch (level_pick low fits d (suc n)) ts ≡ Ok (a, rest)
  raised zero l ts a rest e s = e
  raised (suc n) l ts a rest e s = level_up low fits law d n ts a rest (raised n (omega (arith, l)) ts a rest e s) (stops_less (suc (suc n)) 12 (omega (arith, l)) rest s)

conditional_shows : (x y z : Operand) (a b e : Expr) → expr_of x ≡ a → expr_of y ≡ b → expr_of z ≡ e → expr_of (Operands.conditional x y z) ≡ expr a.line (kind.Conditional a b e)
conditional_shows x y z a b e f g h =
    ap (λ (w : Expr). expr w.line (kind.Conditional w (expr_of y) (expr_of z))) f ∙ ap (λ w. expr a.line (kind.Conditional a w (expr_of z))) g ∙ ap (λ w. expr a.line (kind.Conditional a b w)) h

conditional_tall : (x y z h k m : ℕ) → x ≡ h → y ≡ k → z ≡ m → suc (max x (max y z)) ≡ suc (max h (max k m))
conditional_tall x y z h k m f g j = ap (λ w. suc (max w (max y z))) f ∙ ap (λ w. suc (max h (max w z))) g ∙ ap (λ w. suc (max h (max k w))) j

pub conditional_read : (q c : Signed) (ts us vs rest : List Signed) (a b x : Expr) (h k m : ℕ) → 1 ≤ k → Reads 10 ts a h (q ∷ us) → q.sign ≡ sign.Question → Reads 12 us b k (c ∷ vs) → c.sign ≡ sign.Colon → Reads 11 vs x m rest →
    Reads 11 ts (expr a.line (kind.Conditional a b x)) (suc (max h (max k m))) rest
conditional_read q c ts us vs rest a b x h k m one r g u j v =
    let y : Operand = Operands.conditional r.operand u.operand v.operand in
    record {
      operand = y;
      shows = conditional_shows r.operand u.operand v.operand a b x r.shows u.shows v.shows;
      tall = conditional_tall r.operand.height u.operand.height v.operand.height h k m r.tall u.tall v.tall;
      reads = from_node (λ d. Heads (Stops 12) rest → dispatch ((within d).level 12) ts ≡ Ok (y, rest)) (suc (max h (max k m))) (omega arith)
          (λ e l s.
          level_is e 12 ts (Ok (y, rest)) (level_step (within e) (has_node e) (lows e) (suc e) 10 ts r.operand (q ∷ us)
          (level_was e 11 ts (Ok (r.operand, q ∷ us)) (r.reads (suc e) (omega (arith, l)) (stops_at sign.Question 11 q (omega arith) g)))
          ∙ question (within e) (has_node e) (lows e) (suc e) (node_fits e (omega (arith, l, one))) r.operand (omega (arith, r.tall, l)) q c us vs u.operand v.operand rest g
          (u.reads e (omega (arith, l)) (stops_at sign.Colon 13 c (omega arith) j)) j (v.reads e (omega (arith, l)) s)));
      loops = λ e l below most s. absurd (omega (arith, most));
    }

-- ---- Assignments.

assign_shows : (op : AssignOperator) (l : Lvalue) (x : Operand) (p : Place) (a : Expr) → place_of l ≡ p → expr_of x ≡ a → expr_of (Operands.assign op l x) ≡ expr p.line (kind.Assign op p a)
assign_shows op l x p a e g = ap (λ (z : Place). expr z.line (kind.Assign op z (expr_of x))) e ∙ ap (λ z. expr p.line (kind.Assign op p z)) g

written_same : (op : AssignOperator) (l : Lvalue) (p : Place) (h : ℕ) → place_of l ≡ p → l.height ≡ h → written op (place_kind l.target) l.height ≡ written op p.kind h
written_same op l p h e g = ap (λ (z : Place). written op z.kind l.height) e ∙ ap (λ z. written op p.kind z) g

pub assign_read : (t : Signed) (ts us rest : List Signed) (op : AssignOperator) (p : Place) (a : Expr) (h k : ℕ) → 1 ≤ k → Placed ts p h (t ∷ us) → assign_of t.sign ≡ Some op → Reads 12 us a k rest →
    Reads 12 ts (expr p.line (kind.Assign op p a)) (suc (max (written op p.kind h) k)) rest
assign_read t ts us rest op p a h k one w g r =
    let x : Operand = Operands.assign op w.lvalue r.operand in
    let n : ℕ = written op p.kind h in
    let same : written op (place_kind w.lvalue.target) w.lvalue.height ≡ n = written_same op w.lvalue p h w.shows w.tall in
    let ranks : rank t.sign ≡ 13 = assign_rank t.sign op g in
    let low : h ≤ max 1 n = w.low op in
    record {
      operand = x;
      shows = assign_shows op w.lvalue r.operand p a w.shows r.shows;
      tall = ap (λ z. suc (max z r.operand.height)) same ∙ ap (λ z. suc (max n z)) r.tall;
      reads = from_node (λ d. Heads (Stops 13) rest → dispatch ((within d).level 13) ts ≡ Ok (x, rest)) (suc (max n k)) (omega arith)
          (λ e l s.
          level_is e 13 ts (Ok (x, rest)) (level_step (within e) (has_node e) (lows e) (suc e) 11 ts w.operand (t ∷ us)
          (raised (within e) (has_node e) (lows e) (suc e) 11 (omega arith) ts w.operand (t ∷ us) (w.reads e (omega (arith, l, low, one)) (omega (arith, ranks))) (omega (arith, ranks)))
          ∙ setting (within e) (has_node e) (lows e) (suc e) (node_fits e (omega (arith, l, one))) w.operand w.lvalue op w.is (omega (arith, same, l)) t us r.operand rest g (r.reads e (omega (arith, l)) s)));
      loops = λ e l below most s. absurd (omega (arith, most));
    }

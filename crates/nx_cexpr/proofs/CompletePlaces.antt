-- What can be written to, by the grammar, is read.
use Rattle.std.proofs.Common.{◌≡◌, ℕ, suc, ◌<◌, ◌≤◌, false, List, [], ◌∷◌, refl, ap, ◌∙◌, arith}
use Rattle.std.specs.Prelude.{Ok, None, Some, max}
use Rattle.std.proofs.lemmas.Bool.{lt-ltb}
use Rattle.nx_ctree.specs.declared.sign.Sign.TheVariants as sign
use Rattle.nx_ctree.specs.declared.sign.Signed.{Signed}
use Rattle.nx_ctree.specs.declared.expression.Expr.{Expr}
use Rattle.nx_ctree.specs.declared.expression.ExprKind.TheVariants as kind
use Rattle.nx_ctree.specs.declared.expression.Place.{Place}
use Rattle.nx_ctree.specs.declared.expression.PlaceKind.TheVariants as place
use Rattle.nx_ctree.specs.declared.expression.UnaryOperator.TheVariants as unary
use Rattle.nx_ctree.specs.declared.expression.StepOperator.{StepOperator}
use Rattle.nx_ctree.specs.declared.expression.AssignOperator.{AssignOperator}
use Rattle.nx_ctree.specs.declared.expression.AssignOperator.TheVariants as assign
use Rattle.nx_ctree.specs.Expressions.{expr, at, unary_of, step_of, written}
use Rattle.nx_grammar.specs.Reading.{Out, picked, dispatch, bind}
use Rattle.nx_grammar.specs.Lawful.{Heads}
use Rattle.nx_cexpr.specs.declared.operand.Operand.{Operand}
use Rattle.nx_cexpr.specs.declared.operand.Lvalue.{Lvalue}
use Rattle.nx_cexpr.specs.declared.operand.Element.{Element}
use Rattle.nx_cexpr.specs.Signs.{is_sign, Stops}
use Rattle.nx_cexpr.specs.Operands
use Rattle.nx_cexpr.specs.Operands.{expr_of, place_of}
use Rattle.nx_cexpr.specs.Reading.{step_by, step_pick, place_pick, has_node, within}
use Rattle.nx_cexpr.proofs.SignLaws.{differs}
use Rattle.nx_cexpr.proofs.Laws.{lows, level_at_passes}
use Rattle.nx_cexpr.proofs.CompletePicks.{Closed, stops_close, post_on, name_on, post_closed, place_goes, place_name_on, name_place_on, place_deref_on, unary_read, before_read}
use Rattle.nx_cexpr.proofs.CompleteClaims.{from_node, node_fits, Indexed, Reads, Placed, Posted}
use Rattle.nx_cexpr.proofs.CompletePrimary.{level_is}
use Rattle.nx_cexpr.proofs.CompleteIndexes.{closed_elements, indexed_steps, no_step_after}

place_is : (e : ℕ) (ts : List Signed) (o : Out Signed Lvalue) → dispatch (place_pick (within e) (has_node e) (suc e)) ts ≡ o → dispatch (within (suc e)).place ts ≡ o
unfolding within
place_is e ts o h = h

-- A name alone that is written has no node, and any other place has all of its own.
low_index : (a i : Expr) (h : ℕ) (op : AssignOperator) → h ≤ max 1 (written op (place.Index a i) h)
low_index a i h assign.Set = omega arith
low_index a i h assign.Add = omega arith
low_index a i h assign.Subtract = omega arith
low_index a i h assign.Multiply = omega arith
low_index a i h assign.Divide = omega arith
low_index a i h assign.Remainder = omega arith

low_deref : (a : Expr) (h : ℕ) (op : AssignOperator) → h ≤ max 1 (written op (place.Deref a) h)
low_deref a h assign.Set = omega arith
low_deref a h assign.Add = omega arith
low_deref a h assign.Subtract = omega arith
low_deref a h assign.Multiply = omega arith
low_deref a h assign.Divide = omega arith
low_deref a h assign.Remainder = omega arith

closed_calls : (r : List Signed) → Heads Closed r → Heads (λ u. is_sign sign.OpenParen u ≡ false) r
closed_calls [] h = h
closed_calls (u ∷ us) h = h.call

-- ---- Names and indexes.

pub name_posted : (t : Signed) (rest : List Signed) → t.sign ≡ sign.Name → Posted (t ∷ rest) (at t.line (place.Name t.text)) 1 rest
name_posted t rest g = record {
  operand = Operands.name t;
  lvalue = Operands.name_lvalue t;
  is = refl;
  post_is = refl;
  shows = refl;
  tall = refl;
  some = omega arith;
  low = λ op. omega arith;
  steps = λ e l s.
      post_on (within e) (has_node e) (lows e) (level_at_passes e) (suc e) t rest sign.Name (Operands.name t) rest g refl (name_on (within e) (has_node e) (lows e) (level_at_passes e) (suc e) t rest (closed_calls rest s))
      ∙ post_closed (within e) (has_node e) (lows e) (level_at_passes e) (suc e) (Operands.name t) rest s;
  places = λ e l s.
      place_name_on (within e) (has_node e) (lows e) (level_at_passes e) (suc e) t rest (Ok (Operands.name_lvalue t, rest)) g (name_place_on (within e) (has_node e) (lows e) (level_at_passes e) (suc e) t rest s);
}

element_shows : (x : Element) (a i : Expr) → x.line ≡ a.line → x.base ≡ a → x.index ≡ i → at x.line (place.Index x.base x.index) ≡ at a.line (place.Index a i)
element_shows x a i l b k = ap (λ z. at z (place.Index x.base x.index)) l ∙ ap (λ z. at a.line (place.Index z x.index)) b ∙ ap (λ z. at a.line (place.Index a z)) k

pub index_posted : (ts : List Signed) (a i : Expr) (h : ℕ) (rest : List Signed) → Indexed ts a i h rest → Posted ts (at a.line (place.Index a i)) h rest
index_posted ts a i h rest w = record {
  operand = Operands.element_operand w.element;
  lvalue = Operands.element_lvalue w.element;
  is = refl;
  post_is = refl;
  shows = element_shows w.element a i w.line w.base w.index;
  tall = w.tall;
  some = omega (arith, w.lower);
  low = λ op. low_index a i h op;
  steps = λ e l s. indexed_steps ts a i h rest w e l s;
  places = λ e l s.
      w.primary.place e (omega (arith, l, w.lower)) w.opens ∙ place_goes (within e) (has_node e) (lows e) (level_at_passes e) (suc e) w.first w.bracket w.mid w.opens
      ∙ ap (λ z. bind z (λ y us. Ok (Operands.element_lvalue y, us))) (w.goes e l ∙ closed_elements e w.element rest s);
}

pub posted_placed : (ts : List Signed) (p : Place) (h : ℕ) (rest : List Signed) → Posted ts p h rest → Placed ts p h rest
posted_placed ts p h rest w = record {
  operand = w.operand;
  lvalue = w.lvalue;
  is = w.is;
  shows = w.shows;
  tall = w.tall;
  some = w.some;
  low = w.low;
  reads = λ e l s. w.steps e l (stops_close rest s) ∙ no_step_after (suc e) w.operand rest s;
  places = λ e l s. w.places e l (stops_close rest s);
}

-- ---- What a pointer points to.

pub deref_placed : (t : Signed) (ts : List Signed) (a : Expr) (h : ℕ) (rest : List Signed) → t.sign ≡ sign.Star → 1 ≤ h → Reads 0 ts a h rest → Placed (t ∷ ts) (at t.line (place.Deref a)) (suc h) rest
deref_placed t ts a h rest g one r = record {
  operand = Operands.unary_operand t unary.Deref r.operand;
  lvalue = Operands.deref_lvalue t r.operand;
  is = refl;
  shows = ap (λ z. at t.line (place.Deref z)) r.shows;
  tall = ap suc r.tall;
  some = omega arith;
  low = λ op. low_deref a (suc h) op;
  reads = λ e l s. unary_read (within e) (has_node e) (lows e) (level_at_passes e) (suc e) (node_fits e (omega (arith, one, l))) t unary.Deref (ap unary_of g) ts r.operand rest (r.reads e (omega (arith, l)) s);
  places = λ e l s. place_deref_on (within e) (has_node e) (lows e) (level_at_passes e) (suc e) (node_fits e (omega (arith, one, l))) t ts r.operand rest g (r.reads e (omega (arith, l)) s);
}

-- ---- "++" and "--".

step_closes : (t : Signed) (op : StepOperator) → step_of t.sign ≡ Some op → Closed t
step_closes t op g = record {
  call = differs sign.OpenParen t (λ k. let z : step_of t.sign ≡ None = ap step_of k in absurd cc);
  index = differs sign.OpenBracket t (λ k. let z : step_of t.sign ≡ None = ap step_of k in absurd cc);
}

step_taken : (d : ℕ) (a : Operand) (p : Lvalue) (t : Signed) (op : StepOperator) (rest : List Signed) → step_of t.sign ≡ Some op → Operands.post_lvalue a ≡ Some p → p.height < d → dispatch (step_pick d a) (t ∷ rest) ≡ Ok (Operands.after op p, rest)
step_taken d a p t op rest g h l =
    ap (λ o. picked (step_by d a o (Operands.post_lvalue a)) t rest) g ∙ ap (λ o. picked (step_by d a (Some op) o) t rest) h ∙ rw (lt-ltb p.height d l) refl

pub after_read : (t : Signed) (ts rest : List Signed) (op : StepOperator) (p : Place) (h : ℕ) → step_of t.sign ≡ Some op → Posted ts p h (t ∷ rest) → Reads 0 ts (expr p.line (kind.After op p)) (suc h) rest
after_read t ts rest op p h g w = record {
  operand = Operands.after op w.lvalue;
  shows = ap (λ (z : Place). expr z.line (kind.After op z)) w.shows;
  tall = ap suc w.tall;
  reads = from_node (λ d. Heads (Stops 1) rest → dispatch ((within d).level 1) ts ≡ Ok (Operands.after op w.lvalue, rest)) (suc h) (omega arith)
      (λ e l s. level_is e 1 ts (Ok (Operands.after op w.lvalue, rest)) (w.steps e (omega (arith, l)) (step_closes t op g) ∙ step_taken (suc e) w.operand w.lvalue t op rest g w.post_is (omega (arith, w.tall, l))));
  loops = λ e l one m s. absurd (omega (arith, one));
}

pub step_before : (t : Signed) (ts rest : List Signed) (op : StepOperator) (p : Place) (h : ℕ) → step_of t.sign ≡ Some op → Placed ts p h rest → Reads 0 (t ∷ ts) (expr t.line (kind.Before op p)) (suc h) rest
step_before t ts rest op p h g w =
    let lower : (d : ℕ) → h ≤ d → Heads (Stops 1) rest → dispatch (within d).place ts ≡ Ok (w.lvalue, rest) =
    from_node (λ d. Heads (Stops 1) rest → dispatch (within d).place ts ≡ Ok (w.lvalue, rest)) h w.some (λ e l s. place_is e ts (Ok (w.lvalue, rest)) (w.places e l s)) in
    record {
      operand = Operands.before t op w.lvalue;
      shows = ap (λ z. expr t.line (kind.Before op z)) w.shows;
      tall = ap suc w.tall;
      reads = from_node (λ d. Heads (Stops 1) rest → dispatch ((within d).level 1) (t ∷ ts) ≡ Ok (Operands.before t op w.lvalue, rest)) (suc h) (omega arith)
          (λ e l s. level_is e 1 (t ∷ ts) (Ok (Operands.before t op w.lvalue, rest))
          (before_read (within e) (has_node e) (lows e) (level_at_passes e) (suc e) (node_fits e (omega (arith, w.some, l))) t op g ts w.lvalue rest (lower e (omega (arith, l)) s)));
      loops = λ e l one m s. absurd (omega (arith, one));
    }

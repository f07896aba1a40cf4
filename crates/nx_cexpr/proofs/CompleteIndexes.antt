-- Indexes of the grammar are read.
use Rattle.std.proofs.Common.{◌≡◌, ℕ, suc, ◌<◌, ◌≤◌, true, List, [], ◌∷◌, refl, ap, ◌∙◌, arith, subst}
use Rattle.std.specs.Prelude.{Ok, max}
use Rattle.std.proofs.lemmas.Bool.{lt-ltb}
use Rattle.nx_ctree.specs.declared.sign.Sign.TheVariants as sign
use Rattle.nx_ctree.specs.declared.sign.Signed.{Signed}
use Rattle.nx_ctree.specs.declared.expression.Expr.{Expr}
use Rattle.nx_ctree.specs.declared.expression.ExprKind.TheVariants as kind
use Rattle.nx_ctree.specs.Expressions.{expr, whole}
use Rattle.nx_grammar.specs.Reading.{dispatch, bind}
use Rattle.nx_grammar.specs.Lawful.{Heads, Any}
use Rattle.nx_grammar.proofs.Loops.{shorter, loop_takes, loop_passes}
use Rattle.nx_cexpr.specs.declared.operand.Operand.{Operand}
use Rattle.nx_cexpr.specs.declared.operand.Element.{Element}
use Rattle.nx_cexpr.specs.Signs.{Stops}
use Rattle.nx_cexpr.specs.Operands
use Rattle.nx_cexpr.specs.Operands.{expr_of}
use Rattle.nx_cexpr.specs.Reading.{element_rest, element_pick, elements, step_pick, level_pick, has_node, within}
use Rattle.nx_cexpr.proofs.SignLaws.{is_true, stops_at, no_step}
use Rattle.nx_cexpr.proofs.Laws.{lows, level_at_passes}
use Rattle.nx_cexpr.proofs.PrimaryLaws.{element_rounds, post_ends}
use Rattle.nx_cexpr.proofs.Forms.{element_on}
use Rattle.nx_cexpr.proofs.CompletePicks.{Closed, stops_close, post_goes, address_read}
use Rattle.nx_cexpr.proofs.CompleteClaims.{from_node, node_fits, stops_less, Primary, Indexed, Chain, One, Many, Reads}
use Rattle.nx_cexpr.proofs.CompletePrimary.{level_is}

-- One index more.
element_goes : (e : ℕ) (x : Element) (o c : Signed) (us rest : List Signed) (i : Operand) → has_node e ≡ true → x.height < suc e → o.sign ≡ sign.OpenBracket → dispatch ((within e).level whole) us ≡ Ok (i, c ∷ rest) → c.sign ≡ sign.CloseBracket →
    elements (within e) (has_node e) (suc e) x (o ∷ us) ≡ elements (within e) (has_node e) (suc e) (Operands.element (Operands.element_operand x) i) rest
element_goes e x o c us rest i f l g h k =
    loop_takes (element_pick (within e) (has_node e) (suc e)) (shorter (element_pick (within e) (has_node e) (suc e)) (Stops 1) Any (element_rounds (within e) (has_node e) (lows e) (suc e))) x o us
    (element_rest (within e) (Operands.element_operand x)) (Ok (Operands.element (Operands.element_operand x) i, rest)) (rw (is_true sign.OpenBracket o g, f, lt-ltb x.height (suc e) l) refl)
    (element_on (within e) (has_node e) (suc e) (Operands.element_operand x) c us i rest h k)

-- Before a token that goes on with none, the indexes are over.
pub closed_elements : (e : ℕ) (x : Element) (r : List Signed) → Heads Closed r → elements (within e) (has_node e) (suc e) x r ≡ Ok (x, r)
closed_elements e x [] h = absurd h
closed_elements e x (u ∷ us) h =
    let g = h.index in
    loop_passes (element_pick (within e) (has_node e) (suc e)) (shorter (element_pick (within e) (has_node e) (suc e)) (Stops 1) Any (element_rounds (within e) (has_node e) (lows e) (suc e))) x x u us (rw g refl)

pub indexed_shows : (x : Element) (a i : Expr) → x.line ≡ a.line → x.base ≡ a → x.index ≡ i → expr x.line (kind.Index x.base x.index) ≡ expr a.line (kind.Index a i)
indexed_shows x a i l b k = ap (λ z. expr z (kind.Index x.base x.index)) l ∙ ap (λ z. expr a.line (kind.Index z x.index)) b ∙ ap (λ z. expr a.line (kind.Index a z)) k

-- An index after a primary expression.
pub index_read : {ts : List Signed} {a : Expr} {h : ℕ} {mid : List Signed} → Chain ts a h mid → (o c : Signed) (us rest : List Signed) (i : Expr) (k : ℕ) → mid ≡ o ∷ us → o.sign ≡ sign.OpenBracket → 1 ≤ k → Reads 12 us i k (c ∷ rest) → c.sign ≡ sign.CloseBracket → Indexed ts a i (suc (max h k)) rest
index_read (One ts a h mid w) o c us rest i k m g one r j =
    let stop : Stops 13 c = stops_at sign.CloseBracket 13 c (omega arith) j in
    record {
      first = w.operand;
      bracket = o;
      mid = us;
      element = Operands.element w.operand r.operand;
      line = ap (λ (z : Expr). z.line) w.shows;
      base = w.shows;
      index = r.shows;
      tall = ap (λ z. suc (max z r.operand.height)) w.tall ∙ ap (λ z. suc (max h z)) r.tall;
      lower = omega (arith, w.tall);
      opens = g;
      primary = subst (λ z. Primary ts w.operand z) m w.primary;
      goes = λ e l. ap (λ z. bind z (elements (within e) (has_node e) (suc e))) (element_on (within e) (has_node e) (suc e) w.operand c us r.operand rest (r.reads e (omega (arith, l)) stop) j);
    }
index_read (Many ts a n h mid w) o c us rest i k m g one r j =
    let stop : Stops 13 c = stops_at sign.CloseBracket 13 c (omega arith) j in
    record {
      first = w.first;
      bracket = w.bracket;
      mid = w.mid;
      element = Operands.element (Operands.element_operand w.element) r.operand;
      line = w.line;
      base = indexed_shows w.element a n w.line w.base w.index;
      index = r.shows;
      tall = ap (λ z. suc (max z r.operand.height)) w.tall ∙ ap (λ z. suc (max h z)) r.tall;
      lower = omega (arith, w.lower);
      opens = w.opens;
      primary = w.primary;
      goes = λ e l.
          w.goes e (omega (arith, l)) ∙ ap (λ z. elements (within e) (has_node e) (suc e) w.element z) m
          ∙ element_goes e w.element o c us rest r.operand (node_fits e (omega (arith, l, one))) (omega (arith, l, w.tall)) g (r.reads e (omega (arith, l)) stop) j;
    }

-- With indexes, a unary expression goes on with "++" or "--".
pub indexed_steps : (ts : List Signed) (a i : Expr) (h : ℕ) (rest : List Signed) → (w : Indexed ts a i h rest) → (e : ℕ) → h ≤ suc e → Heads Closed rest →
    dispatch (level_pick (within e) (has_node e) (suc e) 1) ts ≡ dispatch (step_pick (suc e) (Operands.element_operand w.element)) rest
indexed_steps ts a i h rest w e l s =
    w.primary.unary e (omega (arith, l, w.lower)) (stops_at sign.OpenBracket 0 w.bracket (omega arith) w.opens)
    ∙ post_goes (within e) (has_node e) (lows e) (level_at_passes e) (suc e) (node_fits e (omega (arith, l, w.lower, w.primary.some))) w.first (omega (arith, l, w.lower)) w.bracket w.mid w.opens
    ∙ ap (λ z. bind z (λ y. dispatch (step_pick (suc e) (Operands.element_operand y)))) (w.goes e l ∙ closed_elements e w.element rest s)

pub no_step_after : (d : ℕ) (a : Operand) (r : List Signed) → Heads (Stops 1) r → dispatch (step_pick d a) r ≡ Ok (a, r)
no_step_after d a [] h = absurd h
no_step_after d a (t ∷ ts) h = let g = no_step t h in rw g refl

-- So a primary expression is a unary one.
pub chain_up : {ts : List Signed} {a : Expr} {h : ℕ} {rest : List Signed} → Chain ts a h rest → Reads 0 ts a h rest
chain_up (One ts a h rest w) = record {
  operand = w.operand;
  shows = w.shows;
  tall = w.tall;
  reads = from_node (λ d. Heads (Stops 1) rest → dispatch ((within d).level 1) ts ≡ Ok (w.operand, rest)) h (omega (arith, w.tall, w.primary.some))
      (λ e l s. level_is e 1 ts (Ok (w.operand, rest))
      (w.primary.unary e (omega (arith, w.tall, l)) (stops_less 0 1 (omega arith) rest s) ∙ post_ends (within e) (has_node e) (lows e) (suc e) w.operand rest s));
  loops = λ e l one m s. absurd (omega (arith, one));
}
chain_up (Many ts a i h rest w) = record {
  operand = Operands.element_operand w.element;
  shows = indexed_shows w.element a i w.line w.base w.index;
  tall = w.tall;
  reads = from_node (λ d. Heads (Stops 1) rest → dispatch ((within d).level 1) ts ≡ Ok (Operands.element_operand w.element, rest)) h (omega (arith, w.lower))
      (λ e l s. level_is e 1 ts (Ok (Operands.element_operand w.element, rest))
      (indexed_steps ts a i h rest w e l (stops_close rest s) ∙ no_step_after (suc e) (Operands.element_operand w.element) rest s));
  loops = λ e l one m s. absurd (omega (arith, one));
}

-- The address of an element.
pub address_of : (t : Signed) (ts : List Signed) (a i : Expr) (h : ℕ) (rest : List Signed) → t.sign ≡ sign.BitAnd → (w : Indexed ts a i h rest) → Reads 0 (t ∷ ts) (expr t.line (kind.AddressOf a i)) h rest
address_of t ts a i h rest g w = record {
  operand = Operands.address t w.element;
  shows = ap (λ z. expr t.line (kind.AddressOf z w.element.index)) w.base ∙ ap (λ z. expr t.line (kind.AddressOf a z)) w.index;
  tall = w.tall;
  reads = from_node (λ d. Heads (Stops 1) rest → dispatch ((within d).level 1) (t ∷ ts) ≡ Ok (Operands.address t w.element, rest)) h (omega (arith, w.lower))
      (λ e l s. level_is e 1 (t ∷ ts) (Ok (Operands.address t w.element, rest))
      (address_read (within e) (has_node e) (lows e) (level_at_passes e) (suc e) (node_fits e (omega (arith, l, w.lower, w.primary.some))) t w.bracket ts w.mid w.first w.element rest g
      (w.primary.level e (omega (arith, l, w.lower)) (stops_at sign.OpenBracket 0 w.bracket (omega arith) w.opens)) w.opens (w.goes e l ∙ closed_elements e w.element rest (stops_close rest s))));
  loops = λ e l one m s. absurd (omega (arith, one));
}

-- Primary expressions of the grammar are read.
use Rattle.std.proofs.Common.{◌≡◌, ℕ, suc, ◌≤◌, Bool, true, false, List, [], ◌∷◌, ◌++◌, refl, sym, ap, ◌∙◌, arith}
use Rattle.std.specs.Prelude.{Ok, max}
use Rattle.nx_ctree.specs.declared.sign.Sign.{Sign}
use Rattle.nx_ctree.specs.declared.sign.Sign.TheVariants as sign
use Rattle.nx_ctree.specs.declared.sign.Signed.{Signed}
use Rattle.nx_ctree.specs.declared.expression.Expr.{Expr}
use Rattle.nx_ctree.specs.declared.expression.ExprKind.TheVariants as kind
use Rattle.nx_ctree.specs.Expressions.{expr}
use Rattle.nx_grammar.specs.Reading.{Out, picked, dispatch}
use Rattle.nx_grammar.specs.Lawful.{Heads}
use Rattle.nx_grammar.proofs.Loops.{shorter, loop_takes}
use Rattle.nx_grammar.proofs.LoopLaws.{loop_stops}
use Rattle.nx_cexpr.specs.declared.operand.Operand.{Operand}
use Rattle.nx_cexpr.specs.Signs.{is_sign, is_prefix, Stops}
use Rattle.nx_cexpr.specs.Operands
use Rattle.nx_cexpr.specs.Operands.{expr_of}
use Rattle.nx_cexpr.specs.Reading.{Below, comma_pick, next_rest, call_rest, primary_pick, place_rest, place_pick, level_pick, has_node, within}
use Rattle.nx_cexpr.proofs.SignLaws.{Is, is_true, stops_at, other_rank}
use Rattle.nx_cexpr.proofs.Laws.{lows, level_at_passes}
use Rattle.nx_cexpr.proofs.PrimaryLaws.{comma_rounds}
use Rattle.nx_cexpr.proofs.Forms.{next_on, arguments_on}
use Rattle.nx_cexpr.proofs.CompleteStarts.{Starts}
use Rattle.nx_cexpr.proofs.CompletePicks.{primary_on, post_on, name_on, called_on, call_none_on, call_some_on, group_expr_on, group_read, paren_read, place_name_on, name_index_on, name_call_on, place_value_on}
use Rattle.nx_cexpr.proofs.CompleteClaims.{from_node, node_fits, Primary, Alone, Reads, Listed, Given}

-- The readings at a limit.
pub level_is : (e n : ℕ) (ts : List Signed) (o : Out Signed Operand) → dispatch (level_pick (within e) (has_node e) (suc e) n) ts ≡ o → dispatch ((within (suc e)).level n) ts ≡ o
unfolding within
level_is e n ts o h = h

pub level_was : (e n : ℕ) (ts : List Signed) (o : Out Signed Operand) → dispatch ((within (suc e)).level n) ts ≡ o → dispatch (level_pick (within e) (has_node e) (suc e) n) ts ≡ o
unfolding within
level_was e n ts o h = h

call_is : (e : ℕ) (t : Signed) (ts : List Signed) (o : Out Signed Operand) → call_rest (within e) (has_node e) t ts ≡ o → (within (suc e)).call t ts ≡ o
unfolding within
call_is e t ts o h = h

-- ---- Values of one token.

value_read : (t : Signed) (rest : List Signed) (s : Sign) (x : Operand) → x.height ≡ 1 → t.sign ≡ s → is_prefix s ≡ false → (s ≡ sign.Name → ⊥) → (s ≡ sign.Star → ⊥) →
    ((low : Below) (fits : Bool) → picked (primary_pick low fits t s) t rest ≡ Ok (x, rest)) → Primary (t ∷ rest) x rest
value_read t rest s x one e g name star h =
    let level : (d : ℕ) → x.height ≤ d → Heads (Stops 0) rest → dispatch ((within d).level 0) (t ∷ rest) ≡ Ok (x, rest) =
    from_node (λ d. Heads (Stops 0) rest → dispatch ((within d).level 0) (t ∷ rest) ≡ Ok (x, rest)) x.height (omega (arith, one))
    (λ d l k. level_is d 0 (t ∷ rest) (Ok (x, rest)) (primary_on (within d) (has_node d) (lows d) (level_at_passes d) (suc d) t rest s (Ok (x, rest)) e (h (within d) (has_node d)))) in
    record {
      some = omega (arith, one);
      level = level;
      unary = λ d l k. post_on (within d) (has_node d) (lows d) (level_at_passes d) (suc d) t rest s x rest e g (h (within d) (has_node d));
      place = λ d l k. place_value_on (within d) (has_node d) (lows d) (level_at_passes d) (suc d) (node_fits d (omega (arith, one, l))) t rest s e name star x rest (level d l (bracket_heads rest k));
    }
  where
    bracket_heads : (r : List Signed) → Heads (Is sign.OpenBracket) r → Heads (Stops 0) r
    bracket_heads [] k = k
    bracket_heads (u ∷ us) k = stops_at sign.OpenBracket 0 u (omega arith) k

pub number_read : (t : Signed) (rest : List Signed) → t.sign ≡ sign.Number → Primary (t ∷ rest) (Operands.number t) rest
number_read t rest e = value_read t rest sign.Number (Operands.number t) refl e refl (λ k. absurd cc) (λ k. absurd cc) (λ low fits. refl)

pub character_read : (t : Signed) (rest : List Signed) → t.sign ≡ sign.Char → Primary (t ∷ rest) (Operands.character t) rest
character_read t rest e = value_read t rest sign.Char (Operands.character t) refl e refl (λ k. absurd cc) (λ k. absurd cc) (λ low fits. refl)

pub text_read : (t : Signed) (rest : List Signed) → t.sign ≡ sign.Text → Primary (t ∷ rest) (Operands.text t) rest
text_read t rest e = value_read t rest sign.Text (Operands.text t) refl e refl (λ k. absurd cc) (λ k. absurd cc) (λ low fits. refl)

-- ---- Names.

no_call : (r : List Signed) → Heads (Stops 0) r → Heads (λ u. is_sign sign.OpenParen u ≡ false) r
no_call [] h = h
no_call (u ∷ us) h = other_rank sign.OpenParen 0 u refl h

name_placed : (d : ℕ) (t : Signed) (r : List Signed) → t.sign ≡ sign.Name → 1 ≤ d → Heads (Is sign.OpenBracket) r → dispatch (place_pick (within d) (has_node d) (suc d)) (t ∷ r) ≡ place_rest (within d) (has_node d) (suc d) (Operands.name t) r
name_placed d t [] e l h = absurd h
name_placed d t (o ∷ us) e l h =
    place_name_on (within d) (has_node d) (lows d) (level_at_passes d) (suc d) t (o ∷ us) (place_rest (within d) (has_node d) (suc d) (Operands.name t) (o ∷ us)) e
    (name_index_on (within d) (has_node d) (lows d) (level_at_passes d) (suc d) (node_fits d l) t o us h)

pub name_read : (t : Signed) (rest : List Signed) → t.sign ≡ sign.Name → Primary (t ∷ rest) (Operands.name t) rest
name_read t rest e = record {
  some = omega arith;
  level = from_node (λ d. Heads (Stops 0) rest → dispatch ((within d).level 0) (t ∷ rest) ≡ Ok (Operands.name t, rest)) 1 (omega arith)
      (λ d l k. level_is d 0 (t ∷ rest) (Ok (Operands.name t, rest)) (primary_on (within d) (has_node d) (lows d) (level_at_passes d) (suc d) t rest sign.Name (Ok (Operands.name t, rest)) e
      (name_on (within d) (has_node d) (lows d) (level_at_passes d) (suc d) t rest (no_call rest k))));
  unary = λ d l k. post_on (within d) (has_node d) (lows d) (level_at_passes d) (suc d) t rest sign.Name (Operands.name t) rest e refl (name_on (within d) (has_node d) (lows d) (level_at_passes d) (suc d) t rest (no_call rest k));
  place = λ d l k. name_placed d t rest e l k;
}

-- ---- Calls.

-- A call whose name and "(" are followed by what is read so.
called_read : (t o : Signed) (us rest : List Signed) (x : Operand) → t.sign ≡ sign.Name → o.sign ≡ sign.OpenParen → 1 ≤ x.height → ((d : ℕ) → x.height ≤ suc d → call_rest (within d) (has_node d) t us ≡ Ok (x, rest)) → Primary (t ∷ o ∷ us) x rest
called_read t o us rest x e g one h =
    let read : (d : ℕ) → x.height ≤ suc d → picked (primary_pick (within d) (has_node d) t sign.Name) t (o ∷ us) ≡ Ok (x, rest) =
    λ d l. called_on (within d) (has_node d) (lows d) (level_at_passes d) (suc d) t o us g ∙ h d l in
    let call : (d : ℕ) → x.height ≤ d → (within d).call t us ≡ Ok (x, rest) =
    from_node (λ d. (within d).call t us ≡ Ok (x, rest)) x.height one (λ d l. call_is d t us (Ok (x, rest)) (h d l)) in
    record {
      some = one;
      level = from_node (λ d. Heads (Stops 0) rest → dispatch ((within d).level 0) (t ∷ o ∷ us) ≡ Ok (x, rest)) x.height one
          (λ d l k. level_is d 0 (t ∷ o ∷ us) (Ok (x, rest)) (primary_on (within d) (has_node d) (lows d) (level_at_passes d) (suc d) t (o ∷ us) sign.Name (Ok (x, rest)) e (read d l)));
      unary = λ d l k. post_on (within d) (has_node d) (lows d) (level_at_passes d) (suc d) t (o ∷ us) sign.Name x rest e refl (read d l);
      place = λ d l k. place_name_on (within d) (has_node d) (lows d) (level_at_passes d) (suc d) t (o ∷ us) (place_rest (within d) (has_node d) (suc d) x rest) e
          (name_call_on (within d) (has_node d) (lows d) (level_at_passes d) (suc d) (node_fits d (omega (arith, one, l))) t o us x rest g (call d l));
    }

call_empty : (t o c : Signed) (us rest : List Signed) → t.sign ≡ sign.Name → o.sign ≡ sign.OpenParen → us ≡ c ∷ rest → c.sign ≡ sign.CloseParen → Primary (t ∷ o ∷ us) (Operands.call t Operands.no_arguments) rest
call_empty t o c us rest e g s k =
    called_read t o us rest (Operands.call t Operands.no_arguments) e g (omega arith)
    (λ d l. ap (λ z. call_rest (within d) (has_node d) t z) s ∙ call_none_on (within d) (has_node d) (lows d) (level_at_passes d) (suc d) t c rest k)

call_full : (t o c : Signed) (us rest : List Signed) (xs : List Expr) (h : ℕ) → t.sign ≡ sign.Name → o.sign ≡ sign.OpenParen → (l : Listed us xs h (c ∷ rest)) → c.sign ≡ sign.CloseParen → Primary (t ∷ o ∷ us) (Operands.call t l.last) rest
call_full t o c us rest xs h e g l k =
    called_read t o us rest (Operands.call t l.last) e g (omega arith)
    (λ d m.
    let fit : h ≤ d = omega (arith, l.tall, m) in
    let node : has_node d ≡ true = node_fits d (omega (arith, fit, l.some)) in
    let stop : Stops 13 c = stops_at sign.CloseParen 13 c (omega arith) k in
    call_some_on (within d) (has_node d) (lows d) (level_at_passes d) (suc d) node t us l.start l.first l.mid (l.begins d fit stop)
    ∙ arguments_on (within d) (has_node d) (suc d) t c l.first l.mid l.last rest
    (l.goes d fit stop ∙ loop_stops (comma_pick (within d)) (Is sign.CloseParen) (Stops 13) (comma_rounds (within d) (has_node d) (lows d) node) l.last (c ∷ rest) k) k)

pub call_read : (t o c : Signed) (us rest : List Signed) (xs : List Expr) (h : ℕ) → t.sign ≡ sign.Name → o.sign ≡ sign.OpenParen → Given us xs h (c ∷ rest) → c.sign ≡ sign.CloseParen → Alone (t ∷ o ∷ us) (expr t.line (kind.Call t.text xs)) (suc h) rest
call_read t o c us rest [] h e g l k = record { operand = Operands.call t Operands.no_arguments; shows = refl; tall = ap suc (sym l.1); primary = call_empty t o c us rest e g l.0 k }
call_read t o c us rest (x ∷ xs) h e g l k = record {
  operand = Operands.call t l.last;
  shows = ap (λ z. expr t.line (kind.Call t.text z)) l.list;
  tall = ap suc l.tall;
  primary = call_full t o c us rest (x ∷ xs) h e g l k;
}

-- ---- Arguments.

pub first_read : (ts rest : List Signed) (a : Expr) (h : ℕ) → 1 ≤ h → Starts ts → Reads 12 ts a h rest → Listed ts (a ∷ []) h rest
first_read ts rest a h one st r = record {
  first = r.operand;
  mid = rest;
  last = Operands.first_argument r.operand;
  list = ap (λ z. z ∷ []) r.shows;
  tall = r.tall;
  some = one;
  start = st;
  begins = λ e l s. r.reads e l s;
  goes = λ e l s. refl;
}

pub next_read : (c : Signed) (ts us rest : List Signed) (xs : List Expr) (a : Expr) (h k : ℕ) → 1 ≤ k → Listed ts xs h (c ∷ us) → c.sign ≡ sign.Comma → Reads 12 us a k rest → Listed ts (xs ++ a ∷ []) (max h k) rest
next_read c ts us rest xs a h k one l e r = record {
  first = l.first;
  mid = l.mid;
  last = Operands.next_argument l.last r.operand;
  list = ap (λ z. z ++ expr_of r.operand ∷ []) l.list ∙ ap (λ z. xs ++ z ∷ []) r.shows;
  tall = ap (λ z. max z r.operand.height) l.tall ∙ ap (λ z. max h z) r.tall;
  some = omega (arith, one);
  start = l.start;
  begins = λ d m s. l.begins d (omega (arith, m)) (stops_at sign.Comma 13 c (omega arith) e);
  goes = λ d m s.
      let node : has_node d ≡ true = node_fits d (omega (arith, m, one)) in
      l.goes d (omega (arith, m)) (stops_at sign.Comma 13 c (omega arith) e)
      ∙ loop_takes (comma_pick (within d)) (shorter (comma_pick (within d)) (Is sign.CloseParen) (Stops 13) (comma_rounds (within d) (has_node d) (lows d) node)) l.last c us (next_rest (within d) l.last)
      (Ok (Operands.next_argument l.last r.operand, rest)) (rw (is_true sign.Comma c e) refl)
      (next_on (within d) (has_node d) (suc d) l.last us r.operand rest (r.reads d (omega (arith, m)) s));
}

-- ---- Parentheses.

pub parens_read : (t c : Signed) (ts rest : List Signed) (a : Expr) (h : ℕ) → 1 ≤ h → t.sign ≡ sign.OpenParen → Starts ts → Reads 12 ts a h (c ∷ rest) → c.sign ≡ sign.CloseParen → Alone (t ∷ ts) (expr t.line (kind.Paren a)) (suc h) rest
parens_read t c ts rest a h one e s r g =
    let x : Operand = Operands.paren t r.operand in
    let stop : Stops 13 c = stops_at sign.CloseParen 13 c (omega arith) g in
    let level : (d : ℕ) → x.height ≤ d → Heads (Stops 0) rest → dispatch ((within d).level 0) (t ∷ ts) ≡ Ok (x, rest) =
    from_node (λ d. Heads (Stops 0) rest → dispatch ((within d).level 0) (t ∷ ts) ≡ Ok (x, rest)) x.height (omega arith)
    (λ d l k.
    let fit : h ≤ d = omega (arith, r.tall, l) in
    level_is d 0 (t ∷ ts) (Ok (x, rest)) (paren_read (within d) (has_node d) (lows d) (level_at_passes d) (suc d) (node_fits d (omega (arith, one, fit))) t c ts r.operand rest e (r.reads d fit stop) g)) in
    record {
      operand = x;
      shows = ap (λ z. expr t.line (kind.Paren z)) r.shows;
      tall = ap suc r.tall;
      primary = record {
        some = omega arith;
        level = level;
        unary = λ d l k.
            let fit : h ≤ d = omega (arith, r.tall, l) in
            group_read (within d) (has_node d) (lows d) (level_at_passes d) (suc d) (node_fits d (omega (arith, one, fit))) t ts _ e
            (group_expr_on (within d) (has_node d) (lows d) (level_at_passes d) (suc d) t c ts s r.operand rest (r.reads d fit stop) g);
        place = λ d l k. place_value_on (within d) (has_node d) (lows d) (level_at_passes d) (suc d) (node_fits d (omega (arith, l))) t ts sign.OpenParen e (λ z. absurd cc) (λ z. absurd cc) x rest (level d l (bracket_stops rest k));
      };
    }
  where
    bracket_stops : (z : List Signed) → Heads (Is sign.OpenBracket) z → Heads (Stops 0) z
    bracket_stops [] k = k
    bracket_stops (u ∷ us) k = stops_at sign.OpenBracket 0 u (omega arith) k

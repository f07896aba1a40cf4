-- The expressions in statements.
use Rattle.std.proofs.Common.{◌≡◌, ℕ, suc, List, sym, ap, ◌∙◌, subst, arith}
use Rattle.std.specs.Prelude.{Ok, Some}
use Rattle.nx_grammar.specs.Reading.{Reading, Pass, Take, dispatch, bind, seq, done, then_pick}
use Rattle.nx_grammar.specs.Lawful.{Any, Lives, Opens, Law}
use Rattle.nx_grammar.proofs.Results.{bound, ok_same}
use Rattle.nx_grammar.proofs.Sequences.{law_seq, law_done}
use Rattle.nx_grammar.proofs.Thens.{then_passes, then_takes}
use Rattle.nx_ctree.specs.declared.sign.Sign.TheVariants as sign
use Rattle.nx_ctree.specs.declared.sign.Sign.{Sign}
use Rattle.nx_ctree.specs.declared.sign.Signed.{Signed}
use Rattle.nx_ctree.specs.declared.expression.Expr.{Expr}
use Rattle.nx_ctree.specs.Expressions.{whole}
use Rattle.nx_ctree.specs.Statements.{IsPart}
use Rattle.nx_cexpr.specs.Reading.{expr_pick, expr_at}
use Rattle.nx_cexpr.specs.Signs.{Stops}
use Rattle.nx_cexpr.proofs.SignLaws.{stops_at}
use Rattle.nx_cexpr.proofs.Laws.{expr_passes, expr_takes, expr_law}
use Rattle.nx_cexpr.proofs.Sound.{expr_sound}
use Rattle.nx_cstmt.specs.Reading.{part_pick, sign_at, ended_rest}
use Rattle.nx_cstmt.proofs.Signs.{Is}
use Rattle.nx_cstmt.proofs.PartLaws.{PartLives}
use Rattle.nx_cstmt.proofs.Lists.{then_on}

-- Expressions are read as expressions with their heights are.
pub part_on : (d : ℕ) (ts : List Signed) → dispatch (part_pick d) ts ≡ bind (expr_at d ts) (λ x. done x.expr)
part_on d ts = then_on (expr_pick d) (λ x. done x.expr) (expr_passes d) ts

pub part_passes : (d : ℕ) (t : Signed) (a : Expr) → part_pick d t ≡ Pass a → ⊥
part_passes d t a e = then_passes (expr_pick d t) (λ x. done x.expr) a e

-- What begins expressions and more after them is one reading after another.
pub part_then : {B : Type 0} (d : ℕ) (next : Expr → Reading Signed B) (ts : List Signed) → dispatch (λ t. then_pick (part_pick d t) next) ts ≡ bind (dispatch (part_pick d) ts) next
part_then d next ts = then_on (part_pick d) next (part_passes d) ts

part_takes : (d : ℕ) (t : Signed) (q : Reading Signed Expr) → part_pick d t ≡ Take q → Lives q (Stops whole) Any
part_takes d t q e = then_takes (expr_pick d t) (λ x. done x.expr) (Stops whole) (Stops whole) (Stops whole) (expr_takes d t) (λ x. law_done x.expr (Stops whole)) (λ u i. i) q e

-- Where a node is left, an expression can be read.
whole_law : (d : ℕ) → Law (seq (expr_at (suc d)) (λ x. done x.expr)) (Stops whole) (Is sign.Number)
whole_law d = law_seq (expr_at (suc d)) (λ x. done x.expr) (Stops whole) (Is sign.Number) (Stops whole) (Stops whole) (expr_law d) (λ x. law_done x.expr (Stops whole)) (λ u i. i)

part_opens : (d : ℕ) → Opens (dispatch (part_pick (suc d))) (Stops whole) (Is sign.Number)
part_opens d =
    let o = (whole_law d).opens in
    record { value = o.value; words = o.words; ends = λ r h. part_on (suc d) (o.words r) ∙ o.ends r h; first = o.first }

-- How expressions are read is lawful.
pub part_lives : PartLives part_pick (Stops whole)
part_lives = record {
  takes = part_takes;
  passes = part_passes;
  opens = part_opens;
  semicolon = λ t e. stops_at sign.Semicolon whole t (omega arith) e;
  comma = λ t e. stops_at sign.Comma whole t (omega arith) e;
  close = λ t e. stops_at sign.CloseParen whole t (omega arith) e;
}

-- What is read is an expression of at most so many nodes.
pub part_sound : (d : ℕ) (ts : List Signed) (a : Expr) (rest : List Signed) → dispatch (part_pick d) ts ≡ Ok (a, rest) → IsPart d ts a rest
part_sound d ts a rest h =
    let x = bound (expr_at d ts) (λ x. done x.expr) (a, rest) (sym (part_on d ts) ∙ h) in
    let o = ok_same x.0.expr a x.1 rest x.3 in
    let f = expr_sound d ts x.0 x.1 x.2 in
    subst (λ r. IsPart d ts a r) o.1 (subst (λ y. IsPart d ts y x.1) o.0 (record { height = x.0.height; has = f.has; within = f.within }))

-- An expression and the sign that ends it.
pub given_on : (d : ℕ) (s : Sign) (ts us vs : List Signed) (a : Expr) (t : Signed) → dispatch (part_pick d) ts ≡ Ok (a, us) → sign_at s us ≡ Ok (t, vs) →
    dispatch (λ u. then_pick (part_pick d u) (ended_rest s)) ts ≡ Ok (Some a, vs)
unfolding ended_rest
given_on d s ts us vs a t h k =
    part_then d (ended_rest s) ts ∙ ap (λ o. bind o (ended_rest s)) h ∙ ap (λ o. bind o (λ c. done (Some a))) k

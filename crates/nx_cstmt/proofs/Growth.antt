-- Statements within a limit against statements within a wider one.
use Rattle.std.proofs.Common.{ℕ, zero, suc, ◌+◌, ◌≤◌, Bool, true, false, refl, arith}
use Rattle.std.specs.Prelude.{Option, Some, None, if◌then◌else◌}
use Rattle.nx_grammar.specs.Reading.{Reading, Pick, Pass, Take, dispatch, seq, done, then_pick}
use Rattle.nx_grammar.specs.Lawful.{Any}
use Rattle.nx_grammar.specs.Growing.{Shortens, Wider, PickGrown}
use Rattle.nx_grammar.proofs.Growth.{grows_dispatch, wider_seq, wider_done, shortens}
use Rattle.nx_grammar.proofs.Choices.{law_dispatch}
use Rattle.nx_grammar.proofs.Thens.{then_grown}
use Rattle.nx_ctree.specs.declared.sign.Sign.{Sign}
use Rattle.nx_ctree.specs.declared.sign.Sign.TheVariants as sign
use Rattle.nx_ctree.specs.declared.sign.Signed.{Signed}
use Rattle.nx_ctree.specs.declared.expression.Expr.{Expr}
use Rattle.nx_ctree.specs.declared.statement.Stmt.{Stmt}
use Rattle.nx_ctree.specs.declared.statement.StmtKind.{StmtKind}
use Rattle.nx_ctree.specs.declared.statement.StmtKind.TheVariants as kind
use Rattle.nx_ctree.specs.Statements.{stmt}
use Rattle.nx_cexpr.specs.Signs.{is_sign}
use Rattle.nx_cexpr.specs.Reading.{has_node}
use Rattle.nx_cstmt.specs.Reading.{sign_at, test_at, ended_rest, ended_pick, expression_rest, else_pick, if_rest, while_rest, do_rest, for_rest, jump_rest, return_rest, stmts_at, block_rest, begun, barred, stmt_pick}
use Rattle.nx_cstmt.proofs.Signs.{Is, sign_wider}
use Rattle.nx_cstmt.proofs.PartLaws.{Parts}
use Rattle.nx_cstmt.proofs.Lists.{Ones, list_wider}
use Rattle.nx_cstmt.proofs.Laws.{NotElse, BodyLaw, TestLaw, Begins, ended_law, else_law, if_law, while_law, do_law, for_law, return_law, stmts_rounds, block_law, begins, tests, ones, stmt_law}

pub test_wider : (p q : Reading Signed Expr) → Wider p q → Wider (test_at p) (test_at q)
unfolding test_at
test_wider p q w = wider_seq (sign_at sign.OpenParen) (sign_at sign.OpenParen) _ _ (sign_wider sign.OpenParen) (λ o. wider_seq p q _ _ w (λ a. wider_seq (sign_at sign.CloseParen) (sign_at sign.CloseParen) _ _ (sign_wider sign.CloseParen) (λ c. wider_done a)))

ended_rest_wider : (s : Sign) (a : Expr) → Wider (ended_rest s a) (ended_rest s a)
unfolding ended_rest
ended_rest_wider s a = wider_seq (sign_at s) (sign_at s) _ _ (sign_wider s) (λ c. wider_done (Some a))

ended_grown : (b : Bool) (s : Sign) (x y : Pick Signed Expr) → PickGrown x y →
    PickGrown {T = Signed} {A = Option Expr} (if b then Take (done None) else then_pick x (ended_rest s)) (if b then Take (done None) else then_pick y (ended_rest s))
ended_grown true s x y h = (done None, refl, (wider_done None).grows)
ended_grown false s x y h = then_grown (ended_rest s) (ended_rest s) (λ a. (ended_rest_wider s a).short) x y h (λ a. (ended_rest_wider s a).grows)

pub ended_wider : (part two : Signed → Pick Signed Expr) (F : Signed → Type 0) (s : Sign) → ((t : Signed) → Is s t → F t) → Begins two F → ((t : Signed) → PickGrown (part t) (two t)) → Wider (dispatch (ended_pick part s)) (dispatch (ended_pick two s))
ended_wider part two F s fits law h = record {
  grows = grows_dispatch (ended_pick part s) (ended_pick two s) (λ t. ended_grown (is_sign s t) s (part t) (two t) (h t));
  short = shortens (dispatch (ended_pick two s)) Any (Is s) (ended_law two F s fits law);
}

expression_wider : (a : Expr) → Wider (expression_rest a) (expression_rest a)
unfolding expression_rest
expression_wider a = wider_seq (sign_at sign.Semicolon) (sign_at sign.Semicolon) _ _ (sign_wider sign.Semicolon) (λ s. wider_done (record { line = a.line; kind = kind.Expr a }))

expression_grown : (x y : Pick Signed Expr) → PickGrown x y → PickGrown (then_pick x expression_rest) (then_pick y expression_rest)
expression_grown x y h = then_grown expression_rest expression_rest (λ a. (expression_wider a).short) x y h (λ a. (expression_wider a).grows)

while_wider : (p q : Reading Signed Expr) (v w : Reading Signed Stmt) (t : Signed) → Wider p q → Wider v w → Wider (while_rest p v t) (while_rest q w t)
unfolding while_rest
while_wider p q v w t g h = wider_seq p q _ _ g (λ a. wider_seq v w _ _ h (λ x. wider_done (stmt t (kind.While a x))))

do_wider : (p q : Reading Signed Expr) (v w : Reading Signed Stmt) (t : Signed) → Wider p q → Wider v w → Wider (do_rest p v t) (do_rest q w t)
unfolding do_rest
do_wider p q v w t g h =
    wider_seq v w _ _ h (λ x. wider_seq (sign_at sign.While) (sign_at sign.While) _ _ (sign_wider sign.While) (λ r. wider_seq p q _ _ g
    (λ a. wider_seq (sign_at sign.Semicolon) (sign_at sign.Semicolon) _ _ (sign_wider sign.Semicolon) (λ s. wider_done (stmt t (kind.Do x a))))))

for_wider : (part two : Signed → Pick Signed Expr) (v w : Reading Signed Stmt) (t : Signed) → Wider (dispatch (ended_pick part sign.Semicolon)) (dispatch (ended_pick two sign.Semicolon)) →
    Wider (dispatch (ended_pick part sign.CloseParen)) (dispatch (ended_pick two sign.CloseParen)) → Wider v w → Wider (for_rest part v t) (for_rest two w t)
unfolding for_rest
for_wider part two v w t g k h =
    wider_seq (sign_at sign.OpenParen) (sign_at sign.OpenParen) _ _ (sign_wider sign.OpenParen)
    (λ o. wider_seq (dispatch (ended_pick part sign.Semicolon)) (dispatch (ended_pick two sign.Semicolon)) _ _ g
    (λ a. wider_seq (dispatch (ended_pick part sign.Semicolon)) (dispatch (ended_pick two sign.Semicolon)) _ _ g
    (λ b. wider_seq (dispatch (ended_pick part sign.CloseParen)) (dispatch (ended_pick two sign.CloseParen)) _ _ k
    (λ e. wider_seq v w _ _ h (λ x. wider_done (stmt t (kind.For a b e x)))))))

jump_wider : (t : Signed) (k : StmtKind) → Wider (jump_rest t k) (jump_rest t k)
unfolding jump_rest
jump_wider t k = wider_seq (sign_at sign.Semicolon) (sign_at sign.Semicolon) _ _ (sign_wider sign.Semicolon) (λ s. wider_done (stmt t k))

return_wider : (part two : Signed → Pick Signed Expr) (t : Signed) → Wider (dispatch (ended_pick part sign.Semicolon)) (dispatch (ended_pick two sign.Semicolon)) → Wider (return_rest part t) (return_rest two t)
unfolding return_rest
return_wider part two t g = wider_seq (dispatch (ended_pick part sign.Semicolon)) (dispatch (ended_pick two sign.Semicolon)) _ _ g (λ a. wider_done (stmt t (kind.Return a)))

else_grown : (b : Bool) (p q : Reading Signed Stmt) (t : Signed) (a : Expr) (x : Stmt) → Wider p q →
    PickGrown {T = Signed} {A = Stmt} (if b then Take (seq p (λ y. done (stmt t (kind.IfElse a x y)))) else Pass (stmt t (kind.If a x))) (if b then Take (seq q (λ y. done (stmt t (kind.IfElse a x y)))) else Pass (stmt t (kind.If a x)))
else_grown true p q t a x w = (seq q (λ y. done (stmt t (kind.IfElse a x y))), refl, (wider_seq p q _ _ w (λ y. wider_done (stmt t (kind.IfElse a x y)))).grows)
else_grown false p q t a x w = refl

if_wider : (p q : Reading Signed Expr) (v w : Reading Signed Stmt) (t : Signed) → Wider p q → Wider v w → BodyLaw w → Wider (if_rest p v t) (if_rest q w t)
unfolding if_rest
if_wider p q v w t g h law = wider_seq p q _ _ g (λ a. wider_seq v w _ _ h (λ x. record {
  grows = grows_dispatch (else_pick v t a x) (else_pick w t a x) (λ u. else_grown (is_sign sign.Else u) v w t a x h);
  short = shortens (dispatch (else_pick w t a x)) NotElse NotElse (else_law w t a x law);
}))

-- Statements up to a closing brace.
pub stmts_wider : (one two : Signed → Pick Signed Stmt) → Ones one NotElse → Ones two NotElse → ((t : Signed) → PickGrown (one t) (two t)) → Wider (stmts_at one) (stmts_at two)
stmts_wider one two law more h = list_wider (is_sign sign.CloseBrace) one two (Is sign.CloseBrace) NotElse (stmts_rounds one law) (stmts_rounds two more) h

block_wider : (one two : Signed → Pick Signed Stmt) (t : Signed) → Ones one NotElse → Ones two NotElse → ((u : Signed) → PickGrown (one u) (two u)) → Wider (block_rest one t) (block_rest two t)
unfolding block_rest
block_wider one two t law more h = wider_seq (stmts_at one) (stmts_at two) _ _ (stmts_wider one two law more h)
    (λ xs. wider_seq (sign_at sign.CloseBrace) (sign_at sign.CloseBrace) _ _ (sign_wider sign.CloseBrace) (λ c. wider_done (stmt t (kind.Block xs))))

-- ---- Statements.

-- What stands below a statement in the wider reading.
record Wide (two : Signed → Pick Signed Expr) (wide : Bool → Signed → Pick Signed Stmt) (F : Signed → Type 0) : Type 0 where
  semicolon : (t : Signed) → Is sign.Semicolon t → F t
  close : (t : Signed) → Is sign.CloseParen t → F t
  begins2 : Begins two F
  whole : Shortens (dispatch two)
  test : TestLaw (test_at (dispatch two))
  ones2 : (b : Bool) → Ones (wide b) NotElse
  law : (b : Bool) → BodyLaw (dispatch (wide b))

-- And in the other one.
record Below (rec wide : Bool → Signed → Pick Signed Stmt) : Type 0 where
  grown : (b : Bool) (t : Signed) → PickGrown (rec b t) (wide b t)
  ones1 : (b : Bool) → Ones (rec b) NotElse

module _ (part two : Signed → Pick Signed Expr) (wide : Bool → Signed → Pick Signed Stmt) (F : Signed → Type 0) (parts : (t : Signed) → PickGrown (part t) (two t)) (h : Wide two wide F) where
  tested : Wider (test_at (dispatch part)) (test_at (dispatch two))
  tested = test_wider (dispatch part) (dispatch two) (record { grows = grows_dispatch part two parts; short = h.whole })

  body : (rec : Bool → Signed → Pick Signed Stmt) → Below rec wide → (b : Bool) → Wider (dispatch (rec b)) (dispatch (wide b))
  body rec g b = record { grows = grows_dispatch (rec b) (wide b) (g.grown b); short = shortens (dispatch (wide b)) NotElse (Is sign.Semicolon) (h.law b) }

  ended : (s : Sign) → ((t : Signed) → Is s t → F t) → Wider (dispatch (ended_pick part s)) (dispatch (ended_pick two s))
  ended s fits = ended_wider part two F s fits h.begins2 parts

  begun_grown : (rec : Bool → Signed → Pick Signed Stmt) → Below rec wide → (fits in_loop : Bool) (t : Signed) (m : Sign) → PickGrown (begun part rec fits in_loop t m) (begun two wide true in_loop t m)
  begun_grown rec g fits in_loop t sign.Semicolon = (done (stmt t kind.Empty), refl, (wider_done (stmt t kind.Empty)).grows)
  begun_grown rec g fits in_loop t sign.OpenBrace = (block_rest (wide in_loop) t, refl, (block_wider (rec in_loop) (wide in_loop) t (g.ones1 in_loop) (h.ones2 in_loop) (g.grown in_loop)).grows)
  begun_grown rec g true in_loop t sign.If = (if_rest (test_at (dispatch two)) (dispatch (wide in_loop)) t, refl, (if_wider _ _ _ _ t tested (body rec g in_loop) (h.law in_loop)).grows)
  begun_grown rec g false in_loop t sign.If = (if_rest (test_at (dispatch two)) (dispatch (wide in_loop)) t, refl, shortens _ NotElse (Is sign.OpenParen) (if_law _ _ t h.test (h.law in_loop)))
  begun_grown rec g true in_loop t sign.While = (while_rest (test_at (dispatch two)) (dispatch (wide true)) t, refl, (while_wider _ _ _ _ t tested (body rec g true)).grows)
  begun_grown rec g false in_loop t sign.While = (while_rest (test_at (dispatch two)) (dispatch (wide true)) t, refl, shortens _ NotElse (Is sign.OpenParen) (while_law _ _ t h.test (h.law true)))
  begun_grown rec g true in_loop t sign.Do = (do_rest (test_at (dispatch two)) (dispatch (wide true)) t, refl, (do_wider _ _ _ _ t tested (body rec g true)).grows)
  begun_grown rec g false in_loop t sign.Do = (do_rest (test_at (dispatch two)) (dispatch (wide true)) t, refl, shortens _ Any (Is sign.Semicolon) (do_law _ _ t h.test (h.law true)))
  begun_grown rec g true in_loop t sign.For = (for_rest two (dispatch (wide true)) t, refl, (for_wider part two _ _ t (ended sign.Semicolon h.semicolon) (ended sign.CloseParen h.close) (body rec g true)).grows)
  begun_grown rec g false in_loop t sign.For = (for_rest two (dispatch (wide true)) t, refl, shortens _ NotElse (Is sign.OpenParen) (for_law two F _ t h.semicolon h.close h.begins2 (h.law true)))
  begun_grown rec g fits true t sign.Break = (jump_rest t kind.Break, refl, (jump_wider t kind.Break).grows)
  begun_grown rec g fits false t sign.Break = refl
  begun_grown rec g fits true t sign.Continue = (jump_rest t kind.Continue, refl, (jump_wider t kind.Continue).grows)
  begun_grown rec g fits false t sign.Continue = refl
  begun_grown rec g fits in_loop t sign.Return = (return_rest two t, refl, (return_wider part two t (ended sign.Semicolon h.semicolon)).grows)
  begun_grown rec g fits in_loop t m = expression_grown (part t) (two t) (parts t)

  -- A token that no node is left for, where there are nodes left.
  barred_grown : (in_loop : Bool) (t : Signed) (m : Sign) → PickGrown (barred part in_loop t m) (begun two wide true in_loop t m)
  barred_grown in_loop t sign.Semicolon = (done (stmt t kind.Empty), refl, (wider_done (stmt t kind.Empty)).short)
  barred_grown in_loop t sign.OpenBrace = (block_rest (wide in_loop) t, refl, shortens (block_rest (wide in_loop) t) Any (Is sign.CloseBrace) (block_law (wide in_loop) t (h.ones2 in_loop)))
  barred_grown in_loop t sign.If = (if_rest (test_at (dispatch two)) (dispatch (wide in_loop)) t, refl, shortens _ NotElse (Is sign.OpenParen) (if_law _ _ t h.test (h.law in_loop)))
  barred_grown in_loop t sign.While = (while_rest (test_at (dispatch two)) (dispatch (wide true)) t, refl, shortens _ NotElse (Is sign.OpenParen) (while_law _ _ t h.test (h.law true)))
  barred_grown in_loop t sign.Do = (do_rest (test_at (dispatch two)) (dispatch (wide true)) t, refl, shortens _ Any (Is sign.Semicolon) (do_law _ _ t h.test (h.law true)))
  barred_grown in_loop t sign.For = (for_rest two (dispatch (wide true)) t, refl, shortens _ NotElse (Is sign.OpenParen) (for_law two F _ t h.semicolon h.close h.begins2 (h.law true)))
  barred_grown true t sign.Break = (jump_rest t kind.Break, refl, (jump_wider t kind.Break).short)
  barred_grown false t sign.Break = refl
  barred_grown true t sign.Continue = (jump_rest t kind.Continue, refl, (jump_wider t kind.Continue).short)
  barred_grown false t sign.Continue = refl
  barred_grown in_loop t sign.Return = (return_rest two t, refl, shortens _ Any (Is sign.Semicolon) (return_law two F t h.semicolon h.begins2))
  barred_grown in_loop t m = expression_grown (part t) (two t) (parts t)

module _ (part : ℕ → Signed → Pick Signed Expr) (F : Signed → Type 0) (margin : ℕ) (law : Parts part F margin) where
  whole_short : (e : ℕ) → Shortens (dispatch (part (suc e)))
  whole_short e = shortens (dispatch (part (suc e))) F (Is sign.Number)
      (law_dispatch (part (suc e)) F (Is sign.Number) (record { takes = law.lives.takes (suc e); passes = λ t a x. absurd (law.lives.passes (suc e) t a x) }) (law.lives.opens e))

  wide_at : (e : ℕ) → Wide (part (suc e)) (stmt_pick part (suc e)) F
  wide_at e = record {
    semicolon = law.lives.semicolon;
    close = law.lives.close;
    begins2 = begins part F law.lives (suc e);
    whole = whole_short e;
    test = tests part F law.lives (suc e) refl;
    ones2 = λ c. ones part F law.lives (suc e) c;
    law = λ c. stmt_law part F law.lives (suc e) c refl;
  }

  -- A statement within a limit that is wider by the expressions' margin and two.
  pub stmt_grown : (d e : ℕ) → d + margin + 2 ≤ e → (b : Bool) (t : Signed) → PickGrown (stmt_pick part d b t) (stmt_pick part e b t)
  unfolding stmt_pick
  stmt_grown zero zero h b t = absurd (omega arith)
  stmt_grown zero (suc zero) h b t = absurd (omega arith)
  stmt_grown zero (suc (suc e)) h b t = barred_grown (part zero) (part (suc e)) (stmt_pick part (suc e)) F (λ u. law.grown zero (suc e) (omega arith) u) (wide_at e) b t t.sign
  stmt_grown (suc d) zero h b t = absurd (omega arith)
  stmt_grown (suc d) (suc zero) h b t = absurd (omega arith)
  stmt_grown (suc d) (suc (suc e)) h b t =
      begun_grown (part d) (part (suc e)) (stmt_pick part (suc e)) F (λ u. law.grown d (suc e) (omega arith) u) (wide_at e)
      (stmt_pick part d) (record { grown = λ c u. stmt_grown d (suc e) (omega arith) c u; ones1 = λ c. ones part F law.lives d c })
      (has_node d) b t t.sign

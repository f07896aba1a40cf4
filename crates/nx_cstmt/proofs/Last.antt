-- No statement takes the last token, so each fault has a token.
use Rattle.std.proofs.Common.{◌≡◌, ℕ, zero, suc, Bool, true, false, refl, sym, ◌∙◌, subst}
use Rattle.std.specs.Prelude.{Option, Some, None, if◌then◌else◌}
use denote.Enum.Bare.{sameb}
use Rattle.nx_ctree.specs.contracts.sign.Sign.{the_type}
use Rattle.nx_grammar.specs.declared.kind.Kind.{Kind}
use Rattle.nx_grammar.specs.declared.kind.Kind.TheVariants.{Syntax, Limit}
use Rattle.nx_grammar.specs.Reading.{Reading, Pick, Refuse, Pass, Take, dispatch, seq, done, then_pick}
use Rattle.nx_grammar.specs.Sparing.{Spares, SparesPick}
use Rattle.nx_grammar.proofs.Spares.{spares_seq, spares_done, spares_dispatch}
use Rattle.nx_ctree.specs.declared.sign.Sign.{Sign}
use Rattle.nx_ctree.specs.declared.sign.Sign.TheVariants as sign
use Rattle.nx_ctree.specs.declared.sign.Signed.{Signed}
use Rattle.nx_ctree.specs.declared.expression.Expr.{Expr}
use Rattle.nx_ctree.specs.declared.statement.Stmt.{Stmt}
use Rattle.nx_ctree.specs.declared.statement.StmtKind.{StmtKind}
use Rattle.nx_ctree.specs.declared.statement.StmtKind.TheVariants as kind
use Rattle.nx_ctree.specs.Statements.{stmt}
use Rattle.nx_cexpr.specs.Signs.{is_sign}
use Rattle.nx_cexpr.specs.Reading.{has_node}
use Rattle.nx_cstmt.specs.Reading.{sign_at, test_at, ended_rest, ended_pick, expression_rest, else_pick, if_rest, while_rest, do_rest, for_rest, jump_rest, return_rest, stmts_at, block_rest, begun, barred, stmt_pick}
use Rattle.nx_cstmt.proofs.Signs.{Is, sign_is, sign_spares}
use Rattle.nx_cstmt.proofs.PartLaws.{Parts}
use Rattle.nx_cstmt.proofs.Lists.{then_spares, list_spares}
use Rattle.nx_cstmt.proofs.Laws.{NotElse, stmts_rounds, ones}

-- The token that ends a file.
abbrev E : Signed → Type 0
E = Is sign.End

-- What a token that is no end leaves to be read.
pub took_sign : {A : Type 0} (m : Sign) (t : Signed) (p q : Reading Signed A) → t.sign ≡ m → (m ≡ sign.End → ⊥) → Spares (Is sign.End) p → (let x : Pick Signed A = Take p in x) ≡ Take q → (Is sign.End t → ⊥) × Spares (Is sign.End) q
took_sign m t p q e ne s h = (λ x. ne (sym e ∙ x), subst (λ z. Spares (Is sign.End) z) (let y : p ≡ q = cc in y) s)

test_last : (part : Reading Signed Expr) → Spares E part → Spares E (test_at part)
unfolding test_at
test_last part s = spares_seq E (sign_at sign.OpenParen) _ (sign_spares sign.OpenParen (λ e. cc)) (λ o. spares_seq E part _ s (λ a. spares_seq E (sign_at sign.CloseParen) _ (sign_spares sign.CloseParen (λ e. cc)) (λ c. spares_done E a)))

ended_rest_last : (s : Sign) → (s ≡ sign.End → ⊥) → (a : Expr) → Spares E (ended_rest s a)
unfolding ended_rest
ended_rest_last s ne a = spares_seq E (sign_at s) _ (sign_spares s ne) (λ c. spares_done E (Some a))

ended_case : (b : Bool) (part : Signed → Pick Signed Expr) (s : Sign) (t : Signed) → (s ≡ sign.End → ⊥) → SparesPick E t (part t) → sameb the_type t.sign s ≡ b →
    SparesPick {A = Option Expr} E t (if b then Take (done None) else then_pick (part t) (ended_rest s))
ended_case true part s t ne law e = record { takes = λ q h. took_sign s t (done None) q (sign_is t.sign s e) ne (spares_done E None) h }
ended_case false part s t ne law e = then_spares E t (part t) (ended_rest s) law (ended_rest_last s ne)

ended_last : (part : Signed → Pick Signed Expr) (s : Sign) → (s ≡ sign.End → ⊥) → ((t : Signed) → SparesPick E t (part t)) → Spares E (dispatch (ended_pick part s))
ended_last part s ne law = spares_dispatch E (ended_pick part s) (λ t. ended_case (is_sign s t) part s t ne (law t) refl)

expression_last : (a : Expr) → Spares E (expression_rest a)
unfolding expression_rest
expression_last a = spares_seq E (sign_at sign.Semicolon) _ (sign_spares sign.Semicolon (λ e. cc)) (λ s. spares_done E (record { line = a.line; kind = kind.Expr a }))

while_last : (test : Reading Signed Expr) (body : Reading Signed Stmt) (t : Signed) → Spares E test → Spares E body → Spares E (while_rest test body t)
unfolding while_rest
while_last test body t r s = spares_seq E test _ r (λ a. spares_seq E body _ s (λ x. spares_done E (stmt t (kind.While a x))))

do_last : (test : Reading Signed Expr) (body : Reading Signed Stmt) (t : Signed) → Spares E test → Spares E body → Spares E (do_rest test body t)
unfolding do_rest
do_last test body t r s = spares_seq E body _ s (λ x. spares_seq E (sign_at sign.While) _ (sign_spares sign.While (λ e. cc)) (λ w. spares_seq E test _ r
    (λ a. spares_seq E (sign_at sign.Semicolon) _ (sign_spares sign.Semicolon (λ e. cc)) (λ c. spares_done E (stmt t (kind.Do x a))))))

for_last : (part : Signed → Pick Signed Expr) (body : Reading Signed Stmt) (t : Signed) → ((u : Signed) → SparesPick E u (part u)) → Spares E body → Spares E (for_rest part body t)
unfolding for_rest
for_last part body t r s =
    spares_seq E (sign_at sign.OpenParen) _ (sign_spares sign.OpenParen (λ e. cc))
    (λ o. spares_seq E (dispatch (ended_pick part sign.Semicolon)) _ (ended_last part sign.Semicolon (λ e. cc) r)
    (λ a. spares_seq E (dispatch (ended_pick part sign.Semicolon)) _ (ended_last part sign.Semicolon (λ e. cc) r)
    (λ b. spares_seq E (dispatch (ended_pick part sign.CloseParen)) _ (ended_last part sign.CloseParen (λ e. cc) r)
    (λ c. spares_seq E body _ s (λ x. spares_done E (stmt t (kind.For a b c x)))))))

jump_last : (t : Signed) (k : StmtKind) → Spares E (jump_rest t k)
unfolding jump_rest
jump_last t k = spares_seq E (sign_at sign.Semicolon) _ (sign_spares sign.Semicolon (λ e. cc)) (λ s. spares_done E (stmt t k))

return_last : (part : Signed → Pick Signed Expr) (t : Signed) → ((u : Signed) → SparesPick E u (part u)) → Spares E (return_rest part t)
unfolding return_rest
return_last part t r = spares_seq E (dispatch (ended_pick part sign.Semicolon)) _ (ended_last part sign.Semicolon (λ e. cc) r) (λ a. spares_done E (stmt t (kind.Return a)))

else_case : (b : Bool) (body : Reading Signed Stmt) (t : Signed) (a : Expr) (x : Stmt) (u : Signed) → Spares E body → sameb the_type u.sign sign.Else ≡ b →
    SparesPick {A = Stmt} E u (if b then Take (seq body (λ y. done (stmt t (kind.IfElse a x y)))) else Pass (stmt t (kind.If a x)))
else_case true body t a x u s e = record { takes = λ q h. took_sign sign.Else u (seq body (λ y. done (stmt t (kind.IfElse a x y)))) q (sign_is u.sign sign.Else e) (λ k. cc) (spares_seq E body _ s (λ y. spares_done E (stmt t (kind.IfElse a x y)))) h }
else_case false body t a x u s e = record { takes = λ q h. absurd cc }

if_last : (test : Reading Signed Expr) (body : Reading Signed Stmt) (t : Signed) → Spares E test → Spares E body → Spares E (if_rest test body t)
unfolding if_rest
if_last test body t r s = spares_seq E test _ r (λ a. spares_seq E body _ s (λ x. spares_dispatch E (else_pick body t a x) (λ u. else_case (is_sign sign.Else u) body t a x u s refl)))

took_if : (b : Bool) (k : Kind) (m : Sign) (t : Signed) (p q : Reading Signed Stmt) → t.sign ≡ m → (m ≡ sign.End → ⊥) → Spares E p → (let x : Pick Signed Stmt = if b then Take p else Refuse k in x) ≡ Take q → (E t → ⊥) × Spares E q
took_if true k m t p q e ne s h = took_sign m t p q e ne s h
took_if false k m t p q e ne s h = absurd cc

module _ (part : ℕ → Signed → Pick Signed Expr) (F : Signed → Type 0) (margin : ℕ) (law : Parts part F margin) where
  -- Statements up to a closing brace.
  pub stmts_last : (d : ℕ) (b : Bool) → ((t : Signed) → SparesPick E t (stmt_pick part d b t)) → Spares E (stmts_at (stmt_pick part d b))
  stmts_last d b s = list_spares (is_sign sign.CloseBrace) E (stmt_pick part d b) (Is sign.CloseBrace) NotElse (stmts_rounds (stmt_pick part d b) (ones part F law.lives d b)) s

  block_last : (d : ℕ) (b : Bool) (t : Signed) → ((u : Signed) → SparesPick E u (stmt_pick part d b u)) → Spares E (block_rest (stmt_pick part d b) t)
  unfolding block_rest
  block_last d b t s = spares_seq E (stmts_at (stmt_pick part d b)) _ (stmts_last d b s) (λ xs. spares_seq E (sign_at sign.CloseBrace) _ (sign_spares sign.CloseBrace (λ e. cc)) (λ c. spares_done E (stmt t (kind.Block xs))))

  part_last : (d : ℕ) → Spares E (dispatch (part d))
  part_last d = spares_dispatch E (part d) (law.spares d)

  begun_last : (d : ℕ) → ((b : Bool) (u : Signed) → SparesPick E u (stmt_pick part d b u)) → (fits b : Bool) (t : Signed) (m : Sign) → t.sign ≡ m → (q : Reading Signed Stmt) → begun (part d) (stmt_pick part d) fits b t m ≡ Take q → (E t → ⊥) × Spares E q
  begun_last d s fits b t sign.Semicolon e q h = took_sign sign.Semicolon t (done (stmt t kind.Empty)) q e (λ x. cc) (spares_done E (stmt t kind.Empty)) h
  begun_last d s fits b t sign.OpenBrace e q h = took_sign sign.OpenBrace t (block_rest (stmt_pick part d b) t) q e (λ x. cc) (block_last d b t (s b)) h
  begun_last d s fits b t sign.If e q h = took_if fits Limit sign.If t _ q e (λ x. cc) (if_last _ _ t (test_last (dispatch (part d)) (part_last d)) (spares_dispatch E (stmt_pick part d b) (s b))) h
  begun_last d s fits b t sign.While e q h = took_if fits Limit sign.While t _ q e (λ x. cc) (while_last _ _ t (test_last (dispatch (part d)) (part_last d)) (spares_dispatch E (stmt_pick part d true) (s true))) h
  begun_last d s fits b t sign.Do e q h = took_if fits Limit sign.Do t _ q e (λ x. cc) (do_last _ _ t (test_last (dispatch (part d)) (part_last d)) (spares_dispatch E (stmt_pick part d true) (s true))) h
  begun_last d s fits b t sign.For e q h = took_if fits Limit sign.For t _ q e (λ x. cc) (for_last (part d) _ t (law.spares d) (spares_dispatch E (stmt_pick part d true) (s true))) h
  begun_last d s fits b t sign.Break e q h = took_if b Syntax sign.Break t (jump_rest t kind.Break) q e (λ x. cc) (jump_last t kind.Break) h
  begun_last d s fits b t sign.Continue e q h = took_if b Syntax sign.Continue t (jump_rest t kind.Continue) q e (λ x. cc) (jump_last t kind.Continue) h
  begun_last d s fits b t sign.Return e q h = took_sign sign.Return t (return_rest (part d) t) q e (λ x. cc) (return_last (part d) t (law.spares d)) h
  begun_last d s fits b t m e q h = (then_spares E t (part d t) expression_rest (law.spares d t) expression_last).takes q h

  barred_last : (b : Bool) (t : Signed) (m : Sign) (q : Reading Signed Stmt) → barred (part 0) b t m ≡ Take q → (E t → ⊥) × Spares E q
  barred_last b t sign.Semicolon q h = absurd cc
  barred_last b t sign.OpenBrace q h = absurd cc
  barred_last b t sign.If q h = absurd cc
  barred_last b t sign.While q h = absurd cc
  barred_last b t sign.Do q h = absurd cc
  barred_last b t sign.For q h = absurd cc
  barred_last b t sign.Break q h = absurd cc
  barred_last b t sign.Continue q h = absurd cc
  barred_last b t sign.Return q h = absurd cc
  barred_last b t m q h = (then_spares E t (part 0 t) expression_rest (law.spares 0 t) expression_last).takes q h

  -- No statement takes the end.
  pub stmt_last : (d : ℕ) (b : Bool) (t : Signed) → SparesPick E t (stmt_pick part d b t)
  unfolding stmt_pick
  stmt_last zero b t = record { takes = λ q h. barred_last b t t.sign q h }
  stmt_last (suc d) b t = record { takes = λ q h. begun_last d (stmt_last d) (has_node d) b t t.sign refl q h }

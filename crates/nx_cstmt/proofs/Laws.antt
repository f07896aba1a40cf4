-- The laws of reading statements.
use Rattle.std.proofs.Common.{◌≡◌, ℕ, zero, suc, Bool, true, false, List, [], ◌∷◌, refl, sym, ap, ◌∙◌, subst}
use Rattle.std.specs.Prelude.{Ok, Option, Some, None, if◌then◌else◌}
use Rattle.nx_grammar.specs.declared.kind.Kind.{Kind}
use Rattle.nx_grammar.specs.declared.kind.Kind.TheVariants.{Syntax, Limit}
use Rattle.nx_grammar.specs.Reading.{Reading, Pick, Refuse, Pass, Take, dispatch, seq, done, then_pick}
use Rattle.nx_grammar.specs.Lawful.{Heads, Any, Lives, Opens, Law, Rounds}
use Rattle.nx_grammar.proofs.Sequences.{law_seq, law_done}
use Rattle.nx_grammar.proofs.Choices.{law_dispatch, lives_fit, taken_by}
use Rattle.nx_grammar.proofs.LoopLaws.{law_loop}
use Rattle.nx_grammar.proofs.Thens.{then_takes, then_passes}
use Rattle.nx_ctree.specs.declared.sign.Sign.{Sign}
use Rattle.nx_ctree.specs.declared.sign.Sign.TheVariants as sign
use Rattle.nx_ctree.specs.declared.sign.Signed.{Signed}
use Rattle.nx_ctree.specs.declared.expression.Expr.{Expr}
use Rattle.nx_ctree.specs.declared.statement.Stmt.{Stmt}
use Rattle.nx_ctree.specs.declared.statement.StmtKind.{StmtKind}
use Rattle.nx_ctree.specs.declared.statement.StmtKind.TheVariants as kind
use Rattle.nx_ctree.specs.Statements.{stmt}
use Rattle.nx_cstmt.specs.Lists.{more_pick}
use Rattle.nx_cexpr.specs.Signs.{is_sign}
use Rattle.nx_cexpr.specs.Reading.{has_node}
use Rattle.nx_cstmt.specs.Reading.{sign_at, test_at, ended_rest, ended_pick, expression_rest, else_pick, if_rest, while_rest, do_rest, for_rest, jump_rest, return_rest, stmts_at, block_rest, begun, barred, stmt_pick, stmt_at}
use Rattle.nx_cstmt.proofs.Signs.{Is, bare, signed, not_signed, sign_law}
use Rattle.nx_cstmt.proofs.PartLaws.{PartLives}
use Rattle.nx_cstmt.proofs.Lists.{Ones, more_rounds}

-- A token that isn't "else".
abbrev pub NotElse : Signed → Type 0
NotElse t = t.sign ≡ sign.Else → ⊥

-- The law of what reads a body.
abbrev pub BodyLaw : Reading Signed Stmt → Type 0
BodyLaw body = Law body NotElse (Is sign.Semicolon)

-- The law of what reads an expression in parentheses.
abbrev pub TestLaw : Reading Signed Expr → Type 0
TestLaw test = Law test Any (Is sign.OpenParen)

-- ---- Expressions and what ends them.

-- An expression in parentheses.
pub test_law : (part : Reading Signed Expr) (F : Signed → Type 0) → ((t : Signed) → Is sign.CloseParen t → F t) → Law part F (Is sign.Number) → TestLaw (test_at part)
unfolding test_at
test_law part F close law =
    law_seq (sign_at sign.OpenParen) _ Any (Is sign.OpenParen) Any (Is sign.Number) (sign_law sign.OpenParen)
    (λ o. law_seq part _ F (Is sign.Number) Any (Is sign.CloseParen) law
    (λ a. law_seq (sign_at sign.CloseParen) _ Any (Is sign.CloseParen) Any Any (sign_law sign.CloseParen) (λ c. law_done a Any) (λ t i. tt)) close) (λ t i. tt)

-- The end of an expression.
pub ended_rest_law : (s : Sign) (a : Expr) → Law (ended_rest s a) Any (Is s)
unfolding ended_rest
ended_rest_law s a = law_seq (sign_at s) _ Any (Is s) Any Any (sign_law s) (λ c. law_done {T = Signed} (Some a) Any) (λ t i. tt)

-- What begins an expression is lawful.
pub record Begins (part : Signed → Pick Signed Expr) (F : Signed → Type 0) : Type 0 where
  pub takes : (t : Signed) (read : Reading Signed Expr) → part t ≡ Take read → Lives read F Any
  pub passes : (t : Signed) (a : Expr) → part t ≡ Pass a → ⊥

ended_takes : (part : Signed → Pick Signed Expr) (F : Signed → Type 0) (s : Sign) → ((t : Signed) → Is s t → F t) → Begins part F → (b : Bool) (t : Signed) (q : Reading Signed (Option Expr)) →
    (if b then Take (done None) else then_pick (part t) (ended_rest s)) ≡ Take q → Lives q Any Any
ended_takes part F s fits law true t q e =
    let p : Reading Signed (Option Expr) = done None in
    let same : p ≡ q = cc in
    subst (λ x. Lives x Any Any) same (law_done {T = Signed} {A = Option Expr} None Any).lives
ended_takes part F s fits law false t q e = then_takes (part t) (ended_rest s) F Any (Is s) (law.takes t) (ended_rest_law s) fits q e

ended_passes : (part : Signed → Pick Signed Expr) (s : Sign) (b : Bool) (t : Signed) (a : Option Expr) → (let x : Pick Signed (Option Expr) = if b then Take (done None) else then_pick (part t) (ended_rest s) in x) ≡ Pass a → ⊥
ended_passes part s true t a e = cc
ended_passes part s false t a e = then_passes (part t) (ended_rest s) a e

-- An expression that may be absent.
pub ended_law : (part : Signed → Pick Signed Expr) (F : Signed → Type 0) (s : Sign) → ((t : Signed) → Is s t → F t) → Begins part F → Law (dispatch (ended_pick part s)) Any (Is s)
ended_law part F s fits law = law_dispatch (ended_pick part s) Any (Is s)
    (record {
      takes = λ t q e. ended_takes part F s fits law (is_sign s t) t q e;
      passes = λ t a e. absurd (ended_passes part s (is_sign s t) t a e);
    })
    (record { value = None; words = λ r. bare s ∷ r; ends = λ r h. rw (signed s s refl) refl; first = λ r h. refl })

-- The end of an expression statement.
pub expression_law : (a : Expr) → Law (expression_rest a) Any (Is sign.Semicolon)
unfolding expression_rest
expression_law a = law_seq (sign_at sign.Semicolon) _ Any (Is sign.Semicolon) Any Any (sign_law sign.Semicolon) (λ s. law_done (record { line = a.line; kind = kind.Expr a }) Any) (λ t i. tt)

-- ---- Forms with bodies.

pub while_law : (test : Reading Signed Expr) (body : Reading Signed Stmt) (t : Signed) → TestLaw test → BodyLaw body → Law (while_rest test body t) NotElse (Is sign.OpenParen)
unfolding while_rest
while_law test body t test_law law =
    law_seq test _ Any (Is sign.OpenParen) NotElse (Is sign.Semicolon) test_law
    (λ a. law_seq body _ NotElse (Is sign.Semicolon) NotElse NotElse law (λ x. law_done (stmt t (kind.While a x)) NotElse) (λ u i. i)) (λ u i. tt)

while_else : (t : Signed) → Is sign.While t → NotElse t
while_else t e f = let same : sign.While ≡ sign.Else = sym e ∙ f in cc

pub do_law : (test : Reading Signed Expr) (body : Reading Signed Stmt) (t : Signed) → TestLaw test → BodyLaw body → Law (do_rest test body t) Any (Is sign.Semicolon)
unfolding do_rest
do_law test body t test_law law =
    law_seq body _ NotElse (Is sign.Semicolon) Any (Is sign.While) law
    (λ x. law_seq (sign_at sign.While) _ Any (Is sign.While) Any (Is sign.OpenParen) (sign_law sign.While)
    (λ w. law_seq test _ Any (Is sign.OpenParen) Any (Is sign.Semicolon) test_law
    (λ a. law_seq (sign_at sign.Semicolon) _ Any (Is sign.Semicolon) Any Any (sign_law sign.Semicolon) (λ s. law_done (stmt t (kind.Do x a)) Any) (λ u i. tt)) (λ u i. tt)) (λ u i. tt)) while_else

pub for_law : (part : Signed → Pick Signed Expr) (F : Signed → Type 0) (body : Reading Signed Stmt) (t : Signed) → ((u : Signed) → Is sign.Semicolon u → F u) → ((u : Signed) → Is sign.CloseParen u → F u) → Begins part F → BodyLaw body →
    Law (for_rest part body t) NotElse (Is sign.OpenParen)
unfolding for_rest
for_law part F body t semicolon close begins law =
    let first = ended_law part F sign.Semicolon semicolon begins in
    let last = ended_law part F sign.CloseParen close begins in
    law_seq (sign_at sign.OpenParen) _ Any (Is sign.OpenParen) NotElse (Is sign.Semicolon) (sign_law sign.OpenParen)
    (λ o. law_seq (dispatch (ended_pick part sign.Semicolon)) _ Any (Is sign.Semicolon) NotElse (Is sign.Semicolon) first
    (λ a. law_seq (dispatch (ended_pick part sign.Semicolon)) _ Any (Is sign.Semicolon) NotElse (Is sign.CloseParen) first
    (λ b. law_seq (dispatch (ended_pick part sign.CloseParen)) _ Any (Is sign.CloseParen) NotElse (Is sign.Semicolon) last
    (λ e. law_seq body _ NotElse (Is sign.Semicolon) NotElse NotElse law (λ x. law_done (stmt t (kind.For a b e x)) NotElse) (λ u i. i)) (λ u i. tt)) (λ u i. tt)) (λ u i. tt)) (λ u i. tt)

pub jump_law : (t : Signed) (k : StmtKind) → Law (jump_rest t k) Any (Is sign.Semicolon)
unfolding jump_rest
jump_law t k = law_seq (sign_at sign.Semicolon) _ Any (Is sign.Semicolon) Any Any (sign_law sign.Semicolon) (λ s. law_done (stmt t k) Any) (λ u i. tt)

pub return_law : (part : Signed → Pick Signed Expr) (F : Signed → Type 0) (t : Signed) → ((u : Signed) → Is sign.Semicolon u → F u) → Begins part F → Law (return_rest part t) Any (Is sign.Semicolon)
unfolding return_rest
return_law part F t semicolon begins =
    law_seq (dispatch (ended_pick part sign.Semicolon)) _ Any (Is sign.Semicolon) Any Any (ended_law part F sign.Semicolon semicolon begins) (λ a. law_done (stmt t (kind.Return a)) Any) (λ u i. tt)

-- ---- "if" and "else".

else_takes : (b : Bool) (body : Reading Signed Stmt) (t : Signed) (a : Expr) (x : Stmt) → BodyLaw body → (q : Reading Signed Stmt) →
    (if b then Take (seq body (λ y. done (stmt t (kind.IfElse a x y)))) else Pass (stmt t (kind.If a x))) ≡ Take q → Lives q NotElse Any
else_takes true body t a x law q e =
    let p : Reading Signed Stmt = seq body (λ y. done (stmt t (kind.IfElse a x y))) in
    let same : p ≡ q = cc in
    subst (λ z. Lives z NotElse Any) same
    (taken_by p NotElse NotElse (Is sign.Semicolon) (λ u i. i) (law_seq body _ NotElse (Is sign.Semicolon) NotElse NotElse law (λ y. law_done (stmt t (kind.IfElse a x y)) NotElse) (λ u i. i)))
else_takes false body t a x law q e = absurd cc

else_passes : (b : Bool) (q : Reading Signed Stmt) (x a : Stmt) → (let y : Pick Signed Stmt = if b then Take q else Pass x in y) ≡ Pass a → x ≡ a
else_passes true q x a e = absurd cc
else_passes false q x a e = cc

else_other : (body : Reading Signed Stmt) (t : Signed) (a : Expr) (x : Stmt) (u : Signed) → NotElse u → else_pick body t a x u ≡ Pass (stmt t (kind.If a x))
else_other body t a x u h = rw (not_signed u.sign sign.Else h) refl

else_stops : (body : Reading Signed Stmt) (t : Signed) (a : Expr) (x : Stmt) (r : List Signed) → Heads NotElse r → dispatch (else_pick body t a x) r ≡ Ok (stmt t (kind.If a x), r)
else_stops body t a x [] h = absurd h
else_stops body t a x (u ∷ us) h = rw (not_signed u.sign sign.Else h) refl

pub else_law : (body : Reading Signed Stmt) (t : Signed) (a : Expr) (x : Stmt) → BodyLaw body → Law (dispatch (else_pick body t a x)) NotElse NotElse
else_law body t a x law =
    law_dispatch (else_pick body t a x) NotElse NotElse
    (record {
      takes = λ u q e. else_takes (is_sign sign.Else u) body t a x law q e;
      passes = λ u b e v h. (else_other body t a x v h ∙ ap Pass (else_passes (is_sign sign.Else u) _ _ b e), h);
    })
    (record { value = stmt t (kind.If a x); words = λ r. r; ends = λ r h. else_stops body t a x r h; first = λ r h. h })

pub if_law : (test : Reading Signed Expr) (body : Reading Signed Stmt) (t : Signed) → TestLaw test → BodyLaw body → Law (if_rest test body t) NotElse (Is sign.OpenParen)
unfolding if_rest
if_law test body t test_law law =
    law_seq test _ Any (Is sign.OpenParen) NotElse (Is sign.Semicolon) test_law
    (λ a. law_seq body _ NotElse (Is sign.Semicolon) NotElse NotElse law (λ x. else_law body t a x law) (λ u i. i)) (λ u i. tt)

-- ---- Lists of statements.

brace_else : (t : Signed) → Is sign.CloseBrace t → NotElse t
brace_else t e f = let same : sign.CloseBrace ≡ sign.Else = sym e ∙ f in cc

-- The rounds of statements up to a closing brace.
pub stmts_rounds : (one : Signed → Pick Signed Stmt) → Ones one NotElse → Rounds (more_pick (is_sign sign.CloseBrace) one) (Is sign.CloseBrace) NotElse
stmts_rounds one law = more_rounds (is_sign sign.CloseBrace) one (Is sign.CloseBrace) NotElse (λ t h. signed t.sign sign.CloseBrace h) brace_else law

pub stmts_law : (one : Signed → Pick Signed Stmt) → Ones one NotElse → Law (stmts_at one) (Is sign.CloseBrace) (Is sign.CloseBrace)
stmts_law one law = law_loop (more_pick (is_sign sign.CloseBrace) one) (Is sign.CloseBrace) NotElse (stmts_rounds one law) []

pub block_law : (one : Signed → Pick Signed Stmt) (t : Signed) → Ones one NotElse → Law (block_rest one t) Any (Is sign.CloseBrace)
unfolding block_rest
block_law one t law =
    law_seq (stmts_at one) _ (Is sign.CloseBrace) (Is sign.CloseBrace) Any (Is sign.CloseBrace) (stmts_law one law)
    (λ xs. law_seq (sign_at sign.CloseBrace) _ Any (Is sign.CloseBrace) Any Any (sign_law sign.CloseBrace) (λ c. law_done (stmt t (kind.Block xs)) Any) (λ u i. tt)) (λ u i. i)

-- ---- Statements.

took : (p q : Reading Signed Stmt) (F I : Signed → Type 0) → ((t : Signed) → NotElse t → F t) → Law p F I → (let x : Pick Signed Stmt = Take p in x) ≡ Take q → Lives q NotElse Any
took p q F I fits law e = let same : p ≡ q = cc in subst (λ x. Lives x NotElse Any) same (taken_by p F NotElse I fits law)

took_if : (b : Bool) (k : Kind) (p q : Reading Signed Stmt) (F I : Signed → Type 0) → ((t : Signed) → NotElse t → F t) → (b ≡ true → Law p F I) → (let x : Pick Signed Stmt = if b then Take p else Refuse k in x) ≡ Take q → Lives q NotElse Any
took_if true k p q F I fits law e = took p q F I fits (law refl) e
took_if false k p q F I fits law e = absurd cc

passed_if : (b : Bool) (k : Kind) (p : Reading Signed Stmt) (a : Stmt) → (let x : Pick Signed Stmt = if b then Take p else Refuse k in x) ≡ Pass a → ⊥
passed_if true k p a e = cc
passed_if false k p a e = cc

module _ (part : ℕ → Signed → Pick Signed Expr) (F : Signed → Type 0) (law : PartLives part F) where
  -- What begins an expression within a limit.
  pub begins : (d : ℕ) → Begins (part d) F
  begins d = record { takes = law.takes d; passes = law.passes d }

  -- Where a node is left, an expression in parentheses can be read.
  pub tests : (d : ℕ) → has_node d ≡ true → TestLaw (test_at (dispatch (part d)))
  tests zero h = absurd cc
  tests (suc d) h = test_law (dispatch (part (suc d))) F law.close
      (law_dispatch (part (suc d)) F (Is sign.Number) (record { takes = law.takes (suc d); passes = λ t a e. absurd (law.passes (suc d) t a e) }) (law.opens d))

  -- Of an expression statement.
  expression_takes : (d : ℕ) (t : Signed) (q : Reading Signed Stmt) → then_pick (part d t) expression_rest ≡ Take q → Lives q NotElse Any
  expression_takes d t q e = lives_fit q Any NotElse Any (λ u i. tt) (then_takes (part d t) expression_rest F Any (Is sign.Semicolon) (law.takes d t) expression_law law.semicolon q e)

  begun_takes : (d : ℕ) (rec : Bool → Signed → Pick Signed Stmt) (in_loop : Bool) (t : Signed) (m : Sign) (q : Reading Signed Stmt) →
      ((b : Bool) → Ones (rec b) NotElse) → (has_node d ≡ true → (b : Bool) → BodyLaw (dispatch (rec b))) → begun (part d) rec (has_node d) in_loop t m ≡ Take q → Lives q NotElse Any
  begun_takes d rec in_loop t sign.Semicolon q ones bodies e = took (done (stmt t kind.Empty)) q Any Any (λ u i. tt) (law_done (stmt t kind.Empty) Any) e
  begun_takes d rec in_loop t sign.OpenBrace q ones bodies e = took (block_rest (rec in_loop) t) q Any (Is sign.CloseBrace) (λ u i. tt) (block_law (rec in_loop) t (ones in_loop)) e
  begun_takes d rec in_loop t sign.If q ones bodies e =
      took_if (has_node d) Limit (if_rest (test_at (dispatch (part d))) (dispatch (rec in_loop)) t) q NotElse (Is sign.OpenParen) (λ u i. i) (λ f. if_law _ _ t (tests d f) (bodies f in_loop)) e
  begun_takes d rec in_loop t sign.While q ones bodies e =
      took_if (has_node d) Limit (while_rest (test_at (dispatch (part d))) (dispatch (rec true)) t) q NotElse (Is sign.OpenParen) (λ u i. i) (λ f. while_law _ _ t (tests d f) (bodies f true)) e
  begun_takes d rec in_loop t sign.Do q ones bodies e =
      took_if (has_node d) Limit (do_rest (test_at (dispatch (part d))) (dispatch (rec true)) t) q Any (Is sign.Semicolon) (λ u i. tt) (λ f. do_law _ _ t (tests d f) (bodies f true)) e
  begun_takes d rec in_loop t sign.For q ones bodies e =
      took_if (has_node d) Limit (for_rest (part d) (dispatch (rec true)) t) q NotElse (Is sign.OpenParen) (λ u i. i) (λ f. for_law (part d) F _ t law.semicolon law.close (begins d) (bodies f true)) e
  begun_takes d rec in_loop t sign.Break q ones bodies e = took_if in_loop Syntax (jump_rest t kind.Break) q Any (Is sign.Semicolon) (λ u i. tt) (λ f. jump_law t kind.Break) e
  begun_takes d rec in_loop t sign.Continue q ones bodies e = took_if in_loop Syntax (jump_rest t kind.Continue) q Any (Is sign.Semicolon) (λ u i. tt) (λ f. jump_law t kind.Continue) e
  begun_takes d rec in_loop t sign.Return q ones bodies e = took (return_rest (part d) t) q Any (Is sign.Semicolon) (λ u i. tt) (return_law (part d) F t law.semicolon (begins d)) e
  begun_takes d rec in_loop t m q ones bodies e = expression_takes d t q e

  begun_passes : (d : ℕ) (rec : Bool → Signed → Pick Signed Stmt) (fits in_loop : Bool) (t : Signed) (m : Sign) (a : Stmt) → begun (part d) rec fits in_loop t m ≡ Pass a → ⊥
  begun_passes d rec fits in_loop t sign.Semicolon a e = cc
  begun_passes d rec fits in_loop t sign.OpenBrace a e = cc
  begun_passes d rec fits in_loop t sign.If a e = passed_if fits Limit _ a e
  begun_passes d rec fits in_loop t sign.While a e = passed_if fits Limit _ a e
  begun_passes d rec fits in_loop t sign.Do a e = passed_if fits Limit _ a e
  begun_passes d rec fits in_loop t sign.For a e = passed_if fits Limit _ a e
  begun_passes d rec fits in_loop t sign.Break a e = passed_if in_loop Syntax _ a e
  begun_passes d rec fits in_loop t sign.Continue a e = passed_if in_loop Syntax _ a e
  begun_passes d rec fits in_loop t sign.Return a e = cc
  begun_passes d rec fits in_loop t m a e = then_passes (part d t) expression_rest a e

  barred_takes : (in_loop : Bool) (t : Signed) (m : Sign) (q : Reading Signed Stmt) → barred (part 0) in_loop t m ≡ Take q → Lives q NotElse Any
  barred_takes in_loop t sign.Semicolon q e = absurd cc
  barred_takes in_loop t sign.OpenBrace q e = absurd cc
  barred_takes in_loop t sign.If q e = absurd cc
  barred_takes in_loop t sign.While q e = absurd cc
  barred_takes in_loop t sign.Do q e = absurd cc
  barred_takes in_loop t sign.For q e = absurd cc
  barred_takes in_loop t sign.Break q e = absurd cc
  barred_takes in_loop t sign.Continue q e = absurd cc
  barred_takes in_loop t sign.Return q e = absurd cc
  barred_takes in_loop t m q e = expression_takes 0 t q e

  barred_passes : (in_loop : Bool) (t : Signed) (m : Sign) (a : Stmt) → barred (part 0) in_loop t m ≡ Pass a → ⊥
  barred_passes in_loop t sign.Semicolon a e = cc
  barred_passes in_loop t sign.OpenBrace a e = cc
  barred_passes in_loop t sign.If a e = cc
  barred_passes in_loop t sign.While a e = cc
  barred_passes in_loop t sign.Do a e = cc
  barred_passes in_loop t sign.For a e = cc
  barred_passes in_loop t sign.Break a e = cc
  barred_passes in_loop t sign.Continue a e = cc
  barred_passes in_loop t sign.Return a e = cc
  barred_passes in_loop t m a e = then_passes (part 0 t) expression_rest a e

  stmt_opens : (d : ℕ) (b : Bool) → has_node d ≡ true → Opens (stmt_at part d b) NotElse (Is sign.Semicolon)
  unfolding stmt_pick
  stmt_opens zero b h = absurd cc
  stmt_opens (suc d) b h = record { value = stmt (bare sign.Semicolon) kind.Empty; words = λ r. bare sign.Semicolon ∷ r; ends = λ r k. refl; first = λ r k. refl }

  law_of : (d : ℕ) (b : Bool) → Ones (stmt_pick part d b) NotElse → has_node d ≡ true → BodyLaw (stmt_at part d b)
  law_of d b ones h = law_dispatch (stmt_pick part d b) NotElse (Is sign.Semicolon) (record { takes = ones.takes; passes = λ t a e. absurd (ones.passes t a e) }) (stmt_opens d b h)

  -- Each statement is lawful.
  pub ones : (d : ℕ) (b : Bool) → Ones (stmt_pick part d b) NotElse
  unfolding stmt_pick
  ones zero b = record { takes = λ t q e. barred_takes b t t.sign q e; passes = λ t a e. barred_passes b t t.sign a e }
  ones (suc d) b = record {
    takes = λ t q e. begun_takes d (stmt_pick part d) b t t.sign q (λ c. ones d c) (λ f c. law_of d c (ones d c) f) e;
    passes = λ t a e. begun_passes d (stmt_pick part d) (has_node d) b t t.sign a e;
  }

  -- Where a node is left, a statement can be read.
  pub stmt_law : (d : ℕ) (b : Bool) → has_node d ≡ true → BodyLaw (stmt_at part d b)
  stmt_law d b h = law_of d b (ones d b) h

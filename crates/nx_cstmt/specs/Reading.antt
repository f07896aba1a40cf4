-- How statements are read.
use Rattle.std.specs.Prelude.{ℕ, zero, suc, Bool, true, List, [], Option, None, Some, if◌then◌else◌}
use Rattle.nx_grammar.specs.declared.kind.Kind.TheVariants.{Syntax, Limit}
use Rattle.nx_grammar.specs.Reading.{Reading, Pick, Refuse, Pass, Take, dispatch, seq, done, expect, then_pick, loop}
use Rattle.nx_ctree.specs.declared.sign.Sign.{Sign}
use Rattle.nx_ctree.specs.declared.sign.Sign.TheVariants as sign
use Rattle.nx_ctree.specs.declared.sign.Signed.{Signed}
use Rattle.nx_ctree.specs.declared.expression.Expr.{Expr}
use Rattle.nx_ctree.specs.declared.statement.Stmt.{Stmt}
use Rattle.nx_ctree.specs.declared.statement.StmtKind.{StmtKind}
use Rattle.nx_ctree.specs.declared.statement.StmtKind.TheVariants as kind
use Rattle.nx_ctree.specs.Statements.{stmt}
use Rattle.nx_cexpr.specs.Signs.{is_sign}
use Rattle.nx_cexpr.specs.Reading.{expr_pick, has_node}
use Rattle.nx_cstmt.specs.Lists.{more_pick}

-- A token of this sign.
abbrev pub sign_at : Sign → Reading Signed Signed
sign_at s = expect (is_sign s)

-- What begins an expression of at most so many nodes, without its height.
abbrev pub part_pick : ℕ → Signed → Pick Signed Expr
part_pick d t = then_pick (expr_pick d t) (λ x. done x.expr)

-- An expression in parentheses.
unfoldable pub test_at : Reading Signed Expr → Reading Signed Expr
test_at part = seq (sign_at sign.OpenParen) (λ o. seq part (λ a. seq (sign_at sign.CloseParen) (λ c. done a)))

-- What ends an expression that is there.
unfoldable pub ended_rest : Sign → Expr → Reading Signed (Option Expr)
ended_rest s a = seq (sign_at s) (λ c. done (Some a))

-- An expression that may be absent, and the sign that ends it.
abbrev pub ended_pick : (Signed → Pick Signed Expr) → Sign → Signed → Pick Signed (Option Expr)
ended_pick part s t = if is_sign s t then Take (done None) else then_pick (part t) (ended_rest s)

-- The end of an expression statement.
unfoldable pub expression_rest : Expr → Reading Signed Stmt
expression_rest a = seq (sign_at sign.Semicolon) (λ s. done (record { line = a.line; kind = kind.Expr a }))

-- After the first branch of an "if": "else" belongs to it.
abbrev pub else_pick : Reading Signed Stmt → Signed → Expr → Stmt → Signed → Pick Signed Stmt
else_pick body t a x e =
    if is_sign sign.Else e then Take (seq body (λ y. done (stmt t (kind.IfElse a x y))))
    else Pass (stmt t (kind.If a x))

unfoldable pub if_rest : Reading Signed Expr → Reading Signed Stmt → Signed → Reading Signed Stmt
if_rest test body t = seq test (λ a. seq body (λ x. dispatch (else_pick body t a x)))

unfoldable pub while_rest : Reading Signed Expr → Reading Signed Stmt → Signed → Reading Signed Stmt
while_rest test body t = seq test (λ a. seq body (λ x. done (stmt t (kind.While a x))))

unfoldable pub do_rest : Reading Signed Expr → Reading Signed Stmt → Signed → Reading Signed Stmt
do_rest test body t = seq body (λ x. seq (sign_at sign.While) (λ w. seq test (λ a. seq (sign_at sign.Semicolon) (λ s. done (stmt t (kind.Do x a))))))

unfoldable pub for_rest : (Signed → Pick Signed Expr) → Reading Signed Stmt → Signed → Reading Signed Stmt
for_rest part body t =
    seq (sign_at sign.OpenParen) (λ o.
    seq (dispatch (ended_pick part sign.Semicolon)) (λ a.
    seq (dispatch (ended_pick part sign.Semicolon)) (λ b.
    seq (dispatch (ended_pick part sign.CloseParen)) (λ e.
    seq body (λ x. done (stmt t (kind.For a b e x)))))))

-- After "break" and "continue".
unfoldable pub jump_rest : Signed → StmtKind → Reading Signed Stmt
jump_rest t k = seq (sign_at sign.Semicolon) (λ s. done (stmt t k))

unfoldable pub return_rest : (Signed → Pick Signed Expr) → Signed → Reading Signed Stmt
return_rest part t = seq (dispatch (ended_pick part sign.Semicolon)) (λ a. done (stmt t (kind.Return a)))

-- Statements up to a closing brace.
abbrev pub stmts_at : (Signed → Pick Signed Stmt) → Reading Signed (List Stmt)
stmts_at one = loop (more_pick (is_sign sign.CloseBrace) one) []

unfoldable pub block_rest : (Signed → Pick Signed Stmt) → Signed → Reading Signed Stmt
block_rest one t = seq (stmts_at one) (λ xs. seq (sign_at sign.CloseBrace) (λ c. done (stmt t (kind.Block xs))))

-- What a token begins: part is what begins the expressions in it, rec the statements in it, and fits says whether those may have a node.
abbrev pub begun : (Signed → Pick Signed Expr) → (Bool → Signed → Pick Signed Stmt) → Bool → Bool → Signed → Sign → Pick Signed Stmt
begun part rec fits in_loop t sign.Semicolon = Take (done (stmt t kind.Empty))
begun part rec fits in_loop t sign.OpenBrace = Take (block_rest (rec in_loop) t)
begun part rec fits in_loop t sign.If = if fits then Take (if_rest (test_at (dispatch part)) (dispatch (rec in_loop)) t) else Refuse Limit
begun part rec fits in_loop t sign.While = if fits then Take (while_rest (test_at (dispatch part)) (dispatch (rec true)) t) else Refuse Limit
begun part rec fits in_loop t sign.Do = if fits then Take (do_rest (test_at (dispatch part)) (dispatch (rec true)) t) else Refuse Limit
begun part rec fits in_loop t sign.For = if fits then Take (for_rest part (dispatch (rec true)) t) else Refuse Limit
begun part rec fits in_loop t sign.Break = if in_loop then Take (jump_rest t kind.Break) else Refuse Syntax
begun part rec fits in_loop t sign.Continue = if in_loop then Take (jump_rest t kind.Continue) else Refuse Syntax
begun part rec fits in_loop t sign.Return = Take (return_rest part t)
begun part rec fits in_loop t m = then_pick (part t) expression_rest

-- What a token that begins a statement is where no node is left: part is what begins expressions there.
abbrev pub barred : (Signed → Pick Signed Expr) → Bool → Signed → Sign → Pick Signed Stmt
barred part in_loop t sign.Semicolon = Refuse Limit
barred part in_loop t sign.OpenBrace = Refuse Limit
barred part in_loop t sign.If = Refuse Limit
barred part in_loop t sign.While = Refuse Limit
barred part in_loop t sign.Do = Refuse Limit
barred part in_loop t sign.For = Refuse Limit
barred part in_loop t sign.Break = Refuse (if in_loop then Limit else Syntax)
barred part in_loop t sign.Continue = Refuse (if in_loop then Limit else Syntax)
barred part in_loop t sign.Return = Refuse Limit
barred part in_loop t m = then_pick (part t) expression_rest

-- A statement of at most so many nodes deep, in a loop or not; part is what begins an expression of at most so many.
unfoldable pub stmt_pick : (ℕ → Signed → Pick Signed Expr) → ℕ → Bool → Signed → Pick Signed Stmt
stmt_pick part zero in_loop t = barred (part zero) in_loop t t.sign
stmt_pick part (suc d) in_loop t = begun (part d) (stmt_pick part d) (has_node d) in_loop t t.sign

-- The same as a reading.
abbrev pub stmt_at : (ℕ → Signed → Pick Signed Expr) → ℕ → Bool → Reading Signed Stmt
stmt_at part d in_loop = dispatch (stmt_pick part d in_loop)

-- What stands for a statement of each form.
use Rattle.std.proofs.Common.{◌≡◌, ℕ, List, map, sym, ap, ◌∙◌}
use Rattle.std.specs.Prelude.{Option, option_map}
use Rattle.nx_ctree.specs.declared.expression.Expr.{Expr}
use Rattle.nx_ctree.specs.declared.statement.Stmt.{Stmt}
use Rattle.nx_ctree.specs.declared.statement.StmtKind.{StmtKind}
use Rattle.nx_ctree.specs.declared.statement.StmtKind.TheVariants as kind
use Rattle.nx_ctree.specs.declared.statement.StmtKind.TheOpen as form
use Rattle.nx_ctree.specs.declared.statement.StmtKind.TheFolds.{fold-StmtKind, fold-roll-Stmt, fold-roll-StmtKind}
use Rattle.nx_ctyping.specs.Trees.{expr_of}
use Rattle.nx_cbody.specs.Trees as tree
use Rattle.nx_cbody.specs.Trees.{stmt_of, stmts_of, kind_layer}

abbrev kind_of : StmtKind → ℕ → tree.Stmt
kind_of k = fold-StmtKind (ℕ → tree.Stmt) tree.Stmt kind_layer (λ x. x.kind x.line) k

on_line : (s : Stmt) (k : StmtKind) → s.kind ≡ k → stmt_of s ≡ kind_of k s.line
on_line s k h = fold-roll-Stmt (ℕ → tree.Stmt) tree.Stmt kind_layer (λ x. x.kind x.line) (record { line = s.line; kind = s.kind }) ∙ ap (λ x. kind_of x s.line) h

pub at_empty : (s : Stmt) → s.kind ≡ kind.Empty → stmt_of s ≡ tree.Empty s.line
at_empty s h = on_line s kind.Empty h ∙ ap (λ k. kind_of k s.line) (sym (kind.rolls-Empty))
    ∙ ap (λ f. f s.line) (fold-roll-StmtKind (ℕ → tree.Stmt) tree.Stmt kind_layer (λ x. x.kind x.line) form.Empty)

pub at_run : (s : Stmt) (e : Expr) → s.kind ≡ kind.Expr e → stmt_of s ≡ tree.Run s.line (expr_of e)
at_run s e h = on_line s (kind.Expr e) h ∙ ap (λ k. kind_of k s.line) (sym (kind.rolls-Expr e))
    ∙ ap (λ f. f s.line) (fold-roll-StmtKind (ℕ → tree.Stmt) tree.Stmt kind_layer (λ x. x.kind x.line) (form.Expr e))

pub at_block : (s : Stmt) (ss : List Stmt) → s.kind ≡ kind.Block ss → stmt_of s ≡ tree.Block s.line (stmts_of ss)
at_block s ss h = on_line s (kind.Block ss) h ∙ ap (λ k. kind_of k s.line) (sym (kind.rolls-Block ss))
    ∙ ap (λ f. f s.line) (fold-roll-StmtKind (ℕ → tree.Stmt) tree.Stmt kind_layer (λ x. x.kind x.line) (form.Block ss))

pub at_if : (s : Stmt) (c : Expr) (a : Stmt) → s.kind ≡ kind.If c a → stmt_of s ≡ tree.If s.line (expr_of c) (stmt_of a)
at_if s c a h = on_line s (kind.If c a) h ∙ ap (λ k. kind_of k s.line) (sym (kind.rolls-If c a))
    ∙ ap (λ f. f s.line) (fold-roll-StmtKind (ℕ → tree.Stmt) tree.Stmt kind_layer (λ x. x.kind x.line) (form.If c a))

pub at_if_else : (s : Stmt) (c : Expr) (a b : Stmt) → s.kind ≡ kind.IfElse c a b → stmt_of s ≡ tree.IfElse s.line (expr_of c) (stmt_of a) (stmt_of b)
at_if_else s c a b h = on_line s (kind.IfElse c a b) h ∙ ap (λ k. kind_of k s.line) (sym (kind.rolls-IfElse c a b))
    ∙ ap (λ f. f s.line) (fold-roll-StmtKind (ℕ → tree.Stmt) tree.Stmt kind_layer (λ x. x.kind x.line) (form.IfElse c a b))

pub at_while : (s : Stmt) (c : Expr) (a : Stmt) → s.kind ≡ kind.While c a → stmt_of s ≡ tree.While s.line (expr_of c) (stmt_of a)
at_while s c a h = on_line s (kind.While c a) h ∙ ap (λ k. kind_of k s.line) (sym (kind.rolls-While c a))
    ∙ ap (λ f. f s.line) (fold-roll-StmtKind (ℕ → tree.Stmt) tree.Stmt kind_layer (λ x. x.kind x.line) (form.While c a))

pub at_do : (s : Stmt) (a : Stmt) (c : Expr) → s.kind ≡ kind.Do a c → stmt_of s ≡ tree.Do s.line (stmt_of a) (expr_of c)
at_do s a c h = on_line s (kind.Do a c) h ∙ ap (λ k. kind_of k s.line) (sym (kind.rolls-Do a c))
    ∙ ap (λ f. f s.line) (fold-roll-StmtKind (ℕ → tree.Stmt) tree.Stmt kind_layer (λ x. x.kind x.line) (form.Do a c))

pub at_for : (s : Stmt) (i c t : Option Expr) (a : Stmt) → s.kind ≡ kind.For i c t a → stmt_of s ≡ tree.For s.line (option_map expr_of i) (option_map expr_of c) (option_map expr_of t) (stmt_of a)
at_for s i c t a h = on_line s (kind.For i c t a) h ∙ ap (λ k. kind_of k s.line) (sym (kind.rolls-For i c t a))
    ∙ ap (λ f. f s.line) (fold-roll-StmtKind (ℕ → tree.Stmt) tree.Stmt kind_layer (λ x. x.kind x.line) (form.For i c t a))

pub at_break : (s : Stmt) → s.kind ≡ kind.Break → stmt_of s ≡ tree.Break s.line
at_break s h = on_line s kind.Break h ∙ ap (λ k. kind_of k s.line) (sym (kind.rolls-Break))
    ∙ ap (λ f. f s.line) (fold-roll-StmtKind (ℕ → tree.Stmt) tree.Stmt kind_layer (λ x. x.kind x.line) form.Break)

pub at_continue : (s : Stmt) → s.kind ≡ kind.Continue → stmt_of s ≡ tree.Continue s.line
at_continue s h = on_line s kind.Continue h ∙ ap (λ k. kind_of k s.line) (sym (kind.rolls-Continue))
    ∙ ap (λ f. f s.line) (fold-roll-StmtKind (ℕ → tree.Stmt) tree.Stmt kind_layer (λ x. x.kind x.line) form.Continue)

pub at_return : (s : Stmt) (e : Option Expr) → s.kind ≡ kind.Return e → stmt_of s ≡ tree.Return s.line (option_map expr_of e)
at_return s e h = on_line s (kind.Return e) h ∙ ap (λ k. kind_of k s.line) (sym (kind.rolls-Return e))
    ∙ ap (λ f. f s.line) (fold-roll-StmtKind (ℕ → tree.Stmt) tree.Stmt kind_layer (λ x. x.kind x.line) (form.Return e))

use Rattle.std.proofs.Common.{ℕ, List, sym, ap, ◌∙◌}
use Rattle.std.specs.Prelude.{max}
use Rattle.nx_checked.specs.declared.checked.CheckedExpr.{CheckedExpr}
use Rattle.nx_checked.specs.Trees.{Expr, expr_of, args_of}
use Rattle.nx_cmean.proofs.Forms.{at_kernel, at_call}
use Rattle.nx_lower.specs.Bodies.{temps_of, args_temps}
use Rattle.nx_temporaries.proofs.temporaries.+temporaries.Goals as goal

pub of_expr-returns-in_ok-of_args-in-Kernel : goal.of_expr-returns-in_ok-of_args-in-Kernel
of_expr-returns-in_ok-of_args-in-Kernel t c =
    c.at_least_one.ensures ∙ ap (λ (n : ℕ). max 1 n) (c.in_ok-of_args-in-Kernel.ensures ∙ ap (λ (l : List CheckedExpr). args_temps (args_of l)) c.as_slice.ensures)
    ∙ sym (ap (λ (x : CheckedExpr). temps_of (expr_of x)) c.in-Kernel.is ∙ ap (λ (x : Expr). temps_of x) (at_kernel _ c.in-Kernel.xs))

pub of_expr-returns-in_ok-of_args-in-Call : goal.of_expr-returns-in_ok-of_args-in-Call
of_expr-returns-in_ok-of_args-in-Call t c =
    c.at_least_one-in-Call.ensures ∙ ap (λ (n : ℕ). max 1 n) (c.in_ok-of_args-in-Call.ensures ∙ ap (λ (l : List CheckedExpr). args_temps (args_of l)) c.as_slice-in-Call.ensures)
    ∙ sym (ap (λ (x : CheckedExpr). temps_of (expr_of x)) c.in-Call.is ∙ ap (λ (x : Expr). temps_of x) (at_call _ c.in-Call.xs))

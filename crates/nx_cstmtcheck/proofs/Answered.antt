-- What is answered for the form of a statement is answered for it.
use Rattle.std.proofs.Common.{◌≡◌, ℕ, Bool, true, false, List, [], None, Some, refl, sym, ap, ◌∙◌, subst}
use Rattle.std.specs.Prelude.{Option, option_map, Result, Ok, Err}
use Rattle.nx_calls.specs.declared.row.CallRow.{CallRow}
use Rattle.nx_ctok.specs.declared.fault.CFault.{CFault}
use Rattle.nx_ctree.specs.declared.expression.Expr.{Expr}
use Rattle.nx_ctree.specs.declared.statement.Stmt.{Stmt}
use Rattle.nx_ctree.specs.declared.statement.StmtKind.TheVariants as kind
use Rattle.nx_checked.specs.declared.checked.CheckedExpr.{CheckedExpr}
use Rattle.nx_checked.specs.declared.checked.CheckedStmt.{CheckedStmt}
use Rattle.nx_checked.specs.declared.checked.CheckedStmt.TheVariants as stmt
use Rattle.nx_crules.specs.Answers.{at}
use Rattle.nx_crules.specs.Rules.{wrong}
use Rattle.nx_ctype.specs.declared.names.Names.{Names}
use Rattle.nx_ctype.specs.declared.used.Used.{Used}
use Rattle.nx_ctyping.specs.Checks.{IsGivenUsing, one, two, three}
use Rattle.nx_ctyping.specs.Trees.{expr_of}
use Rattle.nx_cexprcheck.specs.Code.{expression_check}
use Rattle.nx_cbody.specs.Trees as tree
use Rattle.nx_cbody.specs.Trees.{stmt_of, stmts_of}
use Rattle.nx_cbody.specs.Statements.{number_rule, stmt_verdict}
use Rattle.nx_cstmtcheck.specs.declared.parts.Wanted.{Wanted}
use Rattle.nx_cstmtcheck.specs.declared.parts.Wanted.TheVariants as wanted
use Rattle.nx_cstmtcheck.specs.declared.made.Tested.TheVariants as tested
use Rattle.nx_cstmtcheck.specs.Code.{tested_rule, else_rule, do_rule, for_rule, block_rule, return_rule, run_rule, wanted_rule, maybe_check, returned_check, head_check, statement_check, statements_check}
use Rattle.nx_cstmtcheck.proofs.Forms.{at_empty, at_run, at_block, at_if, at_if_else, at_while, at_do, at_for, at_break, at_continue, at_return}

same_two : {A B C : Type 0} (f : A → B → C) (a x : A) (b y : B) → x ≡ a → y ≡ b → f a b ≡ f x y
same_two f a x b y h g = sym (ap (λ x. f x y) h ∙ ap (λ y. f a y) g)

same_three : {A B C D : Type 0} (f : A → B → C → D) (a x : A) (b y : B) (c z : C) → x ≡ a → y ≡ b → z ≡ c → f a b c ≡ f x y z
same_three f a x b y c z h g k = sym (ap (λ x. f x y z) h ∙ (ap (λ y. f a y z) g ∙ ap (λ z. f a b z) k))

abbrev made : CheckedStmt → Result CheckedStmt CFault
made x = Ok x

abbrev absent : Result (Option CheckedExpr) CFault
absent = Ok None

abbrev lost : ℕ → Result (Option CheckedExpr) CFault
lost line = at line wrong

abbrev nothing : Option Expr
nothing = None

abbrev some : Expr → Option Expr
some e = Some e

module _ (names : Names) (rows : List CallRow) where
  -- An expression that may be absent.
  pub none_answered : (w : Wanted) (line : ℕ) (e : Option Expr) (s : Used) → e ≡ nothing → IsGivenUsing absent s (maybe_check names rows w line e s)
  unfolding maybe_check
  none_answered w line e s h = subst (λ e. IsGivenUsing absent s (maybe_check names rows w line e s)) (sym h) refl

  pub some_answered : (w : Wanted) (line : ℕ) (e : Option Expr) (a x : Expr) (r : Result (Option CheckedExpr) CFault) (s t : Used) → e ≡ some a → x ≡ a →
      IsGivenUsing r t (one (wanted_rule w) line (expression_check names rows x) s) → IsGivenUsing r t (maybe_check names rows w line e s)
  unfolding maybe_check expression_check
  some_answered w line e a x r s t h g k = subst (λ e. IsGivenUsing r t (maybe_check names rows w line e s)) (sym h) (subst (λ a. IsGivenUsing r t (maybe_check names rows w line (some a) s)) g k)

  -- What a function returns.
  pub nothing_answered : (returns : Bool) (line : ℕ) (e : Option Expr) (r : Result (Option CheckedExpr) CFault) (s t : Used) → returns ≡ false → IsGivenUsing r t (maybe_check names rows wanted.Nothing line e s) → IsGivenUsing r t (returned_check names rows returns line e s)
  unfolding maybe_check returned_check
  nothing_answered returns line e r s t h k = subst (λ b. IsGivenUsing r t (returned_check names rows b line e s)) (sym h) k

  pub lacking_answered : (returns : Bool) (line : ℕ) (e : Option Expr) (s : Used) → returns ≡ true → e ≡ nothing → IsGivenUsing (lost line) s (returned_check names rows returns line e s)
  unfolding returned_check
  lacking_answered returns line e s h g = subst (λ b. IsGivenUsing (lost line) s (returned_check names rows b line e s)) (sym h) (subst (λ e. IsGivenUsing (lost line) s (returned_check names rows true line e s)) (sym g) refl)

  pub given_answered : (returns : Bool) (line : ℕ) (e : Option Expr) (a x : Expr) (r : Result (Option CheckedExpr) CFault) (s t : Used) → returns ≡ true → e ≡ some a → x ≡ a →
      IsGivenUsing r t (one (wanted_rule wanted.Number) line (expression_check names rows x) s) → IsGivenUsing r t (returned_check names rows returns line e s)
  unfolding returned_check expression_check
  given_answered returns line e a x r s t b h g k =
      subst (λ b. IsGivenUsing r t (returned_check names rows b line e s)) (sym b)
      (subst (λ e. IsGivenUsing r t (returned_check names rows true line e s)) (sym h) (subst (λ a. IsGivenUsing r t (returned_check names rows true line (some a) s)) g k))

  module _ (returns : Bool) where
    by_form : (a : Stmt) (q : tree.Stmt) (r : Result CheckedStmt CFault) (s t : Used) → stmt_of a ≡ q → IsGivenUsing r t (stmt_verdict names rows returns q s) → IsGivenUsing r t (statement_check names rows returns a s)
    unfolding statement_check
    by_form a q r s t h g = subst (λ x. IsGivenUsing r t (stmt_verdict names rows returns x s)) (sym h) g

    pub empty_answered : (a : Stmt) (s : Used) → a.kind ≡ kind.Empty → IsGivenUsing (made stmt.Empty) s (statement_check names rows returns a s)
    empty_answered a s k = by_form a (tree.Empty a.line) (made stmt.Empty) s s (at_empty a k) refl

    pub break_answered : (a : Stmt) (s : Used) → a.kind ≡ kind.Break → IsGivenUsing (made stmt.Break) s (statement_check names rows returns a s)
    break_answered a s k = by_form a (tree.Break a.line) (made stmt.Break) s s (at_break a k) refl

    pub continue_answered : (a : Stmt) (s : Used) → a.kind ≡ kind.Continue → IsGivenUsing (made stmt.Continue) s (statement_check names rows returns a s)
    continue_answered a s k = by_form a (tree.Continue a.line) (made stmt.Continue) s s (at_continue a k) refl

    module _ (a : Stmt) (r : Result CheckedStmt CFault) (s t : Used) where
      pub run_answered : (e x : Expr) → x ≡ e → a.kind ≡ kind.Expr e → IsGivenUsing r t (one run_rule a.line (expression_check names rows x) s) → IsGivenUsing r t (statement_check names rows returns a s)
      unfolding expression_check
      run_answered e x g k h = by_form a _ r s t (at_run a e k ∙ ap (λ e. tree.Run a.line (expr_of e)) (sym g)) h

      pub block_answered : (ss xs : List Stmt) → xs ≡ ss → a.kind ≡ kind.Block ss → IsGivenUsing r t (one block_rule a.line (statements_check names rows returns xs) s) → IsGivenUsing r t (statement_check names rows returns a s)
      unfolding statements_check
      block_answered ss xs g k h = by_form a _ r s t (at_block a ss k ∙ ap (λ ss. tree.Block a.line (stmts_of ss)) (sym g)) h

      pub return_answered : (e : Option Expr) → a.kind ≡ kind.Return e → IsGivenUsing r t (one return_rule a.line (returned_check names rows returns a.line e) s) → IsGivenUsing r t (statement_check names rows returns a s)
      unfolding returned_check
      return_answered e k h = by_form a _ r s t (at_return a e k) h

      pub if_answered : (c x : Expr) (b y : Stmt) → x ≡ c → y ≡ b → a.kind ≡ kind.If c b → IsGivenUsing r t (two (tested_rule tested.If) a.line (one number_rule a.line (expression_check names rows x)) (statement_check names rows returns y) s) →
          IsGivenUsing r t (statement_check names rows returns a s)
      unfolding expression_check statement_check
      if_answered c x b y g f k h = by_form a _ r s t (at_if a c b k ∙ same_two (λ c b. tree.If a.line (expr_of c) (stmt_of b)) c x b y g f) h

      pub while_answered : (c x : Expr) (b y : Stmt) → x ≡ c → y ≡ b → a.kind ≡ kind.While c b → IsGivenUsing r t (two (tested_rule tested.While) a.line (one number_rule a.line (expression_check names rows x)) (statement_check names rows returns y) s) →
          IsGivenUsing r t (statement_check names rows returns a s)
      unfolding expression_check statement_check
      while_answered c x b y g f k h = by_form a _ r s t (at_while a c b k ∙ same_two (λ c b. tree.While a.line (expr_of c) (stmt_of b)) c x b y g f) h

      pub do_answered : (b y : Stmt) (c x : Expr) → y ≡ b → x ≡ c → a.kind ≡ kind.Do b c → IsGivenUsing r t (two do_rule a.line (statement_check names rows returns y) (one number_rule a.line (expression_check names rows x)) s) →
          IsGivenUsing r t (statement_check names rows returns a s)
      unfolding expression_check statement_check
      do_answered b y c x f g k h = by_form a _ r s t (at_do a b c k ∙ same_two (λ b c. tree.Do a.line (stmt_of b) (expr_of c)) b y c x f g) h

      pub else_answered : (c x : Expr) (b y d z : Stmt) → x ≡ c → y ≡ b → z ≡ d → a.kind ≡ kind.IfElse c b d →
          IsGivenUsing r t (three else_rule a.line (one number_rule a.line (expression_check names rows x)) (statement_check names rows returns y) (statement_check names rows returns z) s) → IsGivenUsing r t (statement_check names rows returns a s)
      unfolding expression_check statement_check
      else_answered c x b y d z g f i k h = by_form a _ r s t (at_if_else a c b d k ∙ same_three (λ c b d. tree.IfElse a.line (expr_of c) (stmt_of b) (stmt_of d)) c x b y d z g f i) h

      pub for_answered : (i c n : Option Expr) (b y : Stmt) → y ≡ b → a.kind ≡ kind.For i c n b → IsGivenUsing r t (two for_rule a.line (head_check names rows a.line i c n) (statement_check names rows returns y) s) →
          IsGivenUsing r t (statement_check names rows returns a s)
      unfolding maybe_check statement_check
      for_answered i c n b y f k h = by_form a _ r s t (at_for a i c n b k ∙ ap (λ b. tree.For a.line (option_map expr_of i) (option_map expr_of c) (option_map expr_of n) (stmt_of b)) (sym f)) h

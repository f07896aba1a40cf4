-- A function: its parameters, then its declarations, then its statements, then its frame.
use Rattle.std.proofs.Common.{◌≡◌, ℕ, Bool, List, [], sym, ap, ◌∙◌, subst}
use Rattle.std.specs.Prelude.{Result, Ok, Err, OnOk}
use Rattle.nx_calls.specs.declared.row.CallRow.{CallRow}
use Rattle.nx_ctok.specs.declared.fault.CFault.{CFault}
use Rattle.nx_ctok.specs.declared.fault.CFault.TheVariants as fault
use Rattle.nx_ctree.specs.declared.program.Param.{Param}
use Rattle.nx_ctree.specs.declared.program.Function.{Function}
use Rattle.nx_ctree.specs.declared.statement.Decl.{Decl}
use Rattle.nx_ctree.specs.declared.statement.Stmt.{Stmt}
use Rattle.nx_checked.specs.declared.checked.CheckedStmt.{CheckedStmt}
use Rattle.nx_checked.specs.declared.checked.CheckedFunction.{CheckedFunction}
use Rattle.nx_crules.specs.Answers.{Fails, IsGiven}
use Rattle.nx_ctype.specs.declared.names.Names.{Names}
use Rattle.nx_ctype.specs.declared.used.Used.{Used}
use Rattle.nx_ctyping.specs.Checks.{◌>>=◌, IsGivenUsing}
use Rattle.nx_cleaves.proofs.Given.{fails_bind, given_bind}
use Rattle.nx_cbody.specs.Trees.{stmts_of}
use Rattle.nx_cbody.specs.Statements.{stmts_verdict}
use Rattle.nx_cbody.specs.Declarations.{Declared, opening, params_verdict, decls_verdict}
use Rattle.nx_cbody.specs.Functions.{checked_function, within_frame, function_verdict}
use Rattle.nx_cstmtcheck.specs.Code.{statements_check}
use Rattle.nx_cdeclcheck.specs.Done.{IsSameFile}

-- An answer that is what was to be found.
pub given_exact : {A : Type 0} (r q : Result A CFault) → r ≡ q → IsGiven r q
given_exact (Ok x) q h = sym h
given_exact (Err fault.Memory) q h = tt
given_exact (Err (fault.Text line k)) q h = sym h

-- What holds at any rate holds of what is found.
pub any_ok : {A : Type 0} (P : Type 0) (r : Result A CFault) → P → OnOk r P
any_ok P (Ok x) p = p
any_ok P (Err e) p = tt

-- Where the file's names stay, letting go of a function's leaves what was before.
pub closed_same : (old new : Names) → IsSameFile old new → record new { locals = [] } ≡ record old { locals = [] }
closed_same old new h =
    ap (λ fs. record new { functions = fs; locals = [] }) h.functions
    ∙ ap (λ gs. record new { functions = old.functions; globals = gs; locals = [] }) h.globals

module _ (rows : List CallRow) (names : Names) (line : ℕ) (returns : Bool) (ps : List Param) (f : Function) (s : Used) where
  pub params_fail : (e : CFault) (o : Declared) → o ≡ opening names → Fails e (params_verdict o ps) → Fails e (function_verdict rows names line returns ps f s)
  params_fail e o k h =
      fails_bind e (params_verdict (opening names) ps) (λ p. decls_verdict rows p f.decls s >>= (λ d. stmts_verdict d.0.names rows returns (stmts_of f.body) d.1 >>= (λ b. within_frame line (checked_function d.0 b.0) >>= (λ g. Ok (g, b.1)))))
      (subst (λ (o : Declared). Fails e (params_verdict o ps)) k h)

  module _ (o p : Declared) (k : o ≡ opening names) (h : params_verdict o ps ≡ Ok p) where
    opened : params_verdict (opening names) ps ≡ Ok p
    opened = subst (λ (o : Declared). params_verdict o ps ≡ Ok p) k h

    pub decls_fail : (e : CFault) (ds : List Decl) → ds ≡ f.decls → Fails e (decls_verdict rows p ds s) → Fails e (function_verdict rows names line returns ps f s)
    decls_fail e ds m g =
        rw opened
        (fails_bind e (decls_verdict rows p f.decls s) (λ d. stmts_verdict d.0.names rows returns (stmts_of f.body) d.1 >>= (λ b. within_frame line (checked_function d.0 b.0) >>= (λ g. Ok (g, b.1))))
        (subst (λ (ds : List Decl). Fails e (decls_verdict rows p ds s)) m g))

    module _ (ds : List Decl) (ss : List Stmt) (d : Declared) (t : Used) (m : ds ≡ f.decls) (n : ss ≡ f.body) (g : decls_verdict rows p ds s ≡ Ok (d, t)) where
      declared_all : decls_verdict rows p f.decls s ≡ Ok (d, t)
      declared_all = subst (λ (ds : List Decl). decls_verdict rows p ds s ≡ Ok (d, t)) m g

      pub body_fails : (e : CFault) → Fails e (statements_check d.names rows returns ss t) → Fails e (function_verdict rows names line returns ps f s)
      unfolding statements_check
      body_fails e x = inner (subst (λ (ss : List Stmt). Fails e (statements_check d.names rows returns ss t)) n x)
        where
          inner : Fails e (statements_check d.names rows returns f.body t) → Fails e (function_verdict rows names line returns ps f s)
          inner x =
              rw opened (rw declared_all
              (fails_bind e (stmts_verdict d.names rows returns (stmts_of f.body) t) (λ b. within_frame line (checked_function d b.0) >>= (λ g. Ok (g, b.1))) x))

      pub all_given : (b : List CheckedStmt) (u : Used) (r : Result CheckedFunction CFault) → statements_check d.names rows returns ss t ≡ Ok (b, u) → IsGiven r (within_frame line (checked_function d b)) → IsGivenUsing r u (function_verdict rows names line returns ps f s)
      unfolding statements_check
      all_given b u r x y = inner (subst (λ (ss : List Stmt). statements_check d.names rows returns ss t ≡ Ok (b, u)) n x)
        where
          inner : statements_check d.names rows returns f.body t ≡ Ok (b, u) → IsGivenUsing r u (function_verdict rows names line returns ps f s)
          inner x = rw opened (rw declared_all (rw x (given_bind r (within_frame line (checked_function d b)) u y)))

-- A definition and a prototype, by what their parts give.
use Rattle.std.proofs.Common.{◌≡◌, ℕ, Bool, List, [], ◌∷◌, ◌++◌, sym, ap, ◌∙◌, subst}
use Rattle.std.specs.Prelude.{Result, Ok}
use Rattle.nx_calls.specs.declared.row.CallRow.{CallRow}
use Rattle.nx_ctok.specs.declared.fault.CFault.{CFault}
use Rattle.nx_ctree.specs.declared.program.External.{External}
use Rattle.nx_ctree.specs.declared.program.Function.{Function as Body}
use Rattle.nx_ctree.specs.declared.program.Param.{Param}
use Rattle.nx_checked.specs.declared.checked.CheckedFunction.{CheckedFunction}
use Rattle.nx_crules.specs.Answers.{Fails}
use Rattle.nx_ctype.specs.declared.names.Names.{Names}
use Rattle.nx_ctype.specs.declared.used.Used.{Used}
use Rattle.nx_ctyping.specs.Checks.{◌>>=◌}
use Rattle.nx_ctyping.proofs.Binds.{kept}
use Rattle.nx_cleaves.proofs.Given.{fails_bind}
use Rattle.nx_cbody.specs.Declarations.{Declared, opening, params_verdict}
use Rattle.nx_cbody.specs.Functions.{function_verdict}
use Rattle.nx_cdeclcheck.specs.Done.{IsSameFile}
use Rattle.nx_cdeclcheck.proofs.Functions.{closed_same}
use Rattle.nx_ccheck.specs.Defined.{returns_of}
use Rattle.nx_ccheck.specs.Files.{closed, with_defined, with_checked}
use Rattle.nx_ccheck.specs.declared.known.Known.{Known}
use Rattle.nx_cfilecheck.specs.Defining.{trying, defining}

module _ (k : Known) (ps : List Param) (o : Declared) (h : o ≡ opening k.names) where
  pub trying_fails : (e : CFault) → Fails e (params_verdict o ps) → Fails e (trying k ps)
  trying_fails e g = fails_bind e (params_verdict (opening k.names) ps) (λ p. Ok (closed k)) (subst (λ (o : Declared). Fails e (params_verdict o ps)) h g)

  -- Where its parameters are let go, what was known before is left.
  pub tried : (p : Declared) (n : Names) → params_verdict o ps ≡ Ok p → IsSameFile o.names p.names → n ≡ record p.names { locals = [] } → trying k ps ≡ kept (record k { names = n })
  tried p n g s e =
      let there : params_verdict (opening k.names) ps ≡ kept p = subst (λ (o : Declared). params_verdict o ps ≡ kept p) h g in
      let same : IsSameFile k.names p.names = record {
        functions = s.functions ∙ ap (λ (o : Declared). o.names.functions) h;
        globals = s.globals ∙ ap (λ (o : Declared). o.names.globals) h;
      } in
      ap (λ (r : Result Declared CFault). r >>= (λ p. kept (closed k))) there
      ∙ ap (λ (n : Names). kept (record k { names = n })) (sym (e ∙ closed_same k.names p.names same))

module _ (rows : List CallRow) (k : Known) (x : External) (ps : List Param) (f : Body) (b : Bool) (h : b ≡ returns_of x.result) where
  pub defining_fails : (e : CFault) → Fails e (function_verdict rows k.names x.line b ps f k.used) → Fails e (defining rows k x ps f)
  defining_fails e g =
      fails_bind e (function_verdict rows k.names x.line (returns_of x.result) ps f k.used) (λ r. Ok (with_checked (with_defined k x.name) r))
      (subst (λ (b : Bool). Fails e (function_verdict rows k.names x.line b ps f k.used)) h g)

  pub defined_all : (g : CheckedFunction) (u : Used) (n : Names) (name : List ℕ) (ds : List (List ℕ)) (fs : List CheckedFunction) → function_verdict rows k.names x.line b ps f k.used ≡ Ok (g, u) → n ≡ record k.names { locals = [] } →
      name ≡ x.name → ds ≡ k.defined ++ name ∷ [] → fs ≡ k.functions ++ g ∷ [] → defining rows k x ps f ≡ kept (record k { names = n; defined = ds; functions = fs; used = u })
  defined_all g u n name ds fs v hn hm hd hf =
      ap (λ (r : Result (CheckedFunction × Used) CFault). r >>= (λ r. kept (with_checked (with_defined k x.name) r))) (subst (λ (b : Bool). function_verdict rows k.names x.line b ps f k.used ≡ Ok (g, u)) h v)
      ∙ ap (λ (n : Names). kept (record k { names = n; defined = k.defined ++ x.name ∷ []; functions = k.functions ++ g ∷ []; used = u })) (sym hn)
      ∙ ap (λ (m : List ℕ). kept (record k { names = n; defined = k.defined ++ m ∷ []; functions = k.functions ++ g ∷ []; used = u })) (sym hm)
      ∙ ap (λ (ds : List (List ℕ)). kept (record k { names = n; defined = ds; functions = k.functions ++ g ∷ []; used = u })) (sym hd)
      ∙ ap (λ (fs : List CheckedFunction). kept (record k { names = n; defined = ds; functions = fs; used = u })) (sym hf)

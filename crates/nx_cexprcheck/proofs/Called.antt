-- A call of a name, by what the name stands for.
use Rattle.std.proofs.Common.{◌≡◌, ℕ, Bool, List, refl, sym, subst}
use Rattle.std.specs.Prelude.{Option, Result, Ok, position}
use Rattle.std.specs.Map.{lookup}
use Rattle.std.specs.Str.{bytes_eq}
use Rattle.nx_calls.specs.declared.row.CallRow.{CallRow}
use Rattle.nx_ctok.specs.declared.fault.CFault.{CFault}
use Rattle.nx_crules.specs.declared.types.Function.{Function}
use Rattle.nx_crules.specs.declared.types.Typed.{Typed}
use Rattle.nx_crules.specs.Answers.{Fails}
use Rattle.nx_ctype.specs.declared.names.Names.{Names}
use Rattle.nx_ctype.specs.declared.used.Used.{Used}
use Rattle.nx_ctyping.specs.Checks.{◌>>=◌, Check, IsGivenUsing}
use Rattle.nx_ctyping.specs.Verdicts.{call_check, called, starts, row_at, function_named, place_named, starts_named}
use Rattle.nx_cleaves.proofs.Given.{fails_bind}

module _ (names : Names) (rows : List CallRow) (line : ℕ) (check : Bool → Check (List Typed)) (s : Used) where
  by_name : (Q : Result (Typed × Used) CFault → Type 0) (name n : List ℕ) (F : Option Function) (I : Option ℕ) (b : Bool) → n ≡ name → F ≡ lookup (bytes_eq n) names.functions → I ≡ position (λ row. bytes_eq n row.name) rows → b ≡ starts F (row_at rows I) →
      Q (call_check rows F I line (check b) s) → Q (call_check rows (function_named names name) (place_named rows name) line (check (starts_named names rows name)) s)
  by_name Q name n F I b h f i k q =
      subst (λ name. Q (call_check rows (function_named names name) (place_named rows name) line (check (starts_named names rows name)) s)) h
      (subst (λ F. Q (call_check rows F (place_named rows n) line (check (starts F (row_at rows (place_named rows n)))) s)) f
      (subst (λ I. Q (call_check rows F I line (check (starts F (row_at rows I))) s)) i
      (subst (λ b. Q (call_check rows F I line (check b) s)) k q)))

  pub call_fails : (e : CFault) (name n : List ℕ) (F : Option Function) (I : Option ℕ) (b : Bool) → n ≡ name → F ≡ lookup (bytes_eq n) names.functions → I ≡ position (λ row. bytes_eq n row.name) rows → b ≡ starts F (row_at rows I) →
      Fails e (check b s) → Fails e (call_check rows (function_named names name) (place_named rows name) line (check (starts_named names rows name)) s)
  call_fails e name n F I b h f i k g = by_name (Fails e) name n F I b h f i k (fails_bind e (check b s) (λ ys. called rows F I line ys.0 ys.1) g)

  pub call_given : (r : Result Typed CFault) (u t : Used) (ys : List Typed) (name n : List ℕ) (F : Option Function) (I : Option ℕ) (b : Bool) → n ≡ name → F ≡ lookup (bytes_eq n) names.functions → I ≡ position (λ row. bytes_eq n row.name) rows → b ≡ starts F (row_at rows I) →
      check b s ≡ Ok (ys, u) → IsGivenUsing r t (called rows F I line ys u) →
      IsGivenUsing r t (call_check rows (function_named names name) (place_named rows name) line (check (starts_named names rows name)) s)
  call_given r u t ys name n F I b h f i k a g = by_name (IsGivenUsing r t) name n F I b h f i k (rw a g)

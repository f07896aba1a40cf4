-- A whole file, by what its declarations give and by its main function.
use Rattle.std.proofs.Common.{◌≡◌, ◌⊎◌, inl, inr, ℕ, List, None, Some, refl, sym, ap, ◌∙◌, subst}
use Rattle.std.specs.Prelude.{Option, option_map, Result, Ok, Err, IfOk}
use Rattle.nx_calls.specs.declared.row.CallRow.{CallRow}
use Rattle.nx_ctok.specs.declared.fault.CFault.{CFault}
use Rattle.nx_ctok.specs.declared.fault.CFault.TheVariants as fault
use Rattle.nx_ctok.specs.declared.fault.CKind.TheVariants as kind
use Rattle.nx_ctree.specs.declared.program.External.{External}
use Rattle.nx_ctree.specs.declared.program.Unit.{Unit as File}
use Rattle.nx_checked.specs.declared.checked.Checked.{Checked}
use Rattle.nx_crules.specs.declared.types.Function.{Function}
use Rattle.nx_crules.specs.Answers.{Fails, IsGiven}
use Rattle.nx_ctyping.specs.Checks.{◌>>=◌}
use Rattle.nx_ctyping.proofs.Binds.{kept, lost, not_found}
use Rattle.nx_cleaves.proofs.Given.{fails_bind}
use Rattle.nx_ccheck.specs.Files.{externals_verdict, beginning, main_of, program_of, file_verdict}
use Rattle.nx_ccheck.specs.TypedFiles.{IsFile}
use Rattle.nx_ccheck.specs.declared.known.Known.{Known}
use Rattle.nx_cfilecheck.specs.Defining.{program_at}
use Rattle.nx_ccheck.proofs.Whole.{file_on, file_back}

abbrev no_place : Option ℕ
no_place = None

abbrev some_place : ℕ → Option ℕ
some_place n = Some n

abbrev place_of : Function → ℕ
place_of f = f.place

abbrev out : ℕ → Option ℕ → ℕ
out d None = d
out d (Some n) = n

module _ (rows : List CallRow) (k : Known) where
  pub without_main : (o : Option Function) (e : CFault) → no_place ≡ option_map place_of o → e ≡ fault.Text 0 kind.NoMain → IsGiven (lost e) (program_of rows k o)
  without_main None e h g = subst (λ (e : CFault). IsGiven (lost {A = Checked} e) (program_of rows k None)) (sym g) refl
  without_main (Some f) e h g = absurd cc

  pub with_main : (o : Option Function) (n : ℕ) (r : Result Checked CFault) → some_place n ≡ option_map place_of o → IsGiven r (kept (program_at rows k n)) → IsGiven r (program_of rows k o)
  with_main None n r h g = absurd cc
  with_main (Some f) n r h g = subst (λ (o : Option ℕ). IsGiven r (kept (program_at rows k (out n o)))) h g

module _ (rows : List CallRow) (file : File) (xs : List External) (k : Known) (h : xs ≡ file.externals) (b : k ≡ beginning xs) where
  pub file_fails : (e : CFault) → Fails e (externals_verdict rows k xs) → Fails e (file_verdict rows file)
  file_fails e g =
      fails_bind e (externals_verdict rows (beginning file.externals) file.externals) (λ k. program_of rows k (main_of k))
      (subst (λ (xs : List External). Fails e (externals_verdict rows (beginning xs) xs)) h (subst (λ (k : Known). Fails e (externals_verdict rows k xs)) b g))

  pub file_given : (l : Known) (r : Result Checked CFault) → externals_verdict rows k xs ≡ Ok l → IsGiven r (program_of rows l (main_of l)) → IsGiven r (file_verdict rows file)
  file_given l r g p =
      let there : externals_verdict rows (beginning file.externals) file.externals ≡ kept l =
      subst (λ (xs : List External). externals_verdict rows (beginning xs) xs ≡ kept l) h (subst (λ (k : Known). externals_verdict rows k xs ≡ kept l) b g) in
      subst (λ (q : Result Checked CFault). IsGiven r q) (sym (ap (λ (r : Result Known CFault). r >>= (λ k. program_of rows k (main_of k))) there)) p

module _ (rows : List CallRow) (file : File) where
  pub typed_given : (r : Result Checked CFault) → IsGiven r (file_verdict rows file) → IfOk r (λ p. IsFile rows file p)
  typed_given (Ok p) h = file_back rows file p h
  typed_given (Err e) h = tt

  pub all_given : (r : Result Checked CFault) → IsGiven r (file_verdict rows file) → (p : Checked) → IsFile rows file p → (r ≡ kept p) ⊎ (r ≡ lost fault.Memory)
  all_given (Ok q) h p t = inl (sym h ∙ file_on rows t)
  all_given (Err fault.Memory) h p t = inr refl
  all_given (Err (fault.Text line k)) h p t = absurd (not_found (fault.Text line k) p (sym h ∙ file_on rows t))

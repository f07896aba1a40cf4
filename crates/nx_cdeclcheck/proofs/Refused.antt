-- What is refused, and what follows where nothing is.
use Rattle.std.proofs.Common.{◌≡◌, ℕ, Bool, true, false, refl, sym, ap, ◌∙◌, subst}
use Rattle.std.specs.Prelude.{Result, Ok, Err}
use Rattle.nx_ctok.specs.declared.fault.CFault.{CFault}
use Rattle.nx_ctok.specs.declared.fault.CFault.TheVariants as fault
use Rattle.nx_crules.specs.Answers.{Fails}
use Rattle.nx_ctype.specs.declared.used.Used.{Used}
use Rattle.nx_ctyping.specs.Checks.{leaf}
use Rattle.nx_ctyping.proofs.Binds.{kept}
use Rattle.nx_cbody.specs.Declarations.{first_of, unless}
use Rattle.nx_cdeclcheck.specs.Done.{IsDone, IsDoneUsing}

abbrev nothing : Result (Unit {0}) CFault
nothing = Ok tt

-- Where a declaration isn't refused, what follows counts.
pub passes : {A : Type 0} (u : Unit {0}) (t m b : Bool) (line : ℕ) (r : Result A CFault) → kept u ≡ unless (first_of t m b) line nothing → unless (first_of t m b) line r ≡ r
passes u false false false line r h = refl
passes u true m b line r h = absurd cc
passes u false true b line r h = absurd cc
passes u false false true line r h = absurd cc

-- What is found is the fault that was answered.
abbrev FailsAs : {A : Type 0} → Result (Unit {0}) CFault → Result A CFault → Type 0
FailsAs (Ok u) r = Unit {0}
FailsAs (Err e) r = Fails e r

abbrev lost : CFault → Result (Unit {0}) CFault
lost e = Err e

pub refused : {A : Type 0} (e : CFault) (t m b : Bool) (line : ℕ) (r : Result A CFault) → lost e ≡ unless (first_of t m b) line nothing → Fails e (unless (first_of t m b) line r)
refused e true m b line r h = subst (λ q. FailsAs q (unless (first_of true m b) line r)) (sym h) refl
refused e false true b line r h = subst (λ q. FailsAs q (unless (first_of false true b) line r)) (sym h) refl
refused e false false true line r h = subst (λ q. FailsAs q (unless (first_of false false true) line r)) (sym h) refl
refused e false false false line r h = absurd cc

-- A declaration that is refused or leaves all as it was.
pub refused_whole : {A : Type 0} (q : Result (Unit {0}) CFault) (d : A) (t m b : Bool) (line : ℕ) → q ≡ unless (first_of t m b) line nothing → IsDone q d (unless (first_of t m b) line (kept d))
refused_whole (Ok u) d t m b line h = passes u t m b line (kept d) h
refused_whole (Err e) d t m b line h = refused e t m b line (kept d) h

pub done_after : {A : Type 0} (u : Unit {0}) (q : Result (Unit {0}) CFault) (d : A) (t m b : Bool) (line : ℕ) (r : Result A CFault) → kept u ≡ unless (first_of t m b) line nothing → IsDone q d r → IsDone q d (unless (first_of t m b) line r)
done_after u q d t m b line r h g = subst (λ r. IsDone q d r) (sym (passes u t m b line r h)) g

-- The same, where the tests were made of the code's own numbers.
module _ {A : Type 0} (t m b T M B : Bool) (line : ℕ) (r whole : Result A CFault) (i : t ≡ T) (j : m ≡ M) (k : b ≡ B) (e : whole ≡ unless (first_of T M B) line r) where
  same_tests : (q : Result (Unit {0}) CFault) → q ≡ unless (first_of t m b) line nothing → q ≡ unless (first_of T M B) line nothing
  same_tests q h =
      h
      ∙ ap (λ (t : Bool). unless (first_of t m b) line nothing) i
      ∙ ap (λ (m : Bool). unless (first_of T m b) line nothing) j
      ∙ ap (λ (b : Bool). unless (first_of T M b) line nothing) k

  pub refused_as : (x : CFault) → lost x ≡ unless (first_of t m b) line nothing → Fails x whole
  refused_as x h = subst (λ (r : Result A CFault). Fails x r) (sym e) (refused x T M B line r (same_tests (lost x) h))

  pub done_as : (u : Unit {0}) (q : Result (Unit {0}) CFault) (d : A) → kept u ≡ unless (first_of t m b) line nothing → IsDone q d r → IsDone q d whole
  done_as u q d h g = subst (λ (r : Result A CFault). IsDone q d r) (sym e) (done_after u q d T M B line r (same_tests (kept u) h) g)

pub whole_as : {A : Type 0} (q : Result (Unit {0}) CFault) (d : A) (t T : Bool) (line : ℕ) (whole : Result A CFault) → t ≡ T → whole ≡ unless (first_of T true false) line (kept d) → q ≡ unless (first_of t true false) line nothing → IsDone q d whole
whole_as q d t T line whole i e h =
    subst (λ r. IsDone q d r) (sym e) (refused_whole q d T true false line (h ∙ ap (λ (t : Bool). unless (first_of t true false) line nothing) i))

-- What uses nothing.
pub done_leaf : {A : Type 0} (q : Result (Unit {0}) CFault) (d : A) (s : Used) (r : Result A CFault) → IsDone q d r → IsDoneUsing q d s (leaf r s)
done_leaf (Ok u) d s r h = rw h refl
done_leaf (Err fault.Memory) d s r h = tt
done_leaf (Err (fault.Text line k)) d s r h = rw h refl

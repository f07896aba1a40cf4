-- Tests of a declaration, one after another, and what follows each other: what they give, and back.
use Rattle.std.proofs.Common.{◌≡◌, ℕ, Bool, true, false, refl, ap, subst}
use Rattle.std.specs.Prelude.{◌||◌, not, Result, Ok, Err}
use Rattle.nx_ctok.specs.declared.fault.CFault.{CFault}
use Rattle.nx_ctyping.specs.Checks.{◌>>=◌}
use Rattle.nx_ctyping.proofs.Binds.{kept}
use Rattle.nx_cbody.specs.Declarations.{first_of, unless}

-- Where no test holds, what follows counts.
pub clear : {A : Type 0} (t m b : Bool) (line : ℕ) (r : Result A CFault) → t ≡ false → m ≡ false → b ≡ false → unless (first_of t m b) line r ≡ r
clear false false false line r h g k = refl
clear true m b line r h g k = absurd cc
clear false true b line r h g k = absurd cc
clear false false true line r h g k = absurd cc

pub cleared : {A : Type 0} (t m b : Bool) (line : ℕ) (r : Result A CFault) (y : A) → unless (first_of t m b) line r ≡ kept y → (t ≡ false) × (m ≡ false) × (b ≡ false) × (r ≡ kept y)
cleared false false false line r y h = (refl, refl, refl, h)
cleared true m b line r y h = absurd cc
cleared false true b line r y h = absurd cc
cleared false false true line r y h = absurd cc

pub no_mismatch : true ≡ false → ⊥
no_mismatch h = cc

pub neither : (a b : Bool) → a ≡ false → b ≡ false → (a || b) ≡ false
neither false false h g = refl
neither true b h g = absurd cc
neither false true h g = absurd cc

pub each_false : (a b : Bool) → (a || b) ≡ false → (a ≡ false) × (b ≡ false)
each_false false false h = (refl, refl)
each_false false true h = absurd cc
each_false true b h = absurd cc

pub negated : (a : Bool) → a ≡ true → not a ≡ false
negated true h = refl
negated false h = absurd cc

pub was_true : (a : Bool) → not a ≡ false → a ≡ true
was_true true h = refl
was_true false h = absurd cc

pub bind_on : {A B : Type 0} (r : Result A CFault) (f : A → Result B CFault) (x : A) (q : Result B CFault) → r ≡ Ok x → f x ≡ q → (r >>= f) ≡ q
bind_on r f x q h g = rw h g

abbrev out_kept : {A : Type 0} → A → Result A CFault → A
out_kept d (Ok x) = x
out_kept d (Err e) = d

pub carry_kept : {A : Type 0} (P : A → Type 0) (x y : A) → kept x ≡ kept y → P x → P y
carry_kept P x y h p = subst P (ap (out_kept x) h) p

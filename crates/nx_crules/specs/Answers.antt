-- What a rule's answer is at a line, and what may be answered in its place.
use Rattle.std.specs.Prelude.{◌≡◌, ℕ, Result, Ok, Err}
use Rattle.nx_ctok.specs.declared.fault.CKind.{CKind}
use Rattle.nx_ctok.specs.declared.fault.CFault.{CFault}
use Rattle.nx_ctok.specs.declared.fault.CFault.TheVariants as fault

-- A rule's answer at a line.
abbrev pub at : {A : Type 0} → ℕ → Result A CKind → Result A CFault
at line (Ok x) = Ok x
at line (Err k) = Err (fault.Text line k)

-- A fault is the one that was to be found, unless memory ran out.
abbrev pub Fails : {A : Type 0} → CFault → Result A CFault → Type 0
Fails fault.Memory r = Unit {0}
Fails (fault.Text line k) r = r ≡ Err (fault.Text line k)

-- What was answered is what a rule gives at a line, unless memory ran out.
abbrev pub IsGiven : {A : Type 0} → Result A CFault → Result A CFault → Type 0
IsGiven (Ok x) r = r ≡ Ok x
IsGiven (Err e) r = Fails e r

-- A program's run: the calls that are still to come, and what was written so far. nx_system will take its place.
use Rattle.std.specs.Prelude.{◌≡◌, ℕ, ◌+◌, ◌^◌, ◌≤◌, List, [], ◌∷◌, ◌++◌, length, Option, Some, None, Ok}
use Rattle.std.specs.List.{flat_map}
use Rattle.nx_base.specs.declared.regs.Regs.{Regs}
use Rattle.nx_top.specs.declared.first.guest.CallOutcome.{CallOutcome}
use Rattle.nx_top.specs.declared.first.guest.CallOutcome.TheVariants.{Wrote, Ended, Stray}
use Rattle.nx_top.specs.declared.first.guest.GuestRun.{GuestRun}
use Rattle.nx_base.specs.Views.{View, load_bytes}
use Rattle.nx_top.specs.first.Layout.{fuel}
use Rattle.nx_top.specs.first.BootedRuns.{Makes, calls_of}

-- a run that writes these strings, which stand at these addresses, and ends with a status after so many instructions
pub record ExpectedRun : Type 0 where
  pub strings : List (List ℕ)
  pub places : List ℕ
  pub status : ℕ
  pub instructions : ℕ

abbrev pub joined : List (List ℕ) → List ℕ
joined strings = flat_map (λ s. s) strings

-- a string lies in a view at an address, byte by byte
abbrev pub LiesAt : View → List ℕ → ℕ → Type 0
LiesAt v [] at = Unit {0}
LiesAt v (b ∷ bs) at = (load_bytes v at 1 ≡ Ok b) × LiesAt v bs (at + 1)

-- each string lies at its address, and ends below 2^32
abbrev pub LieAt : View → List (List ℕ) → List ℕ → Type 0
LieAt v [] [] = Unit {0}
LieAt v (string ∷ strings) (at ∷ places) = (at + length string ≤ 2 ^ 32) × LiesAt v string at × LieAt v strings places
LieAt v _ _ = ⊥

-- what remains of a planned run, once some of it was made
pub record Remains (expected_run : ExpectedRun) (r : Regs) (v : View) (console : List ℕ) (writes used : ℕ) : Type 0 where
  pub strings : List (List ℕ)
  pub places : List ℕ
  pub instructions : ℕ
  pub makes : Makes (calls_of strings places expected_run.status) r v instructions
  pub lie : LieAt v strings places
  pub total : used + instructions ≡ expected_run.instructions
  pub written : console ++ joined strings ≡ joined expected_run.strings
  pub counted : writes + length strings ≡ length expected_run.strings

-- a planned run was made whole
pub record IsDone (expected_run : ExpectedRun) (status : ℕ) (console : List ℕ) (writes used : ℕ) : Type 0 where
  pub ended : status ≡ expected_run.status
  pub written : console ≡ joined expected_run.strings
  pub counted : writes ≡ length expected_run.strings
  pub made : used ≡ expected_run.instructions

-- what an answer means for a planned run
abbrev pub AfterTurn : ExpectedRun → CallOutcome → Regs → View → List ℕ → ℕ → ℕ → Type 0
AfterTurn expected_run Wrote r v console writes used = Remains expected_run r v console writes used
AfterTurn expected_run (Ended status) r v console writes used = IsDone expected_run status console writes used
AfterTurn expected_run Stray r v console writes used = ⊥

-- an expected run whose calls come within a limit
pub record IsWithin (expected_run : ExpectedRun) (limit : ℕ) : Type 0 where
  pub fuel : expected_run.instructions ≤ limit
  pub small : expected_run.status ≤ 255

-- the words in a view follow an expected run from these registers on
pub record IsExpectedFrom (expected_run : ExpectedRun) (r : Regs) (v : View) : Type 0 where
  pub within : IsWithin expected_run fuel
  pub makes : Makes (calls_of expected_run.strings expected_run.places expected_run.status) r v expected_run.instructions
  pub lie : LieAt v expected_run.strings expected_run.places

-- a run that went as planned
abbrev pub RanAs : ExpectedRun → Option GuestRun → Type 0
RanAs expected_run None = ⊥
RanAs expected_run (Some run) = IsDone expected_run run.status run.console run.writes run.instructions

-- What an answer leaves of a planned run. nx_system will take its place.
use Rattle.std.proofs.Common.{◌≡◌, ℕ, ◌+◌, List, ◌++◌, length, Result, Ok, Err, IfOk, OnOk, sym, ap, ◌∙◌, subst, ◌⊎◌, ⊎_elim}
use Rattle.std.specs.declared.alloc.AllocError.{AllocError}
use Rattle.nx_base.specs.Registers.{with_reg}
use Rattle.nx_base.specs.Views.{View}
use Rattle.nx_rv.specs.Execution.{Call}
use Rattle.nx_machine.specs.declared.machine.Stop.{Stop}
use Rattle.nx_machine.specs.declared.machine.Stop.TheVariants as stop
use Rattle.nx_machine.specs.Outcome.{halt_of}
use Rattle.nx_top.specs.declared.first.guest.CallOutcome.{CallOutcome}
use Rattle.nx_top.specs.declared.first.guest.CallOutcome.TheVariants.{Wrote, Ended}
use Rattle.nx_top.specs.declared.first.guest.Guest.{Guest}
use Rattle.nx_top.specs.first.ExpectedRuns.{ExpectedRun, Remains, IsDone, AfterTurn}

abbrev pub After : ExpectedRun → CallOutcome → Guest → View → Type 0
After expected_run a g v = AfterTurn expected_run a g.machine v g.console g.writes g.count.used

-- the guest after a write
abbrev pub written : Guest → ℕ → List ℕ → Guest
written g count bytes = record g { machine = with_reg g.machine 10 count; console = g.console ++ bytes; writes = g.writes + 1 }

-- what holds for each expected run of whatever answer came
pub for_each_plan : (r : Result CallOutcome AllocError) (A B : ExpectedRun → Type 0) (C : ExpectedRun → CallOutcome → Type 0) → ((expected_run : ExpectedRun) → A expected_run → B expected_run → IfOk r (λ a. C expected_run a)) → IfOk r (λ a. (expected_run : ExpectedRun) → A expected_run → B expected_run → C expected_run a)
for_each_plan (Ok a) A B C h = h
for_each_plan (Err e) A B C h = tt

pub after_write : (r : Result CallOutcome AllocError) (expected_run : ExpectedRun) (g g' : Guest) (v new : View) (string : List ℕ) → new ≡ v → OnOk r ((r ≡ Ok Wrote) × (g' ≡ written g (length string) string))
    → Remains expected_run (with_reg g.machine 10 (length string)) v (g.console ++ string) (g.writes + 1) g.count.used → IfOk r (λ a. After expected_run a g' new)
after_write (Ok a) expected_run g g' v new string same h rest =
    let is : Wrote ≡ a = let e = h.0 in cc in
    let left : After expected_run Wrote (written g (length string) string) v = rest in
    subst (λ (b : CallOutcome). After expected_run b g' new) is (subst (λ (u : View). After expected_run Wrote g' u) (sym same) (subst (λ (x : Guest). After expected_run Wrote x v) (sym h.1) left))
after_write (Err e) expected_run g g' v new string same h rest = tt

pub after_end : (r : Result CallOutcome AllocError) (expected_run : ExpectedRun) (g g' : Guest) (v : View) (status : ℕ) → status ≡ expected_run.status → (r ≡ Ok (Ended status)) × (g' ≡ g)
    → IsDone expected_run expected_run.status g.console g.writes g.count.used → IfOk r (λ a. After expected_run a g' v)
after_end r expected_run g g' v status same h done =
    let left : IfOk {E = AllocError} (Ok (Ended expected_run.status)) (λ a. After expected_run a g v) = done in
    subst (λ (x : Result CallOutcome AllocError). IfOk x (λ a. After expected_run a g' v)) (ap (λ n. Ok (Ended n)) (sym same) ∙ sym h.0) (subst (λ (x : Guest). IfOk {E = AllocError} (Ok (Ended expected_run.status)) (λ a. After expected_run a x v)) (sym h.1) left)

-- a trap and the end of the fuel are no call
pub no_call : (s : Stop) → ((cause : ℕ) × (s ≡ stop.Trap cause)) ⊎ (s ≡ stop.Fuel) → halt_of s ≡ Call → ⊥
no_call stop.Call h e = ⊎_elim (λ p. let q = p.1 in cc) (λ q. cc) h
no_call (stop.Trap cause) h e = cc
no_call stop.Fuel h e = cc

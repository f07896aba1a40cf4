-- What holds of every call, in few words.
use Rattle.std.specs.Prelude.{◌≡◌, ◌↔◌, ℕ, ◌+◌, false, List, [], ◌++◌, Option}
use Rattle.std.specs.List.{list_any}
use Rattle.std.specs.Option.{is_some}
use Rattle.nx_base.specs.declared.calls.KCall.{KCall}
use Rattle.nx_ksys.specs.State.{KernelState}
use Rattle.nx_ksys.specs.Step.{step, meant_words}
use Rattle.nx_ksys.specs.declared.pick.Pick.TheVariants.{Run, Ended}
use Rattle.nx_ksys.specs.Picking.{picked}

-- one list is another with more after it
abbrev pub Begins : List ℕ → List ℕ → Type 0
Begins front whole = (more : List ℕ) × (whole ≡ front ++ more)

-- a call counts one
abbrev pub CallsCountOne : Type 0
CallsCountOne = (k : KernelState) (thread : ℕ) (which : Option KCall) (words : List ℕ) (inputs : List (List ℕ)) → (step k thread which words inputs).to.calls ≡ k.calls + 1

-- what the console showed stays, and more may come after it
abbrev pub ConsolesGrow : Type 0
ConsolesGrow = (k : KernelState) (thread : ℕ) (which : Option KCall) (words : List ℕ) (inputs : List (List ℕ)) → Begins k.console (step k thread which words inputs).to.console

-- a call's pointers, and a new thread's entry, mean nothing
abbrev pub PointersMeanNothing : Type 0
PointersMeanNothing = (k : KernelState) (thread : ℕ) (which : Option KCall) (words : List ℕ) (inputs : List (List ℕ)) → step k thread which (meant_words which words) inputs ≡ step k thread which words inputs

-- choosing a thread makes no call, writes nothing, and ends no group
pub record IsStill (k l : KernelState) : Type 0 where
  pub calls : l.calls ≡ k.calls
  pub console : l.console ≡ k.console
  pub ended : l.ended ≡ k.ended
  pub groups : l.groups ≡ k.groups

abbrev pub PickingIsStill : Type 0
PickingIsStill = (k : KernelState) → IsStill k (picked k).to

-- where a thread is chosen, choosing again chooses the same, and changes nothing
abbrev pub ChosenAgain : Type 0
ChosenAgain = (k : KernelState) (thread : ℕ) → (picked k).pick ≡ Run thread → picked (picked k).to ≡ record { to = (picked k).to; replies = []; pick = Run thread }

-- where none is chosen for want of a group, there is none
abbrev pub EndedWithoutGroups : Type 0
EndedWithoutGroups = (k : KernelState) → ((picked k).pick ≡ Ended) ↔ (list_any is_some k.groups ≡ false)

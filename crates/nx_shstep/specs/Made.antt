-- A call of the shell as the kernel is told of it.
use Rattle.std.specs.Prelude.{◌≡◌, List, ℕ, [], ◌∷◌, Some}
use Rattle.nx_base.specs.declared.calls.KCall.{KCall}
use Rattle.nx_ksys.specs.declared.cooked.Cooked.{Cooked}
use Rattle.nx_ksys.specs.Telling.{both}
use Rattle.nx_shrun.specs.Calls.{Call}
use Rattle.nx_shstep.specs.declared.made.Inputs.{Inputs}
use Rattle.nx_shstep.specs.declared.made.Inputs.TheVariants.{Neither, First, Both}

-- The kernel is told a call: which it is, its words, and its inputs, of which there are at most two.
pub record Tells (q : Call) (told : Cooked) : Type 0 where
  pub call : told.call ≡ Some q.which
  pub words : told.words ≡ q.words
  pub inputs : told.first ∷ told.second ∷ [] ≡ both q.inputs

-- The inputs that there are, of two.
abbrev pub inputs_of : Inputs → List ℕ → List ℕ → List (List ℕ)
inputs_of Neither first second = []
inputs_of First first second = first ∷ []
inputs_of Both first second = first ∷ second ∷ []

abbrev pub call_of : KCall → Inputs → Cooked → Call
call_of which inputs told = record { which = which; words = told.words; inputs = inputs_of inputs told.first told.second }

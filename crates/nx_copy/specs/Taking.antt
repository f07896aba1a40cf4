-- Inputs that are taken one after another.
use Rattle.std.specs.Prelude.{◌≡◌, ℕ, zero, suc, Bool, true, false, List, [], ◌∷◌, Result, Ok}
use Rattle.nx_base.specs.declared.calls.Kind.{Kind}
use Rattle.nx_base.specs.declared.calls.Kind.TheVariants.{In, Text}
use Rattle.nx_ksys.specs.Telling.{both}

-- Whether the call reads what a parameter leads to.
abbrev pub is_input : Kind → Bool
is_input In = true
is_input Text = true
is_input other = false

-- How many inputs are among parameters of these kinds.
abbrev pub inputs : List Kind → ℕ
inputs [] = 0
inputs (In ∷ kinds) = suc (inputs kinds)
inputs (Text ∷ kinds) = suc (inputs kinds)
inputs (other ∷ kinds) = inputs kinds

-- The inputs that one parameter has.
abbrev pub one_input : Kind → List ℕ → List (List ℕ)
one_input In bytes = bytes ∷ []
one_input Text bytes = bytes ∷ []
one_input other bytes = []

-- Of two inputs the first, or the second where one was taken before; and the other one.
abbrev pub the_next : ℕ → List ℕ → List ℕ → List ℕ
the_next zero first second = first
the_next (suc n) first second = second

abbrev pub the_other : ℕ → List ℕ → List ℕ → List ℕ
the_other zero first second = second
the_other (suc n) first second = first

-- What was read are all inputs of a call, of which there are at most two.
pub record AreAll (read : Result (List (List ℕ)) ℕ) (all : List (List ℕ)) : Type 0 where
  pub inputs_read : List (List ℕ)
  pub is : read ≡ Ok inputs_read
  pub all_of : all ≡ both inputs_read

-- Of two outputs the first, or the second where one was put before, and no bytes after both.
abbrev pub the_output : ℕ → List ℕ → List ℕ → List ℕ
the_output zero first second = first
the_output (suc zero) first second = second
the_output (suc (suc n)) first second = []

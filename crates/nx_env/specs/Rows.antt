-- What a call on the environment is told, as the state and the replies that it leaves.
use Rattle.std.specs.Prelude.{ℕ, List, [], ◌∷◌, Option, Some, None, Result, Ok, Err}
use Rattle.arrayvec.specs.ArrayVec.{ArrayVec}
use Rattle.nx_base.specs.declared.errno.Errno.{Errno}
use Rattle.nx_base.specs.declared.errno.Errno.TheVariants.{Enoent}
use Rattle.nx_ksys.specs.State.{KernelState}
use Rattle.nx_ksys.specs.Answers.{Stepped, Caller, replied, failed, text_out}

-- a value, if the variable is there
abbrev pub value_told : KernelState → Caller → ℕ → Option (List ℕ) → Stepped
value_told k c size None = failed k c Enoent
value_told k c size (Some value) = text_out k c size value

-- a change of the environment was made, or why it wasn't
abbrev pub done : KernelState → Caller → Result Unit Errno → Stepped
done k c (Err e) = failed k c e
done k c (Ok nothing) = replied k c 0 []

-- a variable as a text, or none where there are no more
abbrev pub variable_told : KernelState → Caller → ℕ → Result (Option (ArrayVec ℕ)) Errno → Stepped
variable_told k c size (Err e) = failed k c e
variable_told k c size (Ok None) = replied k c 0 ([] ∷ [])
variable_told k c size (Ok (Some text)) = text_out k c size text.items

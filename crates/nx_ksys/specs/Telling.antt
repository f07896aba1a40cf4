-- What a call tells a thread.
use Rattle.std.specs.Prelude.{ℕ, ◌-◌, ◌^◌, nat_abs, List, [], ◌∷◌}
use Rattle.nx_base.specs.Calls.{Reply}
use Rattle.nx_base.specs.ErrorNumbers.{number_of}
use Rattle.nx_base.specs.declared.errno.Errno.{Errno}

-- the number of an error, and the word -1
abbrev pub error_number : Errno → ℕ
error_number e = nat_abs (number_of e)

abbrev pub minus_one : ℕ
minus_one = 2 ^ 32 - 1

-- a call has at most two outputs; one that it hasn't is empty
abbrev pub both : List (List ℕ) → List (List ℕ)
both [] = [] ∷ [] ∷ []
both (first ∷ []) = first ∷ [] ∷ []
both (first ∷ second ∷ outputs) = first ∷ second ∷ []

abbrev pub reply : ℕ → ℕ → List (List ℕ) → Reply
reply thread value outputs = record { thread = thread; value = value; errno = 0; outputs = both outputs }

abbrev pub failure : ℕ → Errno → Reply
failure thread e = record { thread = thread; value = minus_one; errno = error_number e; outputs = both [] }

-- The outputs of a reply, and the call that they fit.
use Rattle.std.specs.Prelude.{◌≡◌, ℕ, ◌≤◌, min, List, [], ◌∷◌, length}
use Rattle.nx_base.specs.declared.calls.Kind.{Kind}
use Rattle.nx_base.specs.declared.calls.Kind.TheVariants.{Out, Out4, Out8}

-- a call moves at most so many bytes of a buffer
abbrev pub most_moved : ℕ
most_moved = 4096

-- the word of the next parameter
abbrev pub next_word : List ℕ → ℕ
next_word [] = 0
next_word (word ∷ words) = word

-- how many bytes each output of a call takes at most, in the order of its parameters, whose words these are
abbrev pub output_rooms : List Kind → List ℕ → List ℕ
output_rooms (Out ∷ kinds) (at ∷ words) = min (next_word words) most_moved ∷ output_rooms kinds words
output_rooms (Out4 ∷ kinds) (at ∷ words) = 4 ∷ output_rooms kinds words
output_rooms (Out8 ∷ kinds) (at ∷ words) = 8 ∷ output_rooms kinds words
output_rooms (other ∷ kinds) (word ∷ words) = output_rooms kinds words
output_rooms kinds words = []

-- outputs that each have their room, and no bytes where there is none
abbrev pub HaveRoom : List ℕ → List (List ℕ) → Type 0
HaveRoom rooms [] = Unit {0}
HaveRoom [] (output ∷ outputs) = (output ≡ []) × HaveRoom [] outputs
HaveRoom (room ∷ rooms) (output ∷ outputs) = (length output ≤ room) × HaveRoom rooms outputs

-- a reply with these outputs fits a call with parameters of these kinds and words
abbrev pub FitsCall : List Kind → List ℕ → List (List ℕ) → Type 0
FitsCall kinds words outputs = HaveRoom (output_rooms kinds words) outputs

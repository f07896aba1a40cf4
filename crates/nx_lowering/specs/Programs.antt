-- The slot program of a checked file.
use Rattle.std.specs.Prelude.{◌≡◌, ℕ, ◌-◌, ◌%◌, List, [], ◌∷◌, ◌++◌, All, length, replicate}
use Rattle.nx_base.specs.ByteLists.{to_le}
use Rattle.nx_checked.specs.declared.checked.Checked.{Checked}
use Rattle.nx_checked.specs.Frames.{frame_of}
use Rattle.nx_cobjects.specs.Groups.{Object, Group}
use Rattle.nx_cobjects.specs.Starts.{first_group}
use Rattle.nx_slot.specs.declared.program.SlotProgram.{SlotProgram}
use Rattle.nx_lower.specs.Bodies.{lowered}
use Rattle.nx_lowerexpr.specs.Sources.{source_of}

-- A call of each function takes the bytes that its cells and arrays need.
abbrev pub HasFrames : Checked → Type 0
HasFrames p = All (λ g. g.frame ≡ frame_of g) p.functions

-- Variables, each in a word.
abbrev pub scalars_bytes : List ℕ → List ℕ
scalars_bytes [] = []
scalars_bytes (n ∷ ns) = to_le 4 n ++ scalars_bytes ns

-- Bytes with zeros after them to a whole word.
abbrev pub in_words : List ℕ → List ℕ
in_words bytes = bytes ++ replicate ((4 - length bytes % 4) % 4) 0

abbrev pub arrays_bytes : List Object → List ℕ
arrays_bytes [] = []
arrays_bytes (o ∷ os) = in_words o.bytes ++ arrays_bytes os

abbrev pub texts_bytes : List Object → List ℕ
texts_bytes [] = []
texts_bytes (o ∷ os) = o.bytes ++ texts_bytes os

-- The bytes of a group's variables and arrays, and those of its texts.
abbrev pub global_bytes : Group → List ℕ
global_bytes g = scalars_bytes g.scalars ++ arrays_bytes g.arrays

abbrev pub literal_bytes : Group → List ℕ
literal_bytes g = texts_bytes g.texts

-- Its functions in their order, its main function, and the first bytes of its objects.
abbrev pub lowered_program : Checked → SlotProgram
lowered_program p = record {
  functions = lowered (source_of p);
  main = p.main;
  globals = global_bytes (first_group p);
  literals = literal_bytes (first_group p);
}

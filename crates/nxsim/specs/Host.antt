-- What the host's readers and writers give and take, where they tell their bytes.
use Rattle.std.specs.Prelude.{◌≡◌, ℕ, ◌+◌, ◌<◌, List, ◌++◌, length, take, Option, Some, None, Result, Ok, Err}
use Rattle.std.specs.Io.KnownBytes.{Consumes, Appends, IsAtEnd}
use Rattle.nx_outside.specs.declared.files.FileStop.{FileStop}
use Rattle.nx_outside.specs.declared.files.FileStop.TheVariants.{TooLong}
use Rattle.nx_outside.specs.Outside.{IsPrefixOf, longest}
use Rattle.nx_outside.specs.Fakes.{next}

-- the faults after a call: one more where it erred
abbrev pub faults_after : {T E : Type 0} → Result T E → ℕ → ℕ
faults_after (Ok _) n = n
faults_after (Err _) n = next n

-- what a reader had left where it tells that, and the bytes that reading it to its end handed out:
-- all of them, or too many, or a prefix before the call erred
abbrev pub ReadToEnd : {T : Type 0} → Result T FileStop → Option (List ℕ) → List ℕ → Type 0
ReadToEnd r None bytes = Unit {0}
ReadToEnd (Ok _) (Some left) bytes = bytes ≡ left
ReadToEnd (Err TooLong) (Some left) bytes = (longest < length left) × (bytes ≡ take (longest + 1) left)
ReadToEnd (Err _) (Some left) bytes = IsPrefixOf bytes left

-- a read appended so many bytes to those before, and none only at the reader's end
pub record TakesPiece (old new : Option (List ℕ)) (before after : List ℕ) (count : ℕ) : Type 0 where
  pub piece : List ℕ
  pub counted : length piece ≡ count
  pub appended : after ≡ before ++ piece
  pub consumed : Consumes old new piece
  pub ended : count ≡ 0 → IsAtEnd new

-- a writer took a prefix of all the bytes, and the rest is left
pub record Takes (old new : Option (List ℕ)) (rest all : List ℕ) : Type 0 where
  pub taken : List ℕ
  pub splits : all ≡ taken ++ rest
  pub appended : Appends old new taken

-- a writer took all of the bytes, or a prefix of them where the call erred
abbrev pub Sends : {T E : Type 0} → Result T E → Option (List ℕ) → Option (List ℕ) → List ℕ → Type 0
Sends (Ok _) old new bytes = Appends old new bytes
Sends (Err _) old new bytes = (rest : List ℕ) × Takes old new rest bytes

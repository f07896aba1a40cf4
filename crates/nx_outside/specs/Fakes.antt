-- What the files and the sink in memory hold, and which of their calls fail.
use Rattle.std.specs.Prelude.{ℕ, ◌≡◌, ◌+◌, ◌-◌, ◌^◌, ◌<◌, ◌⊎◌, min, List, map, length, Contains, None, Result, Ok, Err}
use Rattle.std.specs.String.{string_bytes}
use Rattle.std.specs.declared.string.String.{String}
use Rattle.std.specs.declared.vec.Vec.{Vec}
use Rattle.nx_outside.specs.declared.files.FileStop.{FileStop}
use Rattle.nx_outside.specs.declared.files.FileStop.TheVariants.{Failed}
use Rattle.nx_outside.specs.Outside.{Told, content_of}

-- files in memory: what they tell, the numbers of the reads that fail, and how many reads and faults there were
pub record FilesHeld : Type 0 where
  pub told : Told
  pub fails : List ℕ
  pub calls : ℕ
  pub faults : ℕ

-- a sink in memory: its bytes, the numbers of the puts that fail, how many bytes such a put keeps,
-- the room for all bytes, and how many puts and faults there were
pub record SinkHeld : Type 0 where
  pub bytes : List ℕ
  pub fails : List ℕ
  pub keep : ℕ
  pub room : ℕ
  pub calls : ℕ
  pub faults : ℕ

-- the next number of a count that stays at its end
abbrev pub next : ℕ → ℕ
next n = min (n + 1) (2 ^ 64 - 1)

-- names with their contents, as lists of bytes
abbrev pub files_seen : {A B : Type 0} → List (String A × Vec ℕ B) → List (List ℕ × List ℕ)
files_seen es = map (λ e. (string_bytes e.0, e.1.items)) es

-- the next read, of this name, fails: its number is listed, or no entry has the name
abbrev pub FailsRead : FilesHeld → List ℕ → Type 0
FailsRead m name = Contains m.fails (next m.calls) ⊎ (content_of m.told.contents name ≡ None)

-- the faults after a read
abbrev pub read_faults : {T : Type 0} → Result T FileStop → ℕ → ℕ
read_faults (Err Failed) n = next n
read_faults _ n = n

-- the next put, of this piece, fails: its number is listed, or the piece exceeds the room left
abbrev pub FailsPut : SinkHeld → List ℕ → Type 0
FailsPut m piece = Contains m.fails (next m.calls) ⊎ (m.room < length m.bytes + length piece)

-- how many bytes a put that fails appends at most
abbrev pub kept : SinkHeld → ℕ
kept m = min m.keep (m.room - length m.bytes)

-- the faults after a put
abbrev pub put_faults : {T E : Type 0} → Result T E → ℕ → ℕ
put_faults (Ok _) n = n
put_faults (Err _) n = next n

-- What is read of a list of files, one after the other. Of a file that is longer than 1,048,576 bytes nothing is kept: its content is none.
use Rattle.std.specs.Prelude.{◌≡◌, ℕ, ◌+◌, ◌≤◌, nat_lt, Bool, true, if◌then◌else◌, All, List, [], ◌∷◌, length, take, map, slice_get, Option, Some, None, IsSome, IfSome, Result, Ok, Err}
use Rattle.nx_outside.specs.Outside.{Told, Asked, Rose, IsLong, content_of, longest}
use Rattle.nx_outside.specs.declared.files.FileStop.{FileStop}
use Rattle.nx_outside.specs.declared.files.FileStop.TheVariants.{Failed, TooLong, Memory}

-- what the reading of told files comes to: the contents of all, or the first file that is missing, or the first that is too long where that ends the reading
pub data Outcome : Type 0 where
  AllRead : List (Option (List ℕ)) → Outcome
  Missing : List ℕ → Outcome
  Long : List ℕ → Outcome

-- a content before those of the files after it
abbrev pub onto : Option (List ℕ) → Outcome → Outcome
onto content (AllRead contents) = AllRead (content ∷ contents)
onto content other = other

-- a file by its told content, before the files after it
abbrev pub read_before : Bool → List ℕ → Option (List ℕ) → Outcome → Outcome
read_before stops name None after = Missing name
read_before stops name (Some content) after =
    if nat_lt longest (length content) then (if stops then Long name else onto None after) else onto (Some content) after

-- the reading of told files in their order, where a file that is too long ends it or not
abbrev pub reading_of : Bool → Told → List (List ℕ) → Outcome
reading_of stops t [] = AllRead []
reading_of stops t (name ∷ names) = read_before stops name (content_of t.contents name) (reading_of stops t names)

-- what is kept of a content
abbrev pub held_of : Option (List ℕ) → Option (Option (List ℕ))
held_of None = None
held_of (Some content) = Some (if nat_lt longest (length content) then None else Some content)

-- what was read under these names, where it is told
abbrev pub GotAll : Option Told → List (List ℕ) → List (Option (List ℕ)) → Type 0
GotAll None names got = Unit {0}
GotAll (Some t) names got = map (λ n. held_of (content_of t.contents n)) names ≡ map Some got

-- a content that is kept is no longer than a read hands out
abbrev pub IsShort : Option (List ℕ) → Type 0
IsShort content = IfSome content (λ text. length text ≤ longest)

-- a file is too long, where that is told
abbrev pub IsLongThere : Option Told → List ℕ → Type 0
IsLongThere None name = Unit {0}
IsLongThere (Some t) name = IsLong t name

-- the contents of files, of which none is too long where that ends the reading
pub record AreContents (stops : Bool) (names : List (List ℕ)) (told : Option Told) (contents : List (Option (List ℕ))) : Type 0 where
  pub each : length contents ≡ length names
  pub held : GotAll told names contents
  pub short : All IsShort contents
  pub go_on : stops ≡ true → All IsSome contents

-- all files were asked, in their order, and these are their contents
pub record HaveContents (stops : Bool) (names : List (List ℕ)) (contents : List (Option (List ℕ))) (old new : Option Told) : Type 0 where
  pub asked : Asked old new names
  pub are : AreContents stops names old contents

-- reading stopped at a file: it was asked last, after those before it, which have these contents
pub record StopsAt (stops : Bool) (names : List (List ℕ)) (name : List ℕ) (old new : Option Told) : Type 0 where
  pub contents : List (Option (List ℕ))
  pub named : slice_get names (length contents) ≡ Some name
  pub asked : Asked old new (take (length contents + 1) names)
  pub before : AreContents stops (take (length contents) names) old contents

-- reading stopped at a file that is too long
pub record StopsAtLong (stops : Bool) (names : List (List ℕ)) (name : List ℕ) (old new : Option Told) : Type 0 where
  pub ends : stops ≡ true
  pub at : StopsAt stops names name old new
  pub long : IsLongThere old name

-- why reading stopped at a file; out of memory says nothing
abbrev pub IsStop : FileStop → Bool → List ℕ → List (List ℕ) → Option Told → Option Told → ℕ → ℕ → Type 0
IsStop Failed stops name names old new before now = StopsAt stops names name old new × Rose before now
IsStop TooLong stops name names old new before now = StopsAtLong stops names name old new
IsStop Memory stops name names old new before now = Unit {0}

-- one file was read, or why not
abbrev pub ReadsOne : Bool → Result (Option (List ℕ)) FileStop → Option Told → Option Told → List ℕ → ℕ → ℕ → Type 0
ReadsOne stops (Ok got) old new name before now = Asked old new (name ∷ []) × GotAll old (name ∷ []) (got ∷ []) × IsShort got × (stops ≡ true → IsSome got) × (before ≤ now)
ReadsOne stops (Err Failed) old new name before now = Asked old new (name ∷ []) × Rose before now
ReadsOne stops (Err TooLong) old new name before now = (stops ≡ true) × Asked old new (name ∷ []) × IsLongThere old name
ReadsOne stops (Err Memory) old new name before now = Unit {0}

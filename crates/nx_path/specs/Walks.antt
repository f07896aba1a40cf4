-- A text that is read byte by byte: the parts that are kept so far, the last one first, and the part that is read.
use Rattle.std.specs.Prelude.{ℕ, ◌≡◌, ◌+◌, ◌==◌, ◌&&◌, ◌||◌, nat_le, if◌then◌else◌, List, [], ◌∷◌, ◌++◌, length, Option, Some, None, fold, codes}
use Rattle.std.specs.List.{list_all}
use Rattle.std.specs.Str.{bytes_eq}
use Rattle.nx_ksys.specs.Paths.{from_directory}

pub record Walk : Type 0 where
  pub kept : List (List ℕ)
  pub part : List ℕ

abbrev pub start : Walk
start = record { kept = []; part = [] }

abbrev pub without_last : List (List ℕ) → List (List ℕ)
without_last [] = []
without_last (p ∷ ps) = ps

-- the kept parts once a part has ended
abbrev pub after_part : List (List ℕ) → List ℕ → List (List ℕ)
after_part kept part =
    if bytes_eq part [] || bytes_eq part (codes ".") then kept
    else if bytes_eq part (codes "..") then without_last kept
    else part ∷ kept

-- a slash ends a part
abbrev pub after_byte : Walk → ℕ → Walk
after_byte w byte = if byte == 47 then record { kept = after_part w.kept w.part; part = [] } else record { kept = w.kept; part = w.part ++ byte ∷ [] }

abbrev pub walked : Walk → List (List ℕ)
walked w = after_part w.kept w.part

-- the text of kept parts, each after a slash
abbrev pub text_of : List (List ℕ) → List ℕ
text_of [] = []
text_of (p ∷ ps) = text_of ps ++ 47 ∷ p

abbrev pub lengths_of : List (List ℕ) → List ℕ
lengths_of [] = []
lengths_of (p ∷ ps) = lengths_of ps ++ length p ∷ []

-- the text of kept parts, if they and it are short enough
abbrev pub checked : List (List ℕ) → Option (List ℕ)
checked kept = if list_all (λ p. nat_le (length p) 32) kept && nat_le (length (text_of kept)) 255 then Some (text_of kept) else None

abbrev pub checked_walk : List ℕ → List ℕ → Option (List ℕ)
checked_walk directory text = checked (walked (fold after_byte start (from_directory directory text)))

-- what the code has of a walk: the text of the kept parts, their lengths, and the part
pub record IsWalk (bytes counts read : List ℕ) (w : Walk) : Type 0 where
  pub text : bytes ≡ text_of w.kept
  pub lengths : counts ≡ lengths_of w.kept
  pub part : read ≡ w.part

-- how many bytes the last part has, with so many of them read
abbrev pub last_count : ℕ → List ℕ → ℕ
last_count n [] = n
last_count n (b ∷ bs) = last_count (if b == 47 then 0 else n + 1) bs

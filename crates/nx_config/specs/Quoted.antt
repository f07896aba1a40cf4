-- A text in double quotes.
use Rattle.std.specs.Prelude.{ℕ, ◌==◌, Bool, true, false, if◌then◌else◌, List, [], ◌∷◌, ◌++◌, Option, None, Some}

-- bytes before what a text turned out to be, if it is one
abbrev pub before : List ℕ → Option (List ℕ) → Option (List ℕ)
before xs None = None
before xs (Some ys) = Some (xs ++ ys)

-- the empty text where nothing follows
abbrev pub ended : List ℕ → Option (List ℕ)
ended [] = Some []
ended (b ∷ bs) = None

-- the text up to the closing quote, after which nothing stands; a byte after a backslash stands for itself
abbrev pub quoted : Bool → List ℕ → Option (List ℕ)
quoted escaped [] = None
quoted true (b ∷ bs) = before (b ∷ []) (quoted false bs)
quoted false (b ∷ bs) =
    if b == 92 then quoted true bs else if b == 34 then ended bs else before (b ∷ []) (quoted false bs)

-- Lists of parts, read one after the other.
use Rattle.std.specs.Prelude.{Bool, false, List, [], ◌∷◌, ◌++◌, if◌then◌else◌}
use Rattle.nx_grammar.specs.Reading.{Reading, Pick, Pass, then_pick, done}

-- One part more at a list's end.
abbrev pub add : {T A : Type 0} → List A → A → Reading T (List A)
add xs x = done (xs ++ x ∷ [])

-- One part more, unless the next token ends the list.
abbrev pub more_pick : {T A : Type 0} → (T → Bool) → (T → Pick T A) → List A → T → Pick T (List A)
more_pick ends one xs t = if ends t then Pass xs else then_pick (one t) (add xs)

-- Whether a token that ends the list stands first.
abbrev pub is_over : {T : Type 0} → (T → Bool) → List T → Bool
is_over ends [] = false
is_over ends (t ∷ ts) = ends t

-- Blanks, comments and lines.
use Rattle.std.specs.Prelude.{ℕ, zero, suc, ◌+◌, ◌-◌, ◌==◌, Bool, true, false, ◌&&◌, ◌||◌, List, [], ◌∷◌, length, Option, None, Some, if◌then◌else◌}
use Rattle.std.specs.Option.{option_map}
use Rattle.nx_base.specs.TextBytes.{is_line_blank}
use Rattle.nx_ctok.specs.Spellings.{is_source_byte}

-- How many newlines there are.
abbrev pub newlines : List ℕ → ℕ
newlines [] = 0
newlines (b ∷ bs) = if b == 10 then suc (newlines bs) else newlines bs

-- The line on which the rest of a text begins: 1 plus the newlines before it.
abbrev pub line_at : List ℕ → List ℕ → ℕ
line_at text rest = 1 + (newlines text - newlines rest)

-- What stands after the first "*/".
unfoldable pub after_close : List ℕ → Option (List ℕ)
after_close [] = None
after_close (a ∷ []) = None
after_close (a ∷ b ∷ bs) = if a == 42 && b == 47 then Some bs else after_close (b ∷ bs)

-- A line's newline and what stands after it.
unfoldable pub from_newline : List ℕ → List ℕ
from_newline [] = []
from_newline (b ∷ bs) = if b == 10 then b ∷ bs else from_newline bs

-- The comment at the start of a text (C11 6.4.9): there is none, it is never closed, or this stands after it.
pub data Comment : Type 0 where
  Absent : Comment
  Open : Comment
  Closed : List ℕ → Comment

-- A comment that "/*" begins.
abbrev pub block : Option (List ℕ) → Comment
block None = Open
block (Some rest) = Closed rest

-- The comment at the start of a text: "/*" up to "*/", or "//" up to the line's end.
abbrev pub comment_at : List ℕ → Comment
comment_at [] = Absent
comment_at (a ∷ []) = Absent
comment_at (a ∷ b ∷ bs) =
    if a == 47 && b == 42 then block (after_close bs)
    else if a == 47 && b == 47 then Closed (from_newline bs)
    else Absent

-- What stands after a comment that ends on the line where it begins.
abbrev pub on_its_line : List ℕ → Comment → Option (List ℕ)
on_its_line bytes Absent = None
on_its_line bytes Open = None
on_its_line bytes (Closed rest) = if newlines rest == newlines bytes then Some rest else None

-- What stands after a blank of a directive's line: a space, a tab, a carriage return, or a comment on the line.
abbrev pub after_one_blank : List ℕ → Option (List ℕ)
after_one_blank [] = None
after_one_blank (b ∷ bs) = if is_line_blank b then Some bs else on_its_line (b ∷ bs) (comment_at (b ∷ bs))

-- What stands after a source byte, or after a comment on the line.
abbrev pub after_either : ℕ → List ℕ → Comment → Option (List ℕ)
after_either b bs Absent = if is_source_byte b then Some bs else None
after_either b bs Open = None
after_either b bs (Closed rest) = on_its_line (b ∷ bs) (Closed rest)

-- What stands after a byte of an ignored line, or after a comment on the line.
abbrev pub after_one_ignored : List ℕ → Option (List ℕ)
after_one_ignored [] = None
after_one_ignored (b ∷ bs) = after_either b bs (comment_at (b ∷ bs))

-- A step goes on after what it took; where it takes nothing the bytes stay.
abbrev pub go_on : Option (List ℕ) → List ℕ → (List ℕ → List ℕ) → List ℕ
go_on None bytes on = bytes
go_on (Some rest) bytes on = on rest

-- What is left where a step is made as often as it can be, at most so many times.
unfoldable pub steps : (List ℕ → Option (List ℕ)) → ℕ → List ℕ → List ℕ
steps step zero bytes = bytes
steps step (suc n) bytes = go_on (step bytes) bytes (steps step n)

-- What is left where a step that takes bytes is made as often as it can be.
unfoldable pub all_steps : (List ℕ → Option (List ℕ)) → List ℕ → List ℕ
all_steps step bytes = steps step (length bytes) bytes

-- What stands after the blanks.
abbrev pub after_blanks : List ℕ → List ℕ
after_blanks = all_steps after_one_blank

-- What stands after one or more blanks.
abbrev pub gap : List ℕ → Option (List ℕ)
gap bytes = option_map after_blanks (after_one_blank bytes)

-- Whether a comment is closed.
abbrev pub is_closed : Comment → Bool
is_closed (Closed rest) = true
is_closed other = false

-- After its blanks a directive's line ends at a newline, at the text's end, or at a comment that is closed on a later line.
abbrev pub ends_line : List ℕ → Bool
ends_line [] = true
ends_line (b ∷ bs) = b == 10 || is_closed (comment_at (b ∷ bs))

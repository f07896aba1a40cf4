-- The bytes of a script, and its lines.
use Rattle.std.specs.Prelude.{ℕ, suc, ◌+◌, ◌-◌, ◌==◌, Bool, not, ◌&&◌, ◌||◌, nat_le, List, [], ◌∷◌, if◌then◌else◌}
use Rattle.nx_base.specs.TextBytes.{is_line_blank}

-- A tab, a newline, a carriage return, or a byte from 32 on except 127.
abbrev pub is_script_byte : ℕ → Bool
is_script_byte b = b == 9 || (b == 10 || (b == 13 || (nat_le 32 b && not (b == 127))))

-- What ends a word outside quotes: a blank, a newline, ";", "&" or ">".
abbrev pub ends_word : ℕ → Bool
ends_word b = is_line_blank b || (b == 10 || (b == 59 || (b == 38 || b == 62)))

-- How many newlines there are.
abbrev pub newlines : List ℕ → ℕ
newlines [] = 0
newlines (b ∷ bs) = if b == 10 then suc (newlines bs) else newlines bs

-- The line on which the rest of a text begins: 1 plus the newlines before it.
abbrev pub line_at : List ℕ → List ℕ → ℕ
line_at text rest = 1 + (newlines text - newlines rest)

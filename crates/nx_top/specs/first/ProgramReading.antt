-- How a program is read. nx_ctok and nx_cparse will take its place.
use Rattle.std.specs.Prelude.{◌≡◌, ℕ, zero, suc, ◌+◌, ◌-◌, ◌*◌, Bool, true, false, ◌&&◌, ◌==◌, nat_eq, nat_le, List, [], ◌∷◌, ◌++◌, length, drop, if◌then◌else◌, codes, Option, Some, None, Result, Ok, Err}
use Rattle.std.specs.Prelude.{not}
use Rattle.std.specs.List.{list_all, starts_with}
use Rattle.nx_top.specs.first.Program.{Program, is_gap_byte, begins_word, ends_word}
use Rattle.nx_top.specs.declared.first.program.ReadStop.{ReadStop}
use Rattle.nx_top.specs.declared.first.program.ReadStop.TheVariants as stop

infixl 10 ◌>>=◌
abbrev pub ◌>>=◌ : {A B : Type 0} → Option A → (A → Option B) → Option B
(Some x) >>= f = f x
None >>= f = None

-- what a function returned is what reading gives, unless memory ran out
abbrev pub Fails : {Y : Type 0} → ReadStop → Option Y → Type 0
Fails stop.Memory read = Unit {0}
Fails stop.Refused read = read ≡ None

abbrev pub AgreesWith : {X Y : Type 0} → (X → Y) → Result X ReadStop → Option Y → Type 0
AgreesWith view (Ok x) read = read ≡ Some (view x)
AgreesWith view (Err e) read = Fails e read

abbrev pub begins_blank : List ℕ → Bool
begins_blank [] = false
begins_blank (b ∷ bs) = is_gap_byte b

-- the bytes after the blanks
abbrev pub after_blanks : List ℕ → List ℕ
after_blanks [] = []
after_blanks (b ∷ bs) = if is_gap_byte b then after_blanks bs else b ∷ bs

-- the same, where a blank is wanted or not
unfoldable pub after_gap : Bool → List ℕ → Option (List ℕ)
after_gap wanted bytes = if wanted && not (begins_blank bytes) then None else Some (after_blanks bytes)

-- the bytes after a text
unfoldable pub after_text : List ℕ → List ℕ → Option (List ℕ)
after_text text bytes = if starts_with nat_eq bytes text then Some (drop (length text) bytes) else None

-- the bytes after a token, where a word stands right before or not
unfoldable pub after_token : Bool → List ℕ → List ℕ → Option (List ℕ)
after_token word token bytes = do
  rest ← after_gap (word && begins_word token) bytes
  after_text token rest

unfoldable pub after_tokens : Bool → List (List ℕ) → List ℕ → Option (List ℕ)
after_tokens word [] bytes = Some bytes
after_tokens word (token ∷ tokens) bytes = do
  rest ← after_token word token bytes
  after_tokens (ends_word token) tokens rest

abbrev pub is_digit : ℕ → Bool
is_digit b = nat_le 48 b && nat_le b 57

-- the number that goes on with these digits, and the bytes after it
unfoldable pub number_from : ℕ → List ℕ → Option (ℕ × List ℕ)
number_from n [] = Some (n, [])
number_from n (b ∷ bs) =
    if is_digit b then (if nat_le (n * 10 + (b - 48)) 255 then number_from (n * 10 + (b - 48)) bs else None)
    else Some (n, b ∷ bs)

abbrev pub begins_digit : List ℕ → Bool
begins_digit [] = false
begins_digit (b ∷ bs) = is_digit b

-- a number of at most 255, with no leading zero, and the bytes after it
unfoldable pub digits_at : List ℕ → Option (ℕ × List ℕ)
digits_at [] = None
digits_at (b ∷ bs) =
    if b == 48 then (if begins_digit bs then None else Some (0, bs))
    else if is_digit b then number_from (b - 48) bs
    else None

unfoldable pub number_at : Bool → List ℕ → Option (ℕ × List ℕ)
number_at word bytes = do
  rest ← after_gap word bytes
  digits_at rest

-- a byte that stands for itself in a string
abbrev pub is_plain : ℕ → Bool
is_plain b = nat_le 32 b && nat_le b 126 && not (b == 34) && not (b == 92)

-- the newline of an escape, and the bytes after it
abbrev pub escape_at : List ℕ → Option (ℕ × List ℕ)
escape_at [] = None
escape_at (b ∷ bs) = if b == 110 then Some (10, bs) else None

-- a byte of a string, and the bytes after it
unfoldable pub char_at : List ℕ → Option (ℕ × List ℕ)
char_at [] = None
char_at (b ∷ bs) = if b == 92 then escape_at bs else if is_plain b then Some (b, bs) else None

-- a string whose first bytes are read, where fewer than so many are still to come, and the bytes
-- after its closing quote
unfoldable pub string_from : ℕ → List ℕ → List ℕ → Option (List ℕ × List ℕ)
string_from zero text bytes = None
string_from (suc left) text [] = None
string_from (suc left) text (b ∷ bs) =
    if b == 34 then Some (text, bs)
    else (char_at (b ∷ bs) >>= λ c. string_from left (text ++ c.0 ∷ []) c.1)

abbrev pub not_empty : List ℕ × List ℕ → Option (List ℕ × List ℕ)
not_empty s = if nat_le 1 (length s.0) then Some s else None

-- a string of 1 to 255 bytes in its quotes, and the bytes after it
unfoldable pub string_at : List ℕ → Option (List ℕ × List ℕ)
string_at bytes = do
  rest ← after_token false (34 ∷ []) bytes
  s ← string_from 256 [] rest
  not_empty s

-- the bytes after the second comma of a write, where the number is the count
unfoldable pub write_end : ℕ → List ℕ → Option (List ℕ)
write_end count bytes = do
  rest ← after_tokens false (codes "," ∷ []) bytes
  number ← number_at false rest
  last ← after_tokens true (codes ")" ∷ codes ";" ∷ []) number.1
  if number.0 == count then Some last else None

-- what a write writes, and the bytes after it
unfoldable pub write_at : List ℕ → Option (List ℕ × List ℕ)
write_at bytes = do
  rest ← after_tokens false (codes "write" ∷ codes "(" ∷ codes "1" ∷ codes "," ∷ []) bytes
  s ← string_at rest
  last ← write_end (length s.0) s.1
  Some (s.0, last)

-- the program of these writes that returns what stands here
unfoldable pub end_of : List (List ℕ) → List ℕ → Option Program
end_of writes bytes = do
  number ← number_at true bytes
  last ← after_tokens true (codes ";" ∷ codes "}" ∷ []) number.1
  if list_all is_gap_byte last then Some (record { writes = writes; status = number.0 }) else None

-- the end where return stands here, and something else where not
abbrev pub end_or : Option (List ℕ) → List (List ℕ) → Option Program → Option Program
end_or (Some rest) writes other = end_of writes rest
end_or None writes other = other

-- the program whose first writes are read, where fewer than so many are still to come
unfoldable pub body_from : ℕ → List (List ℕ) → List ℕ → Option Program
body_from zero writes bytes = None
body_from (suc left) writes bytes =
    end_or (after_token false (codes "return") bytes) writes
    (write_at bytes >>= λ w. body_from left (writes ++ w.0 ∷ []) w.1)

unfoldable pub reading : List ℕ → Option Program
reading bytes = do
  rest ← after_tokens false (codes "int" ∷ codes "main" ∷ codes "(" ∷ codes "void" ∷ codes ")" ∷ codes "{" ∷ []) bytes
  body_from 17 [] rest

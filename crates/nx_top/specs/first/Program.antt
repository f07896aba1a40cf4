-- The programs that are built so far, and how they are spelled in C. nx_ctok and nx_ctree will take its place.
use Rattle.std.specs.Prelude.{◌≡◌, ◌≢◌, ℕ, ◌<◌, ◌≤◌, Bool, true, false, ◌&&◌, ◌||◌, ◌==◌, nat_le, List, [], ◌∷◌, ◌++◌, length, if◌then◌else◌, codes, All}
use Rattle.std.specs.Prelude.{not}
use Rattle.std.specs.List.{list_all, flat_map}
use Rattle.std.specs.Fmt.{decimal}
use Rattle.nx_base.specs.TextBytes.{is_word_byte}

-- a program writes strings, one after the other, and returns a status
pub record Program : Type 0 where
  pub writes : List (List ℕ)
  pub status : ℕ

-- a newline is written as a backslash and an n
abbrev pub escaped : ℕ → List ℕ
escaped b = if b == 10 then 92 ∷ 110 ∷ [] else b ∷ []

abbrev pub quoted : List ℕ → List ℕ
quoted string = 34 ∷ (flat_map escaped string ++ 34 ∷ [])

-- write ( 1 , STRING , N ) ;
unfoldable pub write_tokens : List ℕ → List (List ℕ)
write_tokens string =
    codes "write" ∷ codes "(" ∷ codes "1" ∷ codes "," ∷ quoted string ∷ codes "," ∷ decimal (length string) ∷ codes ")" ∷ codes ";" ∷ []

-- int main ( void ) { .. return V ; }
unfoldable pub tokens_of : Program → List (List ℕ)
tokens_of p =
    codes "int" ∷ codes "main" ∷ codes "(" ∷ codes "void" ∷ codes ")" ∷ codes "{"
    ∷ (flat_map write_tokens p.writes ++ codes "return" ∷ decimal p.status ∷ codes ";" ∷ codes "}" ∷ [])

-- a space or a newline
abbrev pub is_gap_byte : ℕ → Bool
is_gap_byte b = (b == 32) || (b == 10)

abbrev pub begins_word : List ℕ → Bool
begins_word [] = false
begins_word (b ∷ bs) = is_word_byte b

-- the last byte is a letter, a digit or an underscore
abbrev pub ends_word : List ℕ → Bool
ends_word [] = false
ends_word (b ∷ []) = is_word_byte b
ends_word (b ∷ c ∷ bs) = ends_word (c ∷ bs)

-- the bytes are these tokens with blanks between, before and after them, of which there is one at
-- least where two tokens would else be one; the test says whether a word stands right before
pub data Spelled : Bool → List (List ℕ) → List ℕ → Type 0 where
  Done : (word : Bool) (blanks : List ℕ) → list_all is_gap_byte blanks ≡ true → Spelled word [] blanks
  Next : (word : Bool) (blanks token rest : List ℕ) (tokens : List (List ℕ)) → list_all is_gap_byte blanks ≡ true
      → ((word && begins_word token) ≡ true → blanks ≢ []) → Spelled (ends_word token) tokens rest
      → Spelled word (token ∷ tokens) (blanks ++ token ++ rest)

-- a byte that a string may hold: a newline, or 32 to 126 without the double quote and the backslash
abbrev pub is_string_byte : ℕ → Bool
is_string_byte b = (b == 10) || (nat_le 32 b && nat_le b 126 && not (b == 34) && not (b == 92))

-- 1 to 255 such bytes
pub record IsString (string : List ℕ) : Type 0 where
  pub some : 0 < length string
  pub short : length string ≤ 255
  pub bytes : list_all is_string_byte string ≡ true

-- the bytes are a program of this kind
pub record IsProgram (bytes : List ℕ) (p : Program) : Type 0 where
  pub few : length p.writes ≤ 16
  pub strings : All IsString p.writes
  pub status : p.status ≤ 255
  pub spelled : Spelled false (tokens_of p) bytes

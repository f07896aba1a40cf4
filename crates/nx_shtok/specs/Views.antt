-- What the code's own types stand for, and what they leave of the bytes.
use Rattle.std.specs.Prelude.{◌≡◌, ℕ, ◌+◌, ◌<◌, ◌≤◌, ◌==◌, List, length, Result, Ok, Err, ◌⊎◌, if◌then◌else◌}
use Rattle.nx_shtok.specs.declared.part.Part.{Part}
use Rattle.nx_shtok.specs.declared.part.Part.TheVariants.{Byte, Status, Name}
use Rattle.nx_shtok.specs.declared.piece.Piece as code_piece
use Rattle.nx_shtok.specs.declared.piece.Piece.TheVariants as piece
use Rattle.nx_shtok.specs.declared.piece.Front as code_front
use Rattle.nx_shtok.specs.declared.piece.Front.TheVariants as front
use Rattle.nx_shtok.specs.declared.fault.ShKind.{ShKind}
use Rattle.nx_shtok.specs.declared.word.Quoted as code_word
use Rattle.nx_shtok.specs.declared.word.Quoted.TheVariants as quoted
use Rattle.nx_shtok.specs.declared.word.Spelling as code_spelling
use Rattle.nx_shtok.specs.declared.word.Spelling.TheVariants as spelling
use Rattle.nx_shtok.specs.declared.token.TokenKind.{TokenKind}
use Rattle.nx_shtok.specs.declared.token.TokenKind.TheVariants as kind
use Rattle.nx_shtok.specs.declared.start.Start as code_start
use Rattle.nx_shtok.specs.declared.start.Start.TheVariants as start
use Rattle.nx_shtok.specs.Bytes.{newlines}
use Rattle.nx_shtok.specs.Words.{Piece, Over, Gives, Wrong, Front, Opens, Plain, front_at, Spelled}
use Rattle.nx_shtok.specs.Tokens as tokens

-- How many newlines a part holds.
abbrev pub newline_of : Part → ℕ
newline_of (Byte b) = if b == 10 then 1 else 0
newline_of Status = 0
newline_of (Name name) = 0

-- What is left is no more, and so many newlines stand before it.
pub record IsAfter (count : ℕ) (rest bytes : List ℕ) : Type 0 where
  pub lines : newlines bytes ≡ count + newlines rest
  pub within : length rest ≤ length bytes

-- What is left is less, and so many newlines stand before it.
pub record IsLess (count : ℕ) (rest bytes : List ℕ) : Type 0 where
  pub lines : newlines bytes ≡ count + newlines rest
  pub less : length rest < length bytes

-- The piece that was found.
abbrev pub piece_seen : code_piece.Piece → Piece
piece_seen (piece.Over rest) = Over rest.now
piece_seen (piece.Gives p q rest) = Gives p q rest.now
piece_seen (piece.Wrong k) = Wrong k

-- What is left after it.
abbrev pub PieceLeft : code_piece.Piece → List ℕ → Type 0
PieceLeft (piece.Over rest) bytes = IsAfter 0 rest.now bytes
PieceLeft (piece.Gives p q rest) bytes = IsLess (newline_of p) rest.now bytes
PieceLeft (piece.Wrong k) bytes = Unit {0}

-- What is left after it in a quote, which has no newline.
abbrev pub QuoteLeft : code_piece.Piece → List ℕ → Type 0
QuoteLeft (piece.Over rest) bytes = IsAfter 0 rest.now bytes
QuoteLeft (piece.Gives p q rest) bytes = IsLess 0 rest.now bytes
QuoteLeft (piece.Wrong k) bytes = Unit {0}

-- What a word goes on with.
abbrev pub front_seen : code_front.Front → Front
front_seen (front.Opens kind rest) = Opens kind rest.now
front_seen (front.Plain p) = Plain (piece_seen p)

-- What is left after it.
abbrev pub FrontLeft : code_front.Front → List ℕ → Type 0
FrontLeft (front.Opens kind rest) bytes = IsLess 0 rest.now bytes
FrontLeft (front.Plain p) bytes = PieceLeft p bytes

-- What a quote came to.
abbrev pub quoted_seen : code_word.Quoted → Result (List Part × List ℕ) ShKind
quoted_seen (quoted.Closed ps rest) = Ok (ps, rest.now)
quoted_seen (quoted.Broken k) = Err k

-- What is left after it.
abbrev pub QuotedLeft : code_word.Quoted → List ℕ → Type 0
QuotedLeft (quoted.Closed ps rest) bytes = IsAfter 0 rest.now bytes
QuotedLeft (quoted.Broken k) bytes = Unit {0}

-- What a word came to.
abbrev pub word_seen : code_spelling.Spelling → Spelled
word_seen (spelling.Whole w rest lines) = Ok (w, rest.now)
word_seen (spelling.Broken k at) = Err (k, at.now)

-- What is left after a word with so many newlines; a word takes a byte, unless it is over at once.
pub record WordEnds (lines : ℕ) (rest bytes : List ℕ) : Type 0 where
  pub left : IsAfter lines rest bytes
  pub few : lines ≤ length bytes
  pub less : (length rest < length bytes) ⊎ (front_at bytes ≡ Plain (Over rest))

-- What is left after it.
abbrev pub WordLeft : code_spelling.Spelling → List ℕ → Type 0
WordLeft (spelling.Whole w rest lines) bytes = WordEnds lines rest.now bytes
WordLeft (spelling.Broken k at) bytes = Unit {0}

-- What a text begins with.
abbrev pub start_seen : code_start.Start → tokens.Start
start_seen (start.Skips rest) = tokens.Skips rest.now
start_seen (start.Marks k rest) = tokens.Marks k rest.now
start_seen start.Begins = tokens.Begins
start_seen (start.Wrong k) = tokens.Wrong k

-- How many newlines a token holds that is no word.
abbrev pub mark_lines : TokenKind → ℕ
mark_lines kind.Newline = 1
mark_lines other = 0

-- What is left after it.
abbrev pub StartLeft : code_start.Start → List ℕ → Type 0
StartLeft (start.Skips rest) bytes = IsLess 0 rest.now bytes
StartLeft (start.Marks k rest) bytes = IsLess (mark_lines k) rest.now bytes
StartLeft start.Begins bytes = Unit {0}
StartLeft (start.Wrong k) bytes = Unit {0}

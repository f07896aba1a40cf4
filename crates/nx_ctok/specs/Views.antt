-- What the scanner's own types stand for.
use Rattle.std.specs.Prelude.{◌≡◌, ℕ, ◌+◌, ◌<◌, List, map, length}
use Rattle.std.specs.Global.{Vec}
use Rattle.std.specs.Map.{lookup}
use Rattle.std.specs.Option.{option_or}
use Rattle.std.specs.Str.{bytes_eq}
use Rattle.nx_ctok.specs.declared.comment.Comment.TheVariants as code
use Rattle.nx_ctok.specs.declared.comment.Comment as code_comment
use Rattle.nx_ctok.specs.declared.piece.Piece as code_piece
use Rattle.nx_ctok.specs.declared.piece.Piece.TheVariants as at
use Rattle.nx_ctok.specs.declared.value.Value.{Value}
use Rattle.nx_ctok.specs.Comments.{newlines, Comment, Absent, Open, Closed}
use Rattle.nx_ctok.specs.Directives.{Piece, Space, Spelled, Define, Wrong}
use Rattle.nx_ctok.specs.Tokens.{Definitions, at_first}

-- The comment that was found.
abbrev pub comment_seen : code_comment.Comment → Comment
comment_seen code.Absent = Absent
comment_seen code.Open = Open
comment_seen (code.Closed rest lines) = Closed rest

-- What is left is less, and so many newlines stand before it.
pub record IsLeft (rest : List ℕ) (count : ℕ) (bytes : List ℕ) : Type 0 where
  pub lines : newlines bytes ≡ count + newlines rest
  pub less : length rest < length bytes

-- What is left after a comment.
abbrev pub CommentLeft : code_comment.Comment → List ℕ → Type 0
CommentLeft code.Absent bytes = Unit {0}
CommentLeft code.Open bytes = Unit {0}
CommentLeft (code.Closed rest lines) bytes = IsLeft rest lines bytes

-- What was found at the start of a text.
abbrev pub piece_seen : code_piece.Piece → Piece
piece_seen (at.Space rest lines) = Space rest
piece_seen (at.Spelled w) = Spelled w
piece_seen (at.Define d rest) = Define d rest
piece_seen (at.Wrong k) = Wrong k

-- What is left after it.
abbrev pub PieceLeft : code_piece.Piece → List ℕ → Type 0
PieceLeft (at.Space rest lines) bytes = IsLeft rest lines bytes
PieceLeft (at.Spelled w) bytes = IsLeft w.rest 0 bytes
PieceLeft (at.Define d rest) bytes = IsLeft rest 0 bytes
PieceLeft (at.Wrong k) bytes = Unit {0}

-- The entries of a map by their names' bytes.
abbrev pub named : {V : Type 0} → List (Vec ℕ × V) → List (List ℕ × V)
named es = map (λ e. (e.0.items, e.1)) es

-- The names that a table defines, besides the predefined ones.
unfoldable pub values_in : List (List ℕ × Value) → Definitions
values_in table name = option_or (lookup (bytes_eq name) table) (at_first name)

-- How the words of a command are expanded, name by name.
use Rattle.std.specs.Prelude.{ℕ, nat_lt, List, [], ◌∷◌, ◌++◌, length, Option, None, Some, map, decimal, if◌then◌else◌}
use Rattle.nx_shtok.specs.declared.part.Part.{Part}
use Rattle.nx_shtok.specs.declared.part.Part.TheVariants as part
use Rattle.nx_shtok.specs.declared.token.Word.{Word}
use Rattle.nx_shtree.specs.declared.tree.Redirection.{Redirection}
use Rattle.nx_shtree.specs.declared.tree.Simple.{Simple}

-- A piece of a command's words: a part of one, or the end of one.
pub data Piece : Type 0 where
  Of : (p : Part) → Piece
  Ends : Piece

abbrev pub pieces_of : Word → List Piece
pieces_of w = map Of w.parts ++ Ends ∷ []

abbrev pub pieces_in : List Word → List Piece
pieces_in [] = []
pieces_in (w ∷ ws) = pieces_of w ++ pieces_in ws

abbrev pub output_pieces : Option Redirection → List Piece
output_pieces None = []
output_pieces (Some r) = pieces_of r.file

-- All of a command's words, that of its redirection last.
abbrev pub all_pieces : Simple → List Piece
all_pieces c = pieces_in c.words ++ output_pieces c.output

-- What the words come to: all are there, or the value of a name is wanted, with the words so far, the one under way, and the pieces after the name.
pub data Spread : Type 0 where
  Whole : (words : List (List ℕ)) → Spread
  Wants : (name : List ℕ) (words : List (List ℕ)) (word : List ℕ) (rest : List Piece) → Spread

-- Words from left to right. A name of over 255 bytes is the empty text and isn't asked for.
abbrev pub spread : ℕ → List (List ℕ) → List ℕ → List Piece → Spread
spread status ws w [] = Whole ws
spread status ws w (Ends ∷ ps) = spread status (ws ++ w ∷ []) [] ps
spread status ws w (Of (part.Byte b) ∷ ps) = spread status ws (w ++ b ∷ []) ps
spread status ws w (Of part.Status ∷ ps) = spread status ws (w ++ decimal status) ps
spread status ws w (Of (part.Name name) ∷ ps) = if nat_lt 255 (length name) then spread status ws w ps else Wants name ws w ps

-- What is left after what stands at the start of a text.
use Rattle.std.proofs.Common.{◌≡◌, ℕ, ◌<◌, List, length, sym, ◌∙◌, arith}
use Rattle.nx_ctok.specs.declared.piece.Piece.{Piece}
use Rattle.nx_ctok.specs.declared.piece.Piece.TheVariants as at
use Rattle.nx_ctok.specs.Comments.{newlines}
use Rattle.nx_ctok.specs.Views.{IsLeft, PieceLeft}

-- What is left of the end of a text is left of the text, where the end has all of its newlines.
less_left : (rest : List ℕ) (n : ℕ) (end bytes : List ℕ) → newlines end ≡ newlines bytes → length end < length bytes → IsLeft rest n end → IsLeft rest n bytes
less_left rest n end bytes e l x = record { lines = sym e ∙ x.lines; less = omega (arith, x.less) }

pub left_after : (f : Piece) (end bytes : List ℕ) → newlines end ≡ newlines bytes → length end < length bytes → PieceLeft f end → PieceLeft f bytes
left_after (at.Space rest lines) end bytes e l x = less_left rest lines end bytes e l x
left_after (at.Spelled w) end bytes e l x = less_left w.rest 0 end bytes e l x
left_after (at.Define d rest) end bytes e l x = less_left rest 0 end bytes e l x
left_after (at.Wrong k) end bytes e l x = tt

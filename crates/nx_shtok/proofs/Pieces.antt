-- What is left after the pieces of a word.
use Rattle.std.proofs.Common.{◌≡◌, ℕ, Bool, List, ◌∷◌, ap, arith}
use Rattle.nx_shtok.specs.declared.part.Part.{Part}
use Rattle.nx_shtok.specs.declared.piece.Piece.{Piece as CodePiece}
use Rattle.nx_shtok.specs.declared.piece.Piece.TheVariants as piece
use Rattle.nx_shtok.specs.Words.{Gives, expansion, expanded}
use Rattle.nx_shtok.specs.Views.{PieceLeft, QuoteLeft}

-- What is left is left with a backslash before it too.
pub piece_further : (p : CodePiece) (bytes : List ℕ) → PieceLeft p bytes → PieceLeft p (92 ∷ bytes)
piece_further (piece.Over rest) bytes h = record { lines = h.lines; within = omega (arith, h.within) }
piece_further (piece.Gives p q rest) bytes h = record { lines = h.lines; less = omega (arith, h.less) }
piece_further (piece.Wrong k) bytes h = tt

pub quote_further : (p : CodePiece) (bytes : List ℕ) → QuoteLeft p bytes → QuoteLeft p (92 ∷ bytes)
quote_further (piece.Over rest) bytes h = record { lines = h.lines; within = omega (arith, h.within) }
quote_further (piece.Gives p q rest) bytes h = record { lines = h.lines; less = omega (arith, h.less) }
quote_further (piece.Wrong k) bytes h = tt

-- The piece of an expansion.
pub expanded_is : (p : Part) (rest : List ℕ) (q : Bool) (bytes : List ℕ) → (p, rest) ≡ expansion bytes → Gives p q rest ≡ expanded q bytes
expanded_is p rest q bytes e = ap (λ (x : Part × List ℕ). Gives x.0 q x.1) e

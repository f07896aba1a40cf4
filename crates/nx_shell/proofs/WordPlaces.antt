-- What stands at a place in the words of a command.
use Rattle.std.proofs.Common.{◌≡◌, ℕ, zero, suc, ◌+◌, ◌≤◌, ◌<◌, List, [], ◌∷◌, ◌++◌, length, map, drop, get_or, Option, Some, None, refl, sym, ap, ◌∙◌, arith, length-append}
use Rattle.std.specs.Prelude.{slice_get}
use Rattle.nx_shtok.specs.declared.part.Part.{Part}
use Rattle.nx_shtok.specs.declared.token.Word.{Word}
use Rattle.nx_shtree.specs.declared.tree.Redirection.{Redirection}
use Rattle.nx_shtree.specs.declared.tree.Simple.{Simple}
use Rattle.nx_shrun.specs.Expansion.{Piece, Of, Ends, pieces_of, pieces_in, output_pieces, all_pieces}
use Rattle.nx_shell.specs.Kept.{output_words, all_words, rest_of}

front_get : (ws vs : List Word) (place : ℕ) (w : Word) → place < length ws → w ≡ get_or ws place w → slice_get (ws ++ vs) place ≡ Some w
front_get [] vs place w l e = absurd (omega (arith, l))
front_get (v ∷ ws) vs zero w l e = ap Some (sym e)
front_get (v ∷ ws) vs (suc i) w l e = front_get ws vs i w (omega (arith, l)) e

pub word_first : (c : Simple) (place : ℕ) (w : Word) → place < length c.words → w ≡ get_or c.words place w → slice_get (all_words c) place ≡ Some w
word_first c place w l e = front_get c.words (output_words c.output) place w l e

last_get : (ws : List Word) (w : Word) → slice_get (ws ++ w ∷ []) (length ws) ≡ Some w
last_get [] w = refl
last_get (v ∷ ws) w = last_get ws w

pub word_last : (c : Simple) (place : ℕ) (r : Redirection) → c.output ≡ Some r → place ≡ length c.words → slice_get (all_words c) place ≡ Some r.file
word_last c place r e p = rw (e, p) (last_get c.words r.file)

pub words_past : (c : Simple) (place : ℕ) (r : Redirection) → c.output ≡ Some r → length c.words ≤ place → (place ≡ length c.words → ⊥) → length (all_words c) ≤ place
words_past c place r e l p = rw e (omega (arith, l, p, length-append c.words (r.file ∷ [])))

pub words_alone : (c : Simple) (place : ℕ) → length c.words ≤ place → c.output ≡ None → length (all_words c) ≤ place
words_alone c place l e = rw e (omega (arith, l, length-append c.words []))

pub inside : (ws : List Word) (place : ℕ) (w : Word) → slice_get ws place ≡ Some w → place < length ws
inside [] place w e = absurd cc
inside (v ∷ ws) zero w e = omega arith
inside (v ∷ ws) (suc i) w e = omega (arith, inside ws i w e)

pub rest_over : (ws : List Word) (place part : ℕ) → length ws ≤ place → rest_of ws place part ≡ []
rest_over [] place part l = refl
rest_over (w ∷ ws) zero part l = absurd (omega (arith, l))
rest_over (w ∷ ws) (suc i) part l = rest_over ws i part (omega (arith, l))

pub rest_part : (ws : List Word) (place part : ℕ) (w : Word) (p : Part) → slice_get ws place ≡ Some w → drop part w.parts ≡ p ∷ drop (part + 1) w.parts → rest_of ws place part ≡ Of p ∷ rest_of ws place (part + 1)
rest_part [] place part w p e d = absurd cc
rest_part (v ∷ ws) zero part w p e d = let s : v ≡ w = cc in rw s (ap (λ ps. map Of ps ++ Ends ∷ pieces_in ws) d)
rest_part (v ∷ ws) (suc i) part w p e d = rest_part ws i part w p e d

-- A word's pieces from its first part on are those of the words from there on.
from_first : (ws : List Word) → rest_of ws 0 0 ≡ pieces_in ws
from_first [] = refl
from_first (w ∷ ws) = flat (map Of w.parts) (pieces_in ws)
  where
    flat : (ps qs : List Piece) → ps ++ Ends ∷ qs ≡ (ps ++ Ends ∷ []) ++ qs
    flat [] qs = refl
    flat (p ∷ ps) qs = ap (λ k. p ∷ k) (flat ps qs)

pub rest_ends : (ws : List Word) (place part : ℕ) (w : Word) → slice_get ws place ≡ Some w → drop part w.parts ≡ [] → rest_of ws place part ≡ Ends ∷ rest_of ws (place + 1) 0
rest_ends [] place part w e d = absurd cc
rest_ends (v ∷ ws) zero part w e d = let s : v ≡ w = cc in rw s (ap (λ ps. map Of ps ++ Ends ∷ pieces_in ws) d ∙ ap (λ ps. Ends ∷ ps) (sym (from_first ws)))
rest_ends (v ∷ ws) (suc i) part w e d = let s : suc i + 1 ≡ suc (i + 1) = omega arith in rw s (rest_ends ws i part w e d)

-- All pieces of a command.
pieces_append : (ws vs : List Word) → pieces_in (ws ++ vs) ≡ pieces_in ws ++ pieces_in vs
pieces_append [] vs = refl
pieces_append (w ∷ ws) vs = ap (λ ps. pieces_of w ++ ps) (pieces_append ws vs) ∙ flat (pieces_of w) (pieces_in ws) (pieces_in vs)
  where
    flat : (ps qs rs : List Piece) → ps ++ (qs ++ rs) ≡ (ps ++ qs) ++ rs
    flat [] qs rs = refl
    flat (p ∷ ps) qs rs = ap (λ k. p ∷ k) (flat ps qs rs)

output_is : (o : Option Redirection) → pieces_in (output_words o) ≡ output_pieces o
output_is None = refl
output_is (Some r) = nil (pieces_of r.file)
  where
    nil : (ps : List Piece) → ps ++ [] ≡ ps
    nil [] = refl
    nil (p ∷ ps) = ap (λ k. p ∷ k) (nil ps)

pub all_pieces_is : (c : Simple) → rest_of (all_words c) 0 0 ≡ all_pieces c
all_pieces_is c = from_first (all_words c) ∙ (pieces_append c.words (output_words c.output) ∙ ap (λ ps. pieces_in c.words ++ ps) (output_is c.output))

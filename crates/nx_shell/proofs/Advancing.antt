-- One piece of a command's words is taken.
use Rattle.std.proofs.Common.{◌≡◌, ℕ, ◌+◌, ◌≤◌, ◌<◌, true, List, [], ◌∷◌, ◌++◌, length, drop, Some, refl, sym, ap, ◌∙◌, arith, length-append}
use Rattle.std.specs.Prelude.{slice_get}
use Rattle.nx_shtok.specs.declared.part.Part.{Part}
use Rattle.nx_shtok.specs.declared.token.Word.{Word}
use Rattle.nx_shtree.specs.declared.tree.Simple.{Simple}
use Rattle.nx_shrun.specs.Calls.{Call}
use Rattle.nx_shrun.specs.Rooms.{HeldWords}
use Rattle.nx_shrun.specs.Expansion.{Piece, Of, Ends, Whole, Wants}
use Rattle.nx_shell.specs.declared.filling.Filling.{Filling}
use Rattle.nx_shell.specs.Kept.{all_words, rest_of, rest_in, kept_spread, asked, takes_to}
use Rattle.nx_shell.proofs.WordPlaces.{rest_over, rest_part, rest_ends}

pub whole_is : (status : ℕ) (f : Filling) (c : Simple) → length (all_words c) ≤ length f.words.words → Whole f.words.words ≡ kept_spread status f.words.words f.text (rest_in c f)
whole_is status f c l = ap (λ ps. kept_spread status f.words.words f.text ps) (sym (rest_over (all_words c) (length f.words.words) f.part l))

one_more : (ws : List (List ℕ)) (t : List ℕ) → length (ws ++ t ∷ []) ≡ length ws + 1
one_more ws t = length-append ws (t ∷ [])

ended : (c : Simple) (f g : Filling) (w : Word) → slice_get (all_words c) (length f.words.words) ≡ Some w → drop f.part w.parts ≡ []
    → g.words ≡ record f.words { words = f.words.words ++ f.text ∷ [] } → g.part ≡ 0 → rest_in c f ≡ Ends ∷ rest_in c g
ended c f g w e d ew ep =
    rest_ends (all_words c) (length f.words.words) f.part w e d ∙ ap (λ ps. Ends ∷ ps) (two (sym (ap (λ (v : HeldWords). length v.words) ew ∙ one_more f.words.words f.text)) (sym ep))
  where
    two : {i j p q : ℕ} → i ≡ j → p ≡ q → rest_of (all_words c) i p ≡ rest_of (all_words c) j q
    two e f = rw (e, f) refl

pub ends_is : (status : ℕ) (c : Simple) (f g : Filling) (w : Word) → slice_get (all_words c) (length f.words.words) ≡ Some w → drop f.part w.parts ≡ []
    → g.words ≡ record f.words { words = f.words.words ++ f.text ∷ [] } → g.text ≡ [] → g.part ≡ 0
    → kept_spread status g.words.words g.text (rest_in c g) ≡ kept_spread status f.words.words f.text (rest_in c f)
ends_is status c f g w e d ew et ep =
    two (ap (λ (v : HeldWords). v.words) ew) et ∙ sym (ap (λ ps. kept_spread status f.words.words f.text ps) (ended c f g w e d ew ep))
  where
    two : {us vs : List (List ℕ)} {x y : List ℕ} → us ≡ vs → x ≡ y → kept_spread status us x (rest_in c g) ≡ kept_spread status vs y (rest_in c g)
    two e f = rw (e, f) refl

shorter : (p : Piece) (ps qs : List Piece) → qs ≡ p ∷ ps → length ps < length qs
shorter p ps qs e = rw e (omega arith)

pub ends_less : (c : Simple) (f g : Filling) (w : Word) → slice_get (all_words c) (length f.words.words) ≡ Some w → drop f.part w.parts ≡ []
    → g.words ≡ record f.words { words = f.words.words ++ f.text ∷ [] } → g.part ≡ 0 → length (rest_in c g) < length (rest_in c f)
ends_less c f g w e d ew ep = shorter Ends (rest_in c g) (rest_in c f) (ended c f g w e d ew ep)

taken : (c : Simple) (f g : Filling) (w : Word) (p : Part) → slice_get (all_words c) (length f.words.words) ≡ Some w → drop f.part w.parts ≡ p ∷ drop (f.part + 1) w.parts
    → g.words ≡ f.words → g.part ≡ f.part + 1 → rest_in c f ≡ Of p ∷ rest_in c g
taken c f g w p e d ew ep =
    rest_part (all_words c) (length f.words.words) f.part w p e d ∙ ap (λ ps. Of p ∷ ps) (two (sym (ap (λ (v : HeldWords). length v.words) ew)) (sym ep))
  where
    two : {i j p q : ℕ} → i ≡ j → p ≡ q → rest_of (all_words c) i p ≡ rest_of (all_words c) j q
    two e f = rw (e, f) refl

pub part_wants : (status : ℕ) (c : Simple) (f g : Filling) (w : Word) (p : Part) (q : Call) → slice_get (all_words c) (length f.words.words) ≡ Some w → drop f.part w.parts ≡ p ∷ drop (f.part + 1) w.parts
    → ((ps : List Piece) → takes_to true q status g ps ≡ kept_spread status f.words.words f.text (Of p ∷ ps)) → g.words ≡ f.words → g.part ≡ f.part + 1
    → Wants (asked q) g.words.words g.text (rest_in c g) ≡ kept_spread status f.words.words f.text (rest_in c f)
part_wants status c f g w p q e d h ew ep = h (rest_in c g) ∙ sym (ap (λ ps. kept_spread status f.words.words f.text ps) (taken c f g w p e d ew ep))

pub part_more : (status : ℕ) (c : Simple) (f g : Filling) (w : Word) (p : Part) → slice_get (all_words c) (length f.words.words) ≡ Some w → drop f.part w.parts ≡ p ∷ drop (f.part + 1) w.parts
    → ((ps : List Piece) → kept_spread status g.words.words g.text ps ≡ kept_spread status f.words.words f.text (Of p ∷ ps)) → g.words ≡ f.words → g.part ≡ f.part + 1
    → kept_spread status g.words.words g.text (rest_in c g) ≡ kept_spread status f.words.words f.text (rest_in c f)
part_more status c f g w p e d h ew ep = h (rest_in c g) ∙ sym (ap (λ ps. kept_spread status f.words.words f.text ps) (taken c f g w p e d ew ep))

pub part_less : (c : Simple) (f g : Filling) (w : Word) (p : Part) → slice_get (all_words c) (length f.words.words) ≡ Some w → drop f.part w.parts ≡ p ∷ drop (f.part + 1) w.parts
    → g.words ≡ f.words → g.part ≡ f.part + 1 → length (rest_in c g) < length (rest_in c f)
part_less c f g w p e d ew ep = shorter (Of p) (rest_in c g) (rest_in c f) (taken c f g w p e d ew ep)

-- How long words with what ends them are.
use Rattle.std.proofs.Common.{◌≡◌, ℕ, ◌+◌, ◌-◌, ◌≤◌, ◌<◌, List, [], ◌∷◌, ◌++◌, length, nat_lt, ◌||◌, false, true, Bool, refl, sym, ap, ◌∙◌, zero, suc, drop, get_or, arith, length-append}
use Rattle.std.proofs.lemmas.Bool.{ltb-false}
use Rattle.std.proofs.lemmas.Bool.Decides.{nat_tests}
use Rattle.std.specs.List.{list_any}
use Rattle.nx_shrun.specs.Texts.{arguments, spaced, lines}
use Rattle.nx_shrun.specs.Steps.{Running}
use Rattle.nx_shrun.specs.Table.{is_long, is_too_long}
use Rattle.nx_shrun.proofs.Bounded.{arguments_le, each_short}
use Rattle.nx_shstep.specs.Held.{IsShort}

-- The last word has no space after it, but a newline.
pub lines_is : (w : List ℕ) (ws : List (List ℕ)) → length (lines (w ∷ ws)) ≡ length (spaced (w ∷ ws)) + 1
unfolding lines spaced
lines_is w [] = omega (arith, length-append w (10 ∷ []), length-append (w ++ 10 ∷ []) [])
lines_is w (v ∷ ws) =
    let h : length (lines (v ∷ ws)) ≡ length (spaced (v ∷ ws)) + 1 = lines_is v ws in
    omega (arith, h, length-append w (10 ∷ []), length-append (w ++ 10 ∷ []) (lines (v ∷ ws)), length-append w (32 ∷ spaced (v ∷ ws)))

pub lines_spaced : (ws : List (List ℕ)) → length (lines ws) ≤ length (spaced ws) + 1
unfolding lines
lines_spaced [] = omega arith
lines_spaced (w ∷ ws) = omega (arith, lines_is w ws)

-- The arguments of a program whose words fit on a line.
pub lines_le : (ws : List (List ℕ)) → length (spaced ws) ≤ 1024 → length (lines (arguments ws)) ≤ 1025
lines_le ws h = omega (arith, h, arguments_le ws, lines_spaced (arguments ws))

-- The words of a line are too long with a space between where they are with a byte after each.
pub over_is : (ws : List (List ℕ)) → nat_lt 1025 (length (lines ws)) ≡ nat_lt 1024 (length (spaced ws))
unfolding lines spaced
over_is [] = refl
over_is (w ∷ ws) = grind (arith, nat_tests, lines_is w ws)

-- Words that aren't too long.
pub short_is : (g : Running) → is_too_long g.words g.file ≡ false → IsShort g
unfolding is_too_long
short_is g h = of (list_any is_long g.words) (is_long g.file) (nat_lt 1024 (length (spaced g.words))) refl refl refl h
  where
    of : (a b c : Bool) → list_any is_long g.words ≡ a → is_long g.file ≡ b → nat_lt 1024 (length (spaced g.words)) ≡ c → (a || b || c) ≡ false → IsShort g
    of true b c ea eb ec h = absurd cc
    of false true c ea eb ec h = absurd cc
    of false false true ea eb ec h = absurd cc
    of false false false ea eb ec h = record { words = each_short g.words ea; file = ltb-false 255 (length g.file) eb; line = ltb-false 1024 (length (spaced g.words)) ec }

lines_more : (w : List ℕ) (ws : List (List ℕ)) → length (lines (w ∷ ws)) ≡ length w + 1 + length (lines ws)
unfolding lines
lines_more w ws = omega (arith, length-append w (10 ∷ []), length-append (w ++ 10 ∷ []) (lines ws))

abbrev no_words : List (List ℕ)
no_words = []

-- Words, each with one byte after it, from one word on.
pub over_here : (w : List ℕ) (ws : List (List ℕ)) (left : ℕ) → left ≤ length w → true ≡ nat_lt left (length (lines (w ∷ ws)))
over_here w ws left h = let e : length (lines (w ∷ ws)) ≡ length w + 1 + length (lines ws) = lines_more w ws in grind (arith, nat_tests, e, h)

pub over_next : (w : List ℕ) (ws : List (List ℕ)) (left : ℕ) → length w < left → nat_lt (left - (length w + 1)) (length (lines ws)) ≡ nat_lt left (length (lines (w ∷ ws)))
over_next w ws left h = let e : length (lines (w ∷ ws)) ≡ length w + 1 + length (lines ws) = lines_more w ws in grind (arith, nat_tests, e, h)

pub over_none : (left : ℕ) → false ≡ nat_lt left (length (lines no_words))
unfolding lines
over_none left = grind (arith, nat_tests)

-- The same of the words from a place on.
here : (ws : List (List ℕ)) (at : ℕ) (w : List ℕ) → at < length ws → w ≡ get_or ws at w → drop at ws ≡ w ∷ drop (at + 1) ws
here [] at w l e = absurd (omega (arith, l))
here (v ∷ ws) zero w l e = let s : v ≡ w = sym e in ap (λ x. x ∷ ws) s
here (v ∷ ws) (suc at) w l e = let s : suc at + 1 ≡ suc (at + 1) = omega arith in rw s (here ws at w (omega (arith, l)) e)

past : (ws : List (List ℕ)) (at : ℕ) → length ws ≤ at → drop at ws ≡ no_words
past [] zero l = refl
past [] (suc at) l = refl
past (w ∷ ws) zero l = absurd (omega (arith, l))
past (w ∷ ws) (suc at) l = past ws at (omega (arith, l))

pub over_at : (ws : List (List ℕ)) (at left room : ℕ) (w : List ℕ) → at < length ws → w ≡ get_or ws at w → left ≤ length w → nat_lt left (length (lines (drop at ws))) ≡ nat_lt room (length (lines ws)) → true ≡ nat_lt room (length (lines ws))
over_at ws at left room w l e h is = over_here w (drop (at + 1) ws) left h ∙ (ap (λ k. nat_lt left (length (lines k))) (sym (here ws at w l e)) ∙ is)

pub over_step : (ws : List (List ℕ)) (at left room : ℕ) (w : List ℕ) → at < length ws → w ≡ get_or ws at w → length w < left → nat_lt left (length (lines (drop at ws))) ≡ nat_lt room (length (lines ws)) → nat_lt (left - (length w + 1)) (length (lines (drop (at + 1) ws))) ≡ nat_lt room (length (lines ws))
over_step ws at left room w l e h is = over_next w (drop (at + 1) ws) left h ∙ (ap (λ k. nat_lt left (length (lines k))) (sym (here ws at w l e)) ∙ is)

pub over_end : (ws : List (List ℕ)) (at left room : ℕ) → length ws ≤ at → nat_lt left (length (lines (drop at ws))) ≡ nat_lt room (length (lines ws)) → false ≡ nat_lt room (length (lines ws))
over_end ws at left room l is = over_none left ∙ (ap (λ k. nat_lt left (length (lines k))) (sym (past ws at l)) ∙ is)

pub short_at : (g : Running) (ws : List (List ℕ)) (file : List ℕ) (t : Bool) → ws ≡ g.words → file ≡ g.file → t ≡ is_too_long ws file → t ≡ false → IsShort g
short_at g ws file t ew ef e f = short_is g (both ew ef ∙ (sym e ∙ f))
  where
    both : {us vs : List (List ℕ)} {x y : List ℕ} → us ≡ vs → x ≡ y → is_too_long vs y ≡ is_too_long us x
    both e f = rw (e, f) refl

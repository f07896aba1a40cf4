-- Lines of a text, byte by byte.
use Rattle.std.proofs.Common.{◌≡◌, ◌≢◌, ℕ, zero, suc, ◌+◌, ◌-◌, ◌<◌, ◌≤◌, ◌==◌, List, [], ◌∷◌, ◌++◌, length, take, drop, get_or, refl, sym, ap, ◌∙◌, subst, arith, Bool, true, false, cond, add-one}
use Rattle.std.specs.Prelude.{if◌then◌else◌, Option, Some, None, slice_get}
use Rattle.std.specs.List.{count_by}
use Rattle.std.proofs.Math.Seq.{drop-cons}
use Rattle.std.proofs.lemmas.List.Recursion.{is_count_by}
use Rattle.std.proofs.lemmas.List.{take_more, get_or-drop, length-drop}
use Rattle.nx_ksys.specs.GroupCalls.{lines_from}
use Rattle.nx_ksys.proofs.Standing.{eq_to, ne_to}
use Rattle.nx_group.specs.Lines.{is_newline}

same_count : (bs front other : List ℕ) → length (lines_from front bs) ≡ length (lines_from other bs)
same_count [] front other = refl
same_count (b ∷ bs) front other = by_byte (b == 10) (same_count bs (front ++ b ∷ []) (other ++ b ∷ []))
  where
    by_byte : (n : Bool) → length (lines_from (front ++ b ∷ []) bs) ≡ length (lines_from (other ++ b ∷ []) bs)
        → length (if n then front ∷ lines_from [] bs else lines_from (front ++ b ∷ []) bs) ≡ length (if n then other ∷ lines_from [] bs else lines_from (other ++ b ∷ []) bs)
    by_byte true e = refl
    by_byte false e = e

one_line : (b : ℕ) (bs : List ℕ) → length (lines_from [] (b ∷ bs)) ≡ cond (is_newline b) (1 + length (lines_from [] bs)) (length (lines_from [] bs))
one_line b bs = by_byte (b == 10)
  where
    by_byte : (n : Bool) → length (if n then [] ∷ lines_from [] bs else lines_from (b ∷ []) bs) ≡ cond n (1 + length (lines_from [] bs)) (length (lines_from [] bs))
    by_byte true = omega arith
    by_byte false = same_count bs (b ∷ []) []

pub lines_counted : (text : List ℕ) → count_by is_newline text ≡ length (lines_from [] text)
lines_counted text = sym (is_count_by (λ bs. length (lines_from [] bs)) is_newline refl one_line text)

-- what is left of the lines, with a line begun at a place and read up to another
abbrev pub left_lines : List ℕ → ℕ → ℕ → List (List ℕ)
left_lines text start at = lines_from (take (at - start) (drop start text)) (drop at text)

ended : (text : List ℕ) (start at : ℕ) → at < length text → get_or text at 0 ≡ 10 → left_lines text start at ≡ take (at - start) (drop start text) ∷ lines_from [] (drop (suc at) text)
ended text start at lt e = rw (drop-cons text at 0 lt, eq_to (get_or text at 0) 10 e) refl

gone_on : (text : List ℕ) (start at : ℕ) → at < length text → start ≤ at → get_or text at 0 ≢ 10 → left_lines text start at ≡ left_lines text start (at + 1)
gone_on text start at lt le ne =
    let n : at + 1 - start ≡ at - start + 1 = omega (arith, le) in
    let s : start + (at - start) ≡ at = omega (arith, le) in
    let long = length-drop start text in
    let more = take_more (drop start text) (at - start) 0 (omega (arith, lt, le, long)) in
    let byte = get_or-drop start text (at - start) 0 ∙ ap (λ i. get_or text i 0) s in
    let front : take (at + 1 - start) (drop start text) ≡ take (at - start) (drop start text) ++ get_or text at 0 ∷ [] = ap (λ m. take m (drop start text)) n ∙ more ∙ ap (λ b. take (at - start) (drop start text) ++ b ∷ []) byte in
    rw (front, drop-cons text at 0 lt, ne_to (get_or text at 0) 10 ne, add-one) refl

pub line_found : (text : List ℕ) (start at left : ℕ) (want : Option (List ℕ)) → at < length text → get_or text at 0 ≡ 10 → left ≡ 0 → slice_get (left_lines text start at) left ≡ want → Some (take (at - start) (drop start text)) ≡ want
line_found text start at left want lt e z h = sym (ap (λ l. slice_get l 0) (ended text start at lt e)) ∙ ap (slice_get (left_lines text start at)) (sym z) ∙ h

pub next_line : (text : List ℕ) (start at left : ℕ) (want : Option (List ℕ)) → at < length text → get_or text at 0 ≡ 10 → left ≢ 0 → slice_get (left_lines text start at) left ≡ want → slice_get (left_lines text (at + 1) (at + 1)) (left - 1) ≡ want
next_line text start at zero want lt e z h = absurd (z refl)
next_line text start at (suc left) want lt e z h =
    let n : at + 1 - (at + 1) ≡ 0 = omega arith in
    let m : suc left - 1 ≡ left = omega arith in
    let after : slice_get (lines_from [] (drop (suc at) text)) left ≡ want = sym (ap (λ l. slice_get l (suc left)) (ended text start at lt e)) ∙ h in
    ap (slice_get (left_lines text (at + 1) (at + 1))) m ∙ ap (λ k. slice_get (lines_from (take k (drop (at + 1) text)) (drop (at + 1) text)) left) n ∙ ap (λ k. slice_get (lines_from [] (drop k text)) left) (add-one at) ∙ after

pub line_goes_on : (text : List ℕ) (start at left : ℕ) (want : Option (List ℕ)) → at < length text → start ≤ at → get_or text at 0 ≢ 10 → slice_get (left_lines text start at) left ≡ want → slice_get (left_lines text start (at + 1)) left ≡ want
line_goes_on text start at left want lt le ne h = ap (λ l. slice_get l left) (sym (gone_on text start at lt le ne)) ∙ h

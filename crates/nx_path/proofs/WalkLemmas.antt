-- A text that is read byte by byte gives the parts that the definition of paths takes one after the other.
use Rattle.std.proofs.Common.{◌≡◌, ℕ, ◌<◌, ◌≤◌, List, [], ◌∷◌, ◌++◌, length, refl, sym, ap, ◌∙◌, arith, rules, Bool, true, false, append_assoc, append-nil}
use Rattle.std.specs.Prelude.{Some, None, ◌==◌, ◌&&◌, ◌||◌, nat_le, fold, codes, if◌then◌else◌}
use Rattle.std.specs.List.{list_all}
use Rattle.std.specs.Str.{bytes_eq}
use Rattle.nx_ksys.specs.Paths.{parts_from, but_last, with_part, kept_from, path_of, from_directory, normal}
use Rattle.nx_path.specs.Walks.{Walk, start, without_last, after_part, after_byte, walked, text_of, lengths_of, checked, checked_walk}

-- the kept parts from the first on
abbrev in_order : List (List ℕ) → List (List ℕ)
in_order [] = []
in_order (p ∷ ps) = in_order ps ++ p ∷ []

but_last-push : (ps : List (List ℕ)) (p : List ℕ) → but_last (ps ++ p ∷ []) ≡ ps
but_last-push [] p = refl
but_last-push (q ∷ []) p = refl
but_last-push (q ∷ r ∷ ps) p = ap (λ l. q ∷ l) (but_last-push (r ∷ ps) p)

but_last-order : (kept : List (List ℕ)) → but_last (in_order kept) ≡ in_order (without_last kept)
but_last-order [] = refl
but_last-order (p ∷ ps) = but_last-push (in_order ps) p

with_part-order : (kept : List (List ℕ)) (part : List ℕ) → with_part (in_order kept) part ≡ in_order (after_part kept part)
with_part-order kept part = on (bytes_eq part [] || bytes_eq part (codes ".")) (bytes_eq part (codes ".."))
  where
    on : (a b : Bool) → (if a then in_order kept else if b then but_last (in_order kept) else in_order kept ++ part ∷ []) ≡ in_order (if a then kept else if b then without_last kept else part ∷ kept)
    on true b = refl
    on false true = but_last-order kept
    on false false = refl

-- one byte, if the bytes after it do
by_byte : (slash : Bool) (w : Walk) (b : ℕ) (bs : List ℕ) → ((v : Walk) → kept_from (in_order v.kept) (parts_from v.part bs) ≡ in_order (walked (fold after_byte v bs)))
    → kept_from (in_order w.kept) (if slash then w.part ∷ parts_from [] bs else parts_from (w.part ++ b ∷ []) bs)
    ≡ in_order (walked (fold after_byte (if slash then record { kept = after_part w.kept w.part; part = [] } else record { kept = w.kept; part = w.part ++ b ∷ [] }) bs))
by_byte true w b bs rest = ap (λ q. kept_from q (parts_from [] bs)) (with_part-order w.kept w.part) ∙ rest (record { kept = after_part w.kept w.part; part = [] })
by_byte false w b bs rest = rest (record { kept = w.kept; part = w.part ++ b ∷ [] })

kept_from-walk : (bytes : List ℕ) (w : Walk) → kept_from (in_order w.kept) (parts_from w.part bytes) ≡ in_order (walked (fold after_byte w bytes))
kept_from-walk [] w = with_part-order w.kept w.part
kept_from-walk (b ∷ bs) w = by_byte (b == 47) w b bs (λ v. kept_from-walk bs v)

path_of-push : (ps : List (List ℕ)) (p : List ℕ) → path_of (ps ++ p ∷ []) ≡ path_of ps ++ 47 ∷ p
path_of-push [] p = ap (λ q. 47 ∷ q) (append-nil p)
path_of-push (q ∷ ps) p = ap (λ r. 47 ∷ q ++ r) (path_of-push ps p) ∙ ap (λ r. 47 ∷ r) (sym (append_assoc q (path_of ps) (47 ∷ p)))

path_of-order : (kept : List (List ℕ)) → path_of (in_order kept) ≡ text_of kept
path_of-order [] = refl
path_of-order (p ∷ ps) = path_of-push (in_order ps) p ∙ ap (λ q. q ++ 47 ∷ p) (path_of-order ps)

and_swap : (a b c : Bool) → (a && (b && c)) ≡ (b && (a && c))
and_swap true b c = refl
and_swap false true c = refl
and_swap false false c = refl

all-push : {A : Type 0} (test : A → Bool) (xs : List A) (x : A) → list_all test (xs ++ x ∷ []) ≡ (test x && list_all test xs)
all-push test [] x = refl
all-push test (y ∷ ys) x = ap (λ b. test y && b) (all-push test ys x) ∙ and_swap (test y) (test x) (list_all test ys)

all-order : (test : List ℕ → Bool) (kept : List (List ℕ)) → list_all test (in_order kept) ≡ list_all test kept
all-order test [] = refl
all-order test (p ∷ ps) = all-push test (in_order ps) p ∙ ap (λ b. test p && b) (all-order test ps)

pub walk_is_normal : (directory text : List ℕ) → checked_walk directory text ≡ normal directory text
unfolding normal
walk_is_normal directory text =
    let kept = walked (fold after_byte start (from_directory directory text)) in
    rw (kept_from-walk (from_directory directory text) start, all-order (λ p. nat_le (length p) 32) kept, path_of-order kept) refl

-- ---- lengths

all-lengths : (kept : List (List ℕ)) → list_all (λ n. nat_le n 32) (lengths_of kept) ≡ list_all (λ p. nat_le (length p) 32) kept
all-lengths [] = refl
all-lengths (p ∷ ps) = all-push (λ n. nat_le n 32) (lengths_of ps) (length p) ∙ ap (λ b. nat_le (length p) 32 && b) (all-lengths ps)

pub at_most : (a b : ℕ) → a ≤ b → nat_le a b ≡ true
at_most a b l = search (rules, arith)

pub not_at_most : (a b : ℕ) → b < a → nat_le a b ≡ false
not_at_most a b l = search (rules, arith)

and_false : (a : Bool) → (a && false) ≡ false
and_false true = refl
and_false false = refl

pub refused_by_part : (lengths : List ℕ) (kept : List (List ℕ)) → lengths ≡ lengths_of kept → list_all (λ n. nat_le n 32) lengths ≡ false → None ≡ checked kept
refused_by_part lengths kept e f = let g = sym (all-lengths kept) ∙ ap (list_all (λ n. nat_le n 32)) (sym e) ∙ f in rw g refl

pub refused_by_length : (text : List ℕ) (kept : List (List ℕ)) → text ≡ text_of kept → 255 < length text → None ≡ checked kept
refused_by_length text kept e l = let g = not_at_most (length (text_of kept)) 255 (rw e at l) in rw (g, and_false (list_all (λ p. nat_le (length p) 32) kept)) refl

pub accepted : (text lengths : List ℕ) (kept : List (List ℕ)) → text ≡ text_of kept → lengths ≡ lengths_of kept → list_all (λ n. nat_le n 32) lengths ≡ true → length text ≤ 255 → Some text ≡ checked kept
accepted text lengths kept e k f l =
    let g = sym (all-lengths kept) ∙ ap (list_all (λ n. nat_le n 32)) (sym k) ∙ f in
    let h = at_most (length (text_of kept)) 255 (rw e at l) in
    rw (g, h, e) refl

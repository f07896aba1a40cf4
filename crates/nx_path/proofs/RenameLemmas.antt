-- A rename keeps distinct paths distinct where nothing stands at or below the second.
use Rattle.std.proofs.Common.{◌≡◌, ℕ, zero, suc, ◌+◌, ◌≤◌, ◌⊎◌, List, [], ◌∷◌, ◌++◌, length, take, drop, refl, sym, ap, ◌∙◌, subst, arith, rules, Bool, true, false, add-one, inl, inr, ⊎_elim}
use Rattle.std.specs.Prelude.{Some, None, slice_get, ◌&&◌, ◌||◌, nat_le}
use Rattle.std.specs.List.{IsDistinct}
use Rattle.std.specs.Map.{keys_of}
use Rattle.std.specs.Str.{bytes_eq}
use Rattle.std.proofs.lemmas.List.{take_at, drop_at}
use Rattle.std.proofs.lemmas.Bool.{false_from_ne_true}
use Rattle.nx_ksys.specs.declared.node.Node.{Node}
use Rattle.nx_ksys.specs.Paths.{is_cut, is_in, renamed, node_at}
use Rattle.nx_ksys.specs.TreeCalls.{is_taken, is_too_long, renamed_entries}
use Rattle.nx_path.proofs.EntryLemmas.{same_bytes, bytes_same, other_at}

and_left : (a b : Bool) → (a && b) ≡ true → a ≡ true
and_left true b e = refl
and_left false b e = absurd cc

and_right : (a b : Bool) → (a && b) ≡ true → b ≡ true
and_right true b e = e
and_right false b e = absurd cc

or_left : (a b : Bool) → (a || b) ≡ false → a ≡ false
or_left true b e = absurd cc
or_left false b e = refl

or_right : (a b : Bool) → (a || b) ≡ false → b ≡ false
or_right true b e = absurd cc
or_right false b e = e

told : (b : Bool) → (b ≡ true) ⊎ (b ≡ false)
told true = inl refl
told false = inr refl

-- ---- what is in a directory

in_front : (directory path : List ℕ) → is_in directory path ≡ true → path ≡ directory ++ drop (length directory) path
in_front directory path e = sym (take_drop (length directory) path) ∙ ap (λ q. q ++ drop (length directory) path) (same_bytes _ _ (and_left _ _ e))
  where
    take_drop : (n : ℕ) (xs : List ℕ) → take n xs ++ drop n xs ≡ xs
    take_drop zero xs = refl
    take_drop (suc n) [] = refl
    take_drop (suc n) (x ∷ xs) = ap (λ q. x ∷ q) (take_drop n xs)

in_cut : (directory path : List ℕ) → is_in directory path ≡ true → is_cut (drop (length directory) path) ≡ true
in_cut directory path e = and_right (bytes_eq (take (length directory) path) directory) _ e

in_again : (directory rest : List ℕ) → is_cut rest ≡ true → is_in directory (directory ++ rest) ≡ true
in_again directory rest e = rw (take_at directory rest (length directory) refl, drop_at directory rest (length directory) refl, bytes_same directory) e

cancel : (xs ys zs : List ℕ) → xs ++ ys ≡ xs ++ zs → ys ≡ zs
cancel [] ys zs e = e
cancel (x ∷ xs) ys zs e = let t : xs ++ ys ≡ xs ++ zs = cc in cancel xs ys zs t

-- ---- one path

below : (first second path : List ℕ) → is_in first path ≡ true → renamed first second path ≡ second ++ drop (length first) path
below first second path e = rw e refl

elsewhere : (first second path : List ℕ) → is_in first path ≡ false → renamed first second path ≡ path
elsewhere first second path e = rw e refl

clash : (first second p q : List ℕ) → is_in first p ≡ true → is_in second q ≡ false → second ++ drop (length first) p ≡ q → ⊥
clash first second p q a f e = let t : is_in second q ≡ true = ap (is_in second) (sym e) ∙ in_again second (drop (length first) p) (in_cut first p a) in absurd cc

one_path : (first second p q : List ℕ) → is_in second p ≡ false → is_in second q ≡ false → renamed first second p ≡ renamed first second q → p ≡ q
one_path first second p q fp fq e = ⊎_elim
    (λ a. ⊎_elim
    (λ b. let rest = cancel second _ _ (sym (below first second p a) ∙ e ∙ below first second q b) in in_front first p a ∙ ap (λ r. first ++ r) rest ∙ sym (in_front first q b))
    (λ b. absurd (clash first second p q a fq (sym (below first second p a) ∙ e ∙ elsewhere first second q b)))
    (told (is_in first q)))
    (λ a. ⊎_elim
    (λ b. absurd (clash first second q p b fp (sym (below first second q b) ∙ sym e ∙ elsewhere first second p a)))
    (λ b. sym (elsewhere first second p a) ∙ e ∙ elsewhere first second q b)
    (told (is_in first q)))
    (told (is_in first p))

-- ---- the entry at a place

free_at : (second : List ℕ) (es : List (List ℕ × Node)) (i : ℕ) (e : List ℕ × Node) → is_taken second es ≡ false → slice_get es i ≡ Some e → is_in second e.0 ≡ false
free_at second [] i e f h = absurd cc
free_at second (x ∷ xs) zero e f h = let k : x ≡ e = cc in subst (λ y. is_in second y.0 ≡ false) k (or_left _ _ f)
free_at second (x ∷ xs) (suc i) e f h = free_at second xs i e (or_right (is_in second x.0) _ f) h

not_long : (n : ℕ) → nat_le 256 n ≡ false → n ≤ 255
not_long n e = search (rules, arith)

pub fits_at : (first second : List ℕ) (es : List (List ℕ × Node)) (i : ℕ) (e : List ℕ × Node) → is_too_long first second es ≡ false → slice_get es i ≡ Some e → length (renamed first second e.0) ≤ 255
fits_at first second [] i e f h = absurd cc
fits_at first second (x ∷ xs) zero e f h = let k : x ≡ e = cc in subst (λ y. length (renamed first second y.0) ≤ 255) k (not_long _ (or_left _ _ f))
fits_at first second (x ∷ xs) (suc i) e f h = fits_at first second xs i e (or_right (nat_le 256 (length (renamed first second x.0))) _ f) h

-- the new path of the entry at a place is not among those before it
absent_before : (first second : List ℕ) (es : List (List ℕ × Node)) (i : ℕ) (e : List ℕ × Node) → IsDistinct bytes_eq (keys_of es) → is_taken second es ≡ false → slice_get es i ≡ Some e
    → node_at (renamed_entries first second (take i es)) (renamed first second e.0) ≡ None
unfolding IsDistinct node_at
absent_before first second [] i e d f h = absurd cc
absent_before first second (x ∷ xs) zero e d f h = refl
absent_before first second (x ∷ xs) (suc i) e d f h =
    let rest = absent_before first second xs i e d.1 (or_right (is_in second x.0) _ f) h in
    let other : bytes_eq (renamed first second e.0) (renamed first second x.0) ≡ false = false_from_ne_true _ (λ k.
    let one = one_path first second e.0 x.0 (free_at second (x ∷ xs) (suc i) e f h) (free_at second (x ∷ xs) zero x f refl) (same_bytes _ _ k) in
    let differs = other_at xs i e x.0 d.0 h in
    let same = subst (λ q. bytes_eq q e.0 ≡ true) one (bytes_same e.0) in
    absurd cc) in
    rw other rest

pub absent_renamed : (first second path new : List ℕ) (node : Node) (es into : List (List ℕ × Node)) (i : ℕ) → IsDistinct bytes_eq (keys_of es) → is_taken second es ≡ false → slice_get es i ≡ Some (path, node)
    → new ≡ renamed first second path → into ≡ renamed_entries first second (take i es) → node_at into new ≡ None
absent_renamed first second path new node es into i d f h k b = rw (b, k) (absent_before first second es i (path, node) d f h)

pub renamed_next : (first second path new : List ℕ) (node : Node) (es into after : List (List ℕ × Node)) (i : ℕ) → slice_get es i ≡ Some (path, node) → new ≡ renamed first second path
    → into ≡ renamed_entries first second (take i es) → after ≡ into ++ (new, node) ∷ [] → after ≡ renamed_entries first second (take (i + 1) es)
renamed_next first second path new node es into after i h k b n = rw (n, b, k, add-one) (sym (next es i h))
  where
    next : (fs : List (List ℕ × Node)) (j : ℕ) → slice_get fs j ≡ Some (path, node) → renamed_entries first second (take (suc j) fs) ≡ renamed_entries first second (take j fs) ++ (renamed first second path, node) ∷ []
    next [] j a = absurd cc
    next (f ∷ fs) zero a = let same : ◌≡◌ {A = List ℕ × Node} f (path, node) = cc in rw same refl
    next (f ∷ fs) (suc j) a = ap (λ l. (renamed first second f.0, f.1) ∷ l) (next fs j a)

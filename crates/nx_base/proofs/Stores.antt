-- What a store leaves in a view.
use Rattle.std.proofs.Common.{◌≡◌, ℕ, ◌+◌, ◌-◌, ◌^◌, ◌<◌, ◌≤◌, List, [], ◌∷◌, length, Bool, true, false, Option, Some, None, Ok, refl, sym, ap, ◌∙◌, subst, arith, ⊎_elim, inl, inr}
use Rattle.std.specs.Prelude.{nat_le, ◌&&◌, if◌then◌else◌}
use Rattle.std.proofs.lemmas.Bool.Decides.{nat_tests}
use Rattle.nx_base.specs.ByteLists.{put_bytes, get_bytes, to_le}
use Rattle.nx_base.specs.Views.{Window, View, holds, find_bytes, number_or, put_in, and_before, view_or, fetch_word, load_bytes, store_bytes, AreApart}
use Rattle.nx_base.proofs.Puts.{length-put_bytes, get_bytes-put_bytes, get_bytes-put_bytes_other, length-to_le, from_le-to_le}

-- what is found, and put, by the first window
find_here : (may : Window → Bool) (w : Window) (ws : List Window) (a n : ℕ) → holds w a n ≡ true → may w ≡ true → find_bytes may (w ∷ ws) a n ≡ Some (get_bytes w.bytes (a - w.start) n)
unfolding find_bytes
find_here may w ws a n h m = rw (h, m)

find_refused : (may : Window → Bool) (w : Window) (ws : List Window) (a n : ℕ) → holds w a n ≡ true → may w ≡ false → find_bytes may (w ∷ ws) a n ≡ None
unfolding find_bytes
find_refused may w ws a n h m = rw (h, m)

find_next : (may : Window → Bool) (w : Window) (ws : List Window) (a n : ℕ) → holds w a n ≡ false → find_bytes may (w ∷ ws) a n ≡ find_bytes may ws a n
unfolding find_bytes
find_next may w ws a n h = rw h

put_here : (w : Window) (ws : List Window) (a : ℕ) (xs : List ℕ) → holds w a (length xs) ≡ true → w.writes ≡ true → put_in (w ∷ ws) a xs ≡ Some (record w { bytes = put_bytes w.bytes (a - w.start) xs } ∷ ws)
unfolding put_in
put_here w ws a xs h m = rw (h, m)

put_next : (w : Window) (ws new : List Window) (a : ℕ) (xs : List ℕ) → holds w a (length xs) ≡ false → put_in ws a xs ≡ Some new → put_in (w ∷ ws) a xs ≡ Some (w ∷ new)
unfolding put_in
put_next w ws new a xs h p = rw (h, p)

holds-put : (w : Window) (i : ℕ) (xs : List ℕ) (b m : ℕ) → i + length xs ≤ length w.bytes → holds (record w { bytes = put_bytes w.bytes i xs }) b m ≡ holds w b m
unfolding holds
holds-put w i xs b m h = ap (λ n. nat_le w.start b && nat_le (b + m) (w.start + n)) (length-put_bytes w.bytes i xs h)

pub held_within : (w : Window) (a n : ℕ) → holds w a n ≡ true → (w.start ≤ a) × (a + n ≤ w.start + length w.bytes)
unfolding holds
held_within w a n h = (grind (arith, nat_tests), grind (arith, nat_tests))

-- a test that a window passes whatever its bytes
abbrev IsStable : (Window → Bool) → Type 0
IsStable may = (w : Window) (bytes : List ℕ) → may (record w { bytes = bytes }) ≡ may w

-- the cases of a store
data Put (w : Window) (ws : List Window) (a : ℕ) (xs : List ℕ) (new : List Window) : Type 0 where
  here : holds w a (length xs) ≡ true → w.writes ≡ true → new ≡ record w { bytes = put_bytes w.bytes (a - w.start) xs } ∷ ws → Put w ws a xs new
  later : (rest : List Window) → holds w a (length xs) ≡ false → put_in ws a xs ≡ Some rest → new ≡ w ∷ rest → Put w ws a xs new

put_cases : (w : Window) (ws : List Window) (a : ℕ) (xs : List ℕ) (new : List Window) → put_in (w ∷ ws) a xs ≡ Some new → Put w ws a xs new
unfolding put_in
put_cases w ws a xs new e = by_held (holds w a (length xs)) refl e
  where
    by_rest : (o : Option (List Window)) → put_in ws a xs ≡ o → holds w a (length xs) ≡ false → and_before w o ≡ Some new → Put w ws a xs new
    by_rest None p h e = absurd cc
    by_rest (Some rest) p h e = later rest h p cc

    by_writes : (b : Bool) → w.writes ≡ b → holds w a (length xs) ≡ true → (if b then Some (record w { bytes = put_bytes w.bytes (a - w.start) xs } ∷ ws) else None) ≡ Some new → Put w ws a xs new
    by_writes true p h e = here h p cc
    by_writes false p h e = absurd cc

    by_held : (b : Bool) → holds w a (length xs) ≡ b → (if b then (if w.writes then Some (record w { bytes = put_bytes w.bytes (a - w.start) xs } ∷ ws) else None) else and_before w (put_in ws a xs)) ≡ Some new → Put w ws a xs new
    by_held true h e = by_writes w.writes refl h e
    by_held false h e = by_rest (put_in ws a xs) refl h e

-- one window's answer at another address
find_head : (may : Window → Bool) (w w' : Window) (ws ws' : List Window) (b m : ℕ) → holds w' b m ≡ holds w b m → may w' ≡ may w → (holds w b m ≡ true → get_bytes w'.bytes (b - w'.start) m ≡ get_bytes w.bytes (b - w.start) m) → (holds w b m ≡ false → find_bytes may ws' b m ≡ find_bytes may ws b m) → find_bytes may (w' ∷ ws') b m ≡ find_bytes may (w ∷ ws) b m
unfolding find_bytes
find_head may w w' ws ws' b m h k same rest = rw (h, k) (by_held (holds w b m) refl)
  where
    by_held : (c : Bool) → holds w b m ≡ c → (if c then (if may w then Some (get_bytes w'.bytes (b - w'.start) m) else None) else find_bytes may ws' b m) ≡ (if c then (if may w then Some (get_bytes w.bytes (b - w.start) m) else None) else find_bytes may ws b m)
    by_held true e = ap (λ n. if may w then Some n else None) (same e)
    by_held false e = rest e

find_put_other : (may : Window → Bool) → IsStable may → (ws new : List Window) (a : ℕ) (xs : List ℕ) (b m : ℕ) → AreApart a (length xs) b m → put_in ws a xs ≡ Some new → find_bytes may new b m ≡ find_bytes may ws b m
unfolding put_in
find_put_other may st [] new a xs b m apart e = absurd cc
find_put_other may st (w ∷ ws) new a xs b m apart e = by_case (λ rest p. find_put_other may st ws rest a xs b m apart p) (put_cases w ws a xs new e)
  where
    by_case : ((rest : List Window) → put_in ws a xs ≡ Some rest → find_bytes may rest b m ≡ find_bytes may ws b m) → Put w ws a xs new → find_bytes may new b m ≡ find_bytes may (w ∷ ws) b m
    by_case more (here h p n) =
        let w' = record w { bytes = put_bytes w.bytes (a - w.start) xs } in
        let in_a = held_within w a (length xs) h in
        ap (λ l. find_bytes may l b m) n
        ∙ find_head may w w' ws ws b m (holds-put w (a - w.start) xs b m (omega arith)) (st w _) (λ k.
        let in_b = held_within w b m k in
        get_bytes-put_bytes_other w.bytes (a - w.start) xs (b - w.start) m (omega arith) (⊎_elim (λ l. inl (omega arith)) (λ l. inr (omega arith)) apart)) (λ _. refl)
    by_case more (later rest h p n) =
        ap (λ l. find_bytes may l b m) n
        ∙ find_head may w w ws rest b m refl refl (λ _. refl) (λ _. more rest p)

found_may : (may : Window → Bool) (w : Window) (ws : List Window) (a n : ℕ) (ys : List ℕ) → holds w a n ≡ true → find_bytes may (w ∷ ws) a n ≡ Some ys → may w ≡ true
found_may may w ws a n ys h f = by_may (may w) refl
  where
    by_may : (c : Bool) → may w ≡ c → may w ≡ true
    by_may true e = e
    by_may false e = let r = find_refused may w ws a n h e in absurd cc

-- the bytes that were put, where they may be found
find_put_same : (may : Window → Bool) → IsStable may → (ws new : List Window) (a : ℕ) (xs ys : List ℕ) → put_in ws a xs ≡ Some new → find_bytes may ws a (length xs) ≡ Some ys → find_bytes may new a (length xs) ≡ Some xs
unfolding put_in
find_put_same may st [] new a xs ys e f = absurd cc
find_put_same may st (w ∷ ws) new a xs ys e f = by_case (λ rest p q. find_put_same may st ws rest a xs ys p q) (put_cases w ws a xs new e)
  where
    by_case : ((rest : List Window) → put_in ws a xs ≡ Some rest → find_bytes may ws a (length xs) ≡ Some ys → find_bytes may rest a (length xs) ≡ Some xs) → Put w ws a xs new → find_bytes may new a (length xs) ≡ Some xs
    by_case more (here h p n) =
        let w' = record w { bytes = put_bytes w.bytes (a - w.start) xs } in
        let in_a = held_within w a (length xs) h in
        ap (λ l. find_bytes may l a (length xs)) n
        ∙ find_here may w' ws a (length xs) (holds-put w (a - w.start) xs a (length xs) (omega arith) ∙ h) (st w _ ∙ found_may may w ws a (length xs) ys h f)
        ∙ ap Some (get_bytes-put_bytes w.bytes (a - w.start) xs (omega arith))
    by_case more (later rest h p n) =
        ap (λ l. find_bytes may l a (length xs)) n
        ∙ find_next may w rest a (length xs) h
        ∙ more rest p (sym (find_next may w ws a (length xs) h) ∙ f)

-- where bytes may be put, they may be put after a store
put_again : (ws new : List Window) (a : ℕ) (xs : List ℕ) (b : ℕ) (ys : List ℕ) (made : List Window) → put_in ws a xs ≡ Some new → put_in ws b ys ≡ Some made → (made' : List Window) × (put_in new b ys ≡ Some made')
unfolding put_in
put_again [] new a xs b ys made e f = absurd cc
put_again (w ∷ ws) new a xs b ys made e f = by_case (λ rest more p q. put_again ws rest a xs b ys more p q) (put_cases w ws a xs new e) (put_cases w ws b ys made f)
  where
    by_case : ((rest more : List Window) → put_in ws a xs ≡ Some rest → put_in ws b ys ≡ Some more → (made' : List Window) × (put_in rest b ys ≡ Some made')) → Put w ws a xs new → Put w ws b ys made → (made' : List Window) × (put_in new b ys ≡ Some made')
    by_case next (here h p n) (here h' p' n') =
        let in_a = held_within w a (length xs) h in
        (_, ap (λ l. put_in l b ys) n ∙ put_here (record w { bytes = put_bytes w.bytes (a - w.start) xs }) ws b ys (holds-put w (a - w.start) xs b (length ys) (omega arith) ∙ h') p)
    by_case next (here h p n) (later more h' q n') =
        let in_a = held_within w a (length xs) h in
        (_, ap (λ l. put_in l b ys) n ∙ put_next (record w { bytes = put_bytes w.bytes (a - w.start) xs }) ws more b ys (holds-put w (a - w.start) xs b (length ys) (omega arith) ∙ h') q)
    by_case next (later rest h q n) (here h' p' n') =
        (_, ap (λ l. put_in l b ys) n ∙ put_here w rest b ys h' p')
    by_case next (later rest h q n) (later more h' q' n') =
        let r = next rest more q q' in
        (_, ap (λ l. put_in l b ys) n ∙ put_next w rest r.0 b ys h' r.1)

-- a store, as a change of the windows
store_made : (v new : View) (a n x : ℕ) → store_bytes v a n x ≡ Ok new → (ws : List Window) × (put_in v.windows a (to_le n x) ≡ Some ws) × (new ≡ record v { windows = ws })
unfolding store_bytes
store_made v new a n x e = by_put (put_in v.windows a (to_le n x)) refl e
  where
    by_put : (o : Option (List Window)) → put_in v.windows a (to_le n x) ≡ o → view_or v o (if v.is_paged then 15 else 7) ≡ Ok new → (ws : List Window) × (put_in v.windows a (to_le n x) ≡ Some ws) × (new ≡ record v { windows = ws })
    by_put None p e = absurd cc
    by_put (Some ws) p e = (ws, p, cc)

load_found : (v : View) (a n y : ℕ) → load_bytes v a n ≡ Ok y → (bs : List ℕ) × (find_bytes (λ w. w.reads) v.windows a n ≡ Some bs)
unfolding load_bytes
load_found v a n y e = by_find (find_bytes (λ w. w.reads) v.windows a n) refl e
  where
    by_find : (o : Option (List ℕ)) → find_bytes (λ w. w.reads) v.windows a n ≡ o → number_or o (if v.is_paged then 13 else 5) ≡ Ok y → (bs : List ℕ) × (find_bytes (λ w. w.reads) v.windows a n ≡ Some bs)
    by_find None p e = absurd cc
    by_find (Some bs) p e = (bs, p)

sized : (n x a b m : ℕ) → AreApart a n b m → AreApart a (length (to_le n x)) b m
sized n x a b m h = subst (λ k. AreApart a k b m) (sym (length-to_le n x)) h

pub load-store_other : (v new : View) (a n x b m : ℕ) → AreApart a n b m → store_bytes v a n x ≡ Ok new → load_bytes new b m ≡ load_bytes v b m
unfolding load_bytes
load-store_other v new a n x b m apart e =
    let k = store_made v new a n x e in
    ap (λ u. load_bytes u b m) k.2 ∙ ap (λ o. number_or o (if v.is_paged then 13 else 5)) (find_put_other (λ w. w.reads) (λ w bs. refl) v.windows k.0 a (to_le n x) b m (sized n x a b m apart) k.1)

pub fetch-store_other : (v new : View) (a n x b : ℕ) → AreApart a n b 4 → store_bytes v a n x ≡ Ok new → fetch_word new b ≡ fetch_word v b
unfolding fetch_word
fetch-store_other v new a n x b apart e =
    let k = store_made v new a n x e in
    ap (λ u. fetch_word u b) k.2 ∙ ap (λ o. number_or o (if v.is_paged then 12 else 1)) (find_put_other (λ w. w.runs) (λ w bs. refl) v.windows k.0 a (to_le n x) b 4 (sized n x a b 4 apart) k.1)

pub load-store_same : (v new : View) (a n x y : ℕ) → x < 256 ^ n → load_bytes v a n ≡ Ok y → store_bytes v a n x ≡ Ok new → load_bytes new a n ≡ Ok x
unfolding load_bytes
load-store_same v new a n x y small f e =
    let k = store_made v new a n x e in
    let g = load_found v a n y f in
    let l = length-to_le n x in
    let same = find_put_same (λ w. w.reads) (λ w bs. refl) v.windows k.0 a (to_le n x) g.0 k.1 (subst (λ i. find_bytes (λ w. w.reads) v.windows a i ≡ Some g.0) (sym l) g.1) in
    ap (λ u. load_bytes u a n) k.2
    ∙ ap (λ o. number_or o (if v.is_paged then 13 else 5)) (subst (λ i. find_bytes (λ w. w.reads) k.0 a i ≡ Some (to_le n x)) l same)
    ∙ ap Ok (from_le-to_le n x small)

-- what may be stored may be stored after a store
pub store-store : (v new : View) (a n x b m y : ℕ) (other : View) → store_bytes v a n x ≡ Ok new → store_bytes v b m y ≡ Ok other → (made : View) × (store_bytes new b m y ≡ Ok made)
unfolding store_bytes
store-store v new a n x b m y other e f =
    let k = store_made v new a n x e in
    let l = store_made v other b m y f in
    let again = put_again v.windows k.0 a (to_le n x) b (to_le m y) l.0 k.1 l.1 in
    (_, ap (λ u. store_bytes u b m y) k.2 ∙ ap (λ o. view_or (record v { windows = k.0 }) o (if v.is_paged then 15 else 7)) again.1)

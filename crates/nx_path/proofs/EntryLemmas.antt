-- Entries by index, and what of them a loop has seen.
use Rattle.std.proofs.Common.{◌≡◌, ℕ, zero, suc, ◌+◌, ◌-◌, ◌<◌, List, [], ◌∷◌, ◌++◌, length, map, take, drop, get_or, refl, sym, ap, ◌∙◌, subst, arith, rules, Bool, true, false, cond, not, add-one, filter, append_assoc, append-nil, if◌then◌else◌}
use Rattle.std.specs.Prelude.{Option, Some, None, slice_get, option_map, ◌||◌, ◌==◌}
use Rattle.std.specs.List.{IsDistinct, AllByRecursion, list_any, count_by}
use Rattle.std.specs.Map.{lookup, keys_of}
use Rattle.std.specs.Str.{bytes_eq}
use Rattle.std.proofs.lemmas.List.{length-map, length-append, drop_at}
use Rattle.std.proofs.lemmas.List.Sums.{count_by_more_yes, count_by_more_no}
use Rattle.std.proofs.lemmas.Slice.Eq.{bytes_eq-Decides}
use Rattle.std.proofs.lemmas.Bool.{false_from_ne_true}
use Rattle.arrayvec.specs.ArrayVec.{ArrayVec}
use Rattle.indexmap.specs.IndexMap.{insert_entry}
use Rattle.nx_ksys.specs.declared.node.Node.{Node}
use Rattle.nx_ksys.specs.Paths.{node_at, entries_but, child_name, before, counts_before, nth_step, nth_from, last_part}
use Rattle.nx_ksys.specs.TreeCalls.{listed_name}
use Rattle.nx_path.specs.Entries.{see, IsListed}
use Rattle.nx_path.specs.Walks.{last_count}

pub same_bytes : (a b : List ℕ) → bytes_eq a b ≡ true → a ≡ b
same_bytes a b e = search (rules, bytes_eq-Decides)

pub bytes_same : (a : List ℕ) → bytes_eq a a ≡ true
bytes_same a = search (rules, bytes_eq-Decides)

-- ---- keys as vectors, and as their bytes

pub get_seen : (es : List (ArrayVec ℕ × Node)) (i : ℕ) (e : ArrayVec ℕ × Node) → slice_get es i ≡ Some e → slice_get (map see es) i ≡ Some (see e)
get_seen [] i e h = absurd cc
get_seen (x ∷ xs) zero e h = let k : x ≡ e = cc in ap (λ q. Some (see q)) k
get_seen (x ∷ xs) (suc i) e h = get_seen xs i e h

pub find_seen : (path : List ℕ) (es : List (ArrayVec ℕ × Node)) → lookup (λ (k : ArrayVec ℕ). bytes_eq path k.items) es ≡ node_at (map see es) path
unfolding node_at
find_seen path [] = refl
find_seen path (e ∷ es) = ap (cond (bytes_eq path e.0.items) (Some e.1)) (find_seen path es)

pub put_seen : (path : ArrayVec ℕ) (node : Node) (es : List (ArrayVec ℕ × Node)) → node_at (map see es) path.items ≡ None → map see (insert_entry (λ a b. bytes_eq a.items b.items) es path node) ≡ map see es ++ (path.items, node) ∷ []
unfolding node_at
put_seen path node [] h = refl
put_seen path node (e ∷ es) h = on (bytes_eq path.items e.0.items) h (λ k. put_seen path node es k)
  where
    on : (b : Bool) → cond b (Some e.1) (lookup (bytes_eq path.items) (map see es)) ≡ None → (lookup (bytes_eq path.items) (map see es) ≡ None → map see (insert_entry (λ a b. bytes_eq a.items b.items) es path node) ≡ map see es ++ (path.items, node) ∷ [])
        → map see (cond b ((e.0, node) ∷ es) (e ∷ insert_entry (λ a b. bytes_eq a.items b.items) es path node)) ≡ see e ∷ (map see es ++ (path.items, node) ∷ [])
    on true k r = absurd cc
    on false k r = ap (λ q. see e ∷ q) (r k)

pub distinct_seen : (es : List (ArrayVec ℕ × Node)) → IsDistinct (λ a b. bytes_eq a.items b.items) (keys_of es) → IsDistinct bytes_eq (keys_of (map see es))
unfolding IsDistinct
distinct_seen [] d = d
distinct_seen (e ∷ es) d = (others es d.0, distinct_seen es d.1)
  where
    others : (fs : List (ArrayVec ℕ × Node)) → AllByRecursion (λ (y : ArrayVec ℕ). bytes_eq e.0.items y.items ≡ false) (keys_of fs) → AllByRecursion (λ y. bytes_eq e.0.items y ≡ false) (keys_of (map see fs))
    others [] a = a
    others (f ∷ fs) a = (a.0, others fs a.1)

pub one_more : (es fs : List (ArrayVec ℕ × Node)) (x : List ℕ × Node) → map see fs ≡ map see es ++ x ∷ [] → length fs ≡ length es + 1
one_more es fs x e = omega (arith, ap length e, length-map fs see, length-map es see, length-append (map see es) (x ∷ []))

-- ---- the entry that a loop has come to

pub drop_entry : (es : List (List ℕ × Node)) (i : ℕ) (e : List ℕ × Node) → slice_get es i ≡ Some e → drop i es ≡ e ∷ drop (suc i) es
drop_entry [] i e h = absurd cc
drop_entry (x ∷ xs) zero e h = let k : x ≡ e = cc in ap (λ q. q ∷ xs) k
drop_entry (x ∷ xs) (suc i) e h = drop_entry xs i e h

pub entry_below : (es : List (List ℕ × Node)) (i : ℕ) (e : List ℕ × Node) → slice_get es i ≡ Some e → i < length es
entry_below [] i e h = absurd cc
entry_below (x ∷ xs) zero e h = omega arith
entry_below (x ∷ xs) (suc i) e h = let l = entry_below xs i e h in omega arith

pub any_found : (test : List ℕ × Node → Bool) (es : List (List ℕ × Node)) (i : ℕ) (e : List ℕ × Node) (w : Bool) → slice_get es i ≡ Some e → test e ≡ true → list_any test (drop i es) ≡ w → true ≡ w
any_found test es i e w h t b = sym (ap (λ q. q || list_any test (drop (suc i) es)) t) ∙ sym (ap (list_any test) (drop_entry es i e h)) ∙ b

pub any_next : (test : List ℕ × Node → Bool) (es : List (List ℕ × Node)) (i : ℕ) (e : List ℕ × Node) (w : Bool) → slice_get es i ≡ Some e → test e ≡ false → list_any test (drop i es) ≡ w → list_any test (drop (i + 1) es) ≡ w
any_next test es i e w h t b = ap (λ n. list_any test (drop n es)) (add-one i) ∙ sym (ap (λ q. q || list_any test (drop (suc i) es)) t) ∙ sym (ap (list_any test) (drop_entry es i e h)) ∙ b

get_entry : (es : List (List ℕ × Node)) (i : ℕ) (e : List ℕ × Node) → slice_get es i ≡ Some e → get_or es i e ≡ e
get_entry [] i e h = refl
get_entry (x ∷ xs) zero e h = cc
get_entry (x ∷ xs) (suc i) e h = get_entry xs i e h

pub count_more : (test : List ℕ × Node → Bool) (es : List (List ℕ × Node)) (i count r : ℕ) (e : List ℕ × Node) → slice_get es i ≡ Some e → r ≡ cond (test e) 1 0 → count ≡ count_by test (take i es) → count + r ≡ count_by test (take (i + 1) es)
count_more test es i count r e h k b = on (test e) refl k
  where
    on : (t : Bool) → test e ≡ t → r ≡ cond t 1 0 → count + r ≡ count_by test (take (i + 1) es)
    on true t s = omega (arith, b, count_by_more_yes test es i e (entry_below es i e h) (ap test (get_entry es i e h) ∙ t))
    on false t s = omega (arith, b, count_by_more_no test es i e (entry_below es i e h) (ap test (get_entry es i e h) ∙ t))

-- ---- names in a directory

pub before_next : (directory name : List ℕ) (es : List (List ℕ × Node)) (i count r total : ℕ) (e : List ℕ × Node) → slice_get es i ≡ Some e → r ≡ counts_before name (child_name directory e.0) → count + before directory name (drop i es) ≡ total → count + r + before directory name (drop (i + 1) es) ≡ total
before_next directory name es i count r total e h k b =
    let d : before directory name (drop i es) ≡ counts_before name (child_name directory e.0) + before directory name (drop (suc i) es) = ap (before directory name) (drop_entry es i e h) in
    let n : before directory name (drop (i + 1) es) ≡ before directory name (drop (suc i) es) = ap (λ m. before directory name (drop m es)) (add-one i) in
    omega arith

pub nth_found : (all : List (List ℕ × Node)) (directory : List ℕ) (index i : ℕ) (e y : List ℕ × Node) (w : Option (List ℕ × Node)) → slice_get all i ≡ Some e
    → ((rest : Option (List ℕ × Node)) → nth_step all directory index e.1 rest (child_name directory e.0) ≡ Some y) → nth_from all directory index (drop i all) ≡ w → Some y ≡ w
nth_found all directory index i e y w h k b = sym (k (nth_from all directory index (drop (suc i) all))) ∙ sym (ap (nth_from all directory index) (drop_entry all i e h)) ∙ b

equals : (a b : ℕ) → a ≡ b → (a == b) ≡ true
equals a b e = search (rules, arith)

pub nth_here : (all : List (List ℕ × Node)) (directory name : List ℕ) (index count : ℕ) (node : Node) (rest : Option (List ℕ × Node)) (child : Option (List ℕ)) → Some name ≡ child → count ≡ before directory name all → count ≡ index
    → nth_step all directory index node rest child ≡ Some (name, node)
nth_here all directory name index count node rest child e b k =
    let t = equals (before directory name all) index (sym b ∙ k) in
    subst (λ o. nth_step all directory index node rest o ≡ Some (name, node)) e (rw t refl)

pub nth_listed : (all : List (List ℕ × Node)) (directory : List ℕ) (index i : ℕ) (e : List ℕ × Node) (w : Option (List ℕ × Node)) (text : List ℕ) → slice_get all i ≡ Some e
    → IsListed text (λ rest. nth_step all directory index e.1 rest (child_name directory e.0)) → nth_from all directory index (drop i all) ≡ w → Some text ≡ option_map (λ x. listed_name x.0 x.1) w
nth_listed all directory index i e w text h l b =
    ap Some l.listed ∙ ap (option_map (λ (x : List ℕ × Node). listed_name x.0 x.1)) (nth_found all directory index i e l.entry w h l.found b)

pub nth_next : (all : List (List ℕ × Node)) (directory : List ℕ) (index i : ℕ) (e : List ℕ × Node) (w : Option (List ℕ × Node)) → slice_get all i ≡ Some e
    → ((rest : Option (List ℕ × Node)) → nth_step all directory index e.1 rest (child_name directory e.0) ≡ rest) → nth_from all directory index (drop i all) ≡ w → nth_from all directory index (drop (i + 1) all) ≡ w
nth_next all directory index i e w h k b = ap (λ m. nth_from all directory index (drop m all)) (add-one i) ∙ sym (k (nth_from all directory index (drop (suc i) all))) ∙ sym (ap (nth_from all directory index) (drop_entry all i e h)) ∙ b

-- ---- all entries but that of a path

pub swapped : (a b : List ℕ) → bytes_eq a b ≡ false → bytes_eq b a ≡ false
swapped a b e = false_from_ne_true _ (λ k. let same = same_bytes b a k in let t = subst (λ q. bytes_eq q b ≡ true) same (bytes_same b) in absurd cc)

pub other_at : (es : List (List ℕ × Node)) (i : ℕ) (e : List ℕ × Node) (p : List ℕ) → AllByRecursion (λ y. bytes_eq p y ≡ false) (keys_of es) → slice_get es i ≡ Some e → bytes_eq p e.0 ≡ false
other_at [] i e p h k = absurd cc
other_at (x ∷ xs) zero e p h k = let s : x ≡ e = cc in subst (λ y. bytes_eq p y.0 ≡ false) s h.0
other_at (x ∷ xs) (suc i) e p h k = other_at xs i e p h.1 k

absent_in : (test : List ℕ × Node → Bool) (es : List (List ℕ × Node)) (i : ℕ) (e : List ℕ × Node) → IsDistinct bytes_eq (keys_of es) → slice_get es i ≡ Some e → node_at (filter test (take i es)) e.0 ≡ None
unfolding IsDistinct node_at
absent_in test [] i e d h = absurd cc
absent_in test (x ∷ xs) zero e d h = refl
absent_in test (x ∷ xs) (suc i) e d h =
    let rest = absent_in test xs i e d.1 h in
    let other = swapped x.0 e.0 (other_at xs i e x.0 d.0 h) in
    elim (test x) as (λ b. lookup (bytes_eq e.0) (cond b (x ∷ filter test (take i xs)) (filter test (take i xs))) ≡ None) [ true ↦ rw other rest | false ↦ rest ]

but_step : (path : List ℕ) (es : List (List ℕ × Node)) (i : ℕ) (e : List ℕ × Node) → slice_get es i ≡ Some e → entries_but path (take (i + 1) es) ≡ entries_but path (take i es) ++ cond (bytes_eq path e.0) [] (e ∷ [])
but_step path es i e h = rw add-one (next es i h)
  where
    next : (fs : List (List ℕ × Node)) (j : ℕ) → slice_get fs j ≡ Some e → entries_but path (take (suc j) fs) ≡ entries_but path (take j fs) ++ cond (bytes_eq path e.0) [] (e ∷ [])
    next [] j k = absurd cc
    next (f ∷ fs) zero k =
        let same : f ≡ e = cc in
        rw same (elim (bytes_eq path e.0) as (λ b. cond (not b) (e ∷ []) [] ≡ cond b [] (e ∷ [])) [ true ↦ refl | false ↦ refl ])
    next (f ∷ fs) (suc j) k =
        let rest = next fs j k in
        elim (not (bytes_eq path f.0)) as (λ b. cond b (f ∷ entries_but path (take (suc j) fs)) (entries_but path (take (suc j) fs))
        ≡ cond b (f ∷ entries_but path (take j fs)) (entries_but path (take j fs)) ++ cond (bytes_eq path e.0) [] (e ∷ [])) [ true ↦ ap (λ l. f ∷ l) rest | false ↦ rest ]

pub but_absent : (path text : List ℕ) (es into : List (List ℕ × Node)) (i : ℕ) (node : Node) → IsDistinct bytes_eq (keys_of es) → slice_get es i ≡ Some (text, node) → into ≡ entries_but path (take i es) → node_at into text ≡ None
but_absent path text es into i node d h b = rw b (absent_in (λ e. not (bytes_eq path e.0)) es i (text, node) d h)

pub but_next : (path text : List ℕ) (es into new : List (List ℕ × Node)) (i : ℕ) (node : Node) → slice_get es i ≡ Some (text, node) → into ≡ entries_but path (take i es) → new ≡ into ++ cond (bytes_eq path text) [] ((text, node) ∷ []) → new ≡ entries_but path (take (i + 1) es)
but_next path text es into new i node h b n = n ∙ ap (λ q. q ++ cond (bytes_eq path text) [] ((text, node) ∷ [])) b ∙ sym (but_step path es i (text, node) h)

-- ---- the last part of a path

counted_part : (bs : List ℕ) (n : ℕ) (part : List ℕ) → length part ≡ n → length (last_part part bs) ≡ last_count n bs
counted_part [] n part e = e
counted_part (b ∷ bs) n part e = by_byte (b == 47) (counted_part bs 0 [] refl) (counted_part bs (n + 1) (part ++ b ∷ []) (omega (arith, length-append part (b ∷ []))))
  where
    by_byte : (slash : Bool) → length (last_part [] bs) ≡ last_count 0 bs → length (last_part (part ++ b ∷ []) bs) ≡ last_count (n + 1) bs
        → length (if slash then last_part [] bs else last_part (part ++ b ∷ []) bs) ≡ last_count (if slash then 0 else n + 1) bs
    by_byte true x y = x
    by_byte false x y = y

pub last_is_counted : (path : List ℕ) → last_count 0 path ≡ length (last_part [] path)
last_is_counted path = sym (counted_part path 0 [] refl)

-- the last part stands at the end
ends_with : (bs part : List ℕ) → (front : List ℕ) × (part ++ bs ≡ front ++ last_part part bs)
ends_with [] part = ([], append-nil part)
ends_with (b ∷ bs) part = by_byte (b == 47) (ends_with bs []) (ends_with bs (part ++ b ∷ []))
  where
    by_byte : (slash : Bool) → (front : List ℕ) × ([] ++ bs ≡ front ++ last_part [] bs) → (front : List ℕ) × ((part ++ b ∷ []) ++ bs ≡ front ++ last_part (part ++ b ∷ []) bs)
        → (front : List ℕ) × (part ++ b ∷ bs ≡ front ++ (if slash then last_part [] bs else last_part (part ++ b ∷ []) bs))
    by_byte true x y = (part ++ b ∷ x.0, ap (λ q. part ++ b ∷ q) x.1 ∙ sym (append_assoc part (b ∷ x.0) (last_part [] bs)))
    by_byte false x y = (y.0, sym (append_assoc part (b ∷ []) bs) ∙ y.1)

pub last_is_dropped : (path : List ℕ) (n : ℕ) → n ≡ length path - length (last_part [] path) → drop n path ≡ last_part [] path
last_is_dropped path n e =
    let f = ends_with path [] in
    let front = f.0 in
    let last = last_part [] path in
    let long : length path ≡ length front + length last = ap length f.1 ∙ length-append front last in
    let at : length front ≡ n = omega arith in
    ap (drop n) f.1 ∙ drop_at front last n at

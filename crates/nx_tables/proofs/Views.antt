-- What is written into the RAM shows in a window, or does not.
use Rattle.std.proofs.Common.{◌≡◌, ◌≢◌, ℕ, zero, suc, ◌+◌, ◌-◌, ◌*◌, ◌/◌, ◌%◌, ◌<◌, ◌≤◌, ◌⊎◌, Bool, Some, List, [], ◌∷◌, length, get_or, refl, sym, ap, ◌∙◌, arith, ⊎_elim, inl, inr, add-zero}
use Rattle.std.specs.Prelude.{slice_set}
use Rattle.std.proofs.lemmas.List.{length-set, get_or-set_same, ext_get_or}
use Rattle.std.proofs.lemmas.Bool.{cases_lt, cases_eq}
use Rattle.nx_base.specs.ByteLists.{put_bytes}
use Rattle.nx_base.specs.declared.access.Access.TheVariants.{Load}
use Rattle.nx_base.proofs.Puts.{put_bytes-more, length-put_bytes, get-put_bytes_other}
use Rattle.nx_sv32.specs.Walk.{ram_start, walk}
use Rattle.nx_tables.specs.Maps.{Maps, satp_of, translated}
use Rattle.nx_tables.specs.Roles.{Role, Leaf, is_table, is_of, Stands, SameFrames}
use Rattle.nx_tables.specs.ViewBytes.{byte_by, seen, PageAt, IsMapped}
use Rattle.nx_tables.proofs.Walked.{walk_mapped}
use Rattle.nx_tables.proofs.Kept.{table_is_of, leaf_is_of, stands_kept, same_roles, byte_elsewhere, put_same}

-- the bytes that were put
pub get-put_bytes_same : (bs : List ℕ) (i : ℕ) (xs : List ℕ) (d : ℕ) → i + length xs ≤ length bs → d < length xs → get_or (put_bytes bs i xs) (i + d) 0 ≡ get_or xs d 0
get-put_bytes_same bs i [] d h l = absurd (omega (arith, l))
get-put_bytes_same bs i (x ∷ xs) zero h l =
    let n = length-set bs i x in
    ap (λ bytes. get_or bytes (i + 0) 0) (put_bytes-more bs i x xs (omega (arith, h)))
    ∙ ap (λ k. get_or (put_bytes (slice_set bs i x) (i + 1) xs) k 0) (add-zero i)
    ∙ get-put_bytes_other (slice_set bs i x) (i + 1) xs i (omega (arith, h, n)) (inl (omega arith))
    ∙ get_or-set_same bs i x 0 (omega (arith, h))
get-put_bytes_same bs i (x ∷ xs) (suc d) h l =
    let n = length-set bs i x in
    let e : i + suc d ≡ i + 1 + d = omega arith in
    ap (λ bytes. get_or bytes (i + suc d) 0) (put_bytes-more bs i x xs (omega (arith, h)))
    ∙ ap (λ k. get_or (put_bytes (slice_set bs i x) (i + 1) xs) k 0) e
    ∙ get-put_bytes_same (slice_set bs i x) (i + 1) xs d (omega (arith, h, n)) (omega (arith, l))

pub length-seen : (ram : List ℕ) (satp at n : ℕ) → length (seen ram satp at n) ≡ n
unfolding seen
length-seen ram satp at zero = refl
length-seen ram satp at (suc n) = ap suc (length-seen ram satp (at + 1) n)

pub get-seen : (ram : List ℕ) (satp at n k : ℕ) → k < n → get_or (seen ram satp at n) k 0 ≡ byte_by ram (walk ram satp (at + k) Load)
unfolding seen
get-seen ram satp at zero k h = absurd (omega (arith, h))
get-seen ram satp at (suc n) zero h = ap (λ q. byte_by ram (walk ram satp q Load)) (sym (add-zero at))
get-seen ram satp at (suc n) (suc k) h =
    let e : at + 1 + k ≡ at + suc k = omega arith in
    get-seen ram satp (at + 1) n k (omega (arith, h)) ∙ ap (λ q. byte_by ram (walk ram satp q Load)) e

-- the byte at a mapped address
pub byte_mapped : (ram : List ℕ) (role : ℕ → Role) (g : ℕ) (m : Maps) (at : ℕ) (writes : Bool) → Stands ram role g m → at < 4294967296 → (h : PageAt m at writes) → byte_by ram (walk ram (satp_of m.root) at Load) ≡ get_or ram (4096 * h.page.frame + at % 4096) 0
byte_mapped ram role g m at writes s small h =
    let e : ram_start + (4096 * h.page.frame + at % 4096) - ram_start ≡ 4096 * h.page.frame + at % 4096 = omega arith in
    ap (byte_by ram) (walk_mapped ram role g m at Load s small ∙ ap (λ o. translated o at Load) h.mapped)
    ∙ ap (λ k. get_or ram k 0) e

-- two windows, byte for byte
pub seen_alike : (old new : List ℕ) (satp start n : ℕ) → ((k : ℕ) → k < n → get_or (seen new satp start n) k 0 ≡ get_or (seen old satp start n) k 0) → seen new satp start n ≡ seen old satp start n
seen_alike old new satp start n same =
    let l = length-seen new satp start n in
    ext_get_or 0 _ _ (l ∙ sym (length-seen old satp start n)) (λ k h. same k (omega (arith, h, l)))

-- what each byte of a window is before and after
pub seen_by_frames : (old new : List ℕ) (role : ℕ → Role) (g : ℕ) (m : Maps) (start n : ℕ) (writes : Bool) → Stands old role g m → Stands new role g m → IsMapped m start n writes → start + n ≤ 4294967296 → ((at : ℕ) → start ≤ at → at < start + n → (p : PageAt m at writes) → get_or new (4096 * p.page.frame + at % 4096) 0 ≡ get_or old (4096 * p.page.frame + at % 4096) 0) → seen new (satp_of m.root) start n ≡ seen old (satp_of m.root) start n
seen_by_frames old new role g m start n writes s t mapped top same = seen_alike old new (satp_of m.root) start n (λ k l.
    let p = mapped (start + k) (omega arith) (omega (arith, l)) in
    get-seen new (satp_of m.root) start n k l
    ∙ byte_mapped new role g m (start + k) writes t (omega (arith, l, top)) p
    ∙ same (start + k) (omega arith) (omega (arith, l)) p
    ∙ sym (byte_mapped old role g m (start + k) writes s (omega (arith, l, top)) p)
    ∙ sym (get-seen old (satp_of m.root) start n k l))

pub seen_kept : (old new : List ℕ) (role : ℕ → Role) (g : ℕ) (m : Maps) (start n : ℕ) (writes : Bool) → Stands old role g m → SameFrames (λ f. is_of g (role f)) old new → length new ≡ length old → IsMapped m start n writes → start + n ≤ 4294967296 → seen new (satp_of m.root) start n ≡ seen old (satp_of m.root) start n
seen_kept old new role g m start n writes s same long mapped top =
    let t : Stands new role g m = stands_kept old new role role g m s (λ f k h l. same f k (table_is_of g (role f) h) l) (same_roles g role) long in
    seen_by_frames old new role g m start n writes s t mapped top (λ at low high p.
    same p.page.frame (at % 4096) (leaf_is_of g (at / 4096) (role p.page.frame) (s.owns.pages (at / 4096) p.page p.mapped)) (omega arith))

-- a write into a page leaves all tables
pub page_written : (ram : List ℕ) (role : ℕ → Role) (g : ℕ) (m : Maps) (h v frame i : ℕ) (xs : List ℕ) → Stands ram role g m → role frame ≡ Leaf h v → 4096 * frame ≤ i → i + length xs ≤ 4096 * frame + 4096 → 4096 * frame + 4096 ≤ length ram → Stands (put_bytes ram i xs) role g m
page_written ram role g m h v frame i xs s is low high room =
    stands_kept ram (put_bytes ram i xs) role role g m s
    (put_same (λ f. is_table g (role f)) ram frame i xs (ap (is_table g) is) low high (omega (arith, high, room)))
    (same_roles g role)
    (length-put_bytes ram i xs (omega (arith, high, room)))

-- two pages in one frame are one page of one group
pub same_page : (role : ℕ → Role) (g h v w a b : ℕ) → role a ≡ Leaf g v → role b ≡ Leaf h w → a ≡ b → (g ≡ h) × (v ≡ w)
same_page role g h v w a b e f q = both (sym e ∙ ap role q ∙ f)
  where
    group_of : Role → ℕ
    group_of (Leaf x y) = x
    group_of r = 0

    number_of : Role → ℕ
    number_of (Leaf x y) = y
    number_of r = 0

    both : Leaf g v ≡ Leaf h w → (g ≡ h) × (v ≡ w)
    both p = (ap group_of p, ap number_of p)

pub seen_other : (ram : List ℕ) (role : ℕ → Role) (g : ℕ) (m : Maps) (start n : ℕ) (writes : Bool) (h v frame i : ℕ) (xs : List ℕ) → Stands ram role g m → IsMapped m start n writes → start + n ≤ 4294967296 → role frame ≡ Leaf h v → 4096 * frame ≤ i → i + length xs ≤ 4096 * frame + 4096 → 4096 * frame + 4096 ≤ length ram → ((at : ℕ) → start ≤ at → at < start + n → g ≡ h → at / 4096 ≢ v) → seen (put_bytes ram i xs) (satp_of m.root) start n ≡ seen ram (satp_of m.root) start n
seen_other ram role g m start n writes h v frame i xs s mapped top is low high room out =
    seen_by_frames ram (put_bytes ram i xs) role g m start n writes s (page_written ram role g m h v frame i xs s is low high room) mapped top (λ at l u p.
    let o = s.owns.pages (at / 4096) p.page p.mapped in
    byte_elsewhere ram frame i xs p.page.frame (at % 4096) low high (omega (arith, high, room))
    (λ q. let b = same_page role g h (at / 4096) v p.page.frame frame o is q in out at l u b.0 b.1) (omega arith))

pub seen_put : (ram : List ℕ) (role : ℕ → Role) (g : ℕ) (m : Maps) (start n : ℕ) (writes : Bool) (j i : ℕ) (xs : List ℕ) → Stands ram role g m → IsMapped m start n writes → start + n ≤ 4294967296 → (p : PageAt m (start + j) writes) → j + length xs ≤ n → i ≡ 4096 * p.page.frame + (start + j) % 4096 → (start + j) % 4096 + length xs ≤ 4096 → seen (put_bytes ram i xs) (satp_of m.root) start n ≡ put_bytes (seen ram (satp_of m.root) start n) j xs
seen_put ram role g m start n writes j i xs s mapped top p room at_is fit =
    let l = length-seen new satp start n in
    ext_get_or 0 _ _ (l ∙ sym (length-seen ram satp start n) ∙ sym (length-put_bytes old j xs inside)) (λ k h. byte k (omega (arith, h, l)))
  where
    new : List ℕ
    new = put_bytes ram i xs

    satp : ℕ
    satp = satp_of m.root

    old : List ℕ
    old = seen ram satp start n

    inside : j + length xs ≤ length old
    inside = let l = length-seen ram satp start n in omega (arith, room, l)

    v : ℕ
    v = (start + j) / 4096

    frame : ℕ
    frame = p.page.frame

    is : role frame ≡ Leaf g v
    is = s.owns.pages v p.page p.mapped

    within : 4096 * frame + 4096 ≤ length ram
    within = s.lie.pages v p.page p.mapped

    t : Stands new role g m
    t = page_written ram role g m g v frame i xs s is (omega (arith, at_is)) (omega (arith, at_is, fit)) within

    after : (k : ℕ) → k < n → (q : PageAt m (start + k) writes) → get_or (seen new satp start n) k 0 ≡ get_or new (4096 * q.page.frame + (start + k) % 4096) 0
    after k l q = get-seen new satp start n k l ∙ byte_mapped new role g m (start + k) writes t (omega (arith, l, top)) q

    before : (k : ℕ) → k < n → (q : PageAt m (start + k) writes) → get_or old k 0 ≡ get_or ram (4096 * q.page.frame + (start + k) % 4096) 0
    before k l q = get-seen ram satp start n k l ∙ byte_mapped ram role g m (start + k) writes s (omega (arith, l, top)) q

    frame_is : (k : ℕ) (q : PageAt m (start + k) writes) → (start + k) / 4096 ≡ v → q.page.frame ≡ frame
    frame_is k q e = ap (λ r. r.frame) (some_is (sym q.mapped ∙ ap m.pages e ∙ p.mapped))
      where
        some_is : Some q.page ≡ Some p.page → q.page ≡ p.page
        some_is e = cc

    inside_put : (k : ℕ) → k < n → j ≤ k → k < j + length xs → get_or (seen new satp start n) k 0 ≡ get_or (put_bytes old j xs) k 0
    inside_put k l low high =
        let q = mapped (start + k) (omega arith) (omega (arith, l)) in
        let e : (start + k) / 4096 ≡ v = omega (arith, fit, low, high) in
        let f = frame_is k q e in
        let a : 4096 * q.page.frame + (start + k) % 4096 ≡ i + (k - j) = omega (arith, at_is, f, e, low, high, fit) in
        let b : j + (k - j) ≡ k = omega (arith, low) in
        after k l q
        ∙ ap (λ x. get_or new x 0) a
        ∙ get-put_bytes_same ram i xs (k - j) (omega (arith, at_is, fit, within)) (omega (arith, low, high))
        ∙ sym (get-put_bytes_same old j xs (k - j) inside (omega (arith, low, high)))
        ∙ ap (λ x. get_or (put_bytes old j xs) x 0) b

    outside_put : (k : ℕ) → k < n → (k < j) ⊎ (j + length xs ≤ k) → get_or (seen new satp start n) k 0 ≡ get_or (put_bytes old j xs) k 0
    outside_put k l out =
        let q = mapped (start + k) (omega arith) (omega (arith, l)) in
        after k l q
        ∙ ⊎_elim
        (λ e.
        let f = frame_is k q e in
        get-put_bytes_other ram i xs (4096 * q.page.frame + (start + k) % 4096) (omega (arith, at_is, fit, within)) (⊎_elim (λ a. inl (omega (arith, a, at_is, f, e))) (λ a. inr (omega (arith, a, at_is, f, e))) out))
        (λ ne.
        let o = s.owns.pages ((start + k) / 4096) q.page q.mapped in
        byte_elsewhere ram frame i xs q.page.frame ((start + k) % 4096) (omega (arith, at_is)) (omega (arith, at_is, fit)) (omega (arith, at_is, fit, within))
        (λ z. ne ((same_page role g g ((start + k) / 4096) v q.page.frame frame o is z).1)) (omega arith))
        (cases_eq ((start + k) / 4096) v)
        ∙ sym (before k l q)
        ∙ sym (get-put_bytes_other old j xs k inside out)

    byte : (k : ℕ) → k < n → get_or (seen new satp start n) k 0 ≡ get_or (put_bytes old j xs) k 0
    byte k l =
        ⊎_elim (λ a. outside_put k l (inl a)) (λ a. ⊎_elim (λ b. inside_put k l a b) (λ b. outside_put k l (inr b)) (cases_lt k (j + length xs))) (cases_lt k j)

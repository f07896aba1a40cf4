-- An entry that is written adds exactly one table or one page to what the RAM encodes.
use Rattle.std.proofs.Common.{◌≡◌, ◌≢◌, ℕ, zero, suc, ◌+◌, ◌*◌, ◌<◌, ◌≤◌, ◌⊎◌, ◌==◌, Bool, true, false, Some, None, List, length, get_or, refl, sym, ap, ◌∙◌, arith, ⊎_elim, inl, inr}
use Rattle.std.specs.Prelude.{if◌then◌else◌}
use Rattle.std.proofs.lemmas.Bool.{cases_lt, cases_eq}
use Rattle.nx_base.specs.ByteLists.{get_bytes, put_bytes, from_le, to_le}
use Rattle.nx_base.proofs.Puts.{get_bytes-put_bytes, get_bytes-put_bytes_other, length-to_le, from_le-to_le}
use Rattle.nx_sv32.specs.Walk.{entry_at}
use Rattle.nx_tables.specs.Maps.{Page, Maps, Encodes, root_entry, page_entry, pointer_to, leaf_of}
use Rattle.nx_tables.specs.Roles.{Role, Root, Table, Owns, no_maps, with_table, with_page, IsZeroed}
use Rattle.nx_tables.proofs.EntryBits.{rights_small}
use Rattle.nx_tables.proofs.Kept.{same_number, other_number, entry_same, byte_elsewhere}

-- an entry beside the bytes that are put, and one that is put
entry_beside : (ram : List ℕ) (i : ℕ) (xs : List ℕ) (j : ℕ) → i + length xs ≤ length ram → (j + 4 ≤ i) ⊎ (i + length xs ≤ j) → entry_at (put_bytes ram i xs) j ≡ entry_at ram j
unfolding entry_at
entry_beside ram i xs j fit out = ap from_le (get_bytes-put_bytes_other ram i xs j 4 fit out)

entry_put : (ram : List ℕ) (i x : ℕ) → x < 4294967296 → i + 4 ≤ length ram → entry_at (put_bytes ram i (to_le 4 x)) i ≡ x
unfolding entry_at
entry_put ram i x small h =
    let l = length-to_le 4 x in
    ap (λ n. from_le (get_bytes (put_bytes ram i (to_le 4 x)) i n)) (sym l)
    ∙ ap from_le (get_bytes-put_bytes ram i (to_le 4 x) (omega (arith, h, l)))
    ∙ from_le-to_le 4 x small

-- the entries of another frame
entry_elsewhere : (ram : List ℕ) (frame i : ℕ) (xs : List ℕ) (other j : ℕ) → 4096 * frame ≤ i → i + length xs ≤ 4096 * frame + 4096 → i + length xs ≤ length ram → other ≢ frame → j < 1024 → entry_at (put_bytes ram i xs) (4096 * other + 4 * j) ≡ entry_at ram (4096 * other + 4 * j)
entry_elsewhere ram frame i xs other j low high fit ne small =
    entry_same ram (put_bytes ram i xs) other j small (λ k l. byte_elsewhere ram frame i xs other k low high fit ne l)

-- a frame of zeros has entries of zero
zero_bytes : (ram : List ℕ) (at n : ℕ) → ((k : ℕ) → k < n → get_or ram (at + k) 0 ≡ 0) → from_le (get_bytes ram at n) ≡ 0
unfolding from_le get_bytes
zero_bytes ram at zero h = refl
zero_bytes ram at (suc n) h =
    let z : at + 0 ≡ at = omega arith in
    let b = ap (λ k. get_or ram k 0) (sym z) ∙ h 0 (omega arith) in
    let r = zero_bytes ram (at + 1) n (λ k l. let e : at + 1 + k ≡ at + suc k = omega arith in ap (λ j. get_or ram j 0) e ∙ h (suc k) (omega (arith, l))) in
    omega (arith, b, r)

zero_entry : (ram : List ℕ) (frame j : ℕ) → IsZeroed ram frame → j < 1024 → entry_at ram (4096 * frame + 4 * j) ≡ 0
unfolding entry_at
zero_entry ram frame j z h = zero_bytes ram (4096 * frame + 4 * j) 4 (λ k l.
    let e : 4096 * frame + 4 * j + k ≡ 4096 * frame + (4 * j + k) = omega arith in
    ap (λ i. get_or ram i 0) e ∙ z (4 * j + k) (omega (arith, h, l)))

pub nothing_mapped : (ram : List ℕ) (root : ℕ) → IsZeroed ram root → Encodes ram (no_maps root)
nothing_mapped ram root z = record { root = λ i h. zero_entry ram root i z h; leaves = λ i f j hi hj t. absurd cc; covered = λ i j hj t. refl }

pub some_number : (a b : ℕ) → Some a ≡ Some b → a ≡ b
some_number a b e = cc

pub some_page : (p q : Page) → Some p ≡ Some q → p ≡ q
some_page p q e = cc

-- the root and a table are different frames
pub root_is_no_table : (role : ℕ → Role) (g : ℕ) (m : Maps) (i f : ℕ) → Owns role g m → m.tables i ≡ Some f → f ≢ m.root
root_is_no_table role g m i f o t e = let a = o.tables i f t in let b = ap role e ∙ o.root in apart (sym b ∙ a)
  where
    apart : Root g ≡ Table g i → ⊥
    apart q = cc

-- one table has one region
same_region : (role : ℕ → Role) (g : ℕ) (m : Maps) (i k a b : ℕ) → Owns role g m → m.tables i ≡ Some a → m.tables k ≡ Some b → a ≡ b → i ≡ k
same_region role g m i k a b o s t e = index (sym (o.tables i a s) ∙ ap role e ∙ o.tables k b t)
  where
    index : Table g i ≡ Table g k → i ≡ k
    index q = cc

pub table_added : (ram : List ℕ) (role : ℕ → Role) (g : ℕ) (m : Maps) (i frame : ℕ) → Encodes ram m → Owns role g m → 4096 * m.root + 4096 ≤ length ram → i < 1024 → frame < 524288 → m.tables i ≡ None → frame ≢ m.root → IsZeroed ram frame → Encodes (put_bytes ram (4096 * m.root + 4 * i) (to_le 4 (pointer_to frame))) (with_table m i frame)
table_added ram role g m i frame e o room hi small none apart z = record { root = roots; leaves = leaves; covered = covered }
  where
    xs : List ℕ
    xs = to_le 4 (pointer_to frame)

    at : ℕ
    at = 4096 * m.root + 4 * i

    len : length xs ≡ 4
    len = length-to_le 4 (pointer_to frame)

    kept : (f j : ℕ) → f ≢ m.root → j < 1024 → entry_at (put_bytes ram at xs) (4096 * f + 4 * j) ≡ entry_at ram (4096 * f + 4 * j)
    kept f j ne hj = entry_elsewhere ram m.root at xs f j (omega arith) (omega (arith, len, hi)) (omega (arith, len, hi, room)) ne hj

    roots : (k : ℕ) → k < 1024 → entry_at (put_bytes ram at xs) (4096 * m.root + 4 * k) ≡ root_entry (if k == i then Some frame else m.tables k)
    roots k hk = ⊎_elim
        (λ same. ap (λ q. entry_at (put_bytes ram at xs) (4096 * m.root + 4 * q)) same ∙ entry_put ram at (pointer_to frame) (omega (arith, small)) (omega (arith, room, hi)) ∙ sym (ap (λ b. root_entry (if b then Some frame else m.tables k)) (same_number k i same)))
        (λ ne. entry_beside ram at xs (4096 * m.root + 4 * k) (omega (arith, len, hi, room)) (⊎_elim (λ l. inl (omega (arith, l))) (λ l. inr (omega (arith, l, len, ne))) (cases_lt k i)) ∙ e.root k hk ∙ sym (ap (λ b. root_entry (if b then Some frame else m.tables k)) (other_number k i ne)))
        (cases_eq k i)

    leaves : (k f j : ℕ) → k < 1024 → j < 1024 → (if k == i then Some frame else m.tables k) ≡ Some f → entry_at (put_bytes ram at xs) (4096 * f + 4 * j) ≡ page_entry (m.pages (1024 * k + j))
    leaves k f j hk hj t = ⊎_elim
        (λ same.
        let is : frame ≡ f = some_number frame f (ap (λ b. if b then Some frame else m.tables k) (sym (same_number k i same)) ∙ t) in
        ap (λ q. entry_at (put_bytes ram at xs) (4096 * q + 4 * j)) (sym is)
        ∙ kept frame j apart hj
        ∙ zero_entry ram frame j z hj
        ∙ sym (ap page_entry (e.covered k j hj (ap m.tables same ∙ none))))
        (λ ne.
        let old : m.tables k ≡ Some f = ap (λ b. if b then Some frame else m.tables k) (sym (other_number k i ne)) ∙ t in
        kept f j (root_is_no_table role g m k f o old) hj ∙ e.leaves k f j hk hj old)
        (cases_eq k i)

    covered : (k j : ℕ) → j < 1024 → (if k == i then Some frame else m.tables k) ≡ None → m.pages (1024 * k + j) ≡ None
    covered k j hj t = ⊎_elim
        (λ same. e.covered k j hj (ap m.tables same ∙ none))
        (λ ne. e.covered k j hj (ap (λ b. if b then Some frame else m.tables k) (sym (other_number k i ne)) ∙ t))
        (cases_eq k i)

pub page_added : (ram : List ℕ) (role : ℕ → Role) (g : ℕ) (m : Maps) (i j table : ℕ) (p : Page) → Encodes ram m → Owns role g m → 4096 * table + 4096 ≤ length ram → i < 1024 → j < 1024 → p.frame < 524288 → m.tables i ≡ Some table → Encodes (put_bytes ram (4096 * table + 4 * j) (to_le 4 (leaf_of p))) (with_page m (1024 * i + j) p)
page_added ram role g m i j table p e o room hi hj small is = record { root = roots; leaves = leaves; covered = covered }
  where
    xs : List ℕ
    xs = to_le 4 (leaf_of p)

    at : ℕ
    at = 4096 * table + 4 * j

    v : ℕ
    v = 1024 * i + j

    len : length xs ≡ 4
    len = length-to_le 4 (leaf_of p)

    kept : (f k : ℕ) → f ≢ table → k < 1024 → entry_at (put_bytes ram at xs) (4096 * f + 4 * k) ≡ entry_at ram (4096 * f + 4 * k)
    kept f k ne hk = entry_elsewhere ram table at xs f k (omega arith) (omega (arith, len, hj)) (omega (arith, len, hj, room)) ne hk

    roots : (k : ℕ) → k < 1024 → entry_at (put_bytes ram at xs) (4096 * m.root + 4 * k) ≡ root_entry (m.tables k)
    roots k hk = kept m.root k (λ q. root_is_no_table role g m i table o is (sym q)) hk ∙ e.root k hk

    at_page : (k : ℕ) (b : Bool) → (k == v) ≡ b → page_entry (if b then Some p else m.pages k) ≡ page_entry (if k == v then Some p else m.pages k)
    at_page k b q = ap (λ c. page_entry (if c then Some p else m.pages k)) (sym q)

    leaves : (k f l : ℕ) → k < 1024 → l < 1024 → m.tables k ≡ Some f → entry_at (put_bytes ram at xs) (4096 * f + 4 * l) ≡ page_entry (if 1024 * k + l == v then Some p else m.pages (1024 * k + l))
    leaves k f l hk hl t = ⊎_elim
        (λ region.
        let f_is : f ≡ table = some_number f table (sym t ∙ ap m.tables region ∙ is) in
        ⊎_elim
        (λ same.
        let vs : 1024 * k + l ≡ v = omega (arith, region, same) in
        ap (λ q. entry_at (put_bytes ram at xs) (4096 * q + 4 * l)) f_is
        ∙ ap (λ q. entry_at (put_bytes ram at xs) (4096 * table + 4 * q)) same
        ∙ entry_put ram at (leaf_of p) (let b = rights_small p.writes in omega (arith, small, b)) (omega (arith, room, hj))
        ∙ at_page (1024 * k + l) true (same_number (1024 * k + l) v vs))
        (λ ne.
        let vs : 1024 * k + l ≢ v = λ q. ne (omega (arith, region, q)) in
        ap (λ q. entry_at (put_bytes ram at xs) (4096 * q + 4 * l)) f_is
        ∙ entry_beside ram at xs (4096 * table + 4 * l) (omega (arith, len, hj, room)) (⊎_elim (λ a. inl (omega (arith, a))) (λ a. inr (omega (arith, a, len, ne))) (cases_lt l j))
        ∙ ap (λ q. entry_at ram (4096 * q + 4 * l)) (sym f_is)
        ∙ e.leaves k f l hk hl t
        ∙ at_page (1024 * k + l) false (other_number (1024 * k + l) v vs))
        (cases_eq l j))
        (λ ne.
        let vs : 1024 * k + l ≢ v = λ q. ne (omega (arith, hl, hj, q)) in
        kept f l (λ q. ne (same_region role g m k i f table o t is q)) hl ∙ e.leaves k f l hk hl t ∙ at_page (1024 * k + l) false (other_number (1024 * k + l) v vs))
        (cases_eq k i)

    covered : (k l : ℕ) → l < 1024 → m.tables k ≡ None → (if 1024 * k + l == v then Some p else m.pages (1024 * k + l)) ≡ None
    covered k l hl t =
        let vs : 1024 * k + l ≢ v = λ q. other k l t hl q in
        ap (λ b. if b then Some p else m.pages (1024 * k + l)) (other_number (1024 * k + l) v vs) ∙ e.covered k l hl t
      where
        no_table : None ≡ Some table → ⊥
        no_table q = cc

        other : (k l : ℕ) → m.tables k ≡ None → l < 1024 → 1024 * k + l ≡ v → ⊥
        other k l t hl q =
            let same : k ≡ i = omega (arith, hl, hj, q) in
            no_table (sym t ∙ ap m.tables same ∙ is)

-- What a walk answers, and what it reads.
use Rattle.std.proofs.Common.{◌≡◌, ℕ, ◌+◌, ◌-◌, ◌*◌, ◌%◌, ◌<◌, ◌≤◌, ◌⊎◌, Bool, true, false, ◌&&◌, eqb, cond, List, length, Option, Some, None, refl, ap, sym, ◌∙◌, subst, arith, eq-eqb, ⊎_elim, inl, inr}
use Rattle.std.specs.Prelude.{nat_le}
use Rattle.std.proofs.lemmas.Bool.{leb-true, leb-false, le-leb, lt-leb, eqb-true}
use Rattle.nx_base.specs.declared.access.Access.{Access}
use Rattle.nx_sv32.specs.Entries.{page_number, is_refused, is_leaf, is_pointer, permits}
use Rattle.nx_sv32.specs.Walk.{ram_start, first_number, last_number, page_offset, superpage_offset, root_number, entry_at, table_place, in_ram, page_leaf, superpage_leaf, last_entry, last_table, first_entry, first_table, walk}
use Rattle.nx_sv32.specs.Translation.{LiesInRam, table_entry, PointsToTable, IsPermittedBy, IsInRam, IsInPage, IsInSuperpage, IsTranslated}
use Rattle.nx_sv32.proofs.Bits.{and_true, permitted_is, pointer_is, is_granted, points_on}

-- choices whose answer is known
either : (b : Bool) (x y : Option ℕ) (to : ℕ) → cond b x y ≡ Some to → ((b ≡ true) × (x ≡ Some to)) ⊎ ((b ≡ false) × (y ≡ Some to))
either true x y to e = inl (refl, e)
either false x y to e = inr (refl, e)

first_of_two : (b : Bool) (x : Option ℕ) (to : ℕ) → cond b x None ≡ Some to → (b ≡ true) × (x ≡ Some to)
first_of_two true x to e = (refl, e)
first_of_two false x to e = absurd cc

second_of_two : (b : Bool) (x : Option ℕ) (to : ℕ) → cond b None x ≡ Some to → (b ≡ false) × (x ≡ Some to)
second_of_two true x to e = absurd cc
second_of_two false x to e = (refl, e)

pub place_is : (size page t : ℕ) → table_place size page ≡ Some t → (ram_start ≤ 4096 * page) × (4096 * page + 4096 ≤ ram_start + size) × (t ≡ 4096 * page - ram_start)
unfolding table_place
place_is size page t e =
    let r = first_of_two (nat_le ram_start (4096 * page) && nat_le (4096 * page + 4096) (ram_start + size)) (Some (4096 * page - ram_start)) t e in
    let b = and_true (nat_le ram_start (4096 * page)) (nat_le (4096 * page + 4096) (ram_start + size)) r.0 in
    (leb-true ram_start (4096 * page) b.0, leb-true (4096 * page + 4096) (ram_start + size) b.1, let q : 4096 * page - ram_start ≡ t = cc in sym q)

both_true : (a b : Bool) → a ≡ true → b ≡ true → (a && b) ≡ true
both_true a b h k = ap (λ x. x && b) h ∙ k

place_of : (ram : List ℕ) (page : ℕ) → LiesInRam ram page → table_place (length ram) page ≡ Some (4096 * page - ram_start)
unfolding table_place
place_of ram page h =
    ap (λ b. cond b (Some (4096 * page - ram_start)) None) (both_true (nat_le ram_start (4096 * page)) (nat_le (4096 * page + 4096) (ram_start + length ram)) (le-leb ram_start (4096 * page) h.0) (le-leb (4096 * page + 4096) (ram_start + length ram) h.1))

in_ram_is : (size a to : ℕ) → in_ram size a ≡ Some to → (to ≡ a) × (ram_start ≤ to) × (to < ram_start + size)
unfolding in_ram
in_ram_is size a to e =
    let r = first_of_two (nat_le ram_start a && nat_le (a + 1) (ram_start + size)) (Some a) to e in
    let b = and_true (nat_le ram_start a) (nat_le (a + 1) (ram_start + size)) r.0 in
    let q : a ≡ to = cc in
    let l = leb-true ram_start a b.0 in
    let h = leb-true (a + 1) (ram_start + size) b.1 in
    (sym q, omega (arith, q, l), omega (arith, q, h))

in_ram_of : (ram : List ℕ) (a to : ℕ) → to ≡ a → IsInRam ram to → in_ram (length ram) a ≡ Some to
unfolding in_ram
in_ram_of ram a to e h =
    ap (λ b. cond b (Some a) None) (both_true (nat_le ram_start a) (nat_le (a + 1) (ram_start + length ram)) (le-leb ram_start a (omega (arith, e, h.0))) (le-leb (a + 1) (ram_start + length ram) (omega (arith, e, h.1))))
    ∙ ap Some (sym e)

last_opened : (ram : List ℕ) (o : Option ℕ) (at to : ℕ) (access : Access) → last_table ram o at access ≡ Some to → (t : ℕ) × (o ≡ Some t) × (last_entry (length ram) (entry_at ram (t + 4 * last_number at)) at access ≡ Some to)
last_opened ram None at to access e = absurd cc
last_opened ram (Some t) at to access e = (t, refl, e)

first_opened : (ram : List ℕ) (o : Option ℕ) (at to : ℕ) (access : Access) → first_table ram o at access ≡ Some to → (t : ℕ) × (o ≡ Some t) × (first_entry ram (entry_at ram (t + 4 * first_number at)) at access ≡ Some to)
first_opened ram None at to access e = absurd cc
first_opened ram (Some t) at to access e = (t, refl, e)

page_is : (ram : List ℕ) (e at to : ℕ) (access : Access) → last_entry (length ram) e at access ≡ Some to → IsPermittedBy e access × (to ≡ 4096 * page_number e + page_offset at) × IsInRam ram to
unfolding last_entry page_leaf
page_is ram e at to access h =
    let r = second_of_two (is_refused e) (cond (is_leaf e) (page_leaf (length ram) e at access) None) to h in
    let l = first_of_two (is_leaf e) (page_leaf (length ram) e at access) to r.1 in
    let p = first_of_two (permits e access) (in_ram (length ram) (4096 * page_number e + page_offset at)) to l.1 in
    let i = in_ram_is (length ram) (4096 * page_number e + page_offset at) to p.1 in
    (permitted_is e access r.0 p.0, i.0, (i.1, i.2))

superpage_is : (ram : List ℕ) (e at to : ℕ) (access : Access) → is_refused e ≡ false → superpage_leaf (length ram) e at access ≡ Some to → IsPermittedBy e access × (page_number e % 1024 ≡ 0) × (to ≡ 4096 * page_number e + superpage_offset at) × IsInRam ram to
unfolding superpage_leaf
superpage_is ram e at to access r h =
    let p = first_of_two (permits e access && eqb (page_number e % 1024) 0) (in_ram (length ram) (4096 * page_number e + superpage_offset at)) to h in
    let b = and_true (permits e access) (eqb (page_number e % 1024) 0) p.0 in
    let i = in_ram_is (length ram) (4096 * page_number e + superpage_offset at) to p.1 in
    (permitted_is e access r b.0, eqb-true (page_number e % 1024) 0 b.1, i.0, (i.1, i.2))

-- what the first level's entry is
entry_is : (ram : List ℕ) (e at to : ℕ) (access : Access) → first_entry ram e at access ≡ Some to → (PointsToTable e × (last_table ram (table_place (length ram) (page_number e)) at access ≡ Some to)) ⊎ (IsPermittedBy e access × (page_number e % 1024 ≡ 0) × (to ≡ 4096 * page_number e + superpage_offset at) × IsInRam ram to)
unfolding first_entry
entry_is ram e at to access h =
    let last = last_table ram (table_place (length ram) (page_number e)) at access in
    let r = second_of_two (is_refused e) (cond (is_leaf e) (superpage_leaf (length ram) e at access) (cond (is_pointer e) last None)) to h in
    ⊎_elim
    (λ l. inr (superpage_is ram e at to access r.0 l.1))
    (λ l. let p = first_of_two (is_pointer e) last to l.1 in inl (pointer_is e r.0 l.0 p.0, p.1))
    (either (is_leaf e) (superpage_leaf (length ram) e at access) (cond (is_pointer e) last None) to r.1)

translated_by : (ram : List ℕ) (root at to : ℕ) (access : Access) → first_table ram (table_place (length ram) root) at access ≡ Some to → IsInPage ram root at access to ⊎ IsInSuperpage ram root at access to
translated_by ram root at to access h =
    let o = first_opened ram (table_place (length ram) root) at to access h in
    let p = place_is (length ram) root o.0 o.1 in
    let e = subst (λ t. first_entry ram (entry_at ram (t + 4 * first_number at)) at access ≡ Some to) p.2 o.2 in
    ⊎_elim
    (λ q.
    let pointer = table_entry ram root (first_number at) in
    let l = last_opened ram (table_place (length ram) (page_number pointer)) at to access q.1 in
    let m = place_is (length ram) (page_number pointer) l.0 l.1 in
    let f = page_is ram (table_entry ram (page_number pointer) (last_number at)) at to access (subst (λ t. last_entry (length ram) (entry_at ram (t + 4 * last_number at)) at access ≡ Some to) m.2 l.2) in
    inl (record { root_lies = (p.0, p.1); points = q.0; table_lies = (m.0, m.1); permitted = f.0; address = f.1; inside = f.2 }))
    (λ q. inr (record { root_lies = (p.0, p.1); permitted = q.0; aligned = q.1; address = q.2; inside = q.3 }))
    (entry_is ram (table_entry ram root (first_number at)) at to access e)

pub walked_is : (ram : List ℕ) (satp at to : ℕ) (access : Access) → walk ram satp at access ≡ Some to → IsTranslated ram satp at access to
unfolding walk
walked_is ram satp at to access h =
    ⊎_elim
    (λ l. inr (leb-true 2147483648 satp l.0, translated_by ram (root_number satp) at to access l.1))
    (λ l. let q : at ≡ to = let s = l.1 in cc in inl (let k = leb-false 2147483648 satp l.0 in omega (arith, k), sym q))
    (either (nat_le 2147483648 satp) (first_table ram (table_place (length ram) (root_number satp)) at access) (Some at) to h)

-- ---- from what is written in the tables to the walk
chosen : (a : Bool) (x y : Option ℕ) → a ≡ true → cond a x y ≡ x
chosen a x y h = ap (λ b. cond b x y) h

left_out : (a : Bool) (x y : Option ℕ) → a ≡ false → cond a x y ≡ y
left_out a x y h = ap (λ b. cond b x y) h

page_of : (ram : List ℕ) (e at to : ℕ) (access : Access) → IsPermittedBy e access → to ≡ 4096 * page_number e + page_offset at → IsInRam ram to → last_entry (length ram) e at access ≡ Some to
unfolding last_entry page_leaf
page_of ram e at to access p a i =
    let g = is_granted e access p in
    left_out (is_refused e) None (cond (is_leaf e) (page_leaf (length ram) e at access) None) g.0
    ∙ chosen (is_leaf e) (page_leaf (length ram) e at access) None g.1
    ∙ chosen (permits e access) (in_ram (length ram) (4096 * page_number e + page_offset at)) None g.2
    ∙ in_ram_of ram (4096 * page_number e + page_offset at) to a i

superpage_of : (ram : List ℕ) (e at to : ℕ) (access : Access) → IsPermittedBy e access → page_number e % 1024 ≡ 0 → to ≡ 4096 * page_number e + superpage_offset at → IsInRam ram to → first_entry ram e at access ≡ Some to
unfolding first_entry superpage_leaf
superpage_of ram e at to access p aligned a i =
    let g = is_granted e access p in
    let rest = cond (is_pointer e) (last_table ram (table_place (length ram) (page_number e)) at access) None in
    left_out (is_refused e) None (cond (is_leaf e) (superpage_leaf (length ram) e at access) rest) g.0
    ∙ chosen (is_leaf e) (superpage_leaf (length ram) e at access) rest g.1
    ∙ chosen (permits e access && eqb (page_number e % 1024) 0) (in_ram (length ram) (4096 * page_number e + superpage_offset at)) None (both_true (permits e access) (eqb (page_number e % 1024) 0) g.2 (eq-eqb (page_number e % 1024) 0 aligned))
    ∙ in_ram_of ram (4096 * page_number e + superpage_offset at) to a i

pointer_of : (ram : List ℕ) (e at : ℕ) (access : Access) → PointsToTable e → first_entry ram e at access ≡ last_table ram (table_place (length ram) (page_number e)) at access
unfolding first_entry
pointer_of ram e at access p =
    let g = points_on e p in
    let last = last_table ram (table_place (length ram) (page_number e)) at access in
    left_out (is_refused e) None (cond (is_leaf e) (superpage_leaf (length ram) e at access) (cond (is_pointer e) last None)) g.0
    ∙ left_out (is_leaf e) (superpage_leaf (length ram) e at access) (cond (is_pointer e) last None) g.1
    ∙ chosen (is_pointer e) last None g.2

in_page : (ram : List ℕ) (root at to : ℕ) (access : Access) → IsInPage ram root at access to → first_table ram (table_place (length ram) root) at access ≡ Some to
in_page ram root at to access p =
    let pointer = table_entry ram root (first_number at) in
    ap (λ o. first_table ram o at access) (place_of ram root p.root_lies)
    ∙ pointer_of ram pointer at access p.points
    ∙ ap (λ o. last_table ram o at access) (place_of ram (page_number pointer) p.table_lies)
    ∙ page_of ram (table_entry ram (page_number pointer) (last_number at)) at to access p.permitted p.address p.inside

in_superpage : (ram : List ℕ) (root at to : ℕ) (access : Access) → IsInSuperpage ram root at access to → first_table ram (table_place (length ram) root) at access ≡ Some to
in_superpage ram root at to access p =
    ap (λ o. first_table ram o at access) (place_of ram root p.root_lies)
    ∙ superpage_of ram (table_entry ram root (first_number at)) at to access p.permitted p.aligned p.address p.inside

pub walked_of : (ram : List ℕ) (satp at to : ℕ) (access : Access) → IsTranslated ram satp at access to → walk ram satp at access ≡ Some to
unfolding walk
walked_of ram satp at to access h =
    let tables = first_table ram (table_place (length ram) (root_number satp)) at access in
    ⊎_elim
    (λ l. left_out (nat_le 2147483648 satp) tables (Some at) (lt-leb 2147483648 satp l.0) ∙ ap Some (sym l.1))
    (λ l. chosen (nat_le 2147483648 satp) tables (Some at) (le-leb 2147483648 satp l.0) ∙ ⊎_elim (in_page ram (root_number satp) at to access) (in_superpage ram (root_number satp) at to access) l.1)
    h

-- A group's tables grow by a root, a table or a page, each in a frame that nobody had.
use Rattle.std.proofs.Common.{◌≡◌, ◌≢◌, ℕ, ◌+◌, ◌*◌, ◌<◌, ◌≤◌, ◌==◌, Some, None, List, length, sym, ap, ◌∙◌, subst, arith, ⊎_elim}
use Rattle.std.specs.Prelude.{if◌then◌else◌}
use Rattle.std.proofs.lemmas.Bool.{cases_eq}
use Rattle.nx_base.specs.ByteLists.{put_bytes, to_le}
use Rattle.nx_base.proofs.Puts.{length-put_bytes, length-to_le}
use Rattle.nx_sv32.specs.Walk.{ram_start}
use Rattle.nx_tables.specs.Maps.{Page, Maps, pointer_to, leaf_of}
use Rattle.nx_tables.specs.Roles.{Role, Free, Root, Table, Leaf, Owns, Stands, no_maps, with_table, with_page, with_role, IsZeroed, SameRoles}
use Rattle.nx_tables.proofs.Kept.{same_number, other_number, root_table, table_table, table_is_of, leaf_is_of, free_is_none, given_role, new_role}
use Rattle.nx_tables.proofs.EntriesPut.{some_number, some_page, nothing_mapped, table_added, page_added}

pub root_step : (ram : List ℕ) (role : ℕ → Role) (g root : ℕ) → IsZeroed ram root → 4096 * root + 4096 ≤ length ram → ram_start + length ram ≤ 4294967296 → Stands ram (with_role role root (Root g)) g (no_maps root)
root_step ram role g root z room fits = record {
  encodes = nothing_mapped ram root z;
  owns = record { root = new_role role root (Root g); tables = λ i f t. absurd cc; pages = λ v p t. absurd cc };
  lie = record { root = room; tables = λ i f t. absurd cc; pages = λ v p t. absurd cc };
  fits = fits;
}

-- what a group owned it still owns
owns_still : (role after : ℕ → Role) (g : ℕ) (m : Maps) → Owns role g m → SameRoles g role after → Owns after g m
owns_still role after g m o same = record {
  root = same m.root (table_is_of g (role m.root) (root_table g (role m.root) o.root)) ∙ o.root;
  tables = λ i f t. same f (table_is_of g (role f) (table_table g i (role f) (o.tables i f t))) ∙ o.tables i f t;
  pages = λ v p t. same p.frame (leaf_is_of g v (role p.frame) (o.pages v p t)) ∙ o.pages v p t;
}

-- a frame that nobody has is no root
free_is_no_root : (role : ℕ → Role) (g f k : ℕ) → role f ≡ Free → role k ≡ Root g → f ≢ k
free_is_no_root role g f k a b e = apart (sym a ∙ ap role e ∙ b)
  where
    apart : Free ≡ Root g → ⊥
    apart q = cc

pub table_step : (ram : List ℕ) (role : ℕ → Role) (g : ℕ) (m : Maps) (i frame : ℕ) → Stands ram role g m → i < 1024 → m.tables i ≡ None → role frame ≡ Free → IsZeroed ram frame → 4096 * frame + 4096 ≤ length ram → Stands (put_bytes ram (4096 * m.root + 4 * i) (to_le 4 (pointer_to frame))) (with_role role frame (Table g i)) g (with_table m i frame)
table_step ram role g m i frame s hi none free z room = record {
  encodes = table_added ram role g m i frame s.encodes s.owns s.lie.root hi (let fits = s.fits in omega (arith, fits, room)) none (free_is_no_root role g frame m.root free s.owns.root) z;
  owns = record { root = o.root; tables = tables; pages = o.pages };
  lie = record {
    root = subst (λ n. 4096 * m.root + 4096 ≤ n) (sym l) s.lie.root;
    tables = insides;
    pages = λ v p t. subst (λ n. 4096 * p.frame + 4096 ≤ n) (sym l) (s.lie.pages v p t);
  };
  fits = subst (λ n. ram_start + n ≤ 4294967296) (sym l) s.fits;
}
  where
    xs : List ℕ
    xs = to_le 4 (pointer_to frame)

    new : List ℕ
    new = put_bytes ram (4096 * m.root + 4 * i) xs

    l : length new ≡ length ram
    l = length-put_bytes ram (4096 * m.root + 4 * i) xs (let r = s.lie.root in let k = length-to_le 4 (pointer_to frame) in omega (arith, r, k, hi))

    after : ℕ → Role
    after = with_role role frame (Table g i)

    o : Owns after g m
    o = owns_still role after g m s.owns (given_role g role frame (Table g i) (free_is_none g (role frame) free))

    tables : (k f : ℕ) → (if k == i then Some frame else m.tables k) ≡ Some f → after f ≡ Table g k
    tables k f t = ⊎_elim
        (λ e.
        let is = some_number frame f (ap (λ b. if b then Some frame else m.tables k) (sym (same_number k i e)) ∙ t) in
        ap after (sym is) ∙ new_role role frame (Table g i) ∙ ap (Table g) (sym e))
        (λ ne. o.tables k f (ap (λ b. if b then Some frame else m.tables k) (sym (other_number k i ne)) ∙ t))
        (cases_eq k i)

    insides : (k f : ℕ) → (if k == i then Some frame else m.tables k) ≡ Some f → 4096 * f + 4096 ≤ length new
    insides k f t = ⊎_elim
        (λ e.
        let is = some_number frame f (ap (λ b. if b then Some frame else m.tables k) (sym (same_number k i e)) ∙ t) in
        omega (arith, is, l, room))
        (λ ne. subst (λ n. 4096 * f + 4096 ≤ n) (sym l) (s.lie.tables k f (ap (λ b. if b then Some frame else m.tables k) (sym (other_number k i ne)) ∙ t)))
        (cases_eq k i)

pub page_step : (ram : List ℕ) (role : ℕ → Role) (g : ℕ) (m : Maps) (i j table : ℕ) (p : Page) → Stands ram role g m → i < 1024 → j < 1024 → m.tables i ≡ Some table → role p.frame ≡ Free → 4096 * p.frame + 4096 ≤ length ram → Stands (put_bytes ram (4096 * table + 4 * j) (to_le 4 (leaf_of p))) (with_role role p.frame (Leaf g (1024 * i + j))) g (with_page m (1024 * i + j) p)
page_step ram role g m i j table p s hi hj is free room = record {
  encodes = page_added ram role g m i j table p s.encodes s.owns (s.lie.tables i table is) hi hj (let fits = s.fits in omega (arith, fits, room)) is;
  owns = record { root = o.root; tables = o.tables; pages = pages };
  lie = record {
    root = subst (λ n. 4096 * m.root + 4096 ≤ n) (sym l) s.lie.root;
    tables = λ k f t. subst (λ n. 4096 * f + 4096 ≤ n) (sym l) (s.lie.tables k f t);
    pages = insides;
  };
  fits = subst (λ n. ram_start + n ≤ 4294967296) (sym l) s.fits;
}
  where
    v : ℕ
    v = 1024 * i + j

    xs : List ℕ
    xs = to_le 4 (leaf_of p)

    new : List ℕ
    new = put_bytes ram (4096 * table + 4 * j) xs

    l : length new ≡ length ram
    l = length-put_bytes ram (4096 * table + 4 * j) xs (let r = s.lie.tables i table is in let k = length-to_le 4 (leaf_of p) in omega (arith, r, k, hj))

    after : ℕ → Role
    after = with_role role p.frame (Leaf g v)

    o : Owns after g m
    o = owns_still role after g m s.owns (given_role g role p.frame (Leaf g v) (free_is_none g (role p.frame) free))

    pages : (k : ℕ) (q : Page) → (if k == v then Some p else m.pages k) ≡ Some q → after q.frame ≡ Leaf g k
    pages k q t = ⊎_elim
        (λ e.
        let same = some_page p q (ap (λ b. if b then Some p else m.pages k) (sym (same_number k v e)) ∙ t) in
        ap (λ x. after x.frame) (sym same) ∙ new_role role p.frame (Leaf g v) ∙ ap (Leaf g) (sym e))
        (λ ne. o.pages k q (ap (λ b. if b then Some p else m.pages k) (sym (other_number k v ne)) ∙ t))
        (cases_eq k v)

    insides : (k : ℕ) (q : Page) → (if k == v then Some p else m.pages k) ≡ Some q → 4096 * q.frame + 4096 ≤ length new
    insides k q t = ⊎_elim
        (λ e.
        let same = some_page p q (ap (λ b. if b then Some p else m.pages k) (sym (same_number k v e)) ∙ t) in
        let frame = ap (λ x. x.frame) same in
        omega (arith, frame, l, room))
        (λ ne. subst (λ n. 4096 * q.frame + 4096 ≤ n) (sym l) (s.lie.pages k q (ap (λ b. if b then Some p else m.pages k) (sym (other_number k v ne)) ∙ t)))
        (cases_eq k v)

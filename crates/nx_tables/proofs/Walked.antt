-- The walk gives what is mapped.
use Rattle.std.proofs.Common.{◌≡◌, ℕ, ◌+◌, ◌*◌, ◌/◌, ◌%◌, ◌<◌, true, Option, Some, None, List, length, refl, sym, ap, ◌∙◌, arith}
use Rattle.std.specs.Prelude.{if◌then◌else◌, nat_le}
use Rattle.std.proofs.lemmas.Bool.Decides.{nat_tests}
use Rattle.nx_base.specs.declared.access.Access.{Access}
use Rattle.nx_sv32.specs.Walk.{table_place, last_entry, last_table, first_entry, first_table, entry_at, walk}
use Rattle.nx_tables.specs.Maps.{Page, Maps, Encodes, LieInside, page_of, satp_of, translated, root_entry, page_entry, table_by}
use Rattle.nx_tables.specs.Roles.{Role, Stands}
use Rattle.nx_tables.proofs.EntryBits.{frame_place, page_found, no_page_found, table_found, no_table_found, table_by_entry}

in_table : (ram : List ℕ) (m : Maps) (frame at : ℕ) (access : Access) → Encodes ram m → LieInside (length ram) m → at < 4294967296 → m.tables (at / 4194304) ≡ Some frame → last_table ram (Some (4096 * frame)) at access ≡ translated (m.pages (at / 4096)) at access
in_table ram m frame at access e h small t =
    let v : 1024 * (at / 4194304) + at / 4096 % 1024 ≡ at / 4096 = omega arith in
    ap (λ w. last_entry (length ram) w at access) (e.leaves (at / 4194304) frame (at / 4096 % 1024) (omega arith) (omega arith) t ∙ ap (λ n. page_entry (m.pages n)) v)
    ∙ by_page (m.pages (at / 4096)) refl
  where
    by_page : (o : Option Page) → m.pages (at / 4096) ≡ o → last_entry (length ram) (page_entry o) at access ≡ translated o at access
    by_page None q = no_page_found (length ram) at access
    by_page (Some p) q = page_found (length ram) p.frame p.writes at access (h.pages (at / 4096) p q)

pub walk_mapped : (ram : List ℕ) (role : ℕ → Role) (g : ℕ) (m : Maps) (at : ℕ) (access : Access) → Stands ram role g m → at < 4294967296 → walk ram (satp_of m.root) at access ≡ translated (m.pages (at / 4096)) at access
unfolding walk
walk_mapped ram role g m at access s small =
    let r = s.lie.root in
    let fits = s.fits in
    let on : nat_le 2147483648 (satp_of m.root) ≡ true = grind (arith, nat_tests) in
    let page : satp_of m.root % 4194304 ≡ page_of m.root = omega (arith, r, fits) in
    ap (λ b. if b then first_table ram (table_place (length ram) (satp_of m.root % 4194304)) at access else Some at) on
    ∙ ap (λ n. first_table ram (table_place (length ram) n) at access) page
    ∙ ap (λ o. first_table ram o at access) (frame_place (length ram) m.root r)
    ∙ ap (λ w. first_entry ram w at access) (s.encodes.root (at / 4194304) (omega arith))
    ∙ by_table (m.tables (at / 4194304)) refl
  where
    by_table : (o : Option ℕ) → m.tables (at / 4194304) ≡ o → first_entry ram (root_entry o) at access ≡ translated (m.pages (at / 4096)) at access
    by_table None q =
        let v : 1024 * (at / 4194304) + at / 4096 % 1024 ≡ at / 4096 = omega arith in
        no_table_found ram at access
        ∙ sym (ap (λ o. translated o at access) (ap m.pages (sym v) ∙ s.encodes.covered (at / 4194304) (at / 4096 % 1024) (omega arith) q))
    by_table (Some frame) q = table_found ram frame at access (s.lie.tables (at / 4194304) frame q) ∙ in_table ram m frame at access s.encodes s.lie small q

pub root_tells : (ram : List ℕ) (role : ℕ → Role) (g : ℕ) (m : Maps) (i : ℕ) → Stands ram role g m → i < 1024 → table_by (entry_at ram (4096 * m.root + 4 * i)) ≡ m.tables i
root_tells ram role g m i s h = ap table_by (s.encodes.root i h) ∙ table_by_entry (m.tables i)

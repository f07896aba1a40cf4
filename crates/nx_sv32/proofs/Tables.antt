-- What a walk reads, and the addresses of one page.
use Rattle.std.proofs.Common.{◌≡◌, ℕ, zero, suc, ◌+◌, ◌-◌, ◌*◌, ◌/◌, ◌%◌, ◌^◌, ◌<◌, ◌≤◌, cond, List, length, get_or, Option, Some, None, refl, ap, sym, ◌∙◌, subst, arith, ⊎_elim, inl, inr}
use Rattle.std.specs.Prelude.{nat_le}
use Rattle.nx_base.specs.ByteLists.{get_bytes, from_le}
use Rattle.nx_base.specs.declared.access.Access.{Access}
use Rattle.nx_sv32.specs.Entries.{page_number, is_refused, is_leaf, is_pointer}
use Rattle.nx_sv32.specs.Walk.{ram_start, first_number, last_number, page_offset, superpage_offset, root_number, entry_at, table_place, superpage_leaf, last_entry, last_table, first_entry, first_table, walk}
use Rattle.nx_sv32.specs.Translation.{table_entry, PointsToTable, IsPermittedBy, LiesInRam, IsInRam, IsInPage, IsInSuperpage, SamePage}
use Rattle.nx_sv32.proofs.Walks.{place_is, walked_is, walked_of}

-- bytes that are the same make the same number
bytes_same : (old new : List ℕ) (at n : ℕ) → ((k : ℕ) → at ≤ k → k < at + n → get_or new k 0 ≡ get_or old k 0) → from_le (get_bytes new at n) ≡ from_le (get_bytes old at n)
unfolding from_le get_bytes
bytes_same old new at zero h = refl
bytes_same old new at (suc n) h =
    let b = h at (omega arith) (omega arith) in
    let r = bytes_same old new (at + 1) n (λ k l u. h k (omega (arith, l)) (omega (arith, u))) in
    omega (arith, b, r)

entry_same : (old new : List ℕ) (page t n : ℕ) → ram_start ≤ 4096 * page → t ≡ 4096 * page - ram_start → n < 1024 → SamePage old new page → entry_at new (t + 4 * n) ≡ entry_at old (t + 4 * n)
unfolding entry_at
entry_same old new page t n low e l same =
    bytes_same old new (t + 4 * n) 4 (λ k a b. same k (omega (arith, e, low, a)) (omega (arith, e, low, b, l)))

last_same : (old new : List ℕ) (o : Option ℕ) (page at : ℕ) (access : Access) → o ≡ table_place (length old) page → length new ≡ length old → SamePage old new page → last_table new o at access ≡ last_table old o at access
last_same old new None page at access e long same = refl
last_same old new (Some t) page at access e long same =
    let p = place_is (length old) page t (sym e) in
    ap (λ n. last_entry n (entry_at new (t + 4 * last_number at)) at access) long
    ∙ ap (λ x. last_entry (length old) x at access) (entry_same old new page t (last_number at) p.0 p.2 (omega arith) same)

entry_walks : (old new : List ℕ) (e at : ℕ) (access : Access) → length new ≡ length old → SamePage old new (page_number e) → first_entry new e at access ≡ first_entry old e at access
unfolding first_entry
entry_walks old new e at access long same =
    ap (λ n. cond (is_refused e) None (cond (is_leaf e) (superpage_leaf n e at access) (cond (is_pointer e) (last_table new (table_place n (page_number e)) at access) None))) long
    ∙ ap (λ x. cond (is_refused e) None (cond (is_leaf e) (superpage_leaf (length old) e at access) (cond (is_pointer e) x None))) (last_same old new (table_place (length old) (page_number e)) (page_number e) at access refl long same)

first_same : (old new : List ℕ) (o : Option ℕ) (root at : ℕ) (access : Access) → at < 2 ^ 32 → o ≡ table_place (length old) root → length new ≡ length old → SamePage old new root → SamePage old new (page_number (table_entry old root (first_number at))) → first_table new o at access ≡ first_table old o at access
first_same old new None root at access l e long same table = refl
first_same old new (Some t) root at access l e long same table =
    let p = place_is (length old) root t (sym e) in
    ap (λ x. first_entry new x at access) (entry_same old new root t (first_number at) p.0 p.2 (omega (arith, l)) same)
    ∙ entry_walks old new (entry_at old (t + 4 * first_number at)) at access long (subst (λ q. SamePage old new (page_number (entry_at old (q + 4 * first_number at)))) (sym p.2) table)

pub tables_alone : (old new : List ℕ) (satp at : ℕ) (access : Access) → at < 2 ^ 32 → length new ≡ length old → SamePage old new (root_number satp) → SamePage old new (page_number (table_entry old (root_number satp) (first_number at))) → walk new satp at access ≡ walk old satp at access
unfolding walk
tables_alone old new satp at access l long same table =
    ap (λ n. cond (nat_le 2147483648 satp) (first_table new (table_place n (root_number satp)) at access) (Some at)) long
    ∙ ap (λ x. cond (nat_le 2147483648 satp) x (Some at)) (first_same old new (table_place (length old) (root_number satp)) (root_number satp) at access l refl long same table)

pub offset_kept : (ram : List ℕ) (satp at to : ℕ) (access : Access) → 2147483648 ≤ satp → walk ram satp at access ≡ Some to → IsInRam ram to × (page_offset to ≡ page_offset at)
offset_kept ram satp at to access mode h =
    ⊎_elim
    (λ l. absurd (let k = l.0 in omega (arith, k, mode)))
    (λ r. ⊎_elim
    (λ (p : IsInPage ram (root_number satp) at access to). (p.inside, let a = p.address in omega (arith, a)))
    (λ (p : IsInSuperpage ram (root_number satp) at access to). (p.inside, let a = p.address in omega (arith, a)))
    r.1)
    (walked_is ram satp at to access h)

same_numbers : (at other : ℕ) → at / 4096 ≡ other / 4096 → (first_number other ≡ first_number at) × (last_number other ≡ last_number at) × (superpage_offset other ≡ superpage_offset at / 4096 * 4096 + page_offset other)
same_numbers at other e = (omega (arith, e), omega (arith, e), omega (arith, e))

page_moves : (ram : List ℕ) (root at other to new : ℕ) (access : Access) → first_number other ≡ first_number at → last_number other ≡ last_number at → IsInPage ram root at access to → (to / 4096 ≡ new / 4096) → page_offset new ≡ page_offset other → IsInRam ram new → IsInPage ram root other access new
page_moves ram root at other to new access f l p q o i =
    let entry : ℕ → ℕ = λ n. table_entry ram root n in
    record {
      root_lies = p.root_lies;
      points = subst (λ n. PointsToTable (table_entry ram root n)) (sym f) p.points;
      table_lies = subst (λ n. LiesInRam ram (page_number (table_entry ram root n))) (sym f) p.table_lies;
      permitted = subst (λ n. IsPermittedBy (table_entry ram (page_number (table_entry ram root n)) (last_number other)) access) (sym f) (subst (λ m. IsPermittedBy (table_entry ram (page_number (table_entry ram root (first_number at))) m) access) (sym l) p.permitted);
      address =
          let a : to ≡ 4096 * page_number (table_entry ram (page_number (table_entry ram root (first_number other))) (last_number other)) + page_offset at = subst (λ n. to ≡ 4096 * page_number (table_entry ram (page_number (table_entry ram root n)) (last_number other)) + page_offset at) (sym f) (subst (λ m. to ≡ 4096 * page_number (table_entry ram (page_number (table_entry ram root (first_number at))) m) + page_offset at) (sym l) p.address) in
          omega (arith, a, q, o);
      inside = i;
    }

superpage_moves : (ram : List ℕ) (root at other to new : ℕ) (access : Access) → first_number other ≡ first_number at → superpage_offset other ≡ superpage_offset at / 4096 * 4096 + page_offset other → IsInSuperpage ram root at access to → (to / 4096 ≡ new / 4096) → page_offset new ≡ page_offset other → IsInRam ram new → IsInSuperpage ram root other access new
superpage_moves ram root at other to new access f s p q o i =
    record {
      root_lies = p.root_lies;
      permitted = subst (λ n. IsPermittedBy (table_entry ram root n) access) (sym f) p.permitted;
      aligned = subst (λ n. page_number (table_entry ram root n) % 1024 ≡ 0) (sym f) p.aligned;
      address =
          let a : to ≡ 4096 * page_number (table_entry ram root (first_number other)) + superpage_offset at = subst (λ n. to ≡ 4096 * page_number (table_entry ram root n) + superpage_offset at) (sym f) p.address in
          omega (arith, a, q, o, s);
      inside = i;
    }

pub whole_page : (ram : List ℕ) (satp at other to : ℕ) (access : Access) → 2147483648 ≤ satp → length ram % 4096 ≡ 0 → at / 4096 ≡ other / 4096 → walk ram satp at access ≡ Some to → walk ram satp other access ≡ Some (4096 * (to / 4096) + page_offset other)
whole_page ram satp at other to access mode whole same h =
    let n = same_numbers at other same in
    let new : ℕ = 4096 * (to / 4096) + page_offset other in
    let r = offset_kept ram satp at to access mode h in
    let q : to / 4096 ≡ new / 4096 = omega arith in
    let o : page_offset new ≡ page_offset other = omega arith in
    let i : IsInRam ram new = (omega (arith, r.0.0, q), omega (arith, r.0.1, whole, q)) in
    walked_of ram satp other new access (⊎_elim
    (λ l. absurd (let k = l.0 in omega (arith, k, mode)))
    (λ t. inr (mode, ⊎_elim (λ p. inl (page_moves ram (root_number satp) at other to new access n.0 n.1 p q o i)) (λ p. inr (superpage_moves ram (root_number satp) at other to new access n.0 n.2 p q o i)) t.1))
    (walked_is ram satp at to access h))

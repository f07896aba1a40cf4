-- What is written outside of a group's tables leaves them standing.
use Rattle.std.proofs.Common.{◌≡◌, ◌≢◌, ℕ, zero, suc, ◌+◌, ◌*◌, ◌<◌, ◌≤◌, ◌==◌, Bool, true, false, List, length, get_or, refl, sym, ap, ◌∙◌, subst, arith, ⊎_elim, inl, inr}
use Rattle.std.specs.Prelude.{if◌then◌else◌, slice_index}
use Rattle.std.proofs.lemmas.Bool.{cases_lt}
use Rattle.std.proofs.lemmas.Bool.Decides.{nat_tests}
use Rattle.nx_base.specs.ByteLists.{get_bytes, put_bytes, from_le}
use Rattle.nx_base.proofs.Puts.{get-put_bytes_other}
use Rattle.nx_sv32.specs.Walk.{ram_start, entry_at}
use Rattle.nx_tables.specs.Maps.{Maps, LieInside}
use Rattle.nx_tables.specs.Roles.{Role, Free, Root, Table, Leaf, is_table, is_of, Stands, freed, with_role, SameFrames, SameRoles}

pub same_number : (a b : ℕ) → a ≡ b → (a == b) ≡ true
same_number a b e = grind (arith, nat_tests)

pub other_number : (a b : ℕ) → a ≢ b → (a == b) ≡ false
other_number a b ne = grind (arith, nat_tests)

pub is_number : (a b : ℕ) → (a == b) ≡ true → a ≡ b
is_number a b e = grind (arith, nat_tests)

-- whose a frame is
pub root_table : (g : ℕ) (r : Role) → r ≡ Root g → is_table g r ≡ true
root_table g r e = ap (is_table g) e ∙ same_number g g refl

pub table_table : (g i : ℕ) (r : Role) → r ≡ Table g i → is_table g r ≡ true
table_table g i r e = ap (is_table g) e ∙ same_number g g refl

pub table_is_of : (g : ℕ) (r : Role) → is_table g r ≡ true → is_of g r ≡ true
table_is_of g Free h = absurd cc
table_is_of g (Root k) h = h
table_is_of g (Table k i) h = h
table_is_of g (Leaf k v) h = absurd cc

pub leaf_is_of : (g v : ℕ) (r : Role) → r ≡ Leaf g v → is_of g r ≡ true
leaf_is_of g v r e = ap (is_of g) e ∙ same_number g g refl

-- what is of one group is of no other
pub of_one : (g h : ℕ) (r : Role) → is_of g r ≡ true → is_of h r ≡ true → g ≡ h
of_one g h Free a b = absurd cc
of_one g h (Root k) a b = sym (is_number k g a) ∙ is_number k h b
of_one g h (Table k i) a b = sym (is_number k g a) ∙ is_number k h b
of_one g h (Leaf k v) a b = sym (is_number k g a) ∙ is_number k h b

-- the same bytes make the same entry
bytes_same : (old new : List ℕ) (at n : ℕ) → ((k : ℕ) → k < n → get_or new (at + k) 0 ≡ get_or old (at + k) 0) → from_le (get_bytes new at n) ≡ from_le (get_bytes old at n)
unfolding from_le get_bytes
bytes_same old new at zero h = refl
bytes_same old new at (suc n) h =
    let z : at + 0 ≡ at = omega arith in
    let b = ap (λ k. get_or new k 0) (sym z) ∙ h 0 (omega arith) ∙ ap (λ k. get_or old k 0) z in
    let r = bytes_same old new (at + 1) n (λ k l. let e : at + 1 + k ≡ at + suc k = omega arith in ap (λ j. get_or new j 0) e ∙ h (suc k) (omega (arith, l)) ∙ ap (λ j. get_or old j 0) (sym e)) in
    omega (arith, b, r)

pub entry_same : (old new : List ℕ) (frame j : ℕ) → j < 1024 → ((k : ℕ) → k < 4096 → slice_index new (4096 * frame + k) ≡ slice_index old (4096 * frame + k)) → entry_at new (4096 * frame + 4 * j) ≡ entry_at old (4096 * frame + 4 * j)
unfolding entry_at
entry_same old new frame j h same = bytes_same old new (4096 * frame + 4 * j) 4 (λ k l.
    let e : 4096 * frame + 4 * j + k ≡ 4096 * frame + (4 * j + k) = omega arith in
    ap (λ i. get_or new i 0) e ∙ same (4 * j + k) (omega (arith, h, l)) ∙ ap (λ i. get_or old i 0) (sym e))

pub stands_kept : (old new : List ℕ) (role after : ℕ → Role) (g : ℕ) (m : Maps) → Stands old role g m → SameFrames (λ f. is_table g (role f)) old new → SameRoles g role after → length new ≡ length old → Stands new after g m
stands_kept old new role after g m s same roles long = record {
  encodes = record {
    root = λ i h. entry_same old new m.root i h (λ k l. same m.root k (root_table g (role m.root) s.owns.root) l) ∙ s.encodes.root i h;
    leaves = λ i f j hi hj t. entry_same old new f j hj (λ k l. same f k (table_table g i (role f) (s.owns.tables i f t)) l) ∙ s.encodes.leaves i f j hi hj t;
    covered = s.encodes.covered;
  };
  owns = record {
    root = roles m.root (table_is_of g (role m.root) (root_table g (role m.root) s.owns.root)) ∙ s.owns.root;
    tables = λ i f t. roles f (table_is_of g (role f) (table_table g i (role f) (s.owns.tables i f t))) ∙ s.owns.tables i f t;
    pages = λ v p t. roles p.frame (leaf_is_of g v (role p.frame) (s.owns.pages v p t)) ∙ s.owns.pages v p t;
  };
  lie = subst (λ n. LieInside n m) (sym long) s.lie;
  fits = subst (λ n. ram_start + n ≤ 4294967296) (sym long) s.fits;
}

-- nothing differs
pub same_frames : (test : ℕ → Bool) (ram : List ℕ) → SameFrames test ram ram
same_frames test ram f k t l = refl

pub same_roles : (g : ℕ) (role : ℕ → Role) → SameRoles g role role
same_roles g role f h = refl

-- bytes of another frame than that in which some are put
pub byte_elsewhere : (ram : List ℕ) (frame i : ℕ) (xs : List ℕ) (f k : ℕ) → 4096 * frame ≤ i → i + length xs ≤ 4096 * frame + 4096 → i + length xs ≤ length ram → f ≢ frame → k < 4096 → slice_index (put_bytes ram i xs) (4096 * f + k) ≡ slice_index ram (4096 * f + k)
byte_elsewhere ram frame i xs f k low high fit ne small =
    get-put_bytes_other ram i xs (4096 * f + k) fit (⊎_elim (λ l. inl (omega (arith, low, l, small))) (λ l. inr (omega (arith, high, l, ne))) (cases_lt f frame))

-- bytes put into a frame for which a test fails
pub put_same : (test : ℕ → Bool) (ram : List ℕ) (frame i : ℕ) (xs : List ℕ) → test frame ≡ false → 4096 * frame ≤ i → i + length xs ≤ 4096 * frame + 4096 → i + length xs ≤ length ram → SameFrames test ram (put_bytes ram i xs)
put_same test ram frame i xs none low high fit f k t l =
    byte_elsewhere ram frame i xs f k low high fit (λ e. apart (sym t ∙ ap test e ∙ none)) l
  where
    apart : true ≡ false → ⊥
    apart e = cc

-- a frame that nobody had gets a role
pub free_is_none : (g : ℕ) (r : Role) → r ≡ Free → is_of g r ≡ false
free_is_none g r e = ap (is_of g) e

pub given_role : (g : ℕ) (role : ℕ → Role) (f : ℕ) (r : Role) → is_of g (role f) ≡ false → SameRoles g role (with_role role f r)
given_role g role f r none k h = ap (λ b. if b then r else role k) (other_number k f (λ e. apart (sym h ∙ ap (λ j. is_of g (role j)) e ∙ none)))
  where
    apart : true ≡ false → ⊥
    apart e = cc

pub new_role : (role : ℕ → Role) (f : ℕ) (r : Role) → with_role role f r f ≡ r
new_role role f r = ap (λ b. if b then r else role f) (same_number f f refl)

-- the end of another group
pub freed_others : (g h : ℕ) (role : ℕ → Role) → h ≢ g → SameRoles h role (freed role g)
freed_others g h role ne f t = by_test (is_of g (role f)) refl
  where
    by_test : (b : Bool) → is_of g (role f) ≡ b → (if b then Free else role f) ≡ role f
    by_test true e = absurd (ne (of_one h g (role f) t e))
    by_test false e = refl

pub end_frees : (ram : List ℕ) (role : ℕ → Role) (g h : ℕ) (m : Maps) → h ≢ g → Stands ram role h m → Stands ram (freed role g) h m
end_frees ram role g h m ne s = stands_kept ram ram role (freed role g) h m s (same_frames (λ f. is_table h (role f)) ram) (freed_others g h role ne) refl

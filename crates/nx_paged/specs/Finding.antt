-- The group of a number among those that have a view.
use Rattle.std.proofs.Common.{◌≡◌, ◌≢◌, ℕ, suc, ◌==◌, Bool, true, false, ◌&&◌, ◌||◌, not, List, [], ◌∷◌, map, refl, sym, ap, ◌∙◌, arith}
use Rattle.std.specs.Prelude.{if◌then◌else◌}
use Rattle.std.specs.List.{All}
use Rattle.std.proofs.lemmas.Bool.Decides.{nat_tests}
use Rattle.nx_space.specs.World.{Group, MemoryMap, has_view, group_of}
use Rattle.nx_space.specs.Places.{with_own}
use Rattle.nx_paged.specs.Tenants.{Tenant, has_tenant, are_distinct, root_of}
use Rattle.nx_paged.specs.Spans.{Each, spans_of}
use Rattle.nx_paged.specs.Outside.{in_spans, is_shown}
use Rattle.nx_paged.specs.Paging.{paged_group}

-- a fact of each place is one of each element
pub each_of : (P : Tenant → Type 0) (ts : List Tenant) → All P ts → Each P ts
each_of P [] h = tt
each_of P (t ∷ ts) h = (h 0 t (omega arith), each_of P ts (λ k d l. h (suc k) d (omega (arith, l))))

pub both_true : (a b : Bool) → (not a && b) ≡ true → (a ≡ false) × (b ≡ true)
both_true true b h = absurd cc
both_true false b h = (refl, h)

pub tenant_view : (ram : List ℕ) (memory_map : MemoryMap) (ts : List Tenant) (number : ℕ) → has_view (map (paged_group ram memory_map) ts) number ≡ has_tenant ts number
unfolding has_view has_tenant
tenant_view ram memory_map [] number = refl
tenant_view ram memory_map (t ∷ ts) number = ap (λ b. (t.number == number) || b) (tenant_view ram memory_map ts number)

-- the group, a fact of it, and what stands in the list by it
pub record Found (P : Tenant → Type 0) (ts : List Tenant) (number : ℕ) : Type 0 where
  pub tenant : Tenant
  pub ok : P tenant
  pub number_is : tenant.number ≡ number
  pub root_is : root_of ts number ≡ tenant.root
  pub group_is : (ram : List ℕ) (memory_map : MemoryMap) → group_of (map (paged_group ram memory_map) ts) number ≡ paged_group ram memory_map tenant
  pub shown : (ram : List ℕ) (memory_map : MemoryMap) (k : ℕ) → in_spans ram tenant.root (spans_of memory_map tenant.program tenant.slots) k ≡ true → is_shown ram memory_map ts k ≡ true
  -- a change of this group's bytes alone
  pub changed : (old new : Tenant → Group) (own : List (List ℕ)) → are_distinct ts ≡ true → ((t : Tenant) → (old t).number ≡ t.number) → new tenant ≡ record (old tenant) { own = own } → ((t : Tenant) → P t → t.number ≢ number → new t ≡ old t) → map new ts ≡ with_own own (map old ts) number

-- groups of other numbers
same_others : (P : Tenant → Type 0) (old new : Tenant → Group) (ts : List Tenant) (number : ℕ) → Each P ts → has_tenant ts number ≡ false → ((t : Tenant) → P t → t.number ≢ number → new t ≡ old t) → map new ts ≡ map old ts
unfolding has_tenant
same_others P old new [] number ok h same = refl
same_others P old new (t ∷ ts) number ok h same = by_test (t.number == number) refl h (λ q. same_others P old new ts number ok.1 q same)
  where
    ne_of : (t.number == number) ≡ false → t.number ≢ number
    ne_of e = grind (arith, nat_tests)

    by_test : (b : Bool) → (t.number == number) ≡ b → (b || has_tenant ts number) ≡ false → (has_tenant ts number ≡ false → map new ts ≡ map old ts) → map new (t ∷ ts) ≡ map old (t ∷ ts)
    by_test true e q more = absurd cc
    by_test false e q more = ap (λ g. g ∷ map new ts) (same t ok.0 (ne_of e)) ∙ ap (λ gs. old t ∷ gs) (more q)

pub find_tenant : (P : Tenant → Type 0) (ts : List Tenant) (number : ℕ) → Each P ts → has_tenant ts number ≡ true → Found P ts number
unfolding has_tenant group_of root_of with_own is_shown
find_tenant P [] number ok h = absurd cc
find_tenant P (t ∷ ts) number ok h = by_test (t.number == number) refl h (λ q. find_tenant P ts number ok.1 q)
  where
    is_number : (t.number == number) ≡ true → t.number ≡ number
    is_number e = grind (arith, nat_tests)

    no_number : (t.number == number) ≡ false → t.number ≢ number
    no_number e = grind (arith, nat_tests)

    test_of : (old : Tenant → Group) (b : Bool) → (t.number == number) ≡ b → (old t).number ≡ t.number → ((old t).number == number) ≡ b
    test_of old b e n = ap (λ k. k == number) n ∙ e

    or_right : (a : Bool) → (a || true) ≡ true
    or_right true = refl
    or_right false = refl

    by_test : (b : Bool) → (t.number == number) ≡ b → (b || has_tenant ts number) ≡ true → (has_tenant ts number ≡ true → Found P ts number) → Found P (t ∷ ts) number
    by_test true e q more = record {
      tenant = t;
      ok = ok.0;
      number_is = is_number e;
      root_is = ap (λ b. if b then t.root else root_of ts number) e;
      group_is = λ ram memory_map. ap (λ b. if b then paged_group ram memory_map t else group_of (map (paged_group ram memory_map) ts) number) e;
      shown = λ ram memory_map k s. ap (λ b. b || is_shown ram memory_map ts k) s;
      changed = λ old new own once n is same.
          ap (λ gs. new t ∷ gs) (same_others P old new ts number ok.1 (ap (has_tenant ts) (sym (is_number e)) ∙ (both_true (has_tenant ts t.number) (are_distinct ts) once).0) same)
          ∙ ap (λ g. g ∷ map old ts) is
          ∙ sym (ap (λ b. if b then record (old t) { own = own } ∷ map old ts else old t ∷ with_own own (map old ts) number) (test_of old true e (n t)));
    }
    by_test false e q more = let r = more q in record {
      tenant = r.tenant;
      ok = r.ok;
      number_is = r.number_is;
      root_is = ap (λ b. if b then t.root else root_of ts number) e ∙ r.root_is;
      group_is = λ ram memory_map. ap (λ b. if b then paged_group ram memory_map t else group_of (map (paged_group ram memory_map) ts) number) e ∙ r.group_is ram memory_map;
      shown = λ ram memory_map k s. ap (λ b. in_spans ram t.root (spans_of memory_map t.program t.slots) k || b) (r.shown ram memory_map k s) ∙ or_right (in_spans ram t.root (spans_of memory_map t.program t.slots) k);
      changed = λ old new own once n is same.
          ap (λ gs. new t ∷ gs) (r.changed old new own (both_true (has_tenant ts t.number) (are_distinct ts) once).1 n is same)
          ∙ ap (λ g. g ∷ with_own own (map old ts) number) (same t ok.0 (no_number e))
          ∙ sym (ap (λ b. if b then record (old t) { own = own } ∷ map old ts else old t ∷ with_own own (map old ts) number) (test_of old false e (n t)));
    }

-- What no window shows stays where only a page is written.
use Rattle.std.proofs.Common.{◌≡◌, ℕ, zero, suc, ◌+◌, ◌<◌, ◌≤◌, ◌==◌, Bool, true, false, ◌||◌, Some, List, [], ◌∷◌, length, take, get_or, refl, sym, ap, ◌∙◌, subst, arith, add-zero}
use Rattle.std.specs.Prelude.{if◌then◌else◌, slice_index}
use Rattle.std.proofs.lemmas.Bool.Decides.{nat_tests}
use Rattle.std.proofs.lemmas.List.{length-take, get_or-take, ext_get_or}
use Rattle.nx_base.specs.declared.access.Access.TheVariants.{Load}
use Rattle.nx_sv32.specs.Walk.{ram_start, walk}
use Rattle.nx_tables.specs.Maps.{Maps, satp_of}
use Rattle.nx_tables.specs.Roles.{Role, Stands}
use Rattle.nx_tables.proofs.Walked.{walk_mapped}
use Rattle.nx_space.specs.World.{MemoryMap}
use Rattle.nx_paged.specs.Tenants.{Tenant}
use Rattle.nx_paged.specs.Spans.{Span, Each, IsSpan, spans_of}
use Rattle.nx_paged.specs.Outside.{is_place, is_seen, in_spans, is_shown, bytes_without}

or_right : (a : Bool) → (a || true) ≡ true
or_right true = refl
or_right false = refl

-- one of the addresses shows it
pub seen_at : (ram : List ℕ) (satp at n d k : ℕ) → d < n → walk ram satp (at + d) Load ≡ Some (ram_start + k) → is_seen ram satp at n k ≡ true
unfolding is_seen
seen_at ram satp at zero d k h e = absurd (omega (arith, h))
seen_at ram satp at (suc n) zero k h e =
    let same : (ram_start + k == ram_start + k) ≡ true = grind (arith, nat_tests) in
    ap (λ o. is_place o k || is_seen ram satp (at + 1) n k) (ap (λ a. walk ram satp a Load) (sym (add-zero at)) ∙ e)
    ∙ ap (λ b. b || is_seen ram satp (at + 1) n k) same
seen_at ram satp at (suc n) (suc d) k h e =
    let a : at + 1 + d ≡ at + suc d = omega arith in
    ap (λ b. is_place (walk ram satp at Load) k || b) (seen_at ram satp (at + 1) n d k (omega (arith, h)) (ap (λ x. walk ram satp x Load) a ∙ e))
    ∙ or_right (is_place (walk ram satp at Load) k)

-- the same walks show the same places
seen_same : (old new : List ℕ) (satp at n k : ℕ) → ((a : ℕ) → at ≤ a → a < at + n → walk new satp a Load ≡ walk old satp a Load) → is_seen new satp at n k ≡ is_seen old satp at n k
unfolding is_seen
seen_same old new satp at zero k same = refl
seen_same old new satp at (suc n) k same =
    ap (λ o. is_place o k || is_seen new satp (at + 1) n k) (same at (omega arith) (omega arith))
    ∙ ap (λ b. is_place (walk old satp at Load) k || b) (seen_same old new satp (at + 1) n k (λ a l u. same a (omega (arith, l)) (omega (arith, u))))

walks_same : (old new : List ℕ) (role after : ℕ → Role) (g : ℕ) (m : Maps) (a : ℕ) → Stands old role g m → Stands new after g m → a < 4294967296 → walk new (satp_of m.root) a Load ≡ walk old (satp_of m.root) a Load
walks_same old new role after g m a s t small = walk_mapped new after g m a Load t small ∙ sym (walk_mapped old role g m a Load s small)

pub spans_same : (old new : List ℕ) (role after : ℕ → Role) (g : ℕ) (m : Maps) (spans : List Span) (k : ℕ) → Stands old role g m → Stands new after g m → Each IsSpan spans → in_spans new m.root spans k ≡ in_spans old m.root spans k
unfolding in_spans
spans_same old new role after g m [] k s t fine = refl
spans_same old new role after g m (x ∷ xs) k s t fine =
    let f = fine.0 in
    ap (λ b. b || in_spans new m.root xs k) (seen_same old new (satp_of m.root) x.start x.bytes k (λ a l u. walks_same old new role after g m a s t (let top = f.top in omega (arith, u, top))))
    ∙ ap (λ b. is_seen old (satp_of m.root) x.start x.bytes k || b) (spans_same old new role after g m xs k s t fine.1)

-- what stands before and after a change
pub record StandsBoth (old new : List ℕ) (role after : ℕ → Role) (memory_map : MemoryMap) (t : Tenant) : Type 0 where
  pub maps : Maps
  pub root : maps.root ≡ t.root
  pub before : Stands old role t.number maps
  pub now : Stands new after t.number maps
  pub fine : Each IsSpan (spans_of memory_map t.program t.slots)

pub shown_same : (old new : List ℕ) (role after : ℕ → Role) (memory_map : MemoryMap) (ts : List Tenant) (k : ℕ) → Each (StandsBoth old new role after memory_map) ts → is_shown new memory_map ts k ≡ is_shown old memory_map ts k
unfolding is_shown
shown_same old new role after memory_map [] k h = refl
shown_same old new role after memory_map (t ∷ ts) k h =
    let b = h.0 in
    let spans = spans_of memory_map t.program t.slots in
    let one = subst (λ r. in_spans new r spans k ≡ in_spans old r spans k) b.root (spans_same old new role after t.number b.maps spans k b.before b.now b.fine) in
    ap (λ x. x || is_shown new memory_map ts k) one ∙ ap (λ x. in_spans old t.root spans k || x) (shown_same old new role after memory_map ts k h.1)

-- the bytes that no window shows
pub without_same : (test other : ℕ → Bool) (old new : List ℕ) (k n : ℕ) → ((j : ℕ) → other j ≡ test j) → ((j : ℕ) → test j ≡ false → get_or new j 0 ≡ get_or old j 0) → bytes_without other new k n ≡ bytes_without test old k n
unfolding bytes_without
without_same test other old new k zero t same = refl
without_same test other old new k (suc n) t same =
    ap (λ b. if b then bytes_without other new (k + 1) n else slice_index new k ∷ bytes_without other new (k + 1) n) (t k)
    ∙ by_test (test k) refl (without_same test other old new (k + 1) n t same)
  where
    by_test : (b : Bool) → test k ≡ b → bytes_without other new (k + 1) n ≡ bytes_without test old (k + 1) n → (if b then bytes_without other new (k + 1) n else slice_index new k ∷ bytes_without other new (k + 1) n) ≡ (if b then bytes_without test old (k + 1) n else slice_index old k ∷ bytes_without test old (k + 1) n)
    by_test true e rest = rest
    by_test false e rest = ap (λ x. x ∷ bytes_without other new (k + 1) n) (same k e) ∙ ap (λ l. slice_index old k ∷ l) rest

-- the first bytes of a RAM where others are written after them
pub take_same : (old new : List ℕ) (n : ℕ) → length new ≡ length old → ((k : ℕ) → k < n → get_or new k 0 ≡ get_or old k 0) → take n new ≡ take n old
take_same old new n long same =
    let a = length-take n new in
    let b = length-take n old in
    ext_get_or 0 _ _ (omega (arith, a, b, long)) (λ k h.
    let l : k < n = omega (arith, h, a) in
    get_or-take n new k 0 l ∙ same k l ∙ sym (get_or-take n old k 0 l))

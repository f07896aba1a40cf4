-- The effects over the vectors of a store.
use Rattle.std.proofs.Common.{◌≡◌, ℕ, ◌+◌, ◌-◌, ◌≤◌, List, [], ◌∷◌, ◌++◌, length, refl, sym, ap, ◌∙◌, subst, arith, replicate}
use Rattle.std.specs.Prelude.{nat_lt}
use Rattle.nx_pool.specs.declared.chain.Chain.{Chain}
use Rattle.nx_pool.specs.Chains.{blocks_for, one_if, occurs, blocks_of, uses, total_blocks, content_of, AreFree, IsApart, AreApart}
use Rattle.nx_pool.specs.Apart.{held_without, occurs-no_block}
use Rattle.nx_pool.specs.Effects.{IsHeld, Becomes, Comes, Goes}
use Rattle.nx_pool.proofs.LinkLemmas.{uses-append, uses-cons, total_blocks-append, total_blocks-cons, held_is_apart}

abbrev pub Longer : (next free bytes next' free' bytes' : List ℕ) (c c' : Chain) (zs : List ℕ) → Type 0
Longer next free bytes next' free' bytes' c c' zs = Becomes (AreApart next free) (AreApart next' free') (content_of bytes next) (content_of bytes' next') c c' (content_of bytes next c ++ zs)

pub longer_at : (next next' bytes bytes1 bytes' bytes1' free free' : List ℕ) (c c' : Chain) (zs : List ℕ) → bytes1 ≡ bytes → bytes1' ≡ bytes' → Longer next free bytes next' free' bytes' c c' zs → Longer next free bytes1 next' free' bytes1' c c' zs
longer_at next next' bytes bytes1 bytes' bytes1' free free' c c' zs e1 e2 h = rw (e1, e2) h

pub wrote_at : (next free bytes bytes1 bytes' bytes1' : List ℕ) (c : Chain) (put : List ℕ → List ℕ) → bytes1 ≡ bytes → bytes1' ≡ bytes' → Becomes (AreApart next free) (AreApart next free) (content_of bytes next) (content_of bytes' next) c c (put (content_of bytes next c)) → Becomes (AreApart next free) (AreApart next free) (content_of bytes1 next) (content_of bytes1' next) c c (put (content_of bytes1 next c))
wrote_at next free bytes bytes1 bytes' bytes1' c put e3 e4 h = rw (e3, e4) h

-- ---- a chain without bytes

abbrev pub no_bytes : Chain
no_bytes = record { first = 0; bytes = 0 }

pub no_bytes_apart : (next free : List ℕ) → AreFree next free → IsApart next free no_bytes
no_bytes_apart next free f = record { once = λ q. omega (arith, f.once q, occurs-no_block next q no_bytes refl) }

content-no_bytes : (bytes next : List ℕ) → content_of bytes next no_bytes ≡ []
unfolding content_of
content-no_bytes bytes next = refl

pub comes : (next free bytes next' free' bytes' : List ℕ) (c' : Chain) (size : ℕ) → Longer next free bytes next' free' bytes' no_bytes c' (replicate (size - 0) 0) → Comes (AreApart next free) (AreApart next' free') (content_of bytes next) (content_of bytes' next') c' (replicate size 0)
comes next free bytes next' free' bytes' c' size b = record {
  held = λ xs ys a. b.held xs ys ((held_without next free xs ys no_bytes refl).0 a);
  others = λ xs ys a. b.others xs ys ((held_without next free xs ys no_bytes refl).0 a);
  own = let z : size - 0 ≡ size = omega arith in b.own ∙ ap (λ xs. xs ++ replicate (size - 0) 0) (content-no_bytes bytes next) ∙ ap (λ n. replicate n 0) z;
}

-- ---- the free blocks

pub free_of_apart : (next free : List ℕ) (c : Chain) → IsApart next free c → AreFree next free
free_of_apart next free c h = record { once = λ q. omega (arith, h.once q) }

pub free_after : (next free free' : List ℕ) (c : Chain) → IsHeld (AreApart next free) c → ((q : ℕ) → occurs q free' ≡ occurs q free + occurs q (blocks_of next c)) → AreFree next free'
free_after next free free' c h count = let a = held_is_apart next free c h in record { once = λ q. omega (arith, a.once q, count q) }

-- the blocks of a chain are free again
pub given : (next free free' : List ℕ) (content : Chain → List ℕ) (c : Chain) → ((q : ℕ) → occurs q free' ≡ occurs q free + occurs q (blocks_of next c)) → length free' ≡ length free + blocks_for c.bytes
    → Goes (AreApart next free) (AreApart next free') content content c
given next free free' content c count long = record {
  held = λ xs ys a. record {
    once = λ q. omega (arith, a.once q, count q, uses-append next q xs (c ∷ ys), uses-cons next q c ys, uses-append next q xs ys);
    counted = omega (arith, a.counted, total_blocks-append xs (c ∷ ys), total_blocks-cons c ys, total_blocks-append xs ys);
  };
  others = λ xs ys a. record { before = refl; after = refl };
}

-- whatever the bytes of the store are, a chain's bytes are those at its blocks
pub given_at : (next next' free free' bytes : List ℕ) (c : Chain) → next' ≡ next → ((content : Chain → List ℕ) → Goes (AreApart next free) (AreApart next' free') content content c) → Goes (AreApart next free) (AreApart next' free') (content_of bytes next) (content_of bytes next') c
given_at next next' free free' bytes c is gone = subst (λ n. Goes (AreApart next free) (AreApart next' free') (content_of bytes next) (content_of bytes n) c) (sym is) (gone (content_of bytes next))

-- there is room for the blocks of a chain
pub room_of : (next free : List ℕ) (c : Chain) → IsHeld (AreApart next free) c → length free + blocks_for c.bytes ≤ length next
room_of next free c h = omega (arith, h.held.counted, total_blocks-append h.before (c ∷ h.after), total_blocks-cons c h.after)

-- ---- a new store

pub first_apart : (next free : List ℕ) (n : ℕ) → length next ≡ n → length free ≡ n → ((q : ℕ) → occurs q free ≡ one_if (nat_lt q n)) → AreApart next free []
unfolding uses total_blocks
first_apart next free n e f count = record {
  once = λ q. omega (arith, count q, ap (λ m. one_if (nat_lt q m)) e);
  counted = omega arith;
}

pub first_free : (next free : List ℕ) (n : ℕ) → length next ≡ n → ((q : ℕ) → occurs q free ≡ one_if (nat_lt q n)) → AreFree next free
first_free next free n e count = record { once = λ q. omega (arith, count q, ap (λ m. one_if (nat_lt q m)) e) }

-- What a store that keeps its chains apart is asked for by the laws of the trait.
use Rattle.std.proofs.Common.{◌≡◌, ℕ, ◌+◌, ◌≤◌, List, [], ◌∷◌, ◌++◌, length, refl, ap, arith}
use Rattle.std.specs.Prelude.{◌↔◌}
use Rattle.std.proofs.lemmas.List.FromFn.{length-map-range_with_len}
use Rattle.nx_pool.specs.declared.chain.Chain.{Chain}
use Rattle.nx_pool.specs.Chains.{length_of, blocks_for, blocks_from, occurs, blocks_of, uses, total_blocks, byte_at, content_of, AreApart}

pub uses-append : (next : List ℕ) (b : ℕ) (xs ys : List Chain) → uses next b (xs ++ ys) ≡ uses next b xs + uses next b ys
unfolding uses
uses-append next b [] ys = omega arith
uses-append next b (x ∷ xs) ys = omega (arith, uses-append next b xs ys)

pub uses-cons : (next : List ℕ) (b : ℕ) (c : Chain) (cs : List Chain) → uses next b (c ∷ cs) ≡ occurs b (blocks_of next c) + uses next b cs
unfolding uses
uses-cons next b c cs = refl

pub total_blocks-append : (xs ys : List Chain) → total_blocks (xs ++ ys) ≡ total_blocks xs + total_blocks ys
unfolding total_blocks
total_blocks-append [] ys = omega arith
total_blocks-append (x ∷ xs) ys = omega (arith, total_blocks-append xs ys)

pub total_blocks-cons : (c : Chain) (cs : List Chain) → total_blocks (c ∷ cs) ≡ blocks_for c.bytes + total_blocks cs
unfolding total_blocks
total_blocks-cons c cs = refl

-- a chain stands anywhere among the others
pub held_elsewhere : (next free : List ℕ) (xs ys us vs : List Chain) (c : Chain) → xs ++ ys ≡ us ++ vs → AreApart next free (xs ++ c ∷ ys) → AreApart next free (us ++ c ∷ vs)
held_elsewhere next free xs ys us vs c e a = record {
  once = λ q. omega (arith, a.once q, ap (uses next q) e, uses-append next q xs ys, uses-append next q us vs, uses-append next q xs (c ∷ ys), uses-cons next q c ys, uses-append next q us (c ∷ vs), uses-cons next q c vs);
  counted = omega (arith, a.counted, ap total_blocks e, total_blocks-append xs ys, total_blocks-append us vs, total_blocks-append xs (c ∷ ys), total_blocks-cons c ys, total_blocks-append us (c ∷ vs), total_blocks-cons c vs);
}

-- a chain without bytes has no block
pub occurs-no_block : (next : List ℕ) (b : ℕ) (c : Chain) → length_of c ≡ 0 → occurs b (blocks_of next c) ≡ 0
unfolding occurs blocks_from
occurs-no_block next b c e = let none : blocks_for c.bytes ≡ 0 = omega arith in ap (λ n. occurs b (blocks_from next c.first n)) none

-- a chain without bytes may be left out, or brought in
pub held_without : (next free : List ℕ) (xs ys : List Chain) (c : Chain) → length_of c ≡ 0 → (AreApart next free (xs ++ ys) ↔ AreApart next free (xs ++ c ∷ ys))
held_without next free xs ys c e = (
  λ a. record {
    once = λ q. omega (arith, a.once q, uses-append next q xs ys, uses-append next q xs (c ∷ ys), uses-cons next q c ys, occurs-no_block next q c e);
    counted = omega (arith, a.counted, total_blocks-append xs ys, total_blocks-append xs (c ∷ ys), total_blocks-cons c ys);
  },
  λ a. record {
    once = λ q. omega (arith, a.once q, uses-append next q xs ys, uses-append next q xs (c ∷ ys), uses-cons next q c ys, occurs-no_block next q c e);
    counted = omega (arith, a.counted, total_blocks-append xs ys, total_blocks-append xs (c ∷ ys), total_blocks-cons c ys);
  },
)

pub length-content_of : (bytes next : List ℕ) (c : Chain) → length (content_of bytes next c) ≡ length_of c
unfolding content_of
length-content_of bytes next c = length-map-range_with_len (byte_at bytes next c) 0 c.bytes

pub few_blocks : (next : List ℕ) (n : ℕ) → n ≡ length next → n ≤ 65536 → length next ≤ 65536
few_blocks next n e l = omega arith

-- Chains of blocks of 64 bytes. A link for each block names the next block of its chain.
use Rattle.std.specs.Prelude.{ℕ, zero, suc, ◌≡◌, ◌≤◌, ◌<◌, ◌+◌, ◌*◌, ◌/◌, ◌%◌, Bool, true, false, ◌==◌, nat_lt, List, [], ◌∷◌, map, length, slice_index}
use Rattle.std.specs.List.{range_with_len}
use Rattle.nx_pool.specs.declared.chain.Chain.{Chain}

-- how many bytes a chain has
abbrev pub length_of : Chain → ℕ
length_of c = c.bytes

-- how many blocks so many bytes fill
abbrev pub blocks_for : ℕ → ℕ
blocks_for n = (n + 63) / 64

-- how many blocks chains fill, all told
unfoldable pub total_blocks : List Chain → ℕ
total_blocks [] = 0
total_blocks (c ∷ cs) = blocks_for c.bytes + total_blocks cs

-- the first n blocks from a block on
unfoldable pub blocks_from : List ℕ → ℕ → ℕ → List ℕ
blocks_from next block zero = []
blocks_from next block (suc n) = block ∷ blocks_from next (slice_index next block) n

-- the block that comes k links after a block
unfoldable pub block_at : List ℕ → ℕ → ℕ → ℕ
block_at next block zero = block
block_at next block (suc k) = block_at next (slice_index next block) k

-- the blocks of a chain, in its order
abbrev pub blocks_of : List ℕ → Chain → List ℕ
blocks_of next c = blocks_from next c.first (blocks_for c.bytes)

-- the byte of a chain at a place
abbrev pub byte_at : List ℕ → List ℕ → Chain → ℕ → ℕ
byte_at bytes next c p = slice_index bytes (64 * block_at next c.first (p / 64) + p % 64)

-- the bytes of a chain, by the bytes of all blocks and the links
unfoldable pub content_of : List ℕ → List ℕ → Chain → List ℕ
content_of bytes next c = map (byte_at bytes next c) (range_with_len 0 c.bytes)

-- 1 where a test passes
abbrev pub one_if : Bool → ℕ
one_if true = 1
one_if false = 0

-- how often a block stands in a list
unfoldable pub occurs : ℕ → List ℕ → ℕ
occurs b [] = 0
occurs b (x ∷ xs) = one_if (x == b) + occurs b xs

-- how often a block stands in chains
unfoldable pub uses : List ℕ → ℕ → List Chain → ℕ
uses next b [] = 0
uses next b (c ∷ cs) = occurs b (blocks_of next c) + uses next b cs

-- each free block is one of the blocks, and is free once
pub record AreFree (next free : List ℕ) : Type 0 where
  pub once : (b : ℕ) → occurs b free ≤ one_if (nat_lt b (length next))

-- each block of the chain is one of the blocks, stands in it once, and isn't free
pub record IsApart (next free : List ℕ) (c : Chain) : Type 0 where
  pub once : (b : ℕ) → occurs b free + occurs b (blocks_of next c) ≤ one_if (nat_lt b (length next))

-- the free blocks and those of the chains are all blocks, each once
pub record AreApart (next free : List ℕ) (cs : List Chain) : Type 0 where
  pub once : (b : ℕ) → occurs b free + uses next b cs ≤ one_if (nat_lt b (length next))
  pub counted : length free + total_blocks cs ≡ length next

-- the blocks of a chain are blocks, each once
pub record IsChain (next : List ℕ) (c : Chain) : Type 0 where
  pub inside : (k : ℕ) → k < blocks_for c.bytes → block_at next c.first k < length next
  pub once : (b : ℕ) → occurs b (blocks_of next c) ≤ 1

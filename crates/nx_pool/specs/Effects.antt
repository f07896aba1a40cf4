-- What a call of a store does to its chains, whichever others there are.
use Rattle.std.specs.Prelude.{ℕ, ◌≡◌, List, ◌∷◌, ◌++◌, map}
use Rattle.nx_pool.specs.declared.chain.Chain.{Chain}

-- the chain is one of those that the store holds
pub record IsHeld (holds : List Chain → Type 0) (c : Chain) : Type 0 where
  pub before : List Chain
  pub after : List Chain
  pub held : holds (before ++ c ∷ after)

-- the chains of both lists have the bytes that they had
pub record Same (content content' : Chain → List ℕ) (xs ys : List Chain) : Type 0 where
  pub before : map content' xs ≡ map content xs
  pub after : map content' ys ≡ map content ys

-- a chain became one with these bytes, and each other chain stays
pub record Becomes (holds holds' : List Chain → Type 0) (content content' : Chain → List ℕ) (c c' : Chain) (bytes : List ℕ) : Type 0 where
  pub held : (xs ys : List Chain) → holds (xs ++ c ∷ ys) → holds' (xs ++ c' ∷ ys)
  pub others : (xs ys : List Chain) → holds (xs ++ c ∷ ys) → Same content content' xs ys
  pub own : content' c' ≡ bytes

-- a chain with these bytes came, and each other chain stays
pub record Comes (holds holds' : List Chain → Type 0) (content content' : Chain → List ℕ) (c' : Chain) (bytes : List ℕ) : Type 0 where
  pub held : (xs ys : List Chain) → holds (xs ++ ys) → holds' (xs ++ c' ∷ ys)
  pub others : (xs ys : List Chain) → holds (xs ++ ys) → Same content content' xs ys
  pub own : content' c' ≡ bytes

-- a chain went, and each other chain stays
pub record Goes (holds holds' : List Chain → Type 0) (content content' : Chain → List ℕ) (c : Chain) : Type 0 where
  pub held : (xs ys : List Chain) → holds (xs ++ c ∷ ys) → holds' (xs ++ ys)
  pub others : (xs ys : List Chain) → holds (xs ++ c ∷ ys) → Same content content' xs ys

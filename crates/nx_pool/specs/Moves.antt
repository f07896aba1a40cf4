-- What a call does to the chains of a store, where it works on several of them.
use Rattle.std.specs.Prelude.{ℕ, ◌≡◌, List, ◌∷◌, ◌++◌}
use Rattle.nx_pool.specs.declared.chain.Chain.{Chain}
use Rattle.nx_pool.specs.Effects.{Same}

-- these chains are some of those that the store holds
pub record AreHeld (holds : List Chain → Type 0) (cs : List Chain) : Type 0 where
  pub before : List Chain
  pub after : List Chain
  pub held : holds (before ++ (cs ++ after))

-- these chains became those, and each other chain stays
pub record Moves (holds holds' : List Chain → Type 0) (content content' : Chain → List ℕ) (cs cs' : List Chain) : Type 0 where
  pub held : (xs ys : List Chain) → holds (xs ++ (cs ++ ys)) → holds' (xs ++ (cs' ++ ys))
  pub others : (xs ys : List Chain) → holds (xs ++ (cs ++ ys)) → Same content content' xs ys

-- a chain may stand anywhere among the others
abbrev pub IsMovable : (List Chain → Type 0) → Type 0
IsMovable holds = (xs ys us vs : List Chain) (c : Chain) → xs ++ ys ≡ us ++ vs → holds (xs ++ c ∷ ys) → holds (us ++ c ∷ vs)

-- Files by place, as their chains.
use Rattle.std.specs.Prelude.{ℕ, ◌≡◌, List, [], ◌∷◌, length, map, flat_map, Option, Some, None}
use Rattle.nx_pool.specs.declared.chain.Chain.{Chain}
use Rattle.nx_pool.specs.Chains.{length_of}

abbrev pub chains_in : Option Chain → List Chain
chains_in None = []
chains_in (Some c) = c ∷ []

-- the chains, in the order of the places
abbrev pub chains_of : List (Option Chain) → List Chain
chains_of fs = flat_map chains_in fs

abbrev pub bytes_in : (Chain → List ℕ) → Option Chain → Option (List ℕ)
bytes_in content None = None
bytes_in content (Some c) = Some (content c)

-- the files, where chains have these bytes
abbrev pub files_of : (Chain → List ℕ) → List (Option Chain) → List (Option (List ℕ))
files_of content fs = map (bytes_in content) fs

-- each chain has as many bytes as its handle says
abbrev pub AreSized : (Chain → List ℕ) → Type 0
AreSized content = (c : Chain) → length (content c) ≡ length_of c

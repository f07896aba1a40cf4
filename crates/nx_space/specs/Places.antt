-- Where the bytes at an address stand, and a world with other bytes there.
use Rattle.std.specs.Prelude.{ℕ, zero, suc, ◌+◌, ◌-◌, ◌==◌, Bool, true, false, ◌&&◌, nat_le, if◌then◌else◌, List, [], ◌∷◌, Option, Some, None, slice_set}
use Rattle.nx_base.specs.ByteLists.{put_bytes}
use Rattle.nx_space.specs.World.{Home, Common, Own, Part, Group, World, group_of, bytes_in}

-- a byte that windows show
pub record Place : Type 0 where
  pub home : Home
  pub at : ℕ

-- the n bytes at an address lie in the window
unfoldable pub lies_in : Part → ℕ → ℕ → Bool
lies_in p at n = nat_le p.start at && nat_le (at + n) (p.start + p.bytes)

-- where the n bytes at an address stand, if the first window that holds them may be used so
unfoldable pub place_in : (Part → Bool) → List Part → ℕ → ℕ → Option Place
place_in may [] at n = None
place_in may (p ∷ ps) at n =
    if lies_in p at n
    then (if may p then Some (record { home = p.home; at = p.from + (at - p.start) }) else None)
    else place_in may ps at n

-- where the n bytes at an address stand, if they may be written
abbrev pub written_at : List Part → ℕ → ℕ → Option Place
written_at ps at n = place_in (λ p. p.writes) ps at n

-- the groups, where one has these bytes of its own
unfoldable pub with_own : List (List ℕ) → List Group → ℕ → List Group
with_own own [] number = []
with_own own (g ∷ gs) number = if g.number == number then record g { own = own } ∷ gs else g ∷ with_own own gs number

-- lists of bytes with others put into one of them
abbrev pub put_into : List (List ℕ) → ℕ → ℕ → List ℕ → List (List ℕ)
put_into bs k at xs = slice_set bs k (put_bytes (bytes_in bs k) at xs)

-- a world with bytes put where a group's windows show them
abbrev pub put_home : World → ℕ → Home → ℕ → List ℕ → World
put_home w number (Common k) at xs = record w { common = put_into w.common k at xs }
put_home w number (Own k) at xs = record w { groups = with_own (put_into (group_of w.groups number).own k at xs) w.groups number }

abbrev pub with_bytes : World → ℕ → Place → List ℕ → World
with_bytes w number p xs = put_home w number p.home p.at xs

-- a byte is none of the pool's
abbrev pub is_past : ℕ → Home → ℕ → Bool
is_past pool (Common zero) at = nat_le pool at
is_past pool (Common (suc k)) at = true
is_past pool (Own k) at = true

abbrev pub is_clear : ℕ → Option Place → Bool
is_clear pool None = false
is_clear pool (Some p) = is_past pool p.home p.at

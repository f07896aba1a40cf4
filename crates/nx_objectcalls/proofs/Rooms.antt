-- Free places, and limits.
use Rattle.std.proofs.Common.{◌≡◌, ℕ, ◌+◌, ◌<◌, ◌≤◌, ◌==◌, List, length, refl, arith}
use Rattle.std.specs.Prelude.{Option, Some, None, slice_get, nat_le, ◌-◌, IsSome}
use Rattle.std.specs.List.{position_from}
use Rattle.std.specs.Option.{is_none}
use Rattle.std.proofs.lemmas.Bool.Decides.{nat_tests}
use Rattle.nx_ksys.specs.declared.node.Open.{Open}
use Rattle.nx_ksys.specs.Threads.{flat}
use Rattle.nx_ipc.proofs.Choosing.{free_at}
use Rattle.nx_objects.proofs.Places.{position_within}

-- the first free place is one of them, and free
pub place_below : (place most : ℕ) (xs : List (Option Open)) → position_from is_none 0 xs ≡ Some place → length xs ≤ most → place < most
place_below place most xs e le = let l = position_within is_none 0 place xs e in omega (arith, l, le)

pub place_free : (place : ℕ) (xs : List (Option Open)) → position_from is_none 0 xs ≡ Some place → slice_get xs place ≡ Some None
place_free place xs e = free_at 0 place place xs e (omega arith)

pub is_there : (place : ℕ) (o : Open) (xs : List (Option Open)) → flat (slice_get xs place) ≡ Some o → IsSome (flat (slice_get xs place))
is_there place o xs e = rw e refl

-- four counts reach a limit, if nothing is left of it without them
pub full_by : (n a b c d : ℕ) → nat_le n (a + b + c + d) ≡ (n - a - b - c - d == 0)
full_by n a b c d = grind (arith, nat_tests)

-- A reply without bytes fits each call.
use Rattle.std.proofs.Common.{◌≡◌, ℕ, zero, suc, ◌<◌, ◌^◌, List, [], ◌∷◌, refl, arith, All}
use Rattle.nx_base.specs.ByteLists.{AreBytes}
use Rattle.nx_base.specs.Calls.{Reply}
use Rattle.nx_base.specs.Replies.{HaveRoom, output_rooms}
use Rattle.nx_base.specs.KernelCalls.{kinds_of}
use Rattle.nx_shrun.specs.Calls.{Call, Fits}

abbrev no_bytes : List ℕ
no_bytes = []

empty_room : (rooms : List ℕ) → HaveRoom rooms (no_bytes ∷ no_bytes ∷ [])
empty_room [] = (refl, (refl, tt))
empty_room (a ∷ []) = (omega arith, (refl, tt))
empty_room (a ∷ b ∷ rooms) = (omega arith, (omega arith, tt))

empty_bytes : All AreBytes (no_bytes ∷ no_bytes ∷ [])
empty_bytes zero d l i = omega arith
empty_bytes (suc zero) d l i = omega arith
empty_bytes (suc (suc k)) d l i = absurd (omega (arith, l))

pub empty_fits : (q : Call) (r : Reply) → r.value < 2 ^ 32 → r.errno < 2 ^ 32 → r.outputs ≡ no_bytes ∷ no_bytes ∷ [] → Fits q r
empty_fits q r v e o = record { value = v; errno = e; room = rw o (empty_room (output_rooms (kinds_of q.which) q.words)); bytes = rw o empty_bytes }

-- A reply for which a call has room fits it, since all in it are words and bytes.
use Rattle.std.proofs.Common.{ℕ, zero, suc, ◌<◌, ◌^◌, List, [], ◌∷◌, nat_abs, arith}
use Rattle.std.specs.List.{All}
use Rattle.nx_base.specs.ByteLists.{AreBytes}
use Rattle.nx_ksys.specs.declared.replies.Reply.{Reply}
use Rattle.nx_ksys.specs.Gathered.{word_of, reply_of}
use Rattle.nx_shrun.specs.Calls.{Call, Fits}
use Rattle.nx_abstract.specs.Standing.{HasRoom}

pub fits : (q : Call) (r : Reply) → word_of r.value < 2 ^ 32 → nat_abs r.errno < 2 ^ 32 → AreBytes r.first → AreBytes r.second → HasRoom q (reply_of r) → Fits q (reply_of r)
fits q r v e a b h = record { value = v; errno = e; room = h; bytes = both r.first r.second a b }
  where
    both : (x y : List ℕ) → AreBytes x → AreBytes y → All AreBytes (x ∷ y ∷ [])
    both x y a b zero z l = a
    both x y a b (suc zero) z l = b
    both x y a b (suc (suc i)) z l = absurd (omega (arith, l))

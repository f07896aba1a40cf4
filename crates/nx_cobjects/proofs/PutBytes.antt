-- Bytes that are put into others.
use Rattle.std.proofs.Common.{◌≡◌, ℕ, ◌+◌, ◌-◌, List, ◌++◌, length, take, drop, refl, ap, ◌∙◌, arith}
use Rattle.std.proofs.lemmas.Slice.{put_mid-paste}
use Rattle.std.proofs.lemmas.List.{take_all}
use borrow.Rule.Slice.PartMut.{put_mid}
use Rattle.nx_base.specs.ByteLists.{put_bytes}

pub put_within : (bytes ys new : List ℕ) (at : ℕ) → ys ≡ new → put_mid at (at + length new - at) bytes ys ≡ put_bytes bytes at new
unfolding put_bytes
put_within bytes ys new at f =
    put_mid-paste at (at + length new - at) bytes ys new (length new) f (omega arith) refl
    ∙ ap (λ (l : List ℕ). take at bytes ++ l ++ drop (at + length new) bytes) (take_all (length new) new (omega arith))

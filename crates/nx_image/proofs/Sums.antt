-- Sums of sizes, and addresses that are given in turn.
use Rattle.std.proofs.Common.{◌≡◌, ℕ, zero, suc, ◌+◌, ◌*◌, ◌%◌, ◌<◌, ◌≤◌, List, [], ◌∷◌, length, refl, ap, ◌∙◌, arith}
use Rattle.std.specs.Prelude.{slice_index_or}
use Rattle.std.specs.List.{All}
use Rattle.nx_config.specs.declared.limits.Limits.{Limits}
use Rattle.nx_image.specs.declared.layout.Sizes.{Sizes}
use Rattle.nx_image.specs.declared.layout.Addresses.{Addresses}
use Rattle.nx_image.specs.Layout.{pages, up, texts, contents, start_frames, most_frames, in_turn, alike}

pub pages_bound : (n : ℕ) → (n ≤ 4096 * pages n) × (4096 * pages n < n + 4096)
unfolding pages
pages_bound n = (omega arith, omega arith)

pub up_bound : (n : ℕ) → (n ≤ up n) × (up n < n + 4096) × (up n % 4096 ≡ 0)
unfolding up pages
up_bound n = (omega arith, omega arith, omega arith)

-- one of some programs
pub record IsAmong (ss : List Sizes) (s : Sizes) : Type 0 where
  pub text : s.text ≤ texts ss
  pub init : s.init ≤ contents ss

pub among : (ss : List Sizes) (k : ℕ) (d : Sizes) → k < length ss → IsAmong ss (slice_index_or ss k d)
among [] k d h = record { text = omega (arith, h); init = omega (arith, h) }
among (s ∷ ss) zero d h = record { text = omega arith; init = omega arith }
among (s ∷ ss) (suc k) d h =
    let r = among ss k d (omega (arith, h)) in
    let a = r.text in
    let b = r.init in
    record { text = omega (arith, a); init = omega (arith, b) }

pub frames_among : (l : Limits) (ss : List Sizes) (k : ℕ) (d : Sizes) → k < length ss → start_frames l (slice_index_or ss k d) ≤ most_frames l ss
frames_among l [] k d h = omega (arith, h)
frames_among l (s ∷ ss) zero d h = grind arith
frames_among l (s ∷ ss) (suc k) d h = let r = frames_among l ss k d (omega (arith, h)) in grind (arith, r)

-- the k-th of the addresses that are given in turn
pub record IsInTurn (t d : ℕ) (ss : List Sizes) (a : Addresses) (s : Sizes) : Type 0 where
  pub text_low : t ≤ a.text_at
  pub text_high : a.text_at + s.text ≤ t + texts ss
  pub data_low : d ≤ a.data_at
  pub data_high : a.data_at + s.init ≤ d + contents ss

pub in_turn_at : (t d : ℕ) (ss : List Sizes) (k : ℕ) (x : Addresses) (y : Sizes) → k < length ss → IsInTurn t d ss (slice_index_or (in_turn t d ss) k x) (slice_index_or ss k y)
in_turn_at t d [] k x y h = record { text_low = omega (arith, h); text_high = omega (arith, h); data_low = omega (arith, h); data_high = omega (arith, h) }
in_turn_at t d (s ∷ ss) zero x y h = record { text_low = omega arith; text_high = omega arith; data_low = omega arith; data_high = omega arith }
in_turn_at t d (s ∷ ss) (suc k) x y h =
    let r = in_turn_at (t + s.text) (d + s.init) ss k x y (omega (arith, h)) in
    let a = r.text_low in
    let b = r.text_high in
    let e = r.data_low in
    let f = r.data_high in
    record { text_low = omega (arith, a); text_high = omega (arith, b); data_low = omega (arith, e); data_high = omega (arith, f) }

-- an earlier and a later one
pub record IsBefore (a : Addresses) (s : Sizes) (b : Addresses) : Type 0 where
  pub text : a.text_at + s.text ≤ b.text_at
  pub contents : a.data_at + s.init ≤ b.data_at

pub in_order : (t d : ℕ) (ss : List Sizes) (j k : ℕ) (x : Addresses) (y : Sizes) → j < k → k < length ss → IsBefore (slice_index_or (in_turn t d ss) j x) (slice_index_or ss j y) (slice_index_or (in_turn t d ss) k x)
in_order t d [] j k x y h l = record { text = omega (arith, l); contents = omega (arith, l) }
in_order t d (s ∷ ss) j zero x y h l = record { text = omega (arith, h); contents = omega (arith, h) }
in_order t d (s ∷ ss) zero (suc k) x y h l =
    let r = in_turn_at (t + s.text) (d + s.init) ss k x y (omega (arith, l)) in
    record { text = r.text_low; contents = r.data_low }
in_order t d (s ∷ ss) (suc j) (suc k) x y h l = in_order (t + s.text) (d + s.init) ss j k x y (omega (arith, h)) (omega (arith, l))

-- parts of whole 16 bytes
pub record IsWhole (a b : ℕ) : Type 0 where
  pub first : a % 16 ≡ 0
  pub second : b % 16 ≡ 0

pub in_turn_whole : (t d : ℕ) (ss : List Sizes) (k : ℕ) (x : Addresses) → IsWhole t d → All (λ s. IsWhole s.text s.init) ss → k < length ss → IsWhole (slice_index_or (in_turn t d ss) k x).text_at (slice_index_or (in_turn t d ss) k x).data_at
in_turn_whole t d [] k x w h l = record { first = omega (arith, l); second = omega (arith, l) }
in_turn_whole t d (s ∷ ss) zero x w h l = w
in_turn_whole t d (s ∷ ss) (suc k) x w h l =
    let here = h 0 s (omega arith) in
    let a = w.first in
    let b = w.second in
    let e = here.first in
    let f = here.second in
    in_turn_whole (t + s.text) (d + s.init) ss k x (record { first = omega (arith, a, e); second = omega (arith, b, f) }) (λ j y m. h (suc j) y (omega (arith, m))) (omega (arith, l))

pub alike_at : (ss : List Sizes) (k : ℕ) (x : Addresses) → k < length ss → slice_index_or (alike ss) k x ≡ record { text_at = 0x00010000; data_at = 0x10000000 }
alike_at [] k x h = absurd (none k h)
  where
    none : (k : ℕ) → k < 0 → ⊥
    none k h = omega (arith, h)
alike_at (s ∷ ss) zero x h = refl
alike_at (s ∷ ss) (suc k) x h = alike_at ss k x (omega (arith, h))

pub multiple : (n m : ℕ) → m % 16 ≡ 0 → (n * m) % 16 ≡ 0
multiple zero m h = omega arith
multiple (suc n) m h =
    let r = multiple n m h in
    let e : suc n * m ≡ m + n * m = grind arith in
    ap (λ x. x % 16) e ∙ omega (arith, h, r)

-- a slot's bytes end where the next slot's begin, or before
pub slot_ends : (slot later size : ℕ) → slot < later → slot * size + size ≤ later * size
slot_ends slot later size h = grind (arith, h)

-- Frames that are free and frames that were taken.
use Rattle.std.specs.Prelude.{◌≡◌, ℕ, zero, suc, ◌+◌, ◌-◌, ◌*◌, ◌^◌, ◌≤◌, List, [], ◌∷◌, ◌++◌, length}
use Rattle.nx_frames.specs.declared.frames.Taken.{Taken}
use Rattle.nx_frames.specs.Chains.{chain, frame_after, Each, AreOnce, AreApart, IsFrame}
use Rattle.nx_frames.specs.Zeros.{ram_start, AreZeroed}

-- frames as contracts see them: the address of the first, which frame follows each in its chain, and the addresses of the free ones
pub record Stock : Type 0 where
  pub first : ℕ
  pub next : List ℕ
  pub free : List ℕ

-- the addresses of the frames that were taken
abbrev pub frames_of : Stock → Taken → List ℕ
frames_of s t = chain s.first s.next t.head t.count

-- what holds of all frames: the free ones are frames of the stock, each once, and none lies before the RAM
pub record AreStocked (first : ℕ) (next : List ℕ) (free : List ℕ) : Type 0 where
  pub frames : Each (IsFrame first (length next)) free
  pub once : AreOnce free
  pub low : ram_start ≤ first
  pub fits : first + 4096 * length next ≤ 2 ^ 32

-- these came from a stock and were not given back: they are its frames, each once, and none of them is free
pub record Holds (s : Stock) (t : Taken) : Type 0 where
  pub frames : Each (IsFrame s.first (length s.next)) (frames_of s t)
  pub once : AreOnce (frames_of s t)
  pub apart : AreApart (frames_of s t) s.free
  pub last : 1 ≤ t.count → t.tail ≡ frame_after s.next t.head (t.count - 1)

-- a change of the stock leaves what was taken as it is
pub record Keeps (old new : Stock) (t : Taken) : Type 0 where
  pub holds : Holds new t
  pub frames : frames_of new t ≡ frames_of old t

-- the frames of the stock stay the same, whoever has them
pub record SameFrames (old new : Stock) : Type 0 where
  pub first : new.first ≡ old.first
  pub count : length new.next ≡ length old.next

-- what it is to take n frames: the first n that are free, now zeros, apart from all that were taken before
pub record Takes (old new : Stock) (ram after : List ℕ) (n : ℕ) (t : Taken) : Type 0 where
  pub order : old.free ≡ frames_of new t ++ new.free
  pub count : t.count ≡ n
  pub holds : Holds new t
  pub zeroed : AreZeroed ram after (frames_of new t)
  pub others : (u : Taken) → Holds old u → Keeps old new u × AreApart (frames_of new u) (frames_of new t)

-- so many frames, one after another from an address on
unfoldable pub frames_from : ℕ → ℕ → List ℕ
frames_from first zero = []
frames_from first (suc n) = first ∷ frames_from (first + 4096) n

-- all frames lie in a RAM of so many bytes
abbrev pub LieInside : Stock → ℕ → Type 0
LieInside s size = s.first + 4096 * length s.next ≤ ram_start + size

-- what was taken has no frame in common with each of these
abbrev pub IsApartFrom : Stock → Taken → List Taken → Type 0
IsApartFrom s t [] = Unit {0}
IsApartFrom s t (u ∷ us) = AreApart (frames_of s t) (frames_of s u) × IsApartFrom s t us

-- all that was taken and not given back: each came from the stock, and no two have a frame in common
abbrev pub AreHeld : Stock → List Taken → Type 0
AreHeld s [] = Unit {0}
AreHeld s (t ∷ ts) = Holds s t × IsApartFrom s t ts × AreHeld s ts

-- a change of the stock leaves alone what is held without these frames
abbrev pub KeepsOthers : Stock → Stock → List ℕ → Type 0
KeepsOthers old new frames = (u : Taken) → Holds old u → AreApart frames (frames_of old u) → Keeps old new u

-- Where the texts and data of programs stand in each build, and how much RAM an image takes.
use Rattle.std.specs.Prelude.{ℕ, ◌+◌, ◌*◌, ◌/◌, ◌≤◌, ◌^◌, max, List, [], ◌∷◌}
use Rattle.nx_base.specs.declared.build.Build.{Build}
use Rattle.nx_base.specs.declared.build.Build.TheVariants.{Flat, Protected, Kernel}
use Rattle.nx_config.specs.declared.limits.Limits.{Limits}
use Rattle.nx_space.specs.Shared.{ram_start}
use Rattle.nx_image.specs.declared.layout.Layout.{Layout}
use Rattle.nx_image.specs.declared.layout.Sizes.{Sizes}
use Rattle.nx_image.specs.declared.layout.Addresses.{Addresses}

-- how many pages some bytes take
unfoldable pub pages : ℕ → ℕ
pages n = (n + 4095) / 4096

-- bytes rounded up to whole pages
unfoldable pub up : ℕ → ℕ
up n = pages n * 4096

-- the pool's blocks of 64 bytes stand first in the RAM
abbrev pub pool_bytes : Limits → ℕ
pool_bytes l = up (64 * l.blocks)

-- the bytes of all texts, of all data, and of all stacks
abbrev pub texts : List Sizes → ℕ
texts [] = 0
texts (s ∷ ss) = s.text + texts ss

abbrev pub contents : List Sizes → ℕ
contents [] = 0
contents (s ∷ ss) = s.init + contents ss

abbrev pub stacks_bytes : Limits → ℕ
stacks_bytes l = l.threads * l.stack

-- the flat and the protected build: pool, texts, data and stacks, one after another
abbrev pub joint_need : Limits → List Sizes → ℕ
joint_need l ss = pool_bytes l + (up (texts ss) + (up (contents ss) + stacks_bytes l))

-- how many regions of 4 MiB have one of some pages, the first of which is the page of a region with
-- this number
unfoldable pub regions : ℕ → ℕ → ℕ
regions first count = (first + count + 1023) / 1024

-- the kernel build: the page frames of a start. One is for the root, one for each page, and one for
-- the table of each region that has a page. A text begins at the 16th page of a region; data and
-- stacks begin where a region does, or in its middle
abbrev pub start_frames : Limits → Sizes → ℕ
start_frames l s =
    1 + (pages s.text + pages s.init + pages l.stack) + (regions 16 (pages s.text) + regions 0 (pages s.init) + regions 0 (pages l.stack))

abbrev pub most_frames : Limits → List Sizes → ℕ
most_frames l [] = 0
most_frames l (s ∷ ss) = max (start_frames l s) (most_frames l ss)

-- the bytes of RAM that an image takes
abbrev pub need_in : Build → Limits → List Sizes → ℕ
need_in Flat l ss = joint_need l ss
need_in Protected l ss = joint_need l ss
need_in Kernel l ss = pool_bytes l + 4096 * most_frames l ss

abbrev pub need_of : Layout → List Sizes → ℕ
need_of l ss = need_in l.build l.limits ss

-- where texts, data and stacks begin in the flat and the protected build
abbrev pub texts_at : Limits → ℕ
texts_at l = ram_start + pool_bytes l

abbrev pub data_at : Limits → List Sizes → ℕ
data_at l ss = texts_at l + up (texts ss)

abbrev pub stacks_at : Limits → List Sizes → ℕ
stacks_at l ss = data_at l ss + up (contents ss)

-- texts one after another from an address on, and data from another
abbrev pub in_turn : ℕ → ℕ → List Sizes → List Addresses
in_turn t d [] = []
in_turn t d (s ∷ ss) = record { text_at = t; data_at = d } ∷ in_turn (t + s.text) (d + s.init) ss

-- the same addresses for every program
abbrev pub alike : List Sizes → List Addresses
alike [] = []
alike (s ∷ ss) = record { text_at = 0x00010000; data_at = 0x10000000 } ∷ alike ss

abbrev pub addresses_in : Build → Limits → List Sizes → List Addresses
addresses_in Flat l ss = in_turn (texts_at l) (data_at l ss) ss
addresses_in Protected l ss = in_turn (texts_at l) (data_at l ss) ss
addresses_in Kernel l ss = alike ss

abbrev pub addresses_of : Layout → List Sizes → List Addresses
addresses_of l ss = addresses_in l.build l.limits ss

-- sizes with which sums don't wrap
pub record IsSmall (s : Sizes) : Type 0 where
  pub text : s.text ≤ 2 ^ 32
  pub init : s.init ≤ 2 ^ 32

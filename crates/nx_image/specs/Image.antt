-- An image, and what holds of every one.
use Rattle.std.specs.Prelude.{◌≡◌, ℕ, ◌+◌, ◌%◌, ◌≤◌, true, List, All, length, map}
use Rattle.std.specs.List.{list_all}
use Rattle.nx_base.specs.TextBytes.{is_word_byte}
use Rattle.nx_config.specs.Limits.{AreInRange}
use Rattle.nx_gate.specs.declared.gate.Gate.{Gate}
use Rattle.nx_ram.specs.declared.prog_image.ProgImage.{ProgImage}
use Rattle.nx_image.specs.declared.layout.Layout.{Layout}
use Rattle.nx_image.specs.declared.layout.Sizes.{Sizes}
use Rattle.nx_image.specs.declared.layout.Addresses.{Addresses}
use Rattle.nx_image.specs.Layout.{need_of, addresses_of}

-- its build and limits, its programs in the order of the words, and its gates
pub record Contents : Type 0 where
  pub layout : Layout
  pub programs : List ProgImage
  pub gates : List Gate

-- the bytes that a program has, and the addresses at which they stand
abbrev pub sizes_of : ProgImage → Sizes
sizes_of p = record { text = length p.text; init = length p.init }

abbrev pub stands_at : ProgImage → Addresses
stands_at p = record { text_at = p.text_at; data_at = p.data_at }

abbrev pub all_sizes : Contents → List Sizes
all_sizes i = map sizes_of i.programs

-- the name of a program: 1 to 32 letters, digits or underscores
pub record IsName (name : List ℕ) : Type 0 where
  pub some : 1 ≤ length name
  pub short : length name ≤ 32
  pub bytes : list_all is_word_byte name ≡ true

-- a program whose parts are of whole 16 bytes, with two stubs of 12 bytes first, and its main function
-- behind them
pub record IsProgram (p : ProgImage) : Type 0 where
  pub name : IsName p.name
  pub text : length p.text % 16 ≡ 0
  pub init : length p.init % 16 ≡ 0
  pub end_group : p.end_group ≡ p.text_at
  pub end_thread : p.end_thread ≡ p.text_at + 12
  pub main_low : p.text_at + 24 ≤ p.main
  pub main_high : p.main ≤ p.text_at + length p.text

-- programs that stand where the layout says, and have room in the RAM
pub record IsImage (i : Contents) : Type 0 where
  pub limits : AreInRange i.layout.limits
  pub few : length i.programs ≤ 32
  pub programs : All IsProgram i.programs
  pub stand : map stands_at i.programs ≡ addresses_of i.layout (all_sizes i)
  pub fits : need_of i.layout (all_sizes i) ≤ i.layout.limits.ram

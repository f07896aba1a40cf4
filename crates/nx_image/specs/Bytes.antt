-- The bytes of an image. Numbers are four bytes, the lowest first, unless another width is said.
use Rattle.std.specs.Prelude.{ℕ, ◌-◌, ◌<◌, ◌≤◌, ◌^◌, List, [], ◌∷◌, ◌++◌, length, map, codes, replicate}
use Rattle.std.specs.List.{flat_map}
use Rattle.nx_base.specs.ByteLists.{to_le}
use Rattle.nx_base.specs.declared.calls.Kind.{Kind}
use Rattle.nx_base.specs.declared.calls.Kind.TheVariants.{Word, In, Text, Out, Len, Out4, Out8}
use Rattle.nx_base.specs.declared.build.Build.{Build}
use Rattle.nx_base.specs.declared.build.Build.TheVariants.{Flat, Protected, Kernel}
use Rattle.nx_gate.specs.declared.gate.Gate.{Gate}
use Rattle.nx_ram.specs.declared.prog_image.ProgImage.{ProgImage}
use Rattle.nx_image.specs.declared.layout.Layout.{Layout}
use Rattle.nx_image.specs.Image.{Contents}

abbrev pub build_number : Build → ℕ
build_number Flat = 0
build_number Protected = 1
build_number Kernel = 2

abbrev pub kind_number : Kind → ℕ
kind_number Word = 0
kind_number In = 1
kind_number Text = 2
kind_number Out = 3
kind_number Len = 4
kind_number Out4 = 5
kind_number Out8 = 6

-- zeros after bytes, up to a width
abbrev pub filled : ℕ → List ℕ → List ℕ
filled width bytes = bytes ++ replicate (width - length bytes) 0

-- 12 bytes: the number in two bytes, the count of kinds in one, a zero, six kinds, two zeros
unfoldable pub gate_bytes : Gate → List ℕ
gate_bytes g = to_le 2 g.number ++ length g.kinds.items ∷ 0 ∷ (filled 6 (map kind_number g.kinds.items) ++ 0 ∷ 0 ∷ [])

-- where the text is and how long, the same of the data, the main function and the stubs
unfoldable pub program_numbers : ProgImage → List ℕ
program_numbers p =
    to_le 4 p.text_at ++ to_le 4 (length p.text) ++ to_le 4 p.data_at ++ to_le 4 (length p.init)
    ++ to_le 4 p.main ++ to_le 4 p.end_group ++ to_le 4 p.end_thread

-- 32 bytes of name, seven numbers, the text, the data
unfoldable pub program_bytes : ProgImage → List ℕ
program_bytes p = filled 32 p.name ++ program_numbers p ++ p.text ++ p.init

-- the mark, the build, the bytes of RAM, the gates, and how many programs follow
unfoldable pub head_bytes : Layout → List Gate → ℕ → List ℕ
head_bytes l gates programs =
    codes "NXI1" ++ to_le 4 (build_number l.build) ++ to_le 4 l.limits.ram ++ to_le 4 (length gates) ++ flat_map gate_bytes gates ++ to_le 4 programs

unfoldable pub bytes_of : Contents → List ℕ
bytes_of i = head_bytes i.layout i.gates (length i.programs) ++ flat_map program_bytes i.programs

-- a program whose name and lengths have room in its bytes
pub record HasRoom (p : ProgImage) : Type 0 where
  pub name : length p.name ≤ 32
  pub text : length p.text < 2 ^ 32
  pub init : length p.init < 2 ^ 32

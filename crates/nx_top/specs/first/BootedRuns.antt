-- A booted image, and the calls that its words make. nx_cmean and nx_load will take its place.
use Rattle.std.specs.Prelude.{◌≡◌, ℕ, ◌+◌, ◌-◌, ◌%◌, ◌<◌, ◌≤◌, ◌⊎◌, true, false, List, [], ◌∷◌, length, slice_index, slice_set, replicate}
use Rattle.nx_base.specs.declared.regs.Regs.{Regs}
use Rattle.nx_base.specs.ByteLists.{get_bytes}
use Rattle.nx_base.specs.Registers.{reg, with_reg}
use Rattle.nx_base.specs.Views.{View}
use Rattle.nx_rv.specs.declared.inst.Inst.{Inst}
use Rattle.nx_rv.specs.Execution.{ReachesCall}
use Rattle.nx_ram.specs.declared.prog_image.ProgImage.{ProgImage}
use Rattle.nx_top.specs.first.Layout.{ram_start, ram_bytes, stack_low, stack_high}
use Rattle.nx_top.specs.first.Compiled.{stub, code_bytes}
use Rattle.nx_top.specs.first.Program.{Program}

-- one window over the whole RAM, which may be read, written and run
abbrev pub flat_view : List ℕ → View
flat_view ram = record { windows = record { start = ram_start; reads = true; writes = true; runs = true; region = false; bytes = ram } ∷ []; is_paged = false }

-- the flat RAM with a program's text in its place, and zeros elsewhere
pub record IsBooted (image : ProgImage) (ram : List ℕ) : Type 0 where
  pub whole : length ram ≡ ram_bytes
  pub from : ram_start ≤ image.text_at
  pub to : image.text_at - ram_start + length image.text ≤ length ram
  pub text : get_bytes ram (image.text_at - ram_start) (length image.text) ≡ image.text
  pub zeros : (i : ℕ) → (i < image.text_at - ram_start) ⊎ (image.text_at - ram_start + length image.text ≤ i) → slice_index ram i ≡ 0

-- registers of a main thread: 1 is the first stub, 2 the stack's end, 4 its lowest address, all others 0
unfoldable pub start_regs : ProgImage → Regs
start_regs image = record {
  x = slice_set (slice_set (slice_set (replicate 32 0) 1 image.end_group) 2 (stack_high (length image.text))) 4 (stack_low (length image.text));
  pc = image.main;
}

-- a call as the registers from 10 on hold it, and its reply
pub record AnsweredCall : Type 0 where
  pub words : List ℕ
  pub reply : ℕ

-- the registers from one on hold these words
abbrev pub HoldsFrom : ℕ → List ℕ → Regs → Type 0
HoldsFrom k [] r = Unit {0}
HoldsFrom k (w ∷ ws) r = (reg r k ≡ w) × HoldsFrom (k + 1) ws r

-- a stretch that ends in a call and leaves the view as it was, and what comes after its reply, n instructions in all
pub record MakesCall (r : Regs) (v : View) (call : AnsweredCall) (n : ℕ) (go : Regs → ℕ → Type 0) : Type 0 where
  pub made : ℕ
  pub regs : Regs
  pub reaches : ReachesCall made r v regs v
  pub words : HoldsFrom 10 call.words regs
  pub rest : ℕ
  pub sum : n ≡ made + rest
  pub on : go (with_reg regs 10 call.reply) rest

-- the instructions from these registers make exactly these calls, each answered in register 10, n instructions in all
abbrev pub Makes : List AnsweredCall → Regs → View → ℕ → Type 0
Makes [] r v n = n ≡ 0
Makes (call ∷ calls) r v n = MakesCall r v call n (λ r' m. Makes calls r' v m)

-- write(1, at, count), all of which is written
abbrev pub write_call : List ℕ → ℕ → AnsweredCall
write_call string at = record { words = 16 ∷ 1 ∷ at ∷ length string ∷ []; reply = length string }

-- the end of the group
abbrev pub end_call : ℕ → AnsweredCall
end_call status = record { words = 1 ∷ status ∷ []; reply = 0 }

-- the writes of strings at these addresses, and the end
abbrev pub calls_of : List (List ℕ) → List ℕ → ℕ → List AnsweredCall
calls_of (string ∷ strings) (at ∷ places) status = write_call string at ∷ calls_of strings places status
calls_of _ _ status = end_call status ∷ []

-- a string stands in the text at an address
pub record StandsAt (image : ProgImage) (string : List ℕ) (at : ℕ) : Type 0 where
  pub from : image.text_at ≤ at
  pub to : at + length string ≤ image.text_at + length image.text
  pub bytes : get_bytes image.text (at - image.text_at) (length string) ≡ string

-- each string stands at its address
abbrev pub StandAt : ProgImage → List (List ℕ) → List ℕ → Type 0
StandAt image [] [] = Unit {0}
StandAt image (string ∷ strings) (at ∷ places) = StandsAt image string at × StandAt image strings places
StandAt image _ _ = ⊥

-- the words stand in the text at an address
pub record HasCode (image : ProgImage) (insts : List Inst) (at : ℕ) : Type 0 where
  pub from : image.text_at ≤ at
  pub bytes : get_bytes image.text (at - image.text_at) (length (code_bytes insts)) ≡ code_bytes insts

-- the image's words keep the program: from the start on they write its strings and end with its status
pub record Keeps (image : ProgImage) (p : Program) (n : ℕ) : Type 0 where
  pub first_stub : HasCode image (stub 1) image.end_group
  pub second_stub : HasCode image (stub 2) image.end_thread
  pub aligned : length image.text % 16 ≡ 0
  pub places : List ℕ
  pub strings : StandAt image p.writes places
  pub runs : (ram : List ℕ) → IsBooted image ram → Makes (calls_of p.writes places p.status) (start_regs image) (flat_view ram) n

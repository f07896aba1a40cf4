-- Two windows that the entries of physical memory protection allow: the texts, and the data with the stacks.
use Rattle.std.proofs.Common.{◌≡◌, ℕ, ◌+◌, ◌-◌, ◌*◌, ◌/◌, ◌%◌, ◌<◌, ◌≤◌, ◌^◌, ◌==◌, Bool, true, false, ◌&&◌, ◌||◌, List, [], ◌∷◌, length, replicate, Option, Some, None, arith, ◌⊎◌, inl, inr}
use Rattle.std.specs.Prelude.{if◌then◌else◌, nat_le, slice_index_or}
use Rattle.std.proofs.lemmas.Bool.Decides.{nat_tests}
use Rattle.nx_base.specs.ByteLists.{AreBytes}
use Rattle.nx_base.specs.declared.access.Access.{Access}
use Rattle.nx_base.specs.declared.access.Access.TheVariants.{Fetch, Load, Store}
use Rattle.nx_ram.specs.declared.prog_image.ProgImage.{ProgImage}
use Rattle.nx_pmp.specs.declared.pmp.PmpEntry.{PmpEntry}
use Rattle.nx_pmp.specs.declared.pmp.Pmp.{Pmp}
use Rattle.nx_pmp.specs.Protection.{entry_at}
use Rattle.nx_space.specs.World.{Home, Common, Part, World, seen_by}
use Rattle.nx_space.specs.Places.{lies_in, place_in, written_at, is_clear}
use Rattle.nx_space.specs.Lawful.{IsShared, IsWorld}
use Rattle.nx_space.specs.Starts.{no_program}
use Rattle.nx_space.specs.Shared.{ram_start, Sharing, shared_plan, shared_world, IsSharing, shared_lawful, shared_bytes}

-- the address of an entry
abbrev pub bound : Pmp → ℕ → ℕ
bound pmp i = 4 * (entry_at pmp.entries i).addr

-- entry 0 is off and has the texts' start; entry 1 ends the texts, which may be read and run; entry 2 ends the
-- stacks, which with the data may be read and written; the others are zero
abbrev pub entries_of : ℕ → ℕ → ℕ → Pmp
entries_of text middle end =
    let none : PmpEntry = record { cfg = 0; addr = 0 } in
    let first : PmpEntry = record { cfg = 0x00; addr = text / 4 } in
    let second : PmpEntry = record { cfg = 0x0D; addr = middle / 4 } in
    let third : PmpEntry = record { cfg = 0x0B; addr = end / 4 } in
    record { entries = first ∷ second ∷ third ∷ replicate 13 none }

-- the windows from one address to the next
abbrev pub text_part : ℕ → ℕ → Part
text_part text middle = record { start = text; reads = true; writes = false; runs = true; region = false; home = Common 0; from = text - ram_start; bytes = middle - text }

abbrev pub data_part : ℕ → ℕ → Part
data_part middle end = record { start = middle; reads = true; writes = true; runs = false; region = false; home = Common 0; from = middle - ram_start; bytes = end - middle }

abbrev pub protected_parts : Pmp → List Part
protected_parts pmp = text_part (bound pmp 0) (bound pmp 1) ∷ data_part (bound pmp 1) (bound pmp 2) ∷ []

-- the pool is the front of the RAM, up to the texts
abbrev pub protected_world : Pmp → Sharing → World
protected_world pmp s = shared_world (protected_parts pmp) (bound pmp 0 - ram_start) s

-- the n bytes at an address lie between two others
abbrev pub LieBetween : ℕ → ℕ → ℕ → ℕ → Type 0
LieBetween low top at n = (low ≤ at) × (at + n ≤ top)

-- the texts, the data and the stacks lie so in the RAM, whose end is below 2^32
pub record FitsProtected (size : ℕ) (programs : List ProgImage) (text middle stacks_at stack threads : ℕ) : Type 0 where
  pub small : ram_start + size < 2 ^ 32
  pub low : ram_start ≤ text
  pub texts : text < middle
  pub order : middle ≤ stacks_at
  pub one : 1 ≤ stack
  pub some : middle < stacks_at + threads * stack
  pub top : stacks_at + threads * stack ≤ ram_start + size
  pub words : (text % 4 ≡ 0) × (middle % 4 ≡ 0) × ((stacks_at + threads * stack) % 4 ≡ 0)
  pub run : (i : ℕ) → i < length programs → LieBetween text middle (slice_index_or programs i no_program).text_at (length (slice_index_or programs i no_program).text)
  pub contents : (i : ℕ) → i < length programs → LieBetween middle stacks_at (slice_index_or programs i no_program).data_at (length (slice_index_or programs i no_program).init)

-- the entries are those of a layout that fits
pub record IsProtected (pmp : Pmp) (s : Sharing) : Type 0 where
  pub entries : pmp ≡ entries_of (bound pmp 0) (bound pmp 1) (bound pmp 2)
  pub end : bound pmp 2 ≡ s.stacks_at + s.threads * s.stack
  pub fits : FitsProtected s.size s.programs (bound pmp 0) (bound pmp 1) s.stacks_at s.stack s.threads

-- bytes of the data and stacks lie in the second window
data_held : (text middle end pool at n : ℕ) → ram_start ≤ text → text < middle → LieBetween middle end at n → middle < at + n → pool ≤ text - ram_start → is_clear pool (written_at (text_part text middle ∷ data_part middle end ∷ []) at n) ≡ true
unfolding place_in lies_in
data_held text middle end pool at n low order inside some past =
    let a = inside.0 in
    let b = inside.1 in
    let over : nat_le (at + n) (text + (middle - text)) ≡ false = grind (arith, nat_tests) in
    let under : nat_le text at ≡ true = grind (arith, nat_tests) in
    let from : nat_le middle at ≡ true = grind (arith, nat_tests) in
    let to : nat_le (at + n) (middle + (end - middle)) ≡ true = grind (arith, nat_tests) in
    let clear : nat_le pool (middle - ram_start + (at - middle)) ≡ true = grind (arith, nat_tests) in
    rw (under, over, from, to) clear

-- a slot's stack lies with the others
slot_between : (middle stacks_at stack threads slot : ℕ) → middle ≤ stacks_at → slot < threads → LieBetween middle (stacks_at + threads * stack) (stacks_at + slot * stack) stack
slot_between middle stacks_at stack threads slot o l = (grind (arith, o), grind (arith, l))

pub protected_shared : (pmp : Pmp) (s : Sharing) → IsSharing s → IsProtected pmp s → IsShared (shared_plan (protected_parts pmp) (bound pmp 0 - ram_start) s) (s.ram ∷ [])
protected_shared pmp s h p =
    let f = p.fits in
    let low = f.low in
    let texts = f.texts in
    let order = f.order in
    let top = f.top in
    let whole = h.whole in
    let end = p.end in
    let one = f.one in
    record {
      parts = ((omega arith, omega (arith, low, texts, order, top, whole)), ((inr (inl (omega (arith, low, texts))), tt), ((omega arith, omega (arith, low, texts, order, top, whole, end)), (tt, tt))));
      stacks = λ slot l.
          let b = slot_between (bound pmp 1) s.stacks_at s.stack s.threads slot order l in
          data_held (bound pmp 0) (bound pmp 1) (bound pmp 2) _ _ s.stack low texts (b.0, omega (arith, b.1, end)) (omega (arith, b.0, one)) (omega arith);
      contents = λ place l some.
          let b = f.contents place l in
          let tall : s.stacks_at ≤ s.stacks_at + s.threads * s.stack = grind arith in
          data_held (bound pmp 0) (bound pmp 1) (bound pmp 2) _ _ _ low texts (b.0, omega (arith, b.1, end, tall)) (omega (arith, b.0, some)) (omega arith);
    }

pub protected_lawful : (pmp : Pmp) (s : Sharing) → IsSharing s → IsProtected pmp s → IsWorld (protected_world pmp s)
protected_lawful pmp s h p =
    let f = p.fits in
    let tall : s.stacks_at ≤ s.stacks_at + s.threads * s.stack = grind arith in
    shared_lawful (protected_parts pmp) (bound pmp 0 - ram_start) s h (omega (arith, f.low, f.texts, f.order, f.top, tall)) (protected_shared pmp s h p)

pub protected_bytes : (pmp : Pmp) (s : Sharing) → IsSharing s → (number : ℕ) (home : Home) → AreBytes (seen_by (protected_world pmp s) number home)
protected_bytes pmp s h number home = shared_bytes (protected_parts pmp) (bound pmp 0 - ram_start) s h number home

-- the bounds between which an access may be made
abbrev pub low_of : Pmp → Access → ℕ
low_of pmp Fetch = bound pmp 0
low_of pmp Load = bound pmp 0
low_of pmp Store = bound pmp 1

abbrev pub top_of : Pmp → Access → ℕ
top_of pmp Fetch = bound pmp 1
top_of pmp Load = bound pmp 2
top_of pmp Store = bound pmp 2

-- no bytes, or bytes that lie between these bounds
abbrev pub is_protected_good : Pmp → ℕ → ℕ → Access → Bool
is_protected_good pmp at n access = (n == 0) || (nat_le (low_of pmp access) at && nat_le (at + n) (top_of pmp access))

-- The words and bytes that the values and objects of slot code are.
use Rattle.std.specs.Prelude.{◌≡◌, ℕ, ◌+◌, ◌*◌, ◌%◌, ◌^◌, ◌<◌, ◌≤◌, ◌⊎◌, true, List, [], ◌∷◌, length, slice_index}
use Rattle.nx_base.specs.Views.{View}
use Rattle.nx_slot.specs.declared.op.Width.TheVariants.{Word}
use Rattle.nx_slot.specs.Objects.{Value, Int, Pointer, Forged, Entry, Object, object_of, bytes_of}
use Rattle.nx_slot.specs.Meaning.{SlotFrame, function_at}
use Rattle.nx_codegen.specs.declared.output.Target.TheVariants.{Function}
use Rattle.nx_codegen.specs.Frames.{words_end}
use Rattle.nx_shown.specs.Bytes.{Bytes}
use Rattle.nx_shown.specs.Places.{Place, Sees, MayWrite}
use Rattle.nx_linked.specs.Linked.{Form, Program}

-- How many bytes an object has, where objects begin at addresses, and that an address is one of an object's bytes.
abbrev pub size_of : List Object → ℕ → ℕ
size_of os o = length (object_of os o).bytes

abbrev pub Bases : Type 0
Bases = ℕ → ℕ

abbrev pub IsIn : Bases → List Object → ℕ → ℕ → Type 0
IsIn base os o a = (base o ≤ a) × (a < base o + size_of os o)

-- The word of a value.
abbrev pub Means : Program → Bases → List Object → Value → ℕ → Type 0
Means c base os (Int n) w = w ≡ n
Means c base os (Pointer o at) w = (o < length os) × (w ≡ (base o + bytes_of (object_of os o).width * at) % 2 ^ 32)
Means c base os (Forged n) w = w ≡ n
Means c base os (Entry f) w = w ≡ c.links (Function f)

-- An object lies in the stack or the data, or with the literals if it stays as it is.
abbrev pub LivesAt : Place → ℕ → Object → Type 0
LivesAt e at x = MayWrite e at (length x.bytes) ⊎ ((e.fixed_low ≤ at) × (at + length x.bytes ≤ e.fixed_top) × (x.fixed ≡ true))

pub record HasForm (f : Form) (x : Object) : Type 0 where
  pub bytes : length x.bytes ≡ f.bytes
  pub width : x.width ≡ f.width
  pub fixed : x.fixed ≡ f.fixed

-- All objects are in memory, with their bytes, and no two share an address. Those that were there from the start are
-- where the link placed them; the others lie in the stack.
pub record AreShown (c : Program) (base : Bases) (os : List Object) (b : Bytes) : Type 0 where
  pub bytes : (o i : ℕ) → i < size_of os o → b (base o + i) ≡ slice_index (object_of os o).bytes i
  pub aligned : (o : ℕ) → (object_of os o).width ≡ Word → base o % 4 ≡ 0
  pub lives : (o : ℕ) → 1 ≤ size_of os o → LivesAt c.place (base o) (object_of os o)
  pub apart : (o q a : ℕ) → IsIn base os o a → IsIn base os q a → o ≡ q
  pub own : (o : ℕ) → c.statics ≤ o → 1 ≤ size_of os o → (c.place.low ≤ base o) × (base o + size_of os o ≤ c.place.top)
  pub statics : (o : ℕ) → o < c.statics → (o < length os) × (base o ≡ c.address o)
  pub forms : (o : ℕ) → o < c.statics → HasForm (c.forms o) (object_of os o)

-- An address is one of the words of the open frames, the first of which begins here.
abbrev pub IsWord : Program → List SlotFrame → ℕ → ℕ → Type 0
IsWord c [] sp a = ⊥
IsWord c (f ∷ fs) sp a = ((sp ≤ a) × (a < sp + words_end (function_at c.code f.function))) ⊎ IsWord c fs (sp + (function_at c.code f.function).frame) a

-- A view shows the objects that were there from the start.
pub record Leaves (c : Program) (v : View) (os : List Object) : Type 0 where
  pub bytes : Bytes
  pub sees : Sees c.place v bytes
  pub there : c.statics ≤ length os
  pub forms : (o : ℕ) → o < c.statics → HasForm (c.forms o) (object_of os o)
  pub shown : (o i : ℕ) → o < c.statics → i < size_of os o → bytes (c.address o + i) ≡ slice_index (object_of os o).bytes i

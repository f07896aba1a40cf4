-- A state of slot code, as registers and memory hold it.
use Rattle.std.specs.Prelude.{◌≡◌, ℕ, suc, ◌+◌, ◌*◌, ◌%◌, ◌<◌, ◌≤◌, List, [], ◌∷◌, ◌++◌, length, Some, slice_get, get_or}
use Rattle.nx_base.specs.declared.regs.Regs.{Regs}
use Rattle.nx_base.specs.Views.{View}
use Rattle.nx_rv.specs.declared.inst.Inst.{Inst}
use Rattle.nx_slot.specs.declared.program.SlotFunction.{SlotFunction}
use Rattle.nx_slot.specs.Objects.{Value, Object}
use Rattle.nx_slot.specs.Meaning.{SlotFrame, function_at}
use Rattle.nx_codegen.specs.declared.output.Target.TheVariants.{Function}
use Rattle.nx_codegen.specs.Cells.{IsCell}
use Rattle.nx_codegen.specs.Frames.{cell_at, array_at}
use Rattle.nx_codegen.specs.Moves.{answer_code}
use Rattle.nx_codegen.specs.Calling.{kept_at, restore_code}
use Rattle.nx_codegen.specs.Code.{place_of}
use Rattle.nx_shown.specs.Bytes.{Bytes, number_at}
use Rattle.nx_shown.specs.Leading.{At}
use Rattle.nx_pieces.specs.Parts.{IsCode}
use Rattle.nx_pieces.specs.Cells.{cell_word, Open}
use Rattle.nx_linked.specs.Linked.{Program}
use Rattle.nx_linked.specs.Meant.{Bases, IsIn, Means, AreShown}

abbrev pub function_in : Program → ℕ → SlotFunction
function_in c f = function_at c.code f

-- Where a place of a function is.
abbrev pub address_of : Program → ℕ → ℕ → ℕ
address_of c f at = c.links (Function f) + place_of (function_in c f) at

-- What stands behind a call: the temporaries come back, and the value is taken in.
abbrev pub behind_code : SlotFunction → ℕ → List Inst
behind_code g wants = restore_code (kept_at g wants) ++ answer_code g wants

pub record IsBehind (c : Program) (f : SlotFrame) (to : ℕ) : Type 0 where
  pub stands : IsCode c.place to (behind_code (function_in c f.function) f.wants)
  pub aligned : to % 4 ≡ 0
  pub leads : address_of c f.function f.place ≡ to + 4 * length (behind_code (function_in c f.function) f.wants)

-- A call that waits for a value: its cells are in their words.
pub record Waits (c : Program) (base : Bases) (os : List Object) (f : SlotFrame) (sp to : ℕ) (b : Bytes) : Type 0 where
  pub known : f.function < length c.code.functions
  pub opened : Open c.place (function_in c f.function) sp
  pub cells : (i : ℕ) (x : Value) → slice_get f.cells i ≡ Some x → Means c base os x (number_at b (sp + cell_at (function_in c f.function) i) 4)
  pub next : length f.cells ≡ f.wants
  pub temporary : (function_in c f.function).locals ≤ f.wants
  pub room : IsCell (function_in c f.function) f.wants
  pub behind : IsBehind c f to

-- The calls that wait, from an address of the stack on, and where the innermost is returned to. The last word of each
-- frame's front is where its function returns to.
abbrev pub AreBelow : Program → Bases → List Object → List SlotFrame → ℕ → ℕ → Bytes → Type 0
AreBelow c base os [] sp to b = (sp ≡ c.place.top) × (to ≡ c.stub)
AreBelow c base os (f ∷ fs) sp to b = Waits c base os f sp to b × AreBelow c base os fs (sp + (function_in c f.function).frame) (number_at b sp 4) b

-- An address is one of an array that a frame has made.
pub record IsOfArray (g : SlotFunction) (names : List ℕ) (sp o a : ℕ) : Type 0 where
  pub place : ℕ
  pub made : place < length names
  pub name : get_or names place 0 ≡ o
  pub from : sp + array_at g place ≤ a
  pub to : a < sp + array_at g (suc place)

-- What objects have of a frame is of its arrays, each of which stands in its place.
pub record Owns (c : Program) (g : SlotFunction) (base : Bases) (os : List Object) (names : List ℕ) (sp : ℕ) : Type 0 where
  pub each : (o a : ℕ) → IsIn base os o a → sp ≤ a → a < sp + g.frame → IsOfArray g names sp o a
  pub arrays : (k : ℕ) → k < length names → (get_or names k 0 < length os) × (base (get_or names k 0) ≡ sp + array_at g k)
  pub later : (k : ℕ) → k < length names → c.statics ≤ get_or names k 0

abbrev pub AreOwned : Program → Bases → List Object → List SlotFrame → ℕ → Type 0
AreOwned c base os [] sp = Unit {0}
AreOwned c base os (f ∷ fs) sp = Owns c (function_in c f.function) base os f.arrays sp × AreOwned c base os fs (sp + (function_in c f.function).frame)

abbrev pub AreOpen : Program → List SlotFrame → ℕ → Type 0
AreOpen c [] sp = Unit {0}
AreOpen c (f ∷ fs) sp = Open c.place (function_in c f.function) sp × AreOpen c fs (sp + (function_in c f.function).frame)

-- The innermost call stands at an address, and all other calls wait.
pub record Rests (c : Program) (os : List Object) (f : SlotFrame) (fs : List SlotFrame) (r : Regs) (v : View) (pc : ℕ) : Type 0 where
  pub base : Bases
  pub sp : ℕ
  pub registers : ℕ → ℕ
  pub bytes : Bytes
  pub known : f.function < length c.code.functions
  pub opened : Open c.place (function_in c f.function) sp
  pub at : At c.place r v pc registers bytes
  pub pointer : registers 2 ≡ sp
  pub top : registers 3 ≡ c.place.top
  pub low : registers 4 ≡ c.place.low
  pub cells : (i : ℕ) (x : Value) → slice_get f.cells i ≡ Some x → Means c base os x (cell_word (function_in c f.function) sp registers bytes i)
  pub few : length f.cells ≤ (function_in c f.function).locals + (function_in c f.function).temporaries
  pub below : AreBelow c base os fs (sp + (function_in c f.function).frame) (number_at bytes sp 4) bytes
  pub shown : AreShown c base os bytes
  pub owned : AreOwned c base os (f ∷ fs) sp
  pub under : (o a : ℕ) → IsIn base os o a → c.place.low ≤ a → a < c.place.top → sp ≤ a

-- It stands at its next operation.
abbrev pub IsActive : Program → List Object → SlotFrame → List SlotFrame → Regs → View → Type 0
IsActive c os f fs r v = Rests c os f fs r v (address_of c f.function f.place)

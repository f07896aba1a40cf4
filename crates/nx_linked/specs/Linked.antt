-- A program of slot code that a link has placed.
use Rattle.std.specs.Prelude.{◌≡◌, ℕ, ◌+◌, ◌%◌, ◌^◌, ◌<◌, ◌≤◌, Bool, List, [], ◌∷◌, length, Some, slice_get}
use Rattle.nx_slot.specs.declared.op.Operand.{Operand}
use Rattle.nx_slot.specs.declared.op.Operand.TheVariants.{Cell, Number}
use Rattle.nx_slot.specs.declared.op.Width.{Width}
use Rattle.nx_slot.specs.declared.op.StaticObject.{StaticObject}
use Rattle.nx_slot.specs.declared.op.SlotOp.{SlotOp}
use Rattle.nx_slot.specs.declared.op.SlotOp.TheVariants as op
use Rattle.nx_slot.specs.declared.program.SlotArray.{SlotArray}
use Rattle.nx_slot.specs.Meaning.{Code, function_at}
use Rattle.nx_codegen.specs.declared.output.Target.TheVariants.{Function, Call}
use Rattle.nx_codegen.specs.Addresses.{Links, target_of}
use Rattle.nx_codegen.specs.Frames.{IsFunction}
use Rattle.nx_codegen.specs.Calling.{proxy_code, stub_code}
use Rattle.nx_codegen.specs.Code.{code_of}
use Rattle.nx_shown.specs.Places.{Place, IsPlace}
use Rattle.nx_pieces.specs.Parts.{IsCode}

-- What stays of an object: how many bytes it has, what they are elements of, and whether they stay as they are.
pub record Form : Type 0 where
  pub bytes : ℕ
  pub width : Width
  pub fixed : Bool

-- A program, the addresses that a link gives, the memory of one of its threads, where the thread's first function returns
-- to, the number of the call that is made there, and how many objects there are from the start, where, and of what form.
pub record Program : Type 0 where
  pub code : Code
  pub links : Links
  pub place : Place
  pub stub : ℕ
  pub ending : ℕ
  pub statics : ℕ
  pub address : ℕ → ℕ
  pub forms : ℕ → Form

-- A proxy of a call of the kernel with so many words.
pub record IsGate (c : Program) (number count : ℕ) : Type 0 where
  pub small : number < 2048
  pub few : count ≤ 6
  pub aligned : c.links (Call number) % 4 ≡ 0
  pub stands : IsCode c.place (c.links (Call number)) (proxy_code number count)

abbrev pub IsShort : Operand → Type 0
IsShort (Cell i) = Unit {0}
IsShort (Number n) = n < 2 ^ 32

abbrev pub IsStatic : Program → StaticObject → Type 0
IsStatic c o = (o.name < c.statics) × (c.links (target_of o) ≡ c.address o.name)

-- What an operation names is there.
abbrev pub IsPlaced : Program → SlotOp → Type 0
IsPlaced c (op.Move to from) = IsShort from
IsPlaced c (op.Apply o to left right) = IsShort right
IsPlaced c (op.SkipUnless test left right past) = IsShort right
IsPlaced c (op.Ask number first count) = IsGate c number count
IsPlaced c (op.Go function first count) = function < length c.code.functions
IsPlaced c (op.Give value) = IsShort value
IsPlaced c (op.Static to o) = IsStatic c o
IsPlaced c (op.Entry to function) = function < length c.code.functions
IsPlaced c (op.Fetch to o) = IsStatic c o
IsPlaced c (op.Keep o from) = IsStatic c o
IsPlaced c (op.Index to base index w) = IsShort index
IsPlaced c o = Unit {0}

abbrev pub HaveBytes : List SlotArray → Type 0
HaveBytes [] = Unit {0}
HaveBytes (a ∷ more) = (1 ≤ a.bytes) × HaveBytes more

-- A function's code stands where the link says.
pub record IsCompiled (c : Program) (f : ℕ) : Type 0 where
  pub function : IsFunction (function_at c.code f)
  pub arrays : HaveBytes (function_at c.code f).arrays
  pub aligned : c.links (Function f) % 4 ≡ 0
  pub stands : IsCode c.place (c.links (Function f)) (code_of c.links (function_at c.code f))
  pub operations : (at : ℕ) (o : SlotOp) → slice_get (function_at c.code f).ops at ≡ Some o → IsPlaced c o

-- So does all of the program, and what its thread's first function returns to.
pub record IsLinked (c : Program) : Type 0 where
  pub place : IsPlace c.place
  pub stack : c.place.low + c.code.stack ≡ c.place.top
  pub functions : (f : ℕ) → f < length c.code.functions → IsCompiled c f
  pub objects : (o : ℕ) → o < c.statics → c.address o < 2 ^ 32
  pub stub_aligned : c.stub % 4 ≡ 0
  pub stub : IsCode c.place c.stub (stub_code c.ending)
  pub ending : c.ending < 2048

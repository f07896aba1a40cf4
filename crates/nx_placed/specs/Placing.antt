-- A program of slot code among others, as a link lays it out for all its threads.
use Rattle.std.specs.Prelude.{◌≡◌, ℕ, ◌+◌, ◌%◌, ◌^◌, ◌<◌, ◌≤◌, Bool, true, false, if◌then◌else◌, List, [], ◌∷◌, length, Some, slice_get, slice_index}
use Rattle.nx_base.specs.declared.regs.Regs.{Regs}
use Rattle.nx_base.specs.declared.calls.Kind.TheVariants.{Word}
use Rattle.nx_base.specs.Calls.{Call, Rows}
use Rattle.nx_base.specs.Ranges.{Range, AreDisjoint}
use Rattle.nx_base.specs.Registers.{reg}
use Rattle.nx_base.specs.Replies.{next_word}
use Rattle.nx_rv.specs.declared.inst.Inst.{Inst}
use Rattle.nx_rv.specs.Table.{encode_of, IsInRange}
use Rattle.nx_slot.specs.declared.op.Width.TheVariants as width
use Rattle.nx_slot.specs.Objects.{Value, Object, object_of}
use Rattle.nx_slot.specs.Meaning.{function_at}
use Rattle.nx_codegen.specs.declared.output.Target.TheVariants.{Function}
use Rattle.nx_cmean.specs.Homes.{Home}
use Rattle.nx_shown.specs.Bytes.{Bytes, number_at}
use Rattle.nx_shown.specs.Places.{Piece}
use Rattle.nx_linked.specs.Linked.{Program, IsLinked}
use Rattle.nx_linked.specs.Meant.{size_of, Means, HasForm}
use Rattle.nx_keeps.specs.Programs.{first_values}

-- The program, whose stack, stub and ending are those of each thread; its main function; its text with the bytes there;
-- how many slots there are, and the stack of each; what a further thread returns to; and the registers that threads begin with.
pub record Placing : Type 0 where
  pub program : Program
  pub main : ℕ
  pub text : Range
  pub text_bytes : Bytes
  pub slots : ℕ
  pub stack : ℕ → Range
  pub further_stub : ℕ
  pub main_regs : ℕ → Regs
  pub thread_regs : ℕ → Call → Regs

abbrev pub rows_of : Placing → Rows
rows_of d = d.program.code.rows

-- The call by which a group's first thread ends, and any other.
abbrev pub ending_of : Bool → ℕ
ending_of false = 1
ending_of true = 2

-- The program as a thread of a slot sees it.
abbrev pub at_slot : Placing → ℕ → Bool → Program
at_slot d slot is_further = record d.program {
  place = record d.program.place { low = (d.stack slot).low; top = (d.stack slot).top };
  stub = if is_further then d.further_stub else d.program.stub;
  ending = ending_of is_further;
}

abbrev pub data_of : Placing → Range
data_of d = record { low = d.program.place.data_low; top = d.program.place.data_top }

-- Bytes hold globals: these have the program's forms, and their bytes; literals have those of the text.
pub record Holds (d : Placing) (g : List Object) (b : Bytes) : Type 0 where
  pub count : length g ≡ d.program.statics
  pub forms : (o : ℕ) → o < d.program.statics → HasForm (d.program.forms o) (object_of g o)
  pub globals : (o i : ℕ) → o < d.program.statics → (d.program.forms o).fixed ≡ false → i < size_of g o → b (d.program.address o + i) ≡ slice_index (object_of g o).bytes i
  pub literals : (o i : ℕ) → o < d.program.statics → (d.program.forms o).fixed ≡ true → i < size_of g o → d.text_bytes (d.program.address o + i) ≡ slice_index (object_of g o).bytes i

-- Words of registers that name the entry of a function, and the same number after it.
abbrev pub SameStart : Placing → List ℕ → List ℕ → Type 0
SameStart d (word ∷ words) (f ∷ more) = (word ≡ d.program.links (Function f)) × (next_word words ≡ next_word more)
SameStart d [] more = ⊥
SameStart d (word ∷ words) [] = ⊥

abbrev pub home_of_slots : Placing → Home (List Object)
home_of_slots d = record {
  rows = rows_of d;
  text = d.text;
  text_bytes = d.text_bytes;
  globals = data_of d;
  Holds = Holds d;
  slots = d.slots;
  stack = d.stack;
  main_regs = d.main_regs;
  thread_regs = d.thread_regs;
  SameEntry = λ made meant. (rows_of d meant.number).enters ≡ true → SameStart d made.words meant.words;
}

-- Instructions stand in the text's bytes.
abbrev pub AreIn : Placing → ℕ → List Inst → Type 0
AreIn d at [] = Unit {0}
AreIn d at (i ∷ is) = ((d.text.low ≤ at) × (at + 4 ≤ d.text.top) × (number_at d.text_bytes at 4 ≡ encode_of i) × IsInRange i) × AreIn d (at + 4) is

abbrev pub AllIn : Placing → List Piece → Type 0
AllIn d [] = Unit {0}
AllIn d (p ∷ ps) = AreIn d p.at p.insts × AllIn d ps

-- The first registers of a thread that begins with a function.
pub record Begins (c : Program) (f : ℕ) (arguments : List Value) (r : Regs) : Type 0 where
  pub known : f < length c.code.functions
  pub size : length r.x ≡ 32
  pub small : (k : ℕ) → reg r k < 2 ^ 32
  pub pc_is : r.pc ≡ c.links (Function f)
  pub back : reg r 1 ≡ c.stub
  pub pointer : reg r 2 ≡ c.place.top
  pub top : reg r 3 ≡ 0
  pub low : reg r 4 ≡ c.place.low
  pub count : length arguments ≡ (function_at c.code f).params
  pub arguments_are : (os : List Object) (j : ℕ) (x : Value) → slice_get arguments j ≡ Some x → Means c c.address os x (reg r (10 + j))

-- What a link shows of a program's place.
pub record IsPlaced (d : Placing) : Type 0 where
  pub linked : (slot : ℕ) (b : Bool) → slot < d.slots → IsLinked (at_slot d slot b)
  pub text_stack : (slot : ℕ) → AreDisjoint d.text (d.stack slot)
  pub text_data : AreDisjoint d.text (data_of d)
  pub small : (a : ℕ) → d.text_bytes a < 256
  pub written : AllIn d d.program.place.pieces
  pub literals_in : (d.text.low ≤ d.program.place.fixed_low) × (d.program.place.fixed_top ≤ d.text.top)
  pub globals : (o : ℕ) → o < d.program.statics → (d.program.forms o).fixed ≡ false → (d.program.place.data_low ≤ d.program.address o) × (d.program.address o + (d.program.forms o).bytes ≤ d.program.place.data_top)
  pub literals : (o : ℕ) → o < d.program.statics → (d.program.forms o).fixed ≡ true → (d.program.place.fixed_low ≤ d.program.address o) × (d.program.address o + (d.program.forms o).bytes ≤ d.program.place.fixed_top)
  pub aligned : (o : ℕ) → o < d.program.statics → (d.program.forms o).width ≡ width.Word → d.program.address o % 4 ≡ 0
  pub apart : (o q a : ℕ) → o < d.program.statics → q < d.program.statics → d.program.address o ≤ a → a < d.program.address o + (d.program.forms o).bytes → d.program.address q ≤ a → a < d.program.address q + (d.program.forms q).bytes → o ≡ q
  pub short : (n : ℕ) → length (rows_of d n).kinds ≤ 6
  pub ends : (b : Bool) → rows_of d (ending_of b) ≡ record { kinds = Word ∷ []; enters = false }
  pub enters : (n : ℕ) → (rows_of d n).enters ≡ true → (rows_of d n).kinds ≡ Word ∷ Word ∷ []
  pub main_begins : (slot : ℕ) → slot < d.slots → Begins (at_slot d slot false) d.main (first_values (function_at d.program.code d.main).params 0) (d.main_regs slot)
  pub thread_begins : (slot f n : ℕ) (c : Call) → slot < d.slots → f < length d.program.code.functions → (function_at d.program.code f).params ≤ 1 → SameStart d c.words (f ∷ n ∷ []) → Begins (at_slot d slot true) f (first_values (function_at d.program.code f).params n) (d.thread_regs slot c)

-- What small programs do, and what they cost.
use Rattle.std.proofs.Common.{◌≡◌, ℕ, ◌+◌, ◌*◌, true, false, List, [], ◌∷◌, Option, Some, None, refl}
use Rattle.std.specs.Prelude.{◌==◌, if◌then◌else◌}
use Rattle.nx_base.specs.declared.calls.Kind.TheVariants as kind
use Rattle.nx_base.specs.Arithmetic.{alu_of}
use Rattle.nx_base.specs.ByteLists.{get_bytes, put_bytes, from_le, to_le}
use Rattle.nx_base.specs.Calls.{Call, Rows}
use Rattle.nx_slot.specs.declared.op.Operand.TheVariants.{Cell, Number}
use Rattle.nx_slot.specs.declared.op.Comparison.TheVariants.{Less}
use Rattle.nx_slot.specs.declared.op.Binary.TheVariants.{Add, Multiply}
use Rattle.nx_slot.specs.declared.op.Width.TheVariants.{Byte, Word}
use Rattle.nx_slot.specs.declared.op.Section.TheVariants.{Global, Literal}
use Rattle.nx_slot.specs.declared.op.StaticObject.{StaticObject}
use Rattle.nx_slot.specs.declared.op.SlotOp.{SlotOp}
use Rattle.nx_slot.specs.declared.op.SlotOp.TheVariants as op
use Rattle.nx_slot.specs.declared.program.SlotFunction.{SlotFunction}
use Rattle.nx_slot.specs.Objects.{Object, object_of, has_element, element, with_element, holds, binary}
use Rattle.nx_slot.specs.Calls.{lies_in, buffer_of, input_of, inputs_of, call_inputs, with_bytes}
use Rattle.nx_slot.specs.Meaning.{Code, SlotFault, NoCell, NoFit, Outside, NoBuffer, put, cells_from, may_write, may_hand}
use Rattle.nx_slot.specs.Runs.{SlotReach, Requested, Finished, Overflowed, Failed, then_on, run, begun, replied}

-- Call 16 has a word, a buffer and its length, and call 17 a buffer that it writes.
abbrev rows : Rows
rows n = record { kinds = if n == 16 then kind.Word ∷ kind.In ∷ kind.Len ∷ [] else kind.Out ∷ kind.Len ∷ []; enters = false }

abbrev code : List SlotFunction → Code
code functions = record { functions = functions; rows = rows; stack = 64 }

-- One global number, and a text.
abbrev objects : List Object
objects = record { bytes = 5 ∷ 0 ∷ 0 ∷ 0 ∷ []; width = Word; fixed = false } ∷ record { bytes = 104 ∷ 105 ∷ 0 ∷ []; width = Byte; fixed = true } ∷ []

abbrev counter : StaticObject
counter = record { name = 0; section = Global 0 }

abbrev greeting : StaticObject
greeting = record { name = 1; section = Literal 0 }

abbrev whole : List SlotFunction → SlotReach
whole functions = let p = code functions in then_on (begun p 0 [] objects) (run p 100)

-- s = 0; for (i = 0; i < 4; i++) s += i; return s;
abbrev sums : SlotFunction
sums = record {
  frame = 32;
  params = 0;
  locals = 2;
  temporaries = 1;
  arrays = [];
  ops =
      op.Move 0 (Number 0) ∷ op.Move 1 (Number 0) ∷ op.SkipUnless Less 1 (Number 4) 5 ∷ op.Move 2 (Cell 0) ∷ op.Apply Add 2 2 (Cell 1) ∷ op.Move 0 (Cell 2) ∷ op.Apply Add 1 1 (Number 1) ∷ op.Back 5 ∷ op.Give (Cell 0) ∷ [];
}

abbrev value_of : SlotReach → Option ℕ
value_of (Finished n os cost) = Some n
value_of r = None

abbrev cost_of : SlotReach → ℕ
cost_of (Finished n os cost) = cost
cost_of (Requested call outputs s cost) = cost
cost_of r = 0

abbrev fault_in : SlotReach → Option SlotFault
fault_in (Failed fault) = Some fault
fault_in r = None

sum_of_four : value_of (whole (sums ∷ [])) ≡ Some 6
unfolding run put may_write holds binary alu_of
sum_of_four = refl

-- The entry, two moves, four turns of 42, the last test, and the end.
cost_of_sums : cost_of (whole (sums ∷ [])) ≡ 14 + 12 + 4 * 45 + 9 + 20
unfolding run put may_write holds binary alu_of
cost_of_sums = refl

-- int square(int n) { return n * n; }   int main(void) { return square(7) + 1; }
abbrev squares : List SlotFunction
squares =
    record {
      frame = 16;
      params = 0;
      locals = 0;
      temporaries = 1;
      arrays = [];
      ops = op.Move 0 (Number 7) ∷ op.Go 1 0 1 ∷ op.Apply Add 0 0 (Number 1) ∷ op.Give (Cell 0) ∷ [];
    }
    ∷ record {
      frame = 16;
      params = 1;
      locals = 1;
      temporaries = 1;
      arrays = [];
      ops = op.Move 1 (Cell 0) ∷ op.Apply Multiply 1 1 (Cell 0) ∷ op.Give (Cell 1) ∷ [];
    }
    ∷ []

square_of_seven : value_of (whole squares) ≡ Some 50
unfolding run put may_write may_hand cells_from binary alu_of
square_of_seven = refl

-- A function that calls itself fills a stack of 64 bytes at its fifth entry, of 16 bytes each.
abbrev endless : SlotFunction
endless = record { frame = 16; params = 0; locals = 0; temporaries = 1; arrays = []; ops = op.Go 0 0 0 ∷ [] }

full : whole (endless ∷ []) ≡ Overflowed 80 (14 + 4 * 30)
unfolding run may_hand cells_from
full = refl

-- int a[2]; a[1] = 5; return a[i]; for an i
abbrev reads : ℕ → SlotFunction
reads i = record {
  frame = 32;
  params = 0;
  locals = 0;
  temporaries = 2;
  arrays = record { bytes = 8; width = Word } ∷ [];
  ops =
      op.Make 0 ∷ op.Local 0 0 ∷ op.Index 0 0 (Number 1) Word ∷ op.Move 1 (Number 5) ∷ op.Store 0 1 Word ∷ op.Local 0 0 ∷ op.Index 0 0 (Number i) Word ∷ op.Load 0 0 Word ∷ op.Give (Cell 0) ∷ [];
}

second_element : value_of (whole (reads 1 ∷ [])) ≡ Some 5
unfolding run put may_write object_of has_element element with_element get_bytes put_bytes from_le to_le
second_element = refl

third_element : fault_in (whole (reads 2 ∷ [])) ≡ Some Outside
unfolding run put may_write object_of has_element element with_element get_bytes put_bytes from_le to_le
third_element = refl

-- A global is read and written.
abbrev counts : SlotFunction
counts = record {
  frame = 16;
  params = 0;
  locals = 0;
  temporaries = 1;
  arrays = [];
  ops = op.Fetch 0 counter ∷ op.Apply Add 0 0 (Number 3) ∷ op.Keep counter 0 ∷ op.Fetch 0 counter ∷ op.Give (Cell 0) ∷ [];
}

counted : value_of (whole (counts ∷ [])) ≡ Some 8
unfolding run put may_write object_of has_element element with_element binary alu_of get_bytes put_bytes from_le to_le
counted = refl

-- A text can't be written.
abbrev scribbles : SlotFunction
scribbles = record {
  frame = 16;
  params = 0;
  locals = 0;
  temporaries = 2;
  arrays = [];
  ops = op.Static 0 greeting ∷ op.Move 1 (Number 0) ∷ op.Store 0 1 Byte ∷ op.Give (Number 0) ∷ [];
}

kept_text : fault_in (whole (scribbles ∷ [])) ≡ Some Outside
unfolding run put may_write object_of has_element
kept_text = refl

-- A cell that is not there, and a pointer in place of a number.
abbrev adds : SlotOp → SlotFunction
adds first = record { frame = 16; params = 0; locals = 0; temporaries = 1; arrays = []; ops = first ∷ op.Apply Add 0 0 (Number 1) ∷ op.Give (Cell 0) ∷ [] }

no_cell : fault_in (whole (adds (op.Skip 0) ∷ [])) ≡ Some NoCell
unfolding run
no_cell = refl

no_number : fault_in (whole (adds (op.Static 0 greeting) ∷ [])) ≡ Some NoFit
unfolding run put may_write
no_number = refl

-- write(1, "hi", n): the call has the word, no word for the pointer, the length, and the bytes.
abbrev writes : ℕ → SlotFunction
writes n = record {
  frame = 32;
  params = 0;
  locals = 0;
  temporaries = 3;
  arrays = [];
  ops = op.Move 0 (Number 1) ∷ op.Static 1 greeting ∷ op.Move 2 (Number n) ∷ op.Ask 16 0 3 ∷ op.Give (Cell 0) ∷ [];
}

abbrev call_of : SlotReach → Option Call
call_of (Requested call outputs s cost) = Some call
call_of r = None

written_text : call_of (whole (writes 2 ∷ [])) ≡ Some (record { number = 16; words = 1 ∷ 0 ∷ 2 ∷ 0 ∷ 0 ∷ 0 ∷ []; inputs = (104 ∷ 105 ∷ []) ∷ [] })
unfolding run put may_write may_hand cells_from object_of lies_in buffer_of input_of inputs_of call_inputs
written_text = refl

long_buffer : fault_in (whole (writes 4 ∷ [])) ≡ Some NoBuffer
unfolding run put may_write may_hand cells_from object_of lies_in buffer_of input_of inputs_of call_inputs
long_buffer = refl

-- char a[4]; read(a + 1, 2); return a[2]; the reply puts its bytes at the pointer, and the call's value is there.
abbrev reads_in : SlotFunction
reads_in = record {
  frame = 32;
  params = 0;
  locals = 0;
  temporaries = 2;
  arrays = record { bytes = 4; width = Byte } ∷ [];
  ops =
      op.Make 0 ∷ op.Local 0 0 ∷ op.Index 0 0 (Number 1) Byte ∷ op.Move 1 (Number 2) ∷ op.Ask 17 0 2 ∷ op.Local 1 0 ∷ op.Index 1 1 (Number 2) Byte ∷ op.Load 1 1 Byte ∷ op.Apply Add 0 0 (Cell 1) ∷ op.Give (Cell 0) ∷ [];
}

abbrev after_reply : Code → ℕ → List (List ℕ) → SlotReach → SlotReach
after_reply p n outputs (Requested call pointers s cost) = run p 100 (replied s pointers n outputs)
after_reply p n outputs r = r

read_bytes : value_of (after_reply (code (reads_in ∷ [])) 2 ((8 ∷ 9 ∷ []) ∷ []) (whole (reads_in ∷ []))) ≡ Some 11
unfolding run put may_write may_hand cells_from object_of has_element element binary alu_of lies_in input_of inputs_of call_inputs with_bytes put_bytes
read_bytes = refl

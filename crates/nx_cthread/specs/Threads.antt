-- What a thread of the code is.
use Rattle.std.specs.Prelude.{ℕ, List, [], ◌∷◌, map, Option, Some, None, Result, Ok, Err, Vec}
use Rattle.nx_base.specs.Calls.{Call}
use Rattle.nx_cobjects.specs.declared.value.Value.{Value}
use Rattle.nx_cobjects.specs.declared.value.WrongKind.{WrongKind}
use Rattle.nx_cobjects.specs.Groups.{Object, Group}
use Rattle.nx_cobjects.specs.Memory.{Memory}
use Rattle.nx_cthread.specs.declared.entry.Frame as rust_frame
use Rattle.nx_cthread.specs.declared.thread.CCall as rust_call
use Rattle.nx_cthread.specs.declared.thread.CStep as rust_step
use Rattle.nx_cthread.specs.declared.thread.CStep.TheVariants as step
use Rattle.nx_cmean.specs.Meaning.{Frame, Thread, thread, Answer, Next, Asks, Ends, Wrong, Taken, Short, Took, Changed, changed}
use Rattle.nx_cmean.specs.Shape.{items_of}

abbrev pub frame_of : rust_frame.Frame → Frame
frame_of f = record {
  function = f.function;
  from = f.from;
  arrays = f.arrays;
  cells = f.cells.items;
  values = f.values;
  todo = items_of f.todo;
}

abbrev pub frames_of : List rust_frame.Frame → List Frame
frames_of fs = map frame_of fs

abbrev pub call_of : rust_call.CCall → Call
call_of c = record { number = c.number; words = c.words; inputs = c.buffers }

-- What the code answers, with the objects of the group and the thread after it.
abbrev pub answer_of : rust_step.CStep → Group → Thread → Answer
answer_of step.Next g t = Next g t
answer_of (step.Call c) g t = Asks (call_of c) g t
answer_of (step.Ends n) g t = Ends n g
answer_of (step.Wrong kind) g t = Wrong kind

abbrev pub taken_of : {A : Type 0} → Option (Vec Value A) → List Value → Taken
taken_of None rest = Short
taken_of (Some args) rest = Took args.items rest

-- What is there, where nothing is wrong.
abbrev pub unless : {A : Type 0} → Option WrongKind → A → Result A WrongKind
unless None a = Ok a
unless (Some kind) a = Err kind

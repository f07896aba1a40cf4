-- What a checked program needs of its stack, and what its threads come to.
use Rattle.std.specs.Prelude.{ℕ, ◌+◌, List, [], ◌∷◌, length, get_or}
use Rattle.nx_base.specs.Arithmetic.{word_of}
use Rattle.nx_base.specs.Calls.{Call}
use Rattle.nx_checked.specs.Trees.{Program}
use Rattle.nx_cobjects.specs.Groups.{Group}
use Rattle.nx_cmean.specs.Meaning.{Frame, Thread, Answer, Next, Asks, Ends, Wrong, fun_at, settled, step, first_thread, replied_memory, replied_thread}
use Rattle.nx_cmean.specs.Meanings.{Turn, GoesOn, Makes, EndsBy, GoesWrong, Meaning, run_of}

-- The bytes of all open calls.
abbrev pub stack_need : Program → List Frame → ℕ
stack_need p [] = 0
stack_need p (f ∷ below) = (fun_at p f.function).frame + stack_need p below

-- What a thread needs as its next step begins, where the calls that this step enters are open.
abbrev pub need : Program → Thread → ℕ
need p t = stack_need p (settled p (length t.own) t.frames)

-- The end of a main function ends its group by call 1, and that of another function its thread by call 2.
abbrev pub end_call : ℕ → ℕ → Call
end_call number word = record { number = number; words = word ∷ []; inputs = [] }

abbrev pub turn_of : ℕ → Answer → Turn Group Thread
turn_of ending (Next g t) = GoesOn g t
turn_of ending (Asks c g t) = Makes c g t
turn_of ending (Ends n g) = EndsBy (end_call ending (word_of n)) g
turn_of ending (Wrong kind) = GoesWrong

-- A thread, with the call by which its first function ends.
pub record Running : Type 0 where
  pub ending : ℕ
  pub thread : Thread

abbrev pub running : ℕ → Thread → Running
running ending t = record { ending = ending; thread = t }

abbrev pub with_ending : ℕ → Turn Group Thread → Turn Group Running
with_ending ending (GoesOn g t) = GoesOn g (running ending t)
with_ending ending (Makes c g t) = Makes c g (running ending t)
with_ending ending (EndsBy c g) = EndsBy c g
with_ending ending GoesWrong = GoesWrong

-- The outputs of a reply: at most two, and no bytes where one is missing.
abbrev pub output : List (List ℕ) → ℕ → List ℕ
output outs i = get_or outs i []

abbrev pub first_word : List ℕ → ℕ
first_word words = get_or words 0 0

abbrev pub second_word : List ℕ → ℕ
second_word words = get_or words 1 0

-- A checked program, whose main function stands at a place, within a stack of so many bytes. The call that starts a
-- thread has the place of its function, and its argument.
abbrev pub meaning_of : Program → ℕ → ℕ → Meaning
meaning_of p main stack = record {
  Globals = Group;
  Thread = Running;
  main = running 1 (first_thread p main 0);
  thread = λ c. running 2 (first_thread p (first_word c.words) (second_word c.words));
  run = run_of (λ g r. with_ending r.ending (turn_of r.ending (step p g r.thread))) (λ r. need p r.thread) stack;
  reply = λ g r a. record {
    globals = (replied_memory g r.thread (output a.outputs 0) (output a.outputs 1)).group;
    thread = running r.ending (replied_thread g r.thread a.value (output a.outputs 0) (output a.outputs 1));
  };
}

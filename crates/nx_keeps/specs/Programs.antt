-- Slot code as a program of the system: what its threads do, and what its globals are.
use Rattle.std.specs.Prelude.{ℕ, zero, suc, Bool, ◌&&◌, nat_le, nat_lt, if◌then◌else◌, List, [], ◌∷◌, length}
use Rattle.nx_base.specs.Arithmetic.{signed}
use Rattle.nx_base.specs.Arithmetic.{word_of as signed_word}
use Rattle.nx_base.specs.Calls.{Call, Reply}
use Rattle.nx_cmean.specs.Meanings.{Both, Reach, Still, Calls, Over, Full, Astray, Meaning}
use Rattle.nx_cmean.specs.Runs.{end_call, first_word, second_word}
use Rattle.nx_slot.specs.Objects.{Value, Int, Object}
use Rattle.nx_slot.specs.Meaning.{Code, SlotState, state, function_at}
use Rattle.nx_slot.specs.Runs.{SlotReach, Going, Requested, Finished, Overflowed, Failed, then_on, run, begun, replied, with_globals, globals_in, own_in}

-- A thread of slot code: it enters its first function, goes on, waits for a reply, whose outputs are put at pointers, or
-- was begun by a call that begins none. With it stands the number of the call that ends it. Its objects are its own alone.
pub data SlotThread : Type 0 where
  Fresh : (ending function : ℕ) (args : List Value) → SlotThread
  Runs : (ending : ℕ) (s : SlotState) → SlotThread
  Waits : (ending : ℕ) (pointers : List Value) (s : SlotState) → SlotThread
  Lost : SlotThread

-- The group's objects, so many, stand before the thread's own.
abbrev pub own_state : ℕ → SlotState → SlotState
own_state count s = state s.frames (own_in count s.objects)

abbrev pub reach_of : ℕ → ℕ → SlotReach → Reach (List Object) SlotThread
reach_of count ending (Going s cost) = Still (globals_in count s.objects) (Runs ending (own_state count s)) cost
reach_of count ending (Requested c pointers s cost) = Calls c (globals_in count s.objects) (Waits ending pointers (own_state count s)) cost
reach_of count ending (Finished n os cost) = Over (end_call ending (signed_word (signed n))) (globals_in count os) cost
reach_of count ending (Overflowed need cost) = Full need cost
reach_of count ending (Failed fault) = Astray 0

-- Its steps are instructions: what operations cost.
abbrev pub thread_run : Code → ℕ → List Object → SlotThread → Reach (List Object) SlotThread
thread_run p n g (Fresh ending f args) = reach_of (length g) ending (then_on (begun p f args g) (run p n))
thread_run p n g (Runs ending s) = reach_of (length g) ending (run p n (with_globals g s))
thread_run p n g (Waits ending pointers s) = Astray 0
thread_run p n g Lost = Astray 0

abbrev pub both_of : ℕ → ℕ → SlotState → Both (List Object) SlotThread
both_of count ending s = record { globals = globals_in count s.objects; thread = Runs ending (own_state count s) }

abbrev pub thread_reply : List Object → SlotThread → Reply → Both (List Object) SlotThread
thread_reply g (Waits ending pointers s) a = both_of (length g) ending (replied (with_globals g s) pointers a.value a.outputs)
thread_reply g t a = record { globals = g; thread = t }

-- A call begins a thread where it is one that enters a function, and this is there and has one parameter at most.
abbrev pub may_begin : Bool → ℕ → ℕ → ℕ → Bool
may_begin enters f functions params = enters && (nat_lt f functions && nat_le params 1)

abbrev pub first_values : ℕ → ℕ → List Value
first_values zero n = []
first_values (suc k) n = Int n ∷ []

abbrev pub slot_thread : Code → Call → SlotThread
slot_thread p c =
    let f = first_word c.words in let params = (function_at p f).params in
    if may_begin (p.rows c.number).enters f (length p.functions) params then Fresh 2 f (first_values params (second_word c.words)) else Lost

-- Slot code, whose main function stands at a place.
abbrev pub slot_program : Code → ℕ → Meaning
slot_program p main = record {
  Globals = List Object;
  Thread = SlotThread;
  main = Fresh 1 main (first_values (function_at p main).params 0);
  thread = slot_thread p;
  run = thread_run p;
  reply = thread_reply;
}

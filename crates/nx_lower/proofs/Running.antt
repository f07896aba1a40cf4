-- Open calls of C and those of slot code.
use Rattle.std.proofs.Common.{◌≡◌, ℕ, suc, ◌+◌, ◌<◌, ◌≤◌, List, [], ◌∷◌, length, map, sym, subst, arith}
use Rattle.nx_base.specs.Calls.{Call}
use Rattle.nx_cobjects.specs.declared.value.Value.{Value}
use Rattle.nx_cobjects.specs.Memory.{Memory}
use Rattle.nx_cobjects.specs.Groups.{Group}
use Rattle.nx_cmean.specs.Meaning.{Frame, given}
use Rattle.nx_cmean.specs.Runs.{stack_need}
use Rattle.nx_slot.specs.Objects as slot
use Rattle.nx_slot.specs.Meaning.{Code, SlotFrame, SlotState, state, function_at, delivered, put}
use Rattle.nx_slot.specs.Runs.{Requested, Finished, run}
use Rattle.nx_lower.specs.Shown.{counts_of, statics_in, shown, objects_of}
use Rattle.nx_lower.specs.Code.{Source, counts}
use Rattle.nx_lower.specs.Laws.{names_from}
use Rattle.nx_lower.proofs.Cells.{Top, Plain, Tops, AreAlike, alike_push}
use Rattle.nx_lower.proofs.Steps.{Leads}
use Rattle.nx_lower.proofs.Idle.{weight}
use Rattle.nx_lower.proofs.Lies.{Lies, EntryLies}
use Rattle.nx_lower.proofs.Telling.{CanTell}

module _ (s : Source) (p : Code) where
  -- Where an open call goes on: its items lie there, or it begins, and its arrays are the last ones.
  pub data Place (m : Memory) (c : Frame) (f : SlotFrame) (made back exit o : ℕ) : Type 0 where
    Runs : (top : Top) → (function_at p c.function).locals ≤ length c.cells → Tops (counts s) top c.cells c.values f.cells → Lies s p c.function back exit c.todo f.place (record { cells = length c.cells; made = made }) (length c.values) top o → Place m c f made back exit o
    Begins : c.values ≡ [] → AreAlike (counts s) c.cells [] f.cells → EntryLies s p c.function back exit c.todo f.place (record { cells = length c.cells; made = made }) o → c.from + made ≡ length m.own → Place m c f made back exit o

  pub record Acting (m : Memory) (c : Frame) (f : SlotFrame) (o : ℕ) : Type 0 where
    pub same : f.function ≡ c.function
    pub known : c.function < length s.program.functions
    pub made : ℕ
    pub names : f.arrays ≡ names_from (statics_in (counts s) + c.from) made
    pub arrays : c.arrays ≡ length (function_at p c.function).arrays
    pub back : ℕ
    pub exit : ℕ
    pub place : Place m c f made back exit o

  -- One that waits for a value.
  pub record Waiting (c : Frame) (f : SlotFrame) (o : ℕ) : Type 0 where
    pub same : f.function ≡ c.function
    pub known : c.function < length s.program.functions
    pub made : ℕ
    pub names : f.arrays ≡ names_from (statics_in (counts s) + c.from) made
    pub arrays : c.arrays ≡ length (function_at p c.function).arrays
    pub cell : f.wants ≡ length c.cells + length c.values
    pub whole : (function_at p c.function).locals ≤ length c.cells
    pub alike : AreAlike (counts s) c.cells c.values f.cells
    pub back : ℕ
    pub exit : ℕ
    pub lies : Lies s p c.function back exit c.todo f.place (record { cells = length c.cells; made = made }) (suc (length c.values)) Plain o

  abbrev pub AllWait : List Frame → List SlotFrame → ℕ → Type 0
  AllWait [] [] o = Unit {0}
  AllWait (c ∷ cs) (f ∷ fs) o = (a : ℕ) × (b : ℕ) × (a + b ≤ o) × Waiting c f a × AllWait cs fs b
  AllWait [] (f ∷ fs) o = ⊥
  AllWait (c ∷ cs) [] o = ⊥

  abbrev pub Related : Memory → List Frame → List SlotFrame → ℕ → Type 0
  Related m (c ∷ cs) (f ∷ fs) o = (a : ℕ) × (b : ℕ) × (a + b ≤ o) × Acting m c f a × AllWait cs fs b
  Related m [] fs o = ⊥
  Related m (c ∷ cs) [] o = ⊥

  -- A value comes to the call that waits for it.
  pub resume : (m : Memory) (cs : List Frame) (fs : List SlotFrame) (o : ℕ) (x : Value) → 0 < length cs → AllWait cs fs o → Related m (given cs x) (delivered fs (shown (counts s) x)) o
  resume m [] fs o x h w = absurd (omega arith)
  resume m (c ∷ cs) [] o x h w = absurd w
  resume m (c ∷ cs) (f ∷ fs) o x h w =
      let t = w.3 in (
        w.0,
        w.1,
        w.2,
        record {
          same = t.same;
          known = t.known;
          made = t.made;
          names = t.names;
          arrays = t.arrays;
          back = t.back;
          exit = t.exit;
          place = Runs Plain t.whole (subst (λ (i : ℕ). AreAlike (counts s) c.cells (x ∷ c.values) (put f.cells i (shown (counts s) x))) (sym t.cell) (alike_push (counts s) c.cells c.values f.cells x t.alike)) t.lies;
        },
        w.4,
      )

  -- Slot code comes to a state that is alike, for what was paid and this much more; and where it makes no operation less
  -- remains that needs none.
  abbrev pub idle : List Frame → ℕ
  idle [] = 0
  idle (c ∷ cs) = weight c.todo

  pub record Went (m : Memory) (t : List Frame) (start : SlotState) (o budget room : ℕ) : Type 0 where
    pub to : List SlotFrame
    pub cost : ℕ
    pub owed : ℕ
    pub turns : ℕ
    pub leads : Leads p start (state to (objects_of m)) cost turns
    pub moves_on : turns ≡ 0 → idle t < room
    pub same : counts_of m.group ≡ counts s
    pub related : Related m t to owed
    pub fits : stack_need s.program t ≤ p.stack
    pub paid : cost + owed ≤ o + budget

  -- What a step of C answers, slot code does.
  pub record DoesAsk (c : Call) (m : Memory) (outputs : List Value) (t : List Frame) (start : SlotState) (o budget : ℕ) : Type 0 where
    pub to : List SlotFrame
    pub pointers : List slot.Value
    pub cost : ℕ
    pub owed : ℕ
    pub turns : ℕ
    pub runs : run p turns start ≡ Requested c pointers (state to (objects_of m)) cost
    pub same : counts_of m.group ≡ counts s
    pub points : pointers ≡ map (shown (counts s)) outputs
    pub ready : CanTell (counts s) (length m.own) p.rows c outputs
    pub waits : AllWait t to owed
    pub some : 0 < length t
    pub fits : stack_need s.program t ≤ p.stack
    pub paid : cost + owed ≤ o + budget

  pub record DoesEnd (n : ℕ) (g : Group) (start : SlotState) (o budget : ℕ) : Type 0 where
    pub own : Memory
    pub group : own.group ≡ g
    pub same : counts_of g ≡ counts s
    pub cost : ℕ
    pub turns : ℕ
    pub runs : run p turns start ≡ Finished n (objects_of own) cost
    pub paid : cost ≤ o + budget

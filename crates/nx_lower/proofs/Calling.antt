-- Slot code enters the functions that C enters, and has no room for them where C has none.
use Rattle.std.proofs.Common.{◌≡◌, ℕ, zero, suc, ◌+◌, ◌-◌, ◌<◌, ◌≤◌, Bool, true, false, List, [], ◌∷◌, length, map, Some, refl, sym, ap, ◌∙◌, subst, arith}
use Rattle.std.specs.Prelude.{slice_get, take, nat_lt, if◌then◌else◌, Result, Ok, Err}
use Rattle.std.proofs.lemmas.List.{length-map}
use Rattle.std.proofs.lemmas.Bool.Decides.{nat_tests}
use Rattle.nx_checked.specs.declared.checked.Scalar.{Scalar}
use Rattle.nx_checked.specs.declared.checked.Shape.{Shape}
use Rattle.nx_checked.specs.Trees.{Expr, Stmts, Done, Then, Fun}
use Rattle.nx_cobjects.specs.declared.value.Value.{Value}
use Rattle.nx_cobjects.specs.declared.value.WrongKind.{WrongKind}
use Rattle.nx_cobjects.specs.Memory.{Memory, value_in}
use Rattle.nx_cmean.specs.Items.{Item, Enter, Make, Fall, starts_then, gaps_then, arrays_then, initials_then, rest_then, entry_then, steps_of}
use Rattle.nx_cmean.specs.Meaning.{Frame, Taken, on_taken, all_kept, fun_at, opened, opened_with, stays, with_values, decide}
use Rattle.nx_cmean.specs.Runs.{stack_need}
use Rattle.nx_slot.specs.Objects as slot
use Rattle.nx_slot.specs.Meaning.{Code, SlotFrame, SlotState, state, Goes, Overflows, function_at, step}
use Rattle.nx_slot.specs.Meaning.{opened as slot_opened, stack_need as slot_need}
use Rattle.nx_slot.specs.Runs.{Overflowed, then_on, dearer, run}
use Rattle.nx_lower.specs.Shown.{Counts, counts_of, statics_in, shown, objects_of}
use Rattle.nx_lower.specs.Code.{Source, counts}
use Rattle.nx_lower.specs.Bodies.{array_of, lower_fun}
use Rattle.nx_lower.specs.Laws.{names_from}
use Rattle.nx_lower.specs.Sound.{HasLocals, SoundFun}
use Rattle.nx_lower.proofs.Cells.{Top, Tops, AreAlike}
use Rattle.nx_lower.proofs.Steps.{leads_on, leads_one, slot_frame, at_place}
use Rattle.nx_lower.proofs.Lies.{Body, item_lies, Lies, EntryLies}
use Rattle.nx_lower.proofs.Entry.{opens}
use Rattle.nx_lower.proofs.Acts.{c_frame}
use Rattle.nx_lower.proofs.Entering.{Handed, enter_does}
use Rattle.nx_lower.proofs.Running.{Begins, AllWait, Went}
use Rattle.nx_lower.proofs.Answering.{FirstLight}

-- A call that was entered, and one that never is.
abbrev pub IsFresh : List Frame → Type 0
IsFresh [] = ⊥
IsFresh (c ∷ below) = FirstLight c.todo

abbrev pub NeverEnters : List Item → Type 0
NeverEnters (Enter g (suc n) ∷ k) = Unit {0}
NeverEnters k = ⊥

abbrev pub IsRefused : List Frame → Type 0
IsRefused [] = ⊥
IsRefused (c ∷ below) = (c.values ≡ []) × NeverEnters c.todo

never_enters : (g n : ℕ) (k : List Item) → 1 ≤ n → NeverEnters (Enter g n ∷ k)
never_enters g zero k h = absurd (omega (arith, h))
never_enters g (suc n) k h = tt

-- What a function has to do begins with its variables, its arrays, a statement or its end.
gaps_first : (n : ℕ) (k : List Item) → FirstLight k → FirstLight (gaps_then n k)
gaps_first zero k h = h
gaps_first (suc n) k h = tt

rest_first : (ss : Stmts) (k : List Item) → FirstLight k → FirstLight (rest_then ss k)
rest_first Done k h = h
rest_first (Then st ss) k h = tt

arrays_first : (arrays : List Shape) (k : List Item) → FirstLight k → FirstLight (arrays_then arrays k)
arrays_first [] k h = h
arrays_first (a ∷ arrays) k h = gaps_first (steps_of a - 1) (Make a ∷ arrays_then arrays k) tt

initials_first : (es : List Expr) (k : List Item) → HasLocals [] es → FirstLight k → FirstLight (initials_then es k)
initials_first [] k has h = h
initials_first (e ∷ es) k has h = absurd has

pub first_light : (g : Fun) (ts : List Scalar) → g.locals ≡ ts → HasLocals ts g.initials → FirstLight (entry_then g [])
first_light g [] e h =
    let body = rest_then g.body (Fall ∷ []) in let k = initials_then g.initials body in
    subst (λ (ts : List Scalar). FirstLight (starts_then ts (arrays_then g.arrays k))) (sym e) (arrays_first g.arrays k (initials_first g.initials body h (rest_first g.body (Fall ∷ []) tt)))
first_light g (t ∷ ts) e h =
    let k = initials_then g.initials (rest_then g.body (Fall ∷ [])) in
    subst (λ (ts : List Scalar). FirstLight (starts_then ts (arrays_then g.arrays k))) (sym e) tt

-- Arguments that aren't kept.
kept_some : (done : List Value) (ts : List Scalar) (args : List Value) (kind : WrongKind) → all_kept done ts args ≡ Err kind → 1 ≤ length args
kept_some done [] [] kind e = absurd cc
kept_some done (t ∷ ts) [] kind e = absurd cc
kept_some done ts (v ∷ args) kind e = omega arith

-- Parameters stand in the cells that they were handed over in.
get_shown : (c : Counts) (vs : List Value) (i : ℕ) → i < length vs → slice_get (map (shown c) vs) i ≡ Some (shown c (value_in vs i))
get_shown c [] i h = absurd (omega arith)
get_shown c (v ∷ vs) zero h = refl
get_shown c (v ∷ vs) (suc i) h = get_shown c vs i (omega arith)

pub alike_params : (c : Counts) (vs : List Value) → AreAlike c vs [] (map (shown c) vs)
alike_params c vs = let e = length-map vs (shown c) in record { local = λ i h. get_shown c vs i h; temps = tt; room = omega (arith, e) }

pub within_stack : (stack need : ℕ) → need ≤ stack → nat_lt stack need ≡ false
within_stack stack need h = grind (arith, nat_tests, h)

pub over_stack : (stack need : ℕ) → stack < need → nat_lt stack need ≡ true
over_stack stack need h = grind (arith, nat_tests, h)

module _ (s : Source) (p : Code) (is : (g : ℕ) → g < length s.program.functions → function_at p g ≡ lower_fun s (fun_at s.program g)) (sound : (g : ℕ) → g < length s.program.functions → SoundFun s (fun_at s.program g)) where
  -- Both need as many bytes.
  frame_same : (g : ℕ) → g < length s.program.functions → (fun_at s.program g).frame ≡ (function_at p g).frame
  frame_same g known = sym (ap (λ x. x.frame) (is g known))

  waits_need : (cs : List Frame) (fs : List SlotFrame) (o : ℕ) → AllWait s p cs fs o → stack_need s.program cs ≡ slot_need p fs
  waits_need [] [] o w = refl
  waits_need [] (f ∷ fs) o w = absurd w
  waits_need (c ∷ cs) [] o w = absurd w
  waits_need (c ∷ cs) (f ∷ fs) o w =
      let q = w.3 in
      let one : (fun_at s.program c.function).frame ≡ (function_at p f.function).frame = frame_same c.function q.known ∙ ap (λ n. (function_at p n).frame) (sym q.same) in
      let two = waits_need cs fs w.1 w.4 in
      omega (arith, one, two)

  -- A function is entered that has no room.
  pub record Fills (need : ℕ) (start : SlotState) (o budget : ℕ) : Type 0 where
    pub cost : ℕ
    pub turns : ℕ
    pub runs : run p turns start ≡ Overflowed need cost
    pub paid : cost ≤ o + budget

  overflows : (start : SlotState) (need c : ℕ) → step p start ≡ Overflows need c → run p 1 start ≡ Overflowed need c
  unfolding run
  overflows start need c e = ap (λ t. then_on t (run p 0)) e

  -- What a decision comes to: a function is entered, a call never is, or the same call goes on.
  pub data Calls (m : Memory) (t : List Frame) (start : SlotState) (o room : ℕ) : Type 0 where
    Enters : IsFresh t → (stack_need s.program t ≤ p.stack → Went s p m t start o 30 room) → (p.stack < stack_need s.program t → Fills (stack_need s.program t) start o 30) → Calls m t start o room
    Refuses : IsRefused t → stack_need s.program t ≤ p.stack → Calls m t start o room
    Comes : Went s p m t start o 0 room → Calls m t start o room

  module _ (f back exit from arrays made wants : ℕ) (names : List ℕ) (below : List Frame) (sbelow : List SlotFrame) (b : ℕ) (known : f < length s.program.functions) (named : names ≡ names_from (statics_in (counts s) + from) made) (many : arrays ≡ length (function_at p f).arrays) (waits : AllWait s p below sbelow b) (room_for : (fun_at s.program f).frame + stack_need s.program below ≤ p.stack) where
    abbrev frame : List Value → List Value → List Item → Frame
    frame locals vs k = c_frame s p f back exit from arrays made wants names sbelow locals vs k

    abbrev at : ℕ → List slot.Value → Memory → SlotState
    at pc cells m = at_place p f wants names sbelow pc cells (objects_of m)

    -- The open calls of slot code after the entry.
    abbrev inside : ℕ → List Value → List Value → List Value → ℕ → List slot.Value → List SlotFrame
    inside g params locals rest place cells = slot_opened g (map (shown (counts s)) params) ∷ slot_frame f (place + 1) (length locals + length rest) names (take (length locals + length rest) cells) ∷ sbelow

    goes_in : (g own : ℕ) (m : Memory) (locals rest params : List Value) (k : List Item) (start : SlotState) (a o room : ℕ) → a + b ≤ o → (function_at p f).locals ≤ length locals → counts_of m.group ≡ counts s → own ≡ length m.own → g < length s.program.functions
        → Handed s p f back exit made wants names sbelow m locals rest params k start g a → Calls m (opened s.program g own params ∷ frame locals rest k ∷ below) start o room
    goes_in g own m locals rest params k start a o room le whole same last there d =
        let t = opened s.program g own params ∷ frame locals rest k ∷ below in
        let u = inside g params locals rest d.place d.cells in let os = objects_of m in
        let mid = at d.place d.cells m in
        let one = frame_same g there in let two = frame_same f known in let three = waits_need below sbelow b waits in
        let need : stack_need s.program t ≡ slot_need p u = omega (arith, one, two, three) in
        let fun = sound g there in let code = opens s p g (fun_at s.program g) (is g there) fun in
        let paid = d.paid in
        Enters (first_light (fun_at s.program g) (fun_at s.program g).locals refl fun.locals)
        (λ fits. record {
          to = u;
          cost = d.cost + 30;
          owed = d.owed + b;
          turns = d.turns + 1;
          leads = leads_on p start mid (state u os) d.cost 30 d.turns 1 d.leads
              (leads_one p mid (state u os) 30 (d.enters ∙ ap (λ (t : Bool). if t then Overflows (slot_need p u) 30 else Goes (state u os) 30) (within_stack p.stack (slot_need p u) (omega (arith, fits, need)))));
          moves_on = λ e. absurd (omega (arith, e));
          same = same;
          related = (
            0,
            d.owed + b,
            omega arith,
            record {
              same = refl;
              known = there;
              made = 0;
              names = refl;
              arrays = sym (length-map (fun_at s.program g).arrays array_of) ∙ sym (ap (λ x. length x.arrays) (is g there));
              back = code.end;
              exit = code.end;
              place = Begins refl (alike_params (counts s) params) (subst (λ n. EntryLies s p g code.end code.end (entry_then (fun_at s.program g) []) 0 (record { cells = n; made = 0 }) 0) (sym d.count) code.lies) (omega (arith, last));
            },
            (
              d.owed,
              b,
              omega arith,
              record { same = refl; known = known; made = made; names = named; arrays = many; cell = refl; whole = whole; alike = d.alike; back = back; exit = exit; lies = d.lies },
              waits,
            ),
          );
          fits = fits;
          paid = omega (arith, le, paid);
        })
        (λ full.
        let x = d.leads.by 1 in
        let runs = overflows mid (slot_need p u) 30 (d.enters ∙ ap (λ (t : Bool). if t then Overflows (slot_need p u) 30 else Goes (state u os) 30) (over_stack p.stack (slot_need p u) (omega (arith, full, need)))) in
        record {
          cost = d.cost + 30;
          turns = x.0;
          runs = x.2 ∙ ap (dearer d.cost) runs ∙ ap (λ n. Overflowed n (d.cost + 30)) (sym need);
          paid = omega (arith, le, paid);
        })

    pub calls : (g n own : ℕ) (m : Memory) (locals vs : List Value) (k : List Item) (cells : List slot.Value) (pc a o room : ℕ) (top : Top) → a + b ≤ o → (function_at p f).locals ≤ length locals → counts_of m.group ≡ counts s → own ≡ length m.own → Tops (counts s) top locals vs cells
        → item_lies s p f back exit (Enter g n) (Body k) (λ back exit pc z d top o. Lies s p f back exit k pc z d top o) pc (record { cells = length locals; made = made }) (length vs) top a
        → Calls m (decide s.program own below (frame locals vs k) (Enter g n)) (at pc cells m) o room
    calls g n own m locals vs k cells pc a o room top le whole same last tops l =
        let q = enter_does s p f back exit made wants names sbelow g n m locals vs k cells pc a top (is g) (λ h. (sound g h).few) whole tops l in
        let ts = (fun_at s.program g).params in let fr = frame locals vs k in
        subst (λ (t : Taken). Calls m (on_taken t (stays (with_values fr []) (Enter g n) ∷ below) (λ args rest. opened_with s.program g own (with_values fr rest) below (stays (with_values fr []) (Enter g n)) (all_kept [] ts args))) (at pc cells m) o room) (sym q.took)
        (by_kept q.args q.rest (all_kept [] ts q.args) refl q.count (λ params e. goes_in g own m locals q.rest params k (at pc cells m) a o room le whole same last q.known (q.hands params e)))
      where
        by_kept : (args rest : List Value) (r : Result (List Value) WrongKind) → all_kept [] (fun_at s.program g).params args ≡ r → length args ≡ n → ((params : List Value) → all_kept [] (fun_at s.program g).params args ≡ Ok params → Calls m (opened s.program g own params ∷ frame locals rest k ∷ below) (at pc cells m) o room)
            → Calls m (opened_with s.program g own (with_values (frame locals vs k) rest) below (stays (with_values (frame locals vs k) []) (Enter g n)) r) (at pc cells m) o room
        by_kept args rest (Ok params) e count go = go params e
        by_kept args rest (Err kind) e count go = let some = kept_some [] (fun_at s.program g).params args kind e in Refuses (refl, never_enters g n k (omega (arith, some, count))) room_for

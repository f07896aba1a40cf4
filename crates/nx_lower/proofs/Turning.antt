-- Slot code follows each item that takes a step.
use Rattle.std.proofs.Common.{◌≡◌, ℕ, suc, ◌+◌, ◌<◌, ◌≤◌, List, [], ◌∷◌, ◌++◌, length, map, Option, Some, None, refl, sym, subst, arith}
use Rattle.std.specs.Prelude.{slice_get, take, Result, Ok, Err}
use Rattle.nx_base.specs.Calls.{Call}
use Rattle.nx_checked.specs.declared.checked.UsedCall.{UsedCall}
use Rattle.nx_checked.specs.Trees.{Stmts, Done, Then}
use Rattle.nx_cobjects.specs.declared.value.Value.{Value}
use Rattle.nx_cobjects.specs.declared.value.Value.TheVariants as value
use Rattle.nx_cobjects.specs.declared.value.WrongKind.{WrongKind}
use Rattle.nx_cobjects.specs.Memory.{Memory, memory, new_object, end_arrays}
use Rattle.nx_cobjects.specs.Values.{first_value}
use Rattle.nx_cobjects.specs.Buffers.{inputs_of, outputs_of, words_of}
use Rattle.nx_cmean.specs.Items.{Item, Take, Get, Alter, Apply, Write, Raise, Bump, Reached, Fetch, FetchAt, Lay, Lift, Shift, Chosen, Called, Ask, Exec, Rest, Again, Leave, Fall, Start, Gap, Make, rest_then, test_then, gaps_then, begun}
use Rattle.nx_cmean.specs.Meaning.{Frame, thread, Taken, Asks, Changed, fun_at, on_taken, on_call, on_inputs, stuck, left, stored, asked, goes_on, act}
use Rattle.nx_cmean.specs.Runs.{stack_need}
use Rattle.nx_slot.specs.Objects as slot
use Rattle.nx_slot.specs.Meaning.{Code, SlotFrame, SlotState, state, Goes, Finishes, function_at, delivered, step}
use Rattle.nx_lower.specs.Shown.{counts_of, statics_in, shown, objects_of}
use Rattle.nx_lower.specs.Code.{Source, counts}
use Rattle.nx_lower.specs.Laws.{names_from}
use Rattle.nx_lower.specs.Sound.{SoundCall}
use Rattle.nx_lower.proofs.Cells.{Top, Plain, Tops, AreAlike}
use Rattle.nx_lower.proofs.Steps.{slot_frame, at_place}
use Rattle.nx_lower.proofs.Idle.{weight}
use Rattle.nx_lower.proofs.Lies.{Body, item_lies, Lies, EntryLies}
use Rattle.nx_lower.proofs.Acts.{plain_alike, c_frame, Did, DoesTo}
use Rattle.nx_lower.proofs.Following.{IsValue, Began, follows, exec_does, rest_does, again_does}
use Rattle.nx_lower.proofs.Sizes.{SameSize, sized}
use Rattle.nx_lower.proofs.Asking.{Asked, ask_does}
use Rattle.nx_lower.proofs.Leaving.{leave_does, fall_does, end_does, fall_end_does}
use Rattle.nx_lower.proofs.Starting.{Started, start_does, gap_does, make_does}
use Rattle.nx_lower.proofs.Answering.{IsLight, int_value, Does, does_after, requests, leaves}
use Rattle.nx_lower.proofs.Running.{Runs, Begins, AllWait, Went}

module _ (s : Source) (p : Code) where
  module _ (f back exit from arrays made wants : ℕ) (names : List ℕ) (below : List Frame) (sbelow : List SlotFrame) (b : ℕ) (known : f < length s.program.functions) (named : names ≡ names_from (statics_in (counts s) + from) made) (many : arrays ≡ length (function_at p f).arrays) (waits : AllWait s p below sbelow b) (fits : (fun_at s.program f).frame + stack_need s.program below ≤ p.stack) where
    abbrev frame : List Value → List Value → List Item → Frame
    frame locals vs k = c_frame s p f back exit from arrays made wants names sbelow locals vs k

    abbrev at : ℕ → List slot.Value → Memory → SlotState
    at pc cells m = at_place p f wants names sbelow pc cells (objects_of m)

    abbrev ItemLies : Item → List Item → ℕ → List Value → ℕ → Top → ℕ → Type 0
    ItemLies i k pc locals d top o = item_lies s p f back exit i (Body k) (λ back exit pc z d top o. Lies s p f back exit k pc z d top o) pc (record { cells = length locals; made = made }) d top o

    -- The open call that acts has gone on.
    pub did_went : (ch : Changed) (start : SlotState) (a o budget room : ℕ) → a + b ≤ o → (function_at p f).locals ≤ length ch.frame.cells → Did s p f back exit from arrays made wants names sbelow ch start a budget room → Went s p ch.memory (ch.frame ∷ below) start o budget room
    did_went ch start a o budget room le whole d =
        let paid = d.paid in
        subst (λ (c : Frame). Went s p ch.memory (c ∷ below) start o budget room) (sym d.called)
        (record {
          to = slot_frame f d.place wants names d.cells ∷ sbelow;
          cost = d.cost;
          owed = d.owed + b;
          turns = d.turns;
          leads = d.leads;
          moves_on = d.moves_on;
          same = d.same;
          related = (
            d.owed,
            b,
            omega arith,
            record { same = refl; known = known; made = made; names = named; arrays = many; back = back; exit = exit; place = Runs d.top whole d.alike d.lies },
            waits,
          );
          fits = fits;
          paid = omega (arith, le, paid);
        })

    pub did_goes : (n : ℕ) (r : Result Changed WrongKind) (start : SlotState) (a o budget room : ℕ) → a + b ≤ o → (function_at p f).locals ≤ n → SameSize n r → DoesTo s p f back exit from arrays made wants names sbelow r start a budget room → Does s p (goes_on below r) start o budget room
    did_goes n (Ok ch) start a o budget room le whole size d = did_went ch start a o budget room le (subst (λ k. (function_at p f).locals ≤ k) (sym size) whole) d
    did_goes n (Err kind) start a o budget room le whole size d = tt

    pub began_went : (m : Memory) (locals : List Value) (k : List Item) (cells : List slot.Value) (start : SlotState) (a o budget room : ℕ) → a + b ≤ o → (function_at p f).locals ≤ length locals → counts_of m.group ≡ counts s → AreAlike (counts s) locals [] cells
        → Began s p f back exit from arrays made wants names sbelow k m (record { cells = length locals; made = made }) cells start a budget room → Went s p m (frame locals [] k ∷ below) start o budget room
    began_went m locals k cells start a o budget room le whole same alike d =
        let paid = d.paid in
        record {
          to = slot_frame f d.place wants names cells ∷ sbelow;
          cost = d.cost;
          owed = d.owed + b;
          turns = d.turns;
          leads = d.leads;
          moves_on = d.moves_on;
          same = same;
          related = (
            d.owed,
            b,
            omega arith,
            record { same = refl; known = known; made = made; names = named; arrays = many; back = d.begins.back; exit = d.begins.exit; place = Runs Plain whole alike d.begins.lies },
            waits,
          );
          fits = fits;
          paid = omega (arith, le, paid);
        }

    -- More may be paid.
    went_more : (m : Memory) (t : List Frame) (start : SlotState) (o x y room : ℕ) → x ≤ y → Went s p m t start o x room → Went s p m t start o y room
    went_more m t start o x y room le w = let paid = w.paid in record { to = w.to; cost = w.cost; owed = w.owed; turns = w.turns; leads = w.leads; moves_on = w.moves_on; same = w.same; related = w.related; fits = w.fits; paid = omega (arith, le, paid) }

    -- A call of the kernel.
    asked_by : (r : Option (List (List ℕ))) (i n : ℕ) (m : Memory) (locals vs : List Value) (k : List Item) (cells : List slot.Value) (pc a o room : ℕ) → a + b ≤ o → (function_at p f).locals ≤ length locals → counts_of m.group ≡ counts s
        → (q : Asked s p f back exit made wants names sbelow m locals vs k cells pc i n a) → inputs_of m q.used q.args ≡ r
        → Does s p (on_inputs r (λ inputs. Asks (record { number = q.used.number; words = words_of q.args; inputs = inputs }) m.group (thread m.own (frame locals q.rest k ∷ below) (outputs_of q.used.kinds q.args)))) (at pc cells m) o 41 room
    asked_by None i n m locals vs k cells pc a o room le whole same q e = tt
    asked_by (Some inputs) i n m locals vs k cells pc a o room le whole same q e =
        let first = length locals + length q.rest in
        let to = slot_frame f (pc + 1) first names (take first cells) ∷ sbelow in
        let pointers = map (shown (counts s)) (outputs_of q.used.kinds q.args) in
        let call : Call = record { number = q.used.number; words = words_of q.args; inputs = inputs } in
        record {
          to = to;
          pointers = pointers;
          cost = 20;
          owed = a + 16 + b;
          turns = 1;
          runs = requests s p (at pc cells m) (state to (objects_of m)) call pointers 20 (q.makes inputs e);
          same = same;
          points = refl;
          ready = q.ready inputs e;
          waits = (
            a + 16,
            b,
            omega arith,
            record { same = refl; known = known; made = made; names = named; arrays = many; cell = refl; whole = whole; alike = q.alike; back = back; exit = exit; lies = q.lies },
            waits,
          );
          some = omega arith;
          fits = fits;
          paid = omega (arith, le);
        }

    asks_does : (i n : ℕ) (m : Memory) (locals vs : List Value) (k : List Item) (cells : List slot.Value) (pc a o room : ℕ) → a + b ≤ o → (function_at p f).locals ≤ length locals → counts_of m.group ≡ counts s
        → Asked s p f back exit made wants names sbelow m locals vs k cells pc i n a → Does s p (act s.program m below (frame locals vs k) (Ask i n)) (at pc cells m) o 41 room
    asks_does i n m locals vs k cells pc a o room le whole same q =
        let fr = frame locals vs k in
        subst (λ (t : Taken). Does s p (on_taken t stuck (λ args rest. on_call (slice_get s.program.calls i) (λ c. asked m below fr args rest c))) (at pc cells m) o 41 room) (sym q.took)
        (subst (λ (c : Option UsedCall). Does s p (on_call c (λ c. asked m below fr q.args q.rest c)) (at pc cells m) o 41 room) (sym q.named)
        (asked_by (inputs_of m q.used q.args) i n m locals vs k cells pc a o room le whole same q refl))

    -- The end of a call.
    leave_goes : (m : Memory) (locals : List Value) (v : Value) (k : List Item) (cells : List slot.Value) (pc a o room : ℕ) → a + b ≤ o → stack_need s.program below ≤ p.stack → counts_of m.group ≡ counts s → AreAlike (counts s) locals (v ∷ []) cells → ItemLies Leave k pc locals (suc 0) Plain a
        → Does s p (left m (frame locals (v ∷ []) k) below v) (at pc cells m) o 41 room
    leave_goes m locals v k cells pc a o room le less same alike l =
        let os = objects_of m in let after = memory m.group (end_arrays m.own from arrays) in
        leaves s p m (frame locals (v ∷ []) k) below sbelow v (at pc cells m) b o 41 room (omega (arith, le)) same waits less
        (λ caller others e.
        subst (λ (l : List SlotFrame). step p (at_place p f wants names l pc cells os) ≡ Goes (state (delivered (caller ∷ others) (shown (counts s) v)) (objects_of after)) 20) (sym e)
        (leave_does s p f back exit from arrays made wants names m locals v k cells pc a caller others same named many alike l))
        (λ n e is.
        subst (λ (l : List SlotFrame). step p (at_place p f wants names l pc cells os) ≡ Finishes n (objects_of after) 20) (sym e)
        (end_does s p f back exit from arrays made wants names m locals n k cells pc a same named many (subst (λ (x : Value). AreAlike (counts s) locals (x ∷ []) cells) is alike) l))

    fall_goes : (budget : ℕ) (m : Memory) (locals : List Value) (k : List Item) (cells : List slot.Value) (pc a o room : ℕ) → 20 ≤ budget → a + b ≤ o → stack_need s.program below ≤ p.stack → counts_of m.group ≡ counts s → ItemLies Fall k pc locals 0 Plain a
        → Does s p (left m (frame locals [] k) below (value.Int 0)) (at pc cells m) o budget room
    fall_goes budget m locals k cells pc a o room enough le less same l =
        let os = objects_of m in let after = memory m.group (end_arrays m.own from arrays) in
        leaves s p m (frame locals [] k) below sbelow (value.Int 0) (at pc cells m) b o budget room (omega (arith, le, enough)) same waits less
        (λ caller others e.
        subst (λ (l : List SlotFrame). step p (at_place p f wants names l pc cells os) ≡ Goes (state (delivered (caller ∷ others) (slot.Int 0)) (objects_of after)) 20) (sym e)
        (fall_does s p f back exit from arrays made wants names m locals k cells pc a caller others same named many l))
        (λ n e is.
        subst (λ (n : ℕ). step p (at pc cells m) ≡ Finishes n (objects_of after) 20) (int_value 0 n is)
        (subst (λ (l : List SlotFrame). step p (at_place p f wants names l pc cells os) ≡ Finishes 0 (objects_of after) 20) (sym e)
        (fall_end_does s p f back exit from arrays made wants names m locals k cells pc a same named many l)))

    -- Each item that takes a step. One that decides takes none, and isn't first where a step is made.
    value_goes : (i : Item) (m : Memory) (locals vs : List Value) (k : List Item) (cells : List slot.Value) (pc a o : ℕ) (top : Top) → IsValue i → a + b ≤ o → (function_at p f).locals ≤ length locals → counts_of m.group ≡ counts s → Tops (counts s) top locals vs cells → ItemLies i k pc locals (length vs) top a
        → Does s p (goes_on below (stored m (frame locals vs k) i)) (at pc cells m) o 41 (weight (i ∷ k))
    value_goes i m locals vs k cells pc a o top is le whole same tops l =
        did_goes (length locals) (stored m (frame locals vs k) i) (at pc cells m) a o 41 (weight (i ∷ k)) le whole (sized i m f from arrays locals vs k is)
        (follows s p f back exit from arrays made wants names sbelow i m locals vs k cells pc a top is same named tops l)

    exec_goes : (budget : ℕ) (m : Memory) (locals : List Value) (j k : List Item) (cells : List slot.Value) (pc a o room : ℕ) → 2 ≤ budget → a + b ≤ o → (function_at p f).locals ≤ length locals → counts_of m.group ≡ counts s → AreAlike (counts s) locals [] cells
        → Began s p f back exit from arrays made wants names sbelow j m (record { cells = length locals; made = made }) cells (at pc cells m) a 2 room → Went s p m (frame locals [] j ∷ below) (at pc cells m) o budget room
    exec_goes budget m locals j k cells pc a o room enough le whole same alike began = went_more m (frame locals [] j ∷ below) (at pc cells m) o 2 budget room enough (began_went m locals j cells (at pc cells m) a o 2 room le whole same alike began)

    act_runs : (i : Item) (m : Memory) (locals vs : List Value) (k : List Item) (cells : List slot.Value) (pc a o : ℕ) (top : Top) → a + b ≤ o → stack_need s.program below ≤ p.stack → (function_at p f).locals ≤ length locals → ((j : ℕ) (c : UsedCall) → slice_get s.program.calls j ≡ Some c → SoundCall p.rows c) → counts_of m.group ≡ counts s → Tops (counts s) top locals vs cells
        → ItemLies i k pc locals (length vs) top a → Does s p (act s.program m below (frame locals vs k) i) (at pc cells m) o 41 (weight (i ∷ k))
    act_runs (Take x) m locals vs k cells pc a o top le less whole sound same tops l = value_goes (Take x) m locals vs k cells pc a o top tt le whole same tops l
    act_runs (Get x) m locals vs k cells pc a o top le less whole sound same tops l = value_goes (Get x) m locals vs k cells pc a o top tt le whole same tops l
    act_runs (Alter q) m locals vs k cells pc a o top le less whole sound same tops l = value_goes (Alter q) m locals vs k cells pc a o top tt le whole same tops l
    act_runs (Apply q) m locals vs k cells pc a o top le less whole sound same tops l = value_goes (Apply q) m locals vs k cells pc a o top tt le whole same tops l
    act_runs (Write t x) m locals vs k cells pc a o top le less whole sound same tops l = value_goes (Write t x) m locals vs k cells pc a o top tt le whole same tops l
    act_runs (Raise q t x) m locals vs k cells pc a o top le less whole sound same tops l = value_goes (Raise q t x) m locals vs k cells pc a o top tt le whole same tops l
    act_runs (Bump v up t x) m locals vs k cells pc a o top le less whole sound same tops l = value_goes (Bump v up t x) m locals vs k cells pc a o top tt le whole same tops l
    act_runs Reached m locals vs k cells pc a o top le less whole sound same tops l = value_goes Reached m locals vs k cells pc a o top tt le whole same tops l
    act_runs (Fetch w) m locals vs k cells pc a o top le less whole sound same tops l = value_goes (Fetch w) m locals vs k cells pc a o top tt le whole same tops l
    act_runs (FetchAt w) m locals vs k cells pc a o top le less whole sound same tops l = value_goes (FetchAt w) m locals vs k cells pc a o top tt le whole same tops l
    act_runs (Lay w) m locals vs k cells pc a o top le less whole sound same tops l = value_goes (Lay w) m locals vs k cells pc a o top tt le whole same tops l
    act_runs (Lift q w) m locals vs k cells pc a o top le less whole sound same tops l = value_goes (Lift q w) m locals vs k cells pc a o top tt le whole same tops l
    act_runs (Shift v up w) m locals vs k cells pc a o top le less whole sound same tops l = value_goes (Shift v up w) m locals vs k cells pc a o top tt le whole same tops l
    act_runs Chosen m locals vs k cells pc a o top le less whole sound same tops l = value_goes Chosen m locals vs k cells pc a o top tt le whole same tops l
    act_runs Called m locals vs k cells pc a o top le less whole sound same tops l = value_goes Called m locals vs k cells pc a o top tt le whole same tops l
    act_runs (Ask i n) m locals vs k cells pc a o top le less whole sound same tops l =
        asks_does i n m locals vs k cells pc a o (weight (Ask i n ∷ k)) le whole same (ask_does s p f back exit made wants names sbelow i n m locals vs k cells pc a top same sound whole tops l)
    act_runs (Exec st) m locals (v ∷ vs) k cells pc a o top le less whole sound same tops l = absurd (plain_alike s top locals (v ∷ vs) cells _ l tops).1
    act_runs (Exec st) m locals [] k cells pc a o top le less whole sound same tops l =
        let h = plain_alike s top locals [] cells _ l tops in
        exec_goes 41 m locals (begun st k) k cells pc a o (weight (Exec st ∷ k)) (omega arith) le whole same h.0 (exec_does s p f back exit from arrays made wants names sbelow st m (record { cells = length locals; made = made }) k cells pc a h.1)
    act_runs (Rest Done) m locals vs k cells pc a o top le less whole sound same tops l = tt
    act_runs (Rest (Then st ss)) m locals (v ∷ vs) k cells pc a o top le less whole sound same tops l = absurd (plain_alike s top locals (v ∷ vs) cells _ l tops).1
    act_runs (Rest (Then st ss)) m locals [] k cells pc a o top le less whole sound same tops l =
        let h = plain_alike s top locals [] cells _ l tops in
        exec_goes 41 m locals (begun st (rest_then ss k)) k cells pc a o (weight (Rest (Then st ss) ∷ k)) (omega arith) le whole same h.0 (rest_does s p f back exit from arrays made wants names sbelow st ss m (record { cells = length locals; made = made }) k cells pc a h.1)
    act_runs (Again c t st) m locals (v ∷ vs) k cells pc a o top le less whole sound same tops l = absurd (plain_alike s top locals (v ∷ vs) cells _ l tops).1
    act_runs (Again c t st) m locals [] k cells pc a o top le less whole sound same tops l =
        let h = plain_alike s top locals [] cells _ l tops in
        exec_goes 41 m locals (test_then c t st k) k cells pc a o (weight (Again c t st ∷ k)) (omega arith) le whole same h.0 (again_does s p f back exit from arrays made wants names sbelow c t st m (record { cells = length locals; made = made }) k cells pc a h.1)
    act_runs Leave m locals [] k cells pc a o top le less whole sound same tops l = tt
    act_runs Leave m locals (v ∷ []) k cells pc a o top le less whole sound same tops l = let h = plain_alike s top locals (v ∷ []) cells _ l tops in leave_goes m locals v k cells pc a o (weight (Leave ∷ k)) le less same h.0 h.1
    act_runs Leave m locals (v ∷ u ∷ vs) k cells pc a o top le less whole sound same tops l = absurd (plain_alike s top locals (v ∷ u ∷ vs) cells _ l tops).1
    act_runs Fall m locals (v ∷ vs) k cells pc a o top le less whole sound same tops l = absurd (plain_alike s top locals (v ∷ vs) cells _ l tops).1
    act_runs Fall m locals [] k cells pc a o top le less whole sound same tops l = let h = plain_alike s top locals [] cells _ l tops in fall_goes 41 m locals k cells pc a o (weight (Fall ∷ k)) (omega arith) le less same h.1
    act_runs (Start t) m locals vs k cells pc a o top le less whole sound same tops l = absurd l
    act_runs (Gap n) m locals vs k cells pc a o top le less whole sound same tops l = absurd l
    act_runs (Make x) m locals vs k cells pc a o top le less whole sound same tops l = absurd l
    act_runs i m locals vs k cells pc a o top le less whole sound same tops l = tt

    -- The same where jumps come first.
    pub lies_act : (i : Item) (m : Memory) (locals vs : List Value) (k : List Item) (cells : List slot.Value) (pc a o : ℕ) (top : Top) → a + b ≤ o → stack_need s.program below ≤ p.stack → (function_at p f).locals ≤ length locals → ((j : ℕ) (c : UsedCall) → slice_get s.program.calls j ≡ Some c → SoundCall p.rows c) → counts_of m.group ≡ counts s → Tops (counts s) top locals vs cells
        → Lies s p f back exit (i ∷ k) pc (record { cells = length locals; made = made }) (length vs) top a → Does s p (act s.program m below (frame locals vs k) i) (at pc cells m) o 41 (weight (i ∷ k))
    lies_act i m locals vs k cells pc a o top le less whole sound same tops l =
        let paid = l.3 in
        does_after s p (act s.program m below (frame locals vs k) i) (at pc cells m) (at l.0 cells m) l.1 (l.2 + b) o 41 (weight (i ∷ k)) (l.4.by wants names sbelow cells (objects_of m)) (omega (arith, le, paid))
        (act_runs i m locals vs k cells l.0 l.2 (l.2 + b) top (omega arith) less whole sound same tops l.5)

    -- And where the call begins.
    started_went : (budget : ℕ) (k : List Item) (locals : List Value) (m : Memory) (start : SlotState) (a o room : ℕ) → 12 ≤ budget → a + b ≤ o → Started s p f back exit from wants sbelow k locals m start a 12 room → Went s p m (frame locals [] k ∷ below) start o budget room
    started_went budget k locals m start a o room enough le d =
        let paid = d.paid in
        record {
          to = slot_frame f d.place wants d.names d.cells ∷ sbelow;
          cost = d.cost;
          owed = d.owed + b;
          turns = d.turns;
          leads = d.leads;
          moves_on = d.moves_on;
          same = d.same;
          related = (
            d.owed,
            b,
            omega arith,
            record { same = refl; known = known; made = d.made; names = d.named; arrays = many; back = back; exit = exit; place = Begins refl d.alike d.lies d.all },
            waits,
          );
          fits = fits;
          paid = omega (arith, le, paid, enough);
        }

    -- What a call that is entered does first costs little.
    light_rest : (ss : Stmts) (m : Memory) (locals : List Value) (k : List Item) (cells : List slot.Value) (pc a o : ℕ) → a + b ≤ o → (function_at p f).locals ≤ length locals → counts_of m.group ≡ counts s → AreAlike (counts s) locals [] cells → ItemLies (Rest ss) k pc locals 0 Plain a
        → Does s p (act s.program m below (frame locals [] k) (Rest ss)) (at pc cells m) o 34 (weight (Rest ss ∷ k))
    light_rest Done m locals k cells pc a o le whole same alike l = tt
    light_rest (Then st ss) m locals k cells pc a o le whole same alike l =
        exec_goes 34 m locals (begun st (rest_then ss k)) k cells pc a o (weight (Rest (Then st ss) ∷ k)) (omega arith) le whole same alike (rest_does s p f back exit from arrays made wants names sbelow st ss m (record { cells = length locals; made = made }) k cells pc a l)

    pub light_runs : (i : Item) (m : Memory) (locals vs : List Value) (k : List Item) (cells : List slot.Value) (pc a o : ℕ) (top : Top) → IsLight i → a + b ≤ o → stack_need s.program below ≤ p.stack → (function_at p f).locals ≤ length locals → counts_of m.group ≡ counts s → Tops (counts s) top locals vs cells
        → Lies s p f back exit (i ∷ k) pc (record { cells = length locals; made = made }) (length vs) top a → Does s p (act s.program m below (frame locals vs k) i) (at pc cells m) o 34 (weight (i ∷ k))
    light_runs (Rest ss) m locals (v ∷ vs) k cells pc a o top is le less whole same tops l = absurd (plain_alike s top locals (v ∷ vs) cells _ l.5 tops).1
    light_runs (Rest ss) m locals [] k cells pc a o top is le less whole same tops l =
        let h = plain_alike s top locals [] cells _ l.5 tops in let paid = l.3 in
        does_after s p (act s.program m below (frame locals [] k) (Rest ss)) (at pc cells m) (at l.0 cells m) l.1 (l.2 + b) o 34 (weight (Rest ss ∷ k)) (l.4.by wants names sbelow cells (objects_of m)) (omega (arith, le, paid))
        (light_rest ss m locals k cells l.0 l.2 (l.2 + b) (omega arith) whole same h.0 h.1)
    light_runs Fall m locals (v ∷ vs) k cells pc a o top is le less whole same tops l = absurd (plain_alike s top locals (v ∷ vs) cells _ l.5 tops).1
    light_runs Fall m locals [] k cells pc a o top is le less whole same tops l =
        let h = plain_alike s top locals [] cells _ l.5 tops in let paid = l.3 in
        does_after s p (left m (frame locals [] k) below (value.Int 0)) (at pc cells m) (at l.0 cells m) l.1 (l.2 + b) o 34 (weight (Fall ∷ k)) (l.4.by wants names sbelow cells (objects_of m)) (omega (arith, le, paid))
        (fall_goes 34 m locals k cells l.0 l.2 (l.2 + b) (weight (Fall ∷ k)) (omega arith) (omega arith) less same h.1)
    light_runs (Start t) m locals vs k cells pc a o top is le less whole same tops l = absurd l.5
    light_runs (Gap n) m locals vs k cells pc a o top is le less whole same tops l = absurd l.5
    light_runs (Make x) m locals vs k cells pc a o top is le less whole same tops l = absurd l.5
    light_runs i m locals vs k cells pc a o top is le less whole same tops l = absurd is

    pub light_act : (i : Item) (m : Memory) (locals : List Value) (k : List Item) (cells : List slot.Value) (pc a o : ℕ) → IsLight i → a + b ≤ o → stack_need s.program below ≤ p.stack → counts_of m.group ≡ counts s → AreAlike (counts s) locals [] cells → from + made ≡ length m.own
        → EntryLies s p f back exit (i ∷ k) pc (record { cells = length locals; made = made }) a → Does s p (act s.program m below (frame locals [] k) i) (at pc cells m) o 34 (weight (i ∷ k))
    light_act (Start t) m locals k cells pc a o is le less same alike all l =
        started_went 34 k (locals ++ first_value t ∷ []) m (at pc cells m) a o (weight (Start t ∷ k)) (omega arith) le (start_does s p f back exit from wants sbelow t m locals k cells names made pc a (weight (Start t ∷ k)) same named all alike l)
    light_act (Gap n) m locals k cells pc a o is le less same alike all l =
        started_went 34 (gaps_then n k) locals m (at pc cells m) a o (weight (Gap n ∷ k)) (omega arith) le (gap_does s p f back exit from wants sbelow n m locals k cells names made pc a same named all alike l)
    light_act (Make x) m locals k cells pc a o is le less same alike all l =
        started_went 34 k locals (memory m.group (m.own ++ new_object x ∷ [])) (at pc cells m) a o (weight (Make x ∷ k)) (omega arith) le (make_does s p f back exit from wants sbelow x m locals k cells names made pc a (weight (Make x ∷ k)) same named all alike l)
    light_act (Rest ss) m locals k cells pc a o is le less same alike all l = light_runs (Rest ss) m locals [] k cells pc a o Plain is le less l.0 same alike l.1
    light_act Fall m locals k cells pc a o is le less same alike all l = light_runs Fall m locals [] k cells pc a o Plain is le less l.0 same alike l.1
    light_act i m locals k cells pc a o is le less same alike all l = absurd is

    pub begins_act : (i : Item) (m : Memory) (locals : List Value) (k : List Item) (cells : List slot.Value) (pc a o : ℕ) → a + b ≤ o → stack_need s.program below ≤ p.stack → ((j : ℕ) (c : UsedCall) → slice_get s.program.calls j ≡ Some c → SoundCall p.rows c) → counts_of m.group ≡ counts s → AreAlike (counts s) locals [] cells → from + made ≡ length m.own
        → EntryLies s p f back exit (i ∷ k) pc (record { cells = length locals; made = made }) a → Does s p (act s.program m below (frame locals [] k) i) (at pc cells m) o 41 (weight (i ∷ k))
    begins_act (Start t) m locals k cells pc a o le less sound same alike all l =
        started_went 41 k (locals ++ first_value t ∷ []) m (at pc cells m) a o (weight (Start t ∷ k)) (omega arith) le (start_does s p f back exit from wants sbelow t m locals k cells names made pc a (weight (Start t ∷ k)) same named all alike l)
    begins_act (Gap n) m locals k cells pc a o le less sound same alike all l =
        started_went 41 (gaps_then n k) locals m (at pc cells m) a o (weight (Gap n ∷ k)) (omega arith) le (gap_does s p f back exit from wants sbelow n m locals k cells names made pc a same named all alike l)
    begins_act (Make x) m locals k cells pc a o le less sound same alike all l =
        started_went 41 k locals (memory m.group (m.own ++ new_object x ∷ [])) (at pc cells m) a o (weight (Make x ∷ k)) (omega arith) le (make_does s p f back exit from wants sbelow x m locals k cells names made pc a (weight (Make x ∷ k)) same named all alike l)
    begins_act i m locals k cells pc a o le less sound same alike all l = lies_act i m locals [] k cells pc a o Plain le less l.0 sound same alike l.1

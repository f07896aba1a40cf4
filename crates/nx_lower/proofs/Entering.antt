-- Slot code follows the call of a function, up to its entry.
use Rattle.std.proofs.Common.{◌≡◌, ℕ, zero, suc, ◌+◌, ◌*◌, ◌%◌, ◌<◌, ◌≤◌, List, [], ◌∷◌, ◌++◌, length, map, Some, refl, sym, ap, ◌∙◌, subst, arith, append_assoc, length-append}
use Rattle.std.specs.Prelude.{slice_get, take, Result, Ok, Err}
use Rattle.std.proofs.lemmas.List.{length-map}
use Rattle.nx_checked.specs.declared.checked.Scalar.{Scalar}
use Rattle.nx_checked.specs.declared.checked.Scalar.TheVariants as scalar
use Rattle.nx_cobjects.specs.declared.value.Value.{Value}
use Rattle.nx_cobjects.specs.declared.value.Value.TheVariants as value
use Rattle.nx_cobjects.specs.declared.value.WrongKind.{WrongKind}
use Rattle.nx_cobjects.specs.Memory.{Memory, value_in}
use Rattle.nx_cmean.specs.Items.{Item, Enter}
use Rattle.nx_cmean.specs.Meaning.{Took, taken, all_kept, fun_at}
use Rattle.nx_slot.specs.declared.op.Unary.TheVariants as unary_op
use Rattle.nx_slot.specs.declared.op.SlotOp.TheVariants as op
use Rattle.nx_slot.specs.Objects as slot
use Rattle.nx_slot.specs.Calls.{value_at}
use Rattle.nx_slot.specs.Meaning.{Code, SlotFrame, SlotState, function_at, put, cells_from, opened, entered, step}
use Rattle.nx_lower.specs.Shown.{Counts, shown, objects_of}
use Rattle.nx_lower.specs.Code.{Source, counts, arguments_code}
use Rattle.nx_lower.specs.Bodies.{lower_fun}
use Rattle.nx_lower.specs.Sound.{Stage}
use Rattle.nx_lower.proofs.Cells.{Top, Plain, Tops, Temps, AreAlike, get_below, put_there, put_elsewhere, put_length}
use Rattle.nx_lower.proofs.Steps.{HasAt, has_front, has_back, Leads, leads_here, leads_on, ops_in, limit, slot_frame, at_place, changes}
use Rattle.nx_lower.proofs.Lies.{Body, item_lies, Lies}
use Rattle.nx_lower.proofs.Operands.{low_same}
use Rattle.nx_lower.proofs.Acts.{plain_alike}
use Rattle.nx_lower.proofs.Handing.{get_value, popped, row_alone, alike_take, may_is, goes}

-- These values stand in the cells from a place on.
abbrev AllAt : List slot.Value → ℕ → List slot.Value → Type 0
AllAt cells i [] = Unit {0}
AllAt cells i (x ∷ xs) = (slice_get cells i ≡ Some x) × AllAt cells (i + 1) xs

abbrev first_or : slot.Value → List slot.Value → slot.Value
first_or d [] = d
first_or d (x ∷ xs) = x

abbrev others_in : List slot.Value → List slot.Value
others_in [] = []
others_in (x ∷ xs) = xs

get_there : (cells : List slot.Value) (i : ℕ) → i < length cells → slice_get cells i ≡ Some (value_at cells i)
get_there [] i h = absurd (omega arith)
get_there (x ∷ cells) zero h = refl
get_there (x ∷ cells) (suc i) h = get_there cells i (omega arith)

all_at : (cells xs : List slot.Value) (i : ℕ) → i + length xs ≤ length cells → cells_from cells i (length xs) ≡ xs → AllAt cells i xs
unfolding cells_from
all_at cells [] i h e = tt
all_at cells (x ∷ xs) i h e =
    let one : value_at cells i ≡ x = ap (first_or x) e in
    let more : cells_from cells (i + 1) (length xs) ≡ xs = ap others_in e in
    (get_there cells i (omega (arith, h)) ∙ ap (λ y. Some y) one, all_at cells xs (i + 1) (omega (arith, h)) more)

from_all : (cells xs : List slot.Value) (i : ℕ) → AllAt cells i xs → cells_from cells i (length xs) ≡ xs
unfolding cells_from
from_all cells [] i h = refl
from_all cells (x ∷ xs) i h = ap (λ y. y ∷ cells_from cells (i + 1) (length xs)) (get_value cells i x h.0) ∙ ap (λ l. x ∷ l) (from_all cells xs (i + 1) h.1)

at_put : (cells : List slot.Value) (i j : ℕ) (x : slot.Value) (xs : List slot.Value) → i < j → AllAt cells j xs → AllAt (put cells i x) j xs
at_put cells i j x [] h a = tt
at_put cells i j x (y ∷ ys) h a = (put_elsewhere cells i j x y (omega (arith, h)) a.0, at_put cells i (j + 1) x ys (omega (arith, h)) a.1)

-- Cells that keep what others have below a place.
abbrev SameBelow : ℕ → List slot.Value → List slot.Value → Type 0
SameBelow i cells later = (j : ℕ) (x : slot.Value) → j < i → slice_get cells j ≡ Some x → slice_get later j ≡ Some x

temps_same : (c : Counts) (n i : ℕ) (vs : List Value) (cells later : List slot.Value) → n + length vs ≤ i → SameBelow i cells later → Temps c n vs cells → Temps c n vs later
temps_same c n i [] cells later h s t = tt
temps_same c n i (v ∷ vs) cells later h s t = (s (n + length vs) (shown c v) (omega (arith, h)) t.0, temps_same c n i vs cells later (omega (arith, h)) s t.1)

alike_same : (c : Counts) (locals vs : List Value) (cells later : List slot.Value) → SameBelow (length locals + length vs) cells later → length cells ≤ length later → AreAlike c locals vs cells → AreAlike c locals vs later
alike_same c locals vs cells later s h a =
    let room = a.room in
    record {
      local = λ j q. s j (shown c (value_in locals j)) (omega (arith, q)) (a.local j q);
      temps = temps_same c (length locals) (length locals + length vs) vs cells later (omega arith) s a.temps;
      room = omega (arith, h, room);
    }

abbrev list_or : List Value → Result (List Value) WrongKind → List Value
list_or d (Ok l) = l
list_or d (Err kind) = d

ok_list : (a b : List Value) → ◌≡◌ {A = Result (List Value) WrongKind} (Ok a) (Ok b) → a ≡ b
ok_list a b e = ap (list_or a) e

module _ (s : Source) (p : Code) (f wants : ℕ) (names : List ℕ) (below : List SlotFrame) where
  abbrev at : ℕ → List slot.Value → List slot.Object → SlotState
  at pc cells os = at_place p f wants names below pc cells os

  -- Cells hold what parameters keep of n arguments.
  record HoldKept (n end : ℕ) (done params : List Value) (cells : List slot.Value) (os : List slot.Object) (pc i : ℕ) : Type 0 where
    pub values : List Value
    pub later : List slot.Value
    pub cost : ℕ
    pub turns : ℕ
    pub is : params ≡ done ++ values
    pub count : length values ≡ n
    pub cheap : cost ≤ 7 * n
    pub leads : Leads p (at pc cells os) (at end later os) cost turns
    pub row : AllAt later i (map (shown (counts s)) values)
    pub others : SameBelow i cells later
    pub size : length cells ≤ length later

  -- An argument that is kept as it is.
  as_it_is : (v : Value) (n end : ℕ) (done params : List Value) (cells : List slot.Value) (os : List slot.Object) (pc i : ℕ) → slice_get cells i ≡ Some (shown (counts s) v) → HoldKept n end (done ++ v ∷ []) params cells os pc (i + 1) → HoldKept (suc n) end done params cells os pc i
  as_it_is v n end done params cells os pc i has q =
      let cheap = q.cheap in
      record {
        values = v ∷ q.values;
        later = q.later;
        cost = q.cost;
        turns = q.turns;
        is = q.is ∙ append_assoc done (v ∷ []) q.values;
        count = ap suc q.count;
        cheap = omega (arith, cheap);
        leads = q.leads;
        row = (q.others i (shown (counts s) v) (omega arith) has, q.row);
        others = λ j x h e. q.others j x (omega (arith, h)) e;
        size = q.size;
      }

  -- One whose low byte is kept.
  low_byte : (m n end : ℕ) (done params : List Value) (cells : List slot.Value) (os : List slot.Object) (pc i : ℕ) → slice_get cells i ≡ Some (slot.Int m) → i < limit p f → slice_get (ops_in p f) pc ≡ Some (op.Change unary_op.LowByte i i)
      → HoldKept n end (done ++ value.Int (m % 256) ∷ []) params (put cells i (slot.Int (m % 256))) os (pc + 1) (i + 1) → HoldKept (suc n) end done params cells os pc i
  low_byte m n end done params cells os pc i has small code q =
      let x = slot.Int (m % 256) in let new = put cells i x in
      let room : i < length cells = get_below cells i (slot.Int m) has in
      let l = put_length cells i x (omega (arith, room)) in
      let cheap = q.cheap in let size = q.size in
      let one = subst (λ n. Leads p (at pc cells os) (at (pc + 1) (put cells i (slot.Int n)) os) 7 1) (low_same m) (changes p f wants names below pc cells os unary_op.LowByte i i m code has (record { near = omega (arith, room); small = small })) in
      record {
        values = value.Int (m % 256) ∷ q.values;
        later = q.later;
        cost = 7 + q.cost;
        turns = 1 + q.turns;
        is = q.is ∙ append_assoc done (value.Int (m % 256) ∷ []) q.values;
        count = ap suc q.count;
        cheap = omega (arith, cheap);
        leads = leads_on p (at pc cells os) (at (pc + 1) new os) (at end q.later os) 7 q.cost 1 q.turns one q.leads;
        row = (q.others i x (omega arith) (put_there cells i x (omega (arith, room))), q.row);
        others = λ j y h e. q.others j y (omega (arith, h)) (put_elsewhere cells i j x y (omega (arith, h)) e);
        size = omega (arith, l.0, size);
      }

  kept_all : (ts : List Scalar) (args done params : List Value) (cells : List slot.Value) (os : List slot.Object) (pc i end : ℕ) → AllAt cells i (map (shown (counts s)) args) → length args ≡ length ts → i + length ts ≤ limit p f → HasAt (ops_in p f) pc (arguments_code ts i) → pc + length (arguments_code ts i) ≡ end → all_kept done ts args ≡ Ok params → HoldKept (length ts) end done params cells os pc i
  kept_all [] [] done params cells os pc i end has many fits code to e =
      let x : pc ≡ end = omega (arith, to) in
      record {
        values = [];
        later = cells;
        cost = 0;
        turns = 0;
        is = sym (ok_list (done ++ []) params e);
        count = refl;
        cheap = omega arith;
        leads = subst (λ n. Leads p (at pc cells os) (at n cells os) 0 0) x (leads_here p (at pc cells os));
        row = tt;
        others = λ j y h e. e;
        size = omega arith;
      }
  kept_all [] (v ∷ args) done params cells os pc i end has many fits code to e = absurd (omega (arith, many))
  kept_all (t ∷ ts) [] done params cells os pc i end has many fits code to e = absurd (omega (arith, many))
  kept_all (scalar.Int ∷ ts) (v ∷ args) done params cells os pc i end has many fits code to e =
      as_it_is v (length ts) end done params cells os pc i has.0 (kept_all ts args (done ++ v ∷ []) params cells os pc (i + 1) end has.1 (omega (arith, many)) (omega (arith, fits)) code to e)
  kept_all (scalar.Pointer w ∷ ts) (v ∷ args) done params cells os pc i end has many fits code to e =
      as_it_is v (length ts) end done params cells os pc i has.0 (kept_all ts args (done ++ v ∷ []) params cells os pc (i + 1) end has.1 (omega (arith, many)) (omega (arith, fits)) code to e)
  kept_all (scalar.Char ∷ ts) (value.Int m ∷ args) done params cells os pc i end has many fits code to e =
      low_byte m (length ts) end done params cells os pc i has.0 (omega (arith, fits)) code.0
      (kept_all ts args (done ++ value.Int (m % 256) ∷ []) params (put cells i (slot.Int (m % 256))) os (pc + 1) (i + 1) end (at_put cells i (i + 1) (slot.Int (m % 256)) (map (shown (counts s)) args) (omega arith) has.1) (omega (arith, many)) (omega (arith, fits)) code.1 (omega (arith, to)) e)
  kept_all (scalar.Char ∷ ts) (value.Point b place ∷ args) done params cells os pc i end has many fits code to e = absurd cc
  kept_all (scalar.Char ∷ ts) (value.Forged m ∷ args) done params cells os pc i end has many fits code to e = absurd cc
  kept_all (scalar.Char ∷ ts) (value.Entry g ∷ args) done params cells os pc i end has many fits code to e = absurd cc

module _ (s : Source) (p : Code) (f back exit made wants : ℕ) (names : List ℕ) (below : List SlotFrame) where
  -- The function is entered with its parameters, and the call that waits is alike.
  pub record Handed (m : Memory) (locals rest params : List Value) (k : List Item) (start : SlotState) (g o : ℕ) : Type 0 where
    pub cells : List slot.Value
    pub place : ℕ
    pub cost : ℕ
    pub turns : ℕ
    pub owed : ℕ
    pub leads : Leads p start (at_place p f wants names below place cells (objects_of m)) cost turns
    pub enters : step p (at_place p f wants names below place cells (objects_of m))
        ≡ entered p (opened g (map (shown (counts s)) params) ∷ slot_frame f (place + 1) (length locals + length rest) names (take (length locals + length rest) cells) ∷ below) (objects_of m) 30
    pub alike : AreAlike (counts s) locals rest (take (length locals + length rest) cells)
    pub lies : Lies s p f back exit k (place + 1) (record { cells = length locals; made = made }) (suc (length rest)) Plain owed
    pub paid : cost + owed ≤ o
    pub count : length params ≡ length (fun_at s.program g).params

  -- The arguments are there, and their function is known.
  pub record Entering (m : Memory) (locals vs : List Value) (k : List Item) (start : SlotState) (g n o : ℕ) : Type 0 where
    pub args : List Value
    pub rest : List Value
    pub took : taken n vs [] ≡ Took args rest
    pub count : length args ≡ n
    pub known : g < length s.program.functions
    pub hands : (params : List Value) → all_kept [] (fun_at s.program g).params args ≡ Ok params → Handed m locals rest params k start g o

  pub enter_does : (g n : ℕ) (m : Memory) (locals vs : List Value) (k : List Item) (cells : List slot.Value) (pc o : ℕ) (top : Top) → (g < length s.program.functions → function_at p g ≡ lower_fun s (fun_at s.program g)) → (g < length s.program.functions → length (fun_at s.program g).params ≤ 6) → (function_at p f).locals ≤ length locals → Tops (counts s) top locals vs cells
      → item_lies s p f back exit (Enter g n) (Body k) (λ back exit pc z d top o. Lies s p f back exit k pc z d top o) pc (record { cells = length locals; made = made }) (length vs) top o
      → Entering m locals vs k (at_place p f wants names below pc cells (objects_of m)) g n o
  enter_does g n m locals vs k cells pc o top is few whole tops l =
      let z : Stage = record { cells = length locals; made = made } in
      let ts = (fun_at s.program g).params in
      let h = plain_alike s top locals vs cells _ l tops in
      let P = λ (e : ℕ). let code = arguments_code ts (z.cells + e) ++ op.Go g (z.cells + e) n ∷ [] in
      (r : ℕ) × (r + 7 * n ≤ o) × (HasAt (ops_in p f) pc code × (z.cells + e < limit p f) × ((g < length s.program.functions) × (n ≡ length ts) × (z.cells + e + n ≤ limit p f) × Lies s p f back exit k (pc + length code) z (suc e) Plain r)) in
      let q = popped (counts s) n locals vs [] cells P h.0 h.1 in
      let x = q.holds in let r = x.0 in let le = x.1 in let y = x.2 in let w = y.2 in
      let first = length locals + length q.rest in
      let code = arguments_code ts first in let tail = op.Go g first n ∷ [] in
      let room = h.0.room in let size = q.size in let count = q.count in let many = w.1 in let fits = w.2 in let six = few w.0 in
      let e : length (map (shown (counts s)) q.args) ≡ n = length-map q.args (shown (counts s)) ∙ omega (arith, count) in
      let row = subst (λ (k : ℕ). cells_from cells first k ≡ map (shown (counts s)) q.args) (sym e) (row_alone (counts s) n locals vs cells P q) in
      let args_at = all_at cells (map (shown (counts s)) q.args) first (omega (arith, room, size, e)) row in
      record {
        args = q.args;
        rest = q.rest;
        took = q.took;
        count = omega (arith, count);
        known = w.0;
        hands = λ params kept.
            let t = kept_all s p f wants names below ts q.args [] params cells (objects_of m) pc first (pc + length code) args_at (omega (arith, count, many)) (omega (arith, fits, many)) (has_front (ops_in p f) pc code tail y.0) refl kept in
            let place = pc + length code in
            let later = t.later in let more = t.size in let cheap = t.cheap in
            let a = alike_same (counts s) locals q.rest cells later t.others more q.alike in
            let go = has_back (ops_in p f) pc code tail y.0 in
            let c = t.count in
            let size_is : length (map (shown (counts s)) t.values) ≡ n = length-map t.values (shown (counts s)) ∙ omega (arith, c, many) in
            let cells_are : cells_from later first n ≡ map (shown (counts s)) params =
            ap (cells_from later first) (sym size_is) ∙ from_all later (map (shown (counts s)) t.values) first t.row ∙ ap (map (shown (counts s))) (sym t.is) in
            let number : length (cells_from later first n) ≡ (function_at p g).params = ap length cells_are ∙ ap (λ l. length (map (shown (counts s)) l)) t.is ∙ size_is ∙ many ∙ sym (ap (λ x. x.params) (is w.0)) in
            let may = may_is p f wants names below later first n (omega (arith, room, size, more)) (omega (arith, whole)) y.1 (omega (arith, many, six)) in
            record {
              cells = later;
              place = place;
              cost = t.cost;
              turns = t.turns;
              owed = r;
              leads = t.leads;
              enters = goes p f wants names below place later (objects_of m) g first n go.0 may number
                  ∙ ap (λ (l : List slot.Value). entered p (opened g l ∷ slot_frame f (place + 1) first names (take first later) ∷ below) (objects_of m) 30) cells_are;
              alike = alike_take (counts s) locals q.rest later a;
              lies = let u : pc + length (code ++ tail) ≡ place + 1 = omega (arith, length-append code tail) in subst (λ (n : ℕ). Lies s p f back exit k n z (suc (length q.rest)) Plain r) u w.3;
              paid = omega (arith, le, cheap, many);
              count = ap length t.is ∙ c;
            };
      }

-- Slot code follows what a call begins with: its variables start, and its arrays are made.
use Rattle.std.proofs.Common.{◌≡◌, ℕ, zero, suc, ◌+◌, ◌-◌, ◌*◌, ◌/◌, ◌<◌, ◌≤◌, true, List, [], ◌∷◌, ◌++◌, length, map, Some, refl, sym, ap, ◌∙◌, subst, arith, ⊎_elim, length-append}
use Rattle.std.specs.Prelude.{◌==◌, slice_get, replicate, if◌then◌else◌, false}
use Rattle.std.proofs.lemmas.List.{length-map, get_or_append_left}
use Rattle.std.proofs.lemmas.Bool.{cases_lt}
use Rattle.std.proofs.lemmas.Bool.Decides.{nat_tests}
use Rattle.nx_checked.specs.declared.checked.Scalar.{Scalar}
use Rattle.nx_checked.specs.declared.checked.Scalar.TheVariants as scalar
use Rattle.nx_checked.specs.declared.checked.Shape.{Shape}
use Rattle.nx_checked.specs.Frames.{bytes_of}
use Rattle.nx_cobjects.specs.declared.value.Value.{Value}
use Rattle.nx_cobjects.specs.declared.value.Value.TheVariants as value
use Rattle.nx_cobjects.specs.Values.{first_value}
use Rattle.nx_cobjects.specs.Memory.{Memory, memory, value_in, new_object}
use Rattle.nx_cmean.specs.Items.{Item, Start, Gap, Make, gaps_then, steps_of}
use Rattle.nx_slot.specs.declared.op.Operand.TheVariants as operand
use Rattle.nx_slot.specs.Objects as slot
use Rattle.nx_slot.specs.Costs.{words_of}
use Rattle.nx_slot.specs.Meaning.{Code, SlotFrame, SlotState, state, Goes, Fails, NoFit, put}
use Rattle.nx_lower.specs.Shown.{Counts, counts_of, statics_in, shown, width_of, object_shown, scalar_shown, objects_of}
use Rattle.nx_lower.specs.Code.{Source, counts}
use Rattle.nx_lower.specs.Bodies.{start_code, array_of}
use Rattle.nx_lower.specs.Laws.{names_from}
use Rattle.nx_lower.specs.Sound.{Stage}
use Rattle.nx_lower.proofs.Parts.{get_after}
use Rattle.nx_lower.proofs.Objects.{arrays, shapes_same}
use Rattle.nx_lower.proofs.Cells.{AreAlike, put_there, put_elsewhere, put_length, alike_past}
use Rattle.nx_lower.proofs.Steps.{HasAt, Leads, leads_here, leads_on, leads_one, ops_in, limit, slot_frame, at_place, moves, forges}
use Rattle.nx_lower.proofs.Idle.{weight, gaps_weight}
use Rattle.nx_lower.proofs.Lies.{EntryLies}
use Rattle.nx_lower.proofs.Entry.{gaps_lie}
use Rattle.nx_lower.proofs.Handing.{makes}

-- One more variable, in the next cell.
alike_start : (c : Counts) (locals : List Value) (v : Value) (cells : List slot.Value) → AreAlike c locals [] cells → AreAlike c (locals ++ v ∷ []) [] (put cells (length locals) (shown c v))
alike_start c locals v cells a =
    let n = length locals in let room = a.room in let all = locals ++ v ∷ [] in
    let l = put_length cells n (shown c v) (omega (arith, room)) in
    let e : length all ≡ n + 1 = length-append locals (v ∷ []) in
    record {
      local = λ j h. ⊎_elim
          (λ (q : j < n). put_elsewhere cells n j (shown c v) (shown c (value_in all j)) (omega (arith, q)) (a.local j q ∙ ap (λ z. Some (shown c z)) (sym (get_or_append_left locals (v ∷ []) (value.Int 0) j q))))
          (λ (q : n ≤ j).
          let is : n ≡ j = omega (arith, q, h, e) in
          subst (λ k. slice_get (put cells n (shown c v)) k ≡ Some (shown c (value_in all k))) is
          (put_there cells n (shown c v) (omega (arith, room)) ∙ ap (λ z. Some (shown c z)) (sym (get_after locals (v ∷ []) n 0 (value.Int 0) (omega arith)))))
          (cases_lt j n);
      temps = tt;
      room = omega (arith, e, l.1);
    }

-- Names in a row.
names_length : (i k : ℕ) → length (names_from i k) ≡ k
names_length i zero = refl
names_length i (suc k) = ap suc (names_length (i + 1) k)

names_last : (i k : ℕ) → names_from i (suc k) ≡ names_from i k ++ (i + k) ∷ []
names_last i zero = let e : i ≡ i + 0 = omega arith in ap (λ n. n ∷ []) e
names_last i (suc k) = let e : i + 1 + k ≡ i + suc k = omega arith in ap (λ l. i ∷ l) (names_last (i + 1) k) ∙ ap (λ n. i ∷ (names_from (i + 1) k ++ n ∷ [])) e

-- All objects of a thread, those of its group first.
objects_length : (m : Memory) → length (objects_of m) ≡ statics_in (counts_of m.group) + length m.own
objects_length m =
    let g = m.group in
    let s = map scalar_shown g.scalars in let a = map (object_shown false) g.arrays in let t = map (object_shown true) g.texts in let o = map (object_shown false) m.own in
    omega (arith, length-append (s ++ (a ++ t)) o, length-append s (a ++ t), length-append a t, length-map g.scalars scalar_shown, length-map g.arrays (object_shown false), length-map g.texts (object_shown true), length-map m.own (object_shown false))

count_is : (n k : ℕ) → n ≡ k → (n == k) ≡ true
count_is n k h = grind (arith, nat_tests, h)

words_paid : (w t r o : ℕ) → w ≡ t → r + 3 * (t - 1) ≤ o → 3 * w + 6 + r ≤ o + 12
words_paid w t r o e h = omega (arith, e, h)

module _ (s : Source) (p : Code) (f back exit from wants : ℕ) (below : List SlotFrame) where
  abbrev at : List ℕ → ℕ → List slot.Value → Memory → SlotState
  at names pc cells m = at_place p f wants names below pc cells (objects_of m)

  -- The machine comes to what remains of the beginning, for what was paid and this much more.
  pub record Started (k : List Item) (locals : List Value) (m : Memory) (start : SlotState) (o budget room : ℕ) : Type 0 where
    pub cells : List slot.Value
    pub names : List ℕ
    pub place : ℕ
    pub made : ℕ
    pub cost : ℕ
    pub owed : ℕ
    pub turns : ℕ
    pub leads : Leads p start (at names place cells m) cost turns
    pub moves_on : turns ≡ 0 → weight k < room
    pub same : counts_of m.group ≡ counts s
    pub named : names ≡ names_from (statics_in (counts s) + from) made
    pub all : from + made ≡ length m.own
    pub alike : AreAlike (counts s) locals [] cells
    pub lies : EntryLies s p f back exit k place (record { cells = length locals; made = made }) owed
    pub paid : cost + owed ≤ o + budget

  -- A variable starts in the next cell.
  record StartsTo (locals : List Value) (v : Value) (m : Memory) (names : List ℕ) (start : SlotState) (place : ℕ) : Type 0 where
    pub cells : List slot.Value
    pub cost : ℕ
    pub turns : ℕ
    pub leads : Leads p start (at names place cells m) cost (suc turns)
    pub alike : AreAlike (counts s) (locals ++ v ∷ []) [] cells
    pub cheap : cost ≤ 12

  number_starts : (locals : List Value) (m : Memory) (names : List ℕ) (cells : List slot.Value) (pc : ℕ) → AreAlike (counts s) locals [] cells → HasAt (ops_in p f) pc (start_code scalar.Int (length locals)) → length locals < limit p f → StartsTo locals (value.Int 0) m names (at names pc cells m) (pc + 1)
  number_starts locals m names cells pc a has small =
      let room = a.room in
      record {
        cells = put cells (length locals) (slot.Int 0);
        cost = 6;
        turns = 0;
        leads = moves p f wants names below pc cells (objects_of m) (length locals) (operand.Number 0) (slot.Int 0) has.0 refl (record { near = omega (arith, room); small = small });
        alike = alike_start (counts s) locals (value.Int 0) cells a;
        cheap = omega arith;
      }

  starts_to : (t : Scalar) (locals : List Value) (m : Memory) (names : List ℕ) (cells : List slot.Value) (pc : ℕ) → AreAlike (counts s) locals [] cells → HasAt (ops_in p f) pc (start_code t (length locals)) → length locals < limit p f
      → StartsTo locals (first_value t) m names (at names pc cells m) (pc + length (start_code t (length locals)))
  starts_to scalar.Int locals m names cells pc a has small = number_starts locals m names cells pc a has small
  starts_to scalar.Char locals m names cells pc a has small = number_starts locals m names cells pc a has small
  starts_to (scalar.Pointer w) locals m names cells pc a has small =
      let i = length locals in let room = a.room in
      let one = put cells i (slot.Int 0) in
      let l = put_length cells i (slot.Int 0) (omega (arith, room)) in
      let b = alike_past (counts s) locals [] cells i (slot.Int 0) (omega arith) (omega (arith, room)) a in
      let e : pc + 1 + 1 ≡ pc + 2 = omega arith in
      let two = put one i (slot.Forged 0) in
      let first = moves p f wants names below pc cells (objects_of m) i (operand.Number 0) (slot.Int 0) has.0 refl (record { near = omega (arith, room); small = small }) in
      let second = forges p f wants names below (pc + 1) one (objects_of m) i i 0 has.1.0 (put_there cells i (slot.Int 0) (omega (arith, room))) (record { near = omega (arith, l.1); small = small }) in
      record {
        cells = two;
        cost = 6 + 6;
        turns = 1;
        leads = subst (λ n. Leads p (at names pc cells m) (at names n two m) (6 + 6) (1 + 1)) e (leads_on p (at names pc cells m) (at names (pc + 1) one m) (at names (pc + 1 + 1) two m) 6 6 1 1 first second);
        alike = alike_start (counts s) locals (value.Forged 0) one b;
        cheap = omega arith;
      }

  pub start_does : (t : Scalar) (m : Memory) (locals : List Value) (k : List Item) (cells : List slot.Value) (names : List ℕ) (made pc o room : ℕ) → counts_of m.group ≡ counts s → names ≡ names_from (statics_in (counts s) + from) made → from + made ≡ length m.own → AreAlike (counts s) locals [] cells
      → EntryLies s p f back exit (Start t ∷ k) pc (record { cells = length locals; made = made }) o → Started k (locals ++ first_value t ∷ []) m (at names pc cells m) o 12 room
  start_does t m locals k cells names made pc o room same named all a l =
      let r = starts_to t locals m names cells pc a l.0 l.1 in
      let cheap = r.cheap in
      let place = pc + length (start_code t (length locals)) in
      let e : suc (length locals) ≡ length (locals ++ first_value t ∷ []) = omega (arith, length-append locals (first_value t ∷ [])) in
      record {
        cells = r.cells;
        names = names;
        place = place;
        made = made;
        cost = r.cost;
        owed = o;
        turns = suc r.turns;
        leads = r.leads;
        moves_on = λ z. absurd (omega (arith, z));
        same = same;
        named = named;
        all = all;
        alike = r.alike;
        lies = subst (λ n. EntryLies s p f back exit k place (record { cells = n; made = made }) o) e l.2;
        paid = omega (arith, cheap);
      }

  -- Steps that make nothing pay for the array after them.
  pub gap_does : (n : ℕ) (m : Memory) (locals : List Value) (k : List Item) (cells : List slot.Value) (names : List ℕ) (made pc o : ℕ) → counts_of m.group ≡ counts s → names ≡ names_from (statics_in (counts s) + from) made → from + made ≡ length m.own → AreAlike (counts s) locals [] cells
      → EntryLies s p f back exit (Gap n ∷ k) pc (record { cells = length locals; made = made }) o → Started (gaps_then n k) locals m (at names pc cells m) o 12 (weight (Gap n ∷ k))
  gap_does n m locals k cells names made pc o same named all a l =
      let z : Stage = record { cells = length locals; made = made } in
      let e : o + 3 * suc n ≡ o + 3 + 3 * n = omega arith in
      let w = gaps_weight n k in
      record {
        cells = cells;
        names = names;
        place = pc;
        made = made;
        cost = 0;
        owed = o + 3;
        turns = 0;
        leads = leads_here p (at names pc cells m);
        moves_on = λ q. omega (arith, w);
        same = same;
        named = named;
        all = all;
        alike = a;
        lies = gaps_lie s p f back exit n k pc z (o + 3) (subst (λ o. EntryLies s p f back exit k pc z o) e l);
        paid = omega arith;
      }

  -- An array is made.
  pub make_does : (a : Shape) (m : Memory) (locals : List Value) (k : List Item) (cells : List slot.Value) (names : List ℕ) (made pc o room : ℕ) → counts_of m.group ≡ counts s → names ≡ names_from (statics_in (counts s) + from) made → from + made ≡ length m.own → AreAlike (counts s) locals [] cells
      → EntryLies s p f back exit (Make a ∷ k) pc (record { cells = length locals; made = made }) o → Started k locals (memory m.group (m.own ++ new_object a ∷ [])) (at names pc cells m) o 12 room
  make_does a m locals k cells names made pc o room same named all alike l =
      let b = statics_in (counts s) + from in let os = objects_of m in
      let after = memory m.group (m.own ++ new_object a ∷ []) in
      let next : length os ≡ b + made = objects_length m ∙ ap (λ (c : Counts). statics_in c + length m.own) same ∙ omega (arith, all) in
      let many : made ≡ length names = sym (ap length named ∙ names_length b made) in
      let later = names ++ length os ∷ [] in
      let cost = 3 * words_of (Some (array_of a)) + 6 in
      let frames = slot_frame f (pc + 1) wants later cells ∷ below in
      let words : words_of (Some (array_of a)) ≡ steps_of a = ap (λ n. (n + 3) / 4) (sym (shapes_same a)) in
      record {
        cells = cells;
        names = later;
        place = pc + 1;
        made = suc made;
        cost = cost;
        owed = l.0;
        turns = 1;
        leads = leads_one p (at names pc cells m) (at later (pc + 1) cells after) cost
            (makes p f wants names below pc cells os made (array_of a) l.2 l.3 many
            ∙ ap (λ t. if t then Goes (state frames (os ++ record { bytes = replicate (bytes_of a) 0; width = width_of a.element; fixed = false } ∷ [])) cost else Fails NoFit) (count_is made (length names) many)
            ∙ ap (λ os. Goes (state frames os) cost) (sym (arrays m a)));
        moves_on = λ q. absurd (omega (arith, q));
        same = same;
        named = ap (λ l. l ++ length os ∷ []) named ∙ ap (λ n. names_from b made ++ n ∷ []) next ∙ sym (names_last b made);
        all = omega (arith, all, length-append m.own (new_object a ∷ []));
        alike = alike;
        lies = l.4;
        paid = words_paid (words_of (Some (array_of a))) (steps_of a) l.0 o words l.1;
      }

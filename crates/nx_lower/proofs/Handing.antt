-- Values that are handed over in cells, and the operations that take them.
use Rattle.std.proofs.Common.{◌≡◌, ◌≢◌, ℕ, zero, suc, ◌+◌, ◌*◌, ◌<◌, ◌≤◌, true, false, List, [], ◌∷◌, ◌++◌, length, map, Option, Some, None, refl, sym, ap, ◌∙◌, arith, append_assoc}
use Rattle.std.specs.Prelude.{slice_get, take, ◌==◌, if◌then◌else◌}
use Rattle.std.proofs.lemmas.Bool.Decides.{nat_tests}
use Rattle.nx_cobjects.specs.declared.value.Value.{Value}
use Rattle.nx_cobjects.specs.Memory.{value_in}
use Rattle.nx_cmean.specs.Meaning.{Took, taken}
use Rattle.nx_slot.specs.declared.op.Operand.{Operand}
use Rattle.nx_slot.specs.declared.op.SlotOp.TheVariants as op
use Rattle.nx_slot.specs.declared.program.SlotArray.{SlotArray}
use Rattle.nx_slot.specs.Objects as slot
use Rattle.nx_slot.specs.Calls.{value_at, words_of, call_inputs, outputs_of}
use Rattle.nx_slot.specs.Costs.{words_of as array_words}
use Rattle.nx_slot.specs.Meaning.{Code, SlotFrame, state, Requests, Fails, NoFit, NoCell, function_at, cells_from, may_hand, operand, on_value, on_inputs, requested, opened, entered, called, without, given, made, step}
use Rattle.nx_lower.specs.Shown.{Counts, shown}
use Rattle.nx_lower.proofs.Cells.{AreAlike, Temps, alike_pop}
use Rattle.nx_lower.proofs.Steps.{ops_in, limit, slot_frame, at_place, step_is}
use Rattle.nx_lower.proofs.Lies.{pops_many}

some_or : slot.Value → Option slot.Value → slot.Value
some_or x (Some y) = y
some_or x None = x

some_is : (x y : slot.Value) → Some x ≡ Some y → x ≡ y
unfolding some_or
some_is x y e = ap (some_or x) e

pub get_value : (xs : List slot.Value) (i : ℕ) (x : slot.Value) → slice_get xs i ≡ Some x → value_at xs i ≡ x
get_value [] i x h = absurd cc
get_value (y ∷ xs) zero x h = some_is y x h
get_value (y ∷ xs) (suc i) x h = get_value xs i x h

cells_last : (cells : List slot.Value) (i k : ℕ) → cells_from cells i (suc k) ≡ cells_from cells i k ++ value_at cells (i + k) ∷ []
unfolding cells_from
cells_last cells i zero = let e : i ≡ i + 0 = omega arith in ap (λ n. value_at cells n ∷ []) e
cells_last cells i (suc k) = let e : i + 1 + k ≡ i + suc k = omega arith in ap (λ l. value_at cells i ∷ l) (cells_last cells (i + 1) k) ∙ ap (λ n. value_at cells i ∷ (cells_from cells (i + 1) k ++ value_at cells n ∷ [])) e

append_nothing : (l : List slot.Value) → l ++ [] ≡ l
append_nothing [] = refl
append_nothing (x ∷ l) = ap (λ r. x ∷ r) (append_nothing l)

-- The last k values, which stand in k cells one after another.
pub record Popped (c : Counts) (k : ℕ) (locals vs others : List Value) (cells : List slot.Value) (P : ℕ → Type 0) : Type 0 where
  pub args : List Value
  pub rest : List Value
  pub took : taken k vs others ≡ Took args rest
  pub row : cells_from cells (length locals + length rest) k ++ map (shown c) others ≡ map (shown c) args
  pub count : length args ≡ k + length others
  pub size : k + length rest ≡ length vs
  pub alike : AreAlike c locals rest cells
  pub holds : P (length rest)

pub popped : (c : Counts) (k : ℕ) (locals vs others : List Value) (cells : List slot.Value) (P : ℕ → Type 0) → AreAlike c locals vs cells → pops_many k (length vs) P → Popped c k locals vs others cells P
unfolding cells_from
popped c zero locals vs others cells P a h = record {
  args = others;
  rest = vs;
  took = refl;
  row = refl;
  count = omega arith;
  size = omega arith;
  alike = a;
  holds = h;
}
popped c (suc k) locals [] others cells P a h = absurd h
popped c (suc k) locals (v ∷ vs) others cells P a h =
    let q = popped c k locals vs (v ∷ others) cells P (alike_pop c locals vs cells v a) h in
    let at = length locals + length q.rest in
    let size = q.size in let count = q.count in
    let e : at + k ≡ length locals + length vs = omega (arith, size) in
    record {
      args = q.args;
      rest = q.rest;
      took = q.took;
      row =
          ap (λ l. l ++ map (shown c) others) (cells_last cells at k)
          ∙ append_assoc (cells_from cells at k) (value_at cells (at + k) ∷ []) (map (shown c) others)
          ∙ ap (λ i. cells_from cells at k ++ value_at cells i ∷ map (shown c) others) e
          ∙ ap (λ x. cells_from cells at k ++ x ∷ map (shown c) others) (get_value cells (length locals + length vs) (shown c v) a.temps.0)
          ∙ q.row;
      count = omega (arith, count);
      size = omega (arith, size);
      alike = q.alike;
      holds = q.holds;
    }

pub row_alone : (c : Counts) (k : ℕ) (locals vs : List Value) (cells : List slot.Value) (P : ℕ → Type 0) (q : Popped c k locals vs [] cells P) → cells_from cells (length locals + length q.rest) k ≡ map (shown c) q.args
row_alone c k locals vs cells P q = sym (append_nothing (cells_from cells (length locals + length q.rest) k)) ∙ q.row

-- A call that waits keeps its cells below the first argument.
take_get : (xs : List slot.Value) (n i : ℕ) (x : slot.Value) → i < n → slice_get xs i ≡ Some x → slice_get (take n xs) i ≡ Some x
take_get [] n i x h e = absurd cc
take_get (y ∷ xs) zero i x h e = absurd (omega arith)
take_get (y ∷ xs) (suc n) zero x h e = e
take_get (y ∷ xs) (suc n) (suc i) x h e = take_get xs n i x (omega arith) e

take_length : (xs : List slot.Value) (n : ℕ) → n ≤ length xs → length (take n xs) ≡ n
take_length xs zero h = refl
take_length [] (suc n) h = absurd (omega arith)
take_length (x ∷ xs) (suc n) h = ap suc (take_length xs n (omega arith))

take_temps : (c : Counts) (n k : ℕ) (vs : List Value) (cells : List slot.Value) → n + length vs ≤ k → Temps c n vs cells → Temps c n vs (take k cells)
take_temps c n k [] cells h t = tt
take_temps c n k (v ∷ vs) cells h t = (take_get cells k (n + length vs) (shown c v) (omega (arith, h)) t.0, take_temps c n k vs cells (omega (arith, h)) t.1)

pub alike_take : (c : Counts) (locals vs : List Value) (cells : List slot.Value) → AreAlike c locals vs cells → AreAlike c locals vs (take (length locals + length vs) cells)
alike_take c locals vs cells a =
    let room = a.room in
    let n = length locals + length vs in
    let l = take_length cells n room in
    record {
      local = λ i h. take_get cells n i (shown c (value_in locals i)) (omega (arith, h)) (a.local i h);
      temps = take_temps c (length locals) n vs cells (omega arith) a.temps;
      room = omega (arith, l);
    }

module _ (p : Code) (f wants : ℕ) (names : List ℕ) (below : List SlotFrame) where
  pub may_is : (cells : List slot.Value) (first count : ℕ) → first + count ≤ length cells → (function_at p f).locals ≤ first → first < limit p f → count ≤ 6 → may_hand (function_at p f) cells first count ≡ true
  unfolding may_hand
  may_is cells first count h g l k = grind (arith, nat_tests, h, g, l, k)

  number_is : (n : ℕ) → n ≢ 0 → (n == 0) ≡ false
  number_is zero h = absurd (h refl)
  number_is (suc n) h = grind (arith, nat_tests)

  -- A call of the kernel.
  pub asks : (at : ℕ) (cells : List slot.Value) (os : List slot.Object) (number first count : ℕ) (inputs : List (List ℕ)) → slice_get (ops_in p f) at ≡ Some (op.Ask number first count) → may_hand (function_at p f) cells first count ≡ true → number ≢ 0
      → call_inputs (p.rows number) os (cells_from cells first count) ≡ Some inputs
      → step p (at_place p f wants names below at cells os) ≡ Requests (record { number = number; words = words_of (cells_from cells first count); inputs = inputs }) (outputs_of (p.rows number).kinds (cells_from cells first count)) (state (slot_frame f (at + 1) first names (take first cells) ∷ below) os) 20
  asks at cells os number first count inputs h may some is =
      let args = cells_from cells first count in
      let c = slot_frame f at wants names cells in
      let go = λ (inputs : List (List ℕ)). Requests (record { number = number; words = words_of args; inputs = inputs }) (outputs_of (p.rows number).kinds args) (state (slot_frame f (at + 1) first names (take first cells) ∷ below) os) 20 in
      step_is p f wants names below at cells os (op.Ask number first count) h
      ∙ ap (λ b. if b then requested p below os c 20 number first args else Fails NoCell) may
      ∙ ap (λ b. if b then Fails NoFit else on_inputs (call_inputs (p.rows number) os args) go) (number_is number some)
      ∙ ap (λ r. on_inputs r go) is

  count_is : (n k : ℕ) → n ≡ k → (n == k) ≡ true
  count_is n k h = grind (arith, nat_tests, h)

  -- A call of a function.
  pub goes : (at : ℕ) (cells : List slot.Value) (os : List slot.Object) (h first count : ℕ) → slice_get (ops_in p f) at ≡ Some (op.Go h first count) → may_hand (function_at p f) cells first count ≡ true → length (cells_from cells first count) ≡ (function_at p h).params
      → step p (at_place p f wants names below at cells os) ≡ entered p (opened h (cells_from cells first count) ∷ slot_frame f (at + 1) first names (take first cells) ∷ below) os 30
  goes at cells os h first count has may is =
      let args = cells_from cells first count in
      step_is p f wants names below at cells os (op.Go h first count) has
      ∙ ap (λ b. if b then called p below os (slot_frame f at wants names cells) 30 h first args else Fails NoCell) may
      ∙ ap (λ b. if b then entered p (opened h args ∷ slot_frame f (at + 1) first names (take first cells) ∷ below) os 30 else Fails NoFit) (count_is (length args) (function_at p h).params is)

  -- A call is over.
  pub gives : (at : ℕ) (cells : List slot.Value) (os : List slot.Object) (r : Operand) (x : slot.Value) → slice_get (ops_in p f) at ≡ Some (op.Give r) → operand cells r ≡ Some x → step p (at_place p f wants names below at cells os) ≡ given below (without names os) 20 x
  gives at cells os r x h e = step_is p f wants names below at cells os (op.Give r) h ∙ ap (λ z. on_value z (λ x. given below (without names os) 20 x)) e

  -- An array is made.
  pub makes : (at : ℕ) (cells : List slot.Value) (os : List slot.Object) (k : ℕ) (a : SlotArray) → slice_get (ops_in p f) at ≡ Some (op.Make k) → slice_get (function_at p f).arrays k ≡ Some a → k ≡ length names
      → step p (at_place p f wants names below at cells os) ≡ made below os (slot_frame f at wants names cells) (3 * array_words (Some a) + 6) k (Some a)
  makes at cells os k a h e is = step_is p f wants names below at cells os (op.Make k) h ∙ ap (λ r. made below os (slot_frame f at wants names cells) (3 * array_words r + 6) k r) e

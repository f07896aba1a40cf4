-- Slot code follows the end of a call.
use Rattle.std.proofs.Common.{◌≡◌, ℕ, suc, ◌+◌, List, [], ◌∷◌, length, Some, refl, sym, ap, ◌∙◌, subst, arith}
use Rattle.std.specs.Prelude.{slice_get}
use Rattle.nx_cobjects.specs.declared.value.Value.{Value}
use Rattle.nx_cobjects.specs.declared.value.Value.TheVariants as value
use Rattle.nx_cobjects.specs.Memory.{Memory, memory, end_arrays}
use Rattle.nx_cmean.specs.Items.{Item, Leave, Fall}
use Rattle.nx_slot.specs.declared.op.Operand.TheVariants as operand
use Rattle.nx_slot.specs.Objects as slot
use Rattle.nx_slot.specs.Meaning.{Code, SlotFrame, state, Goes, Finishes, function_at, without, delivered, step}
use Rattle.nx_lower.specs.Shown.{Counts, counts_of, statics_in, shown, objects_of}
use Rattle.nx_lower.specs.Code.{Source, counts}
use Rattle.nx_lower.specs.Laws.{names_from}
use Rattle.nx_lower.proofs.Objects.{ends}
use Rattle.nx_lower.proofs.Cells.{Plain, AreAlike}
use Rattle.nx_lower.proofs.Steps.{at_place}
use Rattle.nx_lower.proofs.Lies.{Body, item_lies, Lies}
use Rattle.nx_lower.proofs.Handing.{gives}

module _ (s : Source) (p : Code) (f back exit from arrays made wants : ℕ) (names : List ℕ) where
  -- The arrays of the call end in both.
  gone : (m : Memory) → counts_of m.group ≡ counts s → names ≡ names_from (statics_in (counts s) + from) made → made ≡ arrays → without names (objects_of m) ≡ objects_of (memory m.group (end_arrays m.own from arrays))
  gone m same is all =
      ap (λ (l : List ℕ). without l (objects_of m)) is
      ∙ ap (λ (c : Counts). without (names_from (statics_in c + from) made) (objects_of m)) (sym same)
      ∙ ap (λ (n : ℕ). without (names_from (statics_in (counts_of m.group) + from) n) (objects_of m)) all
      ∙ sym (ends m from arrays)

  -- A value comes to the caller.
  pub leave_does : (m : Memory) (locals : List Value) (v : Value) (k : List Item) (cells : List slot.Value) (pc o : ℕ) (caller : SlotFrame) (below : List SlotFrame) → counts_of m.group ≡ counts s → names ≡ names_from (statics_in (counts s) + from) made → arrays ≡ length (function_at p f).arrays → AreAlike (counts s) locals (v ∷ []) cells
      → item_lies s p f back exit Leave (Body k) (λ back exit pc z d top o. Lies s p f back exit k pc z d top o) pc (record { cells = length locals; made = made }) (suc 0) Plain o
      → step p (at_place p f wants names (caller ∷ below) pc cells (objects_of m)) ≡ Goes (state (delivered (caller ∷ below) (shown (counts s) v)) (objects_of (memory m.group (end_arrays m.own from arrays)))) 20
  leave_does m locals v k cells pc o caller below same is all a l =
      let e : length locals + 0 ≡ length locals = omega arith in
      let read = subst (λ (i : ℕ). slice_get cells i ≡ Some (shown (counts s) v)) e a.temps.0 in
      gives p f wants names (caller ∷ below) pc cells (objects_of m) (operand.Cell (length locals)) (shown (counts s) v) l.0 read
      ∙ ap (λ (os : List slot.Object). Goes (state (delivered (caller ∷ below) (shown (counts s) v)) os) 20) (gone m same is (l.1 ∙ sym all))

  pub fall_does : (m : Memory) (locals : List Value) (k : List Item) (cells : List slot.Value) (pc o : ℕ) (caller : SlotFrame) (below : List SlotFrame) → counts_of m.group ≡ counts s → names ≡ names_from (statics_in (counts s) + from) made → arrays ≡ length (function_at p f).arrays
      → item_lies s p f back exit Fall (Body k) (λ back exit pc z d top o. Lies s p f back exit k pc z d top o) pc (record { cells = length locals; made = made }) 0 Plain o
      → step p (at_place p f wants names (caller ∷ below) pc cells (objects_of m)) ≡ Goes (state (delivered (caller ∷ below) (slot.Int 0)) (objects_of (memory m.group (end_arrays m.own from arrays)))) 20
  fall_does m locals k cells pc o caller below same is all l =
      gives p f wants names (caller ∷ below) pc cells (objects_of m) (operand.Number 0) (slot.Int 0) l.0 refl
      ∙ ap (λ (os : List slot.Object). Goes (state (delivered (caller ∷ below) (slot.Int 0)) os) 20) (gone m same is (l.1 ∙ sym all))

  -- The first function gives a number.
  pub end_does : (m : Memory) (locals : List Value) (n : ℕ) (k : List Item) (cells : List slot.Value) (pc o : ℕ) → counts_of m.group ≡ counts s → names ≡ names_from (statics_in (counts s) + from) made → arrays ≡ length (function_at p f).arrays → AreAlike (counts s) locals (value.Int n ∷ []) cells
      → item_lies s p f back exit Leave (Body k) (λ back exit pc z d top o. Lies s p f back exit k pc z d top o) pc (record { cells = length locals; made = made }) (suc 0) Plain o
      → step p (at_place p f wants names [] pc cells (objects_of m)) ≡ Finishes n (objects_of (memory m.group (end_arrays m.own from arrays))) 20
  end_does m locals n k cells pc o same is all a l =
      let e : length locals + 0 ≡ length locals = omega arith in
      let read = subst (λ (i : ℕ). slice_get cells i ≡ Some (slot.Int n)) e a.temps.0 in
      gives p f wants names [] pc cells (objects_of m) (operand.Cell (length locals)) (slot.Int n) l.0 read
      ∙ ap (λ (os : List slot.Object). Finishes n os 20) (gone m same is (l.1 ∙ sym all))

  pub fall_end_does : (m : Memory) (locals : List Value) (k : List Item) (cells : List slot.Value) (pc o : ℕ) → counts_of m.group ≡ counts s → names ≡ names_from (statics_in (counts s) + from) made → arrays ≡ length (function_at p f).arrays
      → item_lies s p f back exit Fall (Body k) (λ back exit pc z d top o. Lies s p f back exit k pc z d top o) pc (record { cells = length locals; made = made }) 0 Plain o
      → step p (at_place p f wants names [] pc cells (objects_of m)) ≡ Finishes 0 (objects_of (memory m.group (end_arrays m.own from arrays))) 20
  fall_end_does m locals k cells pc o same is all l =
      gives p f wants names [] pc cells (objects_of m) (operand.Number 0) (slot.Int 0) l.0 refl
      ∙ ap (λ (os : List slot.Object). Finishes 0 os 20) (gone m same is (l.1 ∙ sym all))

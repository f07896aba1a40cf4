-- Slot code follows a call of the kernel.
use Rattle.std.proofs.Common.{◌≡◌, ℕ, suc, ◌+◌, ◌<◌, ◌≤◌, List, [], ◌∷◌, length, map, Some, ap, ◌∙◌, subst, arith}
use Rattle.std.specs.Prelude.{slice_get, take}
use Rattle.nx_base.specs.Calls.{Call, Row}
use Rattle.nx_checked.specs.declared.checked.UsedCall.{UsedCall}
use Rattle.nx_cobjects.specs.declared.value.Value.{Value}
use Rattle.nx_cobjects.specs.Memory.{Memory}
use Rattle.nx_cobjects.specs.Buffers.{enters, inputs_of, outputs_of, words_of}
use Rattle.nx_cmean.specs.Items.{Item, Ask}
use Rattle.nx_cmean.specs.Meaning.{Took, taken}
use Rattle.nx_slot.specs.declared.op.SlotOp.TheVariants as op
use Rattle.nx_slot.specs.Objects as slot
use Rattle.nx_slot.specs.Calls.{call_inputs}
use Rattle.nx_slot.specs.Calls.{words_of as slot_words, outputs_of as slot_pointers}
use Rattle.nx_slot.specs.Meaning.{Code, SlotFrame, state, Requests, function_at, cells_from, step}
use Rattle.nx_lower.specs.Shown.{Counts, counts_of, shown, objects_of}
use Rattle.nx_lower.specs.Code.{Source, counts, call_number, number_of}
use Rattle.nx_lower.specs.Laws.{row_of}
use Rattle.nx_lower.specs.Sound.{Stage, IsCall, SoundCall}
use Rattle.nx_lower.proofs.Cells.{Top, Plain, Tops, AreAlike}
use Rattle.nx_lower.proofs.Steps.{ops_in, limit, slot_frame, at_place}
use Rattle.nx_lower.proofs.Lies.{Body, item_lies, Lies}
use Rattle.nx_lower.proofs.Acts.{plain_alike}
use Rattle.nx_lower.proofs.Handing.{popped, row_alone, alike_take, may_is, asks}
use Rattle.nx_lower.proofs.Telling.{CanTell, can_tell}
use Rattle.nx_lower.proofs.Inputs.{words_same, pointers_same, inputs_same}

module _ (s : Source) (p : Code) (f back exit made wants : ℕ) (names : List ℕ) (below : List SlotFrame) where
  -- The call that is made, and the open call that waits for its value.
  pub record Asked (m : Memory) (locals vs : List Value) (k : List Item) (cells : List slot.Value) (pc i n o : ℕ) : Type 0 where
    pub args : List Value
    pub rest : List Value
    pub used : UsedCall
    pub took : taken n vs [] ≡ Took args rest
    pub named : slice_get s.program.calls i ≡ Some used
    pub makes : (inputs : List (List ℕ)) → inputs_of m used args ≡ Some inputs
        → step p (at_place p f wants names below pc cells (objects_of m))
        ≡ Requests (record { number = used.number; words = words_of args; inputs = inputs }) (map (shown (counts s)) (outputs_of used.kinds args)) (state (slot_frame f (pc + 1) (length locals + length rest) names (take (length locals + length rest) cells) ∷ below) (objects_of m)) 20
    pub ready : (inputs : List (List ℕ)) → inputs_of m used args ≡ Some inputs → CanTell (counts s) (length m.own) p.rows (record { number = used.number; words = words_of args; inputs = inputs }) (outputs_of used.kinds args)
    pub alike : AreAlike (counts s) locals rest (take (length locals + length rest) cells)
    pub lies : Lies s p f back exit k (pc + 1) (record { cells = length locals; made = made }) (suc (length rest)) Plain (o + 16)

  pub ask_does : (i n : ℕ) (m : Memory) (locals vs : List Value) (k : List Item) (cells : List slot.Value) (pc o : ℕ) (top : Top) → counts_of m.group ≡ counts s → ((j : ℕ) (c : UsedCall) → slice_get s.program.calls j ≡ Some c → SoundCall p.rows c) → (function_at p f).locals ≤ length locals → Tops (counts s) top locals vs cells
      → item_lies s p f back exit (Ask i n) (Body k) (λ back exit pc z d top o. Lies s p f back exit k pc z d top o) pc (record { cells = length locals; made = made }) (length vs) top o → Asked m locals vs k cells pc i n o
  ask_does i n m locals vs k cells pc o top same sound whole tops l =
      let z : Stage = record { cells = length locals; made = made } in
      let h = plain_alike s top locals vs cells _ l tops in
      let P = λ (e : ℕ). (slice_get (ops_in p f) pc ≡ Some (op.Ask (number_of s i) (z.cells + e) n)) × (z.cells + e < limit p f) × (IsCall s i n × Lies s p f back exit k (pc + 1) z (suc e) Plain (o + 16)) in
      let q = popped (counts s) n locals vs [] cells P h.0 h.1 in
      let g = q.holds in let c = g.2.0 in let used = c.0 in let t = sound i used c.1 in
      let first = length locals + length q.rest in
      let row = row_alone (counts s) n locals vs cells P q in
      let room = h.0.room in let size = q.size in let count = q.count in let many = c.2 in let few = t.few in
      let number : number_of s i ≡ used.number = ap call_number c.1 in
      let code = subst (λ (x : ℕ). slice_get (ops_in p f) pc ≡ Some (op.Ask x first n)) number g.0 in
      let may = may_is p f wants names below cells first n (omega (arith, room, size)) (omega (arith, whole)) g.1 (omega (arith, many, few)) in
      record {
        args = q.args;
        rest = q.rest;
        used = used;
        took = q.took;
        named = c.1;
        makes = λ inputs is.
            let xs = map (shown (counts s)) q.args in
            let os = objects_of m in
            let told = inputs_same m (counts s) same (enters used) used.kinds q.args inputs (omega (arith, count, many)) is in
            let given : call_inputs (p.rows used.number) os (cells_from cells first n) ≡ Some inputs = ap (λ (r : Row). call_inputs r os (cells_from cells first n)) t.row ∙ ap (call_inputs (row_of used) os) row ∙ told in
            let next = state (slot_frame f (pc + 1) first names (take first cells) ∷ below) os in
            asks p f wants names below pc cells os used.number first n inputs code may t.number given
            ∙ ap (λ (l : List slot.Value). Requests (record { number = used.number; words = slot_words l; inputs = inputs }) (slot_pointers (p.rows used.number).kinds l) next 20) row
            ∙ ap (λ (r : Row). Requests (record { number = used.number; words = slot_words xs; inputs = inputs }) (slot_pointers r.kinds xs) next 20) t.row
            ∙ ap (λ (w : List ℕ). Requests (record { number = used.number; words = w; inputs = inputs }) (slot_pointers used.kinds xs) next 20) (words_same (counts s) q.args)
            ∙ ap (λ (l : List slot.Value). Requests (record { number = used.number; words = words_of q.args; inputs = inputs }) l next 20) (pointers_same (counts s) used.kinds q.args);
        ready = λ inputs is.
            let call : Call = record { number = used.number; words = words_of q.args; inputs = inputs } in
            subst (λ (c : Counts). CanTell c (length m.own) p.rows call (outputs_of used.kinds q.args)) same (can_tell p.rows m used q.args inputs t (omega (arith, count, many)) is);
        alike = alike_take (counts s) locals q.rest cells q.alike;
        lies = g.2.1;
      }

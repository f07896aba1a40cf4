-- What holds of a table's rows holds of its gates.
use Rattle.std.proofs.Common.{◌≡◌, ◌≢◌, ℕ, suc, ◌+◌, ◌<◌, ◌≤◌, ◌==◌, Bool, true, false, cond, Option, Some, List, [], ◌∷◌, length, map, get_or, refl, sym, ap, ◌∙◌, subst, arith}
use Rattle.std.specs.Prelude.{All}
use Rattle.std.specs.Option.{IfSome}
use Rattle.std.proofs.lemmas.List.{get_or-map, length-map}
use Rattle.nx_gate.specs.declared.gate.Gate.{Gate}
use Rattle.nx_calls.specs.declared.row.CallRow.{CallRow}
use Rattle.nx_calls.specs.Table.{AreRows}
use Rattle.nx_gate.specs.Gates.{gate_of, gate_numbered, AreSmall, IsGate, AreGates}

-- a row with the fields of a gate
row_of : Gate → CallRow
row_of gate = record { name = gate.name; number = gate.number; kinds = gate.kinds; returns = gate.returns; kernel = gate.kernel }

-- the gate at a place is that of the row there
at_place : (rows : List CallRow) (k : ℕ) (d : Gate) → k < length rows → get_or (map gate_of rows) k d ≡ gate_of (get_or rows k (row_of d))
at_place rows k d l = get_or-map gate_of rows k (row_of d) d l

pub gates_of_rows : (rows : List CallRow) → AreRows rows → AreGates (map gate_of rows)
gates_of_rows rows p =
    let long : length (map gate_of rows) ≡ length rows = length-map rows gate_of in
    record {
      few = omega (arith, long, p.few);
      numbers = λ k d l. let m : k < length rows = omega (arith, l, long) in ap (λ (g : Gate). g.number) (at_place rows k d m) ∙ p.numbers k (row_of d) m;
      fit = λ k d l.
          let m : k < length rows = omega (arith, l, long) in
          let row = p.fit k (row_of d) m in
          subst (λ (g : Gate). IsGate g) (sym (at_place rows k d m)) (record { kernel = row.kernel; kinds = row.kinds });
      names = λ i j d l m e.
          let n : j < length rows = omega (arith, m, long) in
          let o : i < length rows = omega (arith, l, n) in
          p.names i j (row_of d) l n (sym (ap (λ (g : Gate). g.name) (at_place rows i d o)) ∙ e ∙ ap (λ (g : Gate). g.name) (at_place rows j d n));
    }

-- so it holds of gates that were made of such rows
pub gates_made : (gates : List Gate) (rows : List CallRow) → gates ≡ map gate_of rows → AreRows rows → AreGates gates
gates_made gates rows e p = subst (λ gs. AreGates gs) (sym e) (gates_of_rows rows p)

-- the numbers of gates are small
pub small_numbers : (gates : List Gate) → AreGates gates → AreSmall gates
small_numbers gates p = λ k d l. let n = p.numbers k d l in (omega (arith, n), omega (arith, n, l, p.few))

-- a gate that is found is one of them
pub found_fits : (number : ℕ) (gates : List Gate) → All IsGate gates → IfSome (gate_numbered number gates) IsGate
found_fits number [] p = tt
found_fits number (g ∷ gs) p =
    let rest : IfSome (gate_numbered number gs) IsGate = found_fits number gs (λ k d l. p (suc k) d (omega (arith, l))) in
    chosen (g.number == number) (gate_numbered number gs) (p 0 g (omega (arith))) rest
  where
    chosen : (b : Bool) (o : Option Gate) → IsGate g → IfSome o IsGate → IfSome (cond b (Some g) o) IsGate
    chosen true o here there = here
    chosen false o here there = there

-- The configuration of the flat build has no fault, and the call table of one row has the row of write. nx_build will take its place.
use Rattle.std.proofs.Common.{◌≡◌, ℕ, ℤ, true, List, [], ◌∷◌, map, Option, Some, None, Ok, Err, refl, sym, ◌∙◌, ap, subst, arith}
use Rattle.std.specs.Prelude.{codes}
use Rattle.csv.specs.Machine.{next_record}
use Rattle.csv.specs.Reading.{AreRecords, Reached, default_config, strip_bom}
use Rattle.csv.specs.declared.parser.State.TheVariants as st
use Rattle.nx_base.specs.declared.calls.Kind.TheVariants.{Word, In, Len}
use Rattle.nx_base.specs.declared.calls.KCall.TheVariants.{Write}
use Rattle.nx_base.specs.KernelCalls.{all_calls}
use Rattle.nx_conditions.specs.declared.meaning.Meaning.{Meaning}
use Rattle.nx_config.specs.Configuration.{Configuration, IsOfText, first_fault}
use Rattle.nx_config.specs.Limits.{limits_by}
use Rattle.nx_config.specs.Line.{value_of, assigned, unset, trimmed_says}
use Rattle.nx_config.specs.Numbers.{magnitude_of, integer_of}
use Rattle.nx_calls.specs.declared.row.CallRow.{CallRow}
use Rattle.nx_calls.specs.Kinds.{is_size, is_input, is_output, is_text, is_number, is_pair, lone_kind, kind_of}
use Rattle.nx_calls.specs.Rows.{Says, Taken, IsWorth, Verdict, declared_row, typed, kinds_in, fits, parameters}
use Rattle.nx_calls.specs.Types.{plain, type_of}
use Rattle.nx_calls.specs.declared.fault.CallsFault.{CallsFault}
use Rattle.nx_calls.specs.Meanings.{meaning_in, meaning_by}
use Rattle.nx_calls.specs.Table.{IsTable, cells_of, Empty, True, Rows}
use Rattle.nx_calls.proofs.OneTable.{one_table}
use Rattle.nx_conditions.specs.declared.token.Token.TheVariants as token
use Rattle.nx_conditions.specs.declared.condition.Condition.TheVariants as condition
use Rattle.nx_conditions.specs.declared.condition.Condition.TheOpen as form
use Rattle.nx_conditions.specs.declared.condition.Condition.TheViews.{roll-Condition}
use Rattle.nx_conditions.specs.declared.condition.Condition.TheFolds.{fold-roll-Condition}
use denote.Hole.Carrier.{roll}
use Rattle.nx_conditions.specs.Value.{holds, is_true, form_value}
use Rattle.nx_conditions.specs.Grammar as grammar
use Rattle.nx_conditions.specs.Tokens as tokens
use Rattle.nx_config.specs.declared.fault.ConfigFault.{ConfigFault}
use Rattle.nx_gate.specs.declared.gate.Gate.{Gate}
use Rattle.nx_gate.specs.Gates.{gate_of}
use Rattle.nx_top.specs.first.Compiled.{IsWriteGate}
use Rattle.nx_top.specs.first.ReportOf.{AreGatesRead}
use Rattle.nx_top.proofs.Listings.{table_by}
use Rattle.nx_top.specs.first.Inputs.{config_text, calls_text}

pub flat_good : first_fault config_text ≡ None
unfolding config_text limits_by value_of assigned unset trimmed_says magnitude_of integer_of
flat_good = refl

unfoldable pub write_types : List (List ℕ)
write_types = codes "int" ∷ codes "const void *" ∷ codes "size_t" ∷ []

unfoldable pub write_fields : List (List ℕ)
write_fields = codes "write" ∷ codes "nxsim.h" ∷ [] ∷ codes "int" ∷ write_types

unfoldable pub write_row : CallRow
write_row = record { name = codes "write"; number = 16; kinds = record { items = Word ∷ In ∷ Len ∷ [] }; returns = true; kernel = Some Write }

pub one_record : AreRecords default_config st.StartRecord (strip_bom calls_text) (write_fields ∷ [])
unfolding Reached next_record calls_text strip_bom write_fields write_types
one_record = (_, _, (_, refl, refl, (refl, refl)), refl)

pub row_declared : declared_row [] (codes "write") (codes "int") (parameters write_types) ≡ Ok (Some write_row)
unfolding declared_row typed kinds_in fits plain type_of is_size is_input is_output is_text is_number is_pair lone_kind kind_of all_calls write_row write_types
row_declared = refl

always : (means : List ℕ → Option Meaning) → holds means condition.Always ≡ true
unfolding roll-Condition roll
always means = ap is_true (fold-roll-Condition ℤ (form_value means) form.Always)

worth : (means : List ℕ → Option Meaning) → IsWorth means [] true
worth means = record {
  short = omega arith;
  tree = condition.Always;
  read = record { tokens = token.End ∷ []; spelled = tokens.End; read = grammar.Empty [] };
  holds = always means;
}

row_said : (means : List ℕ → Option Meaning) → Says means [] (cells_of write_fields) (Ok (Some write_row))
unfolding write_fields write_types
row_said means =
    subst (λ (v : Verdict). Says means [] (codes "write" ∷ codes "nxsim.h" ∷ [] ∷ codes "int" ∷ write_types) v) row_declared
    (Taken (codes "write") (codes "nxsim.h") [] (codes "int") write_types refl (worth means))

-- the table of write under any configuration
pub write_table : (means : List ℕ → Option Meaning) → IsTable means calls_text (Ok (write_row ∷ []))
write_table means = record { records = write_fields ∷ []; are = one_record; give = Rows _ _ (True [] [] write_fields write_row Empty (row_said means)) }

-- so it has no fault
pub no_config_fault : (text : List ℕ) (fault : ConfigFault) → text ≡ config_text → first_fault text ≡ Some fault → ⊥
no_config_fault text fault e h =
    let q : None ≡ Some fault = sym flat_good ∙ sym (ap first_fault e) ∙ h in
    absurd cc

pub no_calls_fault : (means : List ℕ → Option Meaning) (text : List ℕ) (fault : CallsFault) → text ≡ calls_text → IsTable means text (Err fault) → ⊥
no_calls_fault means text fault e h =
    let q : Ok (write_row ∷ []) ≡ Err fault = one_table means calls_text _ _ (write_table means) (subst (λ (x : List ℕ). IsTable means x (Err fault)) e h) in
    absurd cc

-- its gates are that of write
pub write_gates : (means : List ℕ → Option Meaning) (text : List ℕ) (rows : List CallRow) (gates : List Gate) → text ≡ calls_text → IsTable means text (Ok rows) → gates ≡ map gate_of rows
    → (gate : Gate) × IsWriteGate gate × (gates ≡ gate ∷ [])
unfolding write_row
write_gates means text rows gates e h is =
    let q : Ok (write_row ∷ []) ≡ Ok rows = one_table means calls_text _ _ (write_table means) (subst (λ (x : List ℕ). IsTable means x (Ok rows)) e h) in
    let same : write_row ∷ [] ≡ rows = cc in
    (gate_of write_row, record { number = refl; three = refl }, is ∙ sym (ap (map gate_of) same))

-- the gates of the table that was read are those of the table under its configuration
pub gates_read : (c : Configuration) (config calls : List ℕ) (rows : List CallRow) (gates : List Gate) → config ≡ config_text → calls ≡ calls_text → IsOfText c config → IsTable (meaning_in c) calls (Ok rows)
    → gates ≡ map gate_of rows → AreGatesRead gates
gates_read c config calls rows gates e f h t is =
    let by = table_by c config calls (Ok rows) h t in
    (rows, subst (λ (x : List ℕ). IsTable (meaning_by x) calls_text (Ok rows)) e (subst (λ (x : List ℕ). IsTable (meaning_by config) x (Ok rows)) f by), is)

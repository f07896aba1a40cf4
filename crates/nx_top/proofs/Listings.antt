-- What a configuration and a call table come to.
use Rattle.std.proofs.Common.{◌≡◌, ℕ, List, [], ◌∷◌, map, Option, Some, Result, Ok, Err, IfOk, inl, inr, refl, sym, subst}
use Rattle.nx_base.specs.declared.out_of_memory.OutOfMemory.{OutOfMemory}
use Rattle.nx_config.specs.declared.fault.ConfigKind.{ConfigKind}
use Rattle.nx_config.specs.declared.fault.ConfigFault.TheVariants as config_fault
use Rattle.nx_config.specs.Configuration.{Configuration, IsOfText, first_fault, value_kept}
use Rattle.nx_calls.specs.declared.fault.CallsKind.{CallsKind}
use Rattle.nx_calls.specs.declared.fault.CallsFault.{CallsFault}
use Rattle.nx_calls.specs.declared.fault.CallsFault.TheVariants as calls_fault
use Rattle.nx_calls.specs.declared.row.CallRow.{CallRow}
use Rattle.nx_calls.specs.Meanings.{meaning_of, meaning_in, meaning_by}
use Rattle.nx_calls.specs.Table.{IsTable}
use Rattle.nx_conditions.specs.declared.meaning.Meaning.{Meaning}
use Rattle.nx_gate.specs.Gates.{gate_of, listing_of}
use Rattle.nx_top.specs.declared.answer.Answer.{Answer}
use Rattle.nx_top.specs.declared.answer.Answer.TheVariants.{Faulty, Done}
use Rattle.nx_top.specs.declared.refusal.FaultKind.TheVariants.{Config, Calls}
use Rattle.nx_top.specs.CommandLine.{GatesForm, CommandLine, Gates}
use Rattle.nx_top.specs.Promises.{ContentsComeTo, Refused, Answered}

-- the names of a configuration mean what they mean by its text
pub meanings_same : (c : Configuration) (text : List ℕ) → IsOfText c text → meaning_in c ≡ meaning_by text
meanings_same c text h = λ i name. meaning_of (value_kept (h.values name i))

-- a table under a configuration is one under its text
pub table_by : (c : Configuration) (config calls : List ℕ) (r : Result (List CallRow) CallsFault) → IsOfText c config → IsTable (meaning_in c) calls r → IsTable (meaning_by config) calls r
table_by c config calls r h t = subst (λ (means : List ℕ → Option Meaning). IsTable means calls r) (meanings_same c config h) t

-- an answer that contents come to
pub comes_to : (r : Result Answer OutOfMemory) (c : CommandLine) (contents : List (Option (List ℕ))) (a : Answer) → ContentsComeTo c contents a → IfOk r (λ b. b ≡ a) → IfOk r (λ b. ContentsComeTo c contents b)
comes_to (Ok b) c contents a h e = subst (λ (x : Answer). ContentsComeTo c contents x) (sym e) h
comes_to (Err e) c contents a h k = tt

pub bad_config : (form : GatesForm) (config calls : List ℕ) (line : ℕ) (kind : ConfigKind) → first_fault config ≡ Some (config_fault.Text line kind)
    → ContentsComeTo (Gates form) (Some config ∷ Some calls ∷ []) (Faulty (record { file = form.config; line = line; kind = Config kind }))
bad_config form config calls line kind e = Refused _ (inl (line, kind, e, refl))

pub bad_calls : (form : GatesForm) (c : Configuration) (config calls : List ℕ) (row : ℕ) (kind : CallsKind) → IsOfText c config → IsTable (meaning_in c) calls (Err (calls_fault.Text row kind))
    → ContentsComeTo (Gates form) (Some config ∷ Some calls ∷ []) (Faulty (record { file = form.calls; line = row; kind = Calls kind }))
bad_calls form c config calls row kind h t = Refused _ (inr (h.good, inl (row, kind, table_by c config calls _ h t, refl)))

pub lists : (form : GatesForm) (c : Configuration) (config calls : List ℕ) (rows : List CallRow) → IsOfText c config → IsTable (meaning_in c) calls (Ok rows)
    → ContentsComeTo (Gates form) (Some config ∷ Some calls ∷ []) (Done 0 (listing_of (map gate_of rows) ∷ []))
lists form c config calls rows h t =
    let by = table_by c config calls _ h t in
    Answered _ (h.good, ((rows, by), tt)) (rows, by, refl)

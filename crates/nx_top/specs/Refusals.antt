-- The line of a refusal, and how a file that has no reading is named in one.
use Rattle.std.specs.Prelude.{ℕ, List, [], ◌∷◌, ◌++◌, codes}
use Rattle.std.specs.Fmt.{decimal}
use Rattle.nx_config.specs.FaultTexts as config_texts
use Rattle.nx_calls.specs.FaultTexts as calls_texts
use Rattle.nx_top.specs.declared.refusal.FaultKind.{FaultKind}
use Rattle.nx_top.specs.declared.refusal.FaultKind.TheVariants.{Config, Calls}
use Rattle.nx_top.specs.declared.refusal.FileFault.{FileFault}

-- the words for what is wrong
abbrev pub kind_text : FaultKind → List ℕ
kind_text (Config kind) = config_texts.kind_text kind
kind_text (Calls kind) = calls_texts.kind_text kind

-- the line, or of a call table the record, and the words for what is wrong
unfoldable pub line_and_kind : FileFault → List ℕ
line_and_kind fault = 58 ∷ decimal fault.line ++ codes ": " ++ kind_text fault.kind

-- the file, and what is wrong where
abbrev pub fault_text : FileFault → List ℕ
fault_text fault = fault.file ++ line_and_kind fault

-- a refusal is one line
unfoldable pub refusal : List ℕ → List ℕ
refusal text = codes "nxsim: " ++ text ++ 10 ∷ []

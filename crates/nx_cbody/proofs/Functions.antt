-- A function is accepted exactly where it is well typed.
use Rattle.std.proofs.Common.{◌≡◌, ℕ, Bool, List, [], refl}
use Rattle.std.specs.Prelude.{Ok}
use Rattle.nx_calls.specs.declared.row.CallRow.{CallRow}
use Rattle.nx_checked.specs.declared.checked.CheckedFunction.{CheckedFunction}
use Rattle.nx_ctree.specs.declared.program.Function.{Function}
use Rattle.nx_ctree.specs.declared.program.Param.{Param}
use Rattle.nx_ctype.specs.declared.names.Names.{Names}
use Rattle.nx_ctype.specs.declared.used.Used.{Used}
use Rattle.nx_cbody.specs.Declarations.{Declared, opening, params_verdict}
use Rattle.nx_cbody.specs.Functions.{function_verdict}
use Rattle.nx_cbody.specs.TypedFunctions.{AreParams, IsFunction}
use Rattle.nx_cbody.proofs.Contexts.{opens_at}
use Rattle.nx_cbody.proofs.SoundFunctions as sound
use Rattle.nx_cbody.proofs.CompleteFunctions as complete
use Rattle.nx_cbody.proofs.ToSteps as to
use Rattle.nx_cbody.proofs.FromSteps as from

pub function_on : (rows : List CallRow) (line : ℕ) {names : Names} {returns : Bool} {ps : List Param} {f : Function} {s t : Used} {g : CheckedFunction} → IsFunction rows names returns ps f s g t → function_verdict rows names line returns ps f s ≡ Ok (g, t)
function_on rows line h = sound.steps_on rows line (to.typed_on rows h)

pub function_back : (rows : List CallRow) (line : ℕ) (names : Names) (returns : Bool) (ps : List Param) (f : Function) (s t : Used) (g : CheckedFunction) → function_verdict rows names line returns ps f s ≡ Ok (g, t) → IsFunction rows names returns ps f s g t
function_back rows line names returns ps f s t g h = from.typed_back rows (complete.steps_back rows line names returns ps f s t g h)

-- So are parameters alone.
pub parameters_on : (names : Names) {last : Names} {ps : List Param} → AreParams (record names { locals = [] }) ps last → (d : Declared) × (params_verdict (opening names) ps ≡ Ok d)
parameters_on names h =
    let q = to.params_on h (opening names) refl (opens_at names) in
    (q.0, sound.params_on q.1)

pub parameters_back : (names : Names) (ps : List Param) (d : Declared) → params_verdict (opening names) ps ≡ Ok d → AreParams (record names { locals = [] }) ps d.names
parameters_back names ps d h =
    let q = from.params_back (complete.params_back (opening names) d ps h) (opens_at names) in
    q.0

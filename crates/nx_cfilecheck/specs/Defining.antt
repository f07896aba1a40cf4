-- What follows the tests of a prototype's head and of a definition's, and what a file comes to.
use Rattle.std.specs.Prelude.{ℕ, List, Result, Ok}
use Rattle.nx_calls.specs.declared.row.CallRow.{CallRow}
use Rattle.nx_ctok.specs.declared.fault.CFault.{CFault}
use Rattle.nx_ctree.specs.declared.program.External.{External}
use Rattle.nx_ctree.specs.declared.program.Function.{Function as Body}
use Rattle.nx_ctree.specs.declared.program.Param.{Param}
use Rattle.nx_checked.specs.declared.checked.Checked.{Checked}
use Rattle.nx_ctyping.specs.Checks.{◌>>=◌}
use Rattle.nx_cbody.specs.Declarations.{opening, params_verdict}
use Rattle.nx_cbody.specs.Functions.{function_verdict}
use Rattle.nx_ccheck.specs.Defined.{returns_of}
use Rattle.nx_ccheck.specs.Files.{closed, with_defined, with_checked, calls_of}
use Rattle.nx_ccheck.specs.declared.known.Known.{Known}

-- The parameters of a prototype are tried and let go.
abbrev pub trying : Known → List Param → Result Known CFault
trying k ps = params_verdict (opening k.names) ps >>= (λ p. Ok (closed k))

-- A function is checked and added.
abbrev pub defining : List CallRow → Known → External → List Param → Body → Result Known CFault
defining rows k x ps f = function_verdict rows k.names x.line (returns_of x.result) ps f k.used >>= (λ r. Ok (with_checked (with_defined k x.name) r))

-- A program whose main function has a place.
abbrev pub program_at : List CallRow → Known → ℕ → Checked
program_at rows k n = record { functions = k.functions; main = n; scalars = k.scalars; arrays = k.arrays; literals = k.used.texts; calls = calls_of rows k.used.calls }

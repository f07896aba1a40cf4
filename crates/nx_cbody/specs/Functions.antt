-- What a function does, or its first fault (C11 6.9.1).
use Rattle.std.specs.Prelude.{ℕ, Bool, false, nat_lt, List, Result, Ok}
use Rattle.nx_calls.specs.declared.row.CallRow.{CallRow}
use Rattle.nx_ctok.specs.declared.fault.CFault.{CFault}
use Rattle.nx_ctree.specs.declared.program.Param.{Param}
use Rattle.nx_ctree.specs.declared.program.Function.{Function}
use Rattle.nx_checked.specs.declared.checked.Scalar.{Scalar}
use Rattle.nx_checked.specs.declared.checked.Shape.{Shape}
use Rattle.nx_checked.specs.declared.checked.CheckedExpr.{CheckedExpr}
use Rattle.nx_checked.specs.declared.checked.CheckedStmt.{CheckedStmt}
use Rattle.nx_checked.specs.declared.checked.CheckedFunction.{CheckedFunction}
use Rattle.nx_checked.specs.Frames.{frame_of}
use Rattle.nx_ctype.specs.declared.names.Names.{Names}
use Rattle.nx_ctyping.specs.Checks.{◌>>=◌, Check}
use Rattle.nx_cbody.specs.Trees.{stmts_of}
use Rattle.nx_cbody.specs.Statements.{stmts_verdict}
use Rattle.nx_cbody.specs.Declarations.{Declared, opening, first_of, unless, params_verdict, decls_verdict}

-- A function with such parameters, locals, arrays, values of its locals and statements.
abbrev pub framed : List Scalar → List Scalar → List Shape → List CheckedExpr → List CheckedStmt → ℕ → CheckedFunction
framed params locals arrays initials body frame = record { params = params; locals = locals; arrays = arrays; initials = initials; body = body; frame = frame }

abbrev pub function_of : List Scalar → List Scalar → List Shape → List CheckedExpr → List CheckedStmt → CheckedFunction
function_of params locals arrays initials body = framed params locals arrays initials body (frame_of (framed params locals arrays initials body 0))

-- What a function with these declarations and statements is.
abbrev pub checked_function : Declared → List CheckedStmt → CheckedFunction
checked_function f body = function_of f.locals.params f.locals.scalars f.locals.arrays f.locals.initials body

-- A call of it takes at most 1,048,576 bytes: this limit comes after all its other faults.
abbrev pub is_large : CheckedFunction → Bool
is_large f = nat_lt 1048576 f.frame

abbrev pub within_frame : ℕ → CheckedFunction → Result CheckedFunction CFault
within_frame line f = unless (first_of false false (is_large f)) line (Ok f)

-- Parameters, then declarations, then statements, then the frame.
abbrev pub function_verdict : List CallRow → Names → ℕ → Bool → List Param → Function → Check CheckedFunction
function_verdict rows names line returns ps f s = do
  p ← params_verdict (opening names) ps
  d ← decls_verdict rows p f.decls s
  b ← stmts_verdict d.0.names rows returns (stmts_of f.body) d.1
  g ← within_frame line (checked_function d.0 b.0)
  Ok (g, b.1)

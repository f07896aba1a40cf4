-- What is done to what is known.
use Rattle.std.specs.Prelude.{◌≡◌, List, Option, Result, Ok, Err}
use Rattle.nx_ctok.specs.declared.fault.CFault.{CFault}
use Rattle.nx_crules.specs.Answers.{Fails}
use Rattle.nx_ctype.specs.declared.names.Names.{Names}
use Rattle.nx_ctype.specs.declared.used.Used.{Used}
use Rattle.nx_cbody.specs.declared.locals.Locals.{Locals}
use Rattle.nx_calls.specs.declared.row.CallRow.{CallRow}
use Rattle.nx_ctree.specs.declared.expression.Expr.{Expr}
use Rattle.nx_ctree.specs.declared.statement.Item.{Item}
use Rattle.nx_crules.specs.declared.types.Held.{Held}
use Rattle.nx_ctyping.specs.Checks.{◌>>=◌, Check}
use Rattle.nx_cbody.specs.Declarations.{Declared, next_cell, scalar_given, value_given}

abbrev pub declared : Names → Locals → Declared
declared n l = record { names = n; locals = l }

-- What is known then is what was to be found, unless a fault was answered: then it is that fault, or memory ran out.
abbrev pub IsDone : {A : Type 0} → Result (Unit {0}) CFault → A → Result A CFault → Type 0
IsDone (Ok u) d r = r ≡ Ok d
IsDone (Err e) d r = Fails e r

-- The same with what is used then.
abbrev pub IsDoneUsing : {A : Type 0} → Result (Unit {0}) CFault → A → Used → Result (A × Used) CFault → Type 0
IsDoneUsing (Ok u) d s r = r ≡ Ok (d, s)
IsDoneUsing (Err e) d s r = Fails e r

-- The functions and variables of the file stay.
pub record IsSameFile (old new : Names) : Type 0 where
  pub functions : new.functions ≡ old.functions
  pub globals : new.globals ≡ old.globals

-- A local with its value, as what it holds is known.
abbrev pub valued_given : List CallRow → Item → Option Held → Expr → Declared → Check Declared
valued_given rows i o e f s = scalar_given f i o >>= (λ g. value_given rows i.line (next_cell f) o e g s)

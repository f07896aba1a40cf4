-- What the answers of the functions say.
use Rattle.std.specs.Prelude.{◌≡◌, ℕ, Bool, true, false, List, [], ◌∷◌, Option, None, Some, Result, Ok, Err, ◌&&◌, nat_lt}
use Rattle.nx_grammar.specs.declared.kind.Kind.TheVariants.{Syntax, Limit}
use Rattle.nx_grammar.specs.Reading.{Out, Reading, Pick, Refuse, done}
use Rattle.nx_ctree.specs.declared.sign.Signed.{Signed}
use Rattle.nx_ctree.specs.declared.expression.BinaryOperator.{BinaryOperator}
use Rattle.nx_ctree.specs.declared.expression.StepOperator.{StepOperator}
use Rattle.nx_ctree.specs.declared.expression.AssignOperator.{AssignOperator}
use Rattle.nx_ctree.specs.Expressions.{binary_of, written}
use Rattle.nx_cexpr.specs.declared.stop.ParseStop.{ParseStop}
use Rattle.nx_cexpr.specs.declared.stop.ParseStop.TheVariants as stop
use Rattle.nx_cexpr.specs.declared.operand.Operand.{Operand}
use Rattle.nx_cexpr.specs.declared.operand.Lvalue.{Lvalue}
use Rattle.nx_cexpr.specs.Signs.{operator_at, begins, full_fault}
use Rattle.nx_cexpr.specs.Operands
use Rattle.nx_cexpr.specs.Reading.{Below, assign_rest}

-- A fault is that of the reading, unless memory ran out.
abbrev pub GivesFault : {Y : Type 0} → ParseStop → Out Signed Y → Type 0
GivesFault stop.Memory read = Unit {0}
GivesFault (stop.Fault kind from) read = read ≡ Err (kind, from.now)

-- What a function returned is what the reading gives, unless memory ran out.
abbrev pub Gives : {X Y : Type 0} → (X → Y × List Signed) → Result X ParseStop → Out Signed Y → Type 0
Gives view (Ok x) read = read ≡ Ok (view x)
Gives view (Err e) read = GivesFault e read

-- A part after a token, where what stands before it may go down by a node.
abbrev pub part_at : {Y : Type 0} → Reading Signed Y → Bool → List Signed → List Signed → Out Signed Y
part_at read true from after = read after
part_at read false from after = Err (Limit, from)

-- A "++" or "--" after what may be written to.
abbrev pub stepped_at : StepOperator → Option Lvalue → ℕ → List Signed → List Signed → Out Signed Operand
stepped_at op None d from after = Err (Syntax, from)
stepped_at op (Some p) d from after = part_at (done (Operands.after op p)) (nat_lt p.height d) from after

-- An assignment to what may be written to.
abbrev pub assigned_at : Below → Bool → ℕ → AssignOperator → Option Lvalue → List Signed → List Signed → Out Signed Operand
assigned_at low fits d op None from after = Err (Syntax, from)
assigned_at low fits d op (Some p) from after = part_at (assign_rest low op p) (fits && nat_lt (written op (Operands.place_kind p.target) p.height) d) from after

-- An operator of a level that stands next, and the tokens after it.
abbrev pub with_rest : Option BinaryOperator → List Signed → Option (BinaryOperator × List Signed)
with_rest None ts = None
with_rest (Some op) ts = Some (op, ts)

abbrev pub operator_after : ℕ → List Signed → Option (BinaryOperator × List Signed)
operator_after n [] = None
operator_after n (t ∷ ts) = with_rest (operator_at n (binary_of t.sign)) ts

-- Where no node fits.
abbrev pub full_pick : Signed → Pick Signed Operand
full_pick t = Refuse (full_fault (begins t.sign))

-- The operations of a loop before its way back.
use Rattle.std.specs.Prelude.{ℕ, ◌+◌, List, [], ◌∷◌, ◌++◌, length, Option, None, Some}
use Rattle.nx_checked.specs.Trees.{Expr, Stmt}
use Rattle.nx_slot.specs.declared.op.Operand.TheVariants as operand
use Rattle.nx_slot.specs.declared.op.SlotOp.{SlotOp}
use Rattle.nx_slot.specs.declared.op.SlotOp.TheVariants as op
use Rattle.nx_lower.specs.Code.{Source, expr_code}
use Rattle.nx_lower.specs.Bodies.{option_code, test_code, stmt_code}

abbrev pub while_parts : Source → ℕ → Expr → Stmt → List SlotOp
while_parts s n c a = let ca = stmt_code s n 0 1 a in expr_code s n 0 c ++ test_code n (length ca + 1) ∷ ca

abbrev pub do_parts : Source → ℕ → Stmt → Expr → List SlotOp
do_parts s n a c = let cc = expr_code s n 0 c in stmt_code s n 0 (length cc + 2) a ++ (cc ++ test_code n 1 ∷ [])

abbrev pub for_parts : Source → ℕ → Option Expr → Option Expr → Stmt → List SlotOp
for_parts s n None t b = let ct = option_code s n t in stmt_code s n 0 (length ct + 1) b ++ ct
for_parts s n (Some c) t b =
    let ct = option_code s n t in let cb = stmt_code s n 0 (length ct + 1) b in
    expr_code s n 0 c ++ test_code n (length cb + length ct + 1) ∷ (cb ++ ct)

-- A return, with the value in the first temporary if it has one.
abbrev pub return_code : Source → ℕ → Option Expr → List SlotOp
return_code s n None = op.Give (operand.Number 0) ∷ []
return_code s n (Some e) = expr_code s n 0 e ++ op.Give (operand.Cell n) ∷ []

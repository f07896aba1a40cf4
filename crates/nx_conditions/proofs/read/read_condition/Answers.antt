use Rattle.std.proofs.Common.{◌≤◌, ◌+◌, length, arith, sym, ap, ◌∙◌}
use Rattle.nx_conditions.specs.Parsing.{condition_at}
use Rattle.nx_conditions.proofs.Trees.{tree_read, tree_only, tree_none}
use Rattle.nx_conditions.proofs.read.read_condition.Goals as goal

pub returns-in-Ok-clause-read : goal.returns-in-Ok-clause-read
returns-in-Ok-clause-read c =
    tree_read 1025 c.args.bytes.now c.in_ok-found.found c.in-Ok.tree c.in-Ok.field-0-1.now c.in_ok-found.ensures.read (ap (condition_at 1025) (sym c.as_slice.ensures) ∙ c.in-Ok.ensures)

pub returns-in-Ok-clause-only : goal.returns-in-Ok-clause-only
returns-in-Ok-clause-only c = λ a p.
    let few : length c.in_ok-found.found ≤ length c.args.bytes.now + 1 = c.in_ok-found.ensures.few in
    tree_only 1025 c.args.bytes.now c.in_ok-found.found a c.in-Ok.tree c.in-Ok.field-0-1.now (omega (arith, few, c.requires)) c.in_ok-found.ensures.only (ap (condition_at 1025) (sym c.as_slice.ensures) ∙ c.in-Ok.ensures) p

pub returns-clause-only : goal.returns-clause-only
returns-clause-only c = λ a p.
    let few : length c.in_ok-found.found ≤ length c.args.bytes.now + 1 = c.in_ok-found.ensures.few in
    let fault = rw c.in-Err-Fault.field-0-is at c.in-Err-Fault.ensures in
    tree_none 1025 c.args.bytes.now c.in_ok-found.found a c.in-Err-Fault.field-0-0 c.in-Err-Fault.field-0-1.now (omega (arith, few, c.requires)) c.in_ok-found.ensures.only (ap (condition_at 1025) (sym c.as_slice.ensures) ∙ fault) p

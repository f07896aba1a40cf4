use Rattle.std.proofs.Common.{◌++◌, ap, ◌∙◌, arith}
use Rattle.nx_codegen.specs.Addresses.{no_links}
use Rattle.nx_codegen.specs.Code.{operation_code}
use Rattle.nx_codegen.proofs.Sizes.{size_small}
use Rattle.nx_codegen.proofs.Lengths.{size_is}
use Rattle.nx_codegen.proofs.layout.size_of_operation.Goals as goal

pub returns-clause-is : goal.returns-clause-is
returns-clause-is c =
    let a = c.args in
    let code = operation_code no_links a.near a.function.now (λ i. 0) 0 0 a.operation.now in
    let z = size_is a.near a.function.now a.operation.now _ (c.in_ok-put_operation.ensures.code ∙ ap (λ x. x ++ code) c.clear.ensures.items) in
    let q = c.len.ensures in
    omega (arith, q, z)

pub returns-clause-small : goal.returns-clause-small
returns-clause-small c = let h = returns-clause-is c in let s = size_small c.args.near c.args.function.now c.args.operation.now c.requires.operation_there in omega (arith, h, s)

pub overflow_cast-result : goal.overflow_cast-result
overflow_cast-result c = let h = returns-clause-is c in let s = size_small c.args.near c.args.function.now c.args.operation.now c.requires.operation_there in omega (arith, h, s)

pub overflow_mul-result : goal.overflow_mul-result
overflow_mul-result c = let h = returns-clause-is c in let s = size_small c.args.near c.args.function.now c.args.operation.now c.requires.operation_there in omega (arith, h, s)

use Rattle.std.proofs.Common.{◌++◌, length, ap, ◌∙◌, arith}
use Rattle.nx_codegen.specs.Calling.{enter_code}
use Rattle.nx_codegen.proofs.Sizes.{enter_few}
use Rattle.nx_codegen.proofs.emission.emit.Goals as goal

pub overflow_cast-len : goal.overflow_cast-len
overflow_cast-len c =
    let g = c.args.function.now in
    let e = ap length (c.in_ok-put_enter.ensures ∙ ap (λ x. x ++ enter_code g) c.new.ensures.items) in
    let q = c.len.ensures in
    let f = enter_few g c.requires.framed in
    omega (arith, q, e, f)

pub overflow_mul-len : goal.overflow_mul-len
overflow_mul-len c =
    let g = c.args.function.now in
    let e = ap length (c.in_ok-put_enter.ensures ∙ ap (λ x. x ++ enter_code g) c.new.ensures.items) in
    let q = c.len.ensures in
    let f = enter_few g c.requires.framed in
    omega (arith, q, e, f)

pub layout_of-requires-clause-entered : goal.layout_of-requires-clause-entered
layout_of-requires-clause-entered c =
    let g = c.args.function.now in
    let e = ap length (c.in_ok-put_enter.ensures ∙ ap (λ x. x ++ enter_code g) c.new.ensures.items) in
    let q = c.len.ensures in
    omega (arith, q, e)

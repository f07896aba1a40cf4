use Rattle.std.proofs.Common.{arith}
use Rattle.nx_codegen.proofs.Emitting.{is_reached, is_not_reached, end_small}
use Rattle.nx_codegen.proofs.emission.layout_of.Goals as goal

pub overflow_add-entry : goal.overflow_add-entry
overflow_add-entry c =
    let s = end_small c.args.function.now c.args.entry c.end_place.result c.requires.framed c.requires.operations_there c.requires.few c.requires.entered c.end_place.ensures in
    omega (arith, s)

pub returns-then-entry-end_place-lt4096-clause-reached : goal.returns-then-entry-end_place-lt4096-clause-reached
returns-then-entry-end_place-lt4096-clause-reached c = is_reached c.args.function.now c.args.entry c.end_place.result c.requires.entered c.end_place.ensures c.if-entry-end_place-lt4096.true

pub returns-clause-reached : goal.returns-clause-reached
returns-clause-reached c = let t = c.if-entry-end_place-lt4096.false in is_not_reached c.args.function.now c.args.entry c.end_place.result c.requires.entered c.end_place.ensures (omega (arith, t))

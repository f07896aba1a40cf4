use Rattle.std.proofs.Common.{◌≡◌, ◌+◌, ◌*◌, length, ap, sym, subst, ◌∙◌, arith}
use Rattle.nx_codegen.specs.Calling.{enter_code}
use Rattle.nx_codegen.specs.Emitted.{destination}
use Rattle.nx_codegen.proofs.Sizes.{enter_few}
use Rattle.nx_codegen.proofs.Emitting.{Emits, emits_first, emits_put, emits_last, all_there, get_within, here_is, there_is, place_small}
use Rattle.nx_codegen.proofs.emission.put_operations.Goals as goal

pub overflow_cast-entry : goal.overflow_cast-entry
overflow_cast-entry c = let q = c.len.ensures in let e = ap length c.requires.entered in let f = enter_few c.args.function.now c.requires.framed in omega (arith, q, e, f)

pub overflow_mul-entry : goal.overflow_mul-entry
overflow_mul-entry c = let q = c.len.ensures in let e = ap length c.requires.entered in let f = enter_few c.args.function.now c.requires.framed in omega (arith, q, e, f)

pub loop-k-init : goal.loop-k-init
loop-k-init c =
    let g = c.args.function.now in
    subst (λ x. Emits g 0 x c.args.out.now.refs.items) (sym c.requires.entered) (subst (λ x. Emits g 0 (enter_code g) x) (sym c.requires.none) (emits_first g))

pub put_operation-requires-clause-operation_there : goal.put_operation-requires-clause-operation_there
put_operation-requires-clause-operation_there c = let g = c.args.function.now in all_there g g.ops c.loop-k.k c.in-Some.operation.now c.requires.operations_there (sym c.in-Some.ensures.value)

pub put_operation-requires-clause-here_small : goal.put_operation-requires-clause-here_small
put_operation-requires-clause-here_small c =
    let g = c.args.function.now in
    let k = c.loop-k.k in
    let l = get_within g.ops k c.in-Some.operation.now (sym c.in-Some.ensures.value) in
    let w = here_is c.args.near g c.args.places.now k (4 * c.len.result) c.requires.reached c.requires.known (omega (arith, l)) (let q = c.len.ensures in let e = ap length c.requires.entered in omega (arith, q, e)) in
    let s = place_small g k c.requires.framed c.requires.operations_there c.requires.few in
    omega (arith, w, s)

pub overflow_add-place : goal.overflow_add-place
overflow_add-place c =
    let g = c.args.function.now in
    let k = c.loop-k.k in
    let l = get_within g.ops k c.in-Some.operation.now (sym c.in-Some.ensures.value) in
    let w = here_is c.args.near g c.args.places.now k (4 * c.len.result) c.requires.reached c.requires.known (omega (arith, l)) (let q = c.len.ensures in let e = ap length c.requires.entered in omega (arith, q, e)) in
    let s = place_small g k c.requires.framed c.requires.operations_there c.requires.few in
    omega (arith, w, s)

pub put_operation-requires-clause-there_small : goal.put_operation-requires-clause-there_small
put_operation-requires-clause-there_small c =
    let g = c.args.function.now in
    let d = destination c.loop-k.k c.in-Some.operation.now in
    let j = c.jump_place.ensures in
    let w = there_is c.args.near g d (4 * c.len.result) c.requires.reached (let q = c.len.ensures in let e = ap length c.requires.entered in omega (arith, q, e)) in
    let s = place_small g d c.requires.framed c.requires.operations_there c.requires.few in
    omega (arith, j, w, s)

pub overflow_add-place-in-loop-k : goal.overflow_add-place-in-loop-k
overflow_add-place-in-loop-k c =
    let g = c.args.function.now in
    let d = destination c.loop-k.k c.in-Some.operation.now in
    let j = c.jump_place.ensures in
    let w = there_is c.args.near g d (4 * c.len.result) c.requires.reached (let q = c.len.ensures in let e = ap length c.requires.entered in omega (arith, q, e)) in
    let s = place_small g d c.requires.framed c.requires.operations_there c.requires.few in
    omega (arith, j, w, s)

pub loop-k-preserved : goal.loop-k-preserved
loop-k-preserved c =
    let g = c.args.function.now in
    let near = c.args.near in
    let k = c.loop-k.k in
    let o = c.in-Some.operation.now in
    let q = sym c.in-Some.ensures.value in
    let l = get_within g.ops k o q in
    let e : 4 * c.len.result ≡ 4 * length (enter_code g) = let q = c.len.ensures in let e = ap length c.requires.entered in omega (arith, q, e) in
    let here = here_is near g c.args.places.now k (4 * c.len.result) c.requires.reached c.requires.known (omega (arith, l)) e in
    let there = ap (λ x. 4 * c.len.result + x) c.jump_place.ensures ∙ there_is near g (destination k o) (4 * c.len.result) c.requires.reached e in
    emits_put g near k _ _ c.loop-k.out.code.items _ c.loop-k.out.refs.items _ o c.requires.reached here there c.loop-k.invariant q c.in_ok-put_operation.ensures.code c.in_ok-put_operation.ensures.refs

pub returns-clause-code : goal.returns-clause-code
returns-clause-code c = (emits_last c.args.function.now c.loop-k.k c.loop-k.out.code.items c.loop-k.out.refs.items c.loop-k.invariant (let t = c.loop-k-test.false in let q = c.len-k-end.ensures in omega (arith, t, q))).0

pub returns-clause-refs : goal.returns-clause-refs
returns-clause-refs c = (emits_last c.args.function.now c.loop-k.k c.loop-k.out.code.items c.loop-k.out.refs.items c.loop-k.invariant (let t = c.loop-k-test.false in let q = c.len-k-end.ensures in omega (arith, t, q))).1

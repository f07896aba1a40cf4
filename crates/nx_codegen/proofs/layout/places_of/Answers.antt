use Rattle.std.proofs.Common.{◌≡◌, suc, ◌+◌, [], ◌∷◌, ◌++◌, ap, sym, subst, ◌∙◌, arith}
use Rattle.nx_codegen.specs.Code.{offset}
use Rattle.nx_codegen.specs.Emitted.{ArePlaces}
use Rattle.nx_codegen.proofs.Lengths.{offset_first}
use Rattle.nx_codegen.proofs.Emitting.{all_there, places_first, places_next}
use Rattle.nx_codegen.proofs.layout.places_of.Goals as goal

pub loop-k-init : goal.loop-k-init
loop-k-init c =
    let g = c.args.function.now in
    (places_first c.args.near g _ (c.in_ok-push.ensures.items ∙ ap (λ x. x ++ 0 ∷ []) c.new-places.ensures.items), sym (offset_first c.args.near g g.ops), omega arith)

pub size_of_operation-requires-clause-operation_there : goal.size_of_operation-requires-clause-operation_there
size_of_operation-requires-clause-operation_there c = let g = c.args.function.now in all_there g g.ops c.loop-k.k c.in-Some.operation.now c.requires.operations_there (sym c.in-Some.ensures.value)

pub loop-k-preserved : goal.loop-k-preserved
loop-k-preserved c =
    let g = c.args.function.now in
    let k = c.loop-k.k in
    let near = c.args.near in
    let o = c.in-Some.operation.now in
    let next = c.loop-k.next + c.in_ok-next.field-0 in
    let s = c.in_ok-next.ensures.is in
    let m = c.in_ok-next.ensures.small in
    let i = c.loop-k.invariant in
    let i1 = i.1 in
    let i2 = i.2 in
    let w = places_next near g k next c.loop-k.places.items o i.0 (sym c.in-Some.ensures.value) (omega (arith, s, i1)) in
    let q : suc k ≡ k + 1 = omega arith in (
      subst (λ x. ArePlaces near g (k + 1) x) (sym c.in_ok-push-2.ensures.items) (subst (λ n. ArePlaces near g n (c.loop-k.places.items ++ next ∷ [])) q w.0),
      w.1 ∙ ap (offset near g g.ops) q,
      omega (arith, m, i2),
    )

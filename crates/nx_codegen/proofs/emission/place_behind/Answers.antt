use Rattle.std.proofs.Common.{◌≤◌, ◌+◌, length, sym, ◌∙◌, ap, arith}
use Rattle.std.specs.Prelude.{slice_index_or}
use Rattle.nx_codegen.proofs.Emitting.{index_of, offset_past}
use Rattle.nx_codegen.proofs.emission.place_behind.Goals as goal

pub returns-else-past-left : goal.returns-else-past-left
returns-else-past-left c =
    let g = c.args.function.now in
    let n = length g.ops in
    let q = c.len-last.ensures in
    let e = c.requires.known.each n (omega arith) in
    let p : n ≤ c.args.at + 1 + c.args.past = let t = c.if-past-left.false in let w = c.requires.within in omega (arith, t, q, w) in
    ap (λ k. slice_index_or c.args.places.now k 0) q ∙ index_of c.args.places.now n _ e ∙ sym (offset_past c.args.near g g.ops (c.args.at + 1 + c.args.past) p)

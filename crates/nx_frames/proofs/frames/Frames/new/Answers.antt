use Rattle.std.proofs.Common.{◌≡◌, refl, arith}
use Rattle.nx_frames.proofs.Fresh.{fresh_chain, fresh_stocked}
use Rattle.nx_frames.proofs.frames.Frames.new.Goals as goal

pub invariant_of-result : goal.invariant_of-result
invariant_of-result c =
    let e : c.loop-i.i ≡ c.args.count = omega (arith, c.loop-i-test.false, c.loop-i.auto.i-end) in
    let i = c.loop-i.invariant in
    fresh_stocked c.args.first c.loop-i.next.items c.args.count c.requires.low c.requires.fits (omega (arith, i.long, e)) (λ j l. i.links j (omega (arith, l, e)))

pub returns : goal.returns
returns c =
    let e : c.loop-i.i ≡ c.args.count = omega (arith, c.loop-i-test.false, c.loop-i.auto.i-end) in
    let i = c.loop-i.invariant in
    (refl, omega (arith, i.long, e), fresh_chain c.args.first c.loop-i.next.items c.args.count (omega (arith, i.long, e)) (λ j l. i.links j (omega (arith, l, e))))

use Rattle.std.proofs.Common.{ap, ◌∙◌, arith}
use Rattle.nx_image.specs.Layout.{up, texts, contents}
use Rattle.nx_image.proofs.Sums.{up_bound}
use Rattle.nx_image.proofs.layout.put_joint.Goals as goal

pub put_in_turn-requires-clause-text_fits : goal.put_in_turn-requires-clause-text_fits
put_in_turn-requires-clause-text_fits c =
    let p = c.pool_bytes.ensures.value in
    let f = c.requires.fits in
    let r = c.requires.limits.ram.high in
    let u = (up_bound (texts c.args.sizes.now)).0 in
    omega (arith, p, f, r, u)

pub put_in_turn-requires-clause-data_fits : goal.put_in_turn-requires-clause-data_fits
put_in_turn-requires-clause-data_fits c =
    let p = c.pool_bytes.ensures.value in
    let t = c.texts.ensures.value in
    let q = c.up.ensures.value ∙ ap up t in
    let f = c.requires.fits in
    let r = c.requires.limits.ram.high in
    let u = (up_bound (contents c.args.sizes.now)).0 in
    omega (arith, p, q, f, r, u)

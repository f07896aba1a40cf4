use Rattle.std.proofs.Common.{◌≡◌, ◌∙◌, ap, arith}
use Rattle.nx_base.specs.ByteLists.{put_bytes, to_le}
use Rattle.nx_ram.proofs.Puts.{low_byte, low_half}
use Rattle.nx_ram.proofs.ram.Ram.store.Goals as goal

pub returns-in-1-clause-bytes : goal.returns-in-1-clause-bytes
returns-in-1-clause-bytes c =
    let s = c.args.self.now in
    let e : 1 ≡ c.args.width = omega (arith, c.in-1.is) in
    c.store8.ensures.bytes
    ∙ ap (put_bytes s c.args.at) (low_byte c.args.value)
    ∙ ap (λ n. put_bytes s c.args.at (to_le n c.args.value)) e

pub returns-in-2-clause-bytes : goal.returns-in-2-clause-bytes
returns-in-2-clause-bytes c =
    let s = c.args.self.now in
    let e : 2 ≡ c.args.width = omega (arith, c.in-2.is) in
    c.store16.ensures.bytes
    ∙ ap (put_bytes s c.args.at) (low_half c.args.value)
    ∙ ap (λ n. put_bytes s c.args.at (to_le n c.args.value)) e

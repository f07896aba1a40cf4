use Rattle.std.proofs.Common.{arith}
use Rattle.nx_paged.specs.State.{state_of}
use Rattle.nx_paged.specs.Paging.{paged_plan}
use Rattle.nx_paged.specs.Lawful.{needs_taken}
use Rattle.nx_paged.proofs.paged.PagedSpace.free.Goals as goal

pub returns : goal.returns
returns c =
    let s = c.args.self.now in
    let n = needs_taken s.ram (paged_plan (state_of s)) s.groups.items in
    let k = s.placed.counted in
    omega (arith, c.free.ensures, n, k)

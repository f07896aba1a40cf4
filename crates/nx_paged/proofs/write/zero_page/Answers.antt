use Rattle.std.proofs.Common.{subst, sym, arith}
use Rattle.std.proofs.Props.{props}
use Rattle.std.proofs.Math.Logic.{∥∥₁_elim}
use Rattle.nx_paged.specs.Writing.{WritesAll}
use Rattle.nx_paged.proofs.Written.{no_fault, page_in, page_put}
use Rattle.nx_paged.proofs.Zeros.{zeros, length-zeros}
use Rattle.nx_paged.proofs.write.zero_page.Goals as goal

pub overflow_add-at : goal.overflow_add-at
overflow_add-at c = let some = c.requires.some in ∥∥₁_elim c.requires.place (hlevel props) (λ h. let top = h.place.top in omega (arith, top, some))

pub overflow_sub-to : goal.overflow_sub-to
overflow_sub-to c = let a = c.args in ∥∥₁_elim c.requires.place (hlevel props) (λ h. (page_in a.ram.now a.satp a.at a.size a.from c.in-Ok.to h c.requires.some c.requires.page c.in-Ok.ensures).low)

pub zero-requires : goal.zero-requires
zero-requires c =
    let a = c.args in
    let one = c.requires.one in
    ∥∥₁_elim c.requires.place (hlevel props) (λ q.
    let p = page_in a.ram.now a.satp a.at a.size a.from c.in-Ok.to q c.requires.some c.requires.page c.in-Ok.ensures in
    let h = p.high in
    omega (arith, h, one))

pub unreachable-requires : goal.unreachable-requires
unreachable-requires c = let a = c.args in ∥∥₁_elim c.requires.place (hlevel props) (λ h. no_fault a.ram.now a.satp a.at a.size a.from c.in-Err.field-0 h c.requires.some c.requires.page c.in-Err.ensures)

pub returns-clause-writes : goal.returns-clause-writes
returns-clause-writes c =
    let a = c.args in
    let l = length-zeros a.count in
    let one = c.requires.one in
    let inside = c.requires.inside in
    subst (λ r. WritesAll a.ram.now r a.satp a.at a.size a.from (zeros a.count)) (sym c.zero.ensures.bytes) (page_put a.ram.now a.satp a.at a.size a.from c.in-Ok.to (zeros a.count) c.requires.some c.requires.page (omega (arith, l, one)) (omega (arith, l, inside)) c.in-Ok.ensures)

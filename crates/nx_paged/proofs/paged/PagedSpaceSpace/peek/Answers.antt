use Rattle.std.proofs.Common.{◌∙◌, ap, sym, arith, Ok}
use Rattle.nx_base.specs.declared.access.Access.TheVariants.{Load}
use Rattle.nx_paged.proofs.Accesses.{InPage, one_byte, reads_load}
use Rattle.nx_paged.specs.State.{state_of}
use Rattle.nx_paged.proofs.Answers.{Asks, inside_of, load_ok, good_no_fault}
use Rattle.nx_paged.proofs.paged.PagedSpaceSpace.peek.Goals as goal

pub overflow_sub-to : goal.overflow_sub-to
overflow_sub-to c =
    let s = c.args.self.now in
    let a : Asks (state_of s) c.satp.result = record { placed = s.placed; paged = s.paged; entered = c.requires.entered; named = c.satp.ensures } in
    let i : InPage c.args.at 1 = one_byte c.args.at (omega (arith, c.ranges.at.fits)) in
    (inside_of (state_of s) c.satp.result c.args.at 1 c.in-Ok.to (λ p. p.reads) Load a i reads_load c.in-Ok.ensures).low

pub load8-requires : goal.load8-requires
load8-requires c =
    let s = c.args.self.now in
    let a : Asks (state_of s) c.satp.result = record { placed = s.placed; paged = s.paged; entered = c.requires.entered; named = c.satp.ensures } in
    let i : InPage c.args.at 1 = one_byte c.args.at (omega (arith, c.ranges.at.fits)) in
    (inside_of (state_of s) c.satp.result c.args.at 1 c.in-Ok.to (λ p. p.reads) Load a i reads_load c.in-Ok.ensures).high

pub unreachable-requires : goal.unreachable-requires
unreachable-requires c =
    let s = c.args.self.now in
    let a : Asks (state_of s) c.satp.result = record { placed = s.placed; paged = s.paged; entered = c.requires.entered; named = c.satp.ensures } in
    good_no_fault (state_of s) c.satp.result c.args.at c.in-Err.field-0 Load a c.requires.good c.in-Err.ensures

pub returns-clause-answer : goal.returns-clause-answer
returns-clause-answer c =
    let s = c.args.self.now in
    let a : Asks (state_of s) c.satp.result = record { placed = s.placed; paged = s.paged; entered = c.requires.entered; named = c.satp.ensures } in
    let i : InPage c.args.at 1 = one_byte c.args.at (omega (arith, c.ranges.at.fits)) in
    load_ok (state_of s) c.satp.result c.args.at 1 c.in-Ok.to a i c.in-Ok.ensures ∙ sym (ap Ok c.load8.ensures)

use Rattle.std.proofs.Common.{◌*◌, ◌∙◌, [], refl, ap, subst, arith}
use Rattle.std.proofs.Props.{props}
use Rattle.std.proofs.Math.Logic.{∥∥₁_elim}
use Rattle.nx_frames.specs.Stock.{frames_of}
use Rattle.nx_tables.specs.Maps.{satp_of}
use Rattle.nx_space.specs.Starts.{pages_of}
use Rattle.nx_paged.specs.Writing.{WritesAll}
use Rattle.nx_paged.proofs.Roots.{Sized, site_of, first_built, stack_regions, stack_of, stack_room, data_room, text_room, all_built}
use Rattle.nx_paged.proofs.Mapped.{text_place, data_place, program_mapped}
use Rattle.nx_paged.proofs.program.map_program.Goals as goal

pub add_pages-used-requires-clause-room : goal.add_pages-used-requires-clause-room
add_pages-used-requires-clause-room c = ∥∥₁_elim c.requires.start (hlevel props) (λ start.
    let a = c.args in
    let p = a.program.now in
    let frames = frames_of a.frames.now a.taken.now in
    let nt = c.pages_of-text.result in
    let nd = c.pages_of-contents.result in
    let ns = c.pages_of.result in
    let before = start.before in
    let z : Sized a.ram.now frames a.root p a.low a.stack before nt nd ns = record { can = start.can; text = c.pages_of-text.ensures.pages ∙ ap pages_of c.len.ensures; contents = c.pages_of-contents.ensures.pages ∙ ap pages_of c.len-2.ensures; zeros = c.pages_of.ensures.pages } in
    ∣ stack_room a.ram.now frames a.root p a.low a.stack before nt nd ns z ∣₁)

pub add_pages-used-requires-2-clause-room : goal.add_pages-used-requires-2-clause-room
add_pages-used-requires-2-clause-room c = ∥∥₁_elim c.requires.start (hlevel props) (λ start.
    let a = c.args in
    let p = a.program.now in
    let frames = frames_of a.frames.now a.taken.now in
    let nt = c.pages_of-text.result in
    let nd = c.pages_of-contents.result in
    let ns = c.pages_of.result in
    let before = start.before in
    let z : Sized a.ram.now frames a.root p a.low a.stack before nt nd ns = record { can = start.can; text = c.pages_of-text.ensures.pages ∙ ap pages_of c.len.ensures; contents = c.pages_of-contents.ensures.pages ∙ ap pages_of c.len-2.ensures; zeros = c.pages_of.ensures.pages } in
    let site = site_of a.ram.now frames a.root before 0 in
    let first = first_built a.ram.now frames a.root p a.low a.stack before 0 z.can in
    let one = c.add_pages-used.ensures.adds site [] [] refl refl first in
    ∣ data_room a.ram.now frames a.root p a.low a.stack before nt nd ns c.add_pages-used.new.ram c.add_pages-used.result z one ∣₁)

pub add_pages-all-requires-clause-room : goal.add_pages-all-requires-clause-room
add_pages-all-requires-clause-room c = ∥∥₁_elim c.requires.start (hlevel props) (λ start.
    let a = c.args in
    let p = a.program.now in
    let frames = frames_of a.frames.now a.taken.now in
    let nt = c.pages_of-text.result in
    let nd = c.pages_of-contents.result in
    let ns = c.pages_of.result in
    let before = start.before in
    let z : Sized a.ram.now frames a.root p a.low a.stack before nt nd ns = record { can = start.can; text = c.pages_of-text.ensures.pages ∙ ap pages_of c.len.ensures; contents = c.pages_of-contents.ensures.pages ∙ ap pages_of c.len-2.ensures; zeros = c.pages_of.ensures.pages } in
    let site = site_of a.ram.now frames a.root before 0 in
    let first = first_built a.ram.now frames a.root p a.low a.stack before 0 z.can in
    let one = c.add_pages-used.ensures.adds site [] [] refl refl first in
    let two = c.add_pages-used-2.ensures.adds site (stack_regions a.low ns) (stack_of a.low ns) refl refl one in
    ∣ text_room a.ram.now frames a.root p a.low a.stack before nt nd ns c.add_pages-used-2.new.ram c.add_pages-used-2.result z two ∣₁)

pub write_bytes-requires-clause-fits : goal.write_bytes-requires-clause-fits
write_bytes-requires-clause-fits c = ∥∥₁_elim c.requires.start (hlevel props) (λ start.
    let a = c.args in
    let p = a.program.now in
    let frames = frames_of a.frames.now a.taken.now in
    let nt = c.pages_of-text.result in
    let nd = c.pages_of-contents.result in
    let ns = c.pages_of.result in
    let before = start.before in
    let z : Sized a.ram.now frames a.root p a.low a.stack before nt nd ns = record { can = start.can; text = c.pages_of-text.ensures.pages ∙ ap pages_of c.len.ensures; contents = c.pages_of-contents.ensures.pages ∙ ap pages_of c.len-2.ensures; zeros = c.pages_of.ensures.pages } in
    let b = all_built a.ram.now frames a.root p a.low a.stack before 0 nt nd ns c.add_pages-used.new.ram c.add_pages-used-2.new.ram c.add_pages-all.new.ram c.add_pages-used.result c.add_pages-used-2.result c.add_pages-all.result z.can c.add_pages-used.ensures.adds c.add_pages-used-2.ensures.adds c.add_pages-all.ensures.adds in
    let f = z.can.fits in
    let l = b.long in
    omega (arith, f, l))

pub write_bytes-requires-clause-place : goal.write_bytes-requires-clause-place
write_bytes-requires-clause-place c = ∥∥₁_elim c.requires.start (hlevel props) (λ start.
    let a = c.args in
    let p = a.program.now in
    let frames = frames_of a.frames.now a.taken.now in
    let nt = c.pages_of-text.result in
    let nd = c.pages_of-contents.result in
    let ns = c.pages_of.result in
    let before = start.before in
    let z : Sized a.ram.now frames a.root p a.low a.stack before nt nd ns = record { can = start.can; text = c.pages_of-text.ensures.pages ∙ ap pages_of c.len.ensures; contents = c.pages_of-contents.ensures.pages ∙ ap pages_of c.len-2.ensures; zeros = c.pages_of.ensures.pages } in
    let b = all_built a.ram.now frames a.root p a.low a.stack before 0 nt nd ns c.add_pages-used.new.ram c.add_pages-used-2.new.ram c.add_pages-all.new.ram c.add_pages-used.result c.add_pages-used-2.result c.add_pages-all.result z.can c.add_pages-used.ensures.adds c.add_pages-used-2.ensures.adds c.add_pages-all.ensures.adds in
    let place = text_place a.ram.now frames a.root p a.low a.stack before 0 nt nd ns c.add_pages-all.new.ram c.add_pages-all.result z b in
    ∣ record { writes = _; roles = b.roles; group = 0; maps = b.maps; place = place } ∣₁)

pub write_bytes-requires-2-clause-fits : goal.write_bytes-requires-2-clause-fits
write_bytes-requires-2-clause-fits c = ∥∥₁_elim c.requires.start (hlevel props) (λ start.
    let a = c.args in
    let p = a.program.now in
    let frames = frames_of a.frames.now a.taken.now in
    let nt = c.pages_of-text.result in
    let nd = c.pages_of-contents.result in
    let ns = c.pages_of.result in
    let before = start.before in
    let z : Sized a.ram.now frames a.root p a.low a.stack before nt nd ns = record { can = start.can; text = c.pages_of-text.ensures.pages ∙ ap pages_of c.len.ensures; contents = c.pages_of-contents.ensures.pages ∙ ap pages_of c.len-2.ensures; zeros = c.pages_of.ensures.pages } in
    let b = all_built a.ram.now frames a.root p a.low a.stack before 0 nt nd ns c.add_pages-used.new.ram c.add_pages-used-2.new.ram c.add_pages-all.new.ram c.add_pages-used.result c.add_pages-used-2.result c.add_pages-all.result z.can c.add_pages-used.ensures.adds c.add_pages-used-2.ensures.adds c.add_pages-all.ensures.adds in
    let f = z.can.fits in
    let l = b.long in
    omega (arith, f, l, c.write_bytes.ensures.long))

pub write_bytes-requires-2-clause-place : goal.write_bytes-requires-2-clause-place
write_bytes-requires-2-clause-place c = ∥∥₁_elim c.requires.start (hlevel props) (λ start.
    let a = c.args in
    let p = a.program.now in
    let frames = frames_of a.frames.now a.taken.now in
    let nt = c.pages_of-text.result in
    let nd = c.pages_of-contents.result in
    let ns = c.pages_of.result in
    let before = start.before in
    let z : Sized a.ram.now frames a.root p a.low a.stack before nt nd ns = record { can = start.can; text = c.pages_of-text.ensures.pages ∙ ap pages_of c.len.ensures; contents = c.pages_of-contents.ensures.pages ∙ ap pages_of c.len-2.ensures; zeros = c.pages_of.ensures.pages } in
    let b = all_built a.ram.now frames a.root p a.low a.stack before 0 nt nd ns c.add_pages-used.new.ram c.add_pages-used-2.new.ram c.add_pages-all.new.ram c.add_pages-used.result c.add_pages-used-2.result c.add_pages-all.result z.can c.add_pages-used.ensures.adds c.add_pages-used-2.ensures.adds c.add_pages-all.ensures.adds in
    let place = text_place a.ram.now frames a.root p a.low a.stack before 0 nt nd ns c.add_pages-all.new.ram c.add_pages-all.result z b in
    let texts = subst (λ bs. WritesAll c.add_pages-all.new.ram c.write_bytes.new.ram (satp_of a.root) p.text_at (4096 * nt) 0 bs) c.as_slice.ensures c.write_bytes.ensures.writes in
    let w = texts _ b.roles 0 b.maps place in
    ∣ record { writes = _; roles = b.roles; group = 0; maps = b.maps; place = data_place a.ram.now frames a.root p a.low a.stack before 0 nt nd ns c.add_pages-all.new.ram c.write_bytes.new.ram c.add_pages-all.result z b w.stands } ∣₁)

pub returns-clause-mapped : goal.returns-clause-mapped
returns-clause-mapped c before g can =
    let a = c.args in
    let p = a.program.now in
    let frames = frames_of a.frames.now a.taken.now in
    let nt = c.pages_of-text.result in
    let nd = c.pages_of-contents.result in
    let ns = c.pages_of.result in
    let z : Sized a.ram.now frames a.root p a.low a.stack before nt nd ns = record { can = can; text = c.pages_of-text.ensures.pages ∙ ap pages_of c.len.ensures; contents = c.pages_of-contents.ensures.pages ∙ ap pages_of c.len-2.ensures; zeros = c.pages_of.ensures.pages } in
    let b = all_built a.ram.now frames a.root p a.low a.stack before g nt nd ns c.add_pages-used.new.ram c.add_pages-used-2.new.ram c.add_pages-all.new.ram c.add_pages-used.result c.add_pages-used-2.result c.add_pages-all.result z.can c.add_pages-used.ensures.adds c.add_pages-used-2.ensures.adds c.add_pages-all.ensures.adds in
    let texts = subst (λ bs. WritesAll c.add_pages-all.new.ram c.write_bytes.new.ram (satp_of a.root) p.text_at (4096 * nt) 0 bs) c.as_slice.ensures c.write_bytes.ensures.writes in
    let contents = subst (λ bs. WritesAll c.write_bytes.new.ram c.write_bytes-2.new.ram (satp_of a.root) p.data_at (4096 * nd) 0 bs) c.as_slice-2.ensures c.write_bytes-2.ensures.writes in
    program_mapped a.ram.now frames a.root p a.low a.stack before g nt nd ns c.add_pages-all.new.ram c.write_bytes.new.ram c.write_bytes-2.new.ram c.add_pages-all.result z b texts contents

pub returns-clause-long : goal.returns-clause-long
returns-clause-long c = ∥∥₁_elim c.requires.start (hlevel props) (λ start.
    let a = c.args in
    let p = a.program.now in
    let frames = frames_of a.frames.now a.taken.now in
    let nt = c.pages_of-text.result in
    let nd = c.pages_of-contents.result in
    let ns = c.pages_of.result in
    let before = start.before in
    let z : Sized a.ram.now frames a.root p a.low a.stack before nt nd ns = record { can = start.can; text = c.pages_of-text.ensures.pages ∙ ap pages_of c.len.ensures; contents = c.pages_of-contents.ensures.pages ∙ ap pages_of c.len-2.ensures; zeros = c.pages_of.ensures.pages } in
    let b = all_built a.ram.now frames a.root p a.low a.stack before 0 nt nd ns c.add_pages-used.new.ram c.add_pages-used-2.new.ram c.add_pages-all.new.ram c.add_pages-used.result c.add_pages-used-2.result c.add_pages-all.result z.can c.add_pages-used.ensures.adds c.add_pages-used-2.ensures.adds c.add_pages-all.ensures.adds in
    c.write_bytes-2.ensures.long ∙ c.write_bytes.ensures.long ∙ b.long)

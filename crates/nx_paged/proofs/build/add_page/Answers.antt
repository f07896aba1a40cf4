use Rattle.std.proofs.Common.{◌∙◌, ◌+◌, ◌/◌, ◌<◌, [], ◌∷◌, length, sym, subst, arith}
use Rattle.std.proofs.Props.{props}
use Rattle.std.proofs.Math.Logic.{∥∥₁_elim}
use Rattle.nx_frames.specs.Stock.{frames_of}
use Rattle.nx_frames.proofs.Chains.{length-chain}
use Rattle.nx_paged.specs.Building.{Entry, Adds}
use Rattle.nx_paged.proofs.Rooms.{less_room, ready, ready_inside, table_inside, table_known, adds_page}
use Rattle.nx_paged.proofs.build.add_page.Goals as goal

pub add_table-used-requires-clause-room : goal.add_table-used-requires-clause-room
add_table-used-requires-clause-room c = ∥∥₁_elim c.requires.room (hlevel props) (λ h. ∣ less_room (frames_of c.args.frames.now c.args.taken.now) c.args.root (c.args.page / 1024) c.args.ram.now c.args.used h ∣₁)

pub table_of-requires-clause-inside : goal.table_of-requires-clause-inside
table_of-requires-clause-inside c = ∥∥₁_elim c.requires.room (hlevel props) (λ h.
    let frames = frames_of c.args.frames.now c.args.taken.now in
    ready_inside frames c.args.root (c.args.page / 1024) c.add_table-used.new.ram c.add_table-used.result (ready frames c.args.root (c.args.page / 1024) c.args.ram.now c.add_table-used.new.ram c.args.used c.add_table-used.result h c.add_table-used.ensures.adds))

pub frame_number-frame-requires-clause-below : goal.frame_number-frame-requires-clause-below
frame_number-frame-requires-clause-below c = ∥∥₁_elim c.requires.room (hlevel props) (λ h.
    let f = c.args.frames.now in
    let t = c.args.taken.now in
    let r = ready (frames_of f t) c.args.root (c.args.page / 1024) c.args.ram.now c.add_table-used.new.ram c.args.used c.add_table-used.result h c.add_table-used.ensures.adds in
    let b = r.below in
    omega (arith, b, length-chain f.first f.next t.head t.count))

pub map_page-requires-clause-inside : goal.map_page-requires-clause-inside
map_page-requires-clause-inside c = ∥∥₁_elim c.requires.room (hlevel props) (λ h.
    let f = c.args.frames.now in
    let t = c.args.taken.now in
    let small : c.args.page / 1024 < 1024 = let p = c.requires.page in omega (arith, p) in
    let r = ready (frames_of f t) c.args.root (c.args.page / 1024) c.args.ram.now c.add_table-used.new.ram c.args.used c.add_table-used.result h c.add_table-used.ensures.adds in
    table_inside (frames_of f t) c.args.root (c.args.page / 1024) c.add_table-used.new.ram c.add_table-used.result c.in-Some.table r small (sym c.in-Some.is ∙ c.table_of.ensures))

pub overflow_add-result : goal.overflow_add-result
overflow_add-result c = omega (arith, c.frame_number-frame.ensures.small)

pub unreachable-requires : goal.unreachable-requires
unreachable-requires c = ∥∥₁_elim c.requires.room (hlevel props) (λ h.
    let frames = frames_of c.args.frames.now c.args.taken.now in
    let small : c.args.page / 1024 < 1024 = let p = c.requires.page in omega (arith, p) in
    let r = ready frames c.args.root (c.args.page / 1024) c.args.ram.now c.add_table-used.new.ram c.args.used c.add_table-used.result h c.add_table-used.ensures.adds in
    table_known frames c.args.root (c.args.page / 1024) c.add_table-used.new.ram c.add_table-used.result r small (sym c.in-None.is ∙ c.table_of.ensures))

pub returns : goal.returns
returns c =
    let frames = frames_of c.args.frames.now c.args.taken.now in
    let below : c.add_table-used.result < length frames = ∥∥₁_elim c.requires.room (hlevel props) (λ h. (ready frames c.args.root (c.args.page / 1024) c.args.ram.now c.add_table-used.new.ram c.args.used c.add_table-used.result h c.add_table-used.ensures.adds).below) in
    let e : Entry = record { page = c.args.page; writes = c.args.writes } in
    record { adds = subst (λ new. Adds frames c.args.root (c.args.page / 1024 ∷ []) (e ∷ []) c.args.ram.now c.args.used new (c.add_table-used.result + 1)) (sym c.map_page.ensures.bytes) (adds_page frames c.args.root c.args.page c.args.ram.now c.add_table-used.new.ram c.args.used c.add_table-used.result c.in-Some.table c.frame_number-frame.result c.args.writes c.add_table-used.ensures.adds c.requires.page (sym c.in-Some.is ∙ c.table_of.ensures) below c.frame_number-frame.ensures.number) }

use Rattle.std.proofs.Common.{◌∙◌, ◌+◌, ◌<◌, [], ◌∷◌, length, sym, subst, arith}
use Rattle.std.proofs.Props.{props}
use Rattle.std.proofs.Math.Logic.{∥∥₁_elim}
use Rattle.nx_frames.specs.Stock.{frames_of}
use Rattle.nx_frames.proofs.Chains.{length-chain}
use Rattle.nx_paged.specs.Building.{Adds}
use Rattle.nx_paged.proofs.Rooms.{root_inside, room_table, adds_there, adds_table}
use Rattle.nx_paged.proofs.build.add_table.Goals as goal

pub table_of-requires-clause-inside : goal.table_of-requires-clause-inside
table_of-requires-clause-inside c = ∥∥₁_elim c.requires.room (hlevel props) (λ h. root_inside _ c.args.root (c.args.region ∷ []) 0 c.args.ram.now c.args.used h)

pub frame_number-table-requires-clause-below : goal.frame_number-table-requires-clause-below
frame_number-table-requires-clause-below c = ∥∥₁_elim c.requires.room (hlevel props) (λ h.
    let f = c.args.frames.now in
    let t = c.args.taken.now in
    omega (arith, room_table (frames_of f t) c.args.root c.args.region c.args.ram.now c.args.used h c.requires.region (sym c.in-None.is ∙ c.table_of.ensures), length-chain f.first f.next t.head t.count))

pub overflow_add-result : goal.overflow_add-result
overflow_add-result c = omega (arith, c.frame_number-table.ensures.small)

pub returns-in-None : goal.returns-in-None
returns-in-None c =
    let f = c.args.frames.now in
    let t = c.args.taken.now in
    let told = sym c.in-None.is ∙ c.table_of.ensures in
    let below : c.args.used < length (frames_of f t) = ∥∥₁_elim c.requires.room (hlevel props) (λ h. room_table (frames_of f t) c.args.root c.args.region c.args.ram.now c.args.used h c.requires.region told) in
    record { adds = subst (λ r. Adds (frames_of f t) c.args.root (c.args.region ∷ []) [] c.args.ram.now c.args.used r (c.args.used + 1)) (sym c.map_table.ensures.bytes) (adds_table (frames_of f t) c.args.root c.args.region c.args.ram.now c.args.used c.frame_number-table.result c.requires.region told below c.frame_number-table.ensures.number) }

pub returns-in-Some : goal.returns-in-Some
returns-in-Some c = record { adds = adds_there (frames_of c.args.frames.now c.args.taken.now) c.args.root c.args.region c.args.ram.now c.args.used c.in-Some.field-0 c.requires.region (sym c.in-Some.is ∙ c.table_of.ensures) }

pub map_table-requires-clause-inside : goal.map_table-requires-clause-inside
map_table-requires-clause-inside c = ∥∥₁_elim c.requires.room (hlevel props) (λ h. root_inside _ c.args.root (c.args.region ∷ []) 0 c.args.ram.now c.args.used h)

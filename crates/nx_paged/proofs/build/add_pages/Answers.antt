use Rattle.std.proofs.Common.{◌+◌, ◌-◌, refl}
use Rattle.std.proofs.Props.{props}
use Rattle.std.proofs.Math.Logic.{∥∥₁_elim}
use Rattle.nx_frames.specs.Stock.{frames_of}
use Rattle.nx_paged.proofs.Rooms.{room_next, adds_none, adds_more, adds_all}
use Rattle.nx_paged.proofs.build.add_pages.Goals as goal

pub add_page-used-requires-clause-room : goal.add_page-used-requires-clause-room
add_page-used-requires-clause-room c =
    let a = c.args in
    ∥∥₁_elim c.requires.room (hlevel props) (λ h. ∣ room_next (frames_of a.frames.now a.taken.now) a.root a.first a.count c.loop-k.k a.writes a.ram.now c.loop-k.ram a.used c.loop-k.used (a.first + (a.count - c.loop-k.k - 1)) h c.loop-k.invariant c.loop-k-test.true refl ∣₁)

pub loop-k-init : goal.loop-k-init
loop-k-init c = adds_none (frames_of c.args.frames.now c.args.taken.now) c.args.root c.args.ram.now c.args.used

pub loop-k-preserved : goal.loop-k-preserved
loop-k-preserved c =
    let a = c.args in
    adds_more (frames_of a.frames.now a.taken.now) a.root a.first a.count c.loop-k.k a.writes a.ram.now c.loop-k.ram c.add_page-used.new.ram a.used c.loop-k.used c.add_page-used.result (a.first + (a.count - c.loop-k.k - 1)) c.loop-k.invariant c.add_page-used.ensures.adds c.loop-k-test.true refl

pub returns : goal.returns
returns c =
    let a = c.args in
    record { adds = adds_all (frames_of a.frames.now a.taken.now) a.root a.first a.count c.loop-k.k a.writes a.ram.now c.loop-k.ram a.used c.loop-k.used c.loop-k.invariant c.loop-k-test.false c.loop-k.auto.k-end }

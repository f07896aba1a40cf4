use Rattle.std.proofs.Common.{◌<◌, sym, arith}
use Rattle.nx_objects.specs.Tables.{with_objects}
use Rattle.nx_objects.specs.Rows.{at_place}
use Rattle.nx_objects.proofs.Closings.{dup2_row_open}
use Rattle.nx_objects.proofs.objects.Objects.dup2.Goals as goal

pub returns-else-first-second-clause-row : goal.returns-else-first-second-clause-row
returns-else-first-second-clause-row g c = λ k c'.
    let store = g.B.BlockStore in
    let below : c.args.second < 32 = omega (arith, c.if-second-ge32.false) in
    dup2_row_open (with_objects k c.args.threads.now (store.content c.args.blocks.now) c.args.self.now) (with_objects k c.args.threads.now (store.content c.close.new.blocks) c.close.new.self)
    (at_place c' c.args.group) c.args.first c.args.second c.in-Some.place c.set.new.self (sym c.in-Some.ensures) below c.if-first-second.false (c.close.ensures.state k) c.set.ensures

use Rattle.std.proofs.Common.{sym}
use Rattle.nx_objects.specs.Tables.{with_objects}
use Rattle.nx_objects.specs.Rows.{at_place}
use Rattle.nx_objects.proofs.Closings.{close_row_open}
use Rattle.nx_objects.proofs.objects.Objects.close_any.Goals as goal

pub returns-in-Some-clause-row : goal.returns-in-Some-clause-row
returns-in-Some-clause-row g c = λ k c'.
    let store = g.B.BlockStore in
    close_row_open (with_objects k c.args.threads.now (store.content c.args.blocks.now) c.args.self.now) (with_objects k c.args.threads.now (store.content c.close.new.blocks) c.close.new.self)
    (at_place c' c.args.group) c.args.fd c.in-Some.field-0 (sym c.in-Some.ensures) (c.close.ensures.state k)

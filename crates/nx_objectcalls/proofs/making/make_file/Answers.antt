use Rattle.std.proofs.Common.{[], ap, ◌∙◌}
use Rattle.nx_ksys.specs.FileCalls.{with_file}
use Rattle.nx_objects.specs.Tables.{with_objects}
use Rattle.nx_objectcalls.proofs.making.make_file.Goals as goal

pub returns-clause-state : goal.returns-clause-state
returns-clause-state g c = λ k s.
    let old = with_objects k s (g.B.BlockStore.content c.args.blocks.now) c.args.objects.now in
    c.empty_file.ensures.state k s
    ∙ ap (λ es. record old { tree = with_file (record old.tree { entries = es }) c.args.place [] }) (ap (λ t. t.entries) c.add.ensures)

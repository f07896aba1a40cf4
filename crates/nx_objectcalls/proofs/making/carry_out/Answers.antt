use Rattle.std.proofs.Common.{sym, ap, ◌∙◌}
use Rattle.nx_ksys.specs.declared.node.Target.TheVariants as target
use Rattle.nx_ksys.specs.FileCalls.{describe_new}
use Rattle.nx_path.specs.Rows.{opens_as}
use Rattle.nx_objects.specs.Tables.{with_objects}
use Rattle.nx_objectcalls.proofs.making.carry_out.Goals as goal

pub returns-in-Emptied-clause-row : goal.returns-in-Emptied-clause-row
returns-in-Emptied-clause-row g c = λ k s d flags.
    let old = with_objects k s (g.B.BlockStore.content c.args.blocks.now) c.args.objects.now in
    ap (opens_as old d flags) c.in-Emptied.is ∙ ap (λ x. describe_new old x d (target.File c.in-Emptied.place) flags) (sym (c.empty_file.ensures.state k s))

pub returns-in-Made-clause-row : goal.returns-in-Made-clause-row
returns-in-Made-clause-row g c = λ k s d flags.
    let old = with_objects k s (g.B.BlockStore.content c.args.blocks.now) c.args.objects.now in
    ap (opens_as old d flags) c.in-Made.is ∙ ap (λ x. describe_new old x d (target.File c.in-Made.place) flags) (sym (c.make_file.ensures.state k s))

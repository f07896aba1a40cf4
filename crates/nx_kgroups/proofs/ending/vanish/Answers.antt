use Rattle.std.proofs.Common.{ap, ◌∙◌}
use Rattle.nx_ksys.specs.Descriptors.{without_idle}
use Rattle.nx_ksys.specs.Ends.{vanished, kept_messages}
use Rattle.nx_ipc.specs.Tables.{sending_of}
use Rattle.nx_objects.proofs.Chains.{files_stay, queues_held, queues_moved}
use Rattle.nx_ktables.specs.State.{state_of, others_of}
use Rattle.nx_kgroups.proofs.ending.vanish.Goals as goal

pub returns-clause-state : goal.returns-clause-state
unfolding vanished
returns-clause-state g c =
    let store = g.B.BlockStore in
    let old = c.args.tables.now in
    let o = old.objects in
    let content = store.content c.args.blocks.now in
    let t = record old { threads = c.end_group.new.self; values = c.forget.new.self } in
    let files = files_stay _ _ _ _ o.files o.queues c.give_up.new.self c.requires.held c.give_up.ensures.moves in
    let slots = ap (λ ts. kept_messages c.args.group ts (sending_of content o.queues.sending)) c.as_slice.ensures in
    c.sweep_idle.ensures.state (others_of t)
    ∙ ap without_idle (λ i. record (state_of content old) {
      sched = c.end_group.ensures i;
      values = ap (λ v. v.values) c.forget.ensures i;
      tree = record { entries = o.tree.entries; files = files i };
      queues = c.give_up.ensures.queues i;
      sending = (c.give_up.ensures.sending ∙ slots) i;
    })

pub give_up-requires : goal.give_up-requires
give_up-requires g c = let o = c.args.tables.now.objects in record { held = queues_held (g.B.BlockStore.holds c.args.blocks.now) o.files o.queues c.requires.held }

pub sweep_idle-requires-clause-held : goal.sweep_idle-requires-clause-held
sweep_idle-requires-clause-held g c = let o = c.args.tables.now.objects in queues_moved _ _ _ _ o.files o.queues c.give_up.new.self c.requires.held c.give_up.ensures.moves

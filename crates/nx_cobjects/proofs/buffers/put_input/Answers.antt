use Rattle.std.proofs.Common.{◌≡◌, IfOk, Some, None, if◌then◌else◌, sym, subst}
use Rattle.nx_base.specs.declared.calls.Kind.{Kind}
use Rattle.nx_cobjects.specs.Memory.{memory}
use Rattle.nx_cobjects.specs.Buffers.{input_after}
use Rattle.nx_cobjects.proofs.buffers.put_input.Goals as goal

pub returns-in-Out : goal.returns-in-Out
returns-in-Out c =
    let m = memory c.args.group.now c.args.own.now in
    subst (λ (kind : Kind). IfOk c.has_room_of.result (λ ok. (if ok then Some c.args.done.now else None) ≡ input_after m c.args.done.now kind c.args.v c.args.next)) (sym c.in-Out.is) (c.has_room_of.ensures c.args.done.now)

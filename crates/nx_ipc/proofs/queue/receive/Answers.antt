use Rattle.std.proofs.Common.{ap, sym, ◌∙◌, ◌≡◌, List}
use Rattle.nx_ksys.specs.State as state
use Rattle.nx_ksys.specs.QueueCalls.{without_oldest}
use Rattle.nx_ipc.specs.Tables.{messages_of}
use Rattle.nx_ipc.proofs.Choosing.{next_is, next_leaves, no_next}
use Rattle.nx_ipc.proofs.queue.receive.Goals as goal

pub returns-in-Some-clause-some : goal.returns-in-Some-clause-some
returns-in-Some-clause-some g c =
    let content = g.B.BlockStore.content c.args.blocks.now in
    let ms = messages_of content c.args.queue.now.messages.items in
    let t = c.take_out.ensures.taken in
    let first = sym (rw c.as_slice.ensures.value at (c.in-Some.ensures.first content)) in
    record {
      message = t.message;
      next = next_is ms c.in-Some.i t.message first t.there;
      taken = t.taken;
      left = ap (λ (xs : List state.Message). let q : state.Queue = record { limit = c.args.queue.now.limit; size = c.args.queue.now.size; messages = xs } in q) (c.take_out.ensures.rest ∙ sym (next_leaves ms c.in-Some.i t.message first t.there));
    }

pub returns-in-None-clause-none : goal.returns-in-None-clause-none
returns-in-None-clause-none g c =
    let content = g.B.BlockStore.content c.args.blocks.now in
    no_next (messages_of content c.args.queue.now.messages.items) (sym (rw c.as_slice.ensures.value at (c.in-None.ensures.first content)))

use Rattle.std.proofs.Common.{◌≡◌, ◌≤◌, ap, sym, ◌∙◌, refl, arith, length, take, drop, min, ℕ}
use Rattle.std.proofs.lemmas.List.{length-take-le}
use Rattle.nx_base.specs.ByteLists.{get_bytes}
use Rattle.nx_ipc.specs.Tables.{message_of}
use Rattle.nx_ipc.proofs.Messages.{message_at, message_held, message_goes, get_map, taken_bytes, taken_count}
use Rattle.nx_ipc.proofs.message.take_out.Goals as goal

pub read-requires-clause-held : goal.read-requires-clause-held
read-requires-clause-held g c = message_held _ c.args.messages.now.items c.args.i _ c.requires.held (message_at c.args.messages.now.items c.args.i _ c.requires.inside c.remove-priority.ensures.value)

pub give-requires : goal.give-requires
give-requires g c = message_held _ c.args.messages.now.items c.args.i _ c.requires.held (message_at c.args.messages.now.items c.args.i _ c.requires.inside c.remove-priority.ensures.value)

pub returns-clause-taken : goal.returns-clause-taken
returns-clause-taken g c =
    let m = c.remove-priority.result in
    let content = g.B.BlockStore.content c.args.blocks.now in
    let at = message_at c.args.messages.now.items c.args.i m c.requires.inside c.remove-priority.ensures.value in
    let sized = g.met.B.BlockStore.sized c.args.blocks.now m.chain in
    let count = c.min-count.result in
    let whole : length (take count c.args.into.now) ≡ count = length-take-le count c.args.into.now (omega (arith, c.min-count.ensures)) in
    let is : count ≡ min (length (content m.chain)) c.args.room = omega (arith, c.min-count.ensures, sized, c.bytes.ensures) in
    let read = c.read.ensures ∙ ap (λ n. get_bytes (content m.chain) 0 n) whole in
    record {
      message = message_of content m;
      there = get_map (message_of content) c.args.messages.now.items c.args.i m at;
      taken = record {
        priority = refl;
        bytes = taken_bytes (content m.chain) c.read.new.into (drop count c.args.into.now) count c.args.room read is;
        count = taken_count (content m.chain) count c.args.room is;
      };
    }

pub returns-clause-rest : goal.returns-clause-rest
returns-clause-rest g c =
    let at = message_at c.args.messages.now.items c.args.i _ c.requires.inside c.remove-priority.ensures.value in
    rw c.remove-priority.ensures.items (message_goes _ _ _ _ c.args.messages.now.items c.args.i _ c.requires.held at c.give.ensures.gone).state

pub returns-clause-moves : goal.returns-clause-moves
returns-clause-moves g c =
    let at = message_at c.args.messages.now.items c.args.i _ c.requires.inside c.remove-priority.ensures.value in
    rw c.remove-priority.ensures.items (message_goes _ _ _ _ c.args.messages.now.items c.args.i _ c.requires.held at c.give.ensures.gone).moves

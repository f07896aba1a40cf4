-- The blocks of messages, by their chains.
use Rattle.std.proofs.Common.{◌≡◌, ◌+◌, ℕ, List, [], ◌∷◌, ◌++◌, refl, sym, ap, ◌∙◌, arith}
use Rattle.std.specs.Prelude.{Option, Some, None, flat_map}
use Rattle.nx_pool.specs.declared.chain.Chain.{Chain}
use Rattle.nx_pool.specs.Chains.{total_blocks}
use Rattle.nx_pool.specs.Apart.{total_blocks-append, total_blocks-cons}
use Rattle.nx_ksys.specs.State.{message_blocks, queue_blocks, sending_blocks}
use Rattle.nx_ipc.specs.declared.message.Message.{Message}
use Rattle.nx_ipc.specs.declared.queue.Queue.{Queue}
use Rattle.nx_ipc.specs.Tables.{Tables, chain_in, chains_in, chains_sent, chains_of, messages_of, queues_of, sending_of, AreSized}

none_fill : total_blocks [] ≡ 0
unfolding total_blocks
none_fill = refl

of_messages : (content : Chain → List ℕ) (ms : List Message) → AreSized content → message_blocks (messages_of content ms) ≡ total_blocks (flat_map chain_in ms)
of_messages content [] sized = sym none_fill
of_messages content (m ∷ ms) sized = let rest = of_messages content ms sized in omega (arith, rest, sized m.chain, total_blocks-cons m.chain (flat_map chain_in ms))

of_queues : (content : Chain → List ℕ) (qs : List (Option Queue)) → AreSized content → queue_blocks (queues_of content qs) ≡ total_blocks (flat_map chains_in qs)
of_queues content [] sized = sym none_fill
of_queues content (None ∷ qs) sized = of_queues content qs sized
of_queues content (Some q ∷ qs) sized =
    let rest = of_queues content qs sized in
    let own = of_messages content q.messages.items sized in
    omega (arith, rest, own, total_blocks-append (flat_map chain_in q.messages.items) (flat_map chains_in qs))

of_sending : (content : Chain → List ℕ) (ss : List (Option Message)) → AreSized content → sending_blocks (sending_of content ss) ≡ total_blocks (flat_map chains_sent ss)
of_sending content [] sized = sym none_fill
of_sending content (None ∷ ss) sized = of_sending content ss sized
of_sending content (Some m ∷ ss) sized = let rest = of_sending content ss sized in omega (arith, rest, sized m.chain, total_blocks-cons m.chain (flat_map chains_sent ss))

pub of_tables : (content : Chain → List ℕ) (t : Tables) → AreSized content → queue_blocks (queues_of content t.queues) + sending_blocks (sending_of content t.sending) ≡ total_blocks (chains_of t)
of_tables content t sized = omega (arith, of_queues content t.queues sized, of_sending content t.sending sized, total_blocks-append (flat_map chains_in t.queues) (flat_map chains_sent t.sending))

use Rattle.std.proofs.Common.{[], ◌∷◌, ◌++◌, length, take, min, ap, ◌∙◌}
use Rattle.nx_ksys.specs.Gathered.{replies_of}
use Rattle.nx_ksys.specs.Telling.{reply}
use Rattle.nx_ksys.specs.QueueCalls.{room_of}
use Rattle.nx_kcalls.proofs.Taking.{taken_least, taken_length}
use Rattle.nx_kcalls.proofs.telling.deliver.Goals as goal

pub returns-clause-told : goal.returns-clause-told
returns-clause-told c =
    let bytes = c.args.bytes.now in
    let count = c.min-count.ensures ∙ ap (λ r. min r (length bytes)) c.min-room.ensures in
    let len = count ∙ taken_length (room_of c.args.thread.asked) bytes in
    let front = ap (λ n. take n bytes) count ∙ taken_least (room_of c.args.thread.asked) bytes in
    let number = c.as_slice.ensures ∙ c.int_bytes-number.ensures in
    c.tell_word.ensures.told ∙ (λ i. replies_of c.args.replies.now.replies ++ reply c.args.thread.number (len i) (front i ∷ number i ∷ []) ∷ [])

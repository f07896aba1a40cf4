use Rattle.std.proofs.Common.{ℕ, List, [], refl, sym, ap, ◌∙◌}
use Rattle.std.specs.Prelude.{Ok}
use Rattle.nx_ksys.specs.declared.node.Target.TheVariants as target
use Rattle.nx_pool.specs.declared.chain.Chain.{Chain}
use Rattle.nx_ksys.specs.State.{objects}
use Rattle.nx_ksys.proofs.Standing.{none_some}
use Rattle.nx_ksys.specs.Answers.{replied}
use Rattle.nx_ksys.specs.FileCalls.{describe_new}
use Rattle.nx_ksys.specs.QueueCalls.{mq_open_node, with_new_queue}
use Rattle.nx_ipc.specs.Rows.{opens_told}
use Rattle.nx_objects.specs.Tables.{with_objects}
use Rattle.nx_objects.specs.Rows.{at_place}
use Rattle.nx_objectcalls.specs.Rows.{described_in}
use Rattle.nx_objectcalls.proofs.Openings.{no_queue, no_queue_made, no_node, by_full, limit_is, limited, nothing, nobody}
use Rattle.nx_objectcalls.proofs.queue_calls.open_at.Goals as goal

pub make_queue-requires-clause-absent : goal.make_queue-requires-clause-absent
make_queue-requires-clause-absent c =
    let a = c.args in
    let content : Chain → List ℕ = λ h. [] in
    let n = objects (with_objects nothing nothing.sched content a.objects.now) in
    let k = with_objects (limited a.is_full n) nothing.sched content a.objects.now in
    let who = at_place nobody a.group in
    let place = c.in-Made.place in
    let to = target.Queue place in
    let new = with_new_queue k a.path.items place a.limit a.size in
    let row = c.open-opened.ensures.row content k who a.path.items (limit_is a.is_full n)
    ∙ ap (opens_told k who a.path.items a.flags a.limit a.size) (c.in-Ok.is ∙ ap Ok c.in-Made.is)
    ∙ c.find_room.ensures.room k new who to a.flags refl refl
    ∙ ap (described_in k new who to a.flags) c.in-Some.is in
    sym c.find-node.ensures ∙ no_node c.find-node.result (λ m e. no_queue_made k who a.path.items a.flags a.limit a.size place c.in-Some.room.fd c.in-Some.room.place c.find-node.result (λ z. absurd (none_some m (sym z ∙ e))) row)

pub make_queue-requires-clause-room : goal.make_queue-requires-clause-room
make_queue-requires-clause-room c =
    let a = c.args in
    let content : Chain → List ℕ = λ h. [] in
    let n = objects (with_objects nothing nothing.sched content a.objects.now) in
    let k = with_objects (limited a.is_full n) nothing.sched content a.objects.now in
    let who = at_place nobody a.group in
    let place = c.in-Made.place in
    let to = target.Queue place in
    let new = with_new_queue k a.path.items place a.limit a.size in
    let row = c.open-opened.ensures.row content k who a.path.items (limit_is a.is_full n)
    ∙ ap (opens_told k who a.path.items a.flags a.limit a.size) (c.in-Ok.is ∙ ap Ok c.in-Made.is)
    ∙ c.find_room.ensures.room k new who to a.flags refl refl
    ∙ ap (described_in k new who to a.flags) c.in-Some.is in
    c.requires.room (by_full a.is_full (λ t. no_queue_made k who a.path.items a.flags a.limit a.size place c.in-Some.room.fd c.in-Some.room.place c.find-node.result (λ z. limit_is a.is_full n ∙ t) row))

pub returns-in-Err-clause-row : goal.returns-in-Err-clause-row
returns-in-Err-clause-row c = λ k s content d full.
    let a = c.args in
    let old = with_objects k s content a.objects.now in
    let who = at_place d a.group in
    ap (mq_open_node old who a.path.items a.flags a.limit a.size) (sym c.find-node.ensures)
    ∙ c.open-opened.ensures.row content old who a.path.items full
    ∙ ap (opens_told old who a.path.items a.flags a.limit a.size) c.in-Err.is

pub returns-in-None-clause-row : goal.returns-in-None-clause-row
returns-in-None-clause-row c = λ k s content d full.
    let a = c.args in
    let old = with_objects k s content a.objects.now in
    let who = at_place d a.group in
    ap (mq_open_node old who a.path.items a.flags a.limit a.size) (sym c.find-node.ensures)
    ∙ c.open-opened.ensures.row content old who a.path.items full
    ∙ ap (opens_told old who a.path.items a.flags a.limit a.size) c.in-Ok.is
    ∙ no_queue old who a.path.items a.flags a.limit a.size c.in-Ok.what (λ other to flags p q. c.find_room.ensures.room old other who to flags p q ∙ ap (described_in old other who to flags) c.in-None.is)

pub returns-in-Found-clause-row : goal.returns-in-Found-clause-row
returns-in-Found-clause-row c = λ k s content d full.
    let a = c.args in
    let old = with_objects k s content a.objects.now in
    let who = at_place d a.group in
    let to = target.Queue c.in-Found.place in
    ap (mq_open_node old who a.path.items a.flags a.limit a.size) (sym c.find-node.ensures)
    ∙ c.open-opened.ensures.row content old who a.path.items full
    ∙ ap (opens_told old who a.path.items a.flags a.limit a.size) (c.in-Ok.is ∙ ap Ok c.in-Found.is)
    ∙ c.find_room.ensures.room old old who to a.flags refl refl
    ∙ ap (described_in old old who to a.flags) c.in-Some.is
    ∙ ap (λ o. replied (with_objects k s content o) who c.in-Some.room.fd []) (sym c.describe.ensures)

pub returns-in-Made-clause-row : goal.returns-in-Made-clause-row
returns-in-Made-clause-row c = λ k s content d full.
    let a = c.args in
    let old = with_objects k s content a.objects.now in
    let mid = with_objects k s content c.make_queue.new.objects in
    let who = at_place d a.group in
    let to = target.Queue c.in-Made.place in
    ap (mq_open_node old who a.path.items a.flags a.limit a.size) (sym c.find-node.ensures)
    ∙ c.open-opened.ensures.row content old who a.path.items full
    ∙ ap (opens_told old who a.path.items a.flags a.limit a.size) (c.in-Ok.is ∙ ap Ok c.in-Made.is)
    ∙ ap (λ x. describe_new old x who to a.flags) (sym (c.make_queue.ensures.state k s content))
    ∙ c.find_room.ensures.room old mid who to a.flags (ap (λ o. o.descriptors) c.make_queue.ensures.rest) (ap (λ o. o.descriptions) c.make_queue.ensures.rest)
    ∙ ap (described_in old mid who to a.flags) c.in-Some.is
    ∙ ap (λ o. replied (with_objects k s content o) who c.in-Some.room.fd []) (sym c.describe-in-Made.ensures)

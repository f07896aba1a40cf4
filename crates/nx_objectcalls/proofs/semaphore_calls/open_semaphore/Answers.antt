use Rattle.std.proofs.Common.{[], refl, sym, ap, ◌∙◌}
use Rattle.std.specs.Prelude.{Ok}
use Rattle.nx_ksys.specs.declared.node.Target.TheVariants as target
use Rattle.nx_ksys.specs.Answers.{replied}
use Rattle.nx_ksys.specs.FileCalls.{describe_new}
use Rattle.nx_ipc.specs.Semaphores.{opens_semaphore}
use Rattle.nx_objects.specs.Tables.{with_objects}
use Rattle.nx_objects.specs.Rows.{at_place}
use Rattle.nx_objectcalls.specs.Rows.{described_in}
use Rattle.nx_objectcalls.proofs.Openings.{no_semaphore}
use Rattle.nx_objectcalls.proofs.semaphore_calls.open_semaphore.Goals as goal

pub returns-in-Err-clause-row : goal.returns-in-Err-clause-row
returns-in-Err-clause-row c = λ k s content d full.
    let a = c.args in
    let old = with_objects k s content a.objects.now in
    let who = at_place d a.group in
    c.open-opened.ensures.row old who full ∙ ap (opens_semaphore old who a.name.now a.flags a.value) c.in-Err.is

pub returns-in-None-clause-row : goal.returns-in-None-clause-row
returns-in-None-clause-row c = λ k s content d full.
    let a = c.args in
    let old = with_objects k s content a.objects.now in
    let who = at_place d a.group in
    c.open-opened.ensures.row old who full
    ∙ ap (opens_semaphore old who a.name.now a.flags a.value) c.in-Ok.is
    ∙ no_semaphore old who a.name.now a.flags a.value c.in-Ok.what (λ other to flags p q. c.find_room.ensures.room old other who to flags p q ∙ ap (described_in old other who to flags) c.in-None.is)

pub returns-in-Found-clause-row : goal.returns-in-Found-clause-row
returns-in-Found-clause-row c = λ k s content d full.
    let a = c.args in
    let old = with_objects k s content a.objects.now in
    let who = at_place d a.group in
    let to = target.Semaphore c.in-Found.place in
    c.open-opened.ensures.row old who full
    ∙ ap (opens_semaphore old who a.name.now a.flags a.value) (c.in-Ok.is ∙ ap Ok c.in-Found.is)
    ∙ c.find_room.ensures.room old old who to a.flags refl refl
    ∙ ap (described_in old old who to a.flags) c.in-Some.is
    ∙ ap (λ o. replied (with_objects k s content o) who c.in-Some.room.fd []) (sym c.describe.ensures)

pub returns-in-Made-clause-row : goal.returns-in-Made-clause-row
returns-in-Made-clause-row c = λ k s content d full.
    let a = c.args in
    let old = with_objects k s content a.objects.now in
    let mid = with_objects k s content (record a.objects.now { semaphores = c.make.new.self }) in
    let who = at_place d a.group in
    let to = target.Semaphore c.in-Made.place in
    c.open-opened.ensures.row old who full
    ∙ ap (opens_semaphore old who a.name.now a.flags a.value) (c.in-Ok.is ∙ ap Ok c.in-Made.is)
    ∙ ap (λ ss. describe_new old (record old { semaphores = ss }) who to a.flags) (sym c.make.ensures)
    ∙ c.find_room.ensures.room old mid who to a.flags refl refl
    ∙ ap (described_in old mid who to a.flags) c.in-Some.is
    ∙ ap (λ o. replied (with_objects k s content o) who c.in-Some.room.fd []) (sym c.describe-in-Made.ensures)

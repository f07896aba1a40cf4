use Rattle.std.proofs.Common.{sym, ap, ◌∙◌, arith}
use Rattle.std.specs.List.{position_from}
use Rattle.std.specs.Option.{is_none}
use Rattle.nx_ksys.specs.Descriptors.{free_descriptor}
use Rattle.nx_ksys.specs.FileCalls.{describe, describe_at}
use Rattle.nx_objects.specs.Rows.{at_place}
use Rattle.nx_objectcalls.specs.Rows.{opened_first}
use Rattle.nx_objectcalls.proofs.Rooms.{place_below}
use Rattle.nx_objectcalls.proofs.room.find_room.Goals as goal

pub overflow_cast-result-in-Some-free : goal.overflow_cast-result-in-Some-free
overflow_cast-result-in-Some-free c = omega (arith, place_below c.in-Some-free.place 2048 c.args.objects.now.descriptions (sym c.free-in-Some.ensures ∙ c.in-Some-free.is) c.requires.few)

pub returns-in-None-clause-room : goal.returns-in-None-clause-room
returns-in-None-clause-room c = λ old k d to flags p q.
    ap (describe old k (at_place d c.args.group) (opened_first to flags)) (ap (λ ds. free_descriptor ds c.args.group) p ∙ sym c.free.ensures ∙ c.in-None.is)

pub returns-in-None-free-clause-room : goal.returns-in-None-free-clause-room
returns-in-None-free-clause-room c = λ old k d to flags p q.
    let who = at_place d c.args.group in
    let o = opened_first to flags in
    ap (describe old k who o) (ap (λ ds. free_descriptor ds c.args.group) p ∙ sym c.free.ensures ∙ c.in-Some.is)
    ∙ ap (describe_at old k who o c.in-Some.fd) (ap (position_from is_none 0) q ∙ sym c.free-in-Some.ensures ∙ c.in-None-free.is)

pub returns-in-Some-free-clause-room : goal.returns-in-Some-free-clause-room
returns-in-Some-free-clause-room c = λ old k d to flags p q.
    let who = at_place d c.args.group in
    let o = opened_first to flags in
    ap (describe old k who o) (ap (λ ds. free_descriptor ds c.args.group) p ∙ sym c.free.ensures ∙ c.in-Some.is)
    ∙ ap (describe_at old k who o c.in-Some.fd) (ap (position_from is_none 0) q ∙ sym c.free-in-Some.ensures ∙ c.in-Some-free.is)

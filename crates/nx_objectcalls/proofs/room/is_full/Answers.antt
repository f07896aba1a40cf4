use Rattle.std.proofs.Common.{◌≡◌, ◌+◌, ◌-◌, ◌==◌, sym, ap, ◌∙◌}
use Rattle.std.specs.Prelude.{nat_le}
use Rattle.nx_ksys.specs.State.{objects}
use Rattle.nx_objects.specs.Tables.{with_objects}
use Rattle.nx_objectcalls.proofs.Rooms.{full_by}
use Rattle.nx_objectcalls.proofs.room.is_full.Goals as goal

pub returns : goal.returns
returns c = λ k s content.
    let d = c.made_directories-directories in
    let f = c.count-files in
    let q = c.count-queues in
    let m = c.count-semaphores in
    let limit = c.args.limit in
    let files = f.ensures content in
    let queues = q.ensures content in
    let all : d.result + f.result + q.result + m.result ≡ objects (with_objects k s content c.args.objects.now) = (λ i. d.ensures i + files i + queues i + m.ensures i) in
    let left = c.saturating_sub-left.ensures ∙ ap (λ x. x - m.result) (c.saturating_sub-3.ensures ∙ ap (λ x. x - q.result) (c.saturating_sub-2.ensures ∙ ap (λ x. x - f.result) c.saturating_sub.ensures)) in
    ap (nat_le limit) (sym all) ∙ full_by limit d.result f.result q.result m.result ∙ ap (λ x. x == 0) (sym left)

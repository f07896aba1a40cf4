use Rattle.std.proofs.Common.{true, false, refl, ap, ◌∙◌, arith}
use Rattle.nx_ksys.specs.Descriptors.{is_open_queue}
use Rattle.nx_objects.proofs.Finding.{any_found, any_next, any_over}
use Rattle.nx_objects.proofs.living.is_queue_open.Goals as goal

pub returns-then-opens_queue : goal.returns-then-opens_queue
returns-then-opens_queue c = any_found (is_open_queue c.args.place) refl c.args.descriptions.now c.loop-at.at true _ (c.if-opens_queue.ensures ∙ ap (is_open_queue c.args.place) c.get.ensures) refl c.loop-at.invariant

pub loop-at-preserved : goal.loop-at-preserved
loop-at-preserved c = any_next (is_open_queue c.args.place) refl c.args.descriptions.now c.loop-at.at false _ (c.if-opens_queue.ensures ∙ ap (is_open_queue c.args.place) c.get.ensures) refl c.loop-at.invariant

pub returns : goal.returns
returns c = any_over (is_open_queue c.args.place) refl c.args.descriptions.now c.loop-at.at _ (omega arith) c.loop-at.invariant

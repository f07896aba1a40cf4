use Rattle.std.proofs.Common.{true, false, refl, ap, ◌∙◌, arith}
use Rattle.nx_ksys.specs.Descriptors.{is_open_semaphore}
use Rattle.nx_objects.proofs.Finding.{any_found, any_next, any_over}
use Rattle.nx_objects.proofs.living.is_semaphore_open.Goals as goal

pub returns-then-opens_semaphore : goal.returns-then-opens_semaphore
returns-then-opens_semaphore c = any_found (is_open_semaphore c.args.place) refl c.args.descriptions.now c.loop-at.at true _ (c.if-opens_semaphore.ensures ∙ ap (is_open_semaphore c.args.place) c.get.ensures) refl c.loop-at.invariant

pub loop-at-preserved : goal.loop-at-preserved
loop-at-preserved c = any_next (is_open_semaphore c.args.place) refl c.args.descriptions.now c.loop-at.at false _ (c.if-opens_semaphore.ensures ∙ ap (is_open_semaphore c.args.place) c.get.ensures) refl c.loop-at.invariant

pub returns : goal.returns
returns c = any_over (is_open_semaphore c.args.place) refl c.args.descriptions.now c.loop-at.at _ (omega arith) c.loop-at.invariant

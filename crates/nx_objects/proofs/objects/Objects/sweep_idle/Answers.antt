use Rattle.std.proofs.Common.{ap, sym, subst, ◌∙◌}
use Rattle.nx_ksys.specs.Descriptors.{without_idle}
use Rattle.nx_objects.specs.Living.{with_living_semaphores}
use Rattle.nx_objects.proofs.Places.{placed_still, same_then}
use Rattle.nx_objects.proofs.objects.Objects.sweep_idle.Goals as goal

pub sweep_semaphores-requires : goal.sweep_semaphores-requires
sweep_semaphores-requires g c = placed_still _ c.args.self.now c.sweep_queues.new.self c.requires.placed c.sweep_queues.ensures.places

pub returns-clause-state : goal.returns-clause-state
unfolding without_idle
returns-clause-state g c = λ k. c.sweep_semaphores.ensures.state k (g.B.BlockStore.content c.sweep_queues.new.blocks) ∙ ap with_living_semaphores (c.sweep_queues.ensures.state k)

pub returns-clause-held : goal.returns-clause-held
returns-clause-held g c = subst (λ cs. g.B.BlockStore.holds c.sweep_queues.new.blocks cs) (sym c.sweep_semaphores.ensures.chains) c.sweep_queues.ensures.held

pub returns-clause-places : goal.returns-clause-places
returns-clause-places g c = same_then _ _ _ c.sweep_queues.ensures.places c.sweep_semaphores.ensures.places

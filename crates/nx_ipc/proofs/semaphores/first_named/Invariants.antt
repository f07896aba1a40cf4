use Rattle.std.proofs.Common.{◌≡◌, drop}
use Rattle.std.specs.List.{position_from}
use Rattle.nx_ksys.specs.SemaphoreCalls.{has_name}
use Rattle.nx_ipc.proofs.semaphores.first_named.Given as goal

abbrev pub invariant-loop-place : goal.invariant-loop-place
invariant-loop-place l = position_from (has_name l.name) l.place (drop l.place l.semaphores) ≡ position_from (has_name l.name) 0 l.semaphores

use Rattle.std.proofs.Common.{◌≡◌, drop}
use Rattle.std.specs.List.{find}
use Rattle.std.specs.Str.{bytes_eq}
use Rattle.nx_base.specs.KernelCalls.{name_of}
use Rattle.nx_base.proofs.calls.KCall.named.Given as goal

abbrev pub invariant-loop-call : goal.invariant-loop-call
invariant-loop-call l =
    find (λ c. bytes_eq l.name (name_of c)) (drop l.call-index l.call-items) ≡ find (λ c. bytes_eq l.name (name_of c)) l.call-items

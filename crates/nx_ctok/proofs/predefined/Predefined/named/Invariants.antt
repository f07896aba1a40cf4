use Rattle.std.proofs.Common.{◌≡◌, drop}
use Rattle.std.specs.List.{find}
use Rattle.std.specs.Str.{bytes_eq}
use Rattle.nx_ctok.specs.Predefined.{name_text}
use Rattle.nx_ctok.proofs.predefined.Predefined.named.Given as goal

abbrev pub invariant-loop-predefined : goal.invariant-loop-predefined
invariant-loop-predefined l =
    find (λ k. bytes_eq l.bytes (name_text k)) (drop l.predefined-index l.predefined-items) ≡ find (λ k. bytes_eq l.bytes (name_text k)) l.predefined-items

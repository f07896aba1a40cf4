use Rattle.std.proofs.Common.{◌≡◌, drop}
use Rattle.std.specs.List.{find}
use Rattle.std.specs.Str.{bytes_eq}
use Rattle.nx_shrun.specs.Builtins.{name_of}
use Rattle.nx_shrun.proofs.builtin.Builtin.named.Given as goal

abbrev pub invariant-loop-builtin : goal.invariant-loop-builtin
invariant-loop-builtin l =
    find (λ b. bytes_eq l.name (name_of b)) (drop l.builtin-index l.builtin-items) ≡ find (λ b. bytes_eq l.name (name_of b)) l.builtin-items

use Rattle.std.proofs.Common.{◌≡◌, drop}
use Rattle.std.specs.List.{find}
use Rattle.std.specs.Str.{bytes_eq}
use Rattle.nx_ctree.specs.Signs.{mark_text}
use Rattle.nx_ctree.proofs.sign.mark_of.Given as goal

abbrev pub invariant-loop-mark : goal.invariant-loop-mark
invariant-loop-mark l =
    find (λ k. bytes_eq l.bytes (mark_text k)) (drop l.mark-index l.mark-items) ≡ find (λ k. bytes_eq l.bytes (mark_text k)) l.mark-items

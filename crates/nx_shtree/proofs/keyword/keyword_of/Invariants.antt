use Rattle.std.proofs.Common.{◌≡◌, drop}
use Rattle.std.specs.List.{find}
use Rattle.nx_shtree.specs.Words.{spells}
use Rattle.nx_shtree.proofs.keyword.keyword_of.Given as goal

abbrev pub invariant-loop-keyword : goal.invariant-loop-keyword
invariant-loop-keyword l = find (spells l.word) (drop l.keyword-index l.keyword-items) ≡ find (spells l.word) l.keyword-items

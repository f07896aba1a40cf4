use Rattle.std.proofs.Common.{◌≡◌, drop}
use Rattle.std.specs.List.{list_any}
use Rattle.nx_shrun.specs.Table.{is_long}
use Rattle.nx_shstep.proofs.begin.has_long.Given as goal

abbrev pub invariant-loop-word : goal.invariant-loop-word
invariant-loop-word l = list_any is_long (drop l.word-index l.words) ≡ list_any is_long l.words

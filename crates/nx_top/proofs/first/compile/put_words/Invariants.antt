use Rattle.std.proofs.Common.{◌≡◌, ◌++◌, take}
use Rattle.std.specs.List.{flat_map}
use Rattle.nx_base.specs.ByteLists.{to_le}
use Rattle.nx_top.proofs.first.compile.put_words.Given as goal

abbrev pub invariant-loop-word : goal.invariant-loop-word
invariant-loop-word l = l.code ≡ l.fn.code ++ flat_map (λ w. to_le 4 w) (take l.word-index l.words)

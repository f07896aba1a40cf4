use Rattle.std.proofs.Common.{◌≡◌, ◌≤◌, [], ◌∷◌, length}
use Rattle.nx_shtree.specs.Reading.{words_at}
use Rattle.nx_shtree.proofs.simple.words.Given as goal

abbrev pub invariant-loop-word : goal.invariant-loop-word
invariant-loop-word l = record {
  same : words_at l.limit l.words l.rest ≡ words_at l.limit (l.first ∷ []) l.tokens;
  fewer : length l.rest ≤ length l.tokens;
}

abbrev pub decreases-loop-word : goal.decreases-loop-word
decreases-loop-word l = length l.rest

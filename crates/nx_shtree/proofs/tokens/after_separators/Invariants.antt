use Rattle.std.proofs.Common.{◌≡◌, ◌≤◌, length}
use Rattle.nx_grammar.specs.Reading.{loop}
use Rattle.nx_shtree.specs.Reading.{separator_pick}
use Rattle.nx_shtree.proofs.tokens.after_separators.Given as goal

abbrev pub invariant-loop-others : goal.invariant-loop-others
invariant-loop-others l = record { same : loop separator_pick tt l.rest ≡ loop separator_pick tt l.tokens; fewer : length l.rest ≤ length l.tokens }

abbrev pub decreases-loop-others : goal.decreases-loop-others
decreases-loop-others l = length l.rest

use Rattle.std.proofs.Common.{◌+◌, ◌*◌}
use Rattle.nx_grammar.proofs.parens.+pairs.Given as goal

abbrev pub decreases-inside : goal.decreases-inside
decreases-inside l = 3 * l.limit + 3

abbrev pub decreases-opened : goal.decreases-opened
decreases-opened l = 3 * l.limit + 1

abbrev pub decreases-pairs : goal.decreases-pairs
decreases-pairs l = 3 * l.limit + 2

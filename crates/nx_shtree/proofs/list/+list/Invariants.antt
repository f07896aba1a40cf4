use Rattle.std.proofs.Common.{◌≡◌, ◌≤◌, ◌+◌, ◌*◌, map, length}
use Rattle.nx_grammar.specs.Reading.{loop}
use Rattle.nx_shtree.specs.Trees.{item_of}
use Rattle.nx_shtree.specs.Reading.{list_pick, reserved_pick, list_at}
use Rattle.nx_shtree.proofs.list.+list.Given as goal

abbrev pub decreases-list : goal.decreases-list
decreases-list l = 16 * l.depth + 4

abbrev pub decreases-step : goal.decreases-step
decreases-step l = 16 * l.depth + 3

abbrev pub decreases-item : goal.decreases-item
decreases-item l = 16 * l.depth + 2

abbrev pub decreases-reserved : goal.decreases-reserved
decreases-reserved l = 16 * l.depth + 1

abbrev pub decreases-deeper : goal.decreases-deeper
decreases-deeper l = 16 * l.depth + 16

abbrev pub decreases-if_rest : goal.decreases-if_rest
decreases-if_rest l = 16 * l.depth + 15

abbrev pub decreases-repeated : goal.decreases-repeated
decreases-repeated l = 16 * l.depth + 15

abbrev pub decreases-branches : goal.decreases-branches
decreases-branches l = 16 * l.depth + 14

abbrev pub decreases-branch : goal.decreases-branch
decreases-branch l = 16 * l.depth + 13

abbrev pub decreases-else_rest : goal.decreases-else_rest
decreases-else_rest l = 16 * l.depth + 12

abbrev pub invariant-list-loop-first : goal.invariant-list-loop-first
invariant-list-loop-first l = record {
  same : loop (list_pick l.limit (reserved_pick l.limit l.depth)) (map item_of l.items) l.rest ≡ list_at l.limit l.depth l.tokens;
  fewer : length l.rest ≤ length l.tokens;
}

abbrev pub decreases-list-loop-first : goal.decreases-list-loop-first
decreases-list-loop-first l = length l.rest

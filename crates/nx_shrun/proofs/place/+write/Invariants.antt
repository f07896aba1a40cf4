use Rattle.std.proofs.Common.{◌≡◌, ◌≤◌, map, length, drop}
use Rattle.nx_shtree.specs.Trees.{item_of, items as items_in_order}
use Rattle.nx_shrun.specs.Places.{place_of, Coded, Keeps}
use Rattle.nx_shrun.proofs.place.+write.Given as goal

-- the items from here on are in the table, and what was there before stays
abbrev pub invariant-write_list-loop-left : goal.invariant-write_list-loop-left
invariant-write_list-loop-left l = record {
  within : l.left ≤ length l.items;
  same : l.items ≡ l.list;
  coded : Coded (map place_of l.nodes.items) (items_in_order (map item_of (drop l.left l.list))) l.next l.to;
  keeps : Keeps (map place_of l.fn.nodes.items) (map place_of l.nodes.items);
}

abbrev pub decreases-write_list-loop-left : goal.decreases-write_list-loop-left
decreases-write_list-loop-left l = l.left

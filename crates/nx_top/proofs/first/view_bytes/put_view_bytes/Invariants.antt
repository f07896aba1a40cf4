use Rattle.std.proofs.Common.{◌≡◌, ℕ, List, ◌++◌, length, take}
use Rattle.nx_space.specs.World.{view_in}
use Rattle.nx_top.specs.first.ExpectedRuns.{LiesAt}
use Rattle.nx_top.proofs.first.view_bytes.put_view_bytes.Given as goal

abbrev pub invariant-loop-i : goal.invariant-loop-i
invariant-loop-i g l = record {
  same : g.S.Space.world l.space ≡ g.S.Space.world l.fn.space;
  seen : (string : List ℕ) → length string ≡ l.count → LiesAt (view_in (g.S.Space.world l.fn.space)) string l.at → l.bytes ≡ l.fn.bytes ++ take l.i string;
}

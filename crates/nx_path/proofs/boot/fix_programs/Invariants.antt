use Rattle.std.proofs.Common.{◌≡◌, ◌≤◌, ◌+◌, take, length}
use Rattle.indexmap.specs.IndexMap.{spare}
use Rattle.nx_ksys.specs.Boot.{first_entries}
use Rattle.nx_path.specs.Entries.{seen}
use Rattle.nx_path.proofs.boot.fix_programs.Given as goal

abbrev pub invariant-loop-place : goal.invariant-loop-place
invariant-loop-place l = record {
  entries : seen l.live ≡ first_entries (take l.place l.programs);
  room : length l.programs ≤ spare l.live + l.place;
  used : spare l.fn.live ≤ spare l.live + l.place;
}

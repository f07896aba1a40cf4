use Rattle.std.proofs.Common.{◌+◌, ◌-◌}
use Rattle.nx_frames.specs.Stock.{frames_of}
use Rattle.nx_paged.specs.Building.{Adds, entries_from, regions_of}
use Rattle.nx_paged.proofs.build.add_pages.Given as goal

-- the last pages are mapped
abbrev pub invariant-loop-k : goal.invariant-loop-k
invariant-loop-k l =
    let es = entries_from (l.fn.first + (l.fn.count - l.k)) l.k l.fn.writes in
    Adds (frames_of l.fn.frames l.fn.taken) l.fn.root (regions_of es) es l.fn.ram l.fn.used l.ram l.used

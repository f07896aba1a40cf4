use Rattle.nx_top.proofs.Asking.{ReadSoFar}
use Rattle.nx_top.proofs.reading.read_files.Given as goal

abbrev pub invariant-loop-name : goal.invariant-loop-name
invariant-loop-name g l =
    ReadSoFar l.stops_at_long (g.F.Files.told l.initial.files) (g.F.Files.told l.files) l.names l.contents.items l.name-index (g.F.Files.faults l.initial.files) (g.F.Files.faults l.files)

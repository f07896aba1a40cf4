use Rattle.std.proofs.Common.{◌≡◌, ◌++◌, take}
use Rattle.std.specs.List.{flat_map}
use Rattle.nx_image.specs.Bytes.{program_bytes}
use Rattle.nx_image.proofs.bytes.put_programs.Given as goal

abbrev pub invariant-loop-program : goal.invariant-loop-program
invariant-loop-program l = l.bytes ≡ l.fn.bytes ++ flat_map program_bytes (take l.program-index l.programs)

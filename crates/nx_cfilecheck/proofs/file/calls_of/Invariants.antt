use Rattle.std.proofs.Common.{◌≡◌, ◌++◌, drop}
use Rattle.nx_ccheck.specs.Files.{calls_of}
use Rattle.nx_cfilecheck.proofs.file.calls_of.Given as goal

-- The calls so far, before those that are left, are all of them.
abbrev pub invariant-loop-place : goal.invariant-loop-place
invariant-loop-place l = l.calls ++ calls_of l.rows (drop l.place-index l.places) ≡ calls_of l.rows l.places

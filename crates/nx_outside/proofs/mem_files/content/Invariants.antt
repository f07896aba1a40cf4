use Rattle.std.proofs.Common.{◌≡◌, drop}
use Rattle.nx_outside.specs.Outside.{content_of}
use Rattle.nx_outside.specs.Fakes.{files_seen}
use Rattle.nx_outside.proofs.mem_files.content.Given as goal

-- The files from here on hold the same content under the name as all of them.
abbrev pub invariant-loop-file : goal.invariant-loop-file
invariant-loop-file l = content_of (files_seen (drop l.file-index l.files)) l.name ≡ content_of (files_seen l.files) l.name

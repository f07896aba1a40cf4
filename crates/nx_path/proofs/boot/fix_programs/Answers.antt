use Rattle.std.proofs.Common.{arith}
use Rattle.nx_path.specs.Entries.{seen}
use Rattle.nx_path.proofs.BootLemmas.{absent_first, first_more}
use Rattle.nx_path.proofs.boot.fix_programs.Goals as goal

pub join-path-requires : goal.join-path-requires
join-path-requires c = let s = c.requires.names.short c.loop-place.place c.name_at.result.now c.name_at.ensures in omega (arith, s)

pub fix_path-requires-clause-absent : goal.fix_path-requires-clause-absent
fix_path-requires-clause-absent c = absent_first c.loop-place.place c.args.programs.now c.name_at.result.now _ (seen c.loop-place.live) c.requires.names.distinct c.name_at.ensures c.join-path.ensures c.loop-place.invariant.entries

pub loop-place-preserved : goal.loop-place-preserved
loop-place-preserved c = record {
  entries = first_more c.loop-place.place c.args.programs.now c.name_at.result.now _ (seen c.loop-place.live) (seen c.fix_path.new.live) c.name_at.ensures c.join-path.ensures c.loop-place.invariant.entries c.fix_path.ensures.entries;
  room = omega (arith, c.loop-place.invariant.room, c.fix_path.ensures.room);
  used = omega (arith, c.loop-place.invariant.used, c.fix_path.ensures.room);
}

use Rattle.nx_path.specs.Entries.{seen}
use Rattle.nx_path.proofs.EntryLemmas.{nth_here}
use Rattle.nx_path.proofs.lookups.name_at.Goals as goal

pub returns-then-count_before-index-clause-some : goal.returns-then-count_before-index-clause-some
returns-then-count_before-index-clause-some c = record {
  entry = (c.in-Some.name.now, c.args.node);
  listed = c.listed.ensures;
  found = λ rest. nth_here (seen c.args.tree.now) c.args.directory.now c.in-Some.name.now c.args.index c.count_before.result c.args.node rest _ c.in-Some.ensures.name c.count_before.ensures c.if-count_before-index.true;
}

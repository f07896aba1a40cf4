use Rattle.std.proofs.Common.{◌∙◌, ap, map, arith}
use Rattle.nx_path.specs.Entries.{see}
use Rattle.nx_path.proofs.EntryLemmas.{put_seen, one_more}
use Rattle.nx_path.proofs.entries.put.Goals as goal

pub returns-clause-entries : goal.returns-clause-entries
returns-clause-entries c = ap (map see) (rw c.unwrap-old.ensures at c.insert.ensures.entries) ∙ put_seen c.args.path c.args.node c.args.tree.now.entries c.requires.absent

pub returns-clause-capacity : goal.returns-clause-capacity
returns-clause-capacity c =
    let e = ap (map see) (rw c.unwrap-old.ensures at c.insert.ensures.entries) ∙ put_seen c.args.path c.args.node c.args.tree.now.entries c.requires.absent in
    omega (arith, one_more c.args.tree.now.entries c.insert.new.self.entries _ e, c.insert.ensures.spare)

pub returns-clause-len : goal.returns-clause-len
returns-clause-len c =
    let e = ap (map see) (rw c.unwrap-old.ensures at c.insert.ensures.entries) ∙ put_seen c.args.path c.args.node c.args.tree.now.entries c.requires.absent in
    one_more c.args.tree.now.entries c.insert.new.self.entries _ e

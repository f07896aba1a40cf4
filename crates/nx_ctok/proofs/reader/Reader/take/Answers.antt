use Rattle.std.proofs.Common.{sym}
use Rattle.nx_ctok.specs.Views.{values_in}
use Rattle.nx_ctok.proofs.Progress.{refused, follow_space, follow_word, follow_definition}
use Rattle.nx_ctok.proofs.reader.Reader.take.Goals as goal

pub returns-in-Wrong-clause-err : goal.returns-in-Wrong-clause-err
returns-in-Wrong-clause-err c = λ text l.
    refused text c.args.rest.now c.args.self.now.fresh (values_in c.args.self.now.table) c.args.self.now.line c.in-Wrong.kind c.requires.more (sym c.in-Wrong.ensures.gives) l

pub returns-in-Space-clause-ok : goal.returns-in-Space-clause-ok
returns-in-Space-clause-ok c =
    rw c.bytes.ensures (follow_space c.args.self.now c.skip.new.self c.args.rest.now c.in-Space.after c.in-Space.lines (sym c.in-Space.ensures.gives) c.in-Space.ensures.left c.skip.ensures)

pub returns-in_ok-spell-in-Spelled-clause-ok : goal.returns-in_ok-spell-in-Spelled-clause-ok
returns-in_ok-spell-in-Spelled-clause-ok c =
    let e = c.in_ok-spell-in-Spelled.ensures in
    rw c.bytes-in-Spelled.ensures (follow_word c.args.self.now c.spell.new.self c.args.rest.now c.in-Spelled.word (sym c.in-Spelled.ensures.gives) c.in-Spelled.ensures.left e.0 e.1 e.2 e.3)

pub returns-in_ok-define-in-Define-clause-ok : goal.returns-in_ok-define-in-Define-clause-ok
returns-in_ok-define-in-Define-clause-ok c =
    let e = c.in_ok-define-in-Define.ensures in
    rw c.bytes-in-Define.ensures (follow_definition c.args.self.now c.define.new.self c.args.rest.now c.in-Define.after c.in-Define.definition (sym c.in-Define.ensures.gives) c.in-Define.ensures.left e.0 e.1 e.2 e.3)

use Rattle.std.proofs.Common.{sym, ap, ◌∙◌}
use Rattle.std.specs.Prelude.{min}
use Rattle.nx_base.specs.Replies.{most_moved}
use Rattle.nx_ksys.specs.FileCalls.{read_row, read_opened}
use Rattle.nx_fs.specs.Rows.{opened_at}
use Rattle.nx_objects.specs.Tables.{with_objects}
use Rattle.nx_objects.specs.Rows.{at_place, found_as}
use Rattle.nx_objectcalls.proofs.Streams.{refused_read, allowed_read}
use Rattle.nx_objectcalls.proofs.leading.readable.Goals as goal

pub returns-in-None-clause-row : goal.returns-in-None-clause-row
unfolding read_row
returns-in-None-clause-row c = λ k s content d size.
    let old = with_objects k s content c.args.objects.now in
    ap (read_opened old (at_place d c.args.group) (min size most_moved)) (sym (c.opened.ensures.found k s content) ∙ ap found_as c.in-None.is)

pub returns-then-not-allows-clause-row : goal.returns-then-not-allows-clause-row
unfolding read_row
returns-then-not-allows-clause-row c = λ k s content d size.
    let f = c.in-Some.found in
    let old = with_objects k s content c.args.objects.now in
    let who = at_place d c.args.group in
    ap (read_opened old who (min size most_moved)) (sym (c.opened.ensures.found k s content) ∙ ap found_as c.in-Some.is)
    ∙ refused_read old who (min size most_moved) (opened_at f.place f.description) (sym c.allows.ensures ∙ c.if-not-allows.true)

pub returns-else-not-allows-clause-row : goal.returns-else-not-allows-clause-row
unfolding read_row
returns-else-not-allows-clause-row c = λ k s content d size.
    let f = c.in-Some.found in
    let old = with_objects k s content c.args.objects.now in
    let who = at_place d c.args.group in
    ap (read_opened old who (min size most_moved)) (sym (c.opened.ensures.found k s content) ∙ ap found_as c.in-Some.is)
    ∙ allowed_read old who (min size most_moved) (opened_at f.place f.description) (sym c.allows.ensures ∙ c.if-not-allows.false)

use Rattle.std.proofs.Common.{sym, ap, ◌∙◌}
use Rattle.nx_ksys.specs.FileCalls.{write_row, write_opened}
use Rattle.nx_fs.specs.Rows.{opened_at}
use Rattle.nx_objects.specs.Tables.{with_objects}
use Rattle.nx_objects.specs.Rows.{at_place, found_as}
use Rattle.nx_objectcalls.proofs.Streams.{refused_write, allowed_write}
use Rattle.nx_objectcalls.proofs.leading.writable.Goals as goal

pub returns-in-None-clause-row : goal.returns-in-None-clause-row
unfolding write_row
returns-in-None-clause-row c = λ k s content d bytes.
    let old = with_objects k s content c.args.objects.now in
    ap (write_opened old (at_place d c.args.group) bytes) (sym (c.opened.ensures.found k s content) ∙ ap found_as c.in-None.is)

pub returns-then-not-allows-clause-row : goal.returns-then-not-allows-clause-row
unfolding write_row
returns-then-not-allows-clause-row c = λ k s content d bytes.
    let f = c.in-Some.found in
    let old = with_objects k s content c.args.objects.now in
    let who = at_place d c.args.group in
    ap (write_opened old who bytes) (sym (c.opened.ensures.found k s content) ∙ ap found_as c.in-Some.is)
    ∙ refused_write old who bytes (opened_at f.place f.description) (sym c.allows.ensures ∙ c.if-not-allows.true)

pub returns-else-not-allows-clause-row : goal.returns-else-not-allows-clause-row
unfolding write_row
returns-else-not-allows-clause-row c = λ k s content d bytes.
    let f = c.in-Some.found in
    let old = with_objects k s content c.args.objects.now in
    let who = at_place d c.args.group in
    ap (write_opened old who bytes) (sym (c.opened.ensures.found k s content) ∙ ap found_as c.in-Some.is)
    ∙ allowed_write old who bytes (opened_at f.place f.description) (sym c.allows.ensures ∙ c.if-not-allows.false)

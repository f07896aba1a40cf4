use Rattle.std.proofs.Common.{◌<◌, length, ◌∙◌, sym, rules, arith}
use Rattle.nx_base.specs.TextBytes.{before_mark}
use Rattle.nx_config.specs.Line.{says}
use Rattle.nx_config.specs.Reading.{AddsLine, IsRefused}
use Rattle.nx_config.proofs.Lines.{faults_start, values_start, faults_after, values_after, refused_here}
use Rattle.nx_config.proofs.read.read_lines.Goals as goal

pub loop-rest-init : goal.loop-rest-init
loop-rest-init c = (omega arith, faults_start c.new-table.result c.args.bytes.now c.new-table.ensures, λ name. values_start c.new-table.result c.args.bytes.now name c.new-table.ensures)

pub returns-in-Err : goal.returns-in-Err
returns-in-Err c =
    let rest = c.loop-rest.rest.now in
    let some : 0 < length rest = search rules in
    let refused : IsRefused c.in-Err.stop (says (before_mark 10 rest)) c.loop-rest.table = rw (sym c.cut.ensures.before) c.in-Err.ensures in
    rw (c.fault.ensures) (refused_here c.loop-rest.line rest c.args.bytes.now c.loop-rest.table c.in-Err.stop some refused c.loop-rest.invariant.1)

pub loop-rest-preserved : goal.loop-rest-preserved
loop-rest-preserved c =
    let rest = c.loop-rest.rest.now in
    let some : 0 < length rest = search rules in
    let shorter = c.cut.ensures.shorter some in
    let follows : AddsLine c.loop-rest.line (says (before_mark 10 rest)) c.loop-rest.table c.take_line.new.table = rw (sym c.cut.ensures.before) c.in-Ok.ensures in (
      omega arith,
      rw (c.cut.ensures.after) (faults_after c.loop-rest.line rest c.loop-rest.table c.take_line.new.table some follows ∙ c.loop-rest.invariant.1),
      λ name. rw (c.cut.ensures.after) (values_after c.loop-rest.line rest c.loop-rest.table c.take_line.new.table some follows name ∙ c.loop-rest.invariant.2 name),
    )

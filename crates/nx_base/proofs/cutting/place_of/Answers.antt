use Rattle.std.proofs.Common.{rules, sym, ◌∙◌}
use Rattle.nx_base.proofs.Marks.{mark_step}
use Rattle.nx_base.proofs.cutting.place_of.Goals as goal

pub loop-rest-preserved : goal.loop-rest-preserved
loop-rest-preserved c = record {
  same = mark_step _ c.loop-rest.place c.args.bytes.now c.loop-rest.rest.now c.in-len1-up.len_at_least (sym c.is_mark.ensures ∙ c.if-is_mark.false) c.loop-rest.invariant.same;
  whole = search rules;
}

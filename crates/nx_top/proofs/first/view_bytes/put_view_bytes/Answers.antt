use Rattle.std.proofs.Common.{sym, ap, ◌∙◌}
use Rattle.nx_base.specs.Views.{load_bytes}
use Rattle.nx_space.specs.World.{World, view_in}
use Rattle.nx_top.proofs.first_path.ViewBytes.{not_refused, view_bytes_more}
use Rattle.nx_top.proofs.first.view_bytes.put_view_bytes.Goals as goal

pub returns-in-Err-clause-seen : goal.returns-in-Err-clause-seen
returns-in-Err-clause-seen g c = λ string long fits lies.
    let view = view_in (g.S.Space.world c.args.space.now) in
    let here = ap (λ n. load_bytes view n 1) (sym c.in-Some.ensures.1) ∙ ap (λ (w : World). load_bytes (view_in w) c.in-Some.place 1) (sym c.loop-i.invariant.same) in
    absurd (not_refused view string c.args.at c.loop-i.i c.args.count c.in-Err.field-0 c.loop-i-test.true long lies (here ∙ sym c.in-Err.ensures.answer))

pub loop-i-preserved : goal.loop-i-preserved
loop-i-preserved g c = record {
  same = c.load.ensures.same ∙ c.loop-i.invariant.same;
  seen = λ string long lies.
      let view = view_in (g.S.Space.world c.args.space.now) in
      let here = ap (λ n. load_bytes view n 1) (sym c.in-Some.ensures.1) ∙ ap (λ (w : World). load_bytes (view_in w) c.in-Some.place 1) (sym c.loop-i.invariant.same) in
      c.in_ok-push-in-Ok.ensures.ok ∙ view_bytes_more view string c.args.bytes.now c.loop-i.bytes c.args.at c.loop-i.i c.args.count c.in-Ok.byte c.loop-i-test.true long lies (here ∙ sym c.in-Ok.ensures.answer) (c.loop-i.invariant.seen string long lies);
}

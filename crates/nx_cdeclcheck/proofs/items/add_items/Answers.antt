use Rattle.std.proofs.Common.{refl, sym, ◌∙◌}
use Rattle.std.proofs.lemmas.Result.{err_from_is_err_and}
use Rattle.nx_cbody.specs.Declarations.{item_verdict, items_verdict}
use Rattle.nx_cdeclcheck.specs.Done.{declared}
use Rattle.nx_cdeclcheck.proofs.Walk.{goes_on, stops, all_done}
use Rattle.nx_cdeclcheck.proofs.items.add_items.Goals as goal

pub returns-in_err-add_item-clause-done : goal.returns-in_err-add_item-clause-done
returns-in_err-add_item-clause-done c =
    let p = err_from_is_err_and c.from_residual.result c.from_residual.ensures.1 in
    rw (p.1, p.2) (stops (λ d x. item_verdict c.args.rows.now c.args.base d.0 x d.1) (λ d xs. items_verdict c.args.rows.now c.args.base d.0 xs d.1) (λ d. refl) (λ d x xs. refl) _ (declared c.loop-item.names c.loop-item.locals, c.loop-item.used) c.args.items.now c.loop-item.item-index c.item-item.result _ c.loop-item-test.true (sym c.item-item.is) c.loop-item.invariant.left c.in_err-add_item.ensures.done)

pub loop-item-preserved : goal.loop-item-preserved
loop-item-preserved c = record {
  left = goes_on (λ d x. item_verdict c.args.rows.now c.args.base d.0 x d.1) (λ d xs. items_verdict c.args.rows.now c.args.base d.0 xs d.1) (λ d. refl) (λ d x xs. refl) (declared c.loop-item.names c.loop-item.locals, c.loop-item.used) _ c.args.items.now c.loop-item.item-index c.item-item.result _ c.loop-item-test.true (sym c.item-item.is) c.loop-item.invariant.left c.in_ok-add_item.ensures.done;
  same = record {
    functions = c.in_ok-add_item.ensures.same.functions ∙ c.loop-item.invariant.same.functions;
    globals = c.in_ok-add_item.ensures.same.globals ∙ c.loop-item.invariant.same.globals;
  };
}

pub returns-clause-done : goal.returns-clause-done
returns-clause-done c = all_done (λ d x. item_verdict c.args.rows.now c.args.base d.0 x d.1) (λ d xs. items_verdict c.args.rows.now c.args.base d.0 xs d.1) (λ d. refl) (λ d x xs. refl) (declared c.loop-item.names c.loop-item.locals, c.loop-item.used) c.args.items.now c.loop-item.item-index _ c.loop-item-test.false c.loop-item.invariant.left

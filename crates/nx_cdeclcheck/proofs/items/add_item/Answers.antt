use Rattle.nx_cdeclcheck.specs.Done.{declared}
use Rattle.nx_cdeclcheck.proofs.ItemForms.{plain_done, array_done, valued_done}
use Rattle.nx_cdeclcheck.proofs.items.add_item.Goals as goal

pub returns-in-Plain-clause-done : goal.returns-in-Plain-clause-done
returns-in-Plain-clause-done c =
    plain_done c.args.rows.now c.args.base (declared c.args.names.now c.args.locals.now) c.args.item.now c.args.used.now c.add_scalar.result _ _ c.in-Plain.is c.held_of-held.ensures c.add_scalar.ensures.done

pub returns-in-Array-clause-done : goal.returns-in-Array-clause-done
returns-in-Array-clause-done c =
    array_done c.args.rows.now c.args.base (declared c.args.names.now c.args.locals.now) c.args.item.now c.args.used.now c.add_array.result _ _ _ _ c.in-Array.is c.element_of-element.ensures c.constant_of-length.ensures c.add_array.ensures.done

pub returns-in-Valued-clause-done : goal.returns-in-Valued-clause-done
returns-in-Valued-clause-done c =
    valued_done c.args.rows.now c.args.base (declared c.args.names.now c.args.locals.now) c.args.item.now c.args.used.now c.add_valued.result _ _ _ _ _ c.in-Valued.is c.get.ensures c.held_of-held-in-Valued.ensures c.add_valued.ensures.done

use Rattle.nx_cfilecheck.proofs.Forms.{plain_done, valued_done, array_done, prototype_done, definition_done}
use Rattle.nx_cfilecheck.proofs.file.add_external.Goals as goal

pub returns-in-Plain : goal.returns-in-Plain
returns-in-Plain c = plain_done c.args.rows.now c.args.known.now c.args.x.now c.add_scalar.result _ _ c.in-Plain.is c.scalar_of.ensures c.add_scalar.ensures

pub returns-in-Valued : goal.returns-in-Valued
returns-in-Valued c = valued_done c.args.rows.now c.args.known.now c.args.x.now c.add_scalar-in-Valued.result _ _ _ _ c.in-Valued.is c.scalar_of-in-Valued.ensures c.constant_of-value.ensures c.add_scalar-in-Valued.ensures

pub returns-in-Array : goal.returns-in-Array
returns-in-Array c = array_done c.args.rows.now c.args.known.now c.args.x.now c.add_array.result _ _ _ _ c.in-Array.is c.element_of-element.ensures c.add_array.ensures

pub returns-in-Prototype : goal.returns-in-Prototype
returns-in-Prototype c = prototype_done c.args.rows.now c.args.known.now c.args.x.now c.check_prototype.result _ _ _ c.in-Prototype.is c.listed.ensures c.check_prototype.ensures

pub returns-in-Function : goal.returns-in-Function
returns-in-Function c = definition_done c.args.rows.now c.args.known.now c.args.x.now c.add_definition.result _ _ _ _ c.in-Function.is c.listed-in-Function.ensures c.add_definition.ensures

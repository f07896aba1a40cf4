use Rattle.nx_base.proofs.RangeLemmas.{store_only}
use Rattle.nx_base.proofs.Shapes.{store_shape}
use Rattle.nx_base.proofs.laws.a_store_changes_its_range_alone.Goals as goal

pub returns-clause-only : goal.returns-clause-only
returns-clause-only c = store_only

pub returns-clause-shape : goal.returns-clause-shape
returns-clause-shape c = store_shape

use Rattle.nx_space.proofs.Joins.{started_plan, started_has_view, others_have_views}
use Rattle.nx_space.proofs.laws.a_started_group_has_a_view.Goals as goal

pub returns-clause-memory_map : goal.returns-clause-memory_map
returns-clause-memory_map c = started_plan

pub returns-clause-own : goal.returns-clause-own
returns-clause-own c = started_has_view

pub returns-clause-others : goal.returns-clause-others
returns-clause-others c = others_have_views

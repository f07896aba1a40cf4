use Rattle.std.proofs.Common.{refl}
use Rattle.nx_path.proofs.BootLemmas.{after_one, absent_known}
use Rattle.nx_path.proofs.boot.fix_roots.Goals as goal

pub fix-requires-clause-absent : goal.fix-requires-clause-absent
fix-requires-clause-absent c = absent_known _ _ _ c.requires.empty refl

pub fix-requires-2-clause-absent : goal.fix-requires-2-clause-absent
fix-requires-2-clause-absent c = absent_known _ _ _ (after_one _ _ _ _ c.requires.empty c.fix.ensures.entries) refl

pub fix-requires-3-clause-absent : goal.fix-requires-3-clause-absent
fix-requires-3-clause-absent c =
    let one = after_one _ _ _ _ c.requires.empty c.fix.ensures.entries in
    absent_known _ _ _ (after_one _ _ _ _ one c.fix-2.ensures.entries) refl

pub fix-requires-4-clause-absent : goal.fix-requires-4-clause-absent
fix-requires-4-clause-absent c =
    let one = after_one _ _ _ _ c.requires.empty c.fix.ensures.entries in
    let two = after_one _ _ _ _ one c.fix-2.ensures.entries in
    absent_known _ _ _ (after_one _ _ _ _ two c.fix-3.ensures.entries) refl

pub returns-clause-entries : goal.returns-clause-entries
returns-clause-entries c =
    let one = after_one _ _ _ _ c.requires.empty c.fix.ensures.entries in
    let two = after_one _ _ _ _ one c.fix-2.ensures.entries in
    let three = after_one _ _ _ _ two c.fix-3.ensures.entries in
    after_one _ _ _ _ three c.fix-4.ensures.entries

use Rattle.std.proofs.Common.{◌≡◌, ℕ, drop}
use Rattle.nx_base.specs.declared.access.Access.{Access}
use Rattle.nx_base.specs.declared.access.Mode.{Mode}
use Rattle.nx_pmp.specs.Protection.{rules_from, decided}
use Rattle.nx_pmp.specs.Unit.{Contains}
use Rattle.nx_pmp.proofs.region.region_of.Given as goal

-- of an access that lies in what is left, the entries that are left decide as all of them do
abbrev pub invariant-loop-entry : goal.invariant-loop-entry
invariant-loop-entry l =
    (k n : ℕ) (access : Access) (mode : Mode) → Contains l.within k n → decided (rules_from l.before (drop l.entry-index l.pmp.entries)) k n access mode ≡ decided (rules_from 0 l.pmp.entries) k n access mode

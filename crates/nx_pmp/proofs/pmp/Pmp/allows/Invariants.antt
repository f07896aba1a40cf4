use Rattle.std.proofs.Common.{◌≡◌, drop}
use Rattle.nx_pmp.specs.Protection.{rules_from, decided}
use Rattle.nx_pmp.proofs.pmp.Pmp.allows.Given as goal

-- the entries that are left decide as all of them do
abbrev pub invariant-loop-entry : goal.invariant-loop-entry
invariant-loop-entry l =
    decided (rules_from l.before (drop l.entry-index l.self.entries)) l.at l.len l.access l.mode ≡ decided (rules_from 0 l.self.entries) l.at l.len l.access l.mode

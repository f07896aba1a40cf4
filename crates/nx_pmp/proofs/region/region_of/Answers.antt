use Rattle.std.proofs.Common.{sym, ap, ◌∙◌}
use Rattle.nx_pmp.specs.Matching.{matched}
use Rattle.nx_pmp.specs.Protection.{allows, any_byte, all_bytes, entry_at}
use Rattle.nx_pmp.specs.Unit.{IsDecided}
use Rattle.nx_pmp.proofs.Kept.{passed_at, decides_here}
use Rattle.nx_pmp.proofs.region.region_of.Goals as goal

pub returns-in-Some : goal.returns-in-Some
unfolding IsDecided allows
returns-in-Some c at len access mode some inside =
    let s = c.in-Some.ensures at len some inside in
    let m = c.matched-matched.ensures ∙ ap (λ k. matched k c.loop-entry.before (entry_at c.args.pmp.now.entries c.loop-entry.entry-index).addr) c.matching_of.ensures in
    sym (c.loop-entry.invariant at len access mode s.0)
    ∙ decides_here c.args.pmp.now.entries c.loop-entry.before c.loop-entry.entry-index at len access mode
    (ap (λ o. any_byte o at len) (sym m) ∙ s.1)
    (ap (λ o. all_bytes o at len) (sym m) ∙ s.2)

pub loop-entry-preserved : goal.loop-entry-preserved
loop-entry-preserved c k n access mode inside =
    let b = c.beside-within.ensures k n inside in
    let m = c.matched-matched.ensures ∙ ap (λ k. matched k c.loop-entry.before (entry_at c.args.pmp.now.entries c.loop-entry.entry-index).addr) c.matching_of.ensures in
    sym (passed_at c.args.pmp.now.entries c.loop-entry.before c.loop-entry.entry-index k n access mode (ap (λ o. any_byte o k n) (sym m) ∙ b.1))
    ∙ c.loop-entry.invariant k n access mode b.0

pub returns : goal.returns
returns c = c.no_region.ensures _

use Rattle.std.proofs.Common.{◌≡◌, ◌-◌, ◌+◌, suc, ◌∙◌, arith}
use Rattle.nx_ksys.specs.Ends.{without_descriptors}
use Rattle.nx_objects.specs.Tables.{with_objects}
use Rattle.nx_objects.proofs.Places.{placed_still, same_then}
use Rattle.nx_objects.proofs.SweptPlaces.{closed_next, closed_none}
use Rattle.nx_objects.proofs.objects.Objects.close_all.Goals as goal

pub loop-fd-preserved : goal.loop-fd-preserved
loop-fd-preserved g c =
    let inv = c.loop-fd.invariant in
    let fd = c.loop-fd.fd in
    let left : 32 - fd ≡ suc (32 - (fd + 1)) = omega (arith, c.loop-fd-test.true) in
    record {
      state = λ k. closed_next (32 - fd) (32 - (fd + 1)) fd c.args.group _ _ left (c.close.ensures.state k) ∙ inv.state k;
      placed = placed_still _ _ _ inv.placed c.close.ensures.places;
      held = c.close.ensures.held;
      alike = g.met.B.BlockStore.alike_transitive _ _ _ inv.alike c.close.ensures.alike;
      places = same_then _ _ _ inv.places c.close.ensures.places;
    }

pub returns-clause-state : goal.returns-clause-state
unfolding without_descriptors
returns-clause-state g c = λ k.
    let fd = c.loop-fd.fd in
    let over : 32 - fd ≡ 0 = omega (arith, c.loop-fd-test.false) in
    closed_none (32 - fd) fd c.args.group _ over ∙ c.loop-fd.invariant.state k

-- What the replies that fit a step's call hand out.
use Rattle.std.proofs.Common.{◌≡◌, ℕ, ◌≤◌, List, [], ◌∷◌, length, arith, subst}
use Rattle.nx_base.specs.Calls.{Reply}
use Rattle.nx_shrun.specs.declared.step.Listing.{Listing}
use Rattle.nx_shrun.specs.declared.step.Listing.TheVariants as listing
use Rattle.nx_shrun.specs.declared.step.Step.TheVariants as step
use Rattle.nx_shrun.specs.Calls.{Call, Fits, handed, output}
use Rattle.nx_shrun.specs.Steps.{Running, call_at}
use Rattle.nx_base.specs.Replies.{HaveRoom}
use Rattle.nx_ksys.specs.Answers.{input_at}
use Rattle.nx_shrun.proofs.Bounded.{handed_le}

pub read_fits : (q : Call) (g : Running) (r : Reply) → q ≡ call_at g step.Read → Fits q r → length (handed r) ≤ 4096
read_fits q g r e h = handed_le r 4096 [] (fits_of (subst (λ p. Fits p r) e h))
  where
    fits_of : Fits (call_at g step.Read) r → HaveRoom (4096 ∷ []) r.outputs
    fits_of h = h.room

pub listing_fits : (q : Call) (g : Running) (l : Listing) (index : ℕ) (r : Reply) → q ≡ call_at g (step.Each l index) → Fits q r → length (handed r) ≤ 512
listing_fits q g l index r e h = of l (subst (λ p. Fits p r) e h)
  where
    of : (l : Listing) → Fits (call_at g (step.Each l index)) r → length (handed r) ≤ 512
    of listing.Names h = omega (arith, handed_le r 256 [] h.room)
    of listing.Variables h = handed_le r 512 [] h.room
    of listing.Groups h = handed_le r 512 [] h.room

pub directory_fits : (q : Call) (g : Running) (r : Reply) → q ≡ call_at g step.Directory → Fits q r → length (handed r) ≤ 512
directory_fits q g r e h = let f : Fits (call_at g step.Directory) r = subst (λ p. Fits p r) e h in omega (arith, handed_le r 256 [] f.room)

pub code_fits : (q : Call) (g : Running) (r : Reply) → q ≡ call_at g step.Wait → Fits q r → length (output r) ≤ 4
code_fits q g r e h = let f : Fits (call_at g step.Wait) r = subst (λ p. Fits p r) e h in of r.outputs f.room
  where
    of : (outputs : List (List ℕ)) → HaveRoom (4 ∷ []) outputs → length (input_at outputs 0) ≤ 4
    of [] h = omega arith
    of (o ∷ os) h = h.0

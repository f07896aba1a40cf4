-- What an assignment to a variable comes to, once its values are taken.
use Rattle.std.proofs.Common.{◌≡◌, Bool, List, ◌∷◌, Option, Result, Ok, Err, IfOk, refl, sym, ap, subst, ◌∙◌}
use Rattle.nx_checked.specs.declared.checked.Cell.{Cell}
use Rattle.nx_checked.specs.declared.checked.Cell.TheVariants as cell
use Rattle.nx_checked.specs.declared.checked.Scalar.{Scalar}
use Rattle.nx_checked.specs.declared.checked.IntOperator.{IntOperator}
use Rattle.nx_checked.specs.declared.checked.StepValue.{StepValue}
use Rattle.nx_cobjects.specs.declared.value.Value.{Value}
use Rattle.nx_cobjects.specs.declared.value.Value.TheVariants.{Int}
use Rattle.nx_cobjects.specs.declared.value.WrongKind.{WrongKind}
use Rattle.nx_cobjects.specs.declared.value.WrongKind.TheVariants as wrong
use Rattle.nx_cobjects.specs.Values.{◌>>=◌, kept}
use Rattle.nx_cobjects.specs.Memory.{Memory}
use Rattle.nx_cmean.specs.Items.{Write, Raise, Bump}
use Rattle.nx_cmean.specs.Meaning.{Frame, Changed, with_values, on_top, on_two, raised, stepping, new_or_old, assigned, stored}
use Rattle.nx_cthread.specs.Threads.{unless}

-- The values that were there before count for nothing.
rest_alike : (m : Memory) (f : Frame) (x : Cell) (v r : Value) (rest : List Value) → assigned m (with_values f rest) x v r rest ≡ assigned m f x v r rest
rest_alike m f (cell.Local i) v r rest = refl
rest_alike m f (cell.Global i) v r rest = refl

pub write_is : (m : Memory) (f : Frame) (s : Scalar) (x : Cell) (v k : Value) (rest : List Value) → f.values ≡ v ∷ rest → kept s v ≡ Ok k → assigned m (with_values f rest) x k k rest ≡ stored m f (Write s x)
write_is m f s x v k rest e h =
    rest_alike m f x k k rest
    ∙ sym (ap (λ (vs : List Value). on_top vs (Err wrong.Bounds) (λ v rest. kept s v >>= (λ k. assigned m f x k k rest))) e ∙ ap (λ (r : Result Value WrongKind). r >>= (λ k. assigned m f x k k rest)) h)

pub raise_is : (m : Memory) (f : Frame) (op : IntOperator) (s : Scalar) (x : Cell) (v e k : Value) (rest : List Value) → f.values ≡ e ∷ v ∷ rest → raised m op s v e ≡ Ok k → assigned m (with_values f rest) x k k rest ≡ stored m f (Raise op s x)
raise_is m f op s x v e k rest q h =
    rest_alike m f x k k rest
    ∙ sym (ap (λ (vs : List Value). on_two vs (Err wrong.Bounds) (λ v e rest. raised m op s v e >>= (λ k. assigned m f x k k rest))) q ∙ ap (λ (r : Result Value WrongKind). r >>= (λ k. assigned m f x k k rest)) h)

pub bump_is : (m : Memory) (f : Frame) (v : StepValue) (up : Bool) (s : Scalar) (x : Cell) (old k : Value) (rest : List Value) → f.values ≡ old ∷ rest → raised m (stepping up) s old (Int 1) ≡ Ok k → assigned m (with_values f rest) x k (new_or_old v k old) rest ≡ stored m f (Bump v up s x)
bump_is m f v up s x old k rest e h =
    rest_alike m f x k (new_or_old v k old) rest
    ∙ sym (ap (λ (vs : List Value). on_top vs (Err wrong.Bounds) (λ old rest. raised m (stepping up) s old (Int 1) >>= (λ k. assigned m f x k (new_or_old v k old) rest))) e ∙ ap (λ (r : Result Value WrongKind). r >>= (λ k. assigned m f x k (new_or_old v k old) rest)) h)

pub carried : {E : Type 0} (r : Result (Option WrongKind) E) (c : Changed) (a b : Result Changed WrongKind) → a ≡ b → IfOk r (λ o. unless o c ≡ a) → IfOk r (λ o. unless o c ≡ b)
carried r c a b e h = subst (λ (z : Result Changed WrongKind). IfOk r (λ o. unless o c ≡ z)) e h

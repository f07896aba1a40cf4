-- No text begins where there are no bytes.
use Rattle.std.proofs.Common.{◌≡◌, ℕ, zero, suc, ◌≤◌, List, [], ◌∷◌, length, refl, ap, ◌∙◌, sym, Bool, false, None, arith}
use Rattle.std.specs.Prelude.{Option, Some, nat_lt, if◌then◌else◌, take, drop, option_map, slice_index, ◌==◌, ◌+◌, ◌*◌}
use Rattle.std.proofs.lemmas.Bool.{le-leb}
use Rattle.nx_checked.specs.declared.checked.Element.TheVariants as element
use Rattle.nx_cobjects.specs.Values.{size_of}
use Rattle.nx_cobjects.specs.Groups.{Object, object}
use Rattle.nx_cobjects.specs.Memory.{object_in}
use Rattle.nx_cobjects.specs.Buffers.{text_of, text_length}

outside : (at : ℕ) → nat_lt at 0 ≡ false
outside at = grind (arith, le-leb)

object_past : (os : List Object) (i : ℕ) → length os ≤ i → object_in os i ≡ object element.Char []
object_past [] i h = refl
object_past (x ∷ os) zero h = absurd (omega arith)
object_past (x ∷ os) (suc i) h = object_past os i (omega arith)

nowhere : (at n : ℕ) → text_length [] at n ≡ None
nowhere at zero = refl
nowhere at (suc n) = ap (λ (b : Bool). if b then (if slice_index [] at == 0 then Some 0 else option_map suc (text_length [] (at + 1) n)) else None) (outside at)

empty_text : (at : ℕ) → text_of (object element.Char []) at ≡ None
empty_text at = let from = size_of element.Char * at in ap (λ (n : Option ℕ). option_map (λ (k : ℕ). take k (drop from [])) n) (nowhere from 256)

pub no_text : (os : List Object) (i at : ℕ) → length os ≤ i → None ≡ text_of (object_in os i) at
no_text os i at h = sym (ap (λ (o : Object). text_of o at) (object_past os i h) ∙ empty_text at)

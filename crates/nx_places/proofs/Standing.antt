-- Operations stand one behind the other.
use Rattle.std.proofs.Common.{◌≡◌, ℕ, zero, suc, ◌+◌, ◌*◌, ◌≤◌, List, [], ◌∷◌, ◌++◌, length, Some, refl, ap, subst, arith, length-append}
use Rattle.std.specs.Prelude.{slice_get}
use Rattle.nx_slot.specs.declared.op.SlotOp.{SlotOp}
use Rattle.nx_slot.specs.declared.program.SlotFunction.{SlotFunction}
use Rattle.nx_codegen.specs.Addresses.{Links}
use Rattle.nx_codegen.specs.Calling.{enter_code}
use Rattle.nx_codegen.specs.Code.{operation_code, offset, is_near, place_of, code_from, code_of}
use Rattle.nx_codegen.proofs.Lengths.{same_length, offset_first, offset_next, place_aligned}
use Rattle.nx_shown.specs.Places.{Place}
use Rattle.nx_pieces.specs.Parts.{IsCode}
use Rattle.nx_pieces.proofs.Parts.{front, back}
use Rattle.nx_places.specs.Laws.{code_at, EntriesStandFirst, OperationsStand, PlacesFollow, PlacesLie}

place_first : (g : SlotFunction) → place_of g 0 ≡ 4 * length (enter_code g)
unfolding place_of
place_first g = let z = offset_first (is_near g) g g.ops in omega (arith, z)

pub follow : PlacesFollow
unfolding place_of
follow l g at o e =
    let h = offset_next (is_near g) g g.ops at o e in
    let s = same_length l (is_near g) g (place_of g) (place_of g at) at o in
    omega (arith, h, s)

stands_from : (e : Place) (l : Links) (g : SlotFunction) (start at k : ℕ) (ops : List SlotOp) (o : SlotOp) → ((j : ℕ) (p : SlotOp) → slice_get ops j ≡ Some p → slice_get g.ops (at + j) ≡ Some p) → slice_get ops k ≡ Some o
    → IsCode e (start + place_of g at) (code_from l g at ops) → IsCode e (start + place_of g (at + k)) (code_at l g (at + k) o)
unfolding code_from
stands_from e l g start at k [] o h q s = absurd cc
stands_from e l g start at zero (p ∷ ops) o h q s =
    let w : p ≡ o = cc in
    let z : at ≡ at + 0 = omega arith in
    subst (λ n. IsCode e (start + place_of g n) (code_at l g n o)) z
    (subst (λ x. IsCode e (start + place_of g at) (code_at l g at x)) w (front e (start + place_of g at) (code_at l g at p) (code_from l g (suc at) ops) s))
stands_from e l g start at (suc k) (p ∷ ops) o h q s =
    let z : at + 0 ≡ at = omega arith in
    let f = follow l g at p (subst (λ n. slice_get g.ops n ≡ Some p) z (h 0 p refl)) in
    let n : start + place_of g at + 4 * length (code_at l g at p) ≡ start + place_of g (suc at) = omega (arith, f) in
    let m : suc at + k ≡ at + suc k = omega arith in
    subst (λ n. IsCode e (start + place_of g n) (code_at l g n o)) m
    (stands_from e l g start (suc at) k ops o (λ j x w. let v : at + suc j ≡ suc at + j = omega arith in subst (λ n. slice_get g.ops n ≡ Some x) v (h (suc j) x w)) q
    (subst (λ x. IsCode e x (code_from l g (suc at) ops)) n (back e (start + place_of g at) (code_at l g at p) (code_from l g (suc at) ops) s)))

in_parts : (l : Links) (g : SlotFunction) → code_of l g ≡ enter_code g ++ code_from l g 0 g.ops
unfolding code_of
in_parts l g = refl

pub entries : EntriesStandFirst
entries e l g start s = (front e start (enter_code g) (code_from l g 0 g.ops) (subst (λ c. IsCode e start c) (in_parts l g) s), place_first g)

pub stand : OperationsStand
stand e l g start at o s q =
    let p = place_first g in
    let b = back e start (enter_code g) (code_from l g 0 g.ops) (subst (λ c. IsCode e start c) (in_parts l g) s) in
    let n : start + 4 * length (enter_code g) ≡ start + place_of g 0 = omega (arith, p) in
    let z : 0 + at ≡ at = omega arith in
    subst (λ k. IsCode e (start + place_of g k) (code_at l g k o)) z
    (stands_from e l g start 0 at g.ops o (λ j x w. let v : j ≡ 0 + j = omega arith in subst (λ k. slice_get g.ops k ≡ Some x) v w) q (subst (λ x. IsCode e x (code_from l g 0 g.ops)) n b))

-- No operation begins behind all instructions.
all_length : (l : Links) (g : SlotFunction) (at k : ℕ) (ops : List SlotOp) → offset (is_near g) g ops k ≤ 4 * length (code_from l g at ops)
unfolding code_from offset
all_length l g at k [] = omega arith
all_length l g at zero (o ∷ ops) = omega arith
all_length l g at (suc k) (o ∷ ops) =
    let h = all_length l g (suc at) k ops in
    let s = same_length l (is_near g) g (place_of g) (place_of g at) at o in
    let n = length-append (operation_code l (is_near g) g (place_of g) (place_of g at) at o) (code_from l g (suc at) ops) in
    omega (arith, h, s, n)

place_up : (l : Links) (g : SlotFunction) (at : ℕ) → place_of g at ≤ 4 * length (code_of l g)
unfolding place_of
place_up l g at =
    let h = all_length l g 0 at g.ops in
    let n = length-append (enter_code g) (code_from l g 0 g.ops) in
    let w = ap length (in_parts l g) in
    omega (arith, h, n, w)

pub lie : PlacesLie
lie e l g start at s al = let p = place_aligned g at in let h = place_up l g at in let f = s.1 in (omega (arith, p, al), omega (arith, h, f))

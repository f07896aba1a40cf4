-- Operations one after another.
use Rattle.std.proofs.Common.{◌≡◌, ℕ, zero, suc, ◌+◌, ◌*◌, ◌/◌, ◌^◌, ◌<◌, ◌≤◌, Bool, true, false, List, [], ◌∷◌, ◌++◌, length, Some, None, refl, sym, ap, ◌∙◌, subst, arith, length-append}
use Rattle.std.specs.Prelude.{slice_get, slice_index_or, drop, nat_le}
use Rattle.std.proofs.lemmas.Bool.Decides.{nat_tests}
use Rattle.nx_rv.specs.declared.inst.Inst.{Inst}
use Rattle.nx_slot.specs.declared.op.SlotOp.{SlotOp}
use Rattle.nx_slot.specs.declared.op.SlotOp.TheVariants as op
use Rattle.nx_slot.specs.declared.program.SlotFunction.{SlotFunction}
use Rattle.nx_codegen.specs.declared.output.Ref.{Ref}
use Rattle.nx_codegen.specs.Addresses.{Links, no_links}
use Rattle.nx_codegen.specs.Frames.{IsFunction}
use Rattle.nx_codegen.specs.Calling.{enter_code}
use Rattle.nx_codegen.specs.Code.{operation_code, size_of, offset, is_near, place_of, code_from, code_of}
use Rattle.nx_codegen.specs.Refs.{refs_in, refs_from, refs_of}
use Rattle.nx_codegen.specs.Emitted.{ArePlaces, destination}
use Rattle.nx_codegen.specs.Cells.{HasCells, AllHaveCells}
use Rattle.nx_codegen.proofs.Lengths.{by_test, same_length, offset_first, offset_next}
use Rattle.nx_codegen.proofs.Sizes.{size_small, enter_few}

pub offset_past : (near : Bool) (g : SlotFunction) (ops : List SlotOp) (k : ℕ) → length ops ≤ k → offset near g ops k ≡ offset near g ops (length ops)
unfolding offset
offset_past near g [] k h = refl
offset_past near g (o ∷ ops) zero h = absurd (omega (arith, h))
offset_past near g (o ∷ ops) (suc k) h = ap (λ n. size_of near g o + n) (offset_past near g ops k (omega (arith, h)))

-- Only the place that an operation jumps to is asked for.
one_place : (l : Links) (near : Bool) (g : SlotFunction) (there : ℕ → ℕ) (here at : ℕ) (o : SlotOp) → operation_code l near g (λ i. there (destination at o)) here 0 o ≡ operation_code l near g there here at o
one_place l near g there here at (op.Move to from) = refl
one_place l near g there here at (op.Forge to from) = refl
one_place l near g there here at (op.Apply o to left right) = refl
one_place l near g there here at (op.Change o to from) = refl
one_place l near g there here at (op.SkipUnless test left right past) = refl
one_place l near g there here at (op.Skip past) = refl
one_place l near g there here at (op.Back by) = refl
one_place l near g there here at (op.Ask number first count) = refl
one_place l near g there here at (op.Go function first count) = refl
one_place l near g there here at (op.Give value) = refl
one_place l near g there here at (op.Make k) = refl
one_place l near g there here at (op.Local to k) = refl
one_place l near g there here at (op.Static to o) = refl
one_place l near g there here at (op.Entry to function) = refl
one_place l near g there here at (op.Fetch to o) = refl
one_place l near g there here at (op.Keep o from) = refl
one_place l near g there here at (op.Index to base index w) = refl
one_place l near g there here at (op.Load to place w) = refl
one_place l near g there here at (op.Store place value w) = refl

drop_next : (ops : List SlotOp) (k : ℕ) (o : SlotOp) → slice_get ops k ≡ Some o → drop k ops ≡ o ∷ drop (suc k) ops
drop_next [] k o e = absurd cc
drop_next (p ∷ ops) zero o e = let w : p ≡ o = cc in ap (λ x. x ∷ ops) w
drop_next (p ∷ ops) (suc k) o e = drop_next ops k o e

drop_past : (ops : List SlotOp) (k : ℕ) → length ops ≤ k → drop k ops ≡ []
drop_past [] zero h = refl
drop_past [] (suc k) h = refl
drop_past (o ∷ ops) zero h = absurd (omega (arith, h))
drop_past (o ∷ ops) (suc k) h = drop_past ops k (omega (arith, h))

pub none_past : (ops : List SlotOp) (k : ℕ) → slice_get ops k ≡ None → length ops ≤ k
none_past [] k e = omega arith
none_past (o ∷ ops) zero e = absurd cc
none_past (o ∷ ops) (suc k) e = let h = none_past ops k e in omega (arith, h)

pub get_within : (ops : List SlotOp) (k : ℕ) (o : SlotOp) → slice_get ops k ≡ Some o → k < length ops
get_within [] k o e = absurd cc
get_within (p ∷ ops) zero o e = omega arith
get_within (p ∷ ops) (suc k) o e = let h = get_within ops k o e in omega (arith, h)

append_assoc : {X : Type 0} (a b c : List X) → (a ++ b) ++ c ≡ a ++ (b ++ c)
append_assoc [] b c = refl
append_assoc (i ∷ a) b c = ap (λ x. i ∷ x) (append_assoc a b c)

append_none : {X : Type 0} (a : List X) → a ++ [] ≡ a
append_none [] = refl
append_none (i ∷ a) = ap (λ x. i ∷ x) (append_none a)

-- What stands so far, and what is still to be put.
pub record Emits (g : SlotFunction) (k : ℕ) (is : List Inst) (rs : List Ref) : Type 0 where
  pub code : is ++ code_from no_links g k (drop k g.ops) ≡ code_of no_links g
  pub refs : rs ++ refs_from g (length is) (drop k g.ops) ≡ refs_of g
  pub counted : 4 * length is ≡ place_of g k

pub emits_first : (g : SlotFunction) → Emits g 0 (enter_code g) []
unfolding code_of refs_of place_of
emits_first g = record { code = refl; refs = refl; counted = let z = offset_first (is_near g) g g.ops in omega (arith, z) }

place_next : (g : SlotFunction) (k : ℕ) (o : SlotOp) → slice_get g.ops k ≡ Some o → place_of g (suc k) ≡ place_of g k + size_of (is_near g) g o
unfolding place_of
place_next g k o q = let h = offset_next (is_near g) g g.ops k o q in omega (arith, h)

pub emits_next : (g : SlotFunction) (k : ℕ) (code : List Inst) (refs : List Ref) (o : SlotOp) → Emits g k code refs → slice_get g.ops k ≡ Some o
    → Emits g (suc k) (code ++ operation_code no_links (is_near g) g (λ i. place_of g (destination k o)) (place_of g k) 0 o) (refs ++ refs_in g (length code) o)
unfolding code_from refs_from
emits_next g k code refs o e q =
    let near = is_near g in
    let here = place_of g k in
    let same = one_place no_links near g (place_of g) here k o in
    let is = operation_code no_links near g (place_of g) here k o in
    let d = drop_next g.ops k o q in
    let n = length-append code is in
    let s = same_length no_links near g (place_of g) here k o in
    let next : length (code ++ is) ≡ length code + size_of near g o / 4 = omega (arith, n, s) in
    let w : 4 * length (code ++ is) ≡ place_of g (suc k) = let h = e.counted in let p = place_next g k o q in omega (arith, n, s, h, p) in
    subst (λ x. Emits g (suc k) (code ++ x) (refs ++ refs_in g (length code) o)) (sym same)
    (record {
      code = append_assoc code is (code_from no_links g (suc k) (drop (suc k) g.ops)) ∙ ap (λ x. code ++ code_from no_links g k x) (sym d) ∙ e.code;
      refs = append_assoc refs (refs_in g (length code) o) _ ∙ ap (λ x. refs ++ (refs_in g (length code) o ++ refs_from g x (drop (suc k) g.ops))) next ∙ ap (λ x. refs ++ refs_from g (length code) x) (sym d) ∙ e.refs;
      counted = w;
    })

-- Where no operation is left, all of it stands.
pub emits_last : (g : SlotFunction) (k : ℕ) (code : List Inst) (refs : List Ref) → Emits g k code refs → length g.ops ≤ k → (code ≡ code_of no_links g) × (refs ≡ refs_of g)
unfolding code_from refs_from
emits_last g k code refs e h =
    let d = drop_past g.ops k h in (
      sym (append_none code) ∙ ap (λ x. code ++ code_from no_links g k x) (sym d) ∙ e.code,
      sym (append_none refs) ∙ ap (λ x. refs ++ refs_from g (length code) x) (sym d) ∙ e.refs,
    )

pub all_there : (g : SlotFunction) (ops : List SlotOp) (k : ℕ) (o : SlotOp) → AllHaveCells g ops → slice_get ops k ≡ Some o → HasCells g o
all_there g [] k o h e = absurd cc
all_there g (p ∷ ops) zero o h e = let w : p ≡ o = cc in subst (HasCells g) w h.0
all_there g (p ∷ ops) (suc k) o h e = all_there g ops k o h.1 e

pub index_of : (xs : List ℕ) (k p : ℕ) → slice_get xs k ≡ Some p → slice_index_or xs k 0 ≡ p
index_of [] k p e = absurd cc
index_of (x ∷ xs) zero p e = let w : x ≡ p = cc in w
index_of (x ∷ xs) (suc k) p e = index_of xs k p e

-- Places, from the first on.
pub places_first : (near : Bool) (g : SlotFunction) (places : List ℕ) → places ≡ 0 ∷ [] → ArePlaces near g 0 places
places_first near g places e = subst (ArePlaces near g 0) (sym e) (record { counted = refl; each = first })
  where
    first : (k : ℕ) → k ≤ 0 → slice_get (0 ∷ []) k ≡ Some (offset near g g.ops k)
    first zero h = ap Some (sym (offset_first near g g.ops))
    first (suc k) h = absurd (omega (arith, h))

get_front : (xs : List ℕ) (y k : ℕ) → k < length xs → slice_get (xs ++ y ∷ []) k ≡ slice_get xs k
get_front [] y k h = absurd (omega (arith, h))
get_front (x ∷ xs) y zero h = refl
get_front (x ∷ xs) y (suc k) h = get_front xs y k (omega (arith, h))

get_end : (xs : List ℕ) (y k : ℕ) → k ≡ length xs → slice_get (xs ++ y ∷ []) k ≡ Some y
get_end [] y k e = let q : k ≡ 0 = e in rw q refl
get_end (x ∷ xs) y zero e = absurd (omega (arith, e))
get_end (x ∷ xs) y (suc k) e = get_end xs y k (omega (arith, e))

pub places_next : (near : Bool) (g : SlotFunction) (k next : ℕ) (places : List ℕ) (o : SlotOp) → ArePlaces near g k places → slice_get g.ops k ≡ Some o → next ≡ offset near g g.ops k + size_of near g o
    → ArePlaces near g (suc k) (places ++ next ∷ []) × (next ≡ offset near g g.ops (suc k))
places_next near g k next places o a e q = (record { counted = counted; each = each }, is)
  where
    is : next ≡ offset near g g.ops (suc k)
    is = q ∙ sym (offset_next near g g.ops k o e)

    counted : length (places ++ next ∷ []) ≡ suc (suc k)
    counted = let n = length-append places (next ∷ []) in let c = a.counted in omega (arith, n, c)

    each : (j : ℕ) → j ≤ suc k → slice_get (places ++ next ∷ []) j ≡ Some (offset near g g.ops j)
    each j h = by_test (nat_le j k)
        (λ t. let m : j ≤ k = grind (arith, nat_tests) in let c = a.counted in get_front places next j (omega (arith, m, c)) ∙ a.each j m)
        (λ t. let m : k < j = grind (arith, nat_tests) in let c = a.counted in let w : j ≡ suc k = omega (arith, m, h) in get_end places next j (omega (arith, w, c)) ∙ ap Some (is ∙ ap (offset near g g.ops) (sym w)))

-- All places are small.
pub offset_small : (near : Bool) (g : SlotFunction) (ops : List SlotOp) (k : ℕ) → AllHaveCells g ops → offset near g ops k ≤ 160 * length ops
unfolding offset
offset_small near g [] k h = omega arith
offset_small near g (o ∷ ops) zero h = omega arith
offset_small near g (o ∷ ops) (suc k) h = let s = size_small near g o h.0 in let m = offset_small near g ops k h.1 in omega (arith, s, m)

pub there_is : (near : Bool) (g : SlotFunction) (k e : ℕ) → near ≡ is_near g → e ≡ 4 * length (enter_code g) → e + offset near g g.ops k ≡ place_of g k
unfolding place_of
there_is near g k e n q = subst (λ b. e + offset near g g.ops k ≡ 4 * length (enter_code g) + offset b g g.ops k) n (ap (λ x. x + offset near g g.ops k) q)

pub here_is : (near : Bool) (g : SlotFunction) (places : List ℕ) (k e : ℕ) → near ≡ is_near g → ArePlaces near g (length g.ops) places → k ≤ length g.ops → e ≡ 4 * length (enter_code g) → e + slice_index_or places k 0 ≡ place_of g k
here_is near g places k e n a h q = ap (λ x. e + x) (index_of places k (offset near g g.ops k) (a.each k h)) ∙ there_is near g k e n q

pub place_small : (g : SlotFunction) (k : ℕ) → IsFunction g → AllHaveCells g g.ops → length g.ops ≤ 2 ^ 20 → place_of g k < 2 ^ 30
unfolding place_of
place_small g k i h f = let o = offset_small (is_near g) g g.ops k h in let e = enter_few g i in omega (arith, o, e, f)

pub emits_put : (g : SlotFunction) (near : Bool) (k here there : ℕ) (code is : List Inst) (refs rs : List Ref) (o : SlotOp)
    → near ≡ is_near g → here ≡ place_of g k → there ≡ place_of g (destination k o) → Emits g k code refs → slice_get g.ops k ≡ Some o
    → is ≡ code ++ operation_code no_links near g (λ i. there) here 0 o → rs ≡ refs ++ refs_in g (length code) o → Emits g (k + 1) is rs
emits_put g near k here there code is refs rs o n h t e q p r =
    let w = emits_next g k code refs o e q in
    let s : suc k ≡ k + 1 = omega arith in
    let moved : code ++ operation_code no_links (is_near g) g (λ i. place_of g (destination k o)) (place_of g k) 0 o ≡ is =
    sym (p ∙ ap (λ b. code ++ operation_code no_links b g (λ i. there) here 0 o) n
    ∙ ap (λ x. code ++ operation_code no_links (is_near g) g (λ i. there) x 0 o) h
    ∙ ap (λ x. code ++ operation_code no_links (is_near g) g (λ i. x) (place_of g k) 0 o) t) in
    subst (λ x. Emits g x is rs) s (subst (λ x. Emits g (suc k) x rs) moved (subst (λ x. Emits g (suc k) (code ++ operation_code no_links (is_near g) g (λ i. place_of g (destination k o)) (place_of g k) 0 o) x) (sym r) w))

pub is_reached : (g : SlotFunction) (e end : ℕ) → e ≡ 4 * length (enter_code g) → end ≡ offset true g g.ops (length g.ops) → e + end < 4096 → true ≡ is_near g
unfolding is_near
is_reached g e end q w h =
    let m : 4 * length (enter_code g) + offset true g g.ops (length g.ops) < 4096 = omega (arith, q, w, h) in
    sym (grind (arith, nat_tests))

pub is_not_reached : (g : SlotFunction) (e end : ℕ) → e ≡ 4 * length (enter_code g) → end ≡ offset true g g.ops (length g.ops) → 4096 ≤ e + end → false ≡ is_near g
unfolding is_near
is_not_reached g e end q w h =
    let m : 4096 ≤ 4 * length (enter_code g) + offset true g g.ops (length g.ops) = omega (arith, q, w, h) in
    sym (grind (arith, nat_tests))

pub end_small : (g : SlotFunction) (e end : ℕ) → IsFunction g → AllHaveCells g g.ops → length g.ops ≤ 2 ^ 20 → e ≡ 4 * length (enter_code g) → end ≡ offset true g g.ops (length g.ops) → e + end < 2 ^ 30
end_small g e end i h f q w =
    let o = offset_small true g g.ops (length g.ops) h in
    let m = enter_few g i in
    omega (arith, q, w, o, m, f)

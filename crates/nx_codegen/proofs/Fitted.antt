-- Each instruction of a function fits its word.
use Rattle.std.proofs.Common.{◌≡◌, ℕ, suc, ◌+◌, ◌-◌, ◌*◌, ◌%◌, ◌<◌, ◌≤◌, Bool, true, false, List, [], ◌∷◌, length, Some, refl, ap, ◌∙◌, arith, length-append}
use Rattle.std.specs.Prelude.{slice_get}
use Rattle.std.proofs.lemmas.Bool.Decides.{nat_tests}
use Rattle.nx_slot.specs.declared.op.Comparison.{Comparison}
use Rattle.nx_slot.specs.declared.op.SlotOp.{SlotOp}
use Rattle.nx_slot.specs.declared.op.SlotOp.TheVariants as op
use Rattle.nx_slot.specs.declared.program.SlotFunction.{SlotFunction}
use Rattle.nx_codegen.specs.declared.output.Target.TheVariants.{Function, Call}
use Rattle.nx_codegen.specs.Addresses.{Links, target_of}
use Rattle.nx_codegen.specs.Moves.{get_code, source, target}
use Rattle.nx_codegen.specs.Operators.{jump_code, skip_code, right_source}
use Rattle.nx_codegen.specs.Calling.{arguments_code, kept_at, save_code, restore_code, call_code, enter_code}
use Rattle.nx_codegen.specs.Code.{sides_code, operation_code, size_of, offset, is_near, place_of, code_from, code_of}
use Rattle.nx_codegen.specs.Cells.{HasCells, AllHaveCells}
use Rattle.nx_codegen.specs.Fitting.{AllFit, FitTheirWords}
use Rattle.nx_codegen.proofs.Lengths.{place_aligned, place_room, offset_up}
use Rattle.nx_codegen.proofs.Fits.{all_append, IsWay, lui_fits, low_fits, load_low_fits, store_low_fits, source_fits, target_fits, get_fits, set_fits, move_fits, moved_fits, answer_fits, applied_fits, changed_fits, indexed_fits, loaded_fits, stored_fits, jump_fits, skip_fits, right_fits, right_source_fits, arguments_fit, save_fits, restore_fits, call_fits, enter_fits, give_fits, clear_fits, local_fits}

jump_some : (near : Bool) (a b : ℕ) → 1 ≤ length (jump_code near a b)
unfolding jump_code
jump_some true a b = omega arith
jump_some false a b = omega arith

skip_some : (near : Bool) (test : Comparison) (x y a b : ℕ) → 1 ≤ length (skip_code near test x y a b)
unfolding skip_code
skip_some true test x y a b = omega arith
skip_some false test x y a b = omega arith

near_total : (g : SlotFunction) → is_near g ≡ true → 4 * length (enter_code g) + offset true g g.ops (length g.ops) < 4096
unfolding is_near
near_total g e = grind (arith, nat_tests)

place_near : (g : SlotFunction) (b : ℕ) → is_near g ≡ true → place_of g b ≡ 4 * length (enter_code g) + offset true g g.ops b
unfolding place_of
place_near g b e = rw e refl

-- From each place within a function to each of its operations.
ways : (g : SlotFunction) (a b : ℕ) → a % 4 ≡ 0 → a < place_of g (length g.ops) → IsWay (is_near g) a (place_of g b)
unfolding place_of
ways g a b h k = by_near (is_near g) refl k (place_aligned g b) (offset_up (is_near g) g g.ops b)
  where
    by_near : (q : Bool) → is_near g ≡ q → a < 4 * length (enter_code g) + offset q g g.ops (length g.ops) → place_of g b % 4 ≡ 0 → offset q g g.ops b ≤ offset q g g.ops (length g.ops) → IsWay q a (place_of g b)
    by_near true e k m n = let t = near_total g e in let z = place_near g b e in (omega (arith, k, t), omega (arith, t, z, n), h, m)
    by_near false e k m n = tt

operation_fits : (l : Links) (near : Bool) (g : SlotFunction) (there : ℕ → ℕ) (here at : ℕ) (o : SlotOp) → ((a b : ℕ) → a % 4 ≡ 0 → a < here + size_of near g o → IsWay near a (there b)) → here % 4 ≡ 0 → HasCells g o → AllFit (operation_code l near g there here at o)
unfolding size_of
operation_fits l near g there here at (op.Move to from) w h e = moved_fits g to from
operation_fits l near g there here at (op.Forge to from) w h e = move_fits g to from
operation_fits l near g there here at (op.Apply o to left right) w h e = applied_fits g o to left right
operation_fits l near g there here at (op.Change o to from) w h e = changed_fits g o to from
operation_fits l near g there here at (op.SkipUnless test left right past) w h e =
    let n = length-append (sides_code g left right) (skip_code near test (source g 5 left) (right_source g right) (0 + 4 * length (sides_code g left right)) 0) in
    let k = skip_some near test (source g 5 left) (right_source g right) (0 + 4 * length (sides_code g left right)) 0 in
    all_append (sides_code g left right) _ (all_append (get_code g 5 left) _ (get_fits g 5 left (omega arith)) (right_fits g right))
    (skip_fits near test (source g 5 left) (right_source g right) _ _ (source_fits g 5 left (omega arith)) (right_source_fits g right) (w (here + 4 * length (sides_code g left right)) (at + 1 + past) (omega (arith, h)) (omega (arith, n, k))))
operation_fits l near g there here at (op.Skip past) w h e = let k = jump_some near 0 0 in jump_fits near _ _ (w here (at + 1 + past) h (omega (arith, k)))
operation_fits l near g there here at (op.Back by) w h e = let k = jump_some near 0 0 in jump_fits near _ _ (w here (at - by) h (omega (arith, k)))
operation_fits l near g there here at (op.Ask number first count) w h e =
    all_append (arguments_code g first count) _ (arguments_fit g first count e.1) (all_append (call_code (l (Call number))) _ (call_fits (l (Call number))) (answer_fits g first))
operation_fits l near g there here at (op.Go function first count) w h e =
    all_append (save_code (kept_at g first)) _ (save_fits g first) (all_append (arguments_code g first count) _ (arguments_fit g first count e.1)
    (all_append (call_code (l (Function function))) _ (call_fits (l (Function function))) (all_append (restore_code (kept_at g first)) _ (restore_fits g first) (answer_fits g first))))
operation_fits l near g there here at (op.Give value) w h e = give_fits g value
operation_fits l near g there here at (op.Make k) w h e = clear_fits g k _
operation_fits l near g there here at (op.Local to k) w h e = local_fits g to k
operation_fits l near g there here at (op.Static to o) w h e = let a = l (target_of o) in (lui_fits (target g to) a (target_fits g to), (low_fits (target g to) (target g to) a (target_fits g to) (target_fits g to), set_fits g to))
operation_fits l near g there here at (op.Entry to function) w h e = let a = l (Function function) in (lui_fits (target g to) a (target_fits g to), (low_fits (target g to) (target g to) a (target_fits g to) (target_fits g to), set_fits g to))
operation_fits l near g there here at (op.Fetch to o) w h e = let a = l (target_of o) in (lui_fits 5 a (omega arith), (load_low_fits (target g to) 5 a (target_fits g to) (omega arith), set_fits g to))
operation_fits l near g there here at (op.Keep o from) w h e =
    let a = l (target_of o) in
    all_append (get_code g 6 from) _ (get_fits g 6 from (omega arith)) (lui_fits 5 a (omega arith), (store_low_fits 5 (source g 6 from) a (omega arith) (source_fits g 6 from (omega arith)), tt))
operation_fits l near g there here at (op.Index to base index w) x h e = indexed_fits g to base index w
operation_fits l near g there here at (op.Load to place w) x h e = loaded_fits g to place w
operation_fits l near g there here at (op.Store place value w) x h e = stored_fits g place value w

from_fits : (l : Links) (g : SlotFunction) (at : ℕ) (ops : List SlotOp) → ((k : ℕ) → slice_get g.ops (at + k) ≡ slice_get ops k) → AllHaveCells g ops → AllFit (code_from l g at ops)
unfolding code_from
from_fits l g at [] r e = tt
from_fits l g at (o ∷ ops) r e =
    let here = place_of g at in
    let s : at ≡ at + 0 = omega arith in
    let q : slice_get g.ops at ≡ Some o = ap (slice_get g.ops) s ∙ r 0 in
    let z = place_room g at o q in
    all_append (operation_code l (is_near g) g (place_of g) here at o) _
    (operation_fits l (is_near g) g (place_of g) here at o (λ a b p k. ways g a b p (omega (arith, k, z))) (place_aligned g at) e.0)
    (from_fits l g (suc at) ops (λ k. let s : suc at + k ≡ at + suc k = omega arith in ap (slice_get g.ops) s ∙ r (suc k)) e.1)

pub fitted : FitTheirWords
unfolding code_of
fitted l g i e = all_append (enter_code g) _ (enter_fits g i) (from_fits l g 0 g.ops (λ k. let s : 0 + k ≡ k = omega arith in ap (slice_get g.ops) s) e)

-- Refs that are filled in give the code.
use Rattle.std.proofs.Common.{◌≡◌, ℕ, suc, ◌+◌, ◌/◌, Bool, true, List, [], ◌∷◌, ◌++◌, length, refl, sym, ap, ◌∙◌, arith, length-append}
use Rattle.nx_rv.specs.declared.inst.Inst.{Inst}
use Rattle.nx_rv.specs.declared.inst.Inst.TheVariants.{Lui, Load, Store}
use Rattle.nx_slot.specs.declared.op.SlotOp.{SlotOp}
use Rattle.nx_slot.specs.declared.op.SlotOp.TheVariants as op
use Rattle.nx_slot.specs.declared.program.SlotFunction.{SlotFunction}
use Rattle.nx_codegen.specs.declared.output.Target.{Target}
use Rattle.nx_codegen.specs.declared.output.Target.TheVariants.{Function, Call}
use Rattle.nx_codegen.specs.declared.output.Ref.{Ref}
use Rattle.nx_codegen.specs.Addresses.{Links, no_links, upper, lower, target_of}
use Rattle.nx_codegen.specs.Moves.{addi, get_code, source, set_code, target, answer_code}
use Rattle.nx_codegen.specs.Calling.{arguments_code, kept_at, save_code, restore_code, call_code, enter_code}
use Rattle.nx_codegen.specs.Code.{operation_code, size_of, is_near, place_of, code_from, code_of}
use Rattle.nx_codegen.specs.Refs.{refs_in, refs_from, refs_of, with_high, with_low, filled_at, filled}
use Rattle.nx_codegen.specs.Fitting.{FilledIn}
use Rattle.nx_codegen.proofs.Lengths.{same_length}

append_assoc : (a b c : List Inst) → (a ++ b) ++ c ≡ a ++ (b ++ c)
append_assoc [] b c = refl
append_assoc (i ∷ a) b c = ap (λ x. i ∷ x) (append_assoc a b c)

-- What stands before a ref's place stays.
behind : (front is : List Inst) (n at a : ℕ) → n ≡ length front → filled_at (n + at) a (front ++ is) ≡ front ++ filled_at at a is
unfolding filled_at
behind [] is n at a e = let q : n + at ≡ at = omega (arith, e) in ap (λ k. filled_at k a is) q
behind (i ∷ front) is n at a e =
    let q : n + at ≡ suc (length front + at) = omega (arith, e) in
    ap (λ k. filled_at k a (i ∷ (front ++ is))) q ∙ ap (λ x. i ∷ x) (behind front is (length front) at a refl)

-- The first two instructions get the two parts.
first_two : (a : ℕ) (i j : Inst) (is : List Inst) → filled_at 0 a (i ∷ j ∷ is) ≡ with_high (upper a) i ∷ with_low (lower a) j ∷ is
unfolding filled_at
first_two a i j is = refl

call_filled : (a : ℕ) (is : List Inst) → filled_at 0 a (call_code 0 ++ is) ≡ call_code a ++ is
unfolding call_code filled_at
call_filled a is = refl

address_filled : (a rd : ℕ) (is : List Inst) → filled_at 0 a (Lui rd (upper 0) ∷ addi rd rd (lower 0) ∷ is) ≡ Lui rd (upper a) ∷ addi rd rd (lower a) ∷ is
unfolding filled_at
address_filled a rd is = refl

load_filled : (a rd rs : ℕ) (is : List Inst) → filled_at 0 a (Lui rs (upper 0) ∷ Load 4 true rd rs (lower 0) ∷ is) ≡ Lui rs (upper a) ∷ Load 4 true rd rs (lower a) ∷ is
unfolding filled_at
load_filled a rd rs is = refl

store_filled : (a rs v : ℕ) (is : List Inst) → filled_at 0 a (Lui rs (upper 0) ∷ Store 4 rs v (lower 0) ∷ is) ≡ Lui rs (upper a) ∷ Store 4 rs v (lower a) ∷ is
unfolding filled_at
store_filled a rs v is = refl

none : (l : Links) (is : List Inst) → filled l [] is ≡ is
unfolding filled
none l is = refl

one : (l : Links) (r : Ref) (is : List Inst) → filled l (r ∷ []) is ≡ filled_at r.at (l r.target) is
unfolding filled
one l r is = refl

two_parts : (l : Links) (a b : List Ref) (is : List Inst) → filled l (a ++ b) is ≡ filled l b (filled l a is)
unfolding filled
two_parts l [] b is = refl
two_parts l (r ∷ a) b is = two_parts l a b (filled_at r.at (l r.target) is)

-- A ref behind so many instructions, with all that follows.
placed : (l : Links) (t : Target) (here n : ℕ) (front mid is done : List Inst) → here ≡ length front → n ≡ length mid → filled_at 0 (l t) is ≡ done
    → filled l (record { at = here + n; target = t } ∷ []) (front ++ (mid ++ is)) ≡ front ++ (mid ++ done)
placed l t here n front mid is done h m e =
    one l (record { at = here + n; target = t }) (front ++ (mid ++ is))
    ∙ behind front (mid ++ is) here n (l t) h
    ∙ ap (λ x. front ++ x) (let q : n ≡ n + 0 = omega arith in ap (λ k. filled_at k (l t) (mid ++ is)) q ∙ behind mid is n 0 (l t) m ∙ ap (λ x. mid ++ x) e)

placed_here : (l : Links) (t : Target) (here : ℕ) (front is done : List Inst) → here ≡ length front → filled_at 0 (l t) is ≡ done → filled l (record { at = here; target = t } ∷ []) (front ++ is) ≡ front ++ done
placed_here l t here front is done h e =
    one l (record { at = here; target = t }) (front ++ is)
    ∙ (let q : here ≡ here + 0 = omega arith in ap (λ k. filled_at k (l t) (front ++ is)) q)
    ∙ behind front is here 0 (l t) h
    ∙ ap (λ x. front ++ x) e

-- The refs of one operation, with all that stands before and after it.
abbrev IsFilled : Links → Bool → SlotFunction → (ℕ → ℕ) → ℕ → ℕ → ℕ → List Inst → List Inst → SlotOp → Type 0
IsFilled l near g there place at here front back o = filled l (refs_in g here o) (front ++ (operation_code no_links near g there place at o ++ back)) ≡ front ++ (operation_code l near g there place at o ++ back)

operation_filled : (l : Links) (near : Bool) (g : SlotFunction) (there : ℕ → ℕ) (place at here : ℕ) (front back : List Inst) (o : SlotOp) → here ≡ length front → IsFilled l near g there place at here front back o
operation_filled l near g there place at here front back (op.Move to from) h = none l _
operation_filled l near g there place at here front back (op.Forge to from) h = none l _
operation_filled l near g there place at here front back (op.Apply o to left right) h = none l _
operation_filled l near g there place at here front back (op.Change o to from) h = none l _
operation_filled l near g there place at here front back (op.SkipUnless test left right past) h = none l _
operation_filled l near g there place at here front back (op.Skip past) h = none l _
operation_filled l near g there place at here front back (op.Back by) h = none l _
operation_filled l near g there place at here front back (op.Ask number first count) h =
    let mid = arguments_code g first count in
    let rest = answer_code g first in
    let t = Call number in
    ap (λ x. filled l (record { at = here + length mid; target = t } ∷ []) (front ++ x)) (append_assoc mid (call_code 0 ++ rest) back ∙ ap (λ x. mid ++ x) (append_assoc (call_code 0) rest back))
    ∙ placed l t here (length mid) front mid (call_code 0 ++ (rest ++ back)) (call_code (l t) ++ (rest ++ back)) h refl (call_filled (l t) (rest ++ back))
    ∙ ap (λ x. front ++ x) (sym (append_assoc mid (call_code (l t) ++ rest) back ∙ ap (λ x. mid ++ x) (append_assoc (call_code (l t)) rest back)))
operation_filled l near g there place at here front back (op.Go function first count) h =
    let saved = save_code (kept_at g first) in
    let args = arguments_code g first count in
    let mid = saved ++ args in
    let rest = restore_code (kept_at g first) ++ answer_code g first in
    let t = Function function in
    let n : length saved + length args ≡ length mid = sym (length-append saved args) in
    let parts : (a : ℕ) → (saved ++ (args ++ (call_code a ++ rest))) ++ back ≡ mid ++ (call_code a ++ (rest ++ back)) =
    λ a. append_assoc saved (args ++ (call_code a ++ rest)) back ∙ ap (λ x. saved ++ x) (append_assoc args (call_code a ++ rest) back ∙ ap (λ x. args ++ x) (append_assoc (call_code a) rest back)) ∙ sym (append_assoc saved args (call_code a ++ (rest ++ back))) in
    ap (λ x. filled l (record { at = here + (length saved + length args); target = t } ∷ []) (front ++ x)) (parts 0)
    ∙ placed l t here (length saved + length args) front mid (call_code 0 ++ (rest ++ back)) (call_code (l t) ++ (rest ++ back)) h n (call_filled (l t) (rest ++ back))
    ∙ ap (λ x. front ++ x) (sym (parts (l t)))
operation_filled l near g there place at here front back (op.Give value) h = none l _
operation_filled l near g there place at here front back (op.Make k) h = none l _
operation_filled l near g there place at here front back (op.Local to k) h = none l _
operation_filled l near g there place at here front back (op.Static to o) h = placed_here l (target_of o) here front _ _ h (address_filled (l (target_of o)) (target g to) (set_code g to ++ back))
operation_filled l near g there place at here front back (op.Entry to function) h = placed_here l (Function function) here front _ _ h (address_filled (l (Function function)) (target g to) (set_code g to ++ back))
operation_filled l near g there place at here front back (op.Fetch to o) h = placed_here l (target_of o) here front _ _ h (load_filled (l (target_of o)) (target g to) 5 (set_code g to ++ back))
operation_filled l near g there place at here front back (op.Keep o from) h =
    let mid = get_code g 6 from in
    let t = target_of o in
    let a = l t in
    let last : (n : ℕ) → List Inst = λ n. Lui 5 (upper n) ∷ Store 4 5 (source g 6 from) (lower n) ∷ [] in
    ap (λ x. filled l (record { at = here + length mid; target = t } ∷ []) (front ++ x)) (append_assoc mid (last 0) back)
    ∙ placed l t here (length mid) front mid (last 0 ++ back) (last a ++ back) h refl (store_filled a 5 (source g 6 from) back)
    ∙ ap (λ x. front ++ x) (sym (append_assoc mid (last a) back))
operation_filled l near g there place at here front back (op.Index to base index w) h = none l _
operation_filled l near g there place at here front back (op.Load to place' w) h = none l _
operation_filled l near g there place at here front back (op.Store place' value w) h = none l _

from_filled : (l : Links) (g : SlotFunction) (here at : ℕ) (front : List Inst) (ops : List SlotOp) → here ≡ length front → filled l (refs_from g here ops) (front ++ code_from no_links g at ops) ≡ front ++ code_from l g at ops
unfolding refs_from code_from
from_filled l g here at front [] h = none l _
from_filled l g here at front (o ∷ ops) h =
    let near = is_near g in
    let place = place_of g at in
    let done = operation_code l near g (place_of g) place at o in
    let back = code_from no_links g (suc at) ops in
    let s = same_length l near g (place_of g) place at o in
    let next = here + size_of near g o / 4 in
    let n = length-append front done in
    two_parts l (refs_in g here o) (refs_from g next ops) _
    ∙ ap (filled l (refs_from g next ops)) (operation_filled l near g (place_of g) place at here front back o h ∙ sym (append_assoc front done back))
    ∙ from_filled l g next (suc at) (front ++ done) ops (omega (arith, h, s, n))
    ∙ append_assoc front done (code_from l g (suc at) ops)

pub filled_in : FilledIn
unfolding refs_of code_of
filled_in l g = from_filled l g (length (enter_code g)) 0 (enter_code g) g.ops refl

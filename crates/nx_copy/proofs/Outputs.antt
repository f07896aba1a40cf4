-- Outputs that are put one after another.
use Rattle.std.proofs.Common.{◌≡◌, ℕ, zero, suc, ◌+◌, ◌<◌, ◌≤◌, Bool, true, false, List, [], ◌∷◌, drop, length, get_or, refl, sym, ap, ◌∙◌, subst, arith}
use Rattle.std.specs.Prelude.{Option, Some, None, Result, Ok, Err, if◌then◌else◌}
use Rattle.nx_base.specs.declared.access.Access.TheVariants.{Store}
use Rattle.nx_base.specs.declared.calls.Kind.{Kind}
use Rattle.nx_base.specs.declared.calls.Kind.TheVariants.{Word, In, Text, Out, Len, Out4, Out8}
use Rattle.nx_base.specs.declared.regs.Regs.{Regs}
use Rattle.nx_base.specs.Registers.{reg}
use Rattle.nx_base.specs.Views.{View}
use Rattle.nx_base.specs.Good.{is_good}
use Rattle.nx_base.specs.Calls.{Call, Rows}
use Rattle.nx_base.specs.Replies.{next_word, output_rooms, HaveRoom, FitsCall}
use Rattle.nx_base.specs.Copying.{cook, input_of, inputs_of, and_inputs, as_call, nothing_if, words_from, with_outputs, with_stored, is_output, deliver}
use Rattle.nx_space.specs.World.{World, view_in, view_of}
use Rattle.nx_space.specs.Lawful.{OnlyEntered}
use Rattle.nx_space.proofs.Stays.{good_stays}
use Rattle.nx_copy.specs.Taking.{the_output}
use Rattle.nx_copy.specs.Copies.{AreGoodOutputs}
use Rattle.nx_copy.proofs.Goods.{good_part, none_good, stored_none}
use Rattle.nx_copy.proofs.Inputs.{drop_here, drop_all}

-- What is good in one view is good in another in which the same is good.
pub outputs_stay : (v w : View) (kinds : List Kind) (words : List ℕ) → ((at n : ℕ) → is_good w at n Store ≡ is_good v at n Store) → AreGoodOutputs v kinds words → AreGoodOutputs w kinds words
outputs_stay v w [] words s g = tt
outputs_stay v w (Word ∷ kinds) [] s g = tt
outputs_stay v w (In ∷ kinds) [] s g = tt
outputs_stay v w (Text ∷ kinds) [] s g = tt
outputs_stay v w (Out ∷ kinds) [] s g = tt
outputs_stay v w (Len ∷ kinds) [] s g = tt
outputs_stay v w (Out4 ∷ kinds) [] s g = tt
outputs_stay v w (Out8 ∷ kinds) [] s g = tt
outputs_stay v w (Word ∷ kinds) (a ∷ words) s g = outputs_stay v w kinds words s g
outputs_stay v w (In ∷ kinds) (a ∷ words) s g = outputs_stay v w kinds words s g
outputs_stay v w (Text ∷ kinds) (a ∷ words) s g = outputs_stay v w kinds words s g
outputs_stay v w (Len ∷ kinds) (a ∷ words) s g = outputs_stay v w kinds words s g
outputs_stay v w (Out ∷ kinds) (a ∷ words) s g = (s a (next_word words) ∙ g.0, outputs_stay v w kinds words s g.1)
outputs_stay v w (Out4 ∷ kinds) (a ∷ words) s g = (s a 4 ∙ g.0, outputs_stay v w kinds words s g.1)
outputs_stay v w (Out8 ∷ kinds) (a ∷ words) s g = (s a 8 ∙ g.0, outputs_stay v w kinds words s g.1)

-- ---- One parameter and the others.

words_cons : (r : Regs) (i : ℕ) (kind : Kind) (others : List Kind) → words_from r (11 + i) (kind ∷ others) ≡ reg r (11 + i) ∷ words_from r (11 + (i + 1)) others
unfolding words_from
words_cons r i kind others = let n : 11 + i + 1 ≡ 11 + (i + 1) = omega arith in ap (λ k. reg r (11 + i) ∷ words_from r k others) n

-- What holds of the parameters from a place on, with their words, holds of the first and the others.
pub cut : (P : List Kind → List ℕ → Type 0) (r : Regs) (kinds : List Kind) (i : ℕ) → i < length kinds → P (drop i kinds) (words_from r (11 + i) (drop i kinds)) →
    P (get_or kinds i Word ∷ drop (i + 1) kinds) (reg r (11 + i) ∷ words_from r (11 + (i + 1)) (drop (i + 1) kinds))
cut P r kinds i h p =
    subst (λ ws. P (get_or kinds i Word ∷ drop (i + 1) kinds) ws) (words_cons r i (get_or kinds i Word) (drop (i + 1) kinds)) (subst (λ ks. P ks (words_from r (11 + i) ks)) (drop_here kinds i Word h) p)

-- The outputs that are left are one and others, or none.
pub data IsNext (outputs : List (List ℕ)) (output : List ℕ) (others : List (List ℕ)) : Type 0 where
  One : outputs ≡ output ∷ others → IsNext outputs output others
  Over : outputs ≡ [] → output ≡ [] → others ≡ [] → IsNext outputs output others

pub is_next : (put : ℕ) (first second : List ℕ) → IsNext (drop put (first ∷ second ∷ [])) (the_output put first second) (drop (put + 1) (first ∷ second ∷ []))
is_next zero first second = One refl
is_next (suc zero) first second = One refl
is_next (suc (suc n)) first second = Over (drop_all (first ∷ second ∷ []) (suc (suc n)) (omega arith)) refl (drop_all (first ∷ second ∷ []) (suc (suc n) + 1) (omega arith))

room_good : (v : View) (kind : Kind) (at : ℕ) (kinds : List Kind) (words : List ℕ) (output : List ℕ) (others : List (List ℕ)) → is_output kind ≡ true → FitsCall (kind ∷ kinds) (at ∷ words) (output ∷ others) → AreGoodOutputs v (kind ∷ kinds) (at ∷ words) →
    (is_good v at (length output) Store ≡ true) × FitsCall kinds words others
room_good v Out at kinds words output others o f g = let l = f.0 in (good_part v at (next_word words) (length output) Store (omega (arith, l)) g.0, f.1)
room_good v Out4 at kinds words output others o f g = (good_part v at 4 (length output) Store f.0 g.0, f.1)
room_good v Out8 at kinds words output others o f g = (good_part v at 8 (length output) Store f.0 g.0, f.1)
room_good v Word at kinds words output others o f g = absurd cc
room_good v In at kinds words output others o f g = absurd cc
room_good v Text at kinds words output others o f g = absurd cc
room_good v Len at kinds words output others o f g = absurd cc

no_room : (rooms : List ℕ) → HaveRoom rooms []
no_room [] = tt
no_room (r ∷ rooms) = tt

pub output_good : (v : View) (kind : Kind) (at : ℕ) (kinds : List Kind) (words : List ℕ) (outputs : List (List ℕ)) (output : List ℕ) (others : List (List ℕ)) → IsNext outputs output others → is_output kind ≡ true → FitsCall (kind ∷ kinds) (at ∷ words) outputs → AreGoodOutputs v (kind ∷ kinds) (at ∷ words) →
    (is_good v at (length output) Store ≡ true) × FitsCall kinds words others
output_good v kind at kinds words outputs output others (One e) o f g = room_good v kind at kinds words output others o (subst (λ os. FitsCall (kind ∷ kinds) (at ∷ words) os) e f) g
output_good v kind at kinds words outputs output others (Over e d n) o f g =
    (subst (λ bs. is_good v at (length bs) Store ≡ true) (sym d) (none_good v at Store), subst (λ os. FitsCall kinds words os) (sym n) (no_room (output_rooms kinds words)))

pub rest_good : (v : View) (kind : Kind) (at : ℕ) (kinds : List Kind) (words : List ℕ) → AreGoodOutputs v (kind ∷ kinds) (at ∷ words) → AreGoodOutputs v kinds words
rest_good v Out at kinds words g = g.1
rest_good v Out4 at kinds words g = g.1
rest_good v Out8 at kinds words g = g.1
rest_good v Word at kinds words g = g
rest_good v In at kinds words g = g
rest_good v Text at kinds words g = g
rest_good v Len at kinds words g = g

pub other_fits : (kind : Kind) (at : ℕ) (kinds : List Kind) (words : List ℕ) (outputs : List (List ℕ)) → is_output kind ≡ false → FitsCall (kind ∷ kinds) (at ∷ words) outputs → FitsCall kinds words outputs
other_fits Word at kinds words outputs o f = f
other_fits In at kinds words outputs o f = f
other_fits Text at kinds words outputs o f = f
other_fits Len at kinds words outputs o f = f
other_fits Out at kinds words outputs o f = absurd cc
other_fits Out4 at kinds words outputs o f = absurd cc
other_fits Out8 at kinds words outputs o f = absurd cc

none_left : (v : View) (kinds : List Kind) (words : List ℕ) → with_outputs v kinds words [] ≡ v
unfolding with_outputs
none_left v [] words = refl
none_left v (k ∷ ks) [] = refl
none_left v (k ∷ ks) (w ∷ ws) = refl

one_put : (v : View) (kind : Kind) (at : ℕ) (kinds : List Kind) (words : List ℕ) (output : List ℕ) (others : List (List ℕ)) → is_output kind ≡ true → with_outputs v (kind ∷ kinds) (at ∷ words) (output ∷ others) ≡ with_outputs (with_stored v at output) kinds words others
unfolding with_outputs
one_put v kind at kinds words output others o = ap (λ b. if b then with_outputs (with_stored v at output) kinds words others else with_outputs v kinds words (output ∷ others)) o

pub output_put : (v : View) (kind : Kind) (at : ℕ) (kinds : List Kind) (words : List ℕ) (outputs : List (List ℕ)) (output : List ℕ) (others : List (List ℕ)) → IsNext outputs output others → is_output kind ≡ true → with_outputs v (kind ∷ kinds) (at ∷ words) outputs ≡ with_outputs (with_stored v at output) kinds words others
output_put v kind at kinds words outputs output others (One e) o = ap (with_outputs v (kind ∷ kinds) (at ∷ words)) e ∙ one_put v kind at kinds words output others o
output_put v kind at kinds words outputs output others (Over e d n) o =
    ap (with_outputs v (kind ∷ kinds) (at ∷ words)) e ∙ none_left v (kind ∷ kinds) (at ∷ words) ∙ sym (stored_none v at) ∙ ap (with_stored v at) (sym d)
    ∙ sym (none_left (with_stored v at output) kinds words) ∙ ap (with_outputs (with_stored v at output) kinds words) (sym n)

pub other_put : (v : View) (kind : Kind) (at : ℕ) (kinds : List Kind) (words : List ℕ) (outputs : List (List ℕ)) → is_output kind ≡ false → with_outputs v (kind ∷ kinds) (at ∷ words) outputs ≡ with_outputs v kinds words outputs
unfolding with_outputs
other_put v kind at kinds words [] o = sym (none_left v kinds words)
other_put v kind at kinds words (x ∷ xs) o = ap (λ b. if b then with_outputs (with_stored v at x) kinds words xs else with_outputs v kinds words (x ∷ xs)) o

pub all_put : (v : View) (r : Regs) (kinds : List Kind) (i : ℕ) (outputs : List (List ℕ)) → length kinds ≤ i → with_outputs v (drop i kinds) (words_from r (11 + i) (drop i kinds)) outputs ≡ v
unfolding with_outputs
all_put v r kinds i outputs h = ap (λ ks. with_outputs v ks (words_from r (11 + i) ks) outputs) (drop_all kinds i h)

-- The view of the receiver.
pub delivered : (rows : Rows) (old mid new : World) (group : ℕ) (kinds : List Kind) (r : Regs) (outputs : List (List ℕ)) → mid ≡ record old { entered = group } → new.entered ≡ mid.entered → (rows (reg r 10)).kinds ≡ kinds →
    view_in new ≡ with_outputs (view_in mid) kinds (words_from r 11 kinds) outputs → view_of new group ≡ deliver rows (view_of old group) r outputs
unfolding deliver
delivered rows old mid new group kinds r outputs m n k v =
    let there : group ≡ new.entered = sym (n ∙ ap (λ (w : World). w.entered) m) in
    ap (view_of new) there ∙ v ∙ ap (λ (w : World). with_outputs (view_in w) kinds (words_from r 11 kinds) outputs) m
    ∙ ap (λ ks. with_outputs (view_of old group) ks (words_from r 11 ks) outputs) (sym k)

-- A call that was taken has good outputs.
good_if : (b : Bool) (more : Result (List (List ℕ)) ℕ) (k : ℕ) (xs : List (List ℕ)) → and_inputs k (nothing_if b) more ≡ Ok xs → b ≡ true
good_if true more k xs e = refl
good_if false more k xs e = absurd cc

rest_read : (k : ℕ) (one : Option (List (List ℕ))) (more : Result (List (List ℕ)) ℕ) (xs : List (List ℕ)) → and_inputs k one more ≡ Ok xs → (ys : List (List ℕ)) × (more ≡ Ok ys)
rest_read k None more xs e = absurd cc
rest_read k (Some x) (Ok ys) xs e = (ys, refl)
rest_read k (Some x) (Err j) xs e = absurd cc

pub inputs_good : (v : View) (k : ℕ) (kinds : List Kind) (words : List ℕ) (xs : List (List ℕ)) → inputs_of v k kinds words ≡ Ok xs → AreGoodOutputs v kinds words
unfolding inputs_of input_of
inputs_good v k [] words xs e = tt
inputs_good v k (Word ∷ kinds) [] xs e = tt
inputs_good v k (In ∷ kinds) [] xs e = tt
inputs_good v k (Text ∷ kinds) [] xs e = tt
inputs_good v k (Out ∷ kinds) [] xs e = tt
inputs_good v k (Len ∷ kinds) [] xs e = tt
inputs_good v k (Out4 ∷ kinds) [] xs e = tt
inputs_good v k (Out8 ∷ kinds) [] xs e = tt
inputs_good v k (Word ∷ kinds) (a ∷ words) xs e = let r = rest_read k (input_of v Word a (next_word words)) (inputs_of v (k + 1) kinds words) xs e in inputs_good v (k + 1) kinds words r.0 r.1
inputs_good v k (In ∷ kinds) (a ∷ words) xs e = let r = rest_read k (input_of v In a (next_word words)) (inputs_of v (k + 1) kinds words) xs e in inputs_good v (k + 1) kinds words r.0 r.1
inputs_good v k (Text ∷ kinds) (a ∷ words) xs e = let r = rest_read k (input_of v Text a (next_word words)) (inputs_of v (k + 1) kinds words) xs e in inputs_good v (k + 1) kinds words r.0 r.1
inputs_good v k (Len ∷ kinds) (a ∷ words) xs e = let r = rest_read k (input_of v Len a (next_word words)) (inputs_of v (k + 1) kinds words) xs e in inputs_good v (k + 1) kinds words r.0 r.1
inputs_good v k (Out ∷ kinds) (a ∷ words) xs e = let r = rest_read k (input_of v Out a (next_word words)) (inputs_of v (k + 1) kinds words) xs e in (good_if (is_good v a (next_word words) Store) (inputs_of v (k + 1) kinds words) k xs e, inputs_good v (k + 1) kinds words r.0 r.1)
inputs_good v k (Out4 ∷ kinds) (a ∷ words) xs e = let r = rest_read k (input_of v Out4 a (next_word words)) (inputs_of v (k + 1) kinds words) xs e in (good_if (is_good v a 4 Store) (inputs_of v (k + 1) kinds words) k xs e, inputs_good v (k + 1) kinds words r.0 r.1)
inputs_good v k (Out8 ∷ kinds) (a ∷ words) xs e = let r = rest_read k (input_of v Out8 a (next_word words)) (inputs_of v (k + 1) kinds words) xs e in (good_if (is_good v a 8 Store) (inputs_of v (k + 1) kinds words) k xs e, inputs_good v (k + 1) kinds words r.0 r.1)

call_made : (number : ℕ) (words : List ℕ) (read : Result (List (List ℕ)) ℕ) (c : Call) → as_call number words read ≡ Ok c → (xs : List (List ℕ)) × (read ≡ Ok xs)
call_made number words (Ok xs) c e = (xs, refl)
call_made number words (Err k) c e = absurd cc

pub cooked_good : (rows : Rows) (v : View) (r : Regs) (c : Call) → cook rows v r ≡ Ok c → AreGoodOutputs v (rows (reg r 10)).kinds (words_from r 11 (rows (reg r 10)).kinds)
unfolding cook
cooked_good rows v r c e =
    let kinds = (rows (reg r 10)).kinds in
    let m = call_made (reg r 10) (words_from r 11 kinds) (inputs_of v 0 kinds (words_from r 11 kinds)) c e in
    inputs_good v 0 kinds (words_from r 11 kinds) m.0 m.1

-- ---- The outputs from a place on.

pub put_good : (v : View) (r : Regs) (kinds : List Kind) (i put : ℕ) (first second : List ℕ) (at : ℕ) → i < length kinds → at ≡ reg r (11 + i) → is_output (get_or kinds i Word) ≡ true →
    FitsCall (drop i kinds) (words_from r (11 + i) (drop i kinds)) (drop put (first ∷ second ∷ [])) → AreGoodOutputs v (drop i kinds) (words_from r (11 + i) (drop i kinds)) →
    is_good v at (length (the_output put first second)) Store ≡ true
put_good v r kinds i put first second at h a o f g =
    let outputs = drop put (first ∷ second ∷ []) in
    let p = output_good v (get_or kinds i Word) (reg r (11 + i)) (drop (i + 1) kinds) (words_from r (11 + (i + 1)) (drop (i + 1) kinds)) outputs (the_output put first second) (drop (put + 1) (first ∷ second ∷ [])) (is_next put first second) o
    (cut (λ ks ws. FitsCall ks ws outputs) r kinds i h f) (cut (λ ks ws. AreGoodOutputs v ks ws) r kinds i h g) in
    subst (λ k. is_good v k (length (the_output put first second)) Store ≡ true) (sym a) p.0

-- What holds after one parameter more.
pub record Putting (new : World) (whole : View) (r : Regs) (kinds : List Kind) (i put : ℕ) (first second : List ℕ) : Type 0 where
  pub few : put ≤ i
  pub fits : FitsCall (drop i kinds) (words_from r (11 + i) (drop i kinds)) (drop put (first ∷ second ∷ []))
  pub good : AreGoodOutputs (view_in new) (drop i kinds) (words_from r (11 + i) (drop i kinds))
  pub view : whole ≡ with_outputs (view_in new) (drop i kinds) (words_from r (11 + i) (drop i kinds)) (drop put (first ∷ second ∷ []))

pub put_next : (old new : World) (whole : View) (r : Regs) (kinds : List Kind) (i put next : ℕ) (first second : List ℕ) (at : ℕ) → i < length kinds → at ≡ reg r (11 + i) → OnlyEntered old new →
    (is_output (get_or kinds i Word) ≡ true → view_in new ≡ with_stored (view_in old) at (the_output put first second)) → (is_output (get_or kinds i Word) ≡ true → next ≡ put + 1) →
    (is_output (get_or kinds i Word) ≡ false → new ≡ old) → (is_output (get_or kinds i Word) ≡ false → next ≡ put) → put ≤ i →
    FitsCall (drop i kinds) (words_from r (11 + i) (drop i kinds)) (drop put (first ∷ second ∷ [])) → AreGoodOutputs (view_in old) (drop i kinds) (words_from r (11 + i) (drop i kinds)) →
    whole ≡ with_outputs (view_in old) (drop i kinds) (words_from r (11 + i) (drop i kinds)) (drop put (first ∷ second ∷ [])) → Putting new whole r kinds (i + 1) next first second
put_next old new whole r kinds i put next first second at h a only stored one same kept few f g v = by_kind (is_output kind) refl
  where
    kind : Kind
    kind = get_or kinds i Word

    others : List Kind
    others = drop (i + 1) kinds

    words : List ℕ
    words = words_from r (11 + (i + 1)) others

    outputs : List (List ℕ)
    outputs = drop put (first ∷ second ∷ [])

    fits_here : FitsCall (kind ∷ others) (reg r (11 + i) ∷ words) outputs
    fits_here = cut (λ ks ws. FitsCall ks ws outputs) r kinds i h f

    good_here : AreGoodOutputs (view_in old) (kind ∷ others) (reg r (11 + i) ∷ words)
    good_here = cut (λ ks ws. AreGoodOutputs (view_in old) ks ws) r kinds i h g

    view_here : whole ≡ with_outputs (view_in old) (kind ∷ others) (reg r (11 + i) ∷ words) outputs
    view_here = cut (λ ks ws. whole ≡ with_outputs (view_in old) ks ws outputs) r kinds i h v

    good_after : AreGoodOutputs (view_in new) others words
    good_after = outputs_stay (view_in old) (view_in new) others words (λ b n. good_stays old new b n Store only) (rest_good (view_in old) kind (reg r (11 + i)) others words good_here)

    by_kind : (b : Bool) → is_output kind ≡ b → Putting new whole r kinds (i + 1) next first second
    by_kind true o =
        let is = one o in
        let stays = output_good (view_in old) kind (reg r (11 + i)) others words outputs (the_output put first second) (drop (put + 1) (first ∷ second ∷ [])) (is_next put first second) o fits_here good_here in
        record {
          few = omega (arith, is, few);
          fits = subst (λ k. FitsCall others words (drop k (first ∷ second ∷ []))) (sym is) stays.1;
          good = good_after;
          view = view_here ∙ output_put (view_in old) kind (reg r (11 + i)) others words outputs (the_output put first second) (drop (put + 1) (first ∷ second ∷ [])) (is_next put first second) o
              ∙ ap (λ k. with_outputs (with_stored (view_in old) k (the_output put first second)) others words (drop (put + 1) (first ∷ second ∷ []))) (sym a)
              ∙ ap (λ w. with_outputs w others words (drop (put + 1) (first ∷ second ∷ []))) (sym (stored o))
              ∙ ap (λ k. with_outputs (view_in new) others words (drop k (first ∷ second ∷ []))) (sym is);
        }
    by_kind false o =
        let is = kept o in
        record {
          few = omega (arith, is, few);
          fits = subst (λ k. FitsCall others words (drop k (first ∷ second ∷ []))) (sym is) (other_fits kind (reg r (11 + i)) others words outputs o fits_here);
          good = good_after;
          view = view_here ∙ other_put (view_in old) kind (reg r (11 + i)) others words outputs o ∙ ap (λ (w : World). with_outputs (view_in w) others words outputs) (sym (same o))
              ∙ ap (λ k. with_outputs (view_in new) others words (drop k (first ∷ second ∷ []))) (sym is);
        }

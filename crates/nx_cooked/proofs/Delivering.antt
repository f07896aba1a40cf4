-- What is delivered to a view is put into the objects.
use Rattle.std.proofs.Common.{◌≡◌, ℕ, suc, ◌+◌, ◌<◌, ◌≤◌, List, [], ◌∷◌, length, Bool, true, false, Option, Some, None, refl, sym, ◌∙◌, subst, arith}
use Rattle.std.specs.Prelude.{if◌then◌else◌}
use Rattle.std.specs.List.{All}
use Rattle.nx_base.specs.declared.regs.Regs.{Regs}
use Rattle.nx_base.specs.declared.calls.Kind.{Kind}
use Rattle.nx_base.specs.declared.calls.Kind.TheVariants.{Word, In, Text, Out, Len, Out4, Out8}
use Rattle.nx_base.specs.ByteLists.{AreBytes}
use Rattle.nx_base.specs.Registers.{reg}
use Rattle.nx_base.specs.Replies.{next_word, output_rooms, HaveRoom}
use Rattle.nx_base.specs.Views.{View}
use Rattle.nx_base.specs.Calls.{is_pointer, plain_words, without_entry}
use Rattle.nx_base.specs.Copying as view
use Rattle.nx_base.specs.Copying.{words_from, with_stored, nothing_if, is_output}
use Rattle.nx_slot.specs.Objects.{Value, Int, Pointer, Forged, Entry, Object}
use Rattle.nx_slot.specs.Calls as slot
use Rattle.nx_slot.specs.Calls.{word_of, value_at, lies_in, with_int, outputs_of, with_output}
use Rattle.nx_shown.specs.Bytes.{Bytes}
use Rattle.nx_shown.specs.Places.{IsPlace, Sees}
use Rattle.nx_entries.proofs.Entries.{only_then}
use Rattle.nx_linked.specs.Linked.{Program}
use Rattle.nx_linked.specs.Meant.{Bases, Means, AreShown}
use Rattle.nx_cooked.specs.Laws.{AreHeld, SameKind, Delivered, AreUnder, OutputsArePut}
use Rattle.nx_cooked.proofs.Cooking.{words_in}
use Rattle.nx_cooked.proofs.Putting.{only_none, kind_same, kind_then, output_put}

under_if : (b : Bool) (w : ℕ) → (if b then 0 else w) ≤ w
under_if true w = omega arith
under_if false w = omega arith

-- The words that count are at most the arguments'.
pub under_plain : (os : List Object) (kinds : List Kind) (args : List Value) (xs : List (List ℕ)) → slot.inputs_of os kinds args ≡ Some xs → AreUnder (plain_words kinds (words_in args)) args
unfolding slot.inputs_of plain_words
under_plain os [] [] xs e = tt
under_plain os [] (x ∷ args) xs e = absurd cc
under_plain os (kind ∷ kinds) [] xs e = absurd cc
under_plain os (kind ∷ kinds) (x ∷ args) xs e = (under_if (is_pointer kind) (word_of x), by_one (λ more g. under_plain os kinds args more g) (slot.input_of os kind x (value_at args 0)) (slot.inputs_of os kinds args) refl e)
  where
    by_one : ((more : List (List ℕ)) → slot.inputs_of os kinds args ≡ Some more → AreUnder (plain_words kinds (words_in args)) args) → (s t : Option (List (List ℕ))) → slot.inputs_of os kinds args ≡ t → slot.and_inputs s t ≡ Some xs → AreUnder (plain_words kinds (words_in args)) args
    by_one on None t g h = absurd cc
    by_one on (Some ys) None g h = absurd cc
    by_one on (Some ys) (Some more) g h = on more g

pub under_without : (enters : Bool) (ws : List ℕ) (args : List Value) → AreUnder ws args → AreUnder (without_entry enters ws) args
under_without false ws args u = u
under_without true [] args u = u
under_without true (w ∷ ws) [] u = u
under_without true (w ∷ ws) (x ∷ args) u = (omega arith, u.1)

-- Outputs one after another.
next_to : (c : Program) (base : Bases) (os os1 os2 : List Object) (w u t : View) (d : Bytes) → (p : Delivered c base os os1 w u d) → Delivered c base os1 os2 u t p.bytes → Delivered c base os os2 w t d
next_to c base os os1 os2 w u t d p q = record {
  bytes = q.bytes;
  sees = q.sees;
  shown = q.shown;
  only = only_then c.place w u t p.only q.only;
  kind = kind_then os os1 os2 p.kind q.kind;
  rest = λ a h. q.rest a (λ o i. h o (i.0, subst (λ n. a < base o + n) (p.kind.shape.sizes o) i.1)) ∙ p.rest a h;
}

nothing : (c : Program) (base : Bases) (os : List Object) (w : View) (d : Bytes) → Sees c.place w d → AreShown c base os d → Delivered c base os os w w d
nothing c base os w d s t = record { bytes = d; sees = s; shown = t; only = only_none c.place w; kind = kind_same os; rest = λ a h. refl }

all_first : (x : List ℕ) (xs : List (List ℕ)) → All AreBytes (x ∷ xs) → AreBytes x
all_first x xs h = h 0 [] (omega arith)

all_rest : (x : List ℕ) (xs : List (List ℕ)) → All AreBytes (x ∷ xs) → All AreBytes xs
all_rest x xs h = λ k d l. h (suc k) d (omega (arith, l))

none_left : (os : List Object) (xs : List Value) → slot.with_outputs os xs [] ≡ os
none_left os [] = refl
none_left os (x ∷ xs) = refl

no_pointer : (os : List Object) (outs : List (List ℕ)) → slot.with_outputs os [] outs ≡ os
no_pointer os [] = refl
no_pointer os (out ∷ outs) = refl

module _ (c : Program) (base : Bases) (asked : List Object) (place : IsPlace c.place) where
  by_lies : (os : List Object) (w : View) (d : Bytes) → Sees c.place w d → AreShown c base os d → SameKind asked os → (x : Value) (word n : ℕ) (out : List ℕ) (q : Bool) (xs : List (List ℕ)) → lies_in asked true x n ≡ q → nothing_if q ≡ Some xs → length out ≤ n → Means c base asked x word → AreBytes out
      → Delivered c base os (with_output os x out) w (with_stored w word out) d
  by_lies os w d s t k x word n out true xs h e le m small = output_put c w d base os asked place s t k x word n out h le m small
  by_lies os w d s t k x word n out false xs h e le m small = absurd cc

  by_next : (os : List Object) (w : View) (d : Bytes) → Sees c.place w d → AreShown c base os d → SameKind asked os → (x next : Value) (word z : ℕ) (out : List ℕ) (xs : List (List ℕ)) → with_int next (λ n. nothing_if (lies_in asked true x n)) ≡ Some xs → length out ≤ z → z ≤ word_of next → Means c base asked x word → AreBytes out
      → Delivered c base os (with_output os x out) w (with_stored w word out) d
  by_next os w d s t k x (Int n) word z out xs e le u m small = by_lies os w d s t k x word n out (lies_in asked true x n) xs refl e (omega (arith, le, u)) m small
  by_next os w d s t k x (Pointer o p) word z out xs e le u m small = absurd cc
  by_next os w d s t k x (Forged n) word z out xs e le u m small = absurd cc
  by_next os w d s t k x (Entry f) word z out xs e le u m small = absurd cc

  next_under : (ws : List ℕ) (args : List Value) → AreUnder ws args → next_word ws ≤ word_of (value_at args 0)
  next_under [] [] u = omega arith
  next_under [] (x ∷ args) u = absurd u
  next_under (z ∷ ws) [] u = absurd u
  next_under (z ∷ ws) (x ∷ args) u = u.0

  pub delivers : (r : Regs) (k : ℕ) (kinds : List Kind) (args : List Value) (ws : List ℕ) (outs xs : List (List ℕ)) (os : List Object) (w : View) (d : Bytes)
      → slot.inputs_of asked kinds args ≡ Some xs → HaveRoom (output_rooms kinds ws) outs → AreUnder ws args → AreHeld c base asked r k args → All AreBytes outs → Sees c.place w d → AreShown c base os d → SameKind asked os
      → Delivered c base os (slot.with_outputs os (outputs_of kinds args) outs) w (view.with_outputs w kinds (words_from r k kinds) outs) d
  unfolding slot.inputs_of slot.input_of words_from view.with_outputs
  delivers r k [] args ws outs xs os w d e room u a small s t same = subst (λ y. Delivered c base os y w w d) (sym (no_pointer os outs)) (nothing c base os w d s t)
  delivers r k (kind ∷ kinds) [] ws outs xs os w d e room u a small s t same = absurd cc
  delivers r k (kind ∷ kinds) (x ∷ args) [] outs xs os w d e room u a small s t same = absurd u
  delivers r k (kind ∷ kinds) (x ∷ args) (z ∷ ws) [] xs os w d e room u a small s t same = subst (λ y. Delivered c base os y w w d) (sym (none_left os (outputs_of (kind ∷ kinds) (x ∷ args)))) (nothing c base os w d s t)
  delivers r k (kind ∷ kinds) (x ∷ args) (z ∷ ws) (out ∷ outs) xs os w d e room u a small s t same =
      by_one (λ outs2 more os2 w2 d2 g h l s2 t2 k2. delivers r (k + 1) kinds args ws outs2 more os2 w2 d2 g h u.1 a.1 l s2 t2 k2) (slot.input_of asked kind x (value_at args 0)) (slot.inputs_of asked kinds args) refl refl e
    where
      Rest : Type 0
      Rest = (outs2 more : List (List ℕ)) (os2 : List Object) (w2 : View) (d2 : Bytes) → slot.inputs_of asked kinds args ≡ Some more → HaveRoom (output_rooms kinds ws) outs2 → All AreBytes outs2 → Sees c.place w2 d2 → AreShown c base os2 d2 → SameKind asked os2
          → Delivered c base os2 (slot.with_outputs os2 (outputs_of kinds args) outs2) w2 (view.with_outputs w2 kinds (words_from r (k + 1) kinds) outs2) d2

      put : Rest → (more : List (List ℕ)) → slot.inputs_of asked kinds args ≡ Some more → HaveRoom (output_rooms kinds ws) outs → (p : Delivered c base os (with_output os x out) w (with_stored w (reg r k) out) d)
          → Delivered c base os (slot.with_outputs (with_output os x out) (outputs_of kinds args) outs) w (view.with_outputs (with_stored w (reg r k) out) kinds (words_from r (k + 1) kinds) outs) d
      put on more g h p = next_to c base os (with_output os x out) _ w (with_stored w (reg r k) out) _ d p (on outs more (with_output os x out) (with_stored w (reg r k) out) p.bytes g h (all_rest out outs small) p.sees p.shown (kind_then asked os (with_output os x out) same p.kind))

      by_kind : (kind : Kind) → Rest → (ys more : List (List ℕ)) → HaveRoom (output_rooms (kind ∷ kinds) (z ∷ ws)) (out ∷ outs) → slot.input_of asked kind x (value_at args 0) ≡ Some ys → slot.inputs_of asked kinds args ≡ Some more
          → Delivered c base os (slot.with_outputs os (outputs_of (kind ∷ kinds) (x ∷ args)) (out ∷ outs)) w
          (if is_output kind then view.with_outputs (with_stored w (reg r k) out) kinds (words_from r (k + 1) kinds) outs else view.with_outputs w kinds (words_from r (k + 1) kinds) (out ∷ outs)) d
      by_kind Word on ys more h f g = on (out ∷ outs) more os w d g h small s t same
      by_kind Len on ys more h f g = on (out ∷ outs) more os w d g h small s t same
      by_kind In on ys more h f g = on (out ∷ outs) more os w d g h small s t same
      by_kind Text on ys more h f g = on (out ∷ outs) more os w d g h small s t same
      by_kind Out on ys more h f g =
          let h0 = h.0 in
          put on more g h.1 (by_next os w d s t same x (value_at args 0) (reg r k) (next_word ws) out ys f (omega (arith, h0)) (next_under ws args u.1) a.0 (all_first out outs small))
      by_kind Out4 on ys more h f g = put on more g h.1 (by_lies os w d s t same x (reg r k) 4 out (lies_in asked true x 4) ys refl f h.0 a.0 (all_first out outs small))
      by_kind Out8 on ys more h f g = put on more g h.1 (by_lies os w d s t same x (reg r k) 8 out (lies_in asked true x 8) ys refl f h.0 a.0 (all_first out outs small))

      by_one : Rest → (p q : Option (List (List ℕ))) → slot.input_of asked kind x (value_at args 0) ≡ p → slot.inputs_of asked kinds args ≡ q → slot.and_inputs p q ≡ Some xs
          → Delivered c base os (slot.with_outputs os (outputs_of (kind ∷ kinds) (x ∷ args)) (out ∷ outs)) w
          (if is_output kind then view.with_outputs (with_stored w (reg r k) out) kinds (words_from r (k + 1) kinds) outs else view.with_outputs w kinds (words_from r (k + 1) kinds) (out ∷ outs)) d
      by_one on None q f g h = absurd cc
      by_one on (Some ys) None f g h = absurd cc
      by_one on (Some ys) (Some more) f g h = by_kind kind on ys more room f g

pub put_all : OutputsArePut
put_all c v b base os asked place sees shown same r k kinds args ws outs inputs e held under room small = delivers c base asked place r k kinds args ws outs inputs os v b e room under held small sees shown same

-- The bytes that go with a call of the kernel are the same.
use Rattle.std.proofs.Common.{◌≡◌, ℕ, zero, suc, ◌+◌, ◌*◌, ◌<◌, ◌≤◌, Bool, true, false, List, [], ◌∷◌, ◌++◌, length, map, Option, Some, None, refl, sym, ap, ◌∙◌, subst, arith, append_assoc}
use Rattle.std.specs.Prelude.{slice_index, min, take, drop, option_map, ◌==◌, not, ◌&&◌, ◌||◌, nat_le, nat_lt, if◌then◌else◌}
use Rattle.std.proofs.lemmas.Bool.Decides.{nat_tests}
use Rattle.nx_base.specs.declared.calls.Kind.{Kind}
use Rattle.nx_base.specs.declared.calls.Kind.TheVariants as kind
use Rattle.nx_base.specs.Copying.{alone, nothing_if}
use Rattle.nx_base.specs.Good.{with_first}
use Rattle.nx_base.specs.Replies.{most_moved}
use Rattle.nx_checked.specs.declared.checked.Element.{Element}
use Rattle.nx_checked.specs.declared.checked.Element.TheVariants as element
use Rattle.nx_cobjects.specs.declared.value.Name.{Name}
use Rattle.nx_cobjects.specs.declared.value.Name.TheVariants as name
use Rattle.nx_cobjects.specs.declared.value.Value.{Value}
use Rattle.nx_cobjects.specs.declared.value.Value.TheVariants as value
use Rattle.nx_cobjects.specs.Values.{size_of, word_in}
use Rattle.nx_cobjects.specs.Memory.{Memory, object_at, value_in}
use Rattle.nx_cobjects.specs.Buffers.{enters, part_of, buffer, text_length, text, with_input, where_there, room, input_after, and_then, inputs_after, inputs_by, outputs_of, words_of}
use Rattle.nx_slot.specs.Objects.{object_of, bytes_of}
use Rattle.nx_slot.specs.Objects as slot
use Rattle.nx_slot.specs.Calls.{from_place, lies_in, buffer_of, text_from, input_if, input_of, and_inputs, call_inputs}
use Rattle.nx_slot.specs.Calls.{text_of as slot_text, inputs_of as slot_inputs, words_of as slot_words, word_of as slot_word, value_at as slot_value, outputs_of as slot_outputs}
use Rattle.nx_lower.specs.Shown.{Counts, counts_of, name_of, shown, width_of, object_shown, objects_of}
use Rattle.nx_lower.specs.Laws.{CallsAlike}
use Rattle.nx_lower.proofs.Objects.{Known, known, shown_at, is_text}

-- What is there, where something is.
some_or : {A : Type 0} → A → Option A → A
some_or x (Some y) = y
some_or x None = x

some_is : {A : Type 0} (x y : A) → Some x ≡ Some y → x ≡ y
unfolding some_or
some_is x y e = ap (some_or x) e

place_same : (w : Element) (at : ℕ) → bytes_of (width_of w) * at ≡ size_of w * at
place_same element.Int at = refl
place_same element.Char at = refl

-- Words and pointers.
word_same : (c : Counts) (v : Value) → slot_word (shown c v) ≡ word_in v
word_same c (value.Int n) = refl
word_same c (value.Point o at) = refl
word_same c (value.Forged n) = refl
word_same c (value.Entry f) = refl

pub value_same : (c : Counts) (vs : List Value) (i : ℕ) → slot_value (map (shown c) vs) i ≡ shown c (value_in vs i)
value_same c [] i = refl
value_same c (v ∷ vs) zero = refl
value_same c (v ∷ vs) (suc i) = value_same c vs i

at_word : (c : Counts) (vs : List Value) (i : ℕ) → slot_word (slot_value (map (shown c) vs) i) ≡ word_in (value_in vs i)
at_word c vs i = ap slot_word (value_same c vs i) ∙ word_same c (value_in vs i)

pub words_same : (c : Counts) (vs : List Value) → slot_words (map (shown c) vs) ≡ words_of vs
words_same c vs =
    let xs = map (shown c) vs in
    ap (λ w. w ∷ slot_word (slot_value xs 1) ∷ slot_word (slot_value xs 2) ∷ slot_word (slot_value xs 3) ∷ slot_word (slot_value xs 4) ∷ slot_word (slot_value xs 5) ∷ []) (at_word c vs 0)
    ∙ ap (λ w. word_in (value_in vs 0) ∷ w ∷ slot_word (slot_value xs 2) ∷ slot_word (slot_value xs 3) ∷ slot_word (slot_value xs 4) ∷ slot_word (slot_value xs 5) ∷ []) (at_word c vs 1)
    ∙ ap (λ w. word_in (value_in vs 0) ∷ word_in (value_in vs 1) ∷ w ∷ slot_word (slot_value xs 3) ∷ slot_word (slot_value xs 4) ∷ slot_word (slot_value xs 5) ∷ []) (at_word c vs 2)
    ∙ ap (λ w. word_in (value_in vs 0) ∷ word_in (value_in vs 1) ∷ word_in (value_in vs 2) ∷ w ∷ slot_word (slot_value xs 4) ∷ slot_word (slot_value xs 5) ∷ []) (at_word c vs 3)
    ∙ ap (λ w. word_in (value_in vs 0) ∷ word_in (value_in vs 1) ∷ word_in (value_in vs 2) ∷ word_in (value_in vs 3) ∷ w ∷ slot_word (slot_value xs 5) ∷ []) (at_word c vs 4)
    ∙ ap (λ w. word_in (value_in vs 0) ∷ word_in (value_in vs 1) ∷ word_in (value_in vs 2) ∷ word_in (value_in vs 3) ∷ word_in (value_in vs 4) ∷ w ∷ []) (at_word c vs 5)

pub pointers_same : (c : Counts) (kinds : List Kind) (vs : List Value) → slot_outputs kinds (map (shown c) vs) ≡ map (shown c) (outputs_of kinds vs)
pointers_same c [] vs = refl
pointers_same c (kind.Out ∷ kinds) [] = refl
pointers_same c (kind.Out4 ∷ kinds) [] = refl
pointers_same c (kind.Out8 ∷ kinds) [] = refl
pointers_same c (k ∷ kinds) [] = refl
pointers_same c (kind.Out ∷ kinds) (v ∷ vs) = ap (λ l. shown c v ∷ l) (pointers_same c kinds vs)
pointers_same c (kind.Out4 ∷ kinds) (v ∷ vs) = ap (λ l. shown c v ∷ l) (pointers_same c kinds vs)
pointers_same c (kind.Out8 ∷ kinds) (v ∷ vs) = ap (λ l. shown c v ∷ l) (pointers_same c kinds vs)
pointers_same c (k ∷ kinds) (v ∷ vs) = pointers_same c kinds vs

-- A text by its length, and byte by byte.
drop_at : (l : List ℕ) (at : ℕ) → at < length l → drop at l ≡ slice_index l at ∷ drop (at + 1) l
drop_at [] at h = absurd (omega arith)
drop_at (x ∷ l) zero h = refl
drop_at (x ∷ l) (suc at) h = let e : suc (at + 1) ≡ suc at + 1 = omega arith in drop_at l at (omega arith) ∙ ap (λ n. slice_index l at ∷ drop n (x ∷ l)) e

text_same : (bytes : List ℕ) (at n : ℕ) → text_from bytes at n ≡ option_map (λ k. take k (drop at bytes)) (text_length bytes at n)
unfolding text_from
text_same bytes at zero = refl
text_same bytes at (suc n) = go (nat_lt at (length bytes)) refl (text_same bytes (at + 1) n)
  where
    longer : (r : Option ℕ) → at < length bytes → option_map (λ k. take k (drop at bytes)) (option_map suc r) ≡ with_first (slice_index bytes at) (option_map (λ k. take k (drop (at + 1) bytes)) r)
    longer None h = refl
    longer (Some k) h = ap (λ l. Some (take (suc k) l)) (drop_at bytes at h)

    inner : (b : Bool) → at < length bytes → text_from bytes (at + 1) n ≡ option_map (λ k. take k (drop (at + 1) bytes)) (text_length bytes (at + 1) n) → (if b then Some [] else with_first (slice_index bytes at) (text_from bytes (at + 1) n)) ≡ option_map (λ k. take k (drop at bytes)) (if b then Some 0 else option_map suc (text_length bytes (at + 1) n))
    inner true h ih = refl
    inner false h ih = ap (with_first (slice_index bytes at)) ih ∙ sym (longer (text_length bytes (at + 1) n) h)

    go : (b : Bool) → nat_lt at (length bytes) ≡ b → text_from bytes (at + 1) n ≡ option_map (λ k. take k (drop (at + 1) bytes)) (text_length bytes (at + 1) n)
        → (if b then (if slice_index bytes at == 0 then Some [] else with_first (slice_index bytes at) (text_from bytes (at + 1) n)) else None) ≡ option_map (λ k. take k (drop at bytes)) (if b then (if slice_index bytes at == 0 then Some 0 else option_map suc (text_length bytes (at + 1) n)) else None)
    go false q ih = refl
    go true q ih = inner (slice_index bytes at == 0) (grind (arith, nat_tests, q)) ih

-- No text begins where there are no bytes.
nowhere : (at n : ℕ) → text_length [] at n ≡ None
nowhere at zero = refl
nowhere at (suc n) = let e : nat_lt at 0 ≡ false = grind (arith, nat_tests) in ap (λ (b : Bool). if b then (if slice_index [] at == 0 then Some 0 else option_map suc (text_length [] (at + 1) n)) else None) e

some_text : (bytes : List ℕ) (at n k : ℕ) → text_length bytes at n ≡ Some k → 1 ≤ length bytes
some_text [] at n k h = absurd (no_some (sym (nowhere at n) ∙ h))
  where
    no_some : ◌≡◌ {A = Option ℕ} None (Some k) → ⊥
    no_some e = absurd cc
some_text (x ∷ bytes) at n k h = omega arith

-- A buffer lies in both, and its bytes are the same.
record Same (os : List slot.Object) (written : Bool) (x : slot.Value) (n : ℕ) (bytes : List ℕ) : Type 0 where
  lies : lies_in os written x n ≡ true
  same : buffer_of os x (min n most_moved) ≡ bytes

pub is_more : (n : ℕ) → (suc n == 0) ≡ false
is_more n = grind (arith, nat_tests)

pub no_room : (bytes : List ℕ) → ◌≡◌ {A = Option (List ℕ)} None (Some bytes) → ⊥
no_room bytes e = absurd cc

or_true : (b : Bool) → (b || true) ≡ true
or_true true = refl
or_true false = refl

pub within_some : (a n l : ℕ) → nat_le (a + suc n) l ≡ true → 1 ≤ l
within_some a n l h = grind (arith, nat_tests, h)

module _ (m : Memory) (c : Counts) (e : counts_of m.group ≡ c) where
  object_is : (o : Name) → Known m o → object_of (objects_of m) (name_of c o) ≡ object_shown (is_text o) (object_at m o)
  object_is o k = subst (λ c. object_of (objects_of m) (name_of c o) ≡ object_shown (is_text o) (object_at m o)) e (shown_at m o k)

  -- One that is read, and one that is written and lies in no text.
  point_same : (written : Bool) (o : Name) (at n : ℕ) (bytes : List ℕ) → (written && is_text o) ≡ false → part_of (object_at m o) at (suc n) ≡ Some bytes → Same (objects_of m) written (shown c (value.Point o at)) (suc n) bytes
  unfolding lies_in buffer_of
  point_same written o at n bytes free h = go (nat_le (size_of (object_at m o).element * at + suc n) (length (object_at m o).bytes)) refl h
    where
      go : (b : Bool) → nat_le (size_of (object_at m o).element * at + suc n) (length (object_at m o).bytes) ≡ b
          → (if b then Some (take (min (suc n) most_moved) (drop (size_of (object_at m o).element * at) (object_at m o).bytes)) else None) ≡ Some bytes → Same (objects_of m) written (shown c (value.Point o at)) (suc n) bytes
      go false q h = absurd cc
      go true q h =
          let k = known m o (within_some _ n _ q) in
          let i = object_is o k in
          let p = place_same (object_at m o).element at in
          record {
            lies =
                ap (λ x. (suc n == 0) || (nat_le (from_place x at + suc n) (length x.bytes) && not (written && x.fixed))) i
                ∙ ap (λ a. (suc n == 0) || (nat_le (a + suc n) (length (object_at m o).bytes) && not (written && is_text o))) p
                ∙ ap (λ b. (suc n == 0) || (b && not (written && is_text o))) q
                ∙ ap (λ b. (suc n == 0) || (true && not b)) free
                ∙ or_true (suc n == 0);
            same =
                ap (λ x. take (min (suc n) most_moved) (drop (from_place x at) x.bytes)) i
                ∙ ap (λ a. take (min (suc n) most_moved) (drop a (object_at m o).bytes)) p
                ∙ some_is (take (min (suc n) most_moved) (drop (size_of (object_at m o).element * at) (object_at m o).bytes)) bytes h;
          }

  buffer_same : (v : Value) (n : ℕ) (bytes : List ℕ) → buffer m v n ≡ Some bytes → Same (objects_of m) false (shown c v) n bytes
  unfolding lies_in buffer_of
  buffer_same (value.Point o at) zero bytes h = record { lies = refl; same = some_is [] bytes h }
  buffer_same (value.Int k) zero bytes h = record { lies = refl; same = some_is [] bytes h }
  buffer_same (value.Forged k) zero bytes h = record { lies = refl; same = some_is [] bytes h }
  buffer_same (value.Entry f) zero bytes h = record { lies = refl; same = some_is [] bytes h }
  buffer_same (value.Point o at) (suc n) bytes h = point_same false o at n bytes refl h
  buffer_same (value.Int k) (suc n) bytes h = absurd cc
  buffer_same (value.Forged k) (suc n) bytes h = absurd cc
  buffer_same (value.Entry f) (suc n) bytes h = absurd cc

  text_there : (v : Value) (bytes : List ℕ) → text m v ≡ Some bytes → slot_text (objects_of m) (shown c v) ≡ Some bytes
  unfolding slot_text
  text_there (value.Int k) bytes h = absurd cc
  text_there (value.Forged k) bytes h = absurd cc
  text_there (value.Entry f) bytes h = absurd cc
  text_there (value.Point o at) bytes h = go (text_length (object_at m o).bytes (size_of (object_at m o).element * at) 256) refl
    where
      go : (r : Option ℕ) → text_length (object_at m o).bytes (size_of (object_at m o).element * at) 256 ≡ r → slot_text (objects_of m) (shown c (value.Point o at)) ≡ Some bytes
      go None q = absurd (no_text (sym (ap (option_map (λ k. take k (drop (size_of (object_at m o).element * at) (object_at m o).bytes))) q) ∙ h))
        where
          no_text : ◌≡◌ {A = Option (List ℕ)} None (Some bytes) → ⊥
          no_text e = absurd cc
      go (Some k) q =
          let i = object_is o (known m o (some_text (object_at m o).bytes (size_of (object_at m o).element * at) 256 k q)) in
          ap (λ x. text_from x.bytes (from_place x at) 256) i
          ∙ ap (λ a. text_from (object_at m o).bytes a 256) (place_same (object_at m o).element at)
          ∙ text_same (object_at m o).bytes (size_of (object_at m o).element * at) 256
          ∙ h

  room_there : (v : Value) (n : ℕ) (bytes : List ℕ) → room m v n ≡ Some bytes → lies_in (objects_of m) true (shown c v) n ≡ true
  unfolding lies_in
  room_there (value.Int k) n bytes h = (buffer_same (value.Int k) n bytes h).lies
  room_there (value.Forged k) n bytes h = (buffer_same (value.Forged k) n bytes h).lies
  room_there (value.Entry f) n bytes h = (buffer_same (value.Entry f) n bytes h).lies
  room_there (value.Point o at) zero bytes h = refl
  room_there (value.Point (name.Array i) at) (suc n) bytes h = (point_same true (name.Array i) at n bytes refl h).lies
  room_there (value.Point (name.Own i) at) (suc n) bytes h = (point_same true (name.Own i) at n bytes refl h).lies
  room_there (value.Point (name.Text i) at) (suc n) bytes h = absurd (no_room bytes (sym (ap (λ (b : Bool). if not b then None else buffer m (value.Point (name.Text i) at) (suc n)) (is_more n)) ∙ h))

  -- What one parameter adds.
  record Adds (kind : Kind) (v next : Value) (done new : List (List ℕ)) : Type 0 where
    inputs : List (List ℕ)
    slot_is : input_of (objects_of m) kind (shown c v) (shown c next) ≡ Some inputs
    new_is : new ≡ done ++ inputs

  nothing : (l : List (List ℕ)) → l ≡ l ++ []
  nothing [] = refl
  nothing (x ∷ l) = ap (λ r. x ∷ r) (nothing l)

  pub there_is : (done new : List (List ℕ)) (r : Option (List ℕ)) → where_there done r ≡ Some new → (bytes : List ℕ) × (r ≡ Some bytes) × (new ≡ done ++ [])
  there_is done new None h = absurd cc
  there_is done new (Some bytes) h = (bytes, refl, sym (some_is done new h) ∙ nothing done)

  input_is : (done new : List (List ℕ)) (r : Option (List ℕ)) → with_input done r ≡ Some new → (bytes : List ℕ) × (r ≡ Some bytes) × (new ≡ done ++ bytes ∷ [])
  input_is done new None h = absurd cc
  input_is done new (Some bytes) h = (bytes, refl, sym (some_is (done ++ bytes ∷ []) new h))

  adds : (k : Kind) (v next : Value) (done new : List (List ℕ)) → input_after m done k v next ≡ Some new → Adds k v next done new
  unfolding input_of
  adds kind.Word (value.Int n) next done new h = record { inputs = []; slot_is = refl; new_is = sym (some_is done new h) ∙ nothing done }
  adds kind.Word (value.Point o at) next done new h = absurd cc
  adds kind.Word (value.Forged n) next done new h = absurd cc
  adds kind.Word (value.Entry f) next done new h = absurd cc
  adds kind.Len (value.Int n) next done new h = record { inputs = []; slot_is = refl; new_is = sym (some_is done new h) ∙ nothing done }
  adds kind.Len (value.Point o at) next done new h = absurd cc
  adds kind.Len (value.Forged n) next done new h = absurd cc
  adds kind.Len (value.Entry f) next done new h = absurd cc
  adds kind.In v (value.Int n) done new h =
      let q = input_is done new (buffer m v n) h in let b = buffer_same v n q.0 q.1 in
      record {
        inputs = q.0 ∷ [];
        slot_is = ap (λ t. input_if t (buffer_of (objects_of m) (shown c v) (min n most_moved))) b.lies ∙ ap (λ l. Some (l ∷ [])) b.same;
        new_is = q.2;
      }
  adds kind.In v (value.Point o at) done new h = absurd cc
  adds kind.In v (value.Forged n) done new h = absurd cc
  adds kind.In v (value.Entry f) done new h = absurd cc
  adds kind.Text v next done new h =
      let q = input_is done new (text m v) h in
      record { inputs = q.0 ∷ []; slot_is = ap alone (text_there v q.0 q.1); new_is = q.2 }
  adds kind.Out v (value.Int n) done new h = let q = there_is done new (room m v n) h in record { inputs = []; slot_is = ap nothing_if (room_there v n q.0 q.1); new_is = q.2 }
  adds kind.Out v (value.Point o at) done new h = absurd cc
  adds kind.Out v (value.Forged n) done new h = absurd cc
  adds kind.Out v (value.Entry f) done new h = absurd cc
  adds kind.Out4 v next done new h = let q = there_is done new (room m v 4) h in record { inputs = []; slot_is = ap nothing_if (room_there v 4 q.0 q.1); new_is = q.2 }
  adds kind.Out8 v next done new h = let q = there_is done new (room m v 8) h in record { inputs = []; slot_is = ap nothing_if (room_there v 8 q.0 q.1); new_is = q.2 }

  -- All parameters.
  record AddsAll (kinds : List Kind) (vs : List Value) (done new : List (List ℕ)) : Type 0 where
    inputs : List (List ℕ)
    slot_is : slot_inputs (objects_of m) kinds (map (shown c) vs) ≡ Some inputs
    new_is : new ≡ done ++ inputs

  pub after_is : (r : Option (List (List ℕ))) (go : List (List ℕ) → Option (List (List ℕ))) (new : List (List ℕ)) → and_then r go ≡ Some new → (mid : List (List ℕ)) × (r ≡ Some mid) × (go mid ≡ Some new)
  after_is None go new h = absurd cc
  after_is (Some mid) go new h = (mid, refl, h)

  adds_all : (kinds : List Kind) (vs : List Value) (done new : List (List ℕ)) → length vs ≡ length kinds → inputs_after m done kinds vs ≡ Some new → AddsAll kinds vs done new
  unfolding slot_inputs
  adds_all [] [] done new count h = record { inputs = []; slot_is = refl; new_is = sym (some_is done new h) ∙ nothing done }
  adds_all [] (v ∷ vs) done new count h = absurd (omega (arith, count))
  adds_all (k ∷ kinds) [] done new count h = absurd (omega (arith, count))
  adds_all (k ∷ kinds) (v ∷ vs) done new count h =
      let q = after_is (input_after m done k v (value_in vs 0)) (λ done. inputs_after m done kinds vs) new h in
      let a = adds k v (value_in vs 0) done q.0 q.1 in
      let b = adds_all kinds vs q.0 new (omega (arith, count)) q.2 in
      record {
        inputs = a.inputs ++ b.inputs;
        slot_is =
            ap (λ x. and_inputs (input_of (objects_of m) k (shown c v) x) (slot_inputs (objects_of m) kinds (map (shown c) vs))) (value_same c vs 0)
            ∙ ap (λ r. and_inputs r (slot_inputs (objects_of m) kinds (map (shown c) vs))) a.slot_is
            ∙ ap (and_inputs (Some a.inputs)) b.slot_is;
        new_is = b.new_is ∙ ap (λ l. l ++ b.inputs) a.new_is ∙ append_assoc done a.inputs b.inputs;
      }

  -- The inputs of a call.
  pub inputs_same : (starts : Bool) (kinds : List Kind) (vs : List Value) (new : List (List ℕ)) → length vs ≡ length kinds → inputs_by m starts kinds vs ≡ Some new → call_inputs (record { kinds = kinds; enters = starts }) (objects_of m) (map (shown c) vs) ≡ Some new
  unfolding call_inputs
  inputs_same false kinds vs new count h = let a = adds_all kinds vs [] new count h in a.slot_is ∙ ap Some (sym a.new_is)
  inputs_same true kinds [] new count h = absurd cc
  inputs_same true kinds (value.Int n ∷ vs) new count h = absurd cc
  inputs_same true kinds (value.Point o at ∷ vs) new count h = absurd cc
  inputs_same true kinds (value.Forged n ∷ vs) new count h = absurd cc
  inputs_same true kinds (value.Entry f ∷ vs) new count h = let a = adds_all kinds (value.Int f ∷ vs) [] new count h in a.slot_is ∙ ap Some (sym a.new_is)

pub calls : CallsAlike
calls m c vs inputs count h = let k = counts_of m.group in record { inputs_are = inputs_same m k refl (enters c) c.kinds vs inputs count h; words = words_same k vs; pointers = pointers_same k c.kinds vs }

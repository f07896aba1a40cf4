-- What is taken of a view are the objects' bytes.
use Rattle.std.proofs.Common.{◌≡◌, ℕ, zero, suc, ◌+◌, ◌-◌, ◌<◌, ◌≤◌, List, [], ◌∷◌, ◌++◌, length, take, drop, Bool, true, false, Option, Some, None, Ok, refl, sym, ap, ◌∙◌, subst, arith}
use Rattle.std.specs.Prelude.{◌==◌, nat_lt, min, if◌then◌else◌, slice_index, Result}
use Rattle.std.proofs.lemmas.Bool.Decides.{nat_tests}
use Rattle.nx_base.specs.declared.regs.Regs.{Regs}
use Rattle.nx_base.specs.declared.access.Access.TheVariants.{Load, Store}
use Rattle.nx_base.specs.declared.calls.Kind.{Kind}
use Rattle.nx_base.specs.declared.calls.Kind.TheVariants.{Word, In, Text, Out, Len, Out4, Out8}
use Rattle.nx_base.specs.ByteLists.{get_bytes}
use Rattle.nx_base.specs.Registers.{reg}
use Rattle.nx_base.specs.Replies.{next_word, most_moved}
use Rattle.nx_base.specs.Views.{View}
use Rattle.nx_base.specs.Ranges.{Lies}
use Rattle.nx_base.specs.Calls.{is_pointer, plain_words}
use Rattle.nx_base.specs.Good.{is_good, shown_byte, shown_bytes, with_first, good_text}
use Rattle.nx_base.specs.Copying as view
use Rattle.nx_base.specs.Copying.{words_from, alone, nothing_if}
use Rattle.nx_slot.specs.Objects.{Value, Int, Pointer, Forged, Entry, Object, object_of}
use Rattle.nx_slot.specs.Calls as slot
use Rattle.nx_slot.specs.Calls.{word_of, value_at, from_place, lies_in, buffer_of, text_from, text_of, with_int, input_if}
use Rattle.nx_shown.specs.Bytes.{Bytes}
use Rattle.nx_shown.specs.Places.{IsPlace, Sees}
use Rattle.nx_shown.proofs.Stores.{listed}
use Rattle.nx_linked.specs.Linked.{Program}
use Rattle.nx_linked.specs.Meant.{Bases, size_of, Means, AreShown}
use Rattle.nx_cooked.specs.Laws.{AreHeld, InputsAreTaken}
use Rattle.nx_cooked.proofs.Good.{good_to_load, good_to_store, byte_read, bytes_read}
use Rattle.nx_cooked.proofs.Lying.{lain, zero_is, pointer_lies, free_is, Led, led, first_bytes}

no_bytes_good : (v : View) (w n : ℕ) → n ≡ 0 → is_good v w n Load ≡ true
unfolding is_good
no_bytes_good v w n e = let z : (n == 0) ≡ true = grind (arith, nat_tests) in rw z refl

no_bytes_fit : (v : View) (w n : ℕ) → n ≡ 0 → is_good v w n Store ≡ true
unfolding is_good
no_bytes_fit v w n e = let z : (n == 0) ≡ true = grind (arith, nat_tests) in rw z refl

no_bytes : (bs : List ℕ) → take 0 bs ≡ []
no_bytes bs = refl

module _ (c : Program) (v : View) (b : Bytes) (base : Bases) (os : List Object) (place : IsPlace c.place) (sees : Sees c.place v b) (shown : AreShown c base os b) where
  led_good : (o y w n : ℕ) → Led v b base os o y w n → is_good v w n Load ≡ true
  led_good o y w n l = let k = l.lain in let from = k.from in let to = k.to in let at = l.at in let h = l.within in good_to_load v k.written k.low k.top w n b k.ends (omega (arith, at, from)) (omega (arith, at, h, to)) k.lies

  led_fits : (o y w n : ℕ) → (object_of os o).fixed ≡ false → Led v b base os o y w n → is_good v w n Store ≡ true
  led_fits o y w n free l = let k = l.lain in let from = k.from in let to = k.to in let at = l.at in let h = l.within in good_to_store v k.low k.top w n b k.ends (omega (arith, at, from)) (omega (arith, at, h, to)) (subst (λ q. Lies v.windows q k.low k.top b) (k.may free) k.lies)

  byte_is : (o i : ℕ) → i < size_of os o → slice_index (object_of os o).bytes (base o + i - base o) ≡ b (base o + i)
  byte_is o i h = let e : base o + i - base o ≡ i = omega arith in ap (slice_index (object_of os o).bytes) e ∙ sym (shown.bytes o i h)

  led_bytes : (o y w n : ℕ) → Led v b base os o y w n → shown_bytes v w n ≡ get_bytes (object_of os o).bytes y n
  led_bytes o y w n l =
      let k = l.lain in let from = k.from in let to = k.to in let e = l.at in let h = l.within in
      let q : w - base o ≡ y = omega (arith, e) in
      bytes_read v k.written k.low k.top w n b (omega (arith, e, from)) (omega (arith, e, h, to)) k.lies
      ∙ sym (listed (object_of os o).bytes (base o) b w n (omega (arith, e)) (λ j x z.
      let i : base o + (j - base o) ≡ j = omega (arith, x, e) in
      subst (λ m. slice_index (object_of os o).bytes (m - base o) ≡ b m) i (byte_is o (j - base o) (omega (arith, x, z, e, h)))))
      ∙ ap (λ m. get_bytes (object_of os o).bytes m n) q

  -- Buffers.
  good_load : (x : Value) (w n : ℕ) → lies_in os false x n ≡ true → Means c base os x w → is_good v w n Load ≡ true
  unfolding lies_in
  good_load (Int a) w n h m = no_bytes_good v w n (zero_is n h)
  good_load (Forged a) w n h m = no_bytes_good v w n (zero_is n h)
  good_load (Entry f) w n h m = no_bytes_good v w n (zero_is n h)
  good_load (Pointer o p) w zero h m = no_bytes_good v w 0 refl
  good_load (Pointer o p) w (suc n) h m = led_good o (from_place (object_of os o) p) w (suc n) (led c v b base os place sees shown o p w (suc n) (omega arith) (pointer_lies os false o p (suc n) (omega arith) h).0 m)

  pub good_store : (x : Value) (w n : ℕ) → lies_in os true x n ≡ true → Means c base os x w → is_good v w n Store ≡ true
  unfolding lies_in
  good_store (Int a) w n h m = no_bytes_fit v w n (zero_is n h)
  good_store (Forged a) w n h m = no_bytes_fit v w n (zero_is n h)
  good_store (Entry f) w n h m = no_bytes_fit v w n (zero_is n h)
  good_store (Pointer o p) w zero h m = no_bytes_fit v w 0 refl
  good_store (Pointer o p) w (suc n) h m = let k = pointer_lies os true o p (suc n) (omega arith) h in led_fits o (from_place (object_of os o) p) w (suc n) (free_is (object_of os o).fixed k.1) (led c v b base os place sees shown o p w (suc n) (omega arith) k.0 m)

  buffer_shown : (x : Value) (w n m : ℕ) → m ≤ n → lies_in os false x n ≡ true → Means c base os x w → shown_bytes v w m ≡ buffer_of os x m
  unfolding shown_bytes buffer_of lies_in
  buffer_shown (Int a) w n zero le h e = refl
  buffer_shown (Forged a) w n zero le h e = refl
  buffer_shown (Entry f) w n zero le h e = refl
  buffer_shown (Pointer o p) w n zero le h e = sym (no_bytes (drop (from_place (object_of os o) p) (object_of os o).bytes))
  buffer_shown (Int a) w n (suc m) le h e = absurd (let z = zero_is n h in omega (arith, z, le))
  buffer_shown (Forged a) w n (suc m) le h e = absurd (let z = zero_is n h in omega (arith, z, le))
  buffer_shown (Entry f) w n (suc m) le h e = absurd (let z = zero_is n h in omega (arith, z, le))
  buffer_shown (Pointer o p) w n (suc m) le h e =
      let k = (pointer_lies os false o p n (omega (arith, le)) h).0 in
      let fit : from_place (object_of os o) p + suc m ≤ size_of os o = omega (arith, k, le) in
      led_bytes o (from_place (object_of os o) p) w (suc m) (led c v b base os place sees shown o p w (suc m) (omega arith) fit e)
      ∙ sym (first_bytes (object_of os o).bytes (from_place (object_of os o) p) (suc m) fit)

  -- Texts.
  text_led : (o y n : ℕ) (xs : List ℕ) (w : ℕ) → w ≡ base o + y → text_from (object_of os o).bytes y n ≡ Some xs → good_text v w n ≡ Some xs
  unfolding text_from good_text
  text_led o y zero xs w at e = absurd cc
  text_led o y (suc n) xs w at e = by_in (λ more g. text_led o (y + 1) n more (w + 1) (omega (arith, at)) g) (nat_lt y (size_of os o)) refl e
    where
      by_zero : ((more : List ℕ) → text_from (object_of os o).bytes (y + 1) n ≡ Some more → good_text v (w + 1) n ≡ Some more) → (q : Bool) → (slice_index (object_of os o).bytes y == 0) ≡ q
          → (if q then Some [] else with_first (slice_index (object_of os o).bytes y) (text_from (object_of os o).bytes (y + 1) n)) ≡ Some xs
          → (if q then Some [] else with_first (slice_index (object_of os o).bytes y) (good_text v (w + 1) n)) ≡ Some xs
      by_zero on true z f = f
      by_zero on false z f = by_rest (text_from (object_of os o).bytes (y + 1) n) refl f
        where
          by_rest : (t : Option (List ℕ)) → text_from (object_of os o).bytes (y + 1) n ≡ t → with_first (slice_index (object_of os o).bytes y) t ≡ Some xs → with_first (slice_index (object_of os o).bytes y) (good_text v (w + 1) n) ≡ Some xs
          by_rest None g f = absurd cc
          by_rest (Some more) g f = ap (with_first (slice_index (object_of os o).bytes y)) (on more g) ∙ f

      by_in : ((more : List ℕ) → text_from (object_of os o).bytes (y + 1) n ≡ Some more → good_text v (w + 1) n ≡ Some more) → (q : Bool) → nat_lt y (size_of os o) ≡ q
          → (if q then (if slice_index (object_of os o).bytes y == 0 then Some [] else with_first (slice_index (object_of os o).bytes y) (text_from (object_of os o).bytes (y + 1) n)) else None) ≡ Some xs
          → (if is_good v w 1 Load then (if shown_byte v w == 0 then Some [] else with_first (shown_byte v w) (good_text v (w + 1) n)) else None) ≡ Some xs
      by_in on false q f = absurd cc
      by_in on true q f =
          let lt : y < size_of os o = grind (arith, nat_tests) in
          let there : 1 ≤ size_of os o = omega (arith, lt) in
          let l = lain c.place v b (object_of os o) (base o) place sees there (shown.lives o there) in
          let from = l.from in let to = l.to in
          let good = good_to_load v l.written l.low l.top w 1 b l.ends (omega (arith, at, from)) (omega (arith, at, lt, to)) l.lies in
          let same = byte_read v l.written l.low l.top w b (omega (arith, at, from)) (omega (arith, at, lt, to)) l.lies ∙ ap b at ∙ shown.bytes o y lt in
          rw (good, same) (by_zero on (slice_index (object_of os o).bytes y == 0) refl f)

  first_in : (bs : List ℕ) (y n : ℕ) (xs : List ℕ) → text_from bs y n ≡ Some xs → y < length bs
  unfolding text_from
  first_in bs y zero xs e = absurd cc
  first_in bs y (suc n) xs e = by_in (nat_lt y (length bs)) refl e
    where
      by_in : (q : Bool) → nat_lt y (length bs) ≡ q → (if q then (if slice_index bs y == 0 then Some [] else with_first (slice_index bs y) (text_from bs (y + 1) n)) else None) ≡ Some xs → y < length bs
      by_in false q f = absurd cc
      by_in true q f = grind (arith, nat_tests)

  text_shown : (x : Value) (w : ℕ) (xs : List ℕ) → text_of os x ≡ Some xs → Means c base os x w → good_text v w 256 ≡ Some xs
  unfolding text_of
  text_shown (Int a) w xs e m = absurd cc
  text_shown (Forged a) w xs e m = absurd cc
  text_shown (Entry f) w xs e m = absurd cc
  text_shown (Pointer o p) w xs e m =
      let y = from_place (object_of os o) p in
      let lt = first_in (object_of os o).bytes y 256 xs e in
      text_led o y 256 xs w (led c v b base os place sees shown o p w 1 (omega arith) (omega (arith, lt)) m).at e

  -- One parameter.
  by_text : (x : Value) (w : ℕ) (t : Option (List ℕ)) (xs : List (List ℕ)) → text_of os x ≡ t → alone t ≡ Some xs → Means c base os x w → alone (good_text v w 256) ≡ Some xs
  by_text x w None xs e f m = absurd cc
  by_text x w (Some t) xs e f m = ap alone (text_shown x w t e m) ∙ f

  by_store : (x : Value) (w n : ℕ) (q : Bool) (xs : List (List ℕ)) → lies_in os true x n ≡ q → nothing_if q ≡ Some xs → Means c base os x w → nothing_if (is_good v w n Store) ≡ Some xs
  by_store x w n true xs e f m = ap nothing_if (good_store x w n e m) ∙ f
  by_store x w n false xs e f m = absurd cc

  by_load : (x : Value) (w n : ℕ) (q : Bool) (xs : List (List ℕ)) → lies_in os false x n ≡ q → input_if q (buffer_of os x (min n most_moved)) ≡ Some xs → Means c base os x w
      → (if is_good v w n Load then Some (shown_bytes v w (min n most_moved) ∷ []) else None) ≡ Some xs
  by_load x w n true xs e f m = rw (good_load x w n e m) (ap (λ ys. Some (ys ∷ [])) (buffer_shown x w n (min n most_moved) (omega arith) e m) ∙ f)
  by_load x w n false xs e f m = absurd cc

  by_in : (x next : Value) (w wn : ℕ) (xs : List (List ℕ)) → with_int next (λ n. input_if (lies_in os false x n) (buffer_of os x (min n most_moved))) ≡ Some xs → Means c base os x w → ((n : ℕ) → next ≡ Int n → wn ≡ n)
      → (if is_good v w wn Load then Some (shown_bytes v w (min wn most_moved) ∷ []) else None) ≡ Some xs
  by_in x (Int n) w wn xs e m next = ap (λ k. if is_good v w k Load then Some (shown_bytes v w (min k most_moved) ∷ []) else None) (next n refl) ∙ by_load x w n (lies_in os false x n) xs refl e m
  by_in x (Pointer o p) w wn xs e m next = absurd cc
  by_in x (Forged n) w wn xs e m next = absurd cc
  by_in x (Entry f) w wn xs e m next = absurd cc

  by_out : (x next : Value) (w wn : ℕ) (xs : List (List ℕ)) → with_int next (λ n. nothing_if (lies_in os true x n)) ≡ Some xs → Means c base os x w → ((n : ℕ) → next ≡ Int n → wn ≡ n) → nothing_if (is_good v w wn Store) ≡ Some xs
  by_out x (Int n) w wn xs e m next = ap (λ k. nothing_if (is_good v w k Store)) (next n refl) ∙ by_store x w n (lies_in os true x n) xs refl e m
  by_out x (Pointer o p) w wn xs e m next = absurd cc
  by_out x (Forged n) w wn xs e m next = absurd cc
  by_out x (Entry f) w wn xs e m next = absurd cc

  by_none : (x : Value) (xs : List (List ℕ)) → with_int x (λ n. Some []) ≡ Some xs → Some [] ≡ Some xs
  by_none (Int a) xs e = e
  by_none (Pointer o p) xs e = absurd cc
  by_none (Forged a) xs e = absurd cc
  by_none (Entry f) xs e = absurd cc

  input_same : (kind : Kind) (x next : Value) (w wn : ℕ) (xs : List (List ℕ)) → slot.input_of os kind x next ≡ Some xs → Means c base os x w → ((n : ℕ) → next ≡ Int n → wn ≡ n) → view.input_of v kind w wn ≡ Some xs
  unfolding slot.input_of view.input_of
  input_same Word x next w wn xs e m f = by_none x xs e
  input_same Len x next w wn xs e m f = by_none x xs e
  input_same In x next w wn xs e m f = by_in x next w wn xs e m f
  input_same Text x next w wn xs e m f = by_text x w (text_of os x) xs refl e m
  input_same Out x next w wn xs e m f = by_out x next w wn xs e m f
  input_same Out4 x next w wn xs e m f = by_store x w 4 (lies_in os true x 4) xs refl e m
  input_same Out8 x next w wn xs e m f = by_store x w 8 (lies_in os true x 8) xs refl e m

  next_is : (r : Regs) (k : ℕ) (kinds : List Kind) (args : List Value) (xs : List (List ℕ)) → slot.inputs_of os kinds args ≡ Some xs → AreHeld c base os r k args → (n : ℕ) → value_at args 0 ≡ Int n → next_word (words_from r k kinds) ≡ n
  unfolding slot.inputs_of words_from
  next_is r k [] [] xs e a n q = cc
  next_is r k [] (x ∷ args) xs e a n q = absurd cc
  next_is r k (kind ∷ kinds) [] xs e a n q = absurd cc
  next_is r k (kind ∷ kinds) (x ∷ args) xs e a n q = let z : x ≡ Int n = q in subst (λ y. Means c base os y (reg r k)) z a.0

  pub inputs_same : (r : Regs) (k i : ℕ) (kinds : List Kind) (args : List Value) (xs : List (List ℕ)) → slot.inputs_of os kinds args ≡ Some xs → AreHeld c base os r k args → view.inputs_of v i kinds (words_from r k kinds) ≡ Ok xs
  unfolding slot.inputs_of words_from view.inputs_of
  inputs_same r k i [] [] xs e a = let z : [] ≡ xs = cc in ap (λ ys. let t : Result (List (List ℕ)) ℕ = Ok ys in t) z
  inputs_same r k i [] (x ∷ args) xs e a = absurd cc
  inputs_same r k i (kind ∷ kinds) [] xs e a = absurd cc
  inputs_same r k i (kind ∷ kinds) (x ∷ args) xs e a = by_one (λ more g. inputs_same r (k + 1) (i + 1) kinds args more g a.1) (slot.input_of os kind x (value_at args 0)) (slot.inputs_of os kinds args) refl refl e
    where
      by_one : ((more : List (List ℕ)) → slot.inputs_of os kinds args ≡ Some more → view.inputs_of v (i + 1) kinds (words_from r (k + 1) kinds) ≡ Ok more)
          → (s t : Option (List (List ℕ))) → slot.input_of os kind x (value_at args 0) ≡ s → slot.inputs_of os kinds args ≡ t → slot.and_inputs s t ≡ Some xs
          → view.and_inputs i (view.input_of v kind (reg r k) (next_word (words_from r (k + 1) kinds))) (view.inputs_of v (i + 1) kinds (words_from r (k + 1) kinds)) ≡ Ok xs
      by_one on None t f g h = absurd cc
      by_one on (Some ys) None f g h = absurd cc
      by_one on (Some ys) (Some more) f g h =
          let z : ys ++ more ≡ xs = cc in
          ap (λ o. view.and_inputs i o (view.inputs_of v (i + 1) kinds (words_from r (k + 1) kinds))) (input_same kind x (value_at args 0) (reg r k) (next_word (words_from r (k + 1) kinds)) ys f a.0 (next_is r (k + 1) kinds args more g a.1))
          ∙ ap (view.and_inputs i (Some ys)) (on more g)
          ∙ ap (λ zs. let t : Result (List (List ℕ)) ℕ = Ok zs in t) z

-- The words of the arguments, without those of pointers.
abbrev pub words_in : List Value → List ℕ
words_in [] = []
words_in (x ∷ xs) = word_of x ∷ words_in xs

plain_one : (c : Program) (base : Bases) (os : List Object) (kind : Kind) (x next : Value) (w : ℕ) (xs : List (List ℕ)) → slot.input_of os kind x next ≡ Some xs → Means c base os x w → (if is_pointer kind then 0 else w) ≡ (if is_pointer kind then 0 else word_of x)
unfolding slot.input_of
plain_one c base os Word (Int a) next w xs e m = m
plain_one c base os Word (Pointer o p) next w xs e m = absurd cc
plain_one c base os Word (Forged a) next w xs e m = absurd cc
plain_one c base os Word (Entry f) next w xs e m = absurd cc
plain_one c base os Len (Int a) next w xs e m = m
plain_one c base os Len (Pointer o p) next w xs e m = absurd cc
plain_one c base os Len (Forged a) next w xs e m = absurd cc
plain_one c base os Len (Entry f) next w xs e m = absurd cc
plain_one c base os In x next w xs e m = refl
plain_one c base os Text x next w xs e m = refl
plain_one c base os Out x next w xs e m = refl
plain_one c base os Out4 x next w xs e m = refl
plain_one c base os Out8 x next w xs e m = refl

pub plain_same : (c : Program) (base : Bases) (os : List Object) (r : Regs) (k : ℕ) (kinds : List Kind) (args : List Value) (xs : List (List ℕ)) → slot.inputs_of os kinds args ≡ Some xs → AreHeld c base os r k args → plain_words kinds (words_from r k kinds) ≡ plain_words kinds (words_in args)
unfolding slot.inputs_of words_from plain_words
plain_same c base os r k [] [] xs e a = refl
plain_same c base os r k [] (x ∷ args) xs e a = absurd cc
plain_same c base os r k (kind ∷ kinds) [] xs e a = absurd cc
plain_same c base os r k (kind ∷ kinds) (x ∷ args) xs e a = by_one (λ more g. plain_same c base os r (k + 1) kinds args more g a.1) (slot.input_of os kind x (value_at args 0)) (slot.inputs_of os kinds args) refl refl e
  where
    by_one : ((more : List (List ℕ)) → slot.inputs_of os kinds args ≡ Some more → plain_words kinds (words_from r (k + 1) kinds) ≡ plain_words kinds (words_in args))
        → (s t : Option (List (List ℕ))) → slot.input_of os kind x (value_at args 0) ≡ s → slot.inputs_of os kinds args ≡ t → slot.and_inputs s t ≡ Some xs
        → (if is_pointer kind then 0 else reg r k) ∷ plain_words kinds (words_from r (k + 1) kinds) ≡ (if is_pointer kind then 0 else word_of x) ∷ plain_words kinds (words_in args)
    by_one on None t f g h = absurd cc
    by_one on (Some ys) None f g h = absurd cc
    by_one on (Some ys) (Some more) f g h =
        ap (λ n. n ∷ plain_words kinds (words_from r (k + 1) kinds)) (plain_one c base os kind x (value_at args 0) (reg r k) ys f a.0)
        ∙ ap (λ ws. (if is_pointer kind then 0 else word_of x) ∷ ws) (on more g)

pub taken : InputsAreTaken
taken c v b base os place sees shown r k i kinds args xs e a = inputs_same c v b base os place sees shown r k i kinds args xs e a

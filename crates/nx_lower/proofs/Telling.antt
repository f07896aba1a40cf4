-- The outputs of a reply come to the same objects of both.
use Rattle.std.proofs.Common.{◌≡◌, ◌⊎◌, inl, inr, ℕ, zero, suc, ◌+◌, ◌*◌, ◌<◌, ◌≤◌, Bool, true, false, List, [], ◌∷◌, ◌++◌, length, map, Some, None, refl, sym, ap, ◌∙◌, subst, arith}
use Rattle.std.specs.Prelude.{not, ◌&&◌, nat_le, if◌then◌else◌, min, take, drop, slice_set, Result, Ok, Err}
use Rattle.std.proofs.lemmas.List.{take-append-drop, length-set}
use Rattle.nx_base.specs.declared.calls.Kind.{Kind}
use Rattle.nx_base.specs.declared.calls.Kind.TheVariants as kind
use Rattle.nx_base.specs.ByteLists.{put_bytes}
use Rattle.nx_base.specs.Calls.{Call, Reply, Row, Rows, is_pointer, plain_words, without_entry, meant, Fits}
use Rattle.nx_base.specs.Replies.{next_word, output_rooms, HaveRoom, FitsCall}
use Rattle.nx_checked.specs.declared.checked.Element.TheVariants as element
use Rattle.nx_checked.specs.declared.checked.UsedCall.{UsedCall}
use Rattle.nx_cobjects.specs.declared.value.Name.{Name}
use Rattle.nx_cobjects.specs.declared.value.Name.TheVariants as name
use Rattle.nx_cobjects.specs.declared.value.Value.{Value}
use Rattle.nx_cobjects.specs.declared.value.Value.TheVariants as value
use Rattle.nx_cobjects.specs.declared.value.WrongKind.{WrongKind}
use Rattle.nx_cobjects.specs.Groups.{Object, object}
use Rattle.nx_cobjects.specs.Values.{number_in, size_of, word_in}
use Rattle.nx_cobjects.specs.Memory.{Memory, memory, object_in, object_at, value_in}
use Rattle.nx_cobjects.specs.Buffers.{enters, part_of, room, on_number, where_there, input_after, inputs_after, inputs_by, inputs_of, outputs_of, words_of, with_bytes, with_bytes_in, with_output, replied}
use Rattle.nx_cmean.specs.Runs.{output}
use Rattle.nx_slot.specs.Objects.{object_of, no_object}
use Rattle.nx_slot.specs.Objects as slot
use Rattle.nx_slot.specs.Calls.{from_place}
use Rattle.nx_slot.specs.Calls.{with_bytes as slot_bytes, with_output as slot_output, with_outputs as slot_outputs}
use Rattle.nx_lower.specs.Shown.{Counts, counts_of, shown, objects_of}
use Rattle.nx_lower.specs.Sound.{outputs_in, SoundCall}
use Rattle.nx_lower.proofs.Parts.{set_same}
use Rattle.nx_lower.proofs.Objects.{Known, known}
use Rattle.nx_lower.proofs.Outputs.{outputs}
use Rattle.nx_lower.proofs.Inputs.{no_room, is_more, within_some, there_is, after_is}

-- A value that is no pointer to an object which isn't there, where a thread has n objects of its own.
abbrev pub There : Counts → ℕ → Value → Type 0
There c n (value.Int k) = Unit {0}
There c n (value.Forged k) = Unit {0}
There c n (value.Entry f) = Unit {0}
There c n (value.Point (name.Array i) at) = i < c.arrays
There c n (value.Point (name.Text i) at) = i < c.texts
There c n (value.Point (name.Own i) at) = i < n

-- Each output has such a pointer, or no bytes.
abbrev pub Told : Counts → ℕ → List Value → List (List ℕ) → Type 0
Told c n [] outs = Unit {0}
Told c n (v ∷ vs) [] = Unit {0}
Told c n (v ∷ vs) (out ∷ outs) = (There c n v ⊎ (out ≡ [])) × Told c n vs outs

pub record CanTell (c : Counts) (n : ℕ) (rows : Rows) (call : Call) (pointers : List Value) : Type 0 where
  pub few : length pointers ≤ 2
  pub told : (a : Reply) → Fits rows (meant rows call) a → Told c n pointers a.outputs

-- No bytes change nothing.
none_last : (l : List ℕ) → l ++ [] ≡ l
none_last [] = refl
none_last (x ∷ l) = ap (λ r. x ∷ r) (none_last l)

no_bytes : (bs : List ℕ) (at : ℕ) → put_bytes bs at [] ≡ bs
unfolding put_bytes
no_bytes bs at =
    let e : at + 0 ≡ at = omega arith in
    ap (λ (l : List ℕ). l ++ drop (at + 0) bs) (none_last (take at bs)) ∙ ap (λ n. take at bs ++ drop n bs) e ∙ take-append-drop at bs

no_change : (o : Object) (at : ℕ) → with_bytes o at [] ≡ o
no_change o at = go (nat_le (size_of o.element * at + 0) (length o.bytes))
  where
    go : (b : Bool) → (if b then object o.element (put_bytes o.bytes (size_of o.element * at) []) else o) ≡ o
    go true = ap (λ l. object o.element l) (no_bytes o.bytes (size_of o.element * at))
    go false = refl

list_same : (os : List Object) (i at : ℕ) → with_bytes_in os i at [] ≡ os
list_same os i at = ap (slice_set os i) (no_change (object_in os i) at) ∙ set_same os i (object element.Char [])

no_output : (m : Memory) (v : Value) → with_output m v [] ≡ m
no_output m (value.Int k) = refl
no_output m (value.Forged k) = refl
no_output m (value.Entry f) = refl
no_output m (value.Point (name.Array i) at) = ap (λ (l : List Object). memory (record { scalars = m.group.scalars; arrays = l; texts = m.group.texts }) m.own) (list_same m.group.arrays i at)
no_output m (value.Point (name.Text i) at) = refl
no_output m (value.Point (name.Own i) at) = ap (λ (l : List Object). memory m.group l) (list_same m.own i at)

slot_no_change : (o : slot.Object) (at : ℕ) → slot_bytes o at [] ≡ o
unfolding slot_bytes
slot_no_change o at = go (nat_le (from_place o at + 0) (length o.bytes) && not o.fixed)
  where
    go : (b : Bool) → (if b then record o { bytes = put_bytes o.bytes (from_place o at) [] } else o) ≡ o
    go true = ap (λ (l : List ℕ). record o { bytes = l }) (no_bytes o.bytes (from_place o at))
    go false = refl

slot_nothing : (os : List slot.Object) (x : slot.Value) → slot_output os x [] ≡ os
unfolding object_of
slot_nothing os (slot.Int k) = refl
slot_nothing os (slot.Forged k) = refl
slot_nothing os (slot.Entry f) = refl
slot_nothing os (slot.Pointer o at) = ap (slice_set os o) (slot_no_change (object_of os o) at) ∙ set_same os o no_object

-- One output.
there_told : (m : Memory) (v : Value) (out : List ℕ) → There (counts_of m.group) (length m.own) v → slot_output (objects_of m) (shown (counts_of m.group) v) out ≡ objects_of (with_output m v out)
there_told m (value.Int k) out h = refl
there_told m (value.Forged k) out h = refl
there_told m (value.Entry f) out h = refl
there_told m (value.Point (name.Array i) at) out h = outputs m (name.Array i) at out h
there_told m (value.Point (name.Text i) at) out h = outputs m (name.Text i) at out h
there_told m (value.Point (name.Own i) at) out h = outputs m (name.Own i) at out h

one_told : (c : Counts) (m : Memory) (v : Value) (out : List ℕ) → counts_of m.group ≡ c → There c (length m.own) v ⊎ (out ≡ []) → slot_output (objects_of m) (shown c v) out ≡ objects_of (with_output m v out)
one_told c m v out e (inr none) =
    subst (λ (out : List ℕ). slot_output (objects_of m) (shown c v) out ≡ objects_of (with_output m v out)) (sym none)
    (slot_nothing (objects_of m) (shown c v) ∙ ap (λ (m : Memory). objects_of m) (sym (no_output m v)))
one_told c m v out e (inl h) =
    subst (λ (c : Counts). slot_output (objects_of m) (shown c v) out ≡ objects_of (with_output m v out)) e (there_told m v out (subst (λ (c : Counts). There c (length m.own) v) (sym e) h))

abbrev counts_with : ℕ → ℕ → ℕ → Counts
counts_with a b c = record { scalars = a; arrays = b; texts = c }

told_counts : (m : Memory) (v : Value) (out : List ℕ) → counts_of (with_output m v out).group ≡ counts_of m.group
told_counts m (value.Int k) out = refl
told_counts m (value.Forged k) out = refl
told_counts m (value.Entry f) out = refl
told_counts m (value.Point (name.Array i) at) out = ap (λ n. counts_with (length m.group.scalars) n (length m.group.texts)) (length-set m.group.arrays i (with_bytes (object_in m.group.arrays i) at out))
told_counts m (value.Point (name.Text i) at) out = refl
told_counts m (value.Point (name.Own i) at) out = refl

told_own : (m : Memory) (v : Value) (out : List ℕ) → length (with_output m v out).own ≡ length m.own
told_own m (value.Int k) out = refl
told_own m (value.Forged k) out = refl
told_own m (value.Entry f) out = refl
told_own m (value.Point (name.Array i) at) out = refl
told_own m (value.Point (name.Text i) at) out = refl
told_own m (value.Point (name.Own i) at) out = length-set m.own i (with_bytes (object_in m.own i) at out)

-- All outputs.
pub all_told : (c : Counts) (m : Memory) (vs : List Value) (outs : List (List ℕ)) → counts_of m.group ≡ c → length vs ≤ 2 → Told c (length m.own) vs outs → slot_outputs (objects_of m) (map (shown c) vs) outs ≡ objects_of (replied m vs (output outs 0) (output outs 1))
all_told c m [] outs e few t = refl
all_told c m (v ∷ []) [] e few t = ap (λ (m : Memory). objects_of m) (sym (no_output m v))
all_told c m (v ∷ []) (out ∷ outs) e few t = one_told c m v out e t.0
all_told c m (v ∷ w ∷ []) [] e few t = ap (λ (m : Memory). objects_of m) (sym (no_output (with_output m v []) w ∙ no_output m v))
all_told c m (v ∷ w ∷ []) (out ∷ []) e few t = one_told c m v out e t.0 ∙ ap (λ (m : Memory). objects_of m) (sym (no_output (with_output m v out) w))
all_told c m (v ∷ w ∷ []) (out ∷ more ∷ outs) e few t =
    let after = with_output m v out in
    ap (λ (os : List slot.Object). slot_output os (shown c w) more) (one_told c m v out e t.0)
    ∙ one_told c after w more (told_counts m v out ∙ e) (subst (λ (n : ℕ). There c n w ⊎ (more ≡ [])) (sym (told_own m v out)) t.1.0)
all_told c m (v ∷ w ∷ u ∷ vs) outs e few t = absurd (omega (arith, few))

pub all_counts : (m : Memory) (vs : List Value) (first second : List ℕ) → counts_of (replied m vs first second).group ≡ counts_of m.group
all_counts m [] first second = refl
all_counts m (v ∷ []) first second = told_counts m v first
all_counts m (v ∷ w ∷ vs) first second = told_counts (with_output m v first) w second ∙ told_counts m v first

-- The words of a call's values.
abbrev WordsOf : List Value → List ℕ → Type 0
WordsOf [] ws = Unit {0}
WordsOf (v ∷ vs) [] = ⊥
WordsOf (v ∷ vs) (w ∷ ws) = (w ≡ word_in v) × WordsOf vs ws

words_are : (vs : List Value) → length vs ≤ 6 → WordsOf vs (words_of vs)
words_are [] h = tt
words_are (a ∷ []) h = (refl, tt)
words_are (a ∷ b ∷ []) h = (refl, (refl, tt))
words_are (a ∷ b ∷ c ∷ []) h = (refl, (refl, (refl, tt)))
words_are (a ∷ b ∷ c ∷ d ∷ []) h = (refl, (refl, (refl, (refl, tt))))
words_are (a ∷ b ∷ c ∷ d ∷ e ∷ []) h = (refl, (refl, (refl, (refl, (refl, tt)))))
words_are (a ∷ b ∷ c ∷ d ∷ e ∷ f ∷ []) h = (refl, (refl, (refl, (refl, (refl, (refl, tt))))))
words_are (a ∷ b ∷ c ∷ d ∷ e ∷ f ∷ g ∷ vs) h = absurd (omega (arith, h))

-- Each pointer is there, or its output has no room.
abbrev HasRooms : Counts → ℕ → List Value → List ℕ → Type 0
HasRooms c n [] rooms = Unit {0}
HasRooms c n (v ∷ vs) [] = ⊥
HasRooms c n (v ∷ vs) (r ∷ rooms) = (There c n v ⊎ (r ≡ 0)) × HasRooms c n vs rooms

no_length : (out : List ℕ) → length out ≤ 0 → out ≡ []
no_length [] h = refl
no_length (x ∷ out) h = absurd (omega (arith, h))

one_fits : (P : Type 0) (r : ℕ) (out : List ℕ) → P ⊎ (r ≡ 0) → length out ≤ r → P ⊎ (out ≡ [])
one_fits P r out (inl h) le = inl h
one_fits P r out (inr e) le = inr (no_length out (omega (arith, e, le)))

rooms_told : (c : Counts) (n : ℕ) (vs : List Value) (rooms : List ℕ) (outs : List (List ℕ)) → HasRooms c n vs rooms → HaveRoom rooms outs → Told c n vs outs
rooms_told c n [] rooms outs r h = tt
rooms_told c n (v ∷ vs) [] outs r h = absurd r
rooms_told c n (v ∷ vs) (x ∷ rooms) [] r h = tt
rooms_told c n (v ∷ vs) (x ∷ rooms) (out ∷ outs) r h = (one_fits (There c n v) x out r.0 h.0, rooms_told c n vs rooms outs r.1 h.1)

-- The next word is no more than the number that it stands for.
abbrev number_or : Result ℕ WrongKind → ℕ
number_or (Ok n) = n
number_or (Err kind) = 0

number_is : (v : Value) (n : ℕ) → ◌≡◌ {A = Result ℕ WrongKind} (number_in v) (Ok n) → word_in v ≡ n
number_is (value.Int k) n e = ap number_or e
number_is (value.Point o at) n e = absurd cc
number_is (value.Forged k) n e = absurd cc
number_is (value.Entry f) n e = absurd cc

less_or_none : (b : Bool) (w n : ℕ) → w ≡ n → (if b then 0 else w) ≤ n
less_or_none true w n e = omega arith
less_or_none false w n e = omega (arith, e)

next_small : (kinds : List Kind) (vs : List Value) (ws : List ℕ) (n : ℕ) → length vs ≡ length kinds → WordsOf vs ws → ◌≡◌ {A = Result ℕ WrongKind} (number_in (value_in vs 0)) (Ok n) → next_word (plain_words kinds ws) ≤ n
unfolding plain_words
next_small [] vs ws n count are e = omega arith
next_small (k ∷ kinds) [] ws n count are e = absurd (omega (arith, count))
next_small (k ∷ kinds) (v ∷ vs) [] n count are e = absurd are
next_small (k ∷ kinds) (v ∷ vs) (w ∷ ws) n count are e = less_or_none (is_pointer k) w n (are.0 ∙ number_is v n e)

module _ (m : Memory) where
  abbrev Rooms : List Value → List ℕ → Type 0
  Rooms vs rooms = HasRooms (counts_of m.group) (length m.own) vs rooms

  part_there : (o : Name) (at n : ℕ) (bytes : List ℕ) → part_of (object_at m o) at (suc n) ≡ Some bytes → Known m o
  part_there o at n bytes h = go (nat_le (size_of (object_at m o).element * at + suc n) (length (object_at m o).bytes)) refl h
    where
      go : (b : Bool) → nat_le (size_of (object_at m o).element * at + suc n) (length (object_at m o).bytes) ≡ b → (if b then Some (take (min (suc n) 4096) (drop (size_of (object_at m o).element * at) (object_at m o).bytes)) else None) ≡ Some bytes → Known m o
      go false q h = absurd cc
      go true q h = known m o (within_some _ n _ q)

  room_there : (v : Value) (n : ℕ) (bytes : List ℕ) → room m v n ≡ Some bytes → There (counts_of m.group) (length m.own) v ⊎ (n ≡ 0)
  room_there v zero bytes h = inr refl
  room_there (value.Int k) (suc n) bytes h = inl tt
  room_there (value.Forged k) (suc n) bytes h = inl tt
  room_there (value.Entry f) (suc n) bytes h = inl tt
  room_there (value.Point (name.Array i) at) (suc n) bytes h = inl (part_there (name.Array i) at n bytes h)
  room_there (value.Point (name.Own i) at) (suc n) bytes h = inl (part_there (name.Own i) at n bytes h)
  room_there (value.Point (name.Text i) at) (suc n) bytes h = absurd (no_room bytes (sym (ap (λ (b : Bool). if not b then None else part_of (object_at m (name.Text i)) at (suc n)) (is_more n)) ∙ h))

  -- The room of one output.
  sized_there : (P : Type 0) (n r : ℕ) → r ≤ n → P ⊎ (n ≡ 0) → P ⊎ (r ≡ 0)
  sized_there P n r le (inl h) = inl h
  sized_there P n r le (inr e) = inr (omega (arith, le, e))

  out_there : (v next : Value) (done new : List (List ℕ)) (kinds : List Kind) (vs : List Value) (ws : List ℕ) → next ≡ value_in vs 0 → length vs ≡ length kinds → WordsOf vs ws → on_number (number_in next) (λ n. where_there done (room m v n)) ≡ Some new
      → There (counts_of m.group) (length m.own) v ⊎ (min (next_word (plain_words kinds ws)) 4096 ≡ 0)
  out_there v (value.Int n) done new kinds vs ws e count are h =
      let q = there_is m (counts_of m.group) refl done new (room m v n) h in
      let less = next_small kinds vs ws n count are (ap number_in (sym e)) in
      sized_there (There (counts_of m.group) (length m.own) v) n (min (next_word (plain_words kinds ws)) 4096) (omega (arith, less)) (room_there v n q.0 q.1)
  out_there v (value.Point o at) done new kinds vs ws e count are h = absurd cc
  out_there v (value.Forged n) done new kinds vs ws e count are h = absurd cc
  out_there v (value.Entry f) done new kinds vs ws e count are h = absurd cc

  few_there : (v : Value) (n : ℕ) (done new : List (List ℕ)) → 0 < n → where_there done (room m v n) ≡ Some new → There (counts_of m.group) (length m.own) v ⊎ (n ≡ 0)
  few_there v n done new some h = let q = there_is m (counts_of m.group) refl done new (room m v n) h in room_there v n q.0 q.1

  rooms_are : (kinds : List Kind) (vs : List Value) (ws : List ℕ) (done new : List (List ℕ)) → length vs ≡ length kinds → WordsOf vs ws → inputs_after m done kinds vs ≡ Some new → Rooms (outputs_of kinds vs) (output_rooms kinds (plain_words kinds ws))
  unfolding plain_words
  rooms_are [] vs ws done new count are h = tt
  rooms_are (k ∷ kinds) [] ws done new count are h = absurd (omega (arith, count))
  rooms_are (k ∷ kinds) (v ∷ vs) [] done new count are h = absurd are
  rooms_are (kind.Word ∷ kinds) (v ∷ vs) (w ∷ ws) done new count are h =
      let q = after_is m (counts_of m.group) refl (input_after m done kind.Word v (value_in vs 0)) (λ done. inputs_after m done kinds vs) new h in rooms_are kinds vs ws q.0 new (omega (arith, count)) are.1 q.2
  rooms_are (kind.Len ∷ kinds) (v ∷ vs) (w ∷ ws) done new count are h =
      let q = after_is m (counts_of m.group) refl (input_after m done kind.Len v (value_in vs 0)) (λ done. inputs_after m done kinds vs) new h in rooms_are kinds vs ws q.0 new (omega (arith, count)) are.1 q.2
  rooms_are (kind.In ∷ kinds) (v ∷ vs) (w ∷ ws) done new count are h =
      let q = after_is m (counts_of m.group) refl (input_after m done kind.In v (value_in vs 0)) (λ done. inputs_after m done kinds vs) new h in rooms_are kinds vs ws q.0 new (omega (arith, count)) are.1 q.2
  rooms_are (kind.Text ∷ kinds) (v ∷ vs) (w ∷ ws) done new count are h =
      let q = after_is m (counts_of m.group) refl (input_after m done kind.Text v (value_in vs 0)) (λ done. inputs_after m done kinds vs) new h in rooms_are kinds vs ws q.0 new (omega (arith, count)) are.1 q.2
  rooms_are (kind.Out ∷ kinds) (v ∷ vs) (w ∷ ws) done new count are h =
      let q = after_is m (counts_of m.group) refl (input_after m done kind.Out v (value_in vs 0)) (λ done. inputs_after m done kinds vs) new h in
      (out_there v (value_in vs 0) done q.0 kinds vs ws refl (omega (arith, count)) are.1 q.1, rooms_are kinds vs ws q.0 new (omega (arith, count)) are.1 q.2)
  rooms_are (kind.Out4 ∷ kinds) (v ∷ vs) (w ∷ ws) done new count are h =
      let q = after_is m (counts_of m.group) refl (input_after m done kind.Out4 v (value_in vs 0)) (λ done. inputs_after m done kinds vs) new h in
      (few_there v 4 done q.0 (omega arith) q.1, rooms_are kinds vs ws q.0 new (omega (arith, count)) are.1 q.2)
  rooms_are (kind.Out8 ∷ kinds) (v ∷ vs) (w ∷ ws) done new count are h =
      let q = after_is m (counts_of m.group) refl (input_after m done kind.Out8 v (value_in vs 0)) (λ done. inputs_after m done kinds vs) new h in
      (few_there v 8 done q.0 (omega arith) q.1, rooms_are kinds vs ws q.0 new (omega (arith, count)) are.1 q.2)

  -- The first word of a call that starts a thread is no length.
  entry_rooms : (kinds : List Kind) (f : ℕ) (vs : List Value) (w : ℕ) (ws : List ℕ) → length (value.Entry f ∷ vs) ≡ length kinds → Rooms (outputs_of kinds (value.Int f ∷ vs)) (output_rooms kinds (plain_words kinds (w ∷ ws)))
      → Rooms (outputs_of kinds (value.Entry f ∷ vs)) (output_rooms kinds (without_entry true (plain_words kinds (w ∷ ws))))
  unfolding plain_words
  entry_rooms [] f vs w ws count r = r
  entry_rooms (kind.Word ∷ kinds) f vs w ws count r = r
  entry_rooms (kind.Len ∷ kinds) f vs w ws count r = r
  entry_rooms (kind.In ∷ kinds) f vs w ws count r = r
  entry_rooms (kind.Text ∷ kinds) f vs w ws count r = r
  entry_rooms (kind.Out ∷ kinds) f vs w ws count r = r
  entry_rooms (kind.Out4 ∷ kinds) f vs w ws count r = r
  entry_rooms (kind.Out8 ∷ kinds) f vs w ws count r = r

  call_rooms : (starts : Bool) (kinds : List Kind) (vs : List Value) (ws : List ℕ) (new : List (List ℕ)) → length vs ≡ length kinds → WordsOf vs ws → inputs_by m starts kinds vs ≡ Some new → Rooms (outputs_of kinds vs) (output_rooms kinds (without_entry starts (plain_words kinds ws)))
  call_rooms false kinds vs ws new count are h = rooms_are kinds vs ws [] new count are h
  call_rooms true kinds [] ws new count are h = absurd cc
  call_rooms true kinds (value.Int n ∷ vs) ws new count are h = absurd cc
  call_rooms true kinds (value.Point o at ∷ vs) ws new count are h = absurd cc
  call_rooms true kinds (value.Forged n ∷ vs) ws new count are h = absurd cc
  call_rooms true kinds (value.Entry f ∷ vs) [] new count are h = absurd are
  call_rooms true kinds (value.Entry f ∷ vs) (w ∷ ws) new count are h = entry_rooms kinds f vs w ws count (rooms_are kinds (value.Int f ∷ vs) (w ∷ ws) [] new count are h)

outputs_few : (kinds : List Kind) (vs : List Value) → length vs ≡ length kinds → length (outputs_of kinds vs) ≤ outputs_in kinds
outputs_few [] vs count = omega arith
outputs_few (k ∷ kinds) [] count = absurd (omega (arith, count))
outputs_few (kind.Word ∷ kinds) (v ∷ vs) count = outputs_few kinds vs (omega (arith, count))
outputs_few (kind.Len ∷ kinds) (v ∷ vs) count = outputs_few kinds vs (omega (arith, count))
outputs_few (kind.In ∷ kinds) (v ∷ vs) count = outputs_few kinds vs (omega (arith, count))
outputs_few (kind.Text ∷ kinds) (v ∷ vs) count = outputs_few kinds vs (omega (arith, count))
outputs_few (kind.Out ∷ kinds) (v ∷ vs) count = let h = outputs_few kinds vs (omega (arith, count)) in omega (arith, h)
outputs_few (kind.Out4 ∷ kinds) (v ∷ vs) count = let h = outputs_few kinds vs (omega (arith, count)) in omega (arith, h)
outputs_few (kind.Out8 ∷ kinds) (v ∷ vs) count = let h = outputs_few kinds vs (omega (arith, count)) in omega (arith, h)

-- The outputs of each reply that fits a call have their pointers.
pub can_tell : (rows : Rows) (m : Memory) (c : UsedCall) (args : List Value) (inputs : List (List ℕ)) → SoundCall rows c → length args ≡ length c.kinds → inputs_of m c args ≡ Some inputs
    → CanTell (counts_of m.group) (length m.own) rows (record { number = c.number; words = words_of args; inputs = inputs }) (outputs_of c.kinds args)
unfolding meant
can_tell rows m c args inputs t count h =
    let few = t.few in let less = outputs_few c.kinds args count in let two = t.outputs in
    let are = words_are args (omega (arith, few, count)) in
    record {
      few = omega (arith, less, two);
      told = λ a fits. rooms_told (counts_of m.group) (length m.own) (outputs_of c.kinds args) (output_rooms c.kinds (without_entry (enters c) (plain_words c.kinds (words_of args)))) a.outputs
          (call_rooms m (enters c) c.kinds args (words_of args) inputs count are h)
          (subst (λ (r : Row). FitsCall r.kinds (without_entry r.enters (plain_words r.kinds (words_of args))) a.outputs) t.row fits.room);
    }

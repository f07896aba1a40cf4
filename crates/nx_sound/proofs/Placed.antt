-- The bytes of a lowered file's objects stand where its code says.
use Rattle.std.proofs.Common.{◌≡◌, ℕ, zero, suc, ◌+◌, ◌-◌, ◌*◌, ◌/◌, ◌%◌, ◌<◌, ◌≤◌, false, true, List, [], ◌∷◌, ◌++◌, length, map, take, drop, get_or, refl, sym, ap, ◌∙◌, subst, arith}
use Rattle.std.proofs.lemmas.List.{append-nil, append_assoc, length-append, length-map, length-replicate, get_or-append-add}
use Rattle.std.proofs.lemmas.List.Sums.{sum_by-cons}
use Rattle.std.proofs.Math.Seq.{take-append_seam, drop-append-add}
use Rattle.std.specs.Prelude.{replicate, slice_index, sum}
use Rattle.nx_base.specs.ByteLists.{to_le}
use Rattle.nx_checked.specs.declared.checked.Checked.{Checked}
use Rattle.nx_checked.specs.declared.checked.GlobalArray.{GlobalArray}
use Rattle.nx_checked.specs.declared.checked.GlobalScalar.{GlobalScalar}
use Rattle.nx_checked.specs.declared.checked.Element.TheVariants as element
use Rattle.nx_checked.specs.Frames.{bytes_of}
use Rattle.nx_checked.specs.Frames as frames
use Rattle.nx_cobjects.specs.Groups.{Object, object}
use Rattle.nx_cobjects.specs.Starts.{first_group, array_of}
use Rattle.nx_slot.specs.Objects as slot
use Rattle.nx_slot.specs.Objects.{object_of, no_object}
use Rattle.nx_lower.specs.Shown.{scalar_shown, object_shown, statics_of}
use Rattle.nx_lower.specs.Code.{scalar_object, array_object, text_object}
use Rattle.nx_lowerexpr.specs.Sources.{source_of, shape_of}
use Rattle.nx_lowering.specs.Programs.{scalars_bytes, in_words, arrays_bytes, texts_bytes}
use Rattle.nx_sound.specs.Laws.{HasBytes}
use Rattle.nx_sound.specs.Places.{first_objects, IsThere, AreThere, ObjectsAreThere}

-- Bytes at the front of others, and bytes after those at the front.
front : (xs ys : List ℕ) → take (length xs) (drop 0 (xs ++ ys)) ≡ xs
front xs ys = take-append_seam xs ys

after : (xs ys : List ℕ) (n at k : ℕ) → n ≡ length xs → take k (drop (n + at) (xs ++ ys)) ≡ take k (drop at ys)
after xs ys n at k e = ap (λ (n : ℕ). take k (drop (n + at) (xs ++ ys))) e ∙ ap (λ (l : List ℕ). take k l) (drop-append-add xs ys at)

-- Variables.
four : (n : ℕ) → length (to_le 4 n) ≡ 4
unfolding to_le
four n = refl

abbrev values : List GlobalScalar → List ℕ
values xs = map (λ x. x.value) xs

scalars_length : (ns : List ℕ) → length (scalars_bytes ns) ≡ 4 * length ns
scalars_length [] = refl
scalars_length (n ∷ ns) = omega (arith, length-append (to_le 4 n) (scalars_bytes ns), four n, scalars_length ns)

scalar_bytes : (ns rest : List ℕ) (i : ℕ) → i < length ns → take 4 (drop (4 * i) (scalars_bytes ns ++ rest)) ≡ to_le 4 (slice_index ns i)
scalar_bytes [] rest i h = absurd (omega (arith, h))
scalar_bytes (n ∷ ns) rest zero h =
    ap (λ (l : List ℕ). take 4 (drop 0 l)) (append_assoc (to_le 4 n) (scalars_bytes ns) rest)
    ∙ ap (λ (k : ℕ). take k (drop 0 (to_le 4 n ++ (scalars_bytes ns ++ rest)))) (sym (four n))
    ∙ front (to_le 4 n) (scalars_bytes ns ++ rest)
scalar_bytes (n ∷ ns) rest (suc i) h =
    let next : 4 * suc i ≡ 4 + 4 * i = omega arith in
    ap (λ (k : ℕ). take 4 (drop k ((to_le 4 n ++ scalars_bytes ns) ++ rest))) next
    ∙ ap (λ (l : List ℕ). take 4 (drop (4 + 4 * i) l)) (append_assoc (to_le 4 n) (scalars_bytes ns) rest)
    ∙ after (to_le 4 n) (scalars_bytes ns ++ rest) 4 (4 * i) 4 (sym (four n))
    ∙ scalar_bytes ns rest i (omega (arith, h))

scalar_at : (ns : List ℕ) (rest : List slot.Object) (i : ℕ) → i < length ns → object_of (map scalar_shown ns ++ rest) i ≡ scalar_shown (slice_index ns i)
unfolding object_of
scalar_at [] rest i h = absurd (omega (arith, h))
scalar_at (n ∷ ns) rest zero h = refl
scalar_at (n ∷ ns) rest (suc i) h = scalar_at ns rest i (omega (arith, h))

-- Arrays.
padded : (n : ℕ) → n + (4 - n % 4) % 4 ≡ 4 * ((n + 3) / 4)
padded n = omega arith

words_length : (bs : List ℕ) → length (in_words bs) ≡ 4 * ((length bs + 3) / 4)
words_length bs = omega (arith, length-append bs (replicate ((4 - length bs % 4) % 4) 0), length-replicate {A = ℕ} ((4 - length bs % 4) % 4) 0, padded (length bs))

abbrev HaveAll : List GlobalArray → Type 0
HaveAll gs = (k : ℕ) (d : GlobalArray) → k < length gs → length (get_or gs k d).bytes ≡ bytes_of (get_or gs k d).shape

room : (a : GlobalArray) → length a.bytes ≡ bytes_of a.shape → length (in_words a.bytes) ≡ 4 * ((bytes_of a.shape + 3) / 4)
room a h = words_length a.bytes ∙ ap (λ (n : ℕ). 4 * ((n + 3) / 4)) h

arrays_length : (gs : List GlobalArray) → HaveAll gs → length (arrays_bytes (map array_of gs)) ≡ frames.array_bytes (map shape_of gs)
arrays_length [] h = refl
arrays_length (a ∷ gs) h =
    let others = arrays_length gs (λ k d e. h (suc k) d (omega (arith, e))) in
    omega (arith, length-append (in_words a.bytes) (arrays_bytes (map array_of gs)), room a (h 0 a (omega arith)), others)

array_bytes : (gs : List GlobalArray) (rest : List ℕ) (i : ℕ) (d : GlobalArray) → HaveAll gs → i < length gs → take (length (get_or gs i d).bytes) (drop (frames.array_bytes (take i (map shape_of gs))) (arrays_bytes (map array_of gs) ++ rest)) ≡ (get_or gs i d).bytes
array_bytes [] rest i d h e = absurd (omega (arith, e))
array_bytes (a ∷ gs) rest zero d h e =
    let zeros = replicate ((4 - length a.bytes % 4) % 4) 0 in
    let others = arrays_bytes (map array_of gs) in
    ap (λ (l : List ℕ). take (length a.bytes) (drop 0 l)) (append_assoc (in_words a.bytes) others rest ∙ append_assoc a.bytes zeros (others ++ rest))
    ∙ front a.bytes (zeros ++ (others ++ rest))
array_bytes (a ∷ gs) rest (suc i) d h e =
    let others = arrays_bytes (map array_of gs) in
    let k = length (get_or gs i d).bytes in
    let first = 4 * ((bytes_of a.shape + 3) / 4) in
    let more = frames.array_bytes (take i (map shape_of gs)) in
    ap (λ (l : List ℕ). take k (drop (first + more) l)) (append_assoc (in_words a.bytes) others rest)
    ∙ after (in_words a.bytes) (others ++ rest) first more k (sym (room a (h 0 a (omega arith))))
    ∙ array_bytes gs rest i d (λ k d e. h (suc k) d (omega (arith, e))) (omega (arith, e))

array_at : (gs : List GlobalArray) (rest : List slot.Object) (i : ℕ) (d : GlobalArray) → i < length gs → get_or (map (object_shown false) (map array_of gs) ++ rest) i no_object ≡ object_shown false (array_of (get_or gs i d))
array_at [] rest i d h = absurd (omega (arith, h))
array_at (a ∷ gs) rest zero d h = refl
array_at (a ∷ gs) rest (suc i) d h = array_at gs rest i d (omega (arith, h))

-- Texts.
sum_cons : (n : ℕ) (ns : List ℕ) → sum (n ∷ ns) ≡ n + sum ns
sum_cons n ns = sum_by-cons (λ (n : ℕ). n) n ns

texts_length : (ts : List (List ℕ)) → length (texts_bytes (map (object element.Char) ts)) ≡ sum (map length ts)
texts_length [] = refl
texts_length (t ∷ ts) = omega (arith, length-append t (texts_bytes (map (object element.Char) ts)), texts_length ts, sum_cons (length t) (map length ts))

text_bytes : (ts : List (List ℕ)) (i : ℕ) → i < length ts → take (length (get_or ts i [])) (drop (sum (take i (map length ts))) (texts_bytes (map (object element.Char) ts))) ≡ get_or ts i []
text_bytes [] i h = absurd (omega (arith, h))
text_bytes (t ∷ ts) zero h = front t (texts_bytes (map (object element.Char) ts))
text_bytes (t ∷ ts) (suc i) h =
    ap (λ (n : ℕ). take (length (get_or ts i [])) (drop n (t ++ texts_bytes (map (object element.Char) ts)))) (sum_cons (length t) (take i (map length ts)))
    ∙ after t (texts_bytes (map (object element.Char) ts)) (length t) (sum (take i (map length ts))) (length (get_or ts i [])) refl ∙ text_bytes ts i (omega (arith, h))

text_at : (ts : List (List ℕ)) (i : ℕ) → i < length ts → get_or (map (object_shown true) (map (object element.Char) ts)) i no_object ≡ object_shown true (object element.Char (get_or ts i []))
text_at [] i h = absurd (omega (arith, h))
text_at (t ∷ ts) zero h = refl
text_at (t ∷ ts) (suc i) h = text_at ts i (omega (arith, h))

module _ (p : Checked) (w : HasBytes p) where
  abbrev S : List slot.Object
  S = map scalar_shown (values p.scalars)

  abbrev A : List slot.Object
  A = map (object_shown false) (map array_of p.arrays)

  abbrev T : List slot.Object
  T = map (object_shown true) (map (object element.Char) p.literals)

  count_scalars : length S ≡ length p.scalars
  count_scalars = length-map (values p.scalars) scalar_shown ∙ length-map p.scalars (λ x. x.value)

  count_arrays : length A ≡ length p.arrays
  count_arrays = length-map (map array_of p.arrays) (object_shown false) ∙ length-map p.arrays array_of

  count_texts : length T ≡ length p.literals
  count_texts = length-map (map (object element.Char) p.literals) (object_shown true) ∙ length-map p.literals (object element.Char)

  count_all : length (first_objects p) ≡ length p.scalars + (length p.arrays + length p.literals)
  count_all = omega (arith, length-append S (A ++ T), length-append A T, count_scalars, count_arrays, count_texts)

  -- An object's bytes by what it is.
  stands : (o : slot.Object) (x : slot.Object) (l : List ℕ) (at : ℕ) → o ≡ x → take (length x.bytes) (drop at l) ≡ x.bytes → take (length o.bytes) (drop at l) ≡ o.bytes
  stands o x l at e h = subst (λ (o : slot.Object). take (length o.bytes) (drop at l) ≡ o.bytes) (sym e) h

  abbrev globals : List ℕ
  globals = scalars_bytes (values p.scalars) ++ arrays_bytes (map array_of p.arrays)

  scalar_there : (i : ℕ) → i < length p.scalars → IsThere p (scalar_object (source_of p) i)
  scalar_there i h =
      let n = slice_index (values p.scalars) i in
      let small : i < length (values p.scalars) = omega (arith, h, length-map p.scalars (λ x. x.value)) in
      record {
        known = omega (arith, h, count_all);
        bytes = stands (object_of (first_objects p) i) (scalar_shown n) globals (4 * i) (scalar_at (values p.scalars) (A ++ T) i small)
            (ap (λ (k : ℕ). take k (drop (4 * i) globals)) (four n) ∙ scalar_bytes (values p.scalars) (arrays_bytes (map array_of p.arrays)) i small);
      }

  object_behind : (i : ℕ) → get_or (first_objects p) (length p.scalars + i) no_object ≡ get_or (A ++ T) i no_object
  object_behind i = ap (λ (n : ℕ). get_or (first_objects p) (n + i) no_object) (sym count_scalars) ∙ get_or-append-add S (A ++ T) i no_object

  array_there : (d : GlobalArray) (i : ℕ) → i < length p.arrays → IsThere p (array_object (source_of p) i)
  unfolding object_of
  array_there d i h =
      let a = get_or p.arrays i d in
      let before = 4 * length p.scalars in
      let at = frames.array_bytes (take i (map shape_of p.arrays)) in
      let k = length a.bytes in
      let all = arrays_bytes (map array_of p.arrays) in
      let same : take k (drop (before + at) globals) ≡ take k (drop at all) = after (scalars_bytes (values p.scalars)) all before at k (sym (scalars_length (values p.scalars) ∙ ap (λ (n : ℕ). 4 * n) (length-map p.scalars (λ x. x.value)))) in
      let here : take k (drop at all) ≡ a.bytes = ap (λ (l : List ℕ). take k (drop at l)) (sym (append-nil all)) ∙ array_bytes p.arrays [] i d w h in
      record {
        known = omega (arith, h, count_all);
        bytes = stands (get_or (first_objects p) (length p.scalars + i) no_object) (object_shown false (array_of a)) globals (before + at) (object_behind i ∙ array_at p.arrays T i d h) (same ∙ here);
      }

  text_there : (i : ℕ) → i < length p.literals → IsThere p (text_object (source_of p) i)
  unfolding object_of
  text_there i h =
      let shapes : length (map shape_of p.arrays) ≡ length p.arrays = length-map p.arrays shape_of in
      let behind : get_or (A ++ T) (length (map shape_of p.arrays) + i) no_object ≡ get_or T i no_object =
      ap (λ (n : ℕ). get_or (A ++ T) (n + i) no_object) (shapes ∙ sym count_arrays) ∙ get_or-append-add A T i no_object in
      record {
        known = omega (arith, h, count_all, shapes);
        bytes = stands (get_or (first_objects p) (length p.scalars + (length (map shape_of p.arrays) + i)) no_object) (object_shown true (object element.Char (get_or p.literals i []))) (texts_bytes (map (object element.Char) p.literals)) (sum (take i (map length p.literals)))
            (object_behind (length (map shape_of p.arrays) + i) ∙ behind ∙ text_at p.literals i h) (text_bytes p.literals i h);
      }

  are_there : AreThere p
  are_there = record {
    scalars = scalar_there;
    arrays = λ i h. array_there (record { shape = record { element = element.Char; count = 0 }; bytes = [] }) i h;
    texts = text_there;
    globals = length-append (scalars_bytes (values p.scalars)) (arrays_bytes (map array_of p.arrays)) ∙ sizes;
    literals = texts_length p.literals;
  }
    where
      sizes : length (scalars_bytes (values p.scalars)) + length (arrays_bytes (map array_of p.arrays)) ≡ 4 * length p.scalars + frames.array_bytes (map shape_of p.arrays)
      sizes = omega (arith, scalars_length (values p.scalars), length-map p.scalars (λ x. x.value), arrays_length p.arrays w)

pub objects_there : ObjectsAreThere
objects_there p w = are_there p w

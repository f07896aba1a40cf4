-- The records of a text: they are no others, and there are no more than bytes and one.
use Rattle.std.proofs.Common.{◌≡◌, ℕ, zero, suc, ◌+◌, ◌<◌, ◌≤◌, Bool, true, false, ◌⊎◌, inl, inr, if◌then◌else◌, List, [], ◌∷◌, ◌++◌, length, map, drop, Bor, append_assoc, Option, Some, None, refl, sym, ◌∙◌, ap, arith, add-one}
use Rattle.csv.specs.Machine.{Read, next_record, ends_at_end, is_end, step}
use Rattle.std.proofs.lemmas.List.{map-append, append-nil}
use Rattle.nx_base.specs.TextBytes.{is_line_blank, trimmed_of}
use Rattle.std.proofs.lemmas.Grind.{common_steps}
use Rattle.csv.specs.Reading.{AreRecords, Reached, strip_bom, is_bom}
use Rattle.csv.specs.Records.{field_at}
use Rattle.csv.specs.declared.parser.Config.{Config}
use Rattle.csv.specs.declared.parser.State.{State}
use Rattle.csv.specs.declared.parser.State.TheVariants as st

some_same : (p q : Read) → Some p ≡ Some q → p ≡ q
some_same p q e = cc

-- a record takes a byte, or it ends the text
abbrev Shorter : Read → List ℕ → Type 0
Shorter p xs = (length p.2 < length xs) ⊎ ((p.1 ≡ st.StartRecord) × (p.2 ≡ []))

chosen : (b : Bool) (r p : Read) (o : Option Read) → (if b then Some r else o) ≡ Some p → (p ≡ r) ⊎ (o ≡ Some p)
chosen true r p o e = inl (some_same p r (sym e))
chosen false r p o e = inr e

shorter_more : (p : Read) (c : ℕ) (rest : List ℕ) → Shorter p rest → Shorter p (c ∷ rest)
shorter_more p c rest (inl h) = inl (omega arith)
shorter_more p c rest (inr h) = inr h

record_shorter : (cfg : Config) (xs : List ℕ) (s : State) (fields : List (List ℕ)) (field : List ℕ) (p : Read) → next_record cfg s fields field xs ≡ Some p → Shorter p xs
unfolding next_record
record_shorter cfg [] s fields field p e =
    elim (chosen (ends_at_end s) _ p None e) [
      | inl h ↦ inr (ap (λ (q : Read). q.1) h, ap (λ (q : Read). q.2) h)
      | inr h ↦ cc
    ]
record_shorter cfg (c ∷ rest) s fields field p e =
    elim (chosen (is_end (step cfg s c).1) _ p _ e) [
      | inl h ↦ inl (omega (arith, ap length (ap (λ (q : Read). q.2) h)))
      | inr h ↦ shorter_more p c rest (record_shorter cfg rest _ _ _ p h)
    ]

none_left : (cfg : Config) (rows : List (List (List ℕ))) (s : State) (xs : List ℕ) (s2 : State) (ys : List ℕ) → s ≡ st.StartRecord → xs ≡ [] → Reached cfg s xs rows s2 ys → length rows ≡ 0
unfolding Reached next_record
none_left cfg [] s xs s2 ys e f h = refl
none_left cfg (r ∷ rows) s xs s2 ys e f h =
    let none : next_record cfg s [] [] xs ≡ None = rw (e, f) refl in
    let some : next_record cfg s [] [] xs ≡ Some h.0 = h.1 in
    cc

few_rows : (cfg : Config) (rows : List (List (List ℕ))) (s : State) (xs : List ℕ) (s2 : State) (ys : List ℕ) → Reached cfg s xs rows s2 ys → length rows ≤ length xs + 1
unfolding Reached
few_rows cfg [] s xs s2 ys h = omega arith
few_rows cfg (r ∷ rows) s xs s2 ys h =
    elim (record_shorter cfg xs s [] [] h.0 h.1) [
      | inl l ↦ omega (arith, l, few_rows cfg rows h.0.1 h.0.2 s2 ys h.3)
      | inr e ↦ omega (arith, none_left cfg rows h.0.1 h.0.2 s2 ys e.0 e.1 h.3)
    ]

stripped_short : (xs : List ℕ) → length (strip_bom xs) ≤ length xs
unfolding strip_bom
stripped_short [] = omega arith
stripped_short (a ∷ []) = omega arith
stripped_short (a ∷ b ∷ []) = omega arith
stripped_short (a ∷ b ∷ c ∷ rest) =
    elim (is_bom a b c) as (λ v. length (if v then rest else a ∷ b ∷ c ∷ rest) ≤ length (a ∷ b ∷ c ∷ rest)) [ true ↦ omega arith | false ↦ omega arith ]

-- there is at most one record more than bytes
pub few_records : (cfg : Config) (s : State) (xs : List ℕ) (rows : List (List (List ℕ))) → AreRecords cfg s (strip_bom xs) rows → length rows ≤ length xs + 1
few_records cfg s xs rows h = omega (arith, few_rows cfg rows s (strip_bom xs) h.0 h.1 h.2, stripped_short xs)

here : (fs : List (List ℕ)) (i : ℕ) (f : List ℕ) → field_at fs i ≡ Some f → drop i fs ≡ f ∷ drop (suc i) fs
unfolding field_at
here [] i f e = cc
here (g ∷ fs) zero f e =
    let same : g ≡ f = cc in
    ap (λ h. h ∷ fs) same
here (g ∷ fs) (suc i) f e = here fs i f e

-- a field that is there stands first among those from its place on
pub field_here : (fs : List (List ℕ)) (i : ℕ) (f : List ℕ) → field_at fs i ≡ Some f → drop i fs ≡ f ∷ drop (i + 1) fs
field_here fs i f e = rw (add-one) (here fs i f e)

-- where no field is there, none is left
pub field_past : (fs : List (List ℕ)) (i : ℕ) → field_at fs i ≡ None → drop i fs ≡ []
unfolding field_at
field_past [] i e = grind (arith, common_steps)
field_past (g ∷ fs) zero e = cc
field_past (g ∷ fs) (suc i) e = field_past fs i e

-- the next field is trimmed
pub cells_next : (cells new : List (Bor (List ℕ))) (t : Bor (List ℕ)) (fs : List (List ℕ)) (i : ℕ) (f : List ℕ) →
    new ≡ cells ++ t ∷ [] → t.now ≡ trimmed_of is_line_blank f → Some f ≡ field_at fs i → map (λ c. c.now) cells ++ map (trimmed_of is_line_blank) (drop i fs) ≡ map (trimmed_of is_line_blank) fs →
    map (λ c. c.now) new ++ map (trimmed_of is_line_blank) (drop (i + 1) fs) ≡ map (trimmed_of is_line_blank) fs
cells_next cells new t fs i f e same at h =
    let rest = map (trimmed_of is_line_blank) (drop (i + 1) fs) in
    let front = map (λ c. c.now) cells in
    ap (λ v. map (λ c. c.now) v ++ rest) e
    ∙ ap (λ v. v ++ rest) (map-append (λ c. c.now) cells (t ∷ []))
    ∙ append_assoc front (t.now ∷ []) rest
    ∙ ap (λ g. front ++ (g ∷ rest)) same
    ∙ ap (λ d. front ++ map (trimmed_of is_line_blank) d) (sym (field_here fs i f (sym at)))
    ∙ h

-- all fields are trimmed
pub cells_end : (cells : List (Bor (List ℕ))) (fs : List (List ℕ)) (i : ℕ) → None ≡ field_at fs i → map (λ c. c.now) cells ++ map (trimmed_of is_line_blank) (drop i fs) ≡ map (trimmed_of is_line_blank) fs →
    map (λ c. c.now) cells ≡ map (trimmed_of is_line_blank) fs
cells_end cells fs i at h =
    sym (append-nil (map (λ c. c.now) cells)) ∙ ap (λ d. map (λ c. c.now) cells ++ map (trimmed_of is_line_blank) d) (sym (field_past fs i (sym at))) ∙ h

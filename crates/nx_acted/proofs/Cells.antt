-- Cells of slot code after a write.
use Rattle.std.proofs.Common.{◌≡◌, ◌≢◌, ℕ, ◌<◌, ◌≤◌, ◌⊎◌, inl, inr, true, false, List, [], ◌∷◌, ◌++◌, length, Some, sym, ap, ◌∙◌, subst, arith, ⊎_elim, length-append}
use Rattle.std.specs.Prelude.{slice_get, slice_set, get_or, nat_lt, if◌then◌else◌}
use Rattle.std.proofs.lemmas.Bool.{cases_eq, cases_lt}
use Rattle.std.proofs.lemmas.Bool.Decides.{nat_tests}
use Rattle.std.proofs.lemmas.Option.{slice_get_within, slice_get-get_or, get_or_from_slice_get}
use Rattle.std.proofs.lemmas.List.{length-set, get_or-set_same, get_or-set_other, get_or_append_left, get_or_at}
use Rattle.nx_slot.specs.declared.program.SlotFunction.{SlotFunction}
use Rattle.nx_slot.specs.Objects.{Value, Int}
use Rattle.nx_slot.specs.Meaning.{put, may_write}
use Rattle.nx_codegen.specs.Cells.{IsCell}
use Rattle.nx_pieces.proofs.Cells.{by_test}

pub put_get : (cells : List Value) (i : ℕ) (x : Value) (j : ℕ) (y : Value) → i ≤ length cells → slice_get (put cells i x) j ≡ Some y → ((j ≡ i) × (y ≡ x)) ⊎ ((j ≢ i) × (slice_get cells j ≡ Some y))
unfolding put
put_get cells i x j y h e = ⊎_elim
    (λ l. let q : nat_lt i (length cells) ≡ true = grind (arith, nat_tests) in here l (subst (λ c. slice_get (if c then slice_set cells i x else cells ++ x ∷ []) j ≡ Some y) q e))
    (λ l. let q : nat_lt i (length cells) ≡ false = grind (arith, nat_tests) in behind (omega (arith, h, l)) (subst (λ c. slice_get (if c then slice_set cells i x else cells ++ x ∷ []) j ≡ Some y) q e))
    (cases_lt i (length cells))
  where
    here : i < length cells → slice_get (slice_set cells i x) j ≡ Some y → ((j ≡ i) × (y ≡ x)) ⊎ ((j ≢ i) × (slice_get cells j ≡ Some y))
    here l e =
        let z = length-set cells i x in
        let w = slice_get_within (slice_set cells i x) j y e in
        let g = get_or_from_slice_get (slice_set cells i x) j y (Int 0) e in
        ⊎_elim
        (λ q. inl (q, sym g ∙ ap (λ k. get_or (slice_set cells i x) k (Int 0)) q ∙ get_or-set_same cells i x (Int 0) l))
        (λ q. inr (q, slice_get-get_or cells j (Int 0) (omega (arith, z, w)) ∙ ap Some (sym (get_or-set_other cells i j x (Int 0) q) ∙ g)))
        (cases_eq j i)

    behind : i ≡ length cells → slice_get (cells ++ x ∷ []) j ≡ Some y → ((j ≡ i) × (y ≡ x)) ⊎ ((j ≢ i) × (slice_get cells j ≡ Some y))
    behind l e =
        let z = length-append cells (x ∷ []) in
        let w = slice_get_within (cells ++ x ∷ []) j y e in
        let g = get_or_from_slice_get (cells ++ x ∷ []) j y (Int 0) e in
        ⊎_elim
        (λ q. inl (q, sym g ∙ get_or_at cells x [] (Int 0) j (sym l ∙ sym q)))
        (λ q. let k : j < length cells = ⊎_elim (λ m. m) (λ m. absurd (q (omega (arith, z, w, l, m)))) (cases_lt j (length cells)) in
        inr (q, slice_get-get_or cells j (Int 0) k ∙ ap Some (sym (get_or_append_left cells (x ∷ []) (Int 0) j k) ∙ g)))
        (cases_eq j i)

pub put_length : (cells : List Value) (i : ℕ) (x : Value) (n : ℕ) → length cells ≤ n → i < n → length (put cells i x) ≤ n
unfolding put
put_length cells i x n h l = by_test (nat_lt i (length cells))
    (λ q. rw q (let z = length-set cells i x in omega (arith, z, h)))
    (λ q. rw q (let z = length-append cells (x ∷ []) in let m : length cells ≤ i = grind (arith, nat_tests) in omega (arith, z, m, l)))

-- A cell may be written.
pub record Writes (g : SlotFunction) (cells : List Value) (i : ℕ) : Type 0 where
  pub next : i ≤ length cells
  pub room : IsCell g i

pub writes_is : (g : SlotFunction) (cells : List Value) (i : ℕ) → may_write g cells i ≡ true → Writes g cells i
unfolding may_write
writes_is g cells i h = record { next = grind (arith, nat_tests); room = grind (arith, nat_tests) }

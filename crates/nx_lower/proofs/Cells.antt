-- Cells that hold a call's variables and, after them, the values of the expression that is evaluated.
use Rattle.std.proofs.Common.{◌≡◌, ◌≢◌, ◌⊎◌, inl, inr, ℕ, zero, suc, ◌+◌, ◌<◌, ◌≤◌, List, [], ◌∷◌, ◌++◌, length, Some, refl, sym, ap, ◌∙◌, subst, arith, ⊎_elim, length-append}
use Rattle.std.specs.Prelude.{slice_get, slice_set}
use Rattle.std.proofs.lemmas.List.{length-set, get_or-set_same, get_or-set_other}
use Rattle.std.proofs.lemmas.Bool.{cases_lt, cases_eq}
use Rattle.std.proofs.lemmas.Bool.Decides.{nat_tests}
use Rattle.nx_cobjects.specs.declared.value.Value.{Value}
use Rattle.nx_cobjects.specs.declared.value.Value.TheVariants as value
use Rattle.nx_cobjects.specs.Memory.{value_in}
use Rattle.nx_slot.specs.declared.op.Operand.{Operand}
use Rattle.nx_slot.specs.declared.op.Operand.TheVariants as operand
use Rattle.nx_slot.specs.Objects as slot
use Rattle.nx_slot.specs.Meaning.{put, operand as read}
use Rattle.nx_lower.specs.Shown.{Counts, shown}

-- A list with an element changed or one more.
set_there : {X : Type 0} (xs : List X) (i : ℕ) (x : X) → i < length xs → slice_get (slice_set xs i x) i ≡ Some x
set_there [] i x h = absurd (omega arith)
set_there (y ∷ xs) zero x h = refl
set_there (y ∷ xs) (suc i) x h = set_there xs i x (omega arith)

set_elsewhere : {X : Type 0} (xs : List X) (i j : ℕ) (x : X) → j ≢ i → slice_get (slice_set xs i x) j ≡ slice_get xs j
set_elsewhere [] i j x h = refl
set_elsewhere (y ∷ xs) zero zero x h = absurd (h refl)
set_elsewhere (y ∷ xs) zero (suc j) x h = refl
set_elsewhere (y ∷ xs) (suc i) zero x h = refl
set_elsewhere (y ∷ xs) (suc i) (suc j) x h = set_elsewhere xs i j x (λ e. h (ap suc e))

end_there : {X : Type 0} (xs : List X) (i : ℕ) (x : X) → i ≡ length xs → slice_get (xs ++ x ∷ []) i ≡ Some x
end_there [] zero x e = refl
end_there [] (suc i) x e = absurd (omega (arith, e))
end_there (y ∷ xs) zero x e = absurd (omega (arith, e))
end_there (y ∷ xs) (suc i) x e = end_there xs i x (omega (arith, e))

end_before : {X : Type 0} (xs : List X) (j : ℕ) (x : X) → j < length xs → slice_get (xs ++ x ∷ []) j ≡ slice_get xs j
end_before [] j x h = absurd (omega arith)
end_before (y ∷ xs) zero x h = refl
end_before (y ∷ xs) (suc j) x h = end_before xs j x (omega arith)

pub get_below : {X : Type 0} (xs : List X) (j : ℕ) (x : X) → slice_get xs j ≡ Some x → j < length xs
get_below [] j x e = absurd cc
get_below (y ∷ xs) zero x e = omega arith
get_below (y ∷ xs) (suc j) x e = let q = get_below xs j x e in omega (arith, q)

put_inside : (cells : List slot.Value) (i : ℕ) (x : slot.Value) → i < length cells → put cells i x ≡ slice_set cells i x
unfolding put
put_inside cells i x h = grind (arith, nat_tests)

put_behind : (cells : List slot.Value) (i : ℕ) (x : slot.Value) → length cells ≤ i → put cells i x ≡ cells ++ x ∷ []
unfolding put
put_behind cells i x h = grind (arith, nat_tests)

put_cases : (cells : List slot.Value) (i : ℕ) (x : slot.Value) (P : List slot.Value → Type 0) → (i < length cells → P (slice_set cells i x)) → (length cells ≤ i → P (cells ++ x ∷ [])) → P (put cells i x)
put_cases cells i x P inside behind = go (cases_lt i (length cells))
  where
    go : (i < length cells) ⊎ (length cells ≤ i) → P (put cells i x)
    go (inl a) = subst P (sym (put_inside cells i x a)) (inside a)
    go (inr b) = subst P (sym (put_behind cells i x b)) (behind b)

pub put_there : (cells : List slot.Value) (i : ℕ) (x : slot.Value) → i ≤ length cells → slice_get (put cells i x) i ≡ Some x
put_there cells i x h = put_cases cells i x (λ l. slice_get l i ≡ Some x) (λ a. set_there cells i x a) (λ b. end_there cells i x (omega (arith, h, b)))

pub put_elsewhere : (cells : List slot.Value) (i j : ℕ) (x y : slot.Value) → j ≢ i → slice_get cells j ≡ Some y → slice_get (put cells i x) j ≡ Some y
put_elsewhere cells i j x y o h =
    put_cases cells i x (λ l. slice_get l j ≡ Some y)
    (λ a. set_elsewhere cells i j x o ∙ h)
    (λ b. end_before cells j x (get_below cells j y h) ∙ h)

pub put_length : (cells : List slot.Value) (i : ℕ) (x : slot.Value) → i ≤ length cells → (length cells ≤ length (put cells i x)) × (i < length (put cells i x))
put_length cells i x h =
    put_cases cells i x (λ l. (length cells ≤ length l) × (i < length l))
    (λ a. (omega (arith, length-set cells i x), omega (arith, a, length-set cells i x)))
    (λ b. (omega (arith, length-append cells (x ∷ [])), omega (arith, h, length-append cells (x ∷ []))))

-- The values, the last first, after n cells.
abbrev pub Temps : Counts → ℕ → List Value → List slot.Value → Type 0
Temps c n [] cells = Unit {0}
Temps c n (v ∷ vs) cells = (slice_get cells (n + length vs) ≡ Some (shown c v)) × Temps c n vs cells

pub record AreAlike (c : Counts) (locals vs : List Value) (cells : List slot.Value) : Type 0 where
  pub local : (i : ℕ) → i < length locals → slice_get cells i ≡ Some (shown c (value_in locals i))
  pub temps : Temps c (length locals) vs cells
  pub room : length locals + length vs ≤ length cells

-- The last value is in its cell, or is a number that no cell has.
pub data Top : Type 0 where
  Plain : Top
  Fixed : (n : ℕ) → Top

abbrev pub Tops : Counts → Top → List Value → List Value → List slot.Value → Type 0
Tops c Plain locals vs cells = AreAlike c locals vs cells
Tops c (Fixed n) locals [] cells = ⊥
Tops c (Fixed n) locals (v ∷ vs) cells = (v ≡ value.Int n) × AreAlike c locals vs cells

-- The operand that the last value is.
abbrev pub right : Top → ℕ → Operand
right Plain i = operand.Cell i
right (Fixed n) i = operand.Number n

pub right_read : (c : Counts) (top : Top) (locals vs : List Value) (v : Value) (cells : List slot.Value) → Tops c top locals (v ∷ vs) cells → read cells (right top (length locals + length vs)) ≡ Some (shown c v)
right_read c Plain locals vs v cells a = a.temps.0
right_read c (Fixed n) locals vs v cells a = ap (λ x. Some (shown c x)) (sym a.0)

away : (n i d : ℕ) → (i < n) ⊎ (n + suc d ≤ i) → ((i < n) ⊎ (n + d ≤ i)) × (n + d ≢ i)
away n i d (inl a) = (inl a, omega (arith, a))
away n i d (inr b) = (inr (omega (arith, b)), omega (arith, b))

temps_put : (c : Counts) (n i : ℕ) (x : slot.Value) (vs : List Value) (cells : List slot.Value) → (i < n) ⊎ (n + length vs ≤ i) → Temps c n vs cells → Temps c n vs (put cells i x)
temps_put c n i x [] cells o t = tt
temps_put c n i x (v ∷ vs) cells o t =
    let q = away n i (length vs) o in
    (put_elsewhere cells i (n + length vs) x (shown c v) q.1 t.0, temps_put c n i x vs cells q.0 t.1)

pub alike_push : (c : Counts) (locals vs : List Value) (cells : List slot.Value) (v : Value) → AreAlike c locals vs cells → AreAlike c locals (v ∷ vs) (put cells (length locals + length vs) (shown c v))
alike_push c locals vs cells v a =
    let i = length locals + length vs in
    let room = a.room in
    let l = put_length cells i (shown c v) room in
    record {
      local = λ j h. put_elsewhere cells i j (shown c v) (shown c (value_in locals j)) (omega (arith, h)) (a.local j h);
      temps = (put_there cells i (shown c v) room, temps_put c (length locals) i (shown c v) vs cells (inr (omega arith)) a.temps);
      room = omega (arith, l.1);
    }

pub alike_pop : (c : Counts) (locals vs : List Value) (cells : List slot.Value) (v : Value) → AreAlike c locals (v ∷ vs) cells → AreAlike c locals vs cells
alike_pop c locals vs cells v a = let r = a.room in record { local = a.local; temps = a.temps.1; room = omega (arith, r) }

-- A cell after all values may be written, whatever comes there.
pub alike_past : (c : Counts) (locals vs : List Value) (cells : List slot.Value) (i : ℕ) (x : slot.Value) → length locals + length vs ≤ i → i ≤ length cells → AreAlike c locals vs cells → AreAlike c locals vs (put cells i x)
alike_past c locals vs cells i x h k a =
    let room = a.room in
    let l = put_length cells i x k in
    record {
      local = λ j q. put_elsewhere cells i j x (shown c (value_in locals j)) (omega (arith, h, q)) (a.local j q);
      temps = temps_put c (length locals) i x vs cells (inr h) a.temps;
      room = omega (arith, l.0, room);
    }

-- A value is changed in its cell.
pub alike_top : (c : Counts) (locals vs : List Value) (cells : List slot.Value) (u v : Value) → AreAlike c locals (u ∷ vs) cells → AreAlike c locals (v ∷ vs) (put cells (length locals + length vs) (shown c v))
alike_top c locals vs cells u v a = alike_push c locals vs cells v (alike_pop c locals vs cells u a)

-- A variable of the call gets a value.
pub alike_write : (c : Counts) (locals vs : List Value) (cells : List slot.Value) (x : ℕ) (v : Value) → x < length locals → AreAlike c locals vs cells → AreAlike c (slice_set locals x v) vs (put cells x (shown c v))
alike_write c locals vs cells x v h a =
    let room = a.room in
    let n : length (slice_set locals x v) ≡ length locals = length-set locals x v in
    let l = put_length cells x (shown c v) (omega (arith, h, room)) in
    record {
      local = λ j q. ⊎_elim
          (λ (e : j ≡ x). subst (λ k. slice_get (put cells x (shown c v)) k ≡ Some (shown c (value_in (slice_set locals x v) k))) (sym e) (put_there cells x (shown c v) (omega (arith, h, room)) ∙ ap (λ z. Some (shown c z)) (sym (get_or-set_same locals x v (value.Int 0) h))))
          (λ (o : j ≢ x). put_elsewhere cells x j (shown c v) (shown c (value_in (slice_set locals x v) j)) o (a.local j (omega (arith, q, n)) ∙ ap (λ z. Some (shown c z)) (sym (get_or-set_other locals x j v (value.Int 0) o))))
          (cases_eq j x);
      temps = subst (λ m. Temps c m vs (put cells x (shown c v))) (sym n) (temps_put c (length locals) x (shown c v) vs cells (inl h) a.temps);
      room = omega (arith, n, l.0, room);
    }

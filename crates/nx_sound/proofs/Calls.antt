-- The calls that a file names are rows of its table.
use Rattle.std.proofs.Common.{◌≡◌, ℕ, zero, suc, ◌+◌, ◌-◌, ◌≤◌, ◌⊎◌, inl, inr, Bool, true, false, List, [], ◌∷◌, ◌++◌, length, Option, None, Some, refl, sym, ap, ◌∙◌, subst, arith}
use Rattle.std.proofs.lemmas.Bool.Decides.{nat_tests}
use Rattle.std.proofs.lemmas.Option.{slice_get_within, get_or_from_slice_get}
use Rattle.std.specs.Prelude.{◌==◌, ◌||◌, ◌&&◌, nat_lt, All, slice_get, if◌then◌else◌}
use lib.Pointwise.{pointwise_long}
use denote.Enum.Bare.{sameb, same_true}
use Rattle.nx_base.specs.contracts.calls.Kind.{the_type}
use Rattle.nx_base.specs.declared.calls.Kind.{Kind}
use Rattle.nx_base.specs.declared.calls.Kind.TheVariants.{Word, In, Text, Out, Len, Out4, Out8}
use Rattle.nx_base.specs.declared.calls.KCall.{KCall}
use Rattle.nx_base.specs.declared.calls.KCall.TheVariants as call
use Rattle.nx_base.specs.KernelCalls.{kinds_of}
use Rattle.nx_calls.specs.declared.row.CallRow.{CallRow}
use Rattle.nx_calls.specs.Rows.{same_kinds, fits, HasKinds, IsRow}
use Rattle.nx_calls.specs.Table.{AreRows}
use Rattle.nx_checked.specs.declared.checked.UsedCall.{UsedCall}
use Rattle.nx_crules.specs.Rules.{starts_thread}
use Rattle.nx_ccheck.specs.Files.{call_of, call_at, calls_of}
use Rattle.nx_lower.specs.Laws.{row_of}
use Rattle.nx_lower.specs.Sound.{outputs_in, SoundCall}
use Rattle.nx_sound.specs.Tables.{row_or, ending_row, no_row, table_rows, HasFewParameters}
use Rattle.nx_sound.proofs.Entries.{some_same}
use Rattle.nx_sound.proofs.Growth.{AreThere}

module _ (rows : List CallRow) where
  -- The call of a place that is used stands at that place among the calls.
  pub call_there : (is : List ℕ) → AreThere rows is → (k i : ℕ) (row : CallRow) → slice_get is k ≡ Some i → slice_get rows i ≡ Some row → slice_get (calls_of rows is) k ≡ Some (call_of row)
  call_there [] there k i row h g = absurd cc
  call_there (j ∷ is) there zero i row h g =
      let same : slice_get rows j ≡ Some row = ap (λ (n : ℕ). slice_get rows n) (some_same j i h) ∙ g in
      ap (λ o. slice_get (call_at o ++ calls_of rows is) 0) same
  call_there (j ∷ is) there (suc k) i row h g =
      let first = there 0 j refl in
      ap (λ o. slice_get (call_at o ++ calls_of rows is) (suc k)) first.1 ∙ call_there is (λ k i h. there (suc k) i h) k i row h g

  -- Each of the calls is that of a row.
  pub record IsUsed (c : UsedCall) : Type 0 where
    pub place : ℕ
    pub row : CallRow
    pub there : slice_get rows place ≡ Some row
    pub is : c ≡ call_of row

  used_at : (j : ℕ) (o : Option CallRow) (k : ℕ) (c : UsedCall) (others : List UsedCall) → slice_get rows j ≡ o → slice_get (call_at o ++ others) k ≡ Some c → ((k : ℕ) → slice_get others k ≡ Some c → IsUsed c) → IsUsed c
  used_at j None k c others e h go = go k h
  used_at j (Some row) zero c others e h go = record { place = j; row = row; there = e; is = sym (some_same (call_of row) c h) }
  used_at j (Some row) (suc k) c others e h go = go k h

  pub used : (is : List ℕ) (k : ℕ) (c : UsedCall) → slice_get (calls_of rows is) k ≡ Some c → IsUsed c
  used [] k c h = absurd cc
  used (j ∷ is) k c h = used_at j (slice_get rows j) k c (calls_of rows is) refl h (λ k g. used is k c g)

-- The kinds of a row that the kernel has are those of its call.
kinds_fit : (c : KCall) (kinds : List Kind) → fits c kinds ≡ true → (same_kinds kinds (kinds_of c) ≡ true) ⊎ (same_kinds kinds (Text ∷ Word ∷ []) ≡ true)
unfolding fits
kinds_fit call.Open kinds h = either (same_kinds kinds (kinds_of call.Open)) (same_kinds kinds (Text ∷ Word ∷ [])) h
  where
    either : (a b : Bool) → (a || b) ≡ true → (a ≡ true) ⊎ (b ≡ true)
    either true b h = inl refl
    either false b h = inr h
kinds_fit _ kinds h = inl h

outputs_cons : (k : Kind) (kinds : List Kind) → outputs_in (k ∷ kinds) ≡ outputs_in (k ∷ []) + outputs_in kinds
outputs_cons Word kinds = omega arith
outputs_cons In kinds = omega arith
outputs_cons Text kinds = omega arith
outputs_cons Out kinds = omega arith
outputs_cons Len kinds = omega arith
outputs_cons Out4 kinds = omega arith
outputs_cons Out8 kinds = omega arith

both_true : (a b : Bool) → (a && b) ≡ true → (a ≡ true) × (b ≡ true)
both_true true b e = (refl, e)
both_true false b e = absurd cc

outputs_same : (xs ys : List Kind) → same_kinds xs ys ≡ true → outputs_in xs ≡ outputs_in ys
outputs_same [] [] e = refl
outputs_same [] (y ∷ ys) e = absurd cc
outputs_same (x ∷ xs) [] e = absurd cc
outputs_same (x ∷ xs) (y ∷ ys) e =
    let p = both_true _ _ e in
    outputs_cons x xs ∙ ap (λ k. outputs_in (k ∷ []) + outputs_in xs) (same_true the_type tt x y p.0) ∙ ap (λ n. outputs_in (y ∷ []) + n) (outputs_same xs ys p.1) ∙ sym (outputs_cons y ys)

call_outputs : (c : KCall) → outputs_in (kinds_of c) ≤ 2
call_outputs c = grind arith

fit_outputs : (c : KCall) (kinds : List Kind) → fits c kinds ≡ true → outputs_in kinds ≤ 2
fit_outputs c kinds h = by (kinds_fit c kinds h)
  where
    by : (same_kinds kinds (kinds_of c) ≡ true) ⊎ (same_kinds kinds (Text ∷ Word ∷ []) ≡ true) → outputs_in kinds ≤ 2
    by (inl e) = let same = outputs_same kinds (kinds_of c) e in let few = call_outputs c in omega (arith, same, few)
    by (inr e) = let same = outputs_same kinds (Text ∷ Word ∷ []) e in omega (arith, same)

word_outputs : (kinds : List Kind) → All (λ kind. kind ≡ Word) kinds → outputs_in kinds ≤ 2
word_outputs kinds h = let none = all_words kinds h in omega (arith, none)
  where
    all_words : (kinds : List Kind) → All (λ kind. kind ≡ Word) kinds → outputs_in kinds ≡ 0
    all_words [] h = refl
    all_words (x ∷ kinds) h = ap (λ k. outputs_in (k ∷ kinds)) (h 0 Word (omega arith)) ∙ all_words kinds (λ k d e. h (suc k) d (omega (arith, e)))

few_outputs : (c : Option KCall) (kinds : List Kind) → HasKinds c kinds → outputs_in kinds ≤ 2
few_outputs None kinds h = word_outputs kinds h
few_outputs (Some c) kinds h = fit_outputs c kinds h

two_kinds : (c : Option KCall) (kinds : List Kind) → HasKinds c kinds → starts_thread c ≡ true → length kinds ≡ 2
unfolding fits
two_kinds None kinds h e = absurd cc
two_kinds (Some call.NxThread) kinds h e = pointwise_long (sameb the_type) kinds (Word ∷ Word ∷ []) h
two_kinds (Some _) kinds h e = absurd cc

module _ (rows : List CallRow) (w : AreRows rows) where
  is_row : (i : ℕ) (row : CallRow) → slice_get rows i ≡ Some row → IsRow row
  is_row i row h = subst (λ r. IsRow r) (get_or_from_slice_get rows i row row h) (w.fit i row (slice_get_within rows i row h))

  pub entry_kinds : (i : ℕ) (row : CallRow) → slice_get rows i ≡ Some row → starts_thread row.kernel ≡ true → length row.kinds.items ≡ 2
  entry_kinds i row h e = two_kinds row.kernel row.kinds.items (is_row i row h).kinds e

  number_is : (i : ℕ) (row : CallRow) → slice_get rows i ≡ Some row → row.number ≡ 16 + i
  number_is i row h = ap (λ (r : CallRow). r.number) (sym (get_or_from_slice_get rows i row row h)) ∙ w.numbers i row (slice_get_within rows i row h)

  row_at_number : (i : ℕ) (row : CallRow) → slice_get rows i ≡ Some row → table_rows rows row.number ≡ row_of (call_of row)
  unfolding table_rows
  row_at_number i row h =
      let n = number_is i row h in
      let large : nat_lt row.number 16 ≡ false = grind (arith, nat_tests) in
      let back : row.number - 16 ≡ i = omega (arith, n) in
      ap (λ b. if b then (if (row.number == 1) || (row.number == 2) then ending_row else no_row) else row_or (slice_get rows (row.number - 16))) large
      ∙ ap (λ (k : ℕ). row_or (slice_get rows k)) back
      ∙ ap (λ o. row_or o) h

  pub sound_call : HasFewParameters rows → (c : UsedCall) → IsUsed rows c → SoundCall (table_rows rows) c
  sound_call few c u =
      let n = number_is u.place u.row u.there in
      let at = slice_get_within rows u.place u.row u.there in
      let six : length u.row.kinds.items ≤ 6 = subst (λ (r : CallRow). length r.kinds.items ≤ 6) (get_or_from_slice_get rows u.place u.row u.row u.there) (few u.place u.row at) in
      subst (λ c. SoundCall (table_rows rows) c) (sym u.is) (record {
        row = row_at_number u.place u.row u.there;
        number = λ e. absurd (omega (arith, n, e));
        few = six;
        outputs = few_outputs u.row.kernel u.row.kinds.items (is_row u.place u.row u.there).kinds;
      })

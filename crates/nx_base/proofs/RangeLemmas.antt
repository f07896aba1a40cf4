-- What two views show alike, and what a store leaves of a view.
use Rattle.std.proofs.Common.{◌≡◌, ℕ, ◌+◌, ◌-◌, ◌≤◌, ◌⊎◌, inl, inr, ⊎_elim, Bool, true, false, List, [], ◌∷◌, length, Option, Some, None, Ok, refl, sym, ◌∙◌, subst, arith}
use Rattle.std.specs.Prelude.{if◌then◌else◌}
use Rattle.std.proofs.lemmas.Bool.Decides.{nat_tests}
use Rattle.nx_base.specs.ByteLists.{put_bytes, to_le}
use Rattle.nx_base.specs.Views.{Window, View, holds, put_in, and_before, view_or, store_bytes}
use Rattle.nx_base.proofs.Puts.{length-put_bytes, get-put_bytes_other, length-to_le}
use Rattle.nx_base.proofs.Stores.{fetch-store_other}
use Rattle.nx_base.specs.Ranges.{Range, AreDisjoint, Here, IsOff, Lies, OnlyIn, SameIn}

pub same_refl : (r : Range) (v : View) → SameIn r v v
same_refl r v = record { shows = λ written b h. h; runs = λ at x y. refl }

pub same_trans : (r : Range) (u v w : View) → SameIn r u v → SameIn r v w → SameIn r u w
same_trans r u v w a b = record {
  shows = λ written c h. b.shows written c (a.shows written c h);
  runs = λ at x y. b.runs at x y ∙ a.runs at x y;
}

pub same_eq : (r : Range) (v w : View) → w ≡ v → SameIn r v w
same_eq r v w e = subst (λ u. SameIn r v u) (sym e) (same_refl r v)

pub apart_sym : (r s : Range) → AreDisjoint r s → AreDisjoint s r
apart_sym r s h = ⊎_elim (λ a. inr a) (λ b. inl b) h

pub only_refl : (rs : List Range) (v : View) → OnlyIn rs v v
only_refl rs v = record { others = λ r apart. same_refl r v }

pub only_trans : (rs : List Range) (u v w : View) → OnlyIn rs u v → OnlyIn rs v w → OnlyIn rs u w
only_trans rs u v w a b = record { others = λ r apart. same_trans r u v w (a.others r apart) (b.others r apart) }

-- a range lies in another
pub record IsInside (r s : Range) : Type 0 where
  pub low : s.low ≤ r.low
  pub high : r.top ≤ s.top

pub only_first : (r s t : Range) (v w : View) → IsInside r s → OnlyIn (r ∷ []) v w → OnlyIn (s ∷ t ∷ []) v w
only_first r s t v w i o = let a = i.low in let b = i.high in record { others = λ q apart. o.others q (⊎_elim (λ h. inl (omega (arith, a, b, h))) (λ h. inr (omega (arith, a, b, h))) apart.0, tt) }

pub only_second : (r s t : Range) (v w : View) → IsInside r t → OnlyIn (r ∷ []) v w → OnlyIn (s ∷ t ∷ []) v w
only_second r s t v w i o = let a = i.low in let b = i.high in record { others = λ q apart. o.others q (⊎_elim (λ h. inl (omega (arith, a, b, h))) (λ h. inr (omega (arith, a, b, h))) apart.1.0, tt) }

-- the bytes from an address on and a range share none
abbrev pub IsClear : ℕ → ℕ → Range → Type 0
IsClear a n q = (q.top ≤ a) ⊎ (a + n ≤ q.low)

abbrev pub stored : Window → ℕ → List ℕ → Window
stored w a xs = record w { bytes = put_bytes w.bytes (a - w.start) xs }

pub here_stays : (w : Window) (written : Bool) (q : Range) (b : ℕ → ℕ) (a : ℕ) (xs : List ℕ) → w.start ≤ a → a + length xs ≤ w.start + length w.bytes → IsClear a (length xs) q → Here w written q.low q.top b → Here (stored w a xs) written q.low q.top b
here_stays w written q b a xs le fit clear h =
    let inside : a - w.start + length xs ≤ length w.bytes = omega arith in
    let long = length-put_bytes w.bytes (a - w.start) xs inside in let top = h.to in let from = h.from in
    record {
      from = h.from;
      to = omega (arith, long, top);
      reads = h.reads;
      writes = h.writes;
      own = h.own;
      bytes = λ c x y. get-put_bytes_other w.bytes (a - w.start) xs (c - w.start) inside (⊎_elim (λ e. inl (omega (arith, e, x, y, le, from))) (λ e. inr (omega (arith, e, x, y, le, from))) clear) ∙ h.bytes c x y;
    }

pub off_stays : (w : Window) (q : Range) (a : ℕ) (xs : List ℕ) → w.start ≤ a → a + length xs ≤ w.start + length w.bytes → IsOff w q.low q.top → IsOff (stored w a xs) q.low q.top
off_stays w q a xs le fit h = let long = length-put_bytes w.bytes (a - w.start) xs (omega arith) in ⊎_elim (λ e. inl (omega (arith, long, e))) (λ e. inr e) h

lies_stays : (ws new : List Window) (written : Bool) (q : Range) (b : ℕ → ℕ) (a : ℕ) (xs : List ℕ) → IsClear a (length xs) q → put_in ws a xs ≡ Some new → Lies ws written q.low q.top b → Lies new written q.low q.top b
unfolding put_in holds
lies_stays [] new written q b a xs clear e l = absurd l
lies_stays (w ∷ ws) new written q b a xs clear e l = by_held (holds w a (length xs)) refl e (λ rest p m. lies_stays ws rest written q b a xs clear p m)
  where
    low : holds w a (length xs) ≡ true → w.start ≤ a
    low h = grind (arith, nat_tests)

    high : holds w a (length xs) ≡ true → a + length xs ≤ w.start + length w.bytes
    high h = grind (arith, nat_tests)

    by_rest : (o : Option (List Window)) → put_in ws a xs ≡ o → and_before w o ≡ Some new → ((rest : List Window) → put_in ws a xs ≡ Some rest → Lies ws written q.low q.top b → Lies rest written q.low q.top b) → Lies new written q.low q.top b
    by_rest None p f more = absurd cc
    by_rest (Some rest) p f more =
        let z : w ∷ rest ≡ new = cc in
        subst (λ (us : List Window). Lies us written q.low q.top b) z (⊎_elim (λ h. inl h) (λ h. inr (h.0, more rest p h.1)) l)

    by_writes : (c : Bool) → holds w a (length xs) ≡ true → (if c then Some (stored w a xs ∷ ws) else None) ≡ Some new → Lies new written q.low q.top b
    by_writes true h f =
        let z : stored w a xs ∷ ws ≡ new = cc in
        subst (λ (us : List Window). Lies us written q.low q.top b) z (⊎_elim (λ m. inl (here_stays w written q b a xs (low h) (high h) clear m)) (λ m. inr (off_stays w q a xs (low h) (high h) m.0, m.1)) l)
    by_writes false h f = absurd cc

    by_held : (c : Bool) → holds w a (length xs) ≡ c → (if c then (if w.writes then Some (stored w a xs ∷ ws) else None) else and_before w (put_in ws a xs)) ≡ Some new → ((rest : List Window) → put_in ws a xs ≡ Some rest → Lies ws written q.low q.top b → Lies rest written q.low q.top b) → Lies new written q.low q.top b
    by_held true h f more = by_writes w.writes h f
    by_held false h f more = by_rest (put_in ws a xs) refl f more

-- what a store of n bytes changes
pub store_only : (v new : View) (a n x : ℕ) → store_bytes v a n x ≡ Ok new → OnlyIn (record { low = a; top = a + n } ∷ []) v new
unfolding store_bytes
store_only v new a n x e = record {
  others = λ r apart. record {
    shows = λ written b h. ⊎_elim (λ none. inl none) (λ l. inr (by_put (put_in v.windows a (to_le n x)) refl e written r b (clear r apart.0) l)) h;
    runs = λ at low high. fetch-store_other v new a n x at (⊎_elim (λ h. inl (omega (arith, h, low, high))) (λ h. inr (omega (arith, h, low, high))) apart.0) e;
  };
}
  where
    clear : (r : Range) → AreDisjoint r (record { low = a; top = a + n }) → IsClear a (length (to_le n x)) r
    clear r h = let long = length-to_le n x in ⊎_elim (λ p. inl p) (λ p. inr (omega (arith, p, long))) h

    by_put : (o : Option (List Window)) → put_in v.windows a (to_le n x) ≡ o → view_or v o (if v.is_paged then 15 else 7) ≡ Ok new → (written : Bool) (r : Range) (b : ℕ → ℕ) → IsClear a (length (to_le n x)) r → Lies v.windows written r.low r.top b → Lies new.windows written r.low r.top b
    by_put None p f written r b c l = absurd cc
    by_put (Some ws) p f written r b c l =
        let z : record v { windows = ws } ≡ new = cc in
        subst (λ (u : View). Lies u.windows written r.low r.top b) z (lies_stays v.windows ws written r b a (to_le n x) c p l)

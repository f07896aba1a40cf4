-- The texts and calls that a program uses: each expression adds its own after those before it.
use Rattle.std.proofs.Common.{◌≡◌, ℕ, zero, suc, ◌≤◌, ◌==◌, Bool, List, [], ◌∷◌, ◌++◌, length, Option, None, Some, refl, ap, ◌∙◌, subst, arith}
use Rattle.std.proofs.lemmas.List.{length-append}
use Rattle.std.proofs.lemmas.List.Quantifiers.{position-Some}
use Rattle.std.proofs.lemmas.Bool.Decides.{Decides-eqb}
use Rattle.std.proofs.lemmas.Option.{slice_get-get_or}
use Rattle.std.specs.Prelude.{position, slice_get, get_or}
use Rattle.nx_calls.specs.declared.row.CallRow.{CallRow}
use Rattle.nx_crules.specs.declared.types.Typed.{Typed}
use Rattle.nx_crules.specs.declared.types.Target.{Target}
use Rattle.nx_ctype.specs.declared.names.Names.{Names}
use Rattle.nx_ctype.specs.declared.used.Used.{Used}
use Rattle.nx_ctype.specs.Lookups.{enter}
use Rattle.nx_ctype.specs.Lookups as lookups
use Rattle.nx_ctyping.specs.Trees.{Expr, Place, Args}
use Rattle.nx_ctyping.specs.Verdicts.{with_text, with_call}
use Rattle.nx_ctyping.specs.HasTypes
use Rattle.nx_ctyping.specs.HasTypes.{HasType, HasPlace, HaveTypes}

pub get_push : (l : List ℕ) (x k i : ℕ) → slice_get l k ≡ Some i → slice_get (l ++ x ∷ []) k ≡ Some i
get_push [] x k i h = absurd cc
get_push (a ∷ l) x zero i h = h
get_push (a ∷ l) x (suc k) i h = get_push l x k i h

pub get_last : (l : List ℕ) (x : ℕ) → slice_get (l ++ x ∷ []) (length l) ≡ Some x
get_last [] x = refl
get_last (a ∷ l) x = get_last l x

-- An element of a list that grew by one is one of the list or the new one.
pub get_pushed : (P : ℕ → Type 0) (l : List ℕ) (x k i : ℕ) → slice_get (l ++ x ∷ []) k ≡ Some i → ((j : ℕ) → slice_get l k ≡ Some j → P j) → P x → P i
get_pushed P [] x zero i h old new = subst P (same x i h) new
  where
    same : (a b : ℕ) → Some a ≡ Some b → a ≡ b
    same a b h = cc
get_pushed P [] x (suc k) i h old new = absurd cc
get_pushed P (a ∷ l) x zero i h old new = old i h
get_pushed P (a ∷ l) x (suc k) i h old new = get_pushed P l x k i h old new

at_position : (i : ℕ) (calls : List ℕ) (k : ℕ) → position (λ c. c == i) calls ≡ Some k → slice_get calls k ≡ Some i
at_position i calls k h =
    let p = position-Some (λ (c : ℕ). c == i) calls k 0 h in
    slice_get-get_or calls k 0 p.0 ∙ ap (λ (n : ℕ). Some n) ((Decides-eqb (get_or calls k 0) i).0 p.1)

entered_by : (i : ℕ) (calls : List ℕ) (o : Option ℕ) → position (λ c. c == i) calls ≡ o → slice_get (lookups.with_call o i calls).1 (lookups.with_call o i calls).0 ≡ Some i
entered_by i calls None h = get_last calls i
entered_by i calls (Some k) h = at_position i calls k h

pub entered : (i : ℕ) (calls : List ℕ) → slice_get (enter i calls).1 (enter i calls).0 ≡ Some i
entered i calls = entered_by i calls (position (λ c. c == i) calls) refl

module _ (rows : List CallRow) where
  abbrev pub IsThere : ℕ → Type 0
  IsThere i = (row : CallRow) × (slice_get rows i ≡ Some row)

  -- All that are used are rows of the table.
  abbrev pub AreThere : List ℕ → Type 0
  AreThere calls = (k i : ℕ) → slice_get calls k ≡ Some i → IsThere i

  pub record Grows (s t : Used) : Type 0 where
    pub texts : length s.texts ≤ length t.texts
    pub calls : (k i : ℕ) → slice_get s.calls k ≡ Some i → slice_get t.calls k ≡ Some i
    pub there : AreThere s.calls → AreThere t.calls

  pub same : (s : Used) → Grows s s
  same s = record { texts = omega arith; calls = λ k i h. h; there = λ h. h }

  pub both : {s t u : Used} → Grows s t → Grows t u → Grows s u
  both {s} {t} {u} g h = record { texts = omega (arith, g.texts, h.texts); calls = λ k i e. h.calls k i (g.calls k i e); there = λ e. h.there (g.there e) }

  pub text_grows : (text : List ℕ) (s : Used) → Grows s (with_text text s)
  text_grows text s = record { texts = omega (arith, length-append s.texts ((text ++ 0 ∷ []) ∷ [])); calls = λ k i h. h; there = λ h. h }

  enters : (i : ℕ) (calls : List ℕ) (o : Option ℕ) (k j : ℕ) → slice_get calls k ≡ Some j → slice_get (lookups.with_call o i calls).1 k ≡ Some j
  enters i calls None k j h = get_push calls i k j h
  enters i calls (Some n) k j h = h

  stays_there : (i : ℕ) (calls : List ℕ) (o : Option ℕ) → IsThere i → AreThere calls → AreThere (lookups.with_call o i calls).1
  stays_there i calls None new old k j h = get_pushed IsThere calls i k j h (old k) new
  stays_there i calls (Some n) new old k j h = old k j h

  pub call_grows : (i : ℕ) (s : Used) → IsThere i → Grows s (with_call i s)
  call_grows i s there = record {
    texts = omega arith;
    calls = λ k j h. enters i s.calls (position (λ c. c == i) s.calls) k j h;
    there = λ h. stays_there i s.calls (position (λ c. c == i) s.calls) there h;
  }

  module _ (names : Names) where
    mutual
      pub grows : {e : Expr} {s t : Used} {x : Typed} → HasType names rows e s x t → Grows s t
      grows (HasTypes.Scalar line name x h s g) = same s
      grows (HasTypes.Array line name a z s g) = same s
      grows (HasTypes.Number line n s) = same s
      grows (HasTypes.Char line c s) = same s
      grows (HasTypes.Text line text s) = text_grows text s
      grows (HasTypes.Paren line a s t x h g) = grows h
      grows (HasTypes.Index line a i s t u w c p n h g) = both (grows h) (grows g)
      grows (HasTypes.Call line name xs s t f ys g h k) = all_grow h
      grows (HasTypes.KernelCall line name xs s t i row ys g p r h k) = both (all_grow h) (call_grows i t (row, r))
      grows (HasTypes.StepCell line v op p s t x h g) = place_grows g
      grows (HasTypes.StepElement line v op p s t w q g) = place_grows g
      grows (HasTypes.Minus line a s t n h) = grows h
      grows (HasTypes.Not line a s t n h) = grows h
      grows (HasTypes.Complement line a s t n h) = grows h
      grows (HasTypes.Deref line a s t w c p h) = grows h
      grows (HasTypes.AddressOf line a i s t u w c p n h g) = both (grows h) (grows g)
      grows (HasTypes.SizeOfName line name v s g) = same s
      grows (HasTypes.SizeOfType line b s) = same s
      grows (HasTypes.CastToInt line a s t n h) = grows h
      grows (HasTypes.CastToChar line a s t n h) = grows h
      grows (HasTypes.CastToPointer line b a s t n h) = grows h
      grows (HasTypes.Binary line op a b s t u m n h g) = both (grows h) (grows g)
      grows (HasTypes.Advance line op a b s t u w c p n d h g) = both (grows h) (grows g)
      grows (HasTypes.AdvanceBy line op a b s t u w c n p d h g) = both (grows h) (grows g)
      grows (HasTypes.Retreat line op a b s t u w c p n d h g) = both (grows h) (grows g)
      grows (HasTypes.Conditional line c a b s t u v n x y h g k o) = both (grows h) (both (grows g) (grows k))
      grows (HasTypes.Assign line p e s t u x h y g k o) = both (place_grows g) (grows k)
      grows (HasTypes.AssignElement line p e s t u w q n g k) = both (place_grows g) (grows k)
      grows (HasTypes.Compound line op o p e s t u x h n d g k l) = both (place_grows g) (grows k)
      grows (HasTypes.CompoundElement line op o p e s t u w q n d g k) = both (place_grows g) (grows k)

      pub place_grows : {p : Place} {s t : Used} {x : Target} → HasPlace names rows p s x t → Grows s t
      place_grows (HasTypes.NamePlace line name x h s g) = same s
      place_grows (HasTypes.IndexPlace line a i s t u w c p n h g) = both (grows h) (grows g)
      place_grows (HasTypes.DerefPlace line a s t w c p h) = grows h

      pub all_grow : {b : Bool} {xs : Args} {s t : Used} {ys : List Typed} → HaveTypes names rows b xs s ys t → Grows s t
      all_grow (HasTypes.NoArguments b s) = same s
      all_grow (HasTypes.Entry line name xs s t f ys l g k h) = all_grow h
      all_grow (HasTypes.First e xs s t u y ys n h g) = both (grows h) (all_grow g)
      all_grow (HasTypes.Argument e xs s t u y ys h g) = both (grows h) (all_grow g)

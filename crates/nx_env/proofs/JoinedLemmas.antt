-- Groups joined with their variables, under changes of either.
use Rattle.std.proofs.Common.{◌≡◌, ℕ, zero, suc, ◌+◌, ◌<◌, ◌==◌, Bool, true, false, List, [], ◌∷◌, length, map, refl, sym, ap, ◌∙◌, subst, get_or, arith}
use Rattle.std.specs.Prelude.{Option, Some, None, Result, slice_get, slice_set, if◌then◌else◌}
use Rattle.std.specs.List.{list_any, position_from}
use Rattle.nx_ksys.specs.State.{Group, KernelState}
use Rattle.nx_ksys.specs.Answers.{Stepped, Caller}
use Rattle.nx_base.specs.declared.errno.Errno.{Errno}
use Rattle.nx_ksys.specs.EnvironmentCalls as with_changed
use Rattle.nx_ksys.specs.Ends.{nobodys}
use Rattle.nx_ksys.specs.TreeCalls.{with_group}
use Rattle.nx_env.specs.Joined.{Variables, variables_at, with_variables, joined_one, joined, with_groups, with_environment, in_group}
use Rattle.nx_env.specs.Rows.{done}

-- ---- lists

pub set_itself : {A : Type 0} (xs : List A) (p : ℕ) (x : A) → slice_get xs p ≡ Some x → slice_set xs p x ≡ xs
set_itself [] p x e = refl
set_itself (y ∷ ys) zero x e = let s : y ≡ x = cc in ap (λ z. z ∷ ys) (sym s)
set_itself (y ∷ ys) (suc p) x e = ap (λ zs. y ∷ zs) (set_itself ys p x e)

pub set_again : {A : Type 0} (xs : List A) (p : ℕ) (x y : A) → slice_set (slice_set xs p x) p y ≡ slice_set xs p y
set_again [] p x y = refl
set_again (z ∷ zs) zero x y = refl
set_again (z ∷ zs) (suc p) x y = ap (λ xs. z ∷ xs) (set_again zs p x y)

-- a group that stands at its place is set there to no effect
pub same_group : (k : KernelState) (place : ℕ) (g : Group) → slice_get k.groups place ≡ Some (Some g) → with_group k place g ≡ k
same_group k place g e = ap (λ gs. record k { groups = gs }) (set_itself k.groups place (Some g) e)

-- ---- joining

-- what stands at a place
pub joined_at : (gs : List (Option Group)) (vs : List Variables) (place : ℕ) (g : Group) → slice_get gs place ≡ Some (Some g) → slice_get (joined gs vs) place ≡ Some (Some (with_variables g (variables_at vs place)))
joined_at [] vs place g e = absurd cc
joined_at (h ∷ gs) [] zero g e = let s : h ≡ Some g = cc in ap (λ o. Some (joined_one [] o)) s
joined_at (h ∷ gs) [] (suc place) g e = joined_at gs [] place g e
joined_at (h ∷ gs) (v ∷ vs) zero g e = let s : h ≡ Some g = cc in ap (λ o. Some (joined_one v o)) s
joined_at (h ∷ gs) (v ∷ vs) (suc place) g e = joined_at gs vs place g e

-- a group is set, with the variables that stand at its place
pub joined_set : (gs : List (Option Group)) (vs : List Variables) (place : ℕ) (g : Option Group) → joined (slice_set gs place g) vs ≡ slice_set (joined gs vs) place (joined_one (variables_at vs place) g)
joined_set [] vs place g = refl
joined_set (h ∷ gs) [] zero g = refl
joined_set (h ∷ gs) [] (suc place) g = ap (λ xs. joined_one [] h ∷ xs) (joined_set gs [] place g)
joined_set (h ∷ gs) (v ∷ vs) zero g = refl
joined_set (h ∷ gs) (v ∷ vs) (suc place) g = ap (λ xs. joined_one v h ∷ xs) (joined_set gs vs place g)

-- the variables at a group's place are set
pub joined_changed : (gs : List (Option Group)) (vs : List Variables) (place : ℕ) (g : Group) (new : Variables) → slice_get gs place ≡ Some (Some g) → place < length vs
    → joined gs (slice_set vs place new) ≡ slice_set (joined gs vs) place (Some (with_variables g new))
joined_changed gs [] place g new e lt = absurd (omega arith)
joined_changed [] (v ∷ vs) place g new e lt = absurd cc
joined_changed (h ∷ gs) (v ∷ vs) zero g new e lt = let s : h ≡ Some g = cc in ap (λ o. joined_one new o ∷ joined gs vs) s
joined_changed (h ∷ gs) (v ∷ vs) (suc place) g new e lt = ap (λ xs. joined_one v h ∷ xs) (joined_changed gs vs place g new e (omega arith))

-- a group is set, with variables of its own
pub joined_begun : (gs : List (Option Group)) (vs : List Variables) (place : ℕ) (g : Group) (new : Variables) → place < length gs → place < length vs
    → joined (slice_set gs place (Some g)) (slice_set vs place new) ≡ slice_set (joined gs vs) place (Some (with_variables g new))
joined_begun [] vs place g new lt lu = absurd (omega arith)
joined_begun (h ∷ gs) [] place g new lt lu = absurd (omega arith)
joined_begun (h ∷ gs) (v ∷ vs) zero g new lt lu = refl
joined_begun (h ∷ gs) (v ∷ vs) (suc place) g new lt lu = ap (λ xs. joined_one v h ∷ xs) (joined_begun gs vs place g new (omega arith) (omega arith))

pub length-joined : (gs : List (Option Group)) (vs : List Variables) → length (joined gs vs) ≡ length gs
length-joined [] vs = refl
length-joined (g ∷ gs) [] = ap suc (length-joined gs [])
length-joined (g ∷ gs) (v ∷ vs) = ap suc (length-joined gs vs)

-- ---- what doesn't look at the variables

nobodys_one : (parent : ℕ) (v : Variables) (g : Option Group) → nobodys parent (joined_one v g) ≡ joined_one v (nobodys parent g)
nobodys_one parent v None = refl
nobodys_one parent v (Some g) = by_test (g.parent == parent)
  where
    by_test : (t : Bool) → (if t then Some (record (with_variables g v) { parent = 0 }) else Some (with_variables g v)) ≡ joined_one v (if t then Some (record g { parent = 0 }) else Some g)
    by_test true = refl
    by_test false = refl

pub joined_nobodys : (parent : ℕ) (gs : List (Option Group)) (vs : List Variables) → map (nobodys parent) (joined gs vs) ≡ joined (map (nobodys parent) gs) vs
joined_nobodys parent [] vs = refl
joined_nobodys parent (g ∷ gs) [] = (λ i. nobodys_one parent [] g i ∷ joined_nobodys parent gs [] i)
joined_nobodys parent (g ∷ gs) (v ∷ vs) = (λ i. nobodys_one parent v g i ∷ joined_nobodys parent gs vs i)

module _ (p : Option Group → Bool) (law : (v : Variables) (g : Option Group) → p (joined_one v g) ≡ p g) where
  pub joined_any : (gs : List (Option Group)) (vs : List Variables) → list_any p (joined gs vs) ≡ list_any p gs
  joined_any [] vs = refl
  joined_any (g ∷ gs) [] = let h = joined_any gs [] in let l = law [] g in rw (l, h) refl
  joined_any (g ∷ gs) (v ∷ vs) = let h = joined_any gs vs in let l = law v g in rw (l, h) refl

  pub joined_position : (n : ℕ) (gs : List (Option Group)) (vs : List Variables) → position_from p n (joined gs vs) ≡ position_from p n gs
  joined_position n [] vs = refl
  joined_position n (g ∷ gs) [] = let h = joined_position (n + 1) gs [] in let l = law [] g in rw (l, h) refl
  joined_position n (g ∷ gs) (v ∷ vs) = let h = joined_position (n + 1) gs vs in let l = law v g in rw (l, h) refl

-- ---- a call on the variables of the group at a place

variables_there : (items : List Variables) (place : ℕ) (e d : Variables) → place < length items → e ≡ get_or items place d → e ≡ variables_at items place
variables_there [] place e d lt h = absurd (omega arith)
variables_there (v ∷ vs) zero e d lt h = h
variables_there (v ∷ vs) (suc place) e d lt h = variables_there vs place e d (omega arith) h

-- what a row does to these variables it does to the groups that are joined with them
pub row_at : (k : KernelState) (c : Caller) (groups : List (Option Group)) (items : List Variables) (place : ℕ) (g : Group) (e d new : Variables) (row : KernelState → Caller → Stepped) (result : Result Unit Errno)
    → place < length items → e ≡ get_or items place d → slice_get groups place ≡ Some (Some g)
    → ((s : KernelState) (caller : Caller) → slice_get s.groups caller.place ≡ Some (Some (with_environment caller e).group)
    → row s (with_environment caller e) ≡ done (with_changed.with_environment s (with_environment caller e) new) (with_environment caller e) result)
    → row (with_groups k (joined groups items)) (in_group c place (with_variables g (variables_at items place)))
    ≡ done (with_groups k (joined groups (slice_set items place new))) (in_group c place (with_variables g (variables_at items place))) result
row_at k c groups items place g e d new row result lt is at law =
    let here : e ≡ variables_at items place = variables_there items place e d lt is in
    let whole = with_groups k (joined groups items) in
    let there : slice_get (joined groups items) place ≡ Some (Some (with_variables g e)) = joined_at groups items place g at ∙ ap (λ v. Some (Some (with_variables g v))) (sym here) in
    let P : Variables → Type 0 = λ v. row whole (in_group c place (with_variables g v)) ≡ done (with_groups k (joined groups (slice_set items place new))) (in_group c place (with_variables g v)) result in
    subst P here (law whole (in_group c place g) there ∙ ap (λ gs. done (with_groups k gs) (in_group c place (with_variables g e)) result) (sym (joined_changed groups items place g new at lt)))

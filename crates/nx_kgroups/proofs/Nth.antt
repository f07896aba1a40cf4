-- The group of an index, whatever variables it has.
use Rattle.std.proofs.Common.{◌≡◌, ℕ, ◌+◌, ◌==◌, Bool, true, false, List, [], ◌∷◌, refl, sym, ap, ◌∙◌, cond}
use Rattle.std.specs.Prelude.{Option, Some, None}
use Rattle.std.specs.List.{find, count_by}
use Rattle.std.proofs.lemmas.List.Sums.{sum_by-cons}
use Rattle.nx_ksys.specs.Threads.{flat}
use Rattle.nx_ksys.specs.State.{Group, KernelState}
use Rattle.nx_ksys.specs.Answers.{Caller}
use Rattle.nx_ksys.specs.GroupCalls.{comes_earlier, is_nth, nth_group, ps_out}
use Rattle.nx_env.specs.Joined.{Variables, joined_one, joined}

module _ (p : Option Group → Bool) (law : (v : Variables) (g : Option Group) → p (joined_one v g) ≡ p g) where
  counted : (gs : List (Option Group)) (vs : List Variables) → count_by p (joined gs vs) ≡ count_by p gs
  counted [] vs = refl
  counted (g ∷ gs) [] = sum_by-cons (λ x. cond (p x) 1 0) (joined_one [] g) (joined gs []) ∙ (λ i. cond (law [] g i) 1 0 + counted gs [] i) ∙ sym (sum_by-cons (λ x. cond (p x) 1 0) g gs)
  counted (g ∷ gs) (v ∷ vs) = sum_by-cons (λ x. cond (p x) 1 0) (joined_one v g) (joined gs vs) ∙ (λ i. cond (law v g i) 1 0 + counted gs vs i) ∙ sym (sum_by-cons (λ x. cond (p x) 1 0) g gs)

earlier_one : (number : ℕ) (v : Variables) (g : Option Group) → comes_earlier number (joined_one v g) ≡ comes_earlier number g
earlier_one number v None = refl
earlier_one number v (Some g) = refl

nth_one : (gs : List (Option Group)) (vs : List Variables) (index : ℕ) (v : Variables) (g : Option Group) → is_nth (joined gs vs) index (joined_one v g) ≡ is_nth gs index g
nth_one gs vs index v None = refl
nth_one gs vs index v (Some g) = ap (λ n. n == index) (counted (comes_earlier g.number) (earlier_one g.number) gs vs)

module _ {X : Type 0} (F : Option Group → X) (law : (v : Variables) (g : Option Group) → F (joined_one v g) ≡ F g) (p q : Option Group → Bool) (same : (v : Variables) (g : Option Group) → p (joined_one v g) ≡ q g) where
  found_by : (b : Bool) (v : Variables) (g : Option Group) (rest other : Option (Option Group)) → F (flat rest) ≡ F (flat other) → F (flat (cond b (Some (joined_one v g)) rest)) ≡ F (flat (cond b (Some g) other))
  found_by true v g rest other e = law v g
  found_by false v g rest other e = e

  found_joined : (gs : List (Option Group)) (vs : List Variables) → F (flat (find p (joined gs vs))) ≡ F (flat (find q gs))
  found_joined [] vs = refl
  found_joined (g ∷ gs) [] = ap (λ b. F (flat (cond b (Some (joined_one [] g)) (find p (joined gs []))))) (same [] g) ∙ found_by (q g) [] g (find p (joined gs [])) (find q gs) (found_joined gs [])
  found_joined (g ∷ gs) (v ∷ vs) = ap (λ b. F (flat (cond b (Some (joined_one v g)) (find p (joined gs vs))))) (same v g) ∙ found_by (q g) v g (find p (joined gs vs)) (find q gs) (found_joined gs vs)

told_one : (k : KernelState) (c : Caller) (size : ℕ) (v : Variables) (g : Option Group) → ps_out k c size (joined_one v g) ≡ ps_out k c size g
told_one k c size v None = refl
told_one k c size v (Some g) = refl

pub nth_told : (k : KernelState) (c : Caller) (size index : ℕ) (gs : List (Option Group)) (vs : List Variables) → ps_out k c size (nth_group (joined gs vs) index) ≡ ps_out k c size (nth_group gs index)
unfolding nth_group
nth_told k c size index gs vs = found_joined (ps_out k c size) (told_one k c size) (is_nth (joined gs vs) index) (is_nth gs index) (nth_one gs vs index) gs vs

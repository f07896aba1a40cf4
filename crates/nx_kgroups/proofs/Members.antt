-- The group at a place, with its variables, and what its end tells.
use Rattle.std.proofs.Common.{◌≡◌, ℕ, zero, suc, List, [], ◌∷◌, refl, sym, ap, subst, ◌∙◌, append-nil}
use Rattle.std.specs.Prelude.{Option, Some, None, slice_get}
use Rattle.nx_base.specs.Calls.{Reply}
use Rattle.nx_ksys.specs.declared.thread.Search.TheVariants as search
use Rattle.nx_ksys.specs.Threads.{Schedule, flat, first_of}
use Rattle.nx_ksys.specs.State.{Group, ThreadValue, KernelState}
use Rattle.nx_ksys.specs.Ends.{end_of, end_group, vanished, without_descriptors, left_alone, recorded, told_parent, hand_value}
use Rattle.nx_group.specs.Living.{IsTold, with_values}
use Rattle.nx_env.specs.Joined.{Variables, joined_one, joined, variables_at, with_variables}

pub joined_flat : (gs : List (Option Group)) (vs : List Variables) (place : ℕ) → flat (slice_get (joined gs vs) place) ≡ joined_one (variables_at vs place) (flat (slice_get gs place))
joined_flat [] vs place = refl
joined_flat (h ∷ gs) [] zero = refl
joined_flat (h ∷ gs) [] (suc place) = joined_flat gs [] place
joined_flat (h ∷ gs) (v ∷ vs) zero = refl
joined_flat (h ∷ gs) (v ∷ vs) (suc place) = joined_flat gs vs place

module _ (gs : List (Option Group)) (vs : List Variables) (place : ℕ) where
  pub joined_none : None ≡ flat (slice_get gs place) → flat (slice_get (joined gs vs) place) ≡ None
  joined_none e = joined_flat gs vs place ∙ ap (joined_one (variables_at vs place)) (sym e)

  pub joined_some : (g : Group) → Some g ≡ flat (slice_get gs place) → flat (slice_get (joined gs vs) place) ≡ Some (with_variables g (variables_at vs place))
  joined_some g e = joined_flat gs vs place ∙ ap (joined_one (variables_at vs place)) (sym e)

-- nobody ends
pub none_ends : (rs : List Reply) (k : KernelState) (place code : ℕ) → flat (slice_get k.groups place) ≡ None → IsTold rs rs k (end_group k place code)
unfolding end_group
none_ends rs k place code e = subst (λ o. IsTold rs rs k (end_of k place code o)) (sym e) (record { state = refl; replies = sym (append-nil rs) })

-- a group ends by what is told of it
pub one_ends : (before after : List Reply) (now k : KernelState) (place code : ℕ) (g : Group) → flat (slice_get k.groups place) ≡ Some g → IsTold before after now (end_of k place code (Some g)) → IsTold before after now (end_group k place code)
unfolding end_group
one_ends before after now k place code g e t = subst (λ o. IsTold before after now (end_of k place code o)) (sym e) t

pub member_ends : (before after : List Reply) (now k : KernelState) (place code : ℕ) (g : Group) (number program parent : ℕ) → number ≡ g.number → program ≡ g.program → parent ≡ g.parent
    → IsTold before after now (told_parent (record { parent = parent; child = number; code = code }) (recorded (record { pid = number; name = program; code = code }) (left_alone place number (without_descriptors place (vanished number k)))))
    → IsTold before after now (end_of k place code (Some g))
member_ends before after now k place code g number program parent n p q t = rw (← n, ← p, ← q) t

-- the value of a thread that is gone
pub value_handed : (before after : List Reply) (now k : KernelState) (values : List ThreadValue) (group h thread value : ℕ) (s gone : Schedule) → group ≡ h → s ≡ gone
    → IsTold before after now (hand_value (with_values k s values) (record { group = group; thread = thread; value = value }) (first_of (search.Joiner thread) s.threads))
    → IsTold before after now (hand_value (with_values k gone values) (record { group = h; thread = thread; value = value }) (first_of (search.Joiner thread) gone.threads))
value_handed before after now k values group h thread value s gone e f t = rw (← e, ← f) t

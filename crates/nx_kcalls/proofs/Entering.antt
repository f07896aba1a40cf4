-- A group that stands in another directory.
use Rattle.std.proofs.Common.{◌≡◌, ℕ, List, ap, subst, ◌∙◌}
use Rattle.std.specs.Prelude.{Option, Some, IfSome, slice_get, slice_set}
use Rattle.nx_ksys.specs.Threads.{flat}
use Rattle.nx_ksys.specs.State.{Group}
use Rattle.nx_env.specs.Joined.{Variables, joined, variables_at, with_variables}
use Rattle.nx_env.proofs.JoinedLemmas.{joined_set}

pub entered : (gs new : List (Option Group)) (vs : List Variables) (place : ℕ) (h : Group) (path text : List ℕ) → flat (slice_get gs place) ≡ Some h → text ≡ path
    → IfSome (flat (slice_get gs place)) (λ g. new ≡ slice_set gs place (Some (record g { directory = text })))
    → joined new vs ≡ slice_set (joined gs vs) place (Some (record (with_variables h (variables_at vs place)) { directory = path }))
entered gs new vs place h path text e t i =
    let set : new ≡ slice_set gs place (Some (record h { directory = text })) = subst (λ x. IfSome x (λ g. new ≡ slice_set gs place (Some (record g { directory = text })))) e i in
    ap (λ x. joined x vs) (set ∙ ap (λ d. slice_set gs place (Some (record h { directory = d }))) t) ∙ joined_set gs vs place (Some (record h { directory = path }))

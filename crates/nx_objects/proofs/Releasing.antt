-- A description that closes or doesn't, and a descriptor, by what was found.
use Rattle.std.proofs.Common.{◌≡◌, ℕ, ◌≤◌, Bool, true, false, List, refl, sym, ap, ◌∙◌}
use Rattle.std.specs.Prelude.{Option, Some, None, slice_get, slice_set, if◌then◌else◌}
use Rattle.nx_ksys.specs.declared.node.Open.{Open}
use Rattle.nx_ksys.specs.Threads.{flat}
use Rattle.nx_ksys.specs.State.{KernelState}
use Rattle.nx_ksys.specs.Descriptors.{is_held, without_open, swept_target, released, closed, closed_as, description_at, set_descriptor}
use Rattle.nx_objects.proofs.Places.{no_descriptor}

pub released_held : (k : KernelState) (place : ℕ) → is_held place k.descriptors ≡ true → released k place ≡ k
unfolding released
released_held k place e = ap (λ b. if b then k else without_open k place (flat (slice_get k.opens place))) e

pub released_none : (k : KernelState) (place : ℕ) → flat (slice_get k.opens place) ≡ None → released k place ≡ k
unfolding released
released_none k place e = by_test (is_held place k.descriptors)
  where
    by_test : (b : Bool) → (if b then k else without_open k place (flat (slice_get k.opens place))) ≡ k
    by_test true = refl
    by_test false = ap (without_open k place) e

pub released_open : (k : KernelState) (place : ℕ) (o : Open) → is_held place k.descriptors ≡ false → flat (slice_get k.opens place) ≡ Some o
    → released k place ≡ swept_target (record k { opens = slice_set k.opens place None }) o.target
unfolding released
released_open k place o e f = ap (λ b. if b then k else without_open k place (flat (slice_get k.opens place))) e ∙ ap (without_open k place) f

pub closed_shut : (k : KernelState) (group fd : ℕ) → description_at k.descriptors group fd ≡ None → closed k group fd ≡ k
unfolding closed
closed_shut k group fd e = ap (closed_as k group fd) e

pub closed_open : (k : KernelState) (group fd place : ℕ) → description_at k.descriptors group fd ≡ Some place
    → closed k group fd ≡ released (record k { descriptors = set_descriptor k.descriptors group fd None }) place
unfolding closed
closed_open k group fd place e = ap (closed_as k group fd) e

pub shut_over : (k : KernelState) (group fd : ℕ) → 32 ≤ fd → k ≡ closed k group fd
shut_over k group fd le = sym (closed_shut k group fd (no_descriptor k.descriptors group fd le))

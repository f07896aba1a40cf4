-- What several reads in turn ask.
use Rattle.std.proofs.Common.{ℕ, List, [], ◌++◌, Option, Some, None, refl, sym, ◌∙◌, ap, append_assoc, append-nil}
use Rattle.nx_outside.specs.Outside.{Told, Asked}

-- names after names
pub Asked-append : (old mid new : Option Told) (xs ys : List (List ℕ)) → Asked old mid xs → Asked mid new ys → Asked old new (xs ++ ys)
Asked-append None None None xs ys h k = tt
Asked-append (Some t) (Some u) (Some v) xs ys h k = (k.0 ∙ h.0, k.1 ∙ ap (λ w. w ++ ys) h.1 ∙ append_assoc t.asked xs ys)
Asked-append None None (Some v) xs ys h k = k
Asked-append None (Some u) new xs ys h k = absurd h
Asked-append (Some t) None new xs ys h k = absurd h
Asked-append (Some t) (Some u) None xs ys h k = k

-- nothing was asked
pub Asked-nothing : (old : Option Told) → Asked old old []
Asked-nothing None = tt
Asked-nothing (Some t) = (refl, sym (append-nil t.asked))

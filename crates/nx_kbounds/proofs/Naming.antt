-- What paths lead to, and what stands.
use Rattle.std.proofs.Common.{◌≡◌, ℕ, zero, suc, ◌+◌, ◌≤◌, Bool, true, false, List, [], ◌∷◌, Option, Some, None, refl, ap, ◌∙◌, arith}
use Rattle.std.specs.Prelude.{slice_get, slice_set, cond}
use Rattle.std.specs.Option.{is_some}
use Rattle.std.specs.Map.{lookup}
use Rattle.std.specs.Str.{bytes_eq}
use Rattle.nx_ksys.specs.declared.node.Node.{Node}
use Rattle.nx_ksys.specs.declared.node.NodeKind.{NodeKind}
use Rattle.nx_ksys.specs.Threads.{flat}
use Rattle.nx_ksys.specs.Paths.{node_at}
use Rattle.nx_ksys.specs.Descriptors.{is_at}
use Rattle.nx_ksys.specs.Bounds.{one_if, leading, stands}
use Rattle.nx_ksys.proofs.Standing.{some_same, none_some, eq_to}

-- a path that is found leads where its node does
pub named_leads : (sort : NodeKind → Option ℕ) (es : List (List ℕ × Node)) (path : List ℕ) (n : Node) (place : ℕ) → node_at es path ≡ Some n → sort n.kind ≡ Some place → 1 ≤ leading sort place es
unfolding node_at
named_leads sort [] path n place e f = absurd (none_some n e)
named_leads sort (g ∷ es) path n place e f = by_test (bytes_eq path g.0) e (λ q. named_leads sort es path n place q f)
  where
    by_test : (b : Bool) → cond b (Some g.1) (lookup (bytes_eq path) es) ≡ Some n → (lookup (bytes_eq path) es ≡ Some n → 1 ≤ leading sort place es) → 1 ≤ one_if (is_at place (sort g.1.kind)) + leading sort place es
    by_test true q more =
        let one : one_if (is_at place (sort g.1.kind)) ≡ 1 = ap (λ (m : Node). one_if (is_at place (sort m.kind))) (some_same g.1 n q) ∙ ap (λ o. one_if (is_at place o)) f ∙ ap one_if (eq_to place place refl) in
        omega (arith, one)
    by_test false q more = let r = more q in omega (arith, r)

-- ---- what stands

pub is_standing : {A : Type 0} (xs : List (Option A)) (p : ℕ) (x : A) → flat (slice_get xs p) ≡ Some x → stands xs p ≡ true
is_standing xs p x e = ap is_some e

pub new_stands : {A : Type 0} (xs : List (Option A)) (p : ℕ) (x : A) → slice_get xs p ≡ Some None → stands (slice_set xs p (Some x)) p ≡ true
new_stands [] p x h = absurd (none_some None h)
new_stands (y ∷ xs) zero x h = refl
new_stands (y ∷ xs) (suc p) x h = new_stands xs p x h

pub still_one : {A : Type 0} (xs : List (Option A)) (p : ℕ) (x : A) → stands xs p ≡ true → stands (slice_set xs p (Some x)) p ≡ true
still_one [] p x h = h
still_one (y ∷ xs) zero x h = refl
still_one (y ∷ xs) (suc p) x h = still_one xs p x h

-- what stood stands where one comes
pub still_stands : {A : Type 0} (xs : List (Option A)) (p q : ℕ) (x : A) → stands xs q ≡ true → stands (slice_set xs p (Some x)) q ≡ true
still_stands [] p q x h = h
still_stands (y ∷ xs) zero zero x h = refl
still_stands (y ∷ xs) zero (suc q) x h = h
still_stands (y ∷ xs) (suc p) zero x h = h
still_stands (y ∷ xs) (suc p) (suc q) x h = still_stands xs p q x h

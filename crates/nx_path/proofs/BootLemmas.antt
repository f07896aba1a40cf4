-- The paths of boot come one after another.
use Rattle.std.proofs.Common.{◌≡◌, ℕ, zero, suc, ◌+◌, List, [], ◌∷◌, ◌++◌, length, map, take, refl, sym, ap, subst, ◌∙◌, arith, false, add-one}
use Rattle.std.specs.Prelude.{Some, None, slice_get, codes}
use Rattle.std.specs.List.{IsDistinct, AllByRecursion}
use Rattle.std.specs.Map.{lookup}
use Rattle.std.specs.Str.{bytes_eq}
use Rattle.std.proofs.lemmas.List.{length-map}
use Rattle.arrayvec.specs.ArrayVec.{ArrayVec}
use Rattle.nx_ksys.specs.declared.node.Node.{Node}
use Rattle.nx_ksys.specs.declared.node.NodeKind.TheVariants as node
use Rattle.nx_ksys.specs.Paths.{node_at}
use Rattle.nx_ksys.specs.Boot.{fixed, program_nodes, first_entries}
use Rattle.nx_path.specs.Entries.{see, AreNames}
use Rattle.nx_path.proofs.EntryLemmas.{swapped}

other_name : (names : List (List ℕ)) (i : ℕ) (name one : List ℕ) → AllByRecursion (λ y. bytes_eq one y ≡ false) names → slice_get names i ≡ Some name → bytes_eq one name ≡ false
other_name [] i name one h k = absurd cc
other_name (x ∷ xs) zero name one h k = let s : x ≡ name = cc in ap (bytes_eq one) (sym s) ∙ h.0
other_name (x ∷ xs) (suc i) name one h k = other_name xs i name one h.1 k

-- the path of a program is not among those before it
absent_program : (place i : ℕ) (names : List (List ℕ)) (name : List ℕ) → IsDistinct bytes_eq names → slice_get names i ≡ Some name → lookup (bytes_eq (codes "/bin/" ++ name)) (program_nodes place (take i names)) ≡ None
unfolding IsDistinct
absent_program place i [] name d k = absurd cc
absent_program place zero (x ∷ xs) name d k = refl
absent_program place (suc i) (x ∷ xs) name d k =
    let rest = absent_program (place + 1) i xs name d.1 k in
    let other = swapped x name (other_name xs i name x d.0 k) in
    rw other rest

pub absent_first : (i : ℕ) (names : List (List ℕ)) (name path : List ℕ) (entries : List (List ℕ × Node)) → IsDistinct bytes_eq names → slice_get names i ≡ Some name → path ≡ codes "/bin/" ++ name → entries ≡ first_entries (take i names) → node_at entries path ≡ None
unfolding node_at
absent_first i names name path entries d k p e = rw e (subst (λ q. lookup (bytes_eq q) (first_entries (take i names)) ≡ None) (sym p) (absent_program 0 i names name d k))

one_program : (place i : ℕ) (names : List (List ℕ)) (name : List ℕ) → slice_get names i ≡ Some name → program_nodes place (take (suc i) names) ≡ program_nodes place (take i names) ++ (codes "/bin/" ++ name, fixed (node.Program (place + i))) ∷ []
one_program place i [] name k = absurd cc
one_program place zero (x ∷ xs) name k =
    let s : x ≡ name = cc in
    let p : place ≡ place + 0 = omega arith in
    rw s (ap (λ q. (codes "/bin/" ++ name, fixed (node.Program q)) ∷ []) p)
one_program place (suc i) (x ∷ xs) name k =
    let rest = one_program (place + 1) i xs name k in
    let p : place + 1 + i ≡ place + suc i = omega arith in
    ap (λ q. (codes "/bin/" ++ x, fixed (node.Program place)) ∷ q) (rest ∙ ap (λ q. program_nodes (place + 1) (take i xs) ++ (codes "/bin/" ++ name, fixed (node.Program q)) ∷ []) p)

pub first_more : (i : ℕ) (names : List (List ℕ)) (name path : List ℕ) (before after : List (List ℕ × Node)) → slice_get names i ≡ Some name → path ≡ codes "/bin/" ++ name → before ≡ first_entries (take i names)
    → after ≡ before ++ (path, fixed (node.Program i)) ∷ [] → after ≡ first_entries (take (i + 1) names)
first_more i names name path before after k p b e =
    let whole : first_entries (take (suc i) names) ≡ first_entries (take i names) ++ (codes "/bin/" ++ name, fixed (node.Program (0 + i))) ∷ [] = ap (λ q. first_entries [] ++ q) (one_program 0 i names name k) in
    let z : 0 + i ≡ i = omega arith in
    e ∙ ap (λ q. q ++ (path, fixed (node.Program i)) ∷ []) b ∙ ap (λ q. first_entries (take i names) ++ (q, fixed (node.Program i)) ∷ []) p
    ∙ sym (ap (λ q. first_entries (take i names) ++ (codes "/bin/" ++ name, fixed (node.Program q)) ∷ []) z) ∙ sym whole ∙ ap (λ n. first_entries (take n names)) (sym (add-one i))

nodes_count : (place : ℕ) (names : List (List ℕ)) → length (program_nodes place names) ≡ length names
nodes_count place [] = refl
nodes_count place (x ∷ xs) = ap suc (nodes_count (place + 1) xs)

pub first_count : (es : List (ArrayVec ℕ × Node)) (names : List (List ℕ)) → map see es ≡ first_entries names → length es ≡ 8 + length names
first_count es names e = let l = length-map es see in let m = ap length e in let n = nodes_count 0 names in omega (arith, l, m, n)

pub first_length : (names : List (List ℕ)) → length (first_entries names) ≡ 8 + length names
first_length names = let n = nodes_count 0 names in omega (arith, n)

-- what is known of a map before one more comes, and after it
pub after_one : (known more before after : List (List ℕ × Node)) → before ≡ known → after ≡ before ++ more → after ≡ known ++ more
after_one known more before after b e = e ∙ ap (λ q. q ++ more) b

pub absent_known : (known es : List (List ℕ × Node)) (path : List ℕ) → es ≡ known → lookup (bytes_eq path) known ≡ None → node_at es path ≡ None
unfolding node_at
absent_known known es path e h = rw e h

-- no programs at all
pub no_names : AreNames []
unfolding IsDistinct
no_names = record { distinct = tt; short = λ i name h. absurd cc }

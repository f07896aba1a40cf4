-- The statements of a block from a place on.
use Rattle.std.proofs.Common.{◌≡◌, ℕ, zero, suc, ◌+◌, ◌<◌, ◌≤◌, List, [], ◌∷◌, length, drop, get_or, refl, ap, ◌∙◌, arith}
use Rattle.std.specs.Prelude.{Ok, Err}
use Rattle.nx_checked.specs.declared.checked.CheckedStmt.{CheckedStmt}
use Rattle.nx_checked.specs.Trees.{stmt_of, stmts_of}
use Rattle.nx_cobjects.specs.declared.value.WrongKind.TheVariants as wrong
use Rattle.nx_cmean.specs.Items.{Item, Rest, rest_then, begun}
use Rattle.nx_cmean.specs.Meaning.{Frame, with_todo, proceeded}

pub rest_there : (ss : List CheckedStmt) (at : ℕ) (k : List Item) → at < length ss → rest_then (stmts_of (drop at ss)) k ≡ Rest (stmts_of (drop at ss)) ∷ k
rest_there [] at k h = absurd (omega arith)
rest_there (s ∷ ss) zero k h = refl
rest_there (s ∷ ss) (suc at) k h = rest_there ss at k (omega arith)

rest_within : (ss : List CheckedStmt) (at : ℕ) (s : CheckedStmt) (f : Frame) → at < length ss → get_or ss at s ≡ s → proceeded f (Rest (stmts_of (drop at ss))) ≡ Ok (with_todo f f.values (begun (stmt_of s) (rest_then (stmts_of (drop (suc at) ss)) f.todo)))
rest_within [] at s f h e = absurd (omega arith)
rest_within (x ∷ ss) zero s f h e = ap (λ (s : CheckedStmt). Ok (with_todo f f.values (begun (stmt_of s) (rest_then (stmts_of ss) f.todo)))) e
rest_within (x ∷ ss) (suc at) s f h e = rest_within ss at s f (omega arith) e

pub rest_at : (ss : List CheckedStmt) (at : ℕ) (s : CheckedStmt) (f : Frame) → at < length ss → get_or ss at s ≡ s → proceeded f (Rest (stmts_of (drop at ss))) ≡ Ok (with_todo f f.values (begun (stmt_of s) (rest_then (stmts_of (drop (at + 1) ss)) f.todo)))
rest_at ss at s f h e =
    let next : suc at ≡ at + 1 = omega arith in
    rest_within ss at s f h e ∙ ap (λ (n : ℕ). Ok (with_todo f f.values (begun (stmt_of s) (rest_then (stmts_of (drop n ss)) f.todo)))) next

pub rest_past : (ss : List CheckedStmt) (at : ℕ) (f : Frame) → length ss ≤ at → proceeded f (Rest (stmts_of (drop at ss))) ≡ Err wrong.Bounds
rest_past [] zero f h = refl
rest_past [] (suc at) f h = refl
rest_past (x ∷ ss) zero f h = absurd (omega arith)
rest_past (x ∷ ss) (suc at) f h = rest_past ss at f (omega arith)

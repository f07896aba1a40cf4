-- Values that are taken from a stack, and functions that are looked up.
use Rattle.std.proofs.Common.{◌≡◌, ℕ, zero, suc, ◌+◌, ◌-◌, ◌<◌, ◌≤◌, List, [], ◌∷◌, length, map, get_or, refl, ap, arith}
use Rattle.nx_checked.specs.declared.checked.CheckedFunction.{CheckedFunction}
use Rattle.nx_checked.specs.Trees.{fun_of}
use Rattle.nx_cobjects.specs.declared.value.Value.{Value}
use Rattle.nx_cmean.specs.Meaning.{Taken, Short, taken, no_fun}

pub taken_one : (n : ℕ) (v : Value) (vs args : List Value) → 0 < n → taken n (v ∷ vs) args ≡ taken (n - 1) vs (v ∷ args)
taken_one zero v vs args h = absurd (omega arith)
taken_one (suc n) v vs args h = ap (λ (k : ℕ). taken k vs (v ∷ args)) (omega arith)

pub taken_short : (n : ℕ) (args : List Value) → 0 < n → taken n [] args ≡ Short
taken_short zero args h = absurd (omega arith)
taken_short (suc n) args h = refl

pub fun_in : (fs : List CheckedFunction) (i : ℕ) (g : CheckedFunction) → i < length fs → get_or fs i g ≡ g → get_or (map fun_of fs) i no_fun ≡ fun_of g
fun_in [] i g h e = absurd (omega arith)
fun_in (f ∷ fs) zero g h e = ap fun_of e
fun_in (f ∷ fs) (suc i) g h e = fun_in fs i g (omega arith) e

pub fun_out : (fs : List CheckedFunction) (i : ℕ) → length fs ≤ i → get_or (map fun_of fs) i no_fun ≡ no_fun
fun_out [] i h = refl
fun_out (f ∷ fs) zero h = absurd (omega arith)
fun_out (f ∷ fs) (suc i) h = fun_out fs i (omega arith)

-- Checks one after another: each is after what the checks before it used, and the first fault counts.
use Rattle.std.specs.Prelude.{◌≡◌, ℕ, List, [], ◌∷◌, Option, None, Some, Result, Ok, Err}
use Rattle.std.specs.Global.{Vec}
use Rattle.nx_ctok.specs.declared.fault.CKind.{CKind}
use Rattle.nx_ctok.specs.declared.fault.CFault.{CFault}
use Rattle.nx_crules.specs.Answers.{at, Fails}
use Rattle.nx_ctype.specs.declared.used.Used.{Used}

infixl 10 ◌>>=◌
abbrev pub ◌>>=◌ : {A B : Type 0} → Result A CFault → (A → Result B CFault) → Result B CFault
(Ok x) >>= f = f x
(Err e) >>= f = Err e

-- What is found after what was used before, and what is used then.
abbrev pub Check : Type 0 → Type 0
Check A = Used → Result (A × Used) CFault

-- A check that uses nothing.
abbrev pub leaf : {A : Type 0} → Result A CFault → Check A
leaf (Ok x) s = Ok (x, s)
leaf (Err e) s = Err e

-- One operand, and its operator's rule at a line.
abbrev pub one : {A B : Type 0} → (A → Result B CKind) → ℕ → Check A → Check B
one rule line a s = do
  x ← a s
  z ← at line (rule x.0)
  Ok (z, x.1)

-- Two operands, the left one first, and their operator's rule.
abbrev pub two : {A B C : Type 0} → (A → B → Result C CKind) → ℕ → Check A → Check B → Check C
two rule line a b s = do
  x ← a s
  y ← b x.1
  z ← at line (rule x.0 y.0)
  Ok (z, y.1)

-- Three operands in their order, and their operator's rule.
abbrev pub three : {A B C D : Type 0} → (A → B → C → Result D CKind) → ℕ → Check A → Check B → Check C → Check D
three rule line a b c s = do
  x ← a s
  y ← b x.1
  w ← c y.1
  z ← at line (rule x.0 y.0 w.0)
  Ok (z, w.1)

-- Two operands, the left one first.
abbrev pub both : {A B : Type 0} → Check A → Check B → Check (A × B)
both a b s = do
  x ← a s
  y ← b x.1
  Ok ((x.0, y.0), y.1)

-- One after another: the first, and the list of those after it.
abbrev pub before : {A : Type 0} → Check A → Check (List A) → Check (List A)
before a b s = do
  x ← a s
  y ← b x.1
  Ok (x.0 ∷ y.0, y.1)

-- What is found, seen otherwise.
abbrev pub mapped : {A B : Type 0} → (A → B) → Check A → Check B
mapped f a s = do
  x ← a s
  Ok (f x.0, x.1)

-- What was answered, with what is used then, is what was to be found, unless memory ran out.
abbrev pub IsGivenUsing : {A : Type 0} → Result A CFault → Used → Result (A × Used) CFault → Type 0
IsGivenUsing (Ok x) s r = r ≡ Ok (x, s)
IsGivenUsing (Err e) s r = Fails e r

-- The same of a list.
abbrev pub AreGivenUsing : {A : Type 0} → Result (Vec A) CFault → Used → Result (List A × Used) CFault → Type 0
AreGivenUsing (Ok xs) s r = r ≡ Ok (xs.items, s)
AreGivenUsing (Err e) s r = Fails e r

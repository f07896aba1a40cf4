-- What follows from an answer once more is to be found after it.
use Rattle.std.proofs.Common.{◌≡◌, ℕ, refl, subst}
use Rattle.std.specs.Prelude.{Result, Ok, Err}
use Rattle.nx_ctok.specs.declared.fault.CFault.{CFault}
use Rattle.nx_ctok.specs.declared.fault.CFault.TheVariants as fault
use Rattle.nx_ctok.specs.declared.fault.CKind.{CKind}
use Rattle.nx_crules.specs.Answers.{at, Fails, IsGiven}
use Rattle.nx_ctype.specs.declared.used.Used.{Used}
use Rattle.nx_ctyping.specs.Checks.{◌>>=◌, Check, leaf, both, one, two, three, IsGivenUsing}

-- A fault stays.
pub fails_bind : {A B : Type 0} (e : CFault) (r : Result A CFault) (f : A → Result B CFault) → Fails e r → Fails e (r >>= f)
fails_bind fault.Memory r f h = tt
fails_bind (fault.Text line k) r f h = rw h refl

-- A rule's answer comes with what is used so far.
pub given_bind : {A : Type 0} (r out : Result A CFault) (s : Used) → IsGiven r out → IsGivenUsing r s (out >>= (λ z. Ok (z, s)))
given_bind (Ok z) out s h = rw h refl
given_bind (Err e) out s h = fails_bind e out (λ z. Ok (z, s)) h

-- One operand.
pub one_fails : {A B : Type 0} (e : CFault) (rule : A → Result B CKind) (line : ℕ) (a : Check A) (s : Used) → Fails e (a s) → Fails e (one rule line a s)
one_fails e rule line a s h = fails_bind e (a s) (λ x. at line (rule x.0) >>= (λ z. Ok (z, x.1))) h

pub one_given : {A B : Type 0} (rule : A → Result B CKind) (line : ℕ) (a : Check A) (s t : Used) (x : A) (r : Result B CFault) → a s ≡ Ok (x, t) → IsGiven r (at line (rule x)) → IsGivenUsing r t (one rule line a s)
one_given rule line a s t x r h g = rw h (given_bind r (at line (rule x)) t g)

-- Two operands.
pub both_first : {A B : Type 0} (e : CFault) (a : Check A) (b : Check B) (s : Used) → Fails e (a s) → Fails e (both a b s)
both_first e a b s h = fails_bind e (a s) (λ x. b x.1 >>= (λ y. Ok ((x.0, y.0), y.1))) h

pub both_second : {A B : Type 0} (e : CFault) (a : Check A) (b : Check B) (s t : Used) (x : A) → a s ≡ Ok (x, t) → Fails e (b t) → Fails e (both a b s)
both_second e a b s t x h g = rw h (fails_bind e (b t) (λ y. Ok ((x, y.0), y.1)) g)

pub both_given : {A B : Type 0} (a : Check A) (b : Check B) (s t u : Used) (x : A) (y : B) → a s ≡ Ok (x, t) → b t ≡ Ok (y, u) → both a b s ≡ Ok ((x, y), u)
both_given a b s t u x y h g = rw h (rw g refl)

-- An operator over two operands is over both.
module _ {A B C : Type 0} (rule : A → B → Result C CKind) (line : ℕ) where
  abbrev finish : Result ((A × B) × Used) CFault → Result (C × Used) CFault
  finish r = do
    p ← r
    z ← at line (rule p.0.0 p.0.1)
    Ok (z, p.1)

  abbrev after : A → Result (B × Used) CFault → Result (C × Used) CFault
  after x r = do
    y ← r
    z ← at line (rule x y.0)
    Ok (z, y.1)

  abbrev with : A → Result (B × Used) CFault → Result ((A × B) × Used) CFault
  with x r = do
    y ← r
    Ok ((x, y.0), y.1)

  two_is : (a : Check A) (b : Check B) (s : Used) → two rule line a b s ≡ finish (both a b s)
  two_is a b s = by (a s)
    where
      next : (x : A) (r : Result (B × Used) CFault) → after x r ≡ finish (with x r)
      next x (Ok y) = refl
      next x (Err e) = refl

      by : (r : Result (A × Used) CFault) → (r >>= (λ x. after x.0 (b x.1))) ≡ finish (r >>= (λ x. with x.0 (b x.1)))
      by (Ok x) = next x.0 (b x.1)
      by (Err e) = refl

  pub two_fails : (e : CFault) (a : Check A) (b : Check B) (s : Used) → Fails e (both a b s) → Fails e (two rule line a b s)
  two_fails e a b s h = rw (two_is a b s) (fails_bind e (both a b s) (λ p. at line (rule p.0.0 p.0.1) >>= (λ z. Ok (z, p.1))) h)

  pub two_given : (a : Check A) (b : Check B) (s t : Used) (x : A) (y : B) (r : Result C CFault) → both a b s ≡ Ok ((x, y), t) → IsGiven r (at line (rule x y)) → IsGivenUsing r t (two rule line a b s)
  two_given a b s t x y r h g = rw (two_is a b s) (rw h (given_bind r (at line (rule x y)) t g))

-- Three operands: the first, and both others.
pub three_first : {A B C D : Type 0} (e : CFault) (rule : A → B → C → Result D CKind) (line : ℕ) (a : Check A) (b : Check B) (c : Check C) (s : Used) → Fails e (a s) → Fails e (three rule line a b c s)
three_first e rule line a b c s h = fails_bind e (a s) (λ x. two (rule x.0) line b c x.1) h

pub three_fails : {A B C D : Type 0} (e : CFault) (rule : A → B → C → Result D CKind) (line : ℕ) (a : Check A) (b : Check B) (c : Check C) (s t : Used) (x : A) → a s ≡ Ok (x, t) → Fails e (both b c t) → Fails e (three rule line a b c s)
three_fails e rule line a b c s t x h g = rw h (two_fails (rule x) line e b c t g)

pub three_given : {A B C D : Type 0} (rule : A → B → C → Result D CKind) (line : ℕ) (a : Check A) (b : Check B) (c : Check C) (s t u : Used) (x : A) (y : B) (z : C) (r : Result D CFault) → a s ≡ Ok (x, t) → both b c t ≡ Ok ((y, z), u) → IsGiven r (at line (rule x y z)) → IsGivenUsing r u (three rule line a b c s)
three_given rule line a b c s t u x y z r h g d = rw h (two_given (rule x) line b c t u y z r g d)

-- A leaf uses nothing.
pub leaf_given : {A : Type 0} (r q : Result A CFault) (s : Used) → IsGiven r q → IsGivenUsing r s (leaf q s)
leaf_given (Ok x) q s h = rw h refl
leaf_given (Err fault.Memory) q s h = tt
leaf_given (Err (fault.Text line k)) q s h = rw h refl

answered : {A : Type 0} (r : Result A CFault) (s : Used) → IsGivenUsing r s (leaf r s)
answered (Ok x) s = refl
answered (Err fault.Memory) s = tt
answered (Err (fault.Text line k)) s = refl

pub leaf_exact : {A : Type 0} (r q : Result A CFault) (s : Used) → r ≡ q → IsGivenUsing r s (leaf q s)
leaf_exact r q s h = subst (λ q. IsGivenUsing r s (leaf q s)) h (answered r s)

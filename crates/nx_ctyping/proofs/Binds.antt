-- Checks one after another: what they find by what their parts find, and back.
use Rattle.std.proofs.Common.{◌≡◌, ℕ, List, ◌∷◌, refl, sym, ap, ◌∙◌, subst}
use Rattle.std.specs.Prelude.{Result, Ok, Err}
use Rattle.nx_ctok.specs.declared.fault.CKind.{CKind}
use Rattle.nx_ctok.specs.declared.fault.CFault.{CFault}
use Rattle.nx_crules.specs.Answers.{at}
use Rattle.nx_ctype.specs.declared.used.Used.{Used}
use Rattle.nx_ctyping.specs.Checks.{◌>>=◌, Check, leaf, one, two, three, before}

abbrev pub found : {A : Type 0} → A → Used → Result (A × Used) CFault
found x s = Ok (x, s)

abbrev out : {A : Type 0} → A × Used → Result (A × Used) CFault → A × Used
out d (Ok x) = x
out d (Err e) = d

-- What holds of what was found holds of what was to be found.
pub carry : {A : Type 0} (P : A → Used → Type 0) (x y : A) (s t : Used) → found x s ≡ found y t → P x s → P y t
carry P x y s t h p = subst (λ q. P q.0 q.1) (ap (out (x, s)) h) p

abbrev pub given : {A : Type 0} → A → Result A CKind
given x = Ok x

abbrev out_given : {A : Type 0} → A → Result A CKind → A
out_given d (Ok x) = x
out_given d (Err e) = d

pub carry_given : {A : Type 0} (P : A → Type 0) (x y : A) → given x ≡ given y → P x → P y
carry_given P x y h p = subst P (ap (out_given x) h) p

-- From the parts.
pub one_on : {A B : Type 0} (rule : A → Result B CKind) (line : ℕ) (a : Check A) (s t : Used) (x : A) (z : B) → a s ≡ Ok (x, t) → rule x ≡ Ok z → one rule line a s ≡ Ok (z, t)
one_on rule line a s t x z h g = rw h (rw g refl)

pub two_on : {A B C : Type 0} (rule : A → B → Result C CKind) (line : ℕ) (a : Check A) (b : Check B) (s t u : Used) (x : A) (y : B) (z : C) → a s ≡ Ok (x, t) → b t ≡ Ok (y, u) → rule x y ≡ Ok z → two rule line a b s ≡ Ok (z, u)
two_on rule line a b s t u x y z h g k = rw h (rw g (rw k refl))

pub three_on : {A B C D : Type 0} (rule : A → B → C → Result D CKind) (line : ℕ) (a : Check A) (b : Check B) (c : Check C) (s t u v : Used) (x : A) (y : B) (w : C) (z : D) → a s ≡ Ok (x, t) → b t ≡ Ok (y, u) → c u ≡ Ok (w, v) → rule x y w ≡ Ok z → three rule line a b c s ≡ Ok (z, v)
three_on rule line a b c s t u v x y w z h g k l = rw h (rw g (rw k (rw l refl)))

pub before_on : {A : Type 0} (a : Check A) (b : Check (List A)) (s t u : Used) (x : A) (ys : List A) → a s ≡ Ok (x, t) → b t ≡ Ok (ys, u) → before a b s ≡ Ok (x ∷ ys, u)
before_on a b s t u x ys h g = rw h (rw g refl)

-- Back to the parts.
pub bind_back : {A B : Type 0} (r : Result A CFault) (f : A → Result B CFault) (y : B) → (r >>= f) ≡ Ok y → (x : A) × (r ≡ Ok x) × (f x ≡ Ok y)
bind_back (Ok x) f y h = (x, refl, h)
bind_back (Err e) f y h = absurd cc

pub rule_back : {A : Type 0} (line : ℕ) (r : Result A CKind) (s t : Used) (z : A) → (at line r >>= (λ x. found x s)) ≡ found z t → (r ≡ Ok z) × (s ≡ t)
rule_back line (Ok x) s t z h = (ap (λ q. given q.0) (ap (out (x, s)) h), ap (λ q. q.1) (ap (out (x, s)) h))
rule_back line (Err e) s t z h = absurd cc

pub one_back : {A B : Type 0} (rule : A → Result B CKind) (line : ℕ) (a : Check A) (s t : Used) (z : B) → one rule line a s ≡ Ok (z, t) → (x : A) × (a s ≡ Ok (x, t)) × (rule x ≡ Ok z)
one_back rule line a s t z h =
    let p = bind_back (a s) (λ x. at line (rule x.0) >>= (λ z. Ok (z, x.1))) (z, t) h in
    let q = rule_back line (rule p.0.0) p.0.1 t z p.2 in
    (p.0.0, p.1 ∙ ap (λ u. Ok (p.0.0, u)) q.1, q.0)

pub two_back : {A B C : Type 0} (rule : A → B → Result C CKind) (line : ℕ) (a : Check A) (b : Check B) (s t : Used) (z : C) → two rule line a b s ≡ Ok (z, t) →
    (x : A) × (m : Used) × (y : B) × (a s ≡ Ok (x, m)) × (b m ≡ Ok (y, t)) × (rule x y ≡ Ok z)
two_back rule line a b s t z h =
    let p = bind_back (a s) (λ x. b x.1 >>= (λ y. at line (rule x.0 y.0) >>= (λ z. Ok (z, y.1)))) (z, t) h in
    let q = one_back (rule p.0.0) line b p.0.1 t z p.2 in
    (p.0.0, p.0.1, q.0, p.1, q.1, q.2)

pub three_back : {A B C D : Type 0} (rule : A → B → C → Result D CKind) (line : ℕ) (a : Check A) (b : Check B) (c : Check C) (s t : Used) (z : D) → three rule line a b c s ≡ Ok (z, t) →
    (x : A) × (m : Used) × (y : B) × (n : Used) × (w : C) × (a s ≡ Ok (x, m)) × (b m ≡ Ok (y, n)) × (c n ≡ Ok (w, t)) × (rule x y w ≡ Ok z)
three_back rule line a b c s t z h =
    let p = bind_back (a s) (λ x. b x.1 >>= (λ y. c y.1 >>= (λ w. at line (rule x.0 y.0 w.0) >>= (λ z. Ok (z, w.1))))) (z, t) h in
    let q = two_back (rule p.0.0) line b c p.0.1 t z p.2 in
    (p.0.0, p.0.1, q.0, q.1, q.2, p.1, q.3, q.4, q.5)

abbrev pub cons : {A : Type 0} → A → List A → List A
cons x xs = x ∷ xs

pub before_back : {A : Type 0} (a : Check A) (b : Check (List A)) (s t : Used) (zs : List A) → before a b s ≡ Ok (zs, t) →
    (x : A) × (m : Used) × (ys : List A) × (a s ≡ Ok (x, m)) × (b m ≡ Ok (ys, t)) × (cons x ys ≡ zs)
before_back a b s t zs h =
    let p = bind_back (a s) (λ x. b x.1 >>= (λ y. Ok (x.0 ∷ y.0, y.1))) (zs, t) h in
    let q = bind_back (b p.0.1) (λ y. Ok (p.0.0 ∷ y.0, y.1)) (zs, t) p.2 in
    let e = ap (out (zs, t)) q.2 in
    (p.0.0, p.0.1, q.0.0, p.1, q.1 ∙ ap (λ u. Ok (q.0.0, u)) (ap (λ r. r.1) e), ap (λ r. r.0) e)

-- A fault is no answer.
abbrev pub lost : {A : Type 0} → CFault → Result A CFault
lost e = Err e

abbrev pub kept : {A : Type 0} → A → Result A CFault
kept x = Ok x

pub not_found : {A : Type 0} (e : CFault) (x : A) → lost e ≡ kept x → ⊥
not_found e x h = cc

abbrev pub refused : {A : Type 0} → CKind → Result A CKind
refused k = Err k

pub not_given : {A : Type 0} (k : CKind) (x : A) → refused k ≡ given x → ⊥
not_given k x h = cc

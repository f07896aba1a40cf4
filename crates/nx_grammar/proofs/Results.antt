-- What a reading that gave a result read.
use Rattle.std.proofs.Common.{◌≡◌, Bool, true, false, List, [], ◌∷◌, refl, sym, ap, ◌∙◌}
use Rattle.std.specs.Prelude.{Result, Ok, Err, if◌then◌else◌}
use Rattle.nx_grammar.specs.declared.kind.Kind.{Kind}
use Rattle.nx_grammar.specs.declared.kind.Kind.TheVariants.{Syntax}
use Rattle.nx_grammar.specs.Reading.{Out, Reading, Refuse, Take, picked, bind, done, expect}

-- What was read by one reading after another was read by each.
pub bound : {T A B : Type 0} (o : Out T A) (next : A → Reading T B) (y : B × List T) → bind o next ≡ Ok y → (a : A) × (mid : List T) × (o ≡ Ok (a, mid)) × (next a mid ≡ Ok y)
bound (Ok x) next y e = (x.0, x.1, refl, e)
bound (Err x) next y e = absurd cc

-- One result is one value.
ok_one : {X E : Type 0} (x y : X) → (let r : Result X E = Ok x in r) ≡ Ok y → x ≡ y
ok_one x y e = cc

-- One result is one tree and one list after it.
pub ok_same : {T A : Type 0} (a b : A) (r s : List T) → (let o : Out T A = Ok (a, r) in o) ≡ Ok (b, s) → (a ≡ b) × (r ≡ s)
ok_same {T = T} {A = A} a b r s e = let p = ok_one {X = A × List T} {E = Kind × List T} (a, r) (b, s) e in (ap (λ (x : A × List T). x.0) p, ap (λ (x : A × List T). x.1) p)

-- The token that was expected stood there.
pub record Found {T : Type 0} (test : T → Bool) (ts : List T) (t : T) (rest : List T) : Type 0 where
  pub is : ts ≡ t ∷ rest
  pub good : test t ≡ true

-- By whether the next token passes the test.
found_case : {T : Type 0} (test : T → Bool) (u : T) (us : List T) (t : T) (rest : List T) (b : Bool) → test u ≡ b → (let x : Out T T = picked (if b then Take (done u) else Refuse Syntax) u us in x) ≡ Ok (t, rest) → Found test (u ∷ us) t rest
found_case test u us t rest true good e =
    let o = ok_same u t us rest e in
    let same : u ≡ t = o.0 in
    let tail : us ≡ rest = o.1 in
    record { is = cc; good = ap test (sym same) ∙ good }
found_case test u us t rest false good e = absurd cc

-- What an expected token was.
pub found : {T : Type 0} (test : T → Bool) (ts : List T) (t : T) (rest : List T) → expect test ts ≡ Ok (t, rest) → Found test ts t rest
found test [] t rest e = absurd cc
found test (u ∷ us) t rest e = found_case test u us t rest (test u) refl e

-- A token that passes the test is read.
pub expect_on : {T : Type 0} (test : T → Bool) (t : T) (rest : List T) → test t ≡ true → expect test (t ∷ rest) ≡ Ok (t, rest)
expect_on test t rest good = rw good refl

-- Numbers in parentheses are read as their grammar says.
use Rattle.std.proofs.Common.{◌≡◌, ℕ, zero, suc, ◌<◌, Bool, true, false, List, [], ◌∷◌, refl, ap, ◌∙◌, arith, subst}
use Rattle.std.specs.Prelude.{Ok, Err, if◌then◌else◌}
use Rattle.nx_grammar.specs.declared.kind.Kind.{Kind}
use Rattle.nx_grammar.specs.declared.kind.Kind.TheVariants.{Syntax, Limit}
use Rattle.nx_grammar.specs.declared.parens.Piece.{Piece}
use Rattle.nx_grammar.specs.declared.parens.Piece.TheVariants as piece
use Rattle.nx_grammar.specs.declared.parens.Nested.{Nested}
use Rattle.nx_grammar.specs.Reading.{Out, Reading, Pick, Refuse, Pass, Take, picked, dispatch, bind, done, expect}
use Rattle.nx_grammar.specs.Lawful.{Heads, Any, Lives, Law}
use Rattle.nx_grammar.specs.Growing.{Wider, PickGrown}
use Rattle.nx_grammar.specs.Sparing.{Spares}
use Rattle.nx_grammar.specs.Faults.{Reads}
use Rattle.nx_grammar.specs.Nested.{bare, deeper, IsNested, Bare, Within, IsWhole, IsEnd, is_close, is_end, inner_rest, begun, open_pick, nested_pick, nested_at, end_pick, whole_at}
use Rattle.nx_grammar.proofs.Sequences.{law_seq, law_done}
use Rattle.nx_grammar.proofs.Choices.{law_dispatch, taken_by, law_expect}
use Rattle.nx_grammar.proofs.Results.{bound, ok_same, found}
use Rattle.nx_grammar.proofs.Growth.{shortens, grows_done, grows_dispatch, wider_seq, wider_done, wider_expect}
use Rattle.nx_grammar.proofs.Spares.{spares_seq, spares_done, spares_dispatch, spares_expect}

-- The shortest text begins with a number.
abbrev pub IsZero : Piece → Type 0
IsZero t = t ≡ piece.Number 0

abbrev IsClose : Piece → Type 0
IsClose t = t ≡ piece.Close

took : (p q : Reading Piece Nested) (F I : Piece → Type 0) → Law p F I → (let x : Pick Piece Nested = Take p in x) ≡ Take q → Lives q F Any
took p q F I law e = let s : p ≡ q = cc in subst (λ x. Lives x F Any) s (taken_by p F F I (λ t i. i) law)

-- ---- One token of lookahead.

closes_law : Law (expect is_close) Any IsClose
closes_law = law_expect is_close IsClose piece.Close refl refl

inner_law : (inner : Reading Piece Nested) → Law inner Any IsZero → Law (inner_rest inner) Any IsZero
unfolding inner_rest
inner_law inner law = law_seq inner _ Any IsZero Any IsClose law (λ x. law_seq (expect is_close) _ Any IsClose Any Any closes_law (λ c. law_done (deeper x) Any) (λ t i. tt)) (λ t i. tt)

begun_takes : (x : Pick Piece Nested) → ((q : Reading Piece Nested) → x ≡ Take q → Lives q Any Any) → (t : Piece) (q : Reading Piece Nested) → begun x t ≡ Take q → Lives q Any Any
begun_takes x law (piece.Number n) q e = took (done (bare n)) q Any Any (law_done (bare n) Any) e
begun_takes x law piece.Open q e = law q e
begun_takes x law _ q e = absurd cc

begun_passes : (x : Pick Piece Nested) → ((a : Nested) → x ≡ Pass a → ⊥) → (t : Piece) (a : Nested) → begun x t ≡ Pass a → ⊥
begun_passes x none (piece.Number n) a e = cc
begun_passes x none piece.Open a e = none a e
begun_passes x none _ a e = cc

pub nested_law : (d : ℕ) → Law (nested_at d) Any IsZero
unfolding open_pick
nested_law zero = law_dispatch (nested_pick zero) Any IsZero
    (record { takes = λ t q e. begun_takes (Refuse Limit) (λ q e. absurd cc) t q e; passes = λ t a e. absurd (begun_passes (Refuse Limit) (λ a e. cc) t a e) })
    (record { value = bare 0; words = λ r. piece.Number 0 ∷ r; ends = λ r h. refl; first = λ r h. refl })
nested_law (suc d) = law_dispatch (nested_pick (suc d)) Any IsZero
    (record {
      takes = λ t q e. begun_takes (Take (inner_rest (nested_at d))) (λ q e. took (inner_rest (nested_at d)) q Any IsZero (inner_law (nested_at d) (nested_law d)) e) t q e;
      passes = λ t a e. absurd (begun_passes (Take (inner_rest (nested_at d))) (λ a e. cc) t a e);
    })
    (record { value = bare 0; words = λ r. piece.Number 0 ∷ r; ends = λ r h. refl; first = λ r h. refl })

-- The end is passed, and nothing is taken there.
end_takes : (x : Nested) (b : Bool) (q : Reading Piece Nested) → (let y : Pick Piece Nested = if b then Pass x else Refuse Syntax in y) ≡ Take q → ⊥
end_takes x true q e = cc
end_takes x false q e = cc

end_passes : (x : Nested) (b : Bool) (a : Nested) → (let y : Pick Piece Nested = if b then Pass x else Refuse Syntax in y) ≡ Pass a → x ≡ a
end_passes x true a e = cc
end_passes x false a e = absurd cc

end_ends : (x : Nested) (r : List Piece) → Heads IsEnd r → dispatch (end_pick x) r ≡ Ok (x, r)
end_ends x [] h = absurd h
end_ends x (t ∷ ts) h = ap (λ u. picked (end_pick x u) t ts) h

end_law : (x : Nested) → Law (dispatch (end_pick x)) IsEnd IsEnd
end_law x = law_dispatch (end_pick x) IsEnd IsEnd
    (record { takes = λ t q e. absurd (end_takes x (is_end t) q e); passes = λ t a e u f. (ap (end_pick x) f ∙ ap Pass (end_passes x (is_end t) a e), f) })
    (record { value = x; words = λ r. r; ends = λ r h. end_ends x r h; first = λ r h. h })

whole_law : (limit : ℕ) → Law (whole_at limit) IsEnd IsZero
whole_law limit = law_seq (nested_at limit) (λ x. dispatch (end_pick x)) Any IsZero IsEnd IsEnd (nested_law limit) end_law (λ t i. tt)

-- ---- A wider limit.

begun_grown : (x y : Pick Piece Nested) → PickGrown x y → (t : Piece) → PickGrown (begun x t) (begun y t)
begun_grown x y h (piece.Number n) = (done (bare n), refl, grows_done (bare n))
begun_grown x y h piece.Open = h
begun_grown x y h _ = refl

inner_wider : (narrow wide : Reading Piece Nested) → Wider narrow wide → Wider (inner_rest narrow) (inner_rest wide)
unfolding inner_rest
inner_wider narrow wide w = wider_seq narrow wide _ _ w (λ x. wider_seq (expect is_close) (expect is_close) _ _ (wider_expect is_close) (λ c. wider_done (deeper x)))

nested_wider : (d e : ℕ) → d < e → Wider (nested_at d) (nested_at e)
unfolding open_pick
nested_wider zero zero l = absurd (omega arith)
nested_wider (suc d) zero l = absurd (omega arith)
nested_wider zero (suc e) l = record {
  grows = grows_dispatch (nested_pick zero) (nested_pick (suc e))
      (λ t. begun_grown (Refuse Limit) (Take (inner_rest (nested_at e))) (inner_rest (nested_at e), refl, shortens (inner_rest (nested_at e)) Any IsZero (inner_law (nested_at e) (nested_law e))) t);
  short = shortens (nested_at (suc e)) Any IsZero (nested_law (suc e));
}
nested_wider (suc d) (suc e) l = record {
  grows = grows_dispatch (nested_pick (suc d)) (nested_pick (suc e))
      (λ t. begun_grown (Take (inner_rest (nested_at d))) (Take (inner_rest (nested_at e))) (inner_rest (nested_at e), refl, (inner_wider (nested_at d) (nested_at e) (nested_wider d e (omega arith))).grows) t);
  short = shortens (nested_at (suc e)) Any IsZero (nested_law (suc e));
}

end_grown : (x : Nested) (b : Bool) → PickGrown {T = Piece} {A = Nested} (if b then Pass x else Refuse Syntax) (if b then Pass x else Refuse Syntax)
end_grown x true = refl
end_grown x false = refl

end_wider : (x : Nested) → Wider (dispatch (end_pick x)) (dispatch (end_pick x))
end_wider x = record { grows = grows_dispatch (end_pick x) (end_pick x) (λ t. end_grown x (is_end t)); short = shortens (dispatch (end_pick x)) IsEnd IsEnd (end_law x) }

whole_wider : (d e : ℕ) → d < e → Wider (whole_at d) (whole_at e)
whole_wider d e l = wider_seq (nested_at d) (nested_at e) _ _ (nested_wider d e l) end_wider

-- ---- The last token.

begun_spares : (x : Pick Piece Nested) → ((q : Reading Piece Nested) → x ≡ Take q → Spares IsEnd q) → (t : Piece) (q : Reading Piece Nested) → begun x t ≡ Take q → (IsEnd t → ⊥) × Spares IsEnd q
begun_spares x law (piece.Number n) q e = let s : done (bare n) ≡ q = cc in (λ k. cc, subst (λ z. Spares IsEnd z) s (spares_done IsEnd (bare n)))
begun_spares x law piece.Open q e = (λ k. cc, law q e)
begun_spares x law _ q e = absurd cc

no_end : (t : Piece) → is_close t ≡ true → IsEnd t → ⊥
no_end t e k = let z : is_close t ≡ false = ap is_close k in cc

inner_spares : (inner : Reading Piece Nested) → Spares IsEnd inner → Spares IsEnd (inner_rest inner)
unfolding inner_rest
inner_spares inner s = spares_seq IsEnd inner _ s (λ x. spares_seq IsEnd (expect is_close) _ (spares_expect IsEnd is_close no_end) (λ c. spares_done IsEnd (deeper x)))

nested_spares : (d : ℕ) → Spares IsEnd (nested_at d)
unfolding open_pick
nested_spares zero = spares_dispatch IsEnd (nested_pick zero) (λ t. record { takes = λ q e. begun_spares (Refuse Limit) (λ q e. absurd cc) t q e })
nested_spares (suc d) = spares_dispatch IsEnd (nested_pick (suc d)) (λ t. record {
  takes = λ q e. begun_spares (Take (inner_rest (nested_at d))) (λ q e. let s : inner_rest (nested_at d) ≡ q = cc in subst (λ z. Spares IsEnd z) s (inner_spares (nested_at d) (nested_spares d))) t q e;
})

pub whole_spares : (limit : ℕ) → Spares IsEnd (whole_at limit)
whole_spares limit = spares_seq IsEnd (nested_at limit) (λ x. dispatch (end_pick x)) (nested_spares limit) (λ x. spares_dispatch IsEnd (end_pick x) (λ t. record { takes = λ q e. absurd (end_takes x (is_end t) q e) }))

-- ---- What is read was there.

moved : (d : ℕ) (ts : List Piece) (x y : Nested) (r s : List Piece) → (let o : Out Piece Nested = Ok (x, r) in o) ≡ Ok (y, s) → IsNested d ts x r → IsNested d ts y s
moved d ts x y r s e h = let o = ok_same x y r s e in subst (λ z. IsNested d ts y z) o.1 (subst (λ z. IsNested d ts z r) o.0 h)

closing : (t : Piece) → is_close t ≡ true → t ≡ piece.Close
closing piece.Close e = refl
closing _ e = absurd cc

found_inner : (d : ℕ) → ((ts : List Piece) (x : Nested) (rest : List Piece) → nested_at d ts ≡ Ok (x, rest) → IsNested d ts x rest) → (ts : List Piece) (x : Nested) (rest : List Piece) → inner_rest (nested_at d) ts ≡ Ok (x, rest) → IsNested (suc d) (piece.Open ∷ ts) x rest
unfolding inner_rest
found_inner d sound ts x rest e =
    let a = bound (nested_at d ts) _ (x, rest) e in
    let c = bound (expect is_close a.1) _ (x, rest) a.3 in
    let f = found is_close a.1 c.0 c.1 c.2 in
    let is : a.1 ≡ piece.Close ∷ c.1 = f.is ∙ ap (λ z. z ∷ c.1) (closing c.0 f.good) in
    moved (suc d) (piece.Open ∷ ts) (deeper a.0) x c.1 rest c.3 (Within d ts c.1 a.0 (subst (λ z. IsNested d ts a.0 z) is (sound ts a.0 a.1 a.2)))

begun_sound : (d : ℕ) (x : Pick Piece Nested) → ((ts : List Piece) (a : Nested) (rest : List Piece) → picked x piece.Open ts ≡ Ok (a, rest) → IsNested d (piece.Open ∷ ts) a rest) →
    (t : Piece) (ts : List Piece) (a : Nested) (rest : List Piece) → picked (begun x t) t ts ≡ Ok (a, rest) → IsNested d (t ∷ ts) a rest
begun_sound d x inner (piece.Number n) ts a rest e = moved d (piece.Number n ∷ ts) (bare n) a ts rest e (Bare d n ts)
begun_sound d x inner piece.Open ts a rest e = inner ts a rest e
begun_sound d x inner _ ts a rest e = absurd cc

nested_sound : (d : ℕ) (ts : List Piece) (x : Nested) (rest : List Piece) → nested_at d ts ≡ Ok (x, rest) → IsNested d ts x rest
unfolding open_pick
nested_sound d [] x rest e = absurd cc
nested_sound zero (t ∷ ts) x rest e = begun_sound zero (Refuse Limit) (λ ts a rest e. absurd cc) t ts x rest e
nested_sound (suc d) (t ∷ ts) x rest e = begun_sound (suc d) (Take (inner_rest (nested_at d))) (found_inner d (nested_sound d)) t ts x rest e

end_found : (x : Nested) (t : Piece) (ts : List Piece) (a : Nested) (rest : List Piece) → picked (end_pick x t) t ts ≡ Ok (a, rest) → (x ≡ a) × (t ∷ ts ≡ rest) × (t ≡ piece.End)
end_found x piece.End ts a rest e = let o = ok_same x a (piece.End ∷ ts) rest e in (o.0, o.1, refl)
end_found x _ ts a rest e = absurd cc

ended : (x : Nested) (ts : List Piece) (a : Nested) (rest : List Piece) → dispatch (end_pick x) ts ≡ Ok (a, rest) → (more : List Piece) × (ts ≡ piece.End ∷ more) × (x ≡ a)
ended x [] a rest e = absurd cc
ended x (t ∷ ts) a rest e = let f = end_found x t ts a rest e in (ts, ap (λ z. z ∷ ts) f.2, f.0)

pub whole_sound : (limit : ℕ) (ts : List Piece) (x : Nested) (rest : List Piece) → whole_at limit ts ≡ Ok (x, rest) → IsWhole limit ts x
whole_sound limit ts x rest e =
    let a = bound (nested_at limit ts) (λ y. dispatch (end_pick y)) (x, rest) e in
    let f = ended a.0 a.1 x rest a.3 in
    record { rest = f.0; has = subst (λ z. IsNested limit ts z (piece.End ∷ f.0)) f.2 (subst (λ z. IsNested limit ts a.0 z) f.1 (nested_sound limit ts a.0 a.1 a.2)) }

-- ---- What was there is read.

inner_on : (inner : Reading Piece Nested) (ts : List Piece) (x : Nested) (rest : List Piece) → inner ts ≡ Ok (x, piece.Close ∷ rest) → inner_rest inner ts ≡ Ok (deeper x, rest)
unfolding inner_rest
inner_on inner ts x rest e = rw e refl

bare_on : (d n : ℕ) (rest : List Piece) → nested_at d (piece.Number n ∷ rest) ≡ Ok (bare n, rest)
unfolding open_pick
bare_on zero n rest = refl
bare_on (suc d) n rest = refl

-- What a "(" does, by how many pairs are left.
pub opens_on : (d e : ℕ) (ts : List Piece) → d ≡ suc e → picked (open_pick d) piece.Open ts ≡ inner_rest (nested_at e) ts
unfolding open_pick
opens_on d e ts h = ap (λ n. picked (open_pick n) piece.Open ts) h

pub stops_on : (d : ℕ) (ts : List Piece) → d ≡ 0 → picked (open_pick d) piece.Open ts ≡ Err (Limit, piece.Open ∷ ts)
unfolding open_pick
stops_on d ts h = ap (λ n. picked (open_pick n) piece.Open ts) h

within_on : (d : ℕ) (ts : List Piece) → nested_at (suc d) (piece.Open ∷ ts) ≡ inner_rest (nested_at d) ts
unfolding open_pick
within_on d ts = refl

nested_complete : {d : ℕ} {ts : List Piece} {x : Nested} {rest : List Piece} → IsNested d ts x rest → nested_at d ts ≡ Ok (x, rest)
nested_complete (Bare d n rest) = bare_on d n rest
nested_complete (Within d ts rest x h) = within_on d ts ∙ inner_on (nested_at d) ts x rest (nested_complete h)

whole_complete : (limit : ℕ) (ts : List Piece) (x : Nested) → (h : IsWhole limit ts x) → whole_at limit ts ≡ Ok (x, piece.End ∷ h.rest)
whole_complete limit ts x h = ap (λ o. bind o (λ y. dispatch (end_pick y))) (nested_complete h.has)

-- So what is refused has no tree.
pub refused : (limit : ℕ) (ts : List Piece) (why : Kind) (rest : List Piece) → whole_at limit ts ≡ Err (why, rest) → (x : Nested) → IsWhole limit ts x → ⊥
refused limit ts why rest e x h = let g = whole_complete limit ts x h in absurd cc

-- What the laws of grammars ask for.
pub nested_reads : Reads whole_at IsWhole IsEnd IsZero piece.End 1
nested_reads = record {
  sound = λ limit ts x e. whole_sound limit ts x (piece.End ∷ []) e;
  complete = λ limit ts x h. (piece.End ∷ h.rest, whole_complete limit ts x h);
  lives = λ limit. (whole_law limit).lives;
  grows = λ limit wider l. (whole_wider limit wider (omega (arith, l))).grows;
  stops = refl;
}

-- How a text is read from place to place.
use Rattle.std.proofs.Common.{◌≡◌, ℕ, suc, ◌+◌, ◌<◌, ◌≤◌, ◌||◌, ◌==◌, if◌then◌else◌, nat_lt, Bool, true, false, List, [], ◌∷◌, ◌++◌, length, refl, sym, ap, ◌∙◌, arith, subst, append_assoc, append-nil, le-ltb}
use Rattle.std.proofs.lemmas.Bool.{lt-ltb, ltb-true, ltb-false}
use Rattle.std.specs.Prelude.{Result, Ok, Err}
use Rattle.nx_ctok.specs.declared.fault.CKind.{CKind}
use Rattle.nx_ctok.specs.declared.fault.CFault.{CFault}
use Rattle.nx_ctok.specs.declared.fault.CFault.TheVariants as fault
use Rattle.nx_ctok.specs.declared.token.TokenKind.TheVariants as kind
use Rattle.nx_ctok.specs.declared.token.Token.{Token}
use Rattle.nx_ctok.specs.declared.token.Word.{Word}
use Rattle.nx_ctok.specs.declared.value.Definition.{Definition}
use Rattle.nx_ctok.specs.declared.reader.Reader.{Reader}
use Rattle.nx_ctok.specs.Comments.{newlines, line_at}
use Rattle.nx_ctok.specs.Directives.{Space, Spelled, Define, Wrong}
use Rattle.nx_ctok.specs.Tokens.{Definitions, with_definition, meaning, replaced, ahead, piece_at, Tokenizes, End, Refused, Skipped, Taken, Defined, HasTokens}
use Rattle.nx_ctok.specs.Views.{IsLeft, values_in}
use Rattle.nx_ctok.specs.Reading.{TokenizesFrom, LeadsTo, Reached}
use Rattle.nx_ctok.proofs.Definitions.{values_none}

-- No tokens before others.
ahead_none : (out : Result (List Token) CFault) → out ≡ ahead [] out
ahead_none (Ok ts) = refl
ahead_none (Err e) = refl

ahead_more : (xs ys : List Token) (out : Result (List Token) CFault) → ahead xs (ahead ys out) ≡ ahead (xs ++ ys) out
ahead_more xs ys (Ok ts) = ap (λ (us : List Token). let o : Result (List Token) CFault = Ok us in o) (sym (append_assoc xs ys ts))
ahead_more xs ys (Err e) = refl

-- What is refused at the start of a rest.
pub refused : (text rest : List ℕ) (fresh : Bool) (values : Definitions) (line : ℕ) (k : CKind) → 0 < length rest → piece_at fresh rest ≡ Wrong k → line ≡ line_at text rest →
    Tokenizes text fresh values rest (Err (fault.Text line k))
refused text [] fresh values line k m e l = absurd (omega arith)
refused text (b ∷ bs) fresh values line k m e l = subst (λ n. Tokenizes text fresh values (b ∷ bs) (Err (fault.Text n k))) (sym l) (Refused fresh values b bs k e)

-- A newline was passed where fewer are left.
passed : (n a b : ℕ) → b ≡ n + a → nat_lt 0 n ≡ nat_lt a b
passed n a b e = by (nat_lt 0 n) refl
  where
    none : (n : ℕ) → nat_lt 0 n ≡ false → n ≡ 0
    none n h = grind (arith, ltb-false 0 n h)

    by : (t : Bool) → nat_lt 0 n ≡ t → t ≡ nat_lt a b
    by true h = let p : 0 < n = ltb-true 0 n h in sym (lt-ltb a b (omega arith))
    by false h = let z : n ≡ 0 = none n h in sym (not_less (omega arith))
      where
        not_less : b ≤ a → nat_lt a b ≡ false
        not_less l = grind (arith, le-ltb a b l)

pub follow_space : (old new : Reader) (rest after : List ℕ) (n : ℕ) → piece_at old.fresh rest ≡ Space after → IsLeft after n rest →
    new ≡ record old { line = old.line + n; fresh = old.fresh || nat_lt 0 n } → LeadsTo old rest new after
follow_space old new rest after n e left is = subst (λ r. LeadsTo old rest r after) (sym is) (record {
  found = [];
  is = sym (append-nil old.found.items);
  line = omega (arith, left.lines);
  later = omega arith;
  less = left.less;
  gives = λ text l out x. subst (λ o. Tokenizes text old.fresh (values_in old.table) rest o) (ahead_none out)
      (Skipped old.fresh (values_in old.table) rest after out e
      (subst (λ t. Tokenizes text (old.fresh || t) (values_in old.table) after out) (passed n (newlines after) (newlines rest) left.lines) x));
})

pub follow_word : (old new : Reader) (rest : List ℕ) (w : Word) → piece_at old.fresh rest ≡ Spelled w → IsLeft w.rest 0 rest →
    new.found.items ≡ old.found.items ++ replaced old.line w.kind w.text (meaning (values_in old.table) w.kind w.text) → new.table ≡ old.table → new.line ≡ old.line → new.fresh ≡ false →
    LeadsTo old rest new w.rest
follow_word old new rest w e left f t l n = record {
  found = replaced old.line w.kind w.text (meaning (values_in old.table) w.kind w.text);
  is = f;
  line = omega (arith, left.lines, l);
  later = omega (arith, l);
  less = left.less;
  gives = λ text h out x. subst (λ m. Tokenizes text old.fresh (values_in old.table) rest (ahead (replaced m w.kind w.text (meaning (values_in old.table) w.kind w.text)) out)) (sym h)
      (Taken old.fresh (values_in old.table) rest w out e
      (subst (λ t. Tokenizes text false (values_in t) w.rest out) t (subst (λ q. Tokenizes text q (values_in new.table) w.rest out) n x)));
}

pub follow_definition : (old new : Reader) (rest after : List ℕ) (d : Definition) → piece_at old.fresh rest ≡ Define d after → IsLeft after 0 rest →
    new.found.items ≡ old.found.items → values_in new.table ≡ with_definition (values_in old.table) d → new.line ≡ old.line → new.fresh ≡ false → LeadsTo old rest new after
follow_definition old new rest after d e left f t l n = record {
  found = [];
  is = f ∙ sym (append-nil old.found.items);
  line = omega (arith, left.lines, l);
  later = omega (arith, l);
  less = left.less;
  gives = λ text h out x. subst (λ o. Tokenizes text old.fresh (values_in old.table) rest o) (ahead_none out)
      (Defined old.fresh (values_in old.table) rest after d out e
      (subst (λ v. Tokenizes text false v after out) t (subst (λ q. Tokenizes text q (values_in new.table) after out) n x)));
}

-- A place's line, by the newlines after it.
pub line_there : (text rest : List ℕ) (line : ℕ) → 1 ≤ line → line + newlines rest ≡ 1 + newlines text → line ≡ line_at text rest
line_there text rest line f e = omega arith

pub reached_first : (text : List ℕ) (r : Reader) → r.found.items ≡ [] → r.table ≡ [] → r.line ≡ 1 → r.fresh ≡ true → Reached text r text
reached_first text r f t l n = record {
  first = omega (arith, l);
  line = ap (λ m. m + newlines text) l;
  gives = λ out x. subst (λ ts. HasTokens text (ahead ts out)) (sym f) (subst (λ o. HasTokens text o) (ahead_none out)
      (subst (λ v. Tokenizes text true v text out) (ap values_in t ∙ values_none) (subst (λ q. Tokenizes text q (values_in r.table) text out) n x)));
}

pub reached_next : (text : List ℕ) (old new : Reader) (rest after : List ℕ) → Reached text old rest → LeadsTo old rest new after → Reached text new after
reached_next text old new rest after r f = record {
  first = omega (arith, r.first, f.later);
  line = omega (arith, r.line, f.line);
  gives = λ out x. subst (λ ts. HasTokens text (ahead ts out)) (sym f.is) (subst (λ o. HasTokens text o) (ahead_more old.found.items f.found out)
      (r.gives (ahead f.found out) (f.gives text (line_there text rest old.line r.first r.line) out x)));
}

-- At the end.
pub reached_end : (text : List ℕ) (r : Reader) (rest : List ℕ) → rest ≡ [] → Reached text r rest →
    HasTokens text (Ok (r.found.items ++ record { kind = kind.End; text = rest; line = r.line } ∷ []))
reached_end text r rest e x =
    let l : r.line ≡ line_at text rest = line_there text rest r.line x.first x.line in
    let at : (bs : List ℕ) → bs ≡ [] → TokenizesFrom text r bs (Ok (record { kind = kind.End; text = bs; line = line_at text bs } ∷ [])) =
    λ bs q. subst (λ y. TokenizesFrom text r y (Ok (record { kind = kind.End; text = y; line = line_at text y } ∷ []))) (sym q) (End r.fresh (values_in r.table)) in
    x.gives (Ok (record { kind = kind.End; text = rest; line = r.line } ∷ []))
    (subst (λ n. TokenizesFrom text r rest (Ok (record { kind = kind.End; text = rest; line = n } ∷ []))) (sym l) (at rest e))

-- Where the rest is refused, the text is.
pub reached_fault : (text : List ℕ) (r : Reader) (rest : List ℕ) (line : ℕ) (k : CKind) → Reached text r rest →
    ((t : List ℕ) → r.line ≡ line_at t rest → TokenizesFrom t r rest (Err (fault.Text line k))) → HasTokens text (Err (fault.Text line k))
reached_fault text r rest line k x f = x.gives (Err (fault.Text line k)) (f text (line_there text rest r.line x.first x.line))

-- A text has no more newlines than bytes.
pub newlines_few : (bs : List ℕ) → newlines bs ≤ length bs
newlines_few [] = omega arith
newlines_few (b ∷ bs) = by (b == 10) (newlines_few bs)
  where
    by : (t : Bool) → newlines bs ≤ length bs → (if t then suc (newlines bs) else newlines bs) ≤ suc (length bs)
    by true h = omega arith
    by false h = omega arith

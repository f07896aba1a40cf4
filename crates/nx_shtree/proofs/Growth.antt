-- What a wider limit does to the reading of a script.
use Rattle.std.proofs.Common.{◌≡◌, ℕ, zero, suc, ◌+◌, ◌<◌, ◌≤◌, Bool, true, false, List, [], ◌∷◌, ◌++◌, length, length-append, Some, refl, ap, ◌∙◌, arith}
use Rattle.std.specs.Prelude.{Ok, nat_lt, if◌then◌else◌}
use Rattle.std.proofs.lemmas.Bool.{lt-ltb, ltb-true}
use Rattle.nx_grammar.specs.declared.kind.Kind.TheVariants.{Limit}
use Rattle.nx_grammar.specs.Reading.{Reading, Pick, Refuse, Pass, Take, dispatch, done, expect, then_pick, loop}
use Rattle.nx_grammar.specs.Lawful.{Any}
use Rattle.nx_grammar.specs.Growing.{Grows, Wider, PickGrown}
use Rattle.nx_grammar.proofs.Results.{ok_same}
use Rattle.nx_grammar.proofs.Growth.{shortens, grows_done, grows_dispatch, wider_seq, wider_done}
use Rattle.nx_grammar.proofs.LoopLaws.{law_loop}
use Rattle.nx_grammar.proofs.LoopGrowth.{grows_loop, grows_loop_by}
use Rattle.nx_grammar.proofs.Thens.{then_grown}
use Rattle.nx_shtok.specs.declared.token.TokenKind.{TokenKind}
use Rattle.nx_shtok.specs.declared.token.TokenKind.TheVariants as mark
use Rattle.nx_shtok.specs.declared.token.Token.{Token}
use Rattle.nx_shtok.specs.declared.token.Word.{Word}
use Rattle.nx_shtree.specs.declared.keyword.Keyword.{Keyword}
use Rattle.nx_shtree.specs.declared.keyword.Keyword.TheVariants as key
use Rattle.nx_shtree.specs.declared.tree.Mode.{Mode}
use Rattle.nx_shtree.specs.declared.tree.Mode.TheVariants.{Truncate, Append}
use Rattle.nx_shtree.specs.declared.tree.Simple.{Simple}
use Rattle.nx_shtree.specs.Words.{Head, Reserved, First, Separator, Last, Other, head_of, is_keyword, is_separator}
use Rattle.nx_shtree.specs.Trees as tree
use Rattle.nx_shtree.specs.Trees.{Item, At, items}
use Rattle.nx_shtree.specs.Grammar.{redirection, simple}
use Rattle.nx_shtree.specs.Reading.{word_pick, words_at, file_pick, file_at, output_pick, output_at, simple_rest, simple_pick, simple_at, separator_pick, separators, condition_at, closing, ending_pick, ending_at, fi_rest, else_rest, else_pick, branches_at, if_rest, while_rest, until_rest, deeper, barred, item_pick, ends_list, round_pick, list_pick, reserved_pick, list_at, end_pick, script_at}
use Rattle.nx_shtree.specs.Laws.{EndsList, IsEnd}
use Rattle.nx_shtree.proofs.Heads.{Is, NotWord, Ends, NotSeparator, plain, key_wider, separator_wider}
use Rattle.nx_shtree.proofs.SimpleLaws.{words_rounds, words_law, output_law, simple_rest_law, simple_law, separator_rounds}
use Rattle.nx_shtree.proofs.ListLaws.{ListLaw, ending_law, branches_law, if_law, while_law, until_law, Begins, list_rounds, lists_law, begins, end_law}

-- ---- Simple commands.

-- Where the words so far are within the limit, one that the limit refuses is taken by a wider one.
word_grown : (m e : ℕ) (ws : List Word) (k : TokenKind) → m < e → length ws ≤ m → PickGrown (word_pick m ws k) (word_pick e ws k)
word_grown m e ws (mark.Word w) l n = by_test (nat_lt (length ws) m)
  where
    wide : nat_lt (length ws) e ≡ true
    wide = lt-ltb (length ws) e (omega (arith, l, n))

    by_test : (b : Bool) → PickGrown {T = Token} {A = List Word} (if b then Take (done (ws ++ w ∷ [])) else Refuse Limit) (word_pick e ws (mark.Word w))
    by_test true = (done (ws ++ w ∷ []), rw wide refl, grows_done (ws ++ w ∷ []))
    by_test false = (done (ws ++ w ∷ []), rw wide refl, record { on = λ ts. ([], refl) })
word_grown m e ws mark.Newline l n = refl
word_grown m e ws mark.Semi l n = refl
word_grown m e ws mark.And l n = refl
word_grown m e ws mark.Into l n = refl
word_grown m e ws mark.Append l n = refl
word_grown m e ws mark.End l n = refl

-- A word that is taken is within the limit with those before it.
pub word_within : (m : ℕ) (ws vs : List Word) (k : TokenKind) (us mid : List Token) (q : Reading Token (List Word)) → word_pick m ws k ≡ Take q → q us ≡ Ok (vs, mid) → length vs ≤ m
word_within m ws vs (mark.Word w) us mid q e h = by_test (nat_lt (length ws) m) refl e
  where
    added : List Word
    added = ws ++ w ∷ []

    more : length (ws ++ w ∷ []) ≡ length ws + 1
    more = length-append ws (w ∷ [])

    by_test : (b : Bool) → nat_lt (length ws) m ≡ b → (let x : Pick Token (List Word) = if b then Take (done (ws ++ w ∷ [])) else Refuse Limit in x) ≡ Take q → length vs ≤ m
    by_test true t i =
        let p : Reading Token (List Word) = done (ws ++ w ∷ []) in
        let same : p ≡ q = cc in
        let o = ok_same (ws ++ w ∷ []) vs us mid (ap (λ z. z us) same ∙ h) in
        let n : length (ws ++ w ∷ []) ≡ length vs = ap length o.0 in
        omega (arith, ltb-true (length ws) m t, n, more)
    by_test false t i = absurd cc
word_within m ws vs _ us mid q e h = absurd cc

words_wider : (m e : ℕ) (ws : List Word) → m < e → length ws ≤ m → Wider (words_at m ws) (words_at e ws)
words_wider m e ws l n = record {
  grows = grows_loop_by (λ vs t. word_pick m vs t.kind) (λ vs t. word_pick e vs t.kind) NotWord NotWord (λ vs. length vs ≤ m) (words_rounds m) (words_rounds e)
      (λ vs t us q xs mid p i h. word_within m vs xs t.kind us mid q i h) (λ vs t p. word_grown m e vs t.kind l p) ws n;
  short = shortens (words_at e ws) NotWord NotWord (words_law e ws);
}

file_grown : (t : Token) (m : Mode) (k : TokenKind) → PickGrown (file_pick t m k) (file_pick t m k)
file_grown t m (mark.Word w) = (done (Some (redirection t m w)), refl, grows_done (Some (redirection t m w)))
file_grown t m _ = refl

file_grows : (t : Token) (m : Mode) → Grows (file_at t m) (file_at t m)
unfolding file_at
file_grows t m = grows_dispatch (λ u. file_pick t m u.kind) (λ u. file_pick t m u.kind) (λ u. file_grown t m u.kind)

output_grown : (t : Token) (k : TokenKind) → PickGrown (output_pick t k) (output_pick t k)
output_grown t mark.Into = (file_at t Truncate, refl, file_grows t Truncate)
output_grown t mark.Append = (file_at t Append, refl, file_grows t Append)
output_grown t _ = refl

output_wider : Wider output_at output_at
output_wider = record { grows = grows_dispatch (λ t. output_pick t t.kind) (λ t. output_pick t t.kind) (λ t. output_grown t t.kind); short = shortens output_at Ends Ends output_law }

simple_rest_wider : (m e : ℕ) (t : Token) (w : Word) → m < e → 0 < m → Wider (simple_rest m t w) (simple_rest e t w)
unfolding simple_rest
simple_rest_wider m e t w l n = wider_seq (words_at m (w ∷ [])) (words_at e (w ∷ [])) _ _ (words_wider m e (w ∷ []) l (omega (arith, n))) (λ ws. wider_seq output_at output_at _ _ output_wider (λ o. wider_done (simple t ws o)))

simple_grown : (m e : ℕ) (t : Token) (h : Head) → m < e → PickGrown (simple_pick m t h) (simple_pick e t h)
simple_grown m e t (First w) l = by_test (nat_lt 0 m) refl
  where
    wide : nat_lt 0 e ≡ true
    wide = lt-ltb 0 e (omega (arith, l))

    by_test : (b : Bool) → nat_lt 0 m ≡ b → PickGrown {T = Token} {A = Simple} (if b then Take (simple_rest m t w) else Refuse Limit) (simple_pick e t (First w))
    by_test true i = (simple_rest e t w, rw wide refl, (simple_rest_wider m e t w l (ltb-true 0 m i)).grows)
    by_test false i = (simple_rest e t w, rw wide refl, shortens (simple_rest e t w) Ends NotWord (simple_rest_law e t w))
simple_grown m e t (Reserved k) l = refl
simple_grown m e t Separator l = refl
simple_grown m e t Last l = refl
simple_grown m e t Other l = refl

simple_wider : (m e : ℕ) → m < e → Wider (simple_at m) (simple_at e)
simple_wider m zero l = absurd (omega (arith, l))
simple_wider m (suc e) l = record {
  grows = grows_dispatch (λ t. simple_pick m t (head_of t)) (λ t. simple_pick (suc e) t (head_of t)) (λ t. simple_grown m (suc e) t (head_of t) l);
  short = shortens (simple_at (suc e)) Ends (Is (First plain)) (simple_law e);
}

-- ---- Conditions.

separator_grown : (b : Bool) (u : Unit {0}) → PickGrown {T = Token} {A = Unit {0}} (if b then Take (done tt) else Pass u) (if b then Take (done tt) else Pass u)
separator_grown true u = (done tt, refl, grows_done tt)
separator_grown false u = refl

separators_wider : Wider separators separators
unfolding separators
separators_wider = wider_seq (expect is_separator) (expect is_separator) _ _ separator_wider (λ s. more)
  where
    more : Wider (loop separator_pick tt) (loop separator_pick tt)
    more = record {
      grows = grows_loop separator_pick separator_pick NotSeparator NotSeparator separator_rounds separator_rounds (λ u t. separator_grown (is_separator t) u) tt;
      short = shortens (loop separator_pick tt) NotSeparator NotSeparator (law_loop separator_pick NotSeparator NotSeparator separator_rounds tt);
    }

condition_wider : (m e : ℕ) (k : Keyword) → m < e → Wider (condition_at m k) (condition_at e k)
unfolding condition_at
condition_wider m e k l = wider_seq (simple_at m) (simple_at e) _ _ (simple_wider m e l) (λ c. wider_seq separators separators _ _ separators_wider (λ s. wider_seq (expect (is_keyword k)) (expect (is_keyword k)) _ _ (key_wider k) (λ t. wider_done c)))

closing_wider : (k : Keyword) → Wider (closing k) (closing k)
unfolding closing
closing_wider k = wider_seq (expect (is_keyword k)) (expect (is_keyword k)) _ _ (key_wider k) (λ t. separator_wider)

-- ---- Items.

ending_grown : (c : Simple) (k : TokenKind) → PickGrown (ending_pick c k) (ending_pick c k)
ending_grown c mark.Newline = (done (At c.line (tree.Command c)), refl, grows_done (At c.line (tree.Command c)))
ending_grown c mark.Semi = (done (At c.line (tree.Command c)), refl, grows_done (At c.line (tree.Command c)))
ending_grown c mark.And = (done (At c.line (tree.Background c)), refl, grows_done (At c.line (tree.Background c)))
ending_grown c _ = refl

ending_wider : (c : Simple) → Wider (ending_at c) (ending_at c)
ending_wider c = record { grows = grows_dispatch (λ t. ending_pick c t.kind) (λ t. ending_pick c t.kind) (λ t. ending_grown c t.kind); short = shortens (ending_at c) Any (Is Separator) (ending_law c) }

fi_wider : (t : Token) (c : Simple) (xs : List Item) → Wider (fi_rest t c xs) (fi_rest t c xs)
unfolding fi_rest
fi_wider t c xs = wider_seq (expect is_separator) (expect is_separator) _ _ separator_wider (λ s. wider_done (At t.line (tree.If c (items xs))))

module _ (body wide : Reading Token (List Item)) (law : ListLaw wide) (w : Wider body wide) where
  else_wider : (t : Token) (c : Simple) (xs : List Item) → Wider (else_rest body t c xs) (else_rest wide t c xs)
  unfolding else_rest
  else_wider t c xs = wider_seq body wide _ _ w (λ ys. wider_seq (closing key.Fi) (closing key.Fi) _ _ (closing_wider key.Fi) (λ s. wider_done (At t.line (tree.IfElse c (items xs) (items ys)))))

  branches_grown : (t : Token) (c : Simple) (xs : List Item) (h : Head) → PickGrown (else_pick body t c xs h) (else_pick wide t c xs h)
  branches_grown t c xs (Reserved key.Else) = (else_rest wide t c xs, refl, (else_wider t c xs).grows)
  branches_grown t c xs (Reserved key.Fi) = (fi_rest t c xs, refl, (fi_wider t c xs).grows)
  branches_grown t c xs _ = refl

  branches_wider : (t : Token) (c : Simple) (xs : List Item) → Wider (branches_at body t c xs) (branches_at wide t c xs)
  branches_wider t c xs = record {
    grows = grows_dispatch (λ u. else_pick body t c xs (head_of u)) (λ u. else_pick wide t c xs (head_of u)) (λ u. branches_grown t c xs (head_of u));
    short = shortens (branches_at wide t c xs) Any (Is (Reserved key.Fi)) (branches_law wide law t c xs);
  }

  if_wider : (m e : ℕ) (t : Token) → m < e → Wider (if_rest m body t) (if_rest e wide t)
  unfolding if_rest
  if_wider m e t l = wider_seq (condition_at m key.Then) (condition_at e key.Then) _ _ (condition_wider m e key.Then l) (λ c. wider_seq body wide _ _ w (λ xs. branches_wider t c xs))

  while_wider : (m e : ℕ) (t : Token) → m < e → Wider (while_rest m body t) (while_rest e wide t)
  unfolding while_rest
  while_wider m e t l = wider_seq (condition_at m key.Do) (condition_at e key.Do) _ _ (condition_wider m e key.Do l)
      (λ c. wider_seq body wide _ _ w (λ xs. wider_seq (closing key.Done) (closing key.Done) _ _ (closing_wider key.Done) (λ s. wider_done (At t.line (tree.While c (items xs))))))

  until_wider : (m e : ℕ) (t : Token) → m < e → Wider (until_rest m body t) (until_rest e wide t)
  unfolding until_rest
  until_wider m e t l = wider_seq (condition_at m key.Do) (condition_at e key.Do) _ _ (condition_wider m e key.Do l)
      (λ c. wider_seq body wide _ _ w (λ xs. wider_seq (closing key.Done) (closing key.Done) _ _ (closing_wider key.Done) (λ s. wider_done (At t.line (tree.Until c (items xs))))))

  deeper_grown : (m e : ℕ) (t : Token) (k : Keyword) → m < e → PickGrown (deeper m body t k) (deeper e wide t k)
  deeper_grown m e t key.If l = (if_rest e wide t, refl, (if_wider m e t l).grows)
  deeper_grown m e t key.While l = (while_rest e wide t, refl, (while_wider m e t l).grows)
  deeper_grown m e t key.Until l = (until_rest e wide t, refl, (until_wider m e t l).grows)
  deeper_grown m e t key.Then l = refl
  deeper_grown m e t key.Else l = refl
  deeper_grown m e t key.Fi l = refl
  deeper_grown m e t key.Do l = refl
  deeper_grown m e t key.Done l = refl

-- Where no level was left, one is.
barred_grown : (e : ℕ) (wide : Reading Token (List Item)) → ListLaw wide → (t : Token) (k : Keyword) → PickGrown (barred k) (deeper (suc e) wide t k)
barred_grown e wide law t key.If = (if_rest (suc e) wide t, refl, shortens (if_rest (suc e) wide t) Any (Is (First plain)) (if_law wide law e t))
barred_grown e wide law t key.While = (while_rest (suc e) wide t, refl, shortens (while_rest (suc e) wide t) Any (Is (First plain)) (while_law wide law e t))
barred_grown e wide law t key.Until = (until_rest (suc e) wide t, refl, shortens (until_rest (suc e) wide t) Any (Is (First plain)) (until_law wide law e t))
barred_grown e wide law t key.Then = refl
barred_grown e wide law t key.Else = refl
barred_grown e wide law t key.Fi = refl
barred_grown e wide law t key.Do = refl
barred_grown e wide law t key.Done = refl

-- ---- Lists.

module _ (m e : ℕ) (l : m < e) (one two : Token → Keyword → Pick Token Item) (grown : (t : Token) (k : Keyword) → PickGrown (one t k) (two t k)) where
  item_grown : (t : Token) (h : Head) → PickGrown (item_pick m one t h) (item_pick e two t h)
  item_grown t (Reserved k) = grown t k
  item_grown t (First w) = then_grown ending_at ending_at (λ c. (ending_wider c).short) (simple_pick m t (First w)) (simple_pick e t (First w)) (simple_grown m e t (First w) l) (λ c. (ending_wider c).grows)
  item_grown t Separator = refl
  item_grown t Last = refl
  item_grown t Other = refl

  added_grown : (xs : List Item) (t : Token) (h : Head) → PickGrown {T = Token} {A = List Item} (then_pick (item_pick m one t h) (λ x. done (xs ++ x ∷ []))) (then_pick (item_pick e two t h) (λ x. done (xs ++ x ∷ [])))
  added_grown xs t h = then_grown (λ x. done (xs ++ x ∷ [])) (λ x. done (xs ++ x ∷ [])) (λ x. (wider_done (xs ++ x ∷ [])).short) (item_pick m one t h) (item_pick e two t h) (item_grown t h) (λ x. grows_done (xs ++ x ∷ []))

  round_grown : (xs : List Item) (t : Token) (h : Head) → PickGrown (round_pick m one xs t h) (round_pick e two xs t h)
  round_grown xs t Separator = (done xs, refl, grows_done xs)
  round_grown xs t (Reserved k) = added_grown xs t (Reserved k)
  round_grown xs t (First w) = added_grown xs t (First w)
  round_grown xs t Last = added_grown xs t Last
  round_grown xs t Other = added_grown xs t Other

  list_grown : (b : Bool) (xs : List Item) (t : Token) (h : Head) → PickGrown {T = Token} {A = List Item} (if b then Pass xs else round_pick m one xs t h) (if b then Pass xs else round_pick e two xs t h)
  list_grown true xs t h = refl
  list_grown false xs t h = round_grown xs t h

  list_wider : Begins one → Begins two → Wider (loop (list_pick m one) []) (loop (list_pick e two) [])
  list_wider first second = record {
    grows = grows_loop (list_pick m one) (list_pick e two) EndsList Any (list_rounds m one first) (list_rounds e two second) (λ xs t. list_grown (ends_list (head_of t)) xs t (head_of t)) [];
    short = shortens (loop (list_pick e two) []) EndsList EndsList (law_loop (list_pick e two) EndsList Any (list_rounds e two second) []);
  }

reserved_grown : (m d e f : ℕ) → m < e → d < f → d ≤ m → f ≤ e → (t : Token) (k : Keyword) → PickGrown (reserved_pick m d t k) (reserved_pick e f t k)
unfolding reserved_pick
reserved_grown m d zero f l n a b t k = absurd (omega (arith, l))
reserved_grown m d (suc e) zero l n a b t k = absurd (omega (arith, n))
reserved_grown m zero (suc e) (suc f) l n a b t k = barred_grown e (list_at (suc e) f) (lists_law (suc e) f (omega (arith, b))) t k
reserved_grown m (suc d) (suc e) (suc f) l n a b t k =
    deeper_grown (list_at m d) (list_at (suc e) f) (lists_law (suc e) f (omega (arith, b)))
    (list_wider m (suc e) l (reserved_pick m d) (reserved_pick (suc e) f) (reserved_grown m d (suc e) f l (omega (arith, n)) (omega (arith, a)) (omega (arith, b))) (begins m d (omega (arith, a))) (begins (suc e) f (omega (arith, b))))
    m (suc e) t k l

lists_wider : (m e : ℕ) → m < e → Wider (list_at m m) (list_at e e)
lists_wider m e l = list_wider m e l (reserved_pick m m) (reserved_pick e e) (reserved_grown m m e e l l (omega arith) (omega arith)) (begins m m (omega arith)) (begins e e (omega arith))

-- ---- Scripts.

end_grown : (xs : List Item) (k : TokenKind) → PickGrown (end_pick xs k) (end_pick xs k)
end_grown xs mark.End = refl
end_grown xs _ = refl

end_wider : (xs : List Item) → Wider (dispatch (λ t. end_pick xs t.kind)) (dispatch (λ t. end_pick xs t.kind))
end_wider xs = record { grows = grows_dispatch (λ t. end_pick xs t.kind) (λ t. end_pick xs t.kind) (λ t. end_grown xs t.kind); short = shortens (dispatch (λ t. end_pick xs t.kind)) IsEnd IsEnd (end_law xs) }

pub script_wider : (m e : ℕ) → m < e → Wider (script_at m) (script_at e)
script_wider m e l = wider_seq (list_at m m) (list_at e e) _ _ (lists_wider m e l) end_wider

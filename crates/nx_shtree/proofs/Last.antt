-- No reading of a script takes its end.
use Rattle.std.proofs.Common.{◌≡◌, ℕ, zero, suc, ◌≤◌, Bool, true, false, List, [], ◌∷◌, ◌++◌, Option, Some, refl, sym, ap, ◌∙◌, arith, subst}
use Rattle.std.specs.Prelude.{nat_lt, length, if◌then◌else◌}
use Rattle.nx_grammar.specs.declared.kind.Kind.TheVariants.{Limit}
use Rattle.nx_grammar.specs.Reading.{Reading, Pick, Refuse, Pass, Take, seq, done, expect, then_pick, loop}
use Rattle.nx_grammar.specs.Lawful.{Any}
use Rattle.nx_grammar.specs.Sparing.{Spares, SparesPick}
use Rattle.nx_grammar.proofs.Spares.{spares_seq, spares_done, spares_dispatch, spares_loop}
use Rattle.nx_shtok.specs.declared.token.TokenKind.{TokenKind}
use Rattle.nx_shtok.specs.declared.token.TokenKind.TheVariants as mark
use Rattle.nx_shtok.specs.declared.token.Token.{Token}
use Rattle.nx_shtok.specs.declared.token.Word.{Word}
use Rattle.nx_shtree.specs.declared.keyword.Keyword.{Keyword}
use Rattle.nx_shtree.specs.declared.keyword.Keyword.TheVariants as key
use Rattle.nx_shtree.specs.declared.tree.Mode.{Mode}
use Rattle.nx_shtree.specs.declared.tree.Mode.TheVariants.{Truncate, Append}
use Rattle.nx_shtree.specs.declared.tree.Redirection.{Redirection}
use Rattle.nx_shtree.specs.declared.tree.Simple.{Simple}
use Rattle.nx_shtree.specs.Words.{Head, Reserved, First, Separator, Last, Other, kind_head, head_of, is_keyword, is_separator}
use Rattle.nx_shtree.specs.Trees as tree
use Rattle.nx_shtree.specs.Trees.{Item, At, items}
use Rattle.nx_shtree.specs.Grammar.{redirection, simple}
use Rattle.nx_shtree.specs.Reading.{word_pick, words_at, file_pick, file_at, output_pick, output_at, simple_rest, simple_pick, simple_at, separator_pick, separators, condition_at, closing, ending_pick, ending_at, fi_rest, else_rest, else_pick, branches_at, if_rest, while_rest, until_rest, deeper, barred, item_pick, ends_list, round_pick, list_pick, reserved_pick, list_at, end_pick, script_at}
use Rattle.nx_shtree.specs.Laws.{EndsList, IsEnd}
use Rattle.nx_shtree.proofs.Heads.{NotWord, NotSeparator, key_spares, separator_spares}
use Rattle.nx_shtree.proofs.SimpleLaws.{words_rounds, separator_rounds}
use Rattle.nx_shtree.proofs.ListLaws.{Begins, list_rounds, begins}

-- What a pick takes is no end, and what follows spares it.
abbrev SparesOne : {A : Type 0} → Token → Reading Token A → Type 0
SparesOne t q = (IsEnd t → ⊥) × Spares IsEnd q

-- A pick that takes this reading.
spare : {A : Type 0} (t : Token) (p q : Reading Token A) → (IsEnd t → ⊥) → Spares IsEnd p → (let x : Pick Token A = Take p in x) ≡ Take q → SparesOne t q
spare t p q n s e = let same : p ≡ q = cc in (n, subst (λ z. Spares IsEnd z) same s)

spare_if : {A : Type 0} (b : Bool) (t : Token) (p q : Reading Token A) → (IsEnd t → ⊥) → Spares IsEnd p → (let x : Pick Token A = if b then Take p else Refuse Limit in x) ≡ Take q → SparesOne t q
spare_if true t p q n s e = spare t p q n s e
spare_if false t p q n s e = absurd cc

-- A pick and more after it.
then_spares : {A B : Type 0} (t : Token) (x : Pick Token A) (next : A → Reading Token B) → SparesPick IsEnd t x → ((a : A) → Spares IsEnd (next a)) → SparesPick IsEnd t (then_pick x next)
then_spares t (Refuse kind) next s more = record { takes = λ q h. absurd cc }
then_spares t (Pass a) next s more = record { takes = λ q h. absurd cc }
then_spares {B = B} t (Take read) next s more = record {
  takes = λ q h.
      let k = s.takes read refl in
      let r : Reading Token B = seq read next in
      let same : r ≡ q = cc in
      (k.0, subst (λ z. Spares IsEnd z) same (spares_seq IsEnd read next k.1 more));
}

-- A token of another kind is no end.
other : (t : Token) (k : TokenKind) → t.kind ≡ k → (k ≡ mark.End → ⊥) → IsEnd t → ⊥
other t k e n i = n (sym e ∙ i)

-- Nor is one of another head.
other_head : (t : Token) (h : Head) → head_of t ≡ h → (Last ≡ h → ⊥) → IsEnd t → ⊥
other_head t h e n i = n (sym (ap kind_head i) ∙ e)

-- ---- Simple commands.

word_spares : (m : ℕ) (ws : List Word) (t : Token) (k : TokenKind) → t.kind ≡ k → SparesPick IsEnd t (word_pick m ws k)
word_spares m ws t (mark.Word w) e = record { takes = λ q h. spare_if (nat_lt (length ws) m) t (done (ws ++ w ∷ [])) q (other t (mark.Word w) e (λ x. cc)) (spares_done IsEnd (ws ++ w ∷ [])) h }
word_spares m ws t _ e = record { takes = λ q h. absurd cc }

words_spares : (m : ℕ) (ws : List Word) → Spares IsEnd (words_at m ws)
words_spares m ws = spares_loop IsEnd (λ vs t. word_pick m vs t.kind) NotWord NotWord (words_rounds m) (λ vs t. word_spares m vs t t.kind refl) ws

file_spares_kind : (t u : Token) (m : Mode) (k : TokenKind) → u.kind ≡ k → SparesPick IsEnd u (file_pick t m k)
file_spares_kind t u m (mark.Word w) e = record { takes = λ q h. spare u (done (Some (redirection t m w))) q (other u (mark.Word w) e (λ x. cc)) (spares_done IsEnd {A = Option Redirection} (Some (redirection t m w))) h }
file_spares_kind t u m _ e = record { takes = λ q h. absurd cc }

file_spares : (t : Token) (m : Mode) → Spares IsEnd (file_at t m)
unfolding file_at
file_spares t m = spares_dispatch IsEnd (λ u. file_pick t m u.kind) (λ u. file_spares_kind t u m u.kind refl)

output_spares_kind : (t : Token) (k : TokenKind) → t.kind ≡ k → SparesPick IsEnd t (output_pick t k)
output_spares_kind t mark.Into e = record { takes = λ q h. spare t (file_at t Truncate) q (other t mark.Into e (λ x. cc)) (file_spares t Truncate) h }
output_spares_kind t mark.Append e = record { takes = λ q h. spare t (file_at t Append) q (other t mark.Append e (λ x. cc)) (file_spares t Append) h }
output_spares_kind t _ e = record { takes = λ q h. absurd cc }

output_spares : Spares IsEnd output_at
output_spares = spares_dispatch IsEnd (λ t. output_pick t t.kind) (λ t. output_spares_kind t t.kind refl)

simple_rest_spares : (m : ℕ) (t : Token) (w : Word) → Spares IsEnd (simple_rest m t w)
unfolding simple_rest
simple_rest_spares m t w = spares_seq IsEnd (words_at m (w ∷ [])) _ (words_spares m (w ∷ [])) (λ ws. spares_seq IsEnd output_at _ output_spares (λ o. spares_done IsEnd (simple t ws o)))

simple_spares_head : (m : ℕ) (t : Token) (h : Head) → head_of t ≡ h → SparesPick IsEnd t (simple_pick m t h)
simple_spares_head m t (First w) e = record { takes = λ q h. spare_if (nat_lt 0 m) t (simple_rest m t w) q (other_head t (First w) e (λ x. cc)) (simple_rest_spares m t w) h }
simple_spares_head m t _ e = record { takes = λ q h. absurd cc }

simple_spares : (m : ℕ) → Spares IsEnd (simple_at m)
simple_spares m = spares_dispatch IsEnd (λ t. simple_pick m t (head_of t)) (λ t. simple_spares_head m t (head_of t) refl)

-- ---- Conditions.

separator_case : (b : Bool) (u : Unit {0}) (t : Token) → is_separator t ≡ b → SparesPick {A = Unit {0}} IsEnd t (if b then Take (done tt) else Pass u)
separator_case true u t e = record { takes = λ q h. spare t (done tt) q (λ i. let z : is_separator t ≡ false = ap (λ k. is_separator_kind k) i in cc) (spares_done IsEnd {A = Unit {0}} tt) h }
  where
    is_separator_kind : TokenKind → Bool
    is_separator_kind k = is_separator (record { kind = k; line = 0 })
separator_case false u t e = record { takes = λ q h. absurd cc }

separators_spares : Spares IsEnd separators
unfolding separators
separators_spares = spares_seq IsEnd (expect is_separator) _ separator_spares (λ s. spares_loop IsEnd separator_pick NotSeparator NotSeparator separator_rounds (λ u t. separator_case (is_separator t) u t refl) tt)

condition_spares : (m : ℕ) (k : Keyword) → Spares IsEnd (condition_at m k)
unfolding condition_at
condition_spares m k = spares_seq IsEnd (simple_at m) _ (simple_spares m) (λ c. spares_seq IsEnd separators _ separators_spares (λ s. spares_seq IsEnd (expect (is_keyword k)) _ (key_spares k) (λ t. spares_done IsEnd c)))

closing_spares : (k : Keyword) → Spares IsEnd (closing k)
unfolding closing
closing_spares k = spares_seq IsEnd (expect (is_keyword k)) _ (key_spares k) (λ t. separator_spares)

-- ---- Items.

ending_spares_kind : (c : Simple) (t : Token) (k : TokenKind) → t.kind ≡ k → SparesPick IsEnd t (ending_pick c k)
ending_spares_kind c t mark.Newline e = record { takes = λ q h. spare t (done (At c.line (tree.Command c))) q (other t mark.Newline e (λ x. cc)) (spares_done IsEnd (At c.line (tree.Command c))) h }
ending_spares_kind c t mark.Semi e = record { takes = λ q h. spare t (done (At c.line (tree.Command c))) q (other t mark.Semi e (λ x. cc)) (spares_done IsEnd (At c.line (tree.Command c))) h }
ending_spares_kind c t mark.And e = record { takes = λ q h. spare t (done (At c.line (tree.Background c))) q (other t mark.And e (λ x. cc)) (spares_done IsEnd (At c.line (tree.Background c))) h }
ending_spares_kind c t _ e = record { takes = λ q h. absurd cc }

ending_spares : (c : Simple) → Spares IsEnd (ending_at c)
ending_spares c = spares_dispatch IsEnd (λ t. ending_pick c t.kind) (λ t. ending_spares_kind c t t.kind refl)

fi_spares : (t : Token) (c : Simple) (xs : List Item) → Spares IsEnd (fi_rest t c xs)
unfolding fi_rest
fi_spares t c xs = spares_seq IsEnd (expect is_separator) _ separator_spares (λ s. spares_done IsEnd (At t.line (tree.If c (items xs))))

module _ (body : Reading Token (List Item)) (s : Spares IsEnd body) where
  else_spares : (t : Token) (c : Simple) (xs : List Item) → Spares IsEnd (else_rest body t c xs)
  unfolding else_rest
  else_spares t c xs = spares_seq IsEnd body _ s (λ ys. spares_seq IsEnd (closing key.Fi) _ (closing_spares key.Fi) (λ u. spares_done IsEnd (At t.line (tree.IfElse c (items xs) (items ys)))))

  branches_case : (t u : Token) (c : Simple) (xs : List Item) (h : Head) → head_of u ≡ h → SparesPick IsEnd u (else_pick body t c xs h)
  branches_case t u c xs (Reserved key.Else) e = record { takes = λ q i. spare u (else_rest body t c xs) q (other_head u (Reserved key.Else) e (λ x. cc)) (else_spares t c xs) i }
  branches_case t u c xs (Reserved key.Fi) e = record { takes = λ q i. spare u (fi_rest t c xs) q (other_head u (Reserved key.Fi) e (λ x. cc)) (fi_spares t c xs) i }
  branches_case t u c xs _ e = record { takes = λ q i. absurd cc }

  branches_spares : (t : Token) (c : Simple) (xs : List Item) → Spares IsEnd (branches_at body t c xs)
  branches_spares t c xs = spares_dispatch IsEnd (λ u. else_pick body t c xs (head_of u)) (λ u. branches_case t u c xs (head_of u) refl)

  if_spares : (m : ℕ) (t : Token) → Spares IsEnd (if_rest m body t)
  unfolding if_rest
  if_spares m t = spares_seq IsEnd (condition_at m key.Then) _ (condition_spares m key.Then) (λ c. spares_seq IsEnd body _ s (λ xs. branches_spares t c xs))

  while_spares : (m : ℕ) (t : Token) → Spares IsEnd (while_rest m body t)
  unfolding while_rest
  while_spares m t = spares_seq IsEnd (condition_at m key.Do) _ (condition_spares m key.Do) (λ c. spares_seq IsEnd body _ s (λ xs. spares_seq IsEnd (closing key.Done) _ (closing_spares key.Done) (λ u. spares_done IsEnd (At t.line (tree.While c (items xs))))))

  until_spares : (m : ℕ) (t : Token) → Spares IsEnd (until_rest m body t)
  unfolding until_rest
  until_spares m t = spares_seq IsEnd (condition_at m key.Do) _ (condition_spares m key.Do) (λ c. spares_seq IsEnd body _ s (λ xs. spares_seq IsEnd (closing key.Done) _ (closing_spares key.Done) (λ u. spares_done IsEnd (At t.line (tree.Until c (items xs))))))

  deeper_spares : (m : ℕ) (t : Token) (k : Keyword) → head_of t ≡ Reserved k → SparesPick IsEnd t (deeper m body t k)
  deeper_spares m t key.If e = record { takes = λ q h. spare t (if_rest m body t) q (other_head t (Reserved key.If) e (λ x. cc)) (if_spares m t) h }
  deeper_spares m t key.While e = record { takes = λ q h. spare t (while_rest m body t) q (other_head t (Reserved key.While) e (λ x. cc)) (while_spares m t) h }
  deeper_spares m t key.Until e = record { takes = λ q h. spare t (until_rest m body t) q (other_head t (Reserved key.Until) e (λ x. cc)) (until_spares m t) h }
  deeper_spares m t _ e = record { takes = λ q h. absurd cc }

barred_spares : (t : Token) (k : Keyword) → SparesPick {A = Item} IsEnd t (barred k)
barred_spares t key.If = record { takes = λ q h. absurd cc }
barred_spares t key.While = record { takes = λ q h. absurd cc }
barred_spares t key.Until = record { takes = λ q h. absurd cc }
barred_spares t _ = record { takes = λ q h. absurd cc }

-- ---- Lists.

module _ (m : ℕ) (reserved : Token → Keyword → Pick Token Item) (law : Begins reserved) (s : (t : Token) (k : Keyword) → head_of t ≡ Reserved k → SparesPick IsEnd t (reserved t k)) where
  item_spares : (t : Token) (h : Head) → head_of t ≡ h → SparesPick IsEnd t (item_pick m reserved t h)
  item_spares t (Reserved k) e = s t k e
  item_spares t (First w) e = then_spares t (simple_pick m t (First w)) ending_at (simple_spares_head m t (First w) e) ending_spares
  item_spares t _ e = record { takes = λ q h. absurd cc }

  added_spares : (xs : List Item) (t : Token) (h : Head) → head_of t ≡ h → SparesPick {A = List Item} IsEnd t (then_pick (item_pick m reserved t h) (λ x. done (xs ++ x ∷ [])))
  added_spares xs t h e = then_spares t (item_pick m reserved t h) (λ x. done (xs ++ x ∷ [])) (item_spares t h e) (λ x. spares_done IsEnd (xs ++ x ∷ []))

  round_spares : (xs : List Item) (t : Token) (h : Head) → head_of t ≡ h → SparesPick IsEnd t (round_pick m reserved xs t h)
  round_spares xs t Separator e = record { takes = λ q h. spare t (done xs) q (other_head t Separator e (λ x. cc)) (spares_done IsEnd xs) h }
  round_spares xs t (Reserved k) e = added_spares xs t (Reserved k) e
  round_spares xs t (First w) e = added_spares xs t (First w) e
  round_spares xs t Last e = added_spares xs t Last e
  round_spares xs t Other e = added_spares xs t Other e

  list_case : (b : Bool) (xs : List Item) (t : Token) → SparesPick {A = List Item} IsEnd t (if b then Pass xs else round_pick m reserved xs t (head_of t))
  list_case true xs t = record { takes = λ q h. absurd cc }
  list_case false xs t = round_spares xs t (head_of t) refl

  list_spares : Spares IsEnd (loop (list_pick m reserved) [])
  list_spares = spares_loop IsEnd (list_pick m reserved) EndsList Any (list_rounds m reserved law) (λ xs t. list_case (ends_list (head_of t)) xs t) []

reserved_spares : (m d : ℕ) → d ≤ m → (t : Token) (k : Keyword) → head_of t ≡ Reserved k → SparesPick IsEnd t (reserved_pick m d t k)
unfolding reserved_pick
reserved_spares m zero l t k e = barred_spares t k
reserved_spares m (suc d) l t k e = deeper_spares (list_at m d) (list_spares m (reserved_pick m d) (begins m d (omega (arith, l))) (reserved_spares m d (omega (arith, l)))) m t k e

end_case : (xs : List Item) (t : Token) (k : TokenKind) → SparesPick IsEnd t (end_pick xs k)
end_case xs t mark.End = record { takes = λ q h. absurd cc }
end_case xs t _ = record { takes = λ q h. absurd cc }

pub script_spares : (limit : ℕ) → Spares IsEnd (script_at limit)
script_spares limit = spares_seq IsEnd (list_at limit limit) _ (list_spares limit (reserved_pick limit limit) (begins limit limit (omega arith)) (reserved_spares limit limit (omega arith))) (λ xs. spares_dispatch IsEnd (λ t. end_pick xs t.kind) (λ t. end_case xs t t.kind))

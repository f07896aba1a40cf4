-- How a script is read.
use Rattle.std.specs.Prelude.{ℕ, zero, suc, Bool, true, false, nat_lt, List, [], ◌∷◌, ◌++◌, length, Option, None, Some, if◌then◌else◌}
use Rattle.nx_grammar.specs.declared.kind.Kind.{Kind}
use Rattle.nx_grammar.specs.declared.kind.Kind.TheVariants.{Syntax, Limit}
use Rattle.nx_grammar.specs.Reading.{Reading, Pick, Refuse, Pass, Take, dispatch, seq, done, expect, then_pick, loop}
use Rattle.nx_shtok.specs.declared.token.TokenKind.{TokenKind}
use Rattle.nx_shtok.specs.declared.token.TokenKind.TheVariants as mark
use Rattle.nx_shtok.specs.declared.token.Token.{Token}
use Rattle.nx_shtok.specs.declared.token.Word.{Word}
use Rattle.nx_shtree.specs.declared.keyword.Keyword.{Keyword}
use Rattle.nx_shtree.specs.declared.keyword.Keyword.TheVariants as key
use Rattle.nx_shtree.specs.declared.tree.Mode.{Mode}
use Rattle.nx_shtree.specs.declared.tree.Mode.TheVariants.{Truncate, Append}
use Rattle.nx_shtree.specs.declared.tree.Redirection.{Redirection}
use Rattle.nx_shtree.specs.declared.tree.Simple.{Simple}
use Rattle.nx_shtree.specs.Words.{Head, Reserved, First, Separator, Last, head_of, is_keyword, is_separator}
use Rattle.nx_shtree.specs.Trees as tree
use Rattle.nx_shtree.specs.Trees.{Item, At, items}
use Rattle.nx_shtree.specs.Grammar.{redirection, simple}

-- ---- Simple commands.

-- A word more, where the limit allows one; each other token ends the words.
abbrev pub word_pick : ℕ → List Word → TokenKind → Pick Token (List Word)
word_pick m ws (mark.Word w) = if nat_lt (length ws) m then Take (done (ws ++ w ∷ [])) else Refuse Limit
word_pick m ws _ = Pass ws

abbrev pub words_at : ℕ → List Word → Reading Token (List Word)
words_at m = loop (λ ws t. word_pick m ws t.kind)

-- The word that names a file.
abbrev pub file_pick : Token → Mode → TokenKind → Pick Token (Option Redirection)
file_pick t m (mark.Word w) = Take (done (Some (redirection t m w)))
file_pick t m _ = Refuse Syntax

unfoldable pub file_at : Token → Mode → Reading Token (Option Redirection)
file_at t m = dispatch (λ u. file_pick t m u.kind)

-- A redirection, or none.
abbrev pub output_pick : Token → TokenKind → Pick Token (Option Redirection)
output_pick t mark.Into = Take (file_at t Truncate)
output_pick t mark.Append = Take (file_at t Append)
output_pick t _ = Pass None

abbrev pub output_at : Reading Token (Option Redirection)
output_at = dispatch (λ t. output_pick t t.kind)

-- The rest of a simple command after its first word.
unfoldable pub simple_rest : ℕ → Token → Word → Reading Token Simple
simple_rest m t w = seq (words_at m (w ∷ [])) (λ ws. seq output_at (λ o. done (simple t ws o)))

-- A simple command.
abbrev pub simple_pick : ℕ → Token → Head → Pick Token Simple
simple_pick m t (First w) = if nat_lt 0 m then Take (simple_rest m t w) else Refuse Limit
simple_pick m t _ = Refuse Syntax

abbrev pub simple_at : ℕ → Reading Token Simple
simple_at m = dispatch (λ t. simple_pick m t (head_of t))

-- ---- Conditions, and what stands between the parts of an item.

-- Separators, as many as there are.
abbrev pub separator_pick : Unit {0} → Token → Pick Token (Unit {0})
separator_pick u t = if is_separator t then Take (done tt) else Pass u

-- One or more separators.
unfoldable pub separators : Reading Token (Unit {0})
separators = seq (expect is_separator) (λ s. loop separator_pick tt)

-- A condition before a reserved word.
unfoldable pub condition_at : ℕ → Keyword → Reading Token Simple
condition_at m k = seq (simple_at m) (λ c. seq separators (λ s. seq (expect (is_keyword k)) (λ t. done c)))

-- What closes an item: a reserved word and a separator.
unfoldable pub closing : Keyword → Reading Token Token
closing k = seq (expect (is_keyword k)) (λ t. expect is_separator)

-- ---- Items.

-- What ends a command: a separator, or "&".
abbrev pub ending_pick : Simple → TokenKind → Pick Token Item
ending_pick c mark.Newline = Take (done (At c.line (tree.Command c)))
ending_pick c mark.Semi = Take (done (At c.line (tree.Command c)))
ending_pick c mark.And = Take (done (At c.line (tree.Background c)))
ending_pick c _ = Refuse Syntax

abbrev pub ending_at : Simple → Reading Token Item
ending_at c = dispatch (λ t. ending_pick c t.kind)

-- After the first list of an "if".
unfoldable pub fi_rest : Token → Simple → List Item → Reading Token Item
fi_rest t c xs = seq (expect is_separator) (λ s. done (At t.line (tree.If c (items xs))))

unfoldable pub else_rest : Reading Token (List Item) → Token → Simple → List Item → Reading Token Item
else_rest body t c xs = seq body (λ ys. seq (closing key.Fi) (λ s. done (At t.line (tree.IfElse c (items xs) (items ys)))))

abbrev pub else_pick : Reading Token (List Item) → Token → Simple → List Item → Head → Pick Token Item
else_pick body t c xs (Reserved key.Else) = Take (else_rest body t c xs)
else_pick body t c xs (Reserved key.Fi) = Take (fi_rest t c xs)
else_pick body t c xs _ = Refuse Syntax

abbrev pub branches_at : Reading Token (List Item) → Token → Simple → List Item → Reading Token Item
branches_at body t c xs = dispatch (λ u. else_pick body t c xs (head_of u))

unfoldable pub if_rest : ℕ → Reading Token (List Item) → Token → Reading Token Item
if_rest m body t = seq (condition_at m key.Then) (λ c. seq body (λ xs. branches_at body t c xs))

unfoldable pub while_rest : ℕ → Reading Token (List Item) → Token → Reading Token Item
while_rest m body t = seq (condition_at m key.Do) (λ c. seq body (λ xs. seq (closing key.Done) (λ s. done (At t.line (tree.While c (items xs))))))

unfoldable pub until_rest : ℕ → Reading Token (List Item) → Token → Reading Token Item
until_rest m body t = seq (condition_at m key.Do) (λ c. seq body (λ xs. seq (closing key.Done) (λ s. done (At t.line (tree.Until c (items xs))))))

-- What a reserved word begins, where a level more is left for its lists.
abbrev pub deeper : ℕ → Reading Token (List Item) → Token → Keyword → Pick Token Item
deeper m body t key.If = Take (if_rest m body t)
deeper m body t key.While = Take (while_rest m body t)
deeper m body t key.Until = Take (until_rest m body t)
deeper m body t _ = Refuse Syntax

-- And where none is.
abbrev pub barred_kind : Keyword → Kind
barred_kind key.If = Limit
barred_kind key.While = Limit
barred_kind key.Until = Limit
barred_kind _ = Syntax

abbrev pub barred : Keyword → Pick Token Item
barred k = Refuse (barred_kind k)

-- An item, where a reserved word does this.
abbrev pub item_pick : ℕ → (Token → Keyword → Pick Token Item) → Token → Head → Pick Token Item
item_pick m reserved t (Reserved k) = reserved t k
item_pick m reserved t (First w) = then_pick (simple_pick m t (First w)) ending_at
item_pick m reserved t _ = Refuse Syntax

-- ---- Lists.

-- What ends a list: the end, and each reserved word that begins no item.
abbrev pub ends_list : Head → Bool
ends_list Last = true
ends_list (Reserved key.Then) = true
ends_list (Reserved key.Else) = true
ends_list (Reserved key.Fi) = true
ends_list (Reserved key.Do) = true
ends_list (Reserved key.Done) = true
ends_list _ = false

-- A round of a list: a separator, or an item.
abbrev pub round_pick : ℕ → (Token → Keyword → Pick Token Item) → List Item → Token → Head → Pick Token (List Item)
round_pick m reserved xs t Separator = Take (done xs)
round_pick m reserved xs t head = then_pick (item_pick m reserved t head) (λ x. done (xs ++ x ∷ []))

abbrev pub list_pick : ℕ → (Token → Keyword → Pick Token Item) → List Item → Token → Pick Token (List Item)
list_pick m reserved xs t = if ends_list (head_of t) then Pass xs else round_pick m reserved xs t (head_of t)

-- What reserved words begin, with so many levels left.
unfoldable pub reserved_pick : ℕ → ℕ → Token → Keyword → Pick Token Item
reserved_pick m zero = λ t k. barred k
reserved_pick m (suc d) = deeper m (loop (list_pick m (reserved_pick m d)) [])

-- A list of at most so many levels, and so many words in a command.
abbrev pub list_at : ℕ → ℕ → Reading Token (List Item)
list_at m d = loop (list_pick m (reserved_pick m d)) []

-- The end is left.
abbrev pub end_pick : List Item → TokenKind → Pick Token (List Item)
end_pick xs mark.End = Pass xs
end_pick xs _ = Refuse Syntax

-- A script, up to its end.
abbrev pub script_at : ℕ → Reading Token (List Item)
script_at limit = seq (list_at limit limit) (λ xs. dispatch (λ t. end_pick xs t.kind))

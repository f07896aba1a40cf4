-- What a token is where a command begins, and the tokens that shortest texts have.
use Rattle.std.proofs.Common.{◌≡◌, true, false, List, [], ◌∷◌, map, Option, Some, None, refl, ap, ◌∙◌}
use Rattle.std.specs.Prelude.{Ok}
use denote.Enum.Bare.{same_true, true_same}
use Rattle.nx_grammar.specs.Reading.{expect}
use Rattle.nx_grammar.specs.Lawful.{Any, Law}
use Rattle.nx_grammar.specs.Growing.{Wider}
use Rattle.nx_grammar.specs.Sparing.{Spares}
use Rattle.nx_grammar.proofs.Choices.{law_expect}
use Rattle.nx_grammar.proofs.Growth.{wider_expect}
use Rattle.nx_grammar.proofs.Results.{found, expect_on}
use Rattle.nx_grammar.proofs.Spares.{spares_expect}
use Rattle.nx_shtok.specs.declared.part.Part.TheVariants.{Byte}
use Rattle.nx_shtok.specs.declared.token.TokenKind.{TokenKind}
use Rattle.nx_shtok.specs.declared.token.TokenKind.TheVariants as mark
use Rattle.nx_shtok.specs.declared.token.Token.{Token}
use Rattle.nx_shtok.specs.declared.token.Word.{Word}
use Rattle.nx_shtree.specs.declared.keyword.Keyword.{Keyword}
use Rattle.nx_shtree.specs.declared.keyword.Keyword.TheVariants as key
use Rattle.nx_shtree.specs.contracts.keyword.Keyword.{the_type}
use Rattle.nx_shtree.specs.Laws.{IsEnd}
use Rattle.nx_shtree.specs.Words.{keyword_text, keyword_of, all_keywords, Head, Reserved, First, Separator, Last, Other, word_head, kind_head, head_of, is_reserved, is_keyword, parts_commands, is_separator}

-- A token is this where a command begins.
abbrev pub Is : Head → Token → Type 0
Is h t = head_of t ≡ h

-- A token that is no word.
abbrev pub NoWord : TokenKind → Type 0
NoWord (mark.Word w) = ⊥
NoWord _ = Unit {0}

abbrev pub NotWord : Token → Type 0
NotWord t = NoWord t.kind

-- A token that ends a simple command.
abbrev pub EndsSimple : TokenKind → Type 0
EndsSimple (mark.Word w) = ⊥
EndsSimple mark.Into = ⊥
EndsSimple mark.Append = ⊥
EndsSimple _ = Unit {0}

abbrev pub Ends : Token → Type 0
Ends t = EndsSimple t.kind

-- A token that is no separator.
abbrev pub NotSeparator : Token → Type 0
NotSeparator t = is_separator t ≡ false

-- The shortest word that begins a command.
abbrev pub plain : Word
plain = record { parts = []; quoted = true }

abbrev pub plain_token : Token
plain_token = record { kind = mark.Word plain; line = 0 }

abbrev pub newline_token : Token
newline_token = record { kind = mark.Newline; line = 0 }

abbrev pub key_token : Keyword → Token
key_token k = record { kind = mark.Word (record { parts = map Byte (keyword_text k); quoted = false }); line = 0 }

pub plain_is : Is (First plain) plain_token
unfolding keyword_of all_keywords
plain_is = refl

pub key_is : (k : Keyword) → Is (Reserved k) (key_token k)
unfolding keyword_of all_keywords
key_is key.If = refl
key_is key.Then = refl
key_is key.Else = refl
key_is key.Fi = refl
key_is key.While = refl
key_is key.Until = refl
key_is key.Do = refl
key_is key.Done = refl

-- ---- Tests.

pub reserved_good : (k : Keyword) (h : Head) → h ≡ Reserved k → is_reserved k h ≡ true
reserved_good k h e = ap (is_reserved k) e ∙ true_same the_type k k refl

pub reserved_is : (k : Keyword) (h : Head) → is_reserved k h ≡ true → h ≡ Reserved k
reserved_is k (Reserved j) e = ap Reserved (same_true the_type tt j k e)
reserved_is k (First w) e = absurd cc
reserved_is k Separator e = absurd cc
reserved_is k Last e = absurd cc
reserved_is k Other e = absurd cc

pub separator_is : (h : Head) → parts_commands h ≡ true → h ≡ Separator
separator_is (Reserved k) e = absurd cc
separator_is (First w) e = absurd cc
separator_is Separator e = refl
separator_is Last e = absurd cc
separator_is Other e = absurd cc

-- ---- One token that passes a test.

pub key_law : (k : Keyword) → Law (expect (is_keyword k)) Any (Is (Reserved k))
key_law k = law_expect (is_keyword k) (Is (Reserved k)) (key_token k) (reserved_good k (head_of (key_token k)) (key_is k)) (key_is k)

pub separator_law : Law (expect is_separator) Any (Is Separator)
separator_law = law_expect is_separator (Is Separator) newline_token refl refl

pub key_wider : (k : Keyword) → Wider (expect (is_keyword k)) (expect (is_keyword k))
key_wider k = wider_expect (is_keyword k)

pub separator_wider : Wider (expect is_separator) (expect is_separator)
separator_wider = wider_expect is_separator

key_no_end : (k : Keyword) (t : Token) → is_keyword k t ≡ true → IsEnd t → ⊥
key_no_end k t e i = let z : is_keyword k t ≡ false = ap (λ x. is_reserved k (kind_head x)) i in cc

separator_no_end : (t : Token) → is_separator t ≡ true → IsEnd t → ⊥
separator_no_end t e i = let z : is_separator t ≡ false = ap (λ x. parts_commands (kind_head x)) i in cc

pub key_spares : (k : Keyword) → Spares IsEnd (expect (is_keyword k))
key_spares k = spares_expect IsEnd (is_keyword k) (key_no_end k)

pub separator_spares : Spares IsEnd (expect is_separator)
separator_spares = spares_expect IsEnd is_separator separator_no_end

-- What was expected stood there.
pub record FoundHead (h : Head) (ts : List Token) (t : Token) (rest : List Token) : Type 0 where
  pub is : ts ≡ t ∷ rest
  pub head : head_of t ≡ h

pub found_key : (k : Keyword) (ts : List Token) (t : Token) (rest : List Token) → expect (is_keyword k) ts ≡ Ok (t, rest) → FoundHead (Reserved k) ts t rest
found_key k ts t rest e = let f = found (is_keyword k) ts t rest e in record { is = f.is; head = reserved_is k (head_of t) f.good }

pub found_separator : (ts : List Token) (t : Token) (rest : List Token) → expect is_separator ts ≡ Ok (t, rest) → FoundHead Separator ts t rest
found_separator ts t rest e = let f = found is_separator ts t rest e in record { is = f.is; head = separator_is (head_of t) f.good }

-- And it is read.
pub key_on : (k : Keyword) (t : Token) (rest : List Token) → Is (Reserved k) t → expect (is_keyword k) (t ∷ rest) ≡ Ok (t, rest)
key_on k t rest e = expect_on (is_keyword k) t rest (reserved_good k (head_of t) e)

pub separator_on : (t : Token) (rest : List Token) → Is Separator t → expect is_separator (t ∷ rest) ≡ Ok (t, rest)
separator_on t rest e = expect_on is_separator t rest (ap parts_commands e)

-- ---- What ends what.

pub separator_kind : (k : TokenKind) → kind_head k ≡ Separator → EndsSimple k
separator_kind (mark.Word w) e = no_word (keyword_of w) e
  where
    no_word : (o : Option Keyword) → word_head w o ≡ Separator → ⊥
    no_word None i = cc
    no_word (Some j) i = cc
separator_kind mark.Newline e = tt
separator_kind mark.Semi e = tt
separator_kind mark.And e = tt
separator_kind mark.Into e = absurd cc
separator_kind mark.Append e = absurd cc
separator_kind mark.End e = tt

-- A separator ends a simple command.
pub separator_ends : (t : Token) → Is Separator t → Ends t
separator_ends t e = separator_kind t.kind e

ends_kind : (k : TokenKind) → EndsSimple k → NoWord k
ends_kind (mark.Word w) e = e
ends_kind mark.Newline e = tt
ends_kind mark.Semi e = tt
ends_kind mark.And e = tt
ends_kind mark.Into e = tt
ends_kind mark.Append e = tt
ends_kind mark.End e = tt

-- What ends a simple command is no word.
pub ends_words : (t : Token) → Ends t → NotWord t
ends_words t e = ends_kind t.kind e

-- A reserved word is no separator.
pub key_parts : (k : Keyword) (t : Token) → Is (Reserved k) t → NotSeparator t
key_parts k t e = ap parts_commands e

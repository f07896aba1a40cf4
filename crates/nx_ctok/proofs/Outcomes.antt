-- A text gives one outcome, and its tokens are spelled as their kinds are.
use Rattle.std.proofs.Common.{◌≡◌, ℕ, ◌==◌, ◌&&◌, ◌||◌, Bool, true, false, List, [], ◌∷◌, ◌++◌, drop, refl, ap, ◌∙◌, subst}
use Rattle.std.specs.Global.{Vec}
use Rattle.std.specs.Prelude.{Option, None, Some, Result, Ok, Err, codes, nat_eq, nat_lt, if◌then◌else◌}
use Rattle.std.specs.List.{starts_with}
use Rattle.std.specs.Str.{bytes_eq}
use Rattle.nx_base.specs.TextBytes.{is_line_blank}
use Rattle.nx_ctok.specs.declared.fault.CKind.{CKind}
use Rattle.nx_ctok.specs.declared.fault.CKind.TheVariants.{BadToken, TooWide}
use Rattle.nx_ctok.specs.declared.fault.CFault.{CFault}
use Rattle.nx_ctok.specs.declared.fault.CFault.TheVariants as fault
use Rattle.nx_ctok.specs.declared.predefined.Predefined.{Predefined}
use Rattle.nx_ctok.specs.declared.predefined.Predefined.TheVariants as name
use Rattle.nx_ctok.specs.declared.token.TokenKind.{TokenKind}
use Rattle.nx_ctok.specs.declared.token.TokenKind.TheVariants as kind
use Rattle.nx_ctok.specs.declared.token.Token.{Token}
use Rattle.nx_ctok.specs.declared.token.Word.{Word}
use Rattle.nx_ctok.specs.declared.value.Value.{Value}
use Rattle.nx_ctok.specs.declared.value.Definition.{Definition}
use Rattle.nx_ctok.specs.Spellings.{kind_of, is_single_mark}
use Rattle.nx_ctok.specs.Longest.{word_at}
use Rattle.nx_ctok.specs.Comments.{newlines, line_at, Comment, Absent, Open, Closed, comment_at, gap, after_blanks, all_steps, after_one_ignored, ends_line}
use Rattle.nx_ctok.specs.Directives.{is_too_wide, Found, then_, name_at, constant_of, constant_at, value_at, ended, definition_at, Piece, Space, Spelled, Define, Wrong, defined, dropped, directive}
use Rattle.nx_ctok.specs.Predefined.{number_text, predefined_of}
use Rattle.nx_ctok.specs.Tokens.{checked, is_hash, uncommented, commented, piece_at, Definitions, predefined, at_first, with_definition, minus_tokens, replaced, meaning, ahead, Tokenizes, End, Refused, Skipped, Taken, Defined, HasTokens, IsSpelled, AreEnded, Last, Next}
use Rattle.nx_ctok.specs.Answers.{IsAnswer, IsGiven}
use Rattle.nx_ctok.proofs.Words.{word_is_spelled}

-- Two things at one place are one.
space_same : (a b : List ℕ) (f : Piece) → f ≡ Space a → f ≡ Space b → a ≡ b
space_same a b f e g = cc

word_same : (a b : Word) (f : Piece) → f ≡ Spelled a → f ≡ Spelled b → a ≡ b
word_same a b f e g = cc

definition_same : (a b : Definition) (r s : List ℕ) (f : Piece) → f ≡ Define a r → f ≡ Define b s → (a ≡ b) × (r ≡ s)
definition_same a b r s f e g = (cc, cc)

wrong_same : (a b : CKind) (f : Piece) → f ≡ Wrong a → f ≡ Wrong b → a ≡ b
wrong_same a b f e g = cc

nothing_there : (fresh : Bool) → piece_at fresh [] ≡ Wrong BadToken
unfolding piece_at
nothing_there fresh = refl

-- The rest of a text gives one outcome.
pub one_outcome : (text : List ℕ) (fresh : Bool) (values : Definitions) (bytes : List ℕ) (o p : Result (List Token) CFault) → Tokenizes text fresh values bytes o → Tokenizes text fresh values bytes p → o ≡ p
one_outcome text fresh values bytes o p (End f v) (End g w) = refl
one_outcome text fresh values bytes o p (End f v) (Skipped g w bs rest out e x) = let n = nothing_there f in absurd (cc)
one_outcome text fresh values bytes o p (End f v) (Taken g w bs u out e x) = let n = nothing_there f in absurd (cc)
one_outcome text fresh values bytes o p (End f v) (Defined g w bs rest d out e x) = let n = nothing_there f in absurd (cc)
one_outcome text fresh values bytes o p (Refused f v b bs k e) (Refused g w c cs l h) = ap (λ m. let o : Result (List Token) CFault = Err (fault.Text (line_at text (b ∷ bs)) m) in o) (wrong_same k l (piece_at f (b ∷ bs)) e h)
one_outcome text fresh values bytes o p (Refused f v b bs k e) (Skipped g w cs rest out h x) = absurd (cc)
one_outcome text fresh values bytes o p (Refused f v b bs k e) (Taken g w cs u out h x) = absurd (cc)
one_outcome text fresh values bytes o p (Refused f v b bs k e) (Defined g w cs rest d out h x) = absurd (cc)
one_outcome text fresh values bytes o p (Skipped f v bs rest out e x) (End g w) = let n = nothing_there f in absurd (cc)
one_outcome text fresh values bytes o p (Skipped f v bs rest out e x) (Refused g w c cs l h) = absurd (cc)
one_outcome text fresh values bytes o p (Skipped f v bs rest out e x) (Skipped g w cs rest' out' h y) =
    let s = space_same rest rest' (piece_at f bs) e h in
    one_outcome text (f || nat_lt (newlines rest') (newlines bs)) v rest' out out' (subst (λ r. Tokenizes text (f || nat_lt (newlines r) (newlines bs)) v r out) s x) y
one_outcome text fresh values bytes o p (Skipped f v bs rest out e x) (Taken g w cs u out' h y) = absurd (cc)
one_outcome text fresh values bytes o p (Skipped f v bs rest out e x) (Defined g w cs rest' d out' h y) = absurd (cc)
one_outcome text fresh values bytes o p (Taken f v bs u out e x) (End g w) = let n = nothing_there f in absurd (cc)
one_outcome text fresh values bytes o p (Taken f v bs u out e x) (Refused g w c cs l h) = absurd (cc)
one_outcome text fresh values bytes o p (Taken f v bs u out e x) (Skipped g w cs rest out' h y) = absurd (cc)
one_outcome text fresh values bytes o p (Taken f v bs u out e x) (Taken g w cs u' out' h y) =
    let s = word_same u u' (piece_at f bs) e h in
    let q = one_outcome text false v u'.rest out out' (subst (λ z. Tokenizes text false v z.rest out) s x) y in
    rw (s, q) refl
one_outcome text fresh values bytes o p (Taken f v bs u out e x) (Defined g w cs rest d out' h y) = absurd (cc)
one_outcome text fresh values bytes o p (Defined f v bs rest d out e x) (End g w) = let n = nothing_there f in absurd (cc)
one_outcome text fresh values bytes o p (Defined f v bs rest d out e x) (Refused g w c cs l h) = absurd (cc)
one_outcome text fresh values bytes o p (Defined f v bs rest d out e x) (Skipped g w cs rest' out' h y) = absurd (cc)
one_outcome text fresh values bytes o p (Defined f v bs rest d out e x) (Taken g w cs u out' h y) = absurd (cc)
one_outcome text fresh values bytes o p (Defined f v bs rest d out e x) (Defined g w cs rest' d' out' h y) =
    let s = definition_same d d' rest rest' (piece_at f bs) e h in
    one_outcome text false (with_definition v d') rest' out out' (subst (λ z. Tokenizes text false (with_definition v z) rest' out) s.0 (subst (λ r. Tokenizes text false (with_definition v d) r out) s.1 x)) y

-- So what was answered is all that a text gives.
pub only_answer : (text : List ℕ) (r : Result (Vec Token) CFault) → IsAnswer text r → (out : Result (List Token) CFault) → HasTokens text out → IsGiven r out
only_answer text (Ok ts) a out x = one_outcome text true at_first text out (Ok ts.items) x a
only_answer text (Err fault.Memory) a out x = tt
only_answer text (Err (fault.Text line k)) a out x = one_outcome text true at_first text out (Err (fault.Text line k)) x a

-- A value's own token is spelled as its kind is.
abbrev pub IsValue : Value → Type 0
IsValue v = kind_of v.text ≡ Some v.kind

-- What stands at a place is spelled so.
abbrev pub IsPiece : Piece → Type 0
IsPiece (Space rest) = Unit {0}
IsPiece (Spelled w) = kind_of w.text ≡ Some w.kind
IsPiece (Define d rest) = IsValue d.value
IsPiece (Wrong k) = Unit {0}

-- A value that was found is.
abbrev pub FoundValue : Found Value → Type 0
FoundValue None = Unit {0}
FoundValue (Some x) = IsValue x.0

constant_is : (minus : Bool) (w : Word) (k : TokenKind) → w.kind ≡ k → kind_of w.text ≡ Some w.kind → FoundValue (constant_of minus w k)
constant_is minus w kind.Number e h = h ∙ ap (λ k. let o : Option TokenKind = Some k in o) e
constant_is minus w kind.Char e h = h ∙ ap (λ k. let o : Option TokenKind = Some k in o) e
constant_is minus w kind.Name e h = tt
constant_is minus w kind.Keyword e h = tt
constant_is minus w kind.Text e h = tt
constant_is minus w kind.Mark e h = tt
constant_is minus w kind.End e h = tt

constant_at_is : (minus : Bool) (bytes : List ℕ) → FoundValue (constant_at minus bytes)
unfolding constant_at
constant_at_is minus bytes = by (word_at bytes) refl
  where
    by : (o : Option Word) → word_at bytes ≡ o → FoundValue (then_ o (λ w. constant_of minus w w.kind))
    by None e = tt
    by (Some w) e = constant_is minus w w.kind refl (word_is_spelled bytes w e).spelled

value_at_is : (bytes : List ℕ) → FoundValue (value_at bytes)
value_at_is [] = tt
value_at_is (b ∷ bs) = by (b == 45)
  where
    by : (t : Bool) → FoundValue (if t then constant_at true bs else constant_at false (b ∷ bs))
    by true = constant_at_is true bs
    by false = constant_at_is false (b ∷ bs)

-- A definition that was found has such a value.
abbrev pub FoundDefinition : Found Definition → Type 0
FoundDefinition None = Unit {0}
FoundDefinition (Some x) = IsValue x.0.value

ended_is : (name : List ℕ) (v : Value) (rest : List ℕ) → IsValue v → FoundDefinition (ended name v rest)
ended_is name v rest h = by (ends_line rest)
  where
    by : (t : Bool) → FoundDefinition (if t then Some (record { name = name; value = v }, rest) else None)
    by true = h
    by false = tt

definition_is : (bytes : List ℕ) → FoundDefinition (definition_at bytes)
unfolding definition_at
definition_is bytes = start (gap bytes)
  where
    valued : (name : List ℕ) (o : Found Value) → FoundValue o → FoundDefinition (then_ o (λ value. ended name value.0 (after_blanks value.1)))
    valued name None h = tt
    valued name (Some x) h = ended_is name x.0 (after_blanks x.1) h

    next : (name : List ℕ) (o : Option (List ℕ)) → FoundDefinition (then_ o (λ next. then_ (value_at next) (λ value. ended name value.0 (after_blanks value.1))))
    next name None = tt
    next name (Some rest) = valued name (value_at rest) (value_at_is rest)

    named : (o : Found (List ℕ)) → FoundDefinition (then_ o (λ name. then_ (gap name.1) (λ next. then_ (value_at next) (λ value. ended name.0 value.0 (after_blanks value.1)))))
    named None = tt
    named (Some x) = next x.0 (gap x.1)

    start : (o : Option (List ℕ)) → FoundDefinition (then_ o (λ start. then_ (name_at start) (λ name. then_ (gap name.1) (λ next. then_ (value_at next) (λ value. ended name.0 value.0 (after_blanks value.1))))))
    start None = tt
    start (Some rest) = named (name_at rest)

defined_is : (o : Found Definition) → FoundDefinition o → IsPiece (defined o)
defined_is None h = tt
defined_is (Some x) h = by (is_too_wide x.0.value.kind x.0.value.text)
  where
    by : (t : Bool) → IsPiece (if t then Wrong TooWide else Define x.0 x.1)
    by true = tt
    by false = h

dropped_is : (rest : List ℕ) → IsPiece (dropped rest)
dropped_is rest = by (ends_line rest)
  where
    by : (t : Bool) → IsPiece (if t then Space rest else Wrong BadToken)
    by true = tt
    by false = tt

directive_is : (bytes : List ℕ) → IsPiece (directive bytes)
unfolding directive
directive_is bytes = by (starts_with nat_eq bytes (codes "#include")) (starts_with nat_eq bytes (codes "#define"))
  where
    by : (t u : Bool) → IsPiece (if t then dropped (all_steps after_one_ignored (drop 8 bytes)) else if u then defined (definition_at (drop 7 bytes)) else Wrong BadToken)
    by true u = dropped_is (all_steps after_one_ignored (drop 8 bytes))
    by false true = defined_is (definition_at (drop 7 bytes)) (definition_is (drop 7 bytes))
    by false false = tt

checked_is : (bytes : List ℕ) → IsPiece (checked (word_at bytes))
checked_is bytes = by (word_at bytes) refl
  where
    narrow : (w : Word) (t : Bool) → kind_of w.text ≡ Some w.kind → IsPiece (if t then Wrong TooWide else Spelled w)
    narrow w true h = tt
    narrow w false h = h

    by : (o : Option Word) → word_at bytes ≡ o → IsPiece (checked o)
    by None e = tt
    by (Some w) e = narrow w (is_too_wide w.kind w.text) (word_is_spelled bytes w e).spelled

uncommented_is : (fresh : Bool) (bytes : List ℕ) → IsPiece (uncommented fresh bytes)
uncommented_is fresh bytes = by (fresh && is_hash bytes)
  where
    by : (t : Bool) → IsPiece (if t then directive bytes else checked (word_at bytes))
    by true = directive_is bytes
    by false = checked_is bytes

commented_is : (fresh : Bool) (bytes : List ℕ) (c : Comment) → IsPiece (commented fresh bytes c)
commented_is fresh bytes Absent = uncommented_is fresh bytes
commented_is fresh bytes Open = tt
commented_is fresh bytes (Closed rest) = tt

piece_is : (fresh : Bool) (bytes : List ℕ) → IsPiece (piece_at fresh bytes)
unfolding piece_at
piece_is fresh [] = tt
piece_is fresh (b ∷ bs) = by (b == 10 || is_line_blank b)
  where
    by : (t : Bool) → IsPiece (if t then Space bs else commented fresh (b ∷ bs) (comment_at (b ∷ bs)))
    by true = tt
    by false = commented_is fresh (b ∷ bs) (comment_at (b ∷ bs))

-- Each name has such a value.
AreValues : Definitions → Type 0
AreValues values = (text : List ℕ) (v : Value) → values text ≡ Some v → IsValue v

number_is : (p : Predefined) → kind_of (number_text p) ≡ Some kind.Number
number_is name.Enoent = refl
number_is name.Ebadf = refl
number_is name.Echild = refl
number_is name.Eagain = refl
number_is name.Enomem = refl
number_is name.Efault = refl
number_is name.Eexist = refl
number_is name.Enotdir = refl
number_is name.Eisdir = refl
number_is name.Einval = refl
number_is name.Emfile = refl
number_is name.Efbig = refl
number_is name.Enospc = refl
number_is name.Enosys = refl
number_is name.Enotempty = refl
number_is name.Emsgsize = refl
number_is name.Etimedout = refl
number_is name.ReadOnly = refl
number_is name.WriteOnly = refl
number_is name.ReadWrite = refl
number_is name.Create = refl
number_is name.Exclusive = refl
number_is name.Append = refl
number_is name.Truncate = refl
number_is name.Nonblock = refl

predefined_is : (o : Option Predefined) (v : Value) → predefined o ≡ Some v → IsValue v
predefined_is None v e = cc
predefined_is (Some p) v e = let w : Value = record { minus = false; kind = kind.Number; text = number_text p } in let s : w ≡ v = cc in subst IsValue s (number_is p)

first_are : AreValues at_first
unfolding AreValues at_first
first_are text v e = predefined_is (predefined_of text) v e

more_are : (values : Definitions) (d : Definition) → AreValues values → IsValue d.value → AreValues (with_definition values d)
unfolding AreValues with_definition
more_are values d a h = λ text v e. by text v (bytes_eq text d.name) e
  where
    by : (text : List ℕ) (v : Value) (t : Bool) → (if t then Some d.value else values text) ≡ Some v → IsValue v
    by text v true e = let s : d.value ≡ v = cc in subst IsValue s h
    by text v false e = a text v e

-- The tokens of an outcome.
abbrev pub Ended : Result (List Token) CFault → Type 0
Ended (Ok ts) = AreEnded ts
Ended (Err e) = Unit {0}

more_ended : (t : Token) (out : Result (List Token) CFault) → IsSpelled t → Ended out → Ended (ahead (t ∷ []) out)
more_ended t (Ok ts) h x = Next t ts h x
more_ended t (Err e) h x = tt

minus_ended : (line : ℕ) (minus : Bool) (t : Token) (out : Result (List Token) CFault) → IsSpelled t → Ended out → Ended (ahead (minus_tokens line minus ++ t ∷ []) out)
unfolding is_single_mark
minus_ended line true t (Ok ts) h x = Next (record { kind = kind.Mark; text = codes "-"; line = line }) (t ∷ ts) refl (Next t ts h x)
minus_ended line false t (Ok ts) h x = Next t ts h x
minus_ended line true t (Err e) h x = tt
minus_ended line false t (Err e) h x = tt

replaced_ended : (line : ℕ) (k : TokenKind) (text : List ℕ) (o : Option Value) (out : Result (List Token) CFault) → kind_of text ≡ Some k → ((v : Value) → o ≡ Some v → IsValue v) → Ended out →
    Ended (ahead (replaced line k text o) out)
replaced_ended line k text None out h a x = more_ended (record { kind = k; text = text; line = line }) out h x
replaced_ended line k text (Some v) out h a x = minus_ended line v.minus (record { kind = v.kind; text = v.text; line = line }) out (a v refl) x

meaning_are : (values : Definitions) (k : TokenKind) (text : List ℕ) → AreValues values → (v : Value) → meaning values k text ≡ Some v → IsValue v
unfolding AreValues
meaning_are values kind.Name text a v e = a text v e
meaning_are values kind.Keyword text a v e = cc
meaning_are values kind.Number text a v e = cc
meaning_are values kind.Char text a v e = cc
meaning_are values kind.Text text a v e = cc
meaning_are values kind.Mark text a v e = cc
meaning_are values kind.End text a v e = cc

gives_ended : (text : List ℕ) (fresh : Bool) (values : Definitions) (bytes : List ℕ) (out : Result (List Token) CFault) → AreValues values → Tokenizes text fresh values bytes out → Ended out
gives_ended text fresh values bytes out a (End f v) = Last (line_at text [])
gives_ended text fresh values bytes out a (Refused f v b bs k e) = tt
gives_ended text fresh values bytes out a (Skipped f v bs rest o e x) = gives_ended text (f || nat_lt (newlines rest) (newlines bs)) v rest o a x
gives_ended text fresh values bytes out a (Taken f v bs w o e x) =
    replaced_ended (line_at text bs) w.kind w.text (meaning v w.kind w.text) o (subst IsPiece e (piece_is f bs)) (meaning_are v w.kind w.text a) (gives_ended text false v w.rest o a x)
gives_ended text fresh values bytes out a (Defined f v bs rest d o e x) =
    gives_ended text false (with_definition v d) rest o (more_are v d a (subst IsPiece e (piece_is f bs))) x

-- The tokens of a text end so.
pub reads_ended : (text : List ℕ) (ts : List Token) → HasTokens text (Ok ts) → AreEnded ts
reads_ended text ts x = gives_ended text true at_first text (Ok ts) first_are x

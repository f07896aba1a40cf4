-- The laws of reading declarations and files.
use Rattle.std.proofs.Common.{◌≡◌, ℕ, ◌%◌, ◌^◌, Bool, true, false, List, [], ◌∷◌, refl, sym, ap, ◌∙◌}
use Rattle.std.specs.Prelude.{Ok, Option, Some, None, if◌then◌else◌}
use Rattle.nx_ctok.specs.Values.{number_of, character_of, text_of}
use Rattle.nx_grammar.specs.Reading.{Reading, Pick, Pass, Take, dispatch, seq, done}
use Rattle.nx_grammar.specs.Lawful.{Heads, Any, Lives, Law}
use Rattle.nx_grammar.proofs.Sequences.{law_seq, law_done}
use Rattle.nx_grammar.proofs.Choices.{law_dispatch}
use Rattle.nx_grammar.proofs.Thens.{then_takes, then_passes}
use Rattle.nx_ctree.specs.declared.sign.Sign.{Sign}
use Rattle.nx_ctree.specs.declared.sign.Sign.TheVariants as sign
use Rattle.nx_ctree.specs.declared.sign.Signed.{Signed}
use Rattle.nx_ctree.specs.declared.program.Base.{Base}
use Rattle.nx_ctree.specs.declared.program.Base.TheVariants as base
use Rattle.nx_ctree.specs.declared.program.Constant.{Constant}
use Rattle.nx_ctree.specs.declared.program.ConstantKind.TheVariants as constant
use Rattle.nx_ctree.specs.declared.program.Param.{Param}
use Rattle.nx_ctree.specs.declared.program.Params.{Params}
use Rattle.nx_ctree.specs.declared.program.Params.TheVariants as params
use Rattle.nx_ctree.specs.declared.program.Initialiser.{Initialiser}
use Rattle.nx_ctree.specs.declared.program.Initialiser.TheVariants as init
use Rattle.nx_ctree.specs.declared.program.Rest.TheVariants as form
use Rattle.nx_cexpr.specs.Signs.{is_sign}
use Rattle.nx_cexpr.specs.Types.{base_pick}
use Rattle.nx_cexpr.proofs.PrimaryLaws.{took, base_takes}
use Rattle.nx_cstmt.specs.Reading.{sign_at}
use Rattle.nx_cstmt.proofs.Signs.{Is, bare, not_signed, sign_law}
use Rattle.nx_cparse.specs.Commas.{others, commas}
use Rattle.nx_cparse.specs.Reading.{minus_rest, constant_by, constant_at, length_rest, listed_rest, initialiser_by, initialiser_at, pointer_rest, name_by, name_pick, param_rest, param_pick, param_at, params_rest, params_by, params_at, valued_rest, contents_rest, contents_pick, array_rest}
use Rattle.nx_cparse.proofs.Commas.{others_law, commas_law}

-- A token of a sign is no comma.
pub no_comma : (s : Sign) → (s ≡ sign.Comma → ⊥) → (t : Signed) → Is s t → is_sign sign.Comma t ≡ false
no_comma s ne t e = not_signed t.sign sign.Comma (λ f. ne (sym e ∙ f))

-- A reading and a token of a sign after it.
pub closed_law : {A B : Type 0} (p : Reading Signed A) (I : Signed → Type 0) (s : Sign) (f : A → B) → Law p (Is s) I → Law (seq p (λ a. seq (sign_at s) (λ c. done (f a)))) Any I
closed_law p I s f law = law_seq p _ (Is s) I Any (Is s) law (λ a. law_seq (sign_at s) _ Any (Is s) Any Any (sign_law s) (λ c. law_done (f a) Any) (λ t i. tt)) (λ t i. i)

-- The same of a reading that anything may follow.
pub ended_law : {A B : Type 0} (p : Reading Signed A) (I : Signed → Type 0) (s : Sign) (f : A → B) → Law p Any I → Law (seq p (λ a. seq (sign_at s) (λ c. done (f a)))) Any I
ended_law p I s f law = law_seq p _ Any I Any (Is s) law (λ a. law_seq (sign_at s) _ Any (Is s) Any Any (sign_law s) (λ c. law_done (f a) Any) (λ t i. tt)) (λ t i. tt)

-- ---- Constants.

pub minus_law : (t : Signed) → Law (minus_rest t) Any (Is sign.Number)
unfolding minus_rest
minus_law t = law_seq (sign_at sign.Number) _ Any (Is sign.Number) Any Any (sign_law sign.Number) (λ n. law_done (record { line = t.line; kind = constant.Minus (number_of n.text % 2 ^ 32) }) Any) (λ u i. tt)

constant_takes : (t : Signed) (m : Sign) (q : Reading Signed Constant) → constant_by t m ≡ Take q → Lives q Any Any
constant_takes t sign.Number q e = took _ q Any Any Any (λ u i. i) (law_done (record { line = t.line; kind = constant.Number (number_of t.text % 2 ^ 32) }) Any) e
constant_takes t sign.Minus q e = took (minus_rest t) q Any Any (Is sign.Number) (λ u i. i) (minus_law t) e
constant_takes t sign.Char q e = took _ q Any Any Any (λ u i. i) (law_done (record { line = t.line; kind = constant.Char (character_of t.text) }) Any) e
constant_takes t m q e = absurd cc

constant_passes : (t : Signed) (m : Sign) (a : Constant) → constant_by t m ≡ Pass a → ⊥
constant_passes t sign.Number a e = cc
constant_passes t sign.Minus a e = cc
constant_passes t sign.Char a e = cc
constant_passes t m a e = cc

pub constant_law : Law constant_at Any (Is sign.Number)
constant_law = law_dispatch (λ t. constant_by t t.sign) Any (Is sign.Number)
    (record { takes = λ t q e. constant_takes t t.sign q e; passes = λ t a e. absurd (constant_passes t t.sign a e) })
    (record { value = record { line = 0; kind = constant.Number (number_of [] % 2 ^ 32) }; words = λ r. bare sign.Number ∷ r; ends = λ r h. refl; first = λ r h. refl })

pub length_law : Law length_rest Any (Is sign.Number)
unfolding length_rest
length_law = ended_law constant_at (Is sign.Number) sign.CloseBracket (λ c. c) constant_law

brace_no_comma : (t : Signed) → Is sign.CloseBrace t → is_sign sign.Comma t ≡ false
brace_no_comma = no_comma sign.CloseBrace (λ e. cc)

pub listed_law : Law listed_rest Any (Is sign.Number)
unfolding listed_rest
listed_law = closed_law (commas constant_at) (Is sign.Number) sign.CloseBrace init.Listed (commas_law constant_at Any (Is sign.Number) constant_law (Is sign.CloseBrace) brace_no_comma (λ t i. tt))

initialiser_takes : (t : Signed) (m : Sign) (q : Reading Signed Initialiser) → initialiser_by t m ≡ Take q → Lives q Any Any
initialiser_takes t sign.Text q e = took _ q Any Any Any (λ u i. i) (law_done (init.Text (text_of t.text)) Any) e
initialiser_takes t sign.OpenBrace q e = took listed_rest q Any Any (Is sign.Number) (λ u i. i) listed_law e
initialiser_takes t m q e = absurd cc

initialiser_passes : (t : Signed) (m : Sign) (a : Initialiser) → initialiser_by t m ≡ Pass a → ⊥
initialiser_passes t sign.Text a e = cc
initialiser_passes t sign.OpenBrace a e = cc
initialiser_passes t m a e = cc

pub initialiser_law : Law initialiser_at Any (Is sign.Text)
initialiser_law = law_dispatch (λ t. initialiser_by t t.sign) Any (Is sign.Text)
    (record { takes = λ t q e. initialiser_takes t t.sign q e; passes = λ t a e. absurd (initialiser_passes t t.sign a e) })
    (record { value = init.Text (text_of []); words = λ r. bare sign.Text ∷ r; ends = λ r h. refl; first = λ r h. refl })

-- ---- Names, parameters and base types.

pub pointer_law : Law pointer_rest Any (Is sign.Name)
unfolding pointer_rest
pointer_law = law_seq (sign_at sign.Name) _ Any (Is sign.Name) Any Any (sign_law sign.Name) (λ n. law_done (true, n) Any) (λ t i. tt)

pub name_takes : (t : Signed) (m : Sign) (q : Reading Signed (Bool × Signed)) → name_by t m ≡ Take q → Lives q Any Any
name_takes t sign.Star q e = took pointer_rest q Any Any (Is sign.Name) (λ u i. i) pointer_law e
name_takes t sign.Name q e = took _ q Any Any Any (λ u i. i) (law_done (false, t) Any) e
name_takes t m q e = absurd cc

name_passes : (t : Signed) (m : Sign) (a : Bool × Signed) → name_by t m ≡ Pass a → ⊥
name_passes t sign.Star a e = cc
name_passes t sign.Name a e = cc
name_passes t m a e = cc

pub name_law : Law (dispatch name_pick) Any (Is sign.Name)
name_law = law_dispatch name_pick Any (Is sign.Name)
    (record { takes = λ t q e. name_takes t t.sign q e; passes = λ t a e. absurd (name_passes t t.sign a e) })
    (record { value = (false, bare sign.Name); words = λ r. bare sign.Name ∷ r; ends = λ r h. refl; first = λ r h. refl })

pub param_rest_law : (line : ℕ) (b : Base) → Law (param_rest line b) Any (Is sign.Name)
unfolding param_rest
param_rest_law line b = law_seq (dispatch name_pick) _ Any (Is sign.Name) Any Any name_law (λ x. law_done (record { line = line; base = b; pointer = x.0; name = x.1.text }) Any) (λ t i. tt)

pub param_takes : (t : Signed) (q : Reading Signed Param) → param_pick t ≡ Take q → Lives q Any Any
param_takes t q e = then_takes (base_pick t) (param_rest t.line) Any Any (Is sign.Name) (base_takes t) (param_rest_law t.line) (λ u i. tt) q e

pub param_law : Law param_at Any (Is sign.Int)
unfolding param_rest
param_law = law_dispatch param_pick Any (Is sign.Int)
    (record { takes = param_takes; passes = λ t a e. absurd (then_passes (base_pick t) (param_rest t.line) a e) })
    (record { value = record { line = 0; base = base.Int; pointer = false; name = [] }; words = λ r. bare sign.Int ∷ bare sign.Name ∷ r; ends = λ r h. refl; first = λ r h. refl })

paren_no_comma : (t : Signed) → Is sign.CloseParen t → is_sign sign.Comma t ≡ false
paren_no_comma = no_comma sign.CloseParen (λ e. cc)

pub params_rest_law : (p : Param) → Law (params_rest p) (Is sign.CloseParen) (Is sign.CloseParen)
unfolding params_rest
params_rest_law p =
    law_seq (others param_at (p ∷ [])) _ (Is sign.CloseParen) (Is sign.CloseParen) (Is sign.CloseParen) (Is sign.CloseParen)
    (others_law param_at Any (Is sign.Int) param_law (Is sign.CloseParen) paren_no_comma (λ t i. tt) (p ∷ [])) (λ ps. law_done (params.Listed ps) (Is sign.CloseParen)) (λ t i. i)

params_takes : (t : Signed) (m : Sign) (q : Reading Signed Params) → params_by t m ≡ Take q → Lives q (Is sign.CloseParen) Any
params_takes t sign.CloseParen q e = absurd cc
params_takes t sign.Void q e = took _ q Any (Is sign.CloseParen) Any (λ u i. tt) (law_done params.Void Any) e
params_takes t m q e = then_takes (param_pick t) params_rest Any (Is sign.CloseParen) (Is sign.CloseParen) (param_takes t) params_rest_law (λ u i. tt) q e

params_passes : (t : Signed) (m : Sign) (a : Params) → params_by t m ≡ Pass a → params.Empty ≡ a
params_passes t sign.CloseParen a e = cc
params_passes t sign.Void a e = absurd cc
params_passes t m a e = absurd (then_passes (param_pick t) params_rest a e)

at_paren : (u : Signed) (m : Sign) → m ≡ sign.CloseParen → params_by u m ≡ Pass params.Empty
at_paren u m e = ap (params_by u) e

params_end : (r : List Signed) → Heads (Is sign.CloseParen) r → params_at r ≡ Ok (params.Empty, r)
params_end [] h = absurd h
params_end (t ∷ ts) h = rw (at_paren t t.sign h) refl

pub params_law : Law params_at (Is sign.CloseParen) (Is sign.CloseParen)
params_law = law_dispatch (λ t. params_by t t.sign) (Is sign.CloseParen) (Is sign.CloseParen)
    (record { takes = λ t q e. params_takes t t.sign q e; passes = λ t a e u h. (at_paren u u.sign h ∙ ap Pass (params_passes t t.sign a e), h) })
    (record { value = params.Empty; words = λ r. r; ends = λ r h. params_end r h; first = λ r h. h })

-- ---- Variables at file level.

pub valued_law : Law valued_rest Any (Is sign.Number)
unfolding valued_rest
valued_law = ended_law constant_at (Is sign.Number) sign.Semicolon form.Valued constant_law

pub contents_rest_law : Law contents_rest Any (Is sign.Text)
unfolding contents_rest
contents_rest_law = law_seq initialiser_at _ Any (Is sign.Text) Any Any initialiser_law (λ i. law_done {T = Signed} (Some i) Any) (λ t i. tt)

contents_takes : (b : Bool) (q : Reading Signed (Option Initialiser)) → (let x : Pick Signed (Option Initialiser) = if b then Take contents_rest else Pass None in x) ≡ Take q → Lives q (Is sign.Semicolon) Any
contents_takes true q e = took contents_rest q Any (Is sign.Semicolon) (Is sign.Text) (λ u i. tt) contents_rest_law e
contents_takes false q e = absurd cc

contents_passes : (b : Bool) (a : Option Initialiser) → (let x : Pick Signed (Option Initialiser) = if b then Take contents_rest else Pass None in x) ≡ Pass a → (let n : Option Initialiser = None in n) ≡ a
contents_passes true a e = absurd cc
contents_passes false a e = cc

no_set : (t : Signed) → Is sign.Semicolon t → is_sign sign.Set t ≡ false
no_set t e = not_signed t.sign sign.Set (λ f. let same : sign.Semicolon ≡ sign.Set = sym e ∙ f in absurd cc)

contents_other : (t : Signed) → Is sign.Semicolon t → contents_pick t ≡ Pass None
contents_other t e = rw (no_set t e) refl

contents_end : (r : List Signed) → Heads (Is sign.Semicolon) r → dispatch contents_pick r ≡ Ok (None, r)
contents_end [] h = absurd h
contents_end (t ∷ ts) h = rw (no_set t h) refl

pub contents_law : Law (dispatch contents_pick) (Is sign.Semicolon) (Is sign.Semicolon)
contents_law = law_dispatch contents_pick (Is sign.Semicolon) (Is sign.Semicolon)
    (record { takes = λ t q e. contents_takes (is_sign sign.Set t) q e; passes = λ t a e u h. (contents_other u h ∙ ap Pass (contents_passes (is_sign sign.Set t) a e), h) })
    (record { value = None; words = λ r. r; ends = λ r h. contents_end r h; first = λ r h. h })

pub array_law : Law array_rest Any (Is sign.Number)
unfolding array_rest
array_law = law_seq length_rest _ Any (Is sign.Number) Any (Is sign.Semicolon) length_law
    (λ c. closed_law (dispatch contents_pick) (Is sign.Semicolon) sign.Semicolon (λ i. form.Array c i) contents_law) (λ t i. tt)

-- How declarations and files are read.
use Rattle.std.specs.Prelude.{ℕ, zero, suc, ◌%◌, ◌^◌, Bool, true, false, List, [], ◌∷◌, Option, None, Some, if◌then◌else◌}
use Rattle.nx_ctok.specs.Values.{number_of, character_of, text_of}
use Rattle.nx_grammar.specs.declared.kind.Kind.TheVariants.{Syntax, Limit}
use Rattle.nx_grammar.specs.Reading.{Reading, Pick, Refuse, Pass, Take, dispatch, seq, done, then_pick, loop}
use Rattle.nx_ctree.specs.declared.sign.Sign.{Sign}
use Rattle.nx_ctree.specs.declared.sign.Sign.TheVariants as sign
use Rattle.nx_ctree.specs.declared.sign.Signed.{Signed}
use Rattle.nx_ctree.specs.declared.expression.Expr.{Expr}
use Rattle.nx_ctree.specs.declared.statement.Decl.{Decl}
use Rattle.nx_ctree.specs.declared.statement.Item.{Item}
use Rattle.nx_ctree.specs.declared.statement.ItemKind.{ItemKind}
use Rattle.nx_ctree.specs.declared.statement.ItemKind.TheVariants as item
use Rattle.nx_ctree.specs.declared.program.TypeWord.{TypeWord}
use Rattle.nx_ctree.specs.declared.program.Base.{Base}
use Rattle.nx_ctree.specs.declared.program.Constant.{Constant}
use Rattle.nx_ctree.specs.declared.program.ConstantKind.TheVariants as constant
use Rattle.nx_ctree.specs.declared.program.Param.{Param}
use Rattle.nx_ctree.specs.declared.program.Params.{Params}
use Rattle.nx_ctree.specs.declared.program.Params.TheVariants as params
use Rattle.nx_ctree.specs.declared.program.Initialiser.{Initialiser}
use Rattle.nx_ctree.specs.declared.program.Initialiser.TheVariants as init
use Rattle.nx_ctree.specs.declared.program.Function.{Function}
use Rattle.nx_ctree.specs.declared.program.Rest.{Rest}
use Rattle.nx_ctree.specs.declared.program.Rest.TheVariants as form
use Rattle.nx_ctree.specs.declared.program.External.{External}
use Rattle.nx_ctree.specs.declared.program.Unit.{Unit as File}
use Rattle.nx_ctree.specs.Programs.{type_word}
use Rattle.nx_cexpr.specs.Signs.{is_sign}
use Rattle.nx_cexpr.specs.Types.{base_pick, begins_base}
use Rattle.nx_cexpr.specs.Reading.{has_node}
use Rattle.nx_cstmt.specs.Lists.{more_pick}
use Rattle.nx_cstmt.specs.Reading.{sign_at, stmt_pick, stmts_at}
use Rattle.nx_cparse.specs.Commas.{others, commas}

-- ---- Constants.

-- After a minus sign.
unfoldable pub minus_rest : Signed → Reading Signed Constant
minus_rest t = seq (sign_at sign.Number) (λ n. done (record { line = t.line; kind = constant.Minus (number_of n.text % 2 ^ 32) }))

abbrev pub constant_by : Signed → Sign → Pick Signed Constant
constant_by t sign.Number = Take (done (record { line = t.line; kind = constant.Number (number_of t.text % 2 ^ 32) }))
constant_by t sign.Minus = Take (minus_rest t)
constant_by t sign.Char = Take (done (record { line = t.line; kind = constant.Char (character_of t.text) }))
constant_by t _ = Refuse Syntax

abbrev pub constant_at : Reading Signed Constant
constant_at = dispatch (λ t. constant_by t t.sign)

-- An array's length after its bracket.
unfoldable pub length_rest : Reading Signed Constant
length_rest = seq constant_at (λ c. seq (sign_at sign.CloseBracket) (λ m. done c))

-- Constants up to a brace.
unfoldable pub listed_rest : Reading Signed Initialiser
listed_rest = seq (commas constant_at) (λ cs. seq (sign_at sign.CloseBrace) (λ m. done (init.Listed cs)))

abbrev pub initialiser_by : Signed → Sign → Pick Signed Initialiser
initialiser_by t sign.Text = Take (done (init.Text (text_of t.text)))
initialiser_by t sign.OpenBrace = Take listed_rest
initialiser_by t _ = Refuse Syntax

abbrev pub initialiser_at : Reading Signed Initialiser
initialiser_at = dispatch (λ t. initialiser_by t t.sign)

-- ---- Names, parameters and locals.

-- A name, with a "*" before it or without.
unfoldable pub pointer_rest : Reading Signed (Bool × Signed)
pointer_rest = seq (sign_at sign.Name) (λ n. done (true, n))

abbrev pub name_by : Signed → Sign → Pick Signed (Bool × Signed)
name_by t sign.Star = Take pointer_rest
name_by t sign.Name = Take (done (false, t))
name_by t _ = Refuse Syntax

abbrev pub name_pick : Signed → Pick Signed (Bool × Signed)
name_pick t = name_by t t.sign

-- A parameter after its base type; it begins on a line.
unfoldable pub param_rest : ℕ → Base → Reading Signed Param
param_rest line b = seq (dispatch name_pick) (λ x. done (record { line = line; base = b; pointer = x.0; name = x.1.text }))

abbrev pub param_pick : Signed → Pick Signed Param
param_pick t = then_pick (base_pick t) (param_rest t.line)

abbrev pub param_at : Reading Signed Param
param_at = dispatch param_pick

-- After the first parameter.
unfoldable pub params_rest : Param → Reading Signed Params
params_rest p = seq (others param_at (p ∷ [])) (λ ps. done (params.Listed ps))

-- What stands between a function's parentheses.
abbrev pub params_by : Signed → Sign → Pick Signed Params
params_by t sign.CloseParen = Pass params.Empty
params_by t sign.Void = Take (done params.Void)
params_by t _ = then_pick (param_pick t) params_rest

abbrev pub params_at : Reading Signed Params
params_at = dispatch (λ t. params_by t t.sign)

-- A local's value.
unfoldable pub value_rest : (Signed → Pick Signed Expr) → Reading Signed ItemKind
value_rest part = seq (dispatch part) (λ a. done (item.Valued a))

-- A value is a node above its expression, so it needs two.
abbrev pub value_pick : (ℕ → Signed → Pick Signed Expr) → ℕ → Pick Signed ItemKind
value_pick part zero = Refuse Limit
value_pick part (suc d) = if has_node d then Take (value_rest (part d)) else Refuse Limit

-- A local's length.
unfoldable pub local_array : Reading Signed ItemKind
local_array = seq length_rest (λ c. done (item.Array c))

-- What stands after a local's name.
abbrev pub item_kind_by : (ℕ → Signed → Pick Signed Expr) → ℕ → Sign → Pick Signed ItemKind
item_kind_by part d sign.OpenBracket = Take local_array
item_kind_by part d sign.Set = value_pick part d
item_kind_by part d _ = Pass item.Plain

abbrev pub item_kind_at : (ℕ → Signed → Pick Signed Expr) → ℕ → Reading Signed ItemKind
item_kind_at part d = dispatch (λ t. item_kind_by part d t.sign)

-- A local after its name; it begins on a line.
unfoldable pub item_rest : (ℕ → Signed → Pick Signed Expr) → ℕ → ℕ → (Bool × Signed) → Reading Signed Item
item_rest part d line x = seq (item_kind_at part d) (λ k. done (record { line = line; pointer = x.0; name = x.1.text; kind = k }))

abbrev pub item_pick : (ℕ → Signed → Pick Signed Expr) → ℕ → Signed → Pick Signed Item
item_pick part d t = then_pick (name_pick t) (item_rest part d t.line)

abbrev pub item_at : (ℕ → Signed → Pick Signed Expr) → ℕ → Reading Signed Item
item_at part d = dispatch (item_pick part d)

-- A declaration after its base type.
unfoldable pub decl_rest : (ℕ → Signed → Pick Signed Expr) → ℕ → ℕ → Base → Reading Signed Decl
decl_rest part d line b = seq (commas (item_at part d)) (λ xs. seq (sign_at sign.Semicolon) (λ s. done (record { line = line; base = b; items = xs })))

abbrev pub decl_pick : (ℕ → Signed → Pick Signed Expr) → ℕ → Signed → Pick Signed Decl
decl_pick part d t = then_pick (base_pick t) (decl_rest part d t.line)

-- Whether no declaration begins with a token.
abbrev pub is_no_base : Signed → Bool
is_no_base t = if begins_base t.sign then false else true

-- Declarations, up to a token that begins none.
abbrev pub decls_at : (ℕ → Signed → Pick Signed Expr) → ℕ → Reading Signed (List Decl)
decls_at part d = loop (more_pick is_no_base (decl_pick part d)) []

-- A function's body after its brace.
unfoldable pub body_rest : (ℕ → Signed → Pick Signed Expr) → ℕ → Reading Signed Function
body_rest part d =
    seq (decls_at part d) (λ ds. seq (stmts_at (stmt_pick part d false)) (λ xs. seq (sign_at sign.CloseBrace) (λ c. done (record { decls = ds; body = xs }))))

-- ---- Files.

-- A variable's value.
unfoldable pub valued_rest : Reading Signed Rest
valued_rest = seq constant_at (λ c. seq (sign_at sign.Semicolon) (λ s. done (form.Valued c)))

-- An array's contents.
unfoldable pub contents_rest : Reading Signed (Option Initialiser)
contents_rest = seq initialiser_at (λ i. done (Some i))

abbrev pub contents_pick : Signed → Pick Signed (Option Initialiser)
contents_pick t = if is_sign sign.Set t then Take contents_rest else Pass None

-- An array after its bracket.
unfoldable pub array_rest : Reading Signed Rest
array_rest = seq length_rest (λ c. seq (dispatch contents_pick) (λ i. seq (sign_at sign.Semicolon) (λ s. done (form.Array c i))))

-- A function's definition after its parameters and its brace.
unfoldable pub definition_rest : (ℕ → Signed → Pick Signed Expr) → ℕ → Params → Reading Signed Rest
definition_rest part d ps = seq (body_rest part d) (λ f. done (form.Function ps f))

-- After a function's parentheses.
abbrev pub function_by : (ℕ → Signed → Pick Signed Expr) → ℕ → Params → Sign → Pick Signed Rest
function_by part d ps sign.Semicolon = Take (done (form.Prototype ps))
function_by part d ps sign.OpenBrace = Take (definition_rest part d ps)
function_by part d ps _ = Refuse Syntax

abbrev pub function_at : (ℕ → Signed → Pick Signed Expr) → ℕ → Params → Reading Signed Rest
function_at part d ps = dispatch (λ t. function_by part d ps t.sign)

-- A function after its "(".
unfoldable pub function_rest : (ℕ → Signed → Pick Signed Expr) → ℕ → Reading Signed Rest
function_rest part d = seq params_at (λ ps. seq (sign_at sign.CloseParen) (λ c. function_at part d ps))

-- What stands after a name at file level.
abbrev pub rest_by : (ℕ → Signed → Pick Signed Expr) → ℕ → Sign → Pick Signed Rest
rest_by part d sign.Semicolon = Take (done form.Plain)
rest_by part d sign.Set = Take valued_rest
rest_by part d sign.OpenBracket = Take array_rest
rest_by part d sign.OpenParen = Take (function_rest part d)
rest_by part d _ = Refuse Syntax

abbrev pub rest_at : (ℕ → Signed → Pick Signed Expr) → ℕ → Reading Signed Rest
rest_at part d = dispatch (λ t. rest_by part d t.sign)

-- A declaration or definition after its type word.
unfoldable pub external_rest : (ℕ → Signed → Pick Signed Expr) → ℕ → ℕ → Bool → TypeWord → Reading Signed External
external_rest part d line static w =
    seq (sign_at sign.Name) (λ n. seq (rest_at part d) (λ r. done (record { line = line; internal = static; result = w; name = n.text; rest = r })))

-- What begins with a type word; it begins on a line, with "static" or not.
abbrev pub word_by : (ℕ → Signed → Pick Signed Expr) → ℕ → ℕ → Bool → Option TypeWord → Pick Signed External
word_by part d line static None = Refuse Syntax
word_by part d line static (Some w) = Take (external_rest part d line static w)

-- After "static".
unfoldable pub static_rest : (ℕ → Signed → Pick Signed Expr) → ℕ → ℕ → Reading Signed External
static_rest part d line = dispatch (λ t. word_by part d line true (type_word t.sign))

abbrev pub external_pick : (ℕ → Signed → Pick Signed Expr) → ℕ → Signed → Pick Signed External
external_pick part d t = if is_sign sign.Static t then Take (static_rest part d t.line) else word_by part d t.line false (type_word t.sign)

-- A file up to its end, with at most so many nodes on a path in a function.
unfoldable pub unit_at : (ℕ → Signed → Pick Signed Expr) → ℕ → Reading Signed File
unit_at part d = seq (loop (more_pick (is_sign sign.End) (external_pick part d)) []) (λ xs. done (record { externals = xs }))

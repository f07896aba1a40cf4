-- Nothing that a file is read by takes its end.
use Rattle.std.proofs.Common.{◌≡◌, ℕ, zero, suc, ◌%◌, ◌^◌, Bool, true, false, [], ◌∷◌, refl, ap, subst}
use Rattle.std.specs.Prelude.{Option, Some, None, if◌then◌else◌}
use Rattle.nx_ctok.specs.Values.{number_of, character_of, text_of}
use Rattle.nx_grammar.specs.declared.kind.Kind.TheVariants.{Limit}
use Rattle.nx_grammar.specs.Reading.{Reading, Pick, Refuse, Pass, Take, dispatch, seq, done, loop}
use Rattle.nx_grammar.specs.Lawful.{Any}
use Rattle.nx_grammar.specs.Sparing.{Spares, SparesPick}
use Rattle.nx_grammar.proofs.Spares.{spares_seq, spares_done, spares_dispatch}
use Rattle.nx_ctree.specs.declared.sign.Sign.{Sign}
use Rattle.nx_ctree.specs.declared.sign.Sign.TheVariants as sign
use Rattle.nx_ctree.specs.declared.sign.Signed.{Signed}
use Rattle.nx_ctree.specs.declared.expression.Expr.{Expr}
use Rattle.nx_ctree.specs.declared.statement.ItemKind.{ItemKind}
use Rattle.nx_ctree.specs.declared.statement.ItemKind.TheVariants as item
use Rattle.nx_ctree.specs.declared.program.TypeWord.{TypeWord}
use Rattle.nx_ctree.specs.declared.program.Base.{Base}
use Rattle.nx_ctree.specs.declared.program.Constant.{Constant}
use Rattle.nx_ctree.specs.declared.program.ConstantKind.TheVariants as constant
use Rattle.nx_ctree.specs.declared.program.Param.{Param}
use Rattle.nx_ctree.specs.declared.program.Params.{Params}
use Rattle.nx_ctree.specs.declared.program.Params.TheVariants as params
use Rattle.nx_ctree.specs.declared.program.Initialiser.{Initialiser}
use Rattle.nx_ctree.specs.declared.program.Initialiser.TheVariants as init
use Rattle.nx_ctree.specs.declared.program.Rest.{Rest}
use Rattle.nx_ctree.specs.declared.program.Rest.TheVariants as form
use Rattle.nx_ctree.specs.declared.program.External.{External}
use Rattle.nx_ctree.specs.Programs.{type_word}
use Rattle.nx_cexpr.specs.Signs.{is_sign}
use Rattle.nx_cexpr.specs.Types.{base_pick}
use Rattle.nx_cexpr.proofs.Spared.{base_spares}
use Rattle.nx_cexpr.specs.Reading.{has_node}
use Rattle.nx_cstmt.specs.Lists.{more_pick}
use Rattle.nx_cstmt.specs.Reading.{sign_at, stmt_pick, stmts_at}
use Rattle.nx_cstmt.proofs.Signs.{Is, sign_is, sign_spares}
use Rattle.nx_cstmt.proofs.PartLaws.{Parts}
use Rattle.nx_cstmt.proofs.Lists.{then_spares, list_spares}
use Rattle.nx_cstmt.proofs.Last.{took_sign, stmts_last, stmt_last}
use Rattle.nx_cparse.specs.Commas.{others, commas}
use Rattle.nx_cparse.specs.Reading.{minus_rest, constant_by, constant_at, length_rest, listed_rest, initialiser_by, initialiser_at, pointer_rest, name_by, name_pick, param_rest, param_pick, param_at, params_rest, params_by, params_at, value_rest, value_pick, local_array, item_kind_by, item_kind_at, item_rest, item_pick, item_at, decl_rest, decl_pick, is_no_base, decls_at, body_rest, valued_rest, contents_rest, contents_pick, array_rest, definition_rest, function_by, function_rest, rest_by, rest_at, external_rest, word_by, static_rest, external_pick, unit_at}
use Rattle.nx_cparse.proofs.Commas.{others_spare, commas_spare}
use Rattle.nx_cparse.proofs.Laws.{no_comma, constant_law, param_law}
use Rattle.nx_cparse.proofs.FileLaws.{item_law, decls_rounds, externals_rounds}

-- The token that ends a file.
abbrev E : Signed → Type 0
E = Is sign.End

-- A reading and a token of a sign after it.
closed_last : {A B : Type 0} (p : Reading Signed A) (s : Sign) (f : A → B) → (s ≡ sign.End → ⊥) → Spares E p → Spares E (seq p (λ a. seq (sign_at s) (λ c. done (f a))))
closed_last p s f ne law = spares_seq E p _ law (λ a. spares_seq E (sign_at s) _ (sign_spares s ne) (λ c. spares_done E (f a)))

minus_last : (t : Signed) → Spares E (minus_rest t)
unfolding minus_rest
minus_last t = spares_seq E (sign_at sign.Number) _ (sign_spares sign.Number (λ e. cc)) (λ n. spares_done E (record { line = t.line; kind = constant.Minus (number_of n.text % 2 ^ 32) }))

constant_case : (t : Signed) (m : Sign) → t.sign ≡ m → (q : Reading Signed Constant) → constant_by t m ≡ Take q → (E t → ⊥) × Spares E q
constant_case t sign.Number e q h = took_sign sign.Number t _ q e (λ x. cc) (spares_done E (record { line = t.line; kind = constant.Number (number_of t.text % 2 ^ 32) })) h
constant_case t sign.Minus e q h = took_sign sign.Minus t (minus_rest t) q e (λ x. cc) (minus_last t) h
constant_case t sign.Char e q h = took_sign sign.Char t _ q e (λ x. cc) (spares_done E (record { line = t.line; kind = constant.Char (character_of t.text) })) h
constant_case t m e q h = absurd cc

constant_last : Spares E constant_at
constant_last = spares_dispatch E (λ t. constant_by t t.sign) (λ t. record { takes = λ q h. constant_case t t.sign refl q h })

length_last : Spares E length_rest
unfolding length_rest
length_last = closed_last constant_at sign.CloseBracket (λ c. c) (λ e. cc) constant_last

listed_last : Spares E listed_rest
unfolding listed_rest
listed_last = closed_last (commas constant_at) sign.CloseBrace init.Listed (λ e. cc) (commas_spare constant_at Any (Is sign.Number) constant_law (Is sign.CloseBrace) (no_comma sign.CloseBrace (λ e. cc)) (λ t i. tt) constant_last)

initialiser_case : (t : Signed) (m : Sign) → t.sign ≡ m → (q : Reading Signed Initialiser) → initialiser_by t m ≡ Take q → (E t → ⊥) × Spares E q
initialiser_case t sign.Text e q h = took_sign sign.Text t _ q e (λ x. cc) (spares_done E (init.Text (text_of t.text))) h
initialiser_case t sign.OpenBrace e q h = took_sign sign.OpenBrace t listed_rest q e (λ x. cc) listed_last h
initialiser_case t m e q h = absurd cc

initialiser_last : Spares E initialiser_at
initialiser_last = spares_dispatch E (λ t. initialiser_by t t.sign) (λ t. record { takes = λ q h. initialiser_case t t.sign refl q h })

pointer_last : Spares E pointer_rest
unfolding pointer_rest
pointer_last = spares_seq E (sign_at sign.Name) _ (sign_spares sign.Name (λ e. cc)) (λ n. spares_done E (true, n))

name_case : (t : Signed) (m : Sign) → t.sign ≡ m → (q : Reading Signed (Bool × Signed)) → name_by t m ≡ Take q → (E t → ⊥) × Spares E q
name_case t sign.Star e q h = took_sign sign.Star t pointer_rest q e (λ x. cc) pointer_last h
name_case t sign.Name e q h = took_sign sign.Name t _ q e (λ x. cc) (spares_done E (false, t)) h
name_case t m e q h = absurd cc

name_spares : (t : Signed) → SparesPick E t (name_pick t)
name_spares t = record { takes = λ q h. name_case t t.sign refl q h }

param_rest_last : (line : ℕ) (b : Base) → Spares E (param_rest line b)
unfolding param_rest
param_rest_last line b = spares_seq E (dispatch name_pick) _ (spares_dispatch E name_pick name_spares) (λ x. spares_done E (record { line = line; base = b; pointer = x.0; name = x.1.text }))

param_spares : (t : Signed) → SparesPick E t (param_pick t)
param_spares t = then_spares E t (base_pick t) (param_rest t.line) (base_spares t) (param_rest_last t.line)

params_rest_last : (p : Param) → Spares E (params_rest p)
unfolding params_rest
params_rest_last p = spares_seq E (others param_at (p ∷ [])) _ (others_spare param_at Any (Is sign.Int) param_law (Is sign.CloseParen) (no_comma sign.CloseParen (λ e. cc)) (λ t i. tt) (spares_dispatch E param_pick param_spares) (p ∷ [])) (λ ps. spares_done E (params.Listed ps))

params_case : (t : Signed) (m : Sign) → t.sign ≡ m → (q : Reading Signed Params) → params_by t m ≡ Take q → (E t → ⊥) × Spares E q
params_case t sign.CloseParen e q h = absurd cc
params_case t sign.Void e q h = took_sign sign.Void t _ q e (λ x. cc) (spares_done E params.Void) h
params_case t m e q h = (then_spares E t (param_pick t) params_rest (param_spares t) params_rest_last).takes q h

params_last : Spares E params_at
params_last = spares_dispatch E (λ t. params_by t t.sign) (λ t. record { takes = λ q h. params_case t t.sign refl q h })

valued_last : Spares E valued_rest
unfolding valued_rest
valued_last = closed_last constant_at sign.Semicolon form.Valued (λ e. cc) constant_last

contents_rest_last : Spares E contents_rest
unfolding contents_rest
contents_rest_last = spares_seq E initialiser_at _ initialiser_last (λ i. spares_done E (Some i))

contents_case : (b : Bool) (t : Signed) → is_sign sign.Set t ≡ b → SparesPick {A = Option Initialiser} E t (if b then Take contents_rest else Pass None)
contents_case true t e = record { takes = λ q h. took_sign sign.Set t contents_rest q (sign_is t.sign sign.Set e) (λ x. cc) contents_rest_last h }
contents_case false t e = record { takes = λ q h. absurd cc }

array_last : Spares E array_rest
unfolding array_rest
array_last = spares_seq E length_rest _ length_last (λ c. closed_last (dispatch contents_pick) sign.Semicolon (λ i. form.Array c i) (λ e. cc) (spares_dispatch E contents_pick (λ t. contents_case (is_sign sign.Set t) t refl)))

local_array_last : Spares E local_array
unfolding local_array
local_array_last = spares_seq E length_rest _ length_last (λ c. spares_done E (item.Array c))

module _ (part : ℕ → Signed → Pick Signed Expr) (F : Signed → Type 0) (margin : ℕ) (law : Parts part F margin) where
  value_rest_last : (d : ℕ) → Spares E (value_rest (part d))
  unfolding value_rest
  value_rest_last d = spares_seq E (dispatch (part d)) _ (spares_dispatch E (part d) (law.spares d)) (λ a. spares_done E (item.Valued a))

  value_case : (d : ℕ) (b : Bool) (t : Signed) → t.sign ≡ sign.Set → (q : Reading Signed ItemKind) → (let x : Pick Signed ItemKind = if b then Take (value_rest (part d)) else Refuse Limit in x) ≡ Take q → (E t → ⊥) × Spares E q
  value_case d true t e q h = took_sign sign.Set t (value_rest (part d)) q e (λ x. cc) (value_rest_last d) h
  value_case d false t e q h = absurd cc

  value_last : (d : ℕ) (t : Signed) → t.sign ≡ sign.Set → (q : Reading Signed ItemKind) → value_pick part d ≡ Take q → (E t → ⊥) × Spares E q
  value_last zero t e q h = absurd cc
  value_last (suc d) t e q h = value_case d (has_node d) t e q h

  kind_case : (d : ℕ) (t : Signed) (m : Sign) → t.sign ≡ m → (q : Reading Signed ItemKind) → item_kind_by part d m ≡ Take q → (E t → ⊥) × Spares E q
  kind_case d t sign.OpenBracket e q h = took_sign sign.OpenBracket t local_array q e (λ x. cc) local_array_last h
  kind_case d t sign.Set e q h = value_last d t e q h
  kind_case d t m e q h = absurd cc

  item_rest_last : (d line : ℕ) (x : Bool × Signed) → Spares E (item_rest part d line x)
  unfolding item_rest
  item_rest_last d line x = spares_seq E (item_kind_at part d) _ (spares_dispatch E (λ t. item_kind_by part d t.sign) (λ t. record { takes = λ q h. kind_case d t t.sign refl q h }))
      (λ k. spares_done E (record { line = line; pointer = x.0; name = x.1.text; kind = k }))

  item_last : (d : ℕ) → Spares E (item_at part d)
  item_last d = spares_dispatch E (item_pick part d) (λ t. then_spares E t (name_pick t) (item_rest part d t.line) (name_spares t) (item_rest_last d t.line))

  decl_rest_last : (d line : ℕ) (b : Base) → Spares E (decl_rest part d line b)
  unfolding decl_rest
  decl_rest_last d line b = closed_last (commas (item_at part d)) sign.Semicolon (λ xs. record { line = line; base = b; items = xs }) (λ e. cc)
      (commas_spare (item_at part d) (Is sign.Semicolon) (Is sign.Name) (item_law part F law.lives d) (Is sign.Semicolon) (no_comma sign.Semicolon (λ e. cc)) (λ t i. i) (item_last d))

  decls_last : (d : ℕ) → Spares E (decls_at part d)
  decls_last d = list_spares is_no_base E (decl_pick part d) (Is sign.CloseBrace) (Is sign.CloseBrace) (decls_rounds part F law.lives d) (λ t. then_spares E t (base_pick t) (decl_rest part d t.line) (base_spares t) (decl_rest_last d t.line))

  body_last : (d : ℕ) → Spares E (body_rest part d)
  unfolding body_rest
  body_last d = spares_seq E (decls_at part d) _ (decls_last d)
      (λ ds. closed_last (stmts_at (stmt_pick part d false)) sign.CloseBrace (λ xs. record { decls = ds; body = xs }) (λ e. cc) (stmts_last part F margin law d false (stmt_last part F margin law d false)))

  definition_last : (d : ℕ) (ps : Params) → Spares E (definition_rest part d ps)
  unfolding definition_rest
  definition_last d ps = spares_seq E (body_rest part d) _ (body_last d) (λ f. spares_done E (form.Function ps f))

  function_case : (d : ℕ) (ps : Params) (t : Signed) (m : Sign) → t.sign ≡ m → (q : Reading Signed Rest) → function_by part d ps m ≡ Take q → (E t → ⊥) × Spares E q
  function_case d ps t sign.Semicolon e q h = took_sign sign.Semicolon t _ q e (λ x. cc) (spares_done E (form.Prototype ps)) h
  function_case d ps t sign.OpenBrace e q h = took_sign sign.OpenBrace t (definition_rest part d ps) q e (λ x. cc) (definition_last d ps) h
  function_case d ps t m e q h = absurd cc

  function_last : (d : ℕ) → Spares E (function_rest part d)
  unfolding function_rest
  function_last d = spares_seq E params_at _ params_last (λ ps. spares_seq E (sign_at sign.CloseParen) _ (sign_spares sign.CloseParen (λ e. cc))
      (λ c. spares_dispatch E (λ t. function_by part d ps t.sign) (λ t. record { takes = λ q h. function_case d ps t t.sign refl q h })))

  rest_case : (d : ℕ) (t : Signed) (m : Sign) → t.sign ≡ m → (q : Reading Signed Rest) → rest_by part d m ≡ Take q → (E t → ⊥) × Spares E q
  rest_case d t sign.Semicolon e q h = took_sign sign.Semicolon t _ q e (λ x. cc) (spares_done E form.Plain) h
  rest_case d t sign.Set e q h = took_sign sign.Set t valued_rest q e (λ x. cc) valued_last h
  rest_case d t sign.OpenBracket e q h = took_sign sign.OpenBracket t array_rest q e (λ x. cc) array_last h
  rest_case d t sign.OpenParen e q h = took_sign sign.OpenParen t (function_rest part d) q e (λ x. cc) (function_last d) h
  rest_case d t m e q h = absurd cc

  external_rest_last : (d line : ℕ) (static : Bool) (w : TypeWord) → Spares E (external_rest part d line static w)
  unfolding external_rest
  external_rest_last d line static w =
      spares_seq E (sign_at sign.Name) _ (sign_spares sign.Name (λ e. cc))
      (λ n. spares_seq E (rest_at part d) _ (spares_dispatch E (λ t. rest_by part d t.sign) (λ t. record { takes = λ q h. rest_case d t t.sign refl q h }))
      (λ r. spares_done E (record { line = line; internal = static; result = w; name = n.text; rest = r })))

  word_not_end : (t : Signed) (w : TypeWord) → type_word t.sign ≡ Some w → E t → ⊥
  word_not_end t w e f = let same : type_word t.sign ≡ None = ap type_word f in absurd cc

  word_case : (d line : ℕ) (static : Bool) (t : Signed) (o : Option TypeWord) → type_word t.sign ≡ o → SparesPick E t (word_by part d line static o)
  word_case d line static t None e = record { takes = λ q h. absurd cc }
  word_case d line static t (Some w) e = record { takes = λ q h. (word_not_end t w e, subst (λ z. Spares E z) (let y : external_rest part d line static w ≡ q = cc in y) (external_rest_last d line static w)) }

  static_last : (d line : ℕ) → Spares E (static_rest part d line)
  unfolding static_rest
  static_last d line = spares_dispatch E (λ t. word_by part d line true (type_word t.sign)) (λ t. word_case d line true t (type_word t.sign) refl)

  external_case : (d : ℕ) (b : Bool) (t : Signed) → is_sign sign.Static t ≡ b → SparesPick {A = External} E t (if b then Take (static_rest part d t.line) else word_by part d t.line false (type_word t.sign))
  external_case d true t e = record { takes = λ q h. took_sign sign.Static t (static_rest part d t.line) q (sign_is t.sign sign.Static e) (λ x. cc) (static_last d t.line) h }
  external_case d false t e = word_case d t.line false t (type_word t.sign) refl

  -- A file's reading takes no end.
  pub unit_last : (d : ℕ) → Spares (Is sign.End) (unit_at part d)
  unfolding unit_at
  unit_last d = spares_seq E (loop (more_pick (is_sign sign.End) (external_pick part d)) []) _
      (list_spares (is_sign sign.End) E (external_pick part d) (Is sign.End) Any (externals_rounds part F law.lives d) (λ t. external_case d (is_sign sign.Static t) t refl)) (λ xs. spares_done E (record { externals = xs }))

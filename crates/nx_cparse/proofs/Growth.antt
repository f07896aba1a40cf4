-- Files within a limit against files within a wider one.
use Rattle.std.proofs.Common.{◌+◌, ◌≤◌, arith, ℕ, zero, suc, ◌%◌, ◌^◌, Bool, true, false, [], ◌∷◌, refl}
use Rattle.std.specs.Prelude.{Option, Some, None, if◌then◌else◌}
use Rattle.nx_ctok.specs.Values.{number_of, character_of, text_of}
use Rattle.nx_grammar.specs.declared.kind.Kind.TheVariants.{Limit}
use Rattle.nx_grammar.specs.Reading.{Reading, Pick, Refuse, Pass, Take, dispatch, seq, done, loop}
use Rattle.nx_grammar.specs.Lawful.{Any}
use Rattle.nx_grammar.specs.Growing.{Grows, Shortens, Wider, PickGrown}
use Rattle.nx_grammar.proofs.Growth.{grows_dispatch, grows_done, wider_seq, wider_done, shortens, shortens_seq}
use Rattle.nx_grammar.proofs.Thens.{then_grown}
use Rattle.nx_ctree.specs.declared.sign.Sign.{Sign}
use Rattle.nx_ctree.specs.declared.sign.Sign.TheVariants as sign
use Rattle.nx_ctree.specs.declared.sign.Signed.{Signed}
use Rattle.nx_ctree.specs.declared.expression.Expr.{Expr}
use Rattle.nx_ctree.specs.declared.statement.ItemKind.{ItemKind}
use Rattle.nx_ctree.specs.declared.statement.ItemKind.TheVariants as item
use Rattle.nx_ctree.specs.declared.program.TypeWord.{TypeWord}
use Rattle.nx_ctree.specs.declared.program.Base.{Base}
use Rattle.nx_ctree.specs.declared.program.Base.TheVariants as base
use Rattle.nx_ctree.specs.declared.program.ConstantKind.TheVariants as constant
use Rattle.nx_ctree.specs.declared.program.Param.{Param}
use Rattle.nx_ctree.specs.declared.program.Params.{Params}
use Rattle.nx_ctree.specs.declared.program.Params.TheVariants as params
use Rattle.nx_ctree.specs.declared.program.Initialiser.{Initialiser}
use Rattle.nx_ctree.specs.declared.program.Initialiser.TheVariants as init
use Rattle.nx_ctree.specs.declared.program.Rest.TheVariants as form
use Rattle.nx_ctree.specs.declared.program.External.{External}
use Rattle.nx_ctree.specs.Programs.{type_word}
use Rattle.nx_cexpr.specs.Signs.{is_sign}
use Rattle.nx_cexpr.specs.Types.{base_by, base_pick, const_rest}
use Rattle.nx_cexpr.specs.Reading.{has_node}
use Rattle.nx_cstmt.specs.Lists.{more_pick}
use Rattle.nx_cstmt.specs.Reading.{sign_at, stmt_pick, stmts_at}
use Rattle.nx_cstmt.proofs.Signs.{Is, sign_wider}
use Rattle.nx_cstmt.proofs.PartLaws.{Parts}
use Rattle.nx_cstmt.proofs.Lists.{list_wider}
use Rattle.nx_cstmt.proofs.Laws.{ones}
use Rattle.nx_cstmt.proofs.Growth.{stmts_wider, stmt_grown}
use Rattle.nx_cparse.specs.Commas.{others, commas}
use Rattle.nx_cparse.specs.Reading.{minus_rest, constant_by, constant_at, length_rest, listed_rest, initialiser_by, initialiser_at, pointer_rest, name_by, name_pick, param_rest, param_pick, param_at, params_rest, params_by, params_at, value_rest, value_pick, local_array, item_kind_by, item_kind_at, item_rest, item_pick, item_at, decl_rest, decl_pick, is_no_base, decls_at, body_rest, valued_rest, contents_rest, contents_pick, array_rest, definition_rest, function_by, function_at, function_rest, rest_by, rest_at, external_rest, word_by, static_rest, external_pick, unit_at}
use Rattle.nx_cparse.proofs.Commas.{others_wider, commas_wider}
use Rattle.nx_cparse.proofs.Laws.{no_comma, constant_law, initialiser_law, param_law, name_law, params_law, contents_law}
use Rattle.nx_cparse.proofs.FileLaws.{part_law, kind_law, item_law, decls_rounds, function_law, rest_law, static_law, externals_rounds}

-- A reading and a token of a sign after it.
closed_wider : {A B : Type 0} (p q : Reading Signed A) (s : Sign) (f : A → B) → Wider p q → Wider (seq p (λ a. seq (sign_at s) (λ c. done (f a)))) (seq q (λ a. seq (sign_at s) (λ c. done (f a))))
closed_wider p q s f w = wider_seq p q _ _ w (λ a. wider_seq (sign_at s) (sign_at s) _ _ (sign_wider s) (λ c. wider_done (f a)))

-- ---- Readings that no limit is in.

minus_wider : (t : Signed) → Wider (minus_rest t) (minus_rest t)
unfolding minus_rest
minus_wider t = wider_seq (sign_at sign.Number) (sign_at sign.Number) _ _ (sign_wider sign.Number) (λ n. wider_done (record { line = t.line; kind = constant.Minus (number_of n.text % 2 ^ 32) }))

constant_grown : (t : Signed) (m : Sign) → PickGrown (constant_by t m) (constant_by t m)
constant_grown t sign.Number = (_, refl, grows_done (record { line = t.line; kind = constant.Number (number_of t.text % 2 ^ 32) }))
constant_grown t sign.Minus = (minus_rest t, refl, (minus_wider t).grows)
constant_grown t sign.Char = (_, refl, grows_done (record { line = t.line; kind = constant.Char (character_of t.text) }))
constant_grown t m = refl

constant_wider : Wider constant_at constant_at
constant_wider = record {
  grows = grows_dispatch (λ t. constant_by t t.sign) (λ t. constant_by t t.sign) (λ t. constant_grown t t.sign);
  short = shortens constant_at Any (Is sign.Number) constant_law;
}

length_wider : Wider length_rest length_rest
unfolding length_rest
length_wider = closed_wider constant_at constant_at sign.CloseBracket (λ c. c) constant_wider

listed_wider : Wider listed_rest listed_rest
unfolding listed_rest
listed_wider = closed_wider (commas constant_at) (commas constant_at) sign.CloseBrace init.Listed
    (commas_wider constant_at constant_at Any (Is sign.Number) (Is sign.CloseBrace) constant_law constant_law (no_comma sign.CloseBrace (λ e. cc)) (λ t i. tt) constant_wider)

initialiser_grown : (t : Signed) (m : Sign) → PickGrown (initialiser_by t m) (initialiser_by t m)
initialiser_grown t sign.Text = (_, refl, grows_done (init.Text (text_of t.text)))
initialiser_grown t sign.OpenBrace = (listed_rest, refl, listed_wider.grows)
initialiser_grown t m = refl

initialiser_wider : Wider initialiser_at initialiser_at
initialiser_wider = record {
  grows = grows_dispatch (λ t. initialiser_by t t.sign) (λ t. initialiser_by t t.sign) (λ t. initialiser_grown t t.sign);
  short = shortens initialiser_at Any (Is sign.Text) initialiser_law;
}

pointer_wider : Wider pointer_rest pointer_rest
unfolding pointer_rest
pointer_wider = wider_seq (sign_at sign.Name) (sign_at sign.Name) _ _ (sign_wider sign.Name) (λ n. wider_done (true, n))

name_grown : (t : Signed) (m : Sign) → PickGrown (name_by t m) (name_by t m)
name_grown t sign.Star = (pointer_rest, refl, pointer_wider.grows)
name_grown t sign.Name = (_, refl, grows_done (false, t))
name_grown t m = refl

name_wider : Wider (dispatch name_pick) (dispatch name_pick)
name_wider = record { grows = grows_dispatch name_pick name_pick (λ t. name_grown t t.sign); short = shortens (dispatch name_pick) Any (Is sign.Name) name_law }

const_wider : Wider const_rest const_rest
unfolding const_rest
const_wider = wider_seq (sign_at sign.CharWord) (sign_at sign.CharWord) _ _ (sign_wider sign.CharWord) (λ n. wider_done base.ConstChar)

base_grown : (m : Sign) → PickGrown (base_by m) (base_by m)
base_grown sign.Int = (_, refl, grows_done base.Int)
base_grown sign.CharWord = (_, refl, grows_done base.Char)
base_grown sign.Const = (const_rest, refl, const_wider.grows)
base_grown m = refl

param_rest_wider : (line : ℕ) (b : Base) → Wider (param_rest line b) (param_rest line b)
unfolding param_rest
param_rest_wider line b = wider_seq (dispatch name_pick) (dispatch name_pick) _ _ name_wider (λ x. wider_done (record { line = line; base = b; pointer = x.0; name = x.1.text }))

param_grown : (t : Signed) → PickGrown (param_pick t) (param_pick t)
param_grown t = then_grown (param_rest t.line) (param_rest t.line) (λ b. (param_rest_wider t.line b).short) (base_pick t) (base_pick t) (base_grown t.sign) (λ b. (param_rest_wider t.line b).grows)

param_wider : Wider param_at param_at
param_wider = record { grows = grows_dispatch param_pick param_pick param_grown; short = shortens param_at Any (Is sign.Int) param_law }

params_rest_wider : (p : Param) → Wider (params_rest p) (params_rest p)
unfolding params_rest
params_rest_wider p =
    wider_seq (others param_at (p ∷ [])) (others param_at (p ∷ [])) _ _
    (others_wider param_at param_at Any (Is sign.Int) (Is sign.CloseParen) param_law param_law (no_comma sign.CloseParen (λ e. cc)) (λ t i. tt) param_wider (p ∷ [])) (λ ps. wider_done (params.Listed ps))

params_grown : (t : Signed) (m : Sign) → PickGrown (params_by t m) (params_by t m)
params_grown t sign.CloseParen = refl
params_grown t sign.Void = (_, refl, grows_done params.Void)
params_grown t m = then_grown params_rest params_rest (λ p. (params_rest_wider p).short) (param_pick t) (param_pick t) (param_grown t) (λ p. (params_rest_wider p).grows)

params_wider : Wider params_at params_at
params_wider = record {
  grows = grows_dispatch (λ t. params_by t t.sign) (λ t. params_by t t.sign) (λ t. params_grown t t.sign);
  short = shortens params_at (Is sign.CloseParen) (Is sign.CloseParen) params_law;
}

valued_wider : Wider valued_rest valued_rest
unfolding valued_rest
valued_wider = closed_wider constant_at constant_at sign.Semicolon form.Valued constant_wider

contents_rest_wider : Wider contents_rest contents_rest
unfolding contents_rest
contents_rest_wider = wider_seq initialiser_at initialiser_at _ _ initialiser_wider (λ i. wider_done (Some i))

contents_grown : (b : Bool) → PickGrown {T = Signed} {A = Option Initialiser} (if b then Take contents_rest else Pass None) (if b then Take contents_rest else Pass None)
contents_grown true = (contents_rest, refl, contents_rest_wider.grows)
contents_grown false = refl

contents_wider : Wider (dispatch contents_pick) (dispatch contents_pick)
contents_wider = record {
  grows = grows_dispatch contents_pick contents_pick (λ t. contents_grown (is_sign sign.Set t));
  short = shortens (dispatch contents_pick) (Is sign.Semicolon) (Is sign.Semicolon) contents_law;
}

array_wider : Wider array_rest array_rest
unfolding array_rest
array_wider = wider_seq length_rest length_rest _ _ length_wider (λ c. closed_wider (dispatch contents_pick) (dispatch contents_pick) sign.Semicolon (λ i. form.Array c i) contents_wider)

local_array_wider : Wider local_array local_array
unfolding local_array
local_array_wider = wider_seq length_rest length_rest _ _ length_wider (λ c. wider_done (item.Array c))

-- ---- Readings with expressions and statements.

module _ (part : ℕ → Signed → Pick Signed Expr) (F : Signed → Type 0) (margin : ℕ) (law : Parts part F margin) where
  part_wider : (d e : ℕ) → d + margin ≤ suc e → Wider (dispatch (part d)) (dispatch (part (suc e)))
  part_wider d e h = record {
    grows = grows_dispatch (part d) (part (suc e)) (law.grown d (suc e) h);
    short = shortens (dispatch (part (suc e))) F (Is sign.Number) (part_law part F law.lives e);
  }

  value_rest_wider : (d e : ℕ) → d + margin ≤ suc e → Wider (value_rest (part d)) (value_rest (part (suc e)))
  unfolding value_rest
  value_rest_wider d e h = wider_seq (dispatch (part d)) (dispatch (part (suc e))) _ _ (part_wider d e h) (λ a. wider_done (item.Valued a))

  value_short : (e : ℕ) → Shortens (value_rest (part (suc e)))
  unfolding value_rest
  value_short e = shortens_seq (λ a. done (item.Valued a)) (λ a. (wider_done (item.Valued a)).short) (dispatch (part (suc e))) (shortens (dispatch (part (suc e))) F (Is sign.Number) (part_law part F law.lives e))

  value_case : (d e : ℕ) (b : Bool) → d + margin ≤ suc e → PickGrown {T = Signed} {A = ItemKind} (if b then Take (value_rest (part d)) else Refuse Limit) (Take (value_rest (part (suc e))))
  value_case d e true h = (value_rest (part (suc e)), refl, (value_rest_wider d e h).grows)
  value_case d e false h = (value_rest (part (suc e)), refl, value_short e)

  value_grown : (d e : ℕ) → d + margin + 2 ≤ e → PickGrown {T = Signed} {A = ItemKind} (value_pick part d) (value_pick part e)
  value_grown d zero h = absurd (omega arith)
  value_grown d (suc zero) h = absurd (omega arith)
  value_grown zero (suc (suc e)) h = (value_rest (part (suc e)), refl, value_short e)
  value_grown (suc d) (suc (suc e)) h = value_case d e (has_node d) (omega arith)

  kind_grown : (d e : ℕ) → d + margin + 2 ≤ e → (m : Sign) → PickGrown (item_kind_by part d m) (item_kind_by part e m)
  kind_grown d e h sign.OpenBracket = (local_array, refl, local_array_wider.grows)
  kind_grown d e h sign.Set = value_grown d e h
  kind_grown d e h m = refl

  kind_wider : (d e : ℕ) → d + margin + 2 ≤ e → Wider (item_kind_at part d) (item_kind_at part e)
  kind_wider d e h = record {
    grows = grows_dispatch (λ t. item_kind_by part d t.sign) (λ t. item_kind_by part e t.sign) (λ t. kind_grown d e h t.sign);
    short = shortens (item_kind_at part e) (Is sign.Semicolon) (Is sign.Semicolon) (kind_law part F law.lives e);
  }

  item_rest_wider : (d e : ℕ) → d + margin + 2 ≤ e → (line : ℕ) (x : Bool × Signed) → Wider (item_rest part d line x) (item_rest part e line x)
  unfolding item_rest
  item_rest_wider d e h line x = wider_seq (item_kind_at part d) (item_kind_at part e) _ _ (kind_wider d e h) (λ k. wider_done (record { line = line; pointer = x.0; name = x.1.text; kind = k }))

  item_wider : (d e : ℕ) → d + margin + 2 ≤ e → Wider (item_at part d) (item_at part e)
  item_wider d e h = record {
    grows = grows_dispatch (item_pick part d) (item_pick part e)
        (λ t. then_grown (item_rest part d t.line) (item_rest part e t.line) (λ x. (item_rest_wider d e h t.line x).short) (name_pick t) (name_pick t) (name_grown t t.sign) (λ x. (item_rest_wider d e h t.line x).grows));
    short = shortens (item_at part e) (Is sign.Semicolon) (Is sign.Name) (item_law part F law.lives e);
  }

  decl_rest_wider : (d e : ℕ) → d + margin + 2 ≤ e → (line : ℕ) (b : Base) → Wider (decl_rest part d line b) (decl_rest part e line b)
  unfolding decl_rest
  decl_rest_wider d e h line b =
      closed_wider (commas (item_at part d)) (commas (item_at part e)) sign.Semicolon (λ xs. record { line = line; base = b; items = xs })
      (commas_wider (item_at part d) (item_at part e) (Is sign.Semicolon) (Is sign.Name) (Is sign.Semicolon) (item_law part F law.lives d) (item_law part F law.lives e) (no_comma sign.Semicolon (λ k. cc)) (λ t i. i) (item_wider d e h))

  decls_wider : (d e : ℕ) → d + margin + 2 ≤ e → Wider (decls_at part d) (decls_at part e)
  decls_wider d e h =
      list_wider is_no_base (decl_pick part d) (decl_pick part e) (Is sign.CloseBrace) (Is sign.CloseBrace) (decls_rounds part F law.lives d) (decls_rounds part F law.lives e)
      (λ t. then_grown (decl_rest part d t.line) (decl_rest part e t.line) (λ b. (decl_rest_wider d e h t.line b).short) (base_pick t) (base_pick t) (base_grown t.sign) (λ b. (decl_rest_wider d e h t.line b).grows))

  body_wider : (d e : ℕ) → d + margin + 2 ≤ e → Wider (body_rest part d) (body_rest part e)
  unfolding body_rest
  body_wider d e h =
      wider_seq (decls_at part d) (decls_at part e) _ _ (decls_wider d e h)
      (λ ds. closed_wider (stmts_at (stmt_pick part d false)) (stmts_at (stmt_pick part e false)) sign.CloseBrace (λ xs. record { decls = ds; body = xs })
      (stmts_wider (stmt_pick part d false) (stmt_pick part e false) (ones part F law.lives d false) (ones part F law.lives e false) (λ t. stmt_grown part F margin law d e h false t)))

  definition_wider : (d e : ℕ) → d + margin + 2 ≤ e → (ps : Params) → Wider (definition_rest part d ps) (definition_rest part e ps)
  unfolding definition_rest
  definition_wider d e h ps = wider_seq (body_rest part d) (body_rest part e) _ _ (body_wider d e h) (λ f. wider_done (form.Function ps f))

  function_grown : (d e : ℕ) → d + margin + 2 ≤ e → (ps : Params) (m : Sign) → PickGrown (function_by part d ps m) (function_by part e ps m)
  function_grown d e h ps sign.Semicolon = (_, refl, grows_done (form.Prototype ps))
  function_grown d e h ps sign.OpenBrace = (definition_rest part e ps, refl, (definition_wider d e h ps).grows)
  function_grown d e h ps m = refl

  function_wider : (d e : ℕ) → d + margin + 2 ≤ e → (ps : Params) → Wider (function_at part d ps) (function_at part e ps)
  function_wider d e h ps = record {
    grows = grows_dispatch (λ t. function_by part d ps t.sign) (λ t. function_by part e ps t.sign) (λ t. function_grown d e h ps t.sign);
    short = shortens (function_at part e ps) Any (Is sign.Semicolon) (function_law part F law.lives e ps);
  }

  function_rest_wider : (d e : ℕ) → d + margin + 2 ≤ e → Wider (function_rest part d) (function_rest part e)
  unfolding function_rest
  function_rest_wider d e h = wider_seq params_at params_at _ _ params_wider (λ ps. wider_seq (sign_at sign.CloseParen) (sign_at sign.CloseParen) _ _ (sign_wider sign.CloseParen) (λ c. function_wider d e h ps))

  rest_grown : (d e : ℕ) → d + margin + 2 ≤ e → (m : Sign) → PickGrown (rest_by part d m) (rest_by part e m)
  rest_grown d e h sign.Semicolon = (_, refl, grows_done form.Plain)
  rest_grown d e h sign.Set = (valued_rest, refl, valued_wider.grows)
  rest_grown d e h sign.OpenBracket = (array_rest, refl, array_wider.grows)
  rest_grown d e h sign.OpenParen = (function_rest part e, refl, (function_rest_wider d e h).grows)
  rest_grown d e h m = refl

  rest_wider : (d e : ℕ) → d + margin + 2 ≤ e → Wider (rest_at part d) (rest_at part e)
  rest_wider d e h = record {
    grows = grows_dispatch (λ t. rest_by part d t.sign) (λ t. rest_by part e t.sign) (λ t. rest_grown d e h t.sign);
    short = shortens (rest_at part e) Any (Is sign.Semicolon) (rest_law part F law.lives e);
  }

  external_rest_wider : (d e : ℕ) → d + margin + 2 ≤ e → (line : ℕ) (static : Bool) (w : TypeWord) → Wider (external_rest part d line static w) (external_rest part e line static w)
  unfolding external_rest
  external_rest_wider d e h line static w =
      wider_seq (sign_at sign.Name) (sign_at sign.Name) _ _ (sign_wider sign.Name)
      (λ n. wider_seq (rest_at part d) (rest_at part e) _ _ (rest_wider d e h) (λ r. wider_done (record { line = line; internal = static; result = w; name = n.text; rest = r })))

  word_grown : (d e : ℕ) → d + margin + 2 ≤ e → (line : ℕ) (static : Bool) (o : Option TypeWord) → PickGrown (word_by part d line static o) (word_by part e line static o)
  word_grown d e h line static None = refl
  word_grown d e h line static (Some w) = (external_rest part e line static w, refl, (external_rest_wider d e h line static w).grows)

  static_wider : (d e : ℕ) → d + margin + 2 ≤ e → (line : ℕ) → Wider (static_rest part d line) (static_rest part e line)
  unfolding static_rest
  static_wider d e h line = record {
    grows = grows_dispatch (λ t. word_by part d line true (type_word t.sign)) (λ t. word_by part e line true (type_word t.sign)) (λ t. word_grown d e h line true (type_word t.sign));
    short = shortens (static_rest part e line) Any (Is sign.Int) (static_law part F law.lives e line);
  }

  external_grown : (d e : ℕ) → d + margin + 2 ≤ e → (b : Bool) (t : Signed) →
      PickGrown {T = Signed} {A = External} (if b then Take (static_rest part d t.line) else word_by part d t.line false (type_word t.sign)) (if b then Take (static_rest part e t.line) else word_by part e t.line false (type_word t.sign))
  external_grown d e h true t = (static_rest part e t.line, refl, (static_wider d e h t.line).grows)
  external_grown d e h false t = word_grown d e h t.line false (type_word t.sign)

  -- A file within a limit that is wider by the expressions' margin and two.
  pub unit_grows : (d e : ℕ) → d + (margin + 2) ≤ e → Grows (unit_at part d) (unit_at part e)
  unfolding unit_at
  unit_grows d e h =
      (wider_seq (loop (more_pick (is_sign sign.End) (external_pick part d)) []) (loop (more_pick (is_sign sign.End) (external_pick part e)) []) _ _
      (list_wider (is_sign sign.End) (external_pick part d) (external_pick part e) (Is sign.End) Any (externals_rounds part F law.lives d) (externals_rounds part F law.lives e) (λ t. external_grown d e (omega arith) (is_sign sign.Static t) t))
      (λ xs. wider_done (record { externals = xs }))).grows

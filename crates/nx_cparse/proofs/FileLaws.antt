-- The laws of reading declarations and files, over a lawful reading of expressions.
use Rattle.std.proofs.Common.{◌≡◌, ℕ, zero, suc, Bool, true, false, List, [], ◌∷◌, refl, ap, ◌∙◌}
use Rattle.std.specs.Prelude.{Ok, Option, Some, None, if◌then◌else◌}
use Rattle.nx_grammar.specs.declared.kind.Kind.TheVariants.{Limit}
use Rattle.nx_grammar.specs.Reading.{Reading, Pick, Refuse, Pass, Take, dispatch, loop}
use Rattle.nx_grammar.specs.Lawful.{Heads, Any, Lives, Law, Rounds}
use Rattle.nx_grammar.proofs.Sequences.{law_seq, law_done}
use Rattle.nx_grammar.proofs.Choices.{law_dispatch, law_fit}
use Rattle.nx_grammar.proofs.LoopLaws.{law_loop}
use Rattle.nx_grammar.proofs.Thens.{then_takes, then_passes}
use Rattle.nx_ctree.specs.declared.sign.Sign.{Sign}
use Rattle.nx_ctree.specs.declared.sign.Sign.TheVariants as sign
use Rattle.nx_ctree.specs.declared.sign.Signed.{Signed}
use Rattle.nx_ctree.specs.declared.expression.Expr.{Expr}
use Rattle.nx_ctree.specs.declared.statement.Item.{Item}
use Rattle.nx_ctree.specs.declared.statement.ItemKind.{ItemKind}
use Rattle.nx_ctree.specs.declared.statement.ItemKind.TheVariants as item
use Rattle.nx_ctree.specs.declared.program.TypeWord.{TypeWord}
use Rattle.nx_ctree.specs.declared.program.TypeWord.TheVariants as word
use Rattle.nx_ctree.specs.declared.program.Base.{Base}
use Rattle.nx_ctree.specs.declared.program.Params.{Params}
use Rattle.nx_ctree.specs.declared.program.Rest.{Rest}
use Rattle.nx_ctree.specs.declared.program.Rest.TheVariants as form
use Rattle.nx_ctree.specs.declared.program.External.{External}
use Rattle.nx_ctree.specs.Programs.{type_word}
use Rattle.nx_cexpr.specs.Signs.{is_sign}
use Rattle.nx_cexpr.specs.Types.{base_pick, begins_base}
use Rattle.nx_cexpr.proofs.PrimaryLaws.{took, base_takes}
use Rattle.nx_cexpr.specs.Reading.{has_node}
use Rattle.nx_cstmt.specs.Lists.{more_pick}
use Rattle.nx_cstmt.specs.Reading.{sign_at, stmt_pick, stmts_at}
use Rattle.nx_cstmt.proofs.Signs.{Is, bare, signed, sign_law}
use Rattle.nx_cstmt.proofs.PartLaws.{PartLives}
use Rattle.nx_cstmt.proofs.Lists.{Ones, more_rounds}
use Rattle.nx_cstmt.proofs.Laws.{stmts_law, ones}
use Rattle.nx_cparse.specs.Commas.{commas}
use Rattle.nx_cparse.specs.Reading.{length_rest, name_pick, params_at, value_rest, value_pick, local_array, item_kind_by, item_kind_at, item_rest, item_pick, item_at, decl_rest, decl_pick, is_no_base, decls_at, body_rest, valued_rest, array_rest, definition_rest, function_by, function_at, function_rest, rest_by, rest_at, external_rest, word_by, static_rest, external_pick, unit_at}
use Rattle.nx_cparse.proofs.Commas.{commas_law}
use Rattle.nx_cparse.proofs.Laws.{no_comma, closed_law, length_law, name_takes, params_law, valued_law, array_law}

-- ---- Locals and declarations.

semicolon_no_comma : (t : Signed) → Is sign.Semicolon t → is_sign sign.Comma t ≡ false
semicolon_no_comma = no_comma sign.Semicolon (λ e. cc)

pub value_law : (part : Signed → Pick Signed Expr) (F : Signed → Type 0) → ((t : Signed) → Is sign.Semicolon t → F t) → Law (dispatch part) F (Is sign.Number) → Law (value_rest part) (Is sign.Semicolon) (Is sign.Number)
unfolding value_rest
value_law part F fits law = law_seq (dispatch part) _ F (Is sign.Number) (Is sign.Semicolon) (Is sign.Semicolon) law (λ a. law_done (item.Valued a) (Is sign.Semicolon)) fits

pub local_array_law : Law local_array Any (Is sign.Number)
unfolding local_array
local_array_law = law_seq length_rest _ Any (Is sign.Number) Any Any length_law (λ c. law_done (item.Array c) Any) (λ t i. tt)

-- Declarations that stop at a closing brace, and begin no statement's end.
brace_ends : (t : Signed) (m : Sign) → m ≡ sign.CloseBrace → (if begins_base m then false else true) ≡ true
brace_ends t m e = ap (λ x. if begins_base x then false else true) e

module _ (part : ℕ → Signed → Pick Signed Expr) (F : Signed → Type 0) (law : PartLives part F) where
  -- What reads expressions, where a node is left.
  pub part_law : (d : ℕ) → Law (dispatch (part (suc d))) F (Is sign.Number)
  part_law d = law_dispatch (part (suc d)) F (Is sign.Number) (record { takes = law.takes (suc d); passes = λ t a e. absurd (law.passes (suc d) t a e) }) (law.opens d)

  took_value : (d : ℕ) (b : Bool) → b ≡ has_node d → (q : Reading Signed ItemKind) → (if b then Take (value_rest (part d)) else Refuse Limit) ≡ Take q → Lives q (Is sign.Semicolon) Any
  took_value zero true n q e = absurd cc
  took_value (suc d) true n q e = took (value_rest (part (suc d))) q (Is sign.Semicolon) (Is sign.Semicolon) (Is sign.Number) (λ u i. i) (value_law (part (suc d)) F law.semicolon (part_law d)) e
  took_value d false n q e = absurd cc

  value_takes : (d : ℕ) (q : Reading Signed ItemKind) → value_pick part d ≡ Take q → Lives q (Is sign.Semicolon) Any
  value_takes zero q e = absurd cc
  value_takes (suc d) q e = took_value d (has_node d) refl q e

  value_passes : (d : ℕ) (a : ItemKind) → value_pick part d ≡ Pass a → ⊥
  value_passes zero a e = cc
  value_passes (suc zero) a e = cc
  value_passes (suc (suc d)) a e = cc

  kind_takes : (d : ℕ) (m : Sign) (q : Reading Signed ItemKind) → item_kind_by part d m ≡ Take q → Lives q (Is sign.Semicolon) Any
  kind_takes d sign.OpenBracket q e = took local_array q Any (Is sign.Semicolon) (Is sign.Number) (λ u i. tt) local_array_law e
  kind_takes d sign.Set q e = value_takes d q e
  kind_takes d m q e = absurd cc

  kind_passes : (d : ℕ) (m : Sign) (a : ItemKind) → item_kind_by part d m ≡ Pass a → item.Plain ≡ a
  kind_passes d sign.OpenBracket a e = absurd cc
  kind_passes d sign.Set a e = absurd (value_passes d a e)
  kind_passes d m a e = cc

  at_semicolon : (d : ℕ) (m : Sign) → m ≡ sign.Semicolon → item_kind_by part d m ≡ Pass item.Plain
  at_semicolon d m e = ap (item_kind_by part d) e

  kind_end : (d : ℕ) (r : List Signed) → Heads (Is sign.Semicolon) r → item_kind_at part d r ≡ Ok (item.Plain, r)
  kind_end d [] h = absurd h
  kind_end d (t ∷ ts) h = rw (at_semicolon d t.sign h) refl

  pub kind_law : (d : ℕ) → Law (item_kind_at part d) (Is sign.Semicolon) (Is sign.Semicolon)
  kind_law d = law_dispatch (λ t. item_kind_by part d t.sign) (Is sign.Semicolon) (Is sign.Semicolon)
      (record { takes = λ t q e. kind_takes d t.sign q e; passes = λ t a e u h. (at_semicolon d u.sign h ∙ ap Pass (kind_passes d t.sign a e), h) })
      (record { value = item.Plain; words = λ r. r; ends = λ r h. kind_end d r h; first = λ r h. h })

  pub item_rest_law : (d line : ℕ) (x : Bool × Signed) → Law (item_rest part d line x) (Is sign.Semicolon) (Is sign.Semicolon)
  unfolding item_rest
  item_rest_law d line x = law_seq (item_kind_at part d) _ (Is sign.Semicolon) (Is sign.Semicolon) (Is sign.Semicolon) (Is sign.Semicolon) (kind_law d)
      (λ k. law_done (record { line = line; pointer = x.0; name = x.1.text; kind = k }) (Is sign.Semicolon)) (λ t i. i)

  pub item_takes : (d : ℕ) (t : Signed) (q : Reading Signed Item) → item_pick part d t ≡ Take q → Lives q (Is sign.Semicolon) Any
  item_takes d t q e = then_takes (name_pick t) (item_rest part d t.line) Any (Is sign.Semicolon) (Is sign.Semicolon) (name_takes t t.sign) (item_rest_law d t.line) (λ u i. tt) q e

  item_ends : (d : ℕ) (r : List Signed) → Heads (Is sign.Semicolon) r → item_rest part d 0 (false, bare sign.Name) r ≡ Ok (record { line = 0; pointer = false; name = []; kind = item.Plain }, r)
  unfolding item_rest
  item_ends d r h = rw (kind_end d r h) refl

  pub item_law : (d : ℕ) → Law (item_at part d) (Is sign.Semicolon) (Is sign.Name)
  item_law d = law_dispatch (item_pick part d) (Is sign.Semicolon) (Is sign.Name)
      (record { takes = item_takes d; passes = λ t a e. absurd (then_passes (name_pick t) (item_rest part d t.line) a e) })
      (record { value = record { line = 0; pointer = false; name = []; kind = item.Plain }; words = λ r. bare sign.Name ∷ r; ends = λ r h. item_ends d r h; first = λ r h. refl })

  pub items_law : (d : ℕ) → Law (commas (item_at part d)) (Is sign.Semicolon) (Is sign.Name)
  items_law d = commas_law (item_at part d) (Is sign.Semicolon) (Is sign.Name) (item_law d) (Is sign.Semicolon) semicolon_no_comma (λ t i. i)

  pub decl_rest_law : (d line : ℕ) (b : Base) → Law (decl_rest part d line b) Any (Is sign.Name)
  unfolding decl_rest
  decl_rest_law d line b = closed_law (commas (item_at part d)) (Is sign.Name) sign.Semicolon (λ xs. record { line = line; base = b; items = xs }) (items_law d)

  -- Each declaration is lawful.
  pub decl_ones : (d : ℕ) → Ones (decl_pick part d) (Is sign.CloseBrace)
  decl_ones d = record {
    takes = λ t q e. then_takes (base_pick t) (decl_rest part d t.line) Any (Is sign.CloseBrace) (Is sign.Name) (base_takes t) (λ b. law_fit (decl_rest part d t.line b) Any (Is sign.CloseBrace) (Is sign.Name) (λ u i. tt) (decl_rest_law d t.line b)) (λ u i. tt) q e;
    passes = λ t a e. then_passes (base_pick t) (decl_rest part d t.line) a e;
  }

  pub decls_rounds : (d : ℕ) → Rounds (more_pick is_no_base (decl_pick part d)) (Is sign.CloseBrace) (Is sign.CloseBrace)
  decls_rounds d = more_rounds is_no_base (decl_pick part d) (Is sign.CloseBrace) (Is sign.CloseBrace) (λ t h. brace_ends t t.sign h) (λ t i. i) (decl_ones d)

  pub decls_law : (d : ℕ) → Law (decls_at part d) (Is sign.CloseBrace) (Is sign.CloseBrace)
  decls_law d = law_loop (more_pick is_no_base (decl_pick part d)) (Is sign.CloseBrace) (Is sign.CloseBrace) (decls_rounds d) []

  pub body_law : (d : ℕ) → Law (body_rest part d) Any (Is sign.CloseBrace)
  unfolding body_rest
  body_law d =
      law_seq (decls_at part d) _ (Is sign.CloseBrace) (Is sign.CloseBrace) Any (Is sign.CloseBrace) (decls_law d)
      (λ ds. closed_law (stmts_at (stmt_pick part d false)) (Is sign.CloseBrace) sign.CloseBrace (λ xs. record { decls = ds; body = xs }) (stmts_law (stmt_pick part d false) (ones part F law d false))) (λ t i. i)

  -- ---- Files.

  pub definition_law : (d : ℕ) (ps : Params) → Law (definition_rest part d ps) Any (Is sign.CloseBrace)
  unfolding definition_rest
  definition_law d ps = law_seq (body_rest part d) _ Any (Is sign.CloseBrace) Any Any (body_law d) (λ f. law_done (form.Function ps f) Any) (λ t i. tt)

  function_takes : (d : ℕ) (ps : Params) (m : Sign) (q : Reading Signed Rest) → function_by part d ps m ≡ Take q → Lives q Any Any
  function_takes d ps sign.Semicolon q e = took _ q Any Any Any (λ u i. i) (law_done (form.Prototype ps) Any) e
  function_takes d ps sign.OpenBrace q e = took (definition_rest part d ps) q Any Any (Is sign.CloseBrace) (λ u i. i) (definition_law d ps) e
  function_takes d ps m q e = absurd cc

  function_passes : (d : ℕ) (ps : Params) (m : Sign) (a : Rest) → function_by part d ps m ≡ Pass a → ⊥
  function_passes d ps sign.Semicolon a e = cc
  function_passes d ps sign.OpenBrace a e = cc
  function_passes d ps m a e = cc

  pub function_law : (d : ℕ) (ps : Params) → Law (function_at part d ps) Any (Is sign.Semicolon)
  function_law d ps = law_dispatch (λ t. function_by part d ps t.sign) Any (Is sign.Semicolon)
      (record { takes = λ t q e. function_takes d ps t.sign q e; passes = λ t a e. absurd (function_passes d ps t.sign a e) })
      (record { value = form.Prototype ps; words = λ r. bare sign.Semicolon ∷ r; ends = λ r h. refl; first = λ r h. refl })

  pub function_rest_law : (d : ℕ) → Law (function_rest part d) Any (Is sign.CloseParen)
  unfolding function_rest
  function_rest_law d =
      law_seq params_at _ (Is sign.CloseParen) (Is sign.CloseParen) Any (Is sign.CloseParen) params_law
      (λ ps. law_seq (sign_at sign.CloseParen) _ Any (Is sign.CloseParen) Any (Is sign.Semicolon) (sign_law sign.CloseParen) (λ c. function_law d ps) (λ t i. tt)) (λ t i. i)

  rest_takes : (d : ℕ) (m : Sign) (q : Reading Signed Rest) → rest_by part d m ≡ Take q → Lives q Any Any
  rest_takes d sign.Semicolon q e = took _ q Any Any Any (λ u i. i) (law_done form.Plain Any) e
  rest_takes d sign.Set q e = took valued_rest q Any Any (Is sign.Number) (λ u i. i) valued_law e
  rest_takes d sign.OpenBracket q e = took array_rest q Any Any (Is sign.Number) (λ u i. i) array_law e
  rest_takes d sign.OpenParen q e = took (function_rest part d) q Any Any (Is sign.CloseParen) (λ u i. i) (function_rest_law d) e
  rest_takes d m q e = absurd cc

  rest_passes : (d : ℕ) (m : Sign) (a : Rest) → rest_by part d m ≡ Pass a → ⊥
  rest_passes d sign.Semicolon a e = cc
  rest_passes d sign.Set a e = cc
  rest_passes d sign.OpenBracket a e = cc
  rest_passes d sign.OpenParen a e = cc
  rest_passes d m a e = cc

  pub rest_law : (d : ℕ) → Law (rest_at part d) Any (Is sign.Semicolon)
  rest_law d = law_dispatch (λ t. rest_by part d t.sign) Any (Is sign.Semicolon)
      (record { takes = λ t q e. rest_takes d t.sign q e; passes = λ t a e. absurd (rest_passes d t.sign a e) })
      (record { value = form.Plain; words = λ r. bare sign.Semicolon ∷ r; ends = λ r h. refl; first = λ r h. refl })

  pub external_rest_law : (d line : ℕ) (static : Bool) (w : TypeWord) → Law (external_rest part d line static w) Any (Is sign.Name)
  unfolding external_rest
  external_rest_law d line static w =
      law_seq (sign_at sign.Name) _ Any (Is sign.Name) Any (Is sign.Semicolon) (sign_law sign.Name)
      (λ n. law_seq (rest_at part d) _ Any (Is sign.Semicolon) Any Any (rest_law d) (λ r. law_done (record { line = line; internal = static; result = w; name = n.text; rest = r }) Any) (λ t i. tt)) (λ t i. tt)

  word_takes : (d line : ℕ) (static : Bool) (o : Option TypeWord) (q : Reading Signed External) → word_by part d line static o ≡ Take q → Lives q Any Any
  word_takes d line static None q e = absurd cc
  word_takes d line static (Some w) q e = took (external_rest part d line static w) q Any Any (Is sign.Name) (λ u i. i) (external_rest_law d line static w) e

  word_passes : (d line : ℕ) (static : Bool) (o : Option TypeWord) (a : External) → word_by part d line static o ≡ Pass a → ⊥
  word_passes d line static None a e = cc
  word_passes d line static (Some w) a e = cc

  static_ends : (d line : ℕ) (r : List Signed) → static_rest part d line (bare sign.Int ∷ bare sign.Name ∷ bare sign.Semicolon ∷ r) ≡ Ok (record { line = line; internal = true; result = word.Int; name = []; rest = form.Plain }, r)
  unfolding static_rest external_rest
  static_ends d line r = refl

  pub static_law : (d line : ℕ) → Law (static_rest part d line) Any (Is sign.Int)
  unfolding static_rest
  static_law d line = law_dispatch (λ t. word_by part d line true (type_word t.sign)) Any (Is sign.Int)
      (record { takes = λ t q e. word_takes d line true (type_word t.sign) q e; passes = λ t a e. absurd (word_passes d line true (type_word t.sign) a e) })
      (record {
        value = record { line = line; internal = true; result = word.Int; name = []; rest = form.Plain };
        words = λ r. bare sign.Int ∷ bare sign.Name ∷ bare sign.Semicolon ∷ r;
        ends = λ r h. static_ends d line r;
        first = λ r h. refl;
      })

  external_takes : (d : ℕ) (b : Bool) (t : Signed) (q : Reading Signed External) → (if b then Take (static_rest part d t.line) else word_by part d t.line false (type_word t.sign)) ≡ Take q → Lives q Any Any
  external_takes d true t q e = took (static_rest part d t.line) q Any Any (Is sign.Int) (λ u i. i) (static_law d t.line) e
  external_takes d false t q e = word_takes d t.line false (type_word t.sign) q e

  external_passes : (d : ℕ) (b : Bool) (t : Signed) (a : External) → (if b then Take (static_rest part d t.line) else word_by part d t.line false (type_word t.sign)) ≡ Pass a → ⊥
  external_passes d true t a e = cc
  external_passes d false t a e = word_passes d t.line false (type_word t.sign) a e

  -- Each external is lawful.
  pub external_ones : (d : ℕ) → Ones (external_pick part d) Any
  external_ones d = record {
    takes = λ t q e. external_takes d (is_sign sign.Static t) t q e;
    passes = λ t a e. external_passes d (is_sign sign.Static t) t a e;
  }

  pub externals_rounds : (d : ℕ) → Rounds (more_pick (is_sign sign.End) (external_pick part d)) (Is sign.End) Any
  externals_rounds d = more_rounds (is_sign sign.End) (external_pick part d) (Is sign.End) Any (λ t h. signed t.sign sign.End h) (λ t i. tt) (external_ones d)

  pub unit_law : (d : ℕ) → Law (unit_at part d) (Is sign.End) (Is sign.End)
  unfolding unit_at
  unit_law d =
      law_seq (loop (more_pick (is_sign sign.End) (external_pick part d)) []) _ (Is sign.End) (Is sign.End) (Is sign.End) (Is sign.End)
      (law_loop (more_pick (is_sign sign.End) (external_pick part d)) (Is sign.End) Any (externals_rounds d) []) (λ xs. law_done (record { externals = xs }) (Is sign.End)) (λ t i. i)

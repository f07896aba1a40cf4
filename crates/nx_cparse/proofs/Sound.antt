-- What is read of a file has its tree by the grammar.
use Rattle.std.proofs.Common.{◌≡◌, ℕ, zero, suc, ◌<◌, ◌≤◌, ◌%◌, ◌^◌, Bool, true, false, List, [], ◌∷◌, ◌++◌, refl, sym, ap, subst, arith}
use Rattle.std.specs.Prelude.{Ok, Option, Some, None, if◌then◌else◌}
use Rattle.nx_ctok.specs.Values.{number_of, character_of, text_of}
use Rattle.nx_grammar.specs.declared.kind.Kind.TheVariants.{Limit}
use Rattle.nx_grammar.specs.Reading.{Pick, Refuse, Pass, Take, picked, dispatch, then_pick, loop}
use Rattle.nx_grammar.specs.Lawful.{Heads, Any}
use Rattle.nx_grammar.proofs.Results.{bound, ok_same}
use Rattle.nx_ctree.specs.declared.sign.Sign.{Sign}
use Rattle.nx_ctree.specs.declared.sign.Sign.TheVariants as sign
use Rattle.nx_ctree.specs.declared.sign.Signed.{Signed}
use Rattle.nx_ctree.specs.declared.expression.Expr.{Expr}
use Rattle.nx_ctree.specs.declared.statement.Decl.{Decl}
use Rattle.nx_ctree.specs.declared.statement.Item.{Item}
use Rattle.nx_ctree.specs.declared.statement.ItemKind.{ItemKind}
use Rattle.nx_ctree.specs.declared.statement.ItemKind.TheVariants as item
use Rattle.nx_ctree.specs.declared.program.TypeWord.{TypeWord}
use Rattle.nx_ctree.specs.declared.program.Constant.{Constant}
use Rattle.nx_ctree.specs.declared.program.ConstantKind.TheVariants as constant
use Rattle.nx_ctree.specs.declared.program.Param.{Param}
use Rattle.nx_ctree.specs.declared.program.Params.{Params}
use Rattle.nx_ctree.specs.declared.program.Params.TheVariants as params
use Rattle.nx_ctree.specs.declared.program.Initialiser.{Initialiser}
use Rattle.nx_ctree.specs.declared.program.Initialiser.TheVariants as init
use Rattle.nx_ctree.specs.declared.program.Function.{Function}
use Rattle.nx_ctree.specs.declared.program.Rest.{Rest}
use Rattle.nx_ctree.specs.declared.program.Rest.TheVariants as form
use Rattle.nx_ctree.specs.declared.program.External.{External}
use Rattle.nx_ctree.specs.declared.program.Unit.{Unit as File}
use Rattle.nx_ctree.specs.Expressions.{IsStar, Plain, Pointer}
use Rattle.nx_ctree.specs.Statements.{IsStmts}
use Rattle.nx_ctree.specs.Programs as grammar
use Rattle.nx_ctree.specs.Programs.{type_word, IsConstant, AreConstants, IsLength, IsInitialiser, IsParam, AreParams, IsParams, IsItemRest, IsItem, AreItems, AreDecls, IsFunction, IsContents, IsRest, IsStatic, AreExternals, IsUnit}
use Rattle.nx_cexpr.specs.Signs.{is_sign}
use Rattle.nx_cexpr.specs.Types.{base_pick}
use Rattle.nx_cexpr.proofs.PrimarySound.{base_found}
use Rattle.nx_cexpr.specs.Reading.{has_node}
use Rattle.nx_cstmt.specs.Lists.{more_pick}
use Rattle.nx_cstmt.specs.Reading.{sign_at, stmt_pick, stmts_at}
use Rattle.nx_cstmt.proofs.Signs.{Is, sign_is, found_sign}
use Rattle.nx_cstmt.proofs.PartLaws.{Parts}
use Rattle.nx_cstmt.proofs.Lists.{then_read, list_keeps}
use Rattle.nx_cstmt.proofs.Sound.{moved, sound, found_stmts}
use Rattle.nx_cparse.specs.Commas.{others, commas}
use Rattle.nx_cparse.specs.Reading.{minus_rest, constant_by, constant_at, length_rest, listed_rest, initialiser_by, initialiser_at, pointer_rest, name_by, name_pick, param_rest, param_pick, param_at, params_rest, params_by, params_at, value_rest, value_pick, local_array, item_kind_by, item_kind_at, item_rest, item_pick, item_at, decl_rest, decl_pick, is_no_base, decls_at, body_rest, valued_rest, contents_rest, contents_pick, array_rest, definition_rest, function_by, function_at, function_rest, rest_by, rest_at, external_rest, word_by, static_rest, external_pick, unit_at}
use Rattle.nx_cparse.proofs.Commas.{others_found}
use Rattle.nx_cparse.proofs.Laws.{constant_law, param_law}
use Rattle.nx_cparse.proofs.FileLaws.{item_law, decls_rounds, externals_rounds}

-- ---- Constants.

constant_case : (t : Signed) (m : Sign) → t.sign ≡ m → (us : List Signed) (c : Constant) (rest : List Signed) → picked (constant_by t m) t us ≡ Ok (c, rest) → IsConstant (t ∷ us) c rest
unfolding minus_rest
constant_case t sign.Number e us c rest h =
    let x : Constant = record { line = t.line; kind = constant.Number (number_of t.text % 2 ^ 32) } in
    let o = ok_same x c us rest h in
    moved IsConstant (t ∷ us) (t ∷ us) x c us rest refl o.0 o.1 (grammar.Number t us e)
constant_case t sign.Minus e us c rest h =
    let z = bound (sign_at sign.Number us) _ (c, rest) h in
    let f = found_sign sign.Number us z.0 z.1 z.2 in
    let x : Constant = record { line = t.line; kind = constant.Minus (number_of z.0.text % 2 ^ 32) } in
    let o = ok_same x c z.1 rest z.3 in
    moved IsConstant (t ∷ z.0 ∷ z.1) (t ∷ us) x c z.1 rest (ap (λ y. t ∷ y) f.is) o.0 o.1 (grammar.Minus t z.0 z.1 e f.sign)
constant_case t sign.Char e us c rest h =
    let x : Constant = record { line = t.line; kind = constant.Char (character_of t.text) } in
    let o = ok_same x c us rest h in
    moved IsConstant (t ∷ us) (t ∷ us) x c us rest refl o.0 o.1 (grammar.Char t us e)
constant_case t m e us c rest h = absurd cc

pub found_constant : (ts : List Signed) (c : Constant) (rest : List Signed) → constant_at ts ≡ Ok (c, rest) → IsConstant ts c rest
found_constant [] c rest h = absurd cc
found_constant (t ∷ us) c rest h = constant_case t t.sign refl us c rest h

found_length : (o : Signed) (ts : List Signed) (c : Constant) (rest : List Signed) → o.sign ≡ sign.OpenBracket → length_rest ts ≡ Ok (c, rest) → IsLength (o ∷ ts) c rest
unfolding length_rest
found_length o ts c rest e h =
    let x = bound (constant_at ts) _ (c, rest) h in
    let y = bound (sign_at sign.CloseBracket x.1) _ (c, rest) x.3 in
    let f = found_sign sign.CloseBracket x.1 y.0 y.1 y.2 in
    let k = ok_same x.0 c y.1 rest y.3 in
    moved IsLength (o ∷ ts) (o ∷ ts) x.0 c y.1 rest refl k.0 k.1
    (grammar.Length o y.0 ts y.1 x.0 e (subst (λ u. IsConstant ts x.0 u) f.is (found_constant ts x.0 x.1 x.2)) f.sign)

found_constants : (ts : List Signed) (cs : List Constant) (rest : List Signed) → commas constant_at ts ≡ Ok (cs, rest) → AreConstants ts cs rest
found_constants ts cs rest h =
    let x = bound (constant_at ts) (λ a. others constant_at (a ∷ [])) (cs, rest) h in
    others_found constant_at Any (Is sign.Number) constant_law (λ ys us. AreConstants ts ys us)
    (λ ys m us a mid p e g. grammar.NextConstant m ts us mid ys a p e (found_constant us a mid g))
    (x.0 ∷ []) x.1 cs rest x.3 (grammar.FirstConstant ts x.1 x.0 (found_constant ts x.0 x.1 x.2))

initialiser_case : (t : Signed) (m : Sign) → t.sign ≡ m → (us : List Signed) (i : Initialiser) (rest : List Signed) → picked (initialiser_by t m) t us ≡ Ok (i, rest) → IsInitialiser (t ∷ us) i rest
unfolding listed_rest
initialiser_case t sign.Text e us i rest h =
    let o = ok_same (init.Text (text_of t.text)) i us rest h in
    moved IsInitialiser (t ∷ us) (t ∷ us) (init.Text (text_of t.text)) i us rest refl o.0 o.1 (grammar.TextContents t us e)
initialiser_case t sign.OpenBrace e us i rest h =
    let x = bound (commas constant_at us) _ (i, rest) h in
    let y = bound (sign_at sign.CloseBrace x.1) _ (i, rest) x.3 in
    let f = found_sign sign.CloseBrace x.1 y.0 y.1 y.2 in
    let o = ok_same (init.Listed x.0) i y.1 rest y.3 in
    moved IsInitialiser (t ∷ us) (t ∷ us) (init.Listed x.0) i y.1 rest refl o.0 o.1
    (grammar.ListedContents t y.0 us y.1 x.0 e (subst (λ u. AreConstants us x.0 u) f.is (found_constants us x.0 x.1 x.2)) f.sign)
initialiser_case t m e us i rest h = absurd cc

found_initialiser : (ts : List Signed) (i : Initialiser) (rest : List Signed) → initialiser_at ts ≡ Ok (i, rest) → IsInitialiser ts i rest
found_initialiser [] i rest h = absurd cc
found_initialiser (t ∷ us) i rest h = initialiser_case t t.sign refl us i rest h

-- ---- Names, base types and parameters.

-- A name stood there, after a "*" or not.
record FoundName (ts : List Signed) (x : Bool × Signed) (rest : List Signed) : Type 0 where
  star : IsStar ts x.0 (x.1 ∷ rest)
  name : x.1.sign ≡ sign.Name

name_case : (t : Signed) (m : Sign) → t.sign ≡ m → (us : List Signed) (x : Bool × Signed) (rest : List Signed) → picked (name_by t m) t us ≡ Ok (x, rest) → FoundName (t ∷ us) x rest
unfolding pointer_rest
name_case t sign.Star e us x rest h =
    let z = bound (sign_at sign.Name us) _ (x, rest) h in
    let f = found_sign sign.Name us z.0 z.1 z.2 in
    let y : Bool × Signed = (true, z.0) in
    let o = ok_same y x z.1 rest z.3 in
    moved FoundName (t ∷ us) (t ∷ us) y x z.1 rest refl o.0 o.1 (record { star = subst (λ u. IsStar (t ∷ us) true u) f.is (Pointer t us e); name = f.sign })
name_case t sign.Name e us x rest h =
    let y : Bool × Signed = (false, t) in
    let o = ok_same y x us rest h in
    moved FoundName (t ∷ us) (t ∷ us) y x us rest refl o.0 o.1 (record { star = Plain (t ∷ us); name = e })
name_case t m e us x rest h = absurd cc

found_name : (ts : List Signed) (x : Bool × Signed) (rest : List Signed) → dispatch name_pick ts ≡ Ok (x, rest) → FoundName ts x rest
found_name [] x rest h = absurd cc
found_name (t ∷ us) x rest h = name_case t t.sign refl us x rest h

param_case : (t : Signed) (us : List Signed) (p : Param) (rest : List Signed) → picked (param_pick t) t us ≡ Ok (p, rest) → IsParam (t ∷ us) p rest
unfolding param_rest
param_case t us p rest h =
    let x = then_read (base_pick t) (param_rest t.line) t us p rest h in
    let y = bound (dispatch name_pick x.1) _ (p, rest) x.3 in
    let f = found_name x.1 y.0 y.1 y.2 in
    let q : Param = record { line = t.line; base = x.0; pointer = y.0.0; name = y.0.1.text } in
    let o = ok_same q p y.1 rest y.3 in
    moved IsParam (t ∷ us) (t ∷ us) q p y.1 rest refl o.0 o.1 (grammar.Parameter y.0.1 (t ∷ us) x.1 y.1 x.0 y.0.0 (base_found t us x.0 x.1 x.2) f.star f.name)

found_param : (ts : List Signed) (p : Param) (rest : List Signed) → param_at ts ≡ Ok (p, rest) → IsParam ts p rest
found_param [] p rest h = absurd cc
found_param (t ∷ us) p rest h = param_case t us p rest h

listed_case : (t : Signed) (us : List Signed) (ps : Params) (rest : List Signed) → picked (then_pick (param_pick t) params_rest) t us ≡ Ok (ps, rest) → IsParams (t ∷ us) ps rest
unfolding params_rest
listed_case t us ps rest h =
    let x = then_read (param_pick t) params_rest t us ps rest h in
    let y = bound (others param_at (x.0 ∷ []) x.1) _ (ps, rest) x.3 in
    let o = ok_same (params.Listed y.0) ps y.1 rest y.3 in
    moved IsParams (t ∷ us) (t ∷ us) (params.Listed y.0) ps y.1 rest refl o.0 o.1
    (grammar.ListedParams (t ∷ us) y.1 y.0
    (others_found param_at Any (Is sign.Int) param_law (λ ys vs. AreParams (t ∷ us) ys vs)
    (λ ys m vs a mid p e g. grammar.NextParam m (t ∷ us) vs mid ys a p e (found_param vs a mid g))
    (x.0 ∷ []) x.1 y.0 y.1 y.2 (grammar.FirstParam (t ∷ us) x.1 x.0 (param_case t us x.0 x.1 x.2))))

params_case : (t : Signed) (m : Sign) → t.sign ≡ m → (us : List Signed) (ps : Params) (rest : List Signed) → picked (params_by t m) t us ≡ Ok (ps, rest) → IsParams (t ∷ us) ps rest
params_case t sign.CloseParen e us ps rest h = let o = ok_same params.Empty ps (t ∷ us) rest h in moved IsParams (t ∷ us) (t ∷ us) params.Empty ps (t ∷ us) rest refl o.0 o.1 (grammar.EmptyParams (t ∷ us))
params_case t sign.Void e us ps rest h = let o = ok_same params.Void ps us rest h in moved IsParams (t ∷ us) (t ∷ us) params.Void ps us rest refl o.0 o.1 (grammar.VoidParams t us e)
params_case t m e us ps rest h = listed_case t us ps rest h

found_params : (ts : List Signed) (ps : Params) (rest : List Signed) → params_at ts ≡ Ok (ps, rest) → IsParams ts ps rest
found_params [] ps rest h = absurd cc
found_params (t ∷ us) ps rest h = params_case t t.sign refl us ps rest h

-- ---- Variables at file level.

contents_case : (t : Signed) (us : List Signed) (i : Option Initialiser) (rest : List Signed) (b : Bool) → is_sign sign.Set t ≡ b → picked (if b then Take contents_rest else Pass None) t us ≡ Ok (i, rest) → IsContents (t ∷ us) i rest
unfolding contents_rest
contents_case t us i rest true e h =
    let x = bound (initialiser_at us) _ (i, rest) h in
    let o = ok_same (Some x.0) i x.1 rest x.3 in
    moved IsContents (t ∷ us) (t ∷ us) (Some x.0) i x.1 rest refl o.0 o.1 (grammar.Contents t us x.1 x.0 (sign_is t.sign sign.Set e) (found_initialiser us x.0 x.1 x.2))
contents_case t us i rest false e h =
    let o = ok_same None i (t ∷ us) rest h in
    moved IsContents (t ∷ us) (t ∷ us) None i (t ∷ us) rest refl o.0 o.1 (grammar.NoContents (t ∷ us))

found_contents : (ts : List Signed) (i : Option Initialiser) (rest : List Signed) → dispatch contents_pick ts ≡ Ok (i, rest) → IsContents ts i rest
found_contents [] i rest h = absurd cc
found_contents (t ∷ us) i rest h = contents_case t us i rest (is_sign sign.Set t) refl h

found_valued : (d : ℕ) (t : Signed) (ts : List Signed) (r : Rest) (rest : List Signed) → t.sign ≡ sign.Set → valued_rest ts ≡ Ok (r, rest) → IsRest d (t ∷ ts) r rest
unfolding valued_rest
found_valued d t ts r rest e h =
    let x = bound (constant_at ts) _ (r, rest) h in
    let y = bound (sign_at sign.Semicolon x.1) _ (r, rest) x.3 in
    let f = found_sign sign.Semicolon x.1 y.0 y.1 y.2 in
    let o = ok_same (form.Valued x.0) r y.1 rest y.3 in
    moved (IsRest d) (t ∷ ts) (t ∷ ts) (form.Valued x.0) r y.1 rest refl o.0 o.1
    (grammar.Valued d t y.0 ts y.1 x.0 e (subst (λ u. IsConstant ts x.0 u) f.is (found_constant ts x.0 x.1 x.2)) f.sign)

found_array : (d : ℕ) (t : Signed) (ts : List Signed) (r : Rest) (rest : List Signed) → t.sign ≡ sign.OpenBracket → array_rest ts ≡ Ok (r, rest) → IsRest d (t ∷ ts) r rest
unfolding array_rest
found_array d t ts r rest e h =
    let x = bound (length_rest ts) _ (r, rest) h in
    let y = bound (dispatch contents_pick x.1) _ (r, rest) x.3 in
    let z = bound (sign_at sign.Semicolon y.1) _ (r, rest) y.3 in
    let f = found_sign sign.Semicolon y.1 z.0 z.1 z.2 in
    let o = ok_same (form.Array x.0 y.0) r z.1 rest z.3 in
    moved (IsRest d) (t ∷ ts) (t ∷ ts) (form.Array x.0 y.0) r z.1 rest refl o.0 o.1
    (grammar.Array d z.0 (t ∷ ts) x.1 z.1 x.0 y.0 (found_length t ts x.0 x.1 e x.2) (subst (λ u. IsContents x.1 y.0 u) f.is (found_contents x.1 y.0 y.1 y.2)) f.sign)

-- ---- Locals, declarations and functions.

less_than : (h d : ℕ) → h ≤ d → h < suc d
less_than h d l = omega arith

module _ (part : ℕ → Signed → Pick Signed Expr) (F : Signed → Type 0) (margin : ℕ) (law : Parts part F margin) where
  value_case : (d : ℕ) (b : Bool) (t : Signed) → t.sign ≡ sign.Set → (us : List Signed) (k : ItemKind) (rest : List Signed) → picked (if b then Take (value_rest (part d)) else Refuse Limit) t us ≡ Ok (k, rest) → IsItemRest (suc d) (t ∷ us) k rest
  unfolding value_rest
  value_case d true t e us k rest h =
      let x = bound (dispatch (part d) us) _ (k, rest) h in
      let o = ok_same (item.Valued x.0) k x.1 rest x.3 in
      let p = law.sound d us x.0 x.1 x.2 in
      moved (IsItemRest (suc d)) (t ∷ us) (t ∷ us) (item.Valued x.0) k x.1 rest refl o.0 o.1 (grammar.ValuedItem (suc d) t us x.1 x.0 p.height e p.has (less_than p.height d p.within))
  value_case d false t e us k rest h = absurd cc

  found_value : (d : ℕ) (t : Signed) → t.sign ≡ sign.Set → (us : List Signed) (k : ItemKind) (rest : List Signed) → picked (value_pick part d) t us ≡ Ok (k, rest) → IsItemRest d (t ∷ us) k rest
  found_value zero t e us k rest h = absurd cc
  found_value (suc d) t e us k rest h = value_case d (has_node d) t e us k rest h

  kind_case : (d : ℕ) (t : Signed) (m : Sign) → t.sign ≡ m → (us : List Signed) (k : ItemKind) (rest : List Signed) → picked (item_kind_by part d m) t us ≡ Ok (k, rest) → IsItemRest d (t ∷ us) k rest
  unfolding local_array
  kind_case d t sign.OpenBracket e us k rest h =
      let x = bound (length_rest us) _ (k, rest) h in
      let o = ok_same (item.Array x.0) k x.1 rest x.3 in
      moved (IsItemRest d) (t ∷ us) (t ∷ us) (item.Array x.0) k x.1 rest refl o.0 o.1 (grammar.ArrayItem d (t ∷ us) x.1 x.0 (found_length t us x.0 x.1 e x.2))
  kind_case d t sign.Set e us k rest h = found_value d t e us k rest h
  kind_case d t m e us k rest h = let o = ok_same item.Plain k (t ∷ us) rest h in moved (IsItemRest d) (t ∷ us) (t ∷ us) item.Plain k (t ∷ us) rest refl o.0 o.1 (grammar.PlainItem d (t ∷ us))

  found_kind : (d : ℕ) (ts : List Signed) (k : ItemKind) (rest : List Signed) → item_kind_at part d ts ≡ Ok (k, rest) → IsItemRest d ts k rest
  found_kind d [] k rest h = absurd cc
  found_kind d (t ∷ us) k rest h = kind_case d t t.sign refl us k rest h

  item_case : (d : ℕ) (t : Signed) (us : List Signed) (x : Item) (rest : List Signed) → picked (item_pick part d t) t us ≡ Ok (x, rest) → IsItem d (t ∷ us) x rest
  unfolding item_rest
  item_case d t us x rest h =
      let n = then_read (name_pick t) (item_rest part d t.line) t us x rest h in
      let k = bound (item_kind_at part d n.1) _ (x, rest) n.3 in
      let f = found_name (t ∷ us) n.0 n.1 n.2 in
      let y : Item = record { line = t.line; pointer = n.0.0; name = n.0.1.text; kind = k.0 } in
      let o = ok_same y x k.1 rest k.3 in
      moved (IsItem d) (t ∷ us) (t ∷ us) y x k.1 rest refl o.0 o.1 (grammar.Local d n.0.1 (t ∷ us) n.1 k.1 n.0.0 k.0 f.star f.name (found_kind d n.1 k.0 k.1 k.2))

  found_item : (d : ℕ) (ts : List Signed) (x : Item) (rest : List Signed) → item_at part d ts ≡ Ok (x, rest) → IsItem d ts x rest
  found_item d [] x rest h = absurd cc
  found_item d (t ∷ us) x rest h = item_case d t us x rest h

  found_items : (d : ℕ) (ts : List Signed) (xs : List Item) (rest : List Signed) → commas (item_at part d) ts ≡ Ok (xs, rest) → AreItems d ts xs rest
  found_items d ts xs rest h =
      let x = bound (item_at part d ts) (λ a. others (item_at part d) (a ∷ [])) (xs, rest) h in
      others_found (item_at part d) (Is sign.Semicolon) (Is sign.Name) (item_law part F law.lives d) (λ ys us. AreItems d ts ys us)
      (λ ys m us a mid p e g. grammar.NextItem d m ts us mid ys a p e (found_item d us a mid g))
      (x.0 ∷ []) x.1 xs rest x.3 (grammar.FirstItem d ts x.1 x.0 (found_item d ts x.0 x.1 x.2))

  decl_step : (d : ℕ) (ts : List Signed) (ds : List Decl) (t : Signed) (us : List Signed) (x : Decl) (rest : List Signed) → picked (decl_pick part d t) t us ≡ Ok (x, rest) → AreDecls d ts ds (t ∷ us) → AreDecls d ts (ds ++ x ∷ []) rest
  unfolding decl_rest
  decl_step d ts ds t us x rest h p =
      let b = then_read (base_pick t) (decl_rest part d t.line) t us x rest h in
      let y = bound (commas (item_at part d) b.1) _ (x, rest) b.3 in
      let z = bound (sign_at sign.Semicolon y.1) _ (x, rest) y.3 in
      let f = found_sign sign.Semicolon y.1 z.0 z.1 z.2 in
      let w : Decl = record { line = t.line; base = b.0; items = y.0 } in
      let o = ok_same w x z.1 rest z.3 in
      moved (λ vs a r. AreDecls d vs (ds ++ a ∷ []) r) ts ts w x z.1 rest refl o.0 o.1
      (grammar.NextDecl d z.0 ts (t ∷ us) b.1 z.1 ds b.0 y.0 p (base_found t us b.0 b.1 b.2) (subst (λ u. AreItems d b.1 y.0 u) f.is (found_items d b.1 y.0 y.1 y.2)) f.sign)

  found_decls : (d : ℕ) (ts : List Signed) (ds : List Decl) (rest : List Signed) → decls_at part d ts ≡ Ok (ds, rest) → AreDecls d ts ds rest
  found_decls d ts ds rest h =
      (list_keeps is_no_base (decl_pick part d) (Is sign.CloseBrace) (Is sign.CloseBrace) (decls_rounds part F law.lives d) (λ xs us. AreDecls d ts xs us)
      (λ xs t us a mid g p. decl_step d ts xs t us a mid g p) ts ds rest h (grammar.NoDecls d ts)).0

  found_body : (d : ℕ) (ts : List Signed) (f : Function) (rest : List Signed) → body_rest part d ts ≡ Ok (f, rest) → IsFunction d ts f rest
  unfolding body_rest
  found_body d ts f rest h =
      let x = bound (decls_at part d ts) _ (f, rest) h in
      let y = bound (stmts_at (stmt_pick part d false) x.1) _ (f, rest) x.3 in
      let z = bound (sign_at sign.CloseBrace y.1) _ (f, rest) y.3 in
      let k = found_sign sign.CloseBrace y.1 z.0 z.1 z.2 in
      let w : Function = record { decls = x.0; body = y.0 } in
      let o = ok_same w f z.1 rest z.3 in
      moved (IsFunction d) ts ts w f z.1 rest refl o.0 o.1
      (grammar.Body d z.0 ts x.1 z.1 x.0 y.0 (found_decls d ts x.0 x.1 x.2) (subst (λ u. IsStmts false d x.1 y.0 u) k.is (found_stmts part F margin law false d (sound part F margin law d false) x.1 y.0 y.1 y.2)) k.sign)

  -- ---- Files.

  function_case : (d : ℕ) (o c : Signed) (ts : List Signed) (ps : Params) → o.sign ≡ sign.OpenParen → c.sign ≡ sign.CloseParen → (t : Signed) (m : Sign) → t.sign ≡ m → (us : List Signed) → IsParams ts ps (c ∷ t ∷ us) → (r : Rest) (rest : List Signed) →
      picked (function_by part d ps m) t us ≡ Ok (r, rest) → IsRest d (o ∷ ts) r rest
  unfolding definition_rest
  function_case d o c ts ps p q t sign.Semicolon e us x r rest h =
      let k = ok_same (form.Prototype ps) r us rest h in
      moved (IsRest d) (o ∷ ts) (o ∷ ts) (form.Prototype ps) r us rest refl k.0 k.1 (grammar.Prototype d o c t ts us ps p x q e)
  function_case d o c ts ps p q t sign.OpenBrace e us x r rest h =
      let y = bound (body_rest part d us) _ (r, rest) h in
      let k = ok_same (form.Function ps y.0) r y.1 rest y.3 in
      moved (IsRest d) (o ∷ ts) (o ∷ ts) (form.Function ps y.0) r y.1 rest refl k.0 k.1 (grammar.Definition d o c t ts us y.1 ps y.0 p x q e (found_body d us y.0 y.1 y.2))
  function_case d o c ts ps p q t m e us x r rest h = absurd cc

  function_at_case : (d : ℕ) (o c : Signed) (ts : List Signed) (ps : Params) → o.sign ≡ sign.OpenParen → c.sign ≡ sign.CloseParen → (us : List Signed) → IsParams ts ps (c ∷ us) → (r : Rest) (rest : List Signed) →
      function_at part d ps us ≡ Ok (r, rest) → IsRest d (o ∷ ts) r rest
  function_at_case d o c ts ps p q [] x r rest h = absurd cc
  function_at_case d o c ts ps p q (t ∷ us) x r rest h = function_case d o c ts ps p q t t.sign refl us x r rest h

  found_function : (d : ℕ) (o : Signed) (ts : List Signed) (r : Rest) (rest : List Signed) → o.sign ≡ sign.OpenParen → function_rest part d ts ≡ Ok (r, rest) → IsRest d (o ∷ ts) r rest
  unfolding function_rest
  found_function d o ts r rest e h =
      let x = bound (params_at ts) _ (r, rest) h in
      let y = bound (sign_at sign.CloseParen x.1) _ (r, rest) x.3 in
      let f = found_sign sign.CloseParen x.1 y.0 y.1 y.2 in
      function_at_case d o y.0 ts x.0 e f.sign y.1 (subst (λ u. IsParams ts x.0 u) f.is (found_params ts x.0 x.1 x.2)) r rest y.3

  rest_case : (d : ℕ) (t : Signed) (m : Sign) → t.sign ≡ m → (us : List Signed) (r : Rest) (rest : List Signed) → picked (rest_by part d m) t us ≡ Ok (r, rest) → IsRest d (t ∷ us) r rest
  rest_case d t sign.Semicolon e us r rest h = let o = ok_same form.Plain r us rest h in moved (IsRest d) (t ∷ us) (t ∷ us) form.Plain r us rest refl o.0 o.1 (grammar.Plain d t us e)
  rest_case d t sign.Set e us r rest h = found_valued d t us r rest e h
  rest_case d t sign.OpenBracket e us r rest h = found_array d t us r rest e h
  rest_case d t sign.OpenParen e us r rest h = found_function d t us r rest e h
  rest_case d t m e us r rest h = absurd cc

  found_rest : (d : ℕ) (ts : List Signed) (r : Rest) (rest : List Signed) → rest_at part d ts ≡ Ok (r, rest) → IsRest d ts r rest
  found_rest d [] r rest h = absurd cc
  found_rest d (t ∷ us) r rest h = rest_case d t t.sign refl us r rest h

  word_case : (d : ℕ) (static : Bool) (line : ℕ) (t : Signed) (o : Option TypeWord) → type_word t.sign ≡ o → (us : List Signed) (x : External) (rest : List Signed) → picked (word_by part d line static o) t us ≡ Ok (x, rest) →
      (ts vs : List Signed) (xs : List External) → AreExternals d ts xs vs → line ≡ grammar.first_line vs → IsStatic vs static (t ∷ us) → AreExternals d ts (xs ++ x ∷ []) rest
  unfolding external_rest
  word_case d static line t None e us x rest h ts vs xs p l s = absurd cc
  word_case d static line t (Some w) e us x rest h ts vs xs p l s =
      let n = bound (sign_at sign.Name us) _ (x, rest) h in
      let r = bound (rest_at part d n.1) _ (x, rest) n.3 in
      let f = found_sign sign.Name us n.0 n.1 n.2 in
      let y : External = record { line = line; internal = static; result = w; name = n.0.text; rest = r.0 } in
      let o = ok_same y x r.1 rest r.3 in
      moved (λ us a r. AreExternals d us (xs ++ a ∷ []) r) ts ts y x r.1 rest refl o.0 o.1
      (subst (λ k. AreExternals d ts (xs ++ record { line = k; internal = static; result = w; name = n.0.text; rest = r.0 } ∷ []) r.1) (sym l)
      (grammar.NextExternal d t n.0 ts vs n.1 r.1 xs static w r.0 p (subst (λ u. IsStatic vs static (t ∷ u)) f.is s) e f.sign (found_rest d n.1 r.0 r.1 r.2)))

  static_case : (d : ℕ) (t : Signed) → t.sign ≡ sign.Static → (us : List Signed) (x : External) (rest : List Signed) → static_rest part d t.line us ≡ Ok (x, rest) → (ts : List Signed) (xs : List External) → AreExternals d ts xs (t ∷ us) → AreExternals d ts (xs ++ x ∷ []) rest
  unfolding static_rest
  static_case d t e [] x rest h ts xs p = absurd cc
  static_case d t e (u ∷ us) x rest h ts xs p = word_case d true t.line u (type_word u.sign) refl us x rest h ts (t ∷ u ∷ us) xs p refl (grammar.Static t (u ∷ us) e)

  external_case : (d : ℕ) (b : Bool) (t : Signed) → is_sign sign.Static t ≡ b → (us : List Signed) (x : External) (rest : List Signed) → picked (if b then Take (static_rest part d t.line) else word_by part d t.line false (type_word t.sign)) t us ≡ Ok (x, rest) →
      (ts : List Signed) (xs : List External) → AreExternals d ts xs (t ∷ us) → AreExternals d ts (xs ++ x ∷ []) rest
  external_case d true t e us x rest h ts xs p = static_case d t (sign_is t.sign sign.Static e) us x rest h ts xs p
  external_case d false t e us x rest h ts xs p = word_case d false t.line t (type_word t.sign) refl us x rest h ts (t ∷ us) xs p refl (grammar.Open (t ∷ us))

  at_end : (limit : ℕ) (ts : List Signed) (xs : List External) (rest : List Signed) → AreExternals limit ts xs rest → Heads (λ t. is_sign sign.End t ≡ true) rest → IsUnit limit ts (record { externals = xs })
  at_end limit ts xs [] p h = absurd h
  at_end limit ts xs (e ∷ rest) p h = grammar.Whole limit e ts rest xs p (sign_is e.sign sign.End h)

  -- What is read of a file is one of that tree.
  pub unit_sound : (limit : ℕ) (ts : List Signed) (a : File) (rest : List Signed) → unit_at part limit ts ≡ Ok (a, rest) → IsUnit limit ts a
  unfolding unit_at
  unit_sound limit ts a rest h =
      let x = bound (loop (more_pick (is_sign sign.End) (external_pick part limit)) [] ts) _ (a, rest) h in
      let k = list_keeps (is_sign sign.End) (external_pick part limit) (Is sign.End) Any (externals_rounds part F law.lives limit) (λ xs us. AreExternals limit ts xs us)
      (λ xs t us y mid g p. external_case limit (is_sign sign.Static t) t refl us y mid g ts xs p) ts x.0 x.1 x.2 (grammar.NoExternals limit ts) in
      let w : File = record { externals = x.0 } in
      let o = ok_same w a x.1 rest x.3 in
      subst (λ y. IsUnit limit ts y) o.0 (at_end limit ts x.0 x.1 k.0 k.1)

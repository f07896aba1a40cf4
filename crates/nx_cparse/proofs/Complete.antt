-- What has a tree by the grammar of files is read, with that tree.
use Rattle.std.proofs.Common.{◌≡◌, ℕ, zero, suc, ◌<◌, ◌≤◌, ◌%◌, ◌^◌, Bool, true, false, List, [], ◌∷◌, refl, sym, ap, ◌∙◌, subst, arith}
use Rattle.std.specs.Prelude.{Ok, Err, Option, Some, None, if◌then◌else◌}
use Rattle.nx_ctok.specs.Values.{number_of}
use Rattle.nx_grammar.specs.declared.kind.Kind.TheVariants.{Limit}
use Rattle.nx_grammar.specs.Reading.{Out, Pick, Refuse, Pass, picked, dispatch, bind, done, then_pick, loop}
use Rattle.nx_grammar.specs.Lawful.{Heads, Any}
use Rattle.nx_grammar.proofs.Thens.{picked_then, then_passes}
use Rattle.nx_ctree.specs.declared.sign.Sign.{Sign}
use Rattle.nx_ctree.specs.declared.sign.Sign.TheVariants as sign
use Rattle.nx_ctree.specs.declared.sign.Signed.{Signed}
use Rattle.nx_ctree.specs.declared.expression.Expr.{Expr}
use Rattle.nx_ctree.specs.declared.statement.Stmt.{Stmt}
use Rattle.nx_ctree.specs.declared.statement.Decl.{Decl}
use Rattle.nx_ctree.specs.declared.statement.Item.{Item}
use Rattle.nx_ctree.specs.declared.statement.ItemKind.{ItemKind}
use Rattle.nx_ctree.specs.declared.statement.ItemKind.TheVariants as item
use Rattle.nx_ctree.specs.declared.program.TypeWord.{TypeWord}
use Rattle.nx_ctree.specs.declared.program.Base.{Base}
use Rattle.nx_ctree.specs.declared.program.Base.TheVariants as base
use Rattle.nx_ctree.specs.declared.program.Constant.{Constant}
use Rattle.nx_ctree.specs.declared.program.ConstantKind.TheVariants as constant
use Rattle.nx_ctree.specs.declared.program.Param.{Param}
use Rattle.nx_ctree.specs.declared.program.Params.{Params}
use Rattle.nx_ctree.specs.declared.program.Params.TheVariants as params
use Rattle.nx_ctree.specs.declared.program.Initialiser.{Initialiser}
use Rattle.nx_ctree.specs.declared.program.Initialiser.TheVariants as init
use Rattle.nx_ctree.specs.declared.program.Function.{Function}
use Rattle.nx_ctree.specs.declared.program.Rest.{Rest}
use Rattle.nx_ctree.specs.declared.program.Rest.TheVariants as form
use Rattle.nx_ctree.specs.declared.program.External.{External}
use Rattle.nx_ctree.specs.declared.program.Unit.{Unit as File}
use Rattle.nx_ctree.specs.Expressions.{IsBase, IntBase, CharBase, ConstCharBase, IsStar, Plain, Pointer}
use Rattle.nx_ctree.specs.Statements.{IsPart, IsStmts, Done, More}
use Rattle.nx_ctree.specs.Programs as grammar
use Rattle.nx_ctree.specs.Programs.{first_line, type_word, IsConstant, AreConstants, IsLength, IsInitialiser, IsParam, AreParams, IsParams, IsItemRest, IsItem, AreItems, AreDecls, IsFunction, IsContents, IsRest, IsStatic, AreExternals, IsUnit}
use Rattle.nx_cexpr.specs.Signs.{is_sign}
use Rattle.nx_cexpr.specs.Types.{base_by, base_pick, begins_base, const_rest}
use Rattle.nx_cexpr.specs.Reading.{has_node}
use Rattle.nx_cexpr.proofs.PrimaryLaws.{base_passes}
use Rattle.nx_cstmt.specs.Lists.{more_pick, is_over}
use Rattle.nx_cstmt.specs.Reading.{stmt_pick}
use Rattle.nx_cstmt.proofs.Signs.{Is, signed, not_signed}
use Rattle.nx_cstmt.proofs.PartLaws.{Parts}
use Rattle.nx_cstmt.proofs.Lists.{list_goes, list_ends, on_from}
use Rattle.nx_cstmt.proofs.Laws.{NotElse, stmts_rounds, ones}
use Rattle.nx_cstmt.proofs.Starts.{begins_statement, StartsStatement, stmt_starts, positive}
use Rattle.nx_cstmt.proofs.Complete.{complete_list, brace_not_else}
use Rattle.nx_cparse.specs.Commas.{others, commas}
use Rattle.nx_cparse.specs.Reading.{minus_rest, constant_by, constant_at, length_rest, listed_rest, initialiser_by, initialiser_at, pointer_rest, name_by, name_pick, param_rest, param_pick, param_at, params_rest, params_by, params_at, value_rest, value_pick, local_array, item_kind_by, item_kind_at, item_rest, item_at, decl_rest, decl_pick, is_no_base, decls_at, body_rest, valued_rest, contents_rest, contents_pick, array_rest, definition_rest, function_by, function_at, function_rest, rest_by, rest_at, external_rest, word_by, static_rest, external_pick, unit_at}
use Rattle.nx_cparse.proofs.Commas.{others_go, others_end}
use Rattle.nx_cparse.proofs.Laws.{no_comma, constant_law, param_law}
use Rattle.nx_cparse.proofs.FileLaws.{item_law, decl_ones, decls_rounds, external_ones, externals_rounds}

-- ---- Constants.

minus_on : (t n : Signed) (rest : List Signed) → n.sign ≡ sign.Number → minus_rest t (n ∷ rest) ≡ Ok (record { line = t.line; kind = constant.Minus (number_of n.text % 2 ^ 32) }, rest)
unfolding minus_rest
minus_on t n rest e = rw (signed n.sign sign.Number e) refl

constant_on : {ts : List Signed} {c : Constant} {rest : List Signed} → IsConstant ts c rest → constant_at ts ≡ Ok (c, rest)
constant_on (grammar.Number t rest e) = ap (λ m. picked (constant_by t m) t rest) e
constant_on (grammar.Minus t n rest e f) = ap (λ m. picked (constant_by t m) t (n ∷ rest)) e ∙ minus_on t n rest f
constant_on (grammar.Char t rest e) = ap (λ m. picked (constant_by t m) t rest) e

length_on : {ts : List Signed} {c : Constant} {rest : List Signed} → IsLength ts c rest → (o : Signed) × (us : List Signed) × (ts ≡ o ∷ us) × (o.sign ≡ sign.OpenBracket) × (length_rest us ≡ Ok (c, rest))
unfolding length_rest
length_on (grammar.Length o m ts rest c e x f) = (o, ts, refl, e, rw (constant_on x, signed m.sign sign.CloseBracket f) refl)

constants_on : {ts : List Signed} {cs : List Constant} {rest : List Signed} → AreConstants ts cs rest → commas constant_at ts ≡ others constant_at cs rest
constants_on (grammar.FirstConstant ts rest c x) = rw (constant_on x) refl
constants_on (grammar.NextConstant m ts us rest cs c x e y) = constants_on x ∙ others_go constant_at Any (Is sign.Number) constant_law cs m us c rest (signed m.sign sign.Comma e) (constant_on y)

listed_on : (ts rest : List Signed) (cs : List Constant) (m : Signed) → AreConstants ts cs (m ∷ rest) → m.sign ≡ sign.CloseBrace → listed_rest ts ≡ Ok (init.Listed cs, rest)
unfolding listed_rest
listed_on ts rest cs m x e =
    rw (constants_on x ∙ others_end constant_at Any (Is sign.Number) constant_law cs m rest (no_comma sign.CloseBrace (λ f. cc) m e), signed m.sign sign.CloseBrace e) refl

initialiser_on : {ts : List Signed} {i : Initialiser} {rest : List Signed} → IsInitialiser ts i rest → initialiser_at ts ≡ Ok (i, rest)
initialiser_on (grammar.TextContents t rest e) = ap (λ m. picked (initialiser_by t m) t rest) e
initialiser_on (grammar.ListedContents o m ts rest cs e x f) = ap (λ k. picked (initialiser_by o k) o ts) e ∙ listed_on ts rest cs m x f

-- ---- Names, base types and parameters.

pointer_on : (n : Signed) (rest : List Signed) → n.sign ≡ sign.Name → pointer_rest (n ∷ rest) ≡ Ok ((true, n), rest)
unfolding pointer_rest
pointer_on n rest e = rw (signed n.sign sign.Name e) refl

name_on : {ts : List Signed} {star : Bool} {us : List Signed} → IsStar ts star us → (n : Signed) (rest : List Signed) → us ≡ n ∷ rest → n.sign ≡ sign.Name → dispatch name_pick ts ≡ Ok ((star, n), rest)
name_on (Plain ts) n rest e f = ap (dispatch name_pick) e ∙ ap (λ m. picked (name_by n m) n rest) f
name_on (Pointer t us g) n rest e f = ap (λ vs. dispatch name_pick (t ∷ vs)) e ∙ ap (λ m. picked (name_by t m) t (n ∷ rest)) g ∙ pointer_on n rest f

const_on : (c : Signed) (rest : List Signed) → c.sign ≡ sign.CharWord → const_rest (c ∷ rest) ≡ Ok (base.ConstChar, rest)
unfolding const_rest
const_on c rest e = rw (signed c.sign sign.CharWord e) refl

-- A base type stands first: its first token, and how it is read.
record BaseOn (ts : List Signed) (b : Base) (rest : List Signed) : Type 0 where
  token : Signed
  more : List Signed
  is : ts ≡ token ∷ more
  begins : begins_base token.sign ≡ true
  reads : picked (base_pick token) token more ≡ Ok (b, rest)

base_on : {ts : List Signed} {b : Base} {rest : List Signed} → IsBase ts b rest → BaseOn ts b rest
base_on (IntBase t rest e) = record { token = t; more = rest; is = refl; begins = ap begins_base e; reads = ap (λ m. picked (base_by m) t rest) e }
base_on (CharBase t rest e) = record { token = t; more = rest; is = refl; begins = ap begins_base e; reads = ap (λ m. picked (base_by m) t rest) e }
base_on (ConstCharBase t u rest e f) = record { token = t; more = u ∷ rest; is = refl; begins = ap begins_base e; reads = ap (λ m. picked (base_by m) t (u ∷ rest)) e ∙ const_on u rest f }

param_rest_on : (line : ℕ) (b : Base) (us : List Signed) (star : Bool) (n : Signed) (rest : List Signed) → dispatch name_pick us ≡ Ok ((star, n), rest) → param_rest line b us ≡ Ok (record { line = line; base = b; pointer = star; name = n.text }, rest)
unfolding param_rest
param_rest_on line b us star n rest e = rw e refl

param_by : (ts us : List Signed) (b : Base) → BaseOn ts b us → (star : Bool) (n : Signed) (rest : List Signed) → dispatch name_pick us ≡ Ok ((star, n), rest) → param_at ts ≡ Ok (record { line = first_line ts; base = b; pointer = star; name = n.text }, rest)
param_by [] us b h star n rest e = let bad = h.is in absurd cc
param_by (t ∷ vs) us b h star n rest e =
    let same : t ≡ h.token = let i = h.is in cc in
    let tail : vs ≡ h.more = let i = h.is in cc in
    let reads : picked (base_pick t) t vs ≡ Ok (b, us) = subst (λ x. picked (base_pick x) x vs ≡ Ok (b, us)) (sym same) (subst (λ ys. picked (base_pick h.token) h.token ys ≡ Ok (b, us)) (sym tail) h.reads) in
    picked_then (base_pick t) (param_rest t.line) t vs (base_passes t) ∙ ap (λ o. bind o (param_rest t.line)) reads ∙ param_rest_on t.line b us star n rest e

param_on : {ts : List Signed} {p : Param} {rest : List Signed} → IsParam ts p rest → param_at ts ≡ Ok (p, rest)
param_on (grammar.Parameter n ts us rest b star x y e) = param_by ts us b (base_on x) star n rest (name_on y n rest refl e)

params_on : {ts : List Signed} {ps : List Param} {rest : List Signed} → AreParams ts ps rest → commas param_at ts ≡ others param_at ps rest
params_on (grammar.FirstParam ts rest p x) = rw (param_on x) refl
params_on (grammar.NextParam m ts us rest ps p x e y) = params_on x ∙ others_go param_at Any (Is sign.Int) param_law ps m us p rest (signed m.sign sign.Comma e) (param_on y)

-- Parameters begin with a base type.
param_begins : {ts : List Signed} {p : Param} {rest : List Signed} → IsParam ts p rest → Heads (λ t. begins_base t.sign ≡ true) ts
param_begins (grammar.Parameter n ts us rest b star x y e) = heads_base ts us b (base_on x)
  where
    heads_base : (ts us : List Signed) (b : Base) → BaseOn ts b us → Heads (λ t. begins_base t.sign ≡ true) ts
    heads_base [] us b h = let bad = h.is in absurd cc
    heads_base (t ∷ vs) us b h = let same : t ≡ h.token = let i = h.is in cc in subst (λ x. begins_base x.sign ≡ true) (sym same) h.begins

params_begin : {ts : List Signed} {ps : List Param} {rest : List Signed} → AreParams ts ps rest → Heads (λ t. begins_base t.sign ≡ true) ts
params_begin (grammar.FirstParam ts rest p x) = param_begins x
params_begin (grammar.NextParam m ts us rest ps p x e y) = params_begin x

params_base : (t : Signed) (m : Sign) → begins_base m ≡ true → params_by t m ≡ then_pick (param_pick t) params_rest
params_base t sign.CloseParen e = absurd cc
params_base t sign.Void e = absurd cc
params_base t m e = refl

-- After its first part a list of parameters goes on as one.
pub listed_split : (o : Out Signed Param) → bind o params_rest ≡ bind (bind o (λ a. others param_at (a ∷ []))) (λ ps. done (params.Listed ps))
unfolding params_rest
listed_split (Ok x) = refl
listed_split (Err e) = refl

listed_params_on : (ts : List Signed) (ps : List Param) (c : Signed) (rest : List Signed) → Heads (λ t. begins_base t.sign ≡ true) ts → commas param_at ts ≡ Ok (ps, c ∷ rest) → params_at ts ≡ Ok (params.Listed ps, c ∷ rest)
listed_params_on [] ps c rest h e = absurd h
listed_params_on (t ∷ us) ps c rest h e =
    ap (λ x. picked x t us) (params_base t t.sign h)
    ∙ picked_then (param_pick t) params_rest t us (λ a k. then_passes (base_pick t) (param_rest t.line) a k)
    ∙ listed_split (param_at (t ∷ us))
    ∙ ap (λ o. bind o (λ qs. done (params.Listed qs))) e

params_all_on : {ts : List Signed} {ps : Params} {us : List Signed} → IsParams ts ps us → (c : Signed) (rest : List Signed) → us ≡ c ∷ rest → c.sign ≡ sign.CloseParen → params_at ts ≡ Ok (ps, us)
params_all_on (grammar.EmptyParams ts) c rest e f = ap params_at e ∙ ap (λ m. picked (params_by c m) c rest) f ∙ ap (λ us. Ok (params.Empty, us)) (sym e)
params_all_on (grammar.VoidParams t rest k) c more e f = ap (λ m. picked (params_by t m) t rest) k
params_all_on (grammar.ListedParams ts us ps x) c rest e f =
    listed_params_on ts ps c rest (params_begin x) (params_on x ∙ ap (others param_at ps) e ∙ others_end param_at Any (Is sign.Int) param_law ps c rest (no_comma sign.CloseParen (λ k. cc) c f)) ∙ ap (λ vs. Ok (params.Listed ps, vs)) (sym e)

-- ---- Variables at file level.

contents_rest_on : (ts rest : List Signed) (i : Initialiser) → IsInitialiser ts i rest → contents_rest ts ≡ Ok (Some i, rest)
unfolding contents_rest
contents_rest_on ts rest i x = rw (initialiser_on x) refl

contents_on : {ts : List Signed} {i : Option Initialiser} {us : List Signed} → IsContents ts i us → (s : Signed) (rest : List Signed) → us ≡ s ∷ rest → s.sign ≡ sign.Semicolon → dispatch contents_pick ts ≡ Ok (i, us)
contents_on (grammar.NoContents ts) s rest e f = ap (dispatch contents_pick) e ∙ rw (not_signed s.sign sign.Set (λ k. let same : sign.Semicolon ≡ sign.Set = sym f ∙ k in cc)) (ap (λ us. Ok (None, us)) (sym e))
contents_on (grammar.Contents t ts rest i k x) s more e f = rw (signed t.sign sign.Set k) (contents_rest_on ts rest i x)

valued_on : (ts rest : List Signed) (c : Constant) (s : Signed) → IsConstant ts c (s ∷ rest) → s.sign ≡ sign.Semicolon → valued_rest ts ≡ Ok (form.Valued c, rest)
unfolding valued_rest
valued_on ts rest c s x e = rw (constant_on x, signed s.sign sign.Semicolon e) refl

array_on : (ts us rest : List Signed) (c : Constant) (i : Option Initialiser) (s : Signed) → length_rest ts ≡ Ok (c, us) → IsContents us i (s ∷ rest) → s.sign ≡ sign.Semicolon → array_rest ts ≡ Ok (form.Array c i, rest)
unfolding array_rest
array_on ts us rest c i s e x f = rw (e, contents_on x s rest refl f, signed s.sign sign.Semicolon f) refl

-- ---- Statements begin with no base type.

no_base : (m : Sign) → begins_statement m ≡ true → (if begins_base m then false else true) ≡ true
no_base sign.Int e = absurd cc
no_base sign.CharWord e = absurd cc
no_base sign.Const e = absurd cc
no_base m e = refl

no_base_first : (ts : List Signed) → StartsStatement ts → Heads (λ t. is_no_base t ≡ true) ts
no_base_first [] h = absurd h
no_base_first (t ∷ us) h = no_base t.sign h

-- So do statements before a token that begins none.
stmts_first : {l : Bool} {d : ℕ} {ts : List Signed} {xs : List Stmt} {rest : List Signed} → IsStmts l d ts xs rest → Heads (λ t. is_no_base t ≡ true) rest → Heads (λ t. is_no_base t ≡ true) ts
stmts_first (Done l d ts) k = k
stmts_first (More l d b ts us rest xs x h g) k = stmts_first h (no_base_first us (stmt_starts g))

over_first : (ts : List Signed) → Heads (λ t. is_no_base t ≡ true) ts → is_over is_no_base ts ≡ true
over_first [] h = absurd h
over_first (t ∷ us) h = h

brace_first : (m : Sign) → m ≡ sign.CloseBrace → (if begins_base m then false else true) ≡ true
brace_first m e = ap (λ x. if begins_base x then false else true) e

room : (h d : ℕ) → 0 < h → h < suc d → has_node d ≡ true
room h zero p l = absurd (omega arith)
room h (suc d) p l = refl

within : (h d : ℕ) → h < suc d → h ≤ d
within h d l = omega arith

-- No name is passed.
pub name_never : (t : Signed) (m : Sign) (a : Bool × Signed) → name_by t m ≡ Pass a → ⊥
name_never t sign.Star a e = cc
name_never t sign.Name a e = cc
name_never t m a e = cc

module _ (part : ℕ → Signed → Pick Signed Expr) (F : Signed → Type 0) (margin : ℕ) (law : Parts part F margin) where
  -- A token that may stand after a local.
  record After (d : ℕ) (t : Signed) : Type 0 where
    plain : item_kind_by part d t.sign ≡ Pass item.Plain
    stops : F t

  after_comma : (d : ℕ) (t : Signed) → t.sign ≡ sign.Comma → After d t
  after_comma d t e = record { plain = ap (item_kind_by part d) e; stops = law.lives.comma t e }

  after_semicolon : (d : ℕ) (t : Signed) → t.sign ≡ sign.Semicolon → After d t
  after_semicolon d t e = record { plain = ap (item_kind_by part d) e; stops = law.lives.semicolon t e }

  stops_after : (d : ℕ) (rest : List Signed) → Heads (After d) rest → Heads F rest
  stops_after d [] h = h
  stops_after d (t ∷ us) h = h.stops

  value_rest_on : (d : ℕ) (ts rest : List Signed) (a : Expr) → dispatch (part d) ts ≡ Ok (a, rest) → value_rest (part d) ts ≡ Ok (item.Valued a, rest)
  unfolding value_rest
  value_rest_on d ts rest a e = rw e refl

  value_on : (d : ℕ) (t : Signed) (ts rest : List Signed) (p : Pick Signed ItemKind) (a : Expr) (h : ℕ) → IsPart h ts a rest → 0 < h → h < d → Heads F rest → picked (value_pick part d) t ts ≡ Ok (item.Valued a, rest)
  value_on zero t ts rest p a h x l k f = absurd (omega arith)
  value_on (suc d) t ts rest p a h x l k f =
      rw (room h d l k) (value_rest_on d ts rest a (law.complete d ts a rest (record { height = x.height; has = x.has; within = omega (arith, x.within) }) f))

  local_array_on : (us rest : List Signed) (c : Constant) → length_rest us ≡ Ok (c, rest) → local_array us ≡ Ok (item.Array c, rest)
  unfolding local_array
  local_array_on us rest c e = rw e refl

  plain_on : (d : ℕ) (ts : List Signed) → Heads (After d) ts → item_kind_at part d ts ≡ Ok (item.Plain, ts)
  plain_on d [] h = absurd h
  plain_on d (t ∷ us) h = rw h.plain refl

  kind_on : {d : ℕ} {ts : List Signed} {k : ItemKind} {rest : List Signed} → IsItemRest d ts k rest → Heads (After d) rest → item_kind_at part d ts ≡ Ok (k, rest)
  kind_on (grammar.PlainItem d ts) k = plain_on d ts k
  kind_on (grammar.ArrayItem d ts rest c x) k =
      let l = length_on x in
      ap (item_kind_at part d) l.2 ∙ ap (λ m. picked (item_kind_by part d m) l.0 l.1) l.3 ∙ local_array_on l.1 rest c l.4
  kind_on (grammar.ValuedItem d t ts rest a h e x l) k =
      ap (λ m. picked (item_kind_by part d m) t ts) e ∙ value_on d t ts rest (Refuse Limit) a h (record { height = h; has = x; within = omega arith }) (positive x) l (stops_after d rest k)

  item_rest_on : (d line : ℕ) (star : Bool) (n : Signed) (us rest : List Signed) (k : ItemKind) → item_kind_at part d us ≡ Ok (k, rest) → item_rest part d line (star, n) us ≡ Ok (record { line = line; pointer = star; name = n.text; kind = k }, rest)
  unfolding item_rest
  item_rest_on d line star n us rest k e = rw e refl

  item_by : (d : ℕ) (ts us rest : List Signed) (star : Bool) (n : Signed) (k : ItemKind) → dispatch name_pick ts ≡ Ok ((star, n), us) → item_kind_at part d us ≡ Ok (k, rest) → item_at part d ts ≡ Ok (record { line = first_line ts; pointer = star; name = n.text; kind = k }, rest)
  item_by d [] us rest star n k e f = absurd cc
  item_by d (t ∷ vs) us rest star n k e f =
      picked_then (name_pick t) (item_rest part d t.line) t vs (name_never t t.sign) ∙ ap (λ o. bind o (item_rest part d t.line)) e ∙ item_rest_on d t.line star n us rest k f

  item_on : {d : ℕ} {ts : List Signed} {x : Item} {rest : List Signed} → IsItem d ts x rest → Heads (After d) rest → item_at part d ts ≡ Ok (x, rest)
  item_on (grammar.Local d n ts us rest star k s e y) h = item_by d ts us rest star n k (name_on s n us refl e) (kind_on y h)

  items_on : {d : ℕ} {ts : List Signed} {xs : List Item} {rest : List Signed} → AreItems d ts xs rest → Heads (After d) rest → commas (item_at part d) ts ≡ others (item_at part d) xs rest
  items_on (grammar.FirstItem d ts rest x y) k = rw (item_on y k) refl
  items_on (grammar.NextItem d m ts us rest xs x y e z) k = items_on y (after_comma d m e) ∙ others_go (item_at part d) (Is sign.Semicolon) (Is sign.Name) (item_law part F law.lives d) xs m us x rest (signed m.sign sign.Comma e) (item_on z k)

  decl_rest_on : (d line : ℕ) (b : Base) (vs rest : List Signed) (xs : List Item) (s : Signed) → AreItems d vs xs (s ∷ rest) → s.sign ≡ sign.Semicolon → decl_rest part d line b vs ≡ Ok (record { line = line; base = b; items = xs }, rest)
  unfolding decl_rest
  decl_rest_on d line b vs rest xs s x e =
      rw (items_on x (after_semicolon d s e) ∙ others_end (item_at part d) (Is sign.Semicolon) (Is sign.Name) (item_law part F law.lives d) xs s rest (no_comma sign.Semicolon (λ k. cc) s e), signed s.sign sign.Semicolon e) refl

  decl_by : (d : ℕ) (us vs rest : List Signed) (b : Base) (xs : List Item) (s : Signed) → BaseOn us b vs → AreItems d vs xs (s ∷ rest) → s.sign ≡ sign.Semicolon → dispatch (decl_pick part d) us ≡ Ok (record { line = first_line us; base = b; items = xs }, rest)
  decl_by d [] vs rest b xs s h x e = let bad = h.is in absurd cc
  decl_by d (t ∷ ws) vs rest b xs s h x e =
      let same : t ≡ h.token = let i = h.is in cc in
      let tail : ws ≡ h.more = let i = h.is in cc in
      let reads : picked (base_pick t) t ws ≡ Ok (b, vs) = subst (λ y. picked (base_pick y) y ws ≡ Ok (b, vs)) (sym same) (subst (λ ys. picked (base_pick h.token) h.token ys ≡ Ok (b, vs)) (sym tail) h.reads) in
      picked_then (base_pick t) (decl_rest part d t.line) t ws (base_passes t) ∙ ap (λ o. bind o (decl_rest part d t.line)) reads ∙ decl_rest_on d t.line b vs rest xs s x e

  not_over : (us : List Signed) (b : Base) (vs : List Signed) → BaseOn us b vs → is_over is_no_base us ≡ false
  not_over [] b vs h = refl
  not_over (t ∷ ws) b vs h =
      let same : t ≡ h.token = let i = h.is in cc in
      rw (subst (λ x. begins_base x.sign ≡ true) (sym same) h.begins) refl

  decls_on : {d : ℕ} {ts : List Signed} {ds : List Decl} {us : List Signed} → AreDecls d ts ds us → decls_at part d ts ≡ loop (more_pick is_no_base (decl_pick part d)) ds us
  decls_on (grammar.NoDecls d ts) = refl
  decls_on (grammar.NextDecl d s ts us vs rest ds b xs x y z e) =
      decls_on x
      ∙ list_goes is_no_base (decl_pick part d) (Is sign.CloseBrace) (Is sign.CloseBrace) (decls_rounds part F law.lives d) (decl_ones part F law.lives d).passes ds us (not_over us b vs (base_on y))
      ∙ ap (on_from is_no_base (decl_pick part d) ds) (decl_by d us vs rest b xs s (base_on y) z e)

  body_on : {d : ℕ} {ts : List Signed} {f : Function} {rest : List Signed} → IsFunction d ts f rest → body_rest part d ts ≡ Ok (f, rest)
  unfolding body_rest
  body_on (grammar.Body d c ts us rest ds xs x y e) =
      rw (
        decls_on x ∙ list_ends is_no_base (decl_pick part d) (Is sign.CloseBrace) (Is sign.CloseBrace) (decls_rounds part F law.lives d) ds us (over_first us (stmts_first y (brace_first c.sign e))),
        complete_list part F margin law y (brace_not_else c rest e) ∙ list_ends (is_sign sign.CloseBrace) (stmt_pick part d false) (Is sign.CloseBrace) NotElse (stmts_rounds (stmt_pick part d false) (ones part F law.lives d false)) xs (c ∷ rest) (signed c.sign sign.CloseBrace e),
        signed c.sign sign.CloseBrace e,
      ) refl

  -- ---- Files.

  definition_on : (d : ℕ) (ps : Params) (us rest : List Signed) (f : Function) → body_rest part d us ≡ Ok (f, rest) → definition_rest part d ps us ≡ Ok (form.Function ps f, rest)
  unfolding definition_rest
  definition_on d ps us rest f e = rw e refl

  function_rest_on : (d : ℕ) (ts : List Signed) (ps : Params) (c : Signed) (us : List Signed) (r : Rest) (rest : List Signed) → IsParams ts ps (c ∷ us) → c.sign ≡ sign.CloseParen → function_at part d ps us ≡ Ok (r, rest) → function_rest part d ts ≡ Ok (r, rest)
  unfolding function_rest
  function_rest_on d ts ps c us r rest x e f = rw (params_all_on x c us refl e, signed c.sign sign.CloseParen e) f

  rest_on : {d : ℕ} {ts : List Signed} {r : Rest} {rest : List Signed} → IsRest d ts r rest → rest_at part d ts ≡ Ok (r, rest)
  rest_on (grammar.Plain d t rest e) = ap (λ m. picked (rest_by part d m) t rest) e
  rest_on (grammar.Valued d t s ts rest c e x f) = ap (λ m. picked (rest_by part d m) t ts) e ∙ valued_on ts rest c s x f
  rest_on (grammar.Array d s ts us rest c i x y e) =
      let l = length_on x in
      ap (rest_at part d) l.2 ∙ ap (λ m. picked (rest_by part d m) l.0 l.1) l.3 ∙ array_on l.1 us rest c i s l.4 y e
  rest_on (grammar.Prototype d o c s ts rest ps e x f g) =
      ap (λ m. picked (rest_by part d m) o ts) e ∙ function_rest_on d ts ps c (s ∷ rest) (form.Prototype ps) rest x f (ap (λ m. picked (function_by part d ps m) s rest) g)
  rest_on (grammar.Definition d o c b ts us rest ps f e x g h y) =
      ap (λ m. picked (rest_by part d m) o ts) e ∙ function_rest_on d ts ps c (b ∷ us) (form.Function ps f) rest x g (ap (λ m. picked (function_by part d ps m) b us) h ∙ definition_on d ps us rest f (body_on y))

  external_rest_on : (d line : ℕ) (static : Bool) (w : TypeWord) (n : Signed) (vs rest : List Signed) (r : Rest) → n.sign ≡ sign.Name → IsRest d vs r rest →
      external_rest part d line static w (n ∷ vs) ≡ Ok (record { line = line; internal = static; result = w; name = n.text; rest = r }, rest)
  unfolding external_rest
  external_rest_on d line static w n vs rest r e x = rw (signed n.sign sign.Name e, rest_on x) refl

  word_on : (d line : ℕ) (static : Bool) (t : Signed) (us : List Signed) (o : Option TypeWord) (w : TypeWord) (x : External) (rest : List Signed) → o ≡ Some w → external_rest part d line static w us ≡ Ok (x, rest) → picked (word_by part d line static o) t us ≡ Ok (x, rest)
  word_on d line static t us o w x rest e h = ap (λ k. picked (word_by part d line static k) t us) e ∙ h

  no_static : (m : Sign) (w : TypeWord) → type_word m ≡ Some w → m ≡ sign.Static → ⊥
  no_static m w e f = let same : type_word m ≡ None = ap type_word f in absurd cc

  static_on : (d line : ℕ) (t : Signed) (us : List Signed) (w : TypeWord) (x : External) (rest : List Signed) → type_word t.sign ≡ Some w → external_rest part d line true w us ≡ Ok (x, rest) → static_rest part d line (t ∷ us) ≡ Ok (x, rest)
  unfolding static_rest
  static_on d line t us w x rest e h = word_on d line true t us (type_word t.sign) w x rest e h

  external_on : {us : List Signed} {static : Bool} {vs : List Signed} → IsStatic us static vs → (d : ℕ) (t n : Signed) (ws rest : List Signed) (w : TypeWord) (r : Rest) → vs ≡ t ∷ n ∷ ws → type_word t.sign ≡ Some w → n.sign ≡ sign.Name → IsRest d ws r rest →
      dispatch (external_pick part d) us ≡ Ok (record { line = first_line us; internal = static; result = w; name = n.text; rest = r }, rest)
  external_on (grammar.Open us) d t n ws rest w r e f g x =
      rw e (rw (not_signed t.sign sign.Static (no_static t.sign w f)) (word_on d t.line false t (n ∷ ws) (type_word t.sign) w _ rest f (external_rest_on d t.line false w n ws rest r g x)))
  external_on (grammar.Static s us k) d t n ws rest w r e f g x =
      rw e (rw (signed s.sign sign.Static k) (static_on d s.line t (n ∷ ws) w _ rest f (external_rest_on d s.line true w n ws rest r g x)))

  word_no_end : (m : Sign) (w : TypeWord) → type_word m ≡ Some w → m ≡ sign.End → ⊥
  word_no_end m w e f = let same : type_word m ≡ None = ap type_word f in absurd cc

  external_not_over : {us : List Signed} {static : Bool} {vs : List Signed} → IsStatic us static vs → (t : Signed) (more : List Signed) (w : TypeWord) → vs ≡ t ∷ more → type_word t.sign ≡ Some w → is_over (is_sign sign.End) us ≡ false
  external_not_over (grammar.Open us) t more w e f = rw e (not_signed t.sign sign.End (word_no_end t.sign w f))
  external_not_over (grammar.Static s us k) t more w e f = not_signed s.sign sign.End (λ g. let same : sign.Static ≡ sign.End = sym k ∙ g in cc)

  externals_on : {d : ℕ} {ts : List Signed} {xs : List External} {us : List Signed} → AreExternals d ts xs us → loop (more_pick (is_sign sign.End) (external_pick part d)) [] ts ≡ loop (more_pick (is_sign sign.End) (external_pick part d)) xs us
  externals_on (grammar.NoExternals d ts) = refl
  externals_on (grammar.NextExternal d t n ts us vs rest xs static w r x s e f y) =
      externals_on x
      ∙ list_goes (is_sign sign.End) (external_pick part d) (Is sign.End) Any (externals_rounds part F law.lives d) (external_ones part F law.lives d).passes xs us (external_not_over s t (n ∷ vs) w refl e)
      ∙ ap (on_from (is_sign sign.End) (external_pick part d) xs) (external_on s d t n vs rest w r refl e f y)

  -- A file is read up to its end.
  pub unit_complete : (limit : ℕ) (ts : List Signed) (a : File) → IsUnit limit ts a → (rest : List Signed) × (unit_at part limit ts ≡ Ok (a, rest))
  unfolding unit_at
  unit_complete limit ts a (grammar.Whole l e us rest xs x f) =
      (e ∷ rest, rw (externals_on x ∙ list_ends (is_sign sign.End) (external_pick part limit) (Is sign.End) Any (externals_rounds part F law.lives limit) xs (e ∷ rest) (signed e.sign sign.End f)) refl)

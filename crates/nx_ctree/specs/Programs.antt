-- Which tokens are a file, with which tree (C11 6.7 and 6.9).
use Rattle.std.specs.Prelude.{◌≡◌, ℕ, ◌<◌, ◌%◌, ◌^◌, Bool, true, false, List, [], ◌∷◌, ◌++◌, Option, None, Some}
use Rattle.nx_ctok.specs.Values.{number_of, character_of, text_of}
use Rattle.nx_ctree.specs.declared.sign.Sign.{Sign}
use Rattle.nx_ctree.specs.declared.sign.Sign.TheVariants as sign
use Rattle.nx_ctree.specs.declared.sign.Signed.{Signed}
use Rattle.nx_ctree.specs.declared.expression.Expr.{Expr}
use Rattle.nx_ctree.specs.declared.statement.Stmt.{Stmt}
use Rattle.nx_ctree.specs.declared.statement.Decl.{Decl}
use Rattle.nx_ctree.specs.declared.statement.Item.{Item}
use Rattle.nx_ctree.specs.declared.statement.ItemKind.{ItemKind}
use Rattle.nx_ctree.specs.declared.statement.ItemKind.TheVariants as item
use Rattle.nx_ctree.specs.declared.program.TypeWord.{TypeWord}
use Rattle.nx_ctree.specs.declared.program.TypeWord.TheVariants as word
use Rattle.nx_ctree.specs.declared.program.Base.{Base}
use Rattle.nx_ctree.specs.declared.program.Constant.{Constant}
use Rattle.nx_ctree.specs.declared.program.ConstantKind.TheVariants as constant
use Rattle.nx_ctree.specs.declared.program.Param.{Param}
use Rattle.nx_ctree.specs.declared.program.Params.{Params}
use Rattle.nx_ctree.specs.declared.program.Params.TheVariants as params
use Rattle.nx_ctree.specs.declared.program.Initialiser.{Initialiser}
use Rattle.nx_ctree.specs.declared.program.Initialiser.TheVariants as init
use Rattle.nx_ctree.specs.declared.program.Function.{Function}
use Rattle.nx_ctree.specs.declared.program.Rest.{Rest}
use Rattle.nx_ctree.specs.declared.program.Rest.TheVariants as form
use Rattle.nx_ctree.specs.declared.program.External.{External}
use Rattle.nx_ctree.specs.declared.program.Unit.{Unit as File}
use Rattle.nx_ctree.specs.Expressions.{IsExpr, IsBase, IsStar, whole}
use Rattle.nx_ctree.specs.Statements.{IsStmts}

-- A constant: a number, a number after a minus sign, or a character.
pub data IsConstant : List Signed → Constant → List Signed → Type 0 where
  Number : (t : Signed) (rest : List Signed) → t.sign ≡ sign.Number → IsConstant (t ∷ rest) (record { line = t.line; kind = constant.Number (number_of t.text % 2 ^ 32) }) rest
  Minus : (t n : Signed) (rest : List Signed) → t.sign ≡ sign.Minus → n.sign ≡ sign.Number → IsConstant (t ∷ n ∷ rest) (record { line = t.line; kind = constant.Minus (number_of n.text % 2 ^ 32) }) rest
  Char : (t : Signed) (rest : List Signed) → t.sign ≡ sign.Char → IsConstant (t ∷ rest) (record { line = t.line; kind = constant.Char (character_of t.text) }) rest

-- Constants with commas between them.
pub data AreConstants : List Signed → List Constant → List Signed → Type 0 where
  FirstConstant : (ts rest : List Signed) (c : Constant) → IsConstant ts c rest → AreConstants ts (c ∷ []) rest
  NextConstant : (m : Signed) (ts us rest : List Signed) (cs : List Constant) (c : Constant) → AreConstants ts cs (m ∷ us) → m.sign ≡ sign.Comma → IsConstant us c rest → AreConstants ts (cs ++ c ∷ []) rest

-- A constant in brackets: an array's length.
pub data IsLength : List Signed → Constant → List Signed → Type 0 where
  Length : (o m : Signed) (ts rest : List Signed) (c : Constant) → o.sign ≡ sign.OpenBracket → IsConstant ts c (m ∷ rest) → m.sign ≡ sign.CloseBracket → IsLength (o ∷ ts) c rest

-- The first contents of an array: a text, or constants in braces.
pub data IsInitialiser : List Signed → Initialiser → List Signed → Type 0 where
  TextContents : (t : Signed) (rest : List Signed) → t.sign ≡ sign.Text → IsInitialiser (t ∷ rest) (init.Text (text_of t.text)) rest
  ListedContents : (o m : Signed) (ts rest : List Signed) (cs : List Constant) → o.sign ≡ sign.OpenBrace → AreConstants ts cs (m ∷ rest) → m.sign ≡ sign.CloseBrace →
      IsInitialiser (o ∷ ts) (init.Listed cs) rest

-- The line of the first token.
abbrev pub first_line : List Signed → ℕ
first_line [] = 0
first_line (t ∷ ts) = t.line

-- A parameter: its type, and its name.
pub data IsParam : List Signed → Param → List Signed → Type 0 where
  Parameter : (n : Signed) (ts us rest : List Signed) (b : Base) (star : Bool) → IsBase ts b us → IsStar us star (n ∷ rest) → n.sign ≡ sign.Name →
      IsParam ts (record { line = first_line ts; base = b; pointer = star; name = n.text }) rest

-- Parameters with commas between them.
pub data AreParams : List Signed → List Param → List Signed → Type 0 where
  FirstParam : (ts rest : List Signed) (p : Param) → IsParam ts p rest → AreParams ts (p ∷ []) rest
  NextParam : (m : Signed) (ts us rest : List Signed) (ps : List Param) (p : Param) → AreParams ts ps (m ∷ us) → m.sign ≡ sign.Comma → IsParam us p rest → AreParams ts (ps ++ p ∷ []) rest

-- What stands between a function's parentheses: nothing, "void", or parameters.
pub data IsParams : List Signed → Params → List Signed → Type 0 where
  EmptyParams : (ts : List Signed) → IsParams ts params.Empty ts
  VoidParams : (t : Signed) (rest : List Signed) → t.sign ≡ sign.Void → IsParams (t ∷ rest) params.Void rest
  ListedParams : (ts rest : List Signed) (ps : List Param) → AreParams ts ps rest → IsParams ts (params.Listed ps) rest

-- What stands after a local's name: nothing, an array's length, or a value, which is a node above its expression.
pub data IsItemRest : ℕ → List Signed → ItemKind → List Signed → Type 0 where
  PlainItem : (d : ℕ) (ts : List Signed) → IsItemRest d ts item.Plain ts
  ArrayItem : (d : ℕ) (ts rest : List Signed) (c : Constant) → IsLength ts c rest → IsItemRest d ts (item.Array c) rest
  ValuedItem : (d : ℕ) (t : Signed) (ts rest : List Signed) (a : Expr) (h : ℕ) → t.sign ≡ sign.Set → IsExpr whole ts a h rest → h < d → IsItemRest d (t ∷ ts) (item.Valued a) rest

-- A local of a declaration.
pub data IsItem : ℕ → List Signed → Item → List Signed → Type 0 where
  Local : (d : ℕ) (n : Signed) (ts us rest : List Signed) (star : Bool) (k : ItemKind) → IsStar ts star (n ∷ us) → n.sign ≡ sign.Name → IsItemRest d us k rest →
      IsItem d ts (record { line = first_line ts; pointer = star; name = n.text; kind = k }) rest

-- Locals with commas between them.
pub data AreItems : ℕ → List Signed → List Item → List Signed → Type 0 where
  FirstItem : (d : ℕ) (ts rest : List Signed) (x : Item) → IsItem d ts x rest → AreItems d ts (x ∷ []) rest
  NextItem : (d : ℕ) (m : Signed) (ts us rest : List Signed) (xs : List Item) (x : Item) → AreItems d ts xs (m ∷ us) → m.sign ≡ sign.Comma → IsItem d us x rest → AreItems d ts (xs ++ x ∷ []) rest

-- Declarations at a function's head.
pub data AreDecls : ℕ → List Signed → List Decl → List Signed → Type 0 where
  NoDecls : (d : ℕ) (ts : List Signed) → AreDecls d ts [] ts
  NextDecl : (d : ℕ) (s : Signed) (ts us vs rest : List Signed) (ds : List Decl) (b : Base) (xs : List Item) → AreDecls d ts ds us → IsBase us b vs → AreItems d vs xs (s ∷ rest) →
      s.sign ≡ sign.Semicolon → AreDecls d ts (ds ++ record { line = first_line us; base = b; items = xs } ∷ []) rest

-- A function's body after its brace: declarations, then statements. The body itself is no node.
pub data IsFunction : ℕ → List Signed → Function → List Signed → Type 0 where
  Body : (d : ℕ) (c : Signed) (ts us rest : List Signed) (ds : List Decl) (xs : List Stmt) → AreDecls d ts ds us → IsStmts false d us xs (c ∷ rest) → c.sign ≡ sign.CloseBrace →
      IsFunction d ts (record { decls = ds; body = xs }) rest

-- What stands after an array's length at file level.
pub data IsContents : List Signed → Option Initialiser → List Signed → Type 0 where
  NoContents : (ts : List Signed) → IsContents ts None ts
  Contents : (t : Signed) (ts rest : List Signed) (i : Initialiser) → t.sign ≡ sign.Set → IsInitialiser ts i rest → IsContents (t ∷ ts) (Some i) rest

-- What stands after a name at file level.
pub data IsRest : ℕ → List Signed → Rest → List Signed → Type 0 where
  Plain : (d : ℕ) (t : Signed) (rest : List Signed) → t.sign ≡ sign.Semicolon → IsRest d (t ∷ rest) form.Plain rest
  Valued : (d : ℕ) (t s : Signed) (ts rest : List Signed) (c : Constant) → t.sign ≡ sign.Set → IsConstant ts c (s ∷ rest) → s.sign ≡ sign.Semicolon → IsRest d (t ∷ ts) (form.Valued c) rest
  Array : (d : ℕ) (s : Signed) (ts us rest : List Signed) (c : Constant) (i : Option Initialiser) → IsLength ts c us → IsContents us i (s ∷ rest) → s.sign ≡ sign.Semicolon →
      IsRest d ts (form.Array c i) rest
  Prototype : (d : ℕ) (o c s : Signed) (ts rest : List Signed) (ps : Params) → o.sign ≡ sign.OpenParen → IsParams ts ps (c ∷ s ∷ rest) → c.sign ≡ sign.CloseParen → s.sign ≡ sign.Semicolon →
      IsRest d (o ∷ ts) (form.Prototype ps) rest
  Definition : (d : ℕ) (o c b : Signed) (ts us rest : List Signed) (ps : Params) (f : Function) → o.sign ≡ sign.OpenParen → IsParams ts ps (c ∷ b ∷ us) → c.sign ≡ sign.CloseParen →
      b.sign ≡ sign.OpenBrace → IsFunction d us f rest → IsRest d (o ∷ ts) (form.Function ps f) rest

-- The type words of a file's declarations.
abbrev pub type_word : Sign → Option TypeWord
type_word sign.Int = Some word.Int
type_word sign.CharWord = Some word.Char
type_word sign.Void = Some word.Void
type_word _ = None

-- "static", or not.
pub data IsStatic : List Signed → Bool → List Signed → Type 0 where
  Open : (ts : List Signed) → IsStatic ts false ts
  Static : (t : Signed) (rest : List Signed) → t.sign ≡ sign.Static → IsStatic (t ∷ rest) true rest

-- Declarations and definitions of a file.
pub data AreExternals : ℕ → List Signed → List External → List Signed → Type 0 where
  NoExternals : (d : ℕ) (ts : List Signed) → AreExternals d ts [] ts
  NextExternal : (d : ℕ) (t n : Signed) (ts us vs rest : List Signed) (xs : List External) (static : Bool) (w : TypeWord) (r : Rest) → AreExternals d ts xs us → IsStatic us static (t ∷ n ∷ vs) →
      type_word t.sign ≡ Some w → n.sign ≡ sign.Name → IsRest d vs r rest →
      AreExternals d ts (xs ++ record { line = first_line us; internal = static; result = w; name = n.text; rest = r } ∷ []) rest

-- A file up to its end, with at most so many nodes on a path in a function.
pub data IsUnit : ℕ → List Signed → File → Type 0 where
  Whole : (limit : ℕ) (e : Signed) (ts rest : List Signed) (xs : List External) → AreExternals limit ts xs (e ∷ rest) → e.sign ≡ sign.End → IsUnit limit ts (record { externals = xs })

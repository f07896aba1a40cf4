-- What is read has its tree by the grammar.
use Rattle.std.proofs.Common.{◌≡◌, ℕ, zero, suc, Bool, true, false, List, [], ◌∷◌, refl, sym, ap, subst}
use Rattle.std.specs.Prelude.{Ok, Option, Some, None, if◌then◌else◌}
use denote.Enum.Bare.{sameb}
use Rattle.nx_ctree.specs.contracts.sign.Sign.{the_type}
use Rattle.nx_grammar.specs.declared.kind.Kind.{Kind}
use Rattle.nx_grammar.specs.declared.kind.Kind.TheVariants.{Syntax, Limit}
use Rattle.nx_grammar.specs.Reading.{Reading, Pick, Refuse, Pass, Take, picked, dispatch, seq, done, then_pick}
use Rattle.nx_grammar.specs.Lawful.{Heads}
use Rattle.nx_grammar.proofs.Results.{bound, ok_same}
use Rattle.nx_ctree.specs.declared.sign.Sign.{Sign}
use Rattle.nx_ctree.specs.declared.sign.Sign.TheVariants as sign
use Rattle.nx_ctree.specs.declared.sign.Signed.{Signed}
use Rattle.nx_ctree.specs.declared.expression.Expr.{Expr}
use Rattle.nx_ctree.specs.declared.statement.Stmt.{Stmt}
use Rattle.nx_ctree.specs.declared.statement.StmtKind.{StmtKind}
use Rattle.nx_ctree.specs.declared.statement.StmtKind.TheVariants as kind
use Rattle.nx_ctree.specs.Statements.{stmt, IsPart, IsTest, Test, IsEnded, Absent, Given, IsStmt, IsStmts, Empty, Expression, Block, If, IfElse, While, Do, For, Break, Continue, Return, Done, More}
use Rattle.nx_cexpr.specs.Signs.{is_sign}
use Rattle.nx_cexpr.specs.Reading.{has_node}
use Rattle.nx_cstmt.specs.Reading.{sign_at, test_at, ended_rest, ended_pick, expression_rest, else_pick, if_rest, while_rest, do_rest, for_rest, jump_rest, return_rest, stmts_at, block_rest, begun, barred, stmt_pick, stmt_at}
use Rattle.nx_cstmt.proofs.Signs.{Is, sign_is, sign_is_not, found_sign}
use Rattle.nx_cstmt.proofs.PartLaws.{Parts}
use Rattle.nx_cstmt.proofs.Lists.{then_read, list_keeps}
use Rattle.nx_cstmt.proofs.Laws.{NotElse, stmts_rounds, ones}
use Rattle.nx_cstmt.proofs.Starts.{no_part}

-- What is so of a tree and its tokens is so of the same ones.
pub moved : {A : Type 0} (Is : List Signed → A → List Signed → Type 0) (ts us : List Signed) (a b : A) (r s : List Signed) → us ≡ ts → a ≡ b → r ≡ s → Is ts a r → Is us b s
moved Is ts us a b r s e f g h = subst (λ x. Is us b x) g (subst (λ x. Is us x r) f (subst (λ x. Is x a r) (sym e) h))

-- What an expression's reading reads is one.
abbrev pub SoundPart : ℕ → Reading Signed Expr → Type 0
SoundPart d p = (ts : List Signed) (a : Expr) (rest : List Signed) → p ts ≡ Ok (a, rest) → IsPart d ts a rest

pub found_test : (d : ℕ) (p : Reading Signed Expr) → SoundPart d p → (ts : List Signed) (a : Expr) (rest : List Signed) → test_at p ts ≡ Ok (a, rest) → IsTest d ts a rest
unfolding test_at
found_test d p sound ts a rest h =
    let x = bound (sign_at sign.OpenParen ts) _ (a, rest) h in
    let y = bound (p x.1) _ (a, rest) x.3 in
    let z = bound (sign_at sign.CloseParen y.1) _ (a, rest) y.3 in
    let fx = found_sign sign.OpenParen ts x.0 x.1 x.2 in
    let fz = found_sign sign.CloseParen y.1 z.0 z.1 z.2 in
    let o = ok_same y.0 a z.1 rest z.3 in
    moved (IsTest d) (x.0 ∷ x.1) ts y.0 a z.1 rest fx.is o.0 o.1
    (Test d x.0 z.0 x.1 z.1 y.0 fx.sign (subst (λ u. IsPart d x.1 y.0 u) fz.is (sound x.1 y.0 y.1 y.2)) fz.sign)

ended_case : (d : ℕ) (part : Signed → Pick Signed Expr) (s : Sign) → SoundPart d (dispatch part) → (t : Signed) (us : List Signed) (a : Option Expr) (rest : List Signed) (b : Bool) → sameb the_type t.sign s ≡ b →
    picked (if b then Take (done None) else then_pick (part t) (ended_rest s)) t us ≡ Ok (a, rest) → IsEnded d s (t ∷ us) a rest
unfolding ended_rest
ended_case d part s sound t us a rest true e h =
    let o = ok_same None a us rest h in
    moved (IsEnded d s) (t ∷ us) (t ∷ us) None a us rest refl o.0 o.1 (Absent d s t us (sign_is t.sign s e))
ended_case d part s sound t us a rest false e h =
    let x = then_read (part t) (ended_rest s) t us a rest h in
    let y = bound (sign_at s x.1) _ (a, rest) x.3 in
    let fy = found_sign s x.1 y.0 y.1 y.2 in
    let o = ok_same (Some x.0) a y.1 rest y.3 in
    moved (IsEnded d s) (t ∷ us) (t ∷ us) (Some x.0) a y.1 rest refl o.0 o.1
    (Given d s y.0 (t ∷ us) y.1 x.0 (subst (λ u. IsPart d (t ∷ us) x.0 u) fy.is (sound (t ∷ us) x.0 x.1 x.2)) fy.sign)

pub found_ended : (d : ℕ) (part : Signed → Pick Signed Expr) (s : Sign) → SoundPart d (dispatch part) → (ts : List Signed) (a : Option Expr) (rest : List Signed) → dispatch (ended_pick part s) ts ≡ Ok (a, rest) → IsEnded d s ts a rest
found_ended d part s sound [] a rest h = absurd cc
found_ended d part s sound (t ∷ us) a rest h = ended_case d part s sound t us a rest (is_sign s t) refl h

-- A statement stood there, and what stands after it if an "if" at its end has no "else".
pub record FoundStmt (in_loop : Bool) (d : ℕ) (ts : List Signed) (a : Stmt) (rest : List Signed) : Type 0 where
  pub bare : Bool
  pub has : IsStmt in_loop d bare ts a rest
  pub after : bare ≡ true → Heads NotElse rest

-- A statement at whose end no "if" stands.
closed : (in_loop : Bool) (d : ℕ) (ts us : List Signed) (a b : Stmt) (r s : List Signed) → us ≡ ts → a ≡ b → r ≡ s → IsStmt in_loop d false ts a r → FoundStmt in_loop d us b s
closed in_loop d ts us a b r s e f g h = record { bare = false; has = moved (IsStmt in_loop d false) ts us a b r s e f g h; after = λ k. absurd cc }

-- A statement that ends as its part does.
open_as : (in_loop : Bool) (d : ℕ) (bare : Bool) (ts us : List Signed) (a b : Stmt) (r s : List Signed) → us ≡ ts → a ≡ b → r ≡ s → (bare ≡ true → Heads NotElse r) → IsStmt in_loop d bare ts a r → FoundStmt in_loop d us b s
open_as in_loop d bare ts us a b r s e f g k h = record { bare = bare; has = moved (IsStmt in_loop d bare) ts us a b r s e f g h; after = λ x. subst (λ u. Heads NotElse u) g (k x) }

-- What a statement's reading reads is one.
abbrev pub Sound : Bool → ℕ → Reading Signed Stmt → Type 0
Sound in_loop d p = (ts : List Signed) (a : Stmt) (rest : List Signed) → p ts ≡ Ok (a, rest) → FoundStmt in_loop d ts a rest

-- What a test's reading reads is one.
abbrev pub SoundTest : ℕ → Reading Signed Expr → Type 0
SoundTest d p = (ts : List Signed) (a : Expr) (rest : List Signed) → p ts ≡ Ok (a, rest) → IsTest d ts a rest

found_while : (in_loop : Bool) (d : ℕ) (test : Reading Signed Expr) (body : Reading Signed Stmt) (t : Signed) → SoundTest d test → Sound true d body → (ts : List Signed) (a : Stmt) (rest : List Signed) → t.sign ≡ sign.While → while_rest test body t ts ≡ Ok (a, rest) → FoundStmt in_loop (suc d) (t ∷ ts) a rest
unfolding while_rest
found_while in_loop d test body t tested sound ts a rest m h =
    let x = bound (test ts) _ (a, rest) h in
    let y = bound (body x.1) _ (a, rest) x.3 in
    let fy = sound x.1 y.0 y.1 y.2 in
    let o = ok_same (stmt t (kind.While x.0 y.0)) a y.1 rest y.3 in
    open_as in_loop (suc d) fy.bare (t ∷ ts) (t ∷ ts) (stmt t (kind.While x.0 y.0)) a y.1 rest refl o.0 o.1 fy.after
    (While in_loop d fy.bare t ts x.1 y.1 x.0 y.0 m (tested ts x.0 x.1 x.2) fy.has)

found_do : (in_loop : Bool) (d : ℕ) (test : Reading Signed Expr) (body : Reading Signed Stmt) (t : Signed) → SoundTest d test → Sound true d body → (ts : List Signed) (a : Stmt) (rest : List Signed) → t.sign ≡ sign.Do → do_rest test body t ts ≡ Ok (a, rest) → FoundStmt in_loop (suc d) (t ∷ ts) a rest
unfolding do_rest
found_do in_loop d test body t tested sound ts a rest m h =
    let x = bound (body ts) _ (a, rest) h in
    let w = bound (sign_at sign.While x.1) _ (a, rest) x.3 in
    let y = bound (test w.1) _ (a, rest) w.3 in
    let z = bound (sign_at sign.Semicolon y.1) _ (a, rest) y.3 in
    let fx = sound ts x.0 x.1 x.2 in
    let fw = found_sign sign.While x.1 w.0 w.1 w.2 in
    let fz = found_sign sign.Semicolon y.1 z.0 z.1 z.2 in
    let o = ok_same (stmt t (kind.Do x.0 y.0)) a z.1 rest z.3 in
    closed in_loop (suc d) (t ∷ ts) (t ∷ ts) (stmt t (kind.Do x.0 y.0)) a z.1 rest refl o.0 o.1
    (Do in_loop d fx.bare t w.0 z.0 ts w.1 z.1 x.0 y.0 m (subst (λ u. IsStmt true d fx.bare ts x.0 u) fw.is fx.has) fw.sign (subst (λ u. IsTest d w.1 y.0 u) fz.is (tested w.1 y.0 y.1 y.2)) fz.sign)

found_for : (in_loop : Bool) (d : ℕ) (part : Signed → Pick Signed Expr) (body : Reading Signed Stmt) (t : Signed) → SoundPart d (dispatch part) → Sound true d body → (ts : List Signed) (a : Stmt) (rest : List Signed) → t.sign ≡ sign.For → for_rest part body t ts ≡ Ok (a, rest) → FoundStmt in_loop (suc d) (t ∷ ts) a rest
unfolding for_rest
found_for in_loop d part body t parted sound ts a rest m h =
    let p = bound (sign_at sign.OpenParen ts) _ (a, rest) h in
    let x = bound (dispatch (ended_pick part sign.Semicolon) p.1) _ (a, rest) p.3 in
    let y = bound (dispatch (ended_pick part sign.Semicolon) x.1) _ (a, rest) x.3 in
    let z = bound (dispatch (ended_pick part sign.CloseParen) y.1) _ (a, rest) y.3 in
    let w = bound (body z.1) _ (a, rest) z.3 in
    let fp = found_sign sign.OpenParen ts p.0 p.1 p.2 in
    let fw = sound z.1 w.0 w.1 w.2 in
    let o = ok_same (stmt t (kind.For x.0 y.0 z.0 w.0)) a w.1 rest w.3 in
    open_as in_loop (suc d) fw.bare (t ∷ p.0 ∷ p.1) (t ∷ ts) (stmt t (kind.For x.0 y.0 z.0 w.0)) a w.1 rest (ap (λ us. t ∷ us) fp.is) o.0 o.1 fw.after
    (For in_loop d fw.bare t p.0 p.1 x.1 y.1 z.1 w.1 x.0 y.0 z.0 w.0 m fp.sign
    (found_ended d part sign.Semicolon parted p.1 x.0 x.1 x.2) (found_ended d part sign.Semicolon parted x.1 y.0 y.1 y.2) (found_ended d part sign.CloseParen parted y.1 z.0 z.1 z.2) fw.has)

-- After "break" and "continue" a semicolon stood.
found_jump : (t : Signed) (k : StmtKind) (ts : List Signed) (a : Stmt) (rest : List Signed) → jump_rest t k ts ≡ Ok (a, rest) → (s : Signed) × (mid : List Signed) × (ts ≡ s ∷ mid) × (s.sign ≡ sign.Semicolon) × (stmt t k ≡ a) × (mid ≡ rest)
unfolding jump_rest
found_jump t k ts a rest h =
    let z = bound (sign_at sign.Semicolon ts) _ (a, rest) h in
    let fz = found_sign sign.Semicolon ts z.0 z.1 z.2 in
    let o = ok_same (stmt t k) a z.1 rest z.3 in
    (z.0, z.1, fz.is, fz.sign, o.0, o.1)

found_return : (in_loop : Bool) (d : ℕ) (part : Signed → Pick Signed Expr) (t : Signed) → SoundPart d (dispatch part) → (ts : List Signed) (a : Stmt) (rest : List Signed) → t.sign ≡ sign.Return → return_rest part t ts ≡ Ok (a, rest) → FoundStmt in_loop (suc d) (t ∷ ts) a rest
unfolding return_rest
found_return in_loop d part t parted ts a rest m h =
    let x = bound (dispatch (ended_pick part sign.Semicolon) ts) _ (a, rest) h in
    let o = ok_same (stmt t (kind.Return x.0)) a x.1 rest x.3 in
    closed in_loop (suc d) (t ∷ ts) (t ∷ ts) (stmt t (kind.Return x.0)) a x.1 rest refl o.0 o.1 (Return in_loop d t ts x.1 x.0 m (found_ended d part sign.Semicolon parted ts x.0 x.1 x.2))

-- An "if" before an "else" is not bare.
is_not_bare : (bare : Bool) (t : Signed) → (bare ≡ true → NotElse t) → t.sign ≡ sign.Else → bare ≡ false
is_not_bare true t h e = absurd (h refl e)
is_not_bare false t h e = refl

-- What stands after the first branch decides.
else_case : (in_loop : Bool) (d : ℕ) (body : Reading Signed Stmt) (t : Signed) (a : Expr) → Sound in_loop d body → t.sign ≡ sign.If → (ts us : List Signed) → IsTest d ts a us → (x : Stmt) (u : Signed) (vs : List Signed) → FoundStmt in_loop d us x (u ∷ vs) →
    (b : Bool) → sameb the_type u.sign sign.Else ≡ b → (c : Stmt) (rest : List Signed) →
    picked (if b then Take (seq body (λ y. done (stmt t (kind.IfElse a x y)))) else Pass (stmt t (kind.If a x))) u vs ≡ Ok (c, rest) →
    FoundStmt in_loop (suc d) (t ∷ ts) c rest
else_case in_loop d body t a sound m ts us tested x u vs f true e c rest h =
    let y = bound (body vs) _ (c, rest) h in
    let fy = sound vs y.0 y.1 y.2 in
    let k = ok_same (stmt t (kind.IfElse a x y.0)) c y.1 rest y.3 in
    let is_else : u.sign ≡ sign.Else = sign_is u.sign sign.Else e in
    let first : IsStmt in_loop d false us x (u ∷ vs) = subst (λ z. IsStmt in_loop d z us x (u ∷ vs)) (is_not_bare f.bare u f.after is_else) f.has in
    open_as in_loop (suc d) fy.bare (t ∷ ts) (t ∷ ts) (stmt t (kind.IfElse a x y.0)) c y.1 rest refl k.0 k.1 fy.after
    (IfElse in_loop d fy.bare t u ts us vs y.1 a x y.0 m tested first is_else fy.has)
else_case in_loop d body t a sound m ts us tested x u vs f false e c rest h =
    let k = ok_same (stmt t (kind.If a x)) c (u ∷ vs) rest h in
    open_as in_loop (suc d) true (t ∷ ts) (t ∷ ts) (stmt t (kind.If a x)) c (u ∷ vs) rest refl k.0 k.1 (λ g. sign_is_not u.sign sign.Else e)
    (If in_loop d f.bare t ts us (u ∷ vs) a x m tested f.has)

else_at : (in_loop : Bool) (d : ℕ) (body : Reading Signed Stmt) (t : Signed) (a : Expr) → Sound in_loop d body → t.sign ≡ sign.If → (ts us : List Signed) → IsTest d ts a us → (x : Stmt) (mid : List Signed) → FoundStmt in_loop d us x mid →
    (c : Stmt) (rest : List Signed) → dispatch (else_pick body t a x) mid ≡ Ok (c, rest) → FoundStmt in_loop (suc d) (t ∷ ts) c rest
else_at in_loop d body t a sound m ts us tested x [] f c rest h = absurd cc
else_at in_loop d body t a sound m ts us tested x (u ∷ vs) f c rest h = else_case in_loop d body t a sound m ts us tested x u vs f (sameb the_type u.sign sign.Else) refl c rest h

found_if : (in_loop : Bool) (d : ℕ) (test : Reading Signed Expr) (body : Reading Signed Stmt) (t : Signed) → SoundTest d test → Sound in_loop d body → (ts : List Signed) (a : Stmt) (rest : List Signed) → t.sign ≡ sign.If → if_rest test body t ts ≡ Ok (a, rest) → FoundStmt in_loop (suc d) (t ∷ ts) a rest
unfolding if_rest
found_if in_loop d test body t tested sound ts a rest m h =
    let x = bound (test ts) _ (a, rest) h in
    let y = bound (body x.1) _ (a, rest) x.3 in
    else_at in_loop d body t x.0 sound m ts x.1 (tested ts x.0 x.1 x.2) y.0 y.1 (sound x.1 y.0 y.1 y.2) a rest y.3

-- ---- Lists and statements.

if_case : (b : Bool) (k : Kind) (q : Reading Signed Stmt) (t : Signed) (ts : List Signed) (a : Stmt) (rest : List Signed) → picked (if b then Take q else Refuse k) t ts ≡ Ok (a, rest) → (b ≡ true) × (q ts ≡ Ok (a, rest))
if_case true k q t ts a rest h = (refl, h)
if_case false k q t ts a rest h = absurd cc

found_expression : (d : ℕ) (part : Signed → Pick Signed Expr) → SoundPart d (dispatch part) → (t : Signed) (ts : List Signed) (a : Stmt) (rest : List Signed) → picked (then_pick (part t) expression_rest) t ts ≡ Ok (a, rest) →
    (x : Expr) × (s : Signed) × (mid : List Signed) × IsPart d (t ∷ ts) x (s ∷ mid) × (s.sign ≡ sign.Semicolon) × ((let y : Stmt = record { line = x.line; kind = kind.Expr x } in y) ≡ a) × (mid ≡ rest)
unfolding expression_rest
found_expression d part parted t ts a rest h =
    let x = then_read (part t) expression_rest t ts a rest h in
    let z = bound (sign_at sign.Semicolon x.1) _ (a, rest) x.3 in
    let fz = found_sign sign.Semicolon x.1 z.0 z.1 z.2 in
    let o = ok_same (record { line = x.0.line; kind = kind.Expr x.0 }) a z.1 rest z.3 in
    (x.0, z.0, z.1, subst (λ u. IsPart d (t ∷ ts) x.0 u) fz.is (parted (t ∷ ts) x.0 x.1 x.2), fz.sign, o.0, o.1)

module _ (part : ℕ → Signed → Pick Signed Expr) (F : Signed → Type 0) (margin : ℕ) (law : Parts part F margin) where
  -- What is read up to a closing brace are statements.
  pub found_stmts : (in_loop : Bool) (d : ℕ) → Sound in_loop d (stmt_at part d in_loop) → (ts : List Signed) (ys : List Stmt) (rest : List Signed) →
      stmts_at (stmt_pick part d in_loop) ts ≡ Ok (ys, rest) → IsStmts in_loop d ts ys rest
  found_stmts in_loop d sound ts ys rest h =
      (list_keeps (is_sign sign.CloseBrace) (stmt_pick part d in_loop) (Is sign.CloseBrace) NotElse (stmts_rounds (stmt_pick part d in_loop) (ones part F law.lives d in_loop)) (λ xs us. IsStmts in_loop d ts xs us)
      (λ xs t us a mid g p. let f = sound (t ∷ us) a mid g in More in_loop d f.bare ts (t ∷ us) mid xs a p f.has)
      ts ys rest h (Done in_loop d ts)).0

  found_block : (in_loop : Bool) (d : ℕ) (t : Signed) → Sound in_loop d (stmt_at part d in_loop) → (ts : List Signed) (a : Stmt) (rest : List Signed) → t.sign ≡ sign.OpenBrace → block_rest (stmt_pick part d in_loop) t ts ≡ Ok (a, rest) → FoundStmt in_loop (suc d) (t ∷ ts) a rest
  unfolding block_rest
  found_block in_loop d t sound ts a rest m h =
      let x = bound (stmts_at (stmt_pick part d in_loop) ts) _ (a, rest) h in
      let y = bound (sign_at sign.CloseBrace x.1) _ (a, rest) x.3 in
      let fx = found_stmts in_loop d sound ts x.0 x.1 x.2 in
      let fy = found_sign sign.CloseBrace x.1 y.0 y.1 y.2 in
      let o = ok_same (stmt t (kind.Block x.0)) a y.1 rest y.3 in
      closed in_loop (suc d) (t ∷ ts) (t ∷ ts) (stmt t (kind.Block x.0)) a y.1 rest refl o.0 o.1
      (Block in_loop d t y.0 ts y.1 x.0 m (subst (λ z. IsStmts in_loop d ts x.0 z) fy.is fx) fy.sign)

  begun_case : (in_loop : Bool) (d : ℕ) (t : Signed) → ((b : Bool) → Sound b d (stmt_at part d b)) → (m : Sign) → t.sign ≡ m → (ts : List Signed) (a : Stmt) (rest : List Signed) →
      picked (begun (part d) (stmt_pick part d) (has_node d) in_loop t m) t ts ≡ Ok (a, rest) → FoundStmt in_loop (suc d) (t ∷ ts) a rest
  begun_case in_loop d t sound sign.Semicolon e ts a rest h =
      let o = ok_same (stmt t kind.Empty) a ts rest h in
      closed in_loop (suc d) (t ∷ ts) (t ∷ ts) (stmt t kind.Empty) a ts rest refl o.0 o.1 (Empty in_loop d t ts e)
  begun_case in_loop d t sound sign.OpenBrace e ts a rest h = found_block in_loop d t (sound in_loop) ts a rest e h
  begun_case in_loop d t sound sign.If e ts a rest h =
      found_if in_loop d (test_at (dispatch (part d))) (stmt_at part d in_loop) t (found_test d (dispatch (part d)) (law.sound d)) (sound in_loop) ts a rest e (if_case (has_node d) Limit _ t ts a rest h).1
  begun_case in_loop d t sound sign.While e ts a rest h =
      found_while in_loop d (test_at (dispatch (part d))) (stmt_at part d true) t (found_test d (dispatch (part d)) (law.sound d)) (sound true) ts a rest e (if_case (has_node d) Limit _ t ts a rest h).1
  begun_case in_loop d t sound sign.Do e ts a rest h =
      found_do in_loop d (test_at (dispatch (part d))) (stmt_at part d true) t (found_test d (dispatch (part d)) (law.sound d)) (sound true) ts a rest e (if_case (has_node d) Limit _ t ts a rest h).1
  begun_case in_loop d t sound sign.For e ts a rest h =
      found_for in_loop d (part d) (stmt_at part d true) t (law.sound d) (sound true) ts a rest e (if_case (has_node d) Limit _ t ts a rest h).1
  begun_case in_loop d t sound sign.Break e ts a rest h =
      let k = if_case in_loop Syntax (jump_rest t kind.Break) t ts a rest h in
      let f = found_jump t kind.Break ts a rest k.1 in
      subst (λ b. FoundStmt b (suc d) (t ∷ ts) a rest) (sym k.0) (closed true (suc d) (t ∷ f.0 ∷ f.1) (t ∷ ts) (stmt t kind.Break) a f.1 rest (ap (λ us. t ∷ us) f.2) f.4 f.5 (Break d t f.0 f.1 e f.3))
  begun_case in_loop d t sound sign.Continue e ts a rest h =
      let k = if_case in_loop Syntax (jump_rest t kind.Continue) t ts a rest h in
      let f = found_jump t kind.Continue ts a rest k.1 in
      subst (λ b. FoundStmt b (suc d) (t ∷ ts) a rest) (sym k.0) (closed true (suc d) (t ∷ f.0 ∷ f.1) (t ∷ ts) (stmt t kind.Continue) a f.1 rest (ap (λ us. t ∷ us) f.2) f.4 f.5 (Continue d t f.0 f.1 e f.3))
  begun_case in_loop d t sound sign.Return e ts a rest h = found_return in_loop d (part d) t (law.sound d) ts a rest e h
  begun_case in_loop d t sound m e ts a rest h =
      let f = found_expression d (part d) (law.sound d) t ts a rest h in
      closed in_loop (suc d) (t ∷ ts) (t ∷ ts) (record { line = f.0.line; kind = kind.Expr f.0 }) a f.2 rest refl f.5 f.6 (Expression in_loop d f.1 (t ∷ ts) f.2 f.0 f.3 f.4)

  barred_case : (in_loop : Bool) (t : Signed) (m : Sign) (ts : List Signed) (a : Stmt) (rest : List Signed) → picked (barred (part 0) in_loop t m) t ts ≡ Ok (a, rest) → ⊥
  barred_case in_loop t sign.Semicolon ts a rest h = cc
  barred_case in_loop t sign.OpenBrace ts a rest h = cc
  barred_case in_loop t sign.If ts a rest h = cc
  barred_case in_loop t sign.While ts a rest h = cc
  barred_case in_loop t sign.Do ts a rest h = cc
  barred_case in_loop t sign.For ts a rest h = cc
  barred_case in_loop t sign.Break ts a rest h = cc
  barred_case in_loop t sign.Continue ts a rest h = cc
  barred_case in_loop t sign.Return ts a rest h = cc
  barred_case in_loop t m ts a rest h = let f = found_expression 0 (part 0) (law.sound 0) t ts a rest h in no_part (t ∷ ts) f.0 (f.1 ∷ f.2) f.3

  -- What is read is a statement of at most so many nodes deep.
  pub sound : (d : ℕ) (in_loop : Bool) → Sound in_loop d (stmt_at part d in_loop)
  unfolding stmt_pick
  sound zero in_loop [] a rest h = absurd cc
  sound zero in_loop (t ∷ ts) a rest h = absurd (barred_case in_loop t t.sign ts a rest h)
  sound (suc d) in_loop [] a rest h = absurd cc
  sound (suc d) in_loop (t ∷ ts) a rest h = begun_case in_loop d t (λ b. sound d b) t.sign refl ts a rest h

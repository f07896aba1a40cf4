-- What has a tree by the grammar is read, with that tree.
use Rattle.std.proofs.Common.{◌≡◌, ℕ, suc, Bool, true, false, List, [], ◌∷◌, refl, sym, ap, ◌∙◌}
use Rattle.std.specs.Prelude.{Ok, Option, Some}
use Rattle.nx_grammar.specs.Reading.{Out, Reading, Pick, Pass, picked, dispatch, then_pick, loop}
use Rattle.nx_grammar.specs.Lawful.{Heads}
use Rattle.nx_grammar.proofs.Thens.{picked_then}
use Rattle.nx_ctree.specs.declared.sign.Sign.{Sign}
use Rattle.nx_ctree.specs.declared.sign.Sign.TheVariants as sign
use Rattle.nx_ctree.specs.declared.sign.Signed.{Signed}
use Rattle.nx_ctree.specs.declared.expression.Expr.{Expr}
use Rattle.nx_ctree.specs.declared.statement.Stmt.{Stmt}
use Rattle.nx_ctree.specs.declared.statement.StmtKind.{StmtKind}
use Rattle.nx_ctree.specs.declared.statement.StmtKind.TheVariants as kind
use Rattle.nx_ctree.specs.Statements.{stmt, IsPart, IsTest, Test, IsEnded, Absent, Given, IsStmt, IsStmts, Empty, Expression, Block, If, IfElse, While, Do, For, Break, Continue, Return, Done, More}
use Rattle.nx_cstmt.specs.Lists.{more_pick, is_over}
use Rattle.nx_cexpr.specs.Signs.{is_sign}
use Rattle.nx_cexpr.specs.Reading.{has_node}
use Rattle.nx_cstmt.specs.Reading.{test_at, ended_rest, ended_pick, expression_rest, else_pick, if_rest, while_rest, do_rest, for_rest, jump_rest, return_rest, stmts_at, block_rest, begun, stmt_pick, stmt_at}
use Rattle.nx_cstmt.proofs.Signs.{Is, signed, not_signed}
use Rattle.nx_cstmt.proofs.PartLaws.{Parts}
use Rattle.nx_cstmt.proofs.Lists.{on_from, list_goes, list_ends}
use Rattle.nx_cstmt.proofs.Laws.{NotElse, stmts_rounds, ones}
use Rattle.nx_cstmt.proofs.Starts.{begins_expression, Starts, StartsStatement, starts, stmt_starts, not_same, part_not_same}

-- An expression's reading reads each.
abbrev pub CompletePart : ℕ → (Signed → Type 0) → Reading Signed Expr → Type 0
CompletePart d F p = (ts : List Signed) (a : Expr) (rest : List Signed) → IsPart d ts a rest → Heads F rest → p ts ≡ Ok (a, rest)

-- What begins expressions passes nothing.
abbrev pub Passless : (Signed → Pick Signed Expr) → Type 0
Passless part = (t : Signed) (a : Expr) → part t ≡ Pass a → ⊥

test_on : (F : Signed → Type 0) (p : Reading Signed Expr) → ((t : Signed) → Is sign.CloseParen t → F t) → {d : ℕ} → CompletePart d F p → {ts : List Signed} {a : Expr} {rest : List Signed} → IsTest d ts a rest → test_at p ts ≡ Ok (a, rest)
unfolding test_at
test_on F p fits complete (Test d o c ts rest a e x f) = rw (signed o.sign sign.OpenParen e, complete ts a (c ∷ rest) x (fits c f), signed c.sign sign.CloseParen f) refl

given_on : (d : ℕ) (part : Signed → Pick Signed Expr) (s : Sign) → Passless part → begins_expression s ≡ false → (c : Signed) (ts rest : List Signed) (a : Expr) → Starts ts → dispatch part ts ≡ Ok (a, c ∷ rest) → c.sign ≡ s → dispatch (ended_pick part s) ts ≡ Ok (Some a, rest)
unfolding ended_rest
given_on d part s passes free c [] rest a h e f = absurd h
given_on d part s passes free c (t ∷ us) rest a h e f =
    rw (not_signed t.sign s (part_not_same t.sign s h free), picked_then (part t) (ended_rest s) t us (passes t), e, signed c.sign s f) refl

ended_on : (F : Signed → Type 0) (part : Signed → Pick Signed Expr) → Passless part → {s : Sign} → begins_expression s ≡ false → ((t : Signed) → Is s t → F t) → {d : ℕ} → CompletePart d F (dispatch part) →
    {ts : List Signed} {a : Option Expr} {rest : List Signed} → IsEnded d s ts a rest → dispatch (ended_pick part s) ts ≡ Ok (a, rest)
ended_on F part passes free fits complete (Absent d s t rest e) = rw (signed t.sign s e) refl
ended_on F part passes free fits complete (Given d s t ts rest a x e) = given_on d part s passes free t ts rest a (starts x.has) (complete ts a (t ∷ rest) x (fits t e)) e

while_on : (test : Reading Signed Expr) (body : Reading Signed Stmt) (t : Signed) (ts us rest : List Signed) (a : Expr) (x : Stmt) → test ts ≡ Ok (a, us) → body us ≡ Ok (x, rest) → while_rest test body t ts ≡ Ok (stmt t (kind.While a x), rest)
unfolding while_rest
while_on test body t ts us rest a x e f = rw (e, f) refl

do_on : (test : Reading Signed Expr) (body : Reading Signed Stmt) (t w s : Signed) (ts us rest : List Signed) (x : Stmt) (a : Expr) → body ts ≡ Ok (x, w ∷ us) → w.sign ≡ sign.While → test us ≡ Ok (a, s ∷ rest) → s.sign ≡ sign.Semicolon → do_rest test body t ts ≡ Ok (stmt t (kind.Do x a), rest)
unfolding do_rest
do_on test body t w s ts us rest x a e f g h = rw (e, signed w.sign sign.While f, g, signed s.sign sign.Semicolon h) refl

for_on : (part : Signed → Pick Signed Expr) (body : Reading Signed Stmt) (t o : Signed) (ts us vs ws rest : List Signed) (a b e : Option Expr) (x : Stmt) → o.sign ≡ sign.OpenParen →
    dispatch (ended_pick part sign.Semicolon) ts ≡ Ok (a, us) → dispatch (ended_pick part sign.Semicolon) us ≡ Ok (b, vs) → dispatch (ended_pick part sign.CloseParen) vs ≡ Ok (e, ws) → body ws ≡ Ok (x, rest) →
    for_rest part body t (o ∷ ts) ≡ Ok (stmt t (kind.For a b e x), rest)
unfolding for_rest
for_on part body t o ts us vs ws rest a b e x f g h i j = rw (signed o.sign sign.OpenParen f, g, h, i, j) refl

jump_on : (t s : Signed) (k : StmtKind) (rest : List Signed) → s.sign ≡ sign.Semicolon → jump_rest t k (s ∷ rest) ≡ Ok (stmt t k, rest)
unfolding jump_rest
jump_on t s k rest h = rw (signed s.sign sign.Semicolon h) refl

return_on : (part : Signed → Pick Signed Expr) (t : Signed) (ts rest : List Signed) (a : Option Expr) → dispatch (ended_pick part sign.Semicolon) ts ≡ Ok (a, rest) → return_rest part t ts ≡ Ok (stmt t (kind.Return a), rest)
unfolding return_rest
return_on part t ts rest a e = rw e refl

else_no : (body : Reading Signed Stmt) (t : Signed) (a : Expr) (x : Stmt) (rest : List Signed) → Heads NotElse rest → dispatch (else_pick body t a x) rest ≡ Ok (stmt t (kind.If a x), rest)
else_no body t a x [] h = absurd h
else_no body t a x (u ∷ us) h = rw (not_signed u.sign sign.Else h) refl

if_on : (test : Reading Signed Expr) (body : Reading Signed Stmt) (t : Signed) (ts us rest : List Signed) (a : Expr) (x : Stmt) → test ts ≡ Ok (a, us) → body us ≡ Ok (x, rest) → Heads NotElse rest → if_rest test body t ts ≡ Ok (stmt t (kind.If a x), rest)
unfolding if_rest
if_on test body t ts us rest a x e f k = rw (e, f) (else_no body t a x rest k)

if_else_on : (test : Reading Signed Expr) (body : Reading Signed Stmt) (t e : Signed) (ts us vs rest : List Signed) (a : Expr) (x y : Stmt) → test ts ≡ Ok (a, us) → body us ≡ Ok (x, e ∷ vs) → e.sign ≡ sign.Else → body vs ≡ Ok (y, rest) → if_rest test body t ts ≡ Ok (stmt t (kind.IfElse a x y), rest)
unfolding if_rest
if_else_on test body t e ts us vs rest a x y f g h k = rw (f, g, signed e.sign sign.Else h, k) refl

block_on : (one : Signed → Pick Signed Stmt) (t c : Signed) (ts rest : List Signed) (xs : List Stmt) → stmts_at one ts ≡ Ok (xs, c ∷ rest) → c.sign ≡ sign.CloseBrace → block_rest one t ts ≡ Ok (stmt t (kind.Block xs), rest)
unfolding block_rest
block_on one t c ts rest xs e h = rw (e, signed c.sign sign.CloseBrace h) refl

-- A token that begins an expression begins no other form of statement.
begun_expression : (part : Signed → Pick Signed Expr) (rec : Bool → Signed → Pick Signed Stmt) (fits in_loop : Bool) (t : Signed) (m : Sign) → begins_expression m ≡ true → begun part rec fits in_loop t m ≡ then_pick (part t) expression_rest
begun_expression part rec fits in_loop t sign.Semicolon e = absurd cc
begun_expression part rec fits in_loop t sign.OpenBrace e = absurd cc
begun_expression part rec fits in_loop t sign.If e = absurd cc
begun_expression part rec fits in_loop t sign.While e = absurd cc
begun_expression part rec fits in_loop t sign.Do e = absurd cc
begun_expression part rec fits in_loop t sign.For e = absurd cc
begun_expression part rec fits in_loop t sign.Break e = absurd cc
begun_expression part rec fits in_loop t sign.Continue e = absurd cc
begun_expression part rec fits in_loop t sign.Return e = absurd cc
begun_expression part rec fits in_loop t m e = refl

expression_on : (part : Signed → Pick Signed Expr) (t s : Signed) (us rest : List Signed) (a : Expr) → Passless part → picked (part t) t us ≡ Ok (a, s ∷ rest) → s.sign ≡ sign.Semicolon →
    picked (then_pick (part t) expression_rest) t us ≡ Ok (record { line = a.line; kind = kind.Expr a }, rest)
unfolding expression_rest
expression_on part t s us rest a passes e f = rw (picked_then (part t) expression_rest t us (passes t), e, signed s.sign sign.Semicolon f) refl

-- A statement needs a node.
deep : {in_loop : Bool} {d : ℕ} {bare : Bool} {ts : List Signed} {a : Stmt} {rest : List Signed} → IsStmt in_loop d bare ts a rest → has_node d ≡ true
deep (Empty l d t r e) = refl
deep (Expression l d s ts r a p e) = refl
deep (Block l d t c ts r xs e x f) = refl
deep (If l d b t ts us r a x e p h) = refl
deep (IfElse l d b t e ts us vs r a x y f p g h i) = refl
deep (While l d b t ts us r a x e p h) = refl
deep (Do l d b t w s ts us r x a e h f p g) = refl
deep (For l d b t o ts us vs ws r a b2 c x e f p q s h) = refl
deep (Break d t s r e f) = refl
deep (Continue d t s r e f) = refl
deep (Return l d t ts r a e p) = refl

not_else : (ts : List Signed) → StartsStatement ts → Heads NotElse ts
not_else [] h = absurd h
not_else (t ∷ us) h = not_same t.sign sign.Else h refl

-- A list that a statement begins is not at a closing brace.
pub not_over : (ts : List Signed) → StartsStatement ts → is_over (is_sign sign.CloseBrace) ts ≡ false
not_over [] h = refl
not_over (t ∷ us) h = not_signed t.sign sign.CloseBrace (not_same t.sign sign.CloseBrace h refl)

while_not_else : (w : Signed) (rest : List Signed) → w.sign ≡ sign.While → Heads NotElse (w ∷ rest)
while_not_else w rest e f = let same : sign.While ≡ sign.Else = sym e ∙ f in cc

pub brace_not_else : (c : Signed) (rest : List Signed) → c.sign ≡ sign.CloseBrace → Heads NotElse (c ∷ rest)
brace_not_else c rest e f = let same : sign.CloseBrace ≡ sign.Else = sym e ∙ f in cc

module _ (part : ℕ → Signed → Pick Signed Expr) (F : Signed → Type 0) (margin : ℕ) (law : Parts part F margin) where
  -- What a first token begins.
  begins_at : (d : ℕ) (in_loop : Bool) (t : Signed) (ts : List Signed) (m : Sign) (o : Out Signed Stmt) → t.sign ≡ m → picked (begun (part d) (stmt_pick part d) (has_node d) in_loop t m) t ts ≡ o → stmt_at part (suc d) in_loop (t ∷ ts) ≡ o
  unfolding stmt_pick
  begins_at d in_loop t ts m o e h = ap (λ x. picked (begun (part d) (stmt_pick part d) (has_node d) in_loop t x) t ts) e ∙ h

  -- What an expression begins.
  expression_at : (d : ℕ) (in_loop : Bool) (ts : List Signed) (s : Signed) (rest : List Signed) (a : Expr) → Starts ts → dispatch (part d) ts ≡ Ok (a, s ∷ rest) → s.sign ≡ sign.Semicolon → stmt_at part (suc d) in_loop ts ≡ Ok (record { line = a.line; kind = kind.Expr a }, rest)
  unfolding stmt_pick
  expression_at d in_loop [] s rest a h e f = absurd h
  expression_at d in_loop (t ∷ us) s rest a h e f =
      ap (λ x. picked x t us) (begun_expression (part d) (stmt_pick part d) (has_node d) in_loop t t.sign h) ∙ expression_on (part d) t s us rest a (law.lives.passes d) e f

  mutual
    -- A statement is read, where no "else" stands after an "if" at its end that has none.
    pub complete : {in_loop : Bool} {d : ℕ} {bare : Bool} {ts : List Signed} {a : Stmt} {rest : List Signed} → IsStmt in_loop d bare ts a rest → (bare ≡ true → Heads NotElse rest) → stmt_at part d in_loop ts ≡ Ok (a, rest)
    complete (Empty l d t r e) k = begins_at d l t r sign.Semicolon _ e refl
    complete (Expression l d s ts r a p e) k = expression_at d l ts s r a (starts p.has) (law.complete d ts a (s ∷ r) p (law.lives.semicolon s e)) e
    complete (Block l d t c ts r xs e x f) k =
        begins_at d l t ts sign.OpenBrace _ e
        (block_on (stmt_pick part d l) t c ts r xs (complete_list x (brace_not_else c r f) ∙ list_ends (is_sign sign.CloseBrace) (stmt_pick part d l) (Is sign.CloseBrace) NotElse (stmts_rounds (stmt_pick part d l) (ones part F law.lives d l)) xs (c ∷ r) (signed c.sign sign.CloseBrace f)) f)
    complete (If l d b t ts us r a x e p h) k =
        begins_at d l t ts sign.If _ e (rw (deep h) (if_on _ (stmt_at part d l) t ts us r a x (test_on F (dispatch (part d)) law.lives.close (law.complete d) p) (complete h (λ q. k refl)) (k refl)))
    complete (IfElse l d b t e ts us vs r a x y f p g h i) k =
        begins_at d l t ts sign.If _ f (rw (deep g) (if_else_on _ (stmt_at part d l) t e ts us vs r a x y (test_on F (dispatch (part d)) law.lives.close (law.complete d) p) (complete g (λ q. absurd cc)) h (complete i k)))
    complete (While l d b t ts us r a x e p h) k =
        begins_at d l t ts sign.While _ e (rw (deep h) (while_on _ (stmt_at part d true) t ts us r a x (test_on F (dispatch (part d)) law.lives.close (law.complete d) p) (complete h k)))
    complete (Do l d b t w s ts us r x a e h f p g) k =
        begins_at d l t ts sign.Do _ e (rw (deep h) (do_on _ (stmt_at part d true) t w s ts us r x a (complete h (λ q. while_not_else w us f)) f (test_on F (dispatch (part d)) law.lives.close (law.complete d) p) g))
    complete (For l d b t o ts us vs ws r a b2 c x e f p q s h) k =
        begins_at d l t (o ∷ ts) sign.For _ e (rw (deep h) (for_on (part d) (stmt_at part d true) t o ts us vs ws r a b2 c x f
        (ended_on F (part d) (law.lives.passes d) refl law.lives.semicolon (law.complete d) p) (ended_on F (part d) (law.lives.passes d) refl law.lives.semicolon (law.complete d) q) (ended_on F (part d) (law.lives.passes d) refl law.lives.close (law.complete d) s) (complete h k)))
    complete (Break d t s r e f) k = begins_at d true t (s ∷ r) sign.Break _ e (jump_on t s kind.Break r f)
    complete (Continue d t s r e f) k = begins_at d true t (s ∷ r) sign.Continue _ e (jump_on t s kind.Continue r f)
    complete (Return l d t ts r a e p) k = begins_at d l t ts sign.Return _ e (return_on (part d) t ts r a (ended_on F (part d) (law.lives.passes d) refl law.lives.semicolon (law.complete d) p))

    -- So are statements.
    pub complete_list : {in_loop : Bool} {d : ℕ} {ts : List Signed} {xs : List Stmt} {rest : List Signed} → IsStmts in_loop d ts xs rest → Heads NotElse rest →
        loop (more_pick (is_sign sign.CloseBrace) (stmt_pick part d in_loop)) [] ts ≡ loop (more_pick (is_sign sign.CloseBrace) (stmt_pick part d in_loop)) xs rest
    complete_list (Done l d ts) k = refl
    complete_list (More l d b ts us rest xs x h g) k =
        complete_list h (not_else us (stmt_starts g))
        ∙ list_goes (is_sign sign.CloseBrace) (stmt_pick part d l) (Is sign.CloseBrace) NotElse (stmts_rounds (stmt_pick part d l) (ones part F law.lives d l)) (ones part F law.lives d l).passes xs us (not_over us (stmt_starts g))
        ∙ ap (on_from (is_sign sign.CloseBrace) (stmt_pick part d l) xs) (complete g (λ e. k))

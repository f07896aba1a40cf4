-- One step of reading statements.
use Rattle.std.proofs.Common.{◌≡◌, ℕ, suc, Bool, true, false, List, ap, ◌∙◌}
use Rattle.std.specs.Prelude.{Ok}
use Rattle.nx_grammar.specs.Reading.{Out, dispatch, bind, seq, loop}
use Rattle.nx_ctree.specs.declared.sign.Sign.TheVariants as sign
use Rattle.nx_ctree.specs.declared.sign.Signed.{Signed}
use Rattle.nx_ctree.specs.declared.statement.Stmt.{Stmt}
use Rattle.nx_cexpr.specs.declared.stop.ParseStop.{ParseStop}
use Rattle.nx_cexpr.specs.declared.stop.ParseStop.TheVariants as stop
use Rattle.nx_ctree.specs.Expressions.{whole}
use Rattle.nx_cexpr.specs.Answers.{GivesFault}
use Rattle.nx_cexpr.specs.Signs.{is_sign, Stops}
use Rattle.nx_cexpr.specs.Reading.{has_node}
use Rattle.nx_cstmt.specs.Lists.{add, more_pick, is_over}
use Rattle.nx_cstmt.specs.Reading.{part_pick, begun, stmt_pick, stmt_at}
use Rattle.nx_cstmt.proofs.Signs.{Is}
use Rattle.nx_cstmt.proofs.Lists.{list_step, list_ends}
use Rattle.nx_cstmt.proofs.Laws.{NotElse, stmts_rounds, ones}
use Rattle.nx_cstmt.proofs.Expressions.{part_lives}

-- A statement of a node more is what its first token begins.
pub stmt_step : (d e : ℕ) (b : Bool) (ts : List Signed) → d ≡ suc e → stmt_at part_pick d b ts ≡ dispatch (λ t. begun (part_pick e) (stmt_pick part_pick e) (has_node e) b t t.sign) ts
unfolding stmt_pick
stmt_step d e b ts h = ap (λ k. stmt_at part_pick k b ts) h

-- Where no brace closes them, statements go on with one.
pub stmts_go : (d : ℕ) (b : Bool) (xs : List Stmt) (ts : List Signed) → is_over (is_sign sign.CloseBrace) ts ≡ false →
    loop (more_pick (is_sign sign.CloseBrace) (stmt_pick part_pick d b)) xs ts ≡ bind (seq (stmt_at part_pick d b) (add xs) ts) (loop (more_pick (is_sign sign.CloseBrace) (stmt_pick part_pick d b)))
stmts_go d b xs ts h =
    let law = ones part_pick (Stops whole) part_lives d b in
    list_step (is_sign sign.CloseBrace) (stmt_pick part_pick d b) (Is sign.CloseBrace) NotElse (stmts_rounds (stmt_pick part_pick d b) law) law.passes xs ts h

-- Where one does, they are over.
pub stmts_end : (d : ℕ) (b : Bool) (xs : List Stmt) (ts : List Signed) → is_over (is_sign sign.CloseBrace) ts ≡ true →
    loop (more_pick (is_sign sign.CloseBrace) (stmt_pick part_pick d b)) xs ts ≡ Ok (xs, ts)
stmts_end d b xs ts h =
    list_ends (is_sign sign.CloseBrace) (stmt_pick part_pick d b) (Is sign.CloseBrace) NotElse (stmts_rounds (stmt_pick part_pick d b) (ones part_pick (Stops whole) part_lives d b)) xs ts h

-- A fault of a step is one of the whole.
pub fails_on : {A B : Type 0} (e : ParseStop) (o : Out Signed A) (p : Out Signed B) (f : A → List Signed → Out Signed B) → p ≡ bind o f → GivesFault e o → GivesFault e p
fails_on stop.Memory o p f h g = tt
fails_on (stop.Fault kind at) o p f h g = h ∙ ap (λ x. bind x f) g

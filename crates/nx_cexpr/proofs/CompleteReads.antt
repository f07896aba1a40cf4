-- The reading of expressions is that of their grammar.
use Rattle.std.proofs.Common.{◌≡◌, ℕ, suc, List, [], ◌∷◌, refl, sym, ap, ◌∙◌, arith}
use Rattle.std.specs.Prelude.{Ok, Err, max}
use Rattle.nx_ctree.specs.declared.sign.Sign.TheVariants as sign
use Rattle.nx_ctree.specs.declared.sign.Signed.{Signed}
use Rattle.nx_ctree.specs.declared.expression.Expr.{Expr}
use Rattle.nx_ctree.specs.Expressions.{whole, IsExpr}
use Rattle.nx_grammar.specs.declared.kind.Kind.{Kind}
use Rattle.nx_grammar.specs.Lawful.{Heads}
use Rattle.nx_grammar.specs.Faults.{IsFault, EndsIn, Reads}
use Rattle.nx_grammar.proofs.Results.{ok_same}
use Rattle.nx_grammar.proofs.Spares.{spares_dispatch, left_ends}
use Rattle.nx_cexpr.specs.declared.operand.Tall.{Tall}
use Rattle.nx_cexpr.specs.Signs.{Stops}
use Rattle.nx_cexpr.specs.Reading.{expr_pick, expr_at}
use Rattle.nx_cexpr.specs.Laws.{HasExpr, IsEnd, last}
use Rattle.nx_cexpr.proofs.SignLaws.{stops_at}
use Rattle.nx_cexpr.proofs.Laws.{expr_law}
use Rattle.nx_cexpr.proofs.Sound.{expr_sound}
use Rattle.nx_cexpr.proofs.Growth.{expr_grows}
use Rattle.nx_cexpr.proofs.Spared.{expr_spares}
use Rattle.nx_cexpr.proofs.Complete.{expr_complete}

-- What the laws of grammars ask for.
pub expr_reads : Reads (λ limit. expr_at (suc limit)) HasExpr (Stops whole) (λ t. t.sign ≡ sign.Number) last 2
expr_reads = record {
  sound = λ limit ts x e. record { rest = last ∷ []; there = expr_sound (suc limit) ts x (last ∷ []) e; stops = stops_at sign.End whole last (omega arith) refl };
  complete = λ limit ts x h. (h.rest, expr_complete h.there.has h.there.within h.stops);
  lives = λ limit. (expr_law limit).lives;
  grows = λ limit wider l. expr_grows (suc limit) (suc wider) (omega (arith, l));
  stops = stops_at sign.End whole last (omega arith) refl;
}

-- Two trees of the same tokens are one.
pub one_expression : (ts : List Signed) (a b : Expr) (h k : ℕ) (r s : List Signed) → IsExpr whole ts a h r → Heads (Stops whole) r → IsExpr whole ts b k s → Heads (Stops whole) s → (a ≡ b) × (h ≡ k) × (r ≡ s)
one_expression ts a b h k r s x f y g =
    let tall : Expr → ℕ → Tall = λ e n. record { expr = e; height = n } in
    let one : expr_at (max h k) ts ≡ Ok (tall a h, r) = expr_complete x (omega arith) f in
    let two : expr_at (max h k) ts ≡ Ok (tall b k, s) = expr_complete y (omega arith) g in
    let same = ok_same (tall a h) (tall b k) r s (sym one ∙ two) in
    (ap (λ (z : Tall). z.expr) same.0, ap (λ (z : Tall). z.height) same.0, same.1)

-- A list that ends has a first token.
by_token : (P : List Signed → Type 0) → ((token : Signed) (more : List Signed) → P (token ∷ more)) → (rest : List Signed) → EndsIn IsEnd rest → P rest
by_token P h [] e = absurd e
by_token P h (token ∷ more) e = h token more

-- So each fault of a list that ends has a token.
pub wrong_there : ((limit : ℕ) (ts : List Signed) (why : Kind) (token : Signed) (more : List Signed) → expr_at (suc limit) ts ≡ Err (why, token ∷ more) → IsFault HasExpr limit ts why (token ∷ more)) →
    (limit : ℕ) (ts : List Signed) (why : Kind) (rest : List Signed) → EndsIn IsEnd ts → expr_at (suc limit) ts ≡ Err (why, rest) → IsFault HasExpr limit ts why rest
wrong_there law limit ts why rest ends e =
    by_token (λ r. expr_at (suc limit) ts ≡ Err (why, r) → IsFault HasExpr limit ts why r) (λ token more. law limit ts why token more) rest
    (left_ends IsEnd (expr_at (suc limit)) (spares_dispatch IsEnd (expr_pick (suc limit)) (expr_spares (suc limit))) ts (Err (why, rest)) ends e) e

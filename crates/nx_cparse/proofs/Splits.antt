-- What a pick begins with more after it, as one reading after another.
use Rattle.std.proofs.Common.{◌≡◌, ℕ, zero, suc, ◌-◌, ◌<◌, ◌≤◌, arith, List, [], ◌∷◌, refl, ap, ◌∙◌}
use Rattle.nx_grammar.specs.declared.kind.Kind.TheVariants.{Limit}
use Rattle.nx_grammar.specs.Reading.{Pick, Refuse, Take, dispatch, bind, done, then_pick}
use Rattle.nx_grammar.proofs.Thens.{picked_then, then_passes}
use Rattle.nx_ctree.specs.declared.sign.Signed.{Signed}
use Rattle.nx_ctree.specs.declared.expression.Expr.{Expr}
use Rattle.nx_ctree.specs.declared.program.Params.TheVariants as params
use Rattle.nx_ctree.specs.declared.statement.ItemKind.{ItemKind}
use Rattle.nx_ctree.specs.Programs.{first_line}
use Rattle.nx_cexpr.specs.Types.{base_pick, base_at}
use Rattle.nx_cexpr.proofs.PrimaryLaws.{base_passes}
use Rattle.nx_cstmt.proofs.Lists.{then_on}
use Rattle.nx_cparse.specs.Commas.{commas}
use Rattle.nx_cparse.specs.Reading.{name_pick, param_rest, param_pick, param_at, params_rest, value_rest, value_pick, item_rest, item_at, decl_rest, decl_pick}
use Rattle.nx_cparse.proofs.Complete.{name_never, listed_split}

-- A parameter is a base type and what stands after it.
pub param_split : (ts : List Signed) → param_at ts ≡ bind (base_at ts) (param_rest (first_line ts))
param_split [] = refl
param_split (t ∷ us) = picked_then (base_pick t) (param_rest t.line) t us (base_passes t)

-- Parameters are a first one and what stands after it.
pub params_split : (ts : List Signed) → dispatch (λ t. then_pick (param_pick t) params_rest) ts ≡ bind (commas param_at ts) (λ ps. done (params.Listed ps))
params_split ts = then_on param_pick params_rest (λ t a e. then_passes (base_pick t) (param_rest t.line) a e) ts ∙ listed_split (param_at ts)

-- A local is a name and what stands after it.
pub item_split : (part : ℕ → Signed → Pick Signed Expr) (d : ℕ) (ts : List Signed) → item_at part d ts ≡ bind (dispatch name_pick ts) (item_rest part d (first_line ts))
item_split part d [] = refl
item_split part d (t ∷ us) = picked_then (name_pick t) (item_rest part d t.line) t us (name_never t t.sign)

-- A declaration is a base type and what stands after it.
pub decl_split : (part : ℕ → Signed → Pick Signed Expr) (d : ℕ) (ts : List Signed) → dispatch (decl_pick part d) ts ≡ bind (base_at ts) (decl_rest part d (first_line ts))
decl_split part d [] = refl
decl_split part d (t ∷ us) = picked_then (base_pick t) (decl_rest part d t.line) t us (base_passes t)

-- A local's value fits where two nodes are left.
pub value_on : (part : ℕ → Signed → Pick Signed Expr) (d e : ℕ) → 1 < d → e ≡ d - 1 → value_pick part d ≡ Take (value_rest (part e))
value_on part zero e h k = absurd (omega arith)
value_on part (suc zero) e h k = absurd (omega arith)
value_on part (suc (suc d)) e h k = let same : suc d ≡ e = omega arith in ap (λ x. Take (value_rest (part x))) same

pub value_off : (part : ℕ → Signed → Pick Signed Expr) (d : ℕ) → d ≤ 1 → (let x : Pick Signed ItemKind = Refuse Limit in value_pick part d ≡ x)
value_off part zero h = refl
value_off part (suc zero) h = refl
value_off part (suc (suc d)) h = absurd (omega arith)

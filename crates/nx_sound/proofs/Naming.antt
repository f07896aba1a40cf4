-- The functions that a file's names stand for are those that it defines.
use Rattle.std.proofs.Common.{◌≡◌, ℕ, suc, ◌<◌, Bool, true, false, List, [], ◌∷◌, ◌++◌, length, map, get_or, None, Some, refl, sym, ap, ◌∙◌, subst, arith}
use Rattle.std.proofs.lemmas.List.{append_assoc, length-append, length-map}
use Rattle.std.proofs.lemmas.Slice.Eq.{bytes_eq-Decides}
use Rattle.std.specs.Prelude.{◌&&◌, codes, is_some, if◌then◌else◌}
use Rattle.std.specs.Map.{lookup}
use Rattle.std.specs.Str.{bytes_eq}
use Rattle.indexmap.specs.IndexMap.{insert_entry}
use Rattle.nx_calls.specs.declared.row.CallRow.{CallRow}
use Rattle.nx_ctree.specs.declared.program.Param.{Param}
use Rattle.nx_ctree.specs.declared.program.Function.{Function as Body}
use Rattle.nx_ctree.specs.declared.program.External.{External}
use Rattle.nx_checked.specs.declared.checked.CheckedFunction.{CheckedFunction}
use Rattle.nx_checked.specs.Trees.{Fun, fun_of}
use Rattle.nx_crules.specs.declared.types.Function.{Function}
use Rattle.nx_ctype.specs.declared.names.Names.{Names}
use Rattle.nx_ctype.specs.declared.used.Used.{Used}
use Rattle.nx_cbody.specs.TypedFunctions as typed_body
use Rattle.nx_cbody.specs.TypedFunctions.{IsFunction}
use Rattle.nx_cbody.proofs.Contexts.{appended}
use Rattle.nx_ccheck.specs.Defined.{listed, returns_of, heads, definition_of, with_function, counted, functions_from}
use Rattle.nx_ccheck.specs.Files.{is_main, is_empty, main_fits}
use Rattle.nx_ccheck.specs.Scopes.{Scope}
use Rattle.nx_ccheck.specs.TypedFiles as typed
use Rattle.nx_ccheck.specs.TypedFiles.{Parts, IsExternal, AreExternals}
use Rattle.nx_cmean.specs.Meaning.{no_fun}
use Rattle.nx_sound.proofs.Entries.{Each, each_push}
use Rattle.nx_sound.proofs.Functions.{params_count}

abbrev main : List ℕ
main = codes "main"

-- A function's name stands for one of these functions, and the main function has no parameter.
pub record IsNamed (fs : List CheckedFunction) (name : List ℕ) (f : Function) : Type 0 where
  pub place : f.place < length fs
  pub params : length f.params ≡ length (get_or (map fun_of fs) f.place no_fun).params
  pub main : bytes_eq main name ≡ true → length f.params ≡ 0

at_seam : (before : List CheckedFunction) (g : CheckedFunction) (after : List CheckedFunction) → get_or (map fun_of (before ++ g ∷ after)) (length before) no_fun ≡ fun_of g
at_seam [] g after = refl
at_seam (x ∷ before) g after = at_seam before g after

-- As many parameters as are declared.
function_params : (rows : List CallRow) (names : Names) (b : Bool) (ps : List Param) (f : Body) (s t : Used) (g : CheckedFunction) → IsFunction rows names b ps f s g t → length (fun_of g).params ≡ length ps
function_params rows names b ps f _ _ _ (typed_body.Definition p d initials body s t u a ds h l) = omega (arith, params_count a)

is_none : (ps : List Param) → is_empty ps ≡ true → length ps ≡ 0
is_none [] h = refl
is_none (p ∷ ps) h = absurd cc

main_empty : (x : External) (ps : List Param) → main_fits x ps ≡ true → bytes_eq main x.name ≡ true → length ps ≡ 0
main_empty x ps h e =
    let same : is_main x.name ≡ true = (bytes_eq-Decides x.name main).1 (sym ((bytes_eq-Decides main x.name).0 e)) in
    is_none ps (second (returns_of x.result) (is_empty ps) (sym (ap (λ b. if b then returns_of x.result && is_empty ps else true) same) ∙ h))
  where
    second : (a b : Bool) → (a && b) ≡ true → b ≡ true
    second true b h = h
    second false b h = absurd cc

with_named : (fs : List CheckedFunction) (n : ℕ) (es : List (List ℕ × Function)) (x : External) (ps : List Param) (b : Bool) → is_some (lookup (bytes_eq x.name) es) ≡ b → Each (IsNamed fs) es → IsNamed fs x.name (record { place = n; returns = returns_of x.result; params = heads ps })
    → Each (IsNamed fs) (if b then es else insert_entry bytes_eq es x.name (record { place = n; returns = returns_of x.result; params = heads ps }))
with_named fs n es x ps true e h g = h
with_named fs n es x ps false e h g =
    let f : Function = record { place = n; returns = returns_of x.result; params = heads ps } in
    subst (λ es. Each (IsNamed fs) es) (sym (appended es x.name f e)) (each_push (IsNamed fs) es x.name f h g)

module _ (rows : List CallRow) (fs : List CheckedFunction) where
  next_none : (n : ℕ) (es : List (List ℕ × Function)) (x : External) (xs : List External) → definition_of x.rest ≡ None → functions_from n es (x ∷ xs) ≡ functions_from n es xs
  next_none n es x xs h = ap (λ o. functions_from (counted n o) (with_function n es x o) xs) h

  next_some : (n : ℕ) (es : List (List ℕ × Function)) (x : External) (xs : List External) (ps : List Param) → definition_of x.rest ≡ Some ps → functions_from n es (x ∷ xs) ≡ functions_from (suc n) (with_function n es x (Some ps)) xs
  next_some n es x xs ps h = ap (λ o. functions_from (counted n o) (with_function n es x o) xs) h

  new_named : (before after : List CheckedFunction) (names : Names) (x : External) (ps : List Param) (f : Body) (g : CheckedFunction) (s t : Used) → fs ≡ before ++ g ∷ after → main_fits x ps ≡ true → IsFunction rows names (returns_of x.result) ps f s g t
      → IsNamed fs x.name (record { place = length before; returns = returns_of x.result; params = heads ps })
  new_named before after names x ps f g s t e m h =
      let heads_are : length (heads ps) ≡ length ps = length-map ps _ in
      let count = function_params rows names (returns_of x.result) ps f s t g h in
      let at : get_or (map fun_of fs) (length before) no_fun ≡ fun_of g = ap (λ l. get_or (map fun_of l) (length before) no_fun) e ∙ at_seam before g after in
      record {
        place = omega (arith, ap length e, length-append before (g ∷ after));
        params = heads_are ∙ sym count ∙ sym (ap (λ (f : Fun). length f.params) at);
        main = λ k. heads_are ∙ main_empty x ps m k;
      }

  pub named : {c e : Scope} {xs : List External} {s u : Used} {z : Parts} → AreExternals rows c xs s z e u → (n : ℕ) (before : List CheckedFunction) (es : List (List ℕ × Function)) → n ≡ length before → fs ≡ before ++ z.functions → Each (IsNamed fs) es → Each (IsNamed fs) (functions_from n es xs)
  named (typed.NoExternals c s) n before es i j w = w
  named (typed.MoreExternals c d e x xs s t u y z (typed.PlainScalar _ _ v _ r a b k l) g) n before es i j w = subst (λ es. Each (IsNamed fs) es) (sym (next_none n es x xs (ap definition_of r))) (named g n before es i j w)
  named (typed.MoreExternals c d e x xs s t u y z (typed.ValuedScalar _ _ v m _ r a b k l) g) n before es i j w = subst (λ es. Each (IsNamed fs) es) (sym (next_none n es x xs (ap definition_of r))) (named g n before es i j w)
  named (typed.MoreExternals c d e x xs s t u y z (typed.ArrayOf _ _ v m o _ r a b k l p q) g) n before es i j w = subst (λ es. Each (IsNamed fs) es) (sym (next_none n es x xs (ap definition_of r))) (named g n before es i j w)
  named (typed.MoreExternals c d e x xs s t u y z (typed.Prototype _ _ ps v _ r a b k l) g) n before es i j w = subst (λ es. Each (IsNamed fs) es) (sym (next_none n es x xs (ap definition_of r))) (named g n before es i j w)
  named (typed.MoreExternals c d e x xs s t u y z (typed.Definition _ _ ps f v _ _ r a b m k l o) g) n before es i j w =
      let new = new_named before z.functions c.names x (listed ps) f v s t j m o in
      let first : IsNamed fs x.name (record { place = n; returns = returns_of x.result; params = heads (listed ps) }) = subst (λ n. IsNamed fs x.name (record { place = n; returns = returns_of x.result; params = heads (listed ps) })) (sym i) new in
      let longer : suc n ≡ length (before ++ v ∷ []) = omega (arith, i, length-append before (v ∷ [])) in
      subst (λ es. Each (IsNamed fs) es) (sym (next_some n es x xs (listed ps) (ap definition_of r)))
      (named g (suc n) (before ++ v ∷ []) (with_function n es x (Some (listed ps))) longer (j ∙ sym (append_assoc before (v ∷ []) z.functions)) (with_named fs n es x (listed ps) (is_some (lookup (bytes_eq x.name) es)) refl w first))

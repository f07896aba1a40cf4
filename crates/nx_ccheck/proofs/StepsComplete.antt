-- An accepted file is well typed.
use Rattle.std.proofs.Common.{◌≡◌, ℕ, Bool, true, false, List, [], ◌∷◌, None, Some, refl}
use Rattle.std.specs.Map.{lookup}
use Rattle.std.specs.Str.{bytes_eq}
use Rattle.std.specs.Prelude.{◌&&◌, ◌||◌, not, Option}
use Rattle.nx_calls.specs.declared.row.CallRow.{CallRow}
use Rattle.nx_ctree.specs.declared.program.Constant.{Constant}
use Rattle.nx_ctree.specs.declared.program.Initialiser.{Initialiser}
use Rattle.nx_ctree.specs.declared.program.Params.{Params}
use Rattle.nx_ctree.specs.declared.program.Function.{Function as Body}
use Rattle.nx_ctree.specs.declared.program.Rest.{Rest}
use Rattle.nx_ctree.specs.declared.program.Rest.TheVariants as form
use Rattle.nx_ctree.specs.declared.program.External.{External}
use Rattle.nx_ctree.specs.declared.program.Unit.{Unit as File}
use Rattle.nx_checked.specs.declared.checked.Checked.{Checked}
use Rattle.nx_checked.specs.declared.checked.Element.{Element}
use Rattle.nx_checked.specs.declared.checked.Scalar.{Scalar}
use Rattle.nx_checked.specs.Frames.{bytes_of}
use Rattle.nx_crules.specs.declared.types.Function.{Function}
use Rattle.nx_ctyping.specs.Checks.{◌>>=◌}
use Rattle.nx_ctyping.proofs.Binds.{kept, bind_back}
use Rattle.nx_cbody.specs.Declarations.{opening, constant_of, is_length, is_long, params_verdict}
use Rattle.nx_cbody.specs.Functions.{function_verdict}
use Rattle.nx_cbody.proofs.Functions.{parameters_back, function_back}
use Rattle.nx_cbody.proofs.Unless.{cleared, no_mismatch, each_false, was_true, carry_kept}
use Rattle.nx_ccheck.specs.Defined.{listed, returns_of}
use Rattle.nx_ccheck.specs.declared.known.Known.{Known}
use Rattle.nx_ccheck.specs.Globals.{is_taken, is_full, scalar_of, element_of, shape_of, fits, rounded, with_scalar, with_array, scalar_verdict, array_verdict}
use Rattle.nx_ccheck.specs.Files.{is_char, agrees, main_fits, has_all_functions, closed, with_defined, with_checked, prototype_verdict, definition_verdict, rest_verdict, externals_verdict, beginning, main_of, program_of, file_verdict}
use Rattle.nx_ccheck.proofs.Steps as steps
use Rattle.nx_ccheck.proofs.Steps.{IsExternal, AreExternals, IsWhole}

each_true : (a b : Bool) → (a && b) ≡ true → (a ≡ true) × (b ≡ true)
each_true true true h = (refl, refl)
each_true true false h = absurd cc
each_true false b h = absurd cc

module _ (rows : List CallRow) (k l : Known) (x : External) where
  scalar_by : (o : Option Scalar) (n : ℕ) → ((w : Scalar) → scalar_of x.result ≡ Some w → is_taken k x.name ≡ false → is_long x.name ≡ false → is_full k 4 ≡ false → IsExternal rows k x (with_scalar k x.name w n)) → scalar_of x.result ≡ o →
      scalar_verdict k x o n ≡ kept l → IsExternal rows k x l
  scalar_by None n make e h = let q = cleared (is_taken k x.name) true false x.line (kept k) l h in absurd (no_mismatch q.1)
  scalar_by (Some w) n make e h =
      let q = cleared (is_taken k x.name) false (is_long x.name || is_full k 4) x.line (kept (with_scalar k x.name w n)) l h in
      let b = each_false (is_long x.name) (is_full k 4) q.2 in
      carry_kept (λ l. IsExternal rows k x l) _ l q.3 (make w e q.0 b.0 b.1)

  array_by : (o : Option Element) (c : Constant) (i : Option Initialiser) → x.rest ≡ form.Array c i → element_of x.result ≡ o → array_verdict k x o c i ≡ kept l → IsExternal rows k x l
  array_by None c i r e h = let q = cleared (is_taken k x.name) true false x.line (kept k) l h in absurd (no_mismatch q.1)
  array_by (Some w) c i r e h =
      let q = cleared (is_taken k x.name) (not (is_length (constant_of c.kind) && fits (shape_of w c) i)) (is_long x.name || is_full k (rounded (bytes_of (shape_of w c)))) x.line (kept (with_array k x.name (shape_of w c) i)) l h in
      let m = each_true (is_length (constant_of c.kind)) (fits (shape_of w c) i) (was_true _ q.1) in
      let b = each_false (is_long x.name) (is_full k (rounded (bytes_of (shape_of w c)))) q.2 in
      carry_kept (λ l. IsExternal rows k x l) _ l q.3 (steps.ArrayOf k x w c i r e q.0 m.0 m.1 b.0 b.1)

  prototype_by : (ps : Params) → x.rest ≡ form.Prototype ps → prototype_verdict k x (listed ps) ≡ kept l → IsExternal rows k x l
  prototype_by ps r h =
      let q = cleared false (is_char x.result || not (agrees (lookup (bytes_eq x.name) k.names.functions) x.result (listed ps))) (is_long x.name) x.line (params_verdict (opening k.names) (listed ps) >>= (λ p. kept (closed k))) l h in
      let m = each_false (is_char x.result) (not (agrees (lookup (bytes_eq x.name) k.names.functions) x.result (listed ps))) q.1 in
      let d = bind_back (params_verdict (opening k.names) (listed ps)) (λ p. kept (closed k)) l q.3 in
      carry_kept (λ l. IsExternal rows k x l) _ l d.2 (steps.Prototype k x ps d.0.names r m.0 (was_true _ m.1) q.2 (parameters_back k.names (listed ps) d.0 d.1))

  definition_by : (ps : Params) (f : Body) → x.rest ≡ form.Function ps f → definition_verdict rows k x (listed ps) f ≡ kept l → IsExternal rows k x l
  definition_by ps f r h =
      let q = cleared (is_taken k x.name) (is_char x.result || not (main_fits x (listed ps))) (is_long x.name || has_all_functions k) x.line
      (function_verdict rows k.names x.line (returns_of x.result) (listed ps) f k.used >>= (λ r. kept (with_checked (with_defined k x.name) r))) l h in
      let m = each_false (is_char x.result) (not (main_fits x (listed ps))) q.1 in
      let b = each_false (is_long x.name) (has_all_functions k) q.2 in
      let d = bind_back (function_verdict rows k.names x.line (returns_of x.result) (listed ps) f k.used) (λ r. kept (with_checked (with_defined k x.name) r)) l q.3 in
      carry_kept (λ l. IsExternal rows k x l) _ l d.2
      (steps.Definition k x ps f d.0.0 d.0.1 r q.0 m.0 (was_true _ m.1) b.0 b.1 (function_back rows x.line k.names (returns_of x.result) (listed ps) f k.used d.0.1 d.0.0 d.1))

  external_by : (r : Rest) → x.rest ≡ r → rest_verdict rows k x r ≡ kept l → IsExternal rows k x l
  external_by form.Plain r h = scalar_by (scalar_of x.result) 0 (λ w e t l b. steps.PlainScalar k x w r e t l b) refl h
  external_by (form.Valued c) r h = scalar_by (scalar_of x.result) (constant_of c.kind) (λ w e t l b. steps.ValuedScalar k x w c r e t l b) refl h
  external_by (form.Array c i) r h = array_by (element_of x.result) c i r refl h
  external_by (form.Prototype ps) r h = prototype_by ps r h
  external_by (form.Function ps f) r h = definition_by ps f r h

module _ (rows : List CallRow) where
  externals_back : (k l : Known) (xs : List External) → externals_verdict rows k xs ≡ kept l → AreExternals rows k xs l
  externals_back k l [] h = carry_kept (λ l. AreExternals rows k [] l) k l h (steps.NoExternals k)
  externals_back k l (x ∷ xs) h =
      let q = bind_back (rest_verdict rows k x x.rest) (λ l. externals_verdict rows l xs) l h in
      steps.MoreExternals k q.0 l x xs (external_by rows k q.0 x x.rest refl q.1) (externals_back q.0 l xs q.2)

  program_by : (file : File) (k : Known) (o : Option Function) (p : Checked) → AreExternals rows (beginning file.externals) file.externals k → main_of k ≡ o → program_of rows k o ≡ kept p → IsWhole rows file p
  program_by file k None p h m g = absurd cc
  program_by file k (Some f) p h m g = carry_kept (λ p. IsWhole rows file p) _ p g (steps.Program k f h m)

  pub whole_back : (file : File) (p : Checked) → file_verdict rows file ≡ kept p → IsWhole rows file p
  whole_back file p h =
      let q = bind_back (externals_verdict rows (beginning file.externals) file.externals) (λ k. program_of rows k (main_of k)) p h in
      program_by file q.0 (main_of q.0) p (externals_back (beginning file.externals) q.0 file.externals q.1) refl q.2

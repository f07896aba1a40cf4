-- A well typed file is accepted, with what it does.
use Rattle.std.proofs.Common.{◌≡◌, ℕ, Bool, true, false, List, Some, refl, ap, ◌∙◌}
use Rattle.std.specs.Map.{lookup}
use Rattle.std.specs.Str.{bytes_eq}
use Rattle.std.specs.Prelude.{◌&&◌, ◌||◌, not, Ok}
use Rattle.nx_calls.specs.declared.row.CallRow.{CallRow}
use Rattle.nx_ctree.specs.declared.program.External.{External}
use Rattle.nx_ctree.specs.declared.program.Unit.{Unit as File}
use Rattle.nx_checked.specs.declared.checked.Checked.{Checked}
use Rattle.nx_checked.specs.declared.checked.Scalar.{Scalar}
use Rattle.nx_checked.specs.Frames.{bytes_of}
use Rattle.nx_ctyping.specs.Checks.{◌>>=◌}
use Rattle.nx_cbody.specs.Declarations.{opening, constant_of, is_length, is_long, params_verdict}
use Rattle.nx_cbody.specs.Functions.{function_verdict}
use Rattle.nx_cbody.proofs.Functions.{parameters_on, function_on}
use Rattle.nx_cbody.proofs.Unless.{clear, neither, negated, bind_on}
use Rattle.nx_ccheck.specs.Defined.{listed, returns_of}
use Rattle.nx_ccheck.specs.declared.known.Known.{Known}
use Rattle.nx_ccheck.specs.Globals.{is_taken, is_full, shape_of, fits, rounded, with_scalar, with_array, scalar_verdict, array_verdict}
use Rattle.nx_ccheck.specs.Files.{is_char, agrees, main_fits, has_all_functions, closed, with_defined, with_checked, rest_verdict, externals_verdict, beginning, main_of, checked_program, program_of, file_verdict}
use Rattle.nx_ccheck.proofs.Steps as steps
use Rattle.nx_ccheck.proofs.Steps.{IsExternal, AreExternals, IsWhole}

both_true : (a b : Bool) → a ≡ true → b ≡ true → (a && b) ≡ true
both_true true true h g = refl
both_true false b h g = absurd cc
both_true true false h g = absurd cc

scalar_on : (k : Known) (x : External) (w : Scalar) (n : ℕ) → is_taken k x.name ≡ false → is_long x.name ≡ false → is_full k 4 ≡ false → scalar_verdict k x (Some w) n ≡ Ok (with_scalar k x.name w n)
scalar_on k x w n t l b = clear (is_taken k x.name) false (is_long x.name || is_full k 4) x.line (Ok (with_scalar k x.name w n)) t refl (neither _ _ l b)

module _ (rows : List CallRow) where
  external_on : {k l : Known} {x : External} → IsExternal rows k x l → rest_verdict rows k x x.rest ≡ Ok l
  external_on (steps.PlainScalar k x w r e t l b) = ap (rest_verdict rows k x) r ∙ (ap (λ o. scalar_verdict k x o 0) e ∙ scalar_on k x w 0 t l b)
  external_on (steps.ValuedScalar k x w c r e t l b) = ap (rest_verdict rows k x) r ∙ (ap (λ o. scalar_verdict k x o (constant_of c.kind)) e ∙ scalar_on k x w (constant_of c.kind) t l b)
  external_on (steps.ArrayOf k x w c i r e t n f l b) =
      ap (rest_verdict rows k x) r
      ∙ (ap (λ o. array_verdict k x o c i) e
      ∙ clear (is_taken k x.name) (not (is_length (constant_of c.kind) && fits (shape_of w c) i)) (is_long x.name || is_full k (rounded (bytes_of (shape_of w c)))) x.line (Ok (with_array k x.name (shape_of w c) i)) t
      (negated _ (both_true _ _ n f)) (neither _ _ l b))
  external_on (steps.Prototype k x ps d r c a l h) =
      let p = parameters_on k.names h in
      ap (rest_verdict rows k x) r
      ∙ (clear false (is_char x.result || not (agrees (lookup (bytes_eq x.name) k.names.functions) x.result (listed ps))) (is_long x.name) x.line (params_verdict (opening k.names) (listed ps) >>= (λ p. Ok (closed k))) refl (neither _ _ c (negated _ a)) l
      ∙ bind_on (params_verdict (opening k.names) (listed ps)) (λ p. Ok (closed k)) p.0 _ p.1 refl)
  external_on (steps.Definition k x ps f g u r t c m l a h) =
      ap (rest_verdict rows k x) r
      ∙ (clear (is_taken k x.name) (is_char x.result || not (main_fits x (listed ps))) (is_long x.name || has_all_functions k) x.line
      (function_verdict rows k.names x.line (returns_of x.result) (listed ps) f k.used >>= (λ r. Ok (with_checked (with_defined k x.name) r))) t (neither _ _ c (negated _ m)) (neither _ _ l a)
      ∙ bind_on (function_verdict rows k.names x.line (returns_of x.result) (listed ps) f k.used) (λ r. Ok (with_checked (with_defined k x.name) r)) (g, u) _ (function_on rows x.line h) refl)

  externals_on : {k l : Known} {xs : List External} → AreExternals rows k xs l → externals_verdict rows k xs ≡ Ok l
  externals_on (steps.NoExternals k) = refl
  externals_on (steps.MoreExternals k l m x xs h hs) = bind_on (rest_verdict rows k x x.rest) (λ l. externals_verdict rows l xs) l (Ok m) (external_on h) (externals_on hs)

  pub whole_on : {file : File} {p : Checked} → IsWhole rows file p → file_verdict rows file ≡ Ok p
  whole_on {file = file} (steps.Program k f h m) =
      bind_on (externals_verdict rows (beginning file.externals) file.externals) (λ k. program_of rows k (main_of k)) k (Ok (checked_program rows k f)) (externals_on h) (ap (program_of rows k) m)

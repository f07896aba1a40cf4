-- What is checked step by step is well typed by its contexts.
use Rattle.std.proofs.Common.{List, refl, sym, ◌∙◌, subst}
use Rattle.nx_calls.specs.declared.row.CallRow.{CallRow}
use Rattle.nx_ctree.specs.declared.program.External.{External}
use Rattle.nx_ctree.specs.declared.program.Unit.{Unit as File}
use Rattle.nx_checked.specs.declared.checked.Checked.{Checked}
use Rattle.nx_checked.specs.Frames.{bytes_of}
use Rattle.nx_cbody.specs.Declarations.{constant_of}
use Rattle.nx_ccheck.specs.declared.known.Known.{Known}
use Rattle.nx_ccheck.specs.Globals.{shape_of, rounded}
use Rattle.nx_ccheck.specs.Files.{beginning}
use Rattle.nx_ccheck.specs.TypedFiles
use Rattle.nx_ccheck.specs.TypedFiles.{Parts, nothing, only_scalar, only_array, only_function, with_parts, IsExternal, AreExternals, IsFile}
use Rattle.nx_ccheck.proofs.Steps as steps
use Rattle.nx_ccheck.proofs.Scopes.{scope_of, Stands, Adds, adds_nothing, adds_both, scalar_scope, adds_scalar, array_scope, adds_array, prototype_scope, adds_prototype, function_scope, adds_function, roomy, not_all, one_program}

pub stands_first : (xs : List External) → Stands (beginning xs)
stands_first xs = record { scalars = refl; arrays = refl; bytes = refl; functions = refl; locals = refl }

module _ (rows : List CallRow) where
  external_back : {k l : Known} {x : External} → steps.IsExternal rows k x l → Stands k → (z : Parts) × IsExternal rows (scope_of k) x k.used z (scope_of l) l.used × Adds k l z
  external_back (steps.PlainScalar k x w r e t l b) v = (
    only_scalar w 0,
    subst (λ c. IsExternal rows (scope_of k) x k.used (only_scalar w 0) c k.used) (sym (scalar_scope k x.name w 0 v t)) (TypedFiles.PlainScalar (scope_of k) x w k.used r e t l (sym (roomy k 4 v) ∙ b)),
    adds_scalar k x.name w 0 v t,
  )
  external_back (steps.ValuedScalar k x w n r e t l b) v = (
    only_scalar w (constant_of n.kind),
    subst (λ c. IsExternal rows (scope_of k) x k.used (only_scalar w (constant_of n.kind)) c k.used) (sym (scalar_scope k x.name w (constant_of n.kind) v t)) (TypedFiles.ValuedScalar (scope_of k) x w n k.used r e t l (sym (roomy k 4 v) ∙ b)),
    adds_scalar k x.name w (constant_of n.kind) v t,
  )
  external_back (steps.ArrayOf k x w n i r e t m f l b) v = (
    only_array (shape_of w n) i,
    subst (λ c. IsExternal rows (scope_of k) x k.used (only_array (shape_of w n) i) c k.used) (sym (array_scope k x.name (shape_of w n) i v t))
        (TypedFiles.ArrayOf (scope_of k) x w n i k.used r e t m f l (sym (roomy k (rounded (bytes_of (shape_of w n))) v) ∙ b)),
    adds_array k x.name (shape_of w n) i v t,
  )
  external_back (steps.Prototype k x ps d r c a l h) v =
      (nothing, subst (λ c. IsExternal rows (scope_of k) x k.used nothing c k.used) (sym (prototype_scope k v)) (TypedFiles.Prototype (scope_of k) x ps d k.used r c a l h), adds_prototype k v)
  external_back (steps.Definition k x ps f g u r t c m l a h) v = (
    only_function g,
    subst (λ c. IsExternal rows (scope_of k) x k.used (only_function g) c u) (sym (function_scope k x.name g u v)) (TypedFiles.Definition (scope_of k) x ps f g k.used u r t c m l (sym (not_all k v) ∙ a) h),
    adds_function k x.name g u v,
  )

  externals_back : {k l : Known} {xs : List External} → steps.AreExternals rows k xs l → Stands k → (z : Parts) × AreExternals rows (scope_of k) xs k.used z (scope_of l) l.used × Adds k l z
  externals_back (steps.NoExternals k) v = (nothing, TypedFiles.NoExternals (scope_of k) k.used, adds_nothing k v)
  externals_back (steps.MoreExternals k l m x xs h hs) v =
      let q = external_back h v in
      let r = externals_back hs q.2.stands in
      (with_parts q.0 r.0, TypedFiles.MoreExternals (scope_of k) (scope_of l) (scope_of m) x xs k.used l.used m.used q.0 r.0 q.1 r.1, adds_both k l m q.0 r.0 q.2 r.2)

  pub typed_back : {file : File} {p : Checked} → steps.IsWhole rows file p → IsFile rows file p
  typed_back {file = file} (steps.Program k f h m) =
      let q = externals_back h (stands_first file.externals) in
      subst (λ p. IsFile rows file p) (sym (one_program rows (beginning file.externals) k q.0 f refl refl refl q.2)) (TypedFiles.Program (scope_of k) k.used q.0 f q.1 m)

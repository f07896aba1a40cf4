-- What is well typed by its contexts is checked step by step.
use Rattle.std.proofs.Common.{◌≡◌, true, false, List, [], refl, sym, ap, ◌∙◌, subst}
use Rattle.nx_calls.specs.declared.row.CallRow.{CallRow}
use Rattle.nx_ctree.specs.declared.program.External.{External}
use Rattle.nx_ctree.specs.declared.program.Unit.{Unit as File}
use Rattle.nx_checked.specs.declared.checked.Checked.{Checked}
use Rattle.nx_checked.specs.Frames.{bytes_of}
use Rattle.nx_ctype.specs.declared.used.Used.{Used}
use Rattle.nx_cbody.specs.Declarations.{constant_of}
use Rattle.nx_cbody.specs.TypedFunctions.{AreParams, IsFunction}
use Rattle.nx_ccheck.specs.Defined.{listed, returns_of}
use Rattle.nx_ccheck.specs.declared.known.Known.{Known}
use Rattle.nx_ccheck.specs.Globals.{is_taken, is_full, shape_of, rounded, with_scalar, with_array}
use Rattle.nx_ccheck.specs.Files.{agrees, has_all_functions, closed, with_defined, with_checked, beginning, checked_program, program_with}
use Rattle.nx_ccheck.specs.Scopes.{Scope, has_name, lacks_room, has_512, behind_scalar, behind_array, behind_function}
use Rattle.nx_ccheck.specs.TypedFiles
use Rattle.nx_ccheck.specs.TypedFiles.{Parts, IsExternal, AreExternals, IsFile}
use Rattle.nx_ccheck.proofs.Steps as steps
use Rattle.nx_ccheck.proofs.Scopes.{scope_of, Stands, Adds, adds_nothing, adds_both, scalar_scope, adds_scalar, array_scope, adds_array, prototype_scope, adds_prototype, function_scope, adds_function, roomy, not_all, one_program}
use Rattle.std.specs.Prelude.{codes}
use Rattle.std.specs.Map.{lookup}
use Rattle.std.specs.Str.{bytes_eq}
use Rattle.nx_ccheck.proofs.FromSteps.{stands_first}

module _ (rows : List CallRow) where
  -- A step from what is known, to what the context behind it has.
  abbrev Step : Known → External → Parts → Scope → Used → Type 0
  Step k x z d t = (l : Known) × steps.IsExternal rows k x l × (scope_of l ≡ d) × (l.used ≡ t) × Adds k l z

  external_on : {c d : Scope} {x : External} {s t : Used} {z : Parts} → IsExternal rows c x s z d t → (k : Known) → scope_of k ≡ c → k.used ≡ s → Stands k → Step k x z d t
  external_on (TypedFiles.PlainScalar c x w s r e t l b) k q u v =
      let fresh : is_taken k x.name ≡ false = ap (λ c. has_name c x.name) q ∙ t in
      let room : is_full k 4 ≡ false = roomy k 4 v ∙ (ap (λ c. lacks_room c 4) q ∙ b) in
      (with_scalar k x.name w 0, steps.PlainScalar k x w r e fresh l room, scalar_scope k x.name w 0 v fresh ∙ ap (λ c. behind_scalar c x.name w) q, u, adds_scalar k x.name w 0 v fresh)
  external_on (TypedFiles.ValuedScalar c x w n s r e t l b) k q u v =
      let fresh : is_taken k x.name ≡ false = ap (λ c. has_name c x.name) q ∙ t in
      let room : is_full k 4 ≡ false = roomy k 4 v ∙ (ap (λ c. lacks_room c 4) q ∙ b) in
      (with_scalar k x.name w (constant_of n.kind), steps.ValuedScalar k x w n r e fresh l room, scalar_scope k x.name w (constant_of n.kind) v fresh ∙ ap (λ c. behind_scalar c x.name w) q, u, adds_scalar k x.name w (constant_of n.kind) v fresh)
  external_on (TypedFiles.ArrayOf c x w n i s r e t m f l b) k q u v =
      let fresh : is_taken k x.name ≡ false = ap (λ c. has_name c x.name) q ∙ t in
      let room : is_full k (rounded (bytes_of (shape_of w n))) ≡ false = roomy k (rounded (bytes_of (shape_of w n))) v ∙ (ap (λ c. lacks_room c (rounded (bytes_of (shape_of w n)))) q ∙ b) in
      (with_array k x.name (shape_of w n) i, steps.ArrayOf k x w n i r e fresh m f l room, array_scope k x.name (shape_of w n) i v fresh ∙ ap (λ c. behind_array c x.name (shape_of w n)) q, u, adds_array k x.name (shape_of w n) i v fresh)
  external_on (TypedFiles.Prototype c x ps d s r n a l h) k q u v =
      let agree : agrees (lookup (bytes_eq x.name) k.names.functions) x.result (listed ps) ≡ true = ap (λ c. agrees (lookup (bytes_eq x.name) c.names.functions) x.result (listed ps)) q ∙ a in
      let params : AreParams (record k.names { locals = [] }) (listed ps) d = subst (λ c. AreParams (record c.names { locals = [] }) (listed ps) d) (sym q) h in
      (closed k, steps.Prototype k x ps d r n agree l params, prototype_scope k v ∙ q, u, adds_prototype k v)
  external_on (TypedFiles.Definition c x ps f g s t r n h m l a d) k q u v =
      let fresh : is_taken k x.name ≡ false = ap (λ c. has_name c x.name) q ∙ n in
      let room : has_all_functions k ≡ false = not_all k v ∙ (ap has_512 q ∙ a) in
      let here : IsFunction rows k.names (returns_of x.result) (listed ps) f s g t = subst (λ c. IsFunction rows c.names (returns_of x.result) (listed ps) f s g t) (sym q) d in
      let typed : IsFunction rows k.names (returns_of x.result) (listed ps) f k.used g t = subst (λ s. IsFunction rows k.names (returns_of x.result) (listed ps) f s g t) (sym u) here in
      (with_checked (with_defined k x.name) (g, t), steps.Definition k x ps f g t r fresh h m l room typed, function_scope k x.name g t v ∙ ap (λ c. behind_function c x.name) q, refl, adds_function k x.name g t v)

  externals_on : {c d : Scope} {xs : List External} {s t : Used} {z : Parts} → AreExternals rows c xs s z d t → (k : Known) → scope_of k ≡ c → k.used ≡ s → Stands k →
      (l : Known) × steps.AreExternals rows k xs l × (scope_of l ≡ d) × (l.used ≡ t) × Adds k l z
  externals_on (TypedFiles.NoExternals c s) k q u v = (k, steps.NoExternals k, q, u, adds_nothing k v)
  externals_on (TypedFiles.MoreExternals c d e x xs s t o y z h hs) k q u v =
      let r = external_on h k q u v in
      let p = externals_on hs r.0 r.2 r.3 r.4.stands in
      (p.0, steps.MoreExternals k r.0 p.0 x xs r.1 p.1, p.2, p.3, adds_both k r.0 p.0 y z r.4 p.4)

  pub typed_on : {file : File} {p : Checked} → IsFile rows file p → steps.IsWhole rows file p
  typed_on {file = file} (TypedFiles.Program c t z f h m) =
      let q = externals_on h (beginning file.externals) refl refl (stands_first file.externals) in
      let same : checked_program rows q.0 f ≡ program_with rows z.functions z.scalars z.arrays t f =
      one_program rows (beginning file.externals) q.0 z f refl refl refl q.4 ∙ ap (λ s. program_with rows z.functions z.scalars z.arrays s f) q.3 in
      subst (λ p. steps.IsWhole rows file p) same (steps.Program q.0 f q.1 (ap (λ c. lookup (bytes_eq (codes "main")) c.names.functions) q.2 ∙ m))

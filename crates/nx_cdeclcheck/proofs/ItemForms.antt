-- What stands after a local's name.
use Rattle.std.proofs.Common.{◌≡◌, ℕ, List, sym, subst}
use Rattle.std.specs.Prelude.{Option, Result}
use Rattle.nx_calls.specs.declared.row.CallRow.{CallRow}
use Rattle.nx_ctok.specs.declared.fault.CFault.{CFault}
use Rattle.nx_ctree.specs.declared.expression.Expr.{Expr}
use Rattle.nx_ctree.specs.declared.program.Base.{Base}
use Rattle.nx_ctree.specs.declared.program.Constant.{Constant}
use Rattle.nx_ctree.specs.declared.statement.Item.{Item}
use Rattle.nx_ctree.specs.declared.statement.ItemKind.{ItemKind}
use Rattle.nx_ctree.specs.declared.statement.ItemKind.TheVariants as form
use Rattle.nx_checked.specs.declared.checked.Element.{Element}
use Rattle.nx_crules.specs.declared.types.Held.{Held}
use Rattle.nx_ctype.specs.declared.used.Used.{Used}
use Rattle.nx_cbody.specs.Declarations.{Declared, item_kind, item_verdict, scalar_given, array_given, held_of, element_of, constant_of}
use Rattle.nx_cdeclcheck.specs.Done.{IsDone, IsDoneUsing, valued_given}
use Rattle.nx_cdeclcheck.proofs.Refused.{done_leaf}

module _ (rows : List CallRow) (b : Base) (f : Declared) (i : Item) (s : Used) (q : Result (Unit {0}) CFault) (d : Declared) where
  by_kind : (k : ItemKind) (t : Used) → i.kind ≡ k → IsDoneUsing q d t (item_kind rows b f i k s) → IsDoneUsing q d t (item_verdict rows b f i s)
  by_kind k t h g = subst (λ (k : ItemKind). IsDoneUsing q d t (item_kind rows b f i k s)) (sym h) g

  pub plain_done : (o : Option Held) → i.kind ≡ form.Plain → o ≡ held_of b i.pointer → IsDone q d (scalar_given f i o) → IsDoneUsing q d s (item_verdict rows b f i s)
  plain_done o h k g = by_kind form.Plain s h (done_leaf q d s (scalar_given f i (held_of b i.pointer)) (subst (λ (o : Option Held). IsDone q d (scalar_given f i o)) k g))

  pub array_done : (c : Constant) (o : Option Element) (n : ℕ) → i.kind ≡ form.Array c → o ≡ element_of b i.pointer → n ≡ constant_of c.kind → IsDone q d (array_given f i o n) → IsDoneUsing q d s (item_verdict rows b f i s)
  array_done c o n h k m g =
      by_kind (form.Array c) s h
      (done_leaf q d s (array_given f i (element_of b i.pointer) (constant_of c.kind))
      (subst (λ (n : ℕ). IsDone q d (array_given f i (element_of b i.pointer) n)) m (subst (λ (o : Option Element). IsDone q d (array_given f i o n)) k g)))

  pub valued_done : (e x : Expr) (o : Option Held) (t : Used) → i.kind ≡ form.Valued e → x ≡ e → o ≡ held_of b i.pointer → IsDoneUsing q d t (valued_given rows i o x f s) → IsDoneUsing q d t (item_verdict rows b f i s)
  valued_done e x o t h y k g =
      by_kind (form.Valued e) t h
      (subst (λ (o : Option Held). IsDoneUsing q d t (valued_given rows i o e f s)) k (subst (λ (x : Expr). IsDoneUsing q d t (valued_given rows i o x f s)) y g))

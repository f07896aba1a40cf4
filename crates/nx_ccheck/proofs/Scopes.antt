-- How a file's context grows, and how it stands for what is known of the file so far.
use Rattle.std.proofs.Common.{arith, ◌≡◌, ℕ, ◌+◌, false, nat_lt, List, [], ◌∷◌, ◌++◌, length, refl, sym, ap, ◌∙◌}
use Rattle.std.proofs.lemmas.List.{append-nil, append_assoc, length-append}
use Rattle.std.specs.Prelude.{Option, is_some}
use Rattle.std.specs.List.{list_any}
use Rattle.std.specs.Map.{lookup}
use Rattle.std.specs.Str.{bytes_eq}
use Rattle.indexmap.specs.IndexMap.{insert_entry}
use Rattle.nx_calls.specs.declared.row.CallRow.{CallRow}
use Rattle.nx_ctree.specs.declared.program.Initialiser.{Initialiser}
use Rattle.nx_checked.specs.declared.checked.Cell.TheVariants as cell
use Rattle.nx_checked.specs.declared.checked.ArrayName.TheVariants as array
use Rattle.nx_checked.specs.declared.checked.Scalar.{Scalar}
use Rattle.nx_checked.specs.declared.checked.Shape.{Shape}
use Rattle.nx_checked.specs.declared.checked.CheckedFunction.{CheckedFunction}
use Rattle.nx_crules.specs.declared.types.Function.{Function}
use Rattle.nx_ctype.specs.declared.names.Names.{Names}
use Rattle.nx_ctype.specs.declared.names.Variable.{Variable}
use Rattle.nx_ctype.specs.declared.names.Variable.TheVariants as variable
use Rattle.nx_ctype.specs.declared.used.Used.{Used}
use Rattle.nx_cbody.specs.Contexts.{scalars_of, scalars_in, shapes_of, shapes_in}
use Rattle.nx_cbody.proofs.Unless.{each_false}
use Rattle.nx_cbody.proofs.Contexts.{appended, scalars_push, shapes_push}
use Rattle.nx_ccheck.specs.declared.known.Known.{Known}
use Rattle.nx_ccheck.specs.Globals.{is_taken, is_full, global_scalar, global_array, with_scalar, with_array}
use Rattle.nx_ccheck.specs.Files.{closed, with_defined, with_checked, has_all_functions, checked_program, program_with}
use Rattle.nx_ccheck.specs.Scopes.{Scope, variable_bytes, bytes_in, lacks_room, has_512, behind, behind_scalar, behind_array, behind_function}
use Rattle.nx_ccheck.specs.TypedFiles.{Parts, nothing, only_scalar, only_array, only_function, with_parts}

abbrev pub scope_of : Known → Scope
scope_of k = record { names = k.names; functions = k.defined }

sum_assoc : (a b c : ℕ) → a + (b + c) ≡ (a + b) + c
sum_assoc a b c = omega arith

sum_zero : (a : ℕ) → a + 0 ≡ 0 + a
sum_zero a = omega arith

bytes_push : (es : List (List ℕ × Variable)) (name : List ℕ) (v : Variable) → bytes_in (es ++ (name, v) ∷ []) ≡ bytes_in es + variable_bytes v
bytes_push [] name v = sum_zero (variable_bytes v)
bytes_push (e ∷ es) name v = ap (λ n. variable_bytes e.1 + n) (bytes_push es name v) ∙ sum_assoc (variable_bytes e.1) (bytes_in es) (variable_bytes v)

unlocal : (names : Names) → names.locals ≡ [] → record names { locals = [] } ≡ names
unlocal names h = ap (λ ls. record names { locals = ls }) (sym h)

-- The context has what is known.
pub record Stands (k : Known) : Type 0 where
  pub scalars : length k.scalars ≡ length (scalars_in k.names.globals)
  pub arrays : length k.arrays ≡ length (shapes_in k.names.globals)
  pub bytes : k.bytes ≡ bytes_in k.names.globals
  pub functions : length k.functions ≡ length k.defined
  pub locals : k.names.locals ≡ []

-- What declarations add to what is known.
pub record Adds (k l : Known) (z : Parts) : Type 0 where
  pub stands : Stands l
  pub scalars : l.scalars ≡ k.scalars ++ z.scalars
  pub arrays : l.arrays ≡ k.arrays ++ z.arrays
  pub functions : l.functions ≡ k.functions ++ z.functions

pub adds_nothing : (k : Known) → Stands k → Adds k k nothing
adds_nothing k w = record { stands = w; scalars = sym (append-nil k.scalars); arrays = sym (append-nil k.arrays); functions = sym (append-nil k.functions) }

pub adds_both : (k l m : Known) (y z : Parts) → Adds k l y → Adds l m z → Adds k m (with_parts y z)
adds_both k l m y z a b = record {
  stands = b.stands;
  scalars = b.scalars ∙ (ap (λ xs. xs ++ z.scalars) a.scalars ∙ append_assoc k.scalars y.scalars z.scalars);
  arrays = b.arrays ∙ (ap (λ xs. xs ++ z.arrays) a.arrays ∙ append_assoc k.arrays y.arrays z.arrays);
  functions = b.functions ∙ (ap (λ xs. xs ++ z.functions) a.functions ∙ append_assoc k.functions y.functions z.functions);
}

one_more : {A B : Type 0} (xs : List A) (ys : List B) (x : A) (y : B) → length xs ≡ length ys → length (xs ++ x ∷ []) ≡ length (ys ++ y ∷ [])
one_more xs ys x y h = length-append xs (x ∷ []) ∙ (ap (λ n. n + 1) h ∙ sym (length-append ys (y ∷ [])))

module _ (k : Known) (name : List ℕ) (v : Variable) (w : Stands k) (t : is_taken k name ≡ false) where
  at_end : insert_entry bytes_eq k.names.globals name v ≡ k.names.globals ++ (name, v) ∷ []
  at_end = appended k.names.globals name v (each_false (is_some (lookup (bytes_eq name) k.names.globals)) (list_any (bytes_eq name) k.defined) t).0

  scalars_grow : scalars_in (insert_entry bytes_eq k.names.globals name v) ≡ scalars_in k.names.globals ++ scalars_of v
  scalars_grow = ap scalars_in at_end ∙ scalars_push k.names.globals name v

  shapes_grow : shapes_in (insert_entry bytes_eq k.names.globals name v) ≡ shapes_in k.names.globals ++ shapes_of v
  shapes_grow = ap shapes_in at_end ∙ shapes_push k.names.globals name v

  bytes_grow : k.bytes + variable_bytes v ≡ bytes_in (insert_entry bytes_eq k.names.globals name v)
  bytes_grow = ap (λ n. n + variable_bytes v) w.bytes ∙ sym (ap bytes_in at_end ∙ bytes_push k.names.globals name v)

  scope_grows : record { names = record k.names { globals = insert_entry bytes_eq k.names.globals name v }; functions = k.defined } ≡ behind (scope_of k) name v
  scope_grows = ap (λ es. record { names = record k.names { globals = es }; functions = k.defined }) at_end

module _ (k : Known) (name : List ℕ) (s : Scalar) (n : ℕ) (w : Stands k) (t : is_taken k name ≡ false) where
  abbrev cell_of : ℕ → Variable
  cell_of m = variable.Scalar (cell.Global m) (record { scalar = s; constant = false })

  pub scalar_scope : scope_of (with_scalar k name s n) ≡ behind_scalar (scope_of k) name s
  scalar_scope = scope_grows k name (cell_of (length k.scalars)) w t ∙ ap (λ m. behind (scope_of k) name (cell_of m)) w.scalars

  pub adds_scalar : Adds k (with_scalar k name s n) (only_scalar s n)
  adds_scalar = record {
    stands = record {
      scalars = one_more k.scalars (scalars_in k.names.globals) (global_scalar s n) s w.scalars ∙ sym (ap length (scalars_grow k name (cell_of (length k.scalars)) w t));
      arrays = w.arrays ∙ sym (ap length (shapes_grow k name (cell_of (length k.scalars)) w t ∙ append-nil (shapes_in k.names.globals)));
      bytes = bytes_grow k name (cell_of (length k.scalars)) w t;
      functions = w.functions;
      locals = w.locals;
    };
    scalars = refl;
    arrays = sym (append-nil k.arrays);
    functions = sym (append-nil k.functions);
  }

module _ (k : Known) (name : List ℕ) (z : Shape) (i : Option Initialiser) (w : Stands k) (t : is_taken k name ≡ false) where
  abbrev array_of : ℕ → Variable
  array_of m = variable.Array (array.Global m) z

  pub array_scope : scope_of (with_array k name z i) ≡ behind_array (scope_of k) name z
  array_scope = scope_grows k name (array_of (length k.arrays)) w t ∙ ap (λ m. behind (scope_of k) name (array_of m)) w.arrays

  pub adds_array : Adds k (with_array k name z i) (only_array z i)
  adds_array = record {
    stands = record {
      scalars = w.scalars ∙ sym (ap length (scalars_grow k name (array_of (length k.arrays)) w t ∙ append-nil (scalars_in k.names.globals)));
      arrays = one_more k.arrays (shapes_in k.names.globals) (global_array z i) z w.arrays ∙ sym (ap length (shapes_grow k name (array_of (length k.arrays)) w t));
      bytes = bytes_grow k name (array_of (length k.arrays)) w t;
      functions = w.functions;
      locals = w.locals;
    };
    scalars = sym (append-nil k.scalars);
    arrays = refl;
    functions = sym (append-nil k.functions);
  }

pub prototype_scope : (k : Known) → Stands k → scope_of (closed k) ≡ scope_of k
prototype_scope k w = ap (λ names. record { names = names; functions = k.defined }) (unlocal k.names w.locals)

pub adds_prototype : (k : Known) → Stands k → Adds k (closed k) nothing
adds_prototype k w = record {
  stands = record { scalars = w.scalars; arrays = w.arrays; bytes = w.bytes; functions = w.functions; locals = refl };
  scalars = sym (append-nil k.scalars);
  arrays = sym (append-nil k.arrays);
  functions = sym (append-nil k.functions);
}

module _ (k : Known) (name : List ℕ) (g : CheckedFunction) (s : Used) (w : Stands k) where
  pub function_scope : scope_of (with_checked (with_defined k name) (g, s)) ≡ behind_function (scope_of k) name
  function_scope = ap (λ names. record { names = names; functions = k.defined ++ name ∷ [] }) (unlocal k.names w.locals)

  pub adds_function : Adds k (with_checked (with_defined k name) (g, s)) (only_function g)
  adds_function = record {
    stands = record { scalars = w.scalars; arrays = w.arrays; bytes = w.bytes; functions = one_more k.functions k.defined g name w.functions; locals = refl };
    scalars = sym (append-nil k.scalars);
    arrays = sym (append-nil k.arrays);
    functions = refl;
  }

pub roomy : (k : Known) (n : ℕ) → Stands k → is_full k n ≡ lacks_room (scope_of k) n
roomy k n w = ap (λ m. nat_lt 1048576 (m + n)) w.bytes

pub not_all : (k : Known) → Stands k → has_all_functions k ≡ has_512 (scope_of k)
not_all k w = ap (λ n. nat_lt 511 n) w.functions

-- A program by what is known of a file is that by its parts.
pub one_program : (rows : List CallRow) (k l : Known) (z : Parts) (f : Function) → k.scalars ≡ [] → k.arrays ≡ [] → k.functions ≡ [] → Adds k l z → checked_program rows l f ≡ program_with rows z.functions z.scalars z.arrays l.used f
one_program rows k l z f h g d a =
    ap (λ fs. program_with rows fs l.scalars l.arrays l.used f) (a.functions ∙ ap (λ fs. fs ++ z.functions) d)
    ∙ (ap (λ xs. program_with rows z.functions xs l.arrays l.used f) (a.scalars ∙ ap (λ xs. xs ++ z.scalars) h)
    ∙ ap (λ xs. program_with rows z.functions z.scalars xs l.used f) (a.arrays ∙ ap (λ xs. xs ++ z.arrays) g))

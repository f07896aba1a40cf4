-- How a context grows, and how it stands for what is known of a function so far.
use Rattle.std.proofs.Common.{◌≡◌, ℕ, ◌+◌, Bool, true, false, List, [], ◌∷◌, ◌++◌, length, drop, refl, sym, ap, ◌∙◌}
use Rattle.std.proofs.lemmas.List.{append-nil, append_assoc, length-append}
use Rattle.std.proofs.Math.Seq.{drop-append_seam}
use Rattle.std.specs.Prelude.{Option, Some, is_some, cond, if◌then◌else◌}
use Rattle.std.specs.Map.{lookup}
use Rattle.std.specs.Str.{bytes_eq}
use Rattle.indexmap.specs.IndexMap.{insert_entry}
use Rattle.nx_checked.specs.declared.checked.Cell.TheVariants as cell
use Rattle.nx_checked.specs.declared.checked.ArrayName.TheVariants as array
use Rattle.nx_checked.specs.declared.checked.Scalar.{Scalar}
use Rattle.nx_checked.specs.declared.checked.Shape.{Shape}
use Rattle.nx_checked.specs.declared.checked.CheckedExpr.{CheckedExpr}
use Rattle.nx_checked.specs.declared.checked.CheckedStmt.{CheckedStmt}
use Rattle.nx_crules.specs.declared.types.Held.{Held}
use Rattle.nx_ctype.specs.declared.names.Names.{Names}
use Rattle.nx_ctype.specs.declared.names.Variable.{Variable}
use Rattle.nx_ctype.specs.declared.names.Variable.TheVariants as variable
use Rattle.nx_cbody.specs.Contexts.{scalars_of, scalars_in, shapes_of, shapes_in, is_local, behind, behind_scalar, behind_array}
use Rattle.nx_cbody.specs.Declarations.{Declared, opening, with_local, next_cell, is_taken, with_param, with_scalar, with_array, with_initial}
use Rattle.nx_cbody.specs.Functions.{function_of, checked_function}
use Rattle.nx_cbody.specs.TypedFunctions.{typed_function}

-- A new name comes behind all others.
at_new : {V : Type 0} (b : Bool) (e : List ℕ × V) (es : List (List ℕ × V)) (name : List ℕ) (v : V) (o : Option V) →
    is_some (cond b (Some e.1) o) ≡ false → (is_some o ≡ false → insert_entry bytes_eq es name v ≡ es ++ (name, v) ∷ []) → (if b then (e.0, v) ∷ es else e ∷ insert_entry bytes_eq es name v) ≡ e ∷ (es ++ (name, v) ∷ [])
at_new true e es name v o h g = absurd cc
at_new false e es name v o h g = ap (λ z. e ∷ z) (g h)

pub appended : {V : Type 0} (es : List (List ℕ × V)) (name : List ℕ) (v : V) → is_some (lookup (bytes_eq name) es) ≡ false → insert_entry bytes_eq es name v ≡ es ++ (name, v) ∷ []
appended [] name v h = refl
appended (e ∷ es) name v h = at_new (bytes_eq name e.0) e es name v (lookup (bytes_eq name) es) h (λ k. appended es name v k)

pub scalars_push : (es : List (List ℕ × Variable)) (name : List ℕ) (v : Variable) → scalars_in (es ++ (name, v) ∷ []) ≡ scalars_in es ++ scalars_of v
scalars_push [] name v = append-nil (scalars_of v)
scalars_push (e ∷ es) name v = ap (λ zs. scalars_of e.1 ++ zs) (scalars_push es name v) ∙ sym (append_assoc (scalars_of e.1) (scalars_in es) (scalars_of v))

pub shapes_push : (es : List (List ℕ × Variable)) (name : List ℕ) (v : Variable) → shapes_in (es ++ (name, v) ∷ []) ≡ shapes_in es ++ shapes_of v
shapes_push [] name v = append-nil (shapes_of v)
shapes_push (e ∷ es) name v = ap (λ zs. shapes_of e.1 ++ zs) (shapes_push es name v) ∙ sym (append_assoc (shapes_of e.1) (shapes_in es) (shapes_of v))

grown : (names : Names) (name : List ℕ) (v : Variable) → is_local names name ≡ false → with_local names name v ≡ behind names name v
grown names name v t = ap (λ es. record names { locals = es }) (appended names.locals name v t)

module _ (names : Names) (name : List ℕ) (v : Variable) (t : is_local names name ≡ false) where
  scalars_grow : scalars_in (insert_entry bytes_eq names.locals name v) ≡ scalars_in names.locals ++ scalars_of v
  scalars_grow = ap scalars_in (appended names.locals name v t) ∙ scalars_push names.locals name v

  shapes_grow : shapes_in (insert_entry bytes_eq names.locals name v) ≡ shapes_in names.locals ++ shapes_of v
  shapes_grow = ap shapes_in (appended names.locals name v t) ∙ shapes_push names.locals name v

-- The context has what is known: first of the parameters, and then of locals too.
pub record Opens (f : Declared) : Type 0 where
  pub params : scalars_in f.names.locals ≡ f.locals.params
  pub scalars : f.locals.scalars ≡ []
  pub arrays : shapes_in f.names.locals ≡ f.locals.arrays
  pub initials : f.locals.initials ≡ []

pub record Stands (f : Declared) : Type 0 where
  pub scalars : scalars_in f.names.locals ≡ f.locals.params ++ f.locals.scalars
  pub arrays : shapes_in f.names.locals ≡ f.locals.arrays

pub opens_at : (names : Names) → Opens (opening names)
opens_at names = record { params = refl; scalars = refl; arrays = refl; initials = refl }

pub stands_then : (f : Declared) → Opens f → Stands f
stands_then f w = record { scalars = w.params ∙ sym (ap (λ z. f.locals.params ++ z) w.scalars ∙ append-nil f.locals.params); arrays = w.arrays }

pub param_named : (f : Declared) (name : List ℕ) (h : Held) → Opens f → is_taken f name ≡ false → (with_param f name h).names ≡ behind_scalar f.names name h
param_named f name h w t =
    grown f.names name (variable.Scalar (cell.Local (length f.locals.params)) h) t ∙ ap (λ n. behind f.names name (variable.Scalar (cell.Local n) h)) (sym (ap length w.params))

pub param_opens : (f : Declared) (name : List ℕ) (h : Held) → Opens f → is_taken f name ≡ false → Opens (with_param f name h)
param_opens f name h w t = record {
  params = scalars_grow f.names name (variable.Scalar (cell.Local (length f.locals.params)) h) t ∙ ap (λ zs. zs ++ h.scalar ∷ []) w.params;
  scalars = w.scalars;
  arrays = shapes_grow f.names name (variable.Scalar (cell.Local (length f.locals.params)) h) t ∙ append-nil (shapes_in f.names.locals) ∙ w.arrays;
  initials = w.initials;
}

pub counted : (f : Declared) → Stands f → length f.locals.params + length f.locals.scalars ≡ length (scalars_in f.names.locals)
counted f w = sym (ap length w.scalars ∙ length-append f.locals.params f.locals.scalars)

pub scalar_named : (f : Declared) (name : List ℕ) (h : Held) → Stands f → is_taken f name ≡ false → (with_scalar f name h).names ≡ behind_scalar f.names name h
scalar_named f name h w t = grown f.names name (variable.Scalar (next_cell f) h) t ∙ ap (λ n. behind f.names name (variable.Scalar (cell.Local n) h)) (counted f w)

pub scalar_stands : (f : Declared) (name : List ℕ) (h : Held) → Stands f → is_taken f name ≡ false → Stands (with_scalar f name h)
scalar_stands f name h w t = record {
  scalars = scalars_grow f.names name (variable.Scalar (next_cell f) h) t ∙ ap (λ zs. zs ++ h.scalar ∷ []) w.scalars ∙ append_assoc f.locals.params f.locals.scalars (h.scalar ∷ []);
  arrays = shapes_grow f.names name (variable.Scalar (next_cell f) h) t ∙ append-nil (shapes_in f.names.locals) ∙ w.arrays;
}

pub array_named : (f : Declared) (name : List ℕ) (z : Shape) → Stands f → is_taken f name ≡ false → (with_array f name z).names ≡ behind_array f.names name z
array_named f name z w t = grown f.names name (variable.Array (array.Local (length f.locals.arrays)) z) t ∙ ap (λ xs. behind f.names name (variable.Array (array.Local (length xs)) z)) (sym w.arrays)

pub array_stands : (f : Declared) (name : List ℕ) (z : Shape) → Stands f → is_taken f name ≡ false → Stands (with_array f name z)
array_stands f name z w t = record {
  scalars = scalars_grow f.names name (variable.Array (array.Local (length f.locals.arrays)) z) t ∙ append-nil (scalars_in f.names.locals) ∙ w.scalars;
  arrays = shapes_grow f.names name (variable.Array (array.Local (length f.locals.arrays)) z) t ∙ ap (λ zs. zs ++ z ∷ []) w.arrays;
}

-- What declarations add to what is known.
pub record Adds (f g : Declared) (xs : List CheckedExpr) : Type 0 where
  pub stands : Stands g
  pub params : g.locals.params ≡ f.locals.params
  pub initials : g.locals.initials ≡ f.locals.initials ++ xs

pub adds_nothing : (f : Declared) → Stands f → Adds f f []
adds_nothing f w = record { stands = w; params = refl; initials = sym (append-nil f.locals.initials) }

pub adds_scalar : (f : Declared) (name : List ℕ) (h : Held) → Stands f → is_taken f name ≡ false → Adds f (with_scalar f name h) []
adds_scalar f name h w t = record { stands = scalar_stands f name h w t; params = refl; initials = sym (append-nil f.locals.initials) }

pub adds_array : (f : Declared) (name : List ℕ) (z : Shape) → Stands f → is_taken f name ≡ false → Adds f (with_array f name z) []
adds_array f name z w t = record { stands = array_stands f name z w t; params = refl; initials = sym (append-nil f.locals.initials) }

pub adds_valued : (f : Declared) (name : List ℕ) (h : Held) (x y : CheckedExpr) → Stands f → is_taken f name ≡ false → x ≡ y → Adds f (with_initial (with_scalar f name h) x) (y ∷ [])
adds_valued f name h x y w t e =
    let q = scalar_stands f name h w t in record { stands = record { scalars = q.scalars; arrays = q.arrays }; params = refl; initials = ap (λ x. f.locals.initials ++ x ∷ []) e }

pub adds_both : (f g k : Declared) (xs ys : List CheckedExpr) → Adds f g xs → Adds g k ys → Adds f k (xs ++ ys)
adds_both f g k xs ys a b = record {
  stands = b.stands;
  params = b.params ∙ a.params;
  initials = b.initials ∙ (ap (λ z. z ++ ys) a.initials ∙ append_assoc f.locals.initials xs ys);
}

-- A function by what is known of it is that by its contexts.
behind_all : (ps ms bs cs : List Scalar) → ps ≡ ms → cs ≡ ms ++ bs → bs ≡ drop (length ps) cs
behind_all ps ms bs cs h g = sym (ap (λ zs. drop (length zs) cs) h ∙ ap (λ zs. drop (length ms) zs) g ∙ drop-append_seam ms bs)

pub one_function : (p d : Declared) (xs : List CheckedExpr) (body : List CheckedStmt) → Opens p → Adds p d xs → checked_function d body ≡ typed_function p.names d.names xs body
one_function p d xs body o a =
    let first : d.locals.params ≡ scalars_in p.names.locals = a.params ∙ sym o.params in
    let second : d.locals.scalars ≡ drop (length (scalars_in p.names.locals)) (scalars_in d.names.locals) =
    behind_all (scalars_in p.names.locals) d.locals.params d.locals.scalars (scalars_in d.names.locals) (sym first) a.stands.scalars in
    let fourth : d.locals.initials ≡ xs = a.initials ∙ ap (λ z. z ++ xs) o.initials in
    ap (λ z. function_of z d.locals.scalars d.locals.arrays d.locals.initials body) first
    ∙ (ap (λ z. function_of (scalars_in p.names.locals) z d.locals.arrays d.locals.initials body) second
    ∙ (ap (λ z. function_of (scalars_in p.names.locals) (drop (length (scalars_in p.names.locals)) (scalars_in d.names.locals)) z d.locals.initials body) (sym a.stands.arrays)
    ∙ ap (λ z. function_of (scalars_in p.names.locals) (drop (length (scalars_in p.names.locals)) (scalars_in d.names.locals)) (shapes_in d.names.locals) z body) fourth))

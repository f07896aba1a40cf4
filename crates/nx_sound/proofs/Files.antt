-- What a well-typed file does names what is there.
use Rattle.std.proofs.Common.{◌≡◌, ℕ, suc, ◌+◌, ◌-◌, ◌≤◌, nat_lt, Bool, true, false, List, [], ◌∷◌, ◌++◌, length, Option, None, Some, refl, ap, ◌∙◌, arith}
use Rattle.std.proofs.lemmas.Bool.Decides.{nat_tests}
use Rattle.std.proofs.lemmas.List.{length-append, length-replicate}
use Rattle.std.specs.Prelude.{◌&&◌, replicate}
use Rattle.nx_base.specs.ByteLists.{to_le}
use Rattle.nx_calls.specs.declared.row.CallRow.{CallRow}
use Rattle.nx_ctree.specs.declared.program.Constant.{Constant}
use Rattle.nx_ctree.specs.declared.program.Initialiser.{Initialiser}
use Rattle.nx_ctree.specs.declared.program.Initialiser.TheVariants as init
use Rattle.nx_ctree.specs.declared.program.Param.{Param}
use Rattle.nx_ctree.specs.declared.program.Function.{Function as Body}
use Rattle.nx_ctree.specs.declared.program.External.{External}
use Rattle.nx_checked.specs.declared.checked.Cell.TheVariants as cell
use Rattle.nx_checked.specs.declared.checked.ArrayName.TheVariants as array
use Rattle.nx_checked.specs.declared.checked.Element.{Element}
use Rattle.nx_checked.specs.declared.checked.Element.TheVariants as element
use Rattle.nx_checked.specs.declared.checked.Scalar.{Scalar}
use Rattle.nx_checked.specs.declared.checked.Shape.{Shape}
use Rattle.nx_checked.specs.declared.checked.GlobalArray.{GlobalArray}
use Rattle.nx_checked.specs.declared.checked.CheckedFunction.{CheckedFunction}
use Rattle.nx_checked.specs.Frames.{bytes_of, frame_of}
use Rattle.nx_checked.specs.Trees.{fun_of}
use Rattle.nx_ctype.specs.declared.names.Names.{Names}
use Rattle.nx_ctype.specs.declared.names.Variable.{Variable}
use Rattle.nx_ctype.specs.declared.names.Variable.TheVariants as variable
use Rattle.nx_ctype.specs.declared.used.Used.{Used}
use Rattle.nx_cbody.specs.Contexts.{scalars_in, shapes_in, scalars_of, shapes_of}
use Rattle.nx_cbody.specs.Declarations.{constant_of}
use Rattle.nx_cbody.specs.TypedFunctions as typed_body
use Rattle.nx_cbody.specs.TypedFunctions.{IsFunction}
use Rattle.nx_cbody.proofs.Contexts.{scalars_push, shapes_push}
use Rattle.nx_ccheck.specs.Globals.{element_bytes, elements_bytes, fits, contents, shape_of}
use Rattle.nx_ccheck.specs.Scopes.{Scope, behind, behind_scalar, behind_array}
use Rattle.nx_ccheck.specs.TypedFiles as typed
use Rattle.nx_ccheck.specs.TypedFiles.{Parts, nothing, with_parts, IsExternal, AreExternals}
use Rattle.nx_lower.specs.Code.{Source}
use Rattle.nx_lower.specs.Sound.{Stage, SoundFun}
use Rattle.nx_sound.proofs.Entries.{each_push}
use Rattle.nx_sound.proofs.Every.{Every, every_both}
use Rattle.nx_sound.proofs.Growth.{Grows, same, both}
use Rattle.nx_sound.proofs.Scopes.{Ends, IsVariable}
use Rattle.nx_sound.proofs.Functions.{Knows, function_grows, function_sound}

-- An array has all of its bytes.
abbrev pub HasAll : GlobalArray → Type 0
HasAll a = length a.bytes ≡ bytes_of a.shape

elements_length : (w : Element) (cs : List Constant) → length (elements_bytes w cs) ≡ bytes_of (record { element = w; count = length cs })
unfolding to_le
elements_length element.Int [] = refl
elements_length element.Char [] = refl
elements_length element.Int (c ∷ cs) = omega (arith, length-append (element_bytes element.Int (constant_of c.kind)) (elements_bytes element.Int cs), elements_length element.Int cs)
elements_length element.Char (c ∷ cs) = omega (arith, length-append (element_bytes element.Char (constant_of c.kind)) (elements_bytes element.Char cs), elements_length element.Char cs)

at_most : (m n : ℕ) → nat_lt m (suc n) ≡ true → m ≤ n
at_most m n h = grind (arith, nat_tests)

both_of : (a b : Bool) → (a && b) ≡ true → (a ≡ true) × (b ≡ true)
both_of true b e = (refl, e)
both_of false b e = absurd cc

-- What is given for an array isn't longer than it.
given_short : (w : Element) (n : ℕ) (i : Option Initialiser) → fits (record { element = w; count = n }) i ≡ true → length (contents w i) ≤ bytes_of (record { element = w; count = n })
given_short w n None h = omega arith
given_short element.Int n (Some (init.Text t)) h = absurd cc
given_short element.Char n (Some (init.Text t)) h = let m = at_most (length t) n h in omega (arith, m)
given_short element.Int n (Some (init.Listed cs)) h = let m = at_most (length cs) n h in omega (arith, m, elements_length element.Int cs)
given_short element.Char n (Some (init.Listed cs)) h = let m = at_most (length cs) n h in omega (arith, m, elements_length element.Char cs)

filled_length : (n : ℕ) (bs : List ℕ) → length bs ≤ n → length (bs ++ replicate (n - length bs) 0) ≡ n
filled_length n bs h = omega (arith, length-append bs (replicate (n - length bs) 0), length-replicate {A = ℕ} (n - length bs) 0, h)

-- How many variables and arrays a file has so far.
abbrev variables_in : Scope → ℕ
variables_in c = length (scalars_in c.names.globals)

abbrev arrays_in : Scope → ℕ
arrays_in c = length (shapes_in c.names.globals)

variables_behind : (c : Scope) (name : List ℕ) (v : Variable) → variables_in (behind c name v) ≡ variables_in c + length (scalars_of v)
variables_behind c name v = ap length (scalars_push c.names.globals name v) ∙ length-append (scalars_in c.names.globals) (scalars_of v)

arrays_behind : (c : Scope) (name : List ℕ) (v : Variable) → arrays_in (behind c name v) ≡ arrays_in c + length (shapes_of v)
arrays_behind c name v = ap length (shapes_push c.names.globals name v) ∙ length-append (shapes_in c.names.globals) (shapes_of v)

module _ (S : Source) (rows : List CallRow) (last : Used) where
  -- The variables so far are among those of the program.
  pub record Within (c : Scope) : Type 0 where
    pub variables : variables_in c ≤ S.scalars
    pub arrays : arrays_in c ≤ length S.arrays

  -- What declarations add to a file.
  pub record Adds (c d : Scope) (s t : Used) (z : Parts) : Type 0 where
    pub grows : Grows rows s t
    pub variables : variables_in d ≡ variables_in c + length z.scalars
    pub arrays : arrays_in d ≡ arrays_in c + length z.arrays
    pub functions : d.names.functions ≡ c.names.functions
    pub knows : Knows S c.names → Within d → Knows S d.names
    pub sound : Knows S c.names → Within d → Ends S rows last → Grows rows t last → Every (λ g. SoundFun S (fun_of g)) z.functions
    pub frames : Every (λ g. g.frame ≡ frame_of g) z.functions
    pub small : Every (λ g. g.frame ≤ 1048576) z.functions
    pub bytes : Every HasAll z.arrays

  adds_none : (c : Scope) (s : Used) → Adds c c s s nothing
  adds_none c s = record {
    grows = same rows s;
    variables = omega arith;
    arrays = omega arith;
    functions = refl;
    knows = λ k r. k;
    sound = λ k r l e. tt;
    frames = tt;
    small = tt;
    bytes = tt;
  }

  adds_both : {c d e : Scope} {s t u : Used} {y z : Parts} → Adds c d s t y → Adds d e t u z → Adds c e s u (with_parts y z)
  adds_both {c} {d} {e} {s} {t} {u} {y} {z} a b =
      let back : Within e → Within d = λ r. record { variables = omega (arith, b.variables, r.variables); arrays = omega (arith, b.arrays, r.arrays) } in
      record {
        grows = both rows a.grows b.grows;
        variables = omega (arith, a.variables, b.variables, length-append y.scalars z.scalars);
        arrays = omega (arith, a.arrays, b.arrays, length-append y.arrays z.arrays);
        functions = b.functions ∙ a.functions;
        knows = λ k r. b.knows (a.knows k (back r)) r;
        sound = λ k r l f. every_both _ y.functions z.functions (a.sound k (back r) l (both rows b.grows f)) (b.sound (a.knows k (back r)) r l f);
        frames = every_both _ y.functions z.functions a.frames b.frames;
        small = every_both _ y.functions z.functions a.small b.small;
        bytes = every_both _ y.arrays z.arrays a.bytes b.bytes;
      }

  knows_behind : (c : Scope) (name : List ℕ) (v : Variable) → Knows S c.names → ((z : Stage) → IsVariable S z v) → Knows S (behind c name v).names
  knows_behind c name v k h = record { globals = λ z. each_push (λ name v. IsVariable S z v) c.names.globals name v (k.globals z) (h z); functions = k.functions }

  adds_scalar : (c : Scope) (x : External) (w : Scalar) (n : ℕ) (s : Used) → Adds c (behind_scalar c x.name w) s s (typed.only_scalar w n)
  adds_scalar c x w n s =
      let v = variable.Scalar (cell.Global (variables_in c)) (record { scalar = w; constant = false }) in
      record {
        grows = same rows s;
        variables = variables_behind c x.name v;
        arrays = arrays_behind c x.name v;
        functions = refl;
        knows = λ k r. knows_behind c x.name v k (λ z. omega (arith, variables_behind c x.name v, r.variables));
        sound = λ k r l e. tt;
        frames = tt;
        small = tt;
        bytes = tt;
      }

  adds_array : (c : Scope) (x : External) (q : Shape) (i : Option Initialiser) (s : Used) → fits q i ≡ true → Adds c (behind_array c x.name q) s s (typed.only_array q i)
  adds_array c x q i s h =
      let v = variable.Array (array.Global (arrays_in c)) q in
      record {
        grows = same rows s;
        variables = variables_behind c x.name v;
        arrays = arrays_behind c x.name v;
        functions = refl;
        knows = λ k r. knows_behind c x.name v k (λ z. omega (arith, arrays_behind c x.name v, r.arrays));
        sound = λ k r l e. tt;
        frames = tt;
        small = tt;
        bytes = (filled_length (bytes_of q) (contents q.element i) (given_short q.element q.count i h), tt);
      }

  function_frame : (names : Names) {b : Bool} {ps : List Param} {f : Body} {s t : Used} {g : CheckedFunction} → IsFunction rows names b ps f s g t → g.frame ≡ frame_of g
  function_frame names (typed_body.Definition p d initials body s t u a ds h l) = refl

  not_large : (n : ℕ) → nat_lt 1048576 n ≡ false → n ≤ 1048576
  not_large n h = grind (arith, nat_tests)

  function_small : (names : Names) {b : Bool} {ps : List Param} {f : Body} {s t : Used} {g : CheckedFunction} → IsFunction rows names b ps f s g t → g.frame ≤ 1048576
  function_small names (typed_body.Definition p d initials body s t u a ds h l) = not_large (typed_body.typed_function p d initials body).frame l

  external_adds : {c d : Scope} {x : External} {s t : Used} {y : Parts} → IsExternal rows c x s y d t → Adds c d s t y
  external_adds (typed.PlainScalar c x w s r a b k l) = adds_scalar c x w 0 s
  external_adds (typed.ValuedScalar c x w n s r a b k l) = adds_scalar c x w _ s
  external_adds (typed.ArrayOf c x w n i s r a b k h l m) = adds_array c x (shape_of w n) i s h
  external_adds (typed.Prototype c x ps d s r a b k l) = adds_none c s
  external_adds (typed.Definition c x ps f g s t r a b m k l h) = record {
    grows = function_grows S rows last c.names h;
    variables = omega arith;
    arrays = omega arith;
    functions = refl;
    knows = λ k r. record { globals = k.globals; functions = k.functions };
    sound = λ k r l e. (function_sound S rows last c.names h k l e, tt);
    frames = (function_frame c.names h, tt);
    small = (function_small c.names h, tt);
    bytes = tt;
  }

  pub externals_add : {c d : Scope} {xs : List External} {s t : Used} {z : Parts} → AreExternals rows c xs s z d t → Adds c d s t z
  externals_add (typed.NoExternals c s) = adds_none c s
  externals_add (typed.MoreExternals c d e x xs s t u y z h g) = adds_both (external_adds h) (externals_add g)

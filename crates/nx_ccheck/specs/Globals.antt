-- Variables of a file (C11 6.7.9, 6.9.2), after some of its declarations.
use Rattle.std.specs.Prelude.{ℕ, suc, ◌+◌, ◌-◌, ◌*◌, ◌/◌, ◌%◌, Bool, true, false, ◌&&◌, ◌||◌, not, nat_lt, List, [], ◌∷◌, ◌++◌, length, replicate, Option, None, Some, Result, Ok, is_some}
use Rattle.std.specs.List.{list_any}
use Rattle.std.specs.Map.{lookup}
use Rattle.std.specs.Str.{bytes_eq}
use Rattle.indexmap.specs.IndexMap.{insert_entry}
use Rattle.nx_base.specs.ByteLists.{to_le}
use Rattle.nx_ctok.specs.declared.fault.CFault.{CFault}
use Rattle.nx_ctree.specs.declared.program.TypeWord.{TypeWord}
use Rattle.nx_ctree.specs.declared.program.TypeWord.TheVariants as word
use Rattle.nx_ctree.specs.declared.program.Constant.{Constant}
use Rattle.nx_ctree.specs.declared.program.Initialiser.{Initialiser}
use Rattle.nx_ctree.specs.declared.program.Initialiser.TheVariants as init
use Rattle.nx_ctree.specs.declared.program.External.{External}
use Rattle.nx_checked.specs.declared.checked.Element.{Element}
use Rattle.nx_checked.specs.declared.checked.Element.TheVariants as element
use Rattle.nx_checked.specs.declared.checked.Scalar.{Scalar}
use Rattle.nx_checked.specs.declared.checked.Scalar.TheVariants as scalar
use Rattle.nx_checked.specs.declared.checked.Shape.{Shape}
use Rattle.nx_checked.specs.declared.checked.GlobalScalar.{GlobalScalar}
use Rattle.nx_checked.specs.declared.checked.GlobalArray.{GlobalArray}
use Rattle.nx_checked.specs.declared.checked.Cell.TheVariants as cell
use Rattle.nx_checked.specs.declared.checked.ArrayName.TheVariants as array
use Rattle.nx_checked.specs.Frames.{bytes_of}
use Rattle.nx_ctype.specs.declared.names.Names.{Names}
use Rattle.nx_ctype.specs.declared.names.Variable.{Variable}
use Rattle.nx_ctype.specs.declared.names.Variable.TheVariants as variable
use Rattle.nx_ccheck.specs.declared.known.Known.{Known}
use Rattle.nx_cbody.specs.Declarations.{constant_of, is_length, is_long, first_of, unless}

-- Variables and functions of a file have different names.
abbrev pub is_taken : Known → List ℕ → Bool
is_taken k name = is_some (lookup (bytes_eq name) k.names.globals) || list_any (bytes_eq name) k.defined

-- The variables of a file take at most 1,048,576 bytes, 4 for each that is no array.
abbrev pub is_full : Known → ℕ → Bool
is_full k n = nat_lt 1048576 (k.bytes + n)

abbrev pub with_global : Names → List ℕ → Variable → Names
with_global names name v = record names { globals = insert_entry bytes_eq names.globals name v }

-- What a variable that is no array holds.
abbrev pub scalar_of : TypeWord → Option Scalar
scalar_of word.Int = Some scalar.Int
scalar_of word.Char = Some scalar.Char
scalar_of word.Void = None

-- A char keeps the low 8 bits of its first value.
abbrev pub first_value : Scalar → ℕ → ℕ
first_value scalar.Char n = n % 256
first_value _ n = n

abbrev pub global_scalar : Scalar → ℕ → GlobalScalar
global_scalar w n = record { scalar = w; value = first_value w n }

abbrev pub with_scalar : Known → List ℕ → Scalar → ℕ → Known
with_scalar k name w n = record k {
  names = with_global k.names name (variable.Scalar (cell.Global (length k.scalars)) (record { scalar = w; constant = false }));
  scalars = k.scalars ++ global_scalar w n ∷ [];
  bytes = k.bytes + 4;
}

abbrev pub scalar_verdict : Known → External → Option Scalar → ℕ → Result Known CFault
scalar_verdict k x None n = unless (first_of (is_taken k x.name) true false) x.line (Ok k)
scalar_verdict k x (Some w) n = unless (first_of (is_taken k x.name) false (is_long x.name || is_full k 4)) x.line (Ok (with_scalar k x.name w n))

-- What an array's elements are.
abbrev pub element_of : TypeWord → Option Element
element_of word.Int = Some element.Int
element_of word.Char = Some element.Char
element_of word.Void = None

abbrev pub element_bytes : Element → ℕ → List ℕ
element_bytes element.Int n = to_le 4 n
element_bytes element.Char n = n % 256 ∷ []

abbrev pub elements_bytes : Element → List Constant → List ℕ
elements_bytes w [] = []
elements_bytes w (c ∷ cs) = element_bytes w (constant_of c.kind) ++ elements_bytes w cs

-- A text is for chars alone, and at most as long as its array; there are no more constants than elements.
abbrev pub is_text_for : Element → Bool
is_text_for element.Char = true
is_text_for element.Int = false

abbrev pub fits : Shape → Option Initialiser → Bool
fits z None = true
fits z (Some (init.Text t)) = is_text_for z.element && nat_lt (length t) (suc z.count)
fits z (Some (init.Listed cs)) = nat_lt (length cs) (suc z.count)

abbrev pub contents : Element → Option Initialiser → List ℕ
contents w None = []
contents w (Some (init.Text t)) = t
contents w (Some (init.Listed cs)) = elements_bytes w cs

-- What isn't given is zero.
abbrev pub filled : ℕ → List ℕ → List ℕ
filled n bs = bs ++ replicate (n - length bs) 0

abbrev pub rounded : ℕ → ℕ
rounded n = 4 * ((n + 3) / 4)

abbrev pub global_array : Shape → Option Initialiser → GlobalArray
global_array z i = record { shape = z; bytes = filled (bytes_of z) (contents z.element i) }

abbrev pub with_array : Known → List ℕ → Shape → Option Initialiser → Known
with_array k name z i = record k {
  names = with_global k.names name (variable.Array (array.Global (length k.arrays)) z);
  arrays = k.arrays ++ global_array z i ∷ [];
  bytes = k.bytes + rounded (bytes_of z);
}

abbrev pub shape_of : Element → Constant → Shape
shape_of w c = record { element = w; count = constant_of c.kind }

abbrev pub shape_verdict : Known → External → Shape → Option Initialiser → Result Known CFault
shape_verdict k x z i =
    unless (first_of (is_taken k x.name) (not (is_length z.count && fits z i)) (is_long x.name || is_full k (rounded (bytes_of z)))) x.line (Ok (with_array k x.name z i))

abbrev pub array_verdict : Known → External → Option Element → Constant → Option Initialiser → Result Known CFault
array_verdict k x None c i = unless (first_of (is_taken k x.name) true false) x.line (Ok k)
array_verdict k x (Some w) c i = shape_verdict k x (shape_of w c) i

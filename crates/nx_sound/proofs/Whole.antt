-- A well-typed file is sound, and its slot code keeps it.
use Rattle.std.proofs.Common.{◌≡◌, ℕ, zero, suc, ◌<◌, ◌≤◌, List, [], ◌∷◌, length, map, get_or, Some, refl, sym, ap, ◌∙◌, arith}
use Rattle.std.proofs.lemmas.List.{length-map}
use Rattle.std.specs.Prelude.{codes}
use Rattle.std.specs.Map.{lookup}
use Rattle.std.specs.Str.{bytes_eq}
use Rattle.nx_calls.specs.declared.row.CallRow.{CallRow}
use Rattle.nx_calls.specs.Table.{AreRows}
use Rattle.nx_ctree.specs.declared.program.Unit.{Unit as File}
use Rattle.nx_checked.specs.declared.checked.Checked.{Checked}
use Rattle.nx_checked.specs.declared.checked.CheckedFunction.{CheckedFunction}
use Rattle.nx_checked.specs.Frames.{frame_of}
use Rattle.nx_checked.specs.Trees.{Fun, fun_of}
use Rattle.nx_crules.specs.declared.types.Function.{Function}
use Rattle.nx_ctype.specs.declared.used.Used.{Used}
use Rattle.nx_ccheck.specs.Defined.{functions_from}
use Rattle.nx_ccheck.specs.Files.{program_with}
use Rattle.nx_ccheck.specs.Scopes.{Scope, whole}
use Rattle.nx_ccheck.specs.TypedFiles as typed
use Rattle.nx_ccheck.specs.TypedFiles.{Parts, AreExternals, IsFile}
use Rattle.nx_cmean.specs.Meaning.{no_fun}
use Rattle.nx_lower.specs.Code.{Source}
use Rattle.nx_lower.specs.Sound.{SoundFun}
use Rattle.nx_lower.proofs.Kept.{lowers_programs}
use Rattle.nx_lowerexpr.specs.Sources.{source_of, shape_of}
use Rattle.nx_sound.specs.Tables.{table_rows, HasFewParameters}
use Rattle.nx_sound.specs.Laws.{IsSound, WellTypedFilesAreSound, WellTypedFilesAreKept}
use Rattle.nx_sound.proofs.Entries.{Each, found}
use Rattle.nx_sound.proofs.Every.{Every, all_of}
use Rattle.nx_sound.proofs.Growth.{same}
use Rattle.nx_sound.proofs.Scopes.{Ends, IsKnown}
use Rattle.nx_sound.proofs.Functions.{Knows}
use Rattle.nx_sound.proofs.Naming.{IsNamed, named}
use Rattle.nx_sound.proofs.Files.{Within, HasAll, externals_add}
use Rattle.nx_sound.proofs.Calls.{call_there, used, entry_kinds, sound_call}

known : (S : Source) (fs : List CheckedFunction) (es : List (List ℕ × Function)) → S.program.functions ≡ map fun_of fs → Each (IsNamed fs) es → Each (λ name f. IsKnown S f) es
known S fs [] e h = tt
known S fs (x ∷ es) e h = (
  record {
    place = omega (arith, h.0.place, length-map fs fun_of, ap (λ (l : List Fun). length l) e);
    params = h.0.params ∙ sym (ap (λ (l : List Fun). length (get_or l x.1.place no_fun).params) e);
  },
  known S fs es e h.1,
)

fun_sound : (S : Source) (fs : List CheckedFunction) → Every (λ g. SoundFun S (fun_of g)) fs → (f : ℕ) → f < length (map fun_of fs) → SoundFun S (get_or (map fun_of fs) f no_fun)
fun_sound S [] h f e = absurd (omega (arith, e))
fun_sound S (g ∷ fs) h zero e = h.0
fun_sound S (g ∷ fs) h (suc f) e = fun_sound S fs h.1 f (omega (arith, e))

module _ (table : List CallRow) (w : AreRows table) (few : HasFewParameters table) (file : File) where
  sound_by : (c : Scope) (t : Used) (z : Parts) (f : Function) → AreExternals table (whole file.externals) file.externals (record { texts = []; calls = [] }) z c t → lookup (bytes_eq (codes "main")) c.names.functions ≡ Some f → IsSound table (program_with table z.functions z.scalars z.arrays t f)
  sound_by c t z f h m =
      let p = program_with table z.functions z.scalars z.arrays t f in
      let S = source_of p in
      let a = externals_add S table t h in
      let names : Each (IsNamed z.functions) (functions_from 0 [] file.externals) = named table z.functions h 0 [] [] refl refl tt in
      let knows : Knows S (whole file.externals).names = record { globals = λ z. tt; functions = known S z.functions (functions_from 0 [] file.externals) refl names } in
      let within : Within S table t c = record { variables = omega (arith, a.variables); arrays = omega (arith, a.arrays, length-map z.arrays shape_of) } in
      let ends : Ends S table t = record {
        texts = omega (arith, length-map t.texts length);
        calls = λ k i row g r. call_there table t.calls (a.grows.there (λ k i e. absurd cc)) k i row g r;
        entries = λ i row r e. entry_kinds table w i row r e;
      } in
      let main = found (IsNamed z.functions) (codes "main") (functions_from 0 [] file.externals) f (ap (λ es. lookup (bytes_eq (codes "main")) es) (sym a.functions) ∙ m) names in
      let none = main.holds.main main.same in
      record {
        sound = record {
          functions = fun_sound S z.functions (a.sound knows within ends (same table t));
          calls = λ k u e. sound_call table w few u (used table t.calls k u e);
        };
        main = main.holds.place;
        no_parameters = sym main.holds.params ∙ none;
        frames = all_of (λ g. g.frame ≡ frame_of g) z.functions a.frames;
        small = all_of (λ g. g.frame ≤ 1048576) z.functions a.small;
        bytes = all_of HasAll z.arrays a.bytes;
      }

  sound_file : (p : Checked) → IsFile table file p → IsSound table p
  sound_file p (typed.Program c t z f h m) = sound_by c t z f h m

pub files_sound : WellTypedFilesAreSound
files_sound table file p w few h = sound_file table w few file p h

pub files_kept : WellTypedFilesAreKept
files_kept table file p stack w few h =
    let s = files_sound table file p w few h in
    lowers_programs (source_of p) (table_rows table) p.main stack s.sound (omega (arith, s.main, length-map p.functions fun_of)) s.no_parameters

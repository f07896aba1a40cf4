-- A function's frame holds its cells and arrays.
use Rattle.std.proofs.Common.{◌≡◌, ℕ, ◌+◌, ◌*◌, ◌/◌, ◌%◌, ◌≤◌, max, List, [], ◌∷◌, length, map, ◌∙◌, arith}
use Rattle.nx_checked.specs.declared.checked.Shape.{Shape}
use Rattle.nx_checked.specs.declared.checked.CheckedFunction.{CheckedFunction}
use Rattle.nx_checked.specs.Frames.{bytes_of, array_bytes, all_initials, all_values}
use Rattle.nx_checked.specs.Trees.{fun_of}
use Rattle.nx_codegen.specs.Frames.{rounded, array_from, words_end}
use Rattle.nx_lower.specs.Code.{Source}
use Rattle.nx_lower.specs.Bodies.{array_of, fun_temps, lower_fun}
use Rattle.nx_framed.specs.Laws.{HoldsItsCells, FramesHoldTheirCells}
use Rattle.nx_framed.proofs.Values.{initials_same, body_same}

arrays_end : (arrays : List Shape) (here : ℕ) → array_from (map array_of arrays) here (length (map array_of arrays)) ≡ here + array_bytes arrays
unfolding rounded
arrays_end [] here = omega arith
arrays_end (a ∷ arrays) here = arrays_end arrays (here + (bytes_of a + 3) / 4 * 4) ∙ sums (bytes_of a) (array_bytes arrays)
  where
    sums : (n m : ℕ) → here + (n + 3) / 4 * 4 + m ≡ here + (4 * ((n + 3) / 4) + m)
    sums n m = omega arith

enough : (n a : ℕ) → 4 * (1 + n) + a ≤ 16 * ((16 + 4 * n + a + 15) / 16)
enough n a = omega arith

whole_lines : (n : ℕ) → (16 * n) % 16 ≡ 0
whole_lines n = omega arith

frame_holds : (s : Source) (f : CheckedFunction) → HoldsItsCells (lower_fun s (fun_of f))
unfolding words_end
frame_holds s f =
    let params = length f.params in let locals = length f.locals in
    let values = max (all_initials f.initials) (all_values f.body) in
    let temporaries = fun_temps (fun_of f) in
    let same : temporaries ≡ values = omega (arith, initials_same f.initials, body_same f.body) in
    let arrays = arrays_end f.arrays (4 * (1 + temporaries + (params + locals))) in
    let held = enough (params + locals + values) (array_bytes f.arrays) in
    record {
      aligned = whole_lines ((16 + 4 * (params + locals + values) + array_bytes f.arrays + 15) / 16);
      holds = omega (arith, arrays, held, same);
    }

pub frames_hold : FramesHoldTheirCells
frames_hold s f = frame_holds s f

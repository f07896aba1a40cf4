use Rattle.std.proofs.Common.{◌≡◌, ℕ, ◌≤◌, List, length, ap, ◌∙◌, arith}
use Rattle.nx_top.specs.first.Layout.{text_start, data_start}
use Rattle.nx_top.specs.first.Program.{Program}
use Rattle.nx_top.specs.first.Compiled.{text_of}
use Rattle.nx_top.specs.first.IsCompiled.{FitsText}
use Rattle.nx_top.proofs.first_path.Sizes.{length_text}
use Rattle.nx_top.proofs.first_path.BuildLemmas.{main_inside}
use Rattle.nx_top.proofs.first.build.build.Goals as goal

program : List (List ℕ) → ℕ → Program
program strings status = record { writes = strings; status = status }

length_of : (strings : List (List ℕ)) (status : ℕ) (text : List ℕ) → FitsText (program strings status) → text ≡ text_of (program strings status) → length text ≤ 8192
length_of strings status text f e = let n = length_text (program strings status) f in rw e n

pub overflow_cast-len : goal.overflow_cast-len
unfolding program
overflow_cast-len c =
    let n = length_of c.args.strings.now c.args.status c.in_ok-text.text (record { few = c.requires.few; short = c.requires.short; status = omega (arith, c.ranges.status.fits) }) c.in_ok-text.ensures in
    omega (arith, c.len.ensures)

pub data_start-data_at-requires : goal.data_start-data_at-requires
unfolding program
data_start-data_at-requires c =
    let n = length_of c.args.strings.now c.args.status c.in_ok-text.text (record { few = c.requires.few; short = c.requires.short; status = omega (arith, c.ranges.status.fits) }) c.in_ok-text.ensures in
    omega (arith, c.len.ensures)

pub returns-clause-laid_out : goal.returns-clause-laid_out
returns-clause-laid_out c =
    let p : Program = record { writes = c.args.strings.now; status = c.args.status } in
    let main = c.main_at.ensures.value c.args.status in
    let bounds = c.main_at.ensures.bounds in
    let inside = main_inside p in
    let text = ap length c.in_ok-text.ensures in
    record {
      name_is = c.in_ok-name.ensures;
      text_at = λ i. text_start;
      main_from = omega (arith, bounds);
      main_to = omega (arith, main, inside, text);
      data_at = c.data_start-data_at.ensures.value ∙ ap data_start c.len.ensures;
      no_data = c.new.ensures;
    }

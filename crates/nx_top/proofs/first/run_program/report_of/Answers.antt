use Rattle.std.proofs.Common.{◌≡◌, ℕ, ◌+◌, ◌*◌, List, [], ◌∷◌, length, refl, ap, subst, ◌∙◌, arith}
use Rattle.std.specs.Prelude.{codes}
use Rattle.nx_base.specs.declared.build.Build.TheVariants.{Flat}
use Rattle.nx_gate.specs.declared.gate.Gate.{Gate}
use Rattle.nx_ram.specs.declared.prog_image.ProgImage.{ProgImage}
use Rattle.nx_top.specs.declared.report.EndedGroup.{EndedGroup}
use Rattle.nx_top.specs.Image.{bytes_of_image}
use Rattle.nx_top.specs.first.Layout.{ram_bytes}
use Rattle.nx_top.specs.first.Program.{Program}
use Rattle.nx_top.specs.first.IsCompiled.{FitsText, IsCompiled}
use Rattle.nx_top.proofs.first_path.KeepsProgram.{keeps}
use Rattle.nx_top.proofs.first.run_program.report_of.Goals as goal

abbrev of : List (List ℕ) → ℕ → Program
of writes status = record { writes = writes; status = status }

one_program : (p : Program) (writes : List (List ℕ)) (status : ℕ) → writes ≡ p.writes → status ≡ p.status → of writes status ≡ p
one_program p writes status e f = ap (λ (x : List (List ℕ)). of x status) e ∙ ap (λ (x : ℕ). of p.writes x) f

abbrev both_ended : List ℕ → ℕ → List EndedGroup
both_ended name status = record { number = 2; name = name; status = status } ∷ record { number = 1; name = codes "nsh"; status = status } ∷ []

image_of : (gates others : List Gate) (programs images : List ProgImage) → gates ≡ others → programs ≡ images → bytes_of_image Flat ram_bytes gates programs ≡ bytes_of_image Flat ram_bytes others images
image_of gates others programs images e f = ap (λ (x : List Gate). bytes_of_image Flat ram_bytes x programs) e ∙ ap (λ (x : List ProgImage). bytes_of_image Flat ram_bytes others x) f

pub returns : goal.returns
returns c =
    let p : Program = c.args.program.now in
    let image = c.in_ok-image.image in
    let fits : FitsText p = record { few = c.requires.few; short = c.requires.short; status = omega (arith, c.status.ensures) } in
    let compiled = subst (λ (q : Program). IsCompiled image q) (one_program p c.writes.result.now c.status.result c.writes.ensures c.status.ensures) c.in_ok-image.ensures.compiled in
    let run = c.in_ok-run.ensures p fits compiled in
    record {
      image = image;
      laid_out = c.in_ok-image.ensures.laid_out;
      gates = c.in_ok-gates.gates;
      read = c.in_ok-gates.ensures.read;
      built = refl;
      unshown = refl;
      bytes = c.bytes.view_is ∙ c.in_ok-bytes.ensures ∙ image_of c.as_slice-2.result.now c.in_ok-gates.gates c.from_ref.result.now (image ∷ []) c.as_slice-2.ensures.value c.from_ref.ensures.value;
      made = 6 + 11 * length p.writes;
      keeps = keeps p image fits compiled;
      ram = run.ram;
      booted = run.booted;
      console = run.console;
      stopped = refl;
      calls = omega (arith, run.writes);
      instructions = omega (arith, run.instructions);
      groups = c.in_ok-ended_groups.ensures ∙ ap (both_ended c.args.name.now) run.status;
    }

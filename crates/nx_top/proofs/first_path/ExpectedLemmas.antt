-- A booted image follows the expected run of its program. nx_system will take its place.
use Rattle.std.proofs.Common.{◌≡◌, ℕ, ◌+◌, ◌-◌, ◌*◌, ◌^◌, ◌≤◌, true, false, List, [], ◌∷◌, length, take, drop, Ok, Some, Option, refl, sym, ap, ◌∙◌, subst, arith}
use Rattle.std.specs.Prelude.{slice_index}
use Rattle.std.proofs.lemmas.Bool.Decides.{nat_tests}
use Rattle.nx_base.specs.ByteLists.{get_bytes, from_le}
use Rattle.nx_base.specs.declared.regs.Regs.{Regs}
use Rattle.nx_base.specs.Views.{Window, View, holds, find_bytes, load_bytes}
use Rattle.nx_ram.specs.declared.prog_image.ProgImage.{ProgImage}
use Rattle.nx_space.proofs.Bytes.{get_in_part}
use Rattle.nx_top.specs.first.Layout.{ram_start}
use Rattle.nx_top.specs.first.Program.{Program}
use Rattle.nx_top.specs.first.IsCompiled.{FitsText, IsCompiled}
use Rattle.nx_top.specs.first.BootedRuns.{flat_view, IsBooted, StandsAt, StandAt, start_regs}
use Rattle.nx_top.specs.first.ReportOf.{IsRunOf}
use Rattle.nx_top.specs.declared.first.guest.GuestRun.{GuestRun}
use Rattle.nx_top.specs.first.ExpectedRuns.{ExpectedRun, LiesAt, LieAt, IsExpectedFrom, RanAs}
use Rattle.nx_top.proofs.first_path.Parts.{get_bytes_is}
use Rattle.nx_top.proofs.first_path.KeepsProgram.{keeps}
use Rattle.nx_top.proofs.first_path.Sizes.{length_text}

-- a byte of the RAM
pub load_flat : (ram : List ℕ) (at k : ℕ) → at ≡ ram_start + k → k + 1 ≤ length ram → load_bytes (flat_view ram) at 1 ≡ Ok (slice_index ram k)
unfolding load_bytes find_bytes holds get_bytes from_le
load_flat ram at k e h =
    let window : Window = record { start = ram_start; reads = true; writes = true; runs = true; region = false; bytes = ram } in
    let there : holds window at 1 ≡ true = grind (arith, nat_tests) in
    let q : at - ram_start ≡ k = omega arith in
    let one : slice_index ram k + 256 * 0 ≡ slice_index ram k = omega arith in
    rw there (ap (λ n. Ok (slice_index ram n + 256 * 0)) q ∙ ap Ok one)

-- bytes of the RAM lie in its view
pub lies_flat : (ram string : List ℕ) (at k : ℕ) → at ≡ ram_start + k → k + length string ≤ length ram → get_bytes ram k (length string) ≡ string → LiesAt (flat_view ram) string at
unfolding get_bytes
lies_flat ram [] at k e h g = tt
lies_flat ram (b ∷ bs) at k e h g =
    let byte : slice_index ram k ≡ b = cc in
    let rest : get_bytes ram (k + 1) (length bs) ≡ bs = cc in
    (load_flat ram at k e (omega arith) ∙ ap Ok byte, lies_flat ram bs (at + 1) (k + 1) (omega arith) (omega arith) rest)

-- what stands in the text lies in the view of the RAM
pub lies_at : (image : ProgImage) (ram string : List ℕ) (at : ℕ) → IsBooted image ram → StandsAt image string at → (at + length string ≤ 2 ^ 32) × LiesAt (flat_view ram) string at
lies_at image ram string at b s =
    let k = image.text_at - ram_start in
    let j = at - image.text_at in
    let n = length string in
    let size = length image.text in
    let within : j + n ≤ size = omega (arith, s.from, s.to) in
    let part : take size (drop k ram) ≡ image.text = sym (get_bytes_is ram k size b.to) ∙ b.text in
    let bytes : get_bytes ram (k + j) n ≡ string = sym (get_in_part ram k size j (k + j) n refl within) ∙ ap (λ l. get_bytes l j n) part ∙ s.bytes in (
      omega (arith, b.from, b.to, b.whole, s.from, s.to),
      lies_flat ram string at (k + j) (omega (arith, b.from, s.from)) (omega (arith, b.to)) bytes,
    )

-- so does each string
pub lie_at : (image : ProgImage) (ram : List ℕ) (strings : List (List ℕ)) (places : List ℕ) → IsBooted image ram → StandAt image strings places → LieAt (flat_view ram) strings places
lie_at image ram [] [] b s = tt
lie_at image ram (string ∷ strings) (at ∷ places) b s =
    let first = lies_at image ram string at b s.0 in
    (first.0, first.1, lie_at image ram strings places b s.1)
lie_at image ram [] (at ∷ places) b s = s
lie_at image ram (string ∷ strings) [] b s = s

-- the expected run of a program that is kept
abbrev pub expected_of : Program → List ℕ → ExpectedRun
expected_of p places = record { strings = p.writes; places = places; status = p.status; instructions = 6 + 11 * length p.writes }

-- the words of a booted program follow its expected run
pub planned : (p : Program) (image : ProgImage) (ram : List ℕ) (f : FitsText p) (c : IsCompiled image p) → IsBooted image ram → IsExpectedFrom (expected_of p (keeps p image f c).places) (start_regs image) (flat_view ram)
planned p image ram f c b =
    let k = keeps p image f c in
    record {
      within = record { fuel = omega (arith, f.few); small = f.status };
      makes = k.runs ram b;
      lie = lie_at image ram p.writes k.places b k.strings;
    }

-- so a run of whatever went by every expected run went by that of its program
pub ran_as_expected : (p : Program) (image : ProgImage) (ram : List ℕ) (f : FitsText p) (c : IsCompiled image p) (r : Regs) (v : View) (run : Option GuestRun) → IsBooted image ram → r ≡ start_regs image → v ≡ flat_view ram → ((expected_run : ExpectedRun) → IsExpectedFrom expected_run r v → RanAs expected_run run) → RanAs (expected_of p (keeps p image f c).places) run
ran_as_expected p image ram f c r v run b er ev went =
    let expected_run = expected_of p (keeps p image f c).places in
    let from_view : IsExpectedFrom expected_run (start_regs image) v = subst (λ (w : View). IsExpectedFrom expected_run (start_regs image) w) (sym ev) (planned p image ram f c b) in
    went expected_run (subst (λ (q : Regs). IsExpectedFrom expected_run q v) (sym er) from_view)

pub run_of : (p : Program) (image : ProgImage) (ram places : List ℕ) (run : GuestRun) → IsBooted image ram → RanAs (expected_of p places) (Some run) → IsRunOf image p run
run_of p image ram places run b done = record { ram = ram; booted = b; console = done.written; writes = done.counted; status = done.ended; instructions = done.made }

-- a compiled program fits its place
pub text_fits : (p : Program) (image : ProgImage) → FitsText p → IsCompiled image p → length image.text ≤ 8192
text_fits p image f c = let n = length_text p f in rw c.text n

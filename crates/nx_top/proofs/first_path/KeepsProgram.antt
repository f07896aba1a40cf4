-- The words of a compiled program keep it. nx_build will take its place.
use Rattle.std.proofs.Common.{◌≡◌, ℕ, ◌+◌, ◌*◌, ◌%◌, List, [], ◌∷◌, ◌++◌, length, replicate, refl, sym, ap, ◌∙◌, arith, append_assoc}
use Rattle.std.specs.Prelude.{pos, slice_index, slice_set}
use Rattle.std.proofs.lemmas.List.{length-append, length-set, get_or-set_same, get_or-set_other, length-replicate}
use Rattle.nx_base.specs.Registers.{reg}
use Rattle.nx_base.specs.Views.{View}
use Rattle.nx_rv.proofs.Turns.{AreHere, here_front, here_back, IsAt, one_went, plus_none}
use Rattle.nx_ram.specs.declared.prog_image.ProgImage.{ProgImage}
use Rattle.nx_top.specs.first.Layout.{text_start, stack_low, stack_high}
use Rattle.nx_top.specs.first.Program.{Program}
use Rattle.nx_top.specs.first.Compiled.{addi, stub, proxies, proxy_at, main_at, literals_at, writes_code, main_code, insts_of, code_bytes, literals, places_from}
use Rattle.nx_top.specs.first.BootedRuns.{flat_view, IsBooted, start_regs, Makes, calls_of, HasCode, Keeps}
use Rattle.nx_top.specs.first.IsCompiled.{FitsText, IsCompiled}
use Rattle.nx_top.proofs.first_path.Sizes.{main_small, literals_small, literals_after, text_aligned}
use Rattle.nx_top.proofs.first_path.Ranges.{insts_in_range}
use Rattle.nx_top.proofs.first_path.Places.{text_is, zeros_of, booted_here, has_code, stubs_split, stand_at}
use Rattle.nx_top.proofs.first_path.Writes.{main_of, end_code, makes_more, writes_made}

-- register 1 at the start
one_of_three : (xs : List ℕ) (a b c : ℕ) → length xs ≡ 32 → slice_index (slice_set (slice_set (slice_set xs 1 a) 2 b) 4 c) 1 ≡ a
one_of_three xs a b c h =
    get_or-set_other (slice_set (slice_set xs 1 a) 2 b) 4 1 c 0 (λ q. cc)
    ∙ get_or-set_other (slice_set xs 1 a) 2 1 b 0 (λ q. cc)
    ∙ get_or-set_same xs 1 a 0 (omega arith)

length_of_three : (xs : List ℕ) (a b c : ℕ) → length xs ≡ 32 → length (slice_set (slice_set (slice_set xs 1 a) 2 b) 4 c) ≡ 32
length_of_three xs a b c h = length-set (slice_set (slice_set xs 1 a) 2 b) 4 c ∙ length-set (slice_set xs 1 a) 2 b ∙ length-set xs 1 a ∙ h

start_one : (image : ProgImage) → reg (start_regs image) 1 ≡ image.end_group
unfolding reg start_regs
start_one image = one_of_three (replicate 32 0) image.end_group (stack_high (length image.text)) (stack_low (length image.text)) (length-replicate {A = ℕ} 32 0)

start_at : (image : ProgImage) (pc : ℕ) → image.main ≡ pc → pc % 4 ≡ 0 → IsAt (start_regs image) pc (reg (start_regs image))
unfolding start_regs
start_at image pc e a = record {
  pc_is = e;
  aligned = a;
  size = length_of_three (replicate 32 0) image.end_group (stack_high (length image.text)) (stack_low (length image.text)) (length-replicate {A = ℕ} 32 0);
  holds = λ k. refl;
}

-- the parts of the text
parts_here : (p : Program) (v : View) → AreHere v text_start (insts_of p) → AreHere v text_start (stub 1) × AreHere v proxy_at (proxies p.writes) × AreHere v (main_at p) (main_code p)
unfolding insts_of main_at stub
parts_here p v h =
    let stubs = stub 1 ++ stub 2 in
    let front = stubs ++ proxies p.writes in
    let f = here_front v text_start front (main_code p) h in
    let s = here_front v text_start stubs (proxies p.writes) f in (
      here_front v text_start (stub 1) (stub 2) s,
      here_back v text_start proxy_at stubs (proxies p.writes) refl f,
      here_back v text_start (main_at p) front (main_code p) (omega (arith, length-append stubs (proxies p.writes))) h,
    )

main_parts : (p : Program) (v : View) (pc : ℕ) → AreHere v pc (main_code p) → AreHere v pc (addi 8 1 (pos 0) ∷ (writes_code (main_at p + 4) (literals_at p) p.writes ++ end_code p.status))
unfolding main_code
main_parts p v pc h = h

runs : (p : Program) (image : ProgImage) (ram : List ℕ) → FitsText p → IsCompiled image p → IsBooted image ram → Makes (calls_of p.writes (places_from (literals_at p) p.writes) p.status) (start_regs image) (flat_view ram) (6 + 11 * length p.writes)
runs p image ram f c b =
    let v = flat_view ram in
    let m = main_small p in
    let l = literals_small p f in
    let few = f.few in
    let parts = parts_here p v (booted_here p image ram c (insts_in_range p f) b) in
    let main = main_parts p v (main_at p) parts.2 in
    let r = start_regs image in
    let a = one_went r v (main_at p) (reg r) (addi 8 1 (pos 0)) (omega arith) main.0 refl (start_at image (main_at p) c.main m.0) in
    let kept = plus_none (reg r 1) text_start (start_one image ∙ c.end_group) (omega arith) in
    let in_main = main_of a.regs (main_at p + 4) text_start _ a.is_at kept in
    let rest = writes_made p.writes (main_at p + 4) (literals_at p) text_start p.status (11 * length p.writes + 5) a.regs v refl (omega arith) (omega arith) refl (omega arith) f.status f.short in_main main.1 parts.1 parts.0 in
    makes_more p.writes (places_from (literals_at p) p.writes) p.status 1 (11 * length p.writes + 5) (6 + 11 * length p.writes) r v a.regs (omega arith) a.leads rest

first_stub : (p : Program) (image : ProgImage) → IsCompiled image p → HasCode image (stub 1) image.end_group
unfolding code_bytes
first_stub p image c =
    let rest = literals p.writes ++ zeros_of p in
    let main = code_bytes (proxies p.writes ++ main_code p) in
    let e : image.text ≡ code_bytes (stub 1) ++ ((code_bytes (stub 2) ++ main) ++ rest) =
    c.text ∙ text_is p ∙ ap (λ t. t ++ rest) (stubs_split p) ∙ append_assoc (code_bytes (stub 1)) (code_bytes (stub 2) ++ main) rest in
    has_code image [] (stub 1) ((code_bytes (stub 2) ++ main) ++ rest) image.end_group e (omega (arith, c.end_group, c.text_at))

second_stub : (p : Program) (image : ProgImage) → IsCompiled image p → HasCode image (stub 2) image.end_thread
unfolding stub
second_stub p image c =
    let rest = literals p.writes ++ zeros_of p in
    let main = code_bytes (proxies p.writes ++ main_code p) in
    let e : image.text ≡ code_bytes (stub 1) ++ (code_bytes (stub 2) ++ (main ++ rest)) =
    c.text ∙ text_is p ∙ ap (λ t. t ++ rest) (stubs_split p)
    ∙ append_assoc (code_bytes (stub 1)) (code_bytes (stub 2) ++ main) rest
    ∙ ap (λ t. code_bytes (stub 1) ++ t) (append_assoc (code_bytes (stub 2)) main rest) in
    has_code image (stub 1) (stub 2) (main ++ rest) image.end_thread e (omega (arith, c.end_thread, c.text_at))

pub keeps : (p : Program) (image : ProgImage) → FitsText p → IsCompiled image p → Keeps image p (6 + 11 * length p.writes)
keeps p image f c = record {
  first_stub = first_stub p image c;
  second_stub = second_stub p image c;
  aligned = ap (λ t. length t % 16) c.text ∙ text_aligned p;
  places = places_from (literals_at p) p.writes;
  strings = stand_at image p.writes (code_bytes (insts_of p)) (zeros_of p) (literals_at p) (c.text ∙ text_is p) (literals_after p ∙ ap (λ n. n + length (code_bytes (insts_of p))) (sym c.text_at));
  runs = λ ram b. runs p image ram f c b;
}

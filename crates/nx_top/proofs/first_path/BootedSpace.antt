-- A group that is started in a flat space over a booted RAM, and entered, sees a booted RAM. nx_load will take its place.
use Rattle.std.proofs.Common.{◌≡◌, ℕ, ◌+◌, ◌-◌, ◌*◌, ◌<◌, ◌≤◌, Bool, true, false, List, [], ◌∷◌, length, map, take, refl, sym, ap, ◌∙◌, subst, arith, inr, replicate}
use Rattle.std.specs.Prelude.{if◌then◌else◌, slice_index_or}
use Rattle.std.proofs.lemmas.List.{length-replicate}
use Rattle.std.proofs.Math.Nat.{mul-le-mul_right}
use Rattle.std.proofs.Math.Seq.{take-length}
use Rattle.nx_base.specs.ByteLists.{put_bytes}
use Rattle.nx_base.specs.Views.{Window, View}
use Rattle.nx_base.proofs.Puts.{length-put_bytes, put_bytes-none}
use Rattle.nx_ram.specs.declared.prog_image.ProgImage.{ProgImage}
use Rattle.nx_space.specs.World.{World, IsEntered, has_view, seen_by, view_in, window_of}
use Rattle.nx_space.specs.Lawful.{IsWorld}
use Rattle.nx_space.specs.Starts.{no_program, regs_with, started, but_outside}
use Rattle.nx_space.specs.Starts.{start_regs as space_regs}
use Rattle.nx_space.specs.Shared.{LieInRam, FitsRam, Sharing, shared_group, shared_plan, with_stack_zeroed, with_data_set, sharing_started}
use Rattle.nx_space.specs.Flat.{flat_part, flat_world, slot_inside}
use Rattle.nx_space.proofs.FlatLemmas.{flat_straight}
use Rattle.nx_space.proofs.Joins.{started_has_view}
use Rattle.nx_space.proofs.SharedAccesses.{entered_parts}
use Rattle.nx_space.proofs.SharedStarts.{shared_started}
use Rattle.nx_top.specs.first.Layout.{ram_start, ram_bytes, data_start, stack_bytes, stack_low, stack_high}
use Rattle.nx_top.specs.first.IsCompiled.{IsLaidOut}
use Rattle.nx_top.specs.first.BootedRuns.{flat_view, IsBooted, start_regs}
use Rattle.nx_top.proofs.first_path.BootLemmas.{booted_zeroed}

-- a program without data, whose slot's stack lies after its text
pub record HasRoom (image : ProgImage) (s : Sharing) (place slot : ℕ) : Type 0 where
  pub whole : s.size ≡ length s.ram
  pub fits : FitsRam s.size s.programs s.stacks_at s.stack s.threads
  pub there : place < length s.programs
  pub program : slice_index_or s.programs place no_program ≡ image
  pub no_data : image.init ≡ []
  pub within : slot < s.threads
  pub after : image.text_at + length image.text ≤ s.stacks_at + slot * s.stack

-- what a group of a flat space sees is the whole RAM
pub view_flat : (s : Sharing) → s.size ≡ length s.ram → IsEntered (flat_world s) → view_in (flat_world s) ≡ flat_view s.ram
view_flat s e h =
    let whole : take s.size s.ram ≡ s.ram = ap (λ n. take n s.ram) e ∙ take-length s.ram in
    let w = flat_world s in
    ap (λ ps. let v : View = record { windows = map (window_of (seen_by w w.entered)) ps; is_paged = false } in v) (entered_parts (flat_part s.size ∷ []) 0 s h)
    ∙ ap (λ bs. let w : Window = record { start = ram_start; reads = true; writes = true; runs = true; region = false; bytes = bs } in let v : View = record { windows = w ∷ []; is_paged = false } in v) whole

-- no data are set
no_data_set : (fresh : Bool) (image : ProgImage) (s : Sharing) (place slot : ℕ) → HasRoom image s place slot → (if fresh then with_data_set s s.ram place else s.ram) ≡ s.ram
no_data_set true image s place slot r =
    let p = slice_index_or s.programs place no_program in
    ap (put_bytes s.ram (p.data_at - ram_start)) (ap (λ (q : ProgImage). q.init) r.program ∙ r.no_data) ∙ put_bytes-none s.ram (p.data_at - ram_start)
no_data_set false image s place slot r = refl

-- a start in a flat space sets its stack to zeros
started_ram : (image : ProgImage) (s : Sharing) (number place slot : ℕ) (fresh : Bool) → HasRoom image s place slot → (sharing_started s number place slot fresh).ram ≡ with_stack_zeroed s s.ram slot
started_ram image s number place slot fresh r = ap (λ bs. with_stack_zeroed s bs slot) (no_data_set fresh image s place slot r)

-- what a start as a space promises it makes of a flat space
started_flat : (image : ProgImage) (s : Sharing) (number place slot : ℕ) (fresh : Bool) (w0 w1 : World) → HasRoom image s place slot → IsWorld w0 → w0 ≡ flat_world s → w1 ≡ but_outside (started w0 number place slot fresh) w1 → w1 ≡ flat_world (sharing_started s number place slot fresh)
started_flat image s number place slot fresh w0 w1 r lawful new start =
    let known : IsWorld (flat_world s) = subst IsWorld new lawful in
    start
    ∙ ap (λ w. but_outside (started w number place slot fresh) w1) new
    ∙ ap (λ w. but_outside w w1) (shared_started (flat_part s.size ∷ []) 0 s (s.ram ∷ []) number place slot fresh (flat_straight s.size) (known.shared refl) r.there r.within)

-- a start over a booted RAM leaves one
booted_stacked : (image : ProgImage) (s : Sharing) (place slot : ℕ) → IsBooted image s.ram → HasRoom image s place slot → IsBooted image (with_stack_zeroed s s.ram slot)
booted_stacked image s place slot b r =
    let low = slot_inside s.size s.stacks_at s.stack s.threads slot r.fits.stacks r.within in
    booted_zeroed image s.ram b (s.stacks_at + slot * s.stack - ram_start) s.stack (omega (arith, low.0, low.1, r.whole)) (inr (omega (arith, r.after, b.from)))

-- no byte of the RAM is lost
stacked_whole : (image : ProgImage) (s : Sharing) (place slot : ℕ) → HasRoom image s place slot → s.size ≡ length (with_stack_zeroed s s.ram slot)
stacked_whole image s place slot r =
    let low = slot_inside s.size s.stacks_at s.stack s.threads slot r.fits.stacks r.within in
    let l = length-replicate {A = ℕ} s.stack 0 in
    r.whole ∙ sym (length-put_bytes s.ram (s.stacks_at + slot * s.stack - ram_start) (replicate s.stack 0) (omega (arith, low.0, low.1, r.whole, l)))

-- a new space, a start in it, and the entry of the group: its view is that of a booted RAM
pub booted_space : (image : ProgImage) (s : Sharing) (number place slot : ℕ) (fresh : Bool) (w0 w1 w2 : World) → IsBooted image s.ram → HasRoom image s place slot → IsWorld w0 → w0 ≡ flat_world s → w1 ≡ but_outside (started w0 number place slot fresh) w1 → w2 ≡ record w1 { entered = number } → (ram : List ℕ) × IsBooted image ram × (view_in w2 ≡ flat_view ram) × IsEntered w2
booted_space image s number place slot fresh w0 w1 w2 b r lawful new start entry =
    let made = sharing_started s number place slot fresh in
    let is : w2 ≡ flat_world (record made { entered = number }) = entry ∙ ap (λ (w : World). record w { entered = number }) (started_flat image s number place slot fresh w0 w1 r lawful new start) in
    let there : has_view w1.groups number ≡ true = started_has_view w0 w1 number place slot fresh start in
    let entered : IsEntered w2 = ap (λ (w : World). has_view w.groups w.entered) entry ∙ there in
    let ram = started_ram image s number place slot fresh r in
    let whole : s.size ≡ length made.ram = stacked_whole image s place slot r ∙ ap length (sym ram) in (
      made.ram,
      subst (IsBooted image) (sym ram) (booted_stacked image s place slot b r),
      ap view_in is ∙ view_flat (record made { entered = number }) whole (subst IsEntered is entered),
      entered,
    )

-- no group has a view of a new space
pub none_yet : (s : Sharing) (number : ℕ) (w0 : World) → s.live ≡ [] → w0 ≡ flat_world s → has_view w0.groups number ≡ false
unfolding has_view
none_yet s number w0 none new = ap (λ (w : World). has_view w.groups number) new ∙ ap (λ lives. has_view (map (shared_group (flat_part s.size ∷ [])) lives) number) none

-- the registers that a start answers are those of the image
pub regs_booted : (image : ProgImage) (s : Sharing) (place slot : ℕ) → slice_index_or s.programs place no_program ≡ image → s.stacks_at + slot * s.stack ≡ stack_low (length image.text) → s.stack ≡ stack_bytes → space_regs (shared_plan (flat_part s.size ∷ []) 0 s) place slot ≡ start_regs image
unfolding space_regs start_regs
regs_booted image s place slot program low e =
    let from = s.stacks_at + slot * s.stack in
    let high : from + s.stack ≡ stack_high (length image.text) = omega (arith, low, e) in
    ap (λ (q : ProgImage). regs_with q.end_group from (from + s.stack) q.main) program
    ∙ ap (λ l. regs_with image.end_group l (from + s.stack) image.main) low
    ∙ ap (λ h. regs_with image.end_group (stack_low (length image.text)) h image.main) high

-- a program alone in the flat layout has room, where its stack is that of slot 1
pub room_alone : (image : ProgImage) (name : List ℕ) (s : Sharing) → IsLaidOut image name → length image.text ≤ 8192 → s.size ≡ ram_bytes → s.size ≡ length s.ram → s.programs ≡ image ∷ [] → s.stacks_at ≡ data_start (length image.text) → s.stack ≡ stack_bytes → 1 < s.threads → s.threads ≤ 16 → HasRoom image s 0 1
room_alone image name s laid short size whole one low e two few =
    let t = laid.text_at in
    let d = laid.data_at in
    let f = ap (λ (q : List ProgImage). length q) one in
    let p : slice_index_or s.programs 0 no_program ≡ image = ap (λ q. slice_index_or q 0 no_program) one in
    let none : length image.init ≡ 0 = ap length laid.no_data in
    let m : s.threads * s.stack ≤ 16 * s.stack = mul-le-mul_right {m = s.threads} {n = 16} s.stack few in
    record {
      whole = whole;
      fits = record {
        small = omega (arith, size);
        contents = λ i l.
            let z : i ≡ 0 = omega (arith, f, l) in
            let q : slice_index_or s.programs i no_program ≡ image = ap (λ j. slice_index_or s.programs j no_program) z ∙ p in
            subst (λ (r : ProgImage). LieInRam s.size r.data_at (length r.init)) (sym q) (omega (arith, size), omega (arith, size));
        stacks = (omega (arith, low), omega (arith, low, size, e, m));
      };
      there = omega (arith, f);
      program = p;
      no_data = laid.no_data;
      within = two;
      after = omega (arith, low, e);
    }

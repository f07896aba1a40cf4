-- The areas of an image, and the parts of programs in them.
use Rattle.std.proofs.Common.{◌≡◌, ℕ, ◌+◌, ◌*◌, ◌<◌, ◌≤◌, true, false, List, length, refl, sym, ap, ◌∙◌, subst, arith}
use Rattle.std.specs.Prelude.{slice_index_or}
use Rattle.std.specs.List.{All}
use Rattle.std.proofs.lemmas.List.{get_or-map, length-map}
use Rattle.nx_base.specs.declared.build.Build.{Build}
use Rattle.nx_base.specs.declared.build.Build.TheVariants.{Flat, Protected, Kernel}
use Rattle.nx_config.specs.declared.limits.Limits.{Limits}
use Rattle.nx_space.specs.Starts.{no_program}
use Rattle.nx_image.specs.declared.layout.Sizes.{Sizes}
use Rattle.nx_image.specs.declared.layout.Addresses.{Addresses}
use Rattle.nx_image.specs.Layout.{pool_bytes, texts, joint_need, most_frames, need_in, texts_at, data_at, stacks_at, in_turn, alike, addresses_in, addresses_of}
use Rattle.nx_image.specs.Image.{Contents, sizes_of, stands_at, all_sizes, IsProgram, IsImage}
use Rattle.nx_image.specs.Apart.{is_joint, stack_low, program_in}
use Rattle.nx_image.proofs.Sums.{pages_bound, up_bound, frames_among, IsInTurn, in_turn_at, IsBefore, in_order, IsWhole, in_turn_whole, alike_at}

pub no_sizes : Sizes
no_sizes = record { text = 0; init = 0 }

pub no_addresses : Addresses
no_addresses = record { text_at = 0; data_at = 0 }

-- the flat and the protected build
pub by_joint : (b : Build) (l : Limits) (ss : List Sizes) → is_joint b ≡ true → (addresses_in b l ss ≡ in_turn (texts_at l) (data_at l ss) ss) × (need_in b l ss ≡ joint_need l ss) × ((slot : ℕ) → stack_low b l ss slot ≡ stacks_at l ss + slot * l.stack)
by_joint Flat l ss h = (refl, refl, λ slot. refl)
by_joint Protected l ss h = (refl, refl, λ slot. refl)
by_joint Kernel l ss h = absurd cc

pub by_paged : (b : Build) (l : Limits) (ss : List Sizes) → is_joint b ≡ false → (addresses_in b l ss ≡ alike ss) × (need_in b l ss ≡ pool_bytes l + 4096 * most_frames l ss) × ((slot : ℕ) → stack_low b l ss slot ≡ 0x40000000 + slot * 0x200000)
by_paged Flat l ss h = absurd cc
by_paged Protected l ss h = absurd cc
by_paged Kernel l ss h = (refl, refl, λ slot. refl)

module _ (i : Contents) (h : IsImage i) where
  pub sizes_at : (k : ℕ) → k < length i.programs → slice_index_or (all_sizes i) k no_sizes ≡ sizes_of (program_in i k)
  sizes_at k l = get_or-map sizes_of i.programs k no_program no_sizes l

  pub counted : length (all_sizes i) ≡ length i.programs
  counted = length-map i.programs sizes_of

  pub stands : (k : ℕ) → k < length i.programs → stands_at (program_in i k) ≡ slice_index_or (addresses_of i.layout (all_sizes i)) k no_addresses
  stands k l = sym (get_or-map stands_at i.programs k no_program no_addresses l) ∙ ap (λ (xs : List Addresses). slice_index_or xs k no_addresses) h.stand

  pub program : (k : ℕ) → k < length i.programs → IsProgram (program_in i k)
  program k l = h.programs k no_program l

  pub all_whole : All (λ s. IsWhole s.text s.init) (all_sizes i)
  all_whole k d l =
      let m : k < length i.programs = let c = counted in omega (arith, c, l) in
      let p = h.programs k no_program m in
      subst (λ (s : Sizes). IsWhole s.text s.init) (sym (get_or-map sizes_of i.programs k no_program d m)) (record { first = p.text; second = p.init })

  -- the k-th program by addresses that are given in turn
  pub joint_at : is_joint i.layout.build ≡ true → (k : ℕ) → k < length i.programs → IsInTurn (texts_at i.layout.limits) (data_at i.layout.limits (all_sizes i)) (all_sizes i) (stands_at (program_in i k)) (sizes_of (program_in i k))
  joint_at joint k l =
      let ss = all_sizes i in
      let t = texts_at i.layout.limits in
      let d = data_at i.layout.limits ss in
      let m : k < length ss = let c = counted in omega (arith, c, l) in
      let e = stands k l ∙ ap (λ (xs : List Addresses). slice_index_or xs k no_addresses) (by_joint i.layout.build i.layout.limits ss joint).0 in
      subst (λ (a : Addresses). IsInTurn t d ss a (sizes_of (program_in i k))) (sym e)
      (subst (λ (s : Sizes). IsInTurn t d ss (slice_index_or (in_turn t d ss) k no_addresses) s) (sizes_at k l) (in_turn_at t d ss k no_addresses no_sizes m))

  pub joint_before : is_joint i.layout.build ≡ true → (j k : ℕ) → j < k → k < length i.programs → IsBefore (stands_at (program_in i j)) (sizes_of (program_in i j)) (stands_at (program_in i k))
  joint_before joint j k o l =
      let ss = all_sizes i in
      let t = texts_at i.layout.limits in
      let d = data_at i.layout.limits ss in
      let a = (by_joint i.layout.build i.layout.limits ss joint).0 in
      let n : j < length i.programs = omega (arith, o, l) in
      let m : k < length ss = let c = counted in omega (arith, c, l) in
      let first = stands j n ∙ ap (λ (xs : List Addresses). slice_index_or xs j no_addresses) a in
      let second = stands k l ∙ ap (λ (xs : List Addresses). slice_index_or xs k no_addresses) a in
      subst (λ (x : Addresses). IsBefore x (sizes_of (program_in i j)) (stands_at (program_in i k))) (sym first)
      (subst (λ (x : Addresses). IsBefore (slice_index_or (in_turn t d ss) j no_addresses) (sizes_of (program_in i j)) x) (sym second)
      (subst (λ (s : Sizes). IsBefore (slice_index_or (in_turn t d ss) j no_addresses) s (slice_index_or (in_turn t d ss) k no_addresses)) (sizes_at j n)
      (in_order t d ss j k no_addresses no_sizes o m)))

  pub joint_whole : is_joint i.layout.build ≡ true → (k : ℕ) → k < length i.programs → IsWhole (program_in i k).text_at (program_in i k).data_at
  joint_whole joint k l =
      let ss = all_sizes i in
      let t = texts_at i.layout.limits in
      let d = data_at i.layout.limits ss in
      let m : k < length ss = let c = counted in omega (arith, c, l) in
      let e = stands k l ∙ ap (λ (xs : List Addresses). slice_index_or xs k no_addresses) (by_joint i.layout.build i.layout.limits ss joint).0 in
      let u = up_bound (64 * i.layout.limits.blocks) in
      let v = up_bound (texts ss) in
      let a = u.2 in
      let b = v.2 in
      subst (λ (x : Addresses). IsWhole x.text_at x.data_at) (sym e)
      (in_turn_whole t d ss k no_addresses (record { first = omega (arith, a); second = omega (arith, a, b) }) all_whole m)

  pub paged_at : is_joint i.layout.build ≡ false → (k : ℕ) → k < length i.programs → stands_at (program_in i k) ≡ record { text_at = 0x00010000; data_at = 0x10000000 }
  paged_at paged k l =
      let ss = all_sizes i in
      let m : k < length ss = let c = counted in omega (arith, c, l) in
      stands k l ∙ ap (λ (xs : List Addresses). slice_index_or xs k no_addresses) (by_paged i.layout.build i.layout.limits ss paged).0 ∙ alike_at ss k no_addresses m

  -- a program's parts in the kernel build take less than the RAM
  pub paged_size : is_joint i.layout.build ≡ false → (k : ℕ) → k < length i.programs → (length (program_in i k).text ≤ i.layout.limits.ram) × (length (program_in i k).init ≤ i.layout.limits.ram)
  paged_size paged k l =
      let ss = all_sizes i in
      let m : k < length ss = let c = counted in omega (arith, c, l) in
      let f = frames_among i.layout.limits ss k no_sizes m in
      let e = sizes_at k l in
      let fits : pool_bytes i.layout.limits + 4096 * most_frames i.layout.limits ss ≤ i.layout.limits.ram = subst (λ (n : ℕ). n ≤ i.layout.limits.ram) (by_paged i.layout.build i.layout.limits ss paged).1 h.fits in
      let x = (pages_bound (slice_index_or ss k no_sizes).text).0 in
      let y = (pages_bound (slice_index_or ss k no_sizes).init).0 in
      let text : (slice_index_or ss k no_sizes).text ≤ i.layout.limits.ram = omega (arith, f, fits, x) in
      let init : (slice_index_or ss k no_sizes).init ≤ i.layout.limits.ram = omega (arith, f, fits, y) in
      (subst (λ (s : Sizes). s.text ≤ i.layout.limits.ram) e text, subst (λ (s : Sizes). s.init ≤ i.layout.limits.ram) e init)

  pub joint_fits : is_joint i.layout.build ≡ true → joint_need i.layout.limits (all_sizes i) ≤ i.layout.limits.ram
  joint_fits joint = subst (λ (n : ℕ). n ≤ i.layout.limits.ram) (by_joint i.layout.build i.layout.limits (all_sizes i) joint).1 h.fits

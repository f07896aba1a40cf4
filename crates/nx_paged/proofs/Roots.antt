-- The first frame becomes a root, and the windows of a program are added.
use Rattle.std.proofs.Common.{◌≡◌, ◌≢◌, ℕ, ◌+◌, ◌-◌, ◌*◌, ◌/◌, ◌<◌, ◌≤◌, true, false, List, [], ◌∷◌, ◌++◌, length, refl, sym, ap, ◌∙◌, arith}
use Rattle.std.specs.Prelude.{if◌then◌else◌, slice_index}
use Rattle.std.proofs.lemmas.List.{length-append, append-nil}
use Rattle.nx_ram.specs.declared.prog_image.ProgImage.{ProgImage}
use Rattle.nx_frames.specs.Chains as chains
use Rattle.nx_frames.specs.Chains.{AreOnce}
use Rattle.nx_sv32.specs.Walk.{ram_start}
use Rattle.nx_tables.specs.Roles.{Role, Free, Root, is_of, no_maps, with_role}
use Rattle.nx_tables.proofs.Kept.{same_number, other_number, new_role}
use Rattle.nx_tables.proofs.Steps.{root_step}
use Rattle.nx_space.specs.Starts.{different, pages_of}
use Rattle.nx_paged.specs.Spans.{Each}
use Rattle.nx_paged.specs.Paging.{FrameAt}
use Rattle.nx_paged.specs.Building.{Entry, entries_from, look, regions_of, IsFresh, Site, Building, HasRoom, Adds}
use Rattle.nx_paged.specs.Starting.{entries_at, program_entries, CanStart}
use Rattle.nx_paged.proofs.Rooms.{length-entries, different_more}

abbrev pub site_of : List ℕ → List ℕ → ℕ → (ℕ → Role) → ℕ → Site
site_of old frames root before g = record { frames = frames; group = g; root = root; old = old; before = before; base = 0; first = no_maps root }

root_built : (old frames : List ℕ) (root : ℕ) (before : ℕ → Role) (g : ℕ) → Each (FrameAt (λ r. r ≡ Free) before) frames → Each (IsFresh old) frames → AreOnce frames → slice_index frames 0 ≡ ram_start + 4096 * root → ram_start + length old ≤ 4294967296 → 1 ≤ length frames → Building (site_of old frames root before g) [] [] old 1
unfolding look
root_built old [] root before g free fresh once is fits one = absurd (omega (arith, one))
root_built old (a ∷ rest) root before g free fresh once is fits one = record {
  roles = after;
  maps = no_maps root;
  root_is = refl;
  stands = root_step old before g root zero room fits;
  long = refl;
  kept = λ f k none small. refl;
  once = once;
  fresh = fresh;
  unused = others rest once.0 free.1;
  taken = (record { frame = root; address = is; role = ap (is_of g) (new_role before root (Root g)) ∙ same_number g g refl }, tt);
  elsewhere = λ f out. ap (λ b. if b then Root g else before f) (other_number f root (λ e. out.0 (omega (arith, is, e))));
  few = omega arith;
  count = omega arith;
  tables = λ i small. refl;
  pages = λ v some. absurd cc;
  zeroed = λ v p some q. absurd cc;
  others = λ v none. refl;
}
  where
    after : ℕ → Role
    after = with_role before root (Root g)

    zero : (k : ℕ) → k < 4096 → slice_index old (4096 * root + k) ≡ 0
    zero k small = let e : 4096 * root + k ≡ a - ram_start + k = omega (arith, is) in ap (slice_index old) e ∙ fresh.0.zero k small

    room : 4096 * root + 4096 ≤ length old
    room = let i = fresh.0.inside in omega (arith, is, i)

    others : (l : List ℕ) → chains.Each (λ y. y ≢ a) l → Each (FrameAt (λ r. r ≡ Free) before) l → Each (FrameAt (λ r. r ≡ Free) after) l
    others [] ne h = tt
    others (y ∷ l) ne h =
        let at = h.0.address in
        let apart = ne.0 in
        (record { frame = h.0.frame; address = at; role = ap (λ b. if b then Root g else before h.0.frame) (other_number h.0.frame root (λ e. apart (omega (arith, at, is, e)))) ∙ h.0.role }, others l ne.1 h.1)

-- the sizes of the windows, in pages
pub record Sized (old frames : List ℕ) (root : ℕ) (p : ProgImage) (low stack : ℕ) (before : ℕ → Role) (nt nd ns : ℕ) : Type 0 where
  pub can : CanStart old frames root p low stack before
  pub text : nt ≡ pages_of (length p.text)
  pub contents : nd ≡ pages_of (length p.init)
  pub zeros : ns ≡ pages_of stack

abbrev pub stack_of : ℕ → ℕ → List Entry
stack_of low ns = entries_from (low / 4096) ns true ++ []

abbrev pub data_of : ProgImage → ℕ → ℕ → ℕ → List Entry
data_of p low nd ns = entries_from (p.data_at / 4096) nd true ++ stack_of low ns

abbrev pub all_of : ProgImage → ℕ → ℕ → ℕ → ℕ → List Entry
all_of p low nt nd ns = entries_from (p.text_at / 4096) nt false ++ data_of p low nd ns

pub all_is : (p : ProgImage) (low stack nt nd ns : ℕ) → nt ≡ pages_of (length p.text) → nd ≡ pages_of (length p.init) → ns ≡ pages_of stack → program_entries p low stack ≡ all_of p low nt nd ns
all_is p low stack nt nd ns t d s =
    ap (λ n. entries_from (p.text_at / 4096) n false ++ (entries_at p.data_at (length p.init) true ++ (entries_at low stack true ++ []))) (sym t)
    ∙ ap (λ n. entries_from (p.text_at / 4096) nt false ++ (entries_from (p.data_at / 4096) n true ++ (entries_at low stack true ++ []))) (sym d)
    ∙ ap (λ n. entries_from (p.text_at / 4096) nt false ++ (entries_from (p.data_at / 4096) nd true ++ (entries_from (low / 4096) n true ++ []))) (sym s)

pub length-all : (p : ProgImage) (low nt nd ns : ℕ) → length (all_of p low nt nd ns) ≡ nt + (nd + ns)
length-all p low nt nd ns =
    let a = length-append (entries_from (p.text_at / 4096) nt false) (data_of p low nd ns) in
    let b = length-append (entries_from (p.data_at / 4096) nd true) (stack_of low ns) in
    let c = ap length (append-nil (entries_from (low / 4096) ns true)) in
    omega (arith, a, b, c, length-entries (p.text_at / 4096) nt false, length-entries (p.data_at / 4096) nd true, length-entries (low / 4096) ns true)

regions_append : (xs ys : List Entry) → regions_of (xs ++ ys) ≡ regions_of xs ++ regions_of ys
regions_append [] ys = refl
regions_append (x ∷ xs) ys = ap (λ l. x.page / 1024 ∷ l) (regions_append xs ys)

-- the regions in the order in which they are added
abbrev pub stack_regions : ℕ → ℕ → List ℕ
stack_regions low ns = regions_of (entries_from (low / 4096) ns true) ++ []

abbrev pub data_regions : ProgImage → ℕ → ℕ → ℕ → List ℕ
data_regions p low nd ns = regions_of (entries_from (p.data_at / 4096) nd true) ++ stack_regions low ns

abbrev pub all_regions : ProgImage → ℕ → ℕ → ℕ → ℕ → List ℕ
all_regions p low nt nd ns = regions_of (entries_from (p.text_at / 4096) nt false) ++ data_regions p low nd ns

pub regions_are : (p : ProgImage) (low nt nd ns : ℕ) → regions_of (all_of p low nt nd ns) ≡ all_regions p low nt nd ns
regions_are p low nt nd ns =
    regions_append (entries_from (p.text_at / 4096) nt false) (data_of p low nd ns)
    ∙ ap (λ l. regions_of (entries_from (p.text_at / 4096) nt false) ++ l) (regions_append (entries_from (p.data_at / 4096) nd true) (stack_of low ns)
    ∙ ap (λ l. regions_of (entries_from (p.data_at / 4096) nd true) ++ l) (regions_append (entries_from (low / 4096) ns true) []))

-- as many frames as there are
pub enough_is : (old frames : List ℕ) (root : ℕ) (p : ProgImage) (low stack : ℕ) (before : ℕ → Role) (nt nd ns : ℕ) → Sized old frames root p low stack before nt nd ns → 1 + (nt + (nd + ns) + different (all_regions p low nt nd ns)) ≡ length frames
enough_is old frames root p low stack before nt nd ns z =
    let e = z.can.enough in
    let a = ap length (all_is p low stack nt nd ns z.text z.contents z.zeros) ∙ length-all p low nt nd ns in
    let b = ap (λ es. different (regions_of es)) (all_is p low stack nt nd ns z.text z.contents z.zeros) ∙ ap different (regions_are p low nt nd ns) in
    omega (arith, e, a, b)

pub first_built : (old frames : List ℕ) (root : ℕ) (p : ProgImage) (low stack : ℕ) (before : ℕ → Role) (g : ℕ) → CanStart old frames root p low stack before → Building (site_of old frames root before g) [] [] old 1
first_built old frames root p low stack before g c = let e = c.enough in root_built old frames root before g c.free c.fresh c.once c.root_is c.fits (omega (arith, e))

-- there is room for each window in turn
pub stack_room : (old frames : List ℕ) (root : ℕ) (p : ProgImage) (low stack : ℕ) (before : ℕ → Role) (nt nd ns : ℕ) → Sized old frames root p low stack before nt nd ns → HasRoom frames root (regions_of (entries_from (low / 4096) ns true)) ns old 1
stack_room old frames root p low stack before nt nd ns z = record {
  site = site_of old frames root before 0;
  frames_is = refl;
  root_is = refl;
  regions = [];
  added = [];
  building = first_built old frames root p low stack before 0 z.can;
  room =
      let e = enough_is old frames root p low stack before nt nd ns z in
      let a = different_more (regions_of (entries_from (p.text_at / 4096) nt false)) (data_regions p low nd ns) in
      let b = different_more (regions_of (entries_from (p.data_at / 4096) nd true)) (stack_regions low ns) in
      omega (arith, e, a, b);
}

pub data_room : (old frames : List ℕ) (root : ℕ) (p : ProgImage) (low stack : ℕ) (before : ℕ → Role) (nt nd ns : ℕ) (ram : List ℕ) (used : ℕ) → Sized old frames root p low stack before nt nd ns → Building (site_of old frames root before 0) (stack_regions low ns) (stack_of low ns) ram used → HasRoom frames root (regions_of (entries_from (p.data_at / 4096) nd true)) nd ram used
data_room old frames root p low stack before nt nd ns ram used z b = record {
  site = site_of old frames root before 0;
  frames_is = refl;
  root_is = refl;
  regions = stack_regions low ns;
  added = stack_of low ns;
  building = b;
  room =
      let e = enough_is old frames root p low stack before nt nd ns z in
      let a = different_more (regions_of (entries_from (p.text_at / 4096) nt false)) (data_regions p low nd ns) in
      let l = ap length (append-nil (entries_from (low / 4096) ns true)) in
      omega (arith, e, a, l, length-entries (low / 4096) ns true);
}

pub text_room : (old frames : List ℕ) (root : ℕ) (p : ProgImage) (low stack : ℕ) (before : ℕ → Role) (nt nd ns : ℕ) (ram : List ℕ) (used : ℕ) → Sized old frames root p low stack before nt nd ns → Building (site_of old frames root before 0) (data_regions p low nd ns) (data_of p low nd ns) ram used → HasRoom frames root (regions_of (entries_from (p.text_at / 4096) nt false)) nt ram used
text_room old frames root p low stack before nt nd ns ram used z b = record {
  site = site_of old frames root before 0;
  frames_is = refl;
  root_is = refl;
  regions = data_regions p low nd ns;
  added = data_of p low nd ns;
  building = b;
  room =
      let e = enough_is old frames root p low stack before nt nd ns z in
      let l = length-append (entries_from (p.data_at / 4096) nd true) (stack_of low ns) in
      let k = ap length (append-nil (entries_from (low / 4096) ns true)) in
      omega (arith, e, l, k, length-entries (low / 4096) ns true, length-entries (p.data_at / 4096) nd true);
}

-- all of it, for any group
pub all_built : (old frames : List ℕ) (root : ℕ) (p : ProgImage) (low stack : ℕ) (before : ℕ → Role) (g nt nd ns : ℕ) (one two new : List ℕ) (first second last : ℕ) → CanStart old frames root p low stack before → Adds frames root (regions_of (entries_from (low / 4096) ns true)) (entries_from (low / 4096) ns true) old 1 one first → Adds frames root (regions_of (entries_from (p.data_at / 4096) nd true)) (entries_from (p.data_at / 4096) nd true) one first two second → Adds frames root (regions_of (entries_from (p.text_at / 4096) nt false)) (entries_from (p.text_at / 4096) nt false) two second new last → Building (site_of old frames root before g) (all_regions p low nt nd ns) (all_of p low nt nd ns) new last
all_built old frames root p low stack before g nt nd ns one two new first second last c a b d =
    let s = site_of old frames root before g in
    d s (data_regions p low nd ns) (data_of p low nd ns) refl refl
    (b s (stack_regions low ns) (stack_of low ns) refl refl
    (a s [] [] refl refl (first_built old frames root p low stack before g c)))

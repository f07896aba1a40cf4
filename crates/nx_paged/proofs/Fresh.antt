-- A space where no group has started.
use Rattle.std.proofs.Common.{◌≡◌, ℕ, zero, suc, ◌+◌, ◌-◌, ◌*◌, ◌/◌, ◌%◌, true, false, List, [], ◌∷◌, length, drop, drop-cons, refl, sym, ap, ◌∙◌, subst, arith}
use Rattle.std.specs.Prelude.{slice_index}
use Rattle.std.proofs.lemmas.List.{drop_all}
use Rattle.nx_base.specs.ByteLists.{AreBytes}
use Rattle.nx_frames.specs.Stock.{frames_from}
use Rattle.nx_sv32.specs.Walk.{ram_start}
use Rattle.nx_tables.specs.Roles.{Free}
use Rattle.nx_paged.specs.Tenants.{frames_taken}
use Rattle.nx_paged.specs.Spans.{Each}
use Rattle.nx_paged.specs.Outside.{bytes_without, is_shown}
use Rattle.nx_paged.specs.Paging.{Paging, paged_world, fresh_world, FitsPaged, IsPlaced, IsPaged, FrameAt}

length-from : (first n : ℕ) → length (frames_from first n) ≡ n
unfolding frames_from
length-from first zero = refl
length-from first (suc n) = ap suc (length-from (first + 4096) n)

-- a stock of all frames after the pool
pub record IsWhole (s : Paging) : Type 0 where
  pub first : s.stock.first ≡ ram_start + s.pool
  pub count : length s.stock.next ≡ (length s.ram - s.pool) / 4096
  pub free : s.stock.free ≡ frames_from (ram_start + s.pool) ((length s.ram - s.pool) / 4096)
  pub none : s.tenants ≡ []
  pub entered : s.entered ≡ 0

abbrev empty : Paging → Paging
empty s = record s { tenants = []; entered = 0 }

fresh_placed : (s : Paging) → FitsPaged (length s.ram) s.pool s.programs s.stack s.threads → AreBytes s.ram → IsWhole s → IsPlaced (empty s)
unfolding frames_taken
fresh_placed s f bytes w =
    let whole = f.whole in
    let pool = f.pool_whole in
    let inside = f.pool_inside in
    let count = w.count in
    record {
      fits = f;
      bytes = bytes;
      first = w.first;
      frames = omega (arith, whole, pool, inside, count);
      few = omega arith;
      distinct = refl;
      tenants = λ k d l. absurd (omega (arith, l));
      counted = let l = ap length w.free ∙ length-from (ram_start + s.pool) ((length s.ram - s.pool) / 4096) in omega (arith, l, count);
    }

all_free : (k n : ℕ) → Each (FrameAt (λ r. r ≡ Free) (λ f. Free)) (frames_from (ram_start + 4096 * k) n)
unfolding frames_from
all_free k zero = tt
all_free k (suc n) =
    let e : ram_start + 4096 * (k + 1) ≡ ram_start + 4096 * k + 4096 = omega arith in
    (record { frame = k; address = refl; role = refl }, subst (λ a. Each (FrameAt (λ r. r ≡ Free) (λ f. Free)) (frames_from a n)) e (all_free (k + 1) n))

fresh_paged : (s : Paging) → s.pool % 4096 ≡ 0 → IsWhole s → IsPaged (empty s)
fresh_paged s pool w =
    let e : ram_start + 4096 * (s.pool / 4096) ≡ ram_start + s.pool = omega (arith, pool) in
    record {
      role = λ f. Free;
      live = tt;
      held = tt;
      nobody = subst (Each (FrameAt (λ r. r ≡ Free) (λ f. Free))) (ap (λ a. frames_from a ((length s.ram - s.pool) / 4096)) e ∙ sym w.free) (all_free (s.pool / 4096) ((length s.ram - s.pool) / 4096));
      past = λ f g is. absurd (apart is);
    }
  where
    apart : false ≡ true → ⊥
    apart z = cc

-- the space with its groups and its entered group written out
written : (s : Paging) (w : IsWhole s) → empty s ≡ s
written s w = ap (λ ts. record s { tenants = ts; entered = 0 }) (sym w.none) ∙ ap (λ e. record s { entered = e }) (sym w.entered)

pub is_placed : (s : Paging) → FitsPaged (length s.ram) s.pool s.programs s.stack s.threads → AreBytes s.ram → IsWhole s → IsPlaced s
is_placed s f bytes w = subst IsPlaced (written s w) (fresh_placed s f bytes w)

pub is_paged : (s : Paging) → FitsPaged (length s.ram) s.pool s.programs s.stack s.threads → IsWhole s → ∥ IsPaged s ∥₁
is_paged s f w = ∣ subst IsPaged (written s w) (fresh_paged s f.pool_whole w) ∣₁

none_shown : (ram : List ℕ) (k n : ℕ) → k + n ≡ length ram → bytes_without (λ j. false) ram k n ≡ drop k ram
unfolding bytes_without
none_shown ram k zero h = sym (drop_all k ram (omega (arith, h)))
none_shown ram k (suc n) h =
    let e : suc k ≡ k + 1 = omega arith in
    ap (λ l. slice_index ram k ∷ l) (none_shown ram (k + 1) n (omega (arith, h)) ∙ ap (λ j. drop j ram) (sym e)) ∙ sym (drop-cons ram k 0 (omega (arith, h)))

pub is_fresh : (s : Paging) → FitsPaged (length s.ram) s.pool s.programs s.stack s.threads → IsWhole s → paged_world s ≡ fresh_world s.ram s.pool s.programs s.stack s.threads
unfolding is_shown
is_fresh s f w =
    let inside = f.pool_inside in
    let fresh = fresh_world s.ram s.pool s.programs s.stack s.threads in
    ap paged_world (sym (written s w))
    ∙ ap (λ n. record (paged_world (empty s)) { memory_map = record fresh.memory_map { frames = n } }) w.count
    ∙ ap (λ o. record fresh { outside = o }) (none_shown s.ram s.pool (length s.ram - s.pool) (omega (arith, inside)))

-- Bytes that are written page by page.
use Rattle.std.proofs.Common.{◌≡◌, ℕ, suc, ◌+◌, ◌-◌, ◌*◌, ◌/◌, ◌%◌, ◌<◌, ◌≤◌, Bool, Some, None, List, [], ◌∷◌, ◌++◌, length, take, drop, refl, sym, ap, ◌∙◌, subst, arith, ⊎_elim}
use Rattle.std.specs.Prelude.{slice_set, slice_range, Ok, Err, min}
use Rattle.std.proofs.lemmas.List.{length-set, length-take, length-drop, take_all}
use Rattle.std.proofs.lemmas.Bool.{cases_lt}
use Rattle.std.proofs.Math.Seq.{take-add}
use Rattle.nx_base.specs.ByteLists.{put_bytes}
use Rattle.nx_base.specs.declared.access.Access.TheVariants.{Load}
use Rattle.nx_base.proofs.Puts.{put_bytes-none, put_bytes-more, length-put_bytes}
use Rattle.nx_sv32.specs.Walk.{ram_start, walk, or_fault}
use Rattle.nx_sv32.specs.declared.sv32.PageFault.{PageFault}
use Rattle.nx_tables.specs.Maps.{Maps, translated}
use Rattle.nx_tables.specs.Roles.{Role}
use Rattle.nx_tables.specs.ViewBytes.{seen, PageAt}
use Rattle.nx_tables.proofs.Walked.{walk_mapped}
use Rattle.nx_tables.proofs.Kept.{byte_elsewhere}
use Rattle.nx_tables.proofs.Views.{length-seen, page_written, seen_put}
use Rattle.nx_paged.specs.Writing.{IsPlace, HasPlace, WritesAll}
use Rattle.nx_paged.proofs.Accesses.{walk_is, walk_is_none}

-- the page at a place of the window, and its frame
walk_place : (ram : List ℕ) (satp at n from : ℕ) (writes : Bool) (roles : ℕ → Role) (g : ℕ) (m : Maps) (p : IsPlace ram satp at n writes roles g m) (q : PageAt m (at + from) writes) → from < n → from % 4096 ≡ 0 → walk ram satp (at + from) Load ≡ Some (ram_start + 4096 * q.page.frame)
walk_place ram satp at n from writes roles g m p q l whole =
    let top = p.top in
    let start = p.start in
    let o : ram_start + (4096 * q.page.frame + (at + from) % 4096) ≡ ram_start + 4096 * q.page.frame = omega (arith, start, whole) in
    ap (λ z. walk ram z (at + from) Load) p.satp_is
    ∙ walk_mapped ram roles g m (at + from) Load p.stands (omega (arith, top, l))
    ∙ ap (λ z. translated z (at + from) Load) q.mapped
    ∙ ap (λ z. Some z) o

place_page : (ram : List ℕ) (satp at n from : ℕ) (writes : Bool) (roles : ℕ → Role) (g : ℕ) (m : Maps) → IsPlace ram satp at n writes roles g m → from < n → PageAt m (at + from) writes
place_page ram satp at n from writes roles g m p l = p.mapped (at + from) (omega arith) (omega (arith, l))

some_number : (a b : ℕ) → Some a ≡ Some b → a ≡ b
some_number a b e = cc

to_is : (ram : List ℕ) (satp at n from to : ℕ) (writes : Bool) (roles : ℕ → Role) (g : ℕ) (m : Maps) (p : IsPlace ram satp at n writes roles g m) (l : from < n) → from % 4096 ≡ 0 → Ok to ≡ or_fault (walk ram satp (at + from) Load) → to ≡ ram_start + 4096 * (place_page ram satp at n from writes roles g m p l).page.frame
to_is ram satp at n from to writes roles g m p l whole e =
    some_number to _ (sym (walk_is (walk ram satp (at + from) Load) to e) ∙ walk_place ram satp at n from writes roles g m p (place_page ram satp at n from writes roles g m p l) l whole)

pub no_fault : (ram : List ℕ) (satp at n from : ℕ) (fault : PageFault) → HasPlace ram satp at n → from < n → from % 4096 ≡ 0 → Err fault ≡ or_fault (walk ram satp (at + from) Load) → ⊥
no_fault ram satp at n from fault h l whole e =
    apart (sym (walk_is_none (walk ram satp (at + from) Load) fault e) ∙ walk_place ram satp at n from h.writes h.roles h.group h.maps h.place (place_page ram satp at n from h.writes h.roles h.group h.maps h.place l) l whole)
  where
    apart : {a : ℕ} → None ≡ Some a → ⊥
    apart z = cc

-- where the page stands in the RAM
pub record PageIn (ram : List ℕ) (to : ℕ) : Type 0 where
  pub low : ram_start ≤ to
  pub high : to - ram_start + 4096 ≤ length ram

pub page_in : (ram : List ℕ) (satp at n from to : ℕ) → HasPlace ram satp at n → from < n → from % 4096 ≡ 0 → Ok to ≡ or_fault (walk ram satp (at + from) Load) → PageIn ram to
page_in ram satp at n from to h l whole e =
    let q = place_page ram satp at n from h.writes h.roles h.group h.maps h.place l in
    let is = to_is ram satp at n from to h.writes h.roles h.group h.maps h.place l whole e in
    let room = h.place.stands.lie.pages ((at + from) / 4096) q.page q.mapped in
    record { low = omega (arith, is); high = omega (arith, is, room) }

pub page_put : (ram : List ℕ) (satp at n from to : ℕ) (bytes : List ℕ) → from < n → from % 4096 ≡ 0 → length bytes ≤ 4096 → from + length bytes ≤ n → Ok to ≡ or_fault (walk ram satp (at + from) Load) → WritesAll ram (put_bytes ram (to - ram_start) bytes) satp at n from bytes
page_put ram satp at n from to bytes l whole one inside e writes roles g m p =
    let q = place_page ram satp at n from writes roles g m p l in
    let is = to_is ram satp at n from to writes roles g m p l whole e in
    let place : to - ram_start ≡ 4096 * q.page.frame = omega (arith, is) in
    let v : ℕ = (at + from) / 4096 in
    let role = p.stands.owns.pages v q.page q.mapped in
    let room = p.stands.lie.pages v q.page q.mapped in
    let start = p.start in
    let at_is : to - ram_start ≡ 4096 * q.page.frame + (at + from) % 4096 = omega (arith, place, start, whole) in
    record {
      stands = page_written ram roles g m g v q.page.frame (to - ram_start) bytes p.stands role (omega (arith, place)) (omega (arith, place, one)) room;
      shows = subst (λ z. seen (put_bytes ram (to - ram_start) bytes) z at n ≡ put_bytes (seen ram z at n) from bytes) (sym p.satp_is) (seen_put ram roles g m at n writes from (to - ram_start) bytes p.stands p.mapped p.top q inside at_is (omega (arith, start, whole, one)));
      kept = λ f k out small. byte_elsewhere ram q.page.frame (to - ram_start) bytes f k (omega (arith, place)) (omega (arith, place, one)) (omega (arith, place, one, room))
          (λ z. out v (omega (arith, start, whole)) (omega (arith, start, whole, l)) (ap roles z ∙ role)) small;
      long = length-put_bytes ram (to - ram_start) bytes (omega (arith, place, one, room));
    }

-- what was written before, and then more
put_twice : (s : List ℕ) (i : ℕ) (xs ys : List ℕ) → i + length xs + length ys ≤ length s → put_bytes (put_bytes s i xs) (i + length xs) ys ≡ put_bytes s i (xs ++ ys)
put_twice s i [] ys h = let z : i + 0 ≡ i = omega arith in ap (λ l. put_bytes l (i + 0) ys) (put_bytes-none s i) ∙ ap (λ k. put_bytes s k ys) z
put_twice s i (x ∷ xs) ys h =
    let n = length-set s i x in
    let e : i + suc (length xs) ≡ i + 1 + length xs = omega arith in
    ap (λ l. put_bytes l (i + suc (length xs)) ys) (put_bytes-more s i x xs (omega (arith, h)))
    ∙ ap (λ k. put_bytes (put_bytes (slice_set s i x) (i + 1) xs) k ys) e
    ∙ put_twice (slice_set s i x) (i + 1) xs ys (omega (arith, h, n))
    ∙ sym (put_bytes-more s i x (xs ++ ys) (omega (arith, h)))

pub place_after : (old new : List ℕ) (satp at n from : ℕ) (bytes : List ℕ) → HasPlace old satp at n → WritesAll old new satp at n from bytes → HasPlace new satp at n
place_after old new satp at n from bytes h w =
    let p = h.place in
    let r = w h.writes h.roles h.group h.maps p in
    record { writes = h.writes; roles = h.roles; group = h.group; maps = h.maps; place = record { stands = r.stands; satp_is = p.satp_is; mapped = p.mapped; start = p.start; top = p.top } }

pub writes_more : (old mid new : List ℕ) (satp at n : ℕ) (xs ys zs : List ℕ) (from : ℕ) → WritesAll old mid satp at n 0 xs → WritesAll mid new satp at n from ys → from ≡ length xs → from + length ys ≤ n → xs ++ ys ≡ zs → WritesAll old new satp at n 0 zs
writes_more old mid new satp at n xs ys zs from a b is room whole writes roles g m p =
    let r = a writes roles g m p in
    let t = b writes roles g m (record { stands = r.stands; satp_is = p.satp_is; mapped = p.mapped; start = p.start; top = p.top }) in
    let long = length-seen old satp at n in
    let z : 0 + length xs ≡ from = omega (arith, is) in
    record {
      stands = t.stands;
      shows =
          t.shows
          ∙ ap (λ s. put_bytes s from ys) r.shows
          ∙ ap (λ k. put_bytes (put_bytes (seen old satp at n) 0 xs) k ys) (sym z)
          ∙ put_twice (seen old satp at n) 0 xs ys (omega (arith, is, room, long))
          ∙ ap (put_bytes (seen old satp at n) 0) whole;
      kept = λ f k out small. t.kept f k out small ∙ r.kept f k out small;
      long = t.long ∙ r.long;
    }

pub writes_none : (ram : List ℕ) (satp at n : ℕ) (bytes : List ℕ) → WritesAll ram ram satp at n 0 (take (4096 * 0) bytes)
writes_none ram satp at n bytes writes roles g m p = record { stands = p.stands; shows = sym (put_bytes-none (seen ram satp at n) 0); kept = λ f k out small. refl; long = refl }

-- one page more of the bytes
pub page_more : (bytes : List ℕ) (k end : ℕ) → end ≡ min (length bytes) (4096 * k + 4096) → 4096 * k < length bytes → take (4096 * k) bytes ++ slice_range bytes (4096 * k) end ≡ take (4096 * (k + 1)) bytes
page_more bytes k end e l =
    let a : 4096 * k + (end - 4096 * k) ≡ end = omega (arith, low) in
    sym (take-add (4096 * k) (end - 4096 * k) bytes) ∙ ap (λ n. take n bytes) a ∙ same
  where
    low : 4096 * k ≤ end
    low = grind (arith, e, l)

    same : take end bytes ≡ take (4096 * (k + 1)) bytes
    same = ⊎_elim
        (λ less. let i : end ≡ 4096 * (k + 1) = grind (arith, e, less) in ap (λ n. take n bytes) i)
        (λ all. let i : end ≡ length bytes = grind (arith, e, all) in ap (λ n. take n bytes) i ∙ take_all (length bytes) bytes (omega arith) ∙ sym (take_all (4096 * (k + 1)) bytes (omega (arith, all))))
        (cases_lt (4096 * k + 4096) (length bytes))

pub page_size : (bytes : List ℕ) (k end : ℕ) → end ≡ min (length bytes) (4096 * k + 4096) → 4096 * k < length bytes → length (slice_range bytes (4096 * k) end) + 4096 * k ≡ end
page_size bytes k end e l =
    let low : 4096 * k ≤ end = grind (arith, e, l) in
    let high : end ≤ length bytes = grind (arith, e, l) in
    let a = length-take (end - 4096 * k) (drop (4096 * k) bytes) in
    let b = length-drop (4096 * k) bytes in
    omega (arith, a, b, low, high)

pub page_first : (bytes : List ℕ) (k : ℕ) → 4096 * k < length bytes → 4096 * k ≡ length (take (4096 * k) bytes)
page_first bytes k l = let a = length-take (4096 * k) bytes in omega (arith, a, l)

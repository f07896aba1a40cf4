-- A program's windows are mapped, and show its bytes and zeros.
use Rattle.std.proofs.Common.{◌≡◌, ◌≢◌, ℕ, ◌+◌, ◌*◌, ◌/◌, ◌%◌, ◌<◌, ◌≤◌, ◌⊎◌, ◌==◌, Bool, true, false, Some, None, List, [], ◌∷◌, ◌++◌, length, refl, sym, ap, ◌∙◌, subst, arith, ⊎_elim, inl, inr}
use Rattle.std.specs.List.{list_any}
use Rattle.std.specs.Option.{is_some}
use Rattle.std.proofs.lemmas.List.{take_all}
use Rattle.nx_base.specs.ByteLists.{put_bytes}
use Rattle.nx_ram.specs.declared.prog_image.ProgImage.{ProgImage}
use Rattle.nx_sv32.specs.Walk.{ram_start}
use Rattle.nx_tables.specs.Maps.{Maps, satp_of}
use Rattle.nx_tables.specs.Roles.{Role, Free, Root, Table, Leaf, is_table, is_of, Stands}
use Rattle.nx_tables.specs.ViewBytes.{seen, IsMapped}
use Rattle.nx_tables.proofs.Kept.{leaf_is_of}
use Rattle.nx_tables.proofs.Views.{length-seen, get-seen, byte_mapped, seen_by_frames}
use Rattle.nx_space.specs.Starts.{pages_of, paged}
use Rattle.nx_paged.specs.Spans.{Span, Each, span_of, covers, first_span}
use Rattle.nx_paged.specs.Paging.{FrameAt}
use Rattle.nx_paged.specs.Building.{Entry, look, regions_of, Site, Building}
use Rattle.nx_paged.specs.Writing.{IsPlace, Writes, WritesAll}
use Rattle.nx_paged.specs.Starting.{program_spans, IsMappedIn}
use Rattle.nx_paged.proofs.Looks.{look_in, look_out, right_page, each_span, each_spans, none_covers, not_covered, span_clear, each_front, each_back}
use Rattle.nx_paged.proofs.Roots.{site_of, Sized, all_of, all_regions, data_of, stack_of, length-all, all_is, regions_are, enough_is}
use Rattle.nx_paged.proofs.Zeros.{zeros, put-zeros, are_zeros}

-- where the windows lie, in pages
pub record Ranges (p : ProgImage) (low nt nd ns : ℕ) : Type 0 where
  pub text_at : p.text_at ≡ 0x00010000
  pub text : 16 + nt ≤ 65536
  pub data_at : p.data_at ≡ 0x10000000
  pub contents : 65536 + nd ≤ 262144
  pub stack : 262144 ≤ low / 4096
  pub whole : low % 4096 ≡ 0
  pub top : low / 4096 + ns ≤ 1048576

pub ranges : (old frames : List ℕ) (root : ℕ) (p : ProgImage) (low stack : ℕ) (before : ℕ → Role) (nt nd ns : ℕ) → Sized old frames root p low stack before nt nd ns → Ranges p low nt nd ns
ranges old frames root p low stack before nt nd ns z =
    let l = z.can.laid_out in
    let ta = l.text_at in
    let tx = l.text in
    let da = l.data_at in
    let di = l.init in
    let t = z.text in
    let d = z.contents in
    let s = z.zeros in
    let a = z.can.low_is in
    let w = z.can.whole in
    let h = z.can.high_is in
    record {
      text_at = ta;
      text = omega (arith, ta, tx, t);
      data_at = da;
      contents = omega (arith, da, di, d);
      stack = omega (arith, a);
      whole = w;
      top = omega (arith, w, h, s);
    }

-- what may be done with a page of each window
text_look : (p : ProgImage) (low nt nd ns v : ℕ) → p.text_at / 4096 ≤ v → v < p.text_at / 4096 + nt → look (all_of p low nt nd ns) v ≡ Some false
text_look p low nt nd ns v l u = look_in (p.text_at / 4096) nt false (data_of p low nd ns) v l u

data_look : (p : ProgImage) (low nt nd ns v : ℕ) → Ranges p low nt nd ns → p.data_at / 4096 ≤ v → v < p.data_at / 4096 + nd → look (all_of p low nt nd ns) v ≡ Some true
data_look p low nt nd ns v r l u =
    let a = r.text_at in
    let b = r.text in
    let c = r.data_at in
    look_out (p.text_at / 4096) nt false (data_of p low nd ns) v (inr (omega (arith, a, b, c, l))) ∙ look_in (p.data_at / 4096) nd true (stack_of low ns) v l u

stack_look : (p : ProgImage) (low nt nd ns v : ℕ) → Ranges p low nt nd ns → low / 4096 ≤ v → v < low / 4096 + ns → look (all_of p low nt nd ns) v ≡ Some true
stack_look p low nt nd ns v r l u =
    let a = r.text_at in
    let b = r.text in
    let c = r.data_at in
    let d = r.contents in
    let e = r.stack in
    look_out (p.text_at / 4096) nt false (data_of p low nd ns) v (inr (omega (arith, a, b, e, l)))
    ∙ look_out (p.data_at / 4096) nd true (stack_of low ns) v (inr (omega (arith, c, d, e, l)))
    ∙ look_in (low / 4096) ns true [] v l u

no_look : (p : ProgImage) (low nt nd ns v : ℕ) → (v < p.text_at / 4096) ⊎ (p.text_at / 4096 + nt ≤ v) → (v < p.data_at / 4096) ⊎ (p.data_at / 4096 + nd ≤ v) → (v < low / 4096) ⊎ (low / 4096 + ns ≤ v) → look (all_of p low nt nd ns) v ≡ None
unfolding look
no_look p low nt nd ns v t d s =
    look_out (p.text_at / 4096) nt false (data_of p low nd ns) v t
    ∙ look_out (p.data_at / 4096) nd true (stack_of low ns) v d
    ∙ look_out (low / 4096) ns true [] v s

-- a window whose pages were all added
pub record Added (s : Site) (added : List Entry) (at n : ℕ) (writes : Bool) : Type 0 where
  pub start : at % 4096 ≡ 0
  pub top : at / 4096 + n ≤ 1048576
  pub looks : (v : ℕ) → at / 4096 ≤ v → v < at / 4096 + n → look added v ≡ Some writes

pub window_mapped : (s : Site) (regions : List ℕ) (added : List Entry) (ram : List ℕ) (used at n : ℕ) (writes : Bool) (b : Building s regions added ram used) → Added s added at n writes → IsMapped b.maps at (4096 * n) writes
window_mapped s regions added ram used at n writes b w a low high =
    let start = w.start in
    let look_is = w.looks (a / 4096) (omega (arith, low)) (omega (arith, start, high)) in
    right_page b.maps a writes (b.pages (a / 4096) (ap is_some look_is) ∙ look_is)

pub window_zeros : (s : Site) (regions : List ℕ) (added : List Entry) (ram : List ℕ) (used at n : ℕ) (writes : Bool) (b : Building s regions added ram used) → Added s added at n writes → seen ram (satp_of b.maps.root) at (4096 * n) ≡ zeros (4096 * n)
window_zeros s regions added ram used at n writes b w = are_zeros (seen ram (satp_of b.maps.root) at (4096 * n)) (4096 * n) (length-seen ram (satp_of b.maps.root) at (4096 * n)) (λ k l.
    let start = w.start in
    let top = w.top in
    let p = window_mapped s regions added ram used at n writes b w (at + k) (omega arith) (omega (arith, l)) in
    let v : ℕ = (at + k) / 4096 in
    let some : is_some (look added v) ≡ true = ap is_some (w.looks v (omega arith) (omega (arith, start, l))) in
    get-seen ram (satp_of b.maps.root) at (4096 * n) k l
    ∙ byte_mapped ram b.roles s.group b.maps (at + k) writes b.stands (omega (arith, start, top, l)) p
    ∙ b.zeroed v p.page some p.mapped ((at + k) % 4096) (omega arith))

pub window_place : (s : Site) (regions : List ℕ) (added : List Entry) (ram : List ℕ) (used at n : ℕ) (writes : Bool) (b : Building s regions added ram used) → Added s added at n writes → IsPlace ram (satp_of s.root) at (4096 * n) writes b.roles s.group b.maps
window_place s regions added ram used at n writes b w =
    let start = w.start in
    let top = w.top in
    record { stands = b.stands; satp_is = ap satp_of (sym b.root_is); mapped = window_mapped s regions added ram used at n writes b w; start = start; top = omega (arith, start, top) }

-- a window that lies apart from one that is written shows what it showed
leaf_number : (g x y : ℕ) → Leaf g x ≡ Leaf g y → x ≡ y
leaf_number g x y e = cc

pub window_still : (old new : List ℕ) (satp at n from : ℕ) (bytes : List ℕ) (roles : ℕ → Role) (g : ℕ) (m : Maps) (start size : ℕ) (writes : Bool) → Stands old roles g m → Writes old new satp at n from bytes roles g m → IsMapped m start size writes → start + size ≤ 4294967296 → start % 4096 ≡ 0 → at % 4096 ≡ 0 → n % 4096 ≡ 0 → (start + size ≤ at) ⊎ (at + n ≤ start) → seen new (satp_of m.root) start size ≡ seen old (satp_of m.root) start size
window_still old new satp at n from bytes roles g m start size writes s w mapped top a b c out =
    seen_by_frames old new roles g m start size writes s w.stands mapped top (λ x low high p.
    w.kept p.page.frame (x % 4096)
    (λ v l u e.
    let same : x / 4096 ≡ v = leaf_number g (x / 4096) v (sym (s.owns.pages (x / 4096) p.page p.mapped) ∙ e) in
    ⊎_elim (λ z. omega (arith, same, l, u, low, high, a, b, c, z)) (λ z. omega (arith, same, l, u, low, high, a, b, c, z)) out)
    (omega arith))

-- the windows of a program
text_added : (old frames : List ℕ) (root : ℕ) (p : ProgImage) (low : ℕ) (before : ℕ → Role) (g nt nd ns : ℕ) → Ranges p low nt nd ns → Added (site_of old frames root before g) (all_of p low nt nd ns) p.text_at nt false
text_added old frames root p low before g nt nd ns r =
    let a = r.text_at in
    let b = r.text in
    record { start = omega (arith, a); top = omega (arith, a, b); looks = λ v l u. text_look p low nt nd ns v l u }

data_added : (old frames : List ℕ) (root : ℕ) (p : ProgImage) (low : ℕ) (before : ℕ → Role) (g nt nd ns : ℕ) → Ranges p low nt nd ns → Added (site_of old frames root before g) (all_of p low nt nd ns) p.data_at nd true
data_added old frames root p low before g nt nd ns r =
    let a = r.data_at in
    let b = r.contents in
    record { start = omega (arith, a); top = omega (arith, a, b); looks = λ v l u. data_look p low nt nd ns v r l u }

stack_added : (old frames : List ℕ) (root : ℕ) (p : ProgImage) (low : ℕ) (before : ℕ → Role) (g nt nd ns : ℕ) → Ranges p low nt nd ns → Added (site_of old frames root before g) (all_of p low nt nd ns) low ns true
stack_added old frames root p low before g nt nd ns r = record { start = r.whole; top = r.top; looks = λ v l u. stack_look p low nt nd ns v r l u }

abbrev pub Built : List ℕ → List ℕ → ℕ → ProgImage → ℕ → (ℕ → Role) → ℕ → ℕ → ℕ → ℕ → List ℕ → ℕ → Type 0
Built old frames root p low before g nt nd ns ram used = Building (site_of old frames root before g) (all_regions p low nt nd ns) (all_of p low nt nd ns) ram used

-- where the text is written, and then the data
pub text_place : (old frames : List ℕ) (root : ℕ) (p : ProgImage) (low stack : ℕ) (before : ℕ → Role) (g nt nd ns : ℕ) (ram : List ℕ) (used : ℕ) → Sized old frames root p low stack before nt nd ns → (b : Built old frames root p low before g nt nd ns ram used) → IsPlace ram (satp_of root) p.text_at (4096 * nt) false b.roles g b.maps
text_place old frames root p low stack before g nt nd ns ram used z b =
    window_place (site_of old frames root before g) (all_regions p low nt nd ns) (all_of p low nt nd ns) ram used p.text_at nt false b (text_added old frames root p low before g nt nd ns (ranges old frames root p low stack before nt nd ns z))

pub data_place : (old frames : List ℕ) (root : ℕ) (p : ProgImage) (low stack : ℕ) (before : ℕ → Role) (g nt nd ns : ℕ) (ram new : List ℕ) (used : ℕ) → Sized old frames root p low stack before nt nd ns → (b : Built old frames root p low before g nt nd ns ram used) → Stands new b.roles g b.maps → IsPlace new (satp_of root) p.data_at (4096 * nd) true b.roles g b.maps
data_place old frames root p low stack before g nt nd ns ram new used z b s =
    let w = window_place (site_of old frames root before g) (all_regions p low nt nd ns) (all_of p low nt nd ns) ram used p.data_at nd true b (data_added old frames root p low before g nt nd ns (ranges old frames root p low stack before nt nd ns z)) in
    record { stands = s; satp_is = w.satp_is; mapped = w.mapped; start = w.start; top = w.top }

pub not_table : (g : ℕ) (r : Role) → is_of g r ≡ false → is_table g r ≡ false
not_table g Free h = refl
not_table g (Root k) h = h
not_table g (Table k i) h = h
not_table g (Leaf k v) h = refl

pub program_mapped : (old frames : List ℕ) (root : ℕ) (p : ProgImage) (low stack : ℕ) (before : ℕ → Role) (g nt nd ns : ℕ) (ram mid new : List ℕ) (used : ℕ) → Sized old frames root p low stack before nt nd ns → Built old frames root p low before g nt nd ns ram used → WritesAll ram mid (satp_of root) p.text_at (4096 * nt) 0 p.text → WritesAll mid new (satp_of root) p.data_at (4096 * nd) 0 p.init → IsMappedIn old new frames root p low stack before g
program_mapped old frames root p low stack before g nt nd ns ram mid new used z b text_writes data_writes = record {
  roles = b.roles;
  maps = b.maps;
  maps_root = b.root_is;
  stands = wd.stands;
  mapped = each_spans P (span_of p.text_at false p.text) (span_of p.data_at true p.init ++ (record { start = low; bytes = 4096 * pages_of stack; writes = true } ∷ []))
      (each_span P p.text_at false p.text (subst (λ n. IsMapped b.maps p.text_at (4096 * n) false) z.text tm))
      (each_spans P (span_of p.data_at true p.init) (record { start = low; bytes = 4096 * pages_of stack; writes = true } ∷ [])
      (each_span P p.data_at true p.init (subst (λ n. IsMapped b.maps p.data_at (4096 * n) true) z.contents dm))
      (subst (λ n. IsMapped b.maps low (4096 * n) true) z.zeros sm, tt));
  others = others;
  tables = λ i l. b.tables i l ∙ ap (list_any (λ m. m == i)) (sym (regions_are p low nt nd ns) ∙ ap regions_of (sym (all_is p low stack nt nd ns z.text z.contents z.zeros)));
  taken = subst (Each (FrameAt (λ r. is_of g r ≡ true) b.roles)) (take_all used frames full) b.taken;
  elsewhere = λ f out. b.elsewhere f (subst (Each (λ a. a ≢ ram_start + 4096 * f)) (sym (take_all used frames full)) out);
  kept = λ f k none small.
      wd.kept f k (λ v l u e. apart (sym (leaf_is_of g v (b.roles f) e) ∙ none)) small
      ∙ wt.kept f k (λ v l u e. apart (sym (leaf_is_of g v (b.roles f) e) ∙ none)) small
      ∙ b.kept f k (not_table g (b.roles f) none) small;
  long = wd.long ∙ wt.long ∙ b.long;
  text = subst (λ x. seen new (satp_of x) p.text_at (4096 * pages_of (length p.text)) ≡ paged p.text) b.root_is (subst (λ n. seen new (satp_of b.maps.root) p.text_at (4096 * n) ≡ paged p.text) z.text shown_text);
  contents = subst (λ x. seen new (satp_of x) p.data_at (4096 * pages_of (length p.init)) ≡ paged p.init) b.root_is (subst (λ n. seen new (satp_of b.maps.root) p.data_at (4096 * n) ≡ paged p.init) z.contents shown_data);
  zeros = subst (λ x. seen new (satp_of x) low (4096 * pages_of stack) ≡ zeros (4096 * pages_of stack)) b.root_is (subst (λ n. seen new (satp_of b.maps.root) low (4096 * n) ≡ zeros (4096 * n)) z.zeros shown_stack);
}
  where
    P : Span → Type 0
    P s = IsMapped b.maps s.start s.bytes s.writes

    site : Site
    site = site_of old frames root before g

    all : List Entry
    all = all_of p low nt nd ns

    regions : List ℕ
    regions = all_regions p low nt nd ns

    r : Ranges p low nt nd ns
    r = ranges old frames root p low stack before nt nd ns z

    ta : Added site all p.text_at nt false
    ta = text_added old frames root p low before g nt nd ns r

    da : Added site all p.data_at nd true
    da = data_added old frames root p low before g nt nd ns r

    sa : Added site all low ns true
    sa = stack_added old frames root p low before g nt nd ns r

    tm : IsMapped b.maps p.text_at (4096 * nt) false
    tm = window_mapped site regions all ram used p.text_at nt false b ta

    dm : IsMapped b.maps p.data_at (4096 * nd) true
    dm = window_mapped site regions all ram used p.data_at nd true b da

    sm : IsMapped b.maps low (4096 * ns) true
    sm = window_mapped site regions all ram used low ns true b sa

    wt : Writes ram mid (satp_of root) p.text_at (4096 * nt) 0 p.text b.roles g b.maps
    wt = text_writes false b.roles g b.maps (text_place old frames root p low stack before g nt nd ns ram used z b)

    wd : Writes mid new (satp_of root) p.data_at (4096 * nd) 0 p.init b.roles g b.maps
    wd = data_writes true b.roles g b.maps (data_place old frames root p low stack before g nt nd ns ram mid used z b wt.stands)

    full : length frames ≤ used
    full =
        let e = enough_is old frames root p low stack before nt nd ns z in
        let c = b.count in
        let l = length-all p low nt nd ns in
        omega (arith, e, c, l)

    apart : true ≡ false → ⊥
    apart x = cc

    shown_text : seen new (satp_of b.maps.root) p.text_at (4096 * nt) ≡ paged p.text
    shown_text =
        let a = r.text_at in
        let c = r.text in
        let d = r.data_at in
        window_still mid new (satp_of root) p.data_at (4096 * nd) 0 p.init b.roles g b.maps p.text_at (4096 * nt) false wt.stands wd tm (omega (arith, a, c)) (omega (arith, a)) (omega (arith, d)) (omega arith) (inl (omega (arith, a, c, d)))
        ∙ ap (λ x. seen mid (satp_of x) p.text_at (4096 * nt)) b.root_is
        ∙ wt.shows
        ∙ ap (λ x. put_bytes (seen ram (satp_of x) p.text_at (4096 * nt)) 0 p.text) (sym b.root_is)
        ∙ ap (λ x. put_bytes x 0 p.text) (window_zeros site regions all ram used p.text_at nt false b ta)
        ∙ ap (λ n. put_bytes (zeros (4096 * n)) 0 p.text) z.text
        ∙ put-zeros p.text

    shown_data : seen new (satp_of b.maps.root) p.data_at (4096 * nd) ≡ paged p.init
    shown_data =
        let a = r.text_at in
        let c = r.text in
        let d = r.data_at in
        let f = r.contents in
        ap (λ x. seen new (satp_of x) p.data_at (4096 * nd)) b.root_is
        ∙ wd.shows
        ∙ ap (λ x. put_bytes (seen mid (satp_of x) p.data_at (4096 * nd)) 0 p.init) (sym b.root_is)
        ∙ ap (λ x. put_bytes x 0 p.init) (window_still ram mid (satp_of root) p.text_at (4096 * nt) 0 p.text b.roles g b.maps p.data_at (4096 * nd) true b.stands wt dm (omega (arith, d, f)) (omega (arith, d)) (omega (arith, a)) (omega arith) (inr (omega (arith, a, c, d)))
        ∙ window_zeros site regions all ram used p.data_at nd true b da)
        ∙ ap (λ n. put_bytes (zeros (4096 * n)) 0 p.init) z.contents
        ∙ put-zeros p.init

    shown_stack : seen new (satp_of b.maps.root) low (4096 * ns) ≡ zeros (4096 * ns)
    shown_stack =
        let a = r.text_at in
        let c = r.text in
        let d = r.data_at in
        let f = r.contents in
        let s = r.stack in
        let w = r.whole in
        let top = r.top in
        window_still mid new (satp_of root) p.data_at (4096 * nd) 0 p.init b.roles g b.maps low (4096 * ns) true wt.stands wd sm (omega (arith, w, top)) w (omega (arith, d)) (omega arith) (inr (omega (arith, d, f, s)))
        ∙ window_still ram mid (satp_of root) p.text_at (4096 * nt) 0 p.text b.roles g b.maps low (4096 * ns) true b.stands wt sm (omega (arith, w, top)) w (omega (arith, a)) (omega arith) (inr (omega (arith, a, c, s)))
        ∙ window_zeros site regions all ram used low ns true b sa

    others : (at : ℕ) → at < 4294967296 → first_span 0 (program_spans p low stack) at ≡ None → b.maps.pages (at / 4096) ≡ None
    others at small none =
        let e = none_covers 0 (program_spans p low stack) at none in
        let tail = each_back (λ s. covers s at ≡ false) (span_of p.text_at false p.text) (span_of p.data_at true p.init ++ (record { start = low; bytes = 4096 * pages_of stack; writes = true } ∷ [])) e in
        let t = span_clear p.text_at false p.text at (each_front (λ s. covers s at ≡ false) (span_of p.text_at false p.text) (span_of p.data_at true p.init ++ (record { start = low; bytes = 4096 * pages_of stack; writes = true } ∷ [])) e) in
        let d = span_clear p.data_at true p.init at (each_front (λ s. covers s at ≡ false) (span_of p.data_at true p.init) (record { start = low; bytes = 4096 * pages_of stack; writes = true } ∷ []) tail) in
        let s = not_covered (record { start = low; bytes = 4096 * pages_of stack; writes = true }) at (each_back (λ s. covers s at ≡ false) (span_of p.data_at true p.init) (record { start = low; bytes = 4096 * pages_of stack; writes = true } ∷ []) tail).0 in
        let a = r.text_at in
        let c = r.data_at in
        let w = r.whole in
        let nt_is = z.text in
        let nd_is = z.contents in
        let ns_is = z.zeros in
        b.others (at / 4096) (no_look p low nt nd ns (at / 4096)
        (⊎_elim (λ l. inl (omega (arith, a, l))) (λ l. inr (omega (arith, a, l, nt_is))) t)
        (⊎_elim (λ l. inl (omega (arith, c, l))) (λ l. inr (omega (arith, c, l, nd_is))) d)
        (⊎_elim (λ l. inl (omega (arith, w, l))) (λ l. inr (omega (arith, w, l, ns_is))) s))

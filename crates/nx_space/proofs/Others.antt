-- What the other groups see of what is written through the entered view.
use Rattle.std.proofs.Common.{◌≡◌, ◌≢◌, ℕ, Bool, true, false, List, [], ◌∷◌, take, drop, refl, sym, ap, ◌∙◌, map}
use Rattle.nx_base.specs.Views.{Window, View}
use Rattle.nx_space.specs.World.{Home, Common, Own, Part, MemoryMap, World, IsEntered, has_view, group_of, group_in, bytes_of, seen_by, view_of, window_of}
use Rattle.nx_space.specs.Lawful.{IsOwn, AreOwn, IsWorld, OnlyEntered}
use Rattle.nx_space.proofs.Groups.{own_other}

-- without pages every group has the same view
pub one_view : (w : World) (g h : ℕ) → IsWorld w → w.memory_map.is_paged ≡ false → has_view w.groups g ≡ true → has_view w.groups h ≡ true → view_of w g ≡ view_of w h
one_view w g h law e a b =
    let p = law.alike e g a in
    let q = law.alike e h b in
    ap (λ ps. shown (group_of w.groups g).own ps) (p.0 ∙ sym q.0) ∙ ap (λ own. shown own (group_of w.groups h).parts) (p.1 ∙ sym q.1)
  where
    shown : List (List ℕ) → List Part → View
    shown own ps = record { windows = map (window_of (bytes_of w.common own)) ps; is_paged = w.memory_map.is_paged }

own_window : (c d own : List (List ℕ)) (p : Part) → IsOwn p.home → window_of (bytes_of c own) p ≡ window_of (bytes_of d own) p
own_window c d own p o = ap (λ bs. let w : Window = record { start = p.start; reads = p.reads; writes = p.writes; runs = p.runs; region = p.region; bytes = take p.bytes (drop p.from bs) } in w) (by_home p.home o)
  where
    by_home : (h : Home) → IsOwn h → bytes_of c own h ≡ bytes_of d own h
    by_home (Common k) o = absurd o
    by_home (Own k) o = refl

own_windows : (c d own : List (List ℕ)) (ps : List Part) → AreOwn ps → map (window_of (bytes_of c own)) ps ≡ map (window_of (bytes_of d own)) ps
own_windows c d own [] a = refl
own_windows c d own (p ∷ ps) a = ap (λ w. w ∷ map (window_of (bytes_of c own)) ps) (own_window c d own p a.0) ∙ ap (λ ws. window_of (bytes_of d own) p ∷ ws) (own_windows c d own ps a.1)

-- with pages no other group sees what is written
pub none_seen : (v w : World) (h : ℕ) → IsWorld v → v.memory_map.is_paged ≡ true → OnlyEntered v w → has_view v.groups h ≡ true → h ≢ v.entered → view_of w h ≡ view_of v h
none_seen v w h law e o there ne =
    let g = ap (λ gs. group_of gs h) o.groups ∙ own_other (group_in w).own v.groups v.entered h ne in
    ap (λ k. shown w.common k.own k.parts w.memory_map.is_paged) g
    ∙ ap (λ b. shown w.common (group_of v.groups h).own (group_of v.groups h).parts b) (ap (λ p. p.is_paged) o.memory_map)
    ∙ ap (λ ws. let u : View = record { windows = ws; is_paged = v.memory_map.is_paged } in u) (own_windows w.common v.common (group_of v.groups h).own (group_of v.groups h).parts (law.alone e h there).own)
  where
    shown : List (List ℕ) → List (List ℕ) → List Part → Bool → View
    shown common own ps paged = record { windows = map (window_of (bytes_of common own)) ps; is_paged = paged }

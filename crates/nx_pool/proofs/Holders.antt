-- A list of holders of chains, of which a part changes. A holder is whatever has chains and is seen
-- with their bytes: a file, a message, a queue, an entry of a table.
use Rattle.std.proofs.Common.{◌≡◌, ℕ, zero, suc, ◌<◌, List, [], ◌∷◌, ◌++◌, length, map, refl, sym, ap, ◌∙◌, subst, arith, append_assoc, append-nil, take, drop}
use Rattle.std.specs.Prelude.{slice_get, slice_set, Some, flat_map, remove}
use Rattle.std.proofs.lemmas.List.{set_split, map-append, take-map, drop-map, length-map}
use Rattle.std.proofs.lemmas.List.Concat.{flat_map-append}
use Rattle.nx_pool.specs.declared.chain.Chain.{Chain}
use Rattle.nx_pool.specs.Effects.{IsHeld, Becomes, Comes, Goes}
use Rattle.nx_pool.specs.Moves.{AreHeld, Moves}
use Rattle.nx_pool.proofs.EffectLemmas.{Same-trans}

-- of chains that have the bytes that they had, a part has too
same_parts : (content content' : Chain → List ℕ) (xs ys : List Chain) → map content' (xs ++ ys) ≡ map content (xs ++ ys) → (map content' xs ≡ map content xs) × (map content' ys ≡ map content ys)
same_parts content content' [] ys e = (refl, e)
same_parts content content' (x ∷ xs) ys e =
    let more : map content' (xs ++ ys) ≡ map content (xs ++ ys) = cc in
    let rest = same_parts content content' xs ys more in
    let first : content' x ≡ content x = cc in
    let before = rest.0 in
    (cc, rest.1)

pub same_before : (content content' : Chain → List ℕ) (xs ys : List Chain) → map content' (xs ++ ys) ≡ map content (xs ++ ys) → map content' xs ≡ map content xs
same_before content content' xs ys e = (same_parts content content' xs ys e).0

pub same_after : (content content' : Chain → List ℕ) (xs ys : List Chain) → map content' (xs ++ ys) ≡ map content (xs ++ ys) → map content' ys ≡ map content ys
same_after content content' xs ys e = (same_parts content content' xs ys e).1

-- ---- the store's effects on one chain, as effects on several

pub Moves-becomes : (holds holds' : List Chain → Type 0) (content content' : Chain → List ℕ) (c c' : Chain) (bytes : List ℕ) → Becomes holds holds' content content' c c' bytes → Moves holds holds' content content' (c ∷ []) (c' ∷ [])
Moves-becomes holds holds' content content' c c' bytes b = record { held = b.held; others = b.others }

pub Moves-comes : (holds holds' : List Chain → Type 0) (content content' : Chain → List ℕ) (c' : Chain) (bytes : List ℕ) → Comes holds holds' content content' c' bytes → Moves holds holds' content content' [] (c' ∷ [])
Moves-comes holds holds' content content' c' bytes b = record { held = b.held; others = b.others }

pub Moves-goes : (holds holds' : List Chain → Type 0) (content content' : Chain → List ℕ) (c : Chain) → Goes holds holds' content content' c → Moves holds holds' content content' (c ∷ []) []
Moves-goes holds holds' content content' c b = record { held = b.held; others = b.others }

pub Moves-refl : (holds : List Chain → Type 0) (content : Chain → List ℕ) (cs : List Chain) → Moves holds holds content content cs cs
Moves-refl holds content cs = record { held = λ xs ys h. h; others = λ xs ys h. record { before = refl; after = refl } }

pub Moves-trans : (holds holds' holds'' : List Chain → Type 0) (content content' content'' : Chain → List ℕ) (cs cs' cs'' : List Chain) → Moves holds holds' content content' cs cs' → Moves holds' holds'' content' content'' cs' cs'' → Moves holds holds'' content content'' cs cs''
Moves-trans holds holds' holds'' content content' content'' cs cs' cs'' a b = record {
  held = λ xs ys h. b.held xs ys (a.held xs ys h);
  others = λ xs ys h. Same-trans content content' content'' xs ys (a.others xs ys h) (b.others xs ys (a.held xs ys h));
}

pub are_still_held : (holds holds' : List Chain → Type 0) (content content' : Chain → List ℕ) (cs cs' : List Chain) → AreHeld holds cs → Moves holds holds' content content' cs cs' → AreHeld holds' cs'
are_still_held holds holds' content content' cs cs' h m = record { before = h.before; after = h.after; held = m.held h.before h.after h.held }

-- one chain that is held
pub one_is_held : (holds : List Chain → Type 0) (c : Chain) → AreHeld holds (c ∷ []) → IsHeld holds c
one_is_held holds c h = record { before = h.before; after = h.after; held = h.held }

-- ---- some chains among others

regroup : (xs ls cs rs ys : List Chain) → xs ++ ((ls ++ (cs ++ rs)) ++ ys) ≡ (xs ++ ls) ++ (cs ++ (rs ++ ys))
regroup xs ls cs rs ys =
    ap (λ q. xs ++ q) (append_assoc ls (cs ++ rs) ys ∙ ap (λ q. ls ++ q) (append_assoc cs rs ys)) ∙ sym (append_assoc xs ls (cs ++ (rs ++ ys)))

pub moves_inside : (holds holds' : List Chain → Type 0) (content content' : Chain → List ℕ) (ls cs cs' rs : List Chain) → Moves holds holds' content content' cs cs' → Moves holds holds' content content' (ls ++ (cs ++ rs)) (ls ++ (cs' ++ rs))
moves_inside holds holds' content content' ls cs cs' rs m = record {
  held = λ xs ys h. subst holds' (sym (regroup xs ls cs' rs ys)) (m.held (xs ++ ls) (rs ++ ys) (subst holds (regroup xs ls cs rs ys) h));
  others = λ xs ys h.
      let s = m.others (xs ++ ls) (rs ++ ys) (subst holds (regroup xs ls cs rs ys) h) in
      record { before = same_before content content' xs ls s.before; after = same_after content content' rs ys s.after };
}

pub held_inside : (holds : List Chain → Type 0) (ls cs rs : List Chain) → AreHeld holds (ls ++ (cs ++ rs)) → AreHeld holds cs
held_inside holds ls cs rs h = record { before = h.before ++ ls; after = rs ++ h.after; held = subst holds (regroup h.before ls cs rs h.after) h.held }

-- the chains on both sides have the bytes that they had
pub sides_same : (holds holds' : List Chain → Type 0) (content content' : Chain → List ℕ) (ls cs cs' rs : List Chain) → AreHeld holds (ls ++ (cs ++ rs)) → Moves holds holds' content content' cs cs' → (map content' ls ≡ map content ls) × (map content' rs ≡ map content rs)
sides_same holds holds' content content' ls cs cs' rs h m =
    let s = m.others (h.before ++ ls) (rs ++ h.after) (subst holds (regroup h.before ls cs rs h.after) h.held) in
    (same_after content content' h.before ls s.before, same_before content content' rs h.after s.after)

-- ---- holders: each has chains, and is seen with their bytes

-- the holders became these, and are seen as those
pub record Step {H A : Type 0} (parts : H → List Chain) (seen : (Chain → List ℕ) → H → A) (holds holds' : List Chain → Type 0) (content content' : Chain → List ℕ) (hs hs' : List H) (as' : List A) : Type 0 where
  pub moves : Moves holds holds' content content' (flat_map parts hs) (flat_map parts hs')
  pub state : map (seen content') hs' ≡ as'

module _ {H A : Type 0} (parts : H → List Chain) (seen : (Chain → List ℕ) → H → A) (law : (content content' : Chain → List ℕ) (h : H) → map content' (parts h) ≡ map content (parts h) → seen content' h ≡ seen content h) where
  pub seen_same : (content content' : Chain → List ℕ) (hs : List H) → map content' (flat_map parts hs) ≡ map content (flat_map parts hs) → map (seen content') hs ≡ map (seen content) hs
  seen_same content content' [] e = refl
  seen_same content content' (h ∷ hs) e =
      let s = same_parts content content' (parts h) (flat_map parts hs) e in
      let first = law content content' h s.0 in
      let rest = seen_same content content' hs s.1 in
      cc

  flat_map-three : (ls hs rs : List H) → flat_map parts (ls ++ (hs ++ rs)) ≡ flat_map parts ls ++ (flat_map parts hs ++ flat_map parts rs)
  flat_map-three ls hs rs = flat_map-append parts ls (hs ++ rs) ∙ ap (λ q. flat_map parts ls ++ q) (flat_map-append parts hs rs)

  pub part_held : (holds : List Chain → Type 0) (ls hs rs : List H) → AreHeld holds (flat_map parts (ls ++ (hs ++ rs))) → AreHeld holds (flat_map parts hs)
  part_held holds ls hs rs h = held_inside holds (flat_map parts ls) (flat_map parts hs) (flat_map parts rs) (subst (AreHeld holds) (flat_map-three ls hs rs) h)

  -- a part of the holders becomes another
  pub step_part : (holds holds' : List Chain → Type 0) (content content' : Chain → List ℕ) (ls hs hs' rs : List H) (as' : List A) → AreHeld holds (flat_map parts (ls ++ (hs ++ rs)))
      → Moves holds holds' content content' (flat_map parts hs) (flat_map parts hs') → map (seen content') hs' ≡ as'
      → Step parts seen holds holds' content content' (ls ++ (hs ++ rs)) (ls ++ (hs' ++ rs)) (map (seen content) ls ++ (as' ++ map (seen content) rs))
  step_part holds holds' content content' ls hs hs' rs as' h m e =
      let s = sides_same holds holds' content content' (flat_map parts ls) (flat_map parts hs) (flat_map parts hs') (flat_map parts rs) (subst (AreHeld holds) (flat_map-three ls hs rs) h) m in
      let before = seen_same content content' ls s.0 in
      let after = seen_same content content' rs s.1 in
      record {
        moves = rw (flat_map-three ls hs rs, flat_map-three ls hs' rs) (moves_inside holds holds' content content' (flat_map parts ls) (flat_map parts hs) (flat_map parts hs') (flat_map parts rs) m);
        state = map-append (seen content') ls (hs' ++ rs) ∙ ap (λ q. map (seen content') ls ++ q) (map-append (seen content') hs' rs) ∙ cc;
      }

  split_at : (hs : List H) (p : ℕ) (h : H) → slice_get hs p ≡ Some h → hs ≡ take p hs ++ (h ∷ [] ++ drop (suc p) hs)
  split_at [] p h e = absurd cc
  split_at (x ∷ xs) zero h e = let k : x ≡ h = cc in ap (λ q. q ∷ xs) k
  split_at (x ∷ xs) (suc p) h e = ap (λ q. x ∷ q) (split_at xs p h e)

  pub place_below : (hs : List H) (p : ℕ) (h : H) → slice_get hs p ≡ Some h → p < length hs
  place_below [] p h e = absurd cc
  place_below (x ∷ xs) zero h e = omega arith
  place_below (x ∷ xs) (suc p) h e = let l = place_below xs p h e in omega arith

  pub place_held : (holds : List Chain → Type 0) (hs : List H) (p : ℕ) (h : H) → AreHeld holds (flat_map parts hs) → slice_get hs p ≡ Some h → AreHeld holds (parts h)
  place_held holds hs p h held e =
      subst (AreHeld holds) (append-nil (parts h)) (part_held holds (take p hs) (h ∷ []) (drop (suc p) hs) (subst (λ q. AreHeld holds (flat_map parts q)) (split_at hs p h e) held))

  -- the holder at a place becomes another
  pub step_set : (holds holds' : List Chain → Type 0) (content content' : Chain → List ℕ) (hs : List H) (p : ℕ) (h h' : H) (a' : A) → AreHeld holds (flat_map parts hs) → slice_get hs p ≡ Some h
      → Moves holds holds' content content' (parts h) (parts h') → seen content' h' ≡ a' → Step parts seen holds holds' content content' hs (slice_set hs p h') (slice_set (map (seen content) hs) p a')
  step_set holds holds' content content' hs p h h' a' held e m k =
      let l = place_below hs p h e in
      let split = split_at hs p h e in
      let ls = take p hs in
      let rs = drop (suc p) hs in
      let m' = subst (λ q. Moves holds holds' content content' q (parts h' ++ [])) (sym (append-nil (parts h))) (subst (λ q. Moves holds holds' content content' (parts h) q) (sym (append-nil (parts h'))) m) in
      let s = step_part holds holds' content content' ls (h ∷ []) (h' ∷ []) rs (a' ∷ []) (subst (λ q. AreHeld holds (flat_map parts q)) split held) m' (ap (λ q. q ∷ []) k) in
      let new = set_split hs p h' l in
      let seen_new = set_split (map (seen content) hs) p a' (omega (arith, l, length-map hs (seen content))) in
      record {
        moves = subst (λ q. Moves holds holds' content content' (flat_map parts q) (flat_map parts (slice_set hs p h'))) (sym split) (subst (λ q. Moves holds holds' content content' (flat_map parts (ls ++ (h ∷ [] ++ rs))) (flat_map parts q)) (sym new) s.moves);
        state = ap (map (seen content')) new ∙ s.state ∙ ap (λ q. q ++ a' ∷ map (seen content) rs) (sym (take-map (seen content) p hs)) ∙ ap (λ q. take p (map (seen content) hs) ++ a' ∷ q) (sym (drop-map (seen content) (suc p) hs)) ∙ sym seen_new;
      }

  -- the holder at a place goes
  pub step_remove : (holds holds' : List Chain → Type 0) (content content' : Chain → List ℕ) (hs : List H) (p : ℕ) (h : H) → AreHeld holds (flat_map parts hs) → slice_get hs p ≡ Some h
      → Moves holds holds' content content' (parts h) [] → Step parts seen holds holds' content content' hs (remove hs p) (remove (map (seen content) hs) p)
  step_remove holds holds' content content' hs p h held e m =
      let split = split_at hs p h e in
      let ls = take p hs in
      let rs = drop (suc p) hs in
      let m' = subst (λ q. Moves holds holds' content content' q []) (sym (append-nil (parts h))) m in
      let s = step_part holds holds' content content' ls (h ∷ []) [] rs [] (subst (λ q. AreHeld holds (flat_map parts q)) split held) m' refl in
      record {
        moves = subst (λ q. Moves holds holds' content content' (flat_map parts q) (flat_map parts (remove hs p))) (sym split) s.moves;
        state = s.state ∙ ap (λ q. q ++ map (seen content) rs) (sym (take-map (seen content) p hs)) ∙ ap (λ q. take p (map (seen content) hs) ++ q) (sym (drop-map (seen content) (suc p) hs));
      }

  -- a holder comes to the end
  pub step_push : (holds holds' : List Chain → Type 0) (content content' : Chain → List ℕ) (hs : List H) (h' : H) (a' : A) → AreHeld holds (flat_map parts hs)
      → Moves holds holds' content content' [] (parts h') → seen content' h' ≡ a' → Step parts seen holds holds' content content' hs (hs ++ h' ∷ []) (map (seen content) hs ++ a' ∷ [])
  step_push holds holds' content content' hs h' a' held m k =
      let m' = subst (λ q. Moves holds holds' content content' [] q) (sym (append-nil (parts h'))) m in
      let s = step_part holds holds' content content' hs [] (h' ∷ []) [] (a' ∷ []) (subst (λ q. AreHeld holds (flat_map parts q)) (sym (append-nil hs)) held) m' (ap (λ q. q ∷ []) k) in
      record {
        moves = subst (λ q. Moves holds holds' content content' (flat_map parts q) (flat_map parts (hs ++ h' ∷ []))) (append-nil hs) s.moves;
        state = s.state;
      }

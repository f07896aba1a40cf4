-- Tables that keep their places, and descriptors that are none.
use Rattle.std.proofs.Common.{◌≡◌, ℕ, ◌*◌, ◌≤◌, ◌<◌, Bool, true, false, List, [], ◌∷◌, length, suc, ◌+◌, take, drop, refl, ◌∙◌, ap, arith, rules}
use Rattle.std.specs.Prelude.{Option, Some, None, slice_set, nat_lt, if◌then◌else◌}
use Rattle.std.specs.List.{position_from}
use Rattle.std.specs.Option.{is_none}
use Rattle.std.proofs.lemmas.List.{length-set, length-take}
use Rattle.std.proofs.lemmas.Bool.Decides.{nat_tests}
use Rattle.nx_ksys.specs.declared.node.Open.{Open}
use Rattle.nx_ksys.specs.Descriptors.{description_at, kept_if, free_descriptor}
use Rattle.nx_objects.specs.declared.objects.Objects.{Objects}
use Rattle.nx_objects.specs.Tables.{ArePlaced, SamePlaces}

-- a description is set
pub placed_description : (n place : ℕ) (o : Objects) (to : Option Open) (ds : List (Option Open)) → ds ≡ slice_set o.descriptions place to → ArePlaced n o → ArePlaced n (record o { descriptions = ds })
placed_description n place o to ds e p = record { few = p.few; descriptors = p.descriptors; descriptions = ap length e ∙ length-set o.descriptions place to ∙ p.descriptions; queues = p.queues; semaphores = p.semaphores }

pub same_description : (place : ℕ) (o o' : Objects) (to : Option Open) (ds : List (Option Open)) → ds ≡ slice_set o.descriptions place to → SamePlaces (record o { descriptions = ds }) o' → SamePlaces o o'
same_description place o o' to ds e s = record { descriptors = s.descriptors; descriptions = s.descriptions ∙ ap length e ∙ length-set o.descriptions place to; queues = s.queues; semaphores = s.semaphores; paths = s.paths }

-- a descriptor is set
pub placed_descriptor : (n place : ℕ) (o : Objects) (to : Option ℕ) (ds : List (Option ℕ)) → ds ≡ slice_set o.descriptors place to → ArePlaced n o → ArePlaced n (record o { descriptors = ds })
placed_descriptor n place o to ds e p = record { few = p.few; descriptors = ap length e ∙ length-set o.descriptors place to ∙ p.descriptors; descriptions = p.descriptions; queues = p.queues; semaphores = p.semaphores }

pub same_descriptor : (place : ℕ) (o o' : Objects) (to : Option ℕ) (ds : List (Option ℕ)) → ds ≡ slice_set o.descriptors place to → SamePlaces (record o { descriptors = ds }) o' → SamePlaces o o'
same_descriptor place o o' to ds e s = record { descriptors = s.descriptors ∙ ap length e ∙ length-set o.descriptors place to; descriptions = s.descriptions; queues = s.queues; semaphores = s.semaphores; paths = s.paths }

pub same_places : (o : Objects) → SamePlaces o o
same_places o = record { descriptors = refl; descriptions = refl; queues = refl; semaphores = refl; paths = refl }

-- a place that was kept or emptied
pub length-kept : {A : Type 0} (b : Bool) (xs : List (Option A)) (place : ℕ) → length (kept_if b xs place) ≡ length xs
length-kept true xs place = refl
length-kept false xs place = length-set xs place None

not_below : (fd : ℕ) → 32 ≤ fd → nat_lt fd 32 ≡ false
not_below fd le = grind (arith, nat_tests)

-- no group has more descriptors
pub no_descriptor : (descriptors : List (Option ℕ)) (place fd : ℕ) → 32 ≤ fd → description_at descriptors place fd ≡ None
no_descriptor descriptors place fd le = let e = not_below fd le in rw e refl

pub placed_still : (n : ℕ) (o o' : Objects) → ArePlaced n o → SamePlaces o o' → ArePlaced n o'
placed_still n o o' p s = record {
  few = p.few;
  descriptors = s.descriptors ∙ p.descriptors;
  descriptions = s.descriptions ∙ p.descriptions;
  queues = omega (arith, s.queues, p.queues);
  semaphores = omega (arith, s.semaphores, p.semaphores);
}

pub same_then : (o o' o'' : Objects) → SamePlaces o o' → SamePlaces o' o'' → SamePlaces o o''
same_then o o' o'' s t = record {
  descriptors = t.descriptors ∙ s.descriptors;
  descriptions = t.descriptions ∙ s.descriptions;
  queues = t.queues ∙ s.queues;
  semaphores = t.semaphores ∙ s.semaphores;
  paths = t.paths ∙ s.paths;
}

-- ---- free descriptors

position_by : (n m : ℕ) (rest : Option ℕ) (b : Bool) (j : ℕ) → (rest ≡ Some j → j < n + 1 + m) → (if b then Some n else rest) ≡ Some j → j < n + suc m
position_by n m rest true j h e = let s : n ≡ j = cc in omega arith
position_by n m rest false j h e = let l = h e in omega arith

pub position_within : {A : Type 0} (p : A → Bool) (n j : ℕ) (xs : List A) → position_from p n xs ≡ Some j → j < n + length xs
position_within p n j [] e = absurd cc
position_within p n j (x ∷ xs) e = position_by n (length xs) (position_from p (n + 1) xs) (p x) j (λ h. position_within p (n + 1) j xs h) e

-- a group has no more descriptors than 32
pub free_below : (descriptors : List (Option ℕ)) (place fd : ℕ) → free_descriptor descriptors place ≡ Some fd → fd < 32
unfolding free_descriptor
free_below descriptors place fd e =
    let l = position_within is_none 0 fd (take 32 (drop (32 * place) descriptors)) e in
    let m = length-take 32 (drop (32 * place) descriptors) in
    omega (arith, l, m)

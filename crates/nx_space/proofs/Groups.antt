-- Groups by their numbers, and a group that changes.
use Rattle.std.proofs.Common.{◌≡◌, ◌≢◌, ℕ, ◌+◌, ◌==◌, Bool, true, false, ◌||◌, List, [], ◌∷◌, ◌++◌, length, refl, sym, ap, ◌∙◌, arith}
use Rattle.std.specs.Prelude.{if◌then◌else◌}
use Rattle.std.proofs.lemmas.Bool.Decides.{nat_tests}
use Rattle.nx_space.specs.World.{Part, Group, has_view, group_of, no_group}
use Rattle.nx_space.specs.Places.{with_own}
use Rattle.nx_space.specs.Starts.{change_group, without}

pub same_number : (a b : ℕ) → a ≡ b → (a == b) ≡ true
same_number a b e = grind (arith, nat_tests)

pub other_number : (a b : ℕ) → a ≢ b → (a == b) ≡ false
other_number a b ne = grind (arith, nat_tests)

-- a test of a number, as a fact
pub is_same : (a b : ℕ) → (a == b) ≡ true → a ≡ b
is_same a b e = grind (arith, nat_tests)

-- a change of one group
pub change_view : (f : Group → Group) (gs : List Group) (number m : ℕ) → ((g : Group) → (f g).number ≡ g.number) → has_view (change_group f gs number) m ≡ has_view gs m
unfolding has_view change_group
change_view f [] number m n = refl
change_view f (g ∷ gs) number m n = by_test (g.number == number) (change_view f gs number m n)
  where
    by_test : (b : Bool) → has_view (change_group f gs number) m ≡ has_view gs m → has_view (if b then f g ∷ gs else g ∷ change_group f gs number) m ≡ ((g.number == m) || has_view gs m)
    by_test true h = ap (λ k. (k == m) || has_view gs m) (n g)
    by_test false h = ap (λ b. (g.number == m) || b) h

pub change_same : (f : Group → Group) (gs : List Group) (number : ℕ) → ((g : Group) → (f g).number ≡ g.number) → has_view gs number ≡ true → group_of (change_group f gs number) number ≡ f (group_of gs number)
unfolding has_view group_of change_group
change_same f [] number n h = absurd cc
change_same f (g ∷ gs) number n h = by_test (g.number == number) refl h (λ r. change_same f gs number n r)
  where
    by_test : (b : Bool) → (g.number == number) ≡ b → (b || has_view gs number) ≡ true → (has_view gs number ≡ true → group_of (change_group f gs number) number ≡ f (group_of gs number)) → group_of (if b then f g ∷ gs else g ∷ change_group f gs number) number ≡ f (if b then g else group_of gs number)
    by_test true e h more = ap (λ b. if b then f g else group_of gs number) (ap (λ k. k == number) (n g) ∙ e)
    by_test false e h more = ap (λ b. if b then g else group_of (change_group f gs number) number) e ∙ more h

pub change_other : (f : Group → Group) (gs : List Group) (number m : ℕ) → ((g : Group) → (f g).number ≡ g.number) → m ≢ number → group_of (change_group f gs number) m ≡ group_of gs m
unfolding group_of change_group
change_other f [] number m n ne = refl
change_other f (g ∷ gs) number m n ne = by_test (g.number == number) refl (change_other f gs number m n ne)
  where
    apart : (g.number == number) ≡ true → (g.number == m) ≡ false
    apart e = other_number g.number m (λ d. ne (sym d ∙ is_same g.number number e))

    by_test : (b : Bool) → (g.number == number) ≡ b → group_of (change_group f gs number) m ≡ group_of gs m → group_of (if b then f g ∷ gs else g ∷ change_group f gs number) m ≡ (if g.number == m then g else group_of gs m)
    by_test true e h = ap (λ b. if b then f g else group_of gs m) (ap (λ k. k == m) (n g) ∙ apart e) ∙ sym (ap (λ b. if b then g else group_of gs m) (apart e))
    by_test false e h = ap (λ k. if g.number == m then g else k) h

-- other bytes of a group's own are such a change
abbrev pub owning : List (List ℕ) → Group → Group
owning own g = record g { own = own }

pub own_is_change : (own : List (List ℕ)) (gs : List Group) (number : ℕ) → with_own own gs number ≡ change_group (owning own) gs number
unfolding with_own change_group
own_is_change own [] number = refl
own_is_change own (g ∷ gs) number = ap (λ rest. if g.number == number then owning own g ∷ gs else g ∷ rest) (own_is_change own gs number)

pub own_view : (own : List (List ℕ)) (gs : List Group) (number m : ℕ) → has_view (with_own own gs number) m ≡ has_view gs m
own_view own gs number m = ap (λ l. has_view l m) (own_is_change own gs number) ∙ change_view (owning own) gs number m (λ g. refl)

pub own_same : (own : List (List ℕ)) (gs : List Group) (number : ℕ) → has_view gs number ≡ true → group_of (with_own own gs number) number ≡ owning own (group_of gs number)
own_same own gs number h = ap (λ l. group_of l number) (own_is_change own gs number) ∙ change_same (owning own) gs number (λ g. refl) h

pub own_other : (own : List (List ℕ)) (gs : List Group) (number m : ℕ) → m ≢ number → group_of (with_own own gs number) m ≡ group_of gs m
own_other own gs number m ne = ap (λ l. group_of l m) (own_is_change own gs number) ∙ change_other (owning own) gs number m (λ g. refl) ne

-- whatever the group, its windows are as they were
pub own_parts_same : (own : List (List ℕ)) (gs : List Group) (number m : ℕ) → (group_of (with_own own gs number) m).parts ≡ (group_of gs m).parts
unfolding group_of with_own
own_parts_same own [] number m = refl
own_parts_same own (g ∷ gs) number m = by_test (g.number == number) (own_parts_same own gs number m)
  where
    by_number : (b : Bool) → (group_of (with_own own gs number) m).parts ≡ (group_of gs m).parts → (if b then g else group_of (with_own own gs number) m).parts ≡ (if b then g else group_of gs m).parts
    by_number true h = refl
    by_number false h = h

    by_first : (b : Bool) → (if b then owning own g else group_of gs m).parts ≡ (if b then g else group_of gs m).parts
    by_first true = refl
    by_first false = refl

    by_test : (b : Bool) → (group_of (with_own own gs number) m).parts ≡ (group_of gs m).parts → (group_of (if b then owning own g ∷ gs else g ∷ with_own own gs number) m).parts ≡ (if g.number == m then g else group_of gs m).parts
    by_test true h = by_first (g.number == m)
    by_test false h = by_number (g.number == m) h

pub own_again : (a b : List (List ℕ)) (gs : List Group) (number : ℕ) → with_own a (with_own b gs number) number ≡ with_own a gs number
unfolding with_own
own_again a b [] number = refl
own_again a b (g ∷ gs) number = by_test (g.number == number) refl (own_again a b gs number)
  where
    by_test : (t : Bool) → (g.number == number) ≡ t → with_own a (with_own b gs number) number ≡ with_own a gs number → with_own a (if t then owning b g ∷ gs else g ∷ with_own b gs number) number ≡ (if t then owning a g ∷ gs else g ∷ with_own a gs number)
    by_test true e h = ap (λ t. if t then owning a g ∷ gs else owning b g ∷ with_own a gs number) e
    by_test false e h = ap (λ t. if t then owning a g ∷ with_own b gs number else g ∷ with_own a (with_own b gs number) number) e ∙ ap (λ l. g ∷ l) h

pub own_nothing : (gs : List Group) (number : ℕ) → with_own (group_of gs number).own gs number ≡ gs
unfolding with_own group_of
own_nothing [] number = refl
own_nothing (g ∷ gs) number = by_test (g.number == number) (own_nothing gs number)
  where
    by_test : (b : Bool) → with_own (group_of gs number).own gs number ≡ gs → (if b then owning (if b then g else group_of gs number).own g ∷ gs else g ∷ with_own (if b then g else group_of gs number).own gs number) ≡ g ∷ gs
    by_test true h = refl
    by_test false h = ap (λ l. g ∷ l) h

pub own_length : (own : List (List ℕ)) (gs : List Group) (number : ℕ) → length (with_own own gs number) ≡ length gs
unfolding with_own
own_length own [] number = refl
own_length own (g ∷ gs) number = by_test (g.number == number) (own_length own gs number)
  where
    by_test : (b : Bool) → length (with_own own gs number) ≡ length gs → length (if b then owning own g ∷ gs else g ∷ with_own own gs number) ≡ length (g ∷ gs)
    by_test true h = refl
    by_test false h = let e : length (g ∷ with_own own gs number) ≡ length (g ∷ gs) = omega (arith, h) in e

-- a group that comes last
pub last_view : (gs : List Group) (g : Group) (m : ℕ) → has_view (gs ++ g ∷ []) m ≡ (has_view gs m || (g.number == m))
unfolding has_view
last_view [] g m = by_test (g.number == m)
  where
    by_test : (b : Bool) → (b || false) ≡ (false || b)
    by_test true = refl
    by_test false = refl
last_view (k ∷ gs) g m = ap (λ b. (k.number == m) || b) (last_view gs g m) ∙ by_test (k.number == m)
  where
    by_test : (b : Bool) → (b || (has_view gs m || (g.number == m))) ≡ ((b || has_view gs m) || (g.number == m))
    by_test true = refl
    by_test false = refl

pub before_last : (gs : List Group) (g : Group) (m : ℕ) → has_view gs m ≡ true → group_of (gs ++ g ∷ []) m ≡ group_of gs m
unfolding has_view group_of
before_last [] g m h = absurd cc
before_last (k ∷ gs) g m h = by_test (k.number == m) h (λ r. before_last gs g m r)
  where
    by_test : (b : Bool) → (b || has_view gs m) ≡ true → (has_view gs m ≡ true → group_of (gs ++ g ∷ []) m ≡ group_of gs m) → (if b then k else group_of (gs ++ g ∷ []) m) ≡ (if b then k else group_of gs m)
    by_test true h more = refl
    by_test false h more = more h

pub the_last : (gs : List Group) (g : Group) → has_view gs g.number ≡ false → group_of (gs ++ g ∷ []) g.number ≡ g
unfolding has_view group_of
the_last [] g h = ap (λ b. if b then g else no_group) (same_number g.number g.number refl)
the_last (k ∷ gs) g h = by_test (k.number == g.number) h (λ r. the_last gs g r)
  where
    by_test : (b : Bool) → (b || has_view gs g.number) ≡ false → (has_view gs g.number ≡ false → group_of (gs ++ g ∷ []) g.number ≡ g) → (if b then k else group_of (gs ++ g ∷ []) g.number) ≡ g
    by_test true h more = absurd cc
    by_test false h more = more h

-- a group that goes
pub gone_other : (gs : List Group) (number m : ℕ) → m ≢ number → group_of (without gs number) m ≡ group_of gs m
unfolding group_of without
gone_other [] number m ne = refl
gone_other (g ∷ gs) number m ne = by_test (g.number == number) refl (gone_other gs number m ne)
  where
    by_test : (b : Bool) → (g.number == number) ≡ b → group_of (without gs number) m ≡ group_of gs m → group_of (if b then gs else g ∷ without gs number) m ≡ (if g.number == m then g else group_of gs m)
    by_test true e h = sym (ap (λ b. if b then g else group_of gs m) (other_number g.number m (λ d. ne (sym d ∙ is_same g.number number e))))
    by_test false e h = ap (λ k. if g.number == m then g else k) h

pub gone_view : (gs : List Group) (number m : ℕ) → m ≢ number → has_view (without gs number) m ≡ has_view gs m
unfolding has_view without
gone_view [] number m ne = refl
gone_view (g ∷ gs) number m ne = by_test (g.number == number) refl (gone_view gs number m ne)
  where
    by_test : (b : Bool) → (g.number == number) ≡ b → has_view (without gs number) m ≡ has_view gs m → has_view (if b then gs else g ∷ without gs number) m ≡ ((g.number == m) || has_view gs m)
    by_test true e h = sym (ap (λ b. b || has_view gs m) (other_number g.number m (λ d. ne (sym d ∙ is_same g.number number e))))
    by_test false e h = ap (λ b. (g.number == m) || b) h

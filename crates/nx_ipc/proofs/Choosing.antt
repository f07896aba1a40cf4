-- The oldest message of the greatest priority, by its place among the others.
use Rattle.std.proofs.Common.{◌≡◌, ◌+◌, ◌≤◌, ◌==◌, ℕ, zero, suc, List, [], ◌∷◌, refl, sym, ap, ◌∙◌, arith, rules, cond, Bool, true, false}
use Rattle.std.specs.Prelude.{Option, Some, None, slice_get, remove, find, if◌then◌else◌}
use Rattle.std.specs.List.{position_from}
use Rattle.std.specs.Option.{is_none}
use Rattle.nx_ksys.specs.State as state
use Rattle.nx_ksys.specs.QueueCalls.{has_priority, top_priority, next_message, without_oldest}

least_by : (n j : ℕ) (rest : Option ℕ) (t : Bool) → (rest ≡ Some j → n + 1 ≤ j) → cond t (Some n) rest ≡ Some j → n ≤ j
least_by n j rest true h e = let k : n ≡ j = cc in omega arith
least_by n j rest false h e = let l = h e in omega arith

position_least : {A : Type 0} (f : A → Bool) (n j : ℕ) (xs : List A) → position_from f n xs ≡ Some j → n ≤ j
position_least f n j [] e = absurd cc
position_least f n j (x ∷ xs) e = least_by n j (position_from f (n + 1) xs) (f x) (λ h. position_least f (n + 1) j xs h) e

here_by : {A : Type 0} (n j : ℕ) (y : A) (rest : Option ℕ) (found : Option A) (t : Bool) → (rest ≡ Some j → n + 1 ≤ j) → cond t (Some n) rest ≡ Some j → j ≡ n → cond t (Some y) found ≡ Some y
here_by n j y rest found true h e k = refl
here_by n j y rest found false h e k = let l = h e in absurd (omega arith)

later_by : {A : Type 0} (n i j : ℕ) (y x : A) (rest : Option ℕ) (found : Option A) (t : Bool) → (rest ≡ Some j → found ≡ Some x) → cond t (Some n) rest ≡ Some j → j ≡ n + suc i → cond t (Some y) found ≡ Some x
later_by n i j y x rest found true h e k = let q : n ≡ j = cc in absurd (omega arith)
later_by n i j y x rest found false h e k = h e

-- what stands at the first place that passes is found
found_at : {A : Type 0} (f : A → Bool) (n i j : ℕ) (xs : List A) (x : A) → position_from f n xs ≡ Some j → j ≡ n + i → slice_get xs i ≡ Some x → find f xs ≡ Some x
found_at f n i j [] x e k g = absurd cc
found_at f n zero j (y ∷ ys) x e k g =
    let s : y ≡ x = cc in
    here_by n j y (position_from f (n + 1) ys) (find f ys) (f y) (λ h. position_least f (n + 1) j ys h) e (omega arith) ∙ ap Some s
found_at f n (suc i) j (y ∷ ys) x e k g =
    later_by n i j y x (position_from f (n + 1) ys) (find f ys) (f y) (λ h. found_at f (n + 1) i j ys x h (omega arith) g) e k

passes_by : {A : Type 0} (f : A → Bool) (y x : A) (found : Option A) (t : Bool) → f y ≡ t → (found ≡ Some x → f x ≡ true) → cond t (Some y) found ≡ Some x → f x ≡ true
passes_by f y x found true q h e = let s : y ≡ x = cc in ap f (sym s) ∙ q
passes_by f y x found false q h e = h e

find_passes : {A : Type 0} (f : A → Bool) (xs : List A) (x : A) → find f xs ≡ Some x → f x ≡ true
find_passes f [] x e = absurd cc
find_passes f (y ∷ ys) x e = passes_by f y x (find f ys) (f y) refl (λ h. find_passes f ys x h) e

none_by : {A : Type 0} (n : ℕ) (y : A) (rest : Option ℕ) (found : Option A) (t : Bool) → (rest ≡ None → found ≡ None) → cond t (Some n) rest ≡ None → cond t (Some y) found ≡ None
none_by n y rest found true h e = absurd cc
none_by n y rest found false h e = h e

none_found : {A : Type 0} (f : A → Bool) (n : ℕ) (xs : List A) → position_from f n xs ≡ None → find f xs ≡ None
none_found f n [] e = refl
none_found f n (y ∷ ys) e = none_by n y (position_from f (n + 1) ys) (find f ys) (f y) (λ h. none_found f (n + 1) ys h) e

removed_here : (n j : ℕ) (m : state.Message) (ms others : List state.Message) (rest : Option ℕ) (t : Bool) → (rest ≡ Some j → n + 1 ≤ j) → cond t (Some n) rest ≡ Some j → j ≡ n → (if t then ms else m ∷ others) ≡ ms
removed_here n j m ms others rest true h e k = refl
removed_here n j m ms others rest false h e k = let l = h e in absurd (omega arith)

removed_later : (n i j : ℕ) (m : state.Message) (ms others left : List state.Message) (rest : Option ℕ) (t : Bool) → (rest ≡ Some j → others ≡ left) → cond t (Some n) rest ≡ Some j → j ≡ n + suc i → (if t then ms else m ∷ others) ≡ m ∷ left
removed_later n i j m ms others left rest true h e k = let q : n ≡ j = cc in absurd (omega arith)
removed_later n i j m ms others left rest false h e k = ap (λ q. m ∷ q) (h e)

removed_at : (p n i j : ℕ) (ms : List state.Message) → position_from (has_priority p) n ms ≡ Some j → j ≡ n + i → without_oldest p ms ≡ remove ms i
removed_at p n i j [] e k = absurd cc
removed_at p n zero j (m ∷ ms) e k =
    removed_here n j m ms (without_oldest p ms) (position_from (has_priority p) (n + 1) ms) (m.priority == p) (λ h. position_least (has_priority p) (n + 1) j ms h) e (omega arith)
removed_at p n (suc i) j (m ∷ ms) e k =
    removed_later n i j m ms (without_oldest p ms) (remove ms i) (position_from (has_priority p) (n + 1) ms) (m.priority == p) (λ h. removed_at p (n + 1) i j ms h (omega arith)) e k

equal : (a b : ℕ) → a == b ≡ true → a ≡ b
equal a b e = search (rules, arith)

pub next_is : (ms : List state.Message) (i : ℕ) (m : state.Message) → position_from (has_priority (top_priority ms)) 0 ms ≡ Some i → slice_get ms i ≡ Some m → next_message ms ≡ Some m
unfolding next_message
next_is ms i m e g = found_at (has_priority (top_priority ms)) 0 i i ms m e (omega arith) g

pub next_leaves : (ms : List state.Message) (i : ℕ) (m : state.Message) → position_from (has_priority (top_priority ms)) 0 ms ≡ Some i → slice_get ms i ≡ Some m → without_oldest m.priority ms ≡ remove ms i
next_leaves ms i m e g =
    let first = found_at (has_priority (top_priority ms)) 0 i i ms m e (omega arith) g in
    let top : m.priority ≡ top_priority ms = equal m.priority (top_priority ms) (find_passes (has_priority (top_priority ms)) ms m first) in
    ap (λ p. without_oldest p ms) top ∙ removed_at (top_priority ms) 0 i i ms e (omega arith)

pub no_next : (ms : List state.Message) → position_from (has_priority (top_priority ms)) 0 ms ≡ None → next_message ms ≡ None
unfolding next_message
no_next ms e = none_found (has_priority (top_priority ms)) 0 ms e

-- the first place that is free
pub free_at : {A : Type 0} (n i j : ℕ) (xs : List (Option A)) → position_from is_none n xs ≡ Some j → j ≡ n + i → slice_get xs i ≡ Some None
free_at n i j [] e k = absurd cc
free_at n zero j (None ∷ xs) e k = refl
free_at n zero j (Some x ∷ xs) e k = let l = position_least is_none (n + 1) j xs e in absurd (omega arith)
free_at n (suc i) j (None ∷ xs) e k = let q : n ≡ j = cc in absurd (omega arith)
free_at n (suc i) j (Some x ∷ xs) e k = free_at (n + 1) i j xs e (omega arith)

-- What changes of the tree do to the bounds of its paths.
use Rattle.std.proofs.Common.{◌≡◌, ◌≢◌, ℕ, zero, suc, ◌+◌, ◌≤◌, ◌||◌, ◌&&◌, Bool, true, false, cond, not, List, [], ◌∷◌, ◌++◌, length, Option, Some, None, refl, sym, ap, ◌∙◌, subst, arith, ⊎_elim}
use Rattle.std.specs.Prelude.{if◌then◌else◌, slice_get, slice_set}
use Rattle.std.specs.List.{list_any, count_by, position_from}
use Rattle.std.specs.Option.{is_some, is_none}
use Rattle.std.specs.Str.{bytes_eq}
use Rattle.std.proofs.lemmas.Bool.{cases_eq}
use Rattle.std.proofs.lemmas.List.Recursion.{is_count_by}
use Rattle.nx_ksys.specs.declared.node.Node.{Node}
use Rattle.nx_ksys.specs.declared.node.NodeKind.{NodeKind}
use Rattle.nx_ksys.specs.declared.node.NodeKind.TheVariants as node
use Rattle.nx_ksys.specs.declared.node.Open.{Open}
use Rattle.nx_ksys.specs.Threads.{flat}
use Rattle.nx_ksys.specs.State.{FileTree, Queue, KernelState, is_directory, is_made_directory}
use Rattle.nx_ksys.specs.Paths.{entries_but}
use Rattle.nx_ksys.specs.Descriptors.{is_at, is_file_at, is_open_file, lives, swept, is_queue_at, is_open_queue, awaits_queue, queue_lives, kept_if, living_from}
use Rattle.nx_ksys.specs.TreeCalls.{made_directory, renamed_entries}
use Rattle.nx_ksys.specs.Boot.{program_nodes}
use Rattle.nx_ksys.specs.Bounds.{file_place, queue_place, is_no_object, one_if, lasting, leading, stands, AreBounded, PathsAreFew}
use Rattle.nx_ksys.proofs.Standing.{set_same, set_other, within, free_place, eq_to, ne_to}

-- ---- entries that come, go and change their paths

leading_after : (sort : NodeKind → Option ℕ) (place : ℕ) (es fs : List (List ℕ × Node)) → leading sort place (es ++ fs) ≡ leading sort place es + leading sort place fs
leading_after sort place [] fs = omega arith
leading_after sort place (e ∷ es) fs = let r = leading_after sort place es fs in omega (arith, r)

lasting_after : (es fs : List (List ℕ × Node)) → lasting (es ++ fs) ≡ lasting es + lasting fs
lasting_after [] fs = omega arith
lasting_after (e ∷ es) fs = let r = lasting_after es fs in omega (arith, r)

leading_but : (sort : NodeKind → Option ℕ) (place : ℕ) (path : List ℕ) (es : List (List ℕ × Node)) → leading sort place (entries_but path es) ≤ leading sort place es
leading_but sort place path [] = omega arith
leading_but sort place path (e ∷ es) = by_test (not (bytes_eq path e.0)) (leading_but sort place path es)
  where
    by_test : (b : Bool) → leading sort place (entries_but path es) ≤ leading sort place es → leading sort place (cond b (e ∷ entries_but path es) (entries_but path es)) ≤ one_if (is_at place (sort e.1.kind)) + leading sort place es
    by_test true l = omega (arith, l)
    by_test false l = omega (arith, l)

lasting_but : (path : List ℕ) (es : List (List ℕ × Node)) → lasting (entries_but path es) ≤ lasting es
lasting_but path [] = omega arith
lasting_but path (e ∷ es) = by_test (not (bytes_eq path e.0)) (lasting_but path es)
  where
    by_test : (b : Bool) → lasting (entries_but path es) ≤ lasting es → lasting (cond b (e ∷ entries_but path es) (entries_but path es)) ≤ one_if (is_no_object e.1.fixed e.1.kind) + lasting es
    by_test true l = omega (arith, l)
    by_test false l = omega (arith, l)

leading_renamed : (sort : NodeKind → Option ℕ) (place : ℕ) (first second : List ℕ) (es : List (List ℕ × Node)) → leading sort place (renamed_entries first second es) ≡ leading sort place es
leading_renamed sort place first second [] = refl
leading_renamed sort place first second (e ∷ es) = ap (λ n. one_if (is_at place (sort e.1.kind)) + n) (leading_renamed sort place first second es)

lasting_renamed : (first second : List ℕ) (es : List (List ℕ × Node)) → lasting (renamed_entries first second es) ≡ lasting es
lasting_renamed first second [] = refl
lasting_renamed first second (e ∷ es) = ap (λ n. one_if (is_no_object e.1.fixed e.1.kind) + n) (lasting_renamed first second es)

-- ---- what stands at a place

still_stands : {A : Type 0} (xs : List (Option A)) (p q : ℕ) (x : A) → one_if (stands xs q) ≤ one_if (stands (slice_set xs p (Some x)) q)
still_stands [] p q x = omega arith
still_stands (None ∷ ys) zero zero x = omega arith
still_stands (Some y ∷ ys) zero zero x = omega arith
still_stands (y ∷ ys) zero (suc q) x = omega arith
still_stands (y ∷ ys) (suc p) zero x = omega arith
still_stands (y ∷ ys) (suc p) (suc q) x = still_stands ys p q x

other_stands : {A : Type 0} (xs : List (Option A)) (p q : ℕ) (x : Option A) → q ≢ p → stands (slice_set xs p x) q ≡ stands xs q
other_stands {A} xs p q x ne = ap (λ (o : Option (Option A)). is_some (flat o)) (set_other xs p q x ne)

new_stands : {A : Type 0} (xs : List (Option A)) (p : ℕ) (x : A) → slice_get xs p ≡ Some None → stands (slice_set xs p (Some x)) p ≡ true
new_stands {A} xs p x h = ap (λ (o : Option (Option A)). is_some (flat o)) (set_same xs p (Some x) (within xs p None h))

free_stands : {A : Type 0} (xs : List (Option A)) (p : ℕ) → slice_get xs p ≡ Some None → stands xs p ≡ false
free_stands {A} xs p h = ap (λ (o : Option (Option A)). is_some (flat o)) h

-- ---- the changes of the tree

pub file_bounded : (first : ℕ) (tree : FileTree) (queues : List (Option Queue)) (place : ℕ) (content : List ℕ) → AreBounded first tree queues → AreBounded first (record tree { files = slice_set tree.files place (Some content) }) queues
file_bounded first tree queues place content h = record {
  few = h.few;
  file = λ q. (let a = h.file q in let b = still_stands tree.files place q content in omega (arith, a, b));
  queue = h.queue;
}

pub but_bounded : (first : ℕ) (tree : FileTree) (queues : List (Option Queue)) (path : List ℕ) → AreBounded first tree queues → AreBounded first (record tree { entries = entries_but path tree.entries }) queues
but_bounded first tree queues path h = record {
  few = (let a = h.few in let b = lasting_but path tree.entries in omega (arith, a, b));
  file = λ q. (let a = h.file q in let b = leading_but file_place q path tree.entries in omega (arith, a, b));
  queue = λ q. (let a = h.queue q in let b = leading_but queue_place q path tree.entries in omega (arith, a, b));
}

pub renamed_bounded : (first : ℕ) (tree : FileTree) (queues : List (Option Queue)) (one two : List ℕ) → AreBounded first tree queues → AreBounded first (record tree { entries = renamed_entries one two tree.entries }) queues
renamed_bounded first tree queues one two h = record {
  few = (let a = h.few in let b = lasting_renamed one two tree.entries in omega (arith, a, b));
  file = λ q. (let a = h.file q in let b = leading_renamed file_place q one two tree.entries in omega (arith, a, b));
  queue = λ q. (let a = h.queue q in let b = leading_renamed queue_place q one two tree.entries in omega (arith, a, b));
}

pub made_bounded : (first : ℕ) (tree : FileTree) (queues : List (Option Queue)) (path : List ℕ) → AreBounded first tree queues → AreBounded first (record tree { entries = tree.entries ++ (path, made_directory) ∷ [] }) queues
made_bounded first tree queues path h = record {
  few = (let a = h.few in let b = lasting_after tree.entries ((path, made_directory) ∷ []) in omega (arith, a, b));
  file = λ q. (let a = h.file q in let b = leading_after file_place q tree.entries ((path, made_directory) ∷ []) in omega (arith, a, b));
  queue = λ q. (let a = h.queue q in let b = leading_after queue_place q tree.entries ((path, made_directory) ∷ []) in omega (arith, a, b));
}

-- a path to what is new at its place
led_new : {A : Type 0} (sort : NodeKind → Option ℕ) (es : List (List ℕ × Node)) (xs : List (Option A)) (path : List ℕ) (n : Node) (place : ℕ) (x : A) → sort n.kind ≡ Some place → slice_get xs place ≡ Some None → ((q : ℕ) → leading sort q es ≤ one_if (stands xs q))
    → (q : ℕ) → leading sort q (es ++ (path, n) ∷ []) ≤ one_if (stands (slice_set xs place (Some x)) q)
led_new {A} sort es xs path n place x leads at h q = ⊎_elim (here q) (elsewhere q) (cases_eq q place)
  where
    here : (q : ℕ) → q ≡ place → leading sort q (es ++ (path, n) ∷ []) ≤ one_if (stands (slice_set xs place (Some x)) q)
    here q s = subst (λ r. leading sort r (es ++ (path, n) ∷ []) ≤ one_if (stands (slice_set xs place (Some x)) r)) (sym s)
        (let a = h place in
        let z = ap one_if (free_stands xs place at) in
        let t = ap one_if (new_stands xs place x at) in
        let o = ap (λ k. one_if (is_at place k)) leads in
        let p = ap one_if (eq_to place place refl) in
        let b = leading_after sort place es ((path, n) ∷ []) in
        omega (arith, a, z, t, o, p, b))

    elsewhere : (q : ℕ) → q ≢ place → leading sort q (es ++ (path, n) ∷ []) ≤ one_if (stands (slice_set xs place (Some x)) q)
    elsewhere q ne =
        let a = h q in
        let t = ap one_if (other_stands xs place q (Some x) ne) in
        let o = ap (λ k. one_if (is_at q k)) leads in
        let p = ap one_if (ne_to place q (λ s. ne (sym s))) in
        let b = leading_after sort q es ((path, n) ∷ []) in
        omega (arith, a, t, o, p, b)

-- what no path leads to is gone
led_gone : {A : Type 0} (sort : NodeKind → Option ℕ) (es : List (List ℕ × Node)) (xs : List (Option A)) (place : ℕ) → leading sort place es ≡ 0 → ((q : ℕ) → leading sort q es ≤ one_if (stands xs q)) → (q : ℕ) → leading sort q es ≤ one_if (stands (slice_set xs place None) q)
led_gone {A} sort es xs place none h q = ⊎_elim
    (λ s. let n = subst (λ r. leading sort r es ≡ 0) (sym s) none in omega (arith, n))
    (λ ne. let a = h q in let n = ap one_if (other_stands xs place q None ne) in omega (arith, a, n))
    (cases_eq q place)

abbrev new_file_node : ℕ → Node
new_file_node place = record { kind = node.File place; fixed = false }

pub new_bounded : (first : ℕ) (tree : FileTree) (queues : List (Option Queue)) (path : List ℕ) (place : ℕ) → position_from is_none 0 tree.files ≡ Some place → AreBounded first tree queues
    → AreBounded first (record { entries = tree.entries ++ (path, record { kind = node.File place; fixed = false }) ∷ []; files = slice_set tree.files place (Some []) }) queues
new_bounded first tree queues path place e h = record {
  few = (let a = h.few in let b = lasting_after tree.entries ((path, new_file_node place) ∷ []) in omega (arith, a, b));
  file = led_new file_place tree.entries tree.files path (new_file_node place) place [] refl (free_place tree.files place e) h.file;
  queue = λ q. (let a = h.queue q in let b = leading_after queue_place q tree.entries ((path, new_file_node place) ∷ []) in omega (arith, a, b));
}

abbrev new_queue_node : ℕ → Node
new_queue_node place = record { kind = node.Queue place; fixed = false }

pub new_queue_bounded : (first : ℕ) (tree : FileTree) (queues : List (Option Queue)) (path : List ℕ) (place : ℕ) (new : Queue) → position_from is_none 0 queues ≡ Some place → AreBounded first tree queues
    → AreBounded first (record tree { entries = tree.entries ++ (path, record { kind = node.Queue place; fixed = false }) ∷ [] }) (slice_set queues place (Some new))
new_queue_bounded first tree queues path place new e h = record {
  few = (let a = h.few in let b = lasting_after tree.entries ((path, new_queue_node place) ∷ []) in omega (arith, a, b));
  file = λ q. (let a = h.file q in let b = leading_after file_place q tree.entries ((path, new_queue_node place) ∷ []) in omega (arith, a, b));
  queue = led_new queue_place tree.entries queues path (new_queue_node place) place new refl (free_place queues place e) h.queue;
}

or_left : (a b : Bool) → (a || b) ≡ false → a ≡ false
or_left true b e = absurd cc
or_left false b e = refl

or_right : (a b : Bool) → (a || b) ≡ false → b ≡ false
or_right true b e = absurd cc
or_right false b e = e

-- to what no path names none leads
unnamed : (sort : NodeKind → Option ℕ) (place : ℕ) (names : NodeKind → Bool) → ((n : NodeKind) → names n ≡ is_at place (sort n)) → (es : List (List ℕ × Node)) → list_any (λ e. names e.1.kind) es ≡ false → leading sort place es ≡ 0
unnamed sort place names same [] h = refl
unnamed sort place names same (e ∷ es) h =
    let rest = list_any (λ f. names f.1.kind) es in
    let a = ap one_if (sym (same e.1.kind) ∙ or_left (names e.1.kind) rest h) in
    let r = unnamed sort place names same es (or_right (names e.1.kind) rest h) in
    omega (arith, a, r)

names_file : (place : ℕ) (n : NodeKind) → is_file_at place n ≡ is_at place (file_place n)
names_file place node.Directory = refl
names_file place (node.File p) = refl
names_file place node.Console = refl
names_file place node.Null = refl
names_file place (node.Program p) = refl
names_file place (node.Queue p) = refl

names_queue : (place : ℕ) (n : NodeKind) → is_queue_at place n ≡ is_at place (queue_place n)
names_queue place node.Directory = refl
names_queue place (node.File p) = refl
names_queue place node.Console = refl
names_queue place node.Null = refl
names_queue place (node.Program p) = refl
names_queue place (node.Queue p) = refl

pub swept_bounded : (first : ℕ) (tree : FileTree) (queues : List (Option Queue)) (opens : List (Option Open)) (place : ℕ) → AreBounded first tree queues → AreBounded first (swept tree opens place) queues
unfolding swept
swept_bounded first tree queues opens place h = by_lives (lives place tree.entries opens) refl
  where
    none : lives place tree.entries opens ≡ false → leading file_place place tree.entries ≡ 0
    none e = unnamed file_place place (is_file_at place) (names_file place) tree.entries (or_left _ (list_any (is_open_file place) opens) e)

    by_lives : (b : Bool) → lives place tree.entries opens ≡ b → AreBounded first (if b then tree else record tree { files = slice_set tree.files place None }) queues
    by_lives true e = h
    by_lives false e = record { few = h.few; file = led_gone file_place tree.entries tree.files place (none e) h.file; queue = h.queue }

-- ---- queues that change and end

pub queue_bounded : (first : ℕ) (tree : FileTree) (queues : List (Option Queue)) (place : ℕ) (new : Queue) → AreBounded first tree queues → AreBounded first tree (slice_set queues place (Some new))
queue_bounded first tree queues place new h = record {
  few = h.few;
  file = h.file;
  queue = λ q. (let a = h.queue q in let b = still_stands queues place q new in omega (arith, a, b));
}

-- no path leads to a queue that lives no more
pub unled_queue : (k : KernelState) (place : ℕ) → queue_lives k place ≡ false → leading queue_place place k.tree.entries ≡ 0
unled_queue k place e = unnamed queue_place place (is_queue_at place) (names_queue place) k.tree.entries (or_left _ (list_any (is_open_queue place) k.opens) (or_left _ (list_any (awaits_queue place) k.sched.threads) e))

pub kept_bounded : (first : ℕ) (tree : FileTree) (queues : List (Option Queue)) (place : ℕ) (lives : Bool) → (lives ≡ false → leading queue_place place tree.entries ≡ 0) → AreBounded first tree queues → AreBounded first tree (kept_if lives queues place)
kept_bounded first tree queues place true none h = h
kept_bounded first tree queues place false none h = record { few = h.few; file = h.file; queue = led_gone queue_place tree.entries queues place (none refl) h.queue }

living_stands : {A : Type 0} (lives : ℕ → Bool) (b q : ℕ) (xs : List (Option A)) → lives (b + q) ≡ true → stands (living_from lives b xs) q ≡ stands xs q
living_stands lives b q [] e = refl
living_stands {A} lives b zero (x ∷ xs) e = ap (λ c. is_some (if c then x else None)) (ap lives (omega arith) ∙ e)
living_stands {A} lives b (suc q) (x ∷ xs) e = living_stands lives (b + 1) q xs (ap lives (omega arith) ∙ e)

pub living_bounded : (first : ℕ) (tree : FileTree) (queues : List (Option Queue)) (lives : ℕ → Bool) → ((place : ℕ) → lives place ≡ false → leading queue_place place tree.entries ≡ 0) → AreBounded first tree queues → AreBounded first tree (living_from lives 0 queues)
living_bounded first tree queues lives none h = record { few = h.few; file = h.file; queue = λ q. by_lives q (lives q) refl }
  where
    by_lives : (q : ℕ) (b : Bool) → lives q ≡ b → leading queue_place q tree.entries ≤ one_if (stands (living_from lives 0 queues) q)
    by_lives q true e = let a = h.queue q in let s = ap one_if (living_stands lives 0 q queues (ap lives (omega arith) ∙ e)) in omega (arith, a, s)
    by_lives q false e = let n = none q e in omega (arith, n)

-- ---- how many paths there are

abbrev living : {A : Type 0} → List (Option A) → ℕ
living [] = 0
living (x ∷ xs) = one_if (is_some x) + living xs

abbrev total : (NodeKind → Option ℕ) → List (List ℕ × Node) → ℕ
total sort [] = 0
total sort (e ∷ es) = one_if (is_some (sort e.1.kind)) + total sort es

abbrev made : List (List ℕ × Node) → ℕ
made [] = 0
made (e ∷ es) = one_if (is_made_directory e) + made es

one_or : (b : Bool) (n : ℕ) → one_if b + n ≡ cond b (1 + n) n
one_or true n = refl
one_or false n = omega arith

living_counted : {A : Type 0} (xs : List (Option A)) → living xs ≡ count_by is_some xs
living_counted {A} xs = is_count_by (λ (ys : List (Option A)). living ys) is_some refl (λ y ys. one_or (is_some y) (living ys)) xs

made_counted : (es : List (List ℕ × Node)) → made es ≡ count_by is_made_directory es
made_counted es = is_count_by made is_made_directory refl (λ f fs. one_or (is_made_directory f) (made fs)) es

one_fewer : {A : Type 0} (xs : List (Option A)) (p : ℕ) → stands xs p ≡ true → living (slice_set xs p None) + 1 ≡ living xs
one_fewer [] p e = absurd cc
one_fewer (None ∷ xs) zero e = absurd cc
one_fewer (Some x ∷ xs) zero e = omega arith
one_fewer (x ∷ xs) (suc p) e = let r = one_fewer xs p e in omega (arith, r)

is_true : (b : Bool) → 1 ≤ one_if b → b ≡ true
is_true true l = refl
is_true false l = absurd (omega (arith, l))

at_most_one : (b : Bool) → one_if b ≤ 1
at_most_one true = omega arith
at_most_one false = omega arith

-- paths that lead to places of their own are no more than what stands there
led_few : {A : Type 0} (sort : NodeKind → Option ℕ) (es : List (List ℕ × Node)) (xs : List (Option A)) → ((p : ℕ) → leading sort p es ≤ one_if (stands xs p)) → total sort es ≤ living xs
led_few sort [] xs h = omega arith
led_few {A} sort (e ∷ es) xs h = by_place (sort e.1.kind) h (λ ys. led_few sort es ys)
  where
    by_place : (o : Option ℕ) → ((p : ℕ) → one_if (is_at p o) + leading sort p es ≤ one_if (stands xs p)) → ((ys : List (Option A)) → ((p : ℕ) → leading sort p es ≤ one_if (stands ys p)) → total sort es ≤ living ys) → one_if (is_some o) + total sort es ≤ living xs
    by_place None k more = let m = more xs (λ p. (let a = k p in omega (arith, a))) in omega (arith, m)
    by_place (Some at) k more =
        let one = ap one_if (eq_to at at refl) in
        let own = k at in
        let there = is_true (stands xs at) (omega (arith, own, one)) in
        let rest = more (slice_set xs at None) (λ q. ⊎_elim
        (λ s. let a = at_most_one (stands xs at) in subst (λ r. leading sort r es ≤ one_if (stands (slice_set xs at None) r)) (sym s) (omega (arith, own, one, a)))
        (λ ne. let a = k q in let n = ap one_if (other_stands xs at q None ne) in omega (arith, a, n))
        (cases_eq q at)) in
        let fewer = one_fewer xs at there in
        omega (arith, rest, fewer)

one_sort : (fixed : Bool) (kind : NodeKind) → one_if (is_no_object fixed kind) + one_if (is_directory kind && not fixed) + one_if (is_some (file_place kind)) + one_if (is_some (queue_place kind)) ≡ 1
one_sort true node.Directory = refl
one_sort false node.Directory = refl
one_sort fixed (node.File place) = refl
one_sort fixed node.Console = refl
one_sort fixed node.Null = refl
one_sort fixed (node.Program place) = refl
one_sort fixed (node.Queue place) = refl

by_sort : (es : List (List ℕ × Node)) → length es ≡ lasting es + made es + total file_place es + total queue_place es
by_sort [] = refl
by_sort (e ∷ es) = let r = by_sort es in let o = one_sort e.1.fixed e.1.kind in omega (arith, r, o)

pub paths_are_few : PathsAreFew
paths_are_few first k h =
    let few = h.few in
    let files = led_few file_place k.tree.entries k.tree.files h.file in
    let queues = led_few queue_place k.tree.entries k.queues h.queue in
    omega (arith, few, files, queues, by_sort k.tree.entries, made_counted k.tree.entries, living_counted k.tree.files, living_counted k.queues)

-- ---- the paths of boot

pub unled : (sort : NodeKind → Option ℕ) (p place : ℕ) (names : List (List ℕ)) → ((program : ℕ) → sort (node.Program program) ≡ None) → leading sort p (program_nodes place names) ≡ 0
unled sort p place [] h = refl
unled sort p place (name ∷ names) h = let r = unled sort p (place + 1) names h in let z = ap (λ o. one_if (is_at p o)) (h place) in omega (arith, r, z)

pub lasting_few : (es : List (List ℕ × Node)) → lasting es ≤ length es
lasting_few [] = omega arith
lasting_few (e ∷ es) = let r = lasting_few es in let o = at_most_one (is_no_object e.1.fixed e.1.kind) in omega (arith, r, o)

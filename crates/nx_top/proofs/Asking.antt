-- What several reads in turn ask and get.
use Rattle.std.proofs.Common.{◌≡◌, ℕ, ◌+◌, ◌<◌, ◌≤◌, Bool, true, List, [], ◌∷◌, ◌++◌, length, get_or, take, map, Option, Some, None, Ok, Err, sym, ◌∙◌, ap, subst, arith}
use Rattle.std.proofs.lemmas.List.{take_more, take-map, take_all, map-append}
use Rattle.std.proofs.Math.ListN.{length-map, length-take}
use Rattle.std.proofs.lemmas.List.Elements.{All-cons, All-append}
use Rattle.std.proofs.lemmas.Option.{slice_get-map, slice_get-get_or}
use Rattle.std.specs.Prelude.{All, IsSome, IsSomeAnd, slice_get}
use Rattle.std.specs.Option.{option_map}
use denote.Ref.{Bor}
use Rattle.nx_outside.specs.Outside.{Told, Asked, Rose, content_of, longest}
use Rattle.nx_outside.proofs.Asks.{Asked-append}
use Rattle.nx_outside.specs.declared.files.FileStop.{FileStop}
use Rattle.nx_outside.specs.declared.files.FileStop.TheVariants.{TooLong, Failed, Memory}
use Rattle.nx_top.specs.FilesRead.{held_of, GotAll, IsShort, IsLongThere, HaveContents, StopsAt, IsStop, ReadsOne}

abbrev text : Bor (List ℕ) → List ℕ
text n = n.now

-- the names up to the next one
prefix_more : (names : List (Bor (List ℕ))) (i : ℕ) (d : Bor (List ℕ)) → i < length names → map text (take (i + 1) names) ≡ map text (take i names) ++ text (get_or names i d) ∷ []
prefix_more names i d lt = ap (map text) (take_more names i d lt) ∙ map-append text (take i names) (get_or names i d ∷ [])

-- what was got of names, and of one more
got_more : (old mid : Option Told) (names more : List (List ℕ)) (got : List (Option (List ℕ))) (name : List ℕ) (g : Option (List ℕ)) → Asked old mid more → GotAll old names got → GotAll mid (name ∷ []) (g ∷ [])
    → GotAll old (names ++ name ∷ []) (got ++ g ∷ [])
got_more None mid names more got name g a h k = tt
got_more (Some t) None names more got name g a h k = absurd a
got_more (Some t) (Some u) names more got name g a h k =
    let one : map (λ n. held_of (content_of t.contents n)) (name ∷ []) ≡ map Some (g ∷ []) = ap (λ cs. map (λ n. held_of (content_of cs n)) (name ∷ [])) (sym a.0) ∙ k in
    map-append (λ n. held_of (content_of t.contents n)) names (name ∷ [])
    ∙ ap (λ v. v ++ map (λ n. held_of (content_of t.contents n)) (name ∷ [])) h
    ∙ ap (λ v. map Some got ++ v) one
    ∙ sym (map-append Some got (g ∷ []))

-- one more that passes a test
all_more : (P : Option (List ℕ) → Type 0) (got : List (Option (List ℕ))) (g : Option (List ℕ)) → All P got → P g → All P (got ++ g ∷ [])
all_more P got g h k = All-append P got (g ∷ []) h (All-cons P g [] k (λ i d lt. absurd (omega (arith, lt))))

-- a file that was too long before others were asked is too long
long_before : (old mid : Option Told) (names : List (List ℕ)) (name : List ℕ) → Asked old mid names → IsLongThere mid name → IsLongThere old name
long_before None mid names name a h = tt
long_before (Some t) None names name a h = absurd a
long_before (Some t) (Some u) names name a h = subst (λ cs. IsSomeAnd (content_of cs name) (λ c. longest < length c)) a.0 h

-- the first i names were asked, and gave these contents
pub record ReadSoFar (stops : Bool) (old new : Option Told) (names : List (Bor (List ℕ))) (got : List (Option (List ℕ))) (i before now : ℕ) : Type 0 where
  pub asked : Asked old new (map (λ n. n.now) (take i names))
  pub held : GotAll old (map (λ n. n.now) (take i names)) got
  pub short : All IsShort got
  pub go_on : stops ≡ true → All IsSome got
  pub later : before ≤ now
  pub count : length got ≡ i

-- one more name was asked
pub reads_more : (stops : Bool) (old mid new : Option Told) (names : List (Bor (List ℕ))) (got : List (Option (List ℕ))) (i : ℕ) (d : Bor (List ℕ)) (g : Option (List ℕ)) (before between now : ℕ) → i < length names
    → ReadSoFar stops old mid names got i before between → ReadsOne stops (Ok g) mid new (get_or names i d).now between now → length (got ++ g ∷ []) ≡ i + 1 → ReadSoFar stops old new names (got ++ g ∷ []) (i + 1) before now
reads_more stops old mid new names got i d g before between now lt r one n =
    let f = prefix_more names i d lt in
    record {
      asked = subst (λ (xs : List (List ℕ)). Asked old new xs) (sym f) (Asked-append old mid new _ _ r.asked one.0);
      held = subst (λ (xs : List (List ℕ)). GotAll old xs (got ++ g ∷ [])) (sym f) (got_more old mid _ _ got _ g r.asked r.held one.1);
      short = all_more IsShort got g r.short one.2;
      go_on = λ s. all_more IsSome got g (r.go_on s) (one.3 s);
      later = omega (arith, r.later, one.4);
      count = n;
    }

named_at : (names : List (Bor (List ℕ))) (i : ℕ) (d : Bor (List ℕ)) → i < length names → slice_get (map (λ n. n.now) names) i ≡ Some (get_or names i d).now
named_at names i d lt = slice_get-map text names i ∙ ap (option_map text) (slice_get-get_or names i d lt)

asked_at : (old mid new : Option Told) (names : List (Bor (List ℕ))) (i : ℕ) (d : Bor (List ℕ)) → i < length names
    → Asked old mid (map (λ n. n.now) (take i names)) → Asked mid new ((get_or names i d).now ∷ []) → Asked old new (take (i + 1) (map (λ n. n.now) names))
asked_at old mid new names i d lt h k =
    subst (λ (xs : List (List ℕ)). Asked old new xs) (sym (take-map text (i + 1) names ∙ prefix_more names i d lt)) (Asked-append old mid new _ _ h k)

length_taken : (names : List (Bor (List ℕ))) (i : ℕ) → i ≤ length names → i ≡ length (take i (map (λ n. n.now) names))
length_taken names i le = simp (length-take, length-map) (omega arith)

-- the read of the name at i is the last
stops_at : (stops : Bool) (old mid new : Option Told) (names : List (Bor (List ℕ))) (got : List (Option (List ℕ))) (i : ℕ) (d : Bor (List ℕ)) (before between : ℕ) → i < length names
    → ReadSoFar stops old mid names got i before between → Asked mid new ((get_or names i d).now ∷ []) → StopsAt stops (map (λ n. n.now) names) (get_or names i d).now old new
stops_at stops old mid new names got i d before between lt r one =
    let all = map (λ (n : Bor (List ℕ)). n.now) names in
    record {
      contents = got;
      named = subst (λ (k : ℕ). slice_get all k ≡ Some (get_or names i d).now) (sym r.count) (named_at names i d lt);
      asked = subst (λ (k : ℕ). Asked old new (take (k + 1) all)) (sym r.count) (asked_at old mid new names i d lt r.asked one);
      before = record {
        each = subst (λ (k : ℕ). k ≡ length (take k all)) (sym r.count) (length_taken names i (omega arith));
        held = subst (λ (k : ℕ). GotAll old (take k all) got) (sym r.count) (subst (λ (xs : List (List ℕ)). GotAll old xs got) (sym (take-map text i names)) r.held);
        short = r.short;
        go_on = r.go_on;
      };
    }

-- why reading stopped at the name at i
pub is_stop : (why : FileStop) (stops : Bool) (old mid new : Option Told) (names : List (Bor (List ℕ))) (got : List (Option (List ℕ))) (i : ℕ) (d : Bor (List ℕ)) (before between now : ℕ) → i < length names
    → ReadSoFar stops old mid names got i before between → ReadsOne stops (Err why) mid new (get_or names i d).now between now → IsStop why stops (get_or names i d).now (map (λ n. n.now) names) old new before now
is_stop Failed stops old mid new names got i d before between now lt r one =
    let rose : Rose between now = one.1 in
    let later = r.later in
    (stops_at stops old mid new names got i d before between lt r one.0, omega arith)
is_stop TooLong stops old mid new names got i d before between now lt r one = record {
  ends = one.0;
  at = stops_at stops old mid new names got i d before between lt r one.1;
  long = long_before old mid _ (get_or names i d).now r.asked one.2;
}
is_stop Memory stops old mid new names got i d before between now lt r one = tt

-- all names were asked
pub all_read : (stops : Bool) (old new : Option Told) (names : List (Bor (List ℕ))) (got : List (Option (List ℕ))) (i before now : ℕ) → length names ≤ i → i ≤ length names
    → ReadSoFar stops old new names got i before now → HaveContents stops (map (λ n. n.now) names) got old new
all_read stops old new names got i before now le ge r =
    let e : take i names ≡ names = take_all i names le in
    record {
      asked = subst (λ (xs : List (Bor (List ℕ))). Asked old new (map (λ n. n.now) xs)) e r.asked;
      are = record {
        each = let n = r.count in simp length-map (omega arith);
        held = subst (λ (xs : List (Bor (List ℕ))). GotAll old (map (λ n. n.now) xs) got) e r.held;
        short = r.short;
        go_on = r.go_on;
      };
    }

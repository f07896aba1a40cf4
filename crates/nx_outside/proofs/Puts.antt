-- What several puts in turn leave.
use Rattle.std.proofs.Common.{ℕ, List, [], ◌++◌, Option, Some, None, refl, sym, ◌∙◌, ap, subst, append_assoc, append-nil, ◌+◌, ◌<◌, length, get_or, drop}
use Rattle.std.specs.List.{flat_map}
use Rattle.std.proofs.lemmas.List.{drop_more}
use denote.Ref.{Bor}
use Rattle.nx_outside.specs.Outside.{Wrote, Cut, Left}

-- bytes after bytes
pub Wrote-append : (old mid new : Option (List ℕ)) (xs ys : List ℕ) → Wrote old mid xs → Wrote mid new ys → Wrote old new (xs ++ ys)
Wrote-append None None None xs ys h k = tt
Wrote-append (Some a) (Some b) (Some c) xs ys h k = k ∙ ap (λ v. v ++ ys) h ∙ append_assoc a xs ys
Wrote-append None None (Some c) xs ys h k = k
Wrote-append None (Some b) new xs ys h k = absurd h
Wrote-append (Some a) None new xs ys h k = absurd h
Wrote-append (Some a) (Some b) None xs ys h k = k

-- nothing was written
pub Wrote-nothing : (old : Option (List ℕ)) → Wrote old old []
Wrote-nothing None = tt
Wrote-nothing (Some a) = sym (append-nil a)

-- the whole is a prefix of itself
pub Cut-whole : (old new : Option (List ℕ)) (xs : List ℕ) → Wrote old new xs → Cut old new xs
Cut-whole old new xs h = record { prefix = xs; wrote = h; begins = ([], sym (append-nil xs)) }

-- a prefix of the first bytes is a prefix of all
pub Cut-more : (old new : Option (List ℕ)) (xs ys : List ℕ) → Cut old new xs → Cut old new (xs ++ ys)
Cut-more old new xs ys h = record {
  prefix = h.prefix;
  wrote = h.wrote;
  begins = (h.begins.0 ++ ys, rw h.begins.1 (simp append_assoc));
}

-- a prefix after bytes
pub Cut-append : (old mid new : Option (List ℕ)) (xs ys : List ℕ) → Wrote old mid xs → Cut mid new ys → Cut old new (xs ++ ys)
Cut-append old mid new xs ys h k = record {
  prefix = xs ++ k.prefix;
  wrote = Wrote-append old mid new xs k.prefix h k.wrote;
  begins = (k.begins.0, rw k.begins.1 (simp append_assoc));
}

-- nothing is written yet
pub left_first : (old : Option (List ℕ)) (all : List ℕ) → Left old old all all
left_first old all = record { done = []; wrote = Wrote-nothing old; splits = refl }

-- the next piece is written
pub left_next : (old mid new : Option (List ℕ)) (piece rest all : List ℕ) → Left old mid (piece ++ rest) all → Wrote mid new piece → Left old new rest all
left_next old mid new piece rest all h k = record {
  done = h.done ++ piece;
  wrote = Wrote-append old mid new h.done piece h.wrote k;
  splits = h.splits ∙ sym (append_assoc h.done piece rest);
}

-- the next piece is cut
pub left_cut : (old mid new : Option (List ℕ)) (piece rest all : List ℕ) → Left old mid (piece ++ rest) all → Cut mid new piece → Cut old new all
left_cut old mid new piece rest all h k =
    let P : List ℕ → Type 0 = λ v. Cut old new v in
    subst P (sym h.splits) (Cut-append old mid new h.done (piece ++ rest) h.wrote (Cut-more mid new piece rest k))

-- nothing is left
pub left_none : (old new : Option (List ℕ)) (all : List ℕ) → Left old new [] all → Wrote old new all
left_none old new all h =
    let P : List ℕ → Type 0 = λ v. Wrote old new v in
    subst P (sym (h.splits ∙ append-nil h.done)) h.wrote

-- what is left of the pieces begins with the next
pub left_at : (old mid : Option (List ℕ)) (pieces : List (Bor (List ℕ))) (i : ℕ) (d : Bor (List ℕ)) (all : List ℕ) → i < length pieces
    → Left old mid (flat_map (λ p. p.now) (drop i pieces)) all
    → Left old mid ((get_or pieces i d).now ++ flat_map (λ p. p.now) (drop (i + 1) pieces)) all
left_at old mid pieces i d all lt h =
    let P : List (Bor (List ℕ)) → Type 0 = λ xs. Left old mid (flat_map (λ p. p.now) xs) all in
    subst P (drop_more pieces i d lt) h

-- One step of the loop that reads a list, and what a reserved word begins.
use Rattle.std.proofs.Common.{◌≡◌, ℕ, suc, ◌≤◌, Bool, true, false, List, [], ◌∷◌, ◌++◌, Option, Some, None, refl, ap, ◌∙◌}
use Rattle.std.specs.Prelude.{Ok, Err, if◌then◌else◌}
use Rattle.nx_grammar.specs.Reading.{Reading, Pick, Take, Pass, Refuse, picked, bind, done, then_pick, round, loop}
use Rattle.nx_grammar.specs.Lawful.{Any}
use Rattle.nx_grammar.specs.Chains.{closed}
use Rattle.nx_grammar.proofs.Loops.{shorter, loop_turn, loop_passes}
use Rattle.nx_grammar.proofs.Thens.{picked_then}
use Rattle.nx_shtok.specs.declared.token.Token.{Token}
use Rattle.nx_shtok.specs.declared.token.Word.{Word}
use Rattle.nx_shtree.specs.declared.keyword.Keyword.{Keyword}
use Rattle.nx_shtree.specs.Words.{Head, Reserved, First, Separator, Last, Other, head_of, parts_commands}
use Rattle.nx_shtree.specs.Trees.{Item}
use Rattle.nx_shtree.specs.Laws.{EndsList}
use Rattle.nx_shtree.specs.Reading.{simple_pick, ending_at, while_rest, until_rest, deeper, barred_kind, item_pick, ends_list, round_pick, list_pick, reserved_pick, list_at}
use Rattle.nx_shtree.specs.Steps.{loop_rest, command_step, list_step, next_item}
use Rattle.nx_shtree.proofs.SimpleLaws.{simple_passes}
use Rattle.nx_shtree.proofs.ListLaws.{Begins, item_passes, list_rounds, begins}

-- ---- Items.

-- A command is a simple one and what ends it.
pub command_split : (m : ℕ) (reserved : Token → Keyword → Pick Token Item) (t : Token) (w : Word) (ts : List Token) → picked (item_pick m reserved t (First w)) t ts ≡ command_step m t w ts
command_split m reserved t w ts = picked_then (simple_pick m t (First w)) ending_at t ts (simple_passes m t (First w))

pub loop_while : (m : ℕ) (body : Reading Token (List Item)) (t : Token) (ts : List Token) → while_rest m body t ts ≡ loop_rest m body false t ts
unfolding while_rest loop_rest
loop_while m body t ts = refl

pub loop_until : (m : ℕ) (body : Reading Token (List Item)) (t : Token) (ts : List Token) → until_rest m body t ts ≡ loop_rest m body true t ts
unfolding until_rest loop_rest
loop_until m body t ts = refl

-- Where no level is left.
pub none_left : (m d : ℕ) (t : Token) (k : Keyword) (ts : List Token) → d ≡ 0 → picked (reserved_pick m d t k) t ts ≡ Err (barred_kind k, t ∷ ts)
unfolding reserved_pick
none_left m d t k ts e = ap (λ n. picked (reserved_pick m n t k) t ts) e

-- And where one is.
pub one_left : (m d e : ℕ) (t : Token) (k : Keyword) (ts : List Token) → d ≡ suc e → picked (reserved_pick m d t k) t ts ≡ picked (deeper m (list_at m e) t k) t ts
unfolding reserved_pick
one_left m d e t k ts h = ap (λ n. picked (reserved_pick m n t k) t ts) h

-- ---- Lists.

module _ (m : ℕ) (reserved : Token → Keyword → Pick Token Item) (law : Begins reserved) where
  turned : (xs : List Item) (t : Token) (ts : List Token) (x : Pick Token Item) → ((a : Item) → x ≡ Pass a → ⊥) → round (then_pick x (λ y. done (xs ++ y ∷ []))) t ts (loop (list_pick m reserved)) ≡ bind (bind (picked x t ts) (λ y. done (xs ++ y ∷ []))) (loop (list_pick m reserved))
  turned xs t ts (Refuse kind) n = refl
  turned xs t ts (Pass a) n = absurd (n a refl)
  turned xs t ts (Take q) n = refl

  by_head : (xs : List Item) (t : Token) (ts : List Token) (h : Head) →
      round (round_pick m reserved xs t h) t ts (loop (list_pick m reserved)) ≡ bind (if parts_commands h then Ok (xs, ts) else bind (picked (item_pick m reserved t h) t ts) (λ y. done (xs ++ y ∷ []))) (loop (list_pick m reserved))
  by_head xs t ts Separator = refl
  by_head xs t ts (Reserved k) = turned xs t ts (item_pick m reserved t (Reserved k)) (item_passes m reserved law t (Reserved k))
  by_head xs t ts (First w) = turned xs t ts (item_pick m reserved t (First w)) (item_passes m reserved law t (First w))
  by_head xs t ts Last = turned xs t ts (item_pick m reserved t Last) (item_passes m reserved law t Last)
  by_head xs t ts Other = turned xs t ts (item_pick m reserved t Other) (item_passes m reserved law t Other)

  some_next : (u t : Token) (us ts : List Token) (b : Bool) → (let x : Option (Token × List Token) = if b then None else Some (u, us) in x) ≡ Some (t, ts) → (b ≡ false) × (u ≡ t) × (us ≡ ts)
  some_next u t us ts true e = absurd cc
  some_next u t us ts false e =
      let p : (let y : Token × List Token = (u, us) in y) ≡ (t, ts) = cc in
      (refl, ap (λ (y : Token × List Token). y.0) p, ap (λ (y : Token × List Token). y.1) p)

  none_next : (u : Token) (us : List Token) (b : Bool) → (let x : Option (Token × List Token) = if b then None else Some (u, us) in x) ≡ None → b ≡ true
  none_next u us true e = refl
  none_next u us false e = absurd cc

  -- Where a token doesn't end the list, it goes on with one step.
  pub list_more : (xs : List Item) (t : Token) (us ts : List Token) → next_item us ≡ Some (t, ts) → loop (list_pick m reserved) xs us ≡ bind (list_step m reserved xs t ts) (loop (list_pick m reserved))
  list_more xs t [] ts e = absurd cc
  list_more xs t (u ∷ us) ts e =
      let s = some_next u t us ts (ends_list (head_of u)) e in
      loop_turn (list_pick m reserved) (shorter (list_pick m reserved) EndsList Any (list_rounds m reserved law)) xs (u ∷ us)
      ∙ ap (λ b. round (if b then Pass xs else round_pick m reserved xs u (head_of u)) u us (loop (list_pick m reserved))) s.0
      ∙ by_head xs u us (head_of u)
      ∙ ap (λ v. bind (list_step m reserved xs v us) (loop (list_pick m reserved))) s.1
      ∙ ap (λ vs. bind (list_step m reserved xs t vs) (loop (list_pick m reserved))) s.2

  -- Where one does, or none is left, it is over.
  pub list_over : (xs : List Item) (us : List Token) → next_item us ≡ None → loop (list_pick m reserved) xs us ≡ closed xs us
  list_over xs [] e = loop_turn (list_pick m reserved) (shorter (list_pick m reserved) EndsList Any (list_rounds m reserved law)) xs []
  list_over xs (u ∷ us) e =
      loop_passes (list_pick m reserved) (shorter (list_pick m reserved) EndsList Any (list_rounds m reserved law)) xs xs u us
      (ap (λ b. if b then Pass xs else round_pick m reserved xs u (head_of u)) (none_next u us (ends_list (head_of u)) e))

-- The same within the limits.
pub lists_more : (m d : ℕ) → d ≤ m → (xs : List Item) (t : Token) (us ts : List Token) → next_item us ≡ Some (t, ts) →
    loop (list_pick m (reserved_pick m d)) xs us ≡ bind (list_step m (reserved_pick m d) xs t ts) (loop (list_pick m (reserved_pick m d)))
lists_more m d l = list_more m (reserved_pick m d) (begins m d l)

pub lists_over : (m d : ℕ) → d ≤ m → (xs : List Item) (us : List Token) → next_item us ≡ None → loop (list_pick m (reserved_pick m d)) xs us ≡ closed xs us
lists_over m d l = list_over m (reserved_pick m d) (begins m d l)

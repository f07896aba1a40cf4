-- The laws of reading items, lists and scripts.
use Rattle.std.proofs.Common.{◌≡◌, ℕ, zero, suc, ◌≤◌, Bool, true, false, List, [], ◌∷◌, ◌++◌, refl, ap, ◌∙◌, arith}
use Rattle.std.specs.Prelude.{Ok, if◌then◌else◌}
use Rattle.nx_grammar.specs.Reading.{Reading, Pick, Pass, Take, picked, dispatch, done, expect, then_pick, loop}
use Rattle.nx_grammar.specs.Lawful.{Heads, Any, Lives, Law, Rounds}
use Rattle.nx_grammar.proofs.Sequences.{law_seq, law_done}
use Rattle.nx_grammar.proofs.Choices.{law_dispatch}
use Rattle.nx_grammar.proofs.LoopLaws.{law_loop}
use Rattle.nx_grammar.proofs.Thens.{then_takes, then_passes}
use Rattle.nx_shtok.specs.declared.token.TokenKind.{TokenKind}
use Rattle.nx_shtok.specs.declared.token.TokenKind.TheVariants as mark
use Rattle.nx_shtok.specs.declared.token.Token.{Token}
use Rattle.nx_shtree.specs.declared.keyword.Keyword.{Keyword}
use Rattle.nx_shtree.specs.declared.keyword.Keyword.TheVariants as key
use Rattle.nx_shtree.specs.declared.tree.Simple.{Simple}
use Rattle.nx_shtree.specs.Words.{Head, Reserved, First, Separator, Last, Other, kind_head, head_of, is_separator}
use Rattle.nx_shtree.specs.Trees as tree
use Rattle.nx_shtree.specs.Trees.{Item, At, items}
use Rattle.nx_shtree.specs.Reading.{simple_pick, condition_at, closing, ending_pick, ending_at, fi_rest, else_rest, else_pick, branches_at, if_rest, while_rest, until_rest, deeper, barred, item_pick, ends_list, round_pick, list_pick, reserved_pick, list_at, end_pick, script_at}
use Rattle.nx_shtree.specs.Laws.{EndsList, IsEnd}
use Rattle.nx_shtree.proofs.Heads.{Is, Ends, plain, newline_token, key_token, key_is, separator_law, separator_ends}
use Rattle.nx_shtree.proofs.SimpleLaws.{took, simple_takes, condition_law, closing_law}

-- The law of what reads a list.
abbrev pub ListLaw : Reading Token (List Item) → Type 0
ListLaw body = Law body EndsList EndsList

-- ---- Ends of items.

ending_takes : (c : Simple) (k : TokenKind) (q : Reading Token Item) → ending_pick c k ≡ Take q → Lives q Any Any
ending_takes c mark.Newline q e = took (done (At c.line (tree.Command c))) q Any Any Any (λ t i. i) (law_done (At c.line (tree.Command c)) Any) e
ending_takes c mark.Semi q e = took (done (At c.line (tree.Command c))) q Any Any Any (λ t i. i) (law_done (At c.line (tree.Command c)) Any) e
ending_takes c mark.And q e = took (done (At c.line (tree.Background c))) q Any Any Any (λ t i. i) (law_done (At c.line (tree.Background c)) Any) e
ending_takes c _ q e = absurd cc

ending_passes : (c : Simple) (k : TokenKind) (a : Item) → ending_pick c k ≡ Pass a → ⊥
ending_passes c mark.Newline a e = cc
ending_passes c mark.Semi a e = cc
ending_passes c mark.And a e = cc
ending_passes c _ a e = cc

pub ending_law : (c : Simple) → Law (ending_at c) Any (Is Separator)
ending_law c = law_dispatch (λ t. ending_pick c t.kind) Any (Is Separator)
    (record { takes = λ t q e. ending_takes c t.kind q e; passes = λ t a e. absurd (ending_passes c t.kind a e) })
    (record { value = At c.line (tree.Command c); words = λ r. newline_token ∷ r; ends = λ r h. refl; first = λ r h. refl })

pub fi_law : (t : Token) (c : Simple) (xs : List Item) → Law (fi_rest t c xs) Any (Is Separator)
unfolding fi_rest
fi_law t c xs = law_seq (expect is_separator) _ Any (Is Separator) Any Any separator_law (λ s. law_done (At t.line (tree.If c (items xs))) Any) (λ u i. tt)

fi_on : (t : Token) (c : Simple) (xs : List Item) (r : List Token) → fi_rest t c xs (newline_token ∷ r) ≡ Ok (At t.line (tree.If c (items xs)), r)
unfolding fi_rest
fi_on t c xs r = refl

-- ---- "if", "while" and "until".

module _ (body : Reading Token (List Item)) (law : ListLaw body) where
  pub else_law : (t : Token) (c : Simple) (xs : List Item) → Law (else_rest body t c xs) Any EndsList
  unfolding else_rest
  else_law t c xs =
      law_seq body _ EndsList EndsList Any (Is (Reserved key.Fi)) law
      (λ ys. law_seq (closing key.Fi) _ Any (Is (Reserved key.Fi)) Any Any (closing_law key.Fi) (λ s. law_done (At t.line (tree.IfElse c (items xs) (items ys))) Any) (λ u i. tt)) (λ u i. ap ends_list i)

  branches_take : (t : Token) (c : Simple) (xs : List Item) (h : Head) (q : Reading Token Item) → else_pick body t c xs h ≡ Take q → Lives q Any Any
  branches_take t c xs (Reserved key.Else) q e = took (else_rest body t c xs) q Any Any EndsList (λ u i. i) (else_law t c xs) e
  branches_take t c xs (Reserved key.Fi) q e = took (fi_rest t c xs) q Any Any (Is Separator) (λ u i. i) (fi_law t c xs) e
  branches_take t c xs _ q e = absurd cc

  branches_pass : (t : Token) (c : Simple) (xs : List Item) (h : Head) (a : Item) → else_pick body t c xs h ≡ Pass a → ⊥
  branches_pass t c xs (Reserved key.Else) a e = cc
  branches_pass t c xs (Reserved key.Fi) a e = cc
  branches_pass t c xs _ a e = cc

  pub branches_law : (t : Token) (c : Simple) (xs : List Item) → Law (branches_at body t c xs) Any (Is (Reserved key.Fi))
  branches_law t c xs = law_dispatch (λ u. else_pick body t c xs (head_of u)) Any (Is (Reserved key.Fi))
      (record { takes = λ u q e. branches_take t c xs (head_of u) q e; passes = λ u a e. absurd (branches_pass t c xs (head_of u) a e) })
      (record {
        value = At t.line (tree.If c (items xs));
        words = λ r. key_token key.Fi ∷ newline_token ∷ r;
        ends = λ r h. ap (λ x. picked (else_pick body t c xs x) (key_token key.Fi) (newline_token ∷ r)) (key_is key.Fi) ∙ fi_on t c xs r;
        first = λ r h. key_is key.Fi;
      })

  pub if_law : (m : ℕ) (t : Token) → Law (if_rest (suc m) body t) Any (Is (First plain))
  unfolding if_rest
  if_law m t =
      law_seq (condition_at (suc m) key.Then) _ Any (Is (First plain)) Any EndsList (condition_law m key.Then)
      (λ c. law_seq body _ EndsList EndsList Any (Is (Reserved key.Fi)) law (λ xs. branches_law t c xs) (λ u i. ap ends_list i)) (λ u i. tt)

  pub while_law : (m : ℕ) (t : Token) → Law (while_rest (suc m) body t) Any (Is (First plain))
  unfolding while_rest
  while_law m t =
      law_seq (condition_at (suc m) key.Do) _ Any (Is (First plain)) Any EndsList (condition_law m key.Do)
      (λ c. law_seq body _ EndsList EndsList Any (Is (Reserved key.Done)) law
      (λ xs. law_seq (closing key.Done) _ Any (Is (Reserved key.Done)) Any Any (closing_law key.Done) (λ s. law_done (At t.line (tree.While c (items xs))) Any) (λ u i. tt)) (λ u i. ap ends_list i)) (λ u i. tt)

  pub until_law : (m : ℕ) (t : Token) → Law (until_rest (suc m) body t) Any (Is (First plain))
  unfolding until_rest
  until_law m t =
      law_seq (condition_at (suc m) key.Do) _ Any (Is (First plain)) Any EndsList (condition_law m key.Do)
      (λ c. law_seq body _ EndsList EndsList Any (Is (Reserved key.Done)) law
      (λ xs. law_seq (closing key.Done) _ Any (Is (Reserved key.Done)) Any Any (closing_law key.Done) (λ s. law_done (At t.line (tree.Until c (items xs))) Any) (λ u i. tt)) (λ u i. ap ends_list i)) (λ u i. tt)

  deeper_takes : (m : ℕ) (t : Token) (k : Keyword) (q : Reading Token Item) → deeper (suc m) body t k ≡ Take q → Lives q Any Any
  deeper_takes m t key.If q e = took (if_rest (suc m) body t) q Any Any (Is (First plain)) (λ u i. i) (if_law m t) e
  deeper_takes m t key.While q e = took (while_rest (suc m) body t) q Any Any (Is (First plain)) (λ u i. i) (while_law m t) e
  deeper_takes m t key.Until q e = took (until_rest (suc m) body t) q Any Any (Is (First plain)) (λ u i. i) (until_law m t) e
  deeper_takes m t _ q e = absurd cc

  deeper_passes : (m : ℕ) (t : Token) (k : Keyword) (a : Item) → deeper m body t k ≡ Pass a → ⊥
  deeper_passes m t key.If a e = cc
  deeper_passes m t key.While a e = cc
  deeper_passes m t key.Until a e = cc
  deeper_passes m t _ a e = cc

-- ---- Items.

-- What reserved words begin is lawful.
pub record Begins (reserved : Token → Keyword → Pick Token Item) : Type 0 where
  pub takes : (t : Token) (k : Keyword) (q : Reading Token Item) → reserved t k ≡ Take q → Lives q Any Any
  pub passes : (t : Token) (k : Keyword) (a : Item) → reserved t k ≡ Pass a → ⊥

module _ (m : ℕ) (reserved : Token → Keyword → Pick Token Item) (law : Begins reserved) where
  item_takes : (t : Token) (h : Head) (q : Reading Token Item) → item_pick m reserved t h ≡ Take q → Lives q Any Any
  item_takes t (Reserved k) q e = law.takes t k q e
  item_takes t (First w) q e = then_takes (simple_pick m t (First w)) ending_at Ends Any (Is Separator) (simple_takes m t (First w)) ending_law separator_ends q e
  item_takes t _ q e = absurd cc

  -- An item takes its first token.
  pub item_passes : (t : Token) (h : Head) (a : Item) → item_pick m reserved t h ≡ Pass a → ⊥
  item_passes t (Reserved k) a e = law.passes t k a e
  item_passes t (First w) a e = then_passes (simple_pick m t (First w)) ending_at a e
  item_passes t _ a e = cc

  -- ---- Lists.

  added : (xs : List Item) (t : Token) (h : Head) (q : Reading Token (List Item)) → then_pick (item_pick m reserved t h) (λ x. done (xs ++ x ∷ [])) ≡ Take q → Lives q Any Any
  added xs t h q e = then_takes (item_pick m reserved t h) (λ x. done (xs ++ x ∷ [])) Any Any Any (item_takes t h) (λ x. law_done (xs ++ x ∷ []) Any) (λ u i. i) q e

  round_takes : (xs : List Item) (t : Token) (h : Head) (q : Reading Token (List Item)) → round_pick m reserved xs t h ≡ Take q → Lives q Any Any
  round_takes xs t Separator q e = took (done xs) q Any Any Any (λ u i. i) (law_done xs Any) e
  round_takes xs t (Reserved k) q e = added xs t (Reserved k) q e
  round_takes xs t (First w) q e = added xs t (First w) q e
  round_takes xs t Last q e = added xs t Last q e
  round_takes xs t Other q e = added xs t Other q e

  round_passes : (xs : List Item) (t : Token) (h : Head) (ys : List Item) → round_pick m reserved xs t h ≡ Pass ys → ⊥
  round_passes xs t Separator ys e = cc
  round_passes xs t (Reserved k) ys e = then_passes (item_pick m reserved t (Reserved k)) (λ x. done (xs ++ x ∷ [])) ys e
  round_passes xs t (First w) ys e = then_passes (item_pick m reserved t (First w)) (λ x. done (xs ++ x ∷ [])) ys e
  round_passes xs t Last ys e = then_passes (item_pick m reserved t Last) (λ x. done (xs ++ x ∷ [])) ys e
  round_passes xs t Other ys e = then_passes (item_pick m reserved t Other) (λ x. done (xs ++ x ∷ [])) ys e

  list_takes : (b : Bool) (xs : List Item) (t : Token) (h : Head) (q : Reading Token (List Item)) → (let x : Pick Token (List Item) = if b then Pass xs else round_pick m reserved xs t h in x) ≡ Take q → Lives q Any Any
  list_takes true xs t h q e = absurd cc
  list_takes false xs t h q e = round_takes xs t h q e

  list_same : (b : Bool) (xs : List Item) (t : Token) (h : Head) (ys : List Item) → (let x : Pick Token (List Item) = if b then Pass xs else round_pick m reserved xs t h in x) ≡ Pass ys → ys ≡ xs
  list_same true xs t h ys e = cc
  list_same false xs t h ys e = absurd (round_passes xs t h ys e)

  pub list_rounds : Rounds (list_pick m reserved) EndsList Any
  list_rounds = record {
    takes = λ xs t q e. list_takes (ends_list (head_of t)) xs t (head_of t) q e;
    stops = λ xs t h. rw h refl;
    same = λ xs ys t e. list_same (ends_list (head_of t)) xs t (head_of t) ys e;
    fits = λ t h. tt;
  }

  pub list_law : ListLaw (loop (list_pick m reserved) [])
  list_law = law_loop (list_pick m reserved) EndsList Any list_rounds []

barred_takes : (k : Keyword) (q : Reading Token Item) → barred k ≡ Take q → ⊥
barred_takes key.If q e = cc
barred_takes key.While q e = cc
barred_takes key.Until q e = cc
barred_takes _ q e = cc

barred_passes : (k : Keyword) (a : Item) → barred k ≡ Pass a → ⊥
barred_passes key.If a e = cc
barred_passes key.While a e = cc
barred_passes key.Until a e = cc
barred_passes _ a e = cc

pub begins : (m d : ℕ) → d ≤ m → Begins (reserved_pick m d)
unfolding reserved_pick
begins m zero l = record { takes = λ t k q e. absurd (barred_takes k q e); passes = λ t k a e. barred_passes k a e }
begins zero (suc d) l = absurd (omega (arith, l))
begins (suc m) (suc d) l =
    let body = list_law (suc m) (reserved_pick (suc m) d) (begins (suc m) d (omega (arith, l))) in
    record {
      takes = λ t k q e. deeper_takes (loop (list_pick (suc m) (reserved_pick (suc m) d)) []) body m t k q e;
      passes = λ t k a e. deeper_passes (loop (list_pick (suc m) (reserved_pick (suc m) d)) []) body (suc m) t k a e;
    }

-- A list within its limits.
pub lists_law : (m d : ℕ) → d ≤ m → ListLaw (list_at m d)
lists_law m d l = list_law m (reserved_pick m d) (begins m d l)

-- ---- Scripts.

end_takes : (xs : List Item) (k : TokenKind) (q : Reading Token (List Item)) → end_pick xs k ≡ Take q → ⊥
end_takes xs mark.End q e = cc
end_takes xs _ q e = cc

end_same : (xs : List Item) (k : TokenKind) (ys : List Item) → end_pick xs k ≡ Pass ys → xs ≡ ys
end_same xs mark.End ys e = cc
end_same xs _ ys e = absurd cc

pub end_stop : (xs : List Item) (r : List Token) → Heads IsEnd r → dispatch (λ t. end_pick xs t.kind) r ≡ Ok (xs, r)
end_stop xs [] h = absurd h
end_stop xs (t ∷ ts) h = ap (λ k. picked (end_pick xs k) t ts) h

pub end_law : (xs : List Item) → Law (dispatch (λ t. end_pick xs t.kind)) IsEnd IsEnd
end_law xs = law_dispatch (λ t. end_pick xs t.kind) IsEnd IsEnd
    (record { takes = λ t q e. absurd (end_takes xs t.kind q e); passes = λ t a e u f. (ap (end_pick xs) f ∙ ap Pass (end_same xs t.kind a e), f) })
    (record { value = xs; words = λ r. r; ends = λ r h. end_stop xs r h; first = λ r h. h })

pub script_law : (limit : ℕ) → Law (script_at limit) IsEnd EndsList
script_law limit = law_seq (list_at limit limit) (λ xs. dispatch (λ t. end_pick xs t.kind)) EndsList EndsList IsEnd IsEnd (lists_law limit limit (omega arith)) end_law (λ t i. ap (λ k. ends_list (kind_head k)) i)

-- What is a script is read.
use Rattle.std.proofs.Common.{◌≡◌, ℕ, suc, ◌≤◌, true, false, List, [], ◌∷◌, ◌++◌, refl, sym, ap, ◌∙◌, arith, subst}
use Rattle.std.specs.Prelude.{Ok, nat_lt, if◌then◌else◌}
use Rattle.nx_grammar.specs.Reading.{Reading, Pick, Take, Pass, picked, bind, dispatch, seq, done, loop}
use Rattle.nx_grammar.specs.Lawful.{Any}
use Rattle.nx_grammar.proofs.Loops.{shorter, loop_takes}
use Rattle.nx_grammar.proofs.LoopLaws.{loop_stops}
use Rattle.nx_shtok.specs.declared.token.TokenKind.{TokenKind}
use Rattle.nx_shtok.specs.declared.token.TokenKind.TheVariants as mark
use Rattle.nx_shtok.specs.declared.token.Token.{Token}
use Rattle.nx_shtok.specs.declared.token.Word.{Word}
use Rattle.nx_shtree.specs.declared.keyword.Keyword.{Keyword}
use Rattle.nx_shtree.specs.declared.keyword.Keyword.TheVariants as key
use Rattle.nx_shtree.specs.declared.tree.Simple.{Simple}
use Rattle.nx_shtree.specs.Words.{Reserved, First, Separator, kind_head}
use Rattle.nx_shtree.specs.Trees as tree
use Rattle.nx_shtree.specs.Trees.{Item, At, items}
use Rattle.nx_shtree.specs.Grammar.{IsSimple, IsItem, IsList, IsScript}
use Rattle.nx_shtree.specs.Grammar as grammar
use Rattle.nx_shtree.specs.Reading.{simple_rest, condition_at, ending_pick, ending_at, fi_rest, else_rest, else_pick, if_rest, while_rest, until_rest, ends_list, round_pick, list_pick, reserved_pick, list_at, end_pick, script_at}
use Rattle.nx_shtree.specs.Laws.{EndsList, IsEnd}
use Rattle.nx_shtree.proofs.Heads.{Is, EndsSimple, Ends, separator_kind, separator_on, separator_ends}
use Rattle.nx_shtree.proofs.SimpleReads.{simple_begun, condition_complete, closing_on}
use Rattle.nx_shtree.proofs.ListLaws.{Begins, list_rounds, begins, end_stop}

-- ---- Ends of items.

separator_ending : (c : Simple) (s : Token) (k : TokenKind) (rest : List Token) → kind_head k ≡ Separator → picked (ending_pick c k) s rest ≡ Ok (At c.line (tree.Command c), rest)
separator_ending c s (mark.Word w) rest i = absurd (separator_kind (mark.Word w) i)
separator_ending c s mark.Newline rest i = refl
separator_ending c s mark.Semi rest i = refl
separator_ending c s _ rest i = absurd cc

and_ending : (c : Simple) (s : Token) (rest : List Token) → s.kind ≡ mark.And → ending_at c (s ∷ rest) ≡ Ok (At c.line (tree.Background c), rest)
and_ending c s rest i = ap (λ k. picked (ending_pick c k) s rest) i

and_ends : (s : Token) → s.kind ≡ mark.And → (k : TokenKind) → k ≡ mark.And → EndsSimple k
and_ends s i k j = subst (λ z. EndsSimple z) (sym j) tt

fi_on : (t s : Token) (c : Simple) (xs : List Item) (rest : List Token) → Is Separator s → fi_rest t c xs (s ∷ rest) ≡ Ok (At t.line (tree.If c (items xs)), rest)
unfolding fi_rest
fi_on t s c xs rest i = rw (separator_on s rest i) refl

module _ (m : ℕ) (body : Reading Token (List Item)) where
  if_on : (t f s : Token) (c : Simple) (xs : List Item) (ts us rest : List Token) → condition_at m key.Then ts ≡ Ok (c, us) → body us ≡ Ok (xs, f ∷ s ∷ rest) → Is (Reserved key.Fi) f → Is Separator s →
      if_rest m body t ts ≡ Ok (At t.line (tree.If c (items xs)), rest)
  unfolding if_rest
  if_on t f s c xs ts us rest a b i j = rw (a, b) (ap (λ h. picked (else_pick body t c xs h) f (s ∷ rest)) i ∙ fi_on t s c xs rest j)

  else_on : (t f s : Token) (c : Simple) (xs ys : List Item) (vs rest : List Token) → body vs ≡ Ok (ys, f ∷ s ∷ rest) → Is (Reserved key.Fi) f → Is Separator s →
      else_rest body t c xs vs ≡ Ok (At t.line (tree.IfElse c (items xs) (items ys)), rest)
  unfolding else_rest
  else_on t f s c xs ys vs rest b i j = rw (b, closing_on key.Fi f s rest i j) refl

  if_else_on : (t e f s : Token) (c : Simple) (xs ys : List Item) (ts us vs rest : List Token) → condition_at m key.Then ts ≡ Ok (c, us) → body us ≡ Ok (xs, e ∷ vs) → Is (Reserved key.Else) e →
      body vs ≡ Ok (ys, f ∷ s ∷ rest) → Is (Reserved key.Fi) f → Is Separator s → if_rest m body t ts ≡ Ok (At t.line (tree.IfElse c (items xs) (items ys)), rest)
  unfolding if_rest
  if_else_on t e f s c xs ys ts us vs rest a b k d i j = rw (a, b) (ap (λ h. picked (else_pick body t c xs h) e vs) k ∙ else_on t f s c xs ys vs rest d i j)

  while_on : (t f s : Token) (c : Simple) (xs : List Item) (ts us rest : List Token) → condition_at m key.Do ts ≡ Ok (c, us) → body us ≡ Ok (xs, f ∷ s ∷ rest) → Is (Reserved key.Done) f → Is Separator s →
      while_rest m body t ts ≡ Ok (At t.line (tree.While c (items xs)), rest)
  unfolding while_rest
  while_on t f s c xs ts us rest a b i j = rw (a, b, closing_on key.Done f s rest i j) refl

  until_on : (t f s : Token) (c : Simple) (xs : List Item) (ts us rest : List Token) → condition_at m key.Do ts ≡ Ok (c, us) → body us ≡ Ok (xs, f ∷ s ∷ rest) → Is (Reserved key.Done) f → Is Separator s →
      until_rest m body t ts ≡ Ok (At t.line (tree.Until c (items xs)), rest)
  unfolding until_rest
  until_on t f s c xs ts us rest a b i j = rw (a, b, closing_on key.Done f s rest i j) refl

-- ---- Rounds of a list.

module _ (m : ℕ) (reserved : Token → Keyword → Pick Token Item) (law : Begins reserved) where
  -- A separator is one round.
  separator_round : (xs : List Item) (s : Token) (rest : List Token) → Is Separator s → loop (list_pick m reserved) xs (s ∷ rest) ≡ loop (list_pick m reserved) xs rest
  separator_round xs s rest i =
      loop_takes (list_pick m reserved) (shorter (list_pick m reserved) EndsList Any (list_rounds m reserved law)) xs s rest (done xs) (Ok (xs, rest))
      (ap (λ h. if ends_list h then Pass xs else round_pick m reserved xs s h) i) refl

  -- So is a command.
  command_round : (xs : List Item) (t : Token) (w : Word) (c : Simple) (x : Item) (ts us rest : List Token) → Is (First w) t → nat_lt 0 m ≡ true → simple_rest m t w ts ≡ Ok (c, us) → ending_at c us ≡ Ok (x, rest) →
      loop (list_pick m reserved) xs (t ∷ ts) ≡ loop (list_pick m reserved) (xs ++ x ∷ []) rest
  command_round xs t w c x ts us rest i l a b =
      loop_takes (list_pick m reserved) (shorter (list_pick m reserved) EndsList Any (list_rounds m reserved law)) xs t ts (seq (seq (simple_rest m t w) ending_at) (λ y. done (xs ++ y ∷ []))) (Ok (xs ++ x ∷ [], rest))
      (ap (λ h. if ends_list h then Pass xs else round_pick m reserved xs t h) i ∙ rw l refl) (rw (a, b) refl)

  -- And what a reserved word begins.
  reserved_round : (xs : List Item) (t : Token) (k : Keyword) (q : Reading Token Item) (x : Item) (ts rest : List Token) → Is (Reserved k) t → ends_list (Reserved k) ≡ false → reserved t k ≡ Take q → q ts ≡ Ok (x, rest) →
      loop (list_pick m reserved) xs (t ∷ ts) ≡ loop (list_pick m reserved) (xs ++ x ∷ []) rest
  reserved_round xs t k q x ts rest i n e a =
      loop_takes (list_pick m reserved) (shorter (list_pick m reserved) EndsList Any (list_rounds m reserved law)) xs t ts (seq q (λ y. done (xs ++ y ∷ []))) (Ok (xs ++ x ∷ [], rest))
      (ap (λ h. if ends_list h then Pass xs else round_pick m reserved xs t h) i ∙ rw (n, e) refl) (rw a refl)

  -- A list is over at what ends it.
  list_stops : (xs : List Item) (f : Token) (rest : List Token) → EndsList f → loop (list_pick m reserved) xs (f ∷ rest) ≡ Ok (xs, f ∷ rest)
  list_stops xs f rest h = loop_stops (list_pick m reserved) EndsList Any (list_rounds m reserved law) xs (f ∷ rest) h

if_taken : (m d : ℕ) (t : Token) → reserved_pick m (suc d) t key.If ≡ Take (if_rest m (list_at m d) t)
unfolding reserved_pick
if_taken m d t = refl

while_taken : (m d : ℕ) (t : Token) → reserved_pick m (suc d) t key.While ≡ Take (while_rest m (list_at m d) t)
unfolding reserved_pick
while_taken m d t = refl

until_taken : (m d : ℕ) (t : Token) → reserved_pick m (suc d) t key.Until ≡ Take (until_rest m (list_at m d) t)
unfolding reserved_pick
until_taken m d t = refl

-- ---- Commands.

command_on : (m d : ℕ) (ts : List Token) (c : Simple) (s : Token) (x : Item) (rest : List Token) → d ≤ m → IsSimple m ts c (s ∷ rest) → Ends s → ending_at c (s ∷ rest) ≡ Ok (x, rest) → (xs : List Item) →
    loop (list_pick m (reserved_pick m d)) xs ts ≡ loop (list_pick m (reserved_pick m d)) (xs ++ x ∷ []) rest
command_on m d ts c s x rest l h n e xs =
    let b = simple_begun h n in
    ap (λ z. loop (list_pick m (reserved_pick m d)) xs z) b.is ∙ command_round m (reserved_pick m d) (begins m d l) xs b.first b.word c x b.behind (s ∷ rest) rest b.head b.fits b.reads e

-- ---- Items and lists.

closes : (k : Keyword) (t : Token) → ends_list (Reserved k) ≡ true → Is (Reserved k) t → EndsList t
closes k t e i = ap ends_list i ∙ e

mutual
  pub item_complete : {m d : ℕ} {ts : List Token} {x : Item} {rest : List Token} → IsItem m d ts x rest → d ≤ m → (xs : List Item) → loop (list_pick m (reserved_pick m d)) xs ts ≡ loop (list_pick m (reserved_pick m d)) (xs ++ x ∷ []) rest
  item_complete (grammar.Command m d s ts rest c h i) l xs = command_on m d ts c s (At c.line (tree.Command c)) rest l h (separator_ends s i) (separator_ending c s s.kind rest i) xs
  item_complete (grammar.Background m d s ts rest c h i) l xs = command_on m d ts c s (At c.line (tree.Background c)) rest l h (and_ends s i s.kind i) (and_ending c s rest i) xs
  item_complete (grammar.If m d t u f s ts us rest c ys i a j b k n) l xs =
      reserved_round m (reserved_pick m (suc d)) (begins m (suc d) l) xs t key.If (if_rest m (list_at m d) t) (At t.line (tree.If c (items ys))) ts rest i refl (if_taken m d t)
      (if_on m (list_at m d) t f s c ys ts us rest (condition_complete key.Then u us a j) (list_complete b (omega (arith, l)) ∙ list_stops m (reserved_pick m d) (begins m d (omega (arith, l))) ys f (s ∷ rest) (closes key.Fi f refl k)) k n)
  item_complete (grammar.IfElse m d t u e f s ts us vs rest c ys zs i a j b o p k n) l xs =
      reserved_round m (reserved_pick m (suc d)) (begins m (suc d) l) xs t key.If (if_rest m (list_at m d) t) (At t.line (tree.IfElse c (items ys) (items zs))) ts rest i refl (if_taken m d t)
      (if_else_on m (list_at m d) t e f s c ys zs ts us vs rest (condition_complete key.Then u us a j)
      (list_complete b (omega (arith, l)) ∙ list_stops m (reserved_pick m d) (begins m d (omega (arith, l))) ys e vs (closes key.Else e refl o)) o
      (list_complete p (omega (arith, l)) ∙ list_stops m (reserved_pick m d) (begins m d (omega (arith, l))) zs f (s ∷ rest) (closes key.Fi f refl k)) k n)
  item_complete (grammar.While m d t u f s ts us rest c ys i a j b k n) l xs =
      reserved_round m (reserved_pick m (suc d)) (begins m (suc d) l) xs t key.While (while_rest m (list_at m d) t) (At t.line (tree.While c (items ys))) ts rest i refl (while_taken m d t)
      (while_on m (list_at m d) t f s c ys ts us rest (condition_complete key.Do u us a j) (list_complete b (omega (arith, l)) ∙ list_stops m (reserved_pick m d) (begins m d (omega (arith, l))) ys f (s ∷ rest) (closes key.Done f refl k)) k n)
  item_complete (grammar.Until m d t u f s ts us rest c ys i a j b k n) l xs =
      reserved_round m (reserved_pick m (suc d)) (begins m (suc d) l) xs t key.Until (until_rest m (list_at m d) t) (At t.line (tree.Until c (items ys))) ts rest i refl (until_taken m d t)
      (until_on m (list_at m d) t f s c ys ts us rest (condition_complete key.Do u us a j) (list_complete b (omega (arith, l)) ∙ list_stops m (reserved_pick m d) (begins m d (omega (arith, l))) ys f (s ∷ rest) (closes key.Done f refl k)) k n)

  pub list_complete : {m d : ℕ} {ts : List Token} {xs : List Item} {rest : List Token} → IsList m d ts xs rest → d ≤ m → list_at m d ts ≡ loop (list_pick m (reserved_pick m d)) xs rest
  list_complete (grammar.Empty m d ts) l = refl
  list_complete (grammar.Separated m d s ts rest xs h i) l = list_complete h l ∙ separator_round m (reserved_pick m d) (begins m d l) xs s rest i
  list_complete (grammar.Added m d ts us rest xs x h p) l = list_complete h l ∙ item_complete p l xs

-- ---- Scripts.

end_closes : (t : Token) → IsEnd t → EndsList t
end_closes t i = ap (λ k. ends_list (kind_head k)) i

pub script_complete : {limit : ℕ} {ts : List Token} {xs : List Item} → IsScript limit ts xs → (rest : List Token) × (script_at limit ts ≡ Ok (xs, rest))
script_complete (grammar.Script limit t ts xs h i) =
    let e : list_at limit limit ts ≡ Ok (xs, t ∷ []) = list_complete h (omega arith) ∙ list_stops limit (reserved_pick limit limit) (begins limit limit (omega arith)) xs t [] (end_closes t i) in
    (t ∷ [], ap (λ o. bind o (λ ys. dispatch (λ u. end_pick ys u.kind))) e ∙ end_stop xs (t ∷ []) i)

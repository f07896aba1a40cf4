-- What is read as a script was one.
use Rattle.std.proofs.Common.{◌≡◌, ℕ, zero, suc, ◌≤◌, Bool, true, false, List, [], ◌∷◌, ◌++◌, refl, sym, ap, ◌∙◌, arith, subst}
use Rattle.std.specs.Prelude.{Ok, if◌then◌else◌}
use Rattle.nx_grammar.specs.Reading.{Out, Reading, Pick, Refuse, Pass, Take, picked, dispatch, done, expect, then_pick, loop}
use Rattle.nx_grammar.specs.Lawful.{Any}
use Rattle.nx_grammar.proofs.Results.{bound, ok_same}
use Rattle.nx_grammar.proofs.Loops.{shorter, loop_keeps}
use Rattle.nx_shtok.specs.declared.token.TokenKind.{TokenKind}
use Rattle.nx_shtok.specs.declared.token.TokenKind.TheVariants as mark
use Rattle.nx_shtok.specs.declared.token.Token.{Token}
use Rattle.nx_shtree.specs.declared.keyword.Keyword.{Keyword}
use Rattle.nx_shtree.specs.declared.keyword.Keyword.TheVariants as key
use Rattle.nx_shtree.specs.declared.tree.Simple.{Simple}
use Rattle.nx_shtree.specs.Words.{Head, Reserved, First, Separator, Last, Other, head_of, is_separator}
use Rattle.nx_shtree.specs.Trees as tree
use Rattle.nx_shtree.specs.Trees.{Item, At, items}
use Rattle.nx_shtree.specs.Grammar.{IsSimple, IsItem, IsList, IsScript}
use Rattle.nx_shtree.specs.Grammar as grammar
use Rattle.nx_shtree.specs.Reading.{simple_pick, condition_at, closing, ending_pick, ending_at, fi_rest, else_rest, else_pick, branches_at, if_rest, while_rest, until_rest, deeper, barred, item_pick, ends_list, round_pick, list_pick, reserved_pick, list_at, end_pick, script_at}
use Rattle.nx_shtree.specs.Laws.{EndsList, IsEnd}
use Rattle.nx_shtree.proofs.Heads.{Is, found_separator}
use Rattle.nx_shtree.proofs.SimpleReads.{simple_head_sound, condition_sound, closing_sound}
use Rattle.nx_shtree.proofs.ListLaws.{Begins, list_rounds, begins}

-- What a pick and more after it read, each of them read.
then_read : {A B : Type 0} (x : Pick Token A) (next : A → Reading Token B) (t : Token) (us : List Token) (b : B) (rest : List Token) → picked (then_pick x next) t us ≡ Ok (b, rest) →
    (a : A) × (mid : List Token) × (picked x t us ≡ Ok (a, mid)) × (next a mid ≡ Ok (b, rest))
then_read (Refuse kind) next t us b rest h = absurd cc
then_read (Pass a) next t us b rest h = absurd cc
then_read (Take read) next t us b rest h = bound (read us) next (b, rest) h

moved : (m d : ℕ) (ts : List Token) (x y : Item) (r s : List Token) → (let o : Out Token Item = Ok (x, r) in o) ≡ Ok (y, s) → IsItem m d ts x r → IsItem m d ts y s
moved m d ts x y r s e h = let o = ok_same x y r s e in subst (λ z. IsItem m d ts y z) o.1 (subst (λ z. IsItem m d ts z r) o.0 h)

-- A list before what closes an item.
closed : (m d : ℕ) (us : List Token) (xs : List Item) (mid : List Token) (f s : Token) (rest : List Token) → mid ≡ f ∷ s ∷ rest → IsList m d us xs mid → IsList m d us xs (f ∷ s ∷ rest)
closed m d us xs mid f s rest e h = subst (λ r. IsList m d us xs r) e h

-- ---- Commands.

separated : (m d : ℕ) (ts : List Token) (c : Simple) (s : Token) (us : List Token) (x : Item) (rest : List Token) → Is Separator s → IsSimple m ts c (s ∷ us) → (let o : Out Token Item = Ok (At c.line (tree.Command c), us) in o) ≡ Ok (x, rest) → IsItem m d ts x rest
separated m d ts c s us x rest i h e = moved m d ts (At c.line (tree.Command c)) x us rest e (grammar.Command m d s ts us c h i)

ending_kind : (m d : ℕ) (ts : List Token) (c : Simple) (s : Token) (k : TokenKind) (us : List Token) (x : Item) (rest : List Token) → s.kind ≡ k → IsSimple m ts c (s ∷ us) → picked (ending_pick c k) s us ≡ Ok (x, rest) → IsItem m d ts x rest
ending_kind m d ts c s mark.Newline us x rest i h e = separated m d ts c s us x rest (ap (λ z. head_of (record { kind = z; line = 0 })) i) h e
ending_kind m d ts c s mark.Semi us x rest i h e = separated m d ts c s us x rest (ap (λ z. head_of (record { kind = z; line = 0 })) i) h e
ending_kind m d ts c s mark.And us x rest i h e = moved m d ts (At c.line (tree.Background c)) x us rest e (grammar.Background m d s ts us c h i)
ending_kind m d ts c s _ us x rest i h e = absurd cc

ending_sound : (m d : ℕ) (ts : List Token) (c : Simple) (us : List Token) (x : Item) (rest : List Token) → IsSimple m ts c us → ending_at c us ≡ Ok (x, rest) → IsItem m d ts x rest
ending_sound m d ts c [] x rest h e = absurd cc
ending_sound m d ts c (s ∷ us) x rest h e = ending_kind m d ts c s s.kind us x rest refl h e

-- ---- "if", "while" and "until".

-- What is read as a list is one.
abbrev pub ListSound : ℕ → ℕ → Reading Token (List Item) → Type 0
ListSound m d body = (ts : List Token) (xs : List Item) (rest : List Token) → body ts ≡ Ok (xs, rest) → IsList m d ts xs rest

module _ (m d : ℕ) (body : Reading Token (List Item)) (sound : ListSound m d body) where
  fi_sound : (t u f : Token) (ts us vs : List Token) (c : Simple) (xs : List Item) (x : Item) (rest : List Token) → Is (Reserved key.If) t → grammar.IsCondition m ts c (u ∷ us) → Is (Reserved key.Then) u →
      IsList m d us xs (f ∷ vs) → Is (Reserved key.Fi) f → fi_rest t c xs vs ≡ Ok (x, rest) → IsItem m (suc d) (t ∷ ts) x rest
  unfolding fi_rest
  fi_sound t u f ts us vs c xs x rest i a j b k e =
      let s = bound (expect is_separator vs) _ (x, rest) e in
      let g = found_separator vs s.0 s.1 s.2 in
      moved m (suc d) (t ∷ ts) (At t.line (tree.If c (items xs))) x s.1 rest s.3
      (grammar.If m d t u f s.0 ts us s.1 c xs i a j (subst (λ r. IsList m d us xs (f ∷ r)) g.is b) k g.head)

  else_sound : (t u e : Token) (ts us vs : List Token) (c : Simple) (xs : List Item) (x : Item) (rest : List Token) → Is (Reserved key.If) t → grammar.IsCondition m ts c (u ∷ us) → Is (Reserved key.Then) u →
      IsList m d us xs (e ∷ vs) → Is (Reserved key.Else) e → else_rest body t c xs vs ≡ Ok (x, rest) → IsItem m (suc d) (t ∷ ts) x rest
  unfolding else_rest
  else_sound t u e ts us vs c xs x rest i a j b k h =
      let y = bound (body vs) _ (x, rest) h in
      let s = bound (closing key.Fi y.1) _ (x, rest) y.3 in
      let f = closing_sound key.Fi y.1 s.0 s.1 s.2 in
      moved m (suc d) (t ∷ ts) (At t.line (tree.IfElse c (items xs) (items y.0))) x s.1 rest s.3
      (grammar.IfElse m d t u e f.word s.0 ts us vs s.1 c xs y.0 i a j b k (subst (λ r. IsList m d vs y.0 r) f.is (sound vs y.0 y.1 y.2)) f.head f.separator)

  branches_head : (t u e : Token) (h : Head) (ts us vs : List Token) (c : Simple) (xs : List Item) (x : Item) (rest : List Token) → Is (Reserved key.If) t → grammar.IsCondition m ts c (u ∷ us) → Is (Reserved key.Then) u →
      IsList m d us xs (e ∷ vs) → Is h e → picked (else_pick body t c xs h) e vs ≡ Ok (x, rest) → IsItem m (suc d) (t ∷ ts) x rest
  branches_head t u e (Reserved key.Else) ts us vs c xs x rest i a j b k h = else_sound t u e ts us vs c xs x rest i a j b k h
  branches_head t u e (Reserved key.Fi) ts us vs c xs x rest i a j b k h = fi_sound t u e ts us vs c xs x rest i a j b k h
  branches_head t u e _ ts us vs c xs x rest i a j b k h = absurd cc

  branches_sound : (t u : Token) (ts us ws : List Token) (c : Simple) (xs : List Item) (x : Item) (rest : List Token) → Is (Reserved key.If) t → grammar.IsCondition m ts c (u ∷ us) → Is (Reserved key.Then) u →
      IsList m d us xs ws → branches_at body t c xs ws ≡ Ok (x, rest) → IsItem m (suc d) (t ∷ ts) x rest
  branches_sound t u ts us [] c xs x rest i a j b h = absurd cc
  branches_sound t u ts us (e ∷ vs) c xs x rest i a j b h = branches_head t u e (head_of e) ts us vs c xs x rest i a j b refl h

  if_sound : (t : Token) (ts : List Token) (x : Item) (rest : List Token) → Is (Reserved key.If) t → if_rest m body t ts ≡ Ok (x, rest) → IsItem m (suc d) (t ∷ ts) x rest
  unfolding if_rest
  if_sound t ts x rest i e =
      let a = bound (condition_at m key.Then ts) _ (x, rest) e in
      let b = bound (body a.1) _ (x, rest) a.3 in
      let f = condition_sound m key.Then ts a.0 a.1 a.2 in
      branches_sound t f.word ts a.1 b.1 a.0 b.0 x rest i f.is f.head (sound a.1 b.0 b.1 b.2) b.3

  while_sound : (t : Token) (ts : List Token) (x : Item) (rest : List Token) → Is (Reserved key.While) t → while_rest m body t ts ≡ Ok (x, rest) → IsItem m (suc d) (t ∷ ts) x rest
  unfolding while_rest
  while_sound t ts x rest i e =
      let a = bound (condition_at m key.Do ts) _ (x, rest) e in
      let b = bound (body a.1) _ (x, rest) a.3 in
      let s = bound (closing key.Done b.1) _ (x, rest) b.3 in
      let f = condition_sound m key.Do ts a.0 a.1 a.2 in
      let g = closing_sound key.Done b.1 s.0 s.1 s.2 in
      moved m (suc d) (t ∷ ts) (At t.line (tree.While a.0 (items b.0))) x s.1 rest s.3
      (grammar.While m d t f.word g.word s.0 ts a.1 s.1 a.0 b.0 i f.is f.head (closed m d a.1 b.0 b.1 g.word s.0 s.1 g.is (sound a.1 b.0 b.1 b.2)) g.head g.separator)

  until_sound : (t : Token) (ts : List Token) (x : Item) (rest : List Token) → Is (Reserved key.Until) t → until_rest m body t ts ≡ Ok (x, rest) → IsItem m (suc d) (t ∷ ts) x rest
  unfolding until_rest
  until_sound t ts x rest i e =
      let a = bound (condition_at m key.Do ts) _ (x, rest) e in
      let b = bound (body a.1) _ (x, rest) a.3 in
      let s = bound (closing key.Done b.1) _ (x, rest) b.3 in
      let f = condition_sound m key.Do ts a.0 a.1 a.2 in
      let g = closing_sound key.Done b.1 s.0 s.1 s.2 in
      moved m (suc d) (t ∷ ts) (At t.line (tree.Until a.0 (items b.0))) x s.1 rest s.3
      (grammar.Until m d t f.word g.word s.0 ts a.1 s.1 a.0 b.0 i f.is f.head (closed m d a.1 b.0 b.1 g.word s.0 s.1 g.is (sound a.1 b.0 b.1 b.2)) g.head g.separator)

  deeper_sound : (t : Token) (k : Keyword) (ts : List Token) (x : Item) (rest : List Token) → Is (Reserved k) t → picked (deeper m body t k) t ts ≡ Ok (x, rest) → IsItem m (suc d) (t ∷ ts) x rest
  deeper_sound t key.If ts x rest i e = if_sound t ts x rest i e
  deeper_sound t key.While ts x rest i e = while_sound t ts x rest i e
  deeper_sound t key.Until ts x rest i e = until_sound t ts x rest i e
  deeper_sound t _ ts x rest i e = absurd cc

barred_none : (t : Token) (k : Keyword) (ts : List Token) (x : Item) (rest : List Token) → picked (barred k) t ts ≡ Ok (x, rest) → ⊥
barred_none t key.If ts x rest e = cc
barred_none t key.While ts x rest e = cc
barred_none t key.Until ts x rest e = cc
barred_none t _ ts x rest e = cc

-- ---- Lists.

-- What reserved words begin is read as the grammar has it.
abbrev ReservedSound : ℕ → ℕ → (Token → Keyword → Pick Token Item) → Type 0
ReservedSound m d reserved = (t : Token) (k : Keyword) (ts : List Token) (x : Item) (rest : List Token) → Is (Reserved k) t → picked (reserved t k) t ts ≡ Ok (x, rest) → IsItem m d (t ∷ ts) x rest

module _ (m d : ℕ) (reserved : Token → Keyword → Pick Token Item) (law : Begins reserved) (sound : ReservedSound m d reserved) where
  item_sound : (t : Token) (h : Head) (ts : List Token) (x : Item) (rest : List Token) → Is h t → picked (item_pick m reserved t h) t ts ≡ Ok (x, rest) → IsItem m d (t ∷ ts) x rest
  item_sound t (Reserved k) ts x rest i e = sound t k ts x rest i e
  item_sound t (First w) ts x rest i e =
      let z = then_read (simple_pick m t (First w)) ending_at t ts x rest e in
      ending_sound m d (t ∷ ts) z.0 z.1 x rest (simple_head_sound m t (First w) ts z.0 z.1 i z.2) z.3
  item_sound t _ ts x rest i e = absurd cc

  added : (front : List Token) (xs ys : List Item) (t : Token) (h : Head) (us mid : List Token) → Is h t → picked (then_pick (item_pick m reserved t h) (λ x. done (xs ++ x ∷ []))) t us ≡ Ok (ys, mid) → IsList m d front xs (t ∷ us) → IsList m d front ys mid
  added front xs ys t h us mid i e k =
      let z = then_read (item_pick m reserved t h) (λ x. done (xs ++ x ∷ [])) t us ys mid e in
      let o = ok_same (xs ++ z.0 ∷ []) ys z.1 mid z.3 in
      subst (λ r. IsList m d front ys r) o.1 (subst (λ r. IsList m d front r z.1) o.0 (grammar.Added m d front (t ∷ us) z.1 xs z.0 k (item_sound t h us z.0 z.1 i z.2)))

  round_sound : (front : List Token) (xs ys : List Item) (t : Token) (h : Head) (us mid : List Token) → Is h t → picked (round_pick m reserved xs t h) t us ≡ Ok (ys, mid) → IsList m d front xs (t ∷ us) → IsList m d front ys mid
  round_sound front xs ys t Separator us mid i e k =
      let o = ok_same xs ys us mid e in
      subst (λ r. IsList m d front ys r) o.1 (subst (λ r. IsList m d front r us) o.0 (grammar.Separated m d t front us xs k i))
  round_sound front xs ys t (Reserved j) us mid i e k = added front xs ys t (Reserved j) us mid i e k
  round_sound front xs ys t (First w) us mid i e k = added front xs ys t (First w) us mid i e k
  round_sound front xs ys t Last us mid i e k = added front xs ys t Last us mid i e k
  round_sound front xs ys t Other us mid i e k = added front xs ys t Other us mid i e k

  step : (front : List Token) (b : Bool) (xs ys : List Item) (t : Token) (us mid : List Token) (q : Reading Token (List Item)) → (let x : Pick Token (List Item) = if b then Pass xs else round_pick m reserved xs t (head_of t) in x) ≡ Take q → q us ≡ Ok (ys, mid) →
      IsList m d front xs (t ∷ us) → IsList m d front ys mid
  step front true xs ys t us mid q e h k = absurd cc
  step front false xs ys t us mid q e h k = round_sound front xs ys t (head_of t) us mid refl (ap (λ y. picked y t us) e ∙ h) k

  pub list_sound : ListSound m d (loop (list_pick m reserved) [])
  list_sound ts xs rest e =
      loop_keeps (list_pick m reserved) (shorter (list_pick m reserved) EndsList Any (list_rounds m reserved law)) (λ ys us. IsList m d ts ys us) (λ ys us. IsList m d ts ys us)
      (λ ys t us q zs mid i h k. step ts (ends_list (head_of t)) ys zs t us mid q i h k)
      (λ ys zs t us i k. subst (λ r. IsList m d ts r (t ∷ us)) (sym ((list_rounds m reserved law).same ys zs t i)) k)
      [] ts xs rest e (grammar.Empty m d ts)

reserved_sound : (m d : ℕ) → d ≤ m → ReservedSound m d (reserved_pick m d)
unfolding reserved_pick
reserved_sound m zero l t k ts x rest i e = absurd (barred_none t k ts x rest e)
reserved_sound m (suc d) l t k ts x rest i e =
    deeper_sound m d (list_at m d) (list_sound m d (reserved_pick m d) (begins m d (omega (arith, l))) (reserved_sound m d (omega (arith, l)))) t k ts x rest i e

pub lists_sound : (m d : ℕ) → d ≤ m → ListSound m d (list_at m d)
lists_sound m d l = list_sound m d (reserved_pick m d) (begins m d l) (reserved_sound m d l)

-- ---- Scripts.

end_kind : (xs ys : List Item) (t : Token) (k : TokenKind) (ts rest : List Token) → t.kind ≡ k → picked (end_pick xs k) t ts ≡ Ok (ys, rest) → IsEnd t × (xs ≡ ys) × (t ∷ ts ≡ rest)
end_kind xs ys t mark.End ts rest i e = let o = ok_same xs ys (t ∷ ts) rest e in (i, o.0, o.1)
end_kind xs ys t _ ts rest i e = absurd cc

-- Before the end stands a list.
pub record FoundScript (limit : ℕ) (ts : List Token) (xs : List Item) (rest : List Token) : Type 0 where
  pub end : Token
  pub more : List Token
  pub is : rest ≡ end ∷ more
  pub last : IsEnd end
  pub list : IsList limit limit ts xs rest

end_found : (limit : ℕ) (ts : List Token) (xs ys : List Item) (us rest : List Token) → IsList limit limit ts xs us → dispatch (λ t. end_pick xs t.kind) us ≡ Ok (ys, rest) → FoundScript limit ts ys rest
end_found limit ts xs ys [] rest h e = absurd cc
end_found limit ts xs ys (t ∷ us) rest h e =
    let o = end_kind xs ys t t.kind us rest refl e in
    record { end = t; more = us; is = sym o.2; last = o.0; list = subst (λ r. IsList limit limit ts ys r) o.2 (subst (λ r. IsList limit limit ts r (t ∷ us)) o.1 h) }

pub script_found : (limit : ℕ) (ts : List Token) (xs : List Item) (rest : List Token) → script_at limit ts ≡ Ok (xs, rest) → FoundScript limit ts xs rest
script_found limit ts xs rest e =
    let a = bound (list_at limit limit ts) _ (xs, rest) e in
    end_found limit ts a.0 xs a.1 rest (lists_sound limit limit (omega arith) ts a.0 a.1 a.2) a.3

pub script_sound : (limit : ℕ) (ts : List Token) (xs : List Item) (t : Token) → script_at limit ts ≡ Ok (xs, t ∷ []) → IsScript limit ts xs
script_sound limit ts xs t e =
    let f = script_found limit ts xs (t ∷ []) e in
    let s : t ≡ f.end = cc in
    grammar.Script limit t ts xs f.list (ap (λ u. u.kind) s ∙ f.last)

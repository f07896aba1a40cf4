-- A text gives one answer, and what is read of its tokens is that.
use Rattle.std.proofs.Common.{◌≡◌, ℕ, List, [], ◌∷◌, ◌++◌, refl, sym, ap, ◌∙◌, append_assoc, subst}
use Rattle.std.specs.Prelude.{Result, Ok, Err}
use Rattle.nx_grammar.specs.declared.kind.Kind.{Kind}
use Rattle.nx_grammar.specs.declared.kind.Kind.TheVariants as kind
use Rattle.nx_grammar.specs.Growing.{left}
use Rattle.nx_grammar.specs.Faults.{Begins, IsOfKind, IsFault, EndsIn}
use Rattle.nx_grammar.proofs.Faults.{one_tree, ended_faults}
use Rattle.nx_grammar.proofs.Growth.{shortens}
use Rattle.nx_shtok.specs.declared.fault.ShKind.{ShKind}
use Rattle.nx_shtok.specs.declared.fault.ShFault.{ShFault}
use Rattle.nx_shtok.specs.declared.fault.ShFault.TheVariants.{Memory, Text}
use Rattle.nx_shtok.specs.declared.token.TokenKind.{TokenKind}
use Rattle.nx_shtok.specs.declared.token.TokenKind.TheVariants as mark
use Rattle.nx_shtok.specs.declared.token.Token.{Token}
use Rattle.nx_shtok.specs.Tokens.{HasTokens, AreEnded, Last, Next, IsInner, last_tokens}
use Rattle.nx_shtok.specs.Answers as token_answers
use Rattle.nx_shtree.specs.declared.stop.ParseStop.{ParseStop}
use Rattle.nx_shtree.specs.declared.stop.ParseStop.TheVariants as stop
use Rattle.nx_shtree.specs.Answers.{GivesFault, fault_seen}
use Rattle.nx_shtree.specs.Trees.{Item}
use Rattle.nx_shtree.specs.Grammar.{IsScript}
use Rattle.nx_shtree.specs.Laws.{IsEnd, EndsList, end_token}
use Rattle.nx_shtree.specs.Reading.{script_at}
use Rattle.nx_shtree.specs.Scripts.{script_limit, sh_kind, first_line, Gives, Script, NoTokens, Refused, Faults, IsAnswer, IsFaultGiven, IsGiven, FaultOf, IsAnswerOf}
use Rattle.nx_shtree.proofs.ListLaws.{script_law}
use Rattle.nx_shtree.proofs.Last.{script_spares}
use Rattle.nx_shtree.proofs.Sound.{script_found, script_sound}
use Rattle.nx_shtree.proofs.ScriptReads.{script_reads}

-- ---- A list has one fault.

-- Of two places in a list either both are one, or one comes first.
data Apart {T : Type 0} (f g : List T) (t u : T) (r s : List T) : Type 0 where
  Same : f ≡ g → t ∷ r ≡ u ∷ s → Apart f g t u r s
  Before : (h : List T) → g ≡ (f ++ t ∷ []) ++ h → Apart f g t u r s
  After : (h : List T) → f ≡ (g ++ u ∷ []) ++ h → Apart f g t u r s

longer : {T : Type 0} (x : T) (f g : List T) (t u : T) (r s : List T) → Apart f g t u r s → Apart (x ∷ f) (x ∷ g) t u r s
longer x f g t u r s (Same a b) = Same (ap (λ y. x ∷ y) a) b
longer x f g t u r s (Before h a) = Before h (ap (λ y. x ∷ y) a)
longer x f g t u r s (After h a) = After h (ap (λ y. x ∷ y) a)

apart : {T : Type 0} (f g : List T) (t u : T) (r s : List T) → f ++ t ∷ r ≡ g ++ u ∷ s → Apart f g t u r s
apart [] [] t u r s e = Same refl e
apart [] (y ∷ g) t u r s e = let a : t ≡ y = cc in Before g (ap (λ z. z ∷ g) (sym a))
apart (x ∷ f) [] t u r s e = let a : x ≡ u = cc in After f (ap (λ z. z ∷ f) a)
apart {T = T} (x ∷ f) (y ∷ g) t u r s e =
    let a : x ≡ y = cc in
    let b : f ++ t ∷ r ≡ g ++ u ∷ s = cc in
    subst (λ z. Apart (x ∷ f) (z ∷ g) t u r s) a (longer x f g t u r s (apart f g t u r s b))

-- What begins with a longer front begins with a shorter one.
begins_less : {T A : Type 0} (Has : List T → A → Type 0) (front back : List T) → Begins Has (front ++ back) → Begins Has front
begins_less Has front back h = (back ++ h.0, h.1, subst (λ x. Has x h.1) (append_assoc front back h.0) h.2)

one_kind : {T A : Type 0} (Has : ℕ → List T → A → Type 0) (j k : Kind) (begun : List T) → IsOfKind j Has begun → IsOfKind k Has begun → j ≡ k
one_kind Has kind.Syntax kind.Syntax begun a b = refl
one_kind Has kind.Syntax kind.Limit begun a b = absurd (a b.0 b.1)
one_kind Has kind.Limit kind.Syntax begun a b = absurd (b a.0 a.1)
one_kind Has kind.Limit kind.Limit begun a b = refl

pub record OneFault {T : Type 0} (j k : Kind) (r s : List T) : Type 0 where
  pub kinds : j ≡ k
  pub places : r ≡ s

module _ {T A : Type 0} (Has : ℕ → List T → A → Type 0) (n : ℕ) (ts : List T) where
  faults_apart : (j k : Kind) (r s : List T) → (x : IsFault Has n ts j r) → (y : IsFault Has n ts k s) → Apart x.front y.front x.token y.token x.more y.more → OneFault j k r s
  faults_apart j k r s x y (Same a b) =
      let t : x.token ≡ y.token = cc in
      record {
        kinds = one_kind Has j k (y.front ++ y.token ∷ []) (subst (λ z. IsOfKind j Has (z ++ y.token ∷ [])) a (subst (λ z. IsOfKind j Has (x.front ++ z ∷ [])) t x.why)) y.why;
        places = x.at ∙ b ∙ sym y.at;
      }
  faults_apart j k r s x y (Before h a) = absurd (x.here (begins_less (Has n) (x.front ++ x.token ∷ []) h (subst (λ z. Begins (Has n) z) a y.before)))
  faults_apart j k r s x y (After h a) = absurd (y.here (begins_less (Has n) (y.front ++ y.token ∷ []) h (subst (λ z. Begins (Has n) z) a x.before)))

  pub one_fault : (j k : Kind) (r s : List T) → IsFault Has n ts j r → IsFault Has n ts k s → OneFault j k r s
  one_fault j k r s x y =
      let e : x.front ++ x.token ∷ x.more ≡ y.front ++ y.token ∷ y.more = sym (x.is ∙ ap (λ z. x.front ++ z) x.at) ∙ y.is ∙ ap (λ z. y.front ++ z) y.at in
      faults_apart j k r s x y (apart x.front y.front x.token y.token x.more y.more e)

  -- And no tree.
  pub no_tree : (k : Kind) (r : List T) (a : A) → IsFault Has n ts k r → Has n ts a → ⊥
  no_tree k r a x h = x.here (x.more, a, subst (λ z. Has n z a) (x.is ∙ ap (λ z. x.front ++ z) x.at ∙ sym (append_assoc x.front (x.token ∷ []) x.more)) h)

-- ---- Tokens that end as those of a text do.

inner_no_end : (k : TokenKind) → IsInner k → k ≡ mark.End → ⊥
inner_no_end mark.End i e = i
inner_no_end (mark.Word w) i e = cc
inner_no_end mark.Newline i e = cc
inner_no_end mark.Semi i e = cc
inner_no_end mark.And i e = cc
inner_no_end mark.Into i e = cc
inner_no_end mark.Append i e = cc

ends_more : (t : Token) (ts : List Token) → EndsIn IsEnd ts → EndsIn IsEnd (t ∷ ts)
ends_more t [] h = absurd h
ends_more t (u ∷ us) h = h

pub ended_in : {ts : List Token} → AreEnded ts → EndsIn IsEnd ts
ended_in (Last line) = refl
ended_in (Next t ts i a) = ends_more t ts (ended_in a)

-- Nothing stands after the end.
last_only : (line : ℕ) (taken : List Token) (e : Token) (more : List Token) → last_tokens line ≡ taken ++ e ∷ more → IsEnd e → more ≡ []
last_only line [] e more h i =
    let a : (let x : Token = record { kind = mark.Newline; line = line } in x) ≡ e = cc in
    let b : mark.Newline ≡ mark.End = ap (λ (x : Token). x.kind) a ∙ i in
    absurd cc
last_only line (x ∷ []) e more h i = cc
last_only line (x ∷ y ∷ []) e more h i = absurd cc
last_only line (x ∷ y ∷ z ∷ taken) e more h i = absurd cc

pub only_end : {ts : List Token} → AreEnded ts → (taken : List Token) (e : Token) (more : List Token) → ts ≡ taken ++ e ∷ more → IsEnd e → more ≡ []
only_end (Last line) taken e more h i = last_only line taken e more h i
only_end (Next t ts n a) [] e more h i = let s : t ≡ e = cc in absurd (inner_no_end t.kind n (ap (λ (x : Token). x.kind) s ∙ i))
only_end (Next t ts n a) (x ∷ taken) e more h i = only_end a taken e more (cc) i

-- ---- What is read of them.

pub tree_of : (ts : List Token) (xs : List Item) (rest : List Token) → AreEnded ts → script_at script_limit ts ≡ Ok (xs, rest) → IsScript script_limit ts xs
tree_of ts xs rest a h =
    let f = script_found script_limit ts xs rest h in
    let s = (shortens (script_at script_limit) IsEnd EndsList (script_law script_limit)).on ts in
    let split : ts ≡ s.0 ++ f.end ∷ f.more = s.1 ∙ ap (λ o. s.0 ++ left o) h ∙ ap (λ r. s.0 ++ r) f.is in
    let none : f.more ≡ [] = only_end a s.0 f.end f.more split f.last in
    script_sound script_limit ts xs f.end (h ∙ ap (λ r. Ok (xs, r)) (f.is ∙ ap (λ r. f.end ∷ r) none))

pub fault_in : (ts : List Token) (why : Kind) (rest : List Token) → AreEnded ts → script_at script_limit ts ≡ Err (why, rest) → IsFault IsScript script_limit ts why rest
fault_in ts why rest a h = ended_faults script_at IsScript IsEnd EndsList end_token 1 script_reads script_spares script_limit ts why rest (ended_in a) h

pub fault_answer : (ts : List Token) (e : ParseStop) → AreEnded ts → GivesFault e (script_at script_limit ts) → FaultOf ts (fault_seen e)
fault_answer ts stop.Memory a h = tt
fault_answer ts (stop.Fault why from) a h = (from.now, why, fault_in ts why from.now a h, refl, refl)

-- ---- A text gives one answer.

-- Tokens that are the text's are those that were answered.
abbrev pub TokensOnly : List ℕ → Result (List Token) ShFault → Type 0
TokensOnly bytes result = (out : Result (List Token) ShFault) → HasTokens bytes out → token_answers.IsGiven result out

err_one : {X : Type 0} (e f : ShFault) → (let x : Result X ShFault = Err e in x) ≡ Err f → e ≡ f
err_one e f h = cc

ok_one : (ts us : List Token) → (let x : Result (List Token) ShFault = Ok ts in x) ≡ Ok us → ts ≡ us
ok_one ts us h = cc

-- Where the text has no tokens.
pub no_tokens : (bytes : List ℕ) (e : ShFault) → token_answers.Faults bytes e → Faults bytes e
no_tokens bytes Memory h = tt
no_tokens bytes (Text line k) h = NoTokens line k h

only_fault : (bytes : List ℕ) (line : ℕ) (k : ShKind) → TokensOnly bytes (Err (Text line k)) → {out : Result (List Item) ShFault} → Gives bytes out → out ≡ Err (Text line k)
only_fault bytes line k h (Script ts xs a b) = let z : (let x : Result (List Token) ShFault = Ok ts in x) ≡ Err (Text line k) = h (Ok ts) a in absurd cc
only_fault bytes line k h (NoTokens l j a) = ap Err (err_one {X = List Token} (Text l j) (Text line k) (h (Err (Text l j)) a))
only_fault bytes line k h (Refused ts rest j a b) = let z : (let x : Result (List Token) ShFault = Ok ts in x) ≡ Err (Text line k) = h (Ok ts) a in absurd cc

pub only_no_tokens : (bytes : List ℕ) (e : ShFault) → TokensOnly bytes (Err e) → (out : Result (List Item) ShFault) → Gives bytes out → IsFaultGiven e out
only_no_tokens bytes Memory h out g = tt
only_no_tokens bytes (Text line k) h out g = only_fault bytes line k h g

fault_by : (bytes : List ℕ) (ts : List Token) → HasTokens bytes (Ok ts) → (e : ShFault) → FaultOf ts e → Faults bytes e
fault_by bytes ts t Memory h = tt
fault_by bytes ts t (Text line k) h = subst (λ j. Gives bytes (Err (Text line j))) (sym h.4) (subst (λ l. Gives bytes (Err (Text l (sh_kind h.1)))) (sym h.3) (Refused ts h.0 h.1 t h.2))

-- What was read of the text's tokens is what the text gives.
pub read_by : (bytes : List ℕ) (ts : List Token) → HasTokens bytes (Ok ts) → (result : Result (List Item) ShFault) → IsAnswerOf ts result → IsAnswer bytes result
read_by bytes ts t (Ok xs) h = Script ts xs t h
read_by bytes ts t (Err e) h = fault_by bytes ts t e h

module _ (bytes : List ℕ) (ts : List Token) (one : TokensOnly bytes (Ok ts)) where
  same_tokens : (us : List Token) → HasTokens bytes (Ok us) → us ≡ ts
  same_tokens us a = ok_one us ts (one (Ok us) a)

  only_tree : (xs : List Item) → IsScript script_limit ts xs → {out : Result (List Item) ShFault} → Gives bytes out → out ≡ Ok xs
  only_tree xs h (Script us ys a b) =
      ap Ok (one_tree script_at IsScript IsEnd EndsList end_token 1 script_reads script_limit ts ys xs (subst (λ vs. IsScript script_limit vs ys) (same_tokens us a) b) h)
  only_tree xs h (NoTokens l j a) = let z : (let x : Result (List Token) ShFault = Err (Text l j) in x) ≡ Ok ts = one (Err (Text l j)) a in absurd cc
  only_tree xs h (Refused us rest j a b) = absurd (no_tree IsScript script_limit ts j rest xs (subst (λ vs. IsFault IsScript script_limit vs j rest) (same_tokens us a) b) h)

  only_refusal : (line : ℕ) (k : ShKind) → FaultOf ts (Text line k) → {out : Result (List Item) ShFault} → Gives bytes out → out ≡ Err (Text line k)
  only_refusal line k h (Script us ys a b) = absurd (no_tree IsScript script_limit ts h.1 h.0 ys h.2 (subst (λ vs. IsScript script_limit vs ys) (same_tokens us a) b))
  only_refusal line k h (NoTokens l j a) = let z : (let x : Result (List Token) ShFault = Err (Text l j) in x) ≡ Ok ts = one (Err (Text l j)) a in absurd cc
  only_refusal line k h (Refused us rest j a b) =
      let o = one_fault IsScript script_limit ts j h.1 rest h.0 (subst (λ vs. IsFault IsScript script_limit vs j rest) (same_tokens us a) b) h.2 in
      ap (λ r. Err (Text (first_line r) (sh_kind j))) o.places ∙ ap (λ q. Err (Text (first_line h.0) (sh_kind q))) o.kinds ∙ ap (λ l. Err (Text l (sh_kind h.1))) (sym h.3) ∙ ap (λ q. Err (Text line q)) (sym h.4)

  only_faults : (e : ShFault) → FaultOf ts e → (out : Result (List Item) ShFault) → Gives bytes out → IsFaultGiven e out
  only_faults Memory h out g = tt
  only_faults (Text line k) h out g = only_refusal line k h g

  -- And nothing else is.
  pub only_by : (result : Result (List Item) ShFault) → IsAnswerOf ts result → (out : Result (List Item) ShFault) → Gives bytes out → IsGiven result out
  only_by (Ok xs) h out g = only_tree xs h g
  only_by (Err e) h out g = only_faults e h out g

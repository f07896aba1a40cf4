-- A quote, a word and a text each come to one outcome, and the tokens of a text end as they should.
use Rattle.std.proofs.Common.{◌≡◌, ℕ, ◌==◌, Bool, true, false, List, [], ◌∷◌, refl, ap, sym, ◌∙◌, subst}
use Rattle.std.specs.Prelude.{Result, Ok, Err, if◌then◌else◌}
use Rattle.nx_base.specs.TextBytes.{is_line_blank}
use Rattle.nx_shtok.specs.declared.fault.ShKind.{ShKind}
use Rattle.nx_shtok.specs.declared.fault.ShKind.TheVariants.{BadByte}
use Rattle.nx_shtok.specs.declared.fault.ShFault.{ShFault}
use Rattle.nx_shtok.specs.declared.fault.ShFault.TheVariants as fault
use Rattle.nx_shtok.specs.declared.part.Part.{Part}
use Rattle.nx_shtok.specs.declared.piece.Quote.{Quote}
use Rattle.nx_shtok.specs.declared.token.TokenKind.{TokenKind}
use Rattle.nx_shtok.specs.declared.token.TokenKind.TheVariants as mark
use Rattle.nx_shtok.specs.declared.token.Token.{Token}
use Rattle.nx_shtok.specs.declared.token.Word.{Word}
use Rattle.nx_shtok.specs.Bytes.{is_script_byte, line_at}
use Rattle.nx_shtok.specs.Words as w
use Rattle.nx_shtok.specs.Words.{Piece, Over, Gives, Front, Opens, Plain, quoted_at, front_at, quoted_after, Quotes, Closes, Breaks, Holds, Spelled, word_after, Spells, Ends, Fails, Goes, Quoted, Open}
use Rattle.nx_shtok.specs.Tokens.{Start, Skips, Marks, Begins, Wrong, comment, greater, start_at, ahead, token, Tokenizes, End, Refused, Skipped, Marked, Taken, Broken, HasTokens, IsInner, AreEnded, Last, Next}
use Rattle.nx_shtok.specs.Answers.{IsAnswer, IsGiven}

-- What a quote comes to, and what a text comes to.
abbrev Out : Type 0
Out = Result (List Part × List ℕ) ShKind

abbrev Outcome : Type 0
Outcome = Result (List Token) ShFault

-- Two things at one place are one.
over_same : (a b : List ℕ) (f : Piece) → f ≡ Over a → f ≡ Over b → a ≡ b
over_same a b f e g = cc

gives_same : (p q : Part) (s t : Bool) (a b : List ℕ) (f : Piece) → f ≡ Gives p s a → f ≡ Gives q t b → (p ≡ q) × (s ≡ t) × (a ≡ b)
gives_same p q s t a b f e g = (cc, cc, cc)

wrong_same : (k l : ShKind) (f : Piece) → f ≡ w.Wrong k → f ≡ w.Wrong l → k ≡ l
wrong_same k l f e g = cc

opens_same : (k l : Quote) (a b : List ℕ) (f : Front) → f ≡ Opens k a → f ≡ Opens l b → (k ≡ l) × (a ≡ b)
opens_same k l a b f e g = (cc, cc)

plain_same : (p q : Piece) (f : Front) → f ≡ Plain p → f ≡ Plain q → p ≡ q
plain_same p q f e g = cc

-- A quote comes to one outcome.
one_quote : (z : Quote) (bytes : List ℕ) (o p : Out) → Quotes z bytes o → Quotes z bytes p → o ≡ p
one_quote z bytes o p (Closes b r e) (Closes c s h) = ap (λ (x : List ℕ). let y : Out = Ok ([], x) in y) (over_same r s (quoted_at z b) e h)
one_quote z bytes o p (Closes b r e) (Breaks c k h) = absurd (cc)
one_quote z bytes o p (Closes b r e) (Holds c q t s out h y) = absurd (cc)
one_quote z bytes o p (Breaks b k e) (Closes c s h) = absurd (cc)
one_quote z bytes o p (Breaks b k e) (Breaks c l h) = ap (λ (x : ShKind). let y : Out = Err x in y) (wrong_same k l (quoted_at z b) e h)
one_quote z bytes o p (Breaks b k e) (Holds c q t s out h y) = absurd (cc)
one_quote z bytes o p (Holds b q t r out e x) (Closes c s h) = absurd (cc)
one_quote z bytes o p (Holds b q t r out e x) (Breaks c k h) = absurd (cc)
one_quote z bytes o p (Holds b q t r out e x) (Holds c q' t' r' out' h y) =
    let s = gives_same q q' t t' r r' (quoted_at z b) e h in
    let i = one_quote z r' out out' (subst (λ (v : List ℕ). Quotes z v out) s.2 x) y in
    ap (λ (v : Part). quoted_after (v ∷ []) out) s.0 ∙ ap (λ (v : Out). quoted_after (q' ∷ []) v) i

-- What a quote that closed came to, twice.
closed_same : (k l : Quote) (a b : List ℕ) (o p : Out) → k ≡ l → a ≡ b → Quotes k a o → Quotes l b p → o ≡ p
closed_same k l a b o p e h x y = one_quote l b o p (subst (λ (v : List ℕ). Quotes l v o) h (subst (λ (v : Quote). Quotes v a o) e x)) y

ok_same : (xs ys : List Part) (r s : List ℕ) → (let o : Out = Ok (xs, r) in o) ≡ Ok (ys, s) → (xs ≡ ys) × (r ≡ s)
ok_same xs ys r s e = let p : (xs, r) ≡ (ys, s) = cc in (ap (λ (x : List Part × List ℕ). x.0) p, ap (λ (x : List Part × List ℕ). x.1) p)

ok_is_no_fault : (xs : List Part) (r : List ℕ) (k : ShKind) → (let o : Out = Ok (xs, r) in o) ≡ Err k → ⊥
ok_is_no_fault xs r k e = cc

fault_same : (k l : ShKind) → (let o : Out = Err k in o) ≡ Err l → k ≡ l
fault_same k l e = cc

-- A word comes to one outcome.
one_word : (bytes : List ℕ) (o p : Spelled) → Spells bytes o → Spells bytes p → o ≡ p
one_word bytes o p (Ends b r e) (Ends c s h) = ap (λ (x : List ℕ). let y : Spelled = Ok (record { parts = []; quoted = false }, x) in y) (over_same r s (Over r) refl (plain_same (Over r) (Over s) (front_at b) e h))
one_word bytes o p (Ends b r e) (Fails c k h) = absurd (cc)
one_word bytes o p (Ends b r e) (Goes c q t s out h y) = absurd (cc)
one_word bytes o p (Ends b r e) (Quoted c z n ps s out h g y) = absurd (cc)
one_word bytes o p (Ends b r e) (Open c z n k h g) = absurd (cc)
one_word bytes o p (Fails b k e) (Ends c s h) = absurd (cc)
one_word bytes o p (Fails b k e) (Fails c l h) = ap (λ (x : ShKind). let y : Spelled = Err (x, b) in y) (wrong_same k l (w.Wrong k) refl (plain_same (w.Wrong k) (w.Wrong l) (front_at b) e h))
one_word bytes o p (Fails b k e) (Goes c q t s out h y) = absurd (cc)
one_word bytes o p (Fails b k e) (Quoted c z n ps s out h g y) = absurd (cc)
one_word bytes o p (Fails b k e) (Open c z n l h g) = absurd (cc)
one_word bytes o p (Goes b q t r out e x) (Ends c s h) = absurd (cc)
one_word bytes o p (Goes b q t r out e x) (Fails c k h) = absurd (cc)
one_word bytes o p (Goes b q t r out e x) (Goes c q' t' r' out' h y) =
    let s = gives_same q q' t t' r r' (Gives q t r) refl (plain_same (Gives q t r) (Gives q' t' r') (front_at b) e h) in
    let i = one_word r' out out' (subst (λ (v : List ℕ). Spells v out) s.2 x) y in
    ap (λ (v : Part). word_after (v ∷ []) t out) s.0 ∙ ap (λ (v : Bool). word_after (q' ∷ []) v out) s.1 ∙ ap (λ (v : Spelled). word_after (q' ∷ []) t' v) i
one_word bytes o p (Goes b q t r out e x) (Quoted c z n ps s out' h g y) = absurd (cc)
one_word bytes o p (Goes b q t r out e x) (Open c z n k h g) = absurd (cc)
one_word bytes o p (Quoted b z n ps r out e f x) (Ends c s h) = absurd (cc)
one_word bytes o p (Quoted b z n ps r out e f x) (Fails c k h) = absurd (cc)
one_word bytes o p (Quoted b z n ps r out e f x) (Goes c q t s out' h y) = absurd (cc)
one_word bytes o p (Quoted b z n ps r out e f x) (Quoted c z' n' ps' r' out' h g y) =
    let s = opens_same z z' n n' (front_at b) e h in
    let u = ok_same ps ps' r r' (closed_same z z' n n' (Ok (ps, r)) (Ok (ps', r')) s.0 s.1 f g) in
    let i = one_word r' out out' (subst (λ (v : List ℕ). Spells v out) u.1 x) y in
    ap (λ (v : List Part). word_after v true out) u.0 ∙ ap (λ (v : Spelled). word_after ps' true v) i
one_word bytes o p (Quoted b z n ps r out e f x) (Open c z' n' k h g) =
    let s = opens_same z z' n n' (front_at b) e h in
    absurd (ok_is_no_fault ps r k (closed_same z z' n n' (Ok (ps, r)) (Err k) s.0 s.1 f g))
one_word bytes o p (Open b z n k e f) (Ends c s h) = absurd (cc)
one_word bytes o p (Open b z n k e f) (Fails c l h) = absurd (cc)
one_word bytes o p (Open b z n k e f) (Goes c q t s out h y) = absurd (cc)
one_word bytes o p (Open b z n k e f) (Quoted c z' n' ps r out h g y) =
    let s = opens_same z z' n n' (front_at b) e h in
    absurd (ok_is_no_fault ps r k (sym (closed_same z z' n n' (Err k) (Ok (ps, r)) s.0 s.1 f g)))
one_word bytes o p (Open b z n k e f) (Open c z' n' l h g) =
    let s = opens_same z z' n n' (front_at b) e h in
    ap (λ (x : ShKind). let y : Spelled = Err (x, b) in y) (fault_same k l (closed_same z z' n n' (Err k) (Err l) s.0 s.1 f g))

-- What a word that is whole came to, twice.
word_same : (v u : Word) (r s : List ℕ) → (let o : Spelled = Ok (v, r) in o) ≡ Ok (u, s) → (v ≡ u) × (r ≡ s)
word_same v u r s e = let p : (v, r) ≡ (u, s) = cc in (ap (λ (x : Word × List ℕ). x.0) p, ap (λ (x : Word × List ℕ). x.1) p)

whole_is_not_broken : (v : Word) (r at : List ℕ) (k : ShKind) → (let o : Spelled = Ok (v, r) in o) ≡ Err (k, at) → ⊥
whole_is_not_broken v r at k e = cc

broken_same : (k l : ShKind) (r s : List ℕ) → (let o : Spelled = Err (k, r) in o) ≡ Err (l, s) → (k ≡ l) × (r ≡ s)
broken_same k l r s e = let p : (k, r) ≡ (l, s) = cc in (ap (λ (x : ShKind × List ℕ). x.0) p, ap (λ (x : ShKind × List ℕ). x.1) p)

skips_same : (a b : List ℕ) (f : Start) → f ≡ Skips a → f ≡ Skips b → a ≡ b
skips_same a b f e g = cc

marks_same : (k l : TokenKind) (a b : List ℕ) (f : Start) → f ≡ Marks k a → f ≡ Marks l b → (k ≡ l) × (a ≡ b)
marks_same k l a b f e g = (cc, cc)

refused_same : (k l : ShKind) (f : Start) → f ≡ Wrong k → f ≡ Wrong l → k ≡ l
refused_same k l f e g = cc

nothing_there : start_at [] ≡ Wrong BadByte
unfolding start_at
nothing_there = refl

-- The rest of a text gives one outcome.
pub one_outcome : (text bytes : List ℕ) (o p : Outcome) → Tokenizes text bytes o → Tokenizes text bytes p → o ≡ p
one_outcome text bytes o p End End = refl
one_outcome text bytes o p End (Skipped c s out h y) = let n = nothing_there in absurd (cc)
one_outcome text bytes o p End (Marked c k s out h y) = let n = nothing_there in absurd (cc)
one_outcome text bytes o p End (Taken c v s out h g y) = let n = nothing_there in absurd (cc)
one_outcome text bytes o p End (Broken c k at h g) = let n = nothing_there in absurd (cc)
one_outcome text bytes o p (Refused b bs k e) (Refused c cs l h) = ap (λ (x : ShKind). let y : Outcome = Err (fault.Text (line_at text (b ∷ bs)) x) in y) (refused_same k l (start_at (b ∷ bs)) e h)
one_outcome text bytes o p (Refused b bs k e) (Skipped c s out h y) = absurd (cc)
one_outcome text bytes o p (Refused b bs k e) (Marked c l s out h y) = absurd (cc)
one_outcome text bytes o p (Refused b bs k e) (Taken c v s out h g y) = absurd (cc)
one_outcome text bytes o p (Refused b bs k e) (Broken c l at h g) = absurd (cc)
one_outcome text bytes o p (Skipped b r out e x) End = let n = nothing_there in absurd (cc)
one_outcome text bytes o p (Skipped b r out e x) (Refused c cs k h) = absurd (cc)
one_outcome text bytes o p (Skipped b r out e x) (Skipped c s out' h y) = one_outcome text s out out' (subst (λ (v : List ℕ). Tokenizes text v out) (skips_same r s (start_at b) e h) x) y
one_outcome text bytes o p (Skipped b r out e x) (Marked c k s out' h y) = absurd (cc)
one_outcome text bytes o p (Skipped b r out e x) (Taken c v s out' h g y) = absurd (cc)
one_outcome text bytes o p (Skipped b r out e x) (Broken c k at h g) = absurd (cc)
one_outcome text bytes o p (Marked b k r out e x) End = let n = nothing_there in absurd (cc)
one_outcome text bytes o p (Marked b k r out e x) (Refused c cs l h) = absurd (cc)
one_outcome text bytes o p (Marked b k r out e x) (Skipped c s out' h y) = absurd (cc)
one_outcome text bytes o p (Marked b k r out e x) (Marked c l s out' h y) =
    let m = marks_same k l r s (start_at b) e h in
    let i = one_outcome text s out out' (subst (λ (v : List ℕ). Tokenizes text v out) m.1 x) y in
    ap (λ (v : TokenKind). ahead (token v (line_at text b) ∷ []) out) m.0 ∙ ap (λ (v : Outcome). ahead (token l (line_at text b) ∷ []) v) i
one_outcome text bytes o p (Marked b k r out e x) (Taken c v s out' h g y) = absurd (cc)
one_outcome text bytes o p (Marked b k r out e x) (Broken c l at h g) = absurd (cc)
one_outcome text bytes o p (Taken b v r out e f x) End = let n = nothing_there in absurd (cc)
one_outcome text bytes o p (Taken b v r out e f x) (Refused c cs k h) = absurd (cc)
one_outcome text bytes o p (Taken b v r out e f x) (Skipped c s out' h y) = absurd (cc)
one_outcome text bytes o p (Taken b v r out e f x) (Marked c k s out' h y) = absurd (cc)
one_outcome text bytes o p (Taken b v r out e f x) (Taken c u s out' h g y) =
    let m = word_same v u r s (one_word b (Ok (v, r)) (Ok (u, s)) f g) in
    let i = one_outcome text s out out' (subst (λ (z : List ℕ). Tokenizes text z out) m.1 x) y in
    ap (λ (z : Word). ahead (token (mark.Word z) (line_at text b) ∷ []) out) m.0 ∙ ap (λ (z : Outcome). ahead (token (mark.Word u) (line_at text b) ∷ []) z) i
one_outcome text bytes o p (Taken b v r out e f x) (Broken c k at h g) = absurd (whole_is_not_broken v r at k (one_word b (Ok (v, r)) (Err (k, at)) f g))
one_outcome text bytes o p (Broken b k at e f) End = let n = nothing_there in absurd (cc)
one_outcome text bytes o p (Broken b k at e f) (Refused c cs l h) = absurd (cc)
one_outcome text bytes o p (Broken b k at e f) (Skipped c s out h y) = absurd (cc)
one_outcome text bytes o p (Broken b k at e f) (Marked c l s out h y) = absurd (cc)
one_outcome text bytes o p (Broken b k at e f) (Taken c u s out h g y) = absurd (whole_is_not_broken u s at k (one_word b (Ok (u, s)) (Err (k, at)) g f))
one_outcome text bytes o p (Broken b k at e f) (Broken c l at' h g) =
    let m = broken_same k l at at' (one_word b (Err (k, at)) (Err (l, at')) f g) in
    ap (λ (z : ShKind). let y : Outcome = Err (fault.Text (line_at text at) z) in y) m.0 ∙ ap (λ (z : List ℕ). let y : Outcome = Err (fault.Text (line_at text z) l) in y) m.1

-- So what was answered is all that a text gives.
pub only_answer : (text : List ℕ) (r : Result (List Token) ShFault) → IsAnswer text r → (out : Result (List Token) ShFault) → HasTokens text out → IsGiven r out
only_answer text (Ok ts) a out x = one_outcome text text out (Ok ts) x a
only_answer text (Err fault.Memory) a out x = tt
only_answer text (Err (fault.Text line k)) a out x = one_outcome text text out (Err (fault.Text line k)) x a

-- No mark is the end.
abbrev MarksInner : Start → Type 0
MarksInner (Skips rest) = Unit {0}
MarksInner (Marks k rest) = IsInner k
MarksInner Begins = Unit {0}
MarksInner (Wrong k) = Unit {0}

comment_inner : (bytes : List ℕ) → MarksInner (comment bytes)
unfolding comment
comment_inner [] = tt
comment_inner (b ∷ bs) = by (b == 10) (is_script_byte b) (comment_inner bs)
  where
    by : (s t : Bool) → MarksInner (comment bs) → MarksInner (if s then Skips (b ∷ bs) else if t then comment bs else Wrong BadByte)
    by true t i = tt
    by false true i = i
    by false false i = tt

greater_inner : (bytes : List ℕ) → MarksInner (greater bytes)
greater_inner [] = tt
greater_inner (b ∷ bs) = by (b == 62)
  where
    by : (t : Bool) → MarksInner (if t then Marks mark.Append bs else Marks mark.Into (b ∷ bs))
    by true = tt
    by false = tt

start_inner : (bytes : List ℕ) → MarksInner (start_at bytes)
unfolding start_at
start_inner [] = tt
start_inner (b ∷ bs) = by (is_line_blank b) (b == 35) (b == 10) (b == 59) (b == 38) (b == 62)
  where
    by : (s t u v x y : Bool) → MarksInner (if s then Skips bs else if t then comment bs else if u then Marks mark.Newline bs else if v then Marks mark.Semi bs else if x then Marks mark.And bs else if y then greater bs else Begins)
    by true t u v x y = tt
    by false true u v x y = comment_inner bs
    by false false true v x y = tt
    by false false false true x y = tt
    by false false false false true y = tt
    by false false false false false true = greater_inner bs
    by false false false false false false = tt

-- The tokens of an outcome.
abbrev Ended : Outcome → Type 0
Ended (Ok ts) = AreEnded ts
Ended (Err e) = Unit {0}

more_ended : (t : Token) (out : Outcome) → IsInner t.kind → Ended out → Ended (ahead (t ∷ []) out)
more_ended t (Ok ts) h x = Next t ts h x
more_ended t (Err e) h x = tt

gives_ended : (text bytes : List ℕ) (out : Outcome) → Tokenizes text bytes out → Ended out
gives_ended text bytes out End = Last (line_at text [])
gives_ended text bytes out (Refused b bs k e) = tt
gives_ended text bytes out (Skipped b r o e x) = gives_ended text r o x
gives_ended text bytes out (Marked b k r o e x) = more_ended (token k (line_at text b)) o (subst MarksInner e (start_inner b)) (gives_ended text r o x)
gives_ended text bytes out (Taken b v r o e f x) = more_ended (token (mark.Word v) (line_at text b)) o tt (gives_ended text r o x)
gives_ended text bytes out (Broken b k at e f) = tt

-- The tokens of a text end so.
pub reads_ended : (text : List ℕ) (ts : List Token) → HasTokens text (Ok ts) → AreEnded ts
reads_ended text ts x = gives_ended text text (Ok ts) x

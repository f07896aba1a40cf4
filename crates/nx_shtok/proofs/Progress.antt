-- How a quote, a word and a text are read from place to place.
use Rattle.std.proofs.Common.{◌≡◌, ℕ, suc, ◌+◌, ◌<◌, ◌≤◌, ◌||◌, ◌==◌, if◌then◌else◌, Bool, true, false, List, [], ◌∷◌, ◌++◌, length, refl, sym, ap, ◌∙◌, arith, subst, append_assoc, append-nil, inl, inr}
use Rattle.std.specs.Prelude.{Result, Ok, Err, ◌⊎◌}
use Rattle.nx_base.specs.TextBytes.{is_line_blank}
use Rattle.nx_shtok.specs.declared.fault.ShKind.{ShKind}
use Rattle.nx_shtok.specs.declared.fault.ShKind.TheVariants.{BadByte}
use Rattle.nx_shtok.specs.declared.fault.ShFault.{ShFault}
use Rattle.nx_shtok.specs.declared.fault.ShFault.TheVariants as fault
use Rattle.nx_shtok.specs.declared.part.Part.{Part}
use Rattle.nx_shtok.specs.declared.part.Part.TheVariants.{Byte, Status, Name}
use Rattle.nx_shtok.specs.declared.piece.Quote.{Quote}
use Rattle.nx_shtok.specs.declared.piece.Quote.TheVariants as quote
use Rattle.nx_shtok.specs.declared.token.TokenKind.{TokenKind}
use Rattle.nx_shtok.specs.declared.token.TokenKind.TheVariants as mark
use Rattle.nx_shtok.specs.declared.token.Token.{Token}
use Rattle.nx_shtok.specs.declared.token.Word.{Word}
use Rattle.nx_shtok.specs.declared.reader.Reader.{Reader}
use Rattle.nx_shtok.specs.declared.word.Begun.{Begun}
use Rattle.nx_shtok.specs.Bytes.{is_script_byte, ends_word, newlines, line_at}
use Rattle.nx_shtok.specs.Words as w
use Rattle.nx_shtok.specs.Words.{Over, Gives, Front, Opens, Plain, itself, escaped, expanded, quoted_at, front_at, quoted_after, Quotes, Closes, Breaks, Holds, Spelled, word_after, Spells, Ends, Fails, Goes, Quoted, Open}
use Rattle.nx_shtok.specs.Tokens.{Start, Skips, Marks, Begins, Wrong, comment, greater, start_at, ahead, token, last_tokens, Tokenizes, End, Refused, Skipped, Marked, Taken, Broken, HasTokens}
use Rattle.nx_shtok.specs.Views.{newline_of, mark_lines, IsAfter, IsLess, WordEnds}
use Rattle.nx_shtok.specs.Places.{QuoteOn, WordOn, GoesOn, IsOver, IsOnLine, LeadsTo, Reached}

abbrev Out : Type 0
Out = Result (List Part × List ℕ) ShKind

abbrev Outcome : Type 0
Outcome = Result (List Token) ShFault

-- What is left after what is left.
after_after : (n : ℕ) (bytes rest after : List ℕ) → IsAfter n rest bytes → IsAfter 0 after rest → IsAfter n after bytes
after_after n bytes rest after h k = record { lines = omega (arith, h.lines, k.lines); within = omega (arith, h.within, k.within) }

quoted_none : (out : Out) → out ≡ quoted_after [] out
quoted_none (Ok x) = refl
quoted_none (Err k) = refl

quoted_more : (xs ys : List Part) (out : Out) → quoted_after xs (quoted_after ys out) ≡ quoted_after (xs ++ ys) out
quoted_more xs ys (Ok x) = ap (λ (us : List Part). let o : Out = Ok (us, x.1) in o) (sym (append_assoc xs ys x.0))
quoted_more xs ys (Err k) = refl

pub quote_first : (z : Quote) (bytes : List ℕ) → QuoteOn z bytes [] bytes
quote_first z bytes = record { gives = λ out x. subst (λ (o : Out). Quotes z bytes o) (quoted_none out) x; left = record { lines = omega arith; within = omega arith } }

pub quote_more : (z : Quote) (bytes : List ℕ) (found new : List Part) (rest after : List ℕ) (p : Part) (q : Bool) → QuoteOn z bytes found rest → quoted_at z rest ≡ Gives p q after → IsLess 0 after rest →
    new ≡ found ++ p ∷ [] → QuoteOn z bytes new after
quote_more z bytes found new rest after p q on e l n = record {
  gives = λ out x. subst (λ (us : List Part). Quotes z bytes (quoted_after us out)) (sym n)
      (subst (λ (o : Out). Quotes z bytes o) (quoted_more found (p ∷ []) out) (on.gives (quoted_after (p ∷ []) out) (Holds rest p q after out e x)));
  left = record { lines = omega (arith, on.left.lines, l.lines); within = omega (arith, on.left.within, l.less) };
}

pub quote_closed : (z : Quote) (bytes : List ℕ) (found : List Part) (rest after : List ℕ) → QuoteOn z bytes found rest → quoted_at z rest ≡ Over after → Quotes z bytes (Ok (found, after))
quote_closed z bytes found rest after on e = subst (λ (us : List Part). Quotes z bytes (Ok (us, after))) (append-nil found) (on.gives (Ok ([], after)) (Closes rest after e))

pub quote_left : (z : Quote) (bytes : List ℕ) (found : List Part) (rest after : List ℕ) → QuoteOn z bytes found rest → IsAfter 0 after rest → IsAfter 0 after bytes
quote_left z bytes found rest after on k = after_after 0 bytes rest after on.left k

pub quote_broken : (z : Quote) (bytes : List ℕ) (found : List Part) (rest : List ℕ) (k : ShKind) → QuoteOn z bytes found rest → quoted_at z rest ≡ w.Wrong k → Quotes z bytes (Err k)
quote_broken z bytes found rest k on e = on.gives (Err k) (Breaks rest k e)

word_none : (out : Spelled) → out ≡ word_after [] false out
word_none (Ok x) = refl
word_none (Err e) = refl

or_more : (s t u : Bool) → (s || (t || u)) ≡ ((s || t) || u)
or_more true t u = refl
or_more false t u = refl

or_true : (s : Bool) → (s || true) ≡ true
or_true true = refl
or_true false = refl

or_false : (s : Bool) → (s || false) ≡ s
or_false true = refl
or_false false = refl

word_more : (xs ys : List Part) (s t : Bool) (out : Spelled) → word_after xs s (word_after ys t out) ≡ word_after (xs ++ ys) (s || t) out
word_more xs ys s t (Ok x) =
    ap (λ (us : List Part). let o : Spelled = Ok (record { parts = us; quoted = s || (t || x.0.quoted) }, x.1) in o) (sym (append_assoc xs ys x.0.parts))
    ∙ ap (λ (b : Bool). let o : Spelled = Ok (record { parts = (xs ++ ys) ++ x.0.parts; quoted = b }, x.1) in o) (or_more s t x.0.quoted)
word_more xs ys s t (Err e) = refl

pub word_first : (bytes : List ℕ) (b : Begun) → b.parts ≡ [] → b.quoted ≡ false → b.lines ≡ 0 → WordOn bytes b bytes
word_first bytes b e f g = record {
  gives = λ out x. subst (λ (us : List Part). Spells bytes (word_after us b.quoted out)) (sym e) (subst (λ (q : Bool). Spells bytes (word_after [] q out)) (sym f) (subst (λ (o : Spelled). Spells bytes o) (word_none out) x));
  left = record { lines = omega (arith, g); within = omega arith };
  few = omega (arith, g);
  taken = inr refl;
}

newline_few : (p : Part) → newline_of p ≤ 1
newline_few (Byte b) = by (b == 10)
  where
    by : (t : Bool) → (if t then 1 else 0) ≤ 1
    by true = omega arith
    by false = omega arith
newline_few Status = omega arith
newline_few (Name name) = omega arith

-- A word goes on with a part.
pub part_goes : (old new : Begun) (rest after : List ℕ) (p : Part) (q : Bool) → front_at rest ≡ Plain (Gives p q after) → IsLess (newline_of p) after rest →
    new ≡ record { parts = old.parts ++ p ∷ []; quoted = old.quoted || q; lines = old.lines + newline_of p } → GoesOn old rest new after
part_goes old new rest after p q e l i = subst (λ (b : Begun). GoesOn old rest b after) (sym i) (record {
  follows = λ bytes on. record {
    gives = λ out x. subst (λ (o : Spelled). Spells bytes o) (word_more old.parts (p ∷ []) old.quoted q out) (on.gives (word_after (p ∷ []) q out) (Goes rest p q after out e x));
    left = record { lines = omega (arith, on.left.lines, l.lines); within = omega (arith, on.left.within, l.less) };
    few = omega (arith, on.few, l.less, newline_few p);
    taken = inl (omega (arith, on.left.within, l.less));
  };
  less = l.less;
})

-- A word goes on with a quote.
pub quote_goes : (old new : Begun) (rest inner after : List ℕ) (z : Quote) (found : List Part) → front_at rest ≡ Opens z inner → IsLess 0 inner rest → Quotes z inner (Ok (found, after)) → IsAfter 0 after inner →
    new ≡ record old { parts = old.parts ++ found; quoted = true } → GoesOn old rest new after
quote_goes old new rest inner after z found e l g h i = subst (λ (b : Begun). GoesOn old rest b after) (sym i) (record {
  follows = λ bytes on. record {
    gives = λ out x. subst (λ (q : Bool). Spells bytes (word_after (old.parts ++ found) q out)) (or_true old.quoted)
        (subst (λ (o : Spelled). Spells bytes o) (word_more old.parts found old.quoted true out) (on.gives (word_after found true out) (Quoted rest z inner found after out e g x)));
    left = record { lines = omega (arith, on.left.lines, l.lines, h.lines); within = omega (arith, on.left.within, l.less, h.within) };
    few = omega (arith, on.few, l.less, h.within);
    taken = inl (omega (arith, on.left.within, l.less, h.within));
  };
  less = omega (arith, l.less, h.within);
})

pub word_whole : (bytes : List ℕ) (b c : Begun) (rest after : List ℕ) → WordOn bytes b rest → IsOver b rest c after → Spells bytes (Ok (record { parts = c.parts; quoted = c.quoted }, after))
word_whole bytes b c rest after on o = subst (λ (d : Begun). Spells bytes (Ok (record { parts = d.parts; quoted = d.quoted }, after))) (sym o.same)
    (subst (λ (us : List Part). Spells bytes (Ok (record { parts = us; quoted = b.quoted }, after))) (append-nil b.parts)
    (subst (λ (q : Bool). Spells bytes (Ok (record { parts = b.parts ++ []; quoted = q }, after))) (or_false b.quoted) (on.gives (Ok (record { parts = []; quoted = false }, after)) (Ends rest after o.is))))

-- What a word that is over leaves.
pub word_ends : (bytes : List ℕ) (b c : Begun) (rest after : List ℕ) → WordOn bytes b rest → IsOver b rest c after → WordEnds c.lines after bytes
word_ends bytes b c rest after on o = subst (λ (d : Begun). WordEnds d.lines after bytes) (sym o.same) (record {
  left = after_after b.lines bytes rest after on.left o.left;
  few = omega (arith, on.few);
  less = by on.taken;
})
  where
    by : (length rest < length bytes) ⊎ (rest ≡ bytes) → (length after < length bytes) ⊎ (front_at bytes ≡ Plain (Over after))
    by (inl l) = inl (omega (arith, o.left.within))
    by (inr i) = inr (subst (λ (d : List ℕ). front_at d ≡ Plain (Over after)) i o.is)

pub word_broken : (bytes : List ℕ) (b : Begun) (rest : List ℕ) (k : ShKind) → WordOn bytes b rest → Spells rest (Err (k, rest)) → Spells bytes (Err (k, rest))
word_broken bytes b rest k on x = on.gives (Err (k, rest)) x

ahead_none : (out : Outcome) → out ≡ ahead [] out
ahead_none (Ok ts) = refl
ahead_none (Err e) = refl

ahead_more : (xs ys : List Token) (out : Outcome) → ahead xs (ahead ys out) ≡ ahead (xs ++ ys) out
ahead_more xs ys (Ok ts) = ap (λ (us : List Token). let o : Outcome = Ok us in o) (sym (append_assoc xs ys ts))
ahead_more xs ys (Err e) = refl

-- A text has no more newlines than bytes.
pub newlines_few : (bs : List ℕ) → newlines bs ≤ length bs
newlines_few [] = omega arith
newlines_few (b ∷ bs) = by (b == 10) (newlines_few bs)
  where
    by : (t : Bool) → newlines bs ≤ length bs → (if t then suc (newlines bs) else newlines bs) ≤ suc (length bs)
    by true h = omega arith
    by false h = omega arith

-- A place's line, by the newlines after it.
pub line_there : (text rest : List ℕ) (line : ℕ) → IsOnLine text line rest → line ≡ line_at text rest
line_there text rest line h = omega (arith, h.first, h.counts)

pub follow_skip : (text : List ℕ) (old : Reader) (rest after : List ℕ) → start_at rest ≡ Skips after → IsLess 0 after rest → IsOnLine text old.line rest → LeadsTo text old rest old after
follow_skip text old rest after e l h = record {
  found = [];
  is = sym (append-nil old.found);
  place = record { first = h.first; counts = omega (arith, h.counts, l.lines); within = omega (arith, h.within, l.less) };
  less = l.less;
  gives = λ out x. subst (λ (o : Outcome). Tokenizes text rest o) (ahead_none out) (Skipped rest after out e x);
}

pub follow_mark : (text : List ℕ) (old new : Reader) (rest after : List ℕ) (k : TokenKind) → start_at rest ≡ Marks k after → IsLess (mark_lines k) after rest → IsOnLine text old.line rest →
    new ≡ record { found = old.found ++ token k old.line ∷ []; line = old.line + mark_lines k } → LeadsTo text old rest new after
follow_mark text old new rest after k e l h i = subst (λ (r : Reader). LeadsTo text old rest r after) (sym i) (record {
  found = token k old.line ∷ [];
  is = refl;
  place = record { first = omega (arith, h.first); counts = omega (arith, h.counts, l.lines); within = omega (arith, h.within, l.less) };
  less = l.less;
  gives = λ out x. subst (λ (n : ℕ). Tokenizes text rest (ahead (token k n ∷ []) out)) (sym (line_there text rest old.line h)) (Marked rest k after out e x);
})

-- A comment begins no word, and neither does a mark.
abbrev BeginsNone : Start → Type 0
BeginsNone (Skips rest) = Unit {0}
BeginsNone (Marks k rest) = Unit {0}
BeginsNone Begins = ⊥
BeginsNone (Wrong k) = Unit {0}

comment_none : (bytes : List ℕ) → BeginsNone (comment bytes)
unfolding comment
comment_none [] = tt
comment_none (b ∷ bs) = by (b == 10) (is_script_byte b) (comment_none bs)
  where
    by : (s t : Bool) → BeginsNone (comment bs) → BeginsNone (if s then Skips (b ∷ bs) else if t then comment bs else Wrong BadByte)
    by true t i = tt
    by false true i = i
    by false false i = tt

greater_none : (bytes : List ℕ) → BeginsNone (greater bytes)
greater_none [] = tt
greater_none (b ∷ bs) = by (b == 62)
  where
    by : (t : Bool) → BeginsNone (if t then Marks mark.Append bs else Marks mark.Into (b ∷ bs))
    by true = tt
    by false = tt

-- Where a word begins its first byte ends none.
begins_word : (b : ℕ) (bs : List ℕ) → start_at (b ∷ bs) ≡ Begins → ends_word b ≡ false
unfolding start_at
begins_word b bs e = by (is_line_blank b) (b == 35) (b == 10) (b == 59) (b == 38) (b == 62) e
  where
    by : (s t u v x y : Bool) → (if s then Skips bs else if t then comment bs else if u then Marks mark.Newline bs else if v then Marks mark.Semi bs else if x then Marks mark.And bs else if y then greater bs else Begins) ≡ Begins →
        (s || (u || (v || (x || y)))) ≡ false
    by true t u v x y h = absurd (cc)
    by false true u v x y h = absurd (subst BeginsNone h (comment_none bs))
    by false false true v x y h = absurd (cc)
    by false false false true x y h = absurd (cc)
    by false false false false true y h = absurd (cc)
    by false false false false false true h = absurd (subst BeginsNone h (greater_none bs))
    by false false false false false false h = refl

-- What isn't over.
abbrev NotOver : Front → Type 0
NotOver (Opens z rest) = Unit {0}
NotOver (Plain (Over rest)) = ⊥
NotOver (Plain (Gives p q rest)) = Unit {0}
NotOver (Plain (w.Wrong k)) = Unit {0}

itself_on : (q : Bool) (b : ℕ) (bs : List ℕ) → NotOver (Plain (itself q b bs))
itself_on q b bs = by (is_script_byte b)
  where
    by : (t : Bool) → NotOver (Plain (if t then Gives (Byte b) q bs else w.Wrong BadByte))
    by true = tt
    by false = tt

escaped_on : (bs : List ℕ) → NotOver (Plain (escaped bs))
escaped_on [] = tt
escaped_on (b ∷ bs) = itself_on true b bs

front_on : (b : ℕ) (bs : List ℕ) → ends_word b ≡ false → NotOver (front_at (b ∷ bs))
unfolding front_at
front_on b bs e = by (ends_word b) (b == 39) (b == 34) (b == 92) (b == 36) e
  where
    by : (s t u v x : Bool) → s ≡ false →
        NotOver (if s then Plain (Over (b ∷ bs)) else if t then Opens quote.Single bs else if u then Opens quote.Double bs else if v then Plain (escaped bs) else if x then Plain (expanded false bs) else Plain (itself false b bs))
    by true t u v x h = cc
    by false true u v x h = tt
    by false false true v x h = tt
    by false false false true x h = escaped_on bs
    by false false false false true h = tt
    by false false false false false h = itself_on false b bs

-- So a word takes a byte.
takes_a_byte : (bytes after : List ℕ) → start_at bytes ≡ Begins → front_at bytes ≡ Plain (Over after) → ⊥
unfolding start_at
takes_a_byte [] after e f = cc
takes_a_byte (b ∷ bs) after e f = subst NotOver f (front_on b bs (begins_word b bs e))

word_shorter : (bytes after : List ℕ) → start_at bytes ≡ Begins → (length after < length bytes) ⊎ (front_at bytes ≡ Plain (Over after)) → length after < length bytes
word_shorter bytes after e (inl l) = l
word_shorter bytes after e (inr f) = absurd (takes_a_byte bytes after e f)

pub follow_word : (text : List ℕ) (old new : Reader) (rest after : List ℕ) (v : Word) (n : ℕ) → start_at rest ≡ Begins → Spells rest (Ok (v, after)) → WordEnds n after rest → IsOnLine text old.line rest →
    new ≡ record { found = old.found ++ token (mark.Word v) old.line ∷ []; line = old.line + n } → LeadsTo text old rest new after
follow_word text old new rest after v n e g l h i = subst (λ (r : Reader). LeadsTo text old rest r after) (sym i) (record {
  found = token (mark.Word v) old.line ∷ [];
  is = refl;
  place = record { first = omega (arith, h.first); counts = omega (arith, h.counts, l.left.lines); within = omega (arith, h.within, l.left.within) };
  less = word_shorter rest after e l.less;
  gives = λ out x. subst (λ (k : ℕ). Tokenizes text rest (ahead (token (mark.Word v) k ∷ []) out)) (sym (line_there text rest old.line h)) (Taken rest v after out e g x);
})

-- What is refused at a place.
pub refused : (text rest : List ℕ) (line : ℕ) (k : ShKind) → 0 < length rest → start_at rest ≡ Wrong k → IsOnLine text line rest → Tokenizes text rest (Err (fault.Text line k))
refused text [] line k m e h = absurd (omega arith)
refused text (b ∷ bs) line k m e h = subst (λ (n : ℕ). Tokenizes text (b ∷ bs) (Err (fault.Text n k))) (sym (line_there text (b ∷ bs) line h)) (Refused b bs k e)

pub refused_word : (text rest at : List ℕ) (line : ℕ) (k : ShKind) → start_at rest ≡ Begins → Spells rest (Err (k, at)) → line ≡ line_at text at → Tokenizes text rest (Err (fault.Text line k))
refused_word text rest at line k e g l = subst (λ (n : ℕ). Tokenizes text rest (Err (fault.Text n k))) (sym l) (Broken rest k at e g)

pub reached_first : (text : List ℕ) (r : Reader) → r.found ≡ [] → r.line ≡ 1 → Reached text r text
reached_first text r f l = record {
  place = record { first = omega (arith, l); counts = ap (λ m. m + newlines text) l; within = omega arith };
  gives = λ out x. subst (λ (ts : List Token). HasTokens text (ahead ts out)) (sym f) (subst (λ (o : Outcome). HasTokens text o) (ahead_none out) x);
}

pub reached_next : (text : List ℕ) (old new : Reader) (rest after : List ℕ) → Reached text old rest → LeadsTo text old rest new after → Reached text new after
reached_next text old new rest after r f = record {
  place = f.place;
  gives = λ out x. subst (λ (ts : List Token). HasTokens text (ahead ts out)) (sym f.is) (subst (λ (o : Outcome). HasTokens text o) (ahead_more old.found f.found out) (r.gives (ahead f.found out) (f.gives out x)));
}

-- At the end.
pub reached_end : (text : List ℕ) (r : Reader) (rest : List ℕ) → rest ≡ [] → Reached text r rest → HasTokens text (Ok (r.found ++ last_tokens r.line))
reached_end text r rest e x =
    let at : (bs : List ℕ) → bs ≡ [] → Tokenizes text bs (Ok (last_tokens (line_at text bs))) = λ bs q. subst (λ (y : List ℕ). Tokenizes text y (Ok (last_tokens (line_at text y)))) (sym q) End in
    x.gives (Ok (last_tokens r.line)) (subst (λ (n : ℕ). Tokenizes text rest (Ok (last_tokens n))) (sym (line_there text rest r.line x.place)) (at rest e))

-- Where the rest is refused, the text is.
pub reached_fault : (text : List ℕ) (r : Reader) (rest : List ℕ) (line : ℕ) (k : ShKind) → Reached text r rest → Tokenizes text rest (Err (fault.Text line k)) → HasTokens text (Err (fault.Text line k))
reached_fault text r rest line k x f = x.gives (Err (fault.Text line k)) f

-- One step of the loops that read a script.
use Rattle.std.proofs.Common.{◌≡◌, ℕ, ◌<◌, ◌≤◌, Bool, true, false, List, [], ◌∷◌, ◌++◌, length, Option, Some, None, refl, ap, ◌∙◌, arith}
use Rattle.std.specs.Prelude.{Ok, Err, nat_lt, if◌then◌else◌}
use Rattle.nx_grammar.specs.declared.kind.Kind.TheVariants.{Syntax, Limit}
use Rattle.nx_grammar.specs.Reading.{Out, Take, Pass, Refuse, bind, done, round, loop}
use Rattle.nx_grammar.specs.Chains.{after_first, closed}
use Rattle.nx_grammar.proofs.Chains.{chain_on, chain_closed}
use Rattle.nx_grammar.proofs.Results.{ok_same}
use Rattle.nx_grammar.proofs.Loops.{shorter, loop_turn, loop_passes}
use Rattle.nx_shtok.specs.declared.token.TokenKind.{TokenKind}
use Rattle.nx_shtok.specs.declared.token.TokenKind.TheVariants as mark
use Rattle.nx_shtok.specs.declared.token.Token.{Token}
use Rattle.nx_shtok.specs.declared.token.Word.{Word}
use Rattle.nx_shtree.specs.declared.stop.ParseStop.{ParseStop}
use Rattle.nx_shtree.specs.declared.stop.ParseStop.TheVariants as stop
use Rattle.nx_shtree.specs.Words.{is_separator}
use Rattle.nx_shtree.specs.Reading.{word_pick, words_at, separator_pick}
use Rattle.nx_shtree.specs.Answers.{GivesFault, word_of, word_at, word_step}
use Rattle.nx_shtree.proofs.Heads.{NotWord}
use Rattle.nx_shtree.proofs.SimpleLaws.{words_rounds}

-- A fault of a step is one of the whole.
pub fails_on : {A B : Type 0} (e : ParseStop) (o : Out Token A) (p : Out Token B) (f : A → List Token → Out Token B) → p ≡ bind o f → GivesFault e o → GivesFault e p
fails_on stop.Memory o p f h g = tt
fails_on (stop.Fault kind at) o p f h g = h ∙ ap (λ x. bind x f) g

-- ---- Separators.

separator_short : (u : Unit {0}) (ts : List Token) (v : Unit {0}) (rest : List Token) → done {T = Token} {A = Unit {0}} tt ts ≡ Ok (v, rest) → length rest ≤ length ts
separator_short u ts v rest e = let o = ok_same tt v ts rest e in omega (arith, ap length o.1)

-- Where a separator stands next, what stands after it goes on.
pub separators_more : (ts rest : List Token) → after_first is_separator ts ≡ Some rest → loop separator_pick tt ts ≡ loop separator_pick tt rest
separators_more ts rest e = chain_on is_separator (λ u. done tt) separator_short tt ts rest e

-- Where none does, they are over.
pub separators_over : (ts : List Token) → after_first is_separator ts ≡ None → loop separator_pick tt ts ≡ closed tt ts
separators_over ts e = chain_closed is_separator (λ u. done tt) separator_short tt ts e

-- ---- Words.

word_case : (m : ℕ) (ws : List Word) (v w : Word) (t : Token) (us rest : List Token) (b : Bool) → v ≡ w → us ≡ rest →
    round (if b then Take (done (ws ++ v ∷ [])) else Refuse Limit) t us (words_at m) ≡ bind (if b then Ok (ws ++ w ∷ [], rest) else Err (Limit, t ∷ us)) (words_at m)
word_case m ws v w t us rest true e f = ap (λ x. words_at m (ws ++ x ∷ []) us) e ∙ ap (words_at m (ws ++ w ∷ [])) f
word_case m ws v w t us rest false e f = refl

some_word : (v w : Word) (us rest : List Token) → (let x : Option (Word × List Token) = Some (v, us) in x) ≡ Some (w, rest) → (v ≡ w) × (us ≡ rest)
some_word v w us rest e = let p : (let y : Word × List Token = (v, us) in y) ≡ (w, rest) = cc in (ap (λ (y : Word × List Token). y.0) p, ap (λ (y : Word × List Token). y.1) p)

word_round : (m : ℕ) (ws : List Word) (w : Word) (t : Token) (k : TokenKind) (us rest : List Token) → word_of k us ≡ Some (w, rest) → round (word_pick m ws k) t us (words_at m) ≡ bind (word_step m ws w (t ∷ us) rest) (words_at m)
word_round m ws w t (mark.Word v) us rest e = let s = some_word v w us rest e in word_case m ws v w t us rest (nat_lt (length ws) m) s.0 s.1
word_round m ws w t _ us rest e = absurd cc

-- A word more is one step.
pub word_more : (m : ℕ) (ws : List Word) (w : Word) (ts rest : List Token) → word_at ts ≡ Some (w, rest) → words_at m ws ts ≡ bind (word_step m ws w ts rest) (words_at m)
word_more m ws w [] rest e = absurd cc
word_more m ws w (t ∷ us) rest e = loop_turn (λ vs u. word_pick m vs u.kind) (shorter (λ vs u. word_pick m vs u.kind) NotWord NotWord (words_rounds m)) ws (t ∷ us) ∙ word_round m ws w t t.kind us rest e

word_none : (m : ℕ) (ws : List Word) (k : TokenKind) (us : List Token) → word_of k us ≡ None → word_pick m ws k ≡ Pass ws
word_none m ws (mark.Word v) us e = absurd cc
word_none m ws mark.Newline us e = refl
word_none m ws mark.Semi us e = refl
word_none m ws mark.And us e = refl
word_none m ws mark.Into us e = refl
word_none m ws mark.Append us e = refl
word_none m ws mark.End us e = refl

-- Where none stands next, they are over.
pub word_over : (m : ℕ) (ws : List Word) (ts : List Token) → word_at ts ≡ None → words_at m ws ts ≡ closed ws ts
word_over m ws [] e = loop_turn (λ vs u. word_pick m vs u.kind) (shorter (λ vs u. word_pick m vs u.kind) NotWord NotWord (words_rounds m)) ws []
word_over m ws (t ∷ us) e = loop_passes (λ vs u. word_pick m vs u.kind) (shorter (λ vs u. word_pick m vs u.kind) NotWord NotWord (words_rounds m)) ws ws t us (word_none m ws t.kind us e)

-- ---- Ends.

-- Where no token is left, there is no end.
pub closed_empty : {A : Type 0} (a : A) (ts : List Token) → length ts < 1 → closed a ts ≡ Err (Syntax, ts)
closed_empty a [] l = refl
closed_empty a (t ∷ ts) l = absurd (omega (arith, l))

-- Where one is, it is the end.
pub closed_full : {A : Type 0} (a : A) (ts : List Token) → 0 < length ts → closed a ts ≡ Ok (a, ts)
closed_full a [] l = absurd (omega (arith, l))
closed_full a (t ∷ ts) l = refl

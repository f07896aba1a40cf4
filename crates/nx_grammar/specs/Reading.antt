-- Reading a list of tokens, one token ahead.
use Rattle.std.specs.Prelude.{ℕ, zero, suc, Bool, if◌then◌else◌, List, [], ◌∷◌, length, Result, Ok, Err}
use Rattle.nx_grammar.specs.declared.kind.Kind.{Kind}
use Rattle.nx_grammar.specs.declared.kind.Kind.TheVariants.{Syntax}

-- What was read and the tokens after it, or why it was refused and the tokens from the refused one on.
abbrev pub Out : Type 0 → Type 0 → Type 0
Out T A = Result (A × List T) (Kind × List T)

-- A reading takes tokens from the front of a list.
abbrev pub Reading : Type 0 → Type 0 → Type 0
Reading T A = List T → Out T A

-- What the next token does: it is refused, or it is left for others and this was read, or it is taken and this is read after it.
pub data Pick (T A : Type 0) : Type 0 where
  Refuse : Kind → Pick T A
  Pass : A → Pick T A
  Take : (List T → Result (A × List T) (Kind × List T)) → Pick T A

-- What a pick gives at a token with others after it.
abbrev pub picked : {T A : Type 0} → Pick T A → T → List T → Out T A
picked (Refuse kind) t ts = Err (kind, t ∷ ts)
picked (Pass a) t ts = Ok (a, t ∷ ts)
picked (Take read) t ts = read ts

-- The choice by the next token; where none is left it is a fault of syntax.
abbrev pub dispatch : {T A : Type 0} → (T → Pick T A) → Reading T A
dispatch pick [] = Err (Syntax, [])
dispatch pick (t ∷ ts) = picked (pick t) t ts

-- What was read goes on; a fault stays.
abbrev pub bind : {T A B : Type 0} → Out T A → (A → Reading T B) → Out T B
bind (Ok x) next = next x.0 x.1
bind (Err e) next = Err e

-- One reading after another.
abbrev pub seq : {T A B : Type 0} → Reading T A → (A → Reading T B) → Reading T B
seq read next ts = bind (read ts) next

-- Nothing more is read.
abbrev pub done : {T A : Type 0} → A → Reading T A
done a ts = Ok (a, ts)

-- One token that passes a test.
abbrev pub expect_pick : {T : Type 0} → (T → Bool) → T → Pick T T
expect_pick test t = if test t then Take (done t) else Refuse Syntax

-- One token that passes a test, and else a fault of syntax.
abbrev pub expect : {T : Type 0} → (T → Bool) → Reading T T
expect test = dispatch (expect_pick test)

-- What a pick begins, and more after it: so an alternative may be what another nonterminal begins.
abbrev pub then_pick : {T A B : Type 0} → Pick T A → (A → Reading T B) → Pick T B
then_pick (Refuse kind) next = Refuse kind
then_pick (Pass a) next = Refuse Syntax
then_pick (Take read) next = Take (seq read next)

-- One round of a loop: a taken token goes on, a passed one ends it.
abbrev pub round : {T A : Type 0} → Pick T A → T → List T → (A → Reading T A) → Out T A
round (Refuse kind) t ts on = Err (kind, t ∷ ts)
round (Pass a) t ts on = Ok (a, t ∷ ts)
round (Take read) t ts on = bind (read ts) on

-- One round at the next token, where one is left.
abbrev pub turn : {T A : Type 0} → (A → T → Pick T A) → A → List T → (A → Reading T A) → Out T A
turn pick a [] on = Err (Syntax, [])
turn pick a (t ∷ ts) on = round (pick a t) t ts on

-- At most so many rounds.
unfoldable pub rounds : {T A : Type 0} → (A → T → Pick T A) → ℕ → A → Reading T A
rounds pick zero a ts = Err (Syntax, ts)
rounds pick (suc n) a ts = turn pick a ts (rounds pick n)

-- Rounds until a token is passed: each takes a token, so there are no more rounds than tokens.
unfoldable pub loop : {T A : Type 0} → (A → T → Pick T A) → A → Reading T A
loop pick a ts = rounds pick (suc (length ts)) a ts

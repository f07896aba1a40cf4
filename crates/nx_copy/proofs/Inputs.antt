-- Inputs that are taken one after another.
use Rattle.std.proofs.Common.{◌≡◌, ℕ, zero, suc, ◌+◌, ◌<◌, ◌≤◌, Bool, true, false, List, [], ◌∷◌, ◌++◌, take, drop, length, get_or, refl, sym, ap, ◌∙◌, arith}
use Rattle.std.specs.Prelude.{All, Option, Some, None, Result, Ok, Err, OnOk, ◌&&◌, ◌||◌}
use Rattle.std.proofs.lemmas.List.{append-nil, append_assoc}
use denote.Enum.Bare.{same_true}
use Rattle.nx_base.specs.contracts.calls.Kind.{the_type}
use Rattle.nx_base.specs.declared.regs.Regs.{Regs}
use Rattle.nx_base.specs.declared.calls.Kind.{Kind}
use Rattle.nx_base.specs.declared.calls.Kind.TheVariants.{Word, In, Text, Out, Len, Out4, Out8}
use Rattle.nx_base.specs.declared.calls.KCall.{KCall}
use Rattle.nx_base.specs.declared.calls.KCall.TheVariants as call
use Rattle.nx_base.specs.KernelCalls.{kinds_of}
use Rattle.nx_base.specs.Registers.{reg}
use Rattle.nx_base.specs.Views.{View}
use Rattle.nx_base.specs.Replies.{next_word}
use Rattle.nx_base.specs.Calls.{Rows}
use Rattle.nx_base.specs.Copying.{cook, as_call, words_from, input_of, inputs_of, and_inputs}
use Rattle.nx_calls.specs.Rows.{fits, same_kinds, HasKinds}
use Rattle.nx_gate.specs.declared.gate.Gate.{Gate}
use Rattle.nx_ksys.specs.declared.cooked.Cooked.{Cooked}
use Rattle.nx_ksys.specs.Telling.{both}
use Rattle.nx_copy.specs.Copies.{six_words, IsTaken, StandsAt}
use Rattle.nx_copy.specs.Taking.{is_input, inputs, one_input, the_next, the_other, AreAll}

abbrev second : List (List ℕ) → List ℕ
second (a ∷ b ∷ rest) = b
second other = []

-- What was taken after one parameter more.
pub record Next (taken : ℕ) (kind : Kind) (a b c d : List ℕ) : Type 0 where
  pub before : take (taken + inputs (kind ∷ [])) (c ∷ d ∷ []) ≡ take taken (a ∷ b ∷ []) ++ one_input kind (the_next taken c d)
  pub rest : c ∷ d ∷ [] ≡ both (take (taken + inputs (kind ∷ [])) (c ∷ d ∷ []))

next_input : (taken : ℕ) (a b c d : List ℕ) → taken + 1 ≤ 2 → a ∷ b ∷ [] ≡ both (take taken (a ∷ b ∷ [])) → the_other taken c d ≡ the_other taken a b →
    (take (taken + 1) (c ∷ d ∷ []) ≡ take taken (a ∷ b ∷ []) ++ the_next taken c d ∷ []) × (c ∷ d ∷ [] ≡ both (take (taken + 1) (c ∷ d ∷ [])))
next_input zero a b c d h e o = (refl, ap (λ x. c ∷ x ∷ []) (o ∙ ap second e))
next_input (suc zero) a b c d h e o = (ap (λ x. x ∷ d ∷ []) o, refl)
next_input (suc (suc n)) a b c d h e o = absurd (omega (arith, h))

same_pair : (taken : ℕ) (a b c d : List ℕ) → the_other taken c d ≡ the_other taken a b → the_next taken c d ≡ the_next taken a b → c ∷ d ∷ [] ≡ a ∷ b ∷ []
same_pair zero a b c d o n = ap (λ x. x ∷ d ∷ []) n ∙ ap (λ x. a ∷ x ∷ []) o
same_pair (suc k) a b c d o n = ap (λ x. x ∷ d ∷ []) o ∙ ap (λ x. a ∷ x ∷ []) n

next_plain : (taken more : ℕ) (a b c d : List ℕ) → more ≡ 0 → a ∷ b ∷ [] ≡ both (take taken (a ∷ b ∷ [])) → c ∷ d ∷ [] ≡ a ∷ b ∷ [] →
    (take (taken + more) (c ∷ d ∷ []) ≡ take taken (a ∷ b ∷ []) ++ []) × (c ∷ d ∷ [] ≡ both (take (taken + more) (c ∷ d ∷ [])))
next_plain taken more a b c d z e s =
    let there : taken + more ≡ taken = omega (arith, z) in
    let same : take (taken + more) (c ∷ d ∷ []) ≡ take taken (a ∷ b ∷ []) = ap (λ n. take n (c ∷ d ∷ [])) there ∙ ap (take taken) s in
    (same ∙ sym (append-nil (take taken (a ∷ b ∷ []))), s ∙ e ∙ ap both (sym same))

pub next : (taken : ℕ) (kind : Kind) (a b c d : List ℕ) → taken + inputs (kind ∷ []) ≤ 2 → a ∷ b ∷ [] ≡ both (take taken (a ∷ b ∷ [])) → the_other taken c d ≡ the_other taken a b →
    (is_input kind ≡ false → the_next taken c d ≡ the_next taken a b) → Next taken kind a b c d
next taken In a b c d h e o k = let p = next_input taken a b c d h e o in record { before = p.0; rest = p.1 }
next taken Text a b c d h e o k = let p = next_input taken a b c d h e o in record { before = p.0; rest = p.1 }
next taken Word a b c d h e o k = let p = next_plain taken 0 a b c d refl e (same_pair taken a b c d o (k refl)) in record { before = p.0; rest = p.1 }
next taken Len a b c d h e o k = let p = next_plain taken 0 a b c d refl e (same_pair taken a b c d o (k refl)) in record { before = p.0; rest = p.1 }
next taken Out a b c d h e o k = let p = next_plain taken 0 a b c d refl e (same_pair taken a b c d o (k refl)) in record { before = p.0; rest = p.1 }
next taken Out4 a b c d h e o k = let p = next_plain taken 0 a b c d refl e (same_pair taken a b c d o (k refl)) in record { before = p.0; rest = p.1 }
next taken Out8 a b c d h e o k = let p = next_plain taken 0 a b c d refl e (same_pair taken a b c d o (k refl)) in record { before = p.0; rest = p.1 }

-- ---- Parameters, one after another.

dropped : {A : Type 0} (xs : List A) (i : ℕ) (d : A) → i < length xs → drop i xs ≡ get_or xs i d ∷ drop (suc i) xs
dropped [] i d h = absurd (omega arith)
dropped (x ∷ xs) zero d h = refl
dropped (x ∷ xs) (suc i) d h = dropped xs i d (omega (arith, h))

pub drop_here : {A : Type 0} (xs : List A) (i : ℕ) (d : A) → i < length xs → drop i xs ≡ get_or xs i d ∷ drop (i + 1) xs
drop_here xs i d h = let n : suc i ≡ i + 1 = omega arith in dropped xs i d h ∙ ap (λ k. get_or xs i d ∷ drop k xs) n

-- The word after a parameter's.
next_is : (r : Regs) (p : ℕ) (kinds : List Kind) → 1 ≤ length kinds → next_word (words_from r p kinds) ≡ reg r p
unfolding words_from
next_is r p [] h = absurd (omega arith)
next_is r p (k ∷ ks) h = refl

next_none : (r : Regs) (p : ℕ) (kinds : List Kind) → length kinds ≤ 0 → next_word (words_from r p kinds) ≡ 0
unfolding words_from
next_none r p [] h = refl
next_none r p (k ∷ ks) h = absurd (omega (arith, h))

dropped_length : {A : Type 0} (xs : List A) (i : ℕ) → i ≤ length xs → length (drop i xs) + i ≡ length xs
dropped_length xs zero h = omega arith
dropped_length [] (suc i) h = absurd (omega arith)
dropped_length (x ∷ xs) (suc i) h = let e = dropped_length xs i (omega (arith, h)) in omega (arith, e)

pub word_next : (r : Regs) (kinds : List Kind) (place x p : ℕ) → place + 1 < length kinds → x ≡ reg r p → p ≡ 11 + (place + 1) → x ≡ next_word (words_from r (11 + (place + 1)) (drop (place + 1) kinds))
word_next r kinds place x p h e q =
    let l = dropped_length kinds (place + 1) (omega (arith, h)) in
    e ∙ ap (reg r) q ∙ sym (next_is r (11 + (place + 1)) (drop (place + 1) kinds) (omega (arith, l, h)))

pub word_last : (r : Regs) (kinds : List Kind) (place : ℕ) → place < length kinds → length kinds ≤ place + 1 → 0 ≡ next_word (words_from r (11 + (place + 1)) (drop (place + 1) kinds))
word_last r kinds place h m =
    let l = dropped_length kinds (place + 1) (omega (arith, h)) in
    sym (next_none r (11 + (place + 1)) (drop (place + 1) kinds) (omega (arith, l, h, m)))

-- One parameter and the others.
read_cons : (v : View) (r : Regs) (place : ℕ) (kind : Kind) (others : List Kind) →
    inputs_of v place (kind ∷ others) (words_from r (11 + place) (kind ∷ others))
    ≡ and_inputs place (input_of v kind (reg r (11 + place)) (next_word (words_from r (11 + (place + 1)) others))) (inputs_of v (place + 1) others (words_from r (11 + (place + 1)) others))
unfolding inputs_of words_from
read_cons v r place kind others =
    let n : 11 + place + 1 ≡ 11 + (place + 1) = omega arith in
    ap (λ k. and_inputs place (input_of v kind (reg r (11 + place)) (next_word (words_from r k others))) (inputs_of v (place + 1) others (words_from r k others))) n

-- The inputs before those that follow.
abbrev pub taken_before : List (List ℕ) → Result (List (List ℕ)) ℕ → Result (List (List ℕ)) ℕ
taken_before xs (Ok more) = Ok (xs ++ more)
taken_before xs (Err k) = Err k

-- What is read of the parameters from a place on, where these words follow.
abbrev pub rest_of : View → Regs → List Kind → ℕ → Result (List (List ℕ)) ℕ
rest_of v r kinds i = inputs_of v i (drop i kinds) (words_from r (11 + i) (drop i kinds))

-- The input of the parameter at a place.
abbrev pub one_of : View → Regs → List Kind → ℕ → ℕ → Option (List (List ℕ))
one_of v r kinds i at = input_of v (get_or kinds i Word) at (next_word (words_from r (11 + (i + 1)) (drop (i + 1) kinds)))

pub rest_here : (v : View) (r : Regs) (kinds : List Kind) (i : ℕ) → i < length kinds → rest_of v r kinds i ≡ and_inputs i (one_of v r kinds i (reg r (11 + i))) (rest_of v r kinds (i + 1))
rest_here v r kinds i h =
    ap (λ ks. inputs_of v i ks (words_from r (11 + i) ks)) (drop_here kinds i Word h) ∙ read_cons v r i (get_or kinds i Word) (drop (i + 1) kinds)

before_more : (k : ℕ) (before xs : List (List ℕ)) (more : Result (List (List ℕ)) ℕ) → taken_before before (and_inputs k (Some xs) more) ≡ taken_before (before ++ xs) more
before_more k before xs (Ok ys) = ap Ok (sym (append_assoc before xs ys))
before_more k before xs (Err j) = refl

-- What is read of all parameters, after one more.
pub read_more : (v : View) (r : Regs) (kinds : List Kind) (i at : ℕ) (before after xs : List (List ℕ)) (read : Result (List (List ℕ)) ℕ) → i < length kinds → at ≡ reg r (11 + i) → one_of v r kinds i at ≡ Some xs → after ≡ before ++ xs →
    read ≡ taken_before before (rest_of v r kinds i) → read ≡ taken_before after (rest_of v r kinds (i + 1))
read_more v r kinds i at before after xs read h a one e s =
    s ∙ ap (taken_before before) (rest_here v r kinds i h) ∙ ap (λ o. taken_before before (and_inputs i o (rest_of v r kinds (i + 1)))) (ap (one_of v r kinds i) (sym a) ∙ one)
    ∙ before_more i before xs (rest_of v r kinds (i + 1)) ∙ ap (λ b. taken_before b (rest_of v r kinds (i + 1))) (sym e)

pub read_bad : (v : View) (r : Regs) (kinds : List Kind) (i at : ℕ) (before : List (List ℕ)) (read : Result (List (List ℕ)) ℕ) → i < length kinds → at ≡ reg r (11 + i) → one_of v r kinds i at ≡ None →
    read ≡ taken_before before (rest_of v r kinds i) → read ≡ Err i
read_bad v r kinds i at before read h a one s =
    s ∙ ap (taken_before before) (rest_here v r kinds i h ∙ ap (λ o. and_inputs i o (rest_of v r kinds (i + 1))) (ap (one_of v r kinds i) (sym a) ∙ one))

pub drop_all : {A : Type 0} (xs : List A) (i : ℕ) → length xs ≤ i → drop i xs ≡ []
drop_all [] zero h = refl
drop_all [] (suc i) h = refl
drop_all (x ∷ xs) zero h = absurd (omega arith)
drop_all (x ∷ xs) (suc i) h = drop_all xs i (omega (arith, h))

none_read : (v : View) (i : ℕ) (words : List ℕ) → inputs_of v i [] words ≡ Ok []
unfolding inputs_of
none_read v i words = refl

pub all_read : (v : View) (r : Regs) (kinds : List Kind) (i : ℕ) (before all : List (List ℕ)) (read : Result (List (List ℕ)) ℕ) → length kinds ≤ i → all ≡ both before → read ≡ taken_before before (rest_of v r kinds i) → AreAll read all
all_read v r kinds i before all read h e s = record {
  inputs_read = before;
  is = s ∙ ap (taken_before before) (ap (λ ks. inputs_of v i ks (words_from r (11 + i) ks)) (drop_all kinds i h) ∙ none_read v i (words_from r (11 + i) [])) ∙ ap Ok (append-nil before);
  all_of = e;
}

nothing_before : (read : Result (List (List ℕ)) ℕ) → read ≡ taken_before [] read
nothing_before (Ok xs) = refl
nothing_before (Err k) = refl

pub none_taken : (v : View) (r : Regs) (kinds : List Kind) → inputs_of v 0 kinds (words_from r 11 kinds) ≡ taken_before [] (rest_of v r kinds 0)
none_taken v r kinds = nothing_before (inputs_of v 0 kinds (words_from r 11 kinds))

-- ---- How many inputs there are.

cons_inputs : (kind : Kind) (kinds : List Kind) → inputs (kind ∷ kinds) ≡ inputs (kind ∷ []) + inputs kinds
cons_inputs In kinds = omega arith
cons_inputs Text kinds = omega arith
cons_inputs Word kinds = omega arith
cons_inputs Len kinds = omega arith
cons_inputs Out kinds = omega arith
cons_inputs Out4 kinds = omega arith
cons_inputs Out8 kinds = omega arith

pub inputs_here : (kinds : List Kind) (i : ℕ) → i < length kinds → inputs (drop i kinds) ≡ inputs (get_or kinds i Word ∷ []) + inputs (drop (i + 1) kinds)
inputs_here kinds i h = ap inputs (drop_here kinds i Word h) ∙ cons_inputs (get_or kinds i Word) (drop (i + 1) kinds)

same_inputs : (xs ys : List Kind) → same_kinds xs ys ≡ true → inputs xs ≡ inputs ys
same_inputs [] [] e = refl
same_inputs [] (y ∷ ys) e = absurd cc
same_inputs (x ∷ xs) [] e = absurd cc
same_inputs (x ∷ xs) (y ∷ ys) e =
    let p = both_of _ _ e in
    cons_inputs x xs ∙ ap (λ k. inputs (k ∷ []) + inputs xs) (same_true the_type tt x y p.0) ∙ ap (λ n. inputs (y ∷ []) + n) (same_inputs xs ys p.1) ∙ sym (cons_inputs y ys)
  where
    both_of : (a b : Bool) → (a && b) ≡ true → (a ≡ true) × (b ≡ true)
    both_of true b e = (refl, e)
    both_of false b e = absurd cc

same_few : (kinds other : List Kind) → same_kinds kinds other ≡ true → inputs other ≤ 2 → inputs kinds ≤ 2
same_few kinds other e h = let s = same_inputs kinds other e in omega (arith, s, h)

one_way : (a b : Bool) (n : ℕ) → (a || b) ≡ true → (a ≡ true → n ≤ 2) → (b ≡ true → n ≤ 2) → n ≤ 2
one_way true b n e f g = f refl
one_way false b n e f g = g e

fit_few : (c : KCall) (kinds : List Kind) → fits c kinds ≡ true → inputs kinds ≤ 2
unfolding fits
fit_few call.Write kinds e = same_few kinds (kinds_of call.Write) e (omega arith)
fit_few call.Read kinds e = same_few kinds (kinds_of call.Read) e (omega arith)
fit_few call.Open kinds e = one_way _ _ (inputs kinds) e (λ f. same_few kinds (kinds_of call.Open) f (omega arith)) (λ f. same_few kinds (Text ∷ Word ∷ []) f (omega arith))
fit_few call.Close kinds e = same_few kinds (kinds_of call.Close) e (omega arith)
fit_few call.Lseek kinds e = same_few kinds (kinds_of call.Lseek) e (omega arith)
fit_few call.Dup kinds e = same_few kinds (kinds_of call.Dup) e (omega arith)
fit_few call.Dup2 kinds e = same_few kinds (kinds_of call.Dup2) e (omega arith)
fit_few call.Unlink kinds e = same_few kinds (kinds_of call.Unlink) e (omega arith)
fit_few call.Mkdir kinds e = same_few kinds (kinds_of call.Mkdir) e (omega arith)
fit_few call.Rmdir kinds e = same_few kinds (kinds_of call.Rmdir) e (omega arith)
fit_few call.Rename kinds e = same_few kinds (kinds_of call.Rename) e (omega arith)
fit_few call.Chdir kinds e = same_few kinds (kinds_of call.Chdir) e (omega arith)
fit_few call.NxGetcwd kinds e = same_few kinds (kinds_of call.NxGetcwd) e (omega arith)
fit_few call.NxReaddir kinds e = same_few kinds (kinds_of call.NxReaddir) e (omega arith)
fit_few call.NxKind kinds e = same_few kinds (kinds_of call.NxKind) e (omega arith)
fit_few call.NxSpawn kinds e = same_few kinds (kinds_of call.NxSpawn) e (omega arith)
fit_few call.Exit kinds e = same_few kinds (kinds_of call.Exit) e (omega arith)
fit_few call.Getpid kinds e = same_few kinds (kinds_of call.Getpid) e (omega arith)
fit_few call.Waitpid kinds e = same_few kinds (kinds_of call.Waitpid) e (omega arith)
fit_few call.NxArgc kinds e = same_few kinds (kinds_of call.NxArgc) e (omega arith)
fit_few call.NxArg kinds e = same_few kinds (kinds_of call.NxArg) e (omega arith)
fit_few call.NxSetpriority kinds e = same_few kinds (kinds_of call.NxSetpriority) e (omega arith)
fit_few call.SchedYield kinds e = same_few kinds (kinds_of call.SchedYield) e (omega arith)
fit_few call.NxPs kinds e = same_few kinds (kinds_of call.NxPs) e (omega arith)
fit_few call.NxThread kinds e = same_few kinds (kinds_of call.NxThread) e (omega arith)
fit_few call.NxThreadExit kinds e = same_few kinds (kinds_of call.NxThreadExit) e (omega arith)
fit_few call.NxJoin kinds e = same_few kinds (kinds_of call.NxJoin) e (omega arith)
fit_few call.NxMqOpen kinds e = same_few kinds (kinds_of call.NxMqOpen) e (omega arith)
fit_few call.MqClose kinds e = same_few kinds (kinds_of call.MqClose) e (omega arith)
fit_few call.MqUnlink kinds e = same_few kinds (kinds_of call.MqUnlink) e (omega arith)
fit_few call.MqSend kinds e = same_few kinds (kinds_of call.MqSend) e (omega arith)
fit_few call.MqReceive kinds e = same_few kinds (kinds_of call.MqReceive) e (omega arith)
fit_few call.NxMqTimedreceive kinds e = same_few kinds (kinds_of call.NxMqTimedreceive) e (omega arith)
fit_few call.NxSemOpen kinds e = same_few kinds (kinds_of call.NxSemOpen) e (omega arith)
fit_few call.NxSemWait kinds e = same_few kinds (kinds_of call.NxSemWait) e (omega arith)
fit_few call.NxSemTrywait kinds e = same_few kinds (kinds_of call.NxSemTrywait) e (omega arith)
fit_few call.NxSemPost kinds e = same_few kinds (kinds_of call.NxSemPost) e (omega arith)
fit_few call.NxSemClose kinds e = same_few kinds (kinds_of call.NxSemClose) e (omega arith)
fit_few call.NxSleep kinds e = same_few kinds (kinds_of call.NxSleep) e (omega arith)
fit_few call.NxTicks kinds e = same_few kinds (kinds_of call.NxTicks) e (omega arith)
fit_few call.NxGetenv kinds e = same_few kinds (kinds_of call.NxGetenv) e (omega arith)
fit_few call.Setenv kinds e = same_few kinds (kinds_of call.Setenv) e (omega arith)
fit_few call.Unsetenv kinds e = same_few kinds (kinds_of call.Unsetenv) e (omega arith)
fit_few call.NxEnv kinds e = same_few kinds (kinds_of call.NxEnv) e (omega arith)
fit_few call.GetErrno kinds e = same_few kinds (kinds_of call.GetErrno) e (omega arith)

all_words : (kinds : List Kind) → All (λ kind. kind ≡ Word) kinds → inputs kinds ≡ 0
all_words [] h = refl
all_words (x ∷ xs) h = ap (λ k. inputs (k ∷ xs)) (h 0 x (omega arith)) ∙ all_words xs (λ i d l. h (suc i) d (omega (arith, l)))

-- A gate has at most two inputs.
pub few_inputs : (kernel : Option KCall) (kinds : List Kind) → HasKinds kernel kinds → inputs kinds ≤ 2
few_inputs None kinds h = let e = all_words kinds h in omega (arith, e)
few_inputs (Some c) kinds h = fit_few c kinds h

-- ---- The call that was made.

at_row : (rows : Rows) (v : View) (r : Regs) (kinds : List Kind) → (rows (reg r 10)).kinds ≡ kinds → cook rows v r ≡ as_call (reg r 10) (words_from r 11 kinds) (inputs_of v 0 kinds (words_from r 11 kinds))
unfolding cook
at_row rows v r kinds e = ap (λ ks. as_call (reg r 10) (words_from r 11 ks) (inputs_of v 0 ks (words_from r 11 ks))) e

pub call_taken : (rows : Rows) (v : View) (r : Regs) (gate : Gate) (told : Cooked) (kinds : List Kind) → kinds ≡ gate.kinds.items → StandsAt gate rows (reg r 10) → told.call ≡ gate.kernel → told.words ≡ six_words (words_from r 11 kinds) →
    AreAll (inputs_of v 0 kinds (words_from r 11 kinds)) (told.first ∷ told.second ∷ []) → IsTaken rows v r gate told
call_taken rows v r gate told kinds k s c w a = record {
  made = record { number = reg r 10; words = words_from r 11 kinds; inputs = a.inputs_read };
  cooked = at_row rows v r kinds (s ∙ sym k) ∙ ap (as_call (reg r 10) (words_from r 11 kinds)) a.is;
  tells = record { call = c; words = w; inputs = a.all_of };
}

pub call_bad : (rows : Rows) (v : View) (r : Regs) (gate : Gate) (kinds : List Kind) (k : ℕ) → kinds ≡ gate.kinds.items → StandsAt gate rows (reg r 10) → inputs_of v 0 kinds (words_from r 11 kinds) ≡ Err k → cook rows v r ≡ Err k
call_bad rows v r gate kinds k q s e = at_row rows v r kinds (s ∙ sym q) ∙ ap (as_call (reg r 10) (words_from r 11 kinds)) e

pub on_ok : {T E : Type 0} (r : Result T E) (P Q : Type 0) → (P → Q) → OnOk r P → OnOk r Q
on_ok (Ok x) P Q f p = f p
on_ok (Err e) P Q f p = tt

-- Six words, one by one: a call has at most six parameters.
pub six : (r : Regs) (kinds : List Kind) (a b c d e f : ℕ) → length kinds ≤ 6 →
    (0 < length kinds → a ≡ reg r 11) → (length kinds ≤ 0 → a ≡ 0) → (1 < length kinds → b ≡ reg r 12) → (length kinds ≤ 1 → b ≡ 0) →
    (2 < length kinds → c ≡ reg r 13) → (length kinds ≤ 2 → c ≡ 0) → (3 < length kinds → d ≡ reg r 14) → (length kinds ≤ 3 → d ≡ 0) →
    (4 < length kinds → e ≡ reg r 15) → (length kinds ≤ 4 → e ≡ 0) → (5 < length kinds → f ≡ reg r 16) → (length kinds ≤ 5 → f ≡ 0) →
    a ∷ b ∷ c ∷ d ∷ e ∷ f ∷ [] ≡ six_words (words_from r 11 kinds)
unfolding words_from
six r [] a b c d e f h a1 a0 b1 b0 c1 c0 d1 d0 e1 e0 f1 f0 = rw (a0 (omega arith), b0 (omega arith), c0 (omega arith), d0 (omega arith), e0 (omega arith), f0 (omega arith)) refl
six r (k1 ∷ []) a b c d e f h a1 a0 b1 b0 c1 c0 d1 d0 e1 e0 f1 f0 = rw (a1 (omega arith), b0 (omega arith), c0 (omega arith), d0 (omega arith), e0 (omega arith), f0 (omega arith)) refl
six r (k1 ∷ k2 ∷ []) a b c d e f h a1 a0 b1 b0 c1 c0 d1 d0 e1 e0 f1 f0 = rw (a1 (omega arith), b1 (omega arith), c0 (omega arith), d0 (omega arith), e0 (omega arith), f0 (omega arith)) refl
six r (k1 ∷ k2 ∷ k3 ∷ []) a b c d e f h a1 a0 b1 b0 c1 c0 d1 d0 e1 e0 f1 f0 = rw (a1 (omega arith), b1 (omega arith), c1 (omega arith), d0 (omega arith), e0 (omega arith), f0 (omega arith)) refl
six r (k1 ∷ k2 ∷ k3 ∷ k4 ∷ []) a b c d e f h a1 a0 b1 b0 c1 c0 d1 d0 e1 e0 f1 f0 = rw (a1 (omega arith), b1 (omega arith), c1 (omega arith), d1 (omega arith), e0 (omega arith), f0 (omega arith)) refl
six r (k1 ∷ k2 ∷ k3 ∷ k4 ∷ k5 ∷ []) a b c d e f h a1 a0 b1 b0 c1 c0 d1 d0 e1 e0 f1 f0 = rw (a1 (omega arith), b1 (omega arith), c1 (omega arith), d1 (omega arith), e1 (omega arith), f0 (omega arith)) refl
six r (k1 ∷ k2 ∷ k3 ∷ k4 ∷ k5 ∷ k6 ∷ []) a b c d e f h a1 a0 b1 b0 c1 c0 d1 d0 e1 e0 f1 f0 = rw (a1 (omega arith), b1 (omega arith), c1 (omega arith), d1 (omega arith), e1 (omega arith), f1 (omega arith)) refl
six r (k1 ∷ k2 ∷ k3 ∷ k4 ∷ k5 ∷ k6 ∷ k7 ∷ ks) a b c d e f h a1 a0 b1 b0 c1 c0 d1 d0 e1 e0 f1 f0 = absurd (omega (arith, h))

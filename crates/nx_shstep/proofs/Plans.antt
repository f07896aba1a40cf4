-- The steps of a command, and the room that they take.
use Rattle.std.proofs.Common.{◌≡◌, ℕ, zero, suc, ◌+◌, ◌*◌, ◌≤◌, ◌<◌, ◌==◌, Bool, true, false, if◌then◌else◌, nat_le, List, [], ◌∷◌, ◌++◌, length, Option, Some, None, ℤ, refl, sym, ap, ◌∙◌, subst, arith, length-append}
use Rattle.nx_shtree.specs.declared.tree.Mode.{Mode}
use Rattle.nx_shrun.specs.declared.builtin.Builtin.{Builtin}
use Rattle.nx_shrun.specs.declared.builtin.Builtin.TheVariants as builtin
use Rattle.nx_shrun.specs.declared.step.Ending.{Ending}
use Rattle.nx_shrun.specs.declared.step.Ending.TheVariants.{Status, Exit}
use Rattle.nx_shrun.specs.declared.step.Test.{Test}
use Rattle.nx_shrun.specs.declared.step.Test.TheVariants as test
use Rattle.nx_shrun.specs.declared.step.Step.{Step}
use Rattle.nx_shrun.specs.declared.step.Step.TheVariants as step
use Rattle.nx_shrun.specs.Texts.{arguments, word_at, spaced}
use Rattle.nx_shrun.specs.Numbers.{number}
use Rattle.nx_shrun.specs.Tests.{test_of}
use Rattle.nx_shrun.specs.Steps.{Running, go}
use Rattle.nx_shrun.specs.Table.{Body, body, cats, tested, in_brackets, tested_in, sleeps, leaves, opening, closing, program, running, built_in, refused}
use Rattle.nx_shrun.specs.Texts.{bad_arguments}
use Rattle.nx_shrun.specs.Puts.{ending_of, steps_of}
use Rattle.nx_shstep.specs.Held.{Held, weights, openings, IsShort, IsReady, IsUnderWay, IsOf, pending}
use Rattle.nx_shrun.specs.Rooms.{HeldSteps}
use Rattle.nx_shrun.specs.declared.step.Awaits.{Awaits}
use Rattle.nx_shrun.specs.declared.step.Awaits.TheVariants as awaits
use Rattle.nx_shstep.proofs.Weights.{length_weights}

abbrev no_words : List (List ℕ)
no_words = []

abbrev no_bytes : List ℕ
no_bytes = []

abbrev no_steps : List Step
no_steps = []

-- What a body may be: an end of the shell has no steps of its own, and each word has at most three.
record IsSmall (n : ℕ) (b : Body) : Type 0 where
  weights : weights b.steps ≤ 3 * n + 5
  openings : openings b.steps ≤ n + 5
  exits : (value : ℕ) → b.ending ≡ Exit value → b.steps ≡ []

abbrev AreSmall : ℕ → Option Body → Type 0
AreSmall n None = Unit {0}
AreSmall n (Some b) = IsSmall n b

small_if : (n : ℕ) (t : Bool) (x y : Option Body) → AreSmall n x → AreSmall n y → AreSmall n (if t then x else y)
small_if n true x y h k = h
small_if n false x y h k = k

small_one : (n : ℕ) (s : Step) → AreSmall n (Some (record { ending = Status 0; steps = s ∷ [] }))
small_one n step.Look = record { weights = omega arith; openings = omega arith; exits = λ v e. absurd cc }
small_one n (step.Redirect mode) = record { weights = omega arith; openings = omega arith; exits = λ v e. absurd cc }
small_one n (step.Open place) = record { weights = omega arith; openings = omega arith; exits = λ v e. absurd cc }
small_one n step.Create = record { weights = omega arith; openings = omega arith; exits = λ v e. absurd cc }
small_one n step.Keep = record { weights = omega arith; openings = omega arith; exits = λ v e. absurd cc }
small_one n _ = record { weights = omega arith; openings = omega arith; exits = λ v e. absurd cc }

small_none : (n : ℕ) (e : Ending) → AreSmall n (Some (record { ending = e; steps = [] }))
small_none n e = record { weights = omega arith; openings = omega arith; exits = λ v e. refl }

small_tested : (n : ℕ) (t : Test) → AreSmall n (tested t)
small_tested n test.Malformed = tt
small_tested n (test.Known holds) = small_none n _
small_tested n (test.Path want isnt) = small_one n (step.Probe want isnt)

small_in : (n : ℕ) (o : Option (List (List ℕ))) → AreSmall n (tested_in o)
small_in n None = tt
small_in n (Some ws) = small_tested n (test_of ws)

small_sleeps : (n : ℕ) (o : Option ℤ) → AreSmall n (sleeps o)
small_sleeps n None = tt
small_sleeps n (Some i) = small_one n _

small_leaves : (n : ℕ) (o : Option ℤ) → AreSmall n (leaves o)
small_leaves n None = tt
small_leaves n (Some i) = small_none n _

weights_cats : (place n : ℕ) → weights (cats place n) ≡ 3 * n
weights_cats place zero = refl
weights_cats place (suc n) = omega (arith, weights_cats (suc place) n)

openings_cats : (place n : ℕ) → openings (cats place n) ≡ n
openings_cats place zero = refl
openings_cats place (suc n) = omega (arith, openings_cats (suc place) n)

small_cats : (n m : ℕ) → m ≤ n → AreSmall n (Some (record { ending = Status 0; steps = cats 1 m }))
small_cats n m h = record { weights = omega (arith, h, weights_cats 1 m); openings = omega (arith, h, openings_cats 1 m); exits = λ v e. absurd cc }

small_cp : (n : ℕ) → AreSmall n (Some (record { ending = Status 0; steps = step.Open 1 ∷ step.Create ∷ step.Read ∷ step.Close ∷ step.Close ∷ [] }))
small_cp n = record { weights = omega arith; openings = omega arith; exits = λ v e. absurd cc }

arguments_length : (ws : List (List ℕ)) → length (arguments ws) ≤ length ws
arguments_length [] = omega arith
arguments_length (w ∷ ws) = omega arith

small_body : (b : Builtin) (status : ℕ) (ws : List (List ℕ)) → AreSmall (length ws) (body b status ws)
small_body builtin.Echo status ws = small_one _ _
small_body builtin.Cat status ws = small_if _ (length (arguments ws) == 0) _ _ tt (small_cats _ (length (arguments ws)) (arguments_length ws))
small_body builtin.Ls status ws = small_if _ (nat_le (length (arguments ws)) 1) _ _ (small_one _ _) tt
small_body builtin.Cd status ws = small_if _ (nat_le (length (arguments ws)) 1) _ _ (small_one _ _) tt
small_body builtin.Mkdir status ws = small_if _ (length (arguments ws) == 1) _ _ (small_one _ _) tt
small_body builtin.Rmdir status ws = small_if _ (length (arguments ws) == 1) _ _ (small_one _ _) tt
small_body builtin.Rm status ws = small_if _ (length (arguments ws) == 1) _ _ (small_one _ _) tt
small_body builtin.Mv status ws = small_if _ (length (arguments ws) == 2) _ _ (small_one _ _) tt
small_body builtin.Pwd status ws = small_if _ (length (arguments ws) == 0) _ _ (small_one _ _) tt
small_body builtin.Cp status ws = small_if _ (length (arguments ws) == 2) _ _ (small_cp _) tt
small_body builtin.Set status ws = small_if _ (length (arguments ws) == 2) _ _ (small_one _ _) tt
small_body builtin.Export status ws = small_if _ (length (arguments ws) == 2) _ _ (small_one _ _) tt
small_body builtin.Unset status ws = small_if _ (length (arguments ws) == 1) _ _ (small_one _ _) tt
small_body builtin.Env status ws = small_if _ (length (arguments ws) == 0) _ _ (small_one _ _) tt
small_body builtin.Ps status ws = small_if _ (length (arguments ws) == 0) _ _ (small_one _ _) tt
small_body builtin.Test status ws = small_tested _ (test_of (arguments ws))
small_body builtin.Bracket status ws = small_in _ (in_brackets (arguments ws))
small_body builtin.True status ws = small_if _ (length (arguments ws) == 0) _ _ (small_none _ _) tt
small_body builtin.False status ws = small_if _ (length (arguments ws) == 0) _ _ (small_none _ _) tt
small_body builtin.Sleep status ws = small_if _ (length (arguments ws) == 1) _ _ (small_sleeps _ (number (word_at ws 1))) tt
small_body builtin.Exit status ws = small_if _ (length (arguments ws) == 0) _ _ (small_none _ _) (small_if _ (length (arguments ws) == 1) _ _ (small_leaves _ (number (word_at ws 1))) tt)

exits_of : (n : ℕ) (o : Option Body) (value : ℕ) → AreSmall n o → ending_of o ≡ Some (Exit value) → steps_of o ≡ []
exits_of n None value h e = refl
exits_of n (Some b) value h e = let f : b.ending ≡ Exit value = cc in h.exits value f

-- A command that ends the shell has no steps of its own.
pub exit_has_none : (b : Builtin) (status : ℕ) (ws : List (List ℕ)) (value : ℕ) → ending_of (body b status ws) ≡ Some (Exit value) → steps_of (body b status ws) ≡ []
exit_has_none b status ws value e = exits_of (length ws) (body b status ws) value (small_body b status ws) e

weights_of : (n : ℕ) (o : Option Body) → AreSmall n o → weights (steps_of o) ≤ 3 * n + 5
weights_of n None h = omega arith
weights_of n (Some b) h = h.weights

openings_of : (n : ℕ) (o : Option Body) → AreSmall n o → openings (steps_of o) ≤ n + 5
openings_of n None h = omega arith
openings_of n (Some b) h = h.openings

pub lengths_body : (b : Builtin) (status : ℕ) (ws : List (List ℕ)) → length (steps_of (body b status ws)) ≤ 3 * length ws + 5
lengths_body b status ws = omega (arith, length_weights (steps_of (body b status ws)), weights_of _ _ (small_body b status ws))

-- A line has at most 1,025 words.
words_spaced : (ws : List (List ℕ)) → length ws ≤ length (spaced ws) + 1
unfolding spaced
words_spaced [] = omega arith
words_spaced (w ∷ []) = omega arith
words_spaced (w ∷ v ∷ ws) = omega (arith, words_spaced (v ∷ ws), length-append w (32 ∷ spaced (v ∷ ws)))

pub few_words : (g : Running) → IsShort g → length g.words ≤ 1025
few_words g h = omega (arith, h.line, words_spaced g.words)

weights_append : (xs ys : List Step) → weights (xs ++ ys) ≡ weights xs + weights ys
weights_append [] ys = omega arith
weights_append (x ∷ xs) ys = omega (arith, weights_append xs ys)

openings_append : (xs ys : List Step) → openings (xs ++ ys) ≡ openings xs + openings ys
openings_append [] ys = omega arith
openings_append (x ∷ xs) ys = omega (arith, openings_append xs ys)

opening_small : (output : Option Mode) → (weights (opening output) ≤ 1) × (openings (opening output) ≤ 1)
opening_small None = (omega arith, omega arith)
opening_small (Some mode) = (omega arith, omega arith)

closing_small : (e : Ending) (output : Option Mode) → (weights (closing e output) ≤ 1) × (openings (closing e output) ≤ 1)
closing_small e None = (omega arith, omega arith)
closing_small (Status n) (Some mode) = (omega arith, omega arith)
closing_small (Exit n) (Some mode) = (omega arith, omega arith)

restarted : (g : Running) (e : Ending) → IsShort g → IsShort (running g.words g.file e)
restarted g e h = record { words = h.words; file = h.file; line = h.line }

-- A command of the table has room for its steps.
pub body_ready : (g : Running) (e : Ending) (k : List Step) (output : Option Mode) (which : Builtin) (status : ℕ) → IsShort g → k ≡ opening output ++ steps_of (body which status g.words) ++ closing e output → IsReady (running g.words g.file e) k
body_ready g e k output which status h is =
    let steps : List Step = steps_of (body which status g.words) in
    let w : weights k ≡ weights (opening output) + weights steps + weights (closing e output) = ap weights is ∙ (weights_append (opening output ++ steps) (closing e output) ∙ ap (λ n. n + weights (closing e output)) (weights_append (opening output) steps)) in
    let o : openings k ≡ openings (opening output) + openings steps + openings (closing e output) = ap openings is ∙ (openings_append (opening output ++ steps) (closing e output) ∙ ap (λ n. n + openings (closing e output)) (openings_append (opening output) steps)) in
    let few : length g.words ≤ 1025 = few_words g h in
    let ws : weights steps ≤ 3 * length g.words + 5 = weights_of _ (body which status g.words) (small_body which status g.words) in
    let os : openings steps ≤ length g.words + 5 = openings_of _ (body which status g.words) (small_body which status g.words) in
    let p = opening_small output in
    let q = closing_small e output in
    record { short = restarted g e h; steps = omega (arith, w, few, ws, p.0, q.0); opened = omega (arith, o, few, os, p.1, q.1) }

pub program_ready : (g : Running) (k : List Step) (output : Option Mode) (background : Bool) → IsShort g → k ≡ program output background → IsReady (running g.words g.file (Status 0)) k
program_ready g k output background h is = subst (IsReady (running g.words g.file (Status 0))) (sym is) (of output background)
  where
    of : (output : Option Mode) (background : Bool) → IsReady (running g.words g.file (Status 0)) (program output background)
    of None true = record { short = restarted g (Status 0) h; steps = omega arith; opened = omega arith }
    of None false = record { short = restarted g (Status 0) h; steps = omega arith; opened = omega arith }
    of (Some mode) true = record { short = restarted g (Status 0) h; steps = omega arith; opened = omega arith }
    of (Some mode) false = record { short = restarted g (Status 0) h; steps = omega arith; opened = omega arith }

-- What a command of the table does, by how its body ends.
pub built_none : (output : Option Mode) (words : List (List ℕ)) (file : List ℕ) (o : Option Body) → None ≡ ending_of o → refused (bad_arguments (word_at words 0)) ≡ built_in output words file o
built_none output words file None e = refl
built_none output words file (Some b) e = absurd cc

pub built_some : (output : Option Mode) (words : List (List ℕ)) (file : List ℕ) (o : Option Body) (e : Ending) (k : List Step) → Some e ≡ ending_of o → k ≡ opening output ++ steps_of o ++ closing e output → go (running words file e) k ≡ built_in output words file o
built_some output words file None e k h is = absurd cc
built_some output words file (Some b) e k h is =
    let f : e ≡ b.ending = cc in
    rw (is, f) refl

-- A command without words and steps, after a message.
none_short : (place : ℕ) → length (word_at no_words place) ≤ 255
none_short place = omega arith

none_running : IsReady (running no_words no_bytes (Status 1)) no_steps
unfolding spaced
none_running = record { short = record { words = none_short; file = omega arith; line = omega arith }; steps = omega arith; opened = omega arith }

pub none_ready : (h : Held) → h.running ≡ running no_words no_bytes (Status 1) → h.awaits ≡ awaits.Message → h.todo ≡ no_steps → IsUnderWay h
none_ready h er ea et = record { ready = same h.running h.awaits h.todo er ea et; of = of_message h.awaits ea }
  where
    same : (g : Running) (a : Awaits) (k : List Step) → g ≡ running no_words no_bytes (Status 1) → a ≡ awaits.Message → k ≡ no_steps → IsReady g (pending a k)
    same g a k er ea et = rw (er, ea, et) none_running

    of_message : (a : Awaits) → a ≡ awaits.Message → IsOf h.call h.running a
    of_message a e = rw e tt

-- The same where words, steps and the rest are known by equations.
pub body_at : (h : Held) (g : Running) (ws vs : List (List ℕ)) (file : List ℕ) (e : Ending) (k : List Step) (output : Option Mode) (which : Builtin) (status : ℕ) → IsShort g → ws ≡ g.words → vs ≡ g.words → file ≡ g.file → h.running ≡ running vs file e → h.todo ≡ k → k ≡ opening output ++ steps_of (body which status ws) ++ closing e output → IsReady h.running h.todo
body_at h g ws vs file e k output which status short ew ev ef er et ek =
    let here : IsReady (running g.words g.file e) k = body_ready g e k output which status short (ek ∙ ap (λ (us : List (List ℕ)). opening output ++ steps_of (body which status us) ++ closing e output) ew) in
    let runs : h.running ≡ running g.words g.file e = er ∙ both ev ef in
    two h.running h.todo runs et here
  where
    both : {us ts : List (List ℕ)} {x y : List ℕ} → us ≡ ts → x ≡ y → running us x e ≡ running ts y e
    both p q = rw (p, q) refl

    two : (f : Running) (j : List Step) → f ≡ running g.words g.file e → j ≡ k → IsReady (running g.words g.file e) k → IsReady f j
    two f j p q r = rw (p, q) r

closing_length : (e : Ending) (output : Option Mode) → length (closing e output) ≤ 1
closing_length e None = omega arith
closing_length (Status n) (Some mode) = omega arith
closing_length (Exit n) (Some mode) = omega arith

-- There is room for a redirection's opening before a body.
pub put_room : (old mid new : HeldSteps) (output : Option Mode) (b : Builtin) (status : ℕ) (ws : List (List ℕ)) → old.room ≡ 4096 → length ws ≤ 1025 → mid ≡ record old { steps = closing (Status 0) output } → new ≡ record mid { steps = steps_of (body b status ws) ++ mid.steps } → length new.steps < new.room
put_room old mid new output b status ws r few em en =
    let long : length new.steps ≡ length (steps_of (body b status ws)) + length mid.steps = ap (λ (s : HeldSteps). length s.steps) en ∙ length-append (steps_of (body b status ws)) mid.steps in
    let short : length mid.steps ≡ length (closing (Status 0) output) = ap (λ (s : HeldSteps). length s.steps) em in
    let room : new.room ≡ old.room = ap (λ (s : HeldSteps). s.room) en ∙ ap (λ (s : HeldSteps). s.room) em in
    omega (arith, long, short, room, r, few, closing_length (Status 0) output, lengths_body b status ws)

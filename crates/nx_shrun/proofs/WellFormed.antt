-- The shell's calls are well formed, where each reply fits its call.
use Rattle.std.proofs.Common.{◌≡◌, ℕ, zero, suc, ◌^◌, ◌≤◌, ◌<◌, ◌==◌, min, Bool, true, false, ◌||◌, if◌then◌else◌, nat_lt, nat_le, List, [], ◌∷◌, ◌++◌, length, Option, Some, None, ℤ, codes, refl, sym, ap, subst, arith, All, decimal}
use Rattle.std.proofs.lemmas.Bool.{ltb-false}
use Rattle.std.specs.List.{list_any}
use Rattle.nx_base.specs.Calls.{Reply}
use Rattle.nx_base.specs.declared.calls.KCall.{KCall}
use Rattle.nx_base.specs.declared.calls.KCall.TheVariants as kernel
use Rattle.nx_shtok.specs.declared.part.Part.TheVariants as part
use Rattle.nx_shtree.specs.declared.tree.Mode.{Mode}
use Rattle.nx_shtree.specs.declared.tree.Redirection.{Redirection}
use Rattle.nx_shtree.specs.declared.tree.Simple.{Simple}
use Rattle.nx_shtree.specs.Trees.{Items}
use Rattle.nx_shrun.specs.declared.builtin.Builtin.{Builtin}
use Rattle.nx_shrun.specs.declared.builtin.Builtin.TheVariants as builtin
use Rattle.nx_shrun.specs.declared.step.Ending.{Ending}
use Rattle.nx_shrun.specs.declared.step.Ending.TheVariants.{Status, Exit}
use Rattle.nx_shrun.specs.declared.step.Change.TheVariants as change
use Rattle.nx_shrun.specs.declared.step.Listing.{Listing}
use Rattle.nx_shrun.specs.declared.step.Listing.TheVariants as listing
use Rattle.nx_shrun.specs.declared.step.Test.{Test}
use Rattle.nx_shrun.specs.declared.step.Test.TheVariants as test
use Rattle.nx_shrun.specs.declared.step.Step.{Step}
use Rattle.nx_shrun.specs.declared.step.Step.TheVariants as step
use Rattle.nx_shrun.specs.declared.step.Awaits.{Awaits}
use Rattle.nx_shrun.specs.declared.step.Awaits.TheVariants as awaits
use Rattle.nx_shrun.specs.Builtins.{builtin_named}
use Rattle.nx_shrun.specs.Calls as c
use Rattle.nx_shrun.specs.Calls.{Call, Fits, IsWellFormed, is_failed, handed, code_of}
use Rattle.nx_shrun.specs.Texts.{word_at, arguments, all_but_last, last_of, line, spaced, lines, bad_arguments, line_too_long}
use Rattle.nx_shrun.specs.Expansion.{Piece, Of, Ends, Spread, Whole, Wants, spread, all_pieces}
use Rattle.nx_shrun.specs.Numbers.{number}
use Rattle.nx_shrun.specs.Tests.{test_of}
use Rattle.nx_shrun.specs.Steps.{Running, Doing, Starts, Asks, Does, Outcome, Over, Goes, go, say, put, fail, abandon, opens, below, without_second, listed, probed, listing_call, flags_of, call_at, unless_failed, unless_short, written, not_started, restoring, next_index, entry, ends, after_step, after_reply}
use Rattle.nx_shrun.specs.Table.{Body, body, cats, tested, in_brackets, tested_in, sleeps, leaves, opening, closing, awaited, program, running, refused, built_in, does_command, is_long, is_too_long, begun_with}
use Rattle.nx_shrun.specs.ShellCalls as s
use Rattle.nx_shrun.specs.ShellCalls.{Shell, Ended, answered, call_made, call_of, value_of, command, expanded, with_words, comes, comes_after, goes_on, calls_from, started, shell_calls}
use Rattle.nx_shrun.specs.Rest.{next, Next, Over as NoMore, Runs}
use Rattle.nx_shrun.specs.Laws.{IsOrdinary, AllFit, IsShellCall, Goes as OrdinaryCall, Ends as LastCall, AreShellCalls, CallsAreWellFormed}
use Rattle.nx_shrun.proofs.Bounded.{if_le, append_le, line_le, each_short, echo_le, path_le, announcement_le, failure_le, bad_le, missing_le, long_le, handed_le}

-- a property of each element
abbrev Every : {A : Type 0} → (A → Type 0) → List A → Type 0
Every P [] = Unit {0}
Every P (x ∷ xs) = P x × Every P xs

every_append : {A : Type 0} (P : A → Type 0) (xs ys : List A) → Every P xs → Every P ys → Every P (xs ++ ys)
every_append P [] ys h k = k
every_append P (x ∷ xs) ys h k = (h.0, every_append P xs ys h.1 k)

abbrev none_of : (A : Type 0) → List A
none_of A = []

all_of_none : {A : Type 0} (P : A → Type 0) → All P (none_of A)
all_of_none P k d h = absurd (omega (arith, h))

all_of_more : {A : Type 0} (P : A → Type 0) (x : A) (xs : List A) → P x → All P xs → All P (x ∷ xs)
all_of_more P x xs p h zero d l = p
all_of_more P x xs p h (suc k) d l = h k d (omega (arith, l))

-- a command within the limits of words and lines
pub record IsFine (g : Running) : Type 0 where
  pub words : (i : ℕ) → length (word_at g.words i) ≤ 255
  pub file : length g.file ≤ 255
  pub line : length (spaced g.words) ≤ 1024
  pub pid : g.pid < 2 ^ 32

-- the arguments of a program that is started
abbrev Suits : List (List ℕ) → Step → Type 0
Suits words (step.Spawn redirected) = length (lines (arguments words)) ≤ 255
Suits words other = Unit {0}

-- the reply to a step is to that step's call
abbrev IsOf : Call → Running → Awaits → Type 0
IsOf q g (awaits.Step s) = q ≡ call_at g s
IsOf q g awaits.Output = Unit {0}
IsOf q g awaits.Message = Unit {0}

pub record IsFineStep (q : Call) (g : Running) (a : Awaits) (k : List Step) : Type 0 where
  pub ordinary : IsOrdinary q
  pub of : IsOf q g a
  pub fine : IsFine g
  pub rest : Every (Suits g.words) k

abbrev IsFineDoing : Doing → Type 0
IsFineDoing Starts = Unit {0}
IsFineDoing (Asks name words word rest) = length name ≤ 255
IsFineDoing (Does q g a k) = IsFineStep q g a k

abbrev IsFineOutcome : Outcome → Type 0
IsFineOutcome (Over e) = Unit {0}
IsFineOutcome (Goes d) = IsFineDoing d

fine_if : (b : Bool) (x y : Outcome) → IsFineOutcome x → IsFineOutcome y → IsFineOutcome (if b then x else y)
fine_if true x y h k = h
fine_if false x y h k = k

-- calls of each form
min_of : (n : ℕ) → n ≤ 4096 → n ≡ min n 4096
min_of n h = omega (arith, h)

write_ordinary : (fd : ℕ) (text : List ℕ) → length text ≤ 4096 → IsOrdinary (c.write fd text)
write_ordinary fd text h = record { formed = record { words = refl; inputs = (min_of (length text) h, refl) }; returns = refl }

open_ordinary : (path : List ℕ) (flags : ℕ) → length path ≤ 255 → IsOrdinary (c.open_file path flags)
open_ordinary path flags h = record { formed = record { words = refl; inputs = (omega (arith, h), refl) }; returns = refl }

kind_ordinary : (path : List ℕ) → length path ≤ 255 → IsOrdinary (c.kind path)
kind_ordinary path h = record { formed = record { words = refl; inputs = (omega (arith, h), refl) }; returns = refl }

listed_le : (g : Running) → IsFine g → length (listed g.words) ≤ 255
listed_le g f = if_le (length g.words == 1) (codes ".") (word_at g.words 1) 255 (omega arith) (f.words 1)

probed_le : (g : Running) (isnt : Bool) → IsFine g → length (probed isnt g.words) ≤ 255
probed_le g true f = f.words 3
probed_le g false f = f.words 2

entry_le : (l : Listing) (text : List ℕ) → length text ≤ 512 → length (entry l text) ≤ 4096
entry_le listing.Names text h = omega (arith, line_le text 512 h)
entry_le listing.Variables text h = omega (arith, line_le text 512 h)
entry_le listing.Groups text h = omega (arith, line_le text 512 h)

-- the call of a step
ordinary_at : (g : Running) (x : Step) → IsFine g → Suits g.words x → IsOrdinary (call_at g x)
ordinary_at g (step.Redirect mode) f h = open_ordinary g.file (flags_of mode) f.file
ordinary_at g (step.Open place) f h = open_ordinary (word_at g.words place) 1 (f.words place)
ordinary_at g step.Create f h = open_ordinary (word_at g.words 2) 38 (f.words 2)
ordinary_at g step.Read f h = record { formed = record { words = refl; inputs = refl }; returns = refl }
ordinary_at g step.Close f h = record { formed = record { words = refl; inputs = refl }; returns = refl }
ordinary_at g step.Echo f h = write_ordinary g.out _ (echo_le g.words f.line)
ordinary_at g step.Look f h = kind_ordinary (listed g.words) (listed_le g f)
ordinary_at g step.Entry f h = write_ordinary g.out _ (omega (arith, line_le (listed g.words) 255 (listed_le g f)))
ordinary_at g step.Heading f h = write_ordinary g.out _ (omega (arith, line_le (listed g.words ++ 58 ∷ []) 256 (append_le (listed g.words) (58 ∷ []) 255 1 (listed_le g f) (omega arith))))
ordinary_at g (step.Each listing.Names index) f h = record { formed = record { words = refl; inputs = (omega (arith, listed_le g f), refl) }; returns = refl }
ordinary_at g (step.Each listing.Variables index) f h = record { formed = record { words = refl; inputs = refl }; returns = refl }
ordinary_at g (step.Each listing.Groups index) f h = record { formed = record { words = refl; inputs = refl }; returns = refl }
ordinary_at g step.Directory f h = record { formed = record { words = refl; inputs = refl }; returns = refl }
ordinary_at g (step.Change change.Chdir) f h = record { formed = record { words = refl; inputs = (omega (arith, if_le (length g.words == 1) (codes "/") (word_at g.words 1) 255 (omega arith) (f.words 1)), refl) }; returns = refl }
ordinary_at g (step.Change change.Mkdir) f h = record { formed = record { words = refl; inputs = (omega (arith, f.words 1), refl) }; returns = refl }
ordinary_at g (step.Change change.Rmdir) f h = record { formed = record { words = refl; inputs = (omega (arith, f.words 1), refl) }; returns = refl }
ordinary_at g (step.Change change.Unlink) f h = record { formed = record { words = refl; inputs = (omega (arith, f.words 1), refl) }; returns = refl }
ordinary_at g (step.Change change.Rename) f h = record { formed = record { words = refl; inputs = (omega (arith, f.words 1), (omega (arith, f.words 2), refl)) }; returns = refl }
ordinary_at g (step.Change change.Setenv) f h = record { formed = record { words = refl; inputs = (omega (arith, f.words 1), (omega (arith, f.words 2), refl)) }; returns = refl }
ordinary_at g (step.Change change.Unsetenv) f h = record { formed = record { words = refl; inputs = (omega (arith, f.words 1), refl) }; returns = refl }
ordinary_at g (step.Probe want isnt) f h = kind_ordinary (probed isnt g.words) (probed_le g isnt f)
ordinary_at g (step.Sleep ticks) f h = record { formed = record { words = refl; inputs = refl }; returns = refl }
ordinary_at g step.Keep f h = record { formed = record { words = refl; inputs = refl }; returns = refl }
ordinary_at g step.Direct f h = record { formed = record { words = refl; inputs = refl }; returns = refl }
ordinary_at g step.Let f h = record { formed = record { words = refl; inputs = refl }; returns = refl }
ordinary_at g (step.Spawn redirected) f h = record { formed = record { words = refl; inputs = (path_le (word_at g.words 0) (f.words 0), (omega (arith, h), refl)) }; returns = refl }
ordinary_at g step.Restore f h = record { formed = record { words = refl; inputs = refl }; returns = refl }
ordinary_at g step.Wait f h = record { formed = record { words = refl; inputs = refl }; returns = refl }
ordinary_at g step.Announce f h = write_ordinary 1 _ (announcement_le (word_at g.words 0) g.pid (f.words 0) f.pid)
ordinary_at g step.Abandon f h = record { formed = record { words = refl; inputs = refl }; returns = refl }

fine_go : (g : Running) (k : List Step) → IsFine g → Every (Suits g.words) k → IsFineOutcome (go g k)
fine_go g [] f h = tt
fine_go g (x ∷ k) f h = record { ordinary = ordinary_at g x f h.0; of = refl; fine = f; rest = h.1 }

fine_say : (g : Running) (message : List ℕ) (k : List Step) → IsFine g → length message ≤ 4096 → Every (Suits g.words) k → IsFineOutcome (say g message k)
fine_say g message k f le h = record { ordinary = write_ordinary 2 message le; of = tt; fine = f; rest = h }

fine_put : (g : Running) (text : List ℕ) (k : List Step) → IsFine g → length text ≤ 4096 → Every (Suits g.words) k → IsFineOutcome (put g text k)
fine_put g text k f le h = record { ordinary = write_ordinary g.out text le; of = tt; fine = f; rest = h }

suits_abandon : (words : List (List ℕ)) (fds : List ℕ) → Every (Suits words) (abandon fds)
suits_abandon words [] = tt
suits_abandon words (fd ∷ fds) = (tt, suits_abandon words fds)

-- what changes beside words and file leaves a command within the limits
changed : (g h : Running) → IsFine g → h.words ≡ g.words → h.file ≡ g.file → h.pid < 2 ^ 32 → IsFine h
changed g h f w e p = record { words = λ i. subst (λ ws. length (word_at ws i) ≤ 255) (sym w) (f.words i); file = subst (λ x. length x ≤ 255) (sym e) f.file; line = subst (λ ws. length (spaced ws) ≤ 1024) (sym w) f.line; pid = p }

fine_fail : (g : Running) (which : KCall) (errno : ℕ) → IsFine g → errno < 2 ^ 32 → IsFineOutcome (fail g which errno)
fine_fail g which errno f e = fine_say (record g { ending = Status 1 }) _ (abandon g.opened) (changed g (record g { ending = Status 1 }) f refl refl f.pid) (failure_le (word_at g.words 0) which errno (f.words 0) e) (suits_abandon g.words g.opened)

fine_unless_failed : (g : Running) (q : Call) (r : Reply) (on : Outcome) → IsFine g → Fits q r → IsFineOutcome on → IsFineOutcome (unless_failed g q r on)
fine_unless_failed g q r on f fits h = fine_if (is_failed r) (fail g q.which r.errno) on (fine_fail g q.which r.errno f fits.errno) h

fine_unless_short : (g : Running) (q : Call) (r : Reply) (on : Outcome) → IsFine g → Fits q r → IsFineOutcome on → IsFineOutcome (unless_short g q r on)
fine_unless_short g q r on f fits h = fine_unless_failed g q r _ f fits (fine_if (nat_lt r.value (written q)) (fail g kernel.Write 28) on (fine_fail g kernel.Write 28 f (omega arith)) h)

-- what the calls that hand out have room for
read_le : (fd : ℕ) (r : Reply) → Fits (c.read fd) r → length (handed r) ≤ 4096
read_le fd r h = handed_le r 4096 [] h.room

listing_le : (l : Listing) (words : List (List ℕ)) (index : ℕ) (r : Reply) → Fits (listing_call l words index) r → length (handed r) ≤ 512
listing_le listing.Names words index r h = omega (arith, handed_le r 256 [] h.room)
listing_le listing.Variables words index r h = handed_le r 512 [] h.room
listing_le listing.Groups words index r h = handed_le r 512 [] h.room

directory_le : (r : Reply) → Fits c.getcwd r → length (handed r) ≤ 256
directory_le r h = handed_le r 256 [] h.room

suits_restoring : (words : List (List ℕ)) (redirected : Bool) → Every (Suits words) (restoring redirected)
suits_restoring words true = (tt, (tt, tt))
suits_restoring words false = tt

fine_not_started : (g : Running) (errno : ℕ) (redirected : Bool) → IsFine g → errno < 2 ^ 32 → IsFineOutcome (not_started g errno (restoring redirected))
fine_not_started g errno redirected f e = fine_if (errno == 2) _ _
    (fine_say (ends g 1) _ (restoring redirected) (changed g (ends g 1) f refl refl f.pid) (missing_le (word_at g.words 0) (f.words 0)) (suits_restoring g.words redirected))
    (fine_say (ends g 1) _ (restoring redirected) (changed g (ends g 1) f refl refl f.pid) (failure_le (word_at g.words 0) kernel.NxSpawn errno (f.words 0) e) (suits_restoring g.words redirected))

-- what the reply to a step leaves
fine_after : (g : Running) (x : Step) (k : List Step) (r : Reply) → IsFine g → Every (Suits g.words) k → Fits (call_at g x) r → IsFineOutcome (after_step (call_at g x) g x k r)
fine_after g (step.Redirect mode) k r f h fits = fine_unless_failed g _ r _ f fits (fine_go _ k (changed g (record (opens g r.value) { out = r.value }) f refl refl f.pid) h)
fine_after g (step.Open place) k r f h fits = fine_unless_failed g _ r _ f fits (fine_go _ k (changed g (record (opens g r.value) { source = r.value }) f refl refl f.pid) h)
fine_after g step.Create k r f h fits = fine_unless_failed g _ r _ f fits (fine_go _ k (changed g (record (opens g r.value) { out = r.value }) f refl refl f.pid) h)
fine_after g step.Read k r f h fits = fine_unless_failed g _ r _ f fits (fine_if (r.value == 0) _ _ (fine_go g k f h) (fine_put g (handed r) (step.Read ∷ k) f (read_le g.source r fits) (tt, h)))
fine_after g step.Close k r f h fits = fine_unless_failed g _ r _ f fits (fine_go _ k (changed g (record g { opened = below g.opened }) f refl refl f.pid) h)
fine_after g step.Echo k r f h fits = fine_unless_short g _ r _ f fits (fine_go g k f h)
fine_after g step.Look k r f h fits = fine_unless_failed g _ r _ f fits (fine_if (r.value == 2) _ _ (fine_go g (step.Heading ∷ step.Each listing.Names 0 ∷ k) f (tt, (tt, h))) (fine_go g (step.Entry ∷ k) f (tt, h)))
fine_after g step.Entry k r f h fits = fine_unless_short g _ r _ f fits (fine_go g k f h)
fine_after g step.Heading k r f h fits = fine_unless_short g _ r _ f fits (fine_go g k f h)
fine_after g (step.Each l index) k r f h fits = fine_unless_failed g _ r _ f fits (fine_if (r.value == 0) _ _ (fine_go g k f h) (fine_put g (entry l (handed r)) (step.Each l (next_index index) ∷ k) f (entry_le l (handed r) (listing_le l g.words index r fits)) (tt, h)))
fine_after g step.Directory k r f h fits = fine_unless_failed g _ r _ f fits (fine_put g (line (handed r)) k f (omega (arith, line_le (handed r) 256 (directory_le r fits))) h)
fine_after g (step.Change which) k r f h fits = fine_unless_failed g _ r _ f fits (fine_go g k f h)
fine_after g (step.Probe want isnt) k r f h fits = fine_go _ k (changed g (ends g _) f refl refl f.pid) h
fine_after g (step.Sleep ticks) k r f h fits = fine_unless_failed g _ r _ f fits (fine_go g k f h)
fine_after g step.Keep k r f h fits = fine_unless_failed g _ r _ f fits (fine_go _ k (changed g (opens g r.value) f refl refl f.pid) h)
fine_after g step.Direct k r f h fits = fine_unless_failed g _ r _ f fits (fine_go g k f h)
fine_after g step.Let k r f h fits = fine_unless_failed g _ r _ f fits (fine_go _ k (changed g (record g { opened = without_second g.opened }) f refl refl f.pid) h)
fine_after g (step.Spawn redirected) k r f h fits = fine_if (is_failed r) _ _ (fine_not_started g r.errno redirected f fits.errno) (fine_go _ k (changed g (record g { pid = r.value }) f refl refl fits.value) h)
fine_after g step.Restore k r f h fits = fine_unless_failed g _ r _ f fits (fine_go g k f h)
fine_after g step.Wait k r f h fits = fine_unless_failed g _ r _ f fits (fine_go _ k (changed g (ends g (code_of r)) f refl refl f.pid) h)
fine_after g step.Announce k r f h fits = fine_unless_short g _ r _ f fits (fine_go g k f h)
fine_after g step.Abandon k r f h fits = fine_go _ k (changed g (record g { opened = below g.opened }) f refl refl f.pid) h

fine_reply : (q : Call) (g : Running) (a : Awaits) (k : List Step) (r : Reply) → IsFineStep q g a k → Fits q r → IsFineOutcome (after_reply q g a k r)
fine_reply q g (awaits.Step x) k r h fits = subst (λ p. IsFineOutcome (after_step p g x k r)) (sym h.of) (fine_after g x k r h.fine h.rest (subst (λ p. Fits p r) h.of fits))
fine_reply q g awaits.Output k r h fits = fine_unless_short g q r _ h.fine fits (fine_go g k h.fine h.rest)
fine_reply q g awaits.Message k r h fits = fine_go g k h.fine h.rest

-- the steps of the table
suits_cats : (words : List (List ℕ)) (place n : ℕ) → Every (Suits words) (cats place n)
suits_cats words place zero = tt
suits_cats words place (suc n) = (tt, (tt, (tt, suits_cats words (suc place) n)))

abbrev SuitBody : List (List ℕ) → Option Body → Type 0
SuitBody words None = Unit {0}
SuitBody words (Some b) = Every (Suits words) b.steps

suits_if : (words : List (List ℕ)) (test : Bool) (x y : Option Body) → SuitBody words x → SuitBody words y → SuitBody words (if test then x else y)
suits_if words true x y h k = h
suits_if words false x y h k = k

suits_tested : (words : List (List ℕ)) (t : Test) → SuitBody words (tested t)
suits_tested words test.Malformed = tt
suits_tested words (test.Known holds) = tt
suits_tested words (test.Path want isnt) = (tt, tt)

suits_in : (words : List (List ℕ)) (o : Option (List (List ℕ))) → SuitBody words (tested_in o)
suits_in words None = tt
suits_in words (Some ws) = suits_tested words (test_of ws)

suits_sleeps : (words : List (List ℕ)) (n : Option ℤ) → SuitBody words (sleeps n)
suits_sleeps words None = tt
suits_sleeps words (Some n) = (tt, tt)

suits_leaves : (words : List (List ℕ)) (n : Option ℤ) → SuitBody words (leaves n)
suits_leaves words None = tt
suits_leaves words (Some n) = tt

suits_body : (words : List (List ℕ)) (b : Builtin) (status : ℕ) (ws : List (List ℕ)) → SuitBody words (body b status ws)
suits_body words builtin.Echo status ws = (tt, tt)
suits_body words builtin.Cat status ws = suits_if words (length (arguments ws) == 0) _ _ tt (suits_cats words 1 (length (arguments ws)))
suits_body words builtin.Ls status ws = suits_if words (nat_le (length (arguments ws)) 1) _ _ (tt, tt) tt
suits_body words builtin.Cd status ws = suits_if words (nat_le (length (arguments ws)) 1) _ _ (tt, tt) tt
suits_body words builtin.Mkdir status ws = suits_if words (length (arguments ws) == 1) _ _ (tt, tt) tt
suits_body words builtin.Rmdir status ws = suits_if words (length (arguments ws) == 1) _ _ (tt, tt) tt
suits_body words builtin.Rm status ws = suits_if words (length (arguments ws) == 1) _ _ (tt, tt) tt
suits_body words builtin.Mv status ws = suits_if words (length (arguments ws) == 2) _ _ (tt, tt) tt
suits_body words builtin.Pwd status ws = suits_if words (length (arguments ws) == 0) _ _ (tt, tt) tt
suits_body words builtin.Cp status ws = suits_if words (length (arguments ws) == 2) _ _ (tt, (tt, (tt, (tt, (tt, tt))))) tt
suits_body words builtin.Set status ws = suits_if words (length (arguments ws) == 2) _ _ (tt, tt) tt
suits_body words builtin.Export status ws = suits_if words (length (arguments ws) == 2) _ _ (tt, tt) tt
suits_body words builtin.Unset status ws = suits_if words (length (arguments ws) == 1) _ _ (tt, tt) tt
suits_body words builtin.Env status ws = suits_if words (length (arguments ws) == 0) _ _ (tt, tt) tt
suits_body words builtin.Ps status ws = suits_if words (length (arguments ws) == 0) _ _ (tt, tt) tt
suits_body words builtin.Test status ws = suits_tested words (test_of (arguments ws))
suits_body words builtin.Bracket status ws = suits_in words (in_brackets (arguments ws))
suits_body words builtin.True status ws = suits_if words (length (arguments ws) == 0) _ _ tt tt
suits_body words builtin.False status ws = suits_if words (length (arguments ws) == 0) _ _ tt tt
suits_body words builtin.Sleep status ws = suits_if words (length (arguments ws) == 1) _ _ (suits_sleeps words (number (word_at ws 1))) tt
suits_body words builtin.Exit status ws = suits_if words (length (arguments ws) == 0) _ _ tt (suits_if words (length (arguments ws) == 1) _ _ (suits_leaves words (number (word_at ws 1))) tt)

suits_opening : (words : List (List ℕ)) (output : Option Mode) → Every (Suits words) (opening output)
suits_opening words None = tt
suits_opening words (Some mode) = (tt, tt)

suits_closing : (words : List (List ℕ)) (e : Ending) (output : Option Mode) → Every (Suits words) (closing e output)
suits_closing words e None = tt
suits_closing words (Status n) (Some mode) = (tt, tt)
suits_closing words (Exit n) (Some mode) = tt

suits_awaited : (words : List (List ℕ)) (background : Bool) → Every (Suits words) (awaited background)
suits_awaited words true = (tt, tt)
suits_awaited words false = (tt, tt)

suits_program : (words : List (List ℕ)) (output : Option Mode) (background : Bool) → length (lines (arguments words)) ≤ 255 → Every (Suits words) (program output background)
suits_program words None background h = (h, suits_awaited words background)
suits_program words (Some mode) background h = (tt, (tt, (tt, (tt, (h, (tt, (tt, suits_awaited words background)))))))

-- a command whose words are known
fine_refused : (message : List ℕ) → length message ≤ 4096 → IsFineOutcome (refused message)
unfolding spaced
fine_refused message h = fine_say (running [] [] (Status 1)) message [] (record { words = λ i. omega arith; file = omega arith; line = omega arith; pid = omega arith }) h tt

or_first : (a b : Bool) → (a || b) ≡ false → a ≡ false
or_first true b h = h
or_first false b h = refl

or_second : (a b : Bool) → (a || b) ≡ false → b ≡ false
or_second true b h = absurd cc
or_second false b h = h

fine_start : (words : List (List ℕ)) (file : List ℕ) (e : Ending) → is_too_long words file ≡ false → IsFine (running words file e)
unfolding is_too_long
fine_start words file e h =
    let a : (list_any is_long words || is_long file) ≡ false = or_first (list_any is_long words || is_long file) (nat_lt 1024 (length (spaced words))) h in
    record {
      words = each_short words (or_first (list_any is_long words) (is_long file) a);
      file = ltb-false 255 (length file) (or_second (list_any is_long words) (is_long file) a);
      line = ltb-false 1024 (length (spaced words)) (or_second (list_any is_long words || is_long file) (nat_lt 1024 (length (spaced words))) h);
      pid = omega arith;
    }

fine_built_in : (output : Option Mode) (words : List (List ℕ)) (file : List ℕ) (b : Option Body) → is_too_long words file ≡ false → SuitBody words b → IsFineOutcome (built_in output words file b)
fine_built_in output words file None h k = fine_refused (bad_arguments (word_at words 0)) (bad_le (word_at words 0) ((fine_start words file (Status 0) h).words 0))
fine_built_in output words file (Some b) h k = fine_go (running words file b.ending) (opening output ++ b.steps ++ closing b.ending output) (fine_start words file b.ending h)
    (every_append (Suits words) (opening output ++ b.steps) (closing b.ending output) (every_append (Suits words) (opening output) b.steps (suits_opening words output) k) (suits_closing words b.ending output))

fine_does : (which : Option Builtin) (output : Option Mode) (background : Bool) (status : ℕ) (words : List (List ℕ)) (file : List ℕ) → is_too_long words file ≡ false → IsFineOutcome (does_command which output background status words file)
fine_does (Some which) output background status words file h = fine_built_in output words file (body which status words) h (suits_body words which status words)
fine_does None output background status words file h = by_length (is_long (lines (arguments words))) refl
  where
    by_length : (long : Bool) → is_long (lines (arguments words)) ≡ long → IsFineOutcome (if long then refused line_too_long else go (running words file (Status 0)) (program output background))
    by_length true e = fine_refused line_too_long long_le
    by_length false e = fine_go (running words file (Status 0)) (program output background) (fine_start words file (Status 0) h) (suits_program words output background (ltb-false 255 (length (lines (arguments words))) e))

fine_begun : (output : Option Mode) (background : Bool) (status : ℕ) (words : List (List ℕ)) (file : List ℕ) → IsFineOutcome (begun_with output background status words file)
unfolding begun_with
fine_begun output background status words file = by_length (is_too_long words file) refl
  where
    by_length : (long : Bool) → is_too_long words file ≡ long → IsFineOutcome (if long then refused line_too_long else does_command (builtin_named (word_at words 0)) output background status words file)
    by_length true e = fine_refused line_too_long long_le
    by_length false e = fine_does (builtin_named (word_at words 0)) output background status words file e

-- expansions
abbrev IsShortName : Spread → Type 0
IsShortName (Whole words) = Unit {0}
IsShortName (Wants name words word rest) = length name ≤ 255

short_name : (status : ℕ) (words : List (List ℕ)) (word : List ℕ) (ps : List Piece) → IsShortName (spread status words word ps)
short_name status words word [] = tt
short_name status words word (Ends ∷ ps) = short_name status (words ++ word ∷ []) [] ps
short_name status words word (Of (part.Byte b) ∷ ps) = short_name status words (word ++ b ∷ []) ps
short_name status words word (Of part.Status ∷ ps) = short_name status words (word ++ decimal status) ps
short_name status words word (Of (part.Name name) ∷ ps) = by_length (nat_lt 255 (length name)) refl (short_name status words word ps)
  where
    by_length : (long : Bool) → nat_lt 255 (length name) ≡ long → IsShortName (spread status words word ps) → IsShortName (if long then spread status words word ps else Wants name words word ps)
    by_length true e h = h
    by_length false e h = ltb-false 255 (length name) e

fine_expanded : (x : Simple) (background : Bool) (status : ℕ) (sp : Spread) → IsShortName sp → IsFineOutcome (expanded x background status sp)
fine_expanded x background status (Whole words) h = by_output x.output
  where
    by_output : (output : Option Redirection) → IsFineOutcome (with_words output background status words)
    by_output None = fine_begun None background status words []
    by_output (Some r) = fine_begun (Some r.mode) background status (all_but_last words) (last_of words)
fine_expanded x background status (Wants name words word rest) h = h

fine_command : (x : Simple) (background : Bool) (status : ℕ) (d : Doing) (r : Reply) → IsFineDoing d → Fits (call_of d) r → IsFineOutcome (command x background status d r)
fine_command x background status Starts r h fits = fine_expanded x background status _ (short_name status [] [] (all_pieces x))
fine_command x background status (Asks name words word rest) r h fits = fine_expanded x background status _ (short_name status words (word ++ value_of r) rest)
fine_command x background status (Does q g a k) r h fits = fine_reply q g a k r h fits

-- whole runs
abbrev IsFineShell : Shell → Type 0
IsFineShell (s.At status x background a b d) = IsFineDoing d
IsFineShell (Ended value) = Unit {0}

fine_comes : (status : ℕ) (n : Next) → IsFineShell (comes status n)
fine_comes status NoMore = tt
fine_comes status (Runs x background a b) = tt

fine_goes_on : (status : ℕ) (x : Simple) (background : Bool) (a b : Items) (o : Outcome) → IsFineOutcome o → IsFineShell (goes_on status x background a b o)
fine_goes_on status x background a b (Goes d) h = h
fine_goes_on status x background a b (Over (Status n)) h = fine_comes n (next (if n == 0 then a else b))
fine_goes_on status x background a b (Over (Exit value)) h = tt

ordinary_of : (d : Doing) → IsFineDoing d → IsOrdinary (call_of d)
ordinary_of Starts h = record { formed = record { words = refl; inputs = refl }; returns = refl }
ordinary_of (Asks name words word rest) h = record { formed = record { words = refl; inputs = (omega (arith, h), refl) }; returns = refl }
ordinary_of (Does q g a k) h = h.ordinary

call_after : (q : Call) (qs : List Call) → IsOrdinary q → AreShellCalls qs → AreShellCalls (q ∷ qs)
call_after q qs o w = record { front = q ∷ w.front; last = w.last; whole = ap (λ xs. q ∷ xs) w.whole; before = all_of_more IsOrdinary q w.front o w.before; at_last = w.at_last }

only_call : (q : Call) → IsShellCall q → AreShellCalls (q ∷ [])
only_call q h = record { front = []; last = q; whole = refl; before = all_of_none IsOrdinary; at_last = h }

formed_from : (x : Shell) (rs : List Reply) → IsFineShell x → AllFit x rs → AreShellCalls (calls_from x rs)
formed_from (s.At status x background a b d) [] h fits = only_call (call_of d) (OrdinaryCall (call_of d) (ordinary_of d h))
formed_from (Ended value) [] h fits = only_call (c.exit value) (LastCall value)
formed_from (s.At status x background a b d) (r ∷ rs) h fits =
    call_after (call_of d) _ (ordinary_of d h) (formed_from (answered (s.At status x background a b d) r) rs (fine_goes_on status x background a b _ (fine_command x background status d r h fits.0)) fits.1)
formed_from (Ended value) (r ∷ rs) h fits = only_call (c.exit value) (LastCall value)

pub script_formed : CallsAreWellFormed
unfolding shell_calls
script_formed script rs fits = formed_from (started script) rs (fine_comes 0 _) fits

-- The inputs of all calls of a script are bytes.
use Rattle.std.proofs.Common.{◌≡◌, ℕ, zero, suc, ◌==◌, Bool, true, false, if◌then◌else◌, nat_lt, List, [], ◌∷◌, ◌++◌, map, length, codes, decimal, Option, Some, None, refl, arith, All}
use Rattle.nx_base.specs.Calls.{Reply}
use Rattle.nx_base.specs.declared.calls.KCall.{KCall}
use Rattle.nx_base.specs.declared.calls.KCall.TheVariants as kernel
use Rattle.nx_shtok.specs.declared.part.Part.{Part}
use Rattle.nx_shtok.specs.declared.part.Part.TheVariants as part
use Rattle.nx_shtok.specs.declared.token.Word.{Word}
use Rattle.nx_shtree.specs.declared.tree.Mode.{Mode}
use Rattle.nx_shtree.specs.declared.tree.Redirection.{Redirection}
use Rattle.nx_shtree.specs.declared.tree.Simple.{Simple}
use Rattle.nx_shtree.specs.Trees.{Items, NoMore, More, Item, At, Command, Background, If, IfElse, While, Until, items}
use Rattle.nx_shrun.specs.declared.builtin.Builtin.{Builtin}
use Rattle.nx_shrun.specs.declared.step.Ending.{Ending}
use Rattle.nx_shrun.specs.declared.step.Ending.TheVariants.{Status, Exit}
use Rattle.nx_shrun.specs.declared.step.Change.TheVariants as change
use Rattle.nx_shrun.specs.declared.step.Listing.{Listing}
use Rattle.nx_shrun.specs.declared.step.Listing.TheVariants as listing
use Rattle.nx_shrun.specs.declared.step.Step.{Step}
use Rattle.nx_shrun.specs.declared.step.Step.TheVariants as step
use Rattle.nx_shrun.specs.declared.step.Awaits.{Awaits}
use Rattle.nx_shrun.specs.declared.step.Awaits.TheVariants as awaits
use Rattle.nx_shrun.specs.Builtins.{builtin_named}
use Rattle.nx_shrun.specs.Calls as c
use Rattle.nx_shrun.specs.Calls.{Call, Fits, is_failed, handed, output, code_of}
use Rattle.nx_shrun.specs.Texts.{word_at, arguments, line, lines, all_but_last, last_of}
use Rattle.nx_shrun.specs.Expansion.{Piece, Of, Ends, Spread, Whole, Wants, spread, pieces_of, pieces_in, output_pieces, all_pieces}
use Rattle.nx_shrun.specs.Steps.{Running, Doing, Starts, Asks, Does, Outcome, Over, Goes, go, say, put, fail, abandon, opens, below, without_second, listed, probed, call_at, unless_failed, unless_short, written, not_started, restoring, next_index, entry, ends, after_step, after_reply}
use Rattle.nx_shrun.specs.Table.{Body, body, opening, closing, program, running, refused, built_in, does_command, is_long, is_too_long, begun_with}
use Rattle.nx_shrun.specs.ShellCalls as s
use Rattle.nx_shrun.specs.ShellCalls.{Shell, Ended, answered, call_made, call_of, value_of, command, expanded, with_words, comes, comes_after, goes_on, calls_from, started, shell_calls}
use Rattle.nx_shrun.specs.Rest.{before, begun, next}
use Rattle.nx_shrun.specs.Laws.{AllFit}
use Rattle.nx_shell.specs.Bytes.{IsBytePart, AreByteParts, AreByteWords, IsByteOutput, IsByteCommand, AreByteItems, IsByteItem, HasByteInputs, CallsAreBytes}
use Rattle.nx_shell.proofs.ByteTexts.{Bytes, Texts, bytes_of, append_bytes, append_texts, take_bytes, written_bytes, decimal_bytes, if_bytes, at_bytes, arguments_bytes, line_bytes, lines_bytes, echo_bytes, path_bytes, announcement_bytes, failure_bytes, bad_bytes, missing_bytes, long_bytes, but_last_bytes, last_bytes, all_texts, texts_all}

-- Pieces of words that are bytes.
abbrev BytePieces : List Piece → Type 0
BytePieces [] = Unit {0}
BytePieces (Ends ∷ ps) = BytePieces ps
BytePieces (Of p ∷ ps) = IsBytePart p × BytePieces ps

record IsByteRunning (g : Running) : Type 0 where
  words : Texts g.words
  file : Bytes g.file

record IsByteStep (q : Call) (g : Running) : Type 0 where
  call : Texts q.inputs
  of : IsByteRunning g

record IsByteAsking (name : List ℕ) (words : List (List ℕ)) (word : List ℕ) (rest : List Piece) : Type 0 where
  of_name : Bytes name
  of_words : Texts words
  of_word : Bytes word
  of_rest : BytePieces rest

abbrev IsByteDoing : Doing → Type 0
IsByteDoing Starts = Unit {0}
IsByteDoing (Asks name words word rest) = IsByteAsking name words word rest
IsByteDoing (Does q g a k) = IsByteStep q g

abbrev IsByteOutcome : Outcome → Type 0
IsByteOutcome (Over e) = Unit {0}
IsByteOutcome (Goes d) = IsByteDoing d

byte_if : (b : Bool) (x y : Outcome) → IsByteOutcome x → IsByteOutcome y → IsByteOutcome (if b then x else y)
byte_if true x y h k = h
byte_if false x y h k = k

-- the calls
listed_bytes : (ws : List (List ℕ)) → Texts ws → Bytes (listed ws)
listed_bytes ws h = if_bytes (length ws == 1) (codes ".") (word_at ws 1) (written_bytes (codes ".") refl) (at_bytes ws 1 h)

directory_bytes : (ws : List (List ℕ)) → Texts ws → Bytes (if length ws == 1 then codes "/" else word_at ws 1)
directory_bytes ws h = if_bytes (length ws == 1) (codes "/") (word_at ws 1) (written_bytes (codes "/") refl) (at_bytes ws 1 h)

probed_bytes : (isnt : Bool) (ws : List (List ℕ)) → Texts ws → Bytes (probed isnt ws)
probed_bytes true ws h = at_bytes ws 3 h
probed_bytes false ws h = at_bytes ws 2 h

call_bytes : (g : Running) (x : Step) → IsByteRunning g → Texts (call_at g x).inputs
call_bytes g (step.Redirect mode) h = (h.file, tt)
call_bytes g (step.Open place) h = (at_bytes g.words place h.words, tt)
call_bytes g step.Create h = (at_bytes g.words 2 h.words, tt)
call_bytes g step.Read h = tt
call_bytes g step.Close h = tt
call_bytes g step.Echo h = (echo_bytes g.words h.words, tt)
call_bytes g step.Look h = (listed_bytes g.words h.words, tt)
call_bytes g step.Entry h = ((omega arith, line_bytes (listed g.words) (listed_bytes g.words h.words)), tt)
call_bytes g step.Heading h = (line_bytes (listed g.words ++ 58 ∷ []) (append_bytes (listed g.words) (58 ∷ []) (listed_bytes g.words h.words) (omega arith, tt)), tt)
call_bytes g (step.Each listing.Names index) h = (listed_bytes g.words h.words, tt)
call_bytes g (step.Each listing.Variables index) h = tt
call_bytes g (step.Each listing.Groups index) h = tt
call_bytes g step.Directory h = tt
call_bytes g (step.Change change.Chdir) h = (directory_bytes g.words h.words, tt)
call_bytes g (step.Change change.Mkdir) h = (at_bytes g.words 1 h.words, tt)
call_bytes g (step.Change change.Rmdir) h = (at_bytes g.words 1 h.words, tt)
call_bytes g (step.Change change.Unlink) h = (at_bytes g.words 1 h.words, tt)
call_bytes g (step.Change change.Rename) h = (at_bytes g.words 1 h.words, (at_bytes g.words 2 h.words, tt))
call_bytes g (step.Change change.Setenv) h = (at_bytes g.words 1 h.words, (at_bytes g.words 2 h.words, tt))
call_bytes g (step.Change change.Unsetenv) h = (at_bytes g.words 1 h.words, tt)
call_bytes g (step.Probe want isnt) h = (probed_bytes isnt g.words h.words, tt)
call_bytes g (step.Sleep ticks) h = tt
call_bytes g step.Keep h = tt
call_bytes g step.Direct h = tt
call_bytes g step.Let h = tt
call_bytes g (step.Spawn redirected) h = (path_bytes (word_at g.words 0) (at_bytes g.words 0 h.words), (lines_bytes (arguments g.words) (arguments_bytes g.words h.words), tt))
call_bytes g step.Restore h = tt
call_bytes g step.Wait h = tt
call_bytes g step.Announce h = (announcement_bytes (word_at g.words 0) g.pid (at_bytes g.words 0 h.words), tt)
call_bytes g step.Abandon h = tt

-- what the steps leave
byte_go : (g : Running) (k : List Step) → IsByteRunning g → IsByteOutcome (go g k)
byte_go g [] h = tt
byte_go g (x ∷ k) h = record { call = call_bytes g x h; of = h }

byte_say : (g : Running) (message : List ℕ) (k : List Step) → IsByteRunning g → Bytes message → IsByteOutcome (say g message k)
byte_say g message k h m = record { call = (m, tt); of = h }

byte_put : (g : Running) (text : List ℕ) (k : List Step) → IsByteRunning g → Bytes text → IsByteOutcome (put g text k)
byte_put g text k h m = record { call = (m, tt); of = h }

same_words : (g f : Running) → IsByteRunning g → f.words ≡ g.words → f.file ≡ g.file → IsByteRunning f
same_words g f h e d = record { words = rw e h.words; file = rw d h.file }

byte_fail : (g : Running) (which : KCall) (errno : ℕ) → IsByteRunning g → IsByteOutcome (fail g which errno)
byte_fail g which errno h = byte_say (record g { ending = Status 1 }) _ (abandon g.opened) (same_words g (record g { ending = Status 1 }) h refl refl) (failure_bytes (word_at g.words 0) which errno (at_bytes g.words 0 h.words))

byte_unless_failed : (g : Running) (q : Call) (r : Reply) (on : Outcome) → IsByteRunning g → IsByteOutcome on → IsByteOutcome (unless_failed g q r on)
byte_unless_failed g q r on h o = byte_if (is_failed r) _ _ (byte_fail g q.which r.errno h) o

byte_unless_short : (g : Running) (q : Call) (r : Reply) (on : Outcome) → IsByteRunning g → IsByteOutcome on → IsByteOutcome (unless_short g q r on)
byte_unless_short g q r on h o = byte_unless_failed g q r _ h (byte_if (nat_lt r.value (written q)) _ _ (byte_fail g kernel.Write 28 h) o)

output_bytes : (r : Reply) → Texts r.outputs → Bytes (output r)
output_bytes r h = at_bytes r.outputs 0 h

handed_bytes : (r : Reply) → Texts r.outputs → Bytes (handed r)
handed_bytes r h = take_bytes r.value (output r) (output_bytes r h)

entry_bytes : (l : Listing) (text : List ℕ) → Bytes text → Bytes (entry l text)
entry_bytes listing.Names text h = (omega arith, line_bytes text h)
entry_bytes listing.Variables text h = line_bytes text h
entry_bytes listing.Groups text h = line_bytes text h

byte_not_started : (g : Running) (errno : ℕ) (k : List Step) → IsByteRunning g → IsByteOutcome (not_started g errno k)
byte_not_started g errno k h = byte_if (errno == 2) _ _
    (byte_say (ends g 1) _ k (same_words g (ends g 1) h refl refl) (missing_bytes (word_at g.words 0) (at_bytes g.words 0 h.words)))
    (byte_say (ends g 1) _ k (same_words g (ends g 1) h refl refl) (failure_bytes (word_at g.words 0) kernel.NxSpawn errno (at_bytes g.words 0 h.words)))

byte_after : (q : Call) (g : Running) (x : Step) (k : List Step) (r : Reply) → IsByteRunning g → Texts r.outputs → IsByteOutcome (after_step q g x k r)
byte_after q g (step.Redirect mode) k r h o = byte_unless_failed g q r _ h (byte_go _ k (same_words g (record (opens g r.value) { out = r.value }) h refl refl))
byte_after q g (step.Open place) k r h o = byte_unless_failed g q r _ h (byte_go _ k (same_words g (record (opens g r.value) { source = r.value }) h refl refl))
byte_after q g step.Create k r h o = byte_unless_failed g q r _ h (byte_go _ k (same_words g (record (opens g r.value) { out = r.value }) h refl refl))
byte_after q g step.Read k r h o = byte_unless_failed g q r _ h (byte_if (r.value == 0) _ _ (byte_go g k h) (byte_put g (handed r) (step.Read ∷ k) h (handed_bytes r o)))
byte_after q g step.Close k r h o = byte_unless_failed g q r _ h (byte_go _ k (same_words g (record g { opened = below g.opened }) h refl refl))
byte_after q g step.Echo k r h o = byte_unless_short g q r _ h (byte_go g k h)
byte_after q g step.Look k r h o = byte_unless_failed g q r _ h (byte_if (r.value == 2) _ _ (byte_go g (step.Heading ∷ step.Each listing.Names 0 ∷ k) h) (byte_go g (step.Entry ∷ k) h))
byte_after q g step.Entry k r h o = byte_unless_short g q r _ h (byte_go g k h)
byte_after q g step.Heading k r h o = byte_unless_short g q r _ h (byte_go g k h)
byte_after q g (step.Each l index) k r h o = byte_unless_failed g q r _ h (byte_if (r.value == 0) _ _ (byte_go g k h) (byte_put g (entry l (handed r)) (step.Each l (next_index index) ∷ k) h (entry_bytes l (handed r) (handed_bytes r o))))
byte_after q g step.Directory k r h o = byte_unless_failed g q r _ h (byte_put g (line (handed r)) k h (line_bytes (handed r) (handed_bytes r o)))
byte_after q g (step.Change which) k r h o = byte_unless_failed g q r _ h (byte_go g k h)
byte_after q g (step.Probe want isnt) k r h o = byte_go _ k (same_words g (ends g _) h refl refl)
byte_after q g (step.Sleep ticks) k r h o = byte_unless_failed g q r _ h (byte_go g k h)
byte_after q g step.Keep k r h o = byte_unless_failed g q r _ h (byte_go _ k (same_words g (opens g r.value) h refl refl))
byte_after q g step.Direct k r h o = byte_unless_failed g q r _ h (byte_go g k h)
byte_after q g step.Let k r h o = byte_unless_failed g q r _ h (byte_go _ k (same_words g (record g { opened = without_second g.opened }) h refl refl))
byte_after q g (step.Spawn redirected) k r h o = byte_if (is_failed r) _ _ (byte_not_started g r.errno (restoring redirected) h) (byte_go _ k (same_words g (record g { pid = r.value }) h refl refl))
byte_after q g step.Restore k r h o = byte_unless_failed g q r _ h (byte_go g k h)
byte_after q g step.Wait k r h o = byte_unless_failed g q r _ h (byte_go _ k (same_words g (ends g (code_of r)) h refl refl))
byte_after q g step.Announce k r h o = byte_unless_short g q r _ h (byte_go g k h)
byte_after q g step.Abandon k r h o = byte_go _ k (same_words g (record g { opened = below g.opened }) h refl refl)

byte_reply : (q : Call) (g : Running) (a : Awaits) (k : List Step) (r : Reply) → IsByteRunning g → Texts r.outputs → IsByteOutcome (after_reply q g a k r)
byte_reply q g (awaits.Step x) k r h o = byte_after q g x k r h o
byte_reply q g awaits.Output k r h o = byte_unless_short g q r _ h (byte_go g k h)
byte_reply q g awaits.Message k r h o = byte_go g k h

-- the commands
none_running : (e : Ending) → IsByteRunning (running [] [] e)
none_running e = record { words = tt; file = tt }

byte_refused : (message : List ℕ) → Bytes message → IsByteOutcome (refused message)
byte_refused message m = byte_say _ message [] (none_running (Status 1)) m

byte_built_in : (o : Option Mode) (ws : List (List ℕ)) (file : List ℕ) (b : Option Body) → Texts ws → Bytes file → IsByteOutcome (built_in o ws file b)
byte_built_in o ws file None h f = byte_refused _ (bad_bytes (word_at ws 0) (at_bytes ws 0 h))
byte_built_in o ws file (Some b) h f = byte_go (running ws file b.ending) (opening o ++ b.steps ++ closing b.ending o) (record { words = h; file = f })

byte_does : (which : Option Builtin) (o : Option Mode) (background : Bool) (status : ℕ) (ws : List (List ℕ)) (file : List ℕ) → Texts ws → Bytes file → IsByteOutcome (does_command which o background status ws file)
byte_does (Some which) o background status ws file h f = byte_built_in o ws file (body which status ws) h f
byte_does None o background status ws file h f = byte_if (is_long (lines (arguments ws))) _ _ (byte_refused _ long_bytes) (byte_go (running ws file (Status 0)) (program o background) (record { words = h; file = f }))

byte_begun : (o : Option Mode) (background : Bool) (status : ℕ) (ws : List (List ℕ)) (file : List ℕ) → Texts ws → Bytes file → IsByteOutcome (begun_with o background status ws file)
unfolding begun_with
byte_begun o background status ws file h f = byte_if (is_too_long ws file) _ _ (byte_refused _ long_bytes) (byte_does (builtin_named (word_at ws 0)) o background status ws file h f)

byte_words : (o : Option Redirection) (background : Bool) (status : ℕ) (ws : List (List ℕ)) → Texts ws → IsByteOutcome (with_words o background status ws)
byte_words None background status ws h = byte_begun None background status ws [] h tt
byte_words (Some r) background status ws h = byte_begun (Some r.mode) background status (all_but_last ws) (last_of ws) (but_last_bytes ws h) (last_bytes ws h)

-- the expansion
abbrev IsByteSpread : Spread → Type 0
IsByteSpread (Whole ws) = Texts ws
IsByteSpread (Wants name ws w rest) = IsByteAsking name ws w rest

spread_if : (t : Bool) (x y : Spread) → IsByteSpread x → IsByteSpread y → IsByteSpread (if t then x else y)
spread_if true x y h k = h
spread_if false x y h k = k

byte_spread : (status : ℕ) (ws : List (List ℕ)) (w : List ℕ) (ps : List Piece) → Texts ws → Bytes w → BytePieces ps → IsByteSpread (spread status ws w ps)
byte_spread status ws w [] h k p = h
byte_spread status ws w (Ends ∷ ps) h k p = byte_spread status (ws ++ w ∷ []) [] ps (append_texts ws (w ∷ []) h (k, tt)) tt p
byte_spread status ws w (Of (part.Byte b) ∷ ps) h k p = byte_spread status ws (w ++ b ∷ []) ps h (append_bytes w (b ∷ []) k (p.0, tt)) p.1
byte_spread status ws w (Of part.Status ∷ ps) h k p = byte_spread status ws (w ++ decimal status) ps h (append_bytes w (decimal status) k (decimal_bytes status)) p.1
byte_spread status ws w (Of (part.Name name) ∷ ps) h k p =
    spread_if (nat_lt 255 (length name)) _ _ (byte_spread status ws w ps h k p.1) (record { of_name = bytes_of name p.0; of_words = h; of_word = k; of_rest = p.1 })

parts_pieces : (ps : List Part) (more : List Piece) → AreByteParts ps → BytePieces more → BytePieces (map Of ps ++ more)
parts_pieces [] more h k = k
parts_pieces (p ∷ ps) more h k = (h.0, parts_pieces ps more h.1 k)

append_pieces : (xs ys : List Piece) → BytePieces xs → BytePieces ys → BytePieces (xs ++ ys)
append_pieces [] ys h k = k
append_pieces (Ends ∷ xs) ys h k = append_pieces xs ys h k
append_pieces (Of p ∷ xs) ys h k = (h.0, append_pieces xs ys h.1 k)

words_pieces : (ws : List Word) → AreByteWords ws → BytePieces (pieces_in ws)
words_pieces [] h = tt
words_pieces (w ∷ ws) h = append_pieces (pieces_of w) (pieces_in ws) (parts_pieces w.parts (Ends ∷ []) h.0 tt) (words_pieces ws h.1)

output_of : (o : Option Redirection) → IsByteOutput o → BytePieces (output_pieces o)
output_of None h = tt
output_of (Some r) h = parts_pieces r.file.parts (Ends ∷ []) h tt

command_pieces : (x : Simple) → IsByteCommand x → BytePieces (all_pieces x)
command_pieces x h = append_pieces (pieces_in x.words) (output_pieces x.output) (words_pieces x.words h.words) (output_of x.output h.output)

byte_expanded : (x : Simple) (background : Bool) (status : ℕ) (p : Spread) → IsByteSpread p → IsByteOutcome (expanded x background status p)
byte_expanded x background status (Whole ws) h = byte_words x.output background status ws h
byte_expanded x background status (Wants name ws w rest) h = h

value_bytes : (r : Reply) → Texts r.outputs → Bytes (value_of r)
value_bytes r h = if_bytes (is_failed r) [] (handed r) tt (handed_bytes r h)

byte_command : (x : Simple) (background : Bool) (status : ℕ) (d : Doing) (r : Reply) → IsByteCommand x → IsByteDoing d → Texts r.outputs → IsByteOutcome (command x background status d r)
byte_command x background status Starts r c h o = byte_expanded x background status _ (byte_spread status [] [] (all_pieces x) tt tt (command_pieces x c))
byte_command x background status (Asks name ws w rest) r c h o = byte_expanded x background status _ (byte_spread status ws (w ++ value_of r) rest h.of_words (append_bytes w (value_of r) h.of_word (value_bytes r o)) h.of_rest)
byte_command x background status (Does q g a k) r c h o = byte_reply q g a k r h.of o

-- whole runs
record IsByteAt (x : Simple) (a b : Items) (d : Doing) : Type 0 where
  of : IsByteCommand x
  at_zero : AreByteItems a
  at_other : AreByteItems b
  doing : IsByteDoing d

abbrev IsByteShell : Shell → Type 0
IsByteShell (s.At status x background a b d) = IsByteAt x a b d
IsByteShell (Ended value) = Unit {0}

before_bytes : (a b : Items) → AreByteItems a → AreByteItems b → AreByteItems (before a b)
before_bytes NoMore b h k = k
before_bytes (More x a) b h k = (h.0, before_bytes a b h.1 k)

byte_begun_item : (status : ℕ) (x : Item) (k : Items) → IsByteItem x → AreByteItems k → IsByteShell (comes status (begun x k))
byte_begun_item status (At l (Command c)) k h g = record { of = h; at_zero = g; at_other = g; doing = tt }
byte_begun_item status (At l (Background c)) k h g = record { of = h; at_zero = g; at_other = g; doing = tt }
byte_begun_item status (At l (If c xs)) k h g = record { of = h.0; at_zero = before_bytes xs k h.1 g; at_other = g; doing = tt }
byte_begun_item status (At l (IfElse c xs ys)) k h g = record { of = h.0; at_zero = before_bytes xs k h.1 g; at_other = before_bytes ys k h.2 g; doing = tt }
byte_begun_item status (At l (While c xs)) k h g = record { of = h.0; at_zero = before_bytes xs (More (At l (While c xs)) k) h.1 (h, g); at_other = g; doing = tt }
byte_begun_item status (At l (Until c xs)) k h g = record { of = h.0; at_zero = g; at_other = before_bytes xs (More (At l (Until c xs)) k) h.1 (h, g); doing = tt }

byte_comes : (status : ℕ) (xs : Items) → AreByteItems xs → IsByteShell (comes status (next xs))
byte_comes status NoMore h = tt
byte_comes status (More x xs) h = byte_begun_item status x xs h.0 h.1

byte_goes_on : (status : ℕ) (x : Simple) (background : Bool) (a b : Items) (o : Outcome) → IsByteCommand x → AreByteItems a → AreByteItems b → IsByteOutcome o → IsByteShell (goes_on status x background a b o)
byte_goes_on status x background a b (Goes d) c h k o = record { of = c; at_zero = h; at_other = k; doing = o }
byte_goes_on status x background a b (Over (Status n)) c h k o = either (n == 0)
  where
    either : (t : Bool) → IsByteShell (comes n (next (if t then a else b)))
    either true = byte_comes n a h
    either false = byte_comes n b k
byte_goes_on status x background a b (Over (Exit value)) c h k o = tt

made_bytes : (d : Doing) → IsByteDoing d → HasByteInputs (call_of d)
made_bytes Starts h = all_texts [] tt
made_bytes (Asks name ws w rest) h = all_texts (name ∷ []) (h.of_name, tt)
made_bytes (Does q g a k) h = all_texts q.inputs h.call

more_bytes : (q : Call) (qs : List Call) → HasByteInputs q → All HasByteInputs qs → All HasByteInputs (q ∷ qs)
more_bytes q qs h g zero d l = h
more_bytes q qs h g (suc k) d l = g k d (omega (arith, l))

abbrev no_calls : List Call
no_calls = []

none_bytes : All HasByteInputs no_calls
none_bytes k d l = absurd (omega (arith, l))

bytes_from : (x : Shell) (rs : List Reply) → IsByteShell x → AllFit x rs → All HasByteInputs (calls_from x rs)
bytes_from (s.At status x background a b d) [] h fits = more_bytes (call_of d) [] (made_bytes d h.doing) none_bytes
bytes_from (Ended value) [] h fits = more_bytes (c.exit value) [] (all_texts [] tt) none_bytes
bytes_from (s.At status x background a b d) (r ∷ rs) h fits =
    more_bytes (call_of d) _ (made_bytes d h.doing) (bytes_from (answered (s.At status x background a b d) r) rs (byte_goes_on status x background a b _ h.of h.at_zero h.at_other (byte_command x background status d r h.of h.doing (texts_all r.outputs fits.0.bytes))) fits.1)
bytes_from (Ended value) (r ∷ rs) h fits = more_bytes (c.exit value) [] (all_texts [] tt) none_bytes

pub script_bytes : CallsAreBytes
unfolding shell_calls
script_bytes script rs h fits = bytes_from (started script) rs (byte_comes 0 (items script) h) fits

-- All calls of a script, after any replies.
use Rattle.std.specs.Prelude.{ℕ, ◌==◌, Bool, if◌then◌else◌, List, [], ◌∷◌, ◌++◌, Option, None, Some}
use Rattle.nx_base.specs.Calls.{Reply}
use Rattle.nx_shtree.specs.declared.tree.Redirection.{Redirection}
use Rattle.nx_shtree.specs.declared.tree.Simple.{Simple}
use Rattle.nx_shtree.specs.Trees.{Item, Items, items}
use Rattle.nx_shrun.specs.declared.step.Ending.{Ending}
use Rattle.nx_shrun.specs.declared.step.Ending.TheVariants.{Status, Exit}
use Rattle.nx_shrun.specs.Calls.{Call, getpid, getenv, exit, is_failed, handed}
use Rattle.nx_shrun.specs.Expansion.{Spread, Whole, Wants, all_pieces, spread}
use Rattle.nx_shrun.specs.Steps.{Doing, Starts, Asks, Does, Outcome, Over, Goes, after_reply}
use Rattle.nx_shrun.specs.Texts.{all_but_last, last_of}
use Rattle.nx_shrun.specs.Table.{begun_with}
use Rattle.nx_shrun.specs.Rest.{Next, Over as NoMore, Runs, next}

-- What a command does once its words are known. With a redirection the last word is that of its file.
abbrev pub with_words : Option Redirection → Bool → ℕ → List (List ℕ) → Outcome
with_words None background status words = begun_with None background status words []
with_words (Some r) background status words = begun_with (Some r.mode) background status (all_but_last words) (last_of words)

-- The words are all there, or a name's value is asked for.
abbrev pub expanded : Simple → Bool → ℕ → Spread → Outcome
expanded c background status (Whole words) = with_words c.output background status words
expanded c background status (Wants name words word rest) = Goes (Asks name words word rest)

-- A name that has no value is the empty text.
abbrev pub value_of : Reply → List ℕ
value_of r = if is_failed r then [] else handed r

-- What a reply leaves of a simple command.
abbrev pub command : Simple → Bool → ℕ → Doing → Reply → Outcome
command c background status Starts r = expanded c background status (spread status [] [] (all_pieces c))
command c background status (Asks name words word rest) r = expanded c background status (spread status words (word ++ value_of r) rest)
command c background status (Does q g a k) r = after_reply q g a k r

-- The call that a command makes.
abbrev pub call_of : Doing → Call
call_of Starts = getpid
call_of (Asks name words word rest) = getenv name
call_of (Does q g a k) = q

-- The shell: the status of the last command, the command under way, what remains after it at status 0 and at another, and where the command is; or it has ended with a value.
pub data Shell : Type 0 where
  At : (status : ℕ) (c : Simple) (background : Bool) (at_zero at_other : Items) (d : Doing) → Shell
  Ended : (value : ℕ) → Shell

-- With a status it comes to the next command, or ends.
abbrev pub comes : ℕ → Next → Shell
comes status NoMore = Ended status
comes status (Runs c background at_zero at_other) = At status c background at_zero at_other Starts

-- A command that is over chooses by its status what remains.
abbrev pub comes_after : Items → Items → Ending → Shell
comes_after at_zero at_other (Status n) = comes n (next (if n == 0 then at_zero else at_other))
comes_after at_zero at_other (Exit value) = Ended value

abbrev pub goes_on : ℕ → Simple → Bool → Items → Items → Outcome → Shell
goes_on status c background at_zero at_other (Goes d) = At status c background at_zero at_other d
goes_on status c background at_zero at_other (Over ending) = comes_after at_zero at_other ending

-- After a reply.
abbrev pub answered : Shell → Reply → Shell
answered (At status c background at_zero at_other d) r = goes_on status c background at_zero at_other (command c background status d r)
answered (Ended value) r = Ended value

-- The call that the shell made last.
abbrev pub call_made : Shell → Call
call_made (At status c background at_zero at_other d) = call_of d
call_made (Ended value) = exit value

-- The shell before its first reply.
abbrev pub started : List Item → Shell
started script = comes 0 (next (items script))

abbrev pub after : Shell → List Reply → Shell
after s [] = s
after s (r ∷ rs) = after (answered s r) rs

-- The calls that it has made after these replies. After its last call there is no reply.
abbrev pub calls_from : Shell → List Reply → List Call
calls_from s [] = call_made s ∷ []
calls_from (At status c background at_zero at_other d) (r ∷ rs) = call_of d ∷ calls_from (answered (At status c background at_zero at_other d) r) rs
calls_from (Ended value) (r ∷ rs) = exit value ∷ []

unfoldable pub shell_calls : List Item → List Reply → List Call
shell_calls script rs = calls_from (started script) rs

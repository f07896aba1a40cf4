-- The answers of the top call with their causes, and what it promises.
use Rattle.std.specs.Prelude.{◌≡◌, ℕ, ◌⊎◌, true, false, List, [], Option, Some, None}
use Rattle.nx_outside.specs.Outside.{Told, Asked, Wrote, Cut, Rose}
use Rattle.nx_top.specs.declared.answer.Answer.{Answer}
use Rattle.nx_top.specs.declared.answer.Answer.TheVariants.{Usage, CannotRead, TooLong, Faulty, NotBuilt}
use Rattle.nx_top.specs.declared.refusal.FileFault.{FileFault}
use Rattle.nx_top.specs.Answers.{status_of, text_of}
use Rattle.nx_top.specs.CommandLine.{RunForm, GatesForm, CommandLine, Run, Gates, form_of, files_of, stops_at_long}
use Rattle.nx_top.specs.Examining.{Must, FirstRefused, AllAccepted}
use Rattle.nx_top.specs.FilesRead.{Outcome, AllRead, Missing, Long, reading_of, AreContents, HaveContents, StopsAt, StopsAtLong}
use Rattle.nx_top.specs.commands.GatesCommand.{gates_musts, Lists}
use Rattle.nx_top.specs.commands.RunCommand.{run_musts, Reports}

-- what the files of a command must be, by their contents in the order in which they were read
abbrev pub musts_of : CommandLine → List (Option (List ℕ)) → List Must
musts_of (Run form) contents = run_musts form contents
musts_of (Gates form) contents = gates_musts form contents

-- the answer of a command whose files are what they must be
abbrev pub Answers : CommandLine → List (Option (List ℕ)) → Answer → Type 0
Answers (Run form) contents a = Reports form contents a
Answers (Gates form) contents a = Lists contents a

-- what the contents of a command's files come to
pub data ContentsComeTo (c : CommandLine) (contents : List (Option (List ℕ))) : Answer → Type 0 where
  Refused : (a : Answer) → FirstRefused (musts_of c contents) a → ContentsComeTo c contents a
  Answered : (a : Answer) → AllAccepted (musts_of c contents) → Answers c contents a → ContentsComeTo c contents a

-- what a reading comes to
abbrev pub OutcomeComesTo : CommandLine → Outcome → Answer → Type 0
OutcomeComesTo c (AllRead contents) a = ContentsComeTo c contents a
OutcomeComesTo c (Missing file) a = a ≡ CannotRead file
OutcomeComesTo c (Long file) a = a ≡ TooLong file

-- what the files of a command come to, where they are told and no read fails
abbrev pub FilesComeTo : CommandLine → Told → Answer → Type 0
FilesComeTo c t a = OutcomeComesTo c (reading_of (stops_at_long c) t (files_of c)) a

-- why an answer comes to a command: a file could not be read, or was too long; or all were read, and come to it
pub data Follows (c : CommandLine) (old new : Option Told) (before now : ℕ) : Answer → Type 0 where
  Unread : (file : List ℕ) → StopsAt (stops_at_long c) (files_of c) file old new → Rose before now → Follows c old new before now (CannotRead file)
  LongFile : (file : List ℕ) → StopsAtLong (stops_at_long c) (files_of c) file old new → Follows c old new before now (TooLong file)
  Read : (contents : List (Option (List ℕ))) (a : Answer) → HaveContents (stops_at_long c) (files_of c) contents old new → ContentsComeTo c contents a → Follows c old new before now a

-- why an answer comes to the words
pub data IsCaused (words : List (List ℕ)) (old new : Option Told) (before now : ℕ) : Answer → Type 0 where
  NoForm : form_of words ≡ None → Asked old new [] → IsCaused words old new before now Usage
  ByForm : (c : CommandLine) (a : Answer) → form_of words ≡ Some c → Follows c old new before now a → IsCaused words old new before now a

-- a prefix of the text was written, since the sink failed
pub record FailsIn (text : List ℕ) (old new : Option (List ℕ)) (before now : ℕ) : Type 0 where
  pub cut : Cut old new text
  pub rose : Rose before now

-- an answer's status, with its text put whole; 11 in place of any, with a prefix of it; 12 with nothing put
pub data Ends (result status : ℕ) (text : List ℕ) (old new : Option (List ℕ)) (before now : ℕ) : Type 0 where
  Whole : result ≡ status → Wrote old new text → Ends result status text old new before now
  PutFailed : result ≡ 11 → FailsIn text old new before now → Ends result status text old new before now
  NoMemory : result ≡ 12 → Wrote old new [] → Ends result status text old new before now

-- a call of the top: its words, its status, and what files and sink told and counted before and after it
pub record TopCall : Type 0 where
  pub words : List (List ℕ)
  pub status : ℕ
  pub files : Option Told
  pub files_after : Option Told
  pub failed_reads : ℕ
  pub failed_reads_after : ℕ
  pub written : Option (List ℕ)
  pub written_after : Option (List ℕ)
  pub failed_puts : ℕ
  pub failed_puts_after : ℕ

abbrev pub top_call : List (List ℕ) → ℕ → Option Told → Option Told → ℕ → ℕ → Option (List ℕ) → Option (List ℕ) → ℕ → ℕ → TopCall
top_call words status files files_after failed_reads failed_reads_after written written_after failed_puts failed_puts_after = record {
  words = words;
  status = status;
  files = files;
  files_after = files_after;
  failed_reads = failed_reads;
  failed_reads_after = failed_reads_after;
  written = written;
  written_after = written_after;
  failed_puts = failed_puts;
  failed_puts_after = failed_puts_after;
}

-- it ends with an answer
abbrev pub EndsWith : TopCall → Answer → Type 0
EndsWith k a = Ends k.status (status_of a) (text_of a) k.written k.written_after k.failed_puts k.failed_puts_after

-- a read failed in it, a put failed in it
abbrev pub ReadFailed : TopCall → Type 0
ReadFailed k = Rose k.failed_reads k.failed_reads_after

abbrev pub PutsFailed : TopCall → Type 0
PutsFailed k = Rose k.failed_puts k.failed_puts_after

-- its words are of a command
abbrev pub IsOf : TopCall → CommandLine → Type 0
IsOf k c = form_of k.words ≡ Some c

-- its files are told, no read failed, and the files of the command come to an answer
pub record Comes (k : TopCall) (c : CommandLine) (a : Answer) : Type 0 where
  pub told : Told
  pub tells : k.files ≡ Some told
  pub form : IsOf k c
  pub comes : FilesComeTo c told a
  pub good : ¬ ReadFailed k

-- what is promised of every command
pub record EveryCommand (k : TopCall) : Type 0 where
  -- it ends with an answer and its cause, or out of memory
  pub answered : (k.status ≡ 12) ⊎ ((a : Answer) × IsCaused k.words k.files k.files_after k.failed_reads k.failed_reads_after a × EndsWith k a)
  pub memory : k.status ≡ 12 → Wrote k.written k.written_after []
  -- 2 exactly where the words have no form
  pub usage : (k.status ≡ 2 → form_of k.words ≡ None) × (form_of k.words ≡ None → (k.status ≡ 2) ⊎ (k.status ≡ 11) ⊎ (k.status ≡ 12))
  -- 9 only where a read failed, 11 only where a put did
  pub cannot_read : k.status ≡ 9 → ReadFailed k
  pub put_failed : k.status ≡ 11 → PutsFailed k
  -- where the files are told and no read failed, it ends with what they come to, or out of memory
  pub told : (c : CommandLine) (t : Told) → k.files ≡ Some t → IsOf k c → ¬ ReadFailed k → (k.status ≡ 12) ⊎ ((a : Answer) × FilesComeTo c t a × EndsWith k a)

-- the contents of a command's files, and an answer to the first that is not what it must be
pub record IsFaulty (c : CommandLine) (told : Option Told) (a : Answer) : Type 0 where
  pub contents : List (Option (List ℕ))
  pub are : AreContents (stops_at_long c) (files_of c) told contents
  pub first : FirstRefused (musts_of c contents) a

-- what is promised of `gates`
pub record OfGates (k : TopCall) : Type 0 where
  -- 3 only where both files were read and one has a fault, 10 only where a file is too long
  pub no_reading : k.status ≡ 3 → (form : GatesForm) × (fault : FileFault) × IsOf k (Gates form) × IsFaulty (Gates form) k.files (Faulty fault)
  pub too_long : k.status ≡ 10 → (form : GatesForm) × (file : List ℕ) × IsOf k (Gates form) × StopsAtLong true (files_of (Gates form)) file k.files k.files_after
  -- the told files come to one answer, with which it ends
  pub one_answer : (form : GatesForm) (a : Answer) → Comes k (Gates form) a → EndsWith k a

-- every file of a run is told, and is what it must be
pub record IsAccepted (k : TopCall) (form : RunForm) : Type 0 where
  pub told : Told
  pub contents : List (Option (List ℕ))
  pub tells : k.files ≡ Some told
  pub is_form : IsOf k (Run form)
  pub read : reading_of false told (files_of (Run form)) ≡ AllRead contents
  pub all : AllAccepted (run_musts form contents)

-- what is promised of `run`
pub record OfRun (k : TopCall) : Type 0 where
  -- 13 only where all files were read and one is not what it must be
  pub not_built : k.status ≡ 13 → (form : RunForm) × (file : List ℕ) × IsOf k (Run form) × IsFaulty (Run form) k.files (NotBuilt file)
  -- told files of which one is not what it must be are refused so
  pub refused : (form : RunForm) (file : List ℕ) → Comes k (Run form) (NotBuilt file) → EndsWith k (NotBuilt file)
  pub accepted : (form : RunForm) → IsAccepted k form → ¬ ReadFailed k → ¬ PutsFailed k → (k.status ≡ 0) ⊎ (k.status ≡ 12)

-- The statuses of answers, and what a call that ended with one rules out.
use Rattle.std.proofs.Common.{◌≡◌, ℕ, false, List, [], ◌∷◌, Option, Some, None, refl, sym, ◌∙◌, ap, ◌⊎◌, inl, inr, arith}
use Rattle.std.specs.Prelude.{nat_eq}
use Rattle.std.proofs.lemmas.Bool.Decides.{nat_tests}
use Rattle.nx_outside.specs.Outside.{Told, Wrote, Rose}
use Rattle.nx_top.specs.declared.answer.Answer.{Answer}
use Rattle.nx_top.specs.Answers.{status_of}
use Rattle.nx_top.specs.CommandLine.{RunForm, CommandLine, Run, Gates}
use Rattle.nx_top.specs.Report.{stop_status}
use Rattle.nx_top.specs.Examining.{Must, Configuration, CallTable, FlatConfiguration, WriteTable, WriteProgram, OneCommand, Refuses, FirstRefused}
use Rattle.nx_top.specs.commands.GatesCommand.{Lists}
use Rattle.nx_top.specs.commands.RunCommand.{Reports}
use Rattle.nx_top.specs.Promises.{ContentsComeTo, Refused, Answered, Answers, musts_of, Follows, Unread, LongFile, Read, IsCaused, NoForm, ByForm, Ends, Whole, PutFailed, NoMemory}

pub unequal : (m n : ℕ) → nat_eq m n ≡ false → m ≡ n → ⊥
unequal m n f e = grind (arith, nat_tests)

pub same_form : (x y : CommandLine) → Some x ≡ Some y → x ≡ y
same_form x y e = cc

pub no_form : (x : CommandLine) (o : Option CommandLine) → o ≡ None → o ≡ Some x → ⊥
no_form x o e f = let q : None ≡ Some x = sym e ∙ f in absurd cc

-- the statuses of answers
abbrev pub IsStatus : ℕ → Type 0
IsStatus s = (s ≡ 0) ⊎ (s ≡ 3) ⊎ (s ≡ 13)

-- the answer to a file that is not what it must be
refuses_status : (must : Must) (a : Answer) → Refuses must a → (status_of a ≡ 3) ⊎ (status_of a ≡ 13)
refuses_status (Configuration file None) a h = absurd h
refuses_status (Configuration file (Some text)) a h = inl (ap status_of h.3)
refuses_status (CallTable file None content) a h = absurd h
refuses_status (CallTable file (Some config) None) a h = absurd h
refuses_status (CallTable file (Some config) (Some text)) a h = inl (ap status_of h.3)
refuses_status (FlatConfiguration file content) a h = inr (ap status_of h.1)
refuses_status (WriteTable file content) a h = inr (ap status_of h.1)
refuses_status (WriteProgram file content) a h = inr (ap status_of h.1)
refuses_status (OneCommand name file content) a h = inr (ap status_of h.1)

first_status : (musts : List Must) (a : Answer) → FirstRefused musts a → (status_of a ≡ 3) ⊎ (status_of a ≡ 13)
first_status [] a h = absurd h
first_status (must ∷ musts) a (inl h) = refuses_status must a h
first_status (must ∷ musts) a (inr h) = first_status musts a h.1

pub report_status : (form : RunForm) (contents : List (Option (List ℕ))) (a : Answer) → Reports form contents a → status_of a ≡ 0
report_status form [] a h = absurd h
report_status form (x ∷ []) a h = absurd h
report_status form (x ∷ y ∷ []) a h = absurd h
report_status form (x ∷ y ∷ z ∷ []) a h = absurd h
report_status form (x ∷ y ∷ z ∷ w ∷ []) a h = ap status_of h.2.2 ∙ ap stop_status h.2.1.stopped
report_status form (x ∷ y ∷ z ∷ w ∷ v ∷ vs) a h = absurd h

pub lists_status : (contents : List (Option (List ℕ))) (a : Answer) → Lists contents a → status_of a ≡ 0
lists_status [] a h = absurd h
lists_status (None ∷ []) a h = absurd h
lists_status (Some x ∷ []) a h = absurd h
lists_status (None ∷ y ∷ []) a h = absurd h
lists_status (Some x ∷ None ∷ []) a h = absurd h
lists_status (Some x ∷ Some y ∷ []) a h = ap status_of h.2
lists_status (None ∷ y ∷ z ∷ zs) a h = absurd h
lists_status (Some x ∷ None ∷ z ∷ zs) a h = absurd h
lists_status (Some x ∷ Some y ∷ z ∷ zs) a h = absurd h

pub answers_status : (c : CommandLine) (contents : List (Option (List ℕ))) (a : Answer) → Answers c contents a → status_of a ≡ 0
answers_status (Run form) contents a h = report_status form contents a h
answers_status (Gates form) contents a h = lists_status contents a h

refused_or : (s : ℕ) → (s ≡ 3) ⊎ (s ≡ 13) → IsStatus s
refused_or s (inl e) = inr (inl e)
refused_or s (inr e) = inr (inr e)

pub contents_status : (c : CommandLine) (contents : List (Option (List ℕ))) (a : Answer) → ContentsComeTo c contents a → IsStatus (status_of a)
contents_status c contents a (Refused b first) = refused_or _ (first_status (musts_of c contents) b first)
contents_status c contents a (Answered b all done) = inl (answers_status c contents b done)

pub no_status : (s want : ℕ) → IsStatus s → s ≡ want → nat_eq 0 want ≡ false → nat_eq 3 want ≡ false → nat_eq 13 want ≡ false → ⊥
no_status s want (inl e) w f g h = unequal 0 want f (sym e ∙ w)
no_status s want (inr (inl e)) w f g h = unequal 3 want g (sym e ∙ w)
no_status s want (inr (inr e)) w f g h = unequal 13 want h (sym e ∙ w)

-- no answer has the status of a failed put or of out of memory
pub follows_none : (c : CommandLine) (old new : Option Told) (before now : ℕ) (a : Answer) (want : ℕ) → Follows c old new before now a → status_of a ≡ want
    → nat_eq 0 want ≡ false → nat_eq 3 want ≡ false → nat_eq 13 want ≡ false → nat_eq 9 want ≡ false → nat_eq 10 want ≡ false → ⊥
follows_none c old new before now a want (Unread file at rose) s f g h i j = unequal 9 want i s
follows_none c old new before now a want (LongFile file at) s f g h i j = unequal 10 want j s
follows_none c old new before now a want (Read contents b have comes) s f g h i j = no_status _ want (contents_status c contents b comes) s f g h

pub caused_none : (words : List (List ℕ)) (old new : Option Told) (before now : ℕ) (a : Answer) (want : ℕ) → IsCaused words old new before now a → status_of a ≡ want
    → nat_eq 0 want ≡ false → nat_eq 3 want ≡ false → nat_eq 13 want ≡ false → nat_eq 9 want ≡ false → nat_eq 10 want ≡ false → nat_eq 2 want ≡ false → ⊥
caused_none words old new before now a want (NoForm none asked) s f g h i j k = unequal 2 want k s
caused_none words old new before now a want (ByForm c b is follows) s f g h i j k = follows_none c old new before now b want follows s f g h i j

-- a call that ended with a status has that of its answer, except where a put failed or memory ran out
pub status_is : (result s want : ℕ) (text : List ℕ) (told told' : Option (List ℕ)) (m n : ℕ) → Ends result s text told told' m n → result ≡ want → nat_eq 11 want ≡ false → nat_eq 12 want ≡ false → s ≡ want
status_is result s want text told told' m n e r f g = elim e [
  | Whole q w ↦ sym q ∙ r
  | PutFailed q w ↦ absurd (unequal 11 want f (sym q ∙ r))
  | NoMemory q w ↦ absurd (unequal 12 want g (sym q ∙ r))
]

-- a call that answered 11 or 12 failed so
pub failed_put : (result s : ℕ) (text : List ℕ) (told told' : Option (List ℕ)) (m n : ℕ) → Ends result s text told told' m n → result ≡ 11 → (s ≡ 11 → ⊥) → Rose m n
failed_put result s text told told' m n e r never = elim e [
  | Whole q w ↦ absurd (never (sym q ∙ r))
  | PutFailed q w ↦ w.rose
  | NoMemory q w ↦ absurd (unequal 12 11 refl (sym q ∙ r))
]

pub no_room : (result s : ℕ) (text : List ℕ) (told told' : Option (List ℕ)) (m n : ℕ) → Ends result s text told told' m n → result ≡ 12 → (s ≡ 12 → ⊥) → Wrote told told' []
no_room result s text told told' m n e r never = elim e [
  | Whole q w ↦ absurd (never (sym q ∙ r))
  | PutFailed q w ↦ absurd (unequal 11 12 refl (sym q ∙ r))
  | NoMemory q w ↦ w
]

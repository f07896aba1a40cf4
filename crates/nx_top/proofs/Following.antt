-- What follows from the reading of a command's files.
use Rattle.std.proofs.Common.{◌≡◌, ℕ, Bool, List, Option, Result, Ok, Err, IfOk, sym, subst}
use Rattle.nx_base.specs.declared.out_of_memory.OutOfMemory.{OutOfMemory}
use Rattle.nx_outside.specs.Outside.{Told}
use Rattle.nx_outside.specs.declared.files.FileStop.{FileStop}
use Rattle.nx_outside.specs.declared.files.FileStop.TheVariants.{Failed, TooLong, Memory}
use Rattle.nx_top.specs.declared.answer.Answer.{Answer}
use Rattle.nx_top.specs.Answers.{IsStopAnswer}
use Rattle.nx_top.specs.CommandLine.{CommandLine, files_of, stops_at_long}
use Rattle.nx_top.specs.FilesRead.{HaveContents, IsStop}
use Rattle.nx_top.specs.Promises.{ContentsComeTo, Follows, Unread, LongFile, Read}

pub all_read : (r : Result Answer OutOfMemory) (c : CommandLine) (stops : Bool) (names : List (List ℕ)) (kept contents : List (Option (List ℕ))) (old new : Option Told) (before now : ℕ)
    → names ≡ files_of c → stops ≡ stops_at_long c → contents ≡ kept → HaveContents stops names kept old new → IfOk r (λ a. ContentsComeTo c contents a)
    → IfOk r (λ a. Follows c old new before now a)
all_read (Ok a) c stops names kept contents old new before now n s k h comes =
    let h1 = subst (λ (x : List (List ℕ)). HaveContents stops x kept old new) n h in
    let h2 = subst (λ (b : Bool). HaveContents b (files_of c) kept old new) s h1 in
    let h3 = subst (λ (x : List (Option (List ℕ))). HaveContents (stops_at_long c) (files_of c) x old new) (sym k) h2 in
    Read contents a h3 comes
all_read (Err e) c stops names kept contents old new before now n s k h comes = tt

stop_of : (a : Answer) (c : CommandLine) (why : FileStop) (file : List ℕ) (old new : Option Told) (before now : ℕ) → IsStop why (stops_at_long c) file (files_of c) old new before now
    → IsStopAnswer a why file → Follows c old new before now a
stop_of a c Failed file old new before now h e = subst (λ (x : Answer). Follows c old new before now x) (sym e) (Unread file h.0 h.1)
stop_of a c TooLong file old new before now h e = subst (λ (x : Answer). Follows c old new before now x) (sym e) (LongFile file h)
stop_of a c Memory file old new before now h e = absurd e

pub stopped_at : (r : Result Answer OutOfMemory) (c : CommandLine) (stops : Bool) (names : List (List ℕ)) (why : FileStop) (file : List ℕ) (old new : Option Told) (before now : ℕ)
    → names ≡ files_of c → stops ≡ stops_at_long c → IsStop why stops file names old new before now → IfOk r (λ a. IsStopAnswer a why file) → IfOk r (λ a. Follows c old new before now a)
stopped_at (Ok a) c stops names why file old new before now n s h e =
    let h1 = subst (λ (x : List (List ℕ)). IsStop why stops file x old new before now) n h in
    let h2 = subst (λ (b : Bool). IsStop why b file (files_of c) old new before now) s h1 in
    stop_of a c why file old new before now h2 e
stopped_at (Err x) c stops names why file old new before now n s h e = tt

-- What the causes of an answer rule out.
use Rattle.std.proofs.Common.{◌≡◌, ℕ, ◌<◌, ltb, Bool, true, false, true≢false, List, [], ◌∷◌, length, take, map, Option, Some, None, Result, Ok, Err, IfOk, refl, sym, ◌∙◌, ap, subst, ◌⊎◌, inl, inr}
use Rattle.std.specs.Prelude.{nat_eq, All, IsSome, IsSomeAnd, slice_get, if◌then◌else◌}
use Rattle.std.proofs.lemmas.Bool.{lt-ltb}
use Rattle.std.proofs.lemmas.List.Elements.{All-head, All-tail}
use Rattle.nx_base.specs.declared.out_of_memory.OutOfMemory.{OutOfMemory}
use Rattle.nx_outside.specs.Outside.{Told, Wrote, Rose, IsLong, content_of, longest}
use Rattle.nx_calls.specs.declared.fault.CallsFault.{CallsFault}
use Rattle.nx_calls.specs.declared.fault.CallsFault.TheVariants as calls_fault
use Rattle.nx_calls.specs.declared.row.CallRow.{CallRow}
use Rattle.nx_calls.proofs.OneTable.{one_table}
use Rattle.nx_config.specs.declared.fault.ConfigFault.{ConfigFault}
use Rattle.nx_config.specs.declared.fault.ConfigFault.TheVariants as config_fault
use Rattle.nx_gate.specs.Gates.{gate_of, listing_of}
use Rattle.nx_top.specs.declared.answer.Answer.{Answer}
use Rattle.nx_top.specs.declared.answer.Answer.TheVariants.{CannotRead, TooLong, Faulty, NotBuilt, Done}
use Rattle.nx_top.specs.declared.refusal.FileFault.{FileFault}
use Rattle.nx_top.specs.Answers.{status_of, text_of}
use Rattle.nx_top.specs.CommandLine.{RunForm, GatesForm, CommandLine, Run, Gates, form_of, files_of, stops_at_long}
use Rattle.nx_top.specs.Examining.{Must, Configuration, CallTable, FlatConfiguration, WriteTable, WriteProgram, OneCommand, Accepts, Refuses, FirstRefused, AllAccepted}
use Rattle.nx_top.specs.FilesRead.{Outcome, AllRead, Missing, Long, onto, read_before, reading_of, held_of, GotAll, AreContents, StopsAtLong}
use Rattle.nx_top.specs.commands.GatesCommand.{gates_musts, Lists}
use Rattle.nx_top.specs.commands.RunCommand.{run_musts}
use Rattle.nx_top.specs.Promises.{ContentsComeTo, Refused, Answered, Answers, musts_of, OutcomeComesTo, FilesComeTo, Follows, Unread, LongFile, Read, IsCaused, NoForm, ByForm, Whole, PutFailed, NoMemory, TopCall, EndsWith, ReadFailed, PutsFailed, IsOf, EveryCommand, IsFaulty, OfGates, OfRun}
use Rattle.nx_top.proofs.Statuses.{unequal, same_form, no_form, report_status, lists_status, answers_status, contents_status, no_status, follows_none, caused_none, status_is, failed_put, no_room}

-- an answer that follows from the form of the words
pub by_form : (r : Result Answer OutOfMemory) (words : List (List ℕ)) (c : CommandLine) (old new : Option Told) (before now : ℕ) → form_of words ≡ Some c
    → IfOk r (Follows c old new before now) → IfOk r (IsCaused words old new before now)
by_form (Ok a) words c old new before now e h = ByForm c a e h
by_form (Err x) words c old new before now e h = tt

-- told files: a file that was read stands before the others
read_step : (stops : Bool) (name : List ℕ) (o : Option (List ℕ)) (content : Option (List ℕ)) (after : Outcome) → held_of o ≡ Some content → (stops ≡ true → IsSome content) → read_before stops name o after ≡ onto content after
read_step stops name None content after h go = let q : None ≡ Some content = h in absurd cc
read_step stops name (Some text) content after h go = by (ltb longest (length text)) stops go h
  where
    by : (b s : Bool) → (s ≡ true → IsSome content) → Some (if b then None else Some text) ≡ Some content → (if b then (if s then Long name else onto None after) else onto (Some text) after) ≡ onto content after
    by true true go h = let q : None ≡ content = cc in let p : false ≡ true = subst IsSome (sym q) (go refl) in absurd (true≢false (sym p))
    by true false go h = let q : None ≡ content = cc in ap (λ (x : Option (List ℕ)). onto x after) q
    by false s go h = let q : Some text ≡ content = cc in ap (λ (x : Option (List ℕ)). onto x after) q

tail_go : (stops : Bool) (x : Option (List ℕ)) (xs : List (Option (List ℕ))) → (stops ≡ true → All IsSome (x ∷ xs)) → stops ≡ true → All IsSome xs
tail_go stops x xs go s = All-tail IsSome x xs (go s)

-- told files that were all read
reading_all : (stops : Bool) (t : Told) (names : List (List ℕ)) (contents : List (Option (List ℕ))) → GotAll (Some t) names contents → (stops ≡ true → All IsSome contents) → reading_of stops t names ≡ AllRead contents
reading_all stops t [] [] h go = refl
reading_all stops t [] (x ∷ xs) h go = absurd cc
reading_all stops t (n ∷ ns) [] h go = absurd cc
reading_all stops t (n ∷ ns) (x ∷ xs) h go =
    let one : held_of (content_of t.contents n) ≡ Some x = cc in
    let rest : map (λ n. held_of (content_of t.contents n)) ns ≡ map Some xs = cc in
    read_step stops n (content_of t.contents n) x (reading_of stops t ns) one (λ s. All-head IsSome x xs (go s))
    ∙ ap (onto x) (reading_all stops t ns xs rest (tail_go stops x xs go))

-- told files of which one is too long
long_here : (o : Option (List ℕ)) (name : List ℕ) (after : Outcome) → IsSomeAnd o (λ c. longest < length c) → read_before true name o after ≡ Long name
long_here None name after h = absurd h
long_here (Some text) name after h = rw (lt-ltb longest (length text) h) refl

reading_long : (t : Told) (names : List (List ℕ)) (file : List ℕ) (contents : List (Option (List ℕ))) → slice_get names (length contents) ≡ Some file
    → GotAll (Some t) (take (length contents) names) contents → All IsSome contents → IsLong t file → reading_of true t names ≡ Long file
reading_long t [] file [] at h go long = let q : None ≡ Some file = at in absurd cc
reading_long t [] file (x ∷ xs) at h go long = let q : None ≡ Some file = at in absurd cc
reading_long t (n ∷ ns) file [] at h go long =
    let q : Some n ≡ Some file = at in
    let e : n ≡ file = cc in
    subst (λ (x : List ℕ). reading_of true t (x ∷ ns) ≡ Long file) (sym e) (long_here (content_of t.contents file) file (reading_of true t ns) long)
reading_long t (n ∷ ns) file (x ∷ xs) at h go long =
    let all : held_of (content_of t.contents n) ∷ map (λ n. held_of (content_of t.contents n)) (take (length xs) ns) ≡ Some x ∷ map Some xs = h in
    let one : held_of (content_of t.contents n) ≡ Some x = cc in
    let rest : map (λ n. held_of (content_of t.contents n)) (take (length xs) ns) ≡ map Some xs = cc in
    read_step true n (content_of t.contents n) x (reading_of true t ns) one (λ s. All-head IsSome x xs go)
    ∙ ap (onto x) (reading_long t ns file xs at rest (All-tail IsSome x xs go) long)

-- an answer that follows from told files, of which no read failed, is one that they come to
comes_by : (c : CommandLine) (o p : Outcome) (a : Answer) → p ≡ o → OutcomeComesTo c o a → OutcomeComesTo c p a
comes_by c o p a e h = subst (λ (x : Outcome). OutcomeComesTo c x a) (sym e) h

follows_told : (c : CommandLine) (t : Told) (new : Option Told) (before now : ℕ) (a : Answer) → Follows c (Some t) new before now a → (Rose before now → ⊥) → FilesComeTo c t a
follows_told c t new before now a (Unread file at rose) never = absurd (never rose)
follows_told c t new before now a (LongFile file s) never =
    let b = s.at.before in
    comes_by c (Long file) _ a
    (subst (λ (x : Bool). reading_of x t (files_of c) ≡ Long file) (sym s.ends) (reading_long t (files_of c) file s.at.contents s.at.named b.held (b.go_on s.ends) s.long)) refl
follows_told c t new before now a (Read contents b have comes) never = comes_by c (AllRead contents) _ b (reading_all (stops_at_long c) t (files_of c) contents have.are.held have.are.go_on) comes

-- a file is refused in one way, and not accepted then
some_fault : (f : ConfigFault) (o : Option ConfigFault) → o ≡ None → o ≡ Some f → ⊥
some_fault f o e k = let q : None ≡ Some f = sym e ∙ k in absurd cc

err_ok : (f : CallsFault) (rows : List CallRow) → Err f ≡ Ok rows → ⊥
err_ok f rows e = absurd cc

refuses_one : (must : Must) (a b : Answer) → Refuses must a → Refuses must b → a ≡ b
refuses_one (Configuration file None) a b h k = absurd h
refuses_one (Configuration file (Some text)) a b h k =
    let q : Some (config_fault.Text h.0 h.1) ≡ Some (config_fault.Text k.0 k.1) = sym h.2 ∙ k.2 in
    let l : h.0 ≡ k.0 = cc in
    let m : h.1 ≡ k.1 = cc in
    let x = h.3 in
    let y = k.3 in
    cc
refuses_one (CallTable file None content) a b h k = absurd h
refuses_one (CallTable file (Some config) None) a b h k = absurd h
refuses_one (CallTable file (Some config) (Some text)) a b h k =
    let q : Err (calls_fault.Text h.0 h.1) ≡ Err (calls_fault.Text k.0 k.1) = one_table _ text _ _ h.2 k.2 in
    let l : h.0 ≡ k.0 = cc in
    let m : h.1 ≡ k.1 = cc in
    let x = h.3 in
    let y = k.3 in
    cc
refuses_one (FlatConfiguration file content) a b h k = h.1 ∙ sym k.1
refuses_one (WriteTable file content) a b h k = h.1 ∙ sym k.1
refuses_one (WriteProgram file content) a b h k = h.1 ∙ sym k.1
refuses_one (OneCommand name file content) a b h k = h.1 ∙ sym k.1

refuses_not : (must : Must) (a : Answer) → Refuses must a → Accepts must → ⊥
refuses_not (Configuration file None) a h k = h
refuses_not (Configuration file (Some text)) a h k = some_fault _ _ k h.2
refuses_not (CallTable file None content) a h k = h
refuses_not (CallTable file (Some config) None) a h k = h
refuses_not (CallTable file (Some config) (Some text)) a h k = err_ok _ _ (one_table _ text _ _ h.2 k.1)
refuses_not (FlatConfiguration file content) a h k = h.0 k
refuses_not (WriteTable file content) a h k = h.0 k
refuses_not (WriteProgram file content) a h k = h.0 k.0 k.1
refuses_not (OneCommand name file content) a h k = h.0 k

first_one : (musts : List Must) (a b : Answer) → FirstRefused musts a → FirstRefused musts b → a ≡ b
first_one [] a b h k = absurd h
first_one (must ∷ musts) a b (inl h) (inl k) = refuses_one must a b h k
first_one (must ∷ musts) a b (inl h) (inr k) = absurd (refuses_not must a h k.0)
first_one (must ∷ musts) a b (inr h) (inl k) = absurd (refuses_not must b k h.0)
first_one (must ∷ musts) a b (inr h) (inr k) = first_one musts a b h.1 k.1

first_not : (musts : List Must) (a : Answer) → FirstRefused musts a → AllAccepted musts → ⊥
first_not [] a h k = h
first_not (must ∷ musts) a (inl h) k = refuses_not must a h k.0
first_not (must ∷ musts) a (inr h) k = first_not musts a h.1 k.1

-- contents have one listing
lists_one : (contents : List (Option (List ℕ))) (a b : Answer) → Lists contents a → Lists contents b → a ≡ b
lists_one [] a b h k = absurd h
lists_one (None ∷ []) a b h k = absurd h
lists_one (Some x ∷ []) a b h k = absurd h
lists_one (None ∷ y ∷ []) a b h k = absurd h
lists_one (Some x ∷ None ∷ []) a b h k = absurd h
lists_one (Some x ∷ Some y ∷ []) a b h k =
    let q : Ok h.0 ≡ Ok k.0 = one_table _ y _ _ h.1 k.1 in
    let same : h.0 ≡ k.0 = cc in
    h.2 ∙ ap (λ (rows : List CallRow). Done 0 (listing_of (map gate_of rows) ∷ [])) same ∙ sym k.2
lists_one (None ∷ y ∷ z ∷ zs) a b h k = absurd h
lists_one (Some x ∷ None ∷ z ∷ zs) a b h k = absurd h
lists_one (Some x ∷ Some y ∷ z ∷ zs) a b h k = absurd h

gates_contents : (form : GatesForm) (contents : List (Option (List ℕ))) (a b : Answer) → ContentsComeTo (Gates form) contents a → ContentsComeTo (Gates form) contents b → a ≡ b
gates_contents form contents a b (Refused a' h) (Refused b' k) = first_one (gates_musts form contents) a' b' h k
gates_contents form contents a b (Refused a' h) (Answered b' all k) = absurd (first_not (gates_musts form contents) a' h all)
gates_contents form contents a b (Answered a' all h) (Refused b' k) = absurd (first_not (gates_musts form contents) b' k all)
gates_contents form contents a b (Answered a' all h) (Answered b' all' k) = lists_one contents a' b' h k

gates_outcome : (form : GatesForm) (o : Outcome) (a b : Answer) → OutcomeComesTo (Gates form) o a → OutcomeComesTo (Gates form) o b → a ≡ b
gates_outcome form (AllRead contents) a b h k = gates_contents form contents a b h k
gates_outcome form (Missing file) a b h k = h ∙ sym k
gates_outcome form (Long file) a b h k = h ∙ sym k

-- contents that are refused have no other answer
done_not : (c : CommandLine) (contents : List (Option (List ℕ))) (file : List ℕ) → Answers c contents (NotBuilt file) → ⊥
done_not c contents file h = unequal 13 0 refl (answers_status c contents (NotBuilt file) h)

refused_contents : (c : CommandLine) (contents : List (Option (List ℕ))) (file : List ℕ) (a b : Answer) → a ≡ NotBuilt file → ContentsComeTo c contents a → ContentsComeTo c contents b → a ≡ b
refused_contents c contents file a b e (Refused a' h) (Refused b' k) = first_one (musts_of c contents) a' b' h k
refused_contents c contents file a b e (Refused a' h) (Answered b' all k) = absurd (first_not (musts_of c contents) a' h all)
refused_contents c contents file a b e (Answered a' all h) k = absurd (done_not c contents file (subst (λ (x : Answer). Answers c contents x) e h))

not_unread : (file name : List ℕ) → NotBuilt file ≡ CannotRead name → ⊥
not_unread file name e = absurd cc

not_long : (file name : List ℕ) → NotBuilt file ≡ TooLong name → ⊥
not_long file name e = absurd cc

refused_outcome : (c : CommandLine) (o : Outcome) (file : List ℕ) (b : Answer) → OutcomeComesTo c o (NotBuilt file) → OutcomeComesTo c o b → NotBuilt file ≡ b
refused_outcome c (AllRead contents) file b h k = refused_contents c contents file (NotBuilt file) b refl h k
refused_outcome c (Missing name) file b h k = absurd (not_unread file name h)
refused_outcome c (Long name) file b h k = absurd (not_long file name h)

-- contents that are accepted have an answer of status 0
accepted_contents : (c : CommandLine) (contents : List (Option (List ℕ))) (a : Answer) → AllAccepted (musts_of c contents) → ContentsComeTo c contents a → status_of a ≡ 0
accepted_contents c contents a all (Refused b first) = absurd (first_not (musts_of c contents) b first all)
accepted_contents c contents a all (Answered b all' done) = answers_status c contents b done

-- the first refused file of a run is not built, that of a listing is faulty
run_first : (form : RunForm) (contents : List (Option (List ℕ))) (a : Answer) → FirstRefused (run_musts form contents) a → (file : List ℕ) × (a ≡ NotBuilt file)
run_first form [] a h = absurd h
run_first form (x ∷ []) a h = absurd h
run_first form (x ∷ y ∷ []) a h = absurd h
run_first form (x ∷ y ∷ z ∷ []) a h = absurd h
run_first form (x ∷ y ∷ z ∷ w ∷ []) a (inl h) = (form.config, h.1)
run_first form (x ∷ y ∷ z ∷ w ∷ []) a (inr (c, inl h)) = (form.calls, h.1)
run_first form (x ∷ y ∷ z ∷ w ∷ []) a (inr (c, inr (d, inl h))) = (form.file, h.1)
run_first form (x ∷ y ∷ z ∷ w ∷ []) a (inr (c, inr (d, inr (e, inl h)))) = (form.script, h.1)
run_first form (x ∷ y ∷ z ∷ w ∷ []) a (inr (c, inr (d, inr (e, inr h)))) = absurd h.1
run_first form (x ∷ y ∷ z ∷ w ∷ v ∷ vs) a h = absurd h

config_faulty : (file : List ℕ) (content : Option (List ℕ)) (a : Answer) → Refuses (Configuration file content) a → (fault : FileFault) × (a ≡ Faulty fault)
config_faulty file None a h = absurd h
config_faulty file (Some text) a h = (_, h.3)

calls_faulty : (file : List ℕ) (config content : Option (List ℕ)) (a : Answer) → Refuses (CallTable file config content) a → (fault : FileFault) × (a ≡ Faulty fault)
calls_faulty file None content a h = absurd h
calls_faulty file (Some config) None a h = absurd h
calls_faulty file (Some config) (Some text) a h = (_, h.3)

gates_first : (form : GatesForm) (contents : List (Option (List ℕ))) (a : Answer) → FirstRefused (gates_musts form contents) a → (fault : FileFault) × (a ≡ Faulty fault)
gates_first form [] a h = absurd h
gates_first form (x ∷ []) a h = absurd h
gates_first form (x ∷ y ∷ []) a (inl h) = config_faulty form.config x a h
gates_first form (x ∷ y ∷ []) a (inr (c, inl h)) = calls_faulty form.calls x y a h
gates_first form (x ∷ y ∷ []) a (inr (c, inr h)) = absurd h.1
gates_first form (x ∷ y ∷ z ∷ zs) a h = absurd h

-- by status: an answer of 3 to a listing, of 13 to a run, of 10 to a listing
faulty_contents : (form : GatesForm) (contents : List (Option (List ℕ))) (told : Option Told) (a : Answer) → AreContents true (files_of (Gates form)) told contents → ContentsComeTo (Gates form) contents a → status_of a ≡ 3
    → (fault : FileFault) × IsFaulty (Gates form) told (Faulty fault)
faulty_contents form contents told a are (Refused b first) s =
    let f = gates_first form contents b first in
    (f.0, record { contents = contents; are = are; first = subst (λ (x : Answer). FirstRefused (gates_musts form contents) x) f.1 first })
faulty_contents form contents told a are (Answered b all done) s = absurd (unequal 0 3 refl (sym (lists_status contents b done) ∙ s))

bad_contents : (form : RunForm) (contents : List (Option (List ℕ))) (told : Option Told) (a : Answer) → AreContents false (files_of (Run form)) told contents → ContentsComeTo (Run form) contents a → status_of a ≡ 13
    → (file : List ℕ) × IsFaulty (Run form) told (NotBuilt file)
bad_contents form contents told a are (Refused b first) s =
    let f = run_first form contents b first in
    (f.0, record { contents = contents; are = are; first = subst (λ (x : Answer). FirstRefused (run_musts form contents) x) f.1 first })
bad_contents form contents told a are (Answered b all done) s = absurd (unequal 0 13 refl (sym (report_status form contents b done) ∙ s))

run_not_3 : (form : RunForm) (contents : List (Option (List ℕ))) (a : Answer) → ContentsComeTo (Run form) contents a → status_of a ≡ 3 → ⊥
run_not_3 form contents a (Refused b first) s = let f = run_first form contents b first in unequal 13 3 refl (sym (ap status_of f.1) ∙ s)
run_not_3 form contents a (Answered b all done) s = unequal 0 3 refl (sym (report_status form contents b done) ∙ s)

gates_not_13 : (form : GatesForm) (contents : List (Option (List ℕ))) (a : Answer) → ContentsComeTo (Gates form) contents a → status_of a ≡ 13 → ⊥
gates_not_13 form contents a (Refused b first) s = let f = gates_first form contents b first in unequal 3 13 refl (sym (ap status_of f.1) ∙ s)
gates_not_13 form contents a (Answered b all done) s = unequal 0 13 refl (sym (lists_status contents b done) ∙ s)

faulty : (words : List (List ℕ)) (old new : Option Told) (before now : ℕ) (a : Answer) → IsCaused words old new before now a → status_of a ≡ 3
    → (form : GatesForm) × (fault : FileFault) × (form_of words ≡ Some (Gates form)) × IsFaulty (Gates form) old (Faulty fault)
faulty words old new before now a (NoForm none asked) s = absurd (unequal 2 3 refl s)
faulty words old new before now a (ByForm c b is (Unread file at rose)) s = absurd (unequal 9 3 refl s)
faulty words old new before now a (ByForm c b is (LongFile file at)) s = absurd (unequal 10 3 refl s)
faulty words old new before now a (ByForm (Run form) b is (Read contents b' have comes)) s = absurd (run_not_3 form contents b' comes s)
faulty words old new before now a (ByForm (Gates form) b is (Read contents b' have comes)) s =
    let f = faulty_contents form contents old b' have.are comes s in
    (form, f.0, is, f.1)

bad_file : (words : List (List ℕ)) (old new : Option Told) (before now : ℕ) (a : Answer) → IsCaused words old new before now a → status_of a ≡ 13
    → (form : RunForm) × (file : List ℕ) × (form_of words ≡ Some (Run form)) × IsFaulty (Run form) old (NotBuilt file)
bad_file words old new before now a (NoForm none asked) s = absurd (unequal 2 13 refl s)
bad_file words old new before now a (ByForm c b is (Unread file at rose)) s = absurd (unequal 9 13 refl s)
bad_file words old new before now a (ByForm c b is (LongFile file at)) s = absurd (unequal 10 13 refl s)
bad_file words old new before now a (ByForm (Gates form) b is (Read contents b' have comes)) s = absurd (gates_not_13 form contents b' comes s)
bad_file words old new before now a (ByForm (Run form) b is (Read contents b' have comes)) s =
    let f = bad_contents form contents old b' have.are comes s in
    (form, f.0, is, f.1)

long_file : (words : List (List ℕ)) (old new : Option Told) (before now : ℕ) (a : Answer) → IsCaused words old new before now a → status_of a ≡ 10
    → (form : GatesForm) × (file : List ℕ) × (form_of words ≡ Some (Gates form)) × StopsAtLong true (files_of (Gates form)) file old new
long_file words old new before now a (NoForm none asked) s = absurd (unequal 2 10 refl s)
long_file words old new before now a (ByForm c b is (Unread file at rose)) s = absurd (unequal 9 10 refl s)
long_file words old new before now a (ByForm (Run form) b is (LongFile file at)) s = let q : false ≡ true = at.ends in absurd cc
long_file words old new before now a (ByForm (Gates form) b is (LongFile file at)) s = (form, file, is, at)
long_file words old new before now a (ByForm c b is (Read contents b' have comes)) s = absurd (no_status _ 10 (contents_status c contents b' comes) s refl refl refl)

unread : (words : List (List ℕ)) (old new : Option Told) (before now : ℕ) (a : Answer) → IsCaused words old new before now a → status_of a ≡ 9 → Rose before now
unread words old new before now a (NoForm none asked) s = absurd (unequal 2 9 refl s)
unread words old new before now a (ByForm c b is (Unread file at rose)) s = rose
unread words old new before now a (ByForm c b is (LongFile file at)) s = absurd (unequal 10 9 refl s)
unread words old new before now a (ByForm c b is (Read contents b' have comes)) s = absurd (no_status _ 9 (contents_status c contents b' comes) s refl refl refl)

without_form : (words : List (List ℕ)) (old new : Option Told) (before now : ℕ) (a : Answer) → IsCaused words old new before now a → status_of a ≡ 2 → form_of words ≡ None
without_form words old new before now a (NoForm none asked) s = none
without_form words old new before now a (ByForm c b is follows) s = absurd (follows_none c old new before now b 2 follows s refl refl refl refl refl)

has_usage : (words : List (List ℕ)) (old new : Option Told) (before now : ℕ) (a : Answer) → IsCaused words old new before now a → form_of words ≡ None → status_of a ≡ 2
has_usage words old new before now a (NoForm none asked) e = refl
has_usage words old new before now a (ByForm c b is follows) e = absurd (no_form c _ e is)

comes_told : (words : List (List ℕ)) (c : CommandLine) (t : Told) (new : Option Told) (before now : ℕ) (a : Answer) → IsCaused words (Some t) new before now a → form_of words ≡ Some c → (Rose before now → ⊥) → FilesComeTo c t a
comes_told words c t new before now a (NoForm none asked) f never = absurd (no_form c _ none f)
comes_told words c t new before now a (ByForm d b is follows) f never =
    let same : d ≡ c = same_form d c (sym is ∙ f) in
    subst (λ (x : CommandLine). FilesComeTo x t b) same (follows_told d t new before now b follows never)

-- a call that answered, with the cause of its answer
pub record Caused (k : TopCall) : Type 0 where
  pub answer : Answer
  pub cause : IsCaused k.words k.files k.files_after k.failed_reads k.failed_reads_after answer
  pub ends : EndsWith k answer

caused_told : (k : TopCall) (h : Caused k) (c : CommandLine) (t : Told) → k.files ≡ Some t → IsOf k c → (ReadFailed k → ⊥) → FilesComeTo c t h.answer
caused_told k h c t told is never =
    comes_told k.words c t k.files_after k.failed_reads k.failed_reads_after h.answer
    (subst (λ (o : Option Told). IsCaused k.words o k.files_after k.failed_reads k.failed_reads_after h.answer) told h.cause) is never

is_status : (k : TopCall) (h : Caused k) (want : ℕ) → k.status ≡ want → nat_eq 11 want ≡ false → nat_eq 12 want ≡ false → status_of h.answer ≡ want
is_status k h want r f g = status_is k.status (status_of h.answer) want (text_of h.answer) k.written k.written_after k.failed_puts k.failed_puts_after h.ends r f g

ends_usage : (k : TopCall) (h : Caused k) → form_of k.words ≡ None → (k.status ≡ 2) ⊎ (k.status ≡ 11) ⊎ (k.status ≡ 12)
ends_usage k h e = elim h.ends [
  | Whole s w ↦ inl (s ∙ has_usage k.words _ _ _ _ h.answer h.cause e)
  | PutFailed s w ↦ inr (inl s)
  | NoMemory s w ↦ inr (inr s)
]

pub every_command : (k : TopCall) → Caused k → EveryCommand k
every_command k h = record {
  answered = inr (h.answer, h.cause, h.ends);
  memory = λ r. no_room k.status (status_of h.answer) (text_of h.answer) _ _ _ _ h.ends r (λ s. caused_none _ _ _ _ _ h.answer 12 h.cause s refl refl refl refl refl refl);
  usage = (λ r. without_form k.words _ _ _ _ h.answer h.cause (is_status k h 2 r refl refl), ends_usage k h);
  cannot_read = λ r. unread k.words _ _ _ _ h.answer h.cause (is_status k h 9 r refl refl);
  put_failed = λ r. failed_put k.status (status_of h.answer) (text_of h.answer) _ _ _ _ h.ends r (λ s. caused_none _ _ _ _ _ h.answer 11 h.cause s refl refl refl refl refl refl);
  told = λ c t is form never. inr (h.answer, caused_told k h c t is form never, h.ends);
}

ends_same : (k : TopCall) (a b : Answer) → a ≡ b → EndsWith k a → EndsWith k b
ends_same k a b e h = subst (λ (x : Answer). EndsWith k x) e h

pub of_gates : (k : TopCall) → Caused k → OfGates k
of_gates k h = record {
  no_reading = λ r. faulty k.words _ _ _ _ h.answer h.cause (is_status k h 3 r refl refl);
  too_long = λ r. long_file k.words _ _ _ _ h.answer h.cause (is_status k h 10 r refl refl);
  one_answer = λ form a come. ends_same k h.answer a (gates_outcome form _ h.answer a (caused_told k h (Gates form) come.told come.tells come.form come.good) come.comes) h.ends;
}

accepted_status : (form : RunForm) (t : Told) (contents : List (Option (List ℕ))) (a : Answer) → reading_of false t (files_of (Run form)) ≡ AllRead contents → AllAccepted (run_musts form contents) → FilesComeTo (Run form) t a → status_of a ≡ 0
accepted_status form t contents a e all h = accepted_contents (Run form) contents a all (subst (λ (x : Outcome). OutcomeComesTo (Run form) x a) e h)

ends_accepted : (k : TopCall) (h : Caused k) → status_of h.answer ≡ 0 → (PutsFailed k → ⊥) → (k.status ≡ 0) ⊎ (k.status ≡ 12)
ends_accepted k h e never = elim h.ends [
  | Whole s w ↦ inl (s ∙ e)
  | PutFailed s w ↦ absurd (never w.rose)
  | NoMemory s w ↦ inr s
]

pub of_run : (k : TopCall) → Caused k → OfRun k
of_run k h = record {
  not_built = λ r. bad_file k.words _ _ _ _ h.answer h.cause (is_status k h 13 r refl refl);
  refused = λ form file come. ends_same k h.answer (NotBuilt file) (sym (refused_outcome (Run form) _ file h.answer come.comes (caused_told k h (Run form) come.told come.tells come.form come.good))) h.ends;
  accepted = λ form acc never puts. ends_accepted k h (accepted_status form acc.told acc.contents h.answer acc.read acc.all (caused_told k h (Run form) acc.told acc.tells acc.is_form never)) puts;
}

-- a call that ran out of memory
none_is : (k : TopCall) (want : ℕ) → k.status ≡ 12 → k.status ≡ want → nat_eq 12 want ≡ false → ⊥
none_is k want r s f = unequal 12 want f (sym r ∙ s)

pub no_memory_every : (k : TopCall) → k.status ≡ 12 → Wrote k.written k.written_after [] → EveryCommand k
no_memory_every k r w = record {
  answered = inl r;
  memory = λ s. w;
  usage = (λ s. absurd (none_is k 2 r s refl), λ e. inr (inr r));
  cannot_read = λ s. absurd (none_is k 9 r s refl);
  put_failed = λ s. absurd (none_is k 11 r s refl);
  told = λ c t is form never. inl r;
}

pub no_memory_gates : (k : TopCall) → k.status ≡ 12 → Wrote k.written k.written_after [] → OfGates k
no_memory_gates k r w = record {
  no_reading = λ s. absurd (none_is k 3 r s refl);
  too_long = λ s. absurd (none_is k 10 r s refl);
  one_answer = λ form a come. NoMemory r w;
}

pub no_memory_run : (k : TopCall) → k.status ≡ 12 → Wrote k.written k.written_after [] → OfRun k
no_memory_run k r w = record {
  not_built = λ s. absurd (none_is k 13 r s refl);
  refused = λ form file come. NoMemory r w;
  accepted = λ form acc never puts. inr r;
}

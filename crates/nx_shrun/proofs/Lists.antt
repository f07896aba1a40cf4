-- The list of calls grows with the replies.
use Rattle.std.proofs.Common.{◌≡◌, ℕ, List, [], ◌∷◌, ◌++◌, refl, sym, ap, subst}
use Rattle.nx_base.specs.Calls.{Reply}
use Rattle.nx_shtree.specs.Trees.{At, Command, Background, If, IfElse, While, Until}
use Rattle.nx_shrun.specs.Calls.{Call, exit}
use Rattle.nx_shrun.specs.ShellCalls as s
use Rattle.nx_shrun.specs.ShellCalls.{Shell, Ended, answered, after, call_made, call_of, calls_from, started, shell_calls}
use Rattle.nx_shrun.specs.Laws.{Begins, EndsIn, Grows, OneMore, HasEnded, FirstCallIsGetpid, EmptyScriptsEnd, OneCallForEachReply, EarlierCallsStay, LastIsMade}

ended_after : (value : ℕ) (rs : List Reply) → after (Ended value) rs ≡ Ended value
ended_after value [] = refl
ended_after value (r ∷ rs) = ended_after value rs

first_call : (x : Shell) (rs : List Reply) → (more : List Call) × (calls_from x rs ≡ call_made x ∷ more)
first_call x [] = ([], refl)
first_call (s.At n c b at_zero at_other d) (r ∷ rs) = (calls_from (answered (s.At n c b at_zero at_other d) r) rs, refl)
first_call (Ended value) (r ∷ rs) = ([], refl)

begins_from : (x : Shell) (rs more : List Reply) → Begins (calls_from x rs) (calls_from x (rs ++ more))
begins_from x [] more = first_call x more
begins_from (s.At n c b at_zero at_other d) (r ∷ rs) more = let h = begins_from (answered (s.At n c b at_zero at_other d) r) rs more in (h.0, ap (λ qs. call_of d ∷ qs) h.1)
begins_from (Ended value) (r ∷ rs) more = ([], refl)

ends_after : (q last : Call) (qs : List Call) → EndsIn last qs → EndsIn last (q ∷ qs)
ends_after q last qs h = (q ∷ h.0, ap (λ xs. q ∷ xs) h.1)

grows_after : (q : Call) (a b : List Call) → Grows a b → Grows (q ∷ a) (q ∷ b)
grows_after q _ _ (OneMore a x) = OneMore (q ∷ a) x
grows_after q _ _ (HasEnded a value h) = HasEnded (q ∷ a) value (ends_after q (exit value) a h)

grows_from : (x : Shell) (rs : List Reply) (r : Reply) → Grows (calls_from x rs) (calls_from x (rs ++ r ∷ []))
grows_from (s.At n c b at_zero at_other d) [] r = OneMore (call_of d ∷ []) (call_made (answered (s.At n c b at_zero at_other d) r))
grows_from (Ended value) [] r = HasEnded (exit value ∷ []) value ([], refl)
grows_from (s.At n c b at_zero at_other d) (t ∷ rs) r = grows_after (call_of d) _ _ (grows_from (answered (s.At n c b at_zero at_other d) t) rs r)
grows_from (Ended value) (t ∷ rs) r = HasEnded (exit value ∷ []) value ([], refl)

last_from : (x : Shell) (rs : List Reply) → EndsIn (call_made (after x rs)) (calls_from x rs)
last_from x [] = ([], refl)
last_from (s.At n c b at_zero at_other d) (r ∷ rs) = ends_after (call_of d) _ _ (last_from (answered (s.At n c b at_zero at_other d) r) rs)
last_from (Ended value) (r ∷ rs) = subst (λ y. EndsIn (call_made y) (exit value ∷ [])) (sym (ended_after value rs)) ([], refl)

pub first_is_getpid : FirstCallIsGetpid
unfolding shell_calls
first_is_getpid (At l (Command c)) xs = refl
first_is_getpid (At l (Background c)) xs = refl
first_is_getpid (At l (If c ys)) xs = refl
first_is_getpid (At l (IfElse c ys zs)) xs = refl
first_is_getpid (At l (While c ys)) xs = refl
first_is_getpid (At l (Until c ys)) xs = refl

pub empty_ends : EmptyScriptsEnd
unfolding shell_calls
empty_ends [] = refl
empty_ends (r ∷ rs) = refl

pub script_grows : OneCallForEachReply
unfolding shell_calls
script_grows script rs r = grows_from (started script) rs r

pub script_begins : EarlierCallsStay
unfolding shell_calls
script_begins script rs more = begins_from (started script) rs more

pub script_last : LastIsMade
unfolding shell_calls
script_last script rs = last_from (started script) rs

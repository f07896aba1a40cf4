-- The shell's call is well formed where its code stands.
use Rattle.std.proofs.Common.{◌≡◌, ℕ, Bool, List, [], ◌∷◌, ◌++◌, Option, refl, sym, ap, ◌∙◌, subst}
use Rattle.nx_base.specs.Calls.{Reply}
use Rattle.nx_ksys.specs.State.{KernelState}
use Rattle.nx_shtree.specs.Trees.{Item}
use Rattle.nx_shrun.specs.Calls.{Call, IsWellFormed, getpid}
use Rattle.nx_shrun.specs.ShellCalls.{started, after, call_made}
use Rattle.nx_shrun.specs.Laws.{AllFit, IsShellCall, Goes as OrdinaryCall, Ends as LastCall}
use Rattle.nx_shrun.specs.Systems.{System}
use Rattle.nx_shrun.specs.AbstractRuns.{Threads}
use Rattle.nx_shrun.proofs.Lists.{script_last}
use Rattle.nx_shrun.proofs.WellFormed.{script_formed}
use Rattle.nx_shell.specs.declared.shell.Shell.{Shell}
use Rattle.nx_shell.proofs.Shelled.{made_is}
use Rattle.nx_abstract.specs.Standing.{StandsFor}

end_of : List Call → Call
end_of [] = getpid
end_of (q ∷ []) = q
end_of (q ∷ r ∷ qs) = end_of (r ∷ qs)

ends_in : (front : List Call) (q : Call) → end_of (front ++ q ∷ []) ≡ q
unfolding end_of
ends_in [] q = refl
ends_in (x ∷ []) q = refl
ends_in (x ∷ y ∷ front) q = ends_in (y ∷ front) q

formed_of : (q : Call) → IsShellCall q → IsWellFormed q
formed_of q (OrdinaryCall r o) = o.formed
formed_of q (LastCall value) = record { words = refl; inputs = refl }

call_formed : (script : List Item) (rs : List Reply) → AllFit (started script) rs → IsWellFormed (call_made (after (started script) rs))
call_formed script rs fit =
    let h = script_formed script rs fit in
    let w = script_last script rs in
    let e : h.last ≡ call_made (after (started script) rs) = sym (ends_in h.front h.last) ∙ (ap end_of (sym h.whole ∙ w.1) ∙ ends_in w.0 (call_made (after (started script) rs))) in
    subst IsWellFormed e (formed_of h.last h.at_last)

pub stands_formed : {A B G T : Type 0} (thread_of : A → T) (globals_of : B → G) (script : List Item) (live : ℕ → Bool) (k : KernelState) (own : Shell) (kept : List (Option A)) (globals : List (Option B)) (s : System (Threads G T)) → StandsFor thread_of globals_of script live k own kept globals s → IsWellFormed own.walk.command.call
stands_formed thread_of globals_of script live k own kept globals s h = subst IsWellFormed (sym (made_is own (after (started script) s.said) h.shell)) (call_formed script s.said h.fit)

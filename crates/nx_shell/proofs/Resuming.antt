-- A shell that gets reply after reply.
use Rattle.std.proofs.Common.{◌≡◌, ℕ, zero, suc, ◌+◌, ◌<◌, ◌≤◌, List, [], ◌∷◌, drop, get_or, length, refl, sym, ap, subst, arith}
use Rattle.nx_base.specs.Calls as base
use Rattle.nx_ksys.specs.declared.replies.Reply.{Reply}
use Rattle.nx_ksys.specs.Gathered.{reply_of, replies_of}
use Rattle.nx_shtree.specs.Trees.{Item}
use Rattle.nx_shrun.specs.Calls.{Fits}
use Rattle.nx_shrun.specs.ShellCalls.{Shell, started, answered, after, shell_calls}
use Rattle.nx_shrun.specs.Laws.{AllFit, EndsIn}
use Rattle.nx_shrun.proofs.Lists.{script_last}
use Rattle.nx_shell.specs.declared.shell.Shell as rust_shell
use Rattle.nx_shell.specs.Shells.{IsAt, Answers}
use Rattle.nx_shell.proofs.Shelled.{made_is}

-- With these replies it comes there.
pub record IsGoing (x : rust_shell.Shell) (rs : List base.Reply) (end : Shell) : Type 0 where
  pub place : Shell
  pub at : IsAt x place
  pub fit : AllFit place rs
  pub to : after place rs ≡ end

pub going_first : (x : rust_shell.Shell) (script : List Item) (rs : List base.Reply) → IsAt x (started script) → AllFit (started script) rs → IsGoing x rs (after (started script) rs)
going_first x script rs h k = record { place = started script; at = h; fit = k; to = refl }

left_at : (rs : List Reply) (i : ℕ) (r : Reply) → i < length rs → r ≡ get_or rs i r → drop i (replies_of rs) ≡ reply_of r ∷ drop (i + 1) (replies_of rs)
left_at [] i r l e = absurd (omega (arith, l))
left_at (q ∷ rs) zero r l e = ap (λ x. reply_of x ∷ replies_of rs) (sym e)
left_at (q ∷ rs) (suc i) r l e = let s : suc i + 1 ≡ suc (i + 1) = omega arith in rw s (left_at rs i r (omega (arith, l)) e)

none_left : (rs : List Reply) (i : ℕ) → length rs ≤ i → drop i (replies_of rs) ≡ []
none_left [] zero l = refl
none_left [] (suc i) l = refl
none_left (q ∷ rs) zero l = absurd (omega (arith, l))
none_left (q ∷ rs) (suc i) l = none_left rs i (omega (arith, l))

going_at : (x : rust_shell.Shell) (rs : List Reply) (i : ℕ) (r : Reply) (end : Shell) → i < length rs → r ≡ get_or rs i r → IsGoing x (drop i (replies_of rs)) end → IsGoing x (reply_of r ∷ drop (i + 1) (replies_of rs)) end
going_at x rs i r end l e h = subst (λ qs. IsGoing x qs end) (left_at rs i r l e) h

fits_next : (x : rust_shell.Shell) (r : base.Reply) (rs : List base.Reply) (end : Shell) → IsGoing x (r ∷ rs) end → Fits x.walk.command.call r
fits_next x r rs end h = subst (λ q. Fits q r) (sym (made_is x h.place h.at)) h.fit.0

pub going_fits : (x : rust_shell.Shell) (rs : List Reply) (i : ℕ) (r : Reply) (end : Shell) → i < length rs → r ≡ get_or rs i r → IsGoing x (drop i (replies_of rs)) end → Fits x.walk.command.call (reply_of r)
going_fits x rs i r end l e h = fits_next x (reply_of r) (drop (i + 1) (replies_of rs)) end (going_at x rs i r end l e h)

answered_next : (x y : rust_shell.Shell) (r : base.Reply) (rs : List base.Reply) (end : Shell) → Answers x y r → IsGoing x (r ∷ rs) end → IsGoing y rs end
answered_next x y r rs end on h = record { place = answered h.place r; at = on h.place h.at; fit = h.fit.1; to = h.to }

pub going_next : (x y : rust_shell.Shell) (rs : List Reply) (i : ℕ) (r : Reply) (end : Shell) → i < length rs → r ≡ get_or rs i r → Answers x y (reply_of r) → IsGoing x (drop i (replies_of rs)) end → IsGoing y (drop (i + 1) (replies_of rs)) end
going_next x y rs i r end l e on h = answered_next x y (reply_of r) (drop (i + 1) (replies_of rs)) end on (going_at x rs i r end l e h)

at_end : (x : rust_shell.Shell) (end : Shell) → IsGoing x [] end → IsAt x end
at_end x end h = subst (λ y. IsAt x y) h.to h.at

pub going_last : (x : rust_shell.Shell) (rs : List Reply) (i : ℕ) (end : Shell) → length rs ≤ i → IsGoing x (drop i (replies_of rs)) end → IsAt x end
going_last x rs i end l h = at_end x end (subst (λ qs. IsGoing x qs end) (none_left rs i l) h)

pub last_is : (x : rust_shell.Shell) (script : List Item) (rs : List base.Reply) → IsAt x (after (started script) rs) → EndsIn x.walk.command.call (shell_calls script rs)
last_is x script rs h = subst (λ q. EndsIn q (shell_calls script rs)) (sym (made_is x (after (started script) rs) h)) (script_last script rs)

-- The replies that are left.
use Rattle.std.proofs.Common.{◌≡◌, ℕ, zero, suc, ◌+◌, ◌<◌, ◌≤◌, List, [], ◌∷◌, Some, drop, get_or, length, refl, sym, ap, ◌∙◌, subst, arith}
use Rattle.std.specs.Prelude.{◌≢◌, slice_get}
use Rattle.nx_base.specs.Calls as base
use Rattle.nx_ksys.specs.declared.replies.Reply.{Reply}
use Rattle.nx_ksys.specs.Gathered.{reply_of, replies_of}
use Rattle.nx_shrun.specs.Calls.{Call}
use Rattle.nx_shrun.specs.Systems.{System, Guests, shell_thread, tell, told}
use Rattle.nx_shell.specs.declared.shell.Shell.{Shell}
use Rattle.nx_abstract.specs.Standing.{HasRoom, FitShell, NoneForShell}
use Rattle.nx_abstract.proofs.Replying.{told_more, told_none}

pub reply_at : (rs : List Reply) (i : ℕ) (r : Reply) → i < length rs → r ≡ get_or rs i r → slice_get (replies_of rs) i ≡ Some (reply_of r)
reply_at [] i r l e = absurd (omega (arith, l))
reply_at (q ∷ rs) zero r l e = ap (λ x. Some (reply_of x)) (sym e)
reply_at (q ∷ rs) (suc i) r l e = reply_at rs i r (omega (arith, l)) e

pub left_at : (rs : List Reply) (i : ℕ) (r : Reply) → i < length rs → r ≡ get_or rs i r → drop i (replies_of rs) ≡ reply_of r ∷ drop (i + 1) (replies_of rs)
left_at [] i r l e = absurd (omega (arith, l))
left_at (q ∷ rs) zero r l e = ap (λ x. reply_of x ∷ replies_of rs) (sym e)
left_at (q ∷ rs) (suc i) r l e = let s : suc i + 1 ≡ suc (i + 1) = omega arith in rw s (left_at rs i r (omega (arith, l)) e)

pub none_left : (rs : List Reply) (i : ℕ) → length rs ≤ i → drop i (replies_of rs) ≡ []
none_left [] zero l = refl
none_left [] (suc i) l = refl
none_left (q ∷ rs) zero l = absurd (omega (arith, l))
none_left (q ∷ rs) (suc i) l = none_left rs i (omega (arith, l))

-- None of the replies before a place is for the shell.
abbrev pub NoneBefore : ℕ → List base.Reply → Type 0
NoneBefore k rs = (i : ℕ) (r : base.Reply) → i < k → slice_get rs i ≡ Some r → r.thread ≢ shell_thread

pub before_more : (k : ℕ) (rs : List base.Reply) → NoneBefore (k + 1) rs → NoneBefore k rs
before_more k rs h i r l e = h i r (omega (arith, l)) e

pub none_before : (q : Call) (rs : List base.Reply) (k : ℕ) (r : base.Reply) → FitShell q rs → slice_get rs k ≡ Some r → r.thread ≡ shell_thread → NoneBefore k rs
none_before q rs k r h e t i other l f z = let same : i ≡ k = h.once i k other r f e z t in absurd (omega (arith, l, same))

-- The next reply, where the shell may have got one before it.
pub item_fits : (old new : Shell) (rs : List Reply) (i : ℕ) (r : Reply) → i < length rs → r ≡ get_or rs i r → (NoneBefore i (replies_of rs) → new ≡ old) → FitShell old.walk.command.call (replies_of rs) → r.tid ≡ shell_thread → HasRoom new.walk.command.call (reply_of r)
item_fits old new rs i r l e same fits z =
    let at = reply_at rs i r l e in
    subst (λ (x : Shell). HasRoom x.walk.command.call (reply_of r)) (sym (same (none_before old.walk.command.call (replies_of rs) i (reply_of r) fits at z))) (fits.room i (reply_of r) at z)

pub item_same : (old mid new : Shell) (rs : List Reply) (i : ℕ) (r : Reply) → i < length rs → r ≡ get_or rs i r → (NoneBefore i (replies_of rs) → mid ≡ old) → (r.tid ≢ shell_thread → new ≡ mid) → NoneBefore (i + 1) (replies_of rs) → new ≡ old
item_same old mid new rs i r l e same other h = other (h i (reply_of r) (omega arith) (reply_at rs i r l e)) ∙ same (before_more i (replies_of rs) h)

pub told_left : {M : Type 0} (o : Guests M) (x s : System M) (rs : List Reply) (i : ℕ) (r : Reply) → i < length rs → r ≡ get_or rs i r → told o x (drop i (replies_of rs)) ≡ told o s (replies_of rs) → told o (tell o x (reply_of r)) (drop (i + 1) (replies_of rs)) ≡ told o s (replies_of rs)
told_left o x s rs i r l e h = sym (told_more o x (reply_of r) (drop (i + 1) (replies_of rs))) ∙ (sym (ap (λ qs. told o x qs) (left_at rs i r l e)) ∙ h)

pub told_all : {M : Type 0} (o : Guests M) (x s : System M) (rs : List Reply) (i : ℕ) → length rs ≤ i → told o x (drop i (replies_of rs)) ≡ told o s (replies_of rs) → x ≡ told o s (replies_of rs)
told_all o x s rs i l h = sym (told_none o x) ∙ (sym (ap (λ qs. told o x qs) (none_left rs i l)) ∙ h)

pub none_at_all : (rs : List Reply) (i : ℕ) → NoneForShell (replies_of rs) → NoneBefore i (replies_of rs)
none_at_all rs i h j r l e = h j r e

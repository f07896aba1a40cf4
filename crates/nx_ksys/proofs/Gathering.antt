-- Replies that come after others.
use Rattle.std.proofs.Common.{◌≡◌, ℕ, ◌+◌, ◌<◌, ◌^◌, ℤ, pos, negsuc, List, [], ◌∷◌, ◌++◌, refl, subst, ap, ◌∙◌, length, w32, to_z, of_z}
use Rattle.std.proofs.lemmas.List.{map-append, length-append}
use Rattle.std.proofs.lemmas.Int.{to_z_pos}
use Rattle.nx_base.specs.ErrorNumbers.{number_of}
use Rattle.nx_base.specs.declared.errno.Errno.{Errno}
use Rattle.nx_base.specs.declared.errno.Errno.TheVariants as errno
use Rattle.nx_ksys.specs.declared.replies.Reply.{Reply}
use Rattle.nx_ksys.specs.Telling.{reply, failure}
use Rattle.nx_ksys.specs.Gathered.{Gathered, reply_of, replies_of}

abbrev pub answer : ℕ → ℤ → ℤ → List ℕ → List ℕ → Reply
answer tid value number first second = record { tid = tid; value = value; errno = number; first = first; second = second }

one_told : (before after : Gathered) (r : Reply) → after ≡ record before { replies = before.replies ++ r ∷ [] } → replies_of after.replies ≡ replies_of before.replies ++ reply_of r ∷ []
one_told before after r e = ap (λ (g : Gathered). replies_of g.replies) e ∙ map-append reply_of before.replies (r ∷ [])

pub one_longer : (before after : Gathered) (r : Reply) → after ≡ record before { replies = before.replies ++ r ∷ [] } → length after.replies ≡ length before.replies + 1
one_longer before after r e = ap (λ (g : Gathered). length g.replies) e ∙ length-append before.replies (r ∷ [])

-- a value of 31 bits
pub value_told : (before after : Gathered) (tid value : ℕ) (first second : List ℕ) → value < 2 ^ 31 → after ≡ record before { replies = before.replies ++ answer tid (to_z w32 value) (pos 0) first second ∷ [] }
    → replies_of after.replies ≡ replies_of before.replies ++ reply tid value (first ∷ second ∷ []) ∷ []
value_told before after tid value first second lt e =
    one_told before after (answer tid (pos value) (pos 0) first second)
    (subst (λ z. after ≡ record before { replies = before.replies ++ answer tid z (pos 0) first second ∷ [] }) (to_z_pos w32 value lt) e)

number_fits : (e : Errno) → to_z w32 (of_z w32 (number_of e)) ≡ number_of e
number_fits errno.Enoent = refl
number_fits errno.Ebadf = refl
number_fits errno.Echild = refl
number_fits errno.Eagain = refl
number_fits errno.Enomem = refl
number_fits errno.Efault = refl
number_fits errno.Eexist = refl
number_fits errno.Enotdir = refl
number_fits errno.Eisdir = refl
number_fits errno.Einval = refl
number_fits errno.Emfile = refl
number_fits errno.Efbig = refl
number_fits errno.Enospc = refl
number_fits errno.Enosys = refl
number_fits errno.Enotempty = refl
number_fits errno.Emsgsize = refl
number_fits errno.Etimedout = refl

pub error_told : (before after : Gathered) (tid : ℕ) (e : Errno) (n : ℤ) → n ≡ number_of e → after ≡ record before { replies = before.replies ++ answer tid (negsuc 0) (to_z w32 (of_z w32 n)) [] [] ∷ [] }
    → replies_of after.replies ≡ replies_of before.replies ++ failure tid e ∷ []
error_told before after tid e n is h =
    one_told before after (answer tid (negsuc 0) (number_of e) [] [])
    (subst (λ z. after ≡ record before { replies = before.replies ++ answer tid (negsuc 0) z [] [] ∷ [] }) (ap (λ m. to_z w32 (of_z w32 m)) is ∙ number_fits e) h)

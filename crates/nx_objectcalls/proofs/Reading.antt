-- How many bytes a read gives.
use Rattle.std.proofs.Common.{◌≡◌, ℕ, ◌+◌, ◌<◌, ◌≤◌, List, [], ◌∷◌, length, take, drop, refl, ap, arith}
use Rattle.std.specs.Prelude.{Option, Some, None}
use Rattle.std.proofs.lemmas.List.{length-take, length-drop}
use Rattle.nx_base.specs.Calls.{Reply}
use Rattle.nx_base.specs.declared.errno.Errno.TheVariants.{Ebadf}
use Rattle.nx_ksys.specs.Telling.{error_number}
use Rattle.nx_ksys.specs.declared.node.Open.{Open}
use Rattle.nx_ksys.specs.State.{KernelState}
use Rattle.nx_ksys.specs.Answers.{Stepped, Caller, replied}
use Rattle.nx_ksys.specs.FileCalls.{read_file, with_open, longest_file}
use Rattle.nx_fs.specs.Rows.{opened_at}

abbrev value_in : List Reply → ℕ
value_in [] = 0
value_in (r ∷ rs) = r.value

abbrev errno_in : List Reply → ℕ
errno_in [] = 0
errno_in (r ∷ rs) = r.errno

nine_zero : error_number Ebadf ≡ 0 → ⊥
nine_zero e = cc

-- no more than there is room for, and up to the longest file's end at most
pub record IsCount (room offset count : ℕ) : Type 0 where
  pub within : count ≤ room
  pub below : (n : ℕ) → offset < n → longest_file < n → offset + count < n

count_by : (room offset count : ℕ) (content : List ℕ) → length content ≤ longest_file → length (take room (drop offset content)) ≡ count → IsCount room offset count
count_by room offset count content le e =
    let t = length-take room (drop offset content) in
    let d = length-drop offset content in
    record { within = omega (arith, t, d, e); below = λ n p q. omega (arith, t, d, e, p, q, le) }

pub counted : (k : KernelState) (c : Caller) (at room count : ℕ) (o : Open) (content : Option (List ℕ)) (bytes : List ℕ) → ((xs : List ℕ) → content ≡ Some xs → length xs ≤ longest_file)
    → read_file k c (opened_at at o) room content ≡ replied (with_open k at (record o { offset = o.offset + count })) c count (bytes ∷ []) → IsCount room o.offset count
counted k c at room count o None bytes short e = absurd (nine_zero (ap (λ (s : Stepped). errno_in s.replies) e))
counted k c at room count o (Some xs) bytes short e = count_by room o.offset count xs (short xs refl) (ap (λ (s : Stepped). value_in s.replies) e)

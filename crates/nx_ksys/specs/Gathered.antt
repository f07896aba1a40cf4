-- Replies as the code keeps them, and the replies that they stand for.
use Rattle.std.specs.Prelude.{ℕ, ℤ, pos, negsuc, ◌+◌, ◌-◌, ◌^◌, nat_abs, List, [], ◌∷◌, map}
use Rattle.nx_base.specs.Calls as calls
use Rattle.nx_ksys.specs.declared.replies.Reply.{Reply}

-- replies in their order, and how many there may be
pub record Gathered : Type 0 where
  pub replies : List Reply
  pub room : ℕ

-- a number of 32 bits with sign as a word
abbrev pub word_of : ℤ → ℕ
word_of (pos n) = n
word_of (negsuc n) = 2 ^ 32 - (n + 1)

abbrev pub reply_of : Reply → calls.Reply
reply_of r = record { thread = r.tid; value = word_of r.value; errno = nat_abs r.errno; outputs = r.first ∷ r.second ∷ [] }

abbrev pub replies_of : List Reply → List calls.Reply
replies_of rs = map reply_of rs

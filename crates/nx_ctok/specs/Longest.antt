-- The longest match (C11 6.4, paragraph 4): the next token is the longest sequence of bytes that spells one.
use Rattle.std.specs.Prelude.{ℕ, zero, suc, Bool, List, length, take, drop, Option, is_some, if◌then◌else◌}
use Rattle.std.specs.Option.{option_map}
use Rattle.nx_ctok.specs.declared.token.Word.{Word}
use Rattle.nx_ctok.specs.Spellings.{kind_of}

-- The greatest number up to n that passes a test, or 0.
unfoldable pub greatest : (ℕ → Bool) → ℕ → ℕ
greatest test zero = zero
greatest test (suc n) = if test (suc n) then suc n else greatest test n

-- How many bytes the longest token at the start has.
unfoldable pub longest : List ℕ → ℕ
longest bytes = greatest (λ n. is_some (kind_of (take n bytes))) (length bytes)

-- The longest token at the start, if there is one.
unfoldable pub word_at : List ℕ → Option Word
word_at bytes = option_map (λ k. record { kind = k; text = take (longest bytes) bytes; rest = drop (longest bytes) bytes }) (kind_of (take (longest bytes) bytes))

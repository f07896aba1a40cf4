-- The first bytes of a list, at most as many as there are.
use Rattle.std.proofs.Common.{◌≡◌, ℕ, List, length, take, min, sym}
use Rattle.std.proofs.lemmas.List.{length-take, take_min}

pub taken_least : (n : ℕ) (xs : List ℕ) → take (min n (length xs)) xs ≡ take n xs
taken_least n xs = take_min n xs

pub taken_length : (n : ℕ) (xs : List ℕ) → min n (length xs) ≡ length (take n xs)
taken_length n xs = sym (length-take n xs)

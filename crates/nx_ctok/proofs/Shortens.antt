-- What stands after a comment or a blank is less.
use Rattle.std.proofs.Common.{◌≡◌, ℕ, suc, ◌<◌, ◌≤◌, ◌==◌, ◌&&◌, Bool, true, false, List, [], ◌∷◌, length, ap, arith}
use Rattle.std.specs.Prelude.{Option, None, Some, if◌then◌else◌}
use Rattle.nx_base.specs.TextBytes.{is_line_blank}
use Rattle.nx_ctok.specs.Spellings.{is_source_byte}
use Rattle.nx_ctok.specs.Comments.{newlines, after_close, from_newline, Comment, Absent, Open, Closed, block, comment_at, on_its_line, after_one_blank, after_either, after_one_ignored}
use Rattle.nx_ctok.proofs.Steps.{Shortens}

-- What is left where something is, is no more than this.
abbrev pub AtMost : ℕ → Option (List ℕ) → Type 0
AtMost n None = Unit {0}
AtMost n (Some rest) = length rest ≤ n

more : (n m : ℕ) (o : Option (List ℕ)) → n ≤ m → AtMost n o → AtMost m o
more n m None l h = tt
more n m (Some rest) l h = omega arith

close_less : (bs : List ℕ) → AtMost (length bs) (after_close bs)
unfolding after_close
close_less [] = tt
close_less (a ∷ []) = tt
close_less (a ∷ b ∷ bs) = by (a == 42 && b == 47) (close_less (b ∷ bs))
  where
    by : (t : Bool) → AtMost (suc (length bs)) (after_close (b ∷ bs)) → AtMost (suc (suc (length bs))) (if t then Some bs else after_close (b ∷ bs))
    by true h = omega arith
    by false h = more (suc (length bs)) (suc (suc (length bs))) (after_close (b ∷ bs)) (omega arith) h

line_less : (bs : List ℕ) → length (from_newline bs) ≤ length bs
unfolding from_newline
line_less [] = omega arith
line_less (b ∷ bs) = by (b == 10) (line_less bs)
  where
    by : (t : Bool) → length (from_newline bs) ≤ length bs → length (if t then b ∷ bs else from_newline bs) ≤ suc (length bs)
    by true h = omega arith
    by false h = omega arith

-- What is left after a comment.
abbrev pub After : ℕ → Comment → Type 0
After n Absent = Unit {0}
After n Open = Unit {0}
After n (Closed rest) = length rest < n

block_less : (n m : ℕ) (o : Option (List ℕ)) → n < m → AtMost n o → After m (block o)
block_less n m None l h = tt
block_less n m (Some rest) l h = omega arith

comment_less : (bytes : List ℕ) → After (length bytes) (comment_at bytes)
comment_less [] = tt
comment_less (a ∷ []) = tt
comment_less (a ∷ b ∷ bs) = by (a == 47 && b == 42)
  where
    line : (t : Bool) → After (suc (suc (length bs))) (if t then Closed (from_newline bs) else Absent)
    line true = omega (arith, line_less bs)
    line false = tt

    by : (t : Bool) → After (suc (suc (length bs))) (if t then block (after_close bs) else if a == 47 && b == 47 then Closed (from_newline bs) else Absent)
    by true = block_less (length bs) (suc (suc (length bs))) (after_close bs) (omega arith) (close_less bs)
    by false = line (a == 47 && b == 47)

on_line_less : (bytes : List ℕ) (c : Comment) → After (length bytes) c → (rest : List ℕ) → on_its_line bytes c ≡ Some rest → length rest < length bytes
on_line_less bytes Absent h rest e = cc
on_line_less bytes Open h rest e = cc
on_line_less bytes (Closed r) h rest e = by (newlines r == newlines bytes) e
  where
    by : (t : Bool) → (if t then Some r else None) ≡ Some rest → length rest < length bytes
    by true e = let s : r ≡ rest = cc in omega (arith, ap length s)
    by false e = cc

pub blank_shortens : Shortens after_one_blank
blank_shortens = record { on = λ bytes rest e. on bytes rest e }
  where
    on : (bytes rest : List ℕ) → after_one_blank bytes ≡ Some rest → length rest < length bytes
    on [] rest e = cc
    on (b ∷ bs) rest e = by (is_line_blank b) e
      where
        by : (t : Bool) → (if t then Some bs else on_its_line (b ∷ bs) (comment_at (b ∷ bs))) ≡ Some rest → length rest < suc (length bs)
        by true e = let s : bs ≡ rest = cc in omega (arith, ap length s)
        by false e = on_line_less (b ∷ bs) (comment_at (b ∷ bs)) (comment_less (b ∷ bs)) rest e

pub ignored_shortens : Shortens after_one_ignored
ignored_shortens = record { on = λ bytes rest e. on bytes rest e }
  where
    either : (b : ℕ) (bs : List ℕ) (c : Comment) → After (suc (length bs)) c → (rest : List ℕ) → after_either b bs c ≡ Some rest → length rest < suc (length bs)
    either b bs Absent h rest e = by (is_source_byte b) e
      where
        by : (t : Bool) → (if t then Some bs else None) ≡ Some rest → length rest < suc (length bs)
        by true e = let s : bs ≡ rest = cc in omega (arith, ap length s)
        by false e = cc
    either b bs Open h rest e = cc
    either b bs (Closed r) h rest e = on_line_less (b ∷ bs) (Closed r) h rest e

    on : (bytes rest : List ℕ) → after_one_ignored bytes ≡ Some rest → length rest < length bytes
    on [] rest e = cc
    on (b ∷ bs) rest e = either b bs (comment_at (b ∷ bs)) (comment_less (b ∷ bs)) rest e

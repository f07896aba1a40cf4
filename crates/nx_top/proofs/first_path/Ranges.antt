-- Each instruction of a program is in range, and addresses add up. nx_codegen will take its place.
use Rattle.std.proofs.Common.{◌≡◌, ℕ, ◌+◌, ◌-◌, ◌*◌, ◌%◌, ◌^◌, ◌<◌, ◌≤◌, List, [], ◌∷◌, length, refl, sym, subst, arith, ⊎_elim, w32}
use Rattle.std.specs.Prelude.{All, ℤ, pos, negsuc, ◌-ℤ◌}
use Rattle.std.specs.Int.{cast_unsigned}
use Rattle.std.proofs.lemmas.Bool.{cases_lt}
use Rattle.std.proofs.lemmas.Int.{ints}
use Rattle.std.proofs.lemmas.List.Elements.{All-append, All-cons, All-nil}
use Rattle.nx_rv.specs.declared.inst.Inst.{Inst}
use Rattle.nx_rv.specs.declared.inst.Inst.TheVariants.{Jalr}
use Rattle.nx_rv.specs.Formats.{IsWithin}
use Rattle.nx_rv.specs.Table.{IsInRange}
use Rattle.nx_rv.specs.Execution.{plus}
use Rattle.nx_top.specs.first.Program.{Program}
use Rattle.nx_gate.specs.Proxies.{proxy_of}
use Rattle.nx_top.specs.first.Compiled.{addi, stub, write_proxy, proxies, proxy_at, main_at, literals_at, upper, lower, write_code, writes_code, main_code, insts_of}
use Rattle.nx_top.specs.first.IsCompiled.{FitsText}
use Rattle.nx_top.proofs.first_path.Sizes.{shorter, main_small, literals_small}

-- the difference of two places
difference_up : (a b : ℕ) → b ≤ a → pos a -ℤ pos b ≡ pos (a - b)
difference_up a b h = omega (arith, ints)

difference_down : (a b : ℕ) → a < b → pos a -ℤ pos b ≡ negsuc (b - a - 1)
difference_down a b h = omega (arith, ints)

-- what holds of a difference, from its two cases
of_difference : (P : ℤ → Type 0) (a b : ℕ) → (b ≤ a → P (pos (a - b))) → (a < b → P (negsuc (b - a - 1))) → P (pos a -ℤ pos b)
of_difference P a b up down =
    ⊎_elim
    (λ l. subst P (sym (difference_down a b l)) (down l))
    (λ l. subst P (sym (difference_up a b l)) (up l))
    (cases_lt a b)

pub difference_within : (half a b : ℕ) → a < b + half → b ≤ a + half → IsWithin half (pos a -ℤ pos b)
difference_within half a b h l = of_difference (IsWithin half) a b (λ q. omega arith) (λ q. omega arith)

pub plus_difference : (n a b : ℕ) → n ≡ b → a < 2 ^ 32 → b < 2 ^ 32 → plus n (pos a -ℤ pos b) ≡ a
unfolding plus
plus_difference n a b e h l = of_difference (λ z. (n + cast_unsigned w32 z) % 2 ^ 32 ≡ a) a b (λ q. omega arith) (λ q. omega arith)

pub even_difference : (a b : ℕ) → a % 2 ≡ 0 → b % 2 ≡ 0 → a < 2 ^ 32 → b < 2 ^ 32 → cast_unsigned w32 (pos a -ℤ pos b) % 2 ≡ 0
even_difference a b e f h l = of_difference (λ z. cast_unsigned w32 z % 2 ≡ 0) a b (λ q. omega arith) (λ q. omega arith)

pub upper_near : (at : ℕ) → (upper at ≤ at + 2048) × (at < upper at + 2048) × (upper at % 4096 ≡ 0)
unfolding upper
upper_near at = (omega arith, omega arith, omega arith)

pub lower_within : (at : ℕ) → IsWithin 2048 (lower at)
unfolding lower
lower_within at = let n = upper_near at in difference_within 2048 at (upper at) n.1 n.0

-- LUI and ADDI together hold an address
pub halves : (at : ℕ) → at < 0xC0000000 → plus (upper at) (lower at) ≡ at
unfolding lower
halves at h = let n = upper_near at in plus_difference (upper at) at (upper at) refl (omega arith) (omega arith)

pub to_proxy : (here : ℕ) → here + 16 < 2 ^ 32 → plus (here + 16) (pos proxy_at -ℤ pos (here + 16)) ≡ proxy_at
to_proxy here h = plus_difference (here + 16) proxy_at (here + 16) refl (omega arith) h

-- each of these instructions is in range
abbrev AreInRange : List Inst → Type 0
AreInRange [] = Unit {0}
AreInRange (i ∷ is) = IsInRange i × AreInRange is

all_in_range : (is : List Inst) → AreInRange is → All IsInRange is
all_in_range [] h = All-nil IsInRange
all_in_range (i ∷ is) h = All-cons IsInRange i is h.0 (all_in_range is h.1)

stub_in_range : (number : ℕ) → number < 2048 → All IsInRange (stub number)
unfolding stub
stub_in_range number h = all_in_range (stub number) ((omega arith, omega arith, omega arith), ((omega arith, omega arith, h), (tt, tt)))

proxy_in_range : All IsInRange write_proxy
unfolding write_proxy proxy_of
proxy_in_range = all_in_range write_proxy (
  (omega arith, omega arith, omega arith),
  (
    (omega arith, omega arith, omega arith),
    (
      (omega arith, omega arith, omega arith),
      ((omega arith, omega arith, omega arith), (tt, ((omega arith, omega arith, omega arith), tt))),
    ),
  ),
)

pub proxies_in_range : (strings : List (List ℕ)) → All IsInRange (proxies strings)
unfolding proxies
proxies_in_range [] = All-nil IsInRange
proxies_in_range (s ∷ strings) = proxy_in_range

pub write_in_range : (here literal count : ℕ) → here % 4 ≡ 0 → proxy_at ≤ here → here ≤ proxy_at + 1000000 → literal < 0xC0000000 → count ≤ 255 → All IsInRange (write_code here literal count)
unfolding write_code
write_in_range here literal count a b c d e =
    let n = upper_near literal in
    all_in_range (write_code here literal count) (
      (omega arith, omega arith, omega arith),
      (
        (omega arith, omega arith, n.2),
        (
          (omega arith, omega arith, lower_within literal),
          (
            (omega arith, omega arith, omega arith),
            ((omega arith, difference_within 1048576 proxy_at (here + 16) (omega arith) (omega arith), even_difference proxy_at (here + 16) (omega arith) (omega arith) (omega arith) (omega arith)), tt),
          ),
        ),
      ),
    )

pub writes_in_range : (here literal : ℕ) (strings : List (List ℕ)) → here % 4 ≡ 0 → proxy_at ≤ here → here + 20 * length strings ≤ proxy_at + 1000000 → literal + 256 * length strings < 0xC0000000 → All (λ s. length s ≤ 255) strings → All IsInRange (writes_code here literal strings)
unfolding writes_code
writes_in_range here literal [] a b c d h = All-nil IsInRange
writes_in_range here literal (s ∷ strings) a b c d h =
    let t = shorter s strings h in
    let short = t.0 in
    All-append IsInRange _ _
    (write_in_range here literal (length s) a b (omega arith) (omega arith) t.0)
    (writes_in_range (here + 20) (literal + length s + 1) strings (omega arith) (omega arith) (omega arith) (omega arith) t.1)

pub main_in_range : (p : Program) → FitsText p → All IsInRange (main_code p)
unfolding main_code
main_in_range p f =
    let m = main_small p in
    let l = literals_small p f in
    let few = f.few in
    let status = f.status in
    All-append IsInRange (addi 8 1 (pos 0) ∷ []) _ (all_in_range (addi 8 1 (pos 0) ∷ []) ((omega arith, omega arith, omega arith), tt))
    (All-append IsInRange _ _ (writes_in_range (main_at p + 4) (literals_at p) p.writes (omega arith) (omega arith) (omega arith) (omega arith) f.short)
    (all_in_range (addi 10 0 (pos p.status) ∷ Jalr 0 8 (pos 0) ∷ []) ((omega arith, omega arith, omega arith), ((omega arith, omega arith, omega arith), tt))))

pub insts_in_range : (p : Program) → FitsText p → All IsInRange (insts_of p)
unfolding insts_of
insts_in_range p f =
    All-append IsInRange _ _
    (All-append IsInRange _ _ (All-append IsInRange _ _ (stub_in_range 1 (omega arith)) (stub_in_range 2 (omega arith))) (proxies_in_range p.writes))
    (main_in_range p f)

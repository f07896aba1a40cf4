-- The parts of a booted RAM. nx_codegen will take its place.
use Rattle.std.proofs.Common.{◌≡◌, ℕ, zero, suc, ◌+◌, ◌-◌, ◌<◌, ◌≤◌, List, ◌∷◌, ◌++◌, length, take, drop, refl, sym, ap, ◌∙◌, arith, append_assoc}
use Rattle.std.specs.Prelude.{slice_index}
use Rattle.std.proofs.lemmas.List.{drop_more, drop-drop, take-append-drop, length-take}
use Rattle.nx_base.specs.ByteLists.{get_bytes}
use Rattle.nx_ram.specs.declared.prog_image.ProgImage.{ProgImage}
use Rattle.nx_top.specs.first.Layout.{ram_start, ram_bytes}
use Rattle.nx_top.specs.first.BootedRuns.{IsBooted}

-- bytes from a place on are a part of the list
pub get_bytes_is : (bs : List ℕ) (at n : ℕ) → at + n ≤ length bs → get_bytes bs at n ≡ take n (drop at bs)
unfolding get_bytes
get_bytes_is bs at zero h = refl
get_bytes_is bs at (suc n) h =
    let lt : at < length bs = omega arith in
    ap (λ l. slice_index bs at ∷ l) (get_bytes_is bs (at + 1) n (omega arith)) ∙ sym (ap (take (suc n)) (drop_more bs at 0 lt))

-- a RAM with a text between other bytes
pub record Parted (image : ProgImage) (ram : List ℕ) : Type 0 where
  pub before : List ℕ
  pub after : List ℕ
  pub ram_is : ram ≡ before ++ image.text ++ after
  pub text_there : ram_start + length before ≡ image.text_at
  pub whole : length ram ≡ ram_bytes

split : (bs : List ℕ) (k n : ℕ) → bs ≡ take k bs ++ take n (drop k bs) ++ drop (k + n) bs
split bs k n =
    let inner : take n (drop k bs) ++ drop (k + n) bs ≡ drop k bs = ap (λ l. take n (drop k bs) ++ l) (sym (drop-drop n k bs)) ∙ take-append-drop n (drop k bs) in
    sym (append_assoc (take k bs) (take n (drop k bs)) (drop (k + n) bs) ∙ ap (λ l. take k bs ++ l) inner ∙ take-append-drop k bs)

-- a booted RAM has these parts
pub parted : (image : ProgImage) (ram : List ℕ) → IsBooted image ram → Parted image ram
parted image ram b =
    let k = image.text_at - ram_start in
    let n = length image.text in
    let t : take n (drop k ram) ≡ image.text = sym (get_bytes_is ram k n b.to) ∙ b.text in
    record {
      before = take k ram;
      after = drop (k + n) ram;
      ram_is = split ram k n ∙ ap (λ l. take k ram ++ l ++ drop (k + n) ram) t;
      text_there = omega (arith, length-take k ram, b.from, b.to);
      whole = b.whole;
    }

-- A RAM of zeros with a text put in its place is booted, and stays so when a stack is set to zeros. nx_load will take its place.
use Rattle.std.proofs.Common.{◌≡◌, ℕ, zero, suc, ◌+◌, ◌-◌, ◌≤◌, ◌⊎◌, List, length, replicate, sym, ap, ◌∙◌, arith, ⊎_elim, inl, inr}
use Rattle.std.specs.Prelude.{slice_index, slice_set}
use Rattle.std.proofs.lemmas.Bool.{cases_eq, cases_lt}
use Rattle.std.proofs.lemmas.List.{length-replicate, get_or-replicate, get_or_past, get_or-set_same, get_or-set_other, length-set}
use Rattle.nx_base.specs.ByteLists.{get_bytes, put_bytes}
use Rattle.nx_base.proofs.Puts.{put_bytes-none, put_bytes-more, length-put_bytes, get-put_bytes_other, get_bytes-put_bytes, get_bytes-put_bytes_other}
use Rattle.nx_ram.specs.declared.prog_image.ProgImage.{ProgImage}
use Rattle.nx_top.specs.first.Layout.{ram_start, ram_bytes}
use Rattle.nx_top.specs.first.BootedRuns.{IsBooted}

-- each byte of zeros is 0, and so is what is read after them
zero_byte : (n i : ℕ) → slice_index (replicate n 0) i ≡ 0
zero_byte n i =
    let l = length-replicate {A = ℕ} n 0 in
    ⊎_elim (λ h. get_or-replicate n i 0 0 h) (λ h. get_or_past (replicate n 0) i 0 (omega (arith, l, h))) (cases_lt i n)

-- a RAM of zeros with the text put in its place is booted
pub booted_put : (image : ProgImage) (size k : ℕ) → ram_start ≤ image.text_at → k ≡ image.text_at - ram_start → k + length image.text ≤ size → size ≡ ram_bytes → IsBooted image (put_bytes (replicate size 0) k image.text)
booted_put image size k low e fits whole =
    let l = length-replicate {A = ℕ} size 0 in
    let inside : k + length image.text ≤ length (replicate {A = ℕ} size 0) = omega (arith, l, fits) in
    let m = length-put_bytes (replicate {A = ℕ} size 0) k image.text inside in
    record {
      whole = m ∙ l ∙ whole;
      from = low;
      to = omega (arith, l, m, e, fits);
      text = ap (λ j. get_bytes (put_bytes (replicate size 0) k image.text) j (length image.text)) (sym e) ∙ get_bytes-put_bytes (replicate size 0) k image.text inside;
      zeros = λ i out.
          get-put_bytes_other (replicate size 0) k image.text i inside (⊎_elim (λ h. inl (omega (arith, e, h))) (λ h. inr (omega (arith, e, h))) out)
          ∙ zero_byte size i;
    }

-- a byte that is 0 stays 0 when zeros are put anywhere
stays_zero : (n : ℕ) (bs : List ℕ) (at i : ℕ) → at + n ≤ length bs → slice_index bs i ≡ 0 → slice_index (put_bytes bs at (replicate n 0)) i ≡ 0
stays_zero zero bs at i fits h = ap (λ l. slice_index l i) (put_bytes-none bs at) ∙ h
stays_zero (suc n) bs at i fits h =
    let l = length-set bs at 0 in
    let one : slice_index (slice_set bs at 0) i ≡ 0 =
    ⊎_elim (λ e. ap (slice_index (slice_set bs at 0)) e ∙ get_or-set_same bs at 0 0 (omega arith)) (λ ne. get_or-set_other bs at i 0 0 (λ e. ne (omega arith)) ∙ h) (cases_eq i at) in
    ap (λ bytes. slice_index bytes i) (put_bytes-more bs at 0 (replicate n 0) (omega arith)) ∙ stays_zero n (slice_set bs at 0) (at + 1) i (omega (arith, l)) one

-- zeros put beside the text leave a RAM booted
pub booted_zeroed : (image : ProgImage) (ram : List ℕ) → IsBooted image ram → (at n : ℕ) → at + n ≤ length ram → (at + n ≤ image.text_at - ram_start) ⊎ (image.text_at - ram_start + length image.text ≤ at) → IsBooted image (put_bytes ram at (replicate n 0))
booted_zeroed image ram b at n fits apart =
    let k = image.text_at - ram_start in
    let l = length-replicate {A = ℕ} n 0 in
    let inside : at + length (replicate {A = ℕ} n 0) ≤ length ram = omega (arith, l, fits) in
    let m = length-put_bytes ram at (replicate {A = ℕ} n 0) inside in
    record {
      whole = m ∙ b.whole;
      from = b.from;
      to = omega (arith, m, b.to);
      text = get_bytes-put_bytes_other ram at (replicate n 0) k (length image.text) inside (⊎_elim (λ h. inr (omega (arith, l, h))) (λ h. inl h) apart) ∙ b.text;
      zeros = λ i out. stays_zero n ram at i fits (b.zeros i out);
    }

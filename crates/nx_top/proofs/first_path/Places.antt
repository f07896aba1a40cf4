-- Where instructions and strings stand in a text and in the RAM. nx_link will take its place.
use Rattle.std.proofs.Common.{◌≡◌, ℕ, suc, ◌+◌, ◌-◌, ◌*◌, ◌%◌, ◌^◌, ◌<◌, ◌≤◌, true, false, List, [], ◌∷◌, ◌++◌, length, replicate, Ok, refl, sym, ap, ◌∙◌, subst, arith, append_assoc}
use Rattle.std.specs.Prelude.{All}
use Rattle.std.proofs.lemmas.List.{length-append}
use Rattle.std.proofs.lemmas.Bool.Decides.{nat_tests}
use Rattle.nx_base.specs.ByteLists.{get_bytes, from_le, to_le}
use Rattle.nx_base.specs.Views.{Window, holds, find_bytes, fetch_word}
use Rattle.nx_base.proofs.ByteLemmas.{length-to_le, from_le-to_le_word, get_bytes-between}
use Rattle.nx_rv.specs.declared.inst.Inst.{Inst}
use Rattle.nx_rv.specs.Table.{encode_of, IsInRange}
use Rattle.nx_rv.proofs.Rows.{encode_small}
use Rattle.nx_rv.proofs.Turns.{IsHere, AreHere}
use Rattle.nx_ram.specs.declared.prog_image.ProgImage.{ProgImage}
use Rattle.nx_top.specs.first.Layout.{ram_start, text_start}
use Rattle.nx_top.specs.first.Program.{Program}
use Rattle.nx_top.specs.first.Compiled.{stub, proxies, main_code, insts_of, code_bytes, literals, padded, text_of, places_from}
use Rattle.nx_top.specs.first.BootedRuns.{flat_view, IsBooted, StandsAt, StandAt, HasCode}
use Rattle.nx_top.specs.first.IsCompiled.{IsCompiled}
use Rattle.nx_top.proofs.first_path.Sizes.{code_bytes-append, length-code_bytes}
use Rattle.nx_top.proofs.first_path.Parts.{parted}

-- a word of the RAM
fetch_flat : (ram : List ℕ) (at k : ℕ) → at ≡ ram_start + k → k + 4 ≤ length ram → fetch_word (flat_view ram) at ≡ Ok (from_le (get_bytes ram k 4))
unfolding fetch_word find_bytes holds
fetch_flat ram at k e h =
    let window : Window = record { start = ram_start; reads = true; writes = true; runs = true; region = false; bytes = ram } in
    let there : holds window at 4 ≡ true = grind (arith, nat_tests) in
    let q : at - ram_start ≡ k = omega arith in
    rw there (ap (λ n. Ok (from_le (get_bytes ram n 4))) q)

fetch_between : (front back : List ℕ) (at word : ℕ) → at ≡ ram_start + length front → word < 2 ^ 32 → fetch_word (flat_view (front ++ (to_le 4 word ++ back))) at ≡ Ok word
fetch_between front back at word e h =
    let l = length-append front (to_le 4 word ++ back) in
    let m = length-append (to_le 4 word) back in
    let n = length-to_le 4 word in
    fetch_flat (front ++ (to_le 4 word ++ back)) at (length front) e (omega arith)
    ∙ ap (λ bs. Ok (from_le bs)) (get_bytes-between front (to_le 4 word) back (length front) 4 refl (sym n))
    ∙ ap Ok (from_le-to_le_word word h)

pub are_here : (front : List ℕ) (insts : List Inst) (back : List ℕ) (at : ℕ) → at ≡ ram_start + length front → All IsInRange insts → AreHere (flat_view (front ++ (code_bytes insts ++ back))) at insts
unfolding code_bytes
are_here front [] back at e h = tt
are_here front (i ∷ insts) back at e h =
    let word = to_le 4 (encode_of i) in
    let rest = code_bytes insts in
    let in_range : IsInRange i = h 0 i (omega arith) in
    let split : (word ++ rest) ++ back ≡ word ++ (rest ++ back) = append_assoc word rest back in
    let moved : (front ++ word) ++ (rest ++ back) ≡ front ++ (word ++ (rest ++ back)) = append_assoc front word (rest ++ back) in
    let there : at + 4 ≡ ram_start + length (front ++ word) = omega (arith, e, length-append front word, length-to_le 4 (encode_of i)) in
    let more = are_here (front ++ word) insts back (at + 4) there (λ k d l. h (suc k) d (omega arith)) in
    let here : IsHere (flat_view (front ++ (word ++ (rest ++ back)))) at i = record { word = fetch_between front (rest ++ back) at (encode_of i) e (encode_small i in_range); in_range = in_range } in
    subst (λ l. AreHere (flat_view (front ++ l)) at (i ∷ insts)) (sym split) (here, subst (λ l. AreHere (flat_view l) (at + 4) insts) moved more)

-- the zeros at a text's end
abbrev pub zeros_of : Program → List ℕ
zeros_of p = replicate ((16 - length (code_bytes (insts_of p) ++ literals p.writes) % 16) % 16) 0

pub text_is : (p : Program) → text_of p ≡ code_bytes (insts_of p) ++ (literals p.writes ++ zeros_of p)
unfolding text_of padded
text_is p = append_assoc (code_bytes (insts_of p)) (literals p.writes) (zeros_of p)

-- the RAM has the instructions in their place
pub booted_here : (p : Program) (image : ProgImage) (ram : List ℕ) → IsCompiled image p → All IsInRange (insts_of p) → IsBooted image ram → AreHere (flat_view ram) text_start (insts_of p)
booted_here p image ram c h booted =
    let b = parted image ram booted in
    let code = code_bytes (insts_of p) in
    let tail = literals p.writes ++ zeros_of p in
    let e : ram ≡ b.before ++ (code ++ (tail ++ b.after)) =
    b.ram_is
    ∙ ap (λ t. b.before ++ t ++ b.after) (c.text ∙ text_is p)
    ∙ append_assoc b.before (code ++ tail) b.after
    ∙ ap (λ t. b.before ++ t) (append_assoc code tail b.after) in
    let at : text_start ≡ ram_start + length b.before = sym (b.text_there ∙ c.text_at) in
    subst (λ l. AreHere (flat_view l) text_start (insts_of p)) (sym e) (are_here b.before (insts_of p) (tail ++ b.after) text_start at h)

-- instructions stand in a text after others
pub has_code : (image : ProgImage) (front insts : List Inst) (back : List ℕ) (at : ℕ) → image.text ≡ code_bytes front ++ (code_bytes insts ++ back) → at ≡ image.text_at + 4 * length front → HasCode image insts at
has_code image front insts back at e h =
    let l = length-code_bytes front in
    let q : at - image.text_at ≡ length (code_bytes front) = omega arith in
    record { from = omega arith; bytes = ap (λ t. get_bytes t (at - image.text_at) (length (code_bytes insts))) e ∙ get_bytes-between (code_bytes front) (code_bytes insts) back (at - image.text_at) (length (code_bytes insts)) q refl }

-- the first stub and the second, and what is after them
pub stubs_split : (p : Program) → code_bytes (insts_of p) ≡ code_bytes (stub 1) ++ (code_bytes (stub 2) ++ code_bytes (proxies p.writes ++ main_code p))
unfolding insts_of
stubs_split p =
    ap code_bytes (append_assoc (stub 1 ++ stub 2) (proxies p.writes) (main_code p) ∙ append_assoc (stub 1) (stub 2) (proxies p.writes ++ main_code p))
    ∙ code_bytes-append (stub 1) (stub 2 ++ (proxies p.writes ++ main_code p))
    ∙ ap (λ l. code_bytes (stub 1) ++ l) (code_bytes-append (stub 2) (proxies p.writes ++ main_code p))

stands_at : (image : ProgImage) (front string back : List ℕ) (at : ℕ) → image.text ≡ front ++ (string ++ back) → at ≡ image.text_at + length front → StandsAt image string at
stands_at image front string back at e h =
    let l = ap length e in
    let m = length-append front (string ++ back) in
    let n = length-append string back in
    let q : at - image.text_at ≡ length front = omega arith in
    record { from = omega arith; to = omega arith; bytes = ap (λ t. get_bytes t (at - image.text_at) (length string)) e ∙ get_bytes-between front string back (at - image.text_at) (length string) q refl }

pub stand_at : (image : ProgImage) (strings : List (List ℕ)) (front back : List ℕ) (at : ℕ) → image.text ≡ front ++ (literals strings ++ back) → at ≡ image.text_at + length front → StandAt image strings (places_from at strings)
unfolding literals places_from
stand_at image [] front back at e h = tt
stand_at image (string ∷ strings) front back at e h =
    let rest = literals strings in
    let zero_byte : List ℕ = 0 ∷ [] in
    let one : ((string ++ zero_byte) ++ rest) ++ back ≡ string ++ (zero_byte ++ (rest ++ back)) =
    append_assoc (string ++ zero_byte) rest back ∙ append_assoc string zero_byte (rest ++ back) in
    let first : image.text ≡ front ++ (string ++ (zero_byte ++ (rest ++ back))) = e ∙ ap (λ l. front ++ l) one in
    let second : image.text ≡ (front ++ (string ++ zero_byte)) ++ (rest ++ back) =
    e ∙ ap (λ l. front ++ l) (append_assoc (string ++ zero_byte) rest back) ∙ sym (append_assoc front (string ++ zero_byte) (rest ++ back)) in
    let next : at + length string + 1 ≡ image.text_at + length (front ++ (string ++ zero_byte)) = omega (arith, h, length-append front (string ++ zero_byte), length-append string zero_byte) in
    (stands_at image front string (zero_byte ++ (rest ++ back)) at first h, stand_at image strings (front ++ (string ++ zero_byte)) back (at + length string + 1) second next)

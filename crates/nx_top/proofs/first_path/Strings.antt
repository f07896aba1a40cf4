-- A string is read exactly where it is spelled. nx_ctok will take its place.
use Rattle.std.proofs.Common.{◌≡◌, ◌⊎◌, ℕ, zero, suc, ◌<◌, ◌≤◌, Bool, true, false, ◌&&◌, ◌||◌, nat_le, ◌==◌, List, [], ◌∷◌, ◌++◌, length, flat_map, Some, refl, sym, ap, subst, ◌∙◌, inl, inr, append_assoc, append-nil, arith}
use Rattle.std.specs.List.{list_all}
use Rattle.std.proofs.lemmas.Bool.{leb-true, le-leb, eqb-true}
use Rattle.nx_base.specs.TextBytes.{is_word_byte}
use Rattle.nx_top.specs.first.Program.{ends_word, begins_word, escaped, quoted, is_string_byte, IsString, Spelled}
use Rattle.nx_top.specs.first.ProgramReading.{◌>>=◌, after_token, is_plain, escape_at, char_at, string_from, not_empty, string_at}
use Rattle.nx_top.proofs.first_path.Choices.{bind_some, guard_some, chosen, both, told, not_true, cond_true, cond_false}
use Rattle.nx_top.proofs.first_path.TokenReading.{Gap, token_gap, token_whole, spelt}

plain_string : (b : ℕ) → is_plain b ≡ true → is_string_byte b ≡ true
plain_string b e = elim (told (b == 10)) [ inl t ↦ rw t refl | inr t ↦ rw (t, e) refl ]

plain_escaped : (b : ℕ) → is_plain b ≡ true → escaped b ≡ b ∷ []
plain_escaped b e =
    let low : 32 ≤ b = leb-true 32 b (both _ _ (both _ _ (both _ _ e).0).0).0 in
    elim (told (b == 10)) [ inl t ↦ absurd (omega (arith, eqb-true b 10 t)) | inr t ↦ rw t refl ]

-- a byte's spelling before a rest
record Char (bytes : List ℕ) (c : ℕ × List ℕ) : Type 0 where
  is : bytes ≡ escaped c.0 ++ c.1
  fits : is_string_byte c.0 ≡ true

newline : (b : ℕ) (bs : List ℕ) (c : ℕ × List ℕ) → b ≡ 92 → escape_at bs ≡ Some c → Char (b ∷ bs) c
newline b [] c k e = absurd (cc)
newline b (d ∷ ds) c k e =
    let g = guard_some (d == 110) (Some (10, ds)) c e in
    let q : d ≡ 110 = eqb-true d 110 g.0 in
    let n : 10 ≡ c.0 = cc in
    let r : ds ≡ c.1 = cc in
    record { is = (λ i. k i ∷ q i ∷ r i) ∙ ap (λ (y : ℕ). escaped y ++ c.1) n; fits = ap is_string_byte (sym n) }

char_sound : (bytes : List ℕ) (c : ℕ × List ℕ) → char_at bytes ≡ Some c → Char bytes c
unfolding char_at
char_sound [] c e = absurd (cc)
char_sound (b ∷ bs) c e =
    elim (chosen (b == 92) _ _ _ e) [
      | inl slash ↦ newline b bs c (eqb-true b 92 slash.0) slash.1
      | inr other ↦
          let g = guard_some (is_plain b) (Some (b, bs)) c other.1 in
          let n : b ≡ c.0 = cc in
          let r : bs ≡ c.1 = cc in
          record {
            is = ap (λ l. l ++ bs) (sym (plain_escaped b g.0)) ∙ (λ i. escaped (n i) ++ r i);
            fits = subst (λ (y : ℕ). is_string_byte y ≡ true) n (plain_string b g.0);
          }
    ]

-- the bytes of a string that go on after others
record Goes (left : ℕ) (text bytes : List ℕ) (x : List ℕ × List ℕ) : Type 0 where
  more : List ℕ
  text_is : x.0 ≡ text ++ more
  is : bytes ≡ flat_map escaped more ++ 34 ∷ x.1
  fits : list_all is_string_byte more ≡ true
  short : length more < left

goes : (left : ℕ) (text bytes : List ℕ) (x : List ℕ × List ℕ) → string_from left text bytes ≡ Some x → Goes left text bytes x
unfolding string_from
goes zero text bytes x e = absurd (cc)
goes (suc left) text [] x e = absurd (cc)
goes (suc left) text (b ∷ bs) x e =
    elim (chosen (b == 34) _ _ _ e) [
      | inl closed ↦
          let k : b ≡ 34 = eqb-true b 34 closed.0 in
          let q : Some (text, bs) ≡ Some x = closed.1 in
          let t : text ≡ x.0 = cc in
          let r : bs ≡ x.1 = cc in
          record { more = []; text_is = sym t ∙ sym (append-nil text); is = λ i. k i ∷ r i; fits = refl; short = omega arith }
      | inr open' ↦
          let k = bind_some (char_at (b ∷ bs)) (λ c. string_from left (text ++ c.0 ∷ []) c.1) x open'.1 in
          let c = char_sound (b ∷ bs) k.0 k.1 in
          let g = goes left (text ++ k.0.0 ∷ []) k.0.1 x k.2 in
          record {
            more = k.0.0 ∷ g.more;
            text_is = g.text_is ∙ append_assoc text (k.0.0 ∷ []) g.more;
            is = c.is ∙ ap (λ l. escaped k.0.0 ++ l) g.is ∙ sym (append_assoc (escaped k.0.0) (flat_map escaped g.more) (34 ∷ x.1));
            fits = rw (c.fits) g.fits;
            short = omega (arith, g.short);
          }
    ]

ends_quote : (bytes : List ℕ) (b : ℕ) → ends_word (bytes ++ b ∷ []) ≡ is_word_byte b
ends_quote [] b = refl
ends_quote (c ∷ []) b = refl
ends_quote (c ∷ d ∷ bs) b = ends_quote (d ∷ bs) b

pub quoted_ends : (string : List ℕ) → ends_word (quoted string) ≡ false
quoted_ends string = ends_quote (34 ∷ flat_map escaped string) 34

-- a string in its quotes, after a gap
pub record Strung (word : Bool) (bytes : List ℕ) (x : List ℕ × List ℕ) : Type 0 where
  pub string : IsString x.0
  pub gap : Gap (word && begins_word (quoted x.0)) bytes (quoted x.0 ++ x.1)

pub string_sound : (bytes : List ℕ) (x : List ℕ × List ℕ) → string_at bytes ≡ Some x → Strung false bytes x
unfolding string_at
string_sound bytes x e =
    let k = bind_some (after_token false (34 ∷ []) bytes) (λ rest. string_from 256 [] rest >>= λ s. not_empty s) x e in
    let m = bind_some (string_from 256 [] k.0) (λ s. not_empty s) x k.2 in
    let n = guard_some (nat_le 1 (length m.0.0)) (Some m.0) x m.2 in
    let same : m.0 ≡ x = cc in
    let g = goes 256 [] k.0 x (m.1 ∙ ap Some same) in
    let some : 1 ≤ length x.0 = subst (λ (y : List ℕ × List ℕ). 1 ≤ length y.0) same (leb-true 1 (length m.0.0) n.0) in
    let h = token_gap false (34 ∷ []) bytes k.0 k.1 in
    record {
      string = record { some = some; short = omega (arith, g.short, ap length g.text_is); bytes = subst (λ l. list_all is_string_byte l ≡ true) (sym g.text_is) g.fits };
      gap = record {
        blanks = h.blanks;
        is = h.is ∙ ap (λ l. h.blanks ++ 34 ∷ l) (g.is ∙ ap (λ (l : List ℕ). flat_map escaped l ++ 34 ∷ x.1) (sym g.text_is) ∙ sym (append_assoc (flat_map escaped x.0) (34 ∷ []) x.1));
        all = h.all;
        gap = λ t. absurd (cc);
      };
    }

-- reading what is spelled

char_parts : (b : ℕ) → is_string_byte b ≡ true → (b ≡ 10) ⊎ (is_plain b ≡ true)
char_parts b e = elim (told (b == 10)) [ inl t ↦ inl (eqb-true b 10 t) | inr t ↦ inr (subst (λ (a : Bool). (a || is_plain b) ≡ true) t e) ]

no_quote : (b : ℕ) → is_plain b ≡ true → (b == 34) ≡ false
no_quote b e = not_true (b == 34) (both _ _ (both _ _ e).0).1

no_slash : (b : ℕ) → is_plain b ≡ true → (b == 92) ≡ false
no_slash b e = not_true (b == 92) (both _ _ e).1

char_plain : (b : ℕ) (rest : List ℕ) → is_plain b ≡ true → char_at (b ∷ rest) ≡ Some (b, rest)
unfolding char_at
char_plain b rest e = cond_false (b == 92) _ _ (no_slash b e) ∙ cond_true (is_plain b) _ _ e

char_step : (left b : ℕ) (text rest : List ℕ) → is_string_byte b ≡ true → string_from (suc left) text (escaped b ++ rest) ≡ string_from left (text ++ b ∷ []) rest
unfolding string_from char_at
char_step left b text rest e =
    elim (char_parts b e) [
      | inl n ↦ subst (λ (y : ℕ). string_from (suc left) text (escaped y ++ rest) ≡ string_from left (text ++ y ∷ []) rest) (sym n) refl
      | inr plain ↦
          ap (λ l. string_from (suc left) text (l ++ rest)) (plain_escaped b plain)
          ∙ cond_false (b == 34) _ _ (no_quote b plain)
          ∙ ap (λ o. o >>= λ c. string_from left (text ++ c.0 ∷ []) c.1) (char_plain b rest plain)
    ]

string_whole : (left : ℕ) (text more rest : List ℕ) → list_all is_string_byte more ≡ true → length more < left → string_from left text (flat_map escaped more ++ 34 ∷ rest) ≡ Some (text ++ more, rest)
unfolding string_from
string_whole zero text more rest all short = absurd (omega arith)
string_whole (suc left) text [] rest all short = ap (λ l. Some (l, rest)) (sym (append-nil text))
string_whole (suc left) text (b ∷ bs) rest all short =
    let k = both (is_string_byte b) (list_all is_string_byte bs) all in
    ap (string_from (suc left) text) (append_assoc (escaped b) (flat_map escaped bs) (34 ∷ rest))
    ∙ char_step left b text (flat_map escaped bs ++ 34 ∷ rest) k.0
    ∙ string_whole left (text ++ b ∷ []) bs rest k.1 (omega arith)
    ∙ ap (λ l. Some (l, rest)) (append_assoc text (b ∷ []) bs)

pub record Quoted (string : List ℕ) (others : List (List ℕ)) (bytes : List ℕ) : Type 0 where
  pub rest : List ℕ
  pub reads : string_at bytes ≡ Some (string, rest)
  pub more : Spelled false others rest

pub quoted_whole : (string : List ℕ) (others : List (List ℕ)) (bytes : List ℕ) → IsString string → Spelled false (quoted string ∷ others) bytes → Quoted string others bytes
unfolding string_at
quoted_whole string others bytes good s =
    let t = spelt false (quoted string) others bytes s in
    let inner : List ℕ = flat_map escaped string ++ 34 ∷ t.rest in
    let is : bytes ≡ t.blanks ++ (34 ∷ inner) = t.is ∙ ap (λ l. t.blanks ++ 34 ∷ l) (append_assoc (flat_map escaped string) (34 ∷ []) t.rest) in
    let opens : after_token false (34 ∷ []) bytes ≡ Some inner = ap (after_token false (34 ∷ [])) is ∙ token_whole false t.blanks (34 ∷ []) inner t.all (λ q. absurd (cc)) refl in
    let reads : string_from 256 [] inner ≡ Some (string, t.rest) = string_whole 256 [] string t.rest good.bytes (omega (arith, good.short)) in
    record {
      rest = t.rest;
      reads = rw (opens, reads, le-leb 1 (length string) good.some) refl;
      more = subst (λ (w : Bool). Spelled w others t.rest) (quoted_ends string) t.more;
    }

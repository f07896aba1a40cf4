-- A program is read exactly where it is spelled. nx_cparse will take its place.
use Rattle.std.proofs.Common.{◌≡◌, ◌≢◌, ◌⊎◌, ℕ, zero, suc, ◌<◌, ◌≤◌, Bool, true, false, ◌&&◌, ◌||◌, cond, ◌==◌, List, [], ◌∷◌, ◌++◌, length, flat_map, codes, decimal, Option, Some, None, refl, sym, ap, subst, ◌∙◌, inl, inr, append_assoc, append-nil, All, arith}
use Rattle.std.specs.List.{list_all, AllByRecursion}
use Rattle.std.proofs.lemmas.Bool.{eqb-true}
use Rattle.std.proofs.lemmas.List.Elements.{All-from_recursion}
use Rattle.nx_top.specs.first.Program.{Program, is_gap_byte, begins_word, quoted, write_tokens, tokens_of, Spelled, IsString, IsProgram}
use Rattle.nx_top.specs.first.Program.Spelled.{Done}
use Rattle.nx_top.specs.first.ProgramReading.{◌>>=◌, begins_digit, is_digit, after_gap, after_token, after_tokens, digits_at, number_at, string_at, write_end, write_at, end_of, end_or, body_from, reading}
use Rattle.nx_top.proofs.first_path.Choices.{bind_some, guard_some, both, told}
use Rattle.nx_top.proofs.first_path.TokenReading.{Gap, gap_sound, gap_whole, token_gap, with_token, spelt, tokens_sound}
use Rattle.nx_top.proofs.first_path.Numbers.{digits_sound, digits_whole, digits_of}
use Rattle.nx_top.proofs.first_path.Strings.{string_sound, quoted_ends}

-- numbers after a gap

pub record Numbered (word : Bool) (bytes : List ℕ) (x : ℕ × List ℕ) : Type 0 where
  pub gap : Gap (word && begins_word (decimal x.0)) bytes (decimal x.0 ++ x.1)
  pub small : x.0 ≤ 255

less_wanted : (word b : Bool) → (word && b) ≡ true → word ≡ true
less_wanted true b e = refl
less_wanted false b e = absurd (cc)

wanted : (word b : Bool) → word ≡ true → b ≡ true → (word && b) ≡ true
wanted true b w e = e
wanted false b w e = absurd (cc)

pub number_sound : (word : Bool) (bytes : List ℕ) (x : ℕ × List ℕ) → number_at word bytes ≡ Some x → Numbered word bytes x
unfolding number_at
number_sound word bytes x e =
    let k = bind_some (after_gap word bytes) digits_at x e in
    let g = gap_sound word bytes k.0 k.1 in
    let d = digits_sound k.0 x k.2 in
    record {
      gap = record { blanks = g.blanks; is = g.is ∙ ap (λ l. g.blanks ++ l) d.0; all = g.all; gap = λ t. g.gap (less_wanted word (begins_word (decimal x.0)) t) };
      small = d.1;
    }

pub with_number : (word : Bool) (bytes : List ℕ) (x : ℕ × List ℕ) (tokens : List (List ℕ)) → Numbered word bytes x → Spelled true tokens x.1 → Spelled word (decimal x.0 ∷ tokens) bytes
with_number word bytes x tokens n s =
    with_token word (decimal x.0) bytes x.1 tokens n.gap (subst (λ (w : Bool). Spelled w tokens x.1) (sym (digits_of x.0 n.small).ends) s)

-- a number is read, and what is after it is spelled so
pub record Counted (word : Bool) (n : ℕ) (others : List (List ℕ)) (bytes : List ℕ) : Type 0 where
  pub rest : List ℕ
  pub reads : number_at word bytes ≡ Some (n, rest)
  pub more : Spelled true others rest

pub number_whole : (word : Bool) (n : ℕ) (others : List (List ℕ)) (bytes : List ℕ) → n ≤ 255 → ((rest : List ℕ) → Spelled true others rest → begins_digit rest ≡ false) → Spelled word (decimal n ∷ others) bytes → Counted word n others bytes
unfolding number_at
number_whole word n others bytes small apart s =
    let d = digits_of n small in
    let t = spelt word (decimal n) others bytes s in
    let more : Spelled true others t.rest = subst (λ (w : Bool). Spelled w others t.rest) d.ends t.more in
    let gap : word ≡ true → t.blanks ≢ [] = λ w. t.gap (wanted word (begins_word (decimal n)) w d.begins) in
    let opens : after_gap word bytes ≡ Some (decimal n ++ t.rest) = ap (after_gap word) t.is ∙ gap_whole word t.blanks (decimal n ++ t.rest) t.all gap (d.plain t.rest) in
    record {
      rest = t.rest;
      reads = ap (λ o. o >>= digits_at) opens ∙ digits_whole n t.rest small (apart t.rest more);
      more = more;
    }

-- the tokens of a write are those before its string, and those after it

blank_digit : (b : ℕ) → is_gap_byte b ≡ true → is_digit b ≡ false
blank_digit b e = elim (told (b == 32)) [ inl k ↦ ap is_digit (eqb-true b 32 k) | inr k ↦ ap is_digit (eqb-true b 10 (subst (λ (a : Bool). (a || (b == 10)) ≡ true) k e)) ]

blank_front : (blanks t : List ℕ) → list_all is_gap_byte blanks ≡ true → begins_digit t ≡ false → begins_digit (blanks ++ t) ≡ false
blank_front [] t all e = e
blank_front (b ∷ bs) t all e = blank_digit b (both (is_gap_byte b) (list_all is_gap_byte bs) all).0

pub apart_tokens : (token : List ℕ) (tokens : List (List ℕ)) (bytes : List ℕ) → ((rest : List ℕ) → begins_digit (token ++ rest) ≡ false) → Spelled true (token ∷ tokens) bytes → begins_digit bytes ≡ false
apart_tokens token tokens bytes h s = let t = spelt true token tokens bytes s in ap begins_digit t.is ∙ blank_front t.blanks (token ++ t.rest) t.all (h t.rest)

pub write_end_sound : (count : ℕ) (bytes rest : List ℕ) (more : List (List ℕ)) → write_end count bytes ≡ Some rest → Spelled false more rest → Spelled false (codes "," ∷ decimal count ∷ codes ")" ∷ codes ";" ∷ more) bytes
unfolding write_end
write_end_sound count bytes rest more e s =
    let a = bind_some (after_tokens false (codes "," ∷ []) bytes) (λ r. number_at false r >>= λ n. after_tokens true (codes ")" ∷ codes ";" ∷ []) n.1 >>= λ l. cond (n.0 == count) (Some l) None) rest e in
    let b = bind_some (number_at false a.0) (λ n. after_tokens true (codes ")" ∷ codes ";" ∷ []) n.1 >>= λ l. cond (n.0 == count) (Some l) None) rest a.2 in
    let d = bind_some (after_tokens true (codes ")" ∷ codes ";" ∷ []) b.0.1) (λ l. cond (b.0.0 == count) (Some l) None) rest b.2 in
    let g = guard_some (b.0.0 == count) (Some d.0) rest d.2 in
    let same : d.0 ≡ rest = cc in
    let n : b.0.0 ≡ count = eqb-true b.0.0 count g.0 in
    let last : Spelled true (codes ")" ∷ codes ";" ∷ more) b.0.1 = tokens_sound true (codes ")" ∷ codes ";" ∷ []) b.0.1 d.0 more d.1 (subst (Spelled false more) (sym same) s) in
    let number : Spelled false (decimal count ∷ codes ")" ∷ codes ";" ∷ more) a.0 =
    subst (λ (y : ℕ). Spelled false (decimal y ∷ codes ")" ∷ codes ";" ∷ more) a.0) n
    (with_number false a.0 b.0 (codes ")" ∷ codes ";" ∷ more) (number_sound false a.0 b.0 b.1) last) in
    tokens_sound false (codes "," ∷ []) bytes a.0 (decimal count ∷ codes ")" ∷ codes ";" ∷ more) a.1 number

-- what is read of a write
pub record Written (bytes : List ℕ) (x : List ℕ × List ℕ) : Type 0 where
  pub string : IsString x.0
  pub spelled : (more : List (List ℕ)) → Spelled false more x.1 → Spelled false (write_tokens x.0 ++ more) bytes

pub write_sound : (bytes : List ℕ) (x : List ℕ × List ℕ) → write_at bytes ≡ Some x → Written bytes x
unfolding write_at write_tokens
write_sound bytes x e =
    let a = bind_some (after_tokens false (codes "write" ∷ codes "(" ∷ codes "1" ∷ codes "," ∷ []) bytes) (λ r. string_at r >>= λ s. write_end (length s.0) s.1 >>= λ l. Some (s.0, l)) x e in
    let b = bind_some (string_at a.0) (λ s. write_end (length s.0) s.1 >>= λ l. Some (s.0, l)) x a.2 in
    let d = bind_some (write_end (length b.0.0) b.0.1) (λ l. Some (b.0.0, l)) x b.2 in
    let string : b.0.0 ≡ x.0 = cc in
    let rest : d.0 ≡ x.1 = cc in
    let q = string_sound a.0 b.0 b.1 in
    record {
      string = subst IsString string q.string;
      spelled = λ more s.
          let tail : Spelled false (codes "," ∷ decimal (length b.0.0) ∷ codes ")" ∷ codes ";" ∷ more) b.0.1 = write_end_sound (length b.0.0) b.0.1 d.0 more d.1 (subst (Spelled false more) (sym rest) s) in
          let literal : Spelled false (quoted b.0.0 ∷ codes "," ∷ decimal (length b.0.0) ∷ codes ")" ∷ codes ";" ∷ more) a.0 =
          with_token false (quoted b.0.0) a.0 b.0.1 (codes "," ∷ decimal (length b.0.0) ∷ codes ")" ∷ codes ";" ∷ more) q.gap
          (subst (λ (w : Bool). Spelled w (codes "," ∷ decimal (length b.0.0) ∷ codes ")" ∷ codes ";" ∷ more) b.0.1) (sym (quoted_ends b.0.0)) tail) in
          let whole : Spelled false (write_tokens b.0.0 ++ more) bytes =
          tokens_sound false (codes "write" ∷ codes "(" ∷ codes "1" ∷ codes "," ∷ []) bytes a.0 (quoted b.0.0 ∷ codes "," ∷ decimal (length b.0.0) ∷ codes ")" ∷ codes ";" ∷ more) a.1 literal in
          subst (λ (y : List ℕ). Spelled false (write_tokens y ++ more) bytes) string whole;
    }

-- return V ; }
abbrev pub tail_of : ℕ → List (List ℕ)
tail_of v = codes "return" ∷ decimal v ∷ codes ";" ∷ codes "}" ∷ []

some_same : {A : Type 0} (x y : A) → Some x ≡ Some y → x ≡ y
some_same x y e = cc

ended : (o : Option (List ℕ)) (writes : List (List ℕ)) (other : Option Program) (p : Program) → end_or o writes other ≡ Some p → ((rest : List ℕ) × (o ≡ Some rest) × (end_of writes rest ≡ Some p)) ⊎ (other ≡ Some p)
ended (Some rest) writes other p e = inl (rest, refl, e)
ended None writes other p e = inr e

-- what is read of an end
record Ended (writes : List (List ℕ)) (bytes : List ℕ) (p : Program) : Type 0 where
  written : p.writes ≡ writes
  small : p.status ≤ 255
  spelled : Spelled true (decimal p.status ∷ codes ";" ∷ codes "}" ∷ []) bytes

end_sound : (writes : List (List ℕ)) (bytes : List ℕ) (p : Program) → end_of writes bytes ≡ Some p → Ended writes bytes p
unfolding end_of
end_sound writes bytes p e =
    let a = bind_some (number_at true bytes) (λ n. after_tokens true (codes ";" ∷ codes "}" ∷ []) n.1 >>= λ l. cond (list_all is_gap_byte l) (Some (record { writes = writes; status = n.0 })) None) p e in
    let b = bind_some (after_tokens true (codes ";" ∷ codes "}" ∷ []) a.0.1) (λ l. cond (list_all is_gap_byte l) (Some (record { writes = writes; status = a.0.0 })) None) p a.2 in
    let g = guard_some (list_all is_gap_byte b.0) (Some (record { writes = writes; status = a.0.0 })) p b.2 in
    let w : writes ≡ p.writes = ap (λ (q : Program). q.writes) (some_same _ _ g.1) in
    let v : a.0.0 ≡ p.status = ap (λ (q : Program). q.status) (some_same _ _ g.1) in
    let n = number_sound true bytes a.0 a.1 in
    let last : Spelled true (codes ";" ∷ codes "}" ∷ []) a.0.1 = tokens_sound true (codes ";" ∷ codes "}" ∷ []) a.0.1 b.0 [] b.1 (Done false b.0 g.0) in
    record {
      written = sym w;
      small = subst (λ (y : ℕ). y ≤ 255) v n.small;
      spelled = subst (λ (y : ℕ). Spelled true (decimal y ∷ codes ";" ∷ codes "}" ∷ []) bytes) v (with_number true bytes a.0 (codes ";" ∷ codes "}" ∷ []) n last);
    }

-- the writes that go on after others, and the end
record Body (left : ℕ) (writes : List (List ℕ)) (bytes : List ℕ) (p : Program) : Type 0 where
  more : List (List ℕ)
  written : p.writes ≡ writes ++ more
  few : length more < left
  strings : AllByRecursion IsString more
  small : p.status ≤ 255
  spelled : Spelled false (flat_map write_tokens more ++ tail_of p.status) bytes

body_sound : (left : ℕ) (writes : List (List ℕ)) (bytes : List ℕ) (p : Program) → body_from left writes bytes ≡ Some p → Body left writes bytes p
unfolding body_from
body_sound zero writes bytes p e = absurd (cc)
body_sound (suc left) writes bytes p e =
    elim (ended (after_token false (codes "return") bytes) writes _ p e) [
      | inl here ↦
          let r = end_sound writes here.0 p here.2 in
          record {
            more = [];
            written = r.written ∙ sym (append-nil writes);
            few = omega arith;
            strings = tt;
            small = r.small;
            spelled = with_token false (codes "return") bytes here.0 (decimal p.status ∷ codes ";" ∷ codes "}" ∷ []) (token_gap false (codes "return") bytes here.0 here.1) r.spelled;
          }
      | inr other ↦
          let k = bind_some (write_at bytes) (λ w. body_from left (writes ++ w.0 ∷ []) w.1) p other in
          let w = write_sound bytes k.0 k.1 in
          let b = body_sound left (writes ++ k.0.0 ∷ []) k.0.1 p k.2 in
          record {
            more = k.0.0 ∷ b.more;
            written = b.written ∙ append_assoc writes (k.0.0 ∷ []) b.more;
            few = omega (arith, b.few);
            strings = (w.string, b.strings);
            small = b.small;
            spelled = subst (λ (l : List (List ℕ)). Spelled false l bytes) (sym (append_assoc (write_tokens k.0.0) (flat_map write_tokens b.more) (tail_of p.status))) (w.spelled (flat_map write_tokens b.more ++ tail_of p.status) b.spelled);
          }
    ]

pub reading_sound : (bytes : List ℕ) (p : Program) → reading bytes ≡ Some p → IsProgram bytes p
unfolding reading tokens_of
reading_sound bytes p e =
    let a = bind_some (after_tokens false (codes "int" ∷ codes "main" ∷ codes "(" ∷ codes "void" ∷ codes ")" ∷ codes "{" ∷ []) bytes) (body_from 17 []) p e in
    let b = body_sound 17 [] a.0 p a.2 in
    record {
      few = omega (arith, b.few, ap length b.written);
      strings = subst (All IsString) (sym b.written) (All-from_recursion IsString b.more b.strings);
      status = b.small;
      spelled = tokens_sound false (codes "int" ∷ codes "main" ∷ codes "(" ∷ codes "void" ∷ codes ")" ∷ codes "{" ∷ []) bytes a.0 (flat_map write_tokens p.writes ++ tail_of p.status) a.1
          (subst (λ (l : List (List ℕ)). Spelled false (flat_map write_tokens l ++ tail_of p.status) a.0) (sym b.written) b.spelled);
    }

-- Loads and stores of a place.
use Rattle.std.proofs.Common.{◌≡◌, ℕ, ◌+◌, ◌*◌, ◌<◌, ◌≤◌, ◌⊎◌, inl, inr, Bool, true, false, List, [], ◌∷◌, length, Ok, ap, ◌∙◌, arith, ⊎_elim}
use Rattle.std.specs.Prelude.{if◌then◌else◌}
use Rattle.nx_base.specs.ByteLists.{to_le}
use Rattle.nx_base.specs.Views.{View, Window, load_bytes, store_bytes, number_or, view_or, AreApart}
use Rattle.nx_base.proofs.Puts.{length-to_le}
use Rattle.nx_base.proofs.Stores.{fetch-store_other}
use Rattle.nx_rv.specs.declared.inst.Inst.{Inst}
use Rattle.nx_base.specs.Ranges.{Lies}
use Rattle.nx_shown.specs.Bytes.{Bytes, Part, with_bytes, number_at, with_number}
use Rattle.nx_shown.specs.Places.{Piece, Place, AreHere, HasText, AreOff, Sees, MayWrite, IsElsewhere}
use Rattle.nx_shown.specs.Leading.{Kept, LoadsAreShown, StoresAreShown}
use Rattle.nx_shown.proofs.Stores.{read, stored, small_number, same_lies, other_byte}

load_part : (v : View) (written : Bool) (low top a n : ℕ) (b : Bytes) → Part v.windows written low top b → low ≤ a → a + n ≤ top → 1 ≤ n → load_bytes v a n ≡ Ok (number_at b a n)
unfolding load_bytes number_at
load_part v written low top a n b (inl o) l m p = absurd (omega arith)
load_part v written low top a n b (inr o) l m p = ap (λ q. number_or q (if v.is_paged then 13 else 5)) (read v.windows written low top a n b l m p o)

pub loads : LoadsAreShown
loads e v a n b s (inl (inl m)) p = load_part v true e.low e.top a n b s.stack m.0 m.1 p
loads e v a n b s (inl (inr m)) p = load_part v true e.data_low e.data_top a n b s.globals m.0 m.1 p
loads e v a n b s (inr m) p = load_part v false e.fixed_low e.fixed_top a n b s.literals m.0 m.1 p

here_after : (v new : View) (a n x low top at : ℕ) (is : List Inst) → (at + 4 * length is ≤ low) ⊎ (top ≤ at) → low ≤ a → a + n ≤ top → store_bytes v a n x ≡ Ok new → AreHere v at is → AreHere new at is
here_after v new a n x low top at [] o l m s h = tt
here_after v new a n x low top at (i ∷ is) o l m s h = (
  (fetch-store_other v new a n x at (⊎_elim (λ u. inl (omega arith)) (λ u. inr (omega arith)) o) s ∙ h.0.0, h.0.1),
  here_after v new a n x low top (at + 4) is (⊎_elim (λ u. inl (omega arith)) (λ u. inr (omega arith)) o) l m s h.1,
)

text_after : (v new : View) (a n x low top : ℕ) (ps : List Piece) → AreOff ps low top → low ≤ a → a + n ≤ top → store_bytes v a n x ≡ Ok new → HasText v ps → HasText new ps
text_after v new a n x low top [] o l m s h = tt
text_after v new a n x low top (p ∷ ps) o l m s h = (here_after v new a n x low top p.at p.insts o.0 l m s h.0, text_after v new a n x low top ps o.1 l m s h.1)

same_part : (ws : List Window) (written : Bool) (low top : ℕ) (b d : Bytes) → ((c : ℕ) → low ≤ c → c < top → b c ≡ d c) → Part ws written low top b → Part ws written low top d
same_part ws written low top b d e (inl o) = inl o
same_part ws written low top b d e (inr o) = inr (same_lies ws written low top b d e o)

-- What may be written is apart from what is elsewhere.
away : (e : Place) (a n low top c : ℕ) → MayWrite e a n → IsElsewhere e low top → low ≤ c → c < top → (c < a) ⊎ (a + n ≤ c)
away e a n low top c (inl m) ap q u = let m0 = m.0 in let m1 = m.1 in ⊎_elim (λ y. inl (omega (arith, y, u, m0))) (λ y. inr (omega (arith, y, q, m1))) ap.0
away e a n low top c (inr m) ap q u = let m0 = m.0 in let m1 = m.1 in ⊎_elim (λ y. inl (omega (arith, y, u, m0))) (λ y. inr (omega (arith, y, q, m1))) ap.1

word_away : (e : Place) (a n at : ℕ) → MayWrite e a n → IsElsewhere e at (at + 4) → AreApart a n at 4
word_away e a n at (inl m) ap = let m0 = m.0 in let m1 = m.1 in ⊎_elim (λ y. inl (omega (arith, y, m0))) (λ y. inr (omega (arith, y, m1))) ap.0
word_away e a n at (inr m) ap = let m0 = m.0 in let m1 = m.1 in ⊎_elim (λ y. inl (omega (arith, y, m0))) (λ y. inr (omega (arith, y, m1))) ap.1

part_after : (ws new : List Window) (a n x low top : ℕ) (written : Bool) (b : Bytes) → ((written : Bool) (low top : ℕ) (d : Bytes) → Lies ws written low top d → Lies new written low top (with_bytes d a (to_le n x)))
    → Part ws written low top b → Part new written low top (with_number b a n x)
unfolding with_number
part_after ws new a n x low top written b k (inl o) = inl o
part_after ws new a n x low top written b k (inr o) = inr (k written low top b o)

store_part : (e : Place) (v : View) (a n x low top : ℕ) (b : Bytes) → Part v.windows true low top b → AreOff e.pieces low top → low ≤ a → a + n ≤ top → 1 ≤ n → MayWrite e a n → Sees e v b → Kept e v a n x b
unfolding store_bytes
store_part e v a n x low top b (inl o) off l m p w s = absurd (omega arith)
store_part e v a n x low top b (inr o) off l m p w s =
    let size = length-to_le n x in
    let k = stored v.windows low top a (to_le n x) b l (omega (arith, size)) (omega (arith, size)) o in
    let is = ap (λ q. view_or v q (if v.is_paged then 15 else 7)) k.is in
    record {
      new = record v { windows = k.new };
      is = is;
      sees = record {
        stack = part_after v.windows k.new a n x e.low e.top true b k.kept s.stack;
        globals = part_after v.windows k.new a n x e.data_low e.data_top true b k.kept s.globals;
        literals = part_after v.windows k.new a n x e.fixed_low e.fixed_top false b k.kept s.literals;
        text = text_after v _ a n x low top e.pieces off l m is s.text;
        small = λ c. small_number b a n x c s.small;
      };
      only = record {
        shows = λ written from to d ap h. same_part (record v { windows = k.new }).windows written from to (with_number d a n x) d (λ c q u. other_byte d a n x c (away e a n from to c w ap q u)) (part_after v.windows k.new a n x from to written d k.kept h);
        runs = λ at ap. fetch-store_other v _ a n x at (word_away e a n at w ap) is;
      };
    }

pub stores : StoresAreShown
stores e v a n x b i s (inl m) p = store_part e v a n x e.low e.top b s.stack i.stack_off m.0 m.1 p (inl m) s
stores e v a n x b i s (inr m) p = store_part e v a n x e.data_low e.data_top b s.globals i.data_off m.0 m.1 p (inr m) s

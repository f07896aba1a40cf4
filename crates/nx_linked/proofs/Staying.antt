-- What stays where memory changes.
use Rattle.std.proofs.Common.{◌≡◌, ℕ, ◌+◌, ◌*◌, ◌%◌, ◌^◌, ◌<◌, ◌≤◌, inl, inr, List, [], ◌∷◌, refl, sym, ap, ◌∙◌, subst, arith}
use Rattle.std.proofs.lemmas.Option.{slice_get_within}
use Rattle.nx_slot.specs.declared.program.SlotFunction.{SlotFunction}
use Rattle.nx_slot.specs.declared.op.Width.{Width}
use Rattle.nx_slot.specs.Objects.{Value, Int, Pointer, Forged, Entry, Object, object_of, bytes_of}
use Rattle.nx_slot.specs.Meaning.{SlotFrame}
use Rattle.nx_codegen.specs.Frames.{cell_at, words_end, array_at}
use Rattle.nx_codegen.specs.Cells.{IsCell}
use Rattle.nx_shown.specs.Bytes.{Bytes, number_at}
use Rattle.nx_shown.proofs.Stores.{same_number}
use Rattle.nx_pieces.specs.Cells.{Open}
use Rattle.nx_pieces.proofs.Cells.{inside, words_fit}
use Rattle.nx_linked.specs.Linked.{Program}
use Rattle.nx_linked.specs.Meant.{Bases, IsIn, Means, AreShown, IsWord}
use Rattle.nx_linked.specs.Standing.{function_in, AreBelow, Owns, AreOpen}
use Rattle.nx_linked.specs.Laws.{Extends, WaitingCallsStay, OwnersStay, ObjectsLieOffWords, FramesFillTheStack}
use Rattle.nx_linked.proofs.Arrays.{arrays_up, words_four}

pub extends_same : (base : Bases) (os : List Object) → Extends base os base os
extends_same base os = record { more = omega arith; bases = λ o h. refl; widths = λ o h. refl }

pub means_kept : (c : Program) (base : Bases) (os : List Object) (moved : Bases) (new : List Object) (x : Value) (w : ℕ) → Extends base os moved new → Means c base os x w → Means c moved new x w
means_kept c base os moved new (Int n) w e m = m
means_kept c base os moved new (Pointer o p) w e m = (
  let h = m.0 in let k = e.more in omega (arith, h, k),
  m.1 ∙ ap (λ n. (n + bytes_of (object_of os o).width * p) % 2 ^ 32) (sym (e.bases o m.0)) ∙ ap (λ (n : Width). (moved o + bytes_of n * p) % 2 ^ 32) (sym (e.widths o m.0)),
)
means_kept c base os moved new (Forged n) w e m = m
means_kept c base os moved new (Entry f) w e m = m

pub words_above : (c : Program) (fs : List SlotFrame) (sp a : ℕ) → IsWord c fs sp a → sp ≤ a
words_above c [] sp a w = absurd w
words_above c (f ∷ fs) sp a (inl w) = w.0
words_above c (f ∷ fs) sp a (inr w) = let h = words_above c fs (sp + (function_in c f.function).frame) a w in omega (arith, h)

inside_at : (g : SlotFunction) (i : ℕ) → IsCell g i → (4 ≤ cell_at g i) × (cell_at g i + 4 ≤ words_end g)
inside_at g i h = let z = inside g i h in (z.low, z.top)

pub below_kept : WaitingCallsStay
below_kept c base os moved new [] sp to b d e same w = w
below_kept c base os moved new (f ∷ fs) sp to b d e same w =
    let g = function_in c f.function in
    let four = words_four g in
    let ra : number_at d sp 4 ≡ number_at b sp 4 = same_number d b sp 4 (λ a h k. same a (inl (h, omega (arith, k, four)))) in (
      record {
        known = w.0.known;
        opened = w.0.opened;
        cells = λ i x h.
            let z = inside_at g i (let l = slice_get_within f.cells i x h in let n = w.0.next in let m = w.0.room in omega (arith, l, n, m)) in
            let z0 = z.0 in let z1 = z.1 in
            subst (λ y. Means c moved new x y) (sym (same_number d b (sp + cell_at g i) 4 (λ a p q. same a (inl (omega (arith, p), omega (arith, q, z1)))))) (means_kept c base os moved new x _ e (w.0.cells i x h));
        next = w.0.next;
        temporary = w.0.temporary;
        room = w.0.room;
        behind = w.0.behind;
      },
      subst (λ y. AreBelow c moved new fs (sp + g.frame) y d) (sym ra) (below_kept c base os moved new fs (sp + g.frame) (number_at b sp 4) b d e (λ a h. same a (inr h)) w.1),
    )

pub owned_kept : OwnersStay
owned_kept c base os moved new [] sp e more top h w = tt
owned_kept c base os moved new (f ∷ fs) sp e more top h w =
    let g = function_in c f.function in
    let ht = h.0.top in let em = e.more in (
      record {
        each = λ o a i p q. w.0.each o a (more o a i p (omega (arith, q, ht))) p q;
        arrays = λ k i. let y = w.0.arrays k i in let y0 = y.0 in (omega (arith, y0, em), e.bases _ y.0 ∙ y.1);
        later = w.0.later;
      },
      owned_kept c base os moved new fs (sp + g.frame) e (λ o a i p q. more o a i (omega (arith, p)) q) ht h.1 w.1,
    )

pub open_all : (c : Program) (base : Bases) (os : List Object) (fs : List SlotFrame) (sp to : ℕ) (b : Bytes) → AreBelow c base os fs sp to b → AreOpen c fs sp
open_all c base os [] sp to b w = tt
open_all c base os (f ∷ fs) sp to b w = (w.0.opened, open_all c base os fs (sp + (function_in c f.function).frame) (number_at b sp 4) b w.1)

pub shown_same : (c : Program) (base : Bases) (os : List Object) (b d : Bytes) → ((o a : ℕ) → IsIn base os o a → d a ≡ b a) → AreShown c base os b → AreShown c base os d
shown_same c base os b d same w = record {
  bytes = λ o i h. same o (base o + i) (omega arith, omega (arith, h)) ∙ w.bytes o i h;
  aligned = w.aligned;
  lives = w.lives;
  apart = w.apart;
  own = w.own;
  statics = w.statics;
  forms = w.forms;
}

-- No object lies in the words of a frame.
pub not_words : (c : Program) (g : SlotFunction) (base : Bases) (os : List Object) (names : List ℕ) (sp o a : ℕ) → Open c.place g sp → Owns c g base os names sp → IsIn base os o a → sp ≤ a → a < sp + words_end g → ⊥
unfolding array_at
not_words c g base os names sp o a p w i l h =
    let fit = words_fit c.place g sp p in
    let m = w.each o a i l (omega (arith, h, fit)) in
    let k = arrays_up g.arrays (words_end g) m.place in
    let from = m.from in
    omega (arith, from, k, h)

pub off_words : ObjectsLieOffWords
off_words c base os [] sp o a p w i k = k
off_words c base os (f ∷ fs) sp o a p w i (inl k) = not_words c (function_in c f.function) base os f.arrays sp o a p.0 w.0 i k.0 k.1
off_words c base os (f ∷ fs) sp o a p w i (inr k) = off_words c base os fs (sp + (function_in c f.function).frame) o a p.1 w.1 i k

pub below_need : FramesFillTheStack
below_need c base os [] sp to b w = let q = w.0 in omega (arith, q)
below_need c base os (f ∷ fs) sp to b w = let h = below_need c base os fs (sp + (function_in c f.function).frame) (number_at b sp 4) b w.1 in omega (arith, h)

pub words_inside : (c : Program) (fs : List SlotFrame) (sp a : ℕ) → AreOpen c fs sp → IsWord c fs sp a → (c.place.low ≤ a) × (a < c.place.top)
words_inside c [] sp a o w = absurd w
words_inside c (f ∷ fs) sp a o (inl w) =
    let l = o.0.low in let t = o.0.top in let h = words_fit c.place (function_in c f.function) sp o.0 in let w0 = w.0 in let w1 = w.1 in
    (omega (arith, l, w0), omega (arith, t, h, w1))
words_inside c (f ∷ fs) sp a o (inr w) = words_inside c fs (sp + (function_in c f.function).frame) a o.1 w

-- What is done where a test or a value of slot code is there.
use Rattle.std.proofs.Common.{◌≡◌, ℕ, ◌+◌, ◌*◌, ◌%◌, ◌^◌, Bool, true, false, List, Option, Some, None, refl, sym, ap, ◌∙◌, subst, arith}
use Rattle.std.specs.Prelude.{if◌then◌else◌}
use Rattle.nx_base.specs.declared.regs.Regs.{Regs}
use Rattle.nx_base.specs.Views.{View}
use Rattle.nx_slot.specs.declared.op.Width.{Width}
use Rattle.nx_slot.specs.declared.op.Width.TheVariants.{Byte, Word}
use Rattle.nx_slot.specs.Objects.{Value, Int, Pointer, Forged, Entry, Object, object_of, bytes_of, same_width, has_element, moved}
use Rattle.nx_slot.specs.Meaning.{SlotFault, Outside, SlotTurn, Fails, on_value, on_int, on_element, on_moved, on_name}
use Rattle.nx_linked.specs.Linked.{Program}
use Rattle.nx_linked.specs.Meant.{Bases, Means}
use Rattle.nx_linked.specs.Doing.{Does}

pub does_if : (c : Program) (r : Regs) (v : View) (q : Bool) (t : SlotTurn) (fault : SlotFault) → (q ≡ true → Does c r v t) → Does c r v (if q then t else Fails fault)
does_if c r v true t fault h = h refl
does_if c r v false t fault h = tt

pub does_unless : (c : Program) (r : Regs) (v : View) (q : Bool) (t : SlotTurn) (fault : SlotFault) → (q ≡ false → Does c r v t) → Does c r v (if q then Fails fault else t)
does_unless c r v true t fault h = tt
does_unless c r v false t fault h = h refl

pub does_value : (c : Program) (r : Regs) (v : View) (x : Option Value) (go : Value → SlotTurn) → ((y : Value) → x ≡ Some y → Does c r v (go y)) → Does c r v (on_value x go)
does_value c r v None go h = tt
does_value c r v (Some y) go h = h y refl

pub does_int : (c : Program) (r : Regs) (v : View) (x : Option Value) (go : ℕ → SlotTurn) → ((y : ℕ) → x ≡ Some (Int y) → Does c r v (go y)) → Does c r v (on_int x go)
does_int c r v None go h = tt
does_int c r v (Some (Int y)) go h = h y refl
does_int c r v (Some (Pointer o p)) go h = tt
does_int c r v (Some (Forged n)) go h = tt
does_int c r v (Some (Entry f)) go h = tt

pub does_name : (c : Program) (r : Regs) (v : View) (x : Option ℕ) (go : ℕ → SlotTurn) → ((y : ℕ) → x ≡ Some y → Does c r v (go y)) → Does c r v (on_name x go)
does_name c r v None go h = tt
does_name c r v (Some y) go h = h y refl

pub does_moved : (c : Program) (r : Regs) (v : View) (x : Option Value) (go : Value → SlotTurn) → ((y : Value) → x ≡ Some y → Does c r v (go y)) → Does c r v (on_moved x go)
does_moved c r v None go h = tt
does_moved c r v (Some y) go h = h y refl

pub does_element : (c : Program) (r : Regs) (v : View) (os : List Object) (w : Width) (x : Option Value) (go : ℕ → ℕ → SlotTurn) → ((o p : ℕ) → x ≡ Some (Pointer o p) → has_element (object_of os o) w p ≡ true → Does c r v (go o p)) → Does c r v (on_element os w x go)
does_element c r v os w None go h = tt
does_element c r v os w (Some (Int a)) go h = tt
does_element c r v os w (Some (Pointer o p)) go h = does_if c r v (has_element (object_of os o) w p) (go o p) Outside (λ q. h o p refl q)
does_element c r v os w (Some (Forged n)) go h = tt
does_element c r v os w (Some (Entry f)) go h = tt

pub width_is : (u w : Width) → same_width u w ≡ true → u ≡ w
width_is Byte Byte e = refl
width_is Word Word e = refl
width_is Byte Word e = absurd cc
width_is Word Byte e = absurd cc

-- A pointer that is moved up.
moved_up : (w : Width) (at p n : ℕ) → ((at + bytes_of w * p) % 2 ^ 32 + bytes_of w * n) % 2 ^ 32 ≡ (at + bytes_of w * ((p + n) % 2 ^ 32)) % 2 ^ 32
moved_up Byte at p n = omega arith
moved_up Word at p n = omega arith

pub moved_means : (c : Program) (base : Bases) (os : List Object) (w : Width) (x : Value) (n : ℕ) (y : Value) (k : ℕ) → moved os w x n ≡ Some y → Means c base os x k → Means c base os y ((k + bytes_of w * n) % 2 ^ 32)
moved_means c base os w (Int a) n y k e m = absurd cc
moved_means c base os w (Entry f) n y k e m = absurd cc
moved_means c base os w (Forged a) n y k e m =
    let q : Forged ((a + bytes_of w * n) % 2 ^ 32) ≡ y = cc in
    subst (λ z. Means c base os z ((k + bytes_of w * n) % 2 ^ 32)) q (ap (λ z. (z + bytes_of w * n) % 2 ^ 32) m)
moved_means c base os w (Pointer o p) n y k e m = by_width (same_width (object_of os o).width w) refl e
  where
    by_width : (q : Bool) → same_width (object_of os o).width w ≡ q → (if q then Some (Pointer o ((p + n) % 2 ^ 32)) else None) ≡ Some y → Means c base os y ((k + bytes_of w * n) % 2 ^ 32)
    by_width true h e =
        let q : Pointer o ((p + n) % 2 ^ 32) ≡ y = cc in
        let u = width_is (object_of os o).width w h in
        let same : ((base o + bytes_of (object_of os o).width * p) % 2 ^ 32 + bytes_of w * n) % 2 ^ 32 ≡ (base o + bytes_of (object_of os o).width * ((p + n) % 2 ^ 32)) % 2 ^ 32 =
        subst (λ (z : Width). ((base o + bytes_of z * p) % 2 ^ 32 + bytes_of w * n) % 2 ^ 32 ≡ (base o + bytes_of z * ((p + n) % 2 ^ 32)) % 2 ^ 32) (sym u) (moved_up w (base o) p n) in
        subst (λ z. Means c base os z ((k + bytes_of w * n) % 2 ^ 32)) q (m.0, ap (λ z. (z + bytes_of w * n) % 2 ^ 32) m.1 ∙ same)
    by_width false h e = absurd cc

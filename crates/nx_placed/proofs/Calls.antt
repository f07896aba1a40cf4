-- The call that words make is the call of slot code.
use Rattle.std.proofs.Common.{◌≡◌, ℕ, zero, suc, ◌+◌, ◌≤◌, List, [], ◌∷◌, length, Bool, true, false, Option, Some, None, Ok, refl, sym, ap, ◌∙◌, subst, arith}
use Rattle.std.specs.Prelude.{slice_get, if◌then◌else◌}
use Rattle.nx_base.specs.declared.regs.Regs.{Regs}
use Rattle.nx_base.specs.declared.calls.Kind.{Kind}
use Rattle.nx_base.specs.declared.calls.Kind.TheVariants.{Word}
use Rattle.nx_base.specs.Registers.{reg}
use Rattle.nx_base.specs.Replies.{output_rooms, HaveRoom}
use Rattle.nx_base.specs.Views.{View}
use Rattle.nx_base.specs.Calls as calls
use Rattle.nx_base.specs.Calls.{Call, Reply, Rows, is_pointer, plain_words, meant, Fits}
use Rattle.nx_base.specs.Copying as view
use Rattle.nx_base.specs.Copying.{words_from, as_call, cook, deliver}
use Rattle.nx_slot.specs.Objects.{Value, Int, Pointer, Forged, Entry, Object}
use Rattle.nx_slot.specs.Calls as slot
use Rattle.nx_slot.specs.Calls.{word_of, value_at, words_of, call_inputs, outputs_of}
use Rattle.nx_codegen.specs.declared.output.Target.TheVariants.{Function}
use Rattle.nx_shown.specs.Bytes.{Bytes}
use Rattle.nx_shown.specs.Places.{IsPlace, Sees}
use Rattle.nx_linked.specs.Linked.{Program}
use Rattle.nx_linked.specs.Meant.{Bases, Means, AreShown}
use Rattle.nx_cooked.specs.Laws.{AreHeld, SameKind, Delivered}
use Rattle.nx_cooked.proofs.Cooking.{words_in, inputs_same, plain_same}
use Rattle.nx_cooked.proofs.Putting.{only_none, kind_same}
use Rattle.nx_cooked.proofs.Delivering.{under_plain, delivers}
use Rattle.nx_placed.specs.Placing.{Placing, rows_of, SameStart}

cook_is : (rows : Rows) (v : View) (r : Regs) (number : ℕ) (kinds : List Kind) (xs : List (List ℕ)) → reg r 10 ≡ number → (rows number).kinds ≡ kinds → view.inputs_of v 0 kinds (words_from r 11 kinds) ≡ Ok xs → cook rows v r ≡ Ok (record { number = number; words = words_from r 11 kinds; inputs = xs })
unfolding cook
cook_is rows v r number kinds xs e f g =
    ap (λ n. as_call n (words_from r 11 (rows n).kinds) (view.inputs_of v 0 (rows n).kinds (words_from r 11 (rows n).kinds))) e
    ∙ ap (λ ks. as_call number (words_from r 11 ks) (view.inputs_of v 0 ks (words_from r 11 ks))) f
    ∙ ap (as_call number (words_from r 11 kinds)) g

pub deliver_is : (rows : Rows) (v : View) (r : Regs) (number : ℕ) (outs : List (List ℕ)) → reg r 10 ≡ number → deliver rows v r outs ≡ view.with_outputs v (rows number).kinds (words_from r 11 (rows number).kinds) outs
unfolding deliver
deliver_is rows v r number outs e = ap (λ n. view.with_outputs v (rows n).kinds (words_from r 11 (rows n).kinds) outs) e

-- The six words of a call, by what is left of its arguments.
abbrev pad : ℕ → List Value → List ℕ
pad zero args = []
pad (suc k) [] = 0 ∷ pad k []
pad (suc k) (x ∷ args) = word_of x ∷ pad k args

words_padded : (args : List Value) → words_of args ≡ pad 6 args
words_padded [] = refl
words_padded (a ∷ []) = refl
words_padded (a ∷ b ∷ []) = refl
words_padded (a ∷ b ∷ c ∷ []) = refl
words_padded (a ∷ b ∷ c ∷ d ∷ []) = refl
words_padded (a ∷ b ∷ c ∷ d ∷ e ∷ []) = refl
words_padded (a ∷ b ∷ c ∷ d ∷ e ∷ f ∷ args) = refl

plain_padded : (kinds : List Kind) (args : List Value) (k : ℕ) → length kinds ≡ length args → length kinds ≤ k → plain_words kinds (pad k args) ≡ plain_words kinds (words_in args)
unfolding plain_words
plain_padded [] args k e h = refl
plain_padded (kind ∷ kinds) [] k e h = absurd (omega (arith, e))
plain_padded (kind ∷ kinds) (x ∷ args) zero e h = absurd (omega (arith, h))
plain_padded (kind ∷ kinds) (x ∷ args) (suc k) e h = ap (λ ws. (if is_pointer kind then 0 else word_of x) ∷ ws) (plain_padded kinds args k (omega (arith, e)) (omega (arith, h)))

same_count : (os : List Object) (kinds : List Kind) (args : List Value) (xs : List (List ℕ)) → slot.inputs_of os kinds args ≡ Some xs → length kinds ≡ length args
unfolding slot.inputs_of
same_count os [] [] xs e = refl
same_count os [] (x ∷ args) xs e = absurd cc
same_count os (kind ∷ kinds) [] xs e = absurd cc
same_count os (kind ∷ kinds) (x ∷ args) xs e = by_one (λ more g. same_count os kinds args more g) (slot.input_of os kind x (value_at args 0)) (slot.inputs_of os kinds args) refl e
  where
    by_one : ((more : List (List ℕ)) → slot.inputs_of os kinds args ≡ Some more → length kinds ≡ length args) → (s t : Option (List (List ℕ))) → slot.inputs_of os kinds args ≡ t → slot.and_inputs s t ≡ Some xs → length (kind ∷ kinds) ≡ length (x ∷ args)
    by_one on None t g h = absurd cc
    by_one on (Some ys) None g h = absurd cc
    by_one on (Some ys) (Some more) g h = let z = on more g in omega (arith, z)

plain_of : (os : List Object) (kinds : List Kind) (args : List Value) (xs : List (List ℕ)) → slot.inputs_of os kinds args ≡ Some xs → length kinds ≤ 6 → plain_words kinds (words_of args) ≡ plain_words kinds (words_in args)
plain_of os kinds args xs e h = ap (plain_words kinds) (words_padded args) ∙ plain_padded kinds args 6 (same_count os kinds args xs e) h

-- A list of arguments, each in its register.
pub are_held : (c : Program) (base : Bases) (os : List Object) (r : Regs) (k : ℕ) (args : List Value) → ((j : ℕ) (x : Value) → slice_get args j ≡ Some x → Means c base os x (reg r (k + j))) → AreHeld c base os r k args
are_held c base os r k [] h = tt
are_held c base os r k (x ∷ args) h = (
  let z : k + 0 ≡ k = omega arith in subst (λ n. Means c base os x (reg r n)) z (h 0 x refl),
  are_held c base os r (k + 1) args (λ j y e. let z : k + suc j ≡ k + 1 + j = omega arith in subst (λ n. Means c base os y (reg r n)) z (h (suc j) y e)),
)

-- A call that begins a thread has a function and a number.
pub data Begun (args : List Value) (inputs : List (List ℕ)) : Type 0 where
  begun : (f n : ℕ) → args ≡ Entry f ∷ Int n ∷ [] → inputs ≡ [] → Begun args inputs

two_words : (os : List Object) (f : ℕ) (args : List Value) (xs : List (List ℕ)) → slot.inputs_of os (Word ∷ Word ∷ []) (Int f ∷ args) ≡ Some xs → Begun (Entry f ∷ args) xs
unfolding slot.inputs_of slot.input_of
two_words os f [] xs e = absurd cc
two_words os f (Pointer o p ∷ args) xs e = absurd cc
two_words os f (Forged n ∷ args) xs e = absurd cc
two_words os f (Entry h ∷ args) xs e = absurd cc
two_words os f (Int n ∷ x ∷ args) xs e = absurd cc
two_words os f (Int n ∷ []) xs e = begun f n refl (let z : [] ≡ xs = cc in sym z)

entering : (os : List Object) (kinds : List Kind) (args : List Value) (xs : List (List ℕ)) → kinds ≡ Word ∷ Word ∷ [] → slot.inputs_by os kinds (slot.without_entry true args) ≡ Some xs → Begun args xs
entering os kinds [] xs k e = absurd cc
entering os kinds (Int n ∷ args) xs k e = absurd cc
entering os kinds (Pointer o p ∷ args) xs k e = absurd cc
entering os kinds (Forged n ∷ args) xs k e = absurd cc
entering os kinds (Entry f ∷ args) xs k e = two_words os f args xs (subst (λ ks. slot.inputs_of os ks (Int f ∷ args) ≡ Some xs) k e)

-- What the kernel takes of the call, and that it means slot code's.
pub record Taken (d : Placing) (v : View) (r : Regs) (number : ℕ) (args : List Value) (inputs : List (List ℕ)) : Type 0 where
  pub cooked : cook (rows_of d) v r ≡ Ok (record { number = number; words = words_from r 11 (rows_of d number).kinds; inputs = inputs })
  pub same : meant (rows_of d) (record { number = number; words = words_from r 11 (rows_of d number).kinds; inputs = inputs }) ≡ meant (rows_of d) (record { number = number; words = words_of args; inputs = inputs })
  pub entry : (rows_of d number).enters ≡ true → SameStart d (words_from r 11 (rows_of d number).kinds) (words_of args)

no_inputs : (v : View) (r : Regs) → view.inputs_of v 0 (Word ∷ Word ∷ []) (words_from r 11 (Word ∷ Word ∷ [])) ≡ Ok []
unfolding view.inputs_of view.input_of words_from
no_inputs v r = refl

two_registers : (r : Regs) → words_from r 11 (Word ∷ Word ∷ []) ≡ reg r 11 ∷ reg r 12 ∷ []
unfolding words_from
two_registers r = refl

plain_two : (ws : List ℕ) (a b : ℕ) → ws ≡ a ∷ b ∷ [] → (f : ℕ) (more : List ℕ) → calls.without_entry true (plain_words (Word ∷ Word ∷ []) ws) ≡ calls.without_entry true (plain_words (Word ∷ Word ∷ []) (f ∷ b ∷ more))
unfolding plain_words
plain_two ws a b e f more = ap (λ us. calls.without_entry true (plain_words (Word ∷ Word ∷ []) us)) e

meant_words : (rows : Rows) (number : ℕ) (us ws : List ℕ) (xs : List (List ℕ)) → calls.without_entry (rows number).enters (plain_words (rows number).kinds us) ≡ calls.without_entry (rows number).enters (plain_words (rows number).kinds ws)
    → meant rows (record { number = number; words = us; inputs = xs }) ≡ meant rows (record { number = number; words = ws; inputs = xs })
unfolding meant
meant_words rows number us ws xs e = ap (λ ys. (let c : Call = record { number = number; words = ys; inputs = xs } in c)) e

pub is_taken : (d : Placing) (c : Program) (v : View) (b : Bytes) (base : Bases) (os : List Object) → IsPlace c.place → Sees c.place v b → AreShown c base os b → c.links ≡ d.program.links → (r : Regs) (number : ℕ) (args : List Value) (inputs : List (List ℕ)) → reg r 10 ≡ number
    → length (rows_of d number).kinds ≤ 6 → ((rows_of d number).enters ≡ true → (rows_of d number).kinds ≡ Word ∷ Word ∷ []) → call_inputs (rows_of d number) os args ≡ Some inputs → AreHeld c base os r 11 args → Taken d v r number args inputs
unfolding call_inputs
is_taken d c v b base os place sees shown links r number args inputs e short two given held = by_enters (rows_of d number).enters refl given
  where
    kinds : List Kind
    kinds = (rows_of d number).kinds

    by_enters : (q : Bool) → (rows_of d number).enters ≡ q → slot.inputs_by os kinds (slot.without_entry q args) ≡ Some inputs → Taken d v r number args inputs
    by_enters false q f = record {
      cooked = cook_is (rows_of d) v r number kinds inputs e refl (inputs_same c v b base os place sees shown r 11 0 kinds args inputs f held);
      same = meant_words (rows_of d) number (words_from r 11 kinds) (words_of args) inputs (ap (calls.without_entry (rows_of d number).enters) (plain_same c base os r 11 kinds args inputs f held ∙ sym (plain_of os kinds args inputs f short)));
      entry = λ t. absurd (both (rows_of d number).enters q t);
    }
      where
        both : (q : Bool) → q ≡ false → q ≡ true → ⊥
        both true e f = absurd cc
        both false e f = absurd cc
    by_enters true q f = by_begun (entering os kinds args inputs (two q) f)
      where
        by_begun : Begun args inputs → Taken d v r number args inputs
        by_begun (begun f n p i) =
            let k = two q in
            let ws : words_from r 11 kinds ≡ reg r 11 ∷ reg r 12 ∷ [] = ap (words_from r 11) k ∙ two_registers r in
            let h = subst (λ xs. AreHeld c base os r 11 xs) p held in
            let second : reg r 12 ≡ n = h.1.0 in
            let first : reg r 11 ≡ d.program.links (Function f) = h.0 ∙ ap (λ (l : _). l (Function f)) links in
            let us : words_of args ≡ f ∷ n ∷ 0 ∷ 0 ∷ 0 ∷ 0 ∷ [] = ap words_of p in
            record {
              cooked = cook_is (rows_of d) v r number kinds inputs e refl (ap (λ ks. view.inputs_of v 0 ks (words_from r 11 ks)) k ∙ no_inputs v r ∙ ap (λ xs. Ok xs) (sym i));
              same = meant_words (rows_of d) number (words_from r 11 kinds) (words_of args) inputs
                  (subst (λ m. calls.without_entry m (plain_words kinds (words_from r 11 kinds)) ≡ calls.without_entry m (plain_words kinds (words_of args))) (sym q)
                  (subst (λ ks. calls.without_entry true (plain_words ks (words_from r 11 kinds)) ≡ calls.without_entry true (plain_words ks (words_of args))) (sym k)
                  (plain_two (words_from r 11 kinds) (reg r 11) n (ws ∙ ap (λ x. reg r 11 ∷ x ∷ []) second) f (0 ∷ 0 ∷ 0 ∷ 0 ∷ []) ∙ ap (λ xs. calls.without_entry true (plain_words (Word ∷ Word ∷ []) xs)) (sym us))));
              entry = λ t. subst (λ xs. SameStart d xs (words_of args)) (sym ws) (subst (λ xs. SameStart d (reg r 11 ∷ reg r 12 ∷ []) xs) (sym us) (first, second));
            }

no_outputs : (w : View) (r : Regs) (outs : List (List ℕ)) → view.with_outputs w (Word ∷ Word ∷ []) (words_from r 11 (Word ∷ Word ∷ [])) outs ≡ w
unfolding view.with_outputs words_from
no_outputs w r [] = refl
no_outputs w r (out ∷ outs) = refl

no_pointer : (os : List Object) (outs : List (List ℕ)) → slot.with_outputs os [] outs ≡ os
no_pointer os [] = refl
no_pointer os (out ∷ outs) = refl

room_is : (rows : Rows) (call : Call) (a : Reply) → Fits rows (meant rows call) a → HaveRoom (output_rooms (rows call.number).kinds (calls.without_entry (rows call.number).enters (plain_words (rows call.number).kinds call.words))) a.outputs
unfolding meant
room_is rows call a fits = fits.room

-- What a reply leaves of the view and of the objects.
pub put_back : (d : Placing) (c : Program) (w : View) (b : Bytes) (base : Bases) (os asked : List Object) → IsPlace c.place → Sees c.place w b → AreShown c base os b → SameKind asked os → (r : Regs) (call : Call) (args : List Value) (a : Reply) → reg r 10 ≡ call.number → call.words ≡ words_of args
    → length (rows_of d call.number).kinds ≤ 6 → ((rows_of d call.number).enters ≡ true → (rows_of d call.number).kinds ≡ Word ∷ Word ∷ []) → call_inputs (rows_of d call.number) asked args ≡ Some call.inputs → AreHeld c base asked r 11 args → Fits (rows_of d) (meant (rows_of d) call) a
    → Delivered c base os (slot.with_outputs os (outputs_of (rows_of d call.number).kinds args) a.outputs) w (deliver (rows_of d) w r a.outputs) b
unfolding call_inputs
put_back d c w b base os asked place sees shown kind r call args a e words short two given held fits =
    subst (λ u. Delivered c base os (slot.with_outputs os (outputs_of (rows_of d call.number).kinds args) a.outputs) w u b) (sym (deliver_is (rows_of d) w r call.number a.outputs e))
    (by_enters (rows_of d call.number).enters refl given (room_is (rows_of d) call a fits))
  where
    kinds : List Kind
    kinds = (rows_of d call.number).kinds

    by_enters : (q : Bool) → (rows_of d call.number).enters ≡ q → slot.inputs_by asked kinds (slot.without_entry q args) ≡ Some call.inputs → HaveRoom (output_rooms kinds (calls.without_entry (rows_of d call.number).enters (plain_words kinds call.words))) a.outputs
        → Delivered c base os (slot.with_outputs os (outputs_of kinds args) a.outputs) w (view.with_outputs w kinds (words_from r 11 kinds) a.outputs) b
    by_enters false q f room =
        let same : calls.without_entry (rows_of d call.number).enters (plain_words kinds call.words) ≡ plain_words kinds (words_in args) = ap (λ m. calls.without_entry m (plain_words kinds call.words)) q ∙ ap (plain_words kinds) words ∙ plain_of asked kinds args call.inputs f short in
        delivers c base asked place r 11 kinds args (plain_words kinds (words_in args)) a.outputs call.inputs os w b f (subst (λ ws. HaveRoom (output_rooms kinds ws) a.outputs) same room) (under_plain asked kinds args call.inputs f) held fits.bytes sees shown kind
    by_enters true q f room = by_begun (entering asked kinds args call.inputs (two q) f)
      where
        by_begun : Begun args call.inputs → Delivered c base os (slot.with_outputs os (outputs_of kinds args) a.outputs) w (view.with_outputs w kinds (words_from r 11 kinds) a.outputs) b
        by_begun (begun f n p i) =
            let k = two q in
            let none : outputs_of kinds args ≡ [] = ap (λ ks. outputs_of ks args) k ∙ ap (outputs_of (Word ∷ Word ∷ [])) p in
            let left : view.with_outputs w kinds (words_from r 11 kinds) a.outputs ≡ w = ap (λ ks. view.with_outputs w ks (words_from r 11 ks) a.outputs) k ∙ no_outputs w r a.outputs in
            let same : slot.with_outputs os (outputs_of kinds args) a.outputs ≡ os = ap (λ xs. slot.with_outputs os xs a.outputs) none ∙ no_pointer os a.outputs in
            subst (λ u. Delivered c base os (slot.with_outputs os (outputs_of kinds args) a.outputs) w u b) (sym left)
            (subst (λ xs. Delivered c base os xs w w b) (sym same) (record { bytes = b; sees = sees; shown = shown; only = only_none c.place w; kind = kind_same os; rest = λ x h. refl }))

-- Words that keep slot code keep it as a program of the system.
use Rattle.std.proofs.Common.{◌≡◌, ℕ, zero, suc, ◌+◌, ◌-◌, ◌*◌, ◌^◌, ◌<◌, ◌≤◌, List, [], ◌∷◌, ◌++◌, length, Bool, true, false, Ok, refl, sym, ap, ◌∙◌, subst, arith}
use Rattle.std.specs.Prelude.{◌==◌, if◌then◌else◌}
use Rattle.std.specs.Int.{w32}
use Rattle.std.proofs.lemmas.Bool.Decides.{nat_tests}
use Rattle.std.proofs.lemmas.Int.{of_z-to_z}
use Rattle.nx_base.specs.declared.regs.Regs.{Regs}
use Rattle.nx_base.specs.declared.calls.Kind.TheVariants.{Word}
use Rattle.nx_base.specs.Arithmetic.{signed}
use Rattle.nx_base.specs.Arithmetic.{word_of as signed_word}
use Rattle.nx_base.specs.Registers.{reg, with_reg}
use Rattle.nx_base.specs.Views.{View}
use Rattle.nx_base.specs.Ranges.{Shows}
use Rattle.nx_base.specs.Calls as calls
use Rattle.nx_base.specs.Calls.{Call, Reply, meant, Fits}
use Rattle.nx_base.specs.Copying.{cook, words_from, input_of, inputs_of, as_call, deliver}
use Rattle.nx_rv.specs.Execution.{stretch, ReachesCall}
use Rattle.nx_cmean.specs.Meanings.{WhereStill}
use Rattle.nx_cmean.specs.Homes.{HasText, Alike, IsZeroed, SameOwn}
use Rattle.nx_slot.specs.Objects.{Value, Int, Object}
use Rattle.nx_slot.specs.Calls as slot
use Rattle.nx_slot.specs.Calls.{words_of, outputs_of}
use Rattle.nx_slot.specs.Meaning.{SlotState, state, delivered, function_at}
use Rattle.nx_slot.specs.Runs.{SlotReach, Going, Requested, Finished, Overflowed, Failed, then_on, run, begun, with_globals, globals_in, own_in}
use Rattle.nx_linked.specs.Linked.{Program}
use Rattle.nx_linked.specs.Doing.{Reaches}
use Rattle.nx_kept.specs.Keeps as general
use Rattle.nx_kept.specs.Keeps.{IsStart}
use Rattle.nx_kept.proofs.Whole.{keeps_program}
use Rattle.nx_keeps.specs.Keeps as keeps
use Rattle.nx_cmean.specs.Runs.{end_call, first_word, second_word}
use Rattle.nx_keeps.specs.Programs.{SlotThread, Fresh, Runs, Waits, Lost, own_state, reach_of, both_of, may_begin, first_values, slot_program}
use Rattle.nx_cooked.specs.Laws.{Delivered}
use Rattle.nx_cooked.proofs.Putting.{kind_then}
use Rattle.nx_placed.specs.Placing.{Placing, rows_of, ending_of, at_slot, home_of_slots, SameStart, Begins, IsPlaced}
use Rattle.nx_placed.specs.Laws.{WordsKeepSlotPrograms}
use Rattle.nx_placed.proofs.Joined.{mix, mix_stack, only_in, text_same, text_only, is_place, sees_at, alike_left, left, kind_again, resumed, statics, off_stack}
use Rattle.nx_placed.proofs.Calls.{are_held, is_taken, put_back}

-- A call that is reached from every number of instructions is reached.
reached : (n : ℕ) (r : Regs) (v : View) (s : Regs) (w : View) → Reaches n r v s w → ReachesCall n r v s w
reached n r v s w h = let z : 0 + n ≡ n = omega arith in ap (λ m. stretch m r v) (sym z) ∙ h 0

numbered : (a n : ℕ) → a ≡ n → 1 ≤ n → (a == 0) ≡ false
numbered a n e h = grind (arith, nat_tests)

ending_cooked : (rows : calls.Rows) (v : View) (r : Regs) (number : ℕ) → reg r 10 ≡ number → rows number ≡ record { kinds = Word ∷ []; enters = false } → cook rows v r ≡ Ok (record { number = number; words = reg r 11 ∷ []; inputs = [] })
unfolding cook words_from inputs_of input_of
ending_cooked rows v r number e row =
    ap (λ n. as_call n (words_from r 11 (rows n).kinds) (inputs_of v 0 (rows n).kinds (words_from r 11 (rows n).kinds))) e
    ∙ ap (λ (x : calls.Row). as_call number (words_from r 11 x.kinds) (inputs_of v 0 x.kinds (words_from r 11 x.kinds))) row

signed_back : (n : ℕ) → n < 2 ^ 32 → signed_word (signed n) ≡ n
signed_back n h = of_z-to_z w32 n h

ending_some : (b : Bool) → (ending_of b == 0) ≡ false
ending_some true = refl
ending_some false = refl

module _ (d : Placing) (placed : IsPlaced d) (slot_number : ℕ) (below : slot_number < d.slots) where
  abbrev SlotKeeps : ℕ → SlotThread → Regs → View → ℕ → Type 0
  SlotKeeps n t r v saved = keeps.Keeps (slot_program d.program.code d.main) (home_of_slots d) 1 slot_number n t r v saved

  module _ (b : Bool) where
    abbrev c : Program
    c = at_slot d slot_number b

    -- What is promised of a thread that goes on, whatever its globals then are.
    abbrev On : ℕ → SlotState → Regs → View → ℕ → Type 0
    On n s r v saved = (g : List Object) (w : View) → SameOwn (home_of_slots d) slot_number v w → Alike (home_of_slots d) g w → general.Keeps c n (with_globals g s) r w saved

    abbrev Later : ℕ → Type 0
    Later n = (s : SlotState) (r : Regs) (v : View) (saved : ℕ) → HasText (home_of_slots d) v → On n s r v saved → SlotKeeps n (Runs (ending_of b) s) r v saved

    comes : (r : Regs) (v : View) (saved cost : ℕ) (call : Call) (outputs : List Value) (s : SlotState) → HasText (home_of_slots d) v → general.Comes c r v call outputs s (saved + cost) → keeps.Comes (slot_program d.program.code d.main) (home_of_slots d) 1 slot_number r v call (globals_in d.program.statics s.objects) (saved + 1 * cost)
    comes r v saved cost call outputs s text m =
        let cheap = m.cheap in
        let place = is_place d placed slot_number below b in
        let held = are_held c m.base s.objects m.regs 11 m.arguments m.arguments_are in
        let k = is_taken d c m.view m.bytes m.base s.objects place m.sees m.shown refl m.regs call.number m.arguments call.inputs m.number (placed.short call.number) (placed.enters call.number) m.inputs held in
        let as_words = ap (λ ws. (let x : Call = record { number = call.number; words = ws; inputs = call.inputs } in x)) m.words in
        record {
          cost = m.cost;
          regs = m.regs;
          view = m.view;
          cheap = omega (arith, cheap);
          reaches = reached m.cost r v m.regs m.view m.reaches;
          numbered = numbered (reg m.regs 10) call.number m.number m.some;
          call = record { number = call.number; words = words_from m.regs 11 (rows_of d call.number).kinds; inputs = call.inputs };
          cooked = k.cooked;
          same = k.same ∙ ap (meant (rows_of d)) (sym as_words);
          entry = λ t. subst (λ ws. SameStart d (words_from m.regs 11 (rows_of d call.number).kinds) ws) (sym m.words) (k.entry t);
          only = only_in d slot_number b v m.view m.only;
          alike = alike_left d placed slot_number below b m.view s.objects (left d placed slot_number below b m.view s.objects m.base m.bytes m.sees m.shown) (text_only d placed slot_number below b v m.view m.only text);
        }

    -- Each reply.
    replies : (n : ℕ) (r : Regs) (v : View) (saved cost : ℕ) (call : Call) (outputs : List Value) (s : SlotState) → HasText (home_of_slots d) v → (m : general.Comes c r v call outputs s (saved + cost))
        → general.OnReply c (λ t q w. general.Keeps c n t q w (saved + cost - m.cost)) s m.base m.sp m.bytes m.regs → Later n
        → keeps.OnReply (slot_program d.program.code d.main) (home_of_slots d) 1 slot_number (λ t q w. SlotKeeps n t q w (saved + 1 * cost - m.cost)) (meant (rows_of d) call) (Waits (ending_of b) outputs (own_state d.program.statics s)) m.regs m.view
    replies n r v saved cost call outputs s text m on later = λ g w a own al fits. answer g w a own al fits
      where
        count : ℕ
        count = d.program.statics

        answer : (g : List Object) (w : View) (a : Reply) → SameOwn (home_of_slots d) slot_number m.view w → Alike (home_of_slots d) g w → Fits (rows_of d) (meant (rows_of d) call) a
            → keeps.Answered (slot_program d.program.code d.main) (home_of_slots d) 1 slot_number (λ t q w. SlotKeeps n t q w (saved + 1 * cost - m.cost)) ((slot_program d.program.code d.main).reply g (Waits (ending_of b) outputs (own_state count s)) a) (with_reg m.regs 10 a.value) w (deliver (rows_of d) w m.regs a.outputs)
        answer g w a own al fits =
            subst (λ k. keeps.Answered (slot_program d.program.code d.main) (home_of_slots d) 1 slot_number (λ t q w. SlotKeeps n t q w (saved + 1 * cost - m.cost)) (both_of k (ending_of b) (state (delivered s.frames (Int a.value)) (slot.with_outputs (g ++ own_in count s.objects) outputs a.outputs))) (with_reg m.regs 10 a.value) w (deliver (rows_of d) w m.regs a.outputs)) (sym al.holds.count) (
            let place = is_place d placed slot_number below b in
            let os = s.objects in
            let held = are_held c m.base os m.regs 11 m.arguments m.arguments_are in
            let text0 = text_only d placed slot_number below b v m.view m.only text in
            let text1 = text_same d placed m.view w own.text text0 in
            let d1 = mix c.place d.text_bytes m.bytes al.bytes in
            let sees1 = sees_at d placed slot_number below b w m.bytes g (own.stack.shows true m.bytes m.sees.stack) m.sees.small text1 al in
            let os1 = g ++ own_in count os in
            let t1 = resumed d placed slot_number below b m.base m.bytes os g al.bytes m.shown al.holds in
            let k1 = kind_again d placed slot_number below b m.base m.bytes os g al.bytes m.shown al.holds in
            let u = deliver (rows_of d) w m.regs a.outputs in
            let dl0 = put_back d c w d1 m.base os1 os place sees1 t1 k1 m.regs call m.arguments a m.number m.words (placed.short call.number) (placed.enters call.number) m.inputs held fits in
            let os2 = slot.with_outputs os1 outputs a.outputs in
            let dl = subst (λ xs. Delivered c m.base os1 (slot.with_outputs os1 xs a.outputs) w u d1) (sym m.outputs_are) dl0 in
            let text2 = text_only d placed slot_number below b w u dl.only text1 in
            let after = state (delivered s.frames (Int a.value)) os2 in
            let q : saved + cost - m.cost ≡ saved + 1 * cost - m.cost = omega arith in
            record {
              only = only_in d slot_number b w u dl.only;
              alike = alike_left d placed slot_number below b u os2 (left d placed slot_number below b u os2 m.base dl.bytes dl.sees dl.shown) text2;
              goes_on = subst (λ y. SlotKeeps n (Runs (ending_of b) (own_state count after)) (with_reg m.regs 10 a.value) u y) q
                  (later (own_state count after) (with_reg m.regs 10 a.value) u (saved + cost - m.cost) text2 (λ g2 w2 own2 al2.
                  let text3 = text_same d placed u w2 own2.text text2 in
                  let d2 = mix c.place d.text_bytes dl.bytes al2.bytes in
                  let sees2 = sees_at d placed slot_number below b w2 dl.bytes g2 (own2.stack.shows true dl.bytes dl.sees.stack) dl.sees.small text3 al2 in
                  let t2 = resumed d placed slot_number below b m.base dl.bytes os2 g2 al2.bytes dl.shown al2.holds in
                  let k2 = kind_again d placed slot_number below b m.base dl.bytes os2 g2 al2.bytes dl.shown al2.holds in
                  let whole = kind_then os os1 (g2 ++ own_in count os2) k1 (kind_then os1 os2 (g2 ++ own_in count os2) dl.kind k2) in
                  on a.value (g2 ++ own_in count os2) w2 d2 fits.value whole.shape sees2 t2 (λ x i.
                  let z = m.inside x i in
                  mix_stack c.place place d.text_bytes dl.bytes al2.bytes x z.0 z.1
                  ∙ dl.rest x (λ o y. m.off o x (y.0, subst (λ l. x < m.base o + l) (k1.shape.sizes o) y.1) i)
                  ∙ mix_stack c.place place d.text_bytes m.bytes al.bytes x z.0 z.1)));
            })

    ends : (r : Regs) (v : View) (saved cost m : ℕ) (os : List Object) → HasText (home_of_slots d) v → general.Ends c r v m os (saved + cost) → keeps.Comes (slot_program d.program.code d.main) (home_of_slots d) 1 slot_number r v (end_call (ending_of b) (signed_word (signed m))) (globals_in d.program.statics os) (saved + 1 * cost)
    ends r v saved cost m os text k =
        let cheap = k.cheap in
        let row = placed.ends b in
        record {
          cost = k.cost;
          regs = k.regs;
          view = k.view;
          cheap = omega (arith, cheap);
          reaches = reached k.cost r v k.regs k.view k.reaches;
          numbered = ap (λ n. n == 0) k.number ∙ ending_some b;
          call = record { number = ending_of b; words = reg k.regs 11 ∷ []; inputs = [] };
          cooked = ending_cooked (rows_of d) k.view k.regs (ending_of b) k.number row;
          same = ap (λ n. meant (rows_of d) (record { number = ending_of b; words = n ∷ []; inputs = [] })) (k.value_is ∙ sym (signed_back m k.small));
          entry = λ t. absurd (let z : false ≡ true = sym (ap (λ (x : calls.Row). x.enters) row) ∙ t in cc);
          only = only_in d slot_number b v k.view k.only;
          alike = alike_left d placed slot_number below b k.view os k.leaves (text_only d placed slot_number below b v k.view k.only text);
        }

    follows : (n : ℕ) (r : Regs) (v : View) (saved : ℕ) (x : SlotReach) → HasText (home_of_slots d) v → Later n → general.Follows c (general.Keeps c n) r v saved x → keeps.Follows (slot_program d.program.code d.main) (home_of_slots d) 1 slot_number (SlotKeeps n) r v saved (reach_of d.program.statics (ending_of b) x)
    unfolding comes
    follows n r v saved (Going s cost) text later k = tt
    follows n r v saved (Requested call outputs s cost) text later k = (comes r v saved cost call outputs s text k.0, replies n r v saved cost call outputs s text k.0 k.1 later)
    follows n r v saved (Finished m os cost) text later k = ends r v saved cost m os text k
    follows n r v saved (Overflowed need cost) text later k = let cheap = k.cheap in record {
      cost = k.cost;
      regs = k.regs;
      view = k.view;
      cheap = omega (arith, cheap);
      reaches = reached k.cost r v k.regs k.view k.reaches;
      numbered = ap (λ n. n == 0) k.number;
      needs = k.need_is;
    }
    follows n r v saved (Failed fault) text later k = tt

    still : (count : ℕ) (x : SlotReach) (P : Type 0) → general.WhereGoing x P → WhereStill (reach_of count (ending_of b) x) P
    still count (Going s cost) P w = w
    still count (Requested call outputs s cost) P w = tt
    still count (Finished m os cost) P w = tt
    still count (Overflowed need cost) P w = tt
    still count (Failed fault) P w = tt

    goes_on : (n : ℕ) → Later n
    goes_on zero s r v saved text on = tt
    goes_on (suc n) s r v saved text on = λ g w own al.
        let k = on g w own al in
        let text1 = text_same d placed v w own.text text in
        record {
          follows = λ m. subst (λ j. keeps.Follows (slot_program d.program.code d.main) (home_of_slots d) 1 slot_number (SlotKeeps n) r w saved (reach_of j (ending_of b) (run d.program.code m (with_globals g s)))) (sym al.holds.count)
              (follows n r w saved (run d.program.code m (with_globals g s)) text1 (goes_on n) (k.follows m));
          waits = λ m. let h = k.waits m in (h.0, still (length g) (run d.program.code h.0 (with_globals g s)) _ h.1);
        }

    -- A thread that begins.
    begins : (n f : ℕ) (args : List Value) (r : Regs) (v : View) → Begins c f args r → HasText (home_of_slots d) v → IsZeroed (home_of_slots d) slot_number v → SlotKeeps n (Fresh (ending_of b) f args) r v 0
    begins zero f args r v s text zeros = tt
    begins (suc n) f args r v s text zeros = λ g w own al.
        let text1 = text_same d placed v w own.text text in
        let k = (keeps_program c (placed.linked slot_number b below)).keeps f n args g r w (first g w (own.stack.shows true (λ a. 0) zeros) text1 al) in
        record {
          follows = λ m. subst (λ j. keeps.Follows (slot_program d.program.code d.main) (home_of_slots d) 1 slot_number (SlotKeeps n) r w 0 (reach_of j (ending_of b) (then_on (begun d.program.code f args g) (run d.program.code m)))) (sym al.holds.count)
              (follows n r w 0 (then_on (begun d.program.code f args g) (run d.program.code m)) text1 (goes_on n) (k.follows m));
          waits = λ m. let h = k.waits m in (h.0, still (length g) (then_on (begun d.program.code f args g) (run d.program.code h.0)) _ h.1);
        }
      where
        first : (g : List Object) (w : View) → Shows w true (d.stack slot_number) (λ a. 0) → HasText (home_of_slots d) w → Alike (home_of_slots d) g w → IsStart c f args g r w
        first g w zeroed text1 al = record {
          known = s.known;
          bytes = mix c.place d.text_bytes (λ a. 0) al.bytes;
          sees = sees_at d placed slot_number below b w (λ a. 0) g zeroed (λ a. omega arith) text1 al;
          size = s.size;
          small = s.small;
          pc_is = s.pc_is;
          back = s.back;
          pointer = s.pointer;
          top = s.top;
          low = s.low;
          count = s.count;
          arguments_are = λ j x e. s.arguments_are g j x e;
          shown = statics d placed slot_number below b g al.bytes al.holds;
          outside = λ o a i z u. off_stack d placed slot_number below b g al.bytes al.holds o a i z u;
        }

  lost : (n : ℕ) (r : Regs) (v : View) (saved : ℕ) → SlotKeeps n Lost r v saved
  lost zero r v saved = tt
  lost (suc n) r v saved = λ g w own al. record { follows = λ m. tt; waits = λ m. (0, tt) }

  -- A thread that a call begins.
  may_parts : (q : Bool) (f functions params : ℕ) → may_begin q f functions params ≡ true → (q ≡ true) × (f < functions) × (params ≤ 1)
  may_parts true f functions params e = (refl, grind (arith, nat_tests), grind (arith, nat_tests))
  may_parts false f functions params e = absurd cc

  same_two : (us words : List ℕ) → SameStart d us words → SameStart d us (first_word words ∷ second_word words ∷ [])
  same_two [] words h = absurd h
  same_two (word ∷ rest) [] h = absurd h
  same_two (word ∷ rest) (f ∷ []) h = h
  same_two (word ∷ rest) (f ∷ m ∷ words) h = h

  thread_from : (n : ℕ) (v : View) (enters : Bool) (words started : List ℕ) (r : Regs) → (enters ≡ true → SameStart d started words)
      → ((f m : ℕ) → f < length d.program.code.functions → (function_at d.program.code f).params ≤ 1 → SameStart d started (f ∷ m ∷ []) → Begins (at_slot d slot_number true) f (first_values (function_at d.program.code f).params m) r)
      → HasText (home_of_slots d) v → IsZeroed (home_of_slots d) slot_number v
      → SlotKeeps n (if may_begin enters (first_word words) (length d.program.code.functions) (function_at d.program.code (first_word words)).params then Fresh 2 (first_word words) (first_values (function_at d.program.code (first_word words)).params (second_word words)) else Lost) r v 0
  thread_from n v enters words started r same begin text zeros = by_test (may_begin enters (first_word words) (length d.program.code.functions) (function_at d.program.code (first_word words)).params) refl
    where
      by_test : (q : Bool) → may_begin enters (first_word words) (length d.program.code.functions) (function_at d.program.code (first_word words)).params ≡ q
          → SlotKeeps n (if q then Fresh 2 (first_word words) (first_values (function_at d.program.code (first_word words)).params (second_word words)) else Lost) r v 0
      by_test true e =
          let k = may_parts enters (first_word words) (length d.program.code.functions) (function_at d.program.code (first_word words)).params e in
          begins true n (first_word words) (first_values (function_at d.program.code (first_word words)).params (second_word words)) r v (begin (first_word words) (second_word words) k.1 k.2 (same_two started words (same k.0))) text zeros
      by_test false e = lost n r v 0

-- The words keep the program.
pub keeps_slot_program : WordsKeepSlotPrograms
keeps_slot_program d placed = record {
  main = λ slot_number n v below text zeros. begins d placed slot_number below false n d.main (first_values (function_at d.program.code d.main).params 0) (d.main_regs slot_number) v (placed.main_begins slot_number below) text zeros;
  thread = λ slot_number n v asked started below same text zeros. thread_from d placed slot_number below n v (rows_of d asked.number).enters asked.words started.words (d.thread_regs slot_number started) same (λ f m h k s. placed.thread_begins slot_number f m started below h k s) text zeros;
}

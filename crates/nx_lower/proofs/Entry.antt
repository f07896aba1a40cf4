-- Where what a call has to do lies in its function's code.
use Rattle.std.proofs.Common.{◌≡◌, ℕ, zero, suc, ◌+◌, ◌-◌, ◌*◌, ◌<◌, ◌≤◌, List, [], ◌∷◌, ◌++◌, length, map, Some, refl, sym, ap, ◌∙◌, subst, arith, length-append}
use Rattle.std.specs.Prelude.{slice_get, max}
use Rattle.std.proofs.lemmas.List.{length-map}
use Rattle.nx_base.specs.Calls.{Rows}
use Rattle.nx_checked.specs.declared.checked.Scalar.{Scalar}
use Rattle.nx_checked.specs.declared.checked.Shape.{Shape}
use Rattle.nx_checked.specs.Trees.{Expr, Fun}
use Rattle.nx_cmean.specs.Items.{Item, Forget, Fall, Start, Gap, Make, starts_then, gaps_then, arrays_then, initials_then, rest_then, entry_then, steps_of}
use Rattle.nx_cmean.specs.Meaning.{fun_at, no_fun}
use Rattle.nx_slot.specs.declared.op.Operand.TheVariants as operand
use Rattle.nx_slot.specs.declared.op.SlotOp.{SlotOp}
use Rattle.nx_slot.specs.declared.op.SlotOp.TheVariants as op
use Rattle.nx_slot.specs.declared.program.SlotArray.{SlotArray}
use Rattle.nx_slot.specs.Meaning.{Code, function_at, no_function}
use Rattle.nx_lower.specs.Code.{Source, expr_code}
use Rattle.nx_lower.specs.Bodies.{all_temps, stmts_temps, stmts_code, start_code, starts_code, makes_code, initials_code, cells_of, fun_code, array_of, lower_fun, code_of}
use Rattle.nx_lower.specs.Sound.{Stage, SoundAll, SoundFun, whole}
use Rattle.nx_lower.proofs.Parts.{get_mapped}
use Rattle.nx_lower.proofs.Cells.{Plain}
use Rattle.nx_lower.proofs.Steps.{HasAt, has_front, has_back, ops_in, limit}
use Rattle.nx_lower.proofs.Lies.{Lies, EntryLies, stands, lies_at}
use Rattle.nx_lower.proofs.Spread.{expr_lies}
use Rattle.nx_lower.proofs.Begun.{up, rest_lies}

-- The code of a function, all of it.
has_shift : (o : SlotOp) (code : List SlotOp) (pc : ℕ) (is : List SlotOp) → HasAt code pc is → HasAt (o ∷ code) (suc pc) is
has_shift o code pc [] h = tt
has_shift o code pc (i ∷ is) h = (h.0, let e : suc (pc + 1) ≡ suc pc + 1 = omega arith in subst (λ n. HasAt (o ∷ code) n is) e (has_shift o code (pc + 1) is h.1))

has_all : (is : List SlotOp) → HasAt is 0 is
has_all [] = tt
has_all (i ∷ is) = (refl, has_shift i is 0 is (has_all is))

-- Arrays stand in a list from a place on.
abbrev ArraysAt : List SlotArray → ℕ → List Shape → Type 0
ArraysAt l n [] = Unit {0}
ArraysAt l n (a ∷ arrays) = (slice_get l n ≡ Some (array_of a)) × ArraysAt l (suc n) arrays

arrays_shift : (b : SlotArray) (l : List SlotArray) (n : ℕ) (arrays : List Shape) → ArraysAt l n arrays → ArraysAt (b ∷ l) (suc n) arrays
arrays_shift b l n [] h = tt
arrays_shift b l n (a ∷ arrays) h = (h.0, arrays_shift b l (suc n) arrays h.1)

arrays_all : (arrays : List Shape) → ArraysAt (map array_of arrays) 0 arrays
arrays_all [] = tt
arrays_all (a ∷ arrays) = (refl, arrays_shift (array_of a) (map array_of arrays) 0 arrays (arrays_all arrays))

pub function_is : (s : Source) (rows : Rows) (stack f : ℕ) → f < length s.program.functions → function_at (code_of s rows stack) f ≡ lower_fun s (fun_at s.program f)
function_is s rows stack f h = get_mapped (lower_fun s) s.program.functions f no_function no_fun h

module _ (s : Source) (p : Code) (f back exit : ℕ) where
  -- What lies here is no start.
  pub entered : (k : List Item) (pc : ℕ) (z : Stage) (o : ℕ) → (function_at p f).locals ≤ z.cells → Lies s p f back exit k pc z 0 Plain o → EntryLies s p f back exit k pc z o
  entered [] pc z o h l = absurd l
  entered (Start t ∷ k) pc z o h l = absurd l.5
  entered (Gap n ∷ k) pc z o h l = absurd l.5
  entered (Make a ∷ k) pc z o h l = absurd l.5
  entered (i ∷ k) pc z o h l = (h, l)

  initials_lie : (es : List Expr) (k : List Item) (pc : ℕ) (z : Stage) (o : ℕ) → HasAt (ops_in p f) pc (initials_code s z.cells es) → SoundAll s z es → z.cells + all_temps es ≤ limit p f → Lies s p f back exit k (pc + length (initials_code s z.cells es)) z 0 Plain o → Lies s p f back exit (initials_then es k) pc z 0 Plain o
  initials_lie [] k pc z o has sound fits l = let e : pc + 0 ≡ pc = omega arith in lies_at s p f back exit k (pc + 0) pc z 0 Plain o e l
  initials_lie (x ∷ es) k pc z o has sound fits l =
      let cx = expr_code s z.cells 0 x in let ce = initials_code s z.cells es in
      let e : pc + length (cx ++ ce) ≡ pc + length cx + length ce = omega (arith, length-append cx ce) in
      expr_lies s p x f back exit (Forget ∷ initials_then es k) pc z 0 o sound.0 (omega (arith, fits)) (has_front (ops_in p f) pc cx ce has)
      (stands s p f back exit Forget (initials_then es k) (pc + length cx) z (suc 0) Plain (o + 16)
      (up s p f back exit (initials_then es k) (pc + length cx) z o (o + 16) (omega arith)
      (initials_lie es k (pc + length cx) z o (has_back (ops_in p f) pc cx ce has) sound.1 (omega (arith, fits)) (lies_at s p f back exit k _ _ z 0 Plain o e l))))

  pub gaps_lie : (n : ℕ) (k : List Item) (pc : ℕ) (z : Stage) (o : ℕ) → EntryLies s p f back exit k pc z (o + 3 * n) → EntryLies s p f back exit (gaps_then n k) pc z o
  gaps_lie zero k pc z o l = let e : o + 3 * 0 ≡ o = omega arith in subst (λ o. EntryLies s p f back exit k pc z o) e l
  gaps_lie (suc n) k pc z o l = l

  arrays_lie : (arrays : List Shape) (k : List Item) (pc n made o : ℕ) → HasAt (ops_in p f) pc (makes_code arrays made) → ArraysAt (function_at p f).arrays made arrays
      → EntryLies s p f back exit k (pc + length (makes_code arrays made)) (record { cells = n; made = made + length arrays }) o → EntryLies s p f back exit (arrays_then arrays k) pc (record { cells = n; made = made }) o
  arrays_lie [] k pc n made o has at l =
      let e : pc + 0 ≡ pc = omega arith in let m : made + 0 ≡ made = omega arith in
      subst (λ pc. EntryLies s p f back exit k pc (record { cells = n; made = made }) o) e (subst (λ m. EntryLies s p f back exit k (pc + 0) (record { cells = n; made = m }) o) m l)
  arrays_lie (a ∷ arrays) k pc n made o has at l =
      let e : pc + length (makes_code (a ∷ arrays) made) ≡ pc + 1 + length (makes_code arrays (suc made)) = omega arith in let m : made + suc (length arrays) ≡ suc made + length arrays = omega arith in
      gaps_lie (steps_of a - 1) (Make a ∷ arrays_then arrays k) pc (record { cells = n; made = made }) o (
        o,
        omega arith,
        has.0,
        at.0,
        arrays_lie arrays k (pc + 1) n (suc made) o has.1 at.1
            (subst (λ pc. EntryLies s p f back exit k pc (record { cells = n; made = suc made + length arrays }) o) e (subst (λ m. EntryLies s p f back exit k (pc + length (makes_code (a ∷ arrays) made)) (record { cells = n; made = m }) o) m l)),
      )

  starts_lie : (ts : List Scalar) (k : List Item) (pc n made o : ℕ) → HasAt (ops_in p f) pc (starts_code ts n) → n + length ts ≤ limit p f
      → EntryLies s p f back exit k (pc + length (starts_code ts n)) (record { cells = n + length ts; made = made }) o → EntryLies s p f back exit (starts_then ts k) pc (record { cells = n; made = made }) o
  starts_lie [] k pc n made o has fits l =
      let e : pc + 0 ≡ pc = omega arith in let m : n + 0 ≡ n = omega arith in
      subst (λ pc. EntryLies s p f back exit k pc (record { cells = n; made = made }) o) e (subst (λ n. EntryLies s p f back exit k (pc + 0) (record { cells = n; made = made }) o) m l)
  starts_lie (t ∷ ts) k pc n made o has fits l =
      let ct = start_code t n in let cs = starts_code ts (suc n) in
      let e : pc + length (ct ++ cs) ≡ pc + length ct + length cs = omega (arith, length-append ct cs) in let m : n + suc (length ts) ≡ suc n + length ts = omega arith in (
        has_front (ops_in p f) pc ct cs has,
        omega (arith, fits),
        starts_lie ts k (pc + length ct) (suc n) made o (has_back (ops_in p f) pc ct cs has) (omega (arith, fits))
            (subst (λ pc. EntryLies s p f back exit k pc (record { cells = suc n + length ts; made = made }) o) e (subst (λ n. EntryLies s p f back exit k (pc + length (ct ++ cs)) (record { cells = n; made = made }) o) m l)),
      )

-- All that a call has to do lies from the first operation on.
pub record Opens (s : Source) (p : Code) (f : ℕ) (g : Fun) : Type 0 where
  pub end : ℕ
  pub lies : EntryLies s p f end end (entry_then g []) 0 (record { cells = length g.params; made = 0 }) 0

pub opens : (s : Source) (p : Code) (f : ℕ) (g : Fun) → function_at p f ≡ lower_fun s g → SoundFun s g → Opens s p f g
unfolding fun_code
opens s p f g is sound =
    let n = cells_of g in let z = whole g in
    let cs = starts_code g.locals (length g.params) in let cm = makes_code g.arrays 0 in let ci = initials_code s n g.initials in let cb = stmts_code s n 0 0 g.body in
    let last = op.Give (operand.Number 0) in
    let has = subst (λ ops. HasAt ops 0 (cs ++ (cm ++ (ci ++ (cb ++ last ∷ []))))) (sym (ap (λ x. x.ops) is)) (has_all (fun_code s g)) in
    let room : limit p f ≡ n + max (all_temps g.initials) (stmts_temps g.body) = ap (λ x. x.locals + x.temporaries) is in
    let all : (function_at p f).locals ≡ n = ap (λ x. x.locals) is in
    let many : (function_at p f).arrays ≡ map array_of g.arrays = ap (λ x. x.arrays) is in
    let full : length g.arrays ≡ length (function_at p f).arrays = sym (length-map g.arrays array_of) ∙ ap length (sym many) in
    let a = 0 + length cs in let b = a + length cm in let c = b + length ci in let end = c + length cb in
    let h1 = has_back (ops_in p f) 0 cs _ has in let h2 = has_back (ops_in p f) a cm _ h1 in let h3 = has_back (ops_in p f) b ci _ h2 in let h4 = has_back (ops_in p f) c cb _ h3 in
    let fall = stands s p f end end Fall [] end z 0 Plain 0 (h4.0, full, refl, refl) in
    let body = rest_lies s p f g.body end end (Fall ∷ []) c z 0 0 0 (record {
      has = has_front (ops_in p f) c cb _ h3;
      turns = omega arith;
      ends = omega arith;
      is = sound.body;
      fits = omega (arith, room);
      full = full;
      behind = tt;
      rest = fall;
    }) in
    let first = initials_lie s p f end end g.initials (rest_then g.body (Fall ∷ [])) b z 0 (has_front (ops_in p f) b ci _ h2) sound.initials (omega (arith, room)) body in
    record {
      end = end;
      lies =
          starts_lie s p f end end g.locals (arrays_then g.arrays (initials_then g.initials (rest_then g.body (Fall ∷ [])))) 0 (length g.params) 0 0 (has_front (ops_in p f) 0 cs _ has) (omega (arith, room))
          (arrays_lie s p f end end g.arrays (initials_then g.initials (rest_then g.body (Fall ∷ []))) a n 0 0 (has_front (ops_in p f) a cm _ h1) (subst (λ l. ArraysAt l 0 g.arrays) (sym many) (arrays_all g.arrays))
          (entered s p f end end (initials_then g.initials (rest_then g.body (Fall ∷ []))) b (record { cells = n; made = 0 + length g.arrays }) 0 (omega (arith, all))
          (let e : length g.arrays ≡ 0 + length g.arrays = omega arith in subst (λ m. Lies s p f end end (initials_then g.initials (rest_then g.body (Fall ∷ []))) b (record { cells = n; made = m }) 0 Plain 0) e first)));
    }

-- What an item does that a function hands on to the next one.
use Rattle.std.proofs.Common.{◌≡◌, ℕ, Bool, true, false, List, [], Option, Some, None, Result, Ok, Err, IfOk, refl, sym, ap, subst, ◌∙◌}
use Rattle.std.proofs.lemmas.Bool.{false≢true}
use Rattle.nx_checked.specs.Trees.{Program}
use Rattle.nx_checked.specs.declared.checked.Cell.{Cell}
use Rattle.nx_checked.specs.declared.checked.Element.{Element}
use Rattle.nx_checked.specs.declared.checked.Scalar.{Scalar}
use Rattle.nx_checked.specs.declared.checked.Shape.{Shape}
use Rattle.nx_checked.specs.declared.checked.IntOperator.{IntOperator}
use Rattle.nx_checked.specs.declared.checked.StepValue.{StepValue}
use Rattle.nx_cobjects.specs.declared.value.Value.{Value}
use Rattle.nx_cobjects.specs.declared.value.WrongKind.{WrongKind}
use Rattle.nx_cobjects.specs.Groups.{Object, Group}
use Rattle.nx_cobjects.specs.Memory.{Memory}
use Rattle.nx_cmean.specs.declared.item.Item as rust_item
use Rattle.nx_cmean.specs.declared.item.Item.TheVariants as item
use Rattle.nx_cmean.specs.Shape.{item_of}
use Rattle.nx_cmean.specs.Items.{Item, Write, Raise, Bump, Lay, Lift, Shift, Make, Ask, Leave, Fall}
use Rattle.nx_cmean.specs.Meaning.{Frame, Changed, changed, unchanged, evaluated, stored, Answer, thread, goes_on, act}
use Rattle.nx_cthread.specs.declared.thread.CStep as rust_step
use Rattle.nx_cthread.specs.Threads.{unless, answer_of}

-- It changes no object.
abbrev pub is_read : Item → Bool
is_read (Write s x) = false
is_read (Raise op s x) = false
is_read (Bump v up s x) = false
is_read (Lay w) = false
is_read (Lift op w) = false
is_read (Shift v up w) = false
is_read (Make s) = false
is_read i = true

pub reads : (m : Memory) (f : Frame) (i : Item) → is_read i ≡ true → unchanged m (evaluated m f i) ≡ stored m f i
reads m f (Write s x) h = absurd (false≢true h)
reads m f (Raise op s x) h = absurd (false≢true h)
reads m f (Bump v up s x) h = absurd (false≢true h)
reads m f (Lay w) h = absurd (false≢true h)
reads m f (Lift op w) h = absurd (false≢true h)
reads m f (Shift v up w) h = absurd (false≢true h)
reads m f (Make s) h = absurd (false≢true h)
reads m f i h = refl

pub read_kind : (i : rust_item.Item)
    → ((s : Scalar) (x : Cell) → i ≡ item.Write s x → ⊥)
    → ((op : IntOperator) (s : Scalar) (x : Cell) → i ≡ item.Raise op s x → ⊥)
    → ((v : StepValue) (up : Bool) (s : Scalar) (x : Cell) → i ≡ item.Bump v up s x → ⊥)
    → ((w : Element) → i ≡ item.Lay w → ⊥)
    → ((op : IntOperator) (w : Element) → i ≡ item.Lift op w → ⊥)
    → ((v : StepValue) (up : Bool) (w : Element) → i ≡ item.Shift v up w → ⊥)
    → ((s : Shape) → i ≡ item.Make s → ⊥)
    → is_read (item_of i) ≡ true
read_kind (item.Write s x) a b c d e f g = absurd (a s x refl)
read_kind (item.Raise op s x) a b c d e f g = absurd (b op s x refl)
read_kind (item.Bump v up s x) a b c d e f g = absurd (c v up s x refl)
read_kind (item.Lay w) a b c d e f g = absurd (d w refl)
read_kind (item.Lift op w) a b c d e f g = absurd (e op w refl)
read_kind (item.Shift v up w) a b c d e f g = absurd (f v up w refl)
read_kind (item.Make s) a b c d e f g = absurd (g s refl)
read_kind i a b c d e f g = refl

pub read : {E : Type 0} (r : Result (Option WrongKind) E) (m : Memory) (old new : Frame) (i : Item) → is_read i ≡ true → IfOk r (λ k. unless k new ≡ evaluated m old i) → IfOk r (λ k. unless k (changed m new) ≡ stored m old i)
read (Ok None) m old new i kind h = ap (unchanged m) h ∙ reads m old i kind
read (Ok (Some wrong)) m old new i kind h = ap (unchanged m) h ∙ reads m old i kind
read (Err e) m old new i kind h = tt

-- It makes no call and ends none.
abbrev pub is_within : Item → Bool
is_within (Ask n k) = false
is_within Leave = false
is_within Fall = false
is_within i = true

pub acts : (p : Program) (m : Memory) (below : List Frame) (f : Frame) (i : Item) → is_within i ≡ true → goes_on below (stored m f i) ≡ act p m below f i
acts p m below f (Ask n k) h = absurd (false≢true h)
acts p m below f Leave h = absurd (false≢true h)
acts p m below f Fall h = absurd (false≢true h)
acts p m below f i h = refl

pub within_kind : (i : rust_item.Item) → ((n k : ℕ) → i ≡ item.Ask n k → ⊥) → (i ≡ item.Leave → ⊥) → (i ≡ item.Fall → ⊥) → is_within (item_of i) ≡ true
within_kind (item.Ask n k) a b c = absurd (a n k refl)
within_kind item.Leave a b c = absurd (b refl)
within_kind item.Fall a b c = absurd (c refl)
within_kind i a b c = refl

pub acted : {E : Type 0} (r : Result rust_step.CStep E) (g : Group) (own : List Object) (frames : List Frame) (outputs : List Value) (p : Program) (m : Memory) (below : List Frame) (f : Frame) (i : Item) → outputs ≡ [] → is_within i ≡ true → IfOk r (λ s. answer_of s g (thread own frames []) ≡ goes_on below (stored m f i)) → IfOk r (λ s. answer_of s g (thread own frames outputs) ≡ act p m below f i)
acted r g own frames outputs p m below f i none kind h =
    subst (λ (outputs : List Value). IfOk r (λ s. answer_of s g (thread own frames outputs) ≡ act p m below f i)) (sym none) (subst (λ (b : Answer). IfOk r (λ s. answer_of s g (thread own frames []) ≡ b)) (acts p m below f i kind) h)

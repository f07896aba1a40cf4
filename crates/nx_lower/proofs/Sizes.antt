-- An item that makes a value leaves as many variables as there were.
use Rattle.std.proofs.Common.{◌≡◌, ℕ, List, [], ◌∷◌, length, refl}
use Rattle.std.specs.Prelude.{Result, Ok, Err}
use Rattle.std.proofs.lemmas.List.{length-set}
use Rattle.nx_checked.specs.declared.checked.Cell.{Cell}
use Rattle.nx_checked.specs.declared.checked.Cell.TheVariants as cell
use Rattle.nx_checked.specs.declared.checked.Element.{Element}
use Rattle.nx_cobjects.specs.declared.value.Value.{Value}
use Rattle.nx_cobjects.specs.declared.value.Value.TheVariants as value
use Rattle.nx_cobjects.specs.declared.value.WrongKind.{WrongKind}
use Rattle.nx_cobjects.specs.Values.{◌>>=◌, number_in, kept, cut, operated}
use Rattle.nx_cobjects.specs.Memory.{Memory, load, store, moved, prefixed, infixed}
use Rattle.nx_cmean.specs.Items.{Item, Take, Get, Alter, Apply, Write, Raise, Bump, Reached, Fetch, FetchAt, Lay, Lift, Shift, Chosen, Called}
use Rattle.nx_cmean.specs.Meaning.{Frame, Changed, raised, stepping, new_or_old, put_value, unchanged, assigned, then_value, stored}
use Rattle.nx_lower.proofs.Following.{IsValue}

abbrev pub SameSize : ℕ → Result Changed WrongKind → Type 0
SameSize n (Ok c) = length c.frame.cells ≡ n
SameSize n (Err kind) = Unit {0}

bind_sized : {A : Type 0} (n : ℕ) (r : Result A WrongKind) (go : A → Result Changed WrongKind) → ((a : A) → SameSize n (go a)) → SameSize n (r >>= go)
bind_sized n (Ok a) go h = h a
bind_sized n (Err kind) go h = tt

put_sized : (m : Memory) (f : Frame) (rest : List Value) (r : Result Value WrongKind) → SameSize (length f.cells) (unchanged m (put_value f rest r))
put_sized m f rest (Ok v) = refl
put_sized m f rest (Err kind) = tt

assigned_sized : (m : Memory) (f : Frame) (x : Cell) (v result : Value) (rest : List Value) → SameSize (length f.cells) (assigned m f x v result rest)
assigned_sized m f (cell.Local i) v result rest = length-set f.cells i v
assigned_sized m f (cell.Global i) (value.Int n) result rest = refl
assigned_sized m f (cell.Global i) (value.Point o at) result rest = tt
assigned_sized m f (cell.Global i) (value.Forged n) result rest = tt
assigned_sized m f (cell.Global i) (value.Entry g) result rest = tt

value_sized : (f : Frame) (rest : List Value) (n : ℕ) (r : Result Memory WrongKind) → SameSize (length f.cells) (then_value f rest n r)
value_sized f rest n (Ok m) = refl
value_sized f rest n (Err kind) = tt

fetched_sized : (m : Memory) (f : Frame) (rest : List Value) (a i : Value) (w : Element) → SameSize (length f.cells) (unchanged m (number_in i >>= (λ n. moved m w a n >>= (λ at. put_value f (at ∷ rest) (load m w at)))))
fetched_sized m f rest a (value.Int n) w = go (moved m w a n)
  where
    go : (r : Result Value WrongKind) → SameSize (length f.cells) (unchanged m (r >>= (λ at. put_value f (at ∷ rest) (load m w at))))
    go (Ok at) = put_sized m f (at ∷ rest) (load m w at)
    go (Err kind) = tt
fetched_sized m f rest a (value.Point o at) w = tt
fetched_sized m f rest a (value.Forged n) w = tt
fetched_sized m f rest a (value.Entry g) w = tt

abbrev frame_of : ℕ → ℕ → ℕ → List Value → List Value → List Item → Frame
frame_of function from arrays cells vs k = record { function = function; from = from; arrays = arrays; cells = cells; values = vs; todo = k }

pub sized : (i : Item) (m : Memory) (function from arrays : ℕ) (cells vs : List Value) (k : List Item) → IsValue i → SameSize (length cells) (stored m (record { function = function; from = from; arrays = arrays; cells = cells; values = vs; todo = k }) i)
sized (Take l) m function from arrays cells vs k is = refl
sized (Get x) m function from arrays cells vs k is = refl
sized Reached m function from arrays cells vs k is = refl
sized Chosen m function from arrays cells vs k is = refl
sized Called m function from arrays cells vs k is = refl
sized (Alter q) m function from arrays cells [] k is = tt
sized (Alter q) m function from arrays cells (v ∷ vs) k is = put_sized m (frame_of function from arrays cells (v ∷ vs) k) vs (prefixed m q v)
sized (Apply q) m function from arrays cells [] k is = tt
sized (Apply q) m function from arrays cells (y ∷ []) k is = tt
sized (Apply q) m function from arrays cells (y ∷ x ∷ vs) k is = put_sized m (frame_of function from arrays cells (y ∷ x ∷ vs) k) vs (infixed m q x y)
sized (Fetch w) m function from arrays cells [] k is = tt
sized (Fetch w) m function from arrays cells (a ∷ vs) k is = put_sized m (frame_of function from arrays cells (a ∷ vs) k) (a ∷ vs) (load m w a)
sized (FetchAt w) m function from arrays cells [] k is = tt
sized (FetchAt w) m function from arrays cells (i ∷ []) k is = tt
sized (FetchAt w) m function from arrays cells (i ∷ a ∷ vs) k is = fetched_sized m (frame_of function from arrays cells (i ∷ a ∷ vs) k) vs a i w
sized (Write t x) m function from arrays cells [] k is = tt
sized (Write t x) m function from arrays cells (v ∷ vs) k is = bind_sized (length cells) (kept t v) _ (λ n. assigned_sized m (frame_of function from arrays cells (v ∷ vs) k) x n n vs)
sized (Raise q t x) m function from arrays cells [] k is = tt
sized (Raise q t x) m function from arrays cells (e ∷ []) k is = tt
sized (Raise q t x) m function from arrays cells (e ∷ v ∷ vs) k is = bind_sized (length cells) (raised m q t v e) _ (λ n. assigned_sized m (frame_of function from arrays cells (e ∷ v ∷ vs) k) x n n vs)
sized (Bump b up t x) m function from arrays cells [] k is = tt
sized (Bump b up t x) m function from arrays cells (old ∷ vs) k is = bind_sized (length cells) (raised m (stepping up) t old (value.Int 1)) _ (λ n. assigned_sized m (frame_of function from arrays cells (old ∷ vs) k) x n (new_or_old b n old) vs)
sized (Lay w) m function from arrays cells [] k is = tt
sized (Lay w) m function from arrays cells (v ∷ []) k is = tt
sized (Lay w) m function from arrays cells (v ∷ a ∷ vs) k is = bind_sized (length cells) (number_in v) _ (λ n. value_sized (frame_of function from arrays cells (v ∷ a ∷ vs) k) vs (cut w n) (store m w a n))
sized (Lift q w) m function from arrays cells [] k is = tt
sized (Lift q w) m function from arrays cells (e ∷ []) k is = tt
sized (Lift q w) m function from arrays cells (e ∷ v ∷ []) k is = tt
sized (Lift q w) m function from arrays cells (e ∷ v ∷ a ∷ vs) k is =
    bind_sized (length cells) (number_in v) _ (λ x. bind_sized (length cells) (number_in e) _ (λ y. value_sized (frame_of function from arrays cells (e ∷ v ∷ a ∷ vs) k) vs (cut w (operated q x y)) (store m w a (operated q x y))))
sized (Shift b up w) m function from arrays cells [] k is = tt
sized (Shift b up w) m function from arrays cells (old ∷ []) k is = tt
sized (Shift b up w) m function from arrays cells (old ∷ a ∷ vs) k is = bind_sized (length cells) (number_in old) _ (λ n. value_sized (frame_of function from arrays cells (old ∷ a ∷ vs) k) vs (new_or_old b (cut w (operated (stepping up) n 1)) n) (store m w a (operated (stepping up) n 1)))
sized i m function from arrays cells vs k is = absurd is

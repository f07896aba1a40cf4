-- A table of simple commands, each with the places behind it: the shell's place in its script.
use Rattle.std.specs.Prelude.{◌≡◌, ◌≤◌, ◌<◌, ℕ, zero, suc, Bool, true, false, List, length, map, Option, Some, None, slice_get}
use Rattle.nx_shtree.specs.declared.tree.Simple.{Simple}
use Rattle.nx_shtree.specs.declared.tree.Item as rust_item
use Rattle.nx_shtree.specs.Trees.{Items, NoMore, More, Item, At, ItemKind, Command, Background, If, IfElse, While, Until, item_of}
use Rattle.nx_shrun.specs.declared.place.Node as rust_node
use Rattle.nx_shrun.specs.Rest.{Next, Over, Runs, next}

-- A simple command, whether the shell doesn't wait for it, and the places where the shell goes on at status 0 and at another. Place 0 is the script's end, and place n + 1 that of the n-th node.
pub record Node : Type 0 where
  pub c : Simple
  pub background : Bool
  pub at_zero : ℕ
  pub at_other : ℕ

-- The command with which an item begins.
abbrev pub first_command : ItemKind → Simple
first_command (Command c) = c
first_command (Background c) = c
first_command (If c xs) = c
first_command (IfElse c xs ys) = c
first_command (While c xs) = c
first_command (Until c xs) = c

abbrev pub is_background : ItemKind → Bool
is_background (Command c) = false
is_background (Background c) = true
is_background (If c xs) = false
is_background (IfElse c xs ys) = false
is_background (While c xs) = false
is_background (Until c xs) = false

abbrev pub node_of_item : ℕ → ℕ → Item → Node
node_of_item at_zero at_other (At l k) = record { c = first_command k; background = is_background k; at_zero = at_zero; at_other = at_other }

abbrev pub node_in : ℕ → ℕ → Option rust_item.Item → Option Node
node_in u v None = None
node_in u v (Some x) = Some (node_of_item u v (item_of x))

-- A node of the code has the place of its item in a list.
abbrev pub place_of : Option rust_node.Node → Option Node
place_of None = None
place_of (Some n) = node_in n.at_zero n.at_other (slice_get n.list n.index)

abbrev pub joined : Option (Option Node) → Option Node
joined None = None
joined (Some x) = x

abbrev pub node_at : List (Option Node) → ℕ → Option Node
node_at ns zero = None
node_at ns (suc i) = joined (slice_get ns i)

-- At a place stands this command with these places behind it.
abbrev pub Has : List (Option Node) → ℕ → Simple → Bool → ℕ → ℕ → Type 0
Has ns t c background x y = node_at ns t ≡ Some (record { c = c; background = background; at_zero = x; at_other = y })

-- The list begins at place t, and behind it the shell is at place k.
abbrev mutual
  pub CodedKind : List (Option Node) → ItemKind → ℕ → ℕ → Type 0
  CodedKind ns (Command c) t k = Has ns t c false k k
  CodedKind ns (Background c) t k = Has ns t c true k k
  CodedKind ns (If c xs) t k = (x : ℕ) × Has ns t c false x k × Coded ns xs x k
  CodedKind ns (IfElse c xs ys) t k = (x : ℕ) × (y : ℕ) × Has ns t c false x y × Coded ns xs x k × Coded ns ys y k
  CodedKind ns (While c xs) t k = (x : ℕ) × Has ns t c false x k × Coded ns xs x t
  CodedKind ns (Until c xs) t k = (x : ℕ) × Has ns t c false k x × Coded ns xs x t

  pub CodedItem : List (Option Node) → Item → ℕ → ℕ → Type 0
  CodedItem ns (At l kind) t k = CodedKind ns kind t k

  pub Coded : List (Option Node) → Items → ℕ → ℕ → Type 0
  Coded ns NoMore t k = t ≡ k
  Coded ns (More x xs) t k = (m : ℕ) × CodedItem ns x t m × Coded ns xs m k

-- The nodes so far stay where they are.
pub record Keeps (old new : List (Option Node)) : Type 0 where
  pub longer : length old ≤ length new
  pub on : (i : ℕ) → i < length old → slice_get new i ≡ slice_get old i

-- At place t the shell goes on with what comes next.
abbrev pub Stands : List (Option Node) → ℕ → Next → Type 0
Stands ns t Over = t ≡ 0
Stands ns t (Runs c background a b) = (x : ℕ) × (y : ℕ) × Has ns t c background x y × Coded ns a x 0 × Coded ns b y 0

-- Where a script is coded, the command that comes next stands, with what remains behind it.
abbrev pub NextStands : Type 0
NextStands = (ns : List (Option Node)) (xs : Items) (t : ℕ) → Coded ns xs t 0 → Stands ns t (next xs)

-- What of a script remains: a list of items, each of which begins with a simple command.
use Rattle.std.specs.Prelude.{Bool, true, false}
use Rattle.nx_shtree.specs.declared.tree.Simple.{Simple}
use Rattle.nx_shtree.specs.Trees.{Items, NoMore, More, Item, At, Command, Background, If, IfElse, While, Until}

-- One list before another.
abbrev pub before : Items → Items → Items
before NoMore k = k
before (More x xs) k = More x (before xs k)

-- What comes next: the script's end, or a simple command that the shell waits for or not, what remains at status 0, and at another.
pub data Next : Type 0 where
  Over : Next
  Runs : (c : Simple) (background : Bool) (at_zero at_other : Items) → Next

-- What an item does first, with what stands after it. A loop that goes on is itself, put after its body.
abbrev pub begun : Item → Items → Next
begun (At l (Command c)) k = Runs c false k k
begun (At l (Background c)) k = Runs c true k k
begun (At l (If c xs)) k = Runs c false (before xs k) k
begun (At l (IfElse c xs ys)) k = Runs c false (before xs k) (before ys k)
begun (At l (While c xs)) k = Runs c false (before xs (More (At l (While c xs)) k)) k
begun (At l (Until c xs)) k = Runs c false k (before xs (More (At l (Until c xs)) k))

abbrev pub next : Items → Next
next NoMore = Over
next (More x xs) = begun x xs

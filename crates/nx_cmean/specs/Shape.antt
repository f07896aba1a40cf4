-- What an item of the code is.
use Rattle.std.specs.Prelude.{List, map, drop, option_map}
use Rattle.nx_checked.specs.Trees.{expr_of, stmt_of, stmts_of}
use Rattle.nx_cmean.specs.declared.item.Item as rust_item
use Rattle.nx_cmean.specs.declared.item.Item.TheVariants as item
use Rattle.nx_cmean.specs.Items.{Item, Take, Get, Alter, Apply, Write, Raise, Bump, Reached, Fetch, FetchAt, Lay, Lift, Shift, AndThen, OrElse, Choose, Chosen, Ask, Enter, Called, Forget, Exec, Rest, Test, FirstTest, TestLoop, Turn, Again, Leave, Fall, Start, Gap, Make}

abbrev pub item_of : rust_item.Item → Item
item_of (item.Take l) = Take l
item_of (item.Get x) = Get x
item_of (item.Alter op) = Alter op
item_of (item.Apply op) = Apply op
item_of (item.Write s x) = Write s x
item_of (item.Raise op s x) = Raise op s x
item_of (item.Bump v up s x) = Bump v up s x
item_of item.Reached = Reached
item_of (item.Fetch w) = Fetch w
item_of (item.FetchAt w) = FetchAt w
item_of (item.Lay w) = Lay w
item_of (item.Lift op w) = Lift op w
item_of (item.Shift v up w) = Shift v up w
item_of (item.AndThen b) = AndThen (expr_of b)
item_of (item.OrElse b) = OrElse (expr_of b)
item_of (item.Choose a b) = Choose (expr_of a) (expr_of b)
item_of item.Chosen = Chosen
item_of (item.Ask n k) = Ask n k
item_of (item.Enter f k) = Enter f k
item_of item.Called = Called
item_of item.Forget = Forget
item_of (item.Exec s) = Exec (stmt_of s)
item_of (item.Rest ss at) = Rest (stmts_of (drop at ss))
item_of (item.Test a b) = Test (stmt_of a) (option_map stmt_of b)
item_of (item.FirstTest c s) = FirstTest (expr_of c) (stmt_of s)
item_of (item.TestLoop c t s) = TestLoop (expr_of c) (option_map expr_of t) (stmt_of s)
item_of (item.Turn c t s) = Turn (option_map expr_of c) (option_map expr_of t) (stmt_of s)
item_of (item.Again c t s) = Again (option_map expr_of c) (option_map expr_of t) (stmt_of s)
item_of item.Leave = Leave
item_of item.Fall = Fall
item_of (item.Start s) = Start s
item_of (item.Gap n) = Gap n
item_of (item.Make s) = Make s

abbrev pub items_of : List rust_item.Item → List Item
items_of k = map item_of k

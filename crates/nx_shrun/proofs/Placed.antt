-- Where a list is coded, its next command stands, with what remains behind it.
use Rattle.std.proofs.Common.{ℕ, List, Option, sym, subst}
use Rattle.nx_shtree.specs.Trees.{Items, NoMore, More, Item, At, Command, Background, If, IfElse, While, Until}
use Rattle.nx_shrun.specs.Rest.{before, next}
use Rattle.nx_shrun.specs.Places.{Node, Coded, Stands}

pub coded_before : (ns : List (Option Node)) (a k : Items) (t m e : ℕ) → Coded ns a t m → Coded ns k m e → Coded ns (before a k) t e
coded_before ns NoMore k t m e h g = subst (λ x. Coded ns k x e) (sym h) g
coded_before ns (More x a) k t m e h g = (h.0, h.1, coded_before ns a k h.0 m e h.2 g)

-- and so the next command is where the shell goes on
pub stands : (ns : List (Option Node)) (xs : Items) (t : ℕ) → Coded ns xs t 0 → Stands ns t (next xs)
stands ns NoMore t h = h
stands ns (More (At l (Command c)) k) t h = (h.0, h.0, h.1, h.2, h.2)
stands ns (More (At l (Background c)) k) t h = (h.0, h.0, h.1, h.2, h.2)
stands ns (More (At l (If c xs)) k) t h = (h.1.0, h.0, h.1.1, coded_before ns xs k h.1.0 h.0 0 h.1.2 h.2, h.2)
stands ns (More (At l (IfElse c xs ys)) k) t h = (h.1.0, h.1.1, h.1.2, coded_before ns xs k h.1.0 h.0 0 h.1.3 h.2, coded_before ns ys k h.1.1 h.0 0 h.1.4 h.2)
stands ns (More (At l (While c xs)) k) t h = (h.1.0, h.0, h.1.1, coded_before ns xs (More (At l (While c xs)) k) h.1.0 t 0 h.1.2 h, h.2)
stands ns (More (At l (Until c xs)) k) t h = (h.0, h.1.0, h.1.1, h.2, coded_before ns xs (More (At l (Until c xs)) k) h.1.0 t 0 h.1.2 h)

-- Runs of scripts by their grammar: what each item calls and is told, and how it ends.
use Rattle.std.specs.Prelude.{◌≡◌, ◌≢◌, ℕ, Bool, false, true, Option, None, Some, List, [], ◌∷◌, ◌++◌, map}
use Rattle.nx_base.specs.Calls.{Reply}
use Rattle.nx_shtree.specs.declared.tree.Simple.{Simple}
use Rattle.nx_shtree.specs.Trees as tree
use Rattle.nx_shtree.specs.Trees.{Items, NoMore, More, Item, At, ItemKind, items}
use Rattle.nx_shrun.specs.declared.step.Ending.{Ending}
use Rattle.nx_shrun.specs.declared.step.Ending.TheVariants.{Status, Exit}
use Rattle.nx_shrun.specs.Calls.{Call, exit}
use Rattle.nx_shrun.specs.Rest.{before}
use Rattle.nx_shrun.specs.Steps as steps
use Rattle.nx_shrun.specs.Steps.{Doing, Starts, Over}
use Rattle.nx_shrun.specs.ShellCalls.{command, call_of, started, after, Ended, shell_calls}

-- A call with its reply.
pub record Exchange : Type 0 where
  pub call : Call
  pub reply : Reply

abbrev pub exchange : Call → Reply → Exchange
exchange q r = record { call = q; reply = r }

abbrev pub calls : List Exchange → List Call
calls es = map (λ (e : Exchange). e.call) es

abbrev pub replies : List Exchange → List Reply
replies es = map (λ (e : Exchange). e.reply) es

-- What a simple command does from where it is to its end.
pub data Goes (c : Simple) (background : Bool) (status : ℕ) : Doing → List Exchange → Ending → Type 0 where
  AtLast : (d : Doing) (r : Reply) (e : Ending) → command c background status d r ≡ Over e → Goes c background status d (exchange (call_of d) r ∷ []) e
  GoesOn : (d next : Doing) (r : Reply) (es : List Exchange) (e : Ending) → command c background status d r ≡ steps.Goes next → Goes c background status next es e → Goes c background status d (exchange (call_of d) r ∷ es) e

-- A simple command at a status, from its first call on, which is `getpid`.
abbrev pub RanSimple : Simple → Bool → ℕ → List Exchange → Ending → Type 0
RanSimple c background status es e = Goes c background status Starts es e

-- The condition of an item, if it has one.
abbrev pub condition : ItemKind → Option Simple
condition (tree.Command c) = None
condition (tree.Background c) = None
condition (tree.If c xs) = Some c
condition (tree.IfElse c xs ys) = Some c
condition (tree.While c xs) = Some c
condition (tree.Until c xs) = Some c

mutual
  -- Items in their order, from a status on, with what was called and told, and how they end.
  pub data Ran : Items → ℕ → List Exchange → Ending → Type 0 where
    Nothing : (n : ℕ) → Ran NoMore n [] (Status n)
    Leaves : (x : Item) (xs : Items) (n value : ℕ) (es : List Exchange) → RanItem x n es (Exit value) → Ran (More x xs) n es (Exit value)
    Then : (x : Item) (xs : Items) (n m : ℕ) (es fs : List Exchange) (e : Ending) → RanItem x n es (Status m) → Ran xs m fs e → Ran (More x xs) n (es ++ fs) e

  pub data RanItem : Item → ℕ → List Exchange → Ending → Type 0 where
    Command : (l n : ℕ) (c : Simple) (es : List Exchange) (e : Ending) → RanSimple c false n es e → RanItem (At l (tree.Command c)) n es e
    Background : (l n : ℕ) (c : Simple) (es : List Exchange) (e : Ending) → RanSimple c true n es e → RanItem (At l (tree.Background c)) n es e
    -- A condition that ends the shell.
    Exits : (l n value : ℕ) (k : ItemKind) (c : Simple) (es : List Exchange) → condition k ≡ Some c → RanSimple c false n es (Exit value) → RanItem (At l k) n es (Exit value)
    -- What follows at status 0, and at another.
    IfHolds : (l n : ℕ) (c : Simple) (xs : Items) (es fs : List Exchange) (e : Ending) → RanSimple c false n es (Status 0) → Ran xs 0 fs e → RanItem (At l (tree.If c xs)) n (es ++ fs) e
    IfNot : (l n m : ℕ) (c : Simple) (xs : Items) (es : List Exchange) → RanSimple c false n es (Status m) → m ≢ 0 → RanItem (At l (tree.If c xs)) n es (Status m)
    IfElseHolds : (l n : ℕ) (c : Simple) (xs ys : Items) (es fs : List Exchange) (e : Ending) → RanSimple c false n es (Status 0) → Ran xs 0 fs e → RanItem (At l (tree.IfElse c xs ys)) n (es ++ fs) e
    IfElseNot : (l n m : ℕ) (c : Simple) (xs ys : Items) (es fs : List Exchange) (e : Ending) → RanSimple c false n es (Status m) → m ≢ 0 → Ran ys m fs e → RanItem (At l (tree.IfElse c xs ys)) n (es ++ fs) e
    -- A turn of a loop is its body, and then the loop.
    WhileHolds : (l n : ℕ) (c : Simple) (xs : Items) (es fs : List Exchange) (e : Ending) → RanSimple c false n es (Status 0) → Ran (before xs (More (At l (tree.While c xs)) NoMore)) 0 fs e → RanItem (At l (tree.While c xs)) n (es ++ fs) e
    WhileNot : (l n m : ℕ) (c : Simple) (xs : Items) (es : List Exchange) → RanSimple c false n es (Status m) → m ≢ 0 → RanItem (At l (tree.While c xs)) n es (Status m)
    UntilNot : (l n m : ℕ) (c : Simple) (xs : Items) (es fs : List Exchange) (e : Ending) → RanSimple c false n es (Status m) → m ≢ 0 → Ran (before xs (More (At l (tree.Until c xs)) NoMore)) m fs e → RanItem (At l (tree.Until c xs)) n (es ++ fs) e
    UntilHolds : (l n : ℕ) (c : Simple) (xs : Items) (es : List Exchange) → RanSimple c false n es (Status 0) → RanItem (At l (tree.Until c xs)) n es (Status 0)

-- What the shell passes to its end.
abbrev pub value_of : Ending → ℕ
value_of (Status n) = n
value_of (Exit value) = value

-- A shell that has ended ran its script by its grammar: it made those calls, and then the end. Replies after its end mean nothing.
pub record RanWhole (script : List Item) (rs : List Reply) (value : ℕ) : Type 0 where
  pub exchanges : List Exchange
  pub ending : Ending
  pub more : List Reply
  pub ran : Ran (items script) 0 exchanges ending
  pub told : rs ≡ replies exchanges ++ more
  pub called : shell_calls script rs ≡ calls exchanges ++ exit value ∷ []
  pub passed : value ≡ value_of ending

abbrev pub ScriptsRunByTheirGrammar : Type 0
ScriptsRunByTheirGrammar = (script : List Item) (rs : List Reply) (value : ℕ) → after (started script) rs ≡ Ended value → RanWhole script rs value

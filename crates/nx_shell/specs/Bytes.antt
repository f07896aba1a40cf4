-- Scripts of bytes, and the calls of which all inputs are bytes.
use Rattle.std.specs.Prelude.{◌<◌, List, [], ◌∷◌, Option, Some, None}
use Rattle.std.specs.List.{All}
use Rattle.nx_base.specs.ByteLists.{AreBytes}
use Rattle.nx_base.specs.Calls.{Reply}
use Rattle.nx_shtok.specs.declared.part.Part.{Part}
use Rattle.nx_shtok.specs.declared.part.Part.TheVariants as part
use Rattle.nx_shtok.specs.declared.token.Word.{Word}
use Rattle.nx_shtree.specs.declared.tree.Redirection.{Redirection}
use Rattle.nx_shtree.specs.declared.tree.Simple.{Simple}
use Rattle.nx_shtree.specs.Trees.{Items, NoMore, More, Item, At, ItemKind, Command, Background, If, IfElse, While, Until, items}
use Rattle.nx_shrun.specs.Calls.{Call}
use Rattle.nx_shrun.specs.Laws.{AllFit}
use Rattle.nx_shrun.specs.ShellCalls.{started, shell_calls}

abbrev pub IsBytePart : Part → Type 0
IsBytePart (part.Byte b) = b < 256
IsBytePart part.Status = Unit {0}
IsBytePart (part.Name name) = AreBytes name

abbrev pub AreByteParts : List Part → Type 0
AreByteParts [] = Unit {0}
AreByteParts (p ∷ ps) = IsBytePart p × AreByteParts ps

abbrev pub AreByteWords : List Word → Type 0
AreByteWords [] = Unit {0}
AreByteWords (w ∷ ws) = AreByteParts w.parts × AreByteWords ws

abbrev pub IsByteOutput : Option Redirection → Type 0
IsByteOutput None = Unit {0}
IsByteOutput (Some r) = AreByteParts r.file.parts

-- The words of a command are bytes, that of its redirection too.
pub record IsByteCommand (c : Simple) : Type 0 where
  pub words : AreByteWords c.words
  pub output : IsByteOutput c.output

-- All words of a script.
abbrev mutual
  pub AreByteItems : Items → Type 0
  AreByteItems NoMore = Unit {0}
  AreByteItems (More x xs) = IsByteItem x × AreByteItems xs

  pub IsByteItem : Item → Type 0
  IsByteItem (At l k) = IsByteKind k

  pub IsByteKind : ItemKind → Type 0
  IsByteKind (Command c) = IsByteCommand c
  IsByteKind (Background c) = IsByteCommand c
  IsByteKind (If c xs) = IsByteCommand c × AreByteItems xs
  IsByteKind (IfElse c xs ys) = IsByteCommand c × AreByteItems xs × AreByteItems ys
  IsByteKind (While c xs) = IsByteCommand c × AreByteItems xs
  IsByteKind (Until c xs) = IsByteCommand c × AreByteItems xs

abbrev pub HasByteInputs : Call → Type 0
HasByteInputs q = All AreBytes q.inputs

-- Where a script's words are bytes, and each reply fits its call, all inputs of the calls are bytes.
abbrev pub CallsAreBytes : Type 0
CallsAreBytes = (script : List Item) (rs : List Reply) → AreByteItems (items script) → AllFit (started script) rs → All HasByteInputs (shell_calls script rs)

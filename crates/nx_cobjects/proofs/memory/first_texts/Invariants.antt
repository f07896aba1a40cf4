use Rattle.std.proofs.Common.{◌≡◌, map, take}
use Rattle.nx_checked.specs.declared.checked.Element.TheVariants as element
use Rattle.nx_cobjects.specs.Groups.{object}
use Rattle.nx_cobjects.proofs.memory.first_texts.Given as goal

abbrev pub invariant-loop-x : goal.invariant-loop-x
invariant-loop-x l = l.done.items ≡ map (object element.Char) (take l.x-index l.texts)

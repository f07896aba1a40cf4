use Rattle.std.proofs.Common.{◌≡◌, ◌++◌, drop, map}
use Rattle.nx_checked.specs.declared.checked.Element.TheVariants as element
use Rattle.nx_cobjects.specs.Groups.{object}
use Rattle.nx_lowering.specs.Programs.{texts_bytes}
use Rattle.nx_lowering.proofs.program.put_texts.Given as goal

abbrev pub invariant-loop-x : goal.invariant-loop-x
invariant-loop-x l = l.bytes ++ texts_bytes (map (object element.Char) (drop l.x-index l.texts)) ≡ l.fn.bytes ++ texts_bytes (map (object element.Char) l.texts)

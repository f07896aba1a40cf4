use Rattle.std.proofs.Common.{◌≡◌, ◌+◌, ◌≤◌, [], ◌∷◌, take, drop}
use Rattle.nx_base.specs.Copying.{inputs_of, words_from}
use Rattle.nx_ksys.specs.Telling.{both}
use Rattle.nx_space.specs.World.{view_in}
use Rattle.nx_copy.specs.Taking.{inputs}
use Rattle.nx_copy.proofs.Inputs.{taken_before, rest_of}
use Rattle.nx_copy.proofs.cooking.take_inputs.Given as goal

abbrev pub invariant-loop-i : goal.invariant-loop-i
invariant-loop-i g l = record {
  same : g.S.Space.world l.space ≡ g.S.Space.world l.fn.space;
  call : l.into.call ≡ l.fn.into.call;
  words : l.into.words ≡ l.fn.into.words;
  few : l.taken + inputs (drop l.i l.fn.kinds) ≤ 2;
  rest : l.into.first ∷ l.into.second ∷ [] ≡ both (take l.taken (l.into.first ∷ l.into.second ∷ []));
  read : inputs_of (view_in (g.S.Space.world l.fn.space)) 0 l.fn.kinds (words_from l.fn.regs 11 l.fn.kinds) ≡ taken_before (take l.taken (l.into.first ∷ l.into.second ∷ [])) (rest_of (view_in (g.S.Space.world l.fn.space)) l.fn.regs l.fn.kinds l.i);
}

use Rattle.std.proofs.Common.{ℕ, ◌-◌, List, ◌++◌, Option, length, take, drop, sym, ap, ◌∙◌, append_assoc, take-append-drop}
use Rattle.std.proofs.lemmas.List.{take_rest}
use Rattle.std.specs.Io.KnownBytes.{Appends}
use Rattle.std.proofs.KnownBytes.{Appends-trans}
use Rattle.nxsim.specs.Host.{Takes}
use Rattle.nxsim.proofs.host_sink.write_whole.Goals as goal

-- the writer took n more bytes
Takes-next : (old mid new : Option (List ℕ)) (rest all : List ℕ) (n : ℕ) → Takes old mid rest all → Appends mid new (take n rest) → Takes old new (take (length rest - n) (drop n rest)) all
Takes-next old mid new rest all n h k = record {
  taken = h.taken ++ take n rest;
  splits = h.splits ∙ ap (λ l. h.taken ++ l) (sym (take-append-drop n rest) ∙ ap (λ l. take n rest ++ l) (sym (take_rest rest n)))
      ∙ sym (append_assoc h.taken (take n rest) _);
  appended = Appends-trans old mid new h.taken (take n rest) h.appended k;
}

pub loop-rest-preserved : goal.loop-rest-preserved
loop-rest-preserved g c = Takes-next _ _ _ c.loop-rest.rest.now _ c.in-Ok.count c.loop-rest.invariant c.in-Ok.ensures.bytes

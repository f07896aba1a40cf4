-- Two groups and one object at boot, and what comes to them.
use Rattle.std.proofs.Common.{◌≡◌, ◌≤◌, ℕ, List, [], length, refl, sym, ap, ◌∙◌, subst}
use Rattle.std.specs.Prelude.{Option, Some, None, slice_get, slice_set}
use Rattle.std.proofs.lemmas.List.{length-set}
use Rattle.nx_pool.specs.declared.chain.Chain.{Chain}
use Rattle.nx_ksys.specs.declared.node.Open.{Open}
use Rattle.nx_ksys.specs.State.{Semaphore}
use Rattle.nx_objects.specs.declared.objects.Objects.{Objects}
use Rattle.nx_objects.specs.Tables.{IsBooted, ArePlaced}

-- a store that has handed nothing out holds no chains
pub held_at_first : (holds : List Chain → Type 0) (cs : List Chain) → cs ≡ [] → holds [] → holds cs
held_at_first holds cs e h = subst holds (sym e) h

pub second_free : (o : Objects) → IsBooted [] 2 1 o → slice_get o.descriptions 1 ≡ Some None
second_free o b = ap (λ ds. slice_get ds 1) b.descriptions

pub semaphore_free : (o : Objects) → IsBooted [] 2 1 o → slice_get o.semaphores 0 ≡ Some None
semaphore_free o b = ap (λ ss. slice_get ss 0) b.semaphores

-- an open file
pub placed_file : (n p q : ℕ) (o : Objects) (files : List (Option Chain)) (description : Option Open) (descriptor : Option ℕ) → ArePlaced n o
    → ArePlaced n (record o { files = files; descriptions = slice_set o.descriptions p description; descriptors = slice_set o.descriptors q descriptor })
placed_file n p q o files description descriptor h = record {
  few = h.few;
  descriptors = length-set o.descriptors q descriptor ∙ h.descriptors;
  descriptions = length-set o.descriptions p description ∙ h.descriptions;
  queues = h.queues;
  semaphores = h.semaphores;
}

pub placed_semaphore : (n p : ℕ) (o : Objects) (s : Option Semaphore) → ArePlaced n o → ArePlaced n (record o { semaphores = slice_set o.semaphores p s })
placed_semaphore n p o s h = record {
  few = h.few;
  descriptors = h.descriptors;
  descriptions = h.descriptions;
  queues = h.queues;
  semaphores = subst (λ m. m ≤ 65536) (sym (length-set o.semaphores p s)) h.semaphores;
}

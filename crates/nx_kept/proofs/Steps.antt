-- Each step of slot code is done.
use Rattle.std.proofs.Common.{◌≡◌, List, [], ◌∷◌, Option, Some, None, refl}
use Rattle.std.specs.Prelude.{slice_get}
use Rattle.nx_base.specs.declared.regs.Regs.{Regs}
use Rattle.nx_base.specs.Views.{View}
use Rattle.nx_slot.specs.declared.op.SlotOp.{SlotOp}
use Rattle.nx_slot.specs.declared.op.SlotOp.TheVariants as op
use Rattle.nx_slot.specs.Objects.{Object}
use Rattle.nx_slot.specs.Meaning.{SlotFrame, SlotState, fetched, step_of, step}
use Rattle.nx_linked.specs.Linked.{Program, IsLinked}
use Rattle.nx_linked.specs.Standing.{function_in, IsActive}
use Rattle.nx_linked.specs.Doing.{Does}
use Rattle.nx_acted.specs.Laws.{IsDone}
use Rattle.nx_acted.proofs.Acts as cells
use Rattle.nx_stored.proofs.Stored as objects
use Rattle.nx_called.proofs.Called as calls
use Rattle.nx_kept.specs.Laws.{StepsAreDone}

pub all_done : (o : SlotOp) → IsDone o
all_done (op.Move to from) = cells.done (op.Move to from) tt
all_done (op.Forge to from) = cells.done (op.Forge to from) tt
all_done (op.Apply o to left right) = cells.done (op.Apply o to left right) tt
all_done (op.Change o to from) = cells.done (op.Change o to from) tt
all_done (op.SkipUnless test left right past) = cells.done (op.SkipUnless test left right past) tt
all_done (op.Skip past) = cells.done (op.Skip past) tt
all_done (op.Back by) = cells.done (op.Back by) tt
all_done (op.Local to k) = cells.done (op.Local to k) tt
all_done (op.Static to o) = cells.done (op.Static to o) tt
all_done (op.Entry to h) = cells.done (op.Entry to h) tt
all_done (op.Index to base index w) = cells.done (op.Index to base index w) tt
all_done (op.Make k) = objects.done (op.Make k) tt
all_done (op.Fetch to o) = objects.done (op.Fetch to o) tt
all_done (op.Keep o from) = objects.done (op.Keep o from) tt
all_done (op.Load to place w) = objects.done (op.Load to place w) tt
all_done (op.Store place value w) = objects.done (op.Store place value w) tt
all_done (op.Ask number first count) = calls.done (op.Ask number first count) tt
all_done (op.Go function first count) = calls.done (op.Go function first count) tt
all_done (op.Give value) = calls.done (op.Give value) tt

pub steps_done : StepsAreDone
steps_done c os f fs r v l a = by_operation (slice_get (function_in c f.function).ops f.place) refl
  where
    by_operation : (o : Option SlotOp) → slice_get (function_in c f.function).ops f.place ≡ o → Does c r v (fetched c.code fs os (function_in c f.function) f o)
    by_operation None e = tt
    by_operation (Some o) e = all_done o c os f fs r v l e a

-- A state stands in registers and memory.
abbrev pub StandsAt : Program → List Object → List SlotFrame → Regs → View → Type 0
StandsAt c os [] r v = ⊥
StandsAt c os (f ∷ fs) r v = IsActive c os f fs r v

abbrev pub Stands : Program → SlotState → Regs → View → Type 0
Stands c s r v = StandsAt c s.objects s.frames r v

pub step_done : (c : Program) (s : SlotState) (r : Regs) (v : View) → IsLinked c → Stands c s r v → Does c r v (step c.code s)
step_done c s r v l a = by_frames s.frames a
  where
    by_frames : (fs : List SlotFrame) → StandsAt c s.objects fs r v → Does c r v (step_of c.code s.objects fs)
    by_frames [] a = absurd a
    by_frames (f ∷ fs) a = steps_done c s.objects f fs r v l a

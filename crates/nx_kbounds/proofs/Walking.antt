-- Steps of the walk over the calls: what they share.
use Rattle.std.proofs.Common.{ap}
use Rattle.std.proofs.Common.{◌≡◌, inl, inr, ◌*◌, ℕ, zero, suc, ◌+◌, ◌≤◌, Bool, true, false, List, length, min, Option, Some, None, refl, sym, ◌∙◌, subst, arith}
use Rattle.std.specs.Prelude.{if◌then◌else◌, nat_lt, slice_get}
use Rattle.std.specs.List.{position_from}
use Rattle.std.specs.Option.{is_none}
use Rattle.nx_base.specs.declared.errno.Errno.{Errno}
use Rattle.nx_base.specs.declared.errno.Errno.TheVariants as errno
use Rattle.nx_ksys.specs.declared.node.Open.{Open}
use Rattle.nx_ksys.specs.declared.node.Target.{Target}
use Rattle.nx_ksys.specs.declared.node.Target.TheVariants as target
use Rattle.nx_ksys.specs.declared.thread.Wait.{Wait}
use Rattle.nx_ksys.specs.Threads.{flat}
use Rattle.nx_ksys.specs.State.{KernelState}
use Rattle.nx_ksys.specs.Descriptors.{Opened, opened_as, opened, description_at, free_descriptor, is_held, swept_target, without_open, released, closed_as, closed, closed_from}
use Rattle.nx_ksys.specs.Answers.{Stepped, Caller, failed, waits, text_out}
use Rattle.nx_ksys.specs.FileCalls.{describe_at, describe, describe_new}
use Rattle.nx_ksys.proofs.Standing.{some_same, none_some}
use Rattle.nx_kbounds.specs.Leading.{WaitStands}
use Rattle.nx_kbounds.proofs.Holding.{descriptor_stands, free_is_closed}
use Rattle.nx_ksys.specs.Descriptors.{per_group, set_descriptor}
use Rattle.nx_kbounds.proofs.Changes.{ClosesLast, Leads, Change, Same, Then, Fails, Waits, Closes, Opens, FileSweeps, QueueSweeps, SemaphoreSweeps, IsNear, AreNumbered}

-- a call is made of changes that take at most two moments
pub record Made (k : KernelState) (s : Stepped) : Type 0 where
  pub moments : ℕ
  pub few : moments ≤ 2
  pub change : Change moments k s.to

pub quiet : (k : KernelState) (s : Stepped) → Change 0 k s.to → Made k s
quiet k s c = record { moments = 0; few = omega arith; change = c }

pub once : (k : KernelState) (s : Stepped) → Change 1 k s.to → Made k s
once k s c = record { moments = 1; few = omega arith; change = c }

pub twice : (k : KernelState) (s : Stepped) → Change 2 k s.to → Made k s
twice k s c = record { moments = 2; few = omega arith; change = c }

pub followed : (k l m : KernelState) → Change 0 k l → Change 0 l m → Change 0 k m
followed k l m c d = Then c d

pub test : (k : KernelState) (b : Bool) (s t : Stepped) → (b ≡ true → Made k s) → (b ≡ false → Made k t) → Made k (if b then s else t)
test k true s t x y = x refl
test k false s t x y = y refl

pub test_change : (k : KernelState) (b : Bool) (l m : KernelState) → (b ≡ true → Change 0 k l) → (b ≡ false → Change 0 k m) → Change 0 k (if b then l else m)
test_change k true l m x y = x refl
test_change k false l m x y = y refl

pub fails : (k : KernelState) (c : Caller) (e : Errno) → Made k (failed k c e)
fails k c e = quiet k _ (Fails c.thread.number e)

pub same : (k : KernelState) (s : Stepped) → s.to ≡ k → Made k s
same k s e = quiet k s (subst (λ l. Change 0 k l) (sym e) Same)

pub texts : (k : KernelState) (c : Caller) (size : ℕ) (text : List ℕ) → Made k (text_out k c size text)
texts k c size text = test k (nat_lt (length text) (min size 4096)) _ _ (λ e. same k _ refl) (λ e. fails k c errno.Einval)

pub blocks : (k : KernelState) (c : Caller) (numbered : AreNumbered k.sched.threads) (for : Wait) (deadline : Option ℕ) → IsNear k.time deadline → WaitStands k.queues k.semaphores (Some for) → Made k (waits k c for deadline)
blocks k c numbered for deadline near awaits = twice k _ (Waits c.thread.number c.asked for deadline numbered near awaits)

pub never : (time : ℕ) → IsNear time None
never time d e = absurd (none_some d e)

-- ---- descriptors

target_swept : (k : KernelState) (t : Target) → Change 0 k (swept_target k t)
target_swept k (target.File place) = FileSweeps place
target_swept k target.Console = Same
target_swept k target.Null = Same
target_swept k (target.Queue place) = QueueSweeps place
target_swept k (target.Semaphore place) = SemaphoreSweeps place

pub target_change : (k : KernelState) (t : Target) → Change 0 k (swept_target k t)
target_change k t = target_swept k t

pub closed_change : (k : KernelState) (place fd : ℕ) → Change 0 k (closed k place fd)
unfolding closed released
closed_change k place fd = by_place (description_at k.descriptors place fd) refl
  where
    by_open : (d : ℕ) → flat (slice_get k.descriptors (per_group * place + fd)) ≡ Some d → is_held d (set_descriptor k.descriptors place fd None) ≡ false → (o : Option Open) → flat (slice_get k.opens d) ≡ o
        → Change 0 k (without_open (record k { descriptors = set_descriptor k.descriptors place fd None }) d o)
    by_open d there e None f = Closes place fd d (inr f) there
    by_open d there e (Some o) f = followed k _ _ (ClosesLast place fd d e there) (target_swept _ o.target)

    by_place : (d : Option ℕ) → description_at k.descriptors place fd ≡ d → Change 0 k (closed_as k place fd d)
    by_place None e = Same
    by_place (Some d) e =
        let there = ap flat (descriptor_stands k.descriptors place fd d e) in
        test_change k (is_held d (set_descriptor k.descriptors place fd None)) _ _ (λ h. Closes place fd d (inl h) there) (λ h. by_open d there h (flat (slice_get k.opens d)) refl)

pub all_closed_change : (n fd place : ℕ) (k : KernelState) → Change 0 k (closed_from n fd place k)
all_closed_change zero fd place k = Same
all_closed_change (suc n) fd place k = followed k (closed k place fd) _ (closed_change k place fd) (all_closed_change n (fd + 1) place (closed k place fd))

-- the description that a descriptor leads to stands at its place
pub opened_stands : (k : KernelState) (place fd : ℕ) (o : Opened) → opened k place fd ≡ Some o → flat (slice_get k.opens o.place) ≡ Some o.description
unfolding opened
opened_stands k place fd o e = by_place (description_at k.descriptors place fd) e
  where
    by_open : (p : ℕ) (q : Option Open) → flat (slice_get k.opens p) ≡ q → opened_as k.opens (Some p) ≡ Some o → flat (slice_get k.opens o.place) ≡ Some o.description
    by_open p None f g = absurd (none_some o (sym (rw f refl) ∙ g))
    by_open p (Some d) f g =
        let there : opened_as k.opens (Some p) ≡ Some (record { place = p; description = d }) = rw f refl in
        let is : (let v : Opened = record { place = p; description = d } in v) ≡ o = some_same _ o (sym there ∙ g) in
        subst (λ v. flat (slice_get k.opens v.place) ≡ Some v.description) is f

    by_place : (d : Option ℕ) → opened_as k.opens d ≡ Some o → flat (slice_get k.opens o.place) ≡ Some o.description
    by_place None g = absurd (none_some o g)
    by_place (Some p) g = by_open p (flat (slice_get k.opens p)) refl g

-- ---- descriptions

pub describes : (k l : KernelState) (c : Caller) (to : Target) (flags : ℕ) → flat (slice_get l.groups c.place) ≡ Some c.group → Leads l to → Change 0 k l → Made k (describe_new k l c to flags)
describes k l c to flags lives leads a = by_descriptor (free_descriptor l.descriptors c.place) refl
  where
    by_place : (fd : ℕ) → free_descriptor l.descriptors c.place ≡ Some fd → (place : Option ℕ) → position_from is_none 0 l.opens ≡ place → Made k (describe_at k l c (record { target = to; flags = flags; offset = 0 }) fd place)
    by_place fd f None e = fails k c errno.Emfile
    by_place fd f (Some place) e = quiet k _ (followed k l _ a (Opens c.place fd place to flags (record { group = c.group; lives = lives; few = (free_is_closed l.descriptors c.place fd f).0; closed = ap flat (free_is_closed l.descriptors c.place fd f).1 }) (free_is_closed l.descriptors c.place fd f).1 e leads))

    by_descriptor : (fd : Option ℕ) → free_descriptor l.descriptors c.place ≡ fd → Made k (describe k l c (record { target = to; flags = flags; offset = 0 }) fd)
    by_descriptor None f = fails k c errno.Emfile
    by_descriptor (Some fd) f = by_place fd f (position_from is_none 0 l.opens) refl

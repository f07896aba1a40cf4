-- What a call, a choice or an end leaves stands for a state that was reached.
use Rattle.std.proofs.Common.{◌≡◌, ◌≤◌, ℕ, List, length, sym, subst, ap, ◌∙◌, arith}
use Rattle.std.specs.Prelude.{slice_get}
use Rattle.std.proofs.lemmas.List.{length-map}
use Rattle.nx_pool.specs.declared.chain.Chain.{Chain}
use Rattle.nx_ksys.specs.State.{Limits, KernelState}
use Rattle.nx_ksys.specs.Boot.{first_entries}
use Rattle.nx_ksys.specs.Bounds.{IsBounded}
use Rattle.nx_kbounds.specs.Counts.{Places, places}
use Rattle.nx_ipc.specs.Tables.{queue_seen}
use Rattle.nx_objects.specs.Tables.{chains_of}
use Rattle.nx_ktables.specs.declared.tables.Tables.{Tables}
use Rattle.nx_ktables.specs.State.{state_of, rooms_of, IsPlaced}
use Rattle.nx_kturns.specs.Standing.{Stands, IsReached, most_calls}

-- as many paths of boot, in a state of the same limits
pub bounded_as : (k l : KernelState) → l.limits ≡ k.limits → IsBounded (length (first_entries k.limits.programs)) l → IsBounded (length (first_entries l.limits.programs)) l
bounded_as k l e b = subst (λ (x : Limits). IsBounded (length (first_entries x.programs)) l) (sym e) b

placed_as : (content content' : Chain → List ℕ) (t t' : Tables) → places (state_of content' t') ≡ places (state_of content t) → IsPlaced t → IsPlaced t'
placed_as content content' t t' e p =
    let threads : length t'.threads.threads ≡ length t.threads.threads = ap (λ (x : Places). x.threads) e in
    let descriptors : length t'.objects.descriptors ≡ length t.objects.descriptors = ap (λ (x : Places). x.descriptors) e in
    let descriptions : length t'.objects.descriptions ≡ length t.objects.descriptions = ap (λ (x : Places). x.opens) e in
    let queues : length t'.objects.queues.queues ≡ length t.objects.queues.queues
    = sym (length-map t'.objects.queues.queues (queue_seen content')) ∙ ap (λ (x : Places). x.queues) e ∙ length-map t.objects.queues.queues (queue_seen content) in
    let semaphores : length t'.objects.semaphores ≡ length t.objects.semaphores = ap (λ (x : Places). x.semaphores) e in
    record {
      few = omega (arith, threads, p.few);
      descriptors = omega (arith, threads, descriptors, p.descriptors);
      descriptions = omega (arith, threads, descriptions, p.descriptions);
      queues = omega (arith, queues, p.queues);
      semaphores = omega (arith, semaphores, p.semaphores);
    }

-- where places and rooms stay, and the new state was reached
pub stands_then : (holds holds' : List Chain → Type 0) (content content' : Chain → List ℕ) (blocks blocks' : ℕ) (t t' : Tables) → Stands holds content blocks t → blocks' ≡ blocks
    → holds' (chains_of t'.objects) → places (state_of content' t') ≡ places (state_of content t) → rooms_of t' ≡ rooms_of t → t'.calls ≤ most_calls → IsReached (state_of content' t') → Stands holds' content' blocks' t'
stands_then holds holds' content content' blocks blocks' t t' s b held e r made reached =
    let limits = ap (λ (x : Places). x.limits) e in
    let threads : length t'.threads.threads ≡ length t.threads.threads = ap (λ (x : Places). x.threads) e in
    let programs : t'.programs.items ≡ t.programs.items = ap (λ (x : Limits). x.programs) limits in
    let first : length (first_entries t'.programs.items) ≡ length (first_entries t.programs.items) = ap (λ ps. length (first_entries ps)) programs in
    let limit : t'.limit ≡ t.limit = ap (λ (x : Limits). x.objects) limits in
    let all : t'.blocks ≡ t.blocks = ap (λ (x : Limits). x.blocks) limits in
    let paths = ap (λ x. x.paths) r in
    let variables = ap (λ x. x.environments) r in
    record {
      held = held;
      store = all ∙ s.store ∙ sym b;
      placed = placed_as content content' t t' e s.placed;
      several = omega (arith, threads, s.several);
      variables = omega (arith, threads, variables, s.variables);
      paths = omega (arith, paths, first, limit, s.paths);
      codes = ap (λ x. x.codes) r ∙ s.codes;
      values = ap (λ x. x.values) r ∙ s.values;
      ends = ap (λ x. x.ended) r ∙ s.ends;
      names = λ place name h. s.names place name (ap (λ ps. slice_get ps place) (sym programs) ∙ h);
      calls = made;
      reached = reached;
    }

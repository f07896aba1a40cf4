-- What the parts of a start come to together.
use Rattle.std.proofs.Common.{◌≡◌, ℕ, ◌+◌, ◌≤◌, Bool, List, [], ◌∷◌, ◌++◌, length, refl, sym, ap, ◌∙◌, subst, arith}
use Rattle.std.specs.Prelude.{if◌then◌else◌, Result, Ok, Err, IsOk}
use Rattle.std.specs.Result.{is_ok}
use Rattle.std.proofs.Props.{props}
use Rattle.std.proofs.Math.Logic.{∥∥₁_elim}
use Rattle.std.proofs.lemmas.List.{length-append}
use Rattle.nx_ram.specs.declared.prog_image.ProgImage.{ProgImage}
use Rattle.nx_frames.specs.declared.frames.Taken.{Taken}
use Rattle.nx_frames.specs.Stock.{Stock, frames_of}
use Rattle.nx_frames.proofs.Chains.{length-chain}
use Rattle.nx_space.specs.World.{World}
use Rattle.nx_space.specs.Starts.{different, free, start_need, started, but_outside}
use Rattle.nx_paged.specs.Tenants.{Tenant}
use Rattle.nx_paged.specs.Paging.{Paging, paged_plan, paged_world, IsPlaced, IsPaged}
use Rattle.nx_paged.specs.Lawful.{needs_taken}
use Rattle.nx_paged.specs.Building.{regions_of}
use Rattle.nx_paged.specs.Starting.{program_entries, CanStart, Startable, IsMappedIn, MapsAll}
use Rattle.nx_paged.proofs.Needs.{need_is}
use Rattle.nx_paged.proofs.Begun.{Starts, program_in, low_of, can_start, newcomer, with_newcomer}
use Rattle.nx_paged.proofs.Newcomers.{begun_paged, begun_world}

world_prop : (a b : World) → IsProp (a ≡ b)
world_prop a b = hlevel props

pub free_is : (s : Paging) → IsPlaced s → free (paged_world s) ≡ length s.stock.free
free_is s h = let n = needs_taken s.ram (paged_plan s) s.tenants in let k = h.counted in omega (arith, n, k)

pub need_same : (s : Paging) (place slot need : ℕ) (p : ProgImage) → p ≡ program_in s place → need ≡ 1 + (length (program_entries p (low_of s slot) s.stack) + different (regions_of (program_entries p (low_of s slot) s.stack))) → need ≡ start_need (paged_plan s) place slot
need_same s place slot need p is e =
    e ∙ ap (λ q. 1 + (length (program_entries q (low_of s slot) s.stack) + different (regions_of (program_entries q (low_of s slot) s.stack)))) is ∙ sym (need_is (paged_plan s) place slot refl)

pub start_ready : (s : Paging) (stock : Stock) (taken_ram : List ℕ) (number place slot root : ℕ) (t : Taken) (p : ProgImage) → p ≡ program_in s place → Starts s stock taken_ram taken_ram number place slot root t → ∥ IsPaged s ∥₁ → ∥ Startable taken_ram (frames_of stock t) root p (low_of s slot) s.stack ∥₁
start_ready s stock taken_ram number place slot root t p is h paged = ∥∥₁_elim paged (hlevel props) (λ q.
    ∣ record { before = q.role; can = subst (λ x. CanStart taken_ram (frames_of stock t) root x (low_of s slot) s.stack q.role) (sym is) (can_start s stock taken_ram taken_ram number place slot root t h q) } ∣₁)

is_mapped : (s : Paging) (stock : Stock) (taken_ram ram : List ℕ) (number place slot root : ℕ) (t : Taken) (p : ProgImage) → p ≡ program_in s place → (h : Starts s stock taken_ram ram number place slot root t) → MapsAll taken_ram ram (frames_of stock t) root p (low_of s slot) s.stack → (q : IsPaged s) → IsMappedIn taken_ram ram (frames_of stock t) root (program_in s place) (low_of s slot) s.stack q.role number
is_mapped s stock taken_ram ram number place slot root t p is h maps q =
    subst (λ x. IsMappedIn taken_ram ram (frames_of stock t) root x (low_of s slot) s.stack q.role number) is
    (maps q.role number (subst (λ x. CanStart taken_ram (frames_of stock t) root x (low_of s slot) s.stack q.role) (sym is) (can_start s stock taken_ram ram number place slot root t h q)))

pub start_paged : (s : Paging) (stock : Stock) (taken_ram ram : List ℕ) (number place slot root : ℕ) (t : Taken) (p : ProgImage) → p ≡ program_in s place → Starts s stock taken_ram ram number place slot root t → MapsAll taken_ram ram (frames_of stock t) root p (low_of s slot) s.stack → ∥ IsPaged s ∥₁ → ∥ IsPaged (with_newcomer s stock ram (newcomer number place slot root t)) ∥₁
start_paged s stock taken_ram ram number place slot root t p is h maps paged = ∥∥₁_elim paged (hlevel props) (λ q.
    ∣ begun_paged s stock taken_ram ram number place slot root t h q (is_mapped s stock taken_ram ram number place slot root t p is h maps q) ∣₁)

pub start_world : (s : Paging) (stock : Stock) (taken_ram ram : List ℕ) (number place slot root : ℕ) (t : Taken) (p : ProgImage) (fresh : Bool) → p ≡ program_in s place → Starts s stock taken_ram ram number place slot root t → MapsAll taken_ram ram (frames_of stock t) root p (low_of s slot) s.stack → ∥ IsPaged s ∥₁ → (let new = paged_world (with_newcomer s stock ram (newcomer number place slot root t)) in new ≡ but_outside (started (paged_world s) number place slot fresh) new)
start_world s stock taken_ram ram number place slot root t p fresh is h maps paged = ∥∥₁_elim paged (world_prop _ _) (λ q.
    begun_world s stock taken_ram ram number place slot root t fresh h q (is_mapped s stock taken_ram ram number place slot root t p is h maps q))

pub start_enough : (s : Paging) (stock : Stock) (taken_ram ram : List ℕ) (number place slot root : ℕ) (t : Taken) → Starts s stock taken_ram ram number place slot root t → start_need (paged_plan s) place slot ≤ free (paged_world s)
start_enough s stock taken_ram ram number place slot root t h =
    let f = free_is s h.placed in
    let o = ap length h.takes.order ∙ length-append (frames_of stock t) stock.free in
    let l = length-chain stock.first stock.next t.head t.count in
    let k = h.takes.count in
    omega (arith, f, o, l, k)

pub pushed : {E : Type 0} (r : Result (Unit {0}) E) (old : List Tenant) (new value : Tenant) (items : List Tenant) → IsOk r → items ≡ (if is_ok r then old ++ value ∷ [] else old) → value ≡ new → items ≡ old ++ new ∷ []
pushed (Ok x) old new value items ok e is = e ∙ ap (λ v. old ++ v ∷ []) is
pushed (Err x) old new value items ok e is = absurd cc

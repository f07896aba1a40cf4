-- States that are reached by a choice, and by a call that fails.
use Rattle.std.proofs.Common.{◌≡◌, ◌<◌, ℕ, ◌+◌, List, length, refl, sym, subst, ap, ◌∙◌, arith}
use Rattle.nx_pool.specs.declared.chain.Chain.{Chain}
use Rattle.nx_ksys.specs.State.{KernelState}
use Rattle.nx_ksys.specs.Boot.{first_entries}
use Rattle.nx_base.specs.ErrorNumbers.{number_of}
use Rattle.nx_base.specs.declared.errno.Errno.TheVariants.{Efault}
use Rattle.nx_ksys.specs.Threads.{with_error}
use Rattle.nx_ksys.specs.Picking.{picked}
use Rattle.nx_ksys.specs.Step.{counted as count_call}
use Rattle.nx_ksys.specs.Soundness.{IsSound}
use Rattle.nx_ksys.proofs.Tables.{sound_changed}
use Rattle.nx_ksys.proofs.Choices.{choices_stay_sound}
use Rattle.nx_ksys.proofs.Bounded.{choices_stay_bounded}
use Rattle.nx_kbounds.specs.Counts.{Places, places, AreFew}
use Rattle.nx_kbounds.proofs.Changes.{Change, Fails}
use Rattle.nx_kbounds.proofs.Standings.{standing_counted}
use Rattle.nx_kbounds.proofs.FewWalk.{Counted, counted, Grows, change_grows}
use Rattle.nx_kbounds.proofs.PlaceWalk.{change_places}
use Rattle.nx_kbounds.proofs.NearWalk.{change_near}
use Rattle.nx_kbounds.proofs.ShortWalk.{change_short}
use Rattle.nx_kbounds.proofs.Reached.{choices_take_none, choices_stay_few, choices_stay_timely, choices_stay_short}
use Rattle.nx_objects.specs.Tables.{chains_of}
use Rattle.nx_ktables.specs.declared.tables.Tables.{Tables}
use Rattle.nx_ktables.specs.State.{state_of, rooms_of}
use Rattle.nx_kturns.specs.Standing.{Stands, IsReached, most_calls}
use Rattle.nx_kturns.specs.Turns.{faulted}
use Rattle.nx_kturns.proofs.Reaching.{bounded_as, stands_then}

pub chosen_reached : (k : KernelState) → IsReached k → IsReached (picked k).to
chosen_reached k r =
    let limits = ap (λ (x : Places). x.limits) (choices_take_none k) in record {
      sound = choices_stay_sound k r.sound;
      few = choices_stay_few k r.few;
      timely = choices_stay_timely k r.timely;
      short = choices_stay_short k r.short;
      bounded = bounded_as k (picked k).to limits (choices_stay_bounded (length (first_entries k.limits.programs)) k r.bounded);
    }

-- ---- a call that fails for its pointers

few_after : (calls : ℕ) (x y : Counted) → Grows 0 x y → AreFew x.sched x.groups x.codes x.values x.ended x.numbers calls → AreFew y.sched y.groups y.codes y.values y.ended y.numbers (calls + 1)
few_after calls x y g h = record {
  given = g.given h.given;
  ends = (let p = g.ends (let e = h.ends in let s = standing_counted x.groups in omega (arith, e, s)) in let s = standing_counted y.groups in omega (arith, p, s));
  children = (let p = g.children (let e = h.children in let s = standing_counted x.groups in omega (arith, e, s)) in let s = standing_counted y.groups in omega (arith, p, s));
  results = (let p = g.results (let e = h.results in let s = standing_counted x.sched.threads in omega (arith, e, s)) in let s = standing_counted y.sched.threads in omega (arith, p, s));
  made = (let p = g.made in let e = h.made in omega (arith, p, e));
}

module _ (k : KernelState) (thread : ℕ) where
  fails : Change 0 (count_call k) (faulted k thread)
  fails = Fails thread Efault

  faulted_sound : IsSound k → IsSound (faulted k thread)
  unfolding with_error
  faulted_sound s = sound_changed (λ u. record u { errno = number_of Efault }) (λ u. refl) (λ u. refl) thread k.sched.threads k.groups k.numbers s (λ r u a q. let w = s.each_thread r u a in w.agrees)

  pub faulted_places : places (faulted k thread) ≡ places k
  faulted_places = change_places fails

  pub faulted_reached : IsReached k → IsReached (faulted k thread)
  faulted_reached r = record {
    sound = faulted_sound r.sound;
    few = few_after k.calls (counted k) (counted (faulted k thread)) (change_grows fails) r.few;
    timely = change_near fails r.timely;
    short = change_short fails r.short;
    bounded = r.bounded;
  }

module _ (holds holds' : List Chain → Type 0) (content content' : Chain → List ℕ) (blocks blocks' : ℕ) (t t' : Tables) where
  -- what a choice leaves
  pub chosen_stands : Stands holds content blocks t → blocks' ≡ blocks → holds' (chains_of t'.objects) → rooms_of t' ≡ rooms_of t → t'.calls ≡ t.calls → state_of content' t' ≡ (picked (state_of content t)).to → Stands holds' content' blocks' t'
  chosen_stands s b held r c e =
      let k = state_of content t in
      let few = s.calls in
      let same = ap places e ∙ choices_take_none k in
      stands_then holds holds' content content' blocks blocks' t t' s b held same r (omega (arith, c, few)) (subst IsReached (sym e) (chosen_reached k s.reached))

  -- and what a failing call leaves
  pub faulted_stands : (thread : ℕ) → Stands holds content blocks t → blocks' ≡ blocks → holds' (chains_of t'.objects) → rooms_of t' ≡ rooms_of t → t.calls < most_calls → t'.calls ≡ t.calls + 1 → state_of content' t' ≡ faulted (state_of content t) thread → Stands holds' content' blocks' t'
  faulted_stands thread s b held r few c e =
      let k = state_of content t in
      stands_then holds holds' content content' blocks blocks' t t' s b held (ap places e ∙ faulted_places k thread) r (omega (arith, c, few)) (subst IsReached (sym e) (faulted_reached k thread s.reached))

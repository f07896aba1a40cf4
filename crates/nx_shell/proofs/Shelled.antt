-- The shell's code comes where its definition comes.
use Rattle.std.proofs.Common.{◌≡◌, ℕ, zero, suc, ◌≤◌, ◌==◌, Bool, true, false, if◌then◌else◌, List, length, map, Option, Some, None, refl, sym, ap, ◌∙◌, subst}
use Rattle.nx_base.specs.Calls.{Reply}
use Rattle.nx_shtree.specs.declared.tree.Simple.{Simple}
use Rattle.nx_shtree.specs.Trees.{Item, Items, items}
use Rattle.nx_shrun.specs.declared.step.Ending.{Ending}
use Rattle.nx_shrun.specs.declared.step.Ending.TheVariants.{Status, Exit}
use Rattle.nx_shrun.specs.declared.place.Node as rust_node
use Rattle.nx_shrun.specs.Calls.{Call, getpid, exit}
use Rattle.nx_shrun.specs.Places.{Node, place_of, node_at, Has, Coded, Stands}
use Rattle.nx_shrun.specs.Rest.{Next, Over as Stop, Runs, next}
use Rattle.nx_shrun.specs.Steps.{Doing, Starts, Asks, Does, Outcome, Over, Goes}
use Rattle.nx_shrun.specs.ShellCalls as s
use Rattle.nx_shrun.specs.ShellCalls.{Shell, Ended, command, comes, comes_after, goes_on, answered, call_of, call_made, started}
use Rattle.nx_shrun.proofs.Placed.{stands}
use Rattle.nx_ksys.specs.declared.cooked.Cooked.{Cooked}
use Rattle.nx_shstep.specs.Made.{Tells}
use Rattle.nx_shell.specs.declared.shell.Shell as rust_shell
use Rattle.nx_shell.specs.declared.filling.Filling.{Filling}
use Rattle.nx_shell.specs.declared.walk.Walk.{Walk}
use Rattle.nx_shell.specs.declared.walk.Stage.TheVariants as stage
use Rattle.nx_shell.specs.Kept.{all_words}
use Rattle.nx_shell.specs.Walks.{IsThere, Comes, Follows, IsSteady, IsFit, StaysFit}
use Rattle.nx_shell.specs.Shells.{table_of, IsAt, Answers, Shows, HaveRoom, command_in, IsReady, came_call, Came, place_after, Ends}

-- It comes to a place where the next command stands.
comes_next : (new : rust_shell.Shell) (n to : ℕ) (x : Next) → Stands (table_of new) to x → new.at ≡ to → new.status ≡ n → new.walk.command.call ≡ came_call to n → new.walk.stage ≡ stage.Starts → IsAt new (comes n x)
comes_next new n to Stop st ea es em eb = (ea ∙ st, em ∙ ap (λ t. came_call t n) st)
comes_next new n zero (Runs c background a b) st ea es em eb = let z = st.2 in absurd cc
comes_next new n (suc i) (Runs c background a b) st ea es em eb =
    (st.0, st.1, subst (λ t. Has (table_of new) t c background st.0 st.1) (sym ea) st.2, st.3, st.4, es, record { at = eb; call = em })

pub came_there : (old new : rust_shell.Shell) (to status : ℕ) → Came old new to status → ((n : Node) → node_at (table_of old) old.at ≡ Some n → place_after status n ≡ to) → Ends old new (Status status)
came_there old new to status k h n e = subst (λ t. Came old new t status) (sym (h n e)) k

table_is : (old new : rust_shell.Shell) → new.nodes.items ≡ old.nodes.items → table_of new ≡ table_of old
table_is old new e = ap (map place_of) e

coded_at : {ns ms : List (Option Node)} (xs : Items) (t k : ℕ) → ms ≡ ns → Coded ns xs t k → Coded ms xs t k
coded_at xs t k e h = subst (λ x. Coded x xs t k) (sym e) h

picks : (ns : List (Option Node)) (t : Bool) (a b : Items) (u v : ℕ) → Coded ns a u 0 → Coded ns b v 0 → Coded ns (if t then a else b) (if t then u else v) 0
picks ns true a b u v x y = x
picks ns false a b u v x y = y

-- The command at its place is over.
over_at : (old new : rust_shell.Shell) (status : ℕ) (c : Simple) (background : Bool) (a b : Items) (u v : ℕ) (ending : Ending)
    → Has (table_of old) old.at c background u v → Coded (table_of old) a u 0 → Coded (table_of old) b v 0 → Ends old new ending → IsAt new (comes_after a b ending)
over_at old new status c background a b u v (Exit value) has ha hb ends = (ends.at, ends.call)
over_at old new status c background a b u v (Status n) has ha hb ends =
    let k : Came old new (if n == 0 then u else v) n = ends (record { c = c; background = background; at_zero = u; at_other = v }) has in
    let coded : Coded (table_of old) (if n == 0 then a else b) (if n == 0 then u else v) 0 = picks (table_of old) (n == 0) a b u v ha hb in
    let there : Coded (table_of new) (if n == 0 then a else b) (if n == 0 then u else v) 0 = coded_at _ _ 0 (table_is old new k.nodes) coded in
    comes_next new n (if n == 0 then u else v) (next (if n == 0 then a else b)) (stands (table_of new) _ _ there) k.at k.status k.call k.starts

command_is : (o : Option Node) (c d : Simple) (background : Bool) (u v : ℕ) → o ≡ Some (record { c = c; background = background; at_zero = u; at_other = v }) → command_in o ≡ Some d → d ≡ c
command_is o c d background u v e h = let z : Some c ≡ Some d = sym (ap command_in e) ∙ h in cc

pub none_answers : (old : rust_shell.Shell) (r : Reply) → node_at (table_of old) old.at ≡ None → Answers old old r
none_answers old r e (Ended value) h = h
none_answers old r e (s.At status c background a b d) h = let z = sym e ∙ h.2 in absurd cc

-- The reply of a command that goes on, or is over.
told : (c d : Simple) (background other : Bool) (status now : ℕ) (old new : Walk) (result : Option Ending) (r : Reply) (x : Doing) → d ≡ c → other ≡ background → now ≡ status → Follows d other now old result new r → IsThere c old x → Comes c result new (command c background status x r)
told c d background other status now old new result r x ec eb es f h = three ec eb es f x h
  where
    three : d ≡ c → other ≡ background → now ≡ status → Follows d other now old result new r → Follows c background status old result new r
    three e f g k = subst (λ y. Follows c background y old result new r) g (subst (λ y. Follows c y now old result new r) f (subst (λ y. Follows y other now old result new r) e k))

goes_at : (new : rust_shell.Shell) (status : ℕ) (c : Simple) (background : Bool) (a b : Items) (u v : ℕ) (o : Outcome)
    → Has (table_of new) new.at c background u v → Coded (table_of new) a u 0 → Coded (table_of new) b v 0 → new.status ≡ status → Comes c None new.walk o → IsAt new (goes_on status c background a b o)
goes_at new status c background a b u v (Over ending) has ha hb es h = absurd cc
goes_at new status c background a b u v (Goes d) has ha hb es h = (u, v, has, ha, hb, es, h.1)

pub goes_answers : (old new : rust_shell.Shell) (d : Simple) (other : Bool) (r : Reply) → new.nodes.items ≡ old.nodes.items → new.at ≡ old.at → new.status ≡ old.status
    → command_in (node_at (table_of old) old.at) ≡ Some d → ((n : Node) → node_at (table_of old) old.at ≡ Some n → n.background ≡ other)
    → Follows d other old.status old.walk None new.walk r → Answers old new r
goes_answers old new d other r en ea es ec eb f (Ended value) h = let z : command_in (node_at (table_of old) 0) ≡ Some d = subst (λ t. command_in (node_at (table_of old) t) ≡ Some d) h.0 ec in absurd cc
goes_answers old new d other r en ea es ec eb f (s.At status c background a b x) h =
    let same : d ≡ c = command_is _ c d background h.0 h.1 h.2 ec in
    let k : Comes c None new.walk (command c background status x r) = told c d background other status old.status old.walk new.walk None r x same (sym (eb _ h.2)) h.5 f h.6 in
    let t : table_of new ≡ table_of old = table_is old new en in
    goes_at new status c background a b h.0 h.1 (command c background status x r) (has_at t ea h.2) (coded_at a h.0 0 t h.3) (coded_at b h.1 0 t h.4) (es ∙ h.5) k
  where
    has_at : {ns ms : List (Option Node)} {i j : ℕ} {m : Option Node} → ms ≡ ns → j ≡ i → node_at ns i ≡ m → node_at ms j ≡ m
    has_at e f g = rw (e, f) g

ends_at : (old new : rust_shell.Shell) (mid : Walk) (status : ℕ) (c : Simple) (background : Bool) (a b : Items) (u v : ℕ) (ending : Ending) (o : Outcome)
    → Has (table_of old) old.at c background u v → Coded (table_of old) a u 0 → Coded (table_of old) b v 0 → Ends old new ending → Comes c (Some ending) mid o → IsAt new (goes_on status c background a b o)
ends_at old new mid status c background a b u v ending (Goes d) has ha hb k h = let z = h.0 in absurd cc
ends_at old new mid status c background a b u v ending (Over e) has ha hb k h = let z : ending ≡ e = cc in subst (λ y. IsAt new (comes_after a b y)) z (over_at old new status c background a b u v ending has ha hb k)

ends_from : (old mid new : rust_shell.Shell) (ending : Ending) → mid.nodes.items ≡ old.nodes.items → mid.at ≡ old.at → Ends mid new ending → Ends old new ending
ends_from old mid new (Exit value) en ea k = record { nodes = k.nodes ∙ en; at = k.at; call = k.call; starts = k.starts }
ends_from old mid new (Status status) en ea k = λ n e.
    let there : node_at (table_of mid) mid.at ≡ Some n = both (table_is old mid en) ea e in
    let m : Came mid new (place_after status n) status = k n there in
    record { nodes = m.nodes ∙ en; at = m.at; status = m.status; call = m.call; starts = m.starts }
  where
    both : {ns ms : List (Option Node)} {i j : ℕ} {o : Option Node} → ms ≡ ns → j ≡ i → node_at ns i ≡ o → node_at ms j ≡ o
    both e f g = rw (e, f) g

pub ends_answers : (old mid new : rust_shell.Shell) (d : Simple) (other : Bool) (ending : Ending) (r : Reply) → mid.nodes.items ≡ old.nodes.items → mid.at ≡ old.at
    → command_in (node_at (table_of old) old.at) ≡ Some d → ((n : Node) → node_at (table_of old) old.at ≡ Some n → n.background ≡ other)
    → Follows d other old.status old.walk (Some ending) mid.walk r → Ends mid new ending → Answers old new r
ends_answers old mid new d other ending r en ea ec eb f k (Ended value) h = let z : command_in (node_at (table_of old) 0) ≡ Some d = subst (λ t. command_in (node_at (table_of old) t) ≡ Some d) h.0 ec in absurd cc
ends_answers old mid new d other ending r en ea ec eb f k (s.At status c background a b x) h =
    let same : d ≡ c = command_is _ c d background h.0 h.1 h.2 ec in
    let g : Comes c (Some ending) mid.walk (command c background status x r) = told c d background other status old.status old.walk mid.walk (Some ending) r x same (sym (eb _ h.2)) h.5 f h.6 in
    ends_at old new mid.walk status c background a b h.0 h.1 ending (command c background status x r) h.2 h.3 h.4 (ends_from old mid new ending en ea k) g

-- There is room, before and after.
pub room_of : (ns : List (Option Node)) (t room : ℕ) (c : Simple) → HaveRoom ns room → command_in (node_at ns t) ≡ Some c → length (all_words c) ≤ room
room_of ns t room c h e = of (node_at ns t) refl
  where
    of : (o : Option Node) → node_at ns t ≡ o → length (all_words c) ≤ room
    of None is = let z : command_in (node_at ns t) ≡ None = ap command_in is in absurd cc
    of (Some n) is = let same : n.c ≡ c = cc (sym (ap command_in is) ∙ e) in subst (λ (b : Simple). length (all_words b) ≤ room) same (h t n is)

ready_with : (old new : rust_shell.Shell) → new.nodes.items ≡ old.nodes.items → IsSteady new.walk → IsFit new.walk.stage new.walk → new.walk.filling.words.room ≡ old.walk.filling.words.room → IsReady old → IsReady new
ready_with old new en st fit er h = record { steady = st; fit = fit; room = two (table_is old new en) er h.room }
  where
    two : {ns ms : List (Option Node)} {i j : ℕ} → ms ≡ ns → j ≡ i → HaveRoom ns i → HaveRoom ms j
    two e f g = rw (e, f) g

pub goes_ready : (old new : rust_shell.Shell) → new.nodes.items ≡ old.nodes.items → IsSteady new.walk → StaysFit None new.walk → new.walk.filling.words.room ≡ old.walk.filling.words.room → IsReady old → IsReady new
goes_ready old new en st fit er h = ready_with old new en st fit er h

starts_fit : (w : Walk) → w.stage ≡ stage.Starts → IsFit w.stage w
starts_fit w e = rw e tt

stage_of : (old new : rust_shell.Shell) (ending : Ending) (n : Node) → node_at (table_of old) old.at ≡ Some n → Ends old new ending → (new.nodes.items ≡ old.nodes.items) × (new.walk.stage ≡ stage.Starts)
stage_of old new (Status status) n e k = let m = k n e in (m.nodes, m.starts)
stage_of old new (Exit value) n e k = (k.nodes, k.starts)

pub ends_ready : (old mid new : rust_shell.Shell) (d : Simple) (ending : Ending) → mid.nodes.items ≡ old.nodes.items → mid.at ≡ old.at → command_in (node_at (table_of old) old.at) ≡ Some d
    → Ends mid new ending → IsSteady new.walk → new.walk.filling ≡ mid.walk.filling → mid.walk.filling.words.room ≡ old.walk.filling.words.room → IsReady old → IsReady new
ends_ready old mid new d ending en ea ec k st ef er h = of (node_at (table_of old) old.at) refl
  where
    of : (o : Option Node) → node_at (table_of old) old.at ≡ o → IsReady new
    of None is = let z : command_in (node_at (table_of old) old.at) ≡ None = ap command_in is in absurd cc
    of (Some n) is = let two = stage_of old new ending n is (ends_from old mid new ending en ea k) in ready_with old new two.0 st (starts_fit new.walk two.1) (ap (λ (f : Filling). f.words.room) ef ∙ er) h

-- The first call.
pub begins_at : (mid new : rust_shell.Shell) (ns : List (Option rust_node.Node)) (script : List Item) (start : ℕ) → Coded (map place_of ns) (items script) start 0 → mid.nodes.items ≡ ns → Came mid new start 0 → IsAt new (started script)
begins_at mid new ns script start h e k =
    comes_next new 0 start (next (items script)) (stands (table_of new) (items script) start (subst (λ xs. Coded (map place_of xs) (items script) start 0) (sym (k.nodes ∙ e)) h)) k.at k.status k.call k.starts

pub begins_ready : (mid new : rust_shell.Shell) (ns : List (Option rust_node.Node)) (start room : ℕ) → HaveRoom (map place_of ns) room → mid.nodes.items ≡ ns → Came mid new start 0 → IsSteady new.walk → new.walk.filling ≡ mid.walk.filling → mid.walk.filling.words.room ≡ room → IsReady new
begins_ready mid new ns start room h e k st ef er = record { steady = st; fit = starts_fit new.walk k.starts; room = two (ap (map place_of) (k.nodes ∙ e)) (ap (λ (f : Filling). f.words.room) ef ∙ er) h }
  where
    two : {xs ys : List (Option Node)} {i j : ℕ} → ys ≡ xs → j ≡ i → HaveRoom xs i → HaveRoom ys j
    two e f g = rw (e, f) g

-- The call that was made last.
told_of : (c : Simple) (w : Walk) (d : Doing) → IsThere c w d → w.command.call ≡ call_of d
told_of c w Starts h = h.call
told_of c w (Asks name words word rest) h = h.call
told_of c w (Does q g a k) h = let z = h.doing in cc

pub made_is : (x : rust_shell.Shell) (y : Shell) → IsAt x y → x.walk.command.call ≡ call_made y
made_is x (Ended value) at = at.1
made_is x (s.At status c background a b d) at = told_of c x.walk d at.6

pub shows : (x : rust_shell.Shell) (t : Cooked) → Tells x.walk.command.call t → Shows x t
shows x t h (Ended value) at = subst (λ q. Tells q t) at.1 h
shows x t h (s.At status c background a b d) at = subst (λ q. Tells q t) (told_of c x.walk d at.6) h

-- The call at a place.
pub came_zero : (q : Call) (to status : ℕ) → to ≡ 0 → q ≡ exit status → q ≡ came_call to status
came_zero q to status z e = rw z e

pub came_other : (q : Call) (to status : ℕ) → (to ≡ 0 → ⊥) → q ≡ getpid → q ≡ came_call to status
came_other q zero status h e = absurd (h refl)
came_other q (suc i) status h e = e

-- A shell that has ended ran its script by its grammar.
use Rattle.std.proofs.Common.{◌≡◌, ◌≢◌, ℕ, zero, suc, ◌<◌, ◌==◌, Bool, true, false, if◌then◌else◌, ◌⊎◌, inl, inr, List, [], ◌∷◌, ◌++◌, length, refl, sym, ap, ◌∙◌, subst, arith, append_assoc}
use Rattle.std.proofs.lemmas.Bool.{eqb-true, eqb-false}
use Rattle.std.proofs.lemmas.List.{map-append}
use Rattle.nx_base.specs.Calls.{Reply}
use Rattle.nx_shtree.specs.declared.tree.Simple.{Simple}
use Rattle.nx_shtree.specs.Trees as tree
use Rattle.nx_shtree.specs.Trees.{Items, NoMore, More, Item, At, ItemKind, items}
use Rattle.nx_shrun.specs.declared.step.Ending.{Ending}
use Rattle.nx_shrun.specs.declared.step.Ending.TheVariants.{Status, Exit}
use Rattle.nx_shrun.specs.Calls.{Call, exit}
use Rattle.nx_shrun.specs.Rest.{before, next}
use Rattle.nx_shrun.specs.Steps.{Doing, Starts, Outcome, Over, Goes}
use Rattle.nx_shrun.specs.ShellCalls as s
use Rattle.nx_shrun.specs.ShellCalls.{Shell, Ended, answered, after, call_of, command, comes, comes_after, goes_on, calls_from, started, shell_calls}
use Rattle.nx_shrun.specs.Runs as run
use Rattle.nx_shrun.specs.Runs.{Exchange, exchange, calls, replies, Ran, RanItem, RanWhole, value_of, ScriptsRunByTheirGrammar}

-- one list before two is one before the other two
before_before : (xs ys k : Items) → before xs (before ys k) ≡ before (before xs ys) k
before_before NoMore ys k = refl
before_before (More x xs) ys k = ap (λ r. More x r) (before_before xs ys k)

-- a run of two lists: the first ends the shell, or the second runs after it
pub record Parted (xs k : Items) (n : ℕ) (es : List Exchange) (e : Ending) : Type 0 where
  pub status : ℕ
  pub first : List Exchange
  pub second : List Exchange
  pub ran : Ran xs n first (Status status)
  pub rest : Ran k status second e
  pub whole : es ≡ first ++ second

pub record Left (xs : Items) (n : ℕ) (es : List Exchange) (e : Ending) : Type 0 where
  pub value : ℕ
  pub ended : e ≡ Exit value
  pub ran : Ran xs n es (Exit value)

after_item : (x : Item) (xs k : Items) (n m : ℕ) (es fs : List Exchange) (e : Ending) → RanItem x n es (Status m) → Left xs m fs e ⊎ Parted xs k m fs e → Left (More x xs) n (es ++ fs) e ⊎ Parted (More x xs) k n (es ++ fs) e
after_item x xs k n m es fs e i (inl l) = inl (record { value = l.value; ended = l.ended; ran = run.Then x xs n m es fs (Exit l.value) i l.ran })
after_item x xs k n m es fs e i (inr p) = inr (record { status = p.status; first = es ++ p.first; second = p.second; ran = run.Then x xs n m es p.first (Status p.status) i p.ran; rest = p.rest; whole = ap (λ r. es ++ r) p.whole ∙ sym (append_assoc es p.first p.second) })

part : (xs k ws : Items) (n : ℕ) (es : List Exchange) (e : Ending) → Ran ws n es e → ws ≡ before xs k → Left xs n es e ⊎ Parted xs k n es e
part NoMore k ws n es e h same = inr (record { status = n; first = []; second = es; ran = run.Nothing n; rest = subst (λ w. Ran w n es e) same h; whole = refl })
part (More x xs) k _ _ _ _ (run.Nothing n) same = absurd cc
part (More x xs) k _ _ _ _ (run.Leaves y ys n value es i) same = let is : y ≡ x = cc in inl (record { value = value; ended = refl; ran = run.Leaves x xs n value es (subst (λ z. RanItem z n es (Exit value)) is i) })
part (More x xs) k _ _ _ _ (run.Then y ys n m es fs e i h) same =
    let is : y ≡ x = cc in
    let rest : ys ≡ before xs k = cc in
    after_item x xs k n m es fs e (subst (λ z. RanItem z n es (Status m)) is i) (part xs k ys m fs e h rest)

-- the shell ran a command to its end, and then comes to what its ending chooses
pub record RanCommand (c : Simple) (b : Bool) (n : ℕ) (at_zero at_other : Items) (d : Doing) (rs : List Reply) (value : ℕ) : Type 0 where
  pub exchanges : List Exchange
  pub ending : Ending
  pub more : List Reply
  pub ran : run.Goes c b n d exchanges ending
  pub told : rs ≡ replies exchanges ++ more
  pub less : length more < length rs
  pub rest : after (comes_after at_zero at_other ending) more ≡ Ended value
  pub called : calls_from (s.At n c b at_zero at_other d) rs ≡ calls exchanges ++ calls_from (comes_after at_zero at_other ending) more

run_command : (c : Simple) (b : Bool) (n : ℕ) (at_zero at_other : Items) (d : Doing) (rs : List Reply) (value : ℕ) → after (s.At n c b at_zero at_other d) rs ≡ Ended value → RanCommand c b n at_zero at_other d rs value
run_command c b n at_zero at_other d [] value h = absurd cc
run_command c b n at_zero at_other d (r ∷ rs) value h = by_outcome (λ next e. run_command c b n at_zero at_other next rs value e) (command c b n d r) refl
  where
    on : (next : Doing) → command c b n d r ≡ Goes next → RanCommand c b n at_zero at_other next rs value → RanCommand c b n at_zero at_other d (r ∷ rs) value
    on next e w = record {
      exchanges = exchange (call_of d) r ∷ w.exchanges;
      ending = w.ending;
      more = w.more;
      ran = run.GoesOn d next r w.exchanges w.ending e w.ran;
      told = ap (λ xs. r ∷ xs) w.told;
      less = omega (arith, w.less);
      rest = w.rest;
      called = ap (λ o. call_of d ∷ calls_from (goes_on n c b at_zero at_other o) rs) e ∙ ap (λ qs. call_of d ∷ qs) w.called;
    }

    by_outcome : ((next : Doing) → after (s.At n c b at_zero at_other next) rs ≡ Ended value → RanCommand c b n at_zero at_other next rs value) → (x : Outcome) → command c b n d r ≡ x → RanCommand c b n at_zero at_other d (r ∷ rs) value
    by_outcome later (Over ending) e = record {
      exchanges = exchange (call_of d) r ∷ [];
      ending = ending;
      more = rs;
      ran = run.AtLast d r ending e;
      told = refl;
      less = omega arith;
      rest = sym (ap (λ o. after (goes_on n c b at_zero at_other o) rs) e) ∙ h;
      called = ap (λ o. call_of d ∷ calls_from (goes_on n c b at_zero at_other o) rs) e;
    }
    by_outcome later (Goes next) e = on next e (later next (sym (ap (λ o. after (goes_on n c b at_zero at_other o) rs) e) ∙ h))

ended_after : (value : ℕ) (rs : List Reply) → after (Ended value) rs ≡ Ended value
ended_after value [] = refl
ended_after value (r ∷ rs) = ended_after value rs

ended_calls : (value : ℕ) (rs : List Reply) → calls_from (Ended value) rs ≡ exit value ∷ []
ended_calls value [] = refl
ended_calls value (r ∷ rs) = refl

value_at : Shell → ℕ
value_at (s.At n c b at_zero at_other d) = 0
value_at (Ended value) = value

same_value : (v value : ℕ) (rs : List Reply) → after (Ended v) rs ≡ Ended value → v ≡ value
unfolding value_at
same_value v value rs h = ap value_at (sym (ended_after v rs) ∙ h)

-- what a command's ending chooses: the shell's end, what follows at status 0, or what follows at another
pub data Chosen (c : Simple) (b : Bool) (n : ℕ) (at_zero at_other : Items) (rs : List Reply) (value : ℕ) : Type 0 where
  Exits : (es : List Exchange) (more : List Reply) → run.RanSimple c b n es (Exit value) → rs ≡ replies es ++ more → calls_from (s.At n c b at_zero at_other Starts) rs ≡ calls es ++ exit value ∷ [] → Chosen c b n at_zero at_other rs value
  Zero : (es : List Exchange) (more : List Reply) → run.RanSimple c b n es (Status 0) → rs ≡ replies es ++ more → length more < length rs → after (comes 0 (next at_zero)) more ≡ Ended value →
      calls_from (s.At n c b at_zero at_other Starts) rs ≡ calls es ++ calls_from (comes 0 (next at_zero)) more → Chosen c b n at_zero at_other rs value
  Other : (m : ℕ) (es : List Exchange) (more : List Reply) → m ≢ 0 → run.RanSimple c b n es (Status m) → rs ≡ replies es ++ more → length more < length rs → after (comes m (next at_other)) more ≡ Ended value →
      calls_from (s.At n c b at_zero at_other Starts) rs ≡ calls es ++ calls_from (comes m (next at_other)) more → Chosen c b n at_zero at_other rs value

choose : (c : Simple) (b : Bool) (n : ℕ) (at_zero at_other : Items) (rs : List Reply) (value : ℕ) → RanCommand c b n at_zero at_other Starts rs value → Chosen c b n at_zero at_other rs value
choose c b n at_zero at_other rs value w = by_ending w.ending w.ran w.rest w.called
  where
    at_status : (m : ℕ) (test : Bool) → (m == 0) ≡ test → run.Goes c b n Starts w.exchanges (Status m) → after (comes m (next (if test then at_zero else at_other))) w.more ≡ Ended value
        → calls_from (s.At n c b at_zero at_other Starts) rs ≡ calls w.exchanges ++ calls_from (comes m (next (if test then at_zero else at_other))) w.more → Chosen c b n at_zero at_other rs value
    at_status m true e g t q = let z = eqb-true m 0 e in Zero w.exchanges w.more (subst (λ k. run.Goes c b n Starts w.exchanges (Status k)) z g) w.told w.less (subst (λ k. after (comes k (next at_zero)) w.more ≡ Ended value) z t) (subst (λ k. calls_from (s.At n c b at_zero at_other Starts) rs ≡ calls w.exchanges ++ calls_from (comes k (next at_zero)) w.more) z q)
    at_status m false e g t q = Other m w.exchanges w.more (eqb-false m 0 e) g w.told w.less t q

    by_ending : (e : Ending) → run.Goes c b n Starts w.exchanges e → after (comes_after at_zero at_other e) w.more ≡ Ended value → calls_from (s.At n c b at_zero at_other Starts) rs ≡ calls w.exchanges ++ calls_from (comes_after at_zero at_other e) w.more → Chosen c b n at_zero at_other rs value
    by_ending (Status m) g t q = at_status m (m == 0) refl g t q
    by_ending (Exit v) g t q = let e = same_value v value w.more t in Exits w.exchanges w.more (subst (λ k. run.Goes c b n Starts w.exchanges (Exit k)) e g) w.told (q ∙ ap (λ qs. calls w.exchanges ++ qs) (ended_calls v w.more ∙ ap (λ k. exit k ∷ []) e))

-- the shell ran a list to its end
pub record RanList (xs : Items) (n : ℕ) (rs : List Reply) (value : ℕ) : Type 0 where
  pub exchanges : List Exchange
  pub ending : Ending
  pub more : List Reply
  pub ran : Ran xs n exchanges ending
  pub told : rs ≡ replies exchanges ++ more
  pub called : calls_from (comes n (next xs)) rs ≡ calls exchanges ++ exit value ∷ []
  pub passed : value ≡ value_of ending

replies_of : (es fs : List Exchange) (more : List Reply) → replies es ++ (replies fs ++ more) ≡ replies (es ++ fs) ++ more
replies_of es fs more = sym (append_assoc (replies es) (replies fs) more) ∙ ap (λ rs. rs ++ more) (sym (map-append (λ (e : Exchange). e.reply) es fs))

calls_of : (es fs : List Exchange) (more : List Call) → calls es ++ (calls fs ++ more) ≡ calls (es ++ fs) ++ more
calls_of es fs more = sym (append_assoc (calls es) (calls fs) more) ∙ ap (λ rs. rs ++ more) (sym (map-append (λ (e : Exchange). e.call) es fs))

-- a command ran, and a list after it
then_list : (xs ys : Items) (n m : ℕ) (rs more : List Reply) (value : ℕ) (es : List Exchange) → rs ≡ replies es ++ more → calls_from (comes n (next xs)) rs ≡ calls es ++ calls_from (comes m (next ys)) more
    → ((fs : List Exchange) (e : Ending) → Ran ys m fs e → Ran xs n (es ++ fs) e) → RanList ys m more value → RanList xs n rs value
then_list xs ys n m rs more value es t q whole w = record {
  exchanges = es ++ w.exchanges;
  ending = w.ending;
  more = w.more;
  ran = whole w.exchanges w.ending w.ran;
  told = t ∙ ap (λ r. replies es ++ r) w.told ∙ replies_of es w.exchanges w.more;
  called = q ∙ ap (λ c. calls es ++ c) w.called ∙ calls_of es w.exchanges (exit value ∷ []);
  passed = w.passed;
}

-- an item's condition ended the shell
exits_at : (x : Item) (xs : Items) (n : ℕ) (rs more : List Reply) (value : ℕ) (es : List Exchange) → rs ≡ replies es ++ more → calls_from (comes n (next (More x xs))) rs ≡ calls es ++ exit value ∷ [] → RanItem x n es (Exit value) → RanList (More x xs) n rs value
exits_at x xs n rs more value es t q i = record { exchanges = es; ending = Exit value; more = more; ran = run.Leaves x xs n value es i; told = t; called = q; passed = refl }

-- what is in an item runs before what is after it
inside : (x : Item) (xs k : Items) (n m : ℕ) (es : List Exchange) → ((gs : List Exchange) (d : Ending) → Ran xs m gs d → RanItem x n (es ++ gs) d)
    → (fs : List Exchange) (e : Ending) → Ran (before xs k) m fs e → Ran (More x k) n (es ++ fs) e
inside x xs k n m es item fs e h = by_part (part xs k (before xs k) m fs e h refl)
  where
    by_part : Left xs m fs e ⊎ Parted xs k m fs e → Ran (More x k) n (es ++ fs) e
    by_part (inl l) = subst (λ d. Ran (More x k) n (es ++ fs) d) (sym l.ended) (run.Leaves x k n l.value (es ++ fs) (item fs (Exit l.value) l.ran))
    by_part (inr p) = subst (λ gs. Ran (More x k) n gs e) (append_assoc es p.first p.second ∙ ap (λ r. es ++ r) (sym p.whole)) (run.Then x k n p.status (es ++ p.first) p.second e (item p.first (Status p.status) p.ran) p.rest)

-- a loop's body and itself before what is after it
again : (x : Item) (xs k : Items) (n m : ℕ) (es : List Exchange) → ((gs : List Exchange) (d : Ending) → Ran (before xs (More x NoMore)) m gs d → RanItem x n (es ++ gs) d)
    → (fs : List Exchange) (e : Ending) → Ran (before xs (More x k)) m fs e → Ran (More x k) n (es ++ fs) e
again x xs k n m es item fs e h = inside x (before xs (More x NoMore)) k n m es item fs e (subst (λ ys. Ran ys m fs e) (before_before xs (More x NoMore) k) h)

-- an item that was one command
alone : (x : Item) (k : Items) (n m : ℕ) (es : List Exchange) → RanItem x n es (Status m) → (fs : List Exchange) (e : Ending) → Ran k m fs e → Ran (More x k) n (es ++ fs) e
alone x k n m es i fs e h = run.Then x k n m es fs e i h

-- the lists that are left have fewer replies
abbrev Later : ℕ → ℕ → Type 0
Later fuel value = (xs : Items) (n : ℕ) (rs : List Reply) → length rs < fuel → after (comes n (next xs)) rs ≡ Ended value → RanList xs n rs value

at_command : (l fuel n : ℕ) (c : Simple) (k : Items) (rs : List Reply) (value : ℕ) → length rs < suc fuel → Later fuel value → Chosen c false n k k rs value → RanList (More (At l (tree.Command c)) k) n rs value
at_command l fuel n c k rs value le later (Exits es more g t q) = exits_at _ k n rs more value es t q (run.Command l n c es (Exit value) g)
at_command l fuel n c k rs value le later (Zero es more g t less h q) = then_list (More (At l (tree.Command c)) k) k n 0 rs more value es t q (alone (At l (tree.Command c)) k n 0 es (run.Command l n c es (Status 0) g)) (later k 0 more (omega (arith, le, less)) h)
at_command l fuel n c k rs value le later (Other m es more ne g t less h q) = then_list (More (At l (tree.Command c)) k) k n m rs more value es t q (alone (At l (tree.Command c)) k n m es (run.Command l n c es (Status m) g)) (later k m more (omega (arith, le, less)) h)

at_background : (l fuel n : ℕ) (c : Simple) (k : Items) (rs : List Reply) (value : ℕ) → length rs < suc fuel → Later fuel value → Chosen c true n k k rs value → RanList (More (At l (tree.Background c)) k) n rs value
at_background l fuel n c k rs value le later (Exits es more g t q) = exits_at _ k n rs more value es t q (run.Background l n c es (Exit value) g)
at_background l fuel n c k rs value le later (Zero es more g t less h q) = then_list (More (At l (tree.Background c)) k) k n 0 rs more value es t q (alone (At l (tree.Background c)) k n 0 es (run.Background l n c es (Status 0) g)) (later k 0 more (omega (arith, le, less)) h)
at_background l fuel n c k rs value le later (Other m es more ne g t less h q) = then_list (More (At l (tree.Background c)) k) k n m rs more value es t q (alone (At l (tree.Background c)) k n m es (run.Background l n c es (Status m) g)) (later k m more (omega (arith, le, less)) h)

at_if : (l fuel n : ℕ) (c : Simple) (xs k : Items) (rs : List Reply) (value : ℕ) → length rs < suc fuel → Later fuel value → Chosen c false n (before xs k) k rs value → RanList (More (At l (tree.If c xs)) k) n rs value
at_if l fuel n c xs k rs value le later (Exits es more g t q) = exits_at _ k n rs more value es t q (run.Exits l n value (tree.If c xs) c es refl g)
at_if l fuel n c xs k rs value le later (Zero es more g t less h q) = then_list (More (At l (tree.If c xs)) k) (before xs k) n 0 rs more value es t q (inside (At l (tree.If c xs)) xs k n 0 es (λ gs d r. run.IfHolds l n c xs es gs d g r)) (later (before xs k) 0 more (omega (arith, le, less)) h)
at_if l fuel n c xs k rs value le later (Other m es more ne g t less h q) = then_list (More (At l (tree.If c xs)) k) k n m rs more value es t q (alone (At l (tree.If c xs)) k n m es (run.IfNot l n m c xs es g ne)) (later k m more (omega (arith, le, less)) h)

at_if_else : (l fuel n : ℕ) (c : Simple) (xs ys k : Items) (rs : List Reply) (value : ℕ) → length rs < suc fuel → Later fuel value → Chosen c false n (before xs k) (before ys k) rs value → RanList (More (At l (tree.IfElse c xs ys)) k) n rs value
at_if_else l fuel n c xs ys k rs value le later (Exits es more g t q) = exits_at _ k n rs more value es t q (run.Exits l n value (tree.IfElse c xs ys) c es refl g)
at_if_else l fuel n c xs ys k rs value le later (Zero es more g t less h q) = then_list (More (At l (tree.IfElse c xs ys)) k) (before xs k) n 0 rs more value es t q (inside (At l (tree.IfElse c xs ys)) xs k n 0 es (λ gs d r. run.IfElseHolds l n c xs ys es gs d g r)) (later (before xs k) 0 more (omega (arith, le, less)) h)
at_if_else l fuel n c xs ys k rs value le later (Other m es more ne g t less h q) = then_list (More (At l (tree.IfElse c xs ys)) k) (before ys k) n m rs more value es t q (inside (At l (tree.IfElse c xs ys)) ys k n m es (λ gs d r. run.IfElseNot l n m c xs ys es gs d g ne r)) (later (before ys k) m more (omega (arith, le, less)) h)

at_while : (l fuel n : ℕ) (c : Simple) (xs k : Items) (rs : List Reply) (value : ℕ) → length rs < suc fuel → Later fuel value → Chosen c false n (before xs (More (At l (tree.While c xs)) k)) k rs value → RanList (More (At l (tree.While c xs)) k) n rs value
at_while l fuel n c xs k rs value le later (Exits es more g t q) = exits_at _ k n rs more value es t q (run.Exits l n value (tree.While c xs) c es refl g)
at_while l fuel n c xs k rs value le later (Zero es more g t less h q) = then_list (More (At l (tree.While c xs)) k) (before xs (More (At l (tree.While c xs)) k)) n 0 rs more value es t q (again (At l (tree.While c xs)) xs k n 0 es (λ gs d r. run.WhileHolds l n c xs es gs d g r)) (later (before xs (More (At l (tree.While c xs)) k)) 0 more (omega (arith, le, less)) h)
at_while l fuel n c xs k rs value le later (Other m es more ne g t less h q) = then_list (More (At l (tree.While c xs)) k) k n m rs more value es t q (alone (At l (tree.While c xs)) k n m es (run.WhileNot l n m c xs es g ne)) (later k m more (omega (arith, le, less)) h)

at_until : (l fuel n : ℕ) (c : Simple) (xs k : Items) (rs : List Reply) (value : ℕ) → length rs < suc fuel → Later fuel value → Chosen c false n k (before xs (More (At l (tree.Until c xs)) k)) rs value → RanList (More (At l (tree.Until c xs)) k) n rs value
at_until l fuel n c xs k rs value le later (Exits es more g t q) = exits_at _ k n rs more value es t q (run.Exits l n value (tree.Until c xs) c es refl g)
at_until l fuel n c xs k rs value le later (Zero es more g t less h q) = then_list (More (At l (tree.Until c xs)) k) k n 0 rs more value es t q (alone (At l (tree.Until c xs)) k n 0 es (run.UntilHolds l n c xs es g)) (later k 0 more (omega (arith, le, less)) h)
at_until l fuel n c xs k rs value le later (Other m es more ne g t less h q) = then_list (More (At l (tree.Until c xs)) k) (before xs (More (At l (tree.Until c xs)) k)) n m rs more value es t q (again (At l (tree.Until c xs)) xs k n m es (λ gs d r. run.UntilNot l n m c xs es gs d g ne r)) (later (before xs (More (At l (tree.Until c xs)) k)) m more (omega (arith, le, less)) h)

run_list : (fuel : ℕ) (value : ℕ) → Later fuel value
run_list zero value xs n rs le h = absurd (omega (arith, le))
run_list (suc fuel) value NoMore n rs le h = record { exchanges = []; ending = Status n; more = rs; ran = run.Nothing n; told = refl; called = ended_calls n rs ∙ ap (λ k. exit k ∷ []) (same_value n value rs h); passed = sym (same_value n value rs h) }
run_list (suc fuel) value (More (At l (tree.Command c)) k) n rs le h = at_command l fuel n c k rs value le (run_list fuel value) (choose c false n k k rs value (run_command c false n k k Starts rs value h))
run_list (suc fuel) value (More (At l (tree.Background c)) k) n rs le h = at_background l fuel n c k rs value le (run_list fuel value) (choose c true n k k rs value (run_command c true n k k Starts rs value h))
run_list (suc fuel) value (More (At l (tree.If c xs)) k) n rs le h = at_if l fuel n c xs k rs value le (run_list fuel value) (choose c false n (before xs k) k rs value (run_command c false n (before xs k) k Starts rs value h))
run_list (suc fuel) value (More (At l (tree.IfElse c xs ys)) k) n rs le h = at_if_else l fuel n c xs ys k rs value le (run_list fuel value) (choose c false n (before xs k) (before ys k) rs value (run_command c false n (before xs k) (before ys k) Starts rs value h))
run_list (suc fuel) value (More (At l (tree.While c xs)) k) n rs le h = at_while l fuel n c xs k rs value le (run_list fuel value) (choose c false n (before xs (More (At l (tree.While c xs)) k)) k rs value (run_command c false n (before xs (More (At l (tree.While c xs)) k)) k Starts rs value h))
run_list (suc fuel) value (More (At l (tree.Until c xs)) k) n rs le h = at_until l fuel n c xs k rs value le (run_list fuel value) (choose c false n k (before xs (More (At l (tree.Until c xs)) k)) rs value (run_command c false n k (before xs (More (At l (tree.Until c xs)) k)) Starts rs value h))

pub scripts_run : ScriptsRunByTheirGrammar
unfolding shell_calls
scripts_run script rs value h = whole (run_list (suc (length rs)) value (items script) 0 rs (omega arith) h)
  where
    whole : RanList (items script) 0 rs value → RanWhole script rs value
    whole w = record { exchanges = w.exchanges; ending = w.ending; more = w.more; ran = w.ran; told = w.told; called = w.called; passed = w.passed }

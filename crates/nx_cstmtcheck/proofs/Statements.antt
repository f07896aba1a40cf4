-- Statements that are left, after those that are done.
use Rattle.std.proofs.Common.{◌≡◌, ℕ, ◌+◌, ◌<◌, ◌≤◌, Bool, List, [], ◌∷◌, ◌++◌, length, drop, get_or, refl, sym, ap, ◌∙◌, subst}
use Rattle.std.proofs.lemmas.List.{append-nil, append_assoc, at_drop_more, drop_all}
use Rattle.std.specs.Prelude.{Result, Ok, Err}
use Rattle.nx_calls.specs.declared.row.CallRow.{CallRow}
use Rattle.nx_ctok.specs.declared.fault.CFault.{CFault}
use Rattle.nx_ctree.specs.declared.statement.Stmt.{Stmt}
use Rattle.nx_checked.specs.declared.checked.CheckedStmt.{CheckedStmt}
use Rattle.nx_crules.specs.Answers.{Fails}
use Rattle.nx_ctype.specs.declared.names.Names.{Names}
use Rattle.nx_ctype.specs.declared.used.Used.{Used}
use Rattle.nx_ctyping.specs.Checks.{◌>>=◌, Check}
use Rattle.nx_cleaves.proofs.Given.{fails_bind}
use Rattle.nx_cstmtcheck.specs.Code.{statement_check, statements_check}

-- Those that are done, before what is found.
abbrev pub after : List CheckedStmt → Result (List CheckedStmt × Used) CFault → Result (List CheckedStmt × Used) CFault
after done r = r >>= (λ q. Ok (done ++ q.0, q.1))

abbrev pub left : Names → List CallRow → Bool → List CheckedStmt → List Stmt → Check (List CheckedStmt)
left names rows returns done xs s = after done (statements_check names rows returns xs s)

pub none_done : (r : Result (List CheckedStmt × Used) CFault) → after [] r ≡ r
none_done (Ok q) = refl
none_done (Err e) = refl

one_more : (done : List CheckedStmt) (y : CheckedStmt) (r : Result (List CheckedStmt × Used) CFault) → after done (r >>= (λ q. Ok (y ∷ q.0, q.1))) ≡ after (done ++ y ∷ []) r
one_more done y (Ok q) = ap (λ xs. Ok (xs, q.1)) (sym (append_assoc done (y ∷ []) q.0))
one_more done y (Err e) = refl

module _ (names : Names) (rows : List CallRow) (returns : Bool) where
  -- One statement is found.
  step : (done new : List CheckedStmt) (x : Stmt) (xs : List Stmt) (s t : Used) (y : CheckedStmt) → new ≡ done ++ y ∷ [] → statement_check names rows returns x s ≡ Ok (y, t) → left names rows returns done (x ∷ xs) s ≡ left names rows returns new xs t
  unfolding statement_check statements_check
  step done new x xs s t y n h = rw h (one_more done y (statements_check names rows returns xs t) ∙ ap (λ d. left names rows returns d xs t) (sym n))

  -- The first one's fault is that of all that are left.
  stop : (e : CFault) (done : List CheckedStmt) (x : Stmt) (xs : List Stmt) (s : Used) → Fails e (statement_check names rows returns x s) → Fails e (left names rows returns done (x ∷ xs) s)
  unfolding statement_check statements_check
  stop e done x xs s h = fails_bind e _ (λ q. Ok (done ++ q.0, q.1)) (fails_bind e (statement_check names rows returns x s) (λ y. statements_check names rows returns xs y.1 >>= (λ z. Ok (y.0 ∷ z.0, z.1))) h)

  pub goes_on : (done new : List CheckedStmt) (xs : List Stmt) (i : ℕ) (x : Stmt) (s t : Used) (y : CheckedStmt) (r : Result (List CheckedStmt × Used) CFault) → i < length xs → get_or xs i x ≡ x → left names rows returns done (drop i xs) s ≡ r →
      new ≡ done ++ y ∷ [] → statement_check names rows returns x s ≡ Ok (y, t) → left names rows returns new (drop (i + 1) xs) t ≡ r
  goes_on done new xs i x s t y r l g h n f =
      sym (step done new x (drop (i + 1) xs) s t y n f)
      ∙ ap (λ z. left names rows returns done (z ∷ drop (i + 1) xs) s) (sym g)
      ∙ sym (at_drop_more (λ zs. left names rows returns done zs s) xs i x l)
      ∙ h

  pub stops : (e : CFault) (done : List CheckedStmt) (xs : List Stmt) (i : ℕ) (x : Stmt) (s : Used) (r : Result (List CheckedStmt × Used) CFault) → i < length xs → get_or xs i x ≡ x → left names rows returns done (drop i xs) s ≡ r →
      Fails e (statement_check names rows returns x s) → Fails e r
  stops e done xs i x s r l g h f =
      subst (λ r. Fails e r) (ap (λ z. left names rows returns done (z ∷ drop (i + 1) xs) s) (sym g) ∙ sym (at_drop_more (λ zs. left names rows returns done zs s) xs i x l) ∙ h) (stop e done x (drop (i + 1) xs) s f)

  pub all_done : (done : List CheckedStmt) (xs : List Stmt) (i : ℕ) (s : Used) (r : Result (List CheckedStmt × Used) CFault) → length xs ≤ i → left names rows returns done (drop i xs) s ≡ r → r ≡ Ok (done, s)
  unfolding statements_check
  all_done done xs i s r l h = sym h ∙ ap (λ zs. left names rows returns done zs s) (drop_all i xs l) ∙ ap (λ d. Ok (d, s)) (append-nil done)

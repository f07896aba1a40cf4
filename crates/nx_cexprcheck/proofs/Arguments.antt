-- Arguments that are left, after those that are done.
use Rattle.std.proofs.Common.{◌≡◌, ℕ, ◌+◌, ◌<◌, ◌≤◌, Bool, false, List, [], ◌∷◌, ◌++◌, length, drop, get_or, refl, sym, ap, ◌∙◌, subst, arith}
use Rattle.std.proofs.lemmas.List.{append-nil, append_assoc, at_drop_more, drop_all}
use Rattle.std.specs.Prelude.{Result, Ok, Err}
use Rattle.nx_calls.specs.declared.row.CallRow.{CallRow}
use Rattle.nx_ctok.specs.declared.fault.CFault.{CFault}
use Rattle.nx_ctok.specs.declared.fault.CFault.TheVariants as fault
use Rattle.nx_ctree.specs.declared.expression.Expr.{Expr}
use Rattle.nx_crules.specs.declared.types.Typed.{Typed}
use Rattle.nx_crules.specs.Answers.{Fails}
use Rattle.nx_ctype.specs.declared.names.Names.{Names}
use Rattle.nx_ctype.specs.declared.used.Used.{Used}
use Rattle.nx_ctyping.specs.Checks.{◌>>=◌, Check}
use Rattle.nx_ctyping.specs.Trees.{expr_of, args_of}
use Rattle.nx_ctyping.specs.Verdicts.{verdict, argument_check, arguments_verdict}
use Rattle.nx_cexprcheck.specs.Code.{one_argument_check, arguments_check}
use Rattle.nx_cleaves.proofs.Given.{fails_bind}

-- Those that are done, before what is found.
abbrev pub after : List Typed → Result (List Typed × Used) CFault → Result (List Typed × Used) CFault
after done r = r >>= (λ q. Ok (done ++ q.0, q.1))

abbrev pub left : Names → List CallRow → List Typed → Bool → List Expr → Check (List Typed)
left names rows done b xs s = after done (arguments_check names rows b xs s)

pub none_done : (r : Result (List Typed × Used) CFault) → after [] r ≡ r
none_done (Ok q) = refl
none_done (Err e) = refl

one_more : (done : List Typed) (y : Typed) (r : Result (List Typed × Used) CFault) → after done (r >>= (λ q. Ok (y ∷ q.0, q.1))) ≡ after (done ++ y ∷ []) r
one_more done y (Ok q) = ap (λ xs. Ok (xs, q.1)) (sym (append_assoc done (y ∷ []) q.0))
one_more done y (Err e) = refl

module _ (names : Names) (rows : List CallRow) where
  -- One argument is found.
  step : (done new : List Typed) (b : Bool) (x : Expr) (xs : List Expr) (s t : Used) (y : Typed) → new ≡ done ++ y ∷ [] → one_argument_check names rows b x s ≡ Ok (y, t) → left names rows done b (x ∷ xs) s ≡ left names rows new false xs t
  unfolding one_argument_check arguments_check
  step done new b x xs s t y n h = rw h (one_more done y (arguments_check names rows false xs t) ∙ ap (λ d. left names rows d false xs t) (sym n))

  -- The first one's fault is that of all that are left.
  stop : (e : CFault) (done : List Typed) (b : Bool) (x : Expr) (xs : List Expr) (s : Used) → Fails e (one_argument_check names rows b x s) → Fails e (left names rows done b (x ∷ xs) s)
  unfolding one_argument_check arguments_check
  stop e done b x xs s h = fails_bind e _ (λ q. Ok (done ++ q.0, q.1)) (fails_bind e (one_argument_check names rows b x s) (λ y. arguments_check names rows false xs y.1 >>= (λ z. Ok (y.0 ∷ z.0, z.1))) h)

  pub goes_on : (done new : List Typed) (b : Bool) (xs : List Expr) (i : ℕ) (x : Expr) (s t : Used) (y : Typed) (r : Result (List Typed × Used) CFault) → i < length xs → get_or xs i x ≡ x → left names rows done b (drop i xs) s ≡ r →
      new ≡ done ++ y ∷ [] → one_argument_check names rows b x s ≡ Ok (y, t) → left names rows new false (drop (i + 1) xs) t ≡ r
  goes_on done new b xs i x s t y r l g h n f =
      sym (step done new b x (drop (i + 1) xs) s t y n f)
      ∙ ap (λ z. left names rows done b (z ∷ drop (i + 1) xs) s) (sym g)
      ∙ sym (at_drop_more (λ zs. left names rows done b zs s) xs i x l)
      ∙ h

  pub stops : (e : CFault) (done : List Typed) (b : Bool) (xs : List Expr) (i : ℕ) (x : Expr) (s : Used) (r : Result (List Typed × Used) CFault) → i < length xs → get_or xs i x ≡ x → left names rows done b (drop i xs) s ≡ r →
      Fails e (one_argument_check names rows b x s) → Fails e r
  stops e done b xs i x s r l g h f =
      subst (λ r. Fails e r) (ap (λ z. left names rows done b (z ∷ drop (i + 1) xs) s) (sym g) ∙ sym (at_drop_more (λ zs. left names rows done b zs s) xs i x l) ∙ h) (stop e done b x (drop (i + 1) xs) s f)

  pub all_done : (done : List Typed) (b : Bool) (xs : List Expr) (i : ℕ) (s : Used) (r : Result (List Typed × Used) CFault) → length xs ≤ i → left names rows done b (drop i xs) s ≡ r → r ≡ Ok (done, s)
  unfolding arguments_check
  all_done done b xs i s r l h = sym h ∙ ap (λ zs. left names rows done b zs s) (drop_all i xs l) ∙ ap (λ d. Ok (d, s)) (append-nil done)

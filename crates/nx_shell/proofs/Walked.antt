-- The code goes through a command as the definition does.
use Rattle.std.proofs.Common.{◌≡◌, ℕ, Bool, true, false, ◌||◌, if◌then◌else◌, nat_lt, List, [], ◌∷◌, ◌++◌, length, map, Option, Some, None, refl, sym, ap, ◌∙◌, subst, arith, decimal}
use Rattle.std.specs.List.{list_any}
use Rattle.std.proofs.lemmas.Bool.{ltb-true, ltb-false}
use Rattle.nx_base.specs.Calls.{Reply}
use Rattle.nx_shtok.specs.declared.part.Part.TheVariants as part
use Rattle.nx_shtree.specs.declared.tree.Mode.{Mode}
use Rattle.nx_shtree.specs.declared.tree.Redirection.{Redirection}
use Rattle.nx_shtree.specs.declared.tree.Simple.{Simple}
use Rattle.nx_shrun.specs.declared.step.Ending.{Ending}
use Rattle.nx_shrun.specs.Calls.{Call, getenv}
use Rattle.nx_shrun.specs.Texts.{line_too_long, spaced, all_but_last, last_of}
use Rattle.nx_shrun.specs.Expansion.{Piece, Of, Ends, Spread, Whole, Wants, spread, all_pieces}
use Rattle.nx_shrun.specs.Rooms.{HeldWords}
use Rattle.nx_shrun.specs.Steps.{Starts, Asks, Does, Outcome, after_reply}
use Rattle.nx_shrun.specs.Table.{is_long, is_too_long, begun_with, refused}
use Rattle.nx_shrun.specs.ShellCalls.{command, expanded, with_words, value_of}
use Rattle.nx_shstep.specs.Held.{Held, outcome_of, IsHandled, IsUnderWay}
use Rattle.nx_shell.specs.declared.walk.Walk.{Walk}
use Rattle.nx_shell.specs.declared.walk.Stage.TheVariants as stage
use Rattle.nx_shell.specs.declared.filling.Filling.{Filling}
use Rattle.nx_shell.specs.Kept.{cut, kept, kept_spread, all_words, rest_of, rest_in, asked, comes_to, after_asking}
use Rattle.nx_shell.specs.Walks.{Comes, Follows, IsFit, StaysFit, handed_words, handed_file, mode_in}
use Rattle.nx_shell.proofs.Cutting.{kept_cut, cut_short, cut_full}
use Rattle.nx_shell.proofs.WordPlaces.{all_pieces_is}

abbrev no_bytes : List ℕ
no_bytes = []

abbrev no_words : List (List ℕ)
no_words = []

-- What the kept words come to.
abbrev cut_spread : Spread → Spread
cut_spread (Whole ws) = Whole (map cut ws)
cut_spread (Wants name ws w ps) = Wants name (map cut ws) (cut w) ps

cut_nil : cut no_bytes ≡ no_bytes
cut_nil = cut_short no_bytes (omega arith)

map_more : (ws : List (List ℕ)) (w : List ℕ) → map cut (ws ++ w ∷ []) ≡ map cut ws ++ cut w ∷ []
map_more [] w = refl
map_more (v ∷ ws) w = ap (λ us. cut v ∷ us) (map_more ws w)

pub kept_is : (status : ℕ) (ws : List (List ℕ)) (w : List ℕ) (ps : List Piece) → kept_spread status (map cut ws) (cut w) ps ≡ cut_spread (spread status ws w ps)
kept_is status ws w [] = refl
kept_is status ws w (Ends ∷ ps) = both (sym (map_more ws w)) (sym cut_nil) ∙ kept_is status (ws ++ w ∷ []) [] ps
  where
    both : {us vs : List (List ℕ)} {x y : List ℕ} → us ≡ vs → x ≡ y → kept_spread status us x ps ≡ kept_spread status vs y ps
    both e f = rw (e, f) refl
kept_is status ws w (Of (part.Byte b) ∷ ps) = ap (λ x. kept_spread status (map cut ws) x ps) (kept_cut w (b ∷ [])) ∙ kept_is status ws (w ++ b ∷ []) ps
kept_is status ws w (Of part.Status ∷ ps) = ap (λ x. kept_spread status (map cut ws) x ps) (kept_cut w (decimal status)) ∙ kept_is status ws (w ++ decimal status) ps
kept_is status ws w (Of (part.Name name) ∷ ps) = choose (nat_lt 255 (length name)) (kept_is status ws w ps)
  where
    choose : (t : Bool) → kept_spread status (map cut ws) (cut w) ps ≡ cut_spread (spread status ws w ps) → (if t then kept_spread status (map cut ws) (cut w) ps else Wants name (map cut ws) (cut w) ps) ≡ cut_spread (if t then spread status ws w ps else Wants name ws w ps)
    choose true h = h
    choose false h = refl

or_both : {a b c d : Bool} → a ≡ c → b ≡ d → (a || b) ≡ (c || d)
or_both e f = rw (e, f) refl

cons_both : {x y : List ℕ} {us vs : List (List ℕ)} → x ≡ y → us ≡ vs → x ∷ us ≡ y ∷ vs
cons_both e f = rw (e, f) refl

-- A word that is cut is too long where what it was cut from is.
cut_long : (w : List ℕ) → is_long (cut w) ≡ is_long w
cut_long w = of (nat_lt 255 (length w)) refl
  where
    of : (t : Bool) → nat_lt 255 (length w) ≡ t → nat_lt 255 (length (cut w)) ≡ nat_lt 255 (length w)
    of true e = let k : length (cut w) ≡ 256 = cut_full w (omega (arith, ltb-true 255 (length w) e)) in ap (λ n. nat_lt 255 n) k ∙ sym e
    of false e = ap (λ x. nat_lt 255 (length x)) (cut_short w (omega (arith, ltb-false 255 (length w) e)))

any_cut : (ws : List (List ℕ)) → list_any is_long (map cut ws) ≡ list_any is_long ws
any_cut [] = refl
any_cut (w ∷ ws) = or_both (cut_long w) (any_cut ws)

cut_all : (ws : List (List ℕ)) → list_any is_long ws ≡ false → map cut ws ≡ ws
cut_all [] e = refl
cut_all (w ∷ ws) e = of (is_long w) (list_any is_long ws) refl refl (cut_all ws) e
  where
    of : (a b : Bool) → is_long w ≡ a → list_any is_long ws ≡ b → (list_any is_long ws ≡ false → map cut ws ≡ ws) → (a || b) ≡ false → map cut (w ∷ ws) ≡ w ∷ ws
    of true b ea eb on h = absurd cc
    of false true ea eb on h = absurd cc
    of false false ea eb on h = cons_both (cut_short w (omega (arith, ltb-false 255 (length w) ea))) (on eb)

too_long : (ws : List (List ℕ)) (f : List ℕ) → (list_any is_long ws || is_long f) ≡ true → is_too_long ws f ≡ true
unfolding is_too_long
too_long ws f h = of (list_any is_long ws) (is_long f) (nat_lt 1024 (length (spaced ws))) h
  where
    of : (a b c : Bool) → (a || b) ≡ true → (a || b || c) ≡ true
    of true b c h = refl
    of false true c h = refl
    of false false c h = absurd cc

begun_both : (output : Option Mode) (background : Bool) (status : ℕ) {us vs : List (List ℕ)} {x y : List ℕ} → us ≡ vs → x ≡ y → begun_with output background status us x ≡ begun_with output background status vs y
begun_both output background status e f = rw (e, f) refl

first : (t : Bool) (x y : Outcome) → t ≡ true → (if t then x else y) ≡ x
first true x y e = refl
first false x y e = absurd cc

refuses : (output : Option Mode) (background : Bool) (status : ℕ) (ws : List (List ℕ)) (f : List ℕ) → (list_any is_long ws || is_long f) ≡ true → begun_with output background status ws f ≡ refused line_too_long
unfolding begun_with
refuses output background status ws f h = first (is_too_long ws f) _ _ (too_long ws f h)

pub begun_cut : (output : Option Mode) (background : Bool) (status : ℕ) (ws : List (List ℕ)) (f : List ℕ) → begun_with output background status (map cut ws) (cut f) ≡ begun_with output background status ws f
begun_cut output background status ws f = of (list_any is_long ws) (is_long f) refl refl
  where
    both : (list_any is_long ws || is_long f) ≡ true → begun_with output background status (map cut ws) (cut f) ≡ begun_with output background status ws f
    both h = refuses output background status (map cut ws) (cut f) (or_both (any_cut ws) (cut_long f) ∙ h) ∙ sym (refuses output background status ws f h)

    of : (a b : Bool) → list_any is_long ws ≡ a → is_long f ≡ b → begun_with output background status (map cut ws) (cut f) ≡ begun_with output background status ws f
    of true b ea eb = both (or_both ea eb)
    of false true ea eb = both (or_both ea eb)
    of false false ea eb = begun_both output background status (cut_all ws ea) (cut_short f (omega (arith, ltb-false 255 (length f) eb)))

but_last : (ws : List (List ℕ)) → all_but_last (map cut ws) ≡ map cut (all_but_last ws)
but_last [] = refl
but_last (w ∷ []) = refl
but_last (w ∷ v ∷ ws) = ap (λ us. cut w ∷ us) (but_last (v ∷ ws))

last_cut : (ws : List (List ℕ)) → last_of (map cut ws) ≡ cut (last_of ws)
last_cut [] = sym cut_nil
last_cut (w ∷ []) = refl
last_cut (w ∷ v ∷ ws) = last_cut (v ∷ ws)

handed_is : (o : Option Redirection) (background : Bool) (status : ℕ) (ws : List (List ℕ)) → begun_with (mode_in o) background status (handed_words o (map cut ws)) (handed_file o (map cut ws)) ≡ with_words o background status ws
handed_is None background status ws = ap (λ f. begun_with None background status (map cut ws) f) (sym cut_nil) ∙ begun_cut None background status ws []
handed_is (Some r) background status ws = begun_both (Some r.mode) background status (but_last ws) (last_cut ws) ∙ begun_cut (Some r.mode) background status (all_but_last ws) (last_of ws)

-- The command begins, or goes on.
shown : (c : Simple) (x : Walk) (result : Option Ending) (o : Outcome) → x.stage ≡ stage.Does → outcome_of result x.command ≡ o → Comes c result x o
shown c x (Some e) o s h = subst (λ p. Comes c (Some e) x p) h refl
shown c x None o s h = subst (λ p. Comes c None x p) h (refl, record { at = s; doing = refl })

pub begin_comes : (c : Simple) (background : Bool) (status : ℕ) (x : Walk) (result : Option Ending) (mode : Option Mode) (us fs vs : List (List ℕ)) (file : List ℕ) (ws : List (List ℕ))
    → x.stage ≡ stage.Does → mode ≡ mode_in c.output → us ≡ fs → vs ≡ handed_words c.output us → file ≡ handed_file c.output us → outcome_of result x.command ≡ begun_with mode background status vs file
    → fs ≡ map cut ws → Comes c result x (with_words c.output background status ws)
begin_comes c background status x result mode us fs vs file ws s em ef ev ew h eu =
    shown c x result (with_words c.output background status ws) s (h ∙ (all em ev ew ∙ (ap (λ ts. begun_with (mode_in c.output) background status (handed_words c.output ts) (handed_file c.output ts)) (ef ∙ eu) ∙ handed_is c.output background status ws)))
  where
    all : {m n : Option Mode} {a b : List (List ℕ)} {p q : List ℕ} → m ≡ n → a ≡ b → p ≡ q → begun_with m background status a p ≡ begun_with n background status b q
    all d e f = rw (d, e, f) refl

-- The words are all there, or a value is asked for.
pub spread_is : (status : ℕ) (us ws : List (List ℕ)) (t w : List ℕ) (qs ps : List Piece) → us ≡ map cut ws → t ≡ cut w → qs ≡ ps → kept_spread status us t qs ≡ cut_spread (spread status ws w ps)
spread_is status us ws t w qs ps eu et eq = three eu et eq ∙ kept_is status ws w ps
  where
    three : {a b : List (List ℕ)} {p q : List ℕ} {x y : List Piece} → a ≡ b → p ≡ q → x ≡ y → kept_spread status a p x ≡ kept_spread status b q y
    three e f g = rw (e, f, g) refl

asks_at : (c : Simple) (background : Bool) (status : ℕ) (x : Walk) (q : Call) (o : Spread) → x.stage ≡ stage.Asks → x.command.call ≡ getenv (asked q) → Wants (asked q) x.filling.words.words x.filling.text (rest_in c x.filling) ≡ cut_spread o → Comes c None x (expanded c background status o)
asks_at c background status x q (Whole ws) s e h = absurd cc
asks_at c background status x q (Wants name ws w ps) s e h =
    let n : asked q ≡ name = cc in
    let words : x.filling.words.words ≡ map cut ws = cc in
    let word : x.filling.text ≡ cut w = cc in
    let rest : rest_in c x.filling ≡ ps = cc in
    (refl, record { at = s; call = e ∙ ap getenv n; words = words; word = word; rest = rest })

pub asks_comes : (c : Simple) (background : Bool) (status : ℕ) (x : Walk) (g : Filling) (q : Call) (h : Held) (ws : List (List ℕ)) (w : List ℕ) (ps : List Piece)
    → x.stage ≡ stage.Asks → x.command ≡ after_asking true h q → comes_to true q x.filling (rest_in c x.filling) ≡ kept_spread status g.words.words g.text (rest_in c g)
    → g.words.words ≡ map cut ws → g.text ≡ cut w → rest_in c g ≡ ps → Comes c None x (expanded c background status (spread status ws w ps))
asks_comes c background status x g q h ws w ps s e k eu et er =
    asks_at c background status x q (spread status ws w ps) s (ap (λ (h : Held). h.call) e) (k ∙ spread_is status g.words.words ws g.text w (rest_in c g) ps eu et er)

whole_in : (c : Simple) (background : Bool) (status : ℕ) (x : Walk) (f : Filling) (result : Option Ending) (o : Spread) → Whole f.words.words ≡ cut_spread o
    → ((ws : List (List ℕ)) → f.words.words ≡ map cut ws → Comes c result x (with_words c.output background status ws)) → Comes c result x (expanded c background status o)
whole_in c background status x f result (Whole ws) h on = let d : f.words.words ≡ map cut ws = cc in on ws d
whole_in c background status x f result (Wants name ws w ps) h on = absurd cc

pub whole_comes : (c : Simple) (background : Bool) (status : ℕ) (x : Walk) (f g : Filling) (result : Option Ending) (ws : List (List ℕ)) (w : List ℕ) (ps : List Piece)
    → Whole f.words.words ≡ kept_spread status g.words.words g.text (rest_in c g)
    → ((ws : List (List ℕ)) → f.words.words ≡ map cut ws → Comes c result x (with_words c.output background status ws))
    → g.words.words ≡ map cut ws → g.text ≡ cut w → rest_in c g ≡ ps → Comes c result x (expanded c background status (spread status ws w ps))
whole_comes c background status x f g result ws w ps k on eu et er =
    whole_in c background status x f result (spread status ws w ps) (k ∙ spread_is status g.words.words ws g.text w (rest_in c g) ps eu et er) on

-- A reply to the call of each stage.
abbrev Expands : Simple → Bool → ℕ → Filling → Option Ending → Walk → Type 0
Expands c background status g result new = (ws : List (List ℕ)) (w : List ℕ) (ps : List Piece) → g.words.words ≡ map cut ws → g.text ≡ cut w → rest_in c g ≡ ps → Comes c result new (expanded c background status (spread status ws w ps))

pub starts_follow : (c : Simple) (background : Bool) (status : ℕ) (old new : Walk) (h : HeldWords) (g : Filling) (result : Option Ending) (r : Reply) → old.stage ≡ stage.Starts
    → g.words ≡ record h { words = [] } → g.text ≡ [] → g.part ≡ 0 → Expands c background status g result new → Follows c background status old result new r
starts_follow c background status old new hw g result r s ew et ep on Starts h =
    let none : g.words.words ≡ no_words = ap (λ (v : HeldWords). v.words) ew in
    on [] [] (all_pieces c) none (et ∙ sym cut_nil) (two none ep ∙ all_pieces_is c)
  where
    two : {us : List (List ℕ)} {p : ℕ} → us ≡ no_words → p ≡ 0 → rest_of (all_words c) (length us) p ≡ rest_of (all_words c) 0 0
    two e f = rw (e, f) refl
starts_follow c background status old new hw g result r s ew et ep on (Asks name ws w ps) h = let z : stage.Starts ≡ stage.Asks = sym s ∙ h.at in absurd cc
starts_follow c background status old new hw g result r s ew et ep on (Does q a b k) h = let z : stage.Starts ≡ stage.Does = sym s ∙ h.at in absurd cc

pub asks_follow : (c : Simple) (background : Bool) (status : ℕ) (old new : Walk) (g : Filling) (v : List ℕ) (result : Option Ending) (r : Reply) → old.stage ≡ stage.Asks
    → v ≡ value_of r → g.words ≡ old.filling.words → g.text ≡ kept old.filling.text v → g.part ≡ old.filling.part → Expands c background status g result new → Follows c background status old result new r
asks_follow c background status old new g v result r s ev ew et ep on Starts h = let z : stage.Asks ≡ stage.Starts = sym s ∙ h.at in absurd cc
asks_follow c background status old new g v result r s ev ew et ep on (Asks name ws w ps) h =
    on ws (w ++ value_of r) ps (ap (λ (v : HeldWords). v.words) ew ∙ h.words) (et ∙ (ap (λ x. kept old.filling.text x) ev ∙ (ap (λ t. kept t (value_of r)) h.word ∙ kept_cut w (value_of r)))) (two (ap (λ (v : HeldWords). v.words) ew) ep ∙ h.rest)
  where
    two : {us vs : List (List ℕ)} {p q : ℕ} → us ≡ vs → p ≡ q → rest_of (all_words c) (length us) p ≡ rest_of (all_words c) (length vs) q
    two e f = rw (e, f) refl
asks_follow c background status old new g v result r s ev ew et ep on (Does q a b k) h = let z : stage.Asks ≡ stage.Does = sym s ∙ h.at in absurd cc

pub does_follow : (c : Simple) (background : Bool) (status : ℕ) (old new : Walk) (result : Option Ending) (r : Reply) → old.stage ≡ stage.Does → new.stage ≡ stage.Does
    → outcome_of result new.command ≡ after_reply old.command.call old.command.running old.command.awaits old.command.todo r → Follows c background status old result new r
does_follow c background status old new result r s n e Starts h = let z : stage.Does ≡ stage.Starts = sym s ∙ h.at in absurd cc
does_follow c background status old new result r s n e (Asks name ws w ps) h = let z : stage.Does ≡ stage.Asks = sym s ∙ h.at in absurd cc
does_follow c background status old new result r s n e (Does q a b k) h =
    shown c new result (command c background status (Does q a b k) r) n (e ∙ ap (λ d. command c background status d r) h.doing)

-- A command that isn't over has room for its reply.
pub stays : (x : Walk) (result : Option Ending) → x.stage ≡ stage.Does → IsHandled result x.command → StaysFit result x
stays x None s h = rw s h
stays x (Some e) s h = tt

pub fit_does : (x : Walk) → x.stage ≡ stage.Does → IsFit x.stage x → IsUnderWay x.command
fit_does x s h = subst (λ t. IsFit t x) s h

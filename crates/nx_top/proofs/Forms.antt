-- The name in a form.
use Rattle.std.proofs.Common.{◌≡◌, ℕ, ◌≤◌, Bool, true, false, List, [], ◌∷◌, length, Option, Some, None, refl, subst, arith}
use Rattle.std.specs.Prelude.{if◌then◌else◌, ◌&&◌, nat_le, not, codes}
use Rattle.std.specs.List.{list_any, list_all, before_first, after_first}
use Rattle.std.specs.Str.{bytes_eq}
use Rattle.std.proofs.lemmas.Bool.Decides.{nat_tests}
use Rattle.std.specs.Option.{option_map}
use Rattle.nx_base.specs.TextBytes.{is_word_byte}
use Rattle.nx_top.specs.CommandLine.{RunForm, GatesForm, CommandLine, Run, Gates, HasName, form_of, run_form, gates_form, form_with, is_name, is_equals, is_option, is_source}

chosen : (b : Bool) (o : Option RunForm) (f : RunForm) → (if b then o else None) ≡ Some f → (b ≡ true) × (o ≡ Some f)
chosen true o f e = (refl, e)
chosen false o f e = absurd cc

short : (a : Bool) (n : ℕ) (b c : Bool) → (a && (nat_le 1 n && nat_le n 32 && b) && c) ≡ true → n ≤ 32
short true n true true e = grind (arith, nat_tests)
short true n true false e = grind (arith, nat_tests)
short true n false c e = grind (arith, nat_tests)
short false n b c e = absurd cc

named_with : (config calls script word : List ℕ) (f : RunForm) → form_with config calls script word ≡ Some f → length f.name ≤ 32
named_with config calls script word f e =
    let c = chosen (list_any is_equals word && is_name (before_first is_equals word) && is_source (after_first is_equals word)) (Some (record { config = config; calls = calls; script = script; name = before_first is_equals word; file = after_first is_equals word })) f e in
    let name : before_first is_equals word ≡ f.name = let s = c.1 in cc in
    let n = short (list_any is_equals word) (length (before_first is_equals word)) (list_all is_word_byte (before_first is_equals word)) (is_source (after_first is_equals word)) c.0 in
    subst (λ (x : List ℕ). length x ≤ 32) name n

named_run : (words : List (List ℕ)) (f : RunForm) → run_form words ≡ Some f → length f.name ≤ 32
named_run [] f e = absurd cc
named_run (a ∷ []) f e = absurd cc
named_run (a ∷ b ∷ []) f e = absurd cc
named_run (a ∷ b ∷ c ∷ []) f e = absurd cc
named_run (a ∷ b ∷ c ∷ d ∷ []) f e =
    let h = chosen (not (is_option a) && not (is_option b) && not (is_option c)) (form_with a b c d) f e in
    named_with a b c d f h.1
named_run (a ∷ b ∷ c ∷ d ∷ x ∷ xs) f e = absurd cc

named_some : (o : Option RunForm) (f : CommandLine) → ((g : RunForm) → o ≡ Some g → length g.name ≤ 32) → option_map Run o ≡ Some f → HasName f
named_some None f h e = let q : None ≡ Some f = e in absurd cc
named_some (Some g) f h e = let q : Run g ≡ f = cc in subst HasName q (h g refl)

named_gates : (o : Option GatesForm) (f : CommandLine) → option_map Gates o ≡ Some f → HasName f
named_gates None f e = let q : None ≡ Some f = e in absurd cc
named_gates (Some g) f e = let q : Gates g ≡ f = cc in subst HasName q tt

named_by : (run gates : Bool) (words : List (List ℕ)) (f : CommandLine)
    → (if run then option_map Run (run_form words) else if gates then option_map Gates (gates_form words) else None) ≡ Some f → HasName f
named_by true gates words f e = named_some (run_form words) f (named_run words) e
named_by false true words f e = named_gates (gates_form words) f e
named_by false false words f e = let q : None ≡ Some f = e in absurd cc

-- the name in a form has at most 32 bytes
pub named : (words : List (List ℕ)) (f : CommandLine) → form_of words ≡ Some f → HasName f
named [] f e = let q : None ≡ Some f = e in absurd cc
named (command ∷ words) f e = named_by (bytes_eq command (codes "run")) (bytes_eq command (codes "gates")) words f e

-- Steps of the reading, as the code takes them.
use Rattle.std.specs.Prelude.{ℕ, Bool, true, false, List, [], ◌∷◌, ◌++◌, Option, None, Some, Ok, if◌then◌else◌}
use Rattle.nx_grammar.specs.Reading.{Out, Reading, Pick, picked, bind, seq, done}
use Rattle.nx_shtok.specs.declared.token.Token.{Token}
use Rattle.nx_shtok.specs.declared.token.Word.{Word}
use Rattle.nx_shtree.specs.declared.keyword.Keyword.{Keyword}
use Rattle.nx_shtree.specs.declared.keyword.Keyword.TheVariants as key
use Rattle.nx_shtree.specs.declared.tree.Simple.{Simple}
use Rattle.nx_shtree.specs.Words.{First, head_of, is_separator}
use Rattle.nx_shtree.specs.Trees.{Items, Item, ItemKind, At, While, Until, items}
use Rattle.nx_shtree.specs.Reading.{simple_pick, condition_at, closing, ending_at, item_pick, ends_list}

-- An "until", or a "while".
abbrev pub loop_kind : Bool → Simple → Items → ItemKind
loop_kind true c xs = Until c xs
loop_kind false c xs = While c xs

-- One of them after its first token.
unfoldable pub loop_rest : ℕ → Reading Token (List Item) → Bool → Token → Reading Token Item
loop_rest m body until t = seq (condition_at m key.Do) (λ c. seq body (λ xs. seq (closing key.Done) (λ s. done (At t.line (loop_kind until c (items xs))))))

-- A command from its first word on.
abbrev pub command_step : ℕ → Token → Word → List Token → Out Token Item
command_step m t w ts = bind (picked (simple_pick m t (First w)) t ts) ending_at

-- A separator, or an item more.
abbrev pub list_step : ℕ → (Token → Keyword → Pick Token Item) → List Item → Token → List Token → Out Token (List Item)
list_step m reserved xs t ts = if is_separator t then Ok (xs, ts) else bind (picked (item_pick m reserved t (head_of t)) t ts) (λ x. done (xs ++ x ∷ []))

-- A token that doesn't end the list, and those after it.
abbrev pub next_item : List Token → Option (Token × List Token)
next_item [] = None
next_item (t ∷ ts) = if ends_list (head_of t) then None else Some (t, ts)

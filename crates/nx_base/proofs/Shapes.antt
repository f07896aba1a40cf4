-- No write changes the windows of a view but in their bytes; a delivery neither.
use Rattle.std.proofs.Common.{◌≡◌, ℕ, ◌+◌, ◌-◌, ◌≤◌, Bool, true, false, List, [], ◌∷◌, length, Option, Some, None, Result, Ok, Err, refl, sym, ap, ◌∙◌, arith}
use Rattle.std.specs.Prelude.{if◌then◌else◌}
use Rattle.nx_base.specs.declared.regs.Regs.{Regs}
use Rattle.nx_base.specs.ByteLists.{put_bytes, to_le}
use Rattle.nx_base.specs.Views.{Window, View, holds, put_in, and_before, view_or, store_bytes}
use Rattle.nx_base.proofs.Puts.{length-put_bytes}
use Rattle.nx_base.proofs.Stores.{held_within}
use Rattle.nx_base.specs.Ranges.{Shape, shape_of_window, shapes, shape_of}
use Rattle.nx_base.specs.declared.calls.Kind.{Kind}
use Rattle.nx_base.specs.Calls.{Rows}
use Rattle.nx_base.specs.Copying.{is_output, stored_or, with_stored, with_outputs, deliver}

put_shapes : (ws new : List Window) (a : ℕ) (xs : List ℕ) → put_in ws a xs ≡ Some new → shapes new ≡ shapes ws
unfolding put_in shapes
put_shapes [] new a xs e = absurd cc
put_shapes (w ∷ ws) new a xs e = by_held (holds w a (length xs)) refl e (λ rest p. put_shapes ws rest a xs p)
  where
    stored_window : Window
    stored_window = record w { bytes = put_bytes w.bytes (a - w.start) xs }

    fits : holds w a (length xs) ≡ true → a - w.start + length xs ≤ length w.bytes
    fits h = let k = held_within w a (length xs) h in omega (arith, k.0, k.1)

    same : holds w a (length xs) ≡ true → shape_of_window (record w { bytes = put_bytes w.bytes (a - w.start) xs }) ≡ shape_of_window w
    same h = ap (λ n. (let s : Shape = record { start = w.start; size = n; reads = w.reads; writes = w.writes; runs = w.runs; region = w.region } in s)) (length-put_bytes w.bytes (a - w.start) xs (fits h))

    by_rest : (o : Option (List Window)) → put_in ws a xs ≡ o → and_before w o ≡ Some new → ((rest : List Window) → put_in ws a xs ≡ Some rest → shapes rest ≡ shapes ws) → shapes new ≡ shapes (w ∷ ws)
    by_rest None p f more = absurd cc
    by_rest (Some rest) p f more = let z : w ∷ rest ≡ new = cc in ap shapes (sym z) ∙ ap (λ ss. shape_of_window w ∷ ss) (more rest p)

    by_writes : (c : Bool) → holds w a (length xs) ≡ true → (if c then Some (record w { bytes = put_bytes w.bytes (a - w.start) xs } ∷ ws) else None) ≡ Some new → shapes new ≡ shapes (w ∷ ws)
    by_writes true h f = let z : stored_window ∷ ws ≡ new = cc in ap shapes (sym z) ∙ ap (λ s. s ∷ shapes ws) (same h)
    by_writes false h f = absurd cc

    by_held : (c : Bool) → holds w a (length xs) ≡ c → (if c then (if w.writes then Some (record w { bytes = put_bytes w.bytes (a - w.start) xs } ∷ ws) else None) else and_before w (put_in ws a xs)) ≡ Some new → ((rest : List Window) → put_in ws a xs ≡ Some rest → shapes rest ≡ shapes ws) → shapes new ≡ shapes (w ∷ ws)
    by_held true h f more = by_writes w.writes h f
    by_held false h f more = by_rest (put_in ws a xs) refl f more

pub store_shape : (v new : View) (a n x : ℕ) → store_bytes v a n x ≡ Ok new → shape_of new ≡ shape_of v
unfolding store_bytes
store_shape v new a n x e = by_put (put_in v.windows a (to_le n x)) refl e
  where
    by_put : (o : Option (List Window)) → put_in v.windows a (to_le n x) ≡ o → view_or v o (if v.is_paged then 15 else 7) ≡ Ok new → shape_of new ≡ shape_of v
    by_put None p f = absurd cc
    by_put (Some ws) p f = let z : record v { windows = ws } ≡ new = cc in ap shape_of (sym z) ∙ put_shapes v.windows ws a (to_le n x) p

stored_shape : (v : View) (at : ℕ) (xs : List ℕ) → shape_of (with_stored v at xs) ≡ shape_of v
unfolding with_stored
stored_shape v at [] = refl
stored_shape v at (x ∷ xs) = stored_shape (stored_or v (store_bytes v at 1 x)) (at + 1) xs ∙ by_store (store_bytes v at 1 x) refl
  where
    by_store : (s : Result View ℕ) → store_bytes v at 1 x ≡ s → shape_of (stored_or v s) ≡ shape_of v
    by_store (Ok new) e = store_shape v new at 1 x e
    by_store (Err cause) e = refl

outputs_shape : (v : View) (kinds : List Kind) (words : List ℕ) (outs : List (List ℕ)) → shape_of (with_outputs v kinds words outs) ≡ shape_of v
unfolding with_outputs
outputs_shape v [] words outs = refl
outputs_shape v (kind ∷ kinds) [] outs = refl
outputs_shape v (kind ∷ kinds) (word ∷ words) [] = refl
outputs_shape v (kind ∷ kinds) (word ∷ words) (out ∷ outs) = by_kind (outputs_shape (with_stored v word out) kinds words outs ∙ stored_shape v word out) (outputs_shape v kinds words (out ∷ outs)) (is_output kind)
  where
    by_kind : shape_of (with_outputs (with_stored v word out) kinds words outs) ≡ shape_of v → shape_of (with_outputs v kinds words (out ∷ outs)) ≡ shape_of v → (b : Bool) → shape_of (if b then with_outputs (with_stored v word out) kinds words outs else with_outputs v kinds words (out ∷ outs)) ≡ shape_of v
    by_kind p q true = p
    by_kind p q false = q

pub deliver_shape : (rows : Rows) (v : View) (r : Regs) (outs : List (List ℕ)) → shape_of (deliver rows v r outs) ≡ shape_of v
unfolding deliver
deliver_shape rows v r outs = outputs_shape v _ _ outs

-- The inputs of a well formed call are short.
use Rattle.std.proofs.Common.{◌≡◌, ℕ, suc, ◌≤◌, List, [], ◌∷◌, length, sym, subst, arith}
use Rattle.std.specs.List.{All}
use Rattle.nx_base.specs.ByteLists.{AreBytes}
use Rattle.nx_base.specs.Replies.{most_moved}
use Rattle.nx_base.specs.declared.calls.Kind.TheVariants.{Word, In, Text, Out, Len, Out4, Out8}
use Rattle.nx_ksys.specs.ByteLaws.{Each, IsInput, WellFormedInputs}
use Rattle.nx_ksys.proofs.ByteWalks.{each_none, each_more}

none_given : (inputs : List (List ℕ)) → inputs ≡ [] → Each IsInput inputs
none_given inputs e = subst (Each IsInput) (sym e) (each_none IsInput)

rest_given : (input : List ℕ) (inputs : List (List ℕ)) → All AreBytes (input ∷ inputs) → All AreBytes inputs
rest_given input inputs h k d lt = h (suc k) d (omega (arith, lt))

one_given : (input : List ℕ) (inputs : List (List ℕ)) → All AreBytes (input ∷ inputs) → length input ≤ most_moved → Each IsInput inputs → Each IsInput (input ∷ inputs)
one_given input inputs h le more = each_more IsInput input inputs (record { bytes = h 0 [] (omega arith); few = le }) more

pub well_formed_inputs : WellFormedInputs
well_formed_inputs [] words inputs a h = none_given inputs a
well_formed_inputs (In ∷ kinds) [] inputs a h = none_given inputs a
well_formed_inputs (In ∷ kinds) (word ∷ words) [] a h = each_none IsInput
well_formed_inputs (In ∷ kinds) (word ∷ words) (input ∷ inputs) a h = let e = a.0 in one_given input inputs h (omega (arith, e)) (well_formed_inputs kinds words inputs a.1 (rest_given input inputs h))
well_formed_inputs (Text ∷ kinds) [] inputs a h = none_given inputs a
well_formed_inputs (Text ∷ kinds) (word ∷ words) [] a h = each_none IsInput
well_formed_inputs (Text ∷ kinds) (word ∷ words) (input ∷ inputs) a h = let e = a.0 in one_given input inputs h (omega (arith, e)) (well_formed_inputs kinds words inputs a.1 (rest_given input inputs h))
well_formed_inputs (Word ∷ kinds) [] inputs a h = none_given inputs a
well_formed_inputs (Word ∷ kinds) (word ∷ words) inputs a h = well_formed_inputs kinds words inputs a h
well_formed_inputs (Out ∷ kinds) [] inputs a h = none_given inputs a
well_formed_inputs (Out ∷ kinds) (word ∷ words) inputs a h = well_formed_inputs kinds words inputs a h
well_formed_inputs (Len ∷ kinds) [] inputs a h = none_given inputs a
well_formed_inputs (Len ∷ kinds) (word ∷ words) inputs a h = well_formed_inputs kinds words inputs a h
well_formed_inputs (Out4 ∷ kinds) [] inputs a h = none_given inputs a
well_formed_inputs (Out4 ∷ kinds) (word ∷ words) inputs a h = well_formed_inputs kinds words inputs a h
well_formed_inputs (Out8 ∷ kinds) [] inputs a h = none_given inputs a
well_formed_inputs (Out8 ∷ kinds) (word ∷ words) inputs a h = well_formed_inputs kinds words inputs a h

use Rattle.std.proofs.Common.{rules, ◌≡◌, ◌*ℤ◌, w32, w64, FitsSigned, to_z, of_z, ap, ◌∙◌}
use Rattle.std.proofs.lemmas.Int.{to_z-of_z}
use Rattle.nx_base.specs.Arithmetic.{upper_of}
use Rattle.nx_alu.proofs.Products.{product_fits}
use Rattle.nx_alu.proofs.operations.upper_signed.Goals as goal

pub returns : goal.returns
returns c =
    let a = c.args.a in
    let b = c.args.b in
    let fa : FitsSigned w64 c.from.result = search rules in
    let fb : FitsSigned w64 c.from-2.result = search rules in
    let ea : to_z w64 (of_z w64 c.from.result) ≡ a = to_z-of_z w64 _ fa ∙ c.from.ensures ∙ to_z-of_z w32 a c.ranges.a in
    let eb : to_z w64 (of_z w64 c.from-2.result) ≡ b = to_z-of_z w64 _ fb ∙ c.from-2.ensures ∙ to_z-of_z w32 b c.ranges.b in
    c.upper.ensures
    ∙ ap (λ x. upper_of (to_z w64 (of_z w64 (x *ℤ to_z w64 (of_z w64 c.from-2.result))))) ea
    ∙ ap (λ y. upper_of (to_z w64 (of_z w64 (a *ℤ y)))) eb
    ∙ ap upper_of (to_z-of_z w64 (a *ℤ b) (product_fits a b c.ranges.a c.ranges.b))

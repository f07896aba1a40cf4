use Rattle.std.proofs.Common.{refl, ap}
use Rattle.std.specs.Prelude.{◌||◌, ◌&&◌, not}
use Rattle.std.proofs.lemmas.Result.{err_from_is_err_and}
use Rattle.nx_ctyping.proofs.Binds.{kept}
use Rattle.nx_cdeclcheck.proofs.Refused.{refused_as, done_as}
use Rattle.std.proofs.Common.{◌∙◌}
use Rattle.nx_checked.specs.Frames.{bytes_of}
use Rattle.nx_cbody.specs.Declarations.{is_long, is_length}
use Rattle.nx_ccheck.specs.Globals.{is_taken, is_full, fits, rounded, with_array}
use Rattle.nx_cfilecheck.proofs.globals.add_shape.Goals as goal

pub returns-in_err-refuse : goal.returns-in_err-refuse
returns-in_err-refuse c =
    let k = c.args.known.now in
    let x = c.args.x.now in
    let z = c.args.shape in
    let i = c.args.initialiser.now in
    let p = err_from_is_err_and c.from_residual.result c.from_residual.ensures.1 in
    rw (p.1, p.2) (refused_as c.is_taken-taken.result c.is_wrong-wrong.result c.is_beyond-beyond.result (is_taken k x.name) (not (is_length z.count && fits z i)) (is_long x.name || is_full k (rounded (bytes_of z))) x.line (kept (with_array k x.name z i)) _
    c.is_taken-taken.ensures c.is_wrong-wrong.ensures (c.is_beyond-beyond.ensures ∙ ap (λ n. is_long x.name || is_full k n) (c.rounded-bytes.ensures ∙ ap (λ n. rounded n) c.array_bytes.ensures.bytes)) refl _ c.in_err-refuse.ensures)

pub returns : goal.returns
returns c =
    let k = c.args.known.now in
    let x = c.args.x.now in
    let z = c.args.shape in
    let i = c.args.initialiser.now in
    done_as c.is_taken-taken.result c.is_wrong-wrong.result c.is_beyond-beyond.result (is_taken k x.name) (not (is_length z.count && fits z i)) (is_long x.name || is_full k (rounded (bytes_of z))) x.line (kept (with_array k x.name z i)) _
    c.is_taken-taken.ensures c.is_wrong-wrong.ensures (c.is_beyond-beyond.ensures ∙ ap (λ n. is_long x.name || is_full k n) (c.rounded-bytes.ensures ∙ ap (λ n. rounded n) c.array_bytes.ensures.bytes)) refl _ c.put_array.result _ c.in_ok-refuse.ensures c.put_array.ensures

use Rattle.std.proofs.Common.{◌∙◌, ◌+◌, ◌/◌, ap, arith}
use Rattle.nx_space.specs.Starts.{different, pages_of}
use Rattle.nx_paged.proofs.Needs.{need_counted}
use Rattle.nx_paged.proofs.Regions.{regions_from}
use Rattle.nx_paged.proofs.program.program_need.Goals as goal

pub returns : goal.returns
returns c =
    let p = c.args.program.now in
    let low = c.args.low in
    let t = c.frames_of_pages.ensures.frames ∙ ap (λ n. n + different (regions_from (p.text_at / 4096) n)) (c.pages_of-text.ensures.pages ∙ ap pages_of c.len.ensures) in
    let d = c.frames_of_pages-2.ensures.frames ∙ ap (λ n. n + different (regions_from (p.data_at / 4096) n)) (c.pages_of-contents.ensures.pages ∙ ap pages_of c.len-2.ensures) in
    let s = c.frames_of_pages-3.ensures.frames ∙ ap (λ n. n + different (regions_from (low / 4096) n)) c.pages_of.ensures.pages in
    let all = need_counted p low c.args.stack c.requires.laid_out c.requires.low in
    omega (arith, t, d, s, all)

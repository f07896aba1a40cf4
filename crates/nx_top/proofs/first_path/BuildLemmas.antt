-- Where the main function of a compiled program stands. nx_link will take its place.
use Rattle.std.proofs.Common.{◌+◌, ◌<◌, ◌++◌, length, arith, length-append}
use Rattle.nx_top.specs.first.Layout.{text_start}
use Rattle.nx_top.specs.first.Program.{Program}
use Rattle.nx_top.specs.first.Compiled.{main_at, insts_of, code_bytes, literals, text_of}
use Rattle.nx_top.proofs.first_path.Sizes.{length-code_bytes, length-insts, length-padded}

pub main_inside : (p : Program) → main_at p < text_start + length (text_of p)
unfolding main_at text_of
main_inside p =
    let a = length-padded (code_bytes (insts_of p) ++ literals p.writes) in
    let b = length-append (code_bytes (insts_of p)) (literals p.writes) in
    let c = length-code_bytes (insts_of p) in
    let d = length-insts p in
    omega arith

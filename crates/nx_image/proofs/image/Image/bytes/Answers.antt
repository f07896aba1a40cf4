use Rattle.std.proofs.Common.{List, All, sym, subst}
use Rattle.nx_ram.specs.declared.prog_image.ProgImage.{ProgImage}
use Rattle.nx_image.specs.Bytes.{HasRoom}
use Rattle.nx_image.proofs.Standing.{rooms}
use Rattle.nx_image.proofs.image.Image.bytes.Goals as goal

pub image_bytes-requires-clause-programs : goal.image_bytes-requires-clause-programs
image_bytes-requires-clause-programs c =
    let i = c.self.inside in
    subst (λ (ps : List ProgImage). All HasRoom ps) (sym c.as_slice-2.ensures.value)
    (rooms (record { layout = i.layout; programs = i.programs.items; gates = i.gates }) c.self.invariant)

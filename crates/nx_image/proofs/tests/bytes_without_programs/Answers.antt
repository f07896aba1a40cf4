use Rattle.std.proofs.Common.{◌≡◌, ℕ, ◌<◌, ◌≤◌, List, [], refl, sym, subst, arith}
use Rattle.nx_base.specs.declared.build.Build.TheVariants.{Kernel}
use Rattle.nx_config.specs.declared.limits.Limits.{Limits}
use Rattle.nx_gate.specs.declared.gate.Gate.{Gate}
use Rattle.nx_ram.specs.declared.prog_image.ProgImage.{ProgImage}
use Rattle.nx_image.specs.Layout.{pages, up, pool_bytes}
use Rattle.nx_image.specs.Image.{IsImage}
use Rattle.nx_image.proofs.tests.bytes_without_programs.Goals as goal

abbrev default : Limits
default = record { ram = 4194304; threads = 16; blocks = 4096; nodes = 128; console = 1048576; stack = 8192 }

fits : pool_bytes default ≤ 4194304
unfolding up pages
fits = omega arith

none : (k : ℕ) → k < 0 → ⊥
none k h = omega (arith, h)

no_program : (gates : List Gate) → IsImage (record { layout = record { build = Kernel; limits = default }; programs = []; gates = gates })
no_program gates = record {
  limits = record {
    ram = record { low = omega arith; high = omega arith; whole = refl };
    threads = record { low = omega arith; high = omega arith; whole = refl };
    blocks = record { low = omega arith; high = omega arith; whole = refl };
    nodes = record { low = omega arith; high = omega arith; whole = refl };
    console = record { low = omega arith; high = omega arith; whole = refl };
    stack = record { low = omega arith; high = omega arith; whole = refl };
  };
  few = omega arith;
  programs = λ k d h. absurd (none k h);
  stand = refl;
  fits = let f = fits in omega (arith, f);
}

pub new-image-requires : goal.new-image-requires
new-image-requires g c = subst (λ (ps : List ProgImage). IsImage (record { layout = record { build = Kernel; limits = default }; programs = ps; gates = c.in_ok-gates.gates })) (sym c.new.ensures.items) (no_program c.in_ok-gates.gates)

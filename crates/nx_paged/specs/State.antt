-- A space as plain data.
use Rattle.nx_space.specs.World.{World}
use Rattle.nx_paged.specs.declared.paged.PagedSpace.{PagedSpace}
use Rattle.nx_paged.specs.Paging.{Paging, paged_world}

abbrev pub state_of : PagedSpace → Paging
state_of s = record { ram = s.ram; pool = s.pool; programs = s.programs.items; stack = s.stack; threads = s.threads; stock = s.frames; tenants = s.groups.items; entered = s.entered }

-- all views of a space, what they stand over, and the frames of each group
abbrev pub world_of : PagedSpace → World
world_of s = paged_world (state_of s)

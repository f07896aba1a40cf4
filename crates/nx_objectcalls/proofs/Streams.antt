-- Descriptions that may be written or read, and those that may not.
use Rattle.std.proofs.Common.{◌≡◌, ℕ, List, true, false, refl}
use Rattle.std.specs.Prelude.{Some, ◌&&◌}
use Rattle.nx_base.specs.declared.errno.Errno.TheVariants.{Ebadf}
use Rattle.nx_ksys.specs.State.{KernelState}
use Rattle.nx_ksys.specs.Answers.{Caller, failed}
use Rattle.nx_ksys.specs.Descriptors.{Opened, may_read, may_write}
use Rattle.nx_ksys.specs.FileCalls.{is_stream, write_opened, write_some, read_opened, read_target}

pub refused_write : (k : KernelState) (c : Caller) (bytes : List ℕ) (o : Opened) → (is_stream o.description.target && may_write o.description.flags) ≡ false → write_opened k c bytes (Some o) ≡ failed k c Ebadf
refused_write k c bytes o e = rw e refl

pub allowed_write : (k : KernelState) (c : Caller) (bytes : List ℕ) (o : Opened) → (is_stream o.description.target && may_write o.description.flags) ≡ true → write_opened k c bytes (Some o) ≡ write_some k c o bytes
allowed_write k c bytes o e = rw e refl

pub refused_read : (k : KernelState) (c : Caller) (room : ℕ) (o : Opened) → (is_stream o.description.target && may_read o.description.flags) ≡ false → read_opened k c room (Some o) ≡ failed k c Ebadf
refused_read k c room o e = rw e refl

pub allowed_read : (k : KernelState) (c : Caller) (room : ℕ) (o : Opened) → (is_stream o.description.target && may_read o.description.flags) ≡ true → read_opened k c room (Some o) ≡ read_target k c o room o.description.target
allowed_read k c room o e = rw e refl

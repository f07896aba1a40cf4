-- The error numbers of the kernel.
use Rattle.std.specs.Prelude.{ℤ, pos}
use Rattle.nx_base.specs.declared.errno.Errno.{Errno}
use Rattle.nx_base.specs.declared.errno.Errno.TheVariants.{Enoent, Ebadf, Echild, Eagain, Enomem, Efault, Eexist, Enotdir, Eisdir, Einval, Emfile, Efbig, Enospc, Enosys, Enotempty, Emsgsize, Etimedout}

-- the number that a program sees
abbrev pub number_of : Errno → ℤ
number_of Enoent = pos 2
number_of Ebadf = pos 9
number_of Echild = pos 10
number_of Eagain = pos 11
number_of Enomem = pos 12
number_of Efault = pos 14
number_of Eexist = pos 17
number_of Enotdir = pos 20
number_of Eisdir = pos 21
number_of Einval = pos 22
number_of Emfile = pos 24
number_of Efbig = pos 27
number_of Enospc = pos 28
number_of Enosys = pos 38
number_of Enotempty = pos 39
number_of Emsgsize = pos 90
number_of Etimedout = pos 110

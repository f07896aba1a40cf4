-- The names that every C program begins with, as if by `#define` at its head.
use Rattle.std.specs.Prelude.{ℕ, List, [], ◌∷◌, codes, Option}
use Rattle.std.specs.List.{find}
use Rattle.std.specs.Str.{bytes_eq}
use Rattle.nx_ctok.specs.declared.predefined.Predefined.{Predefined}
use Rattle.nx_ctok.specs.declared.predefined.Predefined.TheVariants as name

-- The error numbers of POSIX that the kernel has, and the flags of `open`.
unfoldable pub all_predefined : List Predefined
all_predefined =
    name.Enoent ∷ name.Ebadf ∷ name.Echild ∷ name.Eagain ∷ name.Enomem ∷ name.Efault ∷ name.Eexist ∷ name.Enotdir ∷ name.Eisdir
    ∷ name.Einval ∷ name.Emfile ∷ name.Efbig ∷ name.Enospc ∷ name.Enosys ∷ name.Enotempty ∷ name.Emsgsize ∷ name.Etimedout
    ∷ name.ReadOnly ∷ name.WriteOnly ∷ name.ReadWrite ∷ name.Create ∷ name.Exclusive ∷ name.Append ∷ name.Truncate ∷ name.Nonblock ∷ []

-- How a predefined name is spelled.
abbrev pub name_text : Predefined → List ℕ
name_text name.Enoent = codes "ENOENT"
name_text name.Ebadf = codes "EBADF"
name_text name.Echild = codes "ECHILD"
name_text name.Eagain = codes "EAGAIN"
name_text name.Enomem = codes "ENOMEM"
name_text name.Efault = codes "EFAULT"
name_text name.Eexist = codes "EEXIST"
name_text name.Enotdir = codes "ENOTDIR"
name_text name.Eisdir = codes "EISDIR"
name_text name.Einval = codes "EINVAL"
name_text name.Emfile = codes "EMFILE"
name_text name.Efbig = codes "EFBIG"
name_text name.Enospc = codes "ENOSPC"
name_text name.Enosys = codes "ENOSYS"
name_text name.Enotempty = codes "ENOTEMPTY"
name_text name.Emsgsize = codes "EMSGSIZE"
name_text name.Etimedout = codes "ETIMEDOUT"
name_text name.ReadOnly = codes "O_RDONLY"
name_text name.WriteOnly = codes "O_WRONLY"
name_text name.ReadWrite = codes "O_RDWR"
name_text name.Create = codes "O_CREAT"
name_text name.Exclusive = codes "O_EXCL"
name_text name.Append = codes "O_APPEND"
name_text name.Truncate = codes "O_TRUNC"
name_text name.Nonblock = codes "O_NONBLOCK"

-- The number that it stands for, as it is spelled.
abbrev pub number_text : Predefined → List ℕ
number_text name.Enoent = codes "2"
number_text name.Ebadf = codes "9"
number_text name.Echild = codes "10"
number_text name.Eagain = codes "11"
number_text name.Enomem = codes "12"
number_text name.Efault = codes "14"
number_text name.Eexist = codes "17"
number_text name.Enotdir = codes "20"
number_text name.Eisdir = codes "21"
number_text name.Einval = codes "22"
number_text name.Emfile = codes "24"
number_text name.Efbig = codes "27"
number_text name.Enospc = codes "28"
number_text name.Enosys = codes "38"
number_text name.Enotempty = codes "39"
number_text name.Emsgsize = codes "90"
number_text name.Etimedout = codes "110"
number_text name.ReadOnly = codes "1"
number_text name.WriteOnly = codes "2"
number_text name.ReadWrite = codes "3"
number_text name.Create = codes "4"
number_text name.Exclusive = codes "8"
number_text name.Append = codes "16"
number_text name.Truncate = codes "32"
number_text name.Nonblock = codes "64"

-- The predefined name that these bytes spell.
abbrev pub predefined_of : List ℕ → Option Predefined
predefined_of bytes = find (λ p. bytes_eq bytes (name_text p)) all_predefined

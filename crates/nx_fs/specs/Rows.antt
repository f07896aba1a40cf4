-- What a call is told of a file, as the state and the replies that it leaves.
use Rattle.std.specs.Prelude.{ℕ, ◌+◌, List, [], ◌∷◌, take, Option, Result, Ok, Err}
use Rattle.nx_base.specs.declared.errno.Errno.{Errno}
use Rattle.nx_ksys.specs.declared.node.Open.{Open}
use Rattle.nx_ksys.specs.State.{KernelState}
use Rattle.nx_ksys.specs.Descriptors.{Opened}
use Rattle.nx_ksys.specs.Answers.{Stepped, Caller, replied, failed}
use Rattle.nx_ksys.specs.FileCalls.{Written, with_open}
use Rattle.nx_fs.specs.declared.bytes.Moved.{Moved}

abbrev pub with_files : KernelState → List (Option (List ℕ)) → KernelState
with_files k files = record k { tree = record k.tree { files = files } }

-- a description at a place
abbrev pub opened_at : ℕ → Open → Opened
opened_at at description = record { place = at; description = description }

-- bytes that were written, and where they end
abbrev pub as_written : List ℕ → Result Moved Errno → Result Written Errno
as_written content (Err e) = Err e
as_written content (Ok m) = Ok (record { content = content; count = m.count; end = m.end })

-- the description is at the end of the bytes that were written
abbrev pub write_told : KernelState → Caller → ℕ → Open → Result Moved Errno → Stepped
write_told k c at description (Err e) = failed k c e
write_told k c at description (Ok m) = replied (with_open k at (record description { offset = m.end })) c m.count []

-- and here at the end of those that were read
abbrev pub read_told : KernelState → Caller → ℕ → Open → List ℕ → Result ℕ Errno → Stepped
read_told k c at description bytes (Err e) = failed k c e
read_told k c at description bytes (Ok count) = replied (with_open k at (record description { offset = description.offset + count })) c count (bytes ∷ [])

abbrev pub seek_told : KernelState → Caller → ℕ → Open → Result ℕ Errno → Stepped
seek_told k c at description (Err e) = failed k c e
seek_told k c at description (Ok offset) = replied (with_open k at (record description { offset = offset })) c offset []

-- the bytes that were read into a buffer
abbrev pub taken : Result ℕ Errno → List ℕ → List ℕ
taken (Err e) buffer = []
taken (Ok count) buffer = take count buffer

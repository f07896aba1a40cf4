-- Small scripts, computed: each call, in its order.
use Rattle.std.proofs.Common.{◌≡◌, ℕ, ◌-◌, ◌^◌, false, [], ◌∷◌, List, map, Some, None, codes, refl}
use Rattle.std.specs.Fmt.{digits}
use Rattle.nx_base.specs.Calls.{Reply}
use Rattle.nx_base.specs.ByteLists.{from_le}
use Rattle.nx_shtok.specs.declared.part.Part.TheVariants as part
use Rattle.nx_shtok.specs.declared.token.Word.{Word}
use Rattle.nx_shtree.specs.declared.tree.Mode.{Mode}
use Rattle.nx_shtree.specs.declared.tree.Mode.TheVariants.{Truncate, Append}
use Rattle.nx_shtree.specs.declared.tree.Simple.{Simple}
use Rattle.nx_shtree.specs.Trees.{NoMore, More, Item, At, Command, IfElse, Until}
use Rattle.nx_shrun.specs.Builtins.{all_builtins}
use Rattle.nx_shrun.specs.Calls as c
use Rattle.nx_shrun.specs.Texts.{spaced, lines, echo_text, program_path, command_not_found}
use Rattle.nx_shrun.specs.Numbers.{number}
use Rattle.nx_shrun.specs.Tests.{plain_test, test_of}
use Rattle.nx_shrun.specs.Table.{is_too_long, begun_with}
use Rattle.nx_shrun.specs.ShellCalls.{shell_calls}

-- ---- words, commands and replies

abbrev word : List ℕ → Word
word bytes = record { parts = map part.Byte bytes; quoted = false }

abbrev status_word : Word
status_word = record { parts = part.Status ∷ []; quoted = false }

abbrev name_word : List ℕ → Word
name_word name = record { parts = part.Name name ∷ []; quoted = false }

abbrev plain : List Word → Simple
plain ws = record { line = 1; words = ws; output = None }

abbrev into : Mode → List ℕ → List Word → Simple
into mode file ws = record { line = 1; words = ws; output = Some (record { line = 1; mode = mode; file = word file }) }

abbrev told : ℕ → List ℕ → Reply
told value bytes = record { thread = 1; value = value; errno = 0; outputs = bytes ∷ [] ∷ [] }

abbrev says : ℕ → Reply
says value = told value []

abbrev fails : ℕ → Reply
fails errno = record { thread = 1; value = 2 ^ 32 - 1; errno = errno; outputs = [] ∷ [] ∷ [] }

-- ---- an empty script

abbrev empty_script : List Item
empty_script = []

row_empty : shell_calls empty_script [] ≡ c.exit 0 ∷ []
unfolding shell_calls
row_empty = refl

-- ---- files, a condition, a command that isn't there

abbrev f : List ℕ
f = codes "/tmp/f"

abbrev pub files_script : List Item
files_script =
    At 1 (Command (into Truncate f (word (codes "echo") ∷ word (codes "a") ∷ [])))
    ∷ At 2 (Command (into Append f (word (codes "echo") ∷ word (codes "b") ∷ [])))
    ∷ At 3 (Command (plain (word (codes "cat") ∷ word f ∷ [])))
    ∷ At 4 (IfElse (plain (word (codes "[") ∷ status_word ∷ word (codes "-eq") ∷ word (codes "0") ∷ word (codes "]") ∷ []))
    (More (At 6 (Command (plain (word (codes "echo") ∷ word (codes "yes") ∷ [])))) NoMore)
    (More (At 8 (Command (plain (word (codes "echo") ∷ word (codes "no") ∷ [])))) NoMore))
    ∷ At 10 (Command (plain (word (codes "zz") ∷ [])))
    ∷ At 11 (Command (plain (word (codes "echo") ∷ status_word ∷ [])))
    ∷ []

-- what the kernel replies
abbrev files_replies : List Reply
files_replies =
    says 1 ∷ says 3 ∷ says 2 ∷ says 0
    ∷ says 1 ∷ says 3 ∷ says 2 ∷ says 0
    ∷ says 1 ∷ says 3 ∷ told 4 (97 ∷ 10 ∷ 98 ∷ 10 ∷ []) ∷ says 4 ∷ says 0 ∷ says 0
    ∷ says 1
    ∷ says 1 ∷ says 4
    ∷ says 1 ∷ fails 2 ∷ says 27
    ∷ says 1 ∷ says 2
    ∷ []

row_files : shell_calls files_script files_replies
    ≡ c.getpid ∷ c.open_file f 38 ∷ c.write 3 (97 ∷ 10 ∷ []) ∷ c.close 3
    ∷ c.getpid ∷ c.open_file f 22 ∷ c.write 3 (98 ∷ 10 ∷ []) ∷ c.close 3
    ∷ c.getpid ∷ c.open_file f 1 ∷ c.read 3 ∷ c.write 1 (97 ∷ 10 ∷ 98 ∷ 10 ∷ []) ∷ c.read 3 ∷ c.close 3
    ∷ c.getpid
    ∷ c.getpid ∷ c.write 1 (codes "yes\n")
    ∷ c.getpid ∷ c.spawn (codes "/bin/zz") [] ∷ c.write 2 (codes "nsh: zz: command not found\n")
    ∷ c.getpid ∷ c.write 1 (codes "1\n")
    ∷ c.exit 0 ∷ []
unfolding shell_calls digits all_builtins spaced lines echo_text program_path command_not_found number plain_test test_of is_too_long begun_with
row_files = refl

-- ---- a program's code

abbrev pub code_script : List Item
code_script = At 1 (Command (plain (word (codes "p") ∷ []))) ∷ At 2 (Command (plain (word (codes "echo") ∷ status_word ∷ []))) ∷ []

row_code : shell_calls code_script (says 1 ∷ says 2 ∷ told 2 (44 ∷ 0 ∷ 0 ∷ 0 ∷ []) ∷ says 1 ∷ says 3 ∷ [])
    ≡ c.getpid ∷ c.spawn (codes "/bin/p") [] ∷ c.waitpid 2 ∷ c.getpid ∷ c.write 1 (codes "44\n") ∷ c.exit 0 ∷ []
unfolding shell_calls digits all_builtins spaced lines echo_text program_path is_too_long begun_with from_le
row_code = refl

-- ---- a loop that goes on until its condition holds

abbrev x : List ℕ
x = codes "/tmp/x"

abbrev until_script : List Item
until_script =
    At 1 (Until (plain (word (codes "[") ∷ word (codes "-e") ∷ word x ∷ word (codes "]") ∷ []))
    (More (At 3 (Command (into Truncate x (word (codes "echo") ∷ word (codes "a") ∷ [])))) NoMore))
    ∷ At 5 (Command (plain (word (codes "echo") ∷ status_word ∷ [])))
    ∷ []

row_until : shell_calls until_script (says 1 ∷ fails 2 ∷ says 1 ∷ says 3 ∷ says 2 ∷ says 0 ∷ says 1 ∷ says 1 ∷ says 1 ∷ says 2 ∷ [])
    ≡ c.getpid ∷ c.kind x ∷ c.getpid ∷ c.open_file x 38 ∷ c.write 3 (codes "a\n") ∷ c.close 3 ∷ c.getpid ∷ c.kind x ∷ c.getpid ∷ c.write 1 (codes "0\n") ∷ c.exit 0 ∷ []
unfolding shell_calls digits all_builtins spaced lines echo_text program_path number plain_test test_of is_too_long begun_with
row_until = refl

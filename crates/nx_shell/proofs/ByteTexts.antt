-- The texts that the shell makes of bytes are bytes.
use Rattle.std.proofs.Common.{◌≡◌, ℕ, zero, suc, ◌%◌, ◌/◌, ◌<◌, ◌==◌, Bool, true, false, ◌&&◌, if◌then◌else◌, nat_lt, List, [], ◌∷◌, ◌++◌, take, codes, decimal, refl, arith}
use Rattle.std.proofs.lemmas.Bool.{ltb-true}
use Rattle.std.specs.Fmt.{digits, digits_onto, digit_glyph}
use Rattle.std.specs.List.{All, list_all, list_any}
use Rattle.nx_base.specs.ByteLists.{AreBytes}
use Rattle.nx_base.specs.KernelCalls.{name_of}
use Rattle.nx_base.specs.declared.calls.KCall.{KCall}
use Rattle.nx_base.specs.declared.calls.KCall.TheVariants as kernel
use Rattle.nx_ksys.specs.Answers.{input_at}
use Rattle.nx_shrun.specs.Texts.{arguments, line, spaced, lines, echo_text, program_path, announcement, failure_message, bad_arguments, command_not_found, line_too_long, all_but_last, last_of}

-- Bytes one by one.
abbrev pub Bytes : List ℕ → Type 0
Bytes [] = Unit {0}
Bytes (b ∷ bs) = (b < 256) × Bytes bs

abbrev pub Texts : List (List ℕ) → Type 0
Texts [] = Unit {0}
Texts (w ∷ ws) = Bytes w × Texts ws

pub are_bytes : (bs : List ℕ) → Bytes bs → AreBytes bs
are_bytes [] h i = omega arith
are_bytes (b ∷ bs) h zero = h.0
are_bytes (b ∷ bs) h (suc i) = are_bytes bs h.1 i

pub bytes_of : (bs : List ℕ) → AreBytes bs → Bytes bs
bytes_of [] h = tt
bytes_of (b ∷ bs) h = (h 0, bytes_of bs (λ i. h (suc i)))

pub append_bytes : (xs ys : List ℕ) → Bytes xs → Bytes ys → Bytes (xs ++ ys)
append_bytes [] ys h k = k
append_bytes (x ∷ xs) ys h k = (h.0, append_bytes xs ys h.1 k)

pub append_texts : (xs ys : List (List ℕ)) → Texts xs → Texts ys → Texts (xs ++ ys)
append_texts [] ys h k = k
append_texts (x ∷ xs) ys h k = (h.0, append_texts xs ys h.1 k)

pub take_bytes : (n : ℕ) (xs : List ℕ) → Bytes xs → Bytes (take n xs)
take_bytes zero xs h = tt
take_bytes (suc n) [] h = tt
take_bytes (suc n) (x ∷ xs) h = (h.0, take_bytes n xs h.1)

-- Words that are written out.
pub written_bytes : (xs : List ℕ) → list_all (λ b. nat_lt b 256) xs ≡ true → Bytes xs
written_bytes [] h = tt
written_bytes (x ∷ xs) h = both (nat_lt x 256) (list_all (λ b. nat_lt b 256) xs) refl refl h (λ f. written_bytes xs f)
  where
    both : (a c : Bool) → nat_lt x 256 ≡ a → list_all (λ b. nat_lt b 256) xs ≡ c → (a && c) ≡ true → (list_all (λ b. nat_lt b 256) xs ≡ true → Bytes xs) → Bytes (x ∷ xs)
    both true true e f h on = (ltb-true x 256 e, on f)
    both true false e f h on = absurd cc
    both false c e f h on = absurd cc

pub if_bytes : (t : Bool) (x y : List ℕ) → Bytes x → Bytes y → Bytes (if t then x else y)
if_bytes true x y h k = h
if_bytes false x y h k = k

digit_byte : (d : ℕ) → d < 10 → digit_glyph false d < 256
digit_byte d h = grind (arith, h)

digits_bytes : (k n : ℕ) (acc : List ℕ) → Bytes acc → Bytes (digits_onto k 10 false n acc)
digits_bytes zero n acc h = h
digits_bytes (suc k) n acc h =
    let d : digit_glyph false (n % 10) < 256 = digit_byte (n % 10) (omega arith) in
    if_bytes (n / 10 == 0) _ _ (d, h) (digits_bytes k (n / 10) (digit_glyph false (n % 10) ∷ acc) (d, h))

pub decimal_bytes : (n : ℕ) → Bytes (decimal n)
unfolding digits
decimal_bytes n = digits_bytes 64 n [] tt

pub at_bytes : (ws : List (List ℕ)) (i : ℕ) → Texts ws → Bytes (input_at ws i)
at_bytes [] i h = tt
at_bytes (w ∷ ws) zero h = h.0
at_bytes (w ∷ ws) (suc i) h = at_bytes ws i h.1

pub arguments_bytes : (ws : List (List ℕ)) → Texts ws → Texts (arguments ws)
arguments_bytes [] h = tt
arguments_bytes (w ∷ ws) h = h.1

pub line_bytes : (x : List ℕ) → Bytes x → Bytes (line x)
line_bytes x h = append_bytes x (10 ∷ []) h (omega arith, tt)

pub spaced_bytes : (ws : List (List ℕ)) → Texts ws → Bytes (spaced ws)
unfolding spaced
spaced_bytes [] h = tt
spaced_bytes (w ∷ []) h = h.0
spaced_bytes (w ∷ v ∷ ws) h = append_bytes w (32 ∷ spaced (v ∷ ws)) h.0 (omega arith, spaced_bytes (v ∷ ws) h.1)

pub lines_bytes : (ws : List (List ℕ)) → Texts ws → Bytes (lines ws)
unfolding lines
lines_bytes [] h = tt
lines_bytes (w ∷ ws) h = append_bytes (line w) (lines ws) (line_bytes w h.0) (lines_bytes ws h.1)

pub echo_bytes : (ws : List (List ℕ)) → Texts ws → Bytes (echo_text ws)
unfolding echo_text
echo_bytes ws h = line_bytes (spaced (arguments ws)) (spaced_bytes (arguments ws) (arguments_bytes ws h))

pub path_bytes : (name : List ℕ) → Bytes name → Bytes (program_path name)
unfolding program_path
path_bytes name h = if_bytes (list_any (λ b. b == 47) name) name (codes "/bin/" ++ name) h (append_bytes (codes "/bin/") name (written_bytes (codes "/bin/") refl) h)

pub announcement_bytes : (name : List ℕ) (pid : ℕ) → Bytes name → Bytes (announcement name pid)
unfolding announcement
announcement_bytes name pid h =
    line_bytes (name ++ codes " [" ++ decimal pid ++ codes ":100]")
    (append_bytes (name ++ codes " [" ++ decimal pid) (codes ":100]")
    (append_bytes (name ++ codes " [") (decimal pid) (append_bytes name (codes " [") h (written_bytes (codes " [") refl)) (decimal_bytes pid))
    (written_bytes (codes ":100]") refl))

name_bytes : (which : KCall) → list_all (λ b. nat_lt b 256) (name_of which) ≡ true
name_bytes kernel.Write = refl
name_bytes kernel.Read = refl
name_bytes kernel.Open = refl
name_bytes kernel.Close = refl
name_bytes kernel.Lseek = refl
name_bytes kernel.Dup = refl
name_bytes kernel.Dup2 = refl
name_bytes kernel.Unlink = refl
name_bytes kernel.Mkdir = refl
name_bytes kernel.Rmdir = refl
name_bytes kernel.Rename = refl
name_bytes kernel.Chdir = refl
name_bytes kernel.NxGetcwd = refl
name_bytes kernel.NxReaddir = refl
name_bytes kernel.NxKind = refl
name_bytes kernel.NxSpawn = refl
name_bytes kernel.Exit = refl
name_bytes kernel.Getpid = refl
name_bytes kernel.Waitpid = refl
name_bytes kernel.NxArgc = refl
name_bytes kernel.NxArg = refl
name_bytes kernel.NxSetpriority = refl
name_bytes kernel.SchedYield = refl
name_bytes kernel.NxPs = refl
name_bytes kernel.NxThread = refl
name_bytes kernel.NxThreadExit = refl
name_bytes kernel.NxJoin = refl
name_bytes kernel.NxMqOpen = refl
name_bytes kernel.MqClose = refl
name_bytes kernel.MqUnlink = refl
name_bytes kernel.MqSend = refl
name_bytes kernel.MqReceive = refl
name_bytes kernel.NxMqTimedreceive = refl
name_bytes kernel.NxSemOpen = refl
name_bytes kernel.NxSemWait = refl
name_bytes kernel.NxSemTrywait = refl
name_bytes kernel.NxSemPost = refl
name_bytes kernel.NxSemClose = refl
name_bytes kernel.NxSleep = refl
name_bytes kernel.NxTicks = refl
name_bytes kernel.NxGetenv = refl
name_bytes kernel.Setenv = refl
name_bytes kernel.Unsetenv = refl
name_bytes kernel.NxEnv = refl
name_bytes kernel.GetErrno = refl

pub failure_bytes : (name : List ℕ) (which : KCall) (errno : ℕ) → Bytes name → Bytes (failure_message name which errno)
unfolding failure_message
failure_bytes name which errno h =
    line_bytes (codes "nsh: " ++ name ++ codes ": " ++ name_of which ++ codes " failed: " ++ decimal errno)
    (append_bytes (codes "nsh: " ++ name ++ codes ": " ++ name_of which ++ codes " failed: ") (decimal errno)
    (append_bytes (codes "nsh: " ++ name ++ codes ": " ++ name_of which) (codes " failed: ")
    (append_bytes (codes "nsh: " ++ name ++ codes ": ") (name_of which)
    (append_bytes (codes "nsh: " ++ name) (codes ": ") (append_bytes (codes "nsh: ") name (written_bytes (codes "nsh: ") refl) h) (written_bytes (codes ": ") refl))
    (written_bytes (name_of which) (name_bytes which)))
    (written_bytes (codes " failed: ") refl))
    (decimal_bytes errno))

pub bad_bytes : (name : List ℕ) → Bytes name → Bytes (bad_arguments name)
unfolding bad_arguments
bad_bytes name h = line_bytes (codes "nsh: " ++ name ++ codes ": bad arguments") (append_bytes (codes "nsh: " ++ name) (codes ": bad arguments") (append_bytes (codes "nsh: ") name (written_bytes (codes "nsh: ") refl) h) (written_bytes (codes ": bad arguments") refl))

pub missing_bytes : (name : List ℕ) → Bytes name → Bytes (command_not_found name)
unfolding command_not_found
missing_bytes name h = line_bytes (codes "nsh: " ++ name ++ codes ": command not found") (append_bytes (codes "nsh: " ++ name) (codes ": command not found") (append_bytes (codes "nsh: ") name (written_bytes (codes "nsh: ") refl) h) (written_bytes (codes ": command not found") refl))

pub long_bytes : Bytes line_too_long
unfolding line_too_long
long_bytes = written_bytes (line (codes "nsh: line too long")) refl

pub but_last_bytes : (ws : List (List ℕ)) → Texts ws → Texts (all_but_last ws)
but_last_bytes [] h = tt
but_last_bytes (w ∷ []) h = tt
but_last_bytes (w ∷ v ∷ ws) h = (h.0, but_last_bytes (v ∷ ws) h.1)

pub last_bytes : (ws : List (List ℕ)) → Texts ws → Bytes (last_of ws)
last_bytes [] h = tt
last_bytes (w ∷ []) h = h.0
last_bytes (w ∷ v ∷ ws) h = last_bytes (v ∷ ws) h.1

pub all_texts : (ws : List (List ℕ)) → Texts ws → All AreBytes ws
all_texts [] h k d l = absurd (omega (arith, l))
all_texts (w ∷ ws) h zero d l = are_bytes w h.0
all_texts (w ∷ ws) h (suc k) d l = all_texts ws h.1 k d (omega (arith, l))

pub texts_all : (ws : List (List ℕ)) → All AreBytes ws → Texts ws
texts_all [] h = tt
texts_all (w ∷ ws) h = (bytes_of w (h 0 w (omega arith)), texts_all ws (λ k d l. h (suc k) d (omega (arith, l))))

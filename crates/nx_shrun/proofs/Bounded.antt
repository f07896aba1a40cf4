-- How long the texts are that the shell writes.
use Rattle.std.proofs.Common.{◌≡◌, ℕ, zero, suc, ◌+◌, ◌^◌, ◌≤◌, ◌<◌, Bool, true, false, ◌||◌, ◌==◌, if◌then◌else◌, List, [], ◌∷◌, ◌++◌, length, take, codes, decimal, refl, arith, length-append}
use Rattle.std.proofs.lemmas.Bool.{ltb-false}
use Rattle.std.proofs.lemmas.Fmt.{length-decimal-le}
use Rattle.std.specs.List.{list_any}
use Rattle.nx_base.specs.Calls.{Reply}
use Rattle.nx_base.specs.Replies.{HaveRoom}
use Rattle.nx_base.specs.KernelCalls.{name_of}
use Rattle.nx_base.specs.declared.calls.KCall.{KCall}
use Rattle.nx_base.specs.declared.calls.KCall.TheVariants as kernel
use Rattle.nx_ksys.specs.Answers.{input_at}
use Rattle.nx_shrun.specs.Calls.{handed}
use Rattle.nx_shrun.specs.Texts.{word_at, arguments, line, spaced, echo_text, program_path, announcement, failure_message, bad_arguments, command_not_found, line_too_long}
use Rattle.nx_shrun.specs.Table.{is_long}

pub if_le : (b : Bool) (x y : List ℕ) (n : ℕ) → length x ≤ n → length y ≤ n → length (if b then x else y) ≤ n
if_le true x y n h k = h
if_le false x y n h k = k

pub append_le : (x y : List ℕ) (n m : ℕ) → length x ≤ n → length y ≤ m → length (x ++ y) ≤ n + m
append_le x y n m h k = omega (arith, h, k, length-append x y)

pub line_le : (x : List ℕ) (n : ℕ) → length x ≤ n → length (line x) ≤ n + 1
line_le x n h = append_le x (10 ∷ []) n 1 h (omega arith)

pub decimal_le : (n : ℕ) → n < 2 ^ 32 → length (decimal n) ≤ 10
decimal_le n h = length-decimal-le 10 n (omega arith) (omega (arith, h)) (omega (arith, h))

pub or_left : (a b : Bool) → (if a then true else b) ≡ false → a ≡ false
or_left true b h = h
or_left false b h = refl

-- a word of a list that has no long one
pub each_short : (ws : List (List ℕ)) → list_any is_long ws ≡ false → (i : ℕ) → length (word_at ws i) ≤ 255
each_short [] h i = omega arith
each_short (w ∷ ws) h zero = ltb-false 255 (length w) (first (is_long w) (list_any is_long ws) h)
  where
    first : (a b : Bool) → (a || b) ≡ false → a ≡ false
    first true b h = h
    first false b h = refl
each_short (w ∷ ws) h (suc i) = each_short ws (second (is_long w) (list_any is_long ws) h) i
  where
    second : (a b : Bool) → (a || b) ≡ false → b ≡ false
    second true b h = absurd cc
    second false b h = h

spaced_rest : (w : List ℕ) (ws : List (List ℕ)) → length (spaced ws) ≤ length (spaced (w ∷ ws))
unfolding spaced
spaced_rest w [] = omega arith
spaced_rest w (v ∷ ws) = omega (arith, length-append w (32 ∷ spaced (v ∷ ws)))

pub arguments_le : (ws : List (List ℕ)) → length (spaced (arguments ws)) ≤ length (spaced ws)
arguments_le [] = omega arith
arguments_le (w ∷ ws) = spaced_rest w ws

pub echo_le : (ws : List (List ℕ)) → length (spaced ws) ≤ 1024 → length (echo_text ws) ≤ 4096
unfolding echo_text
echo_le ws h = omega (arith, line_le (spaced (arguments ws)) 1024 (omega (arith, h, arguments_le ws)))

pub path_le : (name : List ℕ) → length name ≤ 255 → length (program_path name) ≤ 260
unfolding program_path
path_le name h = if_le (list_any (λ b. b == 47) name) name (codes "/bin/" ++ name) 260 (omega (arith, h)) (append_le (codes "/bin/") name 5 255 (omega arith) h)

pub numbered_le : (name : List ℕ) (pid : ℕ) → length name ≤ 255 → pid < 2 ^ 32 → length (name ++ codes " [" ++ decimal pid) ≤ 267
numbered_le name pid h p = append_le (name ++ codes " [") (decimal pid) 257 10 (append_le name (codes " [") 255 2 h (omega arith)) (decimal_le pid p)

pub announced_le : (name : List ℕ) (pid : ℕ) → length name ≤ 255 → pid < 2 ^ 32 → length (name ++ codes " [" ++ decimal pid ++ codes ":100]") ≤ 272
announced_le name pid h p = append_le (name ++ codes " [" ++ decimal pid) (codes ":100]") 267 5 (numbered_le name pid h p) (omega arith)

pub announcement_le : (name : List ℕ) (pid : ℕ) → length name ≤ 255 → pid < 2 ^ 32 → length (announcement name pid) ≤ 4096
unfolding announcement
announcement_le name pid h p = omega (arith, line_le (name ++ codes " [" ++ decimal pid ++ codes ":100]") 272 (announced_le name pid h p))

pub name_le : (which : KCall) → length (name_of which) ≤ 19
name_le kernel.Write = omega arith
name_le kernel.Read = omega arith
name_le kernel.Open = omega arith
name_le kernel.Close = omega arith
name_le kernel.Lseek = omega arith
name_le kernel.Dup = omega arith
name_le kernel.Dup2 = omega arith
name_le kernel.Unlink = omega arith
name_le kernel.Mkdir = omega arith
name_le kernel.Rmdir = omega arith
name_le kernel.Rename = omega arith
name_le kernel.Chdir = omega arith
name_le kernel.NxGetcwd = omega arith
name_le kernel.NxReaddir = omega arith
name_le kernel.NxKind = omega arith
name_le kernel.NxSpawn = omega arith
name_le kernel.Exit = omega arith
name_le kernel.Getpid = omega arith
name_le kernel.Waitpid = omega arith
name_le kernel.NxArgc = omega arith
name_le kernel.NxArg = omega arith
name_le kernel.NxSetpriority = omega arith
name_le kernel.SchedYield = omega arith
name_le kernel.NxPs = omega arith
name_le kernel.NxThread = omega arith
name_le kernel.NxThreadExit = omega arith
name_le kernel.NxJoin = omega arith
name_le kernel.NxMqOpen = omega arith
name_le kernel.MqClose = omega arith
name_le kernel.MqUnlink = omega arith
name_le kernel.MqSend = omega arith
name_le kernel.MqReceive = omega arith
name_le kernel.NxMqTimedreceive = omega arith
name_le kernel.NxSemOpen = omega arith
name_le kernel.NxSemWait = omega arith
name_le kernel.NxSemTrywait = omega arith
name_le kernel.NxSemPost = omega arith
name_le kernel.NxSemClose = omega arith
name_le kernel.NxSleep = omega arith
name_le kernel.NxTicks = omega arith
name_le kernel.NxGetenv = omega arith
name_le kernel.Setenv = omega arith
name_le kernel.Unsetenv = omega arith
name_le kernel.NxEnv = omega arith
name_le kernel.GetErrno = omega arith

pub failed_le : (name : List ℕ) (which : KCall) (errno : ℕ) → length name ≤ 255 → errno < 2 ^ 32 → length (codes "nsh: " ++ name ++ codes ": " ++ name_of which ++ codes " failed: " ++ decimal errno) ≤ 300
failed_le name which errno h e =
    append_le (codes "nsh: " ++ name ++ codes ": " ++ name_of which ++ codes " failed: ") (decimal errno) 290 10
    (append_le (codes "nsh: " ++ name ++ codes ": " ++ name_of which) (codes " failed: ") 281 9
    (append_le (codes "nsh: " ++ name ++ codes ": ") (name_of which) 262 19
    (append_le (codes "nsh: " ++ name) (codes ": ") 260 2
    (append_le (codes "nsh: ") name 5 255 (omega arith) h) (omega arith)) (name_le which)) (omega arith)) (decimal_le errno e)

pub failure_le : (name : List ℕ) (which : KCall) (errno : ℕ) → length name ≤ 255 → errno < 2 ^ 32 → length (failure_message name which errno) ≤ 4096
unfolding failure_message
failure_le name which errno h e = omega (arith, line_le (codes "nsh: " ++ name ++ codes ": " ++ name_of which ++ codes " failed: " ++ decimal errno) 300 (failed_le name which errno h e))

pub bad_le : (name : List ℕ) → length name ≤ 255 → length (bad_arguments name) ≤ 4096
unfolding bad_arguments
bad_le name h = omega (arith, line_le (codes "nsh: " ++ name ++ codes ": bad arguments") 275 (append_le (codes "nsh: " ++ name) (codes ": bad arguments") 260 15 (append_le (codes "nsh: ") name 5 255 (omega arith) h) (omega arith)))

pub missing_le : (name : List ℕ) → length name ≤ 255 → length (command_not_found name) ≤ 4096
unfolding command_not_found
missing_le name h = omega (arith, line_le (codes "nsh: " ++ name ++ codes ": command not found") 279 (append_le (codes "nsh: " ++ name) (codes ": command not found") 260 19 (append_le (codes "nsh: ") name 5 255 (omega arith) h) (omega arith)))

pub long_le : length line_too_long ≤ 4096
unfolding line_too_long
long_le = omega arith

abbrev no_bytes : List ℕ
no_bytes = []

take_short : (n : ℕ) (xs : List ℕ) → length (take n xs) ≤ length xs
take_short zero xs = omega arith
take_short (suc n) [] = omega arith
take_short (suc n) (x ∷ xs) = let h = take_short n xs in omega (arith, h)

take_none : (n : ℕ) → take n no_bytes ≡ no_bytes
take_none zero = refl
take_none (suc n) = refl

-- what a reply hands out has the room of its first output
pub handed_le : (r : Reply) (room : ℕ) (rooms : List ℕ) → HaveRoom (room ∷ rooms) r.outputs → length (handed r) ≤ room
handed_le r room rooms h = in_outputs r.outputs h
  where
    in_outputs : (outputs : List (List ℕ)) → HaveRoom (room ∷ rooms) outputs → length (take r.value (input_at outputs 0)) ≤ room
    in_outputs [] h = rw (take_none r.value) (omega arith)
    in_outputs (o ∷ os) h = let t = take_short r.value o in omega (arith, t, h.0)

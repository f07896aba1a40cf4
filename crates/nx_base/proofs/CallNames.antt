-- No two calls have one name.
use Rattle.std.proofs.Common.{◌≡◌, Some, refl}
use Rattle.nx_base.specs.declared.calls.KCall.{KCall}
use Rattle.nx_base.specs.declared.calls.KCall.TheVariants as call
use Rattle.nx_base.specs.KernelCalls.{all_calls, name_of, call_named}

pub call_named-name_of : (c : KCall) → call_named (name_of c) ≡ Some c
unfolding all_calls
call_named-name_of call.Write = refl
call_named-name_of call.Read = refl
call_named-name_of call.Open = refl
call_named-name_of call.Close = refl
call_named-name_of call.Lseek = refl
call_named-name_of call.Dup = refl
call_named-name_of call.Dup2 = refl
call_named-name_of call.Unlink = refl
call_named-name_of call.Mkdir = refl
call_named-name_of call.Rmdir = refl
call_named-name_of call.Rename = refl
call_named-name_of call.Chdir = refl
call_named-name_of call.NxGetcwd = refl
call_named-name_of call.NxReaddir = refl
call_named-name_of call.NxKind = refl
call_named-name_of call.NxSpawn = refl
call_named-name_of call.Exit = refl
call_named-name_of call.Getpid = refl
call_named-name_of call.Waitpid = refl
call_named-name_of call.NxArgc = refl
call_named-name_of call.NxArg = refl
call_named-name_of call.NxSetpriority = refl
call_named-name_of call.SchedYield = refl
call_named-name_of call.NxPs = refl
call_named-name_of call.NxThread = refl
call_named-name_of call.NxThreadExit = refl
call_named-name_of call.NxJoin = refl
call_named-name_of call.NxMqOpen = refl
call_named-name_of call.MqClose = refl
call_named-name_of call.MqUnlink = refl
call_named-name_of call.MqSend = refl
call_named-name_of call.MqReceive = refl
call_named-name_of call.NxMqTimedreceive = refl
call_named-name_of call.NxSemOpen = refl
call_named-name_of call.NxSemWait = refl
call_named-name_of call.NxSemTrywait = refl
call_named-name_of call.NxSemPost = refl
call_named-name_of call.NxSemClose = refl
call_named-name_of call.NxSleep = refl
call_named-name_of call.NxTicks = refl
call_named-name_of call.NxGetenv = refl
call_named-name_of call.Setenv = refl
call_named-name_of call.Unsetenv = refl
call_named-name_of call.NxEnv = refl
call_named-name_of call.GetErrno = refl

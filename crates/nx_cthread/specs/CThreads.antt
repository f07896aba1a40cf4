-- What a whole thread of the code is.
use Rattle.nx_cthread.specs.declared.thread.CThread as rust_thread
use Rattle.nx_cmean.specs.Meaning.{Thread, thread}
use Rattle.nx_cthread.specs.Threads.{frames_of}

abbrev pub thread_of : rust_thread.CThread → Thread
thread_of t = thread t.own.items (frames_of t.frames) t.outputs

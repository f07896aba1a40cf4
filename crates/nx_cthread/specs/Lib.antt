pub mod Threads
pub mod CThreads

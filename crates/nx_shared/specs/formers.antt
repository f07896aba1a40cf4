pub mod shared

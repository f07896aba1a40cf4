mod Joining
mod Patching

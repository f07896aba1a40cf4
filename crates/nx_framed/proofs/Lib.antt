mod Temporaries
mod Operations
mod Expressions
mod Bodies
mod Values
mod Framed

pub mod Turns
mod Prices
mod Demands
mod Below
mod Surviving
mod Stretches
mod Rows

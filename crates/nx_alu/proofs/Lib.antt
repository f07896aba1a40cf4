mod Products
mod Sums

mod Order
mod Lengths

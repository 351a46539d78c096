mod Bursts
mod Multiples
mod Numbers
mod Polynomials
mod Products
mod Quotients
mod Registers
mod Tapes

mod Aliases
mod Numbers
mod Unasked

mod Together
mod Counts
mod Refused
mod Ended
mod PagesTogether
mod WordSize

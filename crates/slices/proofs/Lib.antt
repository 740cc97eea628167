mod Cuts
mod Sliced
mod Tallies

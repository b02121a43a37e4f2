mod Pieces
mod ReviewLemmas

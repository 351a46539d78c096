-- Packed words of a width, of which those of one lane, or of sixteen lanes side by side, are moved one after another and
-- counted. A type of so many lanes has word k of a lane at lanes * k + lane.
use Rattle.std.specs.Prelude.{ℕ, ◌+◌, ◌*◌, ◌++◌, List, drop, length, slice_set, take}

-- what words are read from: all packed words, their width, the lane (of several, the first one), and how many words of the
-- lane were read
pub record Counted (X : Type 0) : Type 0 where
  pub words : List X
  pub width : ℕ
  pub lane : ℕ
  pub count : ℕ

-- what words are written to: the same, with the name of the slice that lends the words
pub record Written (X : Type 0) : Type 0 where
  pub target : ℕ
  pub words : List X
  pub width : ℕ
  pub lane : ℕ
  pub count : ℕ

-- the row of n elements of a list from one place on
abbrev pub row_from : {X : Type 0} → ℕ → ℕ → List X → List X
row_from n at xs = take n (drop at xs)

-- the list with a row in the place of as many elements from `to` on
abbrev pub splice_row : {X : Type 0} → ℕ → List X → List X → List X
splice_row to row xs = take to xs ++ (row ++ drop (to + length row) xs)

-- a word is written as word number `count` of the lane
abbrev pub puts_word : {X : Type 0} → ℕ → X → Written X → Written X
puts_word lanes word s = record s { words = slice_set s.words (lanes * s.count + s.lane) word; count = s.count + 1 }

-- a row of words is written as words number `count` of the lanes
abbrev pub puts_row : {X : Type 0} → ℕ → List X → Written X → Written X
puts_row lanes row s = record s { words = splice_row (lanes * s.count + s.lane) row s.words; count = s.count + 1 }

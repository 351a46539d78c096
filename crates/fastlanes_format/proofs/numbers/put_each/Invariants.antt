use Rattle.std.proofs.Common.{◌≡◌, ℕ, ◌+◌, ◌<◌, drop, get_or, take}
use Rattle.fastlanes_format.proofs.numbers.put_each.Given as goal

-- the bytes so far are there, and nothing else has changed
abbrev pub invariant-loop-i : goal.invariant-loop-i
invariant-loop-i g l = record {
  these : (k : ℕ) → k < l.i → get_or l.bytes (l.at + k) 0 ≡ get_or l.these k 0;
  before : take l.at l.bytes ≡ take l.at l.initial.bytes;
  behind : drop (l.at + g.row.N) l.bytes ≡ drop (l.at + g.row.N) l.initial.bytes;
}

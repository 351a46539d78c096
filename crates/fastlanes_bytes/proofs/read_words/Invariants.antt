use Rattle.std.proofs.Common.{◌≡◌, ◌*◌, ◌^◌, ◌<◌, length, map, take}
use Rattle.std.specs.Prelude.{All}
use Rattle.fastlanes_bytes.specs.Bytes.{bytes_of}
use Rattle.fastlanes_bytes.proofs.read_words.Given as goal

-- the words so far have the bytes so far, equally many each
abbrev pub invariant-loop-place : goal.invariant-loop-place
invariant-loop-place g l = record {
  whole : length l.words ≡ length l.initial.words;
  count : l.end ≡ l.place * l.word_len;
  below : All (λ x. x < 2 ^ g.E.FastLanes.T) (map g.E.FastLanes.number (take l.place l.words));
  bytes : bytes_of g.E.FastLanes.T (map g.E.FastLanes.number (take l.place l.words)) ≡ take l.end l.bytes;
}

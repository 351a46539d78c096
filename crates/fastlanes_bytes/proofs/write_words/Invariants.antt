use Rattle.std.proofs.Common.{◌≡◌, ◌*◌, ◌^◌, ◌<◌, drop, map, take}
use Rattle.std.specs.Prelude.{All}
use Rattle.fastlanes_bytes.specs.Bytes.{bytes_of}
use Rattle.fastlanes_bytes.proofs.write_words.Given as goal

-- the bytes so far are those of the words so far, equally many each
abbrev pub invariant-loop-word : goal.invariant-loop-word
invariant-loop-word g l = record {
  count : l.end ≡ l.word-index * l.word_len;
  below : All (λ x. x < 2 ^ g.E.FastLanes.T) (map g.E.FastLanes.number (take l.word-index l.words));
  rest : drop l.end l.bytes ≡ drop l.end l.initial.bytes;
  bytes : take l.end l.bytes ≡ bytes_of g.E.FastLanes.T (map g.E.FastLanes.number (take l.word-index l.words));
}

use Rattle.std.proofs.Common.{◌≡◌, ◌+◌, ◌*◌, arith, length, map, rules}
use Rattle.fastlanes_runs.proofs.RunDecoding.{decodes_more, names_entry}
use Rattle.fastlanes_runs.proofs.rle.decode_sixteen.Goals as goal

pub put_four-requires : goal.put_four-requires
put_four-requires g c = (
  search rules,
  (
    (omega arith),
    (λ j below. rw (c.four_places.ensures j below)
        (names_entry g.I.RunIndex.place c.args.rle_idxs.now (length c.args.rle_vals.now) (c.args.from + 4 * c.loop-four.four + j) c.requires.named (omega (arith, below)))),
  ),
)

pub loop-four-preserved : goal.loop-four-preserved
loop-four-preserved g c =
    let next : c.args.from + 4 * c.loop-four.four + 4 ≡ c.args.from + 4 * (c.loop-four.four + 1) = omega arith in
    rw next at (decodes_more c.loop-four.invariant (omega arith) (c.put_four.ensures (map g.I.RunIndex.place c.args.rle_idxs.now) c.four_places.ensures))

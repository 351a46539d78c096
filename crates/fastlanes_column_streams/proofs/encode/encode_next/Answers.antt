use Rattle.std.proofs.Math.Nat.{le_of_mul-le-mul_right}
use Rattle.std.proofs.lemmas.List.{length-take-le, take-append-le}
use Rattle.std.proofs.Common.{◌≤◌, ◌∙◌, sym, ◌≡◌, ◌*◌, ◌/◌, ℕ, [], ap, arith, drop, length, refl, rules, subst, take}
use Rattle.fastlanes_streams.specs.Stream.{Gives}
use Rattle.fastlanes_column_streams.proofs.Together.{none_taken}
use Rattle.fastlanes_column_streams.proofs.WordSize.{word_some}
use Rattle.fastlanes_column_streams.proofs.encode.encode_next.Goals as goal

pub returns-else-count-gt0-clause-encodes : goal.returns-else-count-gt0-clause-encodes
returns-else-count-gt0-clause-encodes g c = λ told tells.
    let no_value : c.in-Some.count ≡ 0 = omega (arith, c.if-count-gt0.false) in
    let no_byte : c.in_ok-filled.filled ≡ 0 = omega (arith, no_value, c.in-Some.ensures.some, ap (λ (n : ℕ). n * (g.E.MachineWord.T / 8)) no_value) in
    let first = c.in_ok-filled.ensures.gives told in
    let long : length c.fill.new.buffer ≡ 65536 * (g.E.MachineWord.T / 8) = search rules in
    record {
      values = [];
      page = [];
      gives = subst (λ (n : ℕ). Gives (g.I.ByteIn.source c.args.input.now) (take n c.fill.new.buffer) (g.I.ByteIn.source c.fill.new.input)) no_byte first;
      many = omega (arith, no_value);
      takes = none_taken (g.O.ByteOut.sink c.args.output.now);
      holds = λ some. absurd (omega (arith, some, no_value));
      shortest = λ some. absurd (omega (arith, some, no_value));
      none = λ _. refl;
      ended = λ few. c.in_ok-filled.ensures.ended told (omega (arith, no_byte, long, word_some g.E.MachineWord.T g.met.E.MachineWord.bits_law));
    }

pub returns-in_ok-encode_page-clause-encodes : goal.returns-in_ok-encode_page-clause-encodes
returns-in_ok-encode_page-clause-encodes g c = λ told tells.
    let page = c.in_ok-encode_page.ensures.page tells in
    let long : length c.fill.new.buffer ≡ 65536 * (g.E.MachineWord.T / 8) = search rules in
    let few : c.in-Some.count ≤ 65536 =
    le_of_mul-le-mul_right (omega (arith, c.in-Some.ensures.some, c.in_ok-filled.ensures.within, long)) (word_some g.E.MachineWord.T g.met.E.MachineWord.bits_law) in
    record {
      values = page.values;
      page = page.page;
      gives = rw (sym page.same) (rw (take-append-le c.in_ok-filled.filled c.fill.new.buffer (drop (65536 * (c.T.result / 8)) c.args.bytes.now) c.in_ok-filled.ensures.within) (c.in_ok-filled.ensures.gives told));
      many = page.many ∙ length-take-le c.in-Some.count c.args.values.now (omega (arith, few, c.requires.values));
      takes = page.takes;
      holds = λ some. page.holds;
      shortest = λ some. page.shortest;
      none = λ empty. absurd (omega (arith, empty, c.if-count-gt0.true));
      ended = λ few. c.in_ok-filled.ensures.ended told (search rules);
    }

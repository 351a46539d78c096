use Rattle.std.proofs.Common.{◌≡◌, ℕ, ◌∙◌, ◌++◌, ap, arith, drop, length, map, rules, sym}
use Rattle.std.proofs.Math.Seq.{drop-append_seam}
use Rattle.std.proofs.lemmas.List.{length-map, length-take-le}
use Rattle.fastlanes_format.specs.Format.{blocks_of, values_of}
use Rattle.fastlanes_format.proofs.BlockPlaces.{heads_first}
use Rattle.fastlanes_pages.proofs.SealedPages.{page_made, sealed_page, sealed_shortest}
use Rattle.fastlanes_pages.proofs.writing.write_page.Goals as goal

pub seal_page-requires-clause-head : goal.seal_page-requires-clause-head
seal_page-requires-clause-head g c =
    let written = c.write_blocks-end in
    let first = heads_first written.new.page (blocks_of written.new.page) in
    omega (arith, first, written.ensures.end, length-take-le written.result written.new.page written.ensures.inside)

pub returns : goal.returns
returns g c =
    let t = g.E.MachineWord.T in
    let lanes = g.E.MachineWord.LANES in
    let values = map g.E.MachineWord.number c.args.values.now in
    let many : length values ≡ length c.args.values.now = length-map c.args.values.now g.E.MachineWord.number in
    let written = c.write_blocks-end in
    let all : values_of written.new.page ≡ length values = written.ensures.count ∙ sym many in
    let page = c.seal_page.new.page in
    let sealed = c.seal_page.ensures in
    let whole : length page ≡ written.result = omega (arith, length-take-le written.result written.new.page written.ensures.inside) in
    let rest = drop written.result written.new.page in
    let made = page_made page rest written.result whole in
    record {
      inside = search rules;
      most = written.ensures.most;
      page = rw made
          (sealed_page t lanes c.args.checked values written.new.page page written.result written.ensures.inside whole sealed.values sealed.behind all
          written.ensures.end (omega (arith, many, c.requires.some)) (omega (arith, many, c.requires.most)) sealed.check sealed.len sealed.spare
          written.ensures.heads written.ensures.begin);
      shortest = rw made
          (sealed_shortest t lanes c.args.checked values written.new.page page written.result written.ensures.inside whole sealed.values sealed.behind all
          written.ensures.end c.args.frames_only written.ensures.shortest);
      behind = ap (λ (n : ℕ). drop n (page ++ rest)) (sym whole) ∙ drop-append_seam page rest ∙ written.ensures.behind;
    }

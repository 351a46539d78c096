use Rattle.std.proofs.Common.{◌≡◌, ℕ, ◌+◌, ◌-◌, ◌*◌, ◌^◌, ◌<◌, ◌≤◌, ◌∙◌, ap, length, map, rules, subst}
use Rattle.std.specs.Prelude.{if◌then◌else◌}
use Rattle.fastlanes_pages.proofs.PutBlocks.{form_number, has_block}
use Rattle.fastlanes_pages.proofs.writing.write_block_as.Goals as goal

pub returns : goal.returns
returns g c =
    let t = g.E.MachineWord.T in
    let number = g.E.MachineWord.number in
    let a = c.args in
    let form = a.form in
    let end = a.place + 128 * (c.from.result + form.width) in
    let mid = c.put_block_head.new.page in
    let bytes = c.write_form.new.bytes in
    let head = c.put_block_head.ensures in
    let reference = c.to_number-added.ensures in
    let first : c.from.result ≡ (if form.differences then 1 else 0) = c.from.ensures ∙ form_number form.differences in
    let long : length bytes ≡ end - a.place = search rules in
    let inside : end ≤ length mid = search rules in
    let written = has_block t g.E.MachineWord.LANES a.page.now mid bytes a.number a.place end form.differences form.width (number form.reference) (map number a.block.now)
    (ap (λ (n : ℕ). a.place + 128 * (n + form.width)) first) inside long c.requires.place.heads c.requires.place.at head.form head.width (head.reference ∙ reference.value) head.before
    head.behind (search rules) c.requires.fits.most head.spare head.place (subst (λ (n : ℕ). n < 2 ^ t) reference.value reference.below) c.requires.fits.no_reference
    c.write_form.ensures.frame c.write_form.ensures.sums
    in
    record { put = written.put; form = written.form; width = written.width; reference = written.own_reference; bases = λ are. rw written.own_bytes (c.write_form.ensures.bases are); holds = written.holds }

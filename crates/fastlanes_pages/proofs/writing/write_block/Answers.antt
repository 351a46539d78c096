use Rattle.std.proofs.Common.{refl}
use Rattle.fastlanes_pages.proofs.ShortestForm.{only_frame, shortest_frame, shortest_sums}
use Rattle.fastlanes_pages.proofs.writing.write_block.Goals as goal

pub returns-then-frames_only-clause-shortest : goal.returns-then-frames_only-clause-shortest
returns-then-frames_only-clause-shortest g c =
    let written = c.write_block_as.ensures in
    let least = c.least_frame-frame_width.ensures in
    rw c.if-frames_only.true
    (only_frame _ _ _ _ _ _ _ least.narrowest g.met.E.MachineWord.bits_law g.met.E.MachineWord.lanes_law least.minimum written.form written.width written.reference written.holds)

pub returns-then-width-frame_width-clause-shortest : goal.returns-then-width-frame_width-clause-shortest
returns-then-width-frame_width-clause-shortest g c =
    let written = c.write_block_as-then-width-frame_width.ensures in
    rw c.if-frames_only.false
    (shortest_sums _ _ _ _ _ _ _ c.least_frame-frame_width.ensures.narrowest g.met.E.MachineWord.bits_law g.met.E.MachineWord.lanes_law _ c.sums_width-width.ensures.neighbours
    c.if-width-frame_width.true written.form written.width (written.bases refl))

pub returns-else-width-frame_width-clause-shortest : goal.returns-else-width-frame_width-clause-shortest
returns-else-width-frame_width-clause-shortest g c =
    let written = c.write_block_as-else-width-frame_width.ensures in
    let least = c.least_frame-frame_width.ensures in
    rw c.if-frames_only.false
    (shortest_frame _ _ _ _ _ _ _ least.narrowest g.met.E.MachineWord.bits_law g.met.E.MachineWord.lanes_law least.minimum written.form written.width written.reference written.holds _
    c.sums_width-width.ensures.neighbours c.if-width-frame_width.false)

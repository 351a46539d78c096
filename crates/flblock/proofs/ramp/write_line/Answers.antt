use Rattle.std.proofs.Common.{length, ap}
use Rattle.flblock.proofs.Hexadecimal.{length-digits, line_of-bytes}
use Rattle.flblock.proofs.ramp.write_line.Goals as goal

pub unwrap-requires : goal.unwrap-requires
unwrap-requires c =
    c.encode_to_slice.ensures.fits.1
    (length-digits c.args.bits c.args.line.now c.to_be_bytes-bytes.result c.requires.size c.requires.line (ap length c.to_be_bytes-bytes.ensures))

pub returns : goal.returns
returns c =
    let digits = rw (c.unwrap.ensures, c.to_be_bytes-bytes.ensures) at c.encode_to_slice.ensures.written in
    line_of-bytes c.args.bits c.args.number c.args.line.now c.encode_to_slice.new.output c.requires.size c.requires.line digits

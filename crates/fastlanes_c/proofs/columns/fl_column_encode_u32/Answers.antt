use Rattle.std.proofs.Common.{take}
use Rattle.fastlanes_format.specs.Format.{page_bytes}
use Rattle.fastlanes_c.proofs.Numbers.{shortest}
use Rattle.fastlanes_c.specs.Flags.{is_for_only}
use Rattle.fastlanes_c.proofs.columns.fl_column_encode_u32.Goals as goal

pub returns-clause-shortest : goal.returns-clause-shortest
returns-clause-shortest c some page there =
    shortest 32 (is_for_only c.args.flags) (page_bytes (take c.encode_within.result c.encode_within.new.bytes) page) c.args.values.now page
    (c.encode_within.ensures.shortest some page there)

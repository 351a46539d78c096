use Rattle.std.proofs.Common.{◌≢◌, Err, refl, rules}
use Rattle.std.proofs.lemmas.Result.{on_ok_weaker}
use Rattle.flblock.specs.declared.error.BlockError.TheVariants.{WriteFailed}
use Rattle.flblock.proofs.Runs.{block_read, no_failed_write}
use Rattle.flblock.proofs.run.run_block.Goals as goal

pub returns-in_err-read_block-clause-failed_writes : goal.returns-in_err-read_block-clause-failed_writes
returns-in_err-read_block-clause-failed_writes g c =
    let other : c.from_residual.result ≢ Err WriteFailed = search rules in
    no_failed_write c.from_residual.result (g.O.ByteOut.failures c.args.output.now) other

pub returns-in_err-read_block-clause-short_input : goal.returns-in_err-read_block-clause-short_input
returns-in_err-read_block-clause-short_input g c = λ i o e. (search rules, refl)

pub returns-in_err-read_block-clause-read_failed : goal.returns-in_err-read_block-clause-read_failed
returns-in_err-read_block-clause-read_failed g c = λ i o e. (search rules, refl)

pub deliver-requires : goal.deliver-requires
deliver-requires g c = c.requires.output

pub returns-clause-failed_writes : goal.returns-clause-failed_writes
returns-clause-failed_writes g c = c.deliver.ensures.failed_writes

pub returns-clause-whole : goal.returns-clause-whole
returns-clause-whole g c = λ i o. on_ok_weaker c.deliver.result (λ delivered. record {
  output = _;
  reads = block_read _ _ _ _ _ (c.in_ok-read_block.ensures.whole i) (search rules) c.write_output-len.ensures.output;
  delivers = delivered;
}) (c.deliver.ensures.whole o)

pub returns-clause-write_failed : goal.returns-clause-write_failed
returns-clause-write_failed g c = λ i o e. record {
  output = _;
  reads = block_read _ _ _ _ _ (c.in_ok-read_block.ensures.whole i) (search rules) c.write_output-len.ensures.output;
  takes = rw e at (c.deliver.ensures.part o);
}

use Rattle.std.proofs.Common.{ap, sym, ◌∙◌, rules}
use Rattle.std.proofs.lemmas.List.{take-append-drop}
use Rattle.std.proofs.lemmas.Result.{on_ok_weaker}
use Rattle.fastlanes_streams.specs.Stream.{Source, Sink}
use Rattle.flblock.proofs.Runs.{run_into}
use Rattle.suite_of_callers.proofs.tests.with_memory.commands.run.run_in_memory.Goals as goal

pub returns : goal.returns
returns c =
    let source = c.new-input.ensures in
    let sink = c.new-output.ensures.sink in
    on_ok_weaker c.run_block.result (λ done.
    let target = sym (done.delivers.target ∙ ap (λ (s : Sink). s.target) sink) in
    run_into _ _ _ _ _ _ _ _ done (ap (λ (s : Source). s.left) source) c.requires (ap (λ (s : Sink). s.taken) sink) (ap (λ (s : Sink). s.left) sink)
    (take-append-drop c.run_block.new.output.used c.run_block.new.output.bytes.now ∙ search rules))
    (c.run_block.ensures.whole tt tt)

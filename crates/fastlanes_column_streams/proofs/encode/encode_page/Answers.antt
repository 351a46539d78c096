use Rattle.std.proofs.lemmas.Result.{on_ok_weaker}
use Rattle.fastlanes_column_streams.proofs.encode.encode_page.Goals as goal

pub returns-clause-page : goal.returns-clause-page
returns-clause-page g c = λ tells. on_ok_weaker c.deliver.result (λ takes. record {
  values = _;
  page = _;
  same = c.read_words.ensures.words.same;
  many = c.read_words.ensures.words.whole;
  holds = c.write_page-len.ensures.page;
  shortest = c.write_page-len.ensures.shortest;
  takes = takes;
}) (c.deliver.ensures.takes tells)

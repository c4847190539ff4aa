-- `benchkey::make_bench_key` returns the rows of what the switching key maker left in a buffer of zeros. Assumes nothing.
use Rattle.std.proofs.Common.{ap, ◌∙◌, rules}
use Rattle.whole.specs.Lists.{cut}
use Rattle.scheme.specs.Calls.{bench_key}
use Rattle.benchkey.proofs.Made.{bench_made, four_rows}
use Rattle.benchkey.proofs.make_bench_key.Goals as goal

pub returns : goal.returns
unfolding bench_key
returns c =
    record {
      answer = four_rows c.make_switching_key.new.out c.as_chunks.ensures.front (search rules)
          ∙ ap (cut 16 4) (bench_made c.bench_sheet.ensures c.make_switching_key.ensures).result_left;
    }

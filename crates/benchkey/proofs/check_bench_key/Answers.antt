-- `benchkey::check_bench_key` answers what the switching key maker answers. Assumes nothing.
use Rattle.scheme.specs.Calls.{bench_check_answer}
use Rattle.benchkey.proofs.Made.{bench_made}
use Rattle.benchkey.proofs.check_bench_key.Goals as goal

pub returns : goal.returns
unfolding bench_check_answer
returns c = record { answer = (bench_made c.bench_sheet.ensures c.make_switching_key.ensures).answer }

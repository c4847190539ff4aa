-- The numbers of the calls in docs/REPLAY.md. Assumes nothing.
use Rattle.std.specs.Prelude.{ℕ}
use Rattle.calls.specs.declared.kind.Kind.{Kind}
use Rattle.calls.specs.declared.kind.Kind.TheVariants.{Make, Sheet, CheckKey, MakeSwitchingKey, CheckBenchKey, MakeBenchKey, Encrypt, Decrypt, Xor, Not, And, Plan, Evaluate, CheckFile, PlanFile, PrintFile, PlanGates, EvaluateGates}

abbrev pub number_of : Kind → ℕ
number_of Make = 1
number_of Sheet = 2
number_of CheckKey = 3
number_of MakeSwitchingKey = 4
number_of CheckBenchKey = 5
number_of MakeBenchKey = 6
number_of Encrypt = 7
number_of Decrypt = 8
number_of Xor = 9
number_of Not = 10
number_of And = 11
number_of Plan = 12
number_of Evaluate = 13
number_of CheckFile = 14
number_of PlanFile = 15
number_of PrintFile = 16
number_of PlanGates = 17
number_of EvaluateGates = 18

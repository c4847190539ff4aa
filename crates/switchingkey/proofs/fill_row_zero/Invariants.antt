-- `switchingkey::fill_row_zero` fills the buffer with row 0 of a switching key: the entries passed are those of row 0, the rest as found.
use Rattle.std.proofs.Common.{◌*◌, length}
use Rattle.whole.specs.Lists.{tabulate, Filled}
use Rattle.scheme.specs.Arithmetic.{row_zero_entry}
use Rattle.switchingkey.proofs.fill_row_zero.Given as goal

abbrev pub invariant-loop-j : goal.invariant-loop-j
invariant-loop-j l = Filled (tabulate (length l.s * length l.s) (row_zero_entry (length l.s) l.q l.s l.masks l.errors)) l.initial.out l.out l.j

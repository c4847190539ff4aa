-- Three lists of one length are as many gates as they have kinds.
use Rattle.std.specs.Prelude.{◌≡◌, false, List, ℕ, length}
use Rattle.circuit.specs.Circuits.{records, uneven_lists}
use Rattle.circuit.specs.Records.{length_records, even_lengths}

pub lists_sized : (kinds lefts rights : List ℕ) → uneven_lists kinds lefts rights ≡ false → length (records kinds lefts rights) ≡ length kinds
lists_sized kinds lefts rights e = let (lefts_long, rights_long) = even_lengths kinds lefts rights e in length_records kinds lefts rights lefts_long rights_long

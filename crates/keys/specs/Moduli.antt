-- The modulus of parameters in range is one that the arithmetic works with.
use Rattle.std.proofs.Common.{arith}
use Rattle.refusal.specs.declared.Params.{Params}
use Rattle.refusal.specs.Parameters.{InRange}
use Rattle.scheme.specs.Loans.{Modulus}

pub params_modulus : {p : Params} → InRange p → Modulus p.q
params_modulus r = record { positive = omega (arith, r.q_low); high = r.q_high; even = r.q_even }

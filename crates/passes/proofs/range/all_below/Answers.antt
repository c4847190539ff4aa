-- `range::all_below` tells whether every entry is a residue of 2·h. Leans on what `cast_unsigned` ensures, and on `Tops` for one entry.
use Rattle.std.proofs.Common.{◌≡◌, ℕ, ◌+◌, ◌-◌, ◌*◌, ◌%◌, ◌<◌, ◌≤◌, ap, ◌∙◌, arith, rules, get_or, pos, to_z-of_z, of_z, SFits, w64}
use Rattle.passes.proofs.Tops.{parted_start, parted_step, tops}
use Rattle.passes.proofs.range.all_below.Goals as goal

-- what the wrapping difference took off, put back
put_back : (h y : ℕ) → h ≤ 4611686018427387904 → y < 18446744073709551616
    → ((y + (18446744073709551616 - 2 * h)) % 18446744073709551616 + 2 * h) % 18446744073709551616 ≡ y
put_back h y high fits = omega arith

pub loop-x-init : goal.loop-x-init
loop-x-init c = parted_start _ _

pub loop-x-preserved : goal.loop-x-preserved
loop-x-preserved c =
    let fits : SFits w64 (get_or c.args.xs.now c.loop-x.x-index (pos 0)) = search rules in
    let bits_is : c.cast_unsigned.result ≡ of_z w64 (get_or c.args.xs.now c.loop-x.x-index (pos 0)) = c.cast_unsigned.ensures ∙ ap (of_z w64) (to_z-of_z fits) in
    parted_step c.loop-x.invariant _ _ (omega arith) c.loop-x-test.true
    (tops _ _ _ _ (omega arith) (omega arith) fits.sfits (omega arith) (ap (λ (b : ℕ). (b + c.args.h) % 18446744073709551616) bits_is) (put_back c.args.h _ (omega arith) (omega arith)))

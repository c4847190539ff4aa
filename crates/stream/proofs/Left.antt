-- What is left of a block, a byte further. Assumes nothing.
use Rattle.std.proofs.Common.{◌≡◌, ℕ, ◌+◌, ◌-◌, ◌<◌, List, length, drop, slice_range, arith, drop-drop, length-take}
use Rattle.std.proofs.lemmas.List.{drop-take}

pub left_further : (block : List ℕ) (at end : ℕ) → 0 < length (slice_range block at end) → slice_range block (at + 1) end ≡ drop 1 (slice_range block at end)
left_further block at end some =
    let e : end - at ≡ 1 + (end - (at + 1)) = omega (arith, length-take (end - at) (drop at block)) in
    rw (e, drop-take, drop-drop)

-- `row_sum` returns the inner product of two slices as hi·2^20 + lo. A chunk of 16 products is at most 2^62, so that each of the 2^16 chunks, and the rest, may be
-- added and keeps the bounds (`chunk_more` of Chunks). Assumes nothing.
use Rattle.std.proofs.Common.{◌≡◌, ◌+◌, ◌*◌, ◌/◌, ℕ, length, length-take, length-drop, refl, ap₂, ◌∙◌, arith, rules, w64, SFits, to_z-of_z}
use Rattle.std.proofs.lemmas.Int.{ints}
use Rattle.whole.specs.Inner.{inner, inner_every}
use Rattle.whole.specs.Lists.{each_part, each_drop}
use Rattle.switch.proofs.Chunks.{Held, held_same, chunk_more, chunk_at, rest_at}
use Rattle.switch.proofs.row_sum.Goals as goal

pub loop-k-init : goal.loop-k-init
unfolding inner
loop-k-init c = record { exact = refl; high = omega arith; low = omega arith }

pub inner-requires : goal.inner-requires
inner-requires c =
    let j : ℕ = c.loop-k.k * 16 in
    let left = chunk_at c.args.t.now c.loop-k.k c.as_chunks.ensures.front (omega (arith, c.as_chunks.ensures.front_len)) in
    let right = chunk_at c.args.row.now c.loop-k.k c.as_chunks-2.ensures.front (omega (arith, c.as_chunks.ensures.front_len)) in
    rw (left, right)
    (simp (length-take, length-drop) (omega arith), simp (length-take, length-drop) (omega arith), each_part j (j + 16) c.requires.2, each_part j (j + 16) c.requires.3)

-- a chunk of 16 products
pub loop-k-preserved : goal.loop-k-preserved
loop-k-preserved c =
    let left = chunk_at c.args.t.now c.loop-k.k c.as_chunks.ensures.front (omega (arith, c.as_chunks.ensures.front_len)) in
    let right = chunk_at c.args.row.now c.loop-k.k c.as_chunks-2.ensures.front (omega (arith, c.as_chunks.ensures.front_len)) in
    let read : SFits w64 c.inner.result = search rules in
    let next : (c.loop-k.k + 1) * 16 ≡ c.loop-k.k * 16 + 16 = omega arith in
    let p = c.plus-sum.ensures in
    let added : Held c.args.t.now c.args.row.now (c.loop-k.k * 16 + 16) (c.loop-k.k * 16 + 16) c.plus-sum.result.hi c.plus-sum.result.lo =
    chunk_more (c.loop-k.k * 16) (c.loop-k.k * 16 + 16) (omega arith) (omega arith) c.loop-k.invariant
    (to_z-of_z read ∙ c.inner.ensures.value ∙ ap₂ inner left right)
    p.sum p.high p.low in
    rw next (held_same added (omega (arith, ints)) (omega (arith, ints)))

pub inner-requires-2 : goal.inner-requires-2
inner-requires-2 c =
    let left = c.as_chunks.ensures in
    let right = c.as_chunks-2.ensures in
    (omega (arith, left.back_len), omega (arith, left.back_len, right.back_len, c.requires.1), rw left.back (each_drop _ c.requires.2), rw right.back (each_drop _ c.requires.3))

-- the products that are left
pub returns : goal.returns
returns c =
    let t = c.args.t.now in
    let row = c.args.row.now in
    let all : c.loop-k.k ≡ length t / 16 = omega (arith, c.as_chunks.ensures.front_len) in
    let left = rest_at t c.loop-k.k c.as_chunks.ensures.back all in
    let right = rest_at row c.loop-k.k c.as_chunks-2.ensures.back (rw c.requires.1 all) in
    let read : SFits w64 c.inner-2.result = search rules in
    let p = c.plus.ensures in
    let whole : Held t row (length t) (c.loop-k.k * 16 + 16) c.plus.result.hi c.plus.result.lo =
    chunk_more (c.loop-k.k * 16) (length t) (omega arith) (omega arith) c.loop-k.invariant
    (to_z-of_z read ∙ c.inner-2.ensures.value ∙ ap₂ inner left (rw c.requires.1 at right))
    p.sum p.high p.low in
    (whole.exact ∙ inner_every t row (length t) (omega arith) (omega arith), omega (arith, whole.low))

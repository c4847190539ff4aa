-- A row of the tensor as a line: for a fixed x, 2·x·y/q rounded is (slope·y + 2^41 + q)/2^42 rounded down (`line_rounds`), where the slope is
-- x·2^42 over q/2, at most 2 off: so it comes from 2^62 divided by q/2 (`shifted_slope`). That it is at most q/2 in size follows from the
-- sizes alone (`whole_small`). Assumes nothing.
use Rattle.std.proofs.Common.{◌≡◌, sym, ap, ◌∙◌, true, [], ◌∷◌, ℕ, ◌+◌, ◌*◌, ◌/◌, ◌%◌, ◌≤◌, ◌<◌, arith, mul-le-mul, mul-le-mul_right, lt_of_mul-lt-mul_right, mul_comm, div-add-mod', mod-lt, ℤ, pos, negsuc, ◌+ℤ◌, ◌-ℤ◌, ◌*ℤ◌, nat_abs, ◌≤ℤ◌, ◌<ℤ◌}
use Rattle.whole.specs.Ring.{by_ring, from_eq, quote}
use Rattle.whole.specs.Split.{zarith, add_is, sub_is, mul_is, size_is, apart}
use Rattle.whole.specs.Size.{size_mul}
use Rattle.whole.specs.Floor.{Floor, times_lt, times_le, next_multiple}
use Rattle.whole.specs.Round.{round, round_even}
use Rattle.scheme.specs.Arithmetic.{is_residue}
use Rattle.scheme.specs.Wording.{residue_size}
use Rattle.scheme.specs.Loans.{Modulus}
use Rattle.tensor.specs.Lines.{reciprocal_of}

-- what the slope, times q/2, is off from x·2^42
abbrev pub gap : ℕ → ℤ → ℤ → ℤ
gap q x slope = slope *ℤ pos (q / 2) -ℤ x *ℤ pos 4398046511104

-- z/K rounded down is a/q rounded down, where q·z is K·a and less than K more
floor_scaled : (q K : ℕ) (e a z k : ℤ) → 0 < q → pos 0 ≤ℤ e → e <ℤ pos K → z *ℤ pos q ≡ a *ℤ pos K +ℤ e → Floor z K k → Floor a q k
floor_scaled q K e a z k p l h w f =
    let j : ℤ = k +ℤ pos 1 in
    let low : (k *ℤ pos q) <ℤ (a +ℤ pos 1) =
    times_lt K (k *ℤ pos q) (a +ℤ pos 1)
    (omega (
      zarith,
      times_le q (k *ℤ pos K) z f.low,
      exchange k (pos K) (pos q),
      next_multiple K a,
      add_is (a *ℤ pos K) e,
      add_is (a *ℤ pos K) (pos K),
    )) in
    let high : a <ℤ (j *ℤ pos q) =
    times_lt K a (j *ℤ pos q)
    (omega (
      zarith,
      times_le q (z +ℤ pos 1) (j *ℤ pos K) (omega (zarith, f.high, next_multiple K k, add_is z (pos 1), add_is (k *ℤ pos K) (pos K))),
      next_multiple q z,
      exchange j (pos K) (pos q),
      add_is (z *ℤ pos q) (pos q),
      add_is (a *ℤ pos K) e,
    )) in
    record {
      low = omega (zarith, low, add_is a (pos 1));
      high = omega (zarith, high, next_multiple q k);
    }
  where
    exchange : (x y z : ℤ) → (x *ℤ y) *ℤ z ≡ (x *ℤ z) *ℤ y
    exchange x y z = by_ring (x ∷ y ∷ z ∷ []) (search quote depth 100 fits 100000) tt

-- q times a point of the line is 2^42·(2·x·y + q/2) and a part that is small where the gap is
line_point : (h x y slope : ℤ) → (slope *ℤ y +ℤ (pos 2199023255552 +ℤ pos 2 *ℤ h)) *ℤ (pos 2 *ℤ h) ≡ (pos 2 *ℤ x *ℤ y +ℤ h) *ℤ pos 4398046511104 +ℤ (pos 2 *ℤ (slope *ℤ h -ℤ x *ℤ pos 4398046511104) *ℤ y +ℤ pos 4 *ℤ h *ℤ h)
line_point h x y slope = by_ring (h ∷ x ∷ y ∷ slope ∷ []) (search quote depth 100 fits 100000) tt

module _ (q : ℕ) (x slope : ℤ) (m : Modulus q) (rx : is_residue q x ≡ true) (s : nat_abs (gap q x slope) ≤ q) where
  abbrev h : ℕ
  h = q / 2

  module _ (y : ℤ) (ry : is_residue q y ≡ true) where
    abbrev point : ℤ
    point = slope *ℤ y +ℤ (pos 2199023255552 +ℤ pos q)

    -- what a point has too much
    abbrev excess : ℤ
    excess = pos 2 *ℤ gap q x slope *ℤ y +ℤ pos 4 *ℤ pos h *ℤ pos h

    excess_between : (pos 0 ≤ℤ excess) × (excess <ℤ pos 4398046511104)
    excess_between =
        let g : nat_abs (pos 2 *ℤ gap q x slope *ℤ y) ≤ 4 * h * h = rw size_mul (mul-le-mul {n₂ = 4 * h} (omega (arith, s, m.even, size_mul (pos 2) (gap q x slope))) (residue_size q y ry)) in
        let high : 4 * h * h ≤ 2097152 * 524288 = mul-le-mul {n₂ = 2097152} {m₂ = 524288} (omega (arith, m.high)) (omega (arith, m.high)) in
        between (4 * h * h) (pos 2 *ℤ gap q x slope *ℤ y) g high
      where
        between : (n : ℕ) (r : ℤ) → nat_abs r ≤ n → n ≤ 2097152 * 524288 → (pos 0 ≤ℤ (r +ℤ pos n)) × ((r +ℤ pos n) <ℤ pos 4398046511104)
        between n r small high = (omega (zarith, size_is r, add_is r (pos n)), omega (zarith, size_is r, add_is r (pos n)))

    -- the point's whole part is the rounded quotient
    pub line_rounds : (k : ℤ) → Floor point 4398046511104 k → round (pos 2 *ℤ x *ℤ y) q ≡ k
    line_rounds k f =
        let times : point *ℤ pos q ≡ (pos 2 *ℤ x *ℤ y +ℤ pos h) *ℤ pos 4398046511104 +ℤ excess = ap (λ (n : ℕ). (slope *ℤ y +ℤ (pos 2199023255552 +ℤ pos n)) *ℤ pos n) m.even ∙ line_point (pos h) x y slope in
        round_even (pos 2 *ℤ x *ℤ y) q h k m.positive m.even
        (floor_scaled q 4398046511104 excess (pos 2 *ℤ x *ℤ y +ℤ pos h) point k m.positive excess_between.0 excess_between.1 times f)

-- where z is at most 2^42·h in size and b below 2^42, the whole part of z + b after 42 binary places or more is at most h in size
pub whole_small : (h b K : ℕ) (z k : ℤ) → nat_abs z ≤ 4398046511104 * h → b < 4398046511104 → 4398046511104 ≤ K → Floor (z +ℤ pos b) K k → nat_abs k ≤ h
whole_small h b K z (pos a) s l g f =
    let wide : 4398046511104 * h ≤ K * h = mul-le-mul_right h g in
    let t : a * K < (h + 1) * K = omega (zarith, f.low, add_is z (pos b), size_is z) in
    omega (arith, lt_of_mul-lt-mul_right K t)
whole_small h b K z (negsuc a) s l g f =
    let wide : 4398046511104 * h ≤ K * h = mul-le-mul_right h g in
    let t : a * K < h * K = omega (zarith, f.high, add_is z (pos b), size_is z, mul_is (negsuc a) (pos K), add_is (negsuc a *ℤ pos K) (pos K)) in
    omega (arith, lt_of_mul-lt-mul_right K t)

-- ---- the slope

module _ (q : ℕ) (x : ℤ) (m : Modulus q) (rx : is_residue q x ≡ true) where
  abbrev rest : ℕ
  rest = 4611686018427387904 % (q / 2)

  half_pos : 0 < q / 2
  half_pos = omega (arith, m.positive, m.even)

  -- x·2^62 is (x·reciprocal)·(q/2), and less than (q/2)² beside it
  whole : x *ℤ pos 4611686018427387904 ≡ x *ℤ pos (reciprocal_of q) *ℤ pos (q / 2) +ℤ x *ℤ pos rest
  whole = ap (λ (n : ℕ). x *ℤ pos n) (sym (div-add-mod' 4611686018427387904 (q / 2))) ∙ spread x (pos (reciprocal_of q)) (pos (q / 2)) (pos rest)
    where
      spread : (x r h o : ℤ) → x *ℤ (r *ℤ h +ℤ o) ≡ x *ℤ r *ℤ h +ℤ x *ℤ o
      spread x r h o = by_ring (x ∷ r ∷ h ∷ o ∷ []) (search quote depth 100 fits 100000) tt

  beside : nat_abs (x *ℤ pos rest) ≤ 524288 * (q / 2)
  beside = rw size_mul (mul-le-mul {n₂ = 524288} (omega (arith, residue_size q x rx, m.high)) (omega (arith, mod-lt 4611686018427387904 half_pos)))

  -- x·reciprocal is at most 2^62 in size
  pub scaled_size : nat_abs (x *ℤ pos (reciprocal_of q)) ≤ 4611686018427387904
  scaled_size =
      let h : nat_abs x * reciprocal_of q ≤ q / 2 * reciprocal_of q = mul-le-mul (residue_size q x rx) (omega arith) in
      omega (arith, size_mul x (pos (reciprocal_of q)), mul_comm (q / 2) (reciprocal_of q), div-add-mod' 4611686018427387904 (q / 2))

  module _ (p : ℤ) (f : Floor (x *ℤ pos (reciprocal_of q)) 1048576 p) where
    -- the shifted product is at most 2^42 in size
    pub shifted_size : nat_abs p ≤ 4398046511104
    shifted_size =
        let w : ℤ = x *ℤ pos (reciprocal_of q) in
        omega (zarith, f.low, f.high, scaled_size, size_is w, mul_is p (pos 1048576), add_is (p *ℤ pos 1048576) (pos 1048576), size_is p, apart p)

    -- what the shift took off: 0 to 2^20
    abbrev off : ℤ
    off = x *ℤ pos (reciprocal_of q) -ℤ p *ℤ pos 1048576

    off_low : pos 0 ≤ℤ (off *ℤ pos (q / 2))
    off_low = omega (zarith, times_le (q / 2) (pos 0) off (omega (zarith, f.low, sub_is (x *ℤ pos (reciprocal_of q)) (p *ℤ pos 1048576))))

    off_high : (off *ℤ pos (q / 2)) ≤ℤ (pos 1048576 *ℤ pos (q / 2))
    off_high =
        times_le (q / 2) off (pos 1048576) (omega (zarith, f.high, sub_is (x *ℤ pos (reciprocal_of q)) (p *ℤ pos 1048576), add_is (p *ℤ pos 1048576) (pos 1048576)))

    -- 2^20 times the gap: what the shift took off, and what the division left
    gap_is : gap q x p *ℤ pos 1048576 ≡ pos 0 -ℤ (off *ℤ pos (q / 2) +ℤ x *ℤ pos rest)
    gap_is = from_eq (pos 0 -ℤ pos 1) whole (by_ring (p ∷ pos (q / 2) ∷ x ∷ pos (reciprocal_of q) ∷ pos rest ∷ []) (search quote depth 100 fits 100000) tt)

    -- the shifted product is a slope of the line of x
    pub shifted_slope : nat_abs (gap q x p) ≤ q
    shifted_slope =
        let o : ℤ = off *ℤ pos (q / 2) in
        let r : ℤ = x *ℤ pos rest in
        omega (
          zarith,
          m.even,
          gap_is,
          off_low,
          off_high,
          beside,
          size_is r,
          add_is o r,
          sub_is (pos 0) (o +ℤ r),
          mul_is (gap q x p) (pos 1048576),
          size_is (gap q x p),
          apart (gap q x p),
        )

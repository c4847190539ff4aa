-- `switchingkey::make_switching_key` refuses where its check does, with the buffer as found, and otherwise leaves the switching key: row 0, which
-- `fill_row_zero` writes to the first n² entries, and then the masks, which `copy_from_slice` writes to the others (`two_parts`). What the two ask
-- holds where no row applies (`make_key_ready`). Assumes nothing.
use Rattle.std.proofs.Common.{◌≡◌, sym, ap, ◌∙◌, ◌-◌, arith, length, drop, length-drop, length-take}
use Rattle.whole.specs.Lists.{length_tabulate}
use Rattle.refusal.proofs.Given.{passed_up, done_by}
use Rattle.scheme.specs.Arithmetic.{switching_key}
use Rattle.scheme.specs.Calls.{make_key_loans, make_key_rows}
use Rattle.switchingkey.proofs.Ready.{make_key_ready, fill_ready, second_part, two_parts}
use Rattle.switchingkey.proofs.Ends.{make_key_refused, make_key_done}
use Rattle.switchingkey.proofs.make_switching_key.Goals as goal

pub returns-in_err-check_make_key : goal.returns-in_err-check_make_key
returns-in_err-check_make_key c =
    make_key_refused (make_key_loans c.args.p c.args.s.now c.args.masks.now c.args.errors.now c.args.out.now)
    c.check_make_key.ensures c.in_err-check_make_key.was (passed_up _ c.from_residual.ensures.1)

pub slice_bounds-fill_row_zero-end : goal.slice_bounds-fill_row_zero-end
slice_bounds-fill_row_zero-end c =
    let a = make_key_loans c.args.p c.args.s.now c.args.masks.now c.args.errors.now c.args.out.now in
    let r = make_key_ready a (done_by (make_key_rows a) c.check_make_key.ensures c.in_ok-check_make_key.was) in
    omega (arith, r.room)

pub of-requires : goal.of-requires
of-requires c =
    let a = make_key_loans c.args.p c.args.s.now c.args.masks.now c.args.errors.now c.args.out.now in
    (make_key_ready a (done_by (make_key_rows a) c.check_make_key.ensures c.in_ok-check_make_key.was)).modulus

pub fill_row_zero-requires : goal.fill_row_zero-requires
fill_row_zero-requires c =
    let a = make_key_loans c.args.p c.args.s.now c.args.masks.now c.args.errors.now c.args.out.now in
    let r = make_key_ready a (done_by (make_key_rows a) c.check_make_key.ensures c.in_ok-check_make_key.was) in
    rw c.of.ensures (fill_ready r _ (simp length-take (omega (arith, r.room))))

-- row 0 is written, and what lies after it is as long as the masks
pub copy_from_slice-requires : goal.copy_from_slice-requires
copy_from_slice-requires c =
    let a = make_key_loans c.args.p c.args.s.now c.args.masks.now c.args.errors.now c.args.out.now in
    let r = make_key_ready a (done_by (make_key_rows a) c.check_make_key.ensures c.in_ok-check_make_key.was) in
    let k = length a.errors in
    let row_long : length c.fill_row_zero.new.out ≡ k = ap length c.fill_row_zero.ensures ∙ length_tabulate _ _ ∙ sym r.errors_long in
    let rest = drop (k - 0) a.result in
    second_part c.fill_row_zero.new.out rest k row_long ∙ omega (arith, length-drop (k - 0) a.result, r.room)

-- with the masks after row 0 it is the key
pub returns : goal.returns
unfolding switching_key
returns c =
    let a = make_key_loans c.args.p c.args.s.now c.args.masks.now c.args.errors.now c.args.out.now in
    let r = make_key_ready a (done_by (make_key_rows a) c.check_make_key.ensures c.in_ok-check_make_key.was) in
    let k = length a.errors in
    let row_long : length c.fill_row_zero.new.out ≡ k = ap length c.fill_row_zero.ensures ∙ length_tabulate _ _ ∙ sym r.errors_long in
    let rest = drop (k - 0) a.result in
    make_key_done a c.check_make_key.ensures c.in_ok-check_make_key.was
    (rw c.copy_from_slice.ensures.after (two_parts c.fill_row_zero.new.out a.masks rest k row_long ∙ rw (c.fill_row_zero.ensures, c.of.ensures, r.count)))

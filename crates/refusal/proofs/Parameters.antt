-- Laws about what `specs/Parameters` defines that rest on a definition which a must-fail edit turns.
use Rattle.std.specs.Prelude.{◌≡◌, refl, Bool, true, not, cond, [], ◌∷◌, ℕ, ltb, ◌<◌, length}
use Rattle.whole.specs.Lists.{every_get_or}
use Rattle.std.proofs.Common.{◌∙◌}
use Rattle.refusal.specs.declared.Params.{Params}
use Rattle.refusal.specs.First.{row, first_last}
use Rattle.refusal.specs.Order.{position_in, order, position, in_order, Foremost}
use Rattle.refusal.proofs.Order.{first_foremost}
use Rattle.refusal.specs.Parameters.{no_params, in_range, sheets, sheet, sheets_in_range, make_rows, sheet_rows, made_number, made, made_sheet, row_number, sheet_number, sheet_table}

pub sheet_in_range : (k : ℕ) → k < length sheets → in_range (sheet k) ≡ true
unfolding sheet
sheet_in_range k h = every_get_or in_range sheets k no_params sheets_in_range h

-- ---- the maker, and the sheet of a number

-- the number is the first of the order that applies, and 0 exactly when none does
pub make_foremost : (p : Params) → Foremost (make_rows p) (made_number (made p))
unfolding made make_rows position_in order position in_order
make_foremost p = rw row_number (first_foremost 0 (row 1 (not (in_range p)) ∷ []) refl)

pub sheet_foremost : (k : ℕ) → Foremost (sheet_rows k) (made_number (made_sheet k))
unfolding made_sheet sheet_rows position_in order position in_order
sheet_foremost k = rw row_number (first_foremost 0 (row 1 (not (ltb k (length sheets))) ∷ []) refl)

-- the number of a sheet, by one test
pub sheet_number_lem : (k : ℕ) {t : Bool} → ltb k 6 ≡ t → sheet_number k ≡ cond (not t) 1 0
unfolding sheet_rows sheets sheet_table
sheet_number_lem k e = first_last 1 (not (ltb k 6)) ∙ rw e

-- The proof of the theorem from key to letter (the file Letter): the maker builds the switching key, each fresh encryption is quiet within the bound that it states, and
-- so the premises of demand 3 hold.
use Rattle.std.specs.Prelude.{refl, List, ℕ, ℤ}
use Rattle.std.proofs.Common.{sym, subst, ◌∙◌}
use Rattle.whole.specs.Lists.{get_or_each}
use Rattle.refusal.specs.declared.Params.{Params}
use Rattle.scheme.specs.Calls.{encrypt_loans}
use Rattle.noise.specs.Sound.{Sound}
use Rattle.noise.specs.Fresh.{Fresh}
use Rattle.noise.proofs.Fresh.{fresh}
use Rattle.noise.specs.Built.{maker_key}
use Rattle.noise.proofs.Built.{maker_builds}
use Rattle.vouched.specs.Letter.{InputEncrypted, KeyToLetter}
use Rattle.vouched.proofs.Held.{demand_3}

-- an input's ciphertext is sound, with the bound that its encryption stated
input_sound : {p : Params} {s : List ℤ} {b : ℕ} {c : List ℤ} {B : ℕ} → InputEncrypted p s b c B → Sound p s b B c
input_sound {p} {s} {b} {c} {B} e =
    let f : Fresh (encrypt_loans p s b e.mask e.error e.found) e.answer c = fresh e.promise e.done in
    subst (λ (x : ℕ). Sound p s b x c) (sym f.states ∙ e.states) f.sound

pub key_to_letter : KeyToLetter
key_to_letter p s bits circuit W wires Bs out made inputs evaluated j inside d decrypted =
    (demand_3.vouches
    (record {
      key = maker_key made.promise made.done;
      built = maker_builds made.promise made.done;
      bits_long = refl;
      bits_small = get_or_each 0 (λ i h. (input_sound (inputs i h)).bit);
      quiet = λ i h. (input_sound (inputs i h)).quiet;
    })
    evaluated.promise evaluated.done j inside).decrypts decrypted

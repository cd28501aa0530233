-- Each entry of the tables is the byte that the definitions give.
use Rattle.std.proofs.Common.{◌≡◌, ℕ, ◌<◌, refl, get_or}
use Rattle.krb_aes.specs.declared.tables.TheConstants.{S_BOX, INV_S_BOX, DOUBLES, POWERS_OF_X}
use Rattle.krb_aes.specs.Field.{carryless, remainder, product, inverse, number_with}
use Rattle.krb_aes.specs.SBox.{affine, s_box, inv_s_box}
use Rattle.krb_aes.specs.KeyExpansion.{x_to_the}
use Rattle.krb_aes.proofs.ByteTests.{same_below}

pub s_box_entry : (x : ℕ) → x < 256 → get_or S_BOX x 0 ≡ s_box x
unfolding carryless remainder product inverse number_with affine s_box
s_box_entry = same_below (λ x. get_or S_BOX x 0) s_box 256 refl

pub inv_s_box_entry : (x : ℕ) → x < 256 → get_or INV_S_BOX x 0 ≡ inv_s_box x
unfolding carryless remainder product inverse number_with affine s_box inv_s_box
inv_s_box_entry = same_below (λ x. get_or INV_S_BOX x 0) inv_s_box 256 refl

pub doubles_entry : (x : ℕ) → x < 256 → get_or DOUBLES x 0 ≡ product 2 x
unfolding carryless remainder product
doubles_entry = same_below (λ x. get_or DOUBLES x 0) (product 2) 256 refl

pub powers_entry : (j : ℕ) → j < 10 → get_or POWERS_OF_X j 0 ≡ x_to_the j
unfolding carryless remainder product x_to_the
powers_entry = same_below (λ j. get_or POWERS_OF_X j 0) x_to_the 10 refl

-- The look-ups in tables of 16 bytes, as functions of one lane.
use Rattle.std.specs.Prelude.{◌≡◌, ℕ, ◌/◌, ◌^◌, ◌<◌, ◌||◌, IsTrue, nat_le, nat_lt, List, length, slice_index, bit_and, bit_xor, if◌then◌else◌}
use Rattle.std.specs.Simd.Lanes.{Each1}
use Rattle.krb_aes.specs.declared.tower.TheConstants.{INVERSES, A_OVER, TOWER_LOW, TOWER_HIGH, SUB_IO, SUB_JO, INV_FORM_LOW, INV_FORM_HIGH, INV_09_IO, INV_09_JO, INV_04_IO, INV_04_JO, INV_02_IO, INV_02_JO, INV_01_IO, INV_01_JO}

-- 16 lanes below a bound
pub record LanesBelow (bound : ℕ) (lanes : List ℕ) : Type 0 where
  pub size : length lanes ≡ 16
  pub each : Each1 (λ x. x < bound) lanes

-- 16 lanes, each a place in a table of 16 bytes, or beyond all tables
pub record ArePlaces (lanes : List ℕ) : Type 0 where
  pub size : length lanes ≡ 16
  pub each : Each1 (λ p. IsTrue (nat_le 128 p || nat_lt p 16)) lanes

-- the entry at a place, and 0 beyond
abbrev pub looked_up : List ℕ → ℕ → ℕ
looked_up table p = if nat_le 128 p then 0 else slice_index table p

-- the sum of an entry for the low half of a byte and one for its high half
abbrev pub by_nibbles : List ℕ → List ℕ → ℕ → ℕ
by_nibbles low high x = bit_xor (looked_up low (bit_and x 15)) (looked_up high (x / 2 ^ 4))

-- the two values from which the inverse of k + i * s is read
abbrev pub io_of : ℕ → ℕ → ℕ
io_of i k = bit_xor (looked_up INVERSES (bit_xor (looked_up INVERSES i) (looked_up A_OVER k))) (bit_xor i k)

abbrev pub jo_of : ℕ → ℕ → ℕ
jo_of i k = bit_xor (looked_up INVERSES (bit_xor (looked_up INVERSES (bit_xor i k)) (looked_up A_OVER k))) i

-- the same two, where one number is 16 * i + k
abbrev pub io_at : ℕ → ℕ
io_at t = io_of (t / 2 ^ 4) (bit_and t 15)

abbrev pub jo_at : ℕ → ℕ
jo_at t = jo_of (t / 2 ^ 4) (bit_and t 15)

-- the sum of what two tables have at these two
abbrev pub read_from : List ℕ → List ℕ → ℕ → ℕ
read_from io_table jo_table t = bit_xor (looked_up io_table (io_at t)) (looked_up jo_table (jo_at t))

-- the SBox value of the byte k + i * s
abbrev pub substituted_of : ℕ → ℕ
substituted_of t = bit_xor (read_from SUB_IO SUB_JO t) 0x63

-- the form in which encryption keeps the byte k + i * s: 16 * i + k
unfoldable pub tower_form : ℕ → ℕ
tower_form = by_nibbles TOWER_LOW TOWER_HIGH

-- the form in which decryption keeps a byte: 16 * i + k, where k + i * s is the byte with the affine transformation undone
unfoldable pub inv_form : ℕ → ℕ
inv_form = by_nibbles INV_FORM_LOW INV_FORM_HIGH

-- the inverse times each entry of InvMixColumns, in this form but for its constant
abbrev pub inv_by_09 : ℕ → ℕ
inv_by_09 = read_from INV_09_IO INV_09_JO

abbrev pub inv_by_0b : ℕ → ℕ
inv_by_0b t = bit_xor (inv_by_09 t) (read_from INV_02_IO INV_02_JO t)

abbrev pub inv_by_0d : ℕ → ℕ
inv_by_0d t = bit_xor (inv_by_09 t) (read_from INV_04_IO INV_04_JO t)

abbrev pub inv_by_0e : ℕ → ℕ
inv_by_0e t = bit_xor (inv_by_0d t) (bit_xor (read_from INV_02_IO INV_02_JO t) (read_from INV_01_IO INV_01_JO t))

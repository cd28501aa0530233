-- Digits that are decoded without a decision at each.
use Rattle.std.proofs.Common.{◌≡◌, ◌≢◌, inl, inr, ℕ, ◌+◌, ◌*◌, ◌%◌, ◌<◌, ◌≤◌, List, length, take, drop, slice_index, slice_set, max, Option, Some, None, Ok, sym, ap, ◌∙◌, arith, false, true, unwrap_or, length-set}
use Rattle.std.proofs.lemmas.Bool.{cases_lt}
use Rattle.std.proofs.lemmas.List.Elements.{All-get_or}
use Rattle.hex.specs.Hex.{decode_of, decode_pairs, hex_digit_value, is_hex_digit, pair_value}
use Rattle.hex.proofs.HexLemmas.{decode_of-even, decode_of-ok}
use Rattle.hex.proofs.Pairs.{decode_done, decode_step, prepend}

-- The first bytes are those of the first digits, or one of the digits is none: the greatest value says which.
pub record IsDecoded (digits bytes : List ℕ) (at greatest : ℕ) : Type 0 where
  pub long : length digits ≡ 2 * length bytes
  pub decoded : greatest < 16 → decode_pairs 0 digits ≡ prepend (take at bytes) (decode_pairs (2 * at) (drop (2 * at) digits))
  pub refused : 16 ≤ greatest → (place : ℕ) × (place < length digits) × (is_hex_digit (slice_index digits place) ≡ false)

some_of : (found : Option ℕ) (value : ℕ) → value ≡ unwrap_or found 16 → value < 16 → found ≡ Some value
some_of (Some v) value is lt = ap Some (sym is)
some_of None value is lt = absurd (omega (arith, is))

not_digit : (digit value : ℕ) → value ≡ unwrap_or (hex_digit_value digit) 16 → 16 ≤ value → is_hex_digit digit ≡ false
not_digit digit value is least = grind (arith)

pair : (high low i one other : ℕ) → one ≡ unwrap_or (hex_digit_value high) 16 → other ≡ unwrap_or (hex_digit_value low) 16 → one < 16 → other < 16
    → pair_value high low i ≡ Ok (one % 16 * 16 + other % 16)
pair high low i one other is also lt less =
    let first = some_of (hex_digit_value high) one is lt in
    let second = some_of (hex_digit_value low) other also less in
    let whole : one * 16 + other ≡ one % 16 * 16 + other % 16 = omega arith in
    rw (first, second) (ap Ok whole)

pub digits_more : (digits bytes : List ℕ) (at greatest high low greater : ℕ) → IsDecoded digits bytes at greatest → at < length bytes
    → high ≡ unwrap_or (hex_digit_value (slice_index digits (2 * at))) 16 → low ≡ unwrap_or (hex_digit_value (slice_index digits (2 * at + 1))) 16
    → greater ≡ max greatest (max high low) → IsDecoded digits (slice_set bytes at (high % 16 * 16 + low % 16)) (at + 1) greater
digits_more digits bytes at greatest high low greater d lt one other is =
    let same = length-set bytes at (high % 16 * 16 + low % 16) in
    let long = d.long in
    record {
      long = omega (arith, long, same);
      decoded = λ less.
          decode_step digits bytes at (high % 16 * 16 + low % 16) (omega (arith, long)) lt
          (pair (slice_index digits (2 * at)) (slice_index digits (2 * at + 1)) (2 * at) high low one other (omega (arith, is)) (omega (arith, is))) (d.decoded (omega (arith, is)));
      refused = λ least.
          elim (cases_lt greatest 16) [
            | inr before ↦ d.refused before
            | inl fewer ↦ elim (cases_lt high 16) [
              | inr first ↦ (2 * at, omega (arith, long), not_digit (slice_index digits (2 * at)) high one first)
              | inl second ↦ (2 * at + 1, omega (arith, long), not_digit (slice_index digits (2 * at + 1)) low other (omega (arith, is)))
            ]
          ];
    }

pub all_decoded : (digits bytes : List ℕ) (at greatest : ℕ) → IsDecoded digits bytes at greatest → length bytes ≤ at → greatest < 16 → decode_of digits ≡ Ok bytes
all_decoded digits bytes at greatest d end lt =
    let long = d.long in
    decode_of-even digits (omega (arith, long)) ∙ decode_done digits bytes at end (omega (arith, long)) (d.decoded lt)

pub none_decoded : (digits bytes : List ℕ) (at greatest : ℕ) → IsDecoded digits bytes at greatest → 16 ≤ greatest → (made : List ℕ) → decode_of digits ≢ Ok made
none_decoded digits bytes at greatest d least made is =
    let found = d.refused least in
    let digit = All-get_or (λ (c : ℕ). is_hex_digit c ≡ true) digits found.0 0 found.1 (decode_of-ok digits made is).1 in
    cc (sym digit ∙ found.2)

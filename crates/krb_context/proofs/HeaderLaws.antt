-- What the bytes of headers say.
use Rattle.std.proofs.Common.{◌≡◌, ◌∙◌, ◌-◌, ◌<◌, ◌^◌, ℕ, List, ◌++◌, length, take, drop, sym, ap, ap₂, arith}
use Rattle.std.proofs.lemmas.List.{length-append}
use Rattle.std.proofs.lemmas.Nat.{from_be_bytes-to_be_bytes_8}
use Rattle.std.proofs.Math.Seq.{drop-append_seam}
use Rattle.std.specs.Int.{w64, to_be_bytes, from_be_bytes}

-- the last 8 bytes of 16
pub number_is : (bytes front : List ℕ) (number : ℕ) → number < 2 ^ 64 → length front ≡ 8 → bytes ≡ front ++ to_be_bytes w64 number
    → from_be_bytes w64 (take (length bytes - 8) (drop 8 bytes)) ≡ number
number_is bytes front number fits size is =
    let after : drop 8 bytes ≡ to_be_bytes w64 number =
    ap (drop 8) is ∙ ap (λ (n : ℕ). drop n (front ++ to_be_bytes w64 number)) (sym size) ∙ drop-append_seam front (to_be_bytes w64 number) in
    let count : length bytes - 8 ≡ 8 = omega (arith, ap length is, length-append front (to_be_bytes w64 number), size) in
    ap₂ (λ (n : ℕ) (b : List ℕ). from_be_bytes w64 (take n b)) count after ∙ from_be_bytes-to_be_bytes_8 number fits

-- The service's own MIC of a list fits 40 bytes.
use Rattle.std.proofs.Common.{◌≡◌, ◌≤◌, ℕ, ℤ, pos, negsuc, List, Bool, true, nat_eq, false, Result, Ok, Err, length, arith, if◌then◌else◌}
use Rattle.krb_enc.specs.Key.{numbered}
use Rattle.krb_enc.specs.Sealed.{aes128_sha256, aes256_sha384}
use Rattle.krb_enc.specs.Written.{IsWritten}

tag_if : (b : Bool) → (if b then aes256_sha384 else aes128_sha256).tag_len ≤ 24
tag_if true = omega arith
tag_if false = omega arith

pub tag_fits : (etype : ℤ) → (numbered etype).tag_len ≤ 24
tag_fits (pos n) = tag_if (nat_eq n 20)
tag_fits (negsuc n) = omega arith

pub is_sent : {E : Type 0} (short : ℕ → E) (bytes old new : List ℕ) (result : Result ℕ E) → length bytes ≤ length old → IsWritten E short bytes old new result
    → result ≡ Ok (length bytes)
is_sent short bytes old new result fits it = (it.fits fits).0

not_both : {E : Type 0} (n : ℕ) (e : E) (result : Result ℕ E) → result ≡ Ok n → result ≡ Err e → ⊥
not_both n e result one other = cc

pub not_refused : {E : Type 0} (short : ℕ → E) (bytes old new : List ℕ) (result : Result ℕ E) (e : E) → length bytes ≤ length old → IsWritten E short bytes old new result
    → result ≡ Err e → ⊥
not_refused short bytes old new result e fits it err = not_both (length bytes) e result (is_sent short bytes old new result fits it) err

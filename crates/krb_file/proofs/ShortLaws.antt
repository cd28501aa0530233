-- Where nothing is read, too few bytes are left.
use Rattle.std.proofs.Common.{◌≡◌, ℕ, ◌+◌, ◌<◌, Bool, true, false, cond, leb, length, take, drop, Option, Some, None, refl}
use Rattle.std.specs.Int.{Width, byte_len, from_be_bytes, cast_signed}
use Rattle.std.proofs.lemmas.Bool.{leb-false}
use Rattle.krb_file.specs.Cursor.{Place, ◌>>=◌, bytes_at, number_at, signed_at}

none_if : {A : Type 0} (b : Bool) (x : A) → cond b (Some x) None ≡ None → b ≡ false
none_if true x e = absurd cc
none_if false x e = refl

none_then : {A B : Type 0} (read : Option A) (f : A → B) → (read >>= λ x. Some (f x)) ≡ None → read ≡ None
none_then None f e = refl
none_then (Some x) f e = absurd cc

pub short_bytes : (count : ℕ) (place : Place) → bytes_at count place ≡ None → length place.rest < count
unfolding bytes_at
short_bytes count place e =
    let f = none_if (leb count (length place.rest)) (take count place.rest, record { at = place.at + count; rest = drop count place.rest }) e in
    leb-false _ _ f

pub short_number : (w : Width) (place : Place) → number_at w place ≡ None → length place.rest < byte_len w
unfolding number_at
short_number w place e = short_bytes (byte_len w) place (none_then (bytes_at (byte_len w) place) (λ read. (from_be_bytes w read.0, read.1)) e)

pub short_signed : (w : Width) (place : Place) → signed_at w place ≡ None → length place.rest < byte_len w
unfolding signed_at
short_signed w place e = short_number w place (none_then (number_at w place) (λ read. (cast_signed w read.0, read.1)) e)

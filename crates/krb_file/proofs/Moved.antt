-- What is read doesn't depend on how many bytes come before it.
use Rattle.std.proofs.Common.{◌≡◌, ℕ, zero, suc, ◌+◌, leb, List, [], ◌∷◌, length, take, drop, Option, Some, refl, ap}
use Rattle.std.specs.Int.{Width, byte_len, from_be_bytes}
use Rattle.std.proofs.lemmas.Option.{cond_some}
use Rattle.krb_file.specs.Cursor.{Place, ◌>>=◌, bytes_at, number_at, data_at, times_at}
use Rattle.krb_file.proofs.CursorLaws.{bind_some, some_is}

-- the same is read from another offset
abbrev pub IsMoved : {X : Type 0} → (Place → Option (X × Place)) → Type 0
IsMoved {X} read = (at : ℕ) (place : Place) (x : X) (behind : Place) → read place ≡ Some (x, behind) → (end : ℕ) × (read (record { at = at; rest = place.rest }) ≡ Some (x, record { at = end; rest = behind.rest }))

bytes_moved : (count : ℕ) → IsMoved (bytes_at count)
unfolding bytes_at
bytes_moved count at place x behind e =
    let g = cond_some (leb count (length place.rest)) (take count place.rest, record { at = place.at + count; rest = drop count place.rest }) (x, behind) e in
    (at + count, rw g.0 (ap (λ (p : List ℕ × Place). Some (p.0, record { at = at + count; rest = p.1.rest })) g.1))

number_moved : (w : Width) → IsMoved (number_at w)
unfolding number_at
number_moved w at place n behind e =
    let b = bind_some (bytes_at (byte_len w) place) (λ read. Some (from_be_bytes w read.0, read.1)) (n, behind) e in
    let m = bytes_moved (byte_len w) at place b.0.0 b.0.1 b.1 in
    (m.0, rw m.1 (ap (λ (p : ℕ × Place). Some (p.0, record { at = m.0; rest = p.1.rest })) (some_is (from_be_bytes w b.0.0, b.0.1) (n, behind) b.2)))

pub data_moved : (w : Width) → IsMoved (data_at w)
unfolding data_at
data_moved w at place x behind e =
    let b = bind_some (number_at w place) (λ count. bytes_at count.0 count.1) (x, behind) e in
    let m = number_moved w at place b.0.0 b.0.1 b.1 in
    let n = bytes_moved b.0.0 m.0 b.0.1 x behind b.2 in
    (n.0, rw (m.1, n.1) refl)

pub times_moved : {X : Type 0} (read : Place → Option (X × Place)) → IsMoved read → (count : ℕ) → IsMoved (times_at read count)
unfolding times_at
times_moved {X} read moved zero at place xs behind e = (at, ap (λ (p : List X × Place). Some (p.0, record { at = at; rest = p.1.rest })) (some_is ([], place) (xs, behind) e))
times_moved {X} read moved (suc count) at place xs behind e =
    let a = bind_some (read place) (λ first. times_at read count first.1 >>= λ others. Some (first.0 ∷ others.0, others.1)) (xs, behind) e in
    let b = bind_some (times_at read count a.0.1) (λ others. Some (a.0.0 ∷ others.0, others.1)) (xs, behind) a.2 in
    let m = moved at place a.0.0 a.0.1 a.1 in
    let n = times_moved read moved count m.0 a.0.1 b.0.0 b.0.1 b.1 in
    (n.0, rw (m.1, n.1) (ap (λ (p : List X × Place). Some (p.0, record { at = n.0; rest = p.1.rest })) (some_is (a.0.0 ∷ b.0.0, b.0.1) (xs, behind) b.2)))

-- Stamps as bytes: equal bytes come from equal stamps.
use Rattle.std.proofs.Common.{◌≡◌, ℕ, ℤ, ◌<◌, ◌^◌, List, [], ◌∷◌, ◌++◌, length, take, drop, refl, sym, ◌∙◌, ap, append_assoc, arith}
use Rattle.std.specs.Prelude.{FitsSigned}
use Rattle.std.specs.Int.{w64, from_be_bytes, cast_unsigned, cast_signed}
use Rattle.std.specs.List.{All, flat_map}
use Rattle.std.proofs.Math.Seq.{drop-append_seam, take-append_seam}
use Rattle.std.proofs.Math.Facts.{Fits-of_z}
use Rattle.std.proofs.lemmas.Int.{to_z-of_z}
use Rattle.std.proofs.lemmas.List.Elements.{All-head, All-tail}
use Rattle.std.proofs.lemmas.Nat.{from_be_bytes-to_be_bytes_8}
use Rattle.krb_replay.specs.Stamp.{RealmAndName, Stamp}
use Rattle.krb_replay.specs.Bytes.{HasLengths, IsBytesOf, name_bytes, number_bytes, text_bytes}

abbrev IsShort : List ℕ → Type 0
IsShort text = length text < 2 ^ 64

-- the same bytes, parted after as many
parted : (one other more rest : List ℕ) → length one ≡ length other → one ++ more ≡ other ++ rest → (one ≡ other) × (more ≡ rest)
parted one other more rest len e = (
  sym (take-append_seam one more) ∙ (ap (take (length one)) e ∙ (ap (λ (n : ℕ). take n (other ++ rest)) len ∙ take-append_seam other rest)),
  sym (drop-append_seam one more) ∙ (ap (drop (length one)) e ∙ (ap (λ (n : ℕ). drop n (other ++ rest)) len ∙ drop-append_seam other rest)),
)

number_back : (one other : ℕ) (more rest : List ℕ) → one < 2 ^ 64 → other < 2 ^ 64 → number_bytes one ++ more ≡ number_bytes other ++ rest
    → (one ≡ other) × (more ≡ rest)
number_back one other more rest fits also e =
    let p = parted (number_bytes one) (number_bytes other) more rest refl e in
    (sym (from_be_bytes-to_be_bytes_8 one fits) ∙ (ap (from_be_bytes w64) p.0 ∙ from_be_bytes-to_be_bytes_8 other also), p.1)

text_back : (one other more rest : List ℕ) → IsShort one → IsShort other → text_bytes one ++ more ≡ text_bytes other ++ rest → (one ≡ other) × (more ≡ rest)
text_back one other more rest fits also e =
    let n = number_back (length one) (length other) (one ++ more) (other ++ rest) fits also
    (sym (append_assoc (number_bytes (length one)) one more) ∙ (e ∙ append_assoc (number_bytes (length other)) other rest)) in
    parted one other more rest n.0 n.1

texts_back : (ones others : List (List ℕ)) (more rest : List ℕ) → All IsShort ones → All IsShort others → length ones ≡ length others
    → flat_map text_bytes ones ++ more ≡ flat_map text_bytes others ++ rest → (ones ≡ others) × (more ≡ rest)
texts_back [] [] more rest fit also len e = (refl, e)
texts_back [] (o ∷ others) more rest fit also len e = absurd (omega (arith, len))
texts_back (o ∷ ones) [] more rest fit also len e = absurd (omega (arith, len))
texts_back (one ∷ ones) (other ∷ others) more rest fit also len e =
    let first = text_back one other (flat_map text_bytes ones ++ more) (flat_map text_bytes others ++ rest)
    (All-head IsShort one ones fit) (All-head IsShort other others also)
    (sym (append_assoc (text_bytes one) (flat_map text_bytes ones) more) ∙ (e ∙ append_assoc (text_bytes other) (flat_map text_bytes others) rest)) in
    let next = texts_back ones others more rest (All-tail IsShort one ones fit) (All-tail IsShort other others also) (omega (arith, len)) first.1 in
    (ap (λ (t : List ℕ). t ∷ ones) first.0 ∙ ap (λ (ts : List (List ℕ)). other ∷ ts) next.0, next.1)

pub grouped : (name : RealmAndName) (more : List ℕ)
    → name_bytes name ++ more ≡ text_bytes name.realm ++ (number_bytes (length name.components) ++ (flat_map text_bytes name.components ++ more))
grouped name more =
    append_assoc (text_bytes name.realm) (number_bytes (length name.components) ++ flat_map text_bytes name.components) more
    ∙ ap (λ (t : List ℕ). text_bytes name.realm ++ t) (append_assoc (number_bytes (length name.components)) (flat_map text_bytes name.components) more)

abbrev named : List ℕ → List (List ℕ) → RealmAndName
named realm components = record { realm = realm; components = components }

pub name_back : (one other : RealmAndName) (more rest : List ℕ) → HasLengths one → HasLengths other → name_bytes one ++ more ≡ name_bytes other ++ rest
    → (one ≡ other) × (more ≡ rest)
name_back one other more rest fits also e =
    let realm = text_back one.realm other.realm (number_bytes (length one.components) ++ (flat_map text_bytes one.components ++ more))
    (number_bytes (length other.components) ++ (flat_map text_bytes other.components ++ rest)) fits.realm also.realm (sym (grouped one more) ∙ (e ∙ grouped other rest)) in
    let count = number_back (length one.components) (length other.components) (flat_map text_bytes one.components ++ more)
    (flat_map text_bytes other.components ++ rest) fits.count also.count realm.1 in
    let components = texts_back one.components other.components more rest fits.components also.components count.0 count.1 in
    (ap (λ (r : List ℕ). named r one.components) realm.0 ∙ ap (λ (cs : List (List ℕ)). named other.realm cs) components.0, components.1)

time_back : (one other : ℤ) → FitsSigned w64 one → FitsSigned w64 other → number_bytes (cast_unsigned w64 one) ≡ number_bytes (cast_unsigned w64 other) → one ≡ other
time_back one other fits also e =
    let n = number_back (cast_unsigned w64 one) (cast_unsigned w64 other) [] [] (Fits-of_z fits).fits (Fits-of_z also).fits (ap (λ (t : List ℕ). t ++ []) e) in
    sym (to_z-of_z w64 one fits) ∙ (ap (cast_signed w64) n.0 ∙ to_z-of_z w64 other also)

abbrev stamped : RealmAndName → RealmAndName → ℤ → Stamp
stamped server client time = record { server = server; client = client; time = time }

pub stamp_back : (one other : Stamp) (bytes : List ℕ) → IsBytesOf one bytes → IsBytesOf other bytes → one ≡ other
stamp_back one other bytes is also =
    let server = name_back one.server other.server (name_bytes one.client ++ number_bytes (cast_unsigned w64 one.time))
    (name_bytes other.client ++ number_bytes (cast_unsigned w64 other.time)) is.server also.server (sym is.bytes_are ∙ also.bytes_are) in
    let client = name_back one.client other.client (number_bytes (cast_unsigned w64 one.time)) (number_bytes (cast_unsigned w64 other.time)) is.client also.client server.1 in
    let time = time_back one.time other.time is.time also.time client.1 in
    ap (λ (s : RealmAndName). stamped s one.client one.time) server.0
    ∙ (ap (λ (c : RealmAndName). stamped other.server c one.time) client.0 ∙ ap (λ (t : ℤ). stamped other.server other.client t) time)

-- A keytab as its records and its end, and what is written of it.
use Rattle.std.proofs.Common.{◌≡◌, ℕ, zero, suc, ◌+◌, ◌%◌, ◌*◌, ◌^◌, ◌<◌, ◌≤◌, Bool, true, cond, not, eqb, leb, ◌&&◌, List, [], ◌∷◌, ◌++◌, length, map, replicate, refl, sym, ap, subst, ◌∙◌, append-nil, arith, inl, pos, append_assoc}
use Rattle.std.specs.Int.{w32, from_be_bytes, w16}
use Rattle.std.specs.List.{flat_map, AllByRecursion}
use Rattle.std.specs.Prelude.{All}
use Rattle.std.proofs.Math.Nat.{mod-lt}
use Rattle.std.proofs.lemmas.Bool.{ne_eqb, le-leb}
use Rattle.std.proofs.lemmas.Nat.{from_be_bytes-to_be_bytes_4}
use Rattle.std.proofs.lemmas.List.{length-append, length-replicate}
use Rattle.std.proofs.lemmas.List.Elements.{All-from_recursion, recursion_from_All}
use Rattle.krb_file.specs.Cursor.{number_bytes, signed_bytes, data_bytes}
use Rattle.krb_keytab.specs.Entry.{KeytabEntry, LengthsFit, FitsEntry}
use Rattle.krb_file.specs.File.{file_limit}
use Rattle.krb_keytab.specs.Format.{version, full_kvno, KeytabRecord, record_bytes, FitsRecord, entries_of, IsKeytab, entry_bytes}
use Rattle.krb_keytab.specs.Written.{padded_record, written_record, record_length, written}
use Rattle.krb_keytab.specs.Edit.{IsMadeOf}
use Rattle.krb_keytab.specs.Inner.Putting.{Puts, PutsTo, body_bytes}
use Rattle.krb_keytab.proofs.EntryLaws.{row_bytes, row_spelled}
use Rattle.krb_keytab.proofs.PutLaws.{Puts-then, Puts-whole}

-- how long it is at most

listed_short : (components : List (List ℕ)) → AllByRecursion (λ component. length component < 2 ^ 16) components → length (flat_map (data_bytes w16) components) ≤ length components * 65537
listed_short [] short = omega arith
listed_short (x ∷ xs) short = omega (arith, short.0, listed_short xs short.1, length-append (data_bytes w16 x) (flat_map (data_bytes w16) xs))

pub body_short : (e : KeytabEntry) → LengthsFit e.principal e.key → length (body_bytes e) < 2 ^ 40
body_short e fits =
    let components = listed_short e.principal.components (recursion_from_All _ e.principal.components fits.components) in
    let long : length (body_bytes e) ≡ 21 + (length e.principal.realm + (length (flat_map (data_bytes w16) e.principal.components) + length e.key)) = simp length-append (omega arith) in
    omega (arith, long, components, fits.count, fits.realm, fits.key_length)

-- ---- a record

-- what follows the fields may be said apart
pub body_more : (e : KeytabEntry) (short_kvno : ℕ) (rest others : List ℕ) → entry_bytes e short_kvno (rest ++ others) ≡ entry_bytes e short_kvno rest ++ others
body_more e short_kvno rest others =
    let row : List ℕ = row_bytes e short_kvno in
    sym (row_spelled e short_kvno (rest ++ others)) ∙ sym (append_assoc row rest others) ∙ ap (λ (t : List ℕ). t ++ others) (row_spelled e short_kvno rest)

pub filled : {old s1 s2 s3 : List ℕ} {at : ℕ} (e : KeytabEntry) (size zeros : ℕ) → PutsTo old 0 (signed_bytes w32 (pos size)) s1 4 → PutsTo s1 4 (body_bytes e) s2 at → Puts s2 at (replicate zeros 0) s3
    → length old ≡ size + 4 → length old ≡ record_length e + zeros → s3 ≡ record_bytes (padded_record e zeros)
filled {old} {s1} {s2} {s3} {at} e size zeros first second third sized whole =
    let filling : List ℕ = replicate zeros 0 in
    let body : body_bytes e ++ filling ≡ entry_bytes e (e.kvno % 2 ^ 8) (number_bytes w32 e.kvno ++ filling) = sym (body_more e (e.kvno % 2 ^ 8) (number_bytes w32 e.kvno) filling) in
    let count : length (body_bytes e ++ filling) ≡ size = omega (arith, length-append (body_bytes e) filling, length-replicate {A = ℕ} zeros 0, sized, whole) in
    let all = Puts-then first (Puts-then second third) in
    Puts-whole all (omega (arith, count, sized))
    ∙ ap (λ (n : ℕ). signed_bytes w32 (pos n) ++ (body_bytes e ++ filling)) (sym count)
    ∙ ap (λ (t : List ℕ). signed_bytes w32 (pos (length t)) ++ t) body

pub padded_length : (e : KeytabEntry) (zeros : ℕ) → length (record_bytes (padded_record e zeros)) ≡ record_length e + zeros
padded_length e zeros =
    let body : length (entry_bytes e (e.kvno % 2 ^ 8) (number_bytes w32 e.kvno ++ replicate zeros 0)) ≡ length (body_bytes e) + zeros =
    ap length (body_more e (e.kvno % 2 ^ 8) (number_bytes w32 e.kvno) (replicate zeros 0)) ∙ length-append (body_bytes e) (replicate zeros 0) ∙ ap (λ (n : ℕ). length (body_bytes e) + n) (length-replicate {A = ℕ} zeros 0) in
    omega (arith, body)

pub made_keytab : {bytes : List ℕ} {records : List KeytabRecord} {end : List ℕ} → IsMadeOf bytes records end → IsKeytab bytes (flat_map entries_of records)
made_keytab {bytes} {records} {end} m = record {
  limit = m.limit;
  at = length version + length (flat_map record_bytes records);
  behind = end;
  reached = record { records = records; fit = m.fit; bytes_are = m.bytes_are; at_is = refl; entries_are = refl };
  end = m.is_end;
}

-- ---- a record that is written

zero_or : (n : ℕ) → cond (not (eqb n 0)) n (n % 2 ^ 8) ≡ n
zero_or zero = refl
zero_or (suc n) = ap (λ (b : Bool). cond (not b) (suc n) (suc n % 2 ^ 8)) (ne_eqb (suc n) 0 (λ e. omega (arith, e)))

pub kvno_back : (kvno : ℕ) (others : List ℕ) → kvno < 2 ^ 32 → full_kvno (kvno % 2 ^ 8) (number_bytes w32 kvno ++ others) ≡ kvno
kvno_back kvno others fits =
    let kept : List ℕ = number_bytes w32 kvno in
    let long : leb 4 (length (kept ++ others)) ≡ true = le-leb 4 (length (kept ++ others)) (omega arith) in
    ap (λ (b : Bool). cond (b && not (eqb (from_be_bytes w32 kept) 0)) (from_be_bytes w32 kept) (kvno % 2 ^ 8)) long
    ∙ ap (λ (n : ℕ). cond (not (eqb n 0)) n (kvno % 2 ^ 8)) (from_be_bytes-to_be_bytes_4 kvno fits) ∙ zero_or kvno

pub padded_fits : (e : KeytabEntry) (zeros : ℕ) → FitsEntry e → length (record_bytes (padded_record e zeros)) < 2 ^ 31 → FitsRecord (padded_record e zeros)
padded_fits e zeros fits small = (
  record { fits = fits; short_fits = mod-lt e.kvno (omega arith); kvno = sym (kvno_back e.kvno (replicate zeros 0) fits.kvno) },
  omega (arith, small),
)

pub written_fits : (e : KeytabEntry) → FitsEntry e → record_length e < 2 ^ 31 → FitsRecord (written_record e)
written_fits e fits small = padded_fits e 0 fits small

-- ---- a file that is written

abbrev writing : KeytabEntry → List ℕ
writing e = record_bytes (written_record e)

flat_written : (entries : List KeytabEntry) → flat_map record_bytes (map written_record entries) ≡ flat_map writing entries
flat_written [] = refl
flat_written (e ∷ entries) = ap (λ (t : List ℕ). writing e ++ t) (flat_written entries)

listed_again : (entries : List KeytabEntry) → flat_map entries_of (map written_record entries) ≡ entries
listed_again [] = refl
listed_again (e ∷ entries) = ap (λ (t : List KeytabEntry). e ∷ t) (listed_again entries)

all_fit : (entries : List KeytabEntry) → AllByRecursion FitsEntry entries → length (flat_map writing entries) < 2 ^ 31 → AllByRecursion FitsRecord (map written_record entries)
all_fit [] fit small = tt
all_fit (e ∷ entries) fit small =
    let size : length (flat_map writing (e ∷ entries)) ≡ record_length e + length (flat_map writing entries) = length-append (writing e) (flat_map writing entries) in
    (written_fits e fit.0 (omega (arith, size, small)), all_fit entries fit.1 (omega (arith, size, small)))

pub written_keytab : (bytes : List ℕ) (entries : List KeytabEntry) → bytes ≡ written entries → length bytes ≤ file_limit → All FitsEntry entries → IsKeytab bytes entries
written_keytab bytes entries e limit fit =
    let small : length (flat_map writing entries) < 2 ^ 31 = omega (arith, ap length e, limit) in
    let made : IsMadeOf bytes (map written_record entries) [] = record {
      limit = limit;
      fit = All-from_recursion FitsRecord (map written_record entries) (all_fit entries (recursion_from_All FitsEntry entries fit) small);
      bytes_are = e ∙ ap (λ (t : List ℕ). version ++ t) (sym (flat_written entries) ∙ sym (append-nil (flat_map record_bytes (map written_record entries))));
      is_end = inl refl;
    } in
    subst (IsKeytab bytes) (listed_again entries) (made_keytab made)

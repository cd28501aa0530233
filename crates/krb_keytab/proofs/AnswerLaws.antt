-- Each file is a keytab or has a fault.
use Rattle.std.proofs.Common.{◌≡◌, ◌⊎◌, ℕ, zero, suc, ℤ, pos, negsuc, ◌+◌, ◌<◌, ◌≤◌, List, [], ◌∷◌, ◌++◌, length, take, drop, Option, Some, None, Result, Err, refl, sym, ap, subst, append_assoc, arith, inl, inr, ◌∙◌}
use Rattle.std.specs.Int.{w32}
use Rattle.std.specs.Prelude.{FitsSigned}
use Rattle.std.proofs.lemmas.Bool.{cases_lt}
use Rattle.std.proofs.lemmas.List.{length-append, length-take, take-append-drop, drop_at}
use Rattle.krb_file.specs.Cursor.{Place, signed_at, signed_bytes}
use Rattle.krb_file.specs.Field.{IsBytes}
use Rattle.krb_file.proofs.CursorLaws.{IsField-i32, IsBytes-take, IsBytes-drop}
use Rattle.krb_keytab.specs.Entry.{KeytabEntry}
use Rattle.krb_file.specs.File.{file_limit}
use Rattle.krb_keytab.specs.Format.{version, IsReached, IsAnswerOf}
use Rattle.krb_keytab.specs.Items.{LacksRecord, LacksVersion}
use Rattle.krb_keytab.specs.Inner.Entry.{HoldsEntry, HoldsNone}
use Rattle.krb_keytab.specs.Inner.Meeting.{IsWhole}
use Rattle.krb_keytab.specs.declared.fault.KeytabFault.{KeytabFault}
use Rattle.krb_keytab.specs.declared.fault.KeytabFault.TheVariants.{Version, Truncated, BadEntry, TooLong}
use Rattle.krb_file.proofs.ShortLaws.{short_signed}
use Rattle.krb_keytab.proofs.EntryLaws.{some_holds}
use Rattle.krb_keytab.proofs.FileLaws.{reach_start, record_first}
use Rattle.krb_keytab.proofs.MeetLaws.{cut_off, hole_whole, entry_whole, no_entry}
use Rattle.krb_keytab.proofs.StandLaws.{reach_whole, stops_at}
use Rattle.krb_keytab.proofs.OneAnswer.{said, last_said}
use Rattle.krb_keytab.proofs.SomeChoice.{same_bytes}

abbrev pub HasAnswer : List ℕ → Type 0
HasAnswer bytes = (answer : Result (List KeytabEntry) KeytabFault) × IsAnswerOf bytes answer

-- a record begins at an offset, and more follows
record Whole (at : ℕ) (rest : List ℕ) : Type 0 where
  piece : List ℕ
  more : List ℕ
  entries : List KeytabEntry
  parts : rest ≡ piece ++ more
  whole : IsWhole at piece entries
  fits : IsBytes more

-- or none, and why
abbrev Kind : ℕ → List ℕ → Type 0
Kind at rest = Whole at rest ⊎ ((last : Option KeytabFault) × LacksRecord at last rest)

module _ (at : ℕ) (rest : List ℕ) (bytes : IsBytes rest) where
  split : (word : List ℕ) (n : ℕ) → word ++ rest ≡ (word ++ take n rest) ++ drop n rest
  split word n = ap (λ (t : List ℕ). word ++ t) (sym (take-append-drop n rest)) ∙ sym (append_assoc word (take n rest) (drop n rest))

  there : (size : ℤ) (n : ℕ) (entries : List KeytabEntry) → IsWhole at (signed_bytes w32 size ++ take n rest) entries → Kind at (signed_bytes w32 size ++ rest)
  there size n entries whole = inl (record { piece = signed_bytes w32 size ++ take n rest; more = drop n rest; entries = entries; parts = split (signed_bytes w32 size) n; whole = whole; fits = IsBytes-drop n rest bytes })

  room : (size : ℤ) (n : ℕ) → n ≤ length rest → at + length (signed_bytes w32 size ++ rest) ≤ file_limit → at + 4 + n ≤ file_limit
  room size n enough limit = omega (arith, enough, limit, length-append (signed_bytes w32 size) rest)

  made : (n : ℕ) → 0 < n → n ≤ length rest → at + length (signed_bytes w32 (pos n) ++ rest) ≤ file_limit → ((e : KeytabEntry) × HoldsEntry (take n rest) e) ⊎ HoldsNone (take n rest) → Kind at (signed_bytes w32 (pos n) ++ rest)
  made n some enough limit (inr none) =
      inr (Some (BadEntry at), subst (LacksRecord at (Some (BadEntry at))) (sym (split (signed_bytes w32 (pos n)) n)) (no_entry at n (take n rest) (drop n rest) some (room (pos n) n enough limit) (omega (arith, length-take n rest, enough)) none))
  made n some enough limit (inl (one, holds)) =
      there (pos n) n (one ∷ []) (entry_whole at n (take n rest) one (room (pos n) n enough limit) (omega (arith, length-take n rest, enough)) holds)

  sized : (size : ℤ) → FitsSigned w32 size → at + length (signed_bytes w32 size ++ rest) ≤ file_limit → Kind at (signed_bytes w32 size ++ rest)
  sized (pos zero) fits limit = inr (None, inr (rest, refl))
  sized (pos (suc n)) fits limit =
      elim (cases_lt (length rest) (suc n)) [
        | inl short ↦ inr (Some (Truncated at), cut_off at (pos (suc n)) rest fits short)
        | inr enough ↦ made (suc n) (omega arith) enough limit (some_holds (take (suc n) rest) (IsBytes-take (suc n) rest bytes))
      ]
  sized (negsuc n) fits limit =
      elim (cases_lt (length rest) (suc n)) [
        | inl short ↦ inr (Some (Truncated at), cut_off at (negsuc n) rest fits short)
        | inr enough ↦ there (negsuc n) (suc n) [] (hole_whole at (suc n) (take (suc n) rest) (omega arith) (room (negsuc n) (suc n) enough limit) (omega (arith, length-take (suc n) rest, enough)))
      ]

few : (at : ℕ) (rest : List ℕ) → length rest < 4 → Kind at rest
few at [] short = inr (None, inl refl)
few at (x ∷ xs) short = inr (Some (Truncated at), (refl, inl (omega arith, short)))

kind : (at : ℕ) (rest : List ℕ) → IsBytes rest → at + length rest ≤ file_limit → Kind at rest
kind at rest bytes limit = by_size (signed_at w32 (record { at = 0; rest = rest })) refl
  where
    by_size : (read : Option (ℤ × Place)) → signed_at w32 (record { at = 0; rest = rest }) ≡ read → Kind at rest
    by_size None e = few at rest (short_signed w32 (record { at = 0; rest = rest }) e)
    by_size (Some (size, after)) e =
        let t = IsField-i32.takes (record { at = 0; rest = rest }) size after bytes e in
        subst (Kind at) (sym t.0.parts) (sized at after.rest t.0.rest_fits size t.1 (omega (arith, limit, ap length t.0.parts)))

module _ (front : List ℕ) (rest : List ℕ) (entries : List KeytabEntry) (reached : IsReached front (length front) entries []) (fits : IsBytes rest) (limit : length (front ++ rest) ≤ file_limit) where
  step : (Whole (length front) rest → HasAnswer (front ++ rest)) → HasAnswer (front ++ rest)
  step next =
      elim (kind (length front) rest fits (omega (arith, limit, length-append front rest))) [
        | inl whole ↦ next whole
        | inr stop ↦ (said entries stop.0, last_said (front ++ rest) entries stop.0 limit (stops_at front entries reached rest stop.0 stop.1))
      ]

further : (at : ℕ) (rest : List ℕ) (w : Whole at rest) → length w.more + 4 ≤ length rest
further at rest w = omega (arith, ap length w.parts, length-append w.piece w.more, ap length w.whole.piece_is, record_first w.whole.one)

answer_from : (most : ℕ) (front rest : List ℕ) (entries : List KeytabEntry) → IsReached front (length front) entries [] → IsBytes rest → length (front ++ rest) ≤ file_limit → length rest ≤ most → HasAnswer (front ++ rest)
answer_from zero front rest entries reached fits limit most = step front rest entries reached fits limit (λ w. absurd (omega (arith, most, further (length front) rest w)))
answer_from (suc count) front rest entries reached fits limit most =
    step front rest entries reached fits limit (λ w.
    let same : (front ++ w.piece) ++ w.more ≡ front ++ rest = append_assoc front w.piece w.more ∙ ap (λ (t : List ℕ). front ++ t) (sym w.parts) in
    subst HasAnswer same (answer_from count (front ++ w.piece) w.more (entries ++ w.entries) (reach_whole front entries reached w.piece w.entries w.whole) w.fits (omega (arith, limit, ap length same)) (omega (arith, most, further (length front) rest w))))

abbrev Begins : List ℕ → Type 0
Begins bytes = ((rest : List ℕ) × (bytes ≡ version ++ rest)) ⊎ LacksVersion bytes

begins : (bytes : List ℕ) → Begins bytes
begins bytes =
    elim (same_bytes (take 2 bytes) version) [
      | inl same ↦ inl (drop 2 bytes, sym (take-append-drop 2 bytes) ∙ ap (λ (t : List ℕ). t ++ drop 2 bytes) same)
      | inr other ↦ inr (λ rest e. other (ap (take 2) e))
    ]

pub some_answer : (bytes : List ℕ) → IsBytes bytes → HasAnswer bytes
some_answer bytes fits =
    elim (cases_lt file_limit (length bytes)) [
      | inl long ↦ (Err TooLong, long)
      | inr limit ↦ elim (begins bytes) [
        | inl start ↦ subst HasAnswer (sym start.1) (answer_from (length start.0) version start.0 [] (reach_start version [] refl) (subst IsBytes (ap (drop 2) start.1 ∙ drop_at version start.0 2 refl) (IsBytes-drop 2 bytes fits)) (omega (arith, limit, ap length start.1)) (omega arith))
        | inr other ↦ (Err Version, (limit, other))
      ]
    ]

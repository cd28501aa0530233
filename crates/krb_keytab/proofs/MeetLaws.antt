-- What a reader meets where whole records end, and what it has at hand then.
use Rattle.std.proofs.Common.{◌≡◌, ℕ, ℤ, pos, negsuc, neg_ℤ, ◌+◌, ◌-◌, ◌<◌, ◌≤◌, Bool, true, false, List, [], ◌∷◌, ◌++◌, length, take, Option, Some, None, Result, Ok, Err, refl, sym, ap, subst, ◌∙◌, append_assoc, append-nil, to_z, of_z, arith, inl, inr}
use Rattle.std.specs.Int.{w32}
use Rattle.std.specs.Prelude.{FitsSigned, unsigned_abs, int_lt, max, IfOk, OnErr}
use Rattle.std.specs.Io.KnownBytes.{Consumes}
use Rattle.std.proofs.KnownBytes.{Consumes-trans}
use Rattle.std.proofs.Math.Seq.{take-append-add}
use Rattle.std.proofs.lemmas.Bool.{ltb-true}
use Rattle.std.proofs.lemmas.Int.{to_z-of_z}
use Rattle.std.proofs.lemmas.List.{length-append, length-take, nil_from_length}
use Rattle.krb_file.specs.Cursor.{Place, signed_at, signed_bytes}
use Rattle.krb_file.specs.Field.{IsBytes}
use Rattle.krb_file.specs.Window.{AtHand, CameOf, Fills}
use Rattle.krb_file.specs.Hand.{Hand}
use Rattle.krb_file.specs.declared.reading.ReadFault.{ReadFault}
use Rattle.krb_file.specs.declared.reading.ReadFault.TheVariants as source
use Rattle.krb_file.proofs.CursorLaws.{IsField-i32}
use Rattle.krb_keytab.specs.Entry.{KeytabEntry}
use Rattle.krb_file.specs.File.{file_limit}
use Rattle.krb_keytab.specs.Fault.{source_fault}
use Rattle.krb_keytab.specs.Format.{hole, entry, entry_bytes}
use Rattle.krb_keytab.specs.Items.{LacksRecord, IsPartOfRecord}
use Rattle.krb_keytab.specs.Inner.Entry.{HoldsEntry, HoldsNone}
use Rattle.krb_keytab.specs.Inner.Meeting.{Moves, Peaks, RanOut, RunsOutTo, IsWhole, IsLastAt, IsLongAt, IsFewAt, kept_of, MeetsLast, MeetsSize, MeetsSizeAt, MeetsBody, MeetsOne, Meets}
use Rattle.krb_keytab.specs.declared.fault.KeytabFault.{KeytabFault}
use Rattle.krb_keytab.specs.declared.fault.KeytabFault.TheVariants.{Truncated, BadEntry, TooLong, Read}
use Rattle.krb_keytab.specs.declared.found.Found.{Found}
use Rattle.krb_file.proofs.ShortLaws.{short_signed}
use Rattle.krb_file.specs.declared.cursor.Short.{Short}

-- ---- a source that runs out

pub cut_behind : (first later : List ℕ) (room : ℕ) → length first ≤ room → take room (first ++ later) ≡ first ++ take (room - length first) later
cut_behind first later room fits = ap (λ (n : ℕ). take n (first ++ later)) (omega arith) ∙ take-append-add first later (room - length first)

-- no record follows, whatever came after the first bytes
pub ran : {T : Type 0} (P : Result T KeytabFault → Type 0) (last answer : Result T KeytabFault) (left : Option (List ℕ)) (at given : ℕ) (first later : List ℕ) (why : Option KeytabFault)
    → RanOut last answer left given → at + length first ≤ file_limit → given ≡ at + length (first ++ later) → ((more : List ℕ) → at + length (first ++ more) ≤ file_limit → LacksRecord at why (first ++ more))
    → (IsLastAt left at (first ++ later) why → P last) → (IsLongAt at (first ++ later) → P (Err TooLong)) → P (Err Read) → P answer
ran P last answer left at given first later why r fits g lacks ok long failed =
    let room : length first ≤ file_limit - at = omega arith in
    elim r [
      | inl ended ↦ let within : at + length (first ++ later) ≤ file_limit = omega (arith, g, ended.1) in subst P (sym ended.0) (ok (record { limit = within; all = ended.2; lacks = lacks later within }))
      | inr other ↦ elim other [
        | inl past ↦ subst P (sym past.0) (long (record {
          long = omega (arith, g, past.1);
          last = why;
          lacks = subst (LacksRecord at why) (sym (cut_behind first later (file_limit - at) room)) (lacks (take (file_limit - at - length first) later) (omega (arith, fits, room, length-append first (take (file_limit - at - length first) later), length-take (file_limit - at - length first) later)));
        }))
        | inr read ↦ subst P (sym read) failed
      ]
    ]

-- ---- the size of a record

pub size_is : (bytes : List ℕ) (size : ℤ) (after : Place) → IsBytes bytes → length bytes ≤ 4 → signed_at w32 (record { at = 0; rest = bytes }) ≡ Some (size, after) → (bytes ≡ signed_bytes w32 size) × FitsSigned w32 size
size_is bytes size after fits few e =
    let t = IsField-i32.takes (record { at = 0; rest = bytes }) size after fits e in
    let none : after.rest ≡ [] = nil_from_length after.rest (omega (arith, ap length t.0.parts, length-append (signed_bytes w32 size) after.rest)) in
    (t.0.parts ∙ ap (λ (t : List ℕ). signed_bytes w32 size ++ t) none ∙ append-nil (signed_bytes w32 size), t.1)

-- a record of this size isn't there as a whole
pub cut_off : (at : ℕ) (size : ℤ) (more : List ℕ) → FitsSigned w32 size → length more < unsigned_abs size → LacksRecord at (Some (Truncated at)) (signed_bytes w32 size ++ more)
cut_off at size more fits short = (refl, inr (record { size = size; body = more; behind_is = refl; size_fits = fits; short = short }))

-- ---- the rest of a record

pub count_is : (size : ℤ) (count : ℕ) → FitsSigned w32 size → count ≡ unsigned_abs (to_z w32 (of_z w32 size)) → count ≡ unsigned_abs size
count_is size count fits e = e ∙ ap unsigned_abs (to_z-of_z w32 size fits)

-- the size of a hole, and that of an entry
pub hole_size : (size : ℤ) (count : ℕ) → int_lt size (pos 0) ≡ true → count ≡ unsigned_abs size → neg_ℤ (pos count) ≡ size
hole_size (pos n) count negative e = let below = ltb-true n 0 negative in absurd (omega arith)
hole_size (negsuc n) count negative e = ap (λ (k : ℕ). neg_ℤ (pos k)) e

pub entry_size : (size : ℤ) (count : ℕ) → int_lt size (pos 0) ≡ false → count ≡ unsigned_abs size → pos count ≡ size
entry_size (pos n) count positive e = ap (λ (k : ℕ). pos k) e
entry_size (negsuc n) count positive e = absurd cc

pub hole_whole : (at count : ℕ) (body : List ℕ) → 0 < count → at + 4 + count ≤ file_limit → length body ≡ count → IsWhole at (signed_bytes w32 (neg_ℤ (pos count)) ++ body) []
hole_whole at count body some limit e = record {
  one = hole body;
  fits = (omega (arith, e, some), omega (arith, e, limit));
  piece_is = ap (λ (k : ℕ). signed_bytes w32 (neg_ℤ (pos k)) ++ body) (sym e);
  entries_are = refl;
  limit = omega (arith, e, limit, length-append (signed_bytes w32 (neg_ℤ (pos count))) body);
}

pub entry_whole : (at count : ℕ) (body : List ℕ) (e : KeytabEntry) → at + 4 + count ≤ file_limit → length body ≡ count → HoldsEntry body e → IsWhole at (signed_bytes w32 (pos count) ++ body) (e ∷ [])
entry_whole at count body e limit l held =
    let size : pos count ≡ pos (length (entry_bytes e held.short_kvno held.rest)) = ap (λ (k : ℕ). pos k) (sym l ∙ ap length held.body_is) in
    record {
      one = entry e held.short_kvno held.rest;
      fits = (held.is_entry, omega (arith, l, limit, ap length held.body_is));
      piece_is = ap (λ (k : ℤ). signed_bytes w32 k ++ body) size ∙ ap (λ (t : List ℕ). signed_bytes w32 (pos (length (entry_bytes e held.short_kvno held.rest))) ++ t) held.body_is;
      entries_are = refl;
      limit = omega (arith, l, limit, length-append (signed_bytes w32 (pos count)) body);
    }

pub no_entry : (at count : ℕ) (body more : List ℕ) → 0 < count → at + 4 + count ≤ file_limit → length body ≡ count → HoldsNone body → LacksRecord at (Some (BadEntry at)) ((signed_bytes w32 (pos count) ++ body) ++ more)
no_entry at count body more some limit l none = (
  refl,
  record {
    body = body;
    others = more;
    behind_is = append_assoc (signed_bytes w32 (pos count)) body more ∙ ap (λ (k : ℕ). signed_bytes w32 (pos k) ++ (body ++ more)) (sym l);
    size = omega (arith, l, some);
    size_fits = omega (arith, l, limit);
    no_entry = none;
  },
)

-- ---- what is at hand

pub peaks_at : (IsPart : List ℕ → Type 0) (piece part after : List ℕ) (old new : ℕ) (bytes : List ℕ) → piece ≡ part ++ after → IsPart part → bytes ≡ part → length part ≤ file_limit → new ≡ max old (length bytes) → Peaks IsPart piece old new
peaks_at IsPart piece part after old new bytes parts p e fits peak = record {
  part = part;
  after = after;
  piece_is = parts;
  is_part = p;
  peak = omega (arith, peak, ap length e);
  grows = omega (arith, peak);
  low = λ l. omega (arith, peak, ap length e, fits, l);
}

-- the size and no more of a hole, or the size and more of a record
is_part : (size : ℤ) (part : List ℕ) → FitsSigned w32 size → length part ≤ kept_of size → IsPartOfRecord (signed_bytes w32 size ++ part)
is_part (pos n) part fits few = inr (n, fits.sfits, part, refl, few)
is_part (negsuc n) part fits few = inl (omega (arith, few, length-append (signed_bytes w32 (negsuc n)) part))

pub peaks_on : (size : ℤ) (later : List ℕ) (old mid new : ℕ) → FitsSigned w32 size → Peaks (λ part. length part ≤ 4) (signed_bytes w32 size) old mid → Peaks (λ part. length part ≤ kept_of size) later mid new → Peaks IsPartOfRecord (signed_bytes w32 size ++ later) old new
peaks_on size later old mid new fits p q = record {
  part = signed_bytes w32 size ++ q.part;
  after = q.after;
  piece_is = ap (λ (t : List ℕ). signed_bytes w32 size ++ t) q.piece_is ∙ sym (append_assoc (signed_bytes w32 size) q.part q.after);
  is_part = is_part size q.part fits q.is_part;
  peak = omega (arith, p.peak, q.peak, p.is_part, length-append (signed_bytes w32 size) q.part);
  grows = omega (arith, p.grows, q.grows);
  low = λ l. q.low (p.low l);
}

pub peaks_kept : (IsPart : List ℕ → Type 0) (piece : List ℕ) (old new : ℕ) → IsPart [] → new ≡ old → Peaks IsPart piece old new
peaks_kept IsPart piece old new p e = record { part = []; after = piece; piece_is = refl; is_part = p; peak = omega (arith, e); grows = omega (arith, e); low = λ l. omega (arith, e, l) }

-- ---- fewer bytes than a size has

none_more : (at : ℕ) (few more : List ℕ) → at + length few ≡ file_limit → at + length (few ++ more) ≤ file_limit → few ++ more ≡ few
none_more at few more all within = ap (λ (t : List ℕ). few ++ t) (nil_from_length more (omega (arith, length-append few more))) ∙ append-nil few

-- a file has no more
pub few_ran : (left : Option (List ℕ)) (at given : ℕ) (few later : List ℕ) (last answer : Result (Option ℤ) KeytabFault) → IsFewAt at few last → RanOut last answer left given
    → at + length few ≡ file_limit → length few < 4 → given ≡ at + length (few ++ later) → MeetsSize left at (few ++ later) answer
few_ran left at given few later last answer f r all short g =
    elim f [
      | inl none ↦ ran (MeetsSize left at (few ++ later)) (Ok None) answer left at given few later None (subst (λ (l : Result (Option ℤ) KeytabFault). RanOut l answer left given) none.0 r) (omega (arith, all)) g
          (λ more within. inl (none_more at few more all within ∙ none.1)) (λ h. h) (λ h. h) tt
      | inr some ↦ ran (MeetsSize left at (few ++ later)) (Err (Truncated at)) answer left at given few later (Some (Truncated at)) (subst (λ (l : Result (Option ℤ) KeytabFault). RanOut l answer left given) some.0 r) (omega (arith, all)) g
          (λ more within. (refl, inl (omega (arith, some.1, length-append few more), omega (arith, short, ap length (none_more at few more all within))))) (λ h. h) (λ h. h) tt
    ]

-- ---- the size at hand

pub size_read : (bytes : List ℕ) (start after : Place) (read : Result ℤ Short) → IsBytes bytes → length bytes ≤ 4 → start ≡ record { at = 0; rest = bytes } → IfOk read (λ size. signed_at w32 start ≡ Some (size, after))
    → IfOk read (λ size. (bytes ≡ signed_bytes w32 size) × FitsSigned w32 size)
size_read bytes start after (Err short) fits few e h = h
size_read bytes start after (Ok size) fits few e h = size_is bytes size after fits few (sym (ap (signed_at w32) e) ∙ h)

pub size_short : (bytes : List ℕ) (start : Place) (read : Result ℤ Short) → start ≡ record { at = 0; rest = bytes } → OnErr read (signed_at w32 start ≡ None) → OnErr read (length bytes < 4)
size_short bytes start (Ok size) e h = h
size_short bytes start (Err short) e h = short_signed w32 (record { at = 0; rest = bytes }) (sym (ap (signed_at w32) e) ∙ h)

came_within : {E : Type 0} (answer : Result Bool E) (count : ℕ) (piece : List ℕ) (to : Option (List ℕ)) → CameOf answer count piece to → length piece ≤ count
came_within (Ok true) count piece to came = omega (arith, came)
came_within (Ok false) count piece to came = omega (arith, came.0)
came_within (Err fault) count piece to came = omega (arith, came)

pub fills_within : {S : Type 0} (from to : Option (List ℕ)) (old new : AtHand S) (count : ℕ) (answer : Result Bool ReadFault) (f : Fills from to old new count answer) → length f.piece ≤ count
fills_within from to old new count answer f = came_within answer count f.piece to f.came

-- what was held, and what came after it until the source ran out
pub held_out : {T : Type 0} (IsPart : List ℕ → Type 0) (old : Hand) {between new : Hand} {count : ℕ} {came : Result Bool ReadFault} {last answer : Result T KeytabFault}
    (f : Fills old.source between.source (record old { bytes = [] }) between count came) (r : RunsOutTo between new last answer) → IsPart f.piece → old.given + length f.piece ≤ file_limit
    → Moves old new (f.piece ++ r.piece) × Peaks IsPart (f.piece ++ r.piece) old.peak new.peak
held_out IsPart old {between} {new} f r part within = (
  record {
    consumed = Consumes-trans old.source between.source new.source f.piece r.piece f.keeps.consumed r.moves.consumed;
    given = omega (arith, f.keeps.given, r.moves.given, length-append f.piece r.piece);
    limit = λ l. r.moves.limit (omega (arith, f.keeps.given, within));
  },
  peaks_at IsPart (f.piece ++ r.piece) f.piece r.piece old.peak new.peak between.bytes refl part f.keeps.bytes (omega (arith, within)) (r.peak ∙ f.keeps.peak),
)

-- ---- the bytes of an entry

lost : (left : Option (List ℕ)) (at : ℕ) (piece : List ℕ) (fault : ReadFault) → MeetsLast left at piece (Some (source_fault fault))
lost left at piece source.Read = tt
lost left at piece source.OutOfMemory = tt

module _ {E : Type 0} (of_entry : KeytabEntry → E) (old new : Hand) (at count : ℕ) (fits : old.given + count ≤ file_limit) where
  pub body_met : (came : Result Bool ReadFault) (f : Fills old.source new.source (record old { bytes = [] }) new count came) (answer : Result (Found E) KeytabFault) → Meets of_entry new.source at (signed_bytes w32 (pos count) ++ f.piece) new.peak answer → MeetsBody of_entry old new at (pos count) answer
  body_met came f answer meets =
      let few = fills_within old.source new.source (record old { bytes = [] }) new count came f in
      record {
        piece = f.piece;
        moves = record { consumed = f.keeps.consumed; given = f.keeps.given; limit = λ l. omega (arith, f.keeps.given, few, fits) };
        peaks = peaks_at _ f.piece f.piece [] _ _ new.bytes (sym (append-nil f.piece)) few f.keeps.bytes (omega (arith, few, fits)) f.keeps.peak;
        meets = meets;
      }

  pub body_lost : (fault : ReadFault) → Fills old.source new.source (record old { bytes = [] }) new count (Err fault) → MeetsBody of_entry old new at (pos count) (Err (source_fault fault))
  body_lost fault f = body_met (Err fault) f (Err (source_fault fault)) (lost new.source at (signed_bytes w32 (pos count) ++ f.piece) fault)

-- a record of this size would pass the limit
pub body_cut : {E : Type 0} (of_entry : KeytabEntry → E) (old new : Hand) (at : ℕ) (size : ℤ) (answer : Result (Found E) KeytabFault) → FitsSigned w32 size → old.given ≡ at + 4 → old.given ≤ file_limit → file_limit - old.given < unsigned_abs size
    → RunsOutTo old new (Err (Truncated at)) answer → MeetsBody of_entry old new at size answer
body_cut of_entry old new at size answer fits here limit long r =
    let word : List ℕ = signed_bytes w32 size in
    record {
      piece = r.piece;
      moves = r.moves;
      peaks = peaks_kept _ r.piece _ _ (omega arith) r.peak;
      meets = ran (Meets of_entry new.source at (word ++ r.piece) new.peak) (Err (Truncated at)) answer new.source at new.given word r.piece (Some (Truncated at)) r.ran (omega (arith, here, limit)) (omega (arith, r.moves.given, here, length-append word r.piece))
          (λ more within. cut_off at size more fits (omega (arith, within, length-append word more, long, here))) (λ h. h) (λ h. h) tt;
    }

-- ---- a record

pub record_met : {E : Type 0} (of_entry : KeytabEntry → E) (old between new : Hand) (at : ℕ) (size other : ℤ) (answer : Result (Found E) KeytabFault) → MeetsSizeAt old between (Ok (Some size)) → at ≡ old.given → other ≡ size
    → MeetsBody of_entry between new at other answer → MeetsOne of_entry old new answer
record_met of_entry old between new at size other answer first is same body =
    let behind = subst (λ (z : ℤ). MeetsBody of_entry between new at z answer) same body in
    let word : List ℕ = signed_bytes w32 size in
    let whole = Consumes-trans old.source between.source new.source first.piece behind.piece first.moves.consumed behind.moves.consumed in
    record {
      piece = word ++ behind.piece;
      moves = record {
        consumed = subst (λ (t : List ℕ). Consumes old.source new.source (t ++ behind.piece)) first.meets.piece_is whole;
        given = omega (arith, first.moves.given, behind.moves.given, ap length first.meets.piece_is, length-append word behind.piece);
        limit = λ l. behind.moves.limit (first.moves.limit l);
      };
      peaks = peaks_on size behind.piece old.peak between.peak new.peak first.meets.fits (subst (λ (t : List ℕ). Peaks (λ part. length part ≤ 4) t old.peak between.peak) first.meets.piece_is first.peaks) behind.peaks;
      meets = subst (λ (n : ℕ). Meets of_entry new.source n (word ++ behind.piece) new.peak answer) is behind.meets;
    }

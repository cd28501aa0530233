-- Where a reader stands after what it met.
use Rattle.std.proofs.Common.{◌≡◌, ℕ, pos, ◌+◌, ◌-◌, ◌≤◌, Bool, List, [], ◌∷◌, ◌++◌, length, take, Option, Some, None, Result, Ok, Err, refl, sym, ap, subst, ◌∙◌, append_assoc, append-nil, arith, inl, inr}
use Rattle.std.specs.Int.{w32}
use Rattle.std.specs.List.{flat_map}
use Rattle.std.specs.Io.KnownBytes.{Consumes}
use Rattle.std.proofs.KnownBytes.{Consumes-nil, Consumes-trans}
use Rattle.std.proofs.lemmas.Bool.{cases_lt}
use Rattle.std.proofs.lemmas.List.{length-append, take_at}
use Rattle.std.proofs.lemmas.List.Elements.{All-push}
use Rattle.krb_file.specs.Cursor.{signed_bytes}
use Rattle.krb_file.specs.Window.{AtHand}
use Rattle.krb_file.specs.Hand.{Hand, window_hand}
use Rattle.krb_keytab.specs.Entry.{KeytabEntry}
use Rattle.krb_file.specs.File.{file_limit}
use Rattle.krb_keytab.specs.Format.{version, KeytabRecord, hole, entry, entry_bytes, record_bytes, FitsRecord, entries_of, IsReached}
use Rattle.krb_keytab.specs.Items.{LacksVersion, LacksRecord, Stops, StopsSo, IsTooLong, Concludes, EndsWithEntry, StandsTo, IsPartOfRecord, HasMet, HasRead, EntriesRead, passed, stage_after, stage_passed, entries_after, GivesMore}
use Rattle.krb_keytab.specs.Inner.Meeting.{Peaks, RanOut, OpensAt, MeetsVersion, IsWhole, IsLastAt, IsLongAt, MeetsLast, MeetsOne, Goes, PassesHoles, HasReached, IsFirst, MeetsBehind, MeetsNext, MeetsKept, MeetsFirst}
use Rattle.krb_keytab.specs.declared.fault.KeytabFault.{KeytabFault}
use Rattle.krb_keytab.specs.declared.fault.KeytabFault.TheVariants.{Version, TooLong, Read, OutOfMemory}
use Rattle.krb_keytab.specs.declared.found.Found.{Found}
use Rattle.krb_keytab.specs.declared.found.Found.TheVariants.{End, Hole, Entry}
use Rattle.krb_keytab.specs.declared.stage.Stage.{Stage}
use Rattle.krb_keytab.specs.declared.stage.Stage.TheVariants.{Start, Records}
use Rattle.krb_keytab.proofs.FileLaws.{reach_start, record_first, flat_push}
use Rattle.krb_keytab.proofs.MeetLaws.{cut_behind}

-- ---- whole records, and what lies after them

module _ (bytes : List ℕ) (entries : List KeytabEntry) (reached : IsReached bytes (length bytes) entries []) where
  pub reach_piece : (piece : List ℕ) → IsReached (bytes ++ piece) (length bytes) entries piece
  reach_piece piece =
      let front : List ℕ = flat_map record_bytes reached.records in
      record {
        records = reached.records;
        fit = reached.fit;
        bytes_are = ap (λ (t : List ℕ). t ++ piece) (reached.bytes_are ∙ ap (λ (t : List ℕ). version ++ t) (append-nil front));
        at_is = reached.at_is;
        entries_are = reached.entries_are;
      }

  pub reach_whole : (piece : List ℕ) (more : List KeytabEntry) → IsWhole (length bytes) piece more → IsReached (bytes ++ piece) (length (bytes ++ piece)) (entries ++ more) []
  unfolding reach_piece
  reach_whole piece more w =
      let front : List ℕ = flat_map record_bytes reached.records in
      let flat : flat_map record_bytes (reached.records ++ w.one ∷ []) ≡ front ++ record_bytes w.one = flat_push record_bytes reached.records w.one in
      let behind = reach_piece piece in
      record {
        records = reached.records ++ w.one ∷ [];
        fit = All-push FitsRecord reached.records w.one reached.fit w.fits;
        bytes_are = behind.bytes_are ∙ ap (λ (t : List ℕ). version ++ t) (ap (λ (t : List ℕ). front ++ t) w.piece_is ∙ sym flat ∙ sym (append-nil (flat_map record_bytes (reached.records ++ w.one ∷ []))));
        at_is = omega (arith, length-append bytes piece, reached.at_is, ap length w.piece_is, ap length flat, length-append front (record_bytes w.one));
        entries_are = ap (λ (t : List KeytabEntry). t ++ more) reached.entries_are ∙ ap (λ (t : List KeytabEntry). flat_map entries_of reached.records ++ t) w.entries_are ∙ sym (flat_push entries_of reached.records w.one);
      }

  stops_so : (some : List ℕ) (last : Option KeytabFault) → Stops some entries last → StopsSo some entries last
  stops_so some (Some Version) s = absurd s.lacks
  stops_so some _ s = s

  pub stops_at : (piece : List ℕ) (last : Option KeytabFault) → LacksRecord (length bytes) last piece → StopsSo (bytes ++ piece) entries last
  stops_at piece last lacks = stops_so (bytes ++ piece) last (record { at = length bytes; behind = piece; reached = reach_piece piece; lacks = lacks })

  concludes : (left : Option (List ℕ)) (piece : List ℕ) (last : Option KeytabFault) → IsLastAt left (length bytes) piece last → Concludes left (bytes ++ piece) entries last
  concludes left piece last l = record { limit = omega (arith, l.limit, length-append bytes piece); all = l.all; stops = stops_at piece last l.lacks }

  too_long : (piece : List ℕ) → length bytes ≤ file_limit → IsLongAt (length bytes) piece → IsTooLong (bytes ++ piece) entries
  too_long piece within l = record {
    long = omega (arith, l.long, length-append bytes piece);
    last = l.last;
    stops = subst (λ (t : List ℕ). StopsSo t entries l.last) (sym (cut_behind bytes piece file_limit within)) (stops_at (take (file_limit - length bytes) piece) l.last l.lacks);
  }

  pub failed_stands : (left : Option (List ℕ)) (held : ℕ) (piece : List ℕ) (fault : KeytabFault) → length bytes ≤ file_limit → MeetsLast left (length bytes) piece (Some fault) → StandsTo left held (stage_after (Err fault)) (bytes ++ piece) entries
  failed_stands left held piece TooLong within m = too_long piece within m
  failed_stands left held piece Read within m = inr (length bytes, piece, reach_piece piece)
  failed_stands left held piece OutOfMemory within m = inr (length bytes, piece, reach_piece piece)
  failed_stands left held piece fault within m = concludes left piece (Some fault) m

  ends_with : (held : ℕ) (piece : List ℕ) (e : KeytabEntry) (one : KeytabRecord) → FitsRecord one → piece ≡ record_bytes one → e ∷ [] ≡ entries_of one → length piece ≤ 4 + held → EndsWithEntry held (bytes ++ piece) (entries ++ e ∷ [])
  ends_with held piece e (hole ignored) fits is are room = absurd cc
  ends_with held piece e (entry last short_kvno rest) fits is are room =
      let body : List ℕ = entry_bytes last short_kvno rest in
      record {
        before = bytes;
        earlier = entries;
        reached = reached;
        last = last;
        short_kvno = short_kvno;
        rest = rest;
        fits = fits;
        bytes_are = ap (λ (t : List ℕ). bytes ++ t) is;
        entries_are = ap (λ (t : List KeytabEntry). entries ++ t) are;
        room = omega (arith, room, ap length is, length-append (signed_bytes w32 (pos (length body))) body);
      }

  pub entry_stands : (left : Option (List ℕ)) (held : ℕ) (piece : List ℕ) (e : KeytabEntry) → length piece ≤ 4 + held → IsWhole (length bytes) piece (e ∷ []) → StandsTo left held (stage_after (Ok (Some e))) (bytes ++ piece) (entries ++ e ∷ [])
  entry_stands left held piece e room m = (omega (arith, m.limit, length-append bytes piece), ends_with held piece e m.one m.fits m.piece_is m.entries_are room)

-- an entry's record is a whole one
pub ends_reached : (left : Option (List ℕ)) (held given : ℕ) (bytes : List ℕ) (entries : List KeytabEntry) → given ≡ length bytes → StandsTo left held Records bytes entries → HasReached given bytes entries
ends_reached left held given bytes entries here s =
    let w : EndsWithEntry held bytes entries = s.1 in
    let one : KeytabRecord = entry w.last w.short_kvno w.rest in
    let piece : List ℕ = record_bytes one in
    let more : List KeytabEntry = w.last ∷ [] in
    let whole : IsWhole (length w.before) piece more = record { one = one; fits = w.fits; piece_is = refl; entries_are = refl; limit = omega (arith, s.0, ap length w.bytes_are, length-append w.before piece) } in
    record { given_is = here; limit = s.0; reached = rw (w.bytes_are, w.entries_are) (reach_whole w.before w.earlier w.reached piece more whole) }

-- ---- what is at hand

met_before : (bytes piece : List ℕ) (old new : ℕ) → new ≤ old → HasMet bytes old → HasMet (bytes ++ piece) new
met_before bytes piece old new lower m = record {
  before = m.before;
  part = m.part;
  after = m.after ++ piece;
  bytes_are = ap (λ (t : List ℕ). t ++ piece) m.bytes_are ∙ append_assoc m.before (m.part ++ m.after) piece ∙ ap (λ (t : List ℕ). m.before ++ t) (append_assoc m.part m.after piece);
  enough = omega (arith, lower, m.enough);
  one = m.one;
}

pub met_record : (bytes piece : List ℕ) (entries : List KeytabEntry) (old new : ℕ) → IsReached bytes (length bytes) entries [] → Peaks IsPartOfRecord piece old new → HasMet bytes old → HasMet (bytes ++ piece) new
met_record bytes piece entries old new reached p m =
    elim (cases_lt old new) [
      | inl higher ↦ record {
        before = bytes;
        part = p.part;
        after = p.after;
        bytes_are = ap (λ (t : List ℕ). bytes ++ t) p.piece_is;
        enough = omega (arith, higher, p.peak);
        one = inr ((entries, reached), p.is_part);
      }
      | inr lower ↦ met_before bytes piece old new lower m
    ]

pub met_version : (piece : List ℕ) (old new : ℕ) → Peaks (λ part. length part ≤ 2) piece old new → HasMet [] old → HasMet piece new
met_version piece old new p m =
    elim (cases_lt old new) [
      | inl higher ↦ record { before = []; part = p.part; after = p.after; bytes_are = p.piece_is; enough = omega (arith, higher, p.peak); one = inl (refl, p.is_part) }
      | inr lower ↦ met_before [] piece old new lower m
    ]

-- ---- the version

pub lacks_more : (two more : List ℕ) → length two ≡ 2 → LacksVersion two → LacksVersion (two ++ more)
lacks_more two more size lacks = λ others e. lacks [] (sym (take_at two more 2 size) ∙ ap (take 2) e)

pub version_ran : (left : Option (List ℕ)) (given : ℕ) (two later : List ℕ) (answer : Result Unit KeytabFault) → RanOut (Err Version) answer left given → given ≡ length (two ++ later) → length two ≡ 2 → LacksVersion two → MeetsVersion left (two ++ later) answer
version_ran left given two later answer r g size lacks =
    elim r [
      | inl ended ↦ subst (MeetsVersion left (two ++ later)) (sym ended.0) (omega (arith, g, ended.1), ended.2, lacks_more two later size lacks)
      | inr other ↦ elim other [
        | inl past ↦ subst (MeetsVersion left (two ++ later)) (sym past.0) (omega (arith, g, past.1), subst LacksVersion (sym (cut_behind two later file_limit (omega (arith, size)))) (lacks_more two (take (file_limit - length two) later) size lacks))
        | inr read ↦ subst (MeetsVersion left (two ++ later)) (sym read) tt
      ]
    ]

-- ---- one step after the other

goes_then : {A B C : List ℕ → List KeytabEntry → Type 0} (old between new : Hand) → Goes A B old between → Goes B C between new → Goes A C old new
goes_then {C = C} old between new p q = record {
  piece = p.piece ++ q.piece;
  moves = record { consumed = Consumes-trans old.source between.source new.source p.piece q.piece p.moves.consumed q.moves.consumed; given = omega (arith, p.moves.given, q.moves.given, length-append p.piece q.piece); limit = λ l. q.moves.limit (p.moves.limit l) };
  grows = omega (arith, p.grows, q.grows);
  low = λ l. q.low (p.low l);
  stands = λ bytes entries b. subst (λ (t : List ℕ). C t entries) (append_assoc bytes p.piece q.piece) (q.stands (bytes ++ p.piece) entries (p.stands bytes entries b));
  met = λ bytes entries b was. subst (λ (t : List ℕ). HasMet t new.peak) (append_assoc bytes p.piece q.piece) (q.met (bytes ++ p.piece) entries (p.stands bytes entries b) (p.met bytes entries b was));
}

-- a record, or the end, or a fault
goes_one : {E : Type 0} {A : List ℕ → List KeytabEntry → Type 0} (of_entry : KeytabEntry → E) (old new : Hand) (found : Result (Found E) KeytabFault) (m : MeetsOne of_entry old new found)
    → ((bytes : List ℕ) (entries : List KeytabEntry) → HasReached old.given bytes entries → A (bytes ++ m.piece) entries) → Goes (HasReached old.given) A old new
goes_one of_entry old new found m stands = record {
  piece = m.piece;
  moves = m.moves;
  grows = m.peaks.grows;
  low = m.peaks.low;
  stands = stands;
  met = λ bytes entries b was. met_record bytes m.piece entries old.peak new.peak b.reached m.peaks was;
}

-- ---- holes, and then another answer

pub passes_none : (window : Hand) → PassesHoles window window
passes_none window = record {
  piece = [];
  moves = record { consumed = Consumes-nil window.source; given = omega arith; limit = λ l. l };
  grows = omega arith;
  low = λ l. l;
  stands = λ bytes entries b. subst (λ (t : List ℕ). HasReached window.given t entries) (sym (append-nil bytes)) b;
  met = λ bytes entries b m. subst (λ (t : List ℕ). HasMet t window.peak) (sym (append-nil bytes)) m;
}

abbrev said_of : {E : Type 0} → Result (Option E) KeytabFault → Result (Option E) KeytabFault
said_of said = said

module _ {E : Type 0} (of_entry : KeytabEntry → E) (old between new : Hand) (h : PassesHoles old between) where
  pub passes_hole : MeetsOne of_entry between new (Ok Hole) → PassesHoles old new
  passes_hole m = goes_then old between new h (goes_one of_entry between new (Ok Hole) m (λ bytes entries b.
      let whole : IsWhole (length bytes) m.piece [] = rw b.given_is at m.meets in
      record {
        given_is = omega (arith, m.moves.given, b.given_is, length-append bytes m.piece);
        limit = omega (arith, whole.limit, length-append bytes m.piece);
        reached = rw append-nil at (reach_whole bytes entries b.reached m.piece [] whole);
      }))

  pub next_end : between.given ≤ file_limit → MeetsOne of_entry between new (Ok End) → MeetsKept of_entry old new (Ok None)
  next_end limit m = record {
    answer = Ok None;
    said_is = refl;
    meets = record {
      goes = goes_then old between new h (goes_one of_entry between new (Ok End) m (λ bytes entries b. concludes bytes entries b.reached new.source m.piece None (rw b.given_is at m.meets)));
      within = m.moves.limit (omega (arith, limit));
      more = tt;
    };
  }

  pub next_kept : (kept : E) → MeetsOne of_entry between new (Ok (Entry kept)) → MeetsKept of_entry old new (Ok (Some kept))
  next_kept kept m =
      let e = m.meets.0 in
      let whole : IsWhole between.given m.piece (e ∷ []) = m.meets.3 in
      record {
        answer = Ok (Some e);
        said_is = ap (λ (k : E). said_of (Ok (Some k))) m.meets.1;
        meets = record {
          goes = goes_then old between new h (goes_one of_entry between new (Ok (Entry kept)) m (λ bytes entries b. entry_stands bytes entries b.reached new.source new.peak m.piece e m.meets.2 (rw b.given_is at whole)));
          within = omega (arith, whole.limit, m.moves.given);
          more = (omega (arith, m.moves.given, h.moves.given, ap length whole.piece_is, record_first whole.one), omega (arith, whole.limit, m.moves.given));
        };
      }

  pub next_fault : between.given ≤ file_limit → (fault : KeytabFault) → MeetsOne of_entry between new (Err fault) → MeetsKept of_entry old new (Err fault)
  next_fault limit fault m = record {
    answer = Err fault;
    said_is = refl;
    meets = record {
      goes = goes_then old between new h (goes_one of_entry between new (Err fault) m (λ bytes entries b. failed_stands bytes entries b.reached new.source new.peak m.piece fault b.limit (subst (λ (n : ℕ). MeetsLast new.source n m.piece (Some fault)) b.given_is m.meets)));
      within = m.moves.limit (omega (arith, limit));
      more = tt;
    };
  }

-- ---- the first answer

more_after : (old between new : ℕ) (answer : Result (Option KeytabEntry) KeytabFault) → old ≤ between → GivesMore answer between new → GivesMore answer old new
more_after old between new (Ok (Some e)) within more = (omega (arith, within, more.0), more.1)
more_after old between new _ within more = tt

goes_first : {A : List ℕ → List KeytabEntry → Type 0} (old new : Hand) (opened : Result Unit KeytabFault) (o : OpensAt old new opened) → A o.piece [] → Goes IsFirst A old new
goes_first old new opened o stands = record {
  piece = o.piece;
  moves = o.moves;
  grows = o.peaks.grows;
  low = o.peaks.low;
  stands = λ bytes entries none. rw (none.0, none.1) stands;
  met = λ bytes entries none was. rw none.0 (met_version o.piece old.peak new.peak o.peaks (rw none.0 at was));
}

pub first_next : (old between new : Hand) (opened : Unit) (answer : Result (Option KeytabEntry) KeytabFault) → OpensAt old between (Ok opened) → old.given ≡ 0
    → MeetsNext between new answer → MeetsFirst old new answer
first_next old between new opened answer o start n =
    let behind : HasReached between.given o.piece [] = record {
      given_is = omega (arith, o.moves.given, start);
      limit = omega (arith, ap length o.meets);
      reached = subst (λ (t : List ℕ). IsReached t (length t) [] []) (sym o.meets) (reach_start version [] refl);
    } in
    record {
      goes = goes_then old between new (goes_first old between (Ok opened) o behind) n.goes;
      within = n.within;
      more = more_after old.given between.given new.given answer (omega (arith, start)) n.more;
    }

version_stands : (left : Option (List ℕ)) (held : ℕ) (piece : List ℕ) (fault : KeytabFault) → MeetsVersion left piece (Err fault) → StandsTo left held (stage_after (Err fault)) piece []
version_stands left held piece Version m = record { limit = m.0; all = m.1; stops = (refl, m.2) }
version_stands left held piece TooLong m = record { long = m.0; last = Some Version; stops = (refl, m.1) }
version_stands left held piece Read m = inl refl
version_stands left held piece OutOfMemory m = inl refl
version_stands left held piece _ m = absurd m

pub first_fault : (old new : Hand) (fault : KeytabFault) → OpensAt old new (Err fault) → old.given ≡ 0 → MeetsFirst old new (Err fault)
first_fault old new fault o start = record {
  goes = goes_first old new (Err fault) o (version_stands new.source new.peak o.piece fault o.meets);
  within = o.moves.limit (omega (arith, start));
  more = tt;
}

-- ---- what a reader has read

-- what a reader has read, once it has given the next answer
abbrev HasReadOn : {S : Type 0} → Option (List ℕ) → Option (List ℕ) → AtHand S → Result (Option KeytabEntry) KeytabFault → List ℕ → List KeytabEntry → Type 0
HasReadOn from to new answer bytes entries =
    (piece : List ℕ) × Consumes from to piece × HasRead to (record { source = new.source; held = new.peak; given = new.given; stage = stage_after answer }) (bytes ++ piece) (entries_after entries answer)

read_behind : {S : Type 0} (left : S → Option (List ℕ)) (CameBefore : List ℕ → List KeytabEntry → Type 0) (reader : EntriesRead S) (old new : AtHand S) (answer : Result (Option KeytabEntry) KeytabFault) → reader.held ≡ old.peak → MeetsBehind CameBefore (window_hand left old) (window_hand left new) answer
    → (bytes : List ℕ) (entries : List KeytabEntry) → CameBefore bytes entries → old.given ≡ length bytes → HasRead (left old.source) reader bytes entries → HasReadOn (left old.source) (left new.source) new answer bytes entries
read_behind left CameBefore reader old new answer held m bytes entries before here r = (
  m.goes.piece,
  m.goes.moves.consumed,
  record {
    given = omega (arith, m.goes.moves.given, here, length-append bytes m.goes.piece);
    stands = m.goes.stands bytes entries before;
    held = m.goes.met bytes entries before (subst (HasMet bytes) held r.held);
  },
)

pub read_first : {S : Type 0} (left : S → Option (List ℕ)) (reader : EntriesRead S) (old new : AtHand S) (answer : Result (Option KeytabEntry) KeytabFault) → reader.stage ≡ Start → reader.held ≡ old.peak → MeetsFirst (window_hand left old) (window_hand left new) answer → old.given ≡ 0
    → (bytes : List ℕ) (entries : List KeytabEntry) → HasRead (left old.source) reader bytes entries → HasReadOn (left old.source) (left new.source) new answer bytes entries
read_first left reader old new answer stage held m start bytes entries r =
    let none = subst (λ (s : Stage). StandsTo (left old.source) reader.held s bytes entries) stage r.stands in
    read_behind left IsFirst reader old new answer held m bytes entries none (omega (arith, start, ap length none.0)) r

pub read_next : {S : Type 0} (left : S → Option (List ℕ)) (reader : EntriesRead S) (old new : AtHand S) (answer : Result (Option KeytabEntry) KeytabFault) → reader.stage ≡ Records → reader.held ≡ old.peak → reader.given ≡ old.given → MeetsNext (window_hand left old) (window_hand left new) answer
    → (bytes : List ℕ) (entries : List KeytabEntry) → HasRead (left old.source) reader bytes entries → HasReadOn (left old.source) (left new.source) new answer bytes entries
read_next left reader old new answer stage held given m bytes entries r =
    let stands = subst (λ (s : Stage). StandsTo (left old.source) reader.held s bytes entries) stage r.stands in
    let here : old.given ≡ length bytes = sym given ∙ r.given in
    read_behind left (HasReached old.given) reader old new answer held m bytes entries (ends_reached (left old.source) reader.held old.given bytes entries here stands) here r

-- the same answer, and no byte more
pub read_again : {S : Type 0} (left : Option (List ℕ)) (reader : EntriesRead S) (bytes : List ℕ) (entries : List KeytabEntry) → HasRead left reader bytes entries → (piece : List ℕ) × Consumes left left piece × HasRead left reader (bytes ++ piece) entries
read_again left reader bytes entries r = ([], Consumes-nil left, subst (λ (t : List ℕ). HasRead left reader t entries) (sym (append-nil bytes)) r)

-- what is answered says only whether there is an entry
pub read_past : {S : Type 0} (from to : Option (List ℕ)) (reader : EntriesRead S) (new : AtHand S) (said : Result Bool KeytabFault) (answer : Result (Option KeytabEntry) KeytabFault) → said ≡ passed answer
    → ((bytes : List ℕ) (entries : List KeytabEntry) → HasRead from reader bytes entries → HasReadOn from to new answer bytes entries)
    → (bytes : List ℕ) (entries : List KeytabEntry) → HasRead from reader bytes entries
    → (as_next : Result (Option KeytabEntry) KeytabFault) × (said ≡ passed as_next) × (piece : List ℕ) × Consumes from to piece
    × HasRead to (record { source = new.source; held = new.peak; given = new.given; stage = stage_passed said }) (bytes ++ piece) (entries_after entries as_next)
read_past from to reader new said answer is reads bytes entries r =
    let next = reads bytes entries r in (
      answer,
      is,
      next.0,
      next.1,
      subst (λ (t : Result Bool KeytabFault). HasRead to (record { source = new.source; held = new.peak; given = new.given; stage = stage_passed t }) (bytes ++ next.0) (entries_after entries answer)) (sym is) next.2,
    )

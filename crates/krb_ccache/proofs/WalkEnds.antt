-- What a walk took, in the words of a spelling.
use Rattle.std.proofs.Common.{◌≡◌, ℕ, ◌+◌, ◌-◌, ◌%◌, ◌<◌, ◌≤◌, ◌∷◌, Result, Ok, Err, Bool, true, false, List, [], ◌++◌, length, drop, Option, Some, None, refl, sym, ap, subst, ◌∙◌, append-nil, arith, inl, inr}
use Rattle.std.specs.Int.{w8, w16}
use Rattle.std.specs.Prelude.{OnOk, OnErr, MatchBool, is_ok}
use Rattle.std.proofs.lemmas.Bool.{cases_lt}
use Rattle.std.proofs.lemmas.List.{length-drop}
use Rattle.krb_file.specs.Hand.{Hand}
use Rattle.krb_file.specs.declared.cursor.Short.{Short}
use Rattle.krb_file.specs.File.{file_limit}
use Rattle.std.proofs.KnownBytes.{Consumes-nil}
use Rattle.krb_file.specs.Cursor.{Place, ◌>>=◌, data_at, number_bytes}
use Rattle.krb_file.specs.Field.{IsBytes, IsField}
use Rattle.krb_file.proofs.CursorLaws.{some_is, IsField-bytes, IsField-data16}
use Rattle.krb_ccache.specs.Types.{Principal, HeaderField, Layout, Version3, Version4}
use Rattle.krb_ccache.specs.declared.walking.TakeFault.{TakeFault}
use Rattle.krb_ccache.specs.declared.walking.TakeFault.TheVariants as stop
use Rattle.krb_ccache.specs.Spelling.{fields_bytes, header_bytes, name_bytes, marked_bytes}
use Rattle.krb_ccache.specs.Value.{FitsHeader, FitsName}
use Rattle.krb_ccache.specs.Format.{version_of, head_bytes, FitsHead, Spelled, Spells}
use Rattle.krb_ccache.specs.Inner.Reading.{name_at}
use Rattle.krb_ccache.specs.Inner.Row.{row_at}
use Rattle.krb_ccache.specs.Inner.Stepping.{Any, Stands}
use Rattle.krb_ccache.specs.Inner.Standing.{bytes_of, Lies, IsMissing}
use Rattle.krb_ccache.specs.Inner.Walking.{Pass, passed_at, skip_at, pass_none, pass_if, Goes, Stops, Taken, TookFewer, Spans, Wants, Walks, Halts, Marked, FitsKeyed, whole}
use Rattle.krb_ccache.proofs.PartLaws.{IsField-name, IsField-row}
use Rattle.krb_ccache.proofs.WalkLaws.{shorter_front, bytes_goes, bytes_stops}
use Rattle.krb_ccache.proofs.Fields.{none_then}
use Rattle.krb_ccache.proofs.FileLaws.{name_lies, name_missing}
use Rattle.krb_ccache.proofs.WalkParts.{passed_some}
use Rattle.krb_ccache.proofs.CredentialLaws.{fields, passed_lies, passed_missing, parts_of, parts_bytes, fits_parts, marked, whole_is}

-- ---- a spelling is passed over

abbrev pub Passes : Pass → List ℕ → Type 0
Passes p bytes = (at : ℕ) (more : List ℕ) → p (record { at = at; rest = bytes ++ more }) ≡ Some (record { at = at + length bytes; rest = more })

pub field_passes : {X : Type 0} {read : Place → Option (X × Place)} {s : X → List ℕ} {P : X → Type 0} → IsField read s P → (x : X) → P x → Passes (passed_at read) (s x)
field_passes field x p at more = ap (λ (o : Option (_ × Place)). o >>= λ y. Some y.1) (field.again at x more p)

pub header_passes : (header : List HeaderField) → FitsHeader header → Passes (passed_at (data_at w16)) (header_bytes header)
header_passes header fits = field_passes IsField-data16 (fields_bytes header) fits.lengths.whole

pub name_passes : (name : Principal) → FitsName name → Passes (passed_at name_at) (name_bytes name)
name_passes name fits = field_passes IsField-name name fits

pub version_passes : (layout : Layout) → Any layout → Passes (skip_at 2) (version_of layout)
version_passes Version3 a = field_passes (IsField-bytes 2) (version_of Version3) refl
version_passes Version4 a = field_passes (IsField-bytes 2) (version_of Version4) refl

pub whole_passes : (layout : Layout) (m : Marked) → FitsKeyed layout m → Passes (passed_at (row_at fields false layout)) (whole m)
whole_passes layout m fits =
    let small : Marked = record m { mark = m.mark % 256 } in
    let same : number_bytes w8 (m.mark % 256) ≡ number_bytes w8 m.mark = ap (λ (n : ℕ). n ∷ []) (omega arith) in
    subst (Passes (passed_at (row_at fields false layout))) (parts_bytes small ∙ ap (marked_bytes m.credential m.second) same)
    (field_passes (IsField-row fields false layout) (parts_of small) (fits_parts layout false small fits (omega arith, refl)))

pub spelled_passes : (layout : Layout) (one : Spelled) → Spells layout one → Passes (passed_at (row_at fields false layout)) one.bytes
spelled_passes layout one h = subst (Passes (passed_at (row_at fields false layout))) (whole_is layout one h) (whole_passes layout (marked layout one h) (h.fits, h.size))

-- ---- of a source

module _ {Y : Type 0} (pass : Pass) (s : Y → List ℕ) (P : Y → Type 0) (passes : (y : Y) → P y → Passes pass (s y)) where
  spans_of : (piece : List ℕ) → Passes pass piece → Spans s P piece
  spans_of piece h y more others p e =
      let both = some_is (record { at = 0 + length piece; rest = more }) (record { at = 0 + length (s y); rest = others }) (sym (h 0 more) ∙ ap (λ (t : List ℕ). pass (record { at = 0; rest = t })) e ∙ passes y p 0 others) in
      omega (arith, ap (λ (k : Place). k.at) both)

  none_some : (at : ℕ) (bytes : List ℕ) (y : Y) (more : List ℕ) → P y → bytes ≡ s y ++ more → pass (record { at = at; rest = bytes }) ≡ None → ⊥
  none_some at bytes y more p e none =
      let some = ap (λ (t : List ℕ). pass (record { at = at; rest = t })) e ∙ passes y p at more in
      absurd cc

  wants_of : (piece : List ℕ) (count : ℕ) → 0 < count → ((at : ℕ) (more : List ℕ) → length more < count → pass (record { at = at; rest = piece ++ more }) ≡ None) → Wants s P piece count
  wants_of piece count some h y more others p e =
      elim (cases_lt (length (s y)) (length piece + count)) [
        | inr enough ↦ enough
        | inl few ↦
            elim (cases_lt (length (s y)) (length piece)) [
              | inl shorter ↦
                  let is : piece ≡ s y ++ drop (length (s y)) piece = shorter_front (s y) piece others more (omega (arith, shorter)) (sym e) in
                  absurd (none_some 0 (piece ++ []) y (drop (length (s y)) piece) p (append-nil piece ∙ is) (h 0 [] some))
              | inr longer ↦
                  let back : List ℕ = drop (length piece) (s y) in
                  let is : s y ≡ piece ++ back = shorter_front piece (s y) more others longer e in
                  absurd (none_some 0 (piece ++ back) y [] p (sym is ∙ sym (append-nil (s y))) (h 0 back (omega (arith, length-drop (length piece) (s y), few, longer))))
            ]
      ]

  module _ (old new : Hand) where
    pub walks_of : Goes pass pass_none old new → Walks s P old new
    walks_of w = record {
      piece = w.piece;
      keeps = w.keeps;
      within = w.within;
      spans = spans_of w.piece w.same;
    }

    pub halts_of : {memory : Type 0} (stop : TakeFault) → Stops pass memory old new stop → Halts s P memory old new stop
    halts_of stop h = record {
      piece = h.piece;
      keeps = h.keeps;
      within = h.within;
      count = h.count;
      wants = wants_of h.piece h.count h.some h.none;
      cant_come = h.lacks;
    }

-- what comes before the default principal
module _ (old new : Hand) where
  pub version_walks : Taken 2 old new → Walks version_of Any old new
  version_walks t = walks_of (skip_at 2) version_of Any version_passes old new (bytes_goes 2 _ _ t)

  pub version_halts : {memory : Type 0} (stop : TakeFault) → TookFewer memory 2 old new stop → Halts version_of Any memory old new stop
  version_halts stop t = halts_of (skip_at 2) version_of Any version_passes old new stop (bytes_stops _ 2 _ _ stop t)

  pub header_walks : Goes (passed_at (data_at w16)) pass_none old new → Walks header_bytes FitsHeader old new
  header_walks = walks_of (passed_at (data_at w16)) header_bytes FitsHeader header_passes old new

  pub header_halts : {memory : Type 0} (stop : TakeFault) → Stops (passed_at (data_at w16)) memory old new stop → Halts header_bytes FitsHeader memory old new stop
  header_halts stop h = halts_of (passed_at (data_at w16)) header_bytes FitsHeader header_passes old new stop h

  pub name_walks : Goes (passed_at name_at) pass_none old new → Walks name_bytes FitsName old new
  name_walks = walks_of (passed_at name_at) name_bytes FitsName name_passes old new

  pub name_halts : {memory : Type 0} (stop : TakeFault) → Stops (passed_at name_at) memory old new stop → Halts name_bytes FitsName memory old new stop
  name_halts stop h = halts_of (passed_at name_at) name_bytes FitsName name_passes old new stop h

-- there is no header
module _ (old : Hand) (none : old.bytes ≡ []) where
  pub no_header_walks : old.given ≤ file_limit → Walks (head_bytes Version3) (FitsHead Version3) old old
  no_header_walks within = record {
    piece = [];
    keeps = record { consumed = Consumes-nil old.source; bytes = sym (append-nil old.bytes); peak = omega (arith, ap length none); given = omega arith };
    within = within;
    spans = λ x more others p e. refl;
  }

  pub no_header_stands : (header : List HeaderField) × Stands (head_bytes Version3) (FitsHead Version3) old.bytes header
  no_header_stands = ([], record { fits = refl; others = old.bytes; bytes_are = refl })

-- a credential: its bytes, and those of one with any byte for its flag
module _ (layout : Layout) (old new : Hand) where
  pub one_walks : Goes (passed_at (row_at fields false layout)) pass_none old new → Walks bytes_of (Spells layout) old new × Walks whole (FitsKeyed layout) old new
  one_walks w = (walks_of (passed_at (row_at fields false layout)) bytes_of (Spells layout) (spelled_passes layout) old new w, walks_of (passed_at (row_at fields false layout)) whole (FitsKeyed layout) (whole_passes layout) old new w)

  pub one_halts : {memory : Type 0} (stop : TakeFault) → Stops (passed_at (row_at fields false layout)) memory old new stop → Halts bytes_of (Spells layout) memory old new stop × Halts whole (FitsKeyed layout) memory old new stop
  one_halts stop h = (halts_of (passed_at (row_at fields false layout)) bytes_of (Spells layout) (spelled_passes layout) old new stop h, halts_of (passed_at (row_at fields false layout)) whole (FitsKeyed layout) (whole_passes layout) old new stop h)

-- what was asked of a source
module _ (old : Hand) (count : ℕ) where
  pub nothing_comes : {memory : Type 0} → length old.bytes ≤ old.peak → old.given ≤ file_limit → file_limit - old.given < count → TookFewer memory count old old stop.Long
  nothing_comes peak within long = record {
    piece = [];
    keeps = record { consumed = Consumes-nil old.source; bytes = sym (append-nil old.bytes); peak = omega (arith, peak); given = omega arith };
    within = within;
    fewer = omega (arith, long);
    lacks = omega (arith, long, within);
  }

-- what was taken stands at hand, if its flags are flags; else no such thing does
module _ {X : Type 0} (s : X → List ℕ) (P : X → Type 0) (pass : Pass) (old new : Hand) (good : Bool) (clear : old.bytes ≡ []) (g : Goes pass (pass_if good) old new) where
  abbrev at_hand : Place
  at_hand = record { at = 0; rest = new.bytes }

  all_passed : (b : Bool) → good ≡ b → pass at_hand ≡ pass_if b (record { at = 0 + length g.piece; rest = [] })
  all_passed b flag =
      let is : new.bytes ≡ g.piece ++ [] = g.keeps.bytes ∙ ap (λ (t : List ℕ). t ++ g.piece) clear ∙ sym (append-nil g.piece) in
      ap (λ (t : List ℕ). pass (record { at = 0; rest = t })) is ∙ g.same 0 [] ∙ ap (λ (x : Bool). pass_if x (record { at = 0 + length g.piece; rest = [] })) flag

  pub stands_if : ((place behind : Place) → IsBytes place.rest → pass place ≡ Some behind → (x : X) × Lies s P place x behind) → good ≡ true → IsBytes new.bytes → (x : X) × Stands s P new.bytes x
  stands_if lies flag fits =
      let one = lies at_hand (record { at = 0 + length g.piece; rest = [] }) fits (all_passed true flag) in
      (one.0, record { fits = one.1.fits; others = []; bytes_are = one.1.takes.parts })

  pub missing_if : ((place : Place) → pass place ≡ None → IsMissing s P place.rest) → good ≡ false → IsMissing s P new.bytes
  missing_if missing flag = missing at_hand (all_passed false flag)

-- a credential, and a principal
pub one_stands : (layout : Layout) (old new : Hand) (good : Bool) → old.bytes ≡ [] → Goes (passed_at (row_at fields true layout)) (pass_if good) old new → good ≡ true → IsBytes new.bytes → (one : Spelled) × Stands bytes_of (Spells layout) new.bytes one
one_stands layout old new good clear g = stands_if bytes_of (Spells layout) (passed_at (row_at fields true layout)) old new good clear g (passed_lies layout)

pub none_stands : (layout : Layout) (old new : Hand) (good : Bool) → old.bytes ≡ [] → Goes (passed_at (row_at fields true layout)) (pass_if good) old new → good ≡ false → IsMissing bytes_of (Spells layout) new.bytes
none_stands layout old new good clear g = missing_if bytes_of (Spells layout) (passed_at (row_at fields true layout)) old new good clear g (passed_missing layout)

pub name_there : (old new : Hand) (good : Bool) → old.bytes ≡ [] → Goes (passed_at name_at) (pass_if good) old new → IsBytes new.bytes → MatchBool good ((name : Principal) × Stands name_bytes FitsName new.bytes name) (IsMissing name_bytes FitsName new.bytes)
name_there old new good clear g fits = by_flag good refl
  where
    lies : (place behind : Place) → IsBytes place.rest → passed_at name_at place ≡ Some behind → (name : Principal) × Lies name_bytes FitsName place name behind
    lies place behind bytes e = let name = passed_some (name_at place) behind e in (name.0, name_lies place name.0 behind bytes name.1)

    missing : (place : Place) → passed_at name_at place ≡ None → IsMissing name_bytes FitsName place.rest
    missing place e = name_missing place (none_then (name_at place) (λ x. x.1) e)

    by_flag : (b : Bool) → good ≡ b → MatchBool b ((name : Principal) × Stands name_bytes FitsName new.bytes name) (IsMissing name_bytes FitsName new.bytes)
    by_flag true flag = stands_if name_bytes FitsName (passed_at name_at) old new good clear g lies flag fits
    by_flag false flag = missing_if name_bytes FitsName (passed_at name_at) old new good clear g missing flag

-- a part that is looked for at the front of what is at hand
module _ {X : Type 0} (s : X → List ℕ) (P : X → Type 0) where
  abbrev IsThere : Bool → List ℕ → Type 0
  IsThere there bytes = MatchBool there ((x : X) × Stands s P bytes x) (IsMissing s P bytes)

  found_there : (bytes : List ℕ) (place behind : Place) (found : Result (Unit {0}) Short) → place ≡ record { at = 0; rest = bytes } → OnOk found ((x : X) × Lies s P place x behind) → OnErr found (IsMissing s P place.rest) → IsThere (is_ok found) bytes
  found_there bytes place behind (Ok tt) here ok missing = (ok.0, record { fits = ok.1.fits; others = behind.rest; bytes_are = sym (ap (λ (p : Place). p.rest) here) ∙ ok.1.takes.parts })
  found_there bytes place behind (Err short) here ok missing = subst (IsMissing s P) (ap (λ (p : Place). p.rest) here) missing

  pub there_of : (bytes hand : List ℕ) (place behind : Place) (found : Result (Unit {0}) Short) (there : Bool) → bytes ≡ hand → place ≡ record { at = 0; rest = bytes } → there ≡ is_ok found → OnOk found ((x : X) × Lies s P place x behind) → OnErr found (IsMissing s P place.rest)
      → MatchBool there ((x : X) × Stands s P hand x) (IsMissing s P hand)
  there_of bytes hand place behind found there same here is ok missing = subst (IsThere there) same (subst (λ (b : Bool). IsThere b bytes) (sym is) (found_there bytes place behind found here ok missing))

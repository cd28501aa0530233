-- The header of a cache.
use Rattle.std.proofs.Common.{◌≡◌, ◌⊎◌, ℕ, ◌<◌, ◌^◌, true, List, [], ◌++◌, length, Some, None, refl, sym, ap, subst, ◌∙◌, append-nil, arith, inl, inr}
use Rattle.std.specs.Int.{w16}
use Rattle.std.specs.Prelude.{All}
use Rattle.std.proofs.lemmas.Bool.Decides.{nat_tests}
use Rattle.std.proofs.lemmas.List.{length-append}
use Rattle.std.proofs.lemmas.List.Elements.{recursion_from_All}
use Rattle.krb_file.specs.Cursor.{Place, data_at, number_bytes, data_bytes}
use Rattle.krb_file.specs.Field.{IsBytes, Takes}
use Rattle.krb_file.proofs.CursorLaws.{IsField-data16}
use Rattle.krb_ccache.specs.Types.{HeaderField}
use Rattle.krb_ccache.specs.Spelling.{field_bytes, fields_bytes, header_bytes}
use Rattle.krb_ccache.specs.Value.{FitsHeader}
use Rattle.krb_ccache.specs.Inner.Reading.{is_field, field_at}
use Rattle.krb_ccache.specs.Inner.Standing.{Lies, Reaches, IsMissing, Fills, FitsField}
use Rattle.krb_ccache.proofs.PartLaws.{Short16, IsField-field}
use Rattle.krb_ccache.proofs.Repeats.{same_front, lies_where, missing_where, same_things, reach_none, Goes, goes}

-- ---- the fields

pub field_some : (field : HeaderField) → FitsField field → 0 < length (field_bytes field)
field_some field fits = omega (arith, length-append (number_bytes w16 field.tag) (data_bytes w16 field.value))

offset_length : (field : HeaderField) → is_field field ≡ true → field.tag ≡ 1 → length field.value ≡ 8
offset_length field passes tag = grind (arith, nat_tests)

has_length : (field : HeaderField) → (field.tag ≡ 1 → length field.value ≡ 8) → is_field field ≡ true
has_length field h = grind (arith, nat_tests)

pub fields_fit : (fields : List HeaderField) → All FitsField fields → length (fields_bytes fields) < 2 ^ 16 → FitsHeader fields
fields_fit fields fit whole = record {
  lengths = record { whole = whole; values = λ k d lt. (fit k d lt).0.1; offsets = λ k d lt. offset_length _ (fit k d lt).1 };
  tags = λ k d lt. (fit k d lt).0.0;
}

pub fits_fields : (fields : List HeaderField) → FitsHeader fields → All FitsField fields
fits_fields fields fits = λ k d lt. ((fits.tags k d lt, fits.lengths.values k d lt), has_length _ (fits.lengths.offsets k d lt))

-- ---- a loop over the fields

pub start_of : (body : List ℕ) (place : Place) (fields : List HeaderField) → IsBytes body → place ≡ record { at = 0; rest = body } → fields ≡ [] → Reaches field_bytes FitsField (record { at = 0; rest = body }) fields place
start_of body place fields fits e f = rw (e, f) (reach_none field_at field_bytes FitsField IsField-field (record { at = 0; rest = body }) fits)

pub field_goes : (body : List ℕ) (place : Place) (fields : List HeaderField) (field : HeaderField) (behind : Place) → Reaches field_bytes FitsField (record { at = 0; rest = body }) fields place
    → field_at place ≡ Some (field, behind) → Goes field_at field_bytes FitsField IsField-field field_some (record { at = 0; rest = body }) place fields field behind
field_goes body place fields field behind reaches e =
    goes _ _ _ IsField-field field_some (record { at = 0; rest = body }) place fields field behind reaches (lies_where _ _ _ IsField-field place field behind reaches.takes.rest_fits e)

pub filled : (body : List ℕ) (place : Place) (fields : List HeaderField) → length body < 2 ^ 16 → Reaches field_bytes FitsField (record { at = 0; rest = body }) fields place → place.rest ≡ [] → Fills body fields
filled body place fields short reaches end =
    let whole : body ≡ fields_bytes fields = reaches.takes.parts ∙ ap (λ (t : List ℕ). fields_bytes fields ++ t) end ∙ append-nil (fields_bytes fields) in
    record { fits = fields_fit fields reaches.fit (subst Short16 whole short); whole = whole }

-- fields that fill the bytes leave none after those that were read
pub filled_same : (body : List ℕ) (place : Place) (fields : List HeaderField) → Reaches field_bytes FitsField (record { at = 0; rest = body }) fields place → (place.rest ≡ []) ⊎ IsMissing field_bytes FitsField place.rest
    → (header : List HeaderField) → Fills body header → place.rest ≡ []
filled_same body place fields reaches end header fills =
    (same_things field_at field_bytes FitsField IsField-field field_some fields header place.rest [] (recursion_from_All FitsField fields reaches.fit) (recursion_from_All FitsField header (fits_fields header fills.fits))
    end (inl refl) (sym reaches.takes.parts ∙ fills.whole ∙ sym (append-nil (fields_bytes header)))).1

pub not_filled : (body : List ℕ) (place : Place) (fields : List HeaderField) → Reaches field_bytes FitsField (record { at = 0; rest = body }) fields place → (place.rest ≡ [] → ⊥) → field_at place ≡ None
    → (header : List HeaderField) → Fills body header → ⊥
not_filled body place fields reaches more none header fills = more (filled_same body place fields reaches (inr (missing_where field_at field_bytes FitsField IsField-field place none)) header fills)

-- ---- the header

pub header_lies : (place : Place) (body : List ℕ) (behind : Place) (header : List HeaderField) → IsBytes place.rest → data_at w16 place ≡ Some (body, behind) → Fills body header → Lies header_bytes FitsHeader place header behind
header_lies place body behind header fits e fills =
    let t = IsField-data16.takes place body behind fits e in
    record { fits = fills.fits; takes = subst (λ (text : List ℕ). Takes place (data_bytes w16 text) behind) fills.whole t.0 }

pub header_cut : (place : Place) → data_at w16 place ≡ None → IsMissing header_bytes FitsHeader place.rest
header_cut place none header others fits e = missing_where (data_at w16) (data_bytes w16) Short16 IsField-data16 place none (fields_bytes header) others fits.lengths.whole e

pub header_wrong : (place : Place) (body : List ℕ) (behind : Place) → IsBytes place.rest → data_at w16 place ≡ Some (body, behind) → ((header : List HeaderField) → Fills body header → ⊥)
    → IsMissing header_bytes FitsHeader place.rest
header_wrong place body behind fits e wrong header others h f =
    let t = IsField-data16.takes place body behind fits e in
    let same = same_front (data_at w16) (data_bytes w16) Short16 IsField-data16 body (fields_bytes header) behind.rest others t.1 h.lengths.whole (sym t.0.parts ∙ f) in
    wrong header (record { fits = h; whole = same.0 })

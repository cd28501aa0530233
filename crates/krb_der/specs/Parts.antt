-- Messages whose parts are found in place: a schema of the tags of elements (X.690, section 8.1) and of what is in them, and where the
-- parts of a message stand.
use Rattle.std.specs.Prelude.{◌≡◌, ◌≢◌, ◌⊎◌, ℕ, ◌<◌, ◌%◌, [], false, Option, Some, None}
use Rattle.krb_der.specs.Place.{Place, begins}
use Rattle.krb_der.specs.Fault.{HasHead}

-- What is left of an element: nothing; anything; elements with this tag, as many as there are; elements whose tags have one byte and
-- aren't those from one number to another; an element with this tag that is all that is left; or an element that must come, or may
-- come, and other parts.
pub data Parts : Type 0 where
  ended anything : Parts
  each_of : ℕ → Parts
  unknown : ℕ → ℕ → Parts
  last : ℕ → Parts → Parts
  must may : ℕ → Parts → Parts → Parts

-- where they stand, in nested pairs: the place of each `anything`
abbrev pub PlacesOf : Parts → Type 0
PlacesOf ended = Unit {0}
PlacesOf anything = Place
PlacesOf (each_of tag) = Unit {0}
PlacesOf (unknown from to) = Unit {0}
PlacesOf (last tag ps) = PlacesOf ps
PlacesOf (must tag ps qs) = PlacesOf ps × PlacesOf qs
PlacesOf (may tag ps qs) = Option (PlacesOf ps) × PlacesOf qs

-- Up to the end, such elements: where one begins, where its content stands, and what comes after it.
pub data AreAll (Is : Place → Place → Place → Type 0) : Place → Type 0 where
  no_more : {here : Place} → here.rest ≡ [] → AreAll Is here
  one_more : {here : Place} (inside after : Place) → Is here inside after → AreAll Is after → AreAll Is here

-- a tag of one byte (X.690, section 8.1.2.4) that isn't known
abbrev pub IsUnknown : ℕ → ℕ → ℕ → Type 0
IsUnknown from to tag = ((tag < from) ⊎ (to < tag)) × (tag % 32 ≢ 31)

-- an element with such a tag; what is in it isn't looked at
pub record HasUnknown (from to : ℕ) (here inside after : Place) : Type 0 where
  pub tag : ℕ
  pub is_unknown : IsUnknown from to tag
  pub head : HasHead tag here inside after

-- an element with the tag, and what is said of its content and of what comes after it
pub record HasElement (tag : ℕ) (Inside After : Place → Type 0) (here : Place) : Type 0 where
  pub inside : Place
  pub after : Place
  pub head : HasHead tag here inside after
  pub is : Inside inside
  pub others : After after

-- the same of an element that may be left out, which is there exactly if its tag is the next byte
abbrev pub MayHaveElement : {V : Type 0} → ℕ → (V → Place → Type 0) → (Place → Type 0) → Option V → Place → Type 0
MayHaveElement tag Inside After None here = (begins tag here.rest ≡ false) × After here
MayHaveElement tag Inside After (Some v) here = HasElement tag (Inside v) After here

-- the parts stand at these places, from a place on up to the end of the enclosing element
abbrev pub Stand : (ps : Parts) → PlacesOf ps → Place → Type 0
Stand ended v here = here.rest ≡ []
Stand anything v here = here ≡ v
Stand (each_of tag) v here = AreAll (HasHead tag) here
Stand (unknown from to) v here = AreAll (HasUnknown from to) here
Stand (last tag ps) v here = HasElement tag (Stand ps v) (λ after. after.rest ≡ []) here
Stand (must tag ps qs) v here = HasElement tag (Stand ps v.0) (Stand qs v.1) here
Stand (may tag ps qs) v here = MayHaveElement tag (λ x. Stand ps x) (Stand qs v.1) v.0 here

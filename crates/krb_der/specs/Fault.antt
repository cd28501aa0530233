-- What is wrong with bytes that aren't a message: which places are reached, and which rules are
-- broken there.
use Rattle.std.specs.Prelude.{◌≡◌, ◌≢◌, ℕ, ◌+◌, ◌<◌, ◌≤◌, true, false, List, [], ◌∷◌, ◌++◌, length, ◌⊎◌}
use Rattle.krb_der.specs.declared.fault.Fault.{Fault}
use Rattle.krb_der.specs.declared.fault.FaultKind.TheVariants.{Truncated, Tag, Length, Trailing, TooLong}
use Rattle.krb_der.specs.Kind.{Kind, leaf, wrapped, sequence, Fields, ends, must, may, each, tag_of, ValueOf}
use Rattle.krb_der.specs.Content.{Content, leaf_of, Elementary}
use Rattle.krb_der.specs.Place.{Place, begin_at, end_of, begins}
use Rattle.krb_der.specs.Spells.{IsLength, Contents, StandsAt, limit}

-- An element with this tag begins at the place, its head is good, and its content ends within the
-- enclosing element. The fields are where the content begins, and where the element ends.
pub record HasHead (tag : ℕ) (here inside after : Place) : Type 0 where
  pub size : List ℕ
  pub length_is : IsLength (length inside.rest) size
  pub whole : here.rest ≡ tag ∷ (size ++ inside.rest ++ after.rest)
  pub inside_at : inside.at ≡ here.at + (1 + length size)
  pub after_at : after.at ≡ inside.at + length inside.rest

-- The bytes of a length are cut off: there are none, or fewer than the first of them, 81 to 84,
-- says.
abbrev pub IsCutLength : List ℕ → Type 0
IsCutLength [] = Unit {0}
IsCutLength (f ∷ bytes) = (0x81 ≤ f) × (f ≤ 0x84) × (0x80 + length bytes < f)

-- a first byte that says how many bytes of a number follow, one to four, and those bytes
abbrev pub IsLongForm : List ℕ → Type 0
IsLongForm [] = ⊥
IsLongForm (f ∷ digits) = (f ≡ 0x80 + length digits) × (1 ≤ length digits) × (length digits ≤ 4)

-- The bytes of a length are there, but invalid: the first is 80 or above 84, or the number has a
-- shorter form.
pub data IsBadLength (bytes : List ℕ) : Type 0 where
  no_form : (f : ℕ) (rest : List ℕ) → bytes ≡ f ∷ rest → (f ≡ 0x80) ⊎ (0x84 < f) → IsBadLength bytes
  not_shortest : (size rest : List ℕ) → bytes ≡ size ++ rest → IsLongForm size → ((n : ℕ) → IsLength n size → ⊥)
      → IsBadLength bytes

module _ (Leaf : Contents) where
  -- From a place at which some fields are required, up to the end of the enclosing element, other
  -- places are reached: the content of an element whose head is good, what comes after an element
  -- that is spelled, and each field that may come or come again.
  pub data Reached (from : Fields) (begin : Place) : Fields → Place → Type 0 where
    start : Reached from begin from begin
    inside_wrapped : {tag : ℕ} {inner : Kind} {fs : Fields} {here inside after : Place}
        → Reached from begin (must (wrapped tag inner) fs) here → HasHead tag here inside after
        → Reached from begin (must inner ends) inside
    inside_sequence : {inner fs : Fields} {here inside after : Place}
        → Reached from begin (must (sequence inner) fs) here → HasHead 0x30 here inside after
        → Reached from begin inner inside
    after_element : {e : Kind} {fs : Fields} {here after : Place} (v : ValueOf e)
        → Reached from begin (must e fs) here → StandsAt Leaf e v here after → Reached from begin fs after
    is_there : {e : Kind} {fs : Fields} {here : Place}
        → Reached from begin (may e fs) here → begins (tag_of e) here.rest ≡ true → Reached from begin (must e fs) here
    is_absent : {e : Kind} {fs : Fields} {here : Place}
        → Reached from begin (may e fs) here → begins (tag_of e) here.rest ≡ false → Reached from begin fs here
    one_more : {e : Kind} {here : Place}
        → Reached from begin (each e) here → here.rest ≢ [] → Reached from begin (must e (each e)) here

  -- the rule that is broken where these fields are required, which fault that is, and where
  pub data IsBroken : Fields → Place → Fault → Type 0 where
    nothing : {e : Kind} {fs : Fields} {here : Place}
        → here.rest ≡ [] → IsBroken (must e fs) here (record { kind = Truncated; at = end_of here })
    other_tag : {e : Kind} {fs : Fields} {here : Place} (b : ℕ) (bytes : List ℕ)
        → here.rest ≡ b ∷ bytes → b ≢ tag_of e → IsBroken (must e fs) here (record { kind = Tag; at = here.at })
    cut_length : {e : Kind} {fs : Fields} {here : Place} (bytes : List ℕ)
        → here.rest ≡ tag_of e ∷ bytes → IsCutLength bytes
        → IsBroken (must e fs) here (record { kind = Truncated; at = end_of here })
    bad_length : {e : Kind} {fs : Fields} {here : Place} (bytes : List ℕ)
        → here.rest ≡ tag_of e ∷ bytes → IsBadLength bytes
        → IsBroken (must e fs) here (record { kind = Length; at = here.at + 1 })
    cut_content : {e : Kind} {fs : Fields} {here : Place} (n : ℕ) (size bytes : List ℕ)
        → here.rest ≡ tag_of e ∷ (size ++ bytes) → IsLength n size → length bytes < n
        → IsBroken (must e fs) here (record { kind = Truncated; at = end_of here })
    bad_content : {c : Content} {fs : Fields} {here : Place} (inside after : Place)
        → HasHead (leaf_of c).tag here inside after → ((v : ValueOf (leaf c)) → Leaf c v inside.rest → ⊥)
        → IsBroken (must (leaf c) fs) here (record { kind = (leaf_of c).fault; at = here.at })
    left_over : {here : Place}
        → here.rest ≢ [] → IsBroken ends here (record { kind = Trailing; at = here.at })

  -- some rule is broken at some place that is reached
  pub record IsFaulty (from : Fields) (begin : Place) (fault : Fault) : Type 0 where
    pub expected : Fields
    pub here : Place
    pub reached : Reached from begin expected here
    pub broken : IsBroken expected here fault

  -- a fault of an element that is required at the place, whatever may come after it
  abbrev pub IsElementFault : Kind → Place → Fault → Type 0
  IsElementFault k here fault = (fs : Fields) → IsFaulty (must k fs) here fault

  -- a fault of the head of an element with the tag that is required at the place
  abbrev pub IsHeadFault : ℕ → Place → Fault → Type 0
  IsHeadFault tag here fault = (k : Kind) (fs : Fields) → IsBroken (must (wrapped tag k) fs) here fault

  -- a fault of a whole message: TooLong comes before all others
  pub data IsMessageFault (k : Kind) (bytes : List ℕ) (fault : Fault) : Type 0 where
    too_long : limit < length bytes → fault ≡ record { kind = TooLong; at = 0 } → IsMessageFault k bytes fault
    faulty : length bytes ≤ limit → IsFaulty (must k ends) (begin_at bytes) fault → IsMessageFault k bytes fault

-- the fault is one of these bytes, as a message of the kind
abbrev pub IsFault : Kind → List ℕ → Fault → Type 0
IsFault k bytes fault = IsMessageFault Elementary k bytes fault

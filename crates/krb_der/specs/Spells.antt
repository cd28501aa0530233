-- Which bytes spell which value (X.690, sections 8.1 and 10.1), as equations on whole lists.
use Rattle.std.specs.Prelude.{◌≡◌, ℕ, ◌+◌, ◌<◌, ◌≤◌, List, [], ◌∷◌, ◌++◌, length, false, Option, Some, None}
use Rattle.krb_der.specs.Kind.{Kind, leaf, wrapped, sequence, Fields, ends, must, may, each, tag_of, ValueOf, FieldsOf}
use Rattle.krb_der.specs.Place.{Place, begins}
use Rattle.krb_der.specs.Content.{Content, ContentValue, Elementary}
use Rattle.krb_der.specs.Whole.{AreBytes, number}

-- The bytes of a length (X.690, sections 8.1.3 and 10.1): below 128 the number itself. Otherwise
-- the count of its bytes with the top bit set, and those bytes: at most four, and as few as
-- possible.
pub data IsLength (n : ℕ) (size : List ℕ) : Type 0 where
  short : n < 128 → size ≡ n ∷ [] → IsLength n size
  long : (digits : List ℕ) → size ≡ (0x80 + length digits) ∷ digits → length digits ≤ 4 → AreBytes digits
      → begins 0 digits ≡ false → 128 ≤ n → number digits ≡ n → IsLength n size

-- the bytes are an element: a tag, the length of its content, and its content
pub record IsElement (tag : ℕ) (IsContent : List ℕ → Type 0) (bytes : List ℕ) : Type 0 where
  pub size : List ℕ
  pub content : List ℕ
  pub length_is : IsLength (length content) size
  pub content_is : IsContent content
  pub whole : bytes ≡ tag ∷ (size ++ content)

-- the bytes are one part and then another
pub record IsJoined (First Rest : List ℕ → Type 0) (bytes : List ℕ) : Type 0 where
  pub front : List ℕ
  pub back : List ℕ
  pub first : First front
  pub rest : Rest back
  pub whole : bytes ≡ front ++ back

-- nothing, or a part
abbrev pub IfPresent : {V : Type 0} → (V → List ℕ → Type 0) → Option V → List ℕ → Type 0
IfPresent Part None bytes = bytes ≡ []
IfPresent Part (Some v) bytes = Part v bytes

-- a part for each value, one after another
abbrev pub ForEach : {V : Type 0} → (V → List ℕ → Type 0) → List V → List ℕ → Type 0
ForEach Part [] bytes = bytes ≡ []
ForEach Part (v ∷ vs) bytes = IsJoined (Part v) (ForEach Part vs) bytes

-- which contents spell which values of the elements without parts
abbrev pub Contents : Type 1
Contents = (c : Content) → ContentValue c → List ℕ → Type 0

module _ (Leaf : Contents) where
  abbrev mutual
    -- the content of an element, and the fields in it
    pub SpellsContent : (k : Kind) → ValueOf k → List ℕ → Type 0
    SpellsContent (leaf c) v = Leaf c v
    SpellsContent (wrapped tag k) v = IsElement (tag_of k) (SpellsContent k v)
    SpellsContent (sequence fs) v = SpellsFields fs v

    pub SpellsFields : (fs : Fields) → FieldsOf fs → List ℕ → Type 0
    SpellsFields ends v = λ bytes. bytes ≡ []
    SpellsFields (must k fs) v = IsJoined (IsElement (tag_of k) (SpellsContent k v.0)) (SpellsFields fs v.1)
    SpellsFields (may k fs) v =
        IsJoined (IfPresent (λ x. IsElement (tag_of k) (SpellsContent k x)) v.0) (SpellsFields fs v.1)
    SpellsFields (each k) v = ForEach (λ x. IsElement (tag_of k) (SpellsContent k x)) v

  abbrev pub SpellsBy : (k : Kind) → ValueOf k → List ℕ → Type 0
  SpellsBy k v = IsElement (tag_of k) (SpellsContent k v)

  -- an element of the kind with this value is at the place, and what comes after it
  pub record StandsAt (k : Kind) (v : ValueOf k) (here after : Place) : Type 0 where
    pub front : List ℕ
    pub spelled : SpellsBy k v front
    pub whole : here.rest ≡ front ++ after.rest
    pub at_is : after.at ≡ here.at + length front

-- the bytes spell this value of the kind
abbrev pub Spells : (k : Kind) → ValueOf k → List ℕ → Type 0
Spells k v bytes = SpellsBy Elementary k v bytes

-- the greatest length of a message, in bytes
abbrev pub limit : ℕ
limit = 1_048_576

-- the bytes are a message of the kind, and this is its value
pub record IsMessage (k : Kind) (v : ValueOf k) (bytes : List ℕ) : Type 0 where
  pub spelled : Spells k v bytes
  pub within : length bytes ≤ limit

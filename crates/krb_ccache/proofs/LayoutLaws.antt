-- What lies up to an offset of a file, whichever its layout is.
use Rattle.std.proofs.Common.{◌≡◌, ℕ, ◌+◌, ◌<◌, ◌≤◌, List, [], ◌∷◌, ◌++◌, length, map, refl, sym, ap, ap₂, subst, ◌∙◌, append_assoc, append-nil, arith}
use Rattle.std.specs.Prelude.{All, ◌^◌}
use Rattle.std.specs.List.{flat_map, AllByRecursion}
use Rattle.std.proofs.lemmas.List.{length-append, nil_from_length}
use Rattle.std.proofs.lemmas.List.Concat.{flat_map-cons, flat_map-append}
use Rattle.std.proofs.lemmas.List.Elements.{recursion_from_All, All-nil, All-cons, All-push}
use Rattle.krb_ccache.specs.Types.{Principal, HeaderField, Credential, Layout, Version3, Version4}
use Rattle.krb_ccache.specs.Spelling.{name_bytes, keyed_bytes, credential_bytes}
use Rattle.krb_ccache.specs.Value.{Cache, cache_of, FitsHeader, FitsName, FitsCredential, Fits}
use Rattle.krb_file.specs.File.{file_limit}
use Rattle.krb_ccache.specs.Format.{version_of, FitsHead, start_bytes, written, Spelled, Spells, credential_length, IsReached, IsCache}
use Rattle.krb_ccache.specs.Inner.Standing.{bytes_of, spelled_as}
use Rattle.krb_ccache.specs.Reader.{with_credential}

-- ---- the header

pub head_fits : (layout : Layout) (header : List HeaderField) → FitsHead layout header → FitsHeader header
head_fits Version3 header none = subst FitsHeader (sym none) (record {
  lengths = record { whole = omega arith; values = All-nil (λ (field : HeaderField). length field.value < 2 ^ 16); offsets = All-nil (λ (field : HeaderField). field.tag ≡ 1 → length field.value ≡ 8) };
  tags = All-nil (λ (field : HeaderField). field.tag < 2 ^ 16);
})
head_fits Version4 header fits = fits

-- ---- how many bytes

pub version_length : (layout : Layout) → length (version_of layout) ≡ 2
version_length Version3 = refl
version_length Version4 = refl

pub name_more : (name : Principal) → 12 ≤ length (name_bytes name)
name_more name = simp length-append (omega arith)

-- the bytes after the encryption type, and all others
pub keyed_length : (c : Credential) (second : List ℕ) → length (keyed_bytes c second) ≡ length (credential_bytes c) + length second
keyed_length c second = simp length-append (omega arith)

pub spelled_length : (layout : Layout) (one : Spelled) → Spells layout one → length one.bytes ≡ credential_length layout one.credential
spelled_length layout one h = ap length h.bytes_are ∙ keyed_length one.credential h.second ∙ ap (λ (n : ℕ). length (credential_bytes one.credential) + n) h.size

pub credential_some : (credential : Credential) (second : List ℕ) → 0 < length (keyed_bytes credential second)
credential_some credential second = simp length-append (omega arith)

-- ---- credentials with their spellings

abbrev pub credential_in : Spelled → Credential
credential_in one = one.credential

pub map_more : (ones : List Spelled) (one : Spelled) → map credential_in (ones ++ one ∷ []) ≡ map credential_in ones ++ one.credential ∷ []
map_more [] one = refl
map_more (first ∷ ones) one = ap (λ (t : List Credential). first.credential ∷ t) (map_more ones one)

-- ---- as far as whole credentials reach

abbrev pub front : Layout → List HeaderField → Principal → List Spelled → List ℕ
front layout header name spelled = start_bytes layout header ++ (name_bytes name ++ flat_map bytes_of spelled)

abbrev pub read_cache : List HeaderField → Principal → List Spelled → Cache
read_cache header name spelled = cache_of header name (map credential_in spelled)

pub grouped : (s n c b : List ℕ) → (s ++ (n ++ c)) ++ b ≡ s ++ (n ++ (c ++ b))
grouped s n c b = append_assoc s (n ++ c) b ∙ ap (λ (t : List ℕ). s ++ t) (append_assoc n c b)

module _ (layout : Layout) where
  pub is_reached : (bytes : List ℕ) (at : ℕ) (header : List HeaderField) (name : Principal) (spelled : List Spelled) (behind : List ℕ) → FitsHead layout header → FitsName name → All (Spells layout) spelled
      → bytes ≡ front layout header name spelled ++ behind → at ≡ length (front layout header name spelled) → IsReached layout bytes at (read_cache header name spelled) behind
  is_reached bytes at header name spelled behind h n spell is at_is =
      let s : List ℕ = start_bytes layout header in
      let c : List ℕ = flat_map bytes_of spelled in record {
        header_fits = h;
        name_fits = n;
        spelled = spelled;
        spell = spell;
        credentials_are = refl;
        bytes_are = is ∙ grouped s (name_bytes name) c behind;
        at_is = omega (arith, at_is, length-append s (name_bytes name ++ c), length-append (name_bytes name) c);
      }

  module _ (bytes : List ℕ) (at : ℕ) (cache : Cache) (behind : List ℕ) (r : IsReached layout bytes at cache behind) where
    abbrev pub front_of : List ℕ
    front_of = front layout cache.header cache.default_principal r.spelled

    pub reached_bytes : bytes ≡ front_of ++ behind
    reached_bytes = r.bytes_are ∙ sym (grouped (start_bytes layout cache.header) (name_bytes cache.default_principal) (flat_map bytes_of r.spelled) behind)

    pub reached_at : at ≡ length front_of
    reached_at = omega (arith, r.at_is, length-append (start_bytes layout cache.header) (name_bytes cache.default_principal ++ flat_map bytes_of r.spelled), length-append (name_bytes cache.default_principal) (flat_map bytes_of r.spelled))

    -- with other bytes after them
    pub reached_too : (others all : List ℕ) → all ≡ front_of ++ others → IsReached layout all at cache others
    reached_too others all is = record {
      header_fits = r.header_fits;
      name_fits = r.name_fits;
      spelled = r.spelled;
      spell = r.spell;
      credentials_are = r.credentials_are;
      bytes_are = is ∙ grouped (start_bytes layout cache.header) (name_bytes cache.default_principal) (flat_map bytes_of r.spelled) others;
      at_is = r.at_is;
    }

    pub reached_within : at ≤ length bytes
    reached_within = omega (arith, reached_at, ap length reached_bytes, length-append front_of behind)

  module _ (bytes : List ℕ) (at : ℕ) (cache : Cache) (r : IsReached layout bytes at cache []) where
    -- if nothing follows, these are all bytes
    pub reached_all : bytes ≡ front_of bytes at cache [] r
    reached_all = reached_bytes bytes at cache [] r ∙ append-nil (front_of bytes at cache [] r)

    pub reached_end : at ≡ length bytes
    reached_end = reached_at bytes at cache [] r ∙ sym (ap length reached_all)

    -- then others come
    pub reached_before : (others : List ℕ) → IsReached layout (bytes ++ others) at cache others
    reached_before others = reached_too bytes at cache [] r others (bytes ++ others) (ap (λ (t : List ℕ). t ++ others) reached_all)

    -- then a credential comes
    pub reached_more : (one : Spelled) → Spells layout one → IsReached layout (bytes ++ one.bytes) (at + length one.bytes) (with_credential cache one.credential) []
    reached_more one spells =
        let s : List ℕ = start_bytes layout cache.header in
        let n : List ℕ = name_bytes cache.default_principal in
        let c : List ℕ = flat_map bytes_of r.spelled in
        let more : flat_map bytes_of (r.spelled ++ one ∷ []) ≡ c ++ one.bytes = flat_map-append bytes_of r.spelled (one ∷ []) ∙ ap (λ (t : List ℕ). c ++ t) (append-nil one.bytes) in
        record {
          header_fits = r.header_fits;
          name_fits = r.name_fits;
          spelled = r.spelled ++ one ∷ [];
          spell = All-push (Spells layout) r.spelled one r.spell spells;
          credentials_are = ap (λ (t : List Credential). t ++ one.credential ∷ []) r.credentials_are ∙ sym (map_more r.spelled one);
          bytes_are = ap (λ (t : List ℕ). t ++ one.bytes) reached_all ∙ grouped s n c one.bytes ∙ ap (λ (t : List ℕ). s ++ (n ++ t)) (sym more ∙ sym (append-nil (flat_map bytes_of (r.spelled ++ one ∷ []))));
          at_is = omega (arith, r.at_is, ap length more, length-append c one.bytes);
        }

-- ---- what is written is of version 0x0504

spell : List Credential → List Spelled
spell [] = []
spell (c ∷ cs) = spelled_as (credential_bytes c) c ∷ spell cs

spell_same : (cs : List Credential) → cs ≡ map credential_in (spell cs)
unfolding spell
spell_same [] = refl
spell_same (c ∷ cs) = ap (λ (t : List Credential). c ∷ t) (spell_same cs)

spell_bytes : (cs : List Credential) → flat_map bytes_of (spell cs) ≡ flat_map credential_bytes cs
unfolding spell
spell_bytes [] = refl
spell_bytes (c ∷ cs) = flat_map-cons bytes_of (spelled_as (credential_bytes c) c) (spell cs) ∙ ap (λ (t : List ℕ). credential_bytes c ++ t) (spell_bytes cs) ∙ sym (flat_map-cons credential_bytes c cs)

all_spell : (cs : List Credential) → AllByRecursion FitsCredential cs → All (Spells Version4) (spell cs)
unfolding spell
all_spell [] fit = All-nil (Spells Version4)
all_spell (c ∷ cs) fit = All-cons (Spells Version4) (spelled_as (credential_bytes c) c) (spell cs) (record { fits = fit.0; second = []; size = refl; bytes_are = refl }) (all_spell cs fit.1)

pub written_reached : (cache : Cache) → Fits cache → IsReached Version4 (written cache) (length (written cache)) cache []
written_reached cache fits =
    let s : List ℕ = start_bytes Version4 cache.header in
    let n : List ℕ = name_bytes cache.default_principal in
    let c : List ℕ = flat_map credential_bytes cache.credentials in
    let d : List ℕ = flat_map bytes_of (spell cache.credentials) in
    let same : d ≡ c = spell_bytes cache.credentials in
    record {
      header_fits = fits.header;
      name_fits = fits.default_principal;
      spelled = spell cache.credentials;
      spell = all_spell cache.credentials (recursion_from_All FitsCredential cache.credentials fits.credentials);
      credentials_are = spell_same cache.credentials;
      bytes_are = ap (λ (t : List ℕ). s ++ (n ++ t)) (sym same ∙ sym (append-nil d));
      at_is = omega (arith, length-append s (n ++ c), length-append n c, ap length same);
    }

pub written_cache : (cache : Cache) → Fits cache → length (written cache) ≤ file_limit → IsCache (written cache) cache
written_cache cache fits limit = record { limit = limit; layout = Version4; at = length (written cache); reached = written_reached cache fits }

once : (one : Spelled) → Spells Version4 one → one.bytes ≡ credential_bytes one.credential
once one h = h.bytes_are ∙ ap (keyed_bytes one.credential) (nil_from_length h.second h.size)

all_once : (ones : List Spelled) → AllByRecursion (Spells Version4) ones → flat_map bytes_of ones ≡ flat_map credential_bytes (map credential_in ones)
all_once [] h = refl
all_once (one ∷ ones) h =
    flat_map-cons bytes_of one ones ∙ ap₂ (λ (s t : List ℕ). s ++ t) (once one h.0) (all_once ones h.1)
    ∙ sym (flat_map-cons credential_bytes one.credential (map credential_in ones))

-- a file of version 0x0504 is what is written of its cache
pub reached_written : (bytes : List ℕ) (at : ℕ) (cache : Cache) → IsReached Version4 bytes at cache [] → bytes ≡ written cache
reached_written bytes at cache r =
    let same : flat_map bytes_of r.spelled ≡ flat_map credential_bytes cache.credentials =
    all_once r.spelled (recursion_from_All (Spells Version4) r.spelled r.spell) ∙ ap (flat_map credential_bytes) (sym r.credentials_are) in
    reached_all Version4 bytes at cache r ∙ ap (λ (t : List ℕ). start_bytes Version4 cache.header ++ (name_bytes cache.default_principal ++ t)) same

-- Each file is a cache or has a fault, and only one of these.
use Rattle.std.proofs.Common.{◌≡◌, ◌≢◌, ◌⊎◌, ℕ, ◌+◌, ◌<◌, ◌≤◌, List, [], ◌∷◌, ◌++◌, length, map, Option, Some, None, Result, Ok, Err, refl, sym, ap, ap₂, subst, ◌∙◌, append_assoc, append-nil, arith, inl, inr}
use Rattle.std.specs.Int.{w16}
use Rattle.std.specs.Prelude.{IfOk, IfErr}
use Rattle.std.specs.List.{flat_map}
use Rattle.std.proofs.lemmas.Bool.{cases_lt}
use Rattle.std.proofs.lemmas.List.{drop_at, length-append, length-map, map-append, nil_from_length}
use Rattle.std.proofs.lemmas.List.Elements.{recursion_from_All}
use Rattle.krb_file.specs.Cursor.{Place, data_at, number_bytes, data_bytes}
use Rattle.krb_file.specs.Field.{IsBytes}
use Rattle.krb_ccache.specs.Types.{Principal, HeaderField, Credential, Layout, Version3, Version4, CacheFault, Version, Header, BadItem, TooLong, Read, OutOfMemory}
use Rattle.krb_file.proofs.CursorLaws.{IsBytes-drop, IsField-data16}
use Rattle.krb_ccache.specs.Spelling.{field_bytes, fields_bytes, header_bytes, name_bytes}
use Rattle.krb_ccache.specs.Value.{Cache, FitsHeader, FitsName, Fits}
use Rattle.krb_file.specs.File.{file_limit}
use Rattle.krb_ccache.specs.Format.{version_of, head_bytes, FitsHead, start_bytes, written, Spelled, Spells, IsReached, IsCache, LacksVersion, LacksHeader, LacksDefault, IsFaultOf, IsAnswerOf}
use Rattle.krb_ccache.specs.Inner.Reading.{field_at, name_at, layout_at}
use Rattle.krb_ccache.specs.Inner.Standing.{bytes_of, IsMissing, FitsField}
use Rattle.krb_ccache.specs.Inner.Stepping.{Any}
use Rattle.krb_ccache.specs.Reader.{HasTaken, IsFirstOf}
use Rattle.krb_ccache.proofs.PartLaws.{IsField-field, IsField-name, IsField-layout}
use Rattle.krb_ccache.proofs.CredentialLaws.{spelled_at, IsField-spelled}
use Rattle.krb_ccache.proofs.Repeats.{same_front, same_things, first_things, runs_out, missing_where}
use Rattle.krb_ccache.proofs.HeaderLaws.{field_some, fits_fields, filled, filled_same, header_lies, header_cut, header_wrong}
use Rattle.krb_ccache.proofs.LayoutLaws.{credential_in, read_cache, grouped, is_reached, written_reached, reached_written, reached_before}
use Rattle.krb_ccache.proofs.FileLaws.{spelled_bytes_some, name_lies, name_missing}

-- ---- at most one answer

-- one version is no beginning of another
pub same_layout : (one other : Layout) (a b : List ℕ) → version_of one ++ a ≡ version_of other ++ b → (one ≡ other) × (a ≡ b)
same_layout one other a b e = same_front layout_at version_of Any IsField-layout one other a b tt tt e

same_header : (one other : List HeaderField) (a b : List ℕ) → FitsHeader one → FitsHeader other → header_bytes one ++ a ≡ header_bytes other ++ b → (one ≡ other) × (a ≡ b)
same_header one other a b p q e =
    let body = same_front _ _ _ IsField-data16 (fields_bytes one) (fields_bytes other) a b p.lengths.whole q.lengths.whole e in
    let fields = same_things field_at field_bytes FitsField IsField-field field_some one other [] [] (recursion_from_All FitsField one (fits_fields one p)) (recursion_from_All FitsField other (fits_fields other q)) (inl refl) (inl refl)
    (append-nil (fields_bytes one) ∙ body.0 ∙ sym (append-nil (fields_bytes other))) in
    (fields.0, body.1)

same_head : (layout : Layout) (one other : List HeaderField) (a b : List ℕ) → FitsHead layout one → FitsHead layout other → head_bytes layout one ++ a ≡ head_bytes layout other ++ b → (one ≡ other) × (a ≡ b)
same_head Version3 one other a b p q e = (p ∙ sym q, e)
same_head Version4 one other a b p q e = same_header one other a b p q e

versioned : (bytes : List ℕ) (layout : Layout) (header : List HeaderField) (behind : List ℕ) → bytes ≡ start_bytes layout header ++ behind → bytes ≡ version_of layout ++ (head_bytes layout header ++ behind)
versioned bytes layout header behind e = e ∙ append_assoc (version_of layout) (head_bytes layout header) behind

-- a start of a file
record Start (bytes : List ℕ) (layout : Layout) (header : List HeaderField) (behind : List ℕ) : Type 0 where
  fits : FitsHead layout header
  bytes_are : bytes ≡ start_bytes layout header ++ behind

-- there is one at most
record SameStart (layout : Layout) (header : List HeaderField) (behind : List ℕ) (other : Layout) (also : List HeaderField) (rest : List ℕ) : Type 0 where
  layouts : layout ≡ other
  headers : header ≡ also
  behinds : behind ≡ rest

same_start : (bytes : List ℕ) (layout other : Layout) (header also : List HeaderField) (behind rest : List ℕ) → Start bytes layout header behind → Start bytes other also rest → SameStart layout header behind other also rest
same_start bytes layout other header also behind rest p q =
    let first = same_layout layout other (head_bytes layout header ++ behind) (head_bytes other also ++ rest) (sym (versioned bytes layout header behind p.bytes_are) ∙ versioned bytes other also rest q.bytes_are) in
    let head = same_head other header also behind rest (subst (λ (l : Layout). FitsHead l header) first.0 p.fits) q.fits (ap (λ (l : Layout). head_bytes l header ++ behind) (sym first.0) ∙ first.1) in
    record { layouts = first.0; headers = head.0; behinds = head.1 }

same_cache : (one other : Cache) → one.header ≡ other.header → one.default_principal ≡ other.default_principal → one.credentials ≡ other.credentials → one ≡ other
same_cache one other e f g =
    ap (λ (header : List HeaderField). record one { header = header }) e ∙ ap (λ (n : Principal). record { header = other.header; default_principal = n; credentials = one.credentials }) f
    ∙ ap (λ (cs : List Credential). record other { credentials = cs }) g

-- the first credentials of a cache are all, if they are as many
first_same : (one other : Cache) → IsFirstOf one other → length one.credentials ≡ length other.credentials → one ≡ other
first_same one other first same =
    let none : first.others ≡ [] = nil_from_length first.others (omega (arith, ap length first.credentials, length-append one.credentials first.others, same)) in
    same_cache one other first.header first.default_principal (sym (first.credentials ∙ ap (λ (cs : List Credential). one.credentials ++ cs) none ∙ append-nil one.credentials))

-- nothing more is there, or no credential
abbrev pub Ends : Layout → List ℕ → Type 0
Ends layout behind = (behind ≡ []) ⊎ IsMissing bytes_of (Spells layout) behind

pub record Same (one : Cache) (at : ℕ) (a : List ℕ) (other : Cache) (here : ℕ) (b : List ℕ) : Type 0 where
  pub cache : one ≡ other
  pub offset : at ≡ here
  pub behind : a ≡ b

abbrev after_name : List Spelled → List ℕ → List ℕ
after_name spelled behind = flat_map bytes_of spelled ++ behind

module _ (bytes : List ℕ) where
  reached_start : (layout : Layout) (at : ℕ) (cache : Cache) (behind : List ℕ) (r : IsReached layout bytes at cache behind) → Start bytes layout cache.header (name_bytes cache.default_principal ++ after_name r.spelled behind)
  reached_start layout at cache behind r = record { fits = r.header_fits; bytes_are = r.bytes_are }

  -- with one layout
  first_in : (layout : Layout) (one other : Cache) (at here : ℕ) (a b : List ℕ) → IsReached layout bytes at one a → IsReached layout bytes here other b → (length one.credentials ≤ length other.credentials) ⊎ Ends layout b → IsFirstOf one other × (one ≡ other → (at ≡ here) × (a ≡ b))
  first_in layout one other at here a b p q ends =
      let start = same_start bytes layout layout one.header other.header _ _ (reached_start layout at one a p) (reached_start layout here other b q) in
      let name = same_front name_at name_bytes FitsName IsField-name one.default_principal other.default_principal (after_name p.spelled a) (after_name q.spelled b) p.name_fits q.name_fits start.behinds in
      let first = first_things (spelled_at layout) bytes_of (Spells layout) (IsField-spelled layout) (spelled_bytes_some layout) p.spelled q.spelled a b (recursion_from_All (Spells layout) p.spelled p.spell) (recursion_from_All (Spells layout) q.spelled q.spell) (fewer ends) name.1 in
      let credentials = q.credentials_are ∙ ap (map credential_in) first.1 ∙ map-append credential_in p.spelled first.0 ∙ ap (λ (cs : List Credential). cs ++ map credential_in first.0) (sym p.credentials_are) in (
        record { header = start.headers; default_principal = name.0; others = map credential_in first.0; credentials = credentials },
        λ same.
            let none : first.0 ≡ [] = nil_from_length first.0 (omega (arith, length-map first.0 credential_in, ap length credentials, length-append one.credentials (map credential_in first.0), ap (λ (cache : Cache). length cache.credentials) same)) in
            let spelled : q.spelled ≡ p.spelled = first.1 ∙ ap (λ (t : List Spelled). p.spelled ++ t) none ∙ append-nil p.spelled in (
              omega (
                arith,
                p.at_is,
                q.at_is,
                ap (λ (header : List HeaderField). length (start_bytes layout header)) start.headers,
                ap (λ (n : Principal). length (name_bytes n)) name.0,
                ap (λ (ones : List Spelled). length (flat_map bytes_of ones)) spelled,
              ),
              first.2 ∙ ap (λ (t : List Spelled). flat_map bytes_of t ++ b) none,
            ),
      )
    where
      fewer : (length one.credentials ≤ length other.credentials) ⊎ Ends layout b → (length p.spelled ≤ length q.spelled) ⊎ Ends layout b
      fewer (inl few) = inl (omega (arith, few, ap length p.credentials_are, ap length q.credentials_are, length-map p.spelled credential_in, length-map q.spelled credential_in))
      fewer (inr end) = inr end

  pub first_reached : (layout also : Layout) (one other : Cache) (at here : ℕ) (a b : List ℕ) → IsReached layout bytes at one a → IsReached also bytes here other b → (length one.credentials ≤ length other.credentials) ⊎ Ends also b
      → IsFirstOf one other × (one ≡ other → (at ≡ here) × (a ≡ b))
  first_reached layout also one other at here a b p q ends =
      let start = same_start bytes layout also one.header other.header _ _ (reached_start layout at one a p) (reached_start also here other b q) in
      first_in layout one other at here a b p (subst (λ (l : Layout). IsReached l bytes here other b) (sym start.layouts) q)
      (subst (λ (l : Layout). (length one.credentials ≤ length other.credentials) ⊎ Ends l b) (sym start.layouts) ends)

  -- there is one way to read to the end
  pub same_reached : (layout also : Layout) (one other : Cache) (at here : ℕ) (a b : List ℕ) → IsReached layout bytes at one a → IsReached also bytes here other b → Ends layout a → Ends also b → Same one at a other here b
  same_reached layout also one other at here a b p q ends too =
      let first = first_reached layout also one other at here a b p q (inr too) in
      let back = first_reached also layout other one here at b a q p (inr ends) in
      let same = first_same one other first.0 (omega (arith, ap length first.0.credentials, ap length back.0.credentials, length-append one.credentials first.0.others, length-append other.credentials back.0.others)) in
      let more = first.1 same in
      record { cache = same; offset = more.0; behind = more.1 }

-- all that a reader has taken of these bytes is at their front
taken_reached : (whole : List ℕ) (left : Option (List ℕ)) (layout : Layout) (at : ℕ) (cache : Cache) → HasTaken layout (Some whole) left at cache → (rest : List ℕ) × IsReached layout whole at cache rest
taken_reached whole None layout at cache h = absurd h.taken
taken_reached whole (Some rest) layout at cache h = (rest, subst (λ (t : List ℕ). IsReached layout t at cache rest) (sym h.taken) (reached_before layout h.bytes at cache h.reached rest))

pub taken_first : (whole : List ℕ) (left : Option (List ℕ)) (layout : Layout) (at : ℕ) (cache all : Cache) → HasTaken layout (Some whole) left at cache → IsCache whole all → IsFirstOf cache all
taken_first whole left layout at cache all h k =
    let r = taken_reached whole left layout at cache h in
    (first_reached whole layout k.layout cache all at k.at r.0 [] r.1 k.reached (inr (inl refl))).0

pub taken_same : (whole : List ℕ) (left right : Option (List ℕ)) (layout also : Layout) (at here : ℕ) (one other : Cache) → HasTaken layout (Some whole) left at one → HasTaken also (Some whole) right here other → length one.credentials ≡ length other.credentials → (one ≡ other) × (at ≡ here)
taken_same whole left right layout also at here one other h k same =
    let r = taken_reached whole left layout at one h in
    let t = taken_reached whole right also here other k in
    let first = first_reached whole layout also one other at here r.0 t.0 r.1 t.1 (inl (omega (arith, same))) in
    let caches = first_same one other first.0 same in
    (caches, (first.1 caches).0)

-- a header, a principal and whole credentials, and what that says of the file
record Ran (bytes : List ℕ) (answer : Result Cache CacheFault) : Type 0 where
  limit : length bytes ≤ file_limit
  layout : Layout
  cache : Cache
  at : ℕ
  behind : List ℕ
  reached : IsReached layout bytes at cache behind
  end : Ends layout behind
  says : ((behind ≡ []) × (answer ≡ Ok cache)) ⊎ ((behind ≢ []) × (answer ≡ Err (BadItem at)))

same_says : (one other : Cache) (at here : ℕ) (a b : List ℕ) (v w : Result Cache CacheFault) → Same one at a other here b → ((a ≡ []) × (v ≡ Ok one)) ⊎ ((a ≢ []) × (v ≡ Err (BadItem at)))
    → ((b ≡ []) × (w ≡ Ok other)) ⊎ ((b ≢ []) × (w ≡ Err (BadItem here))) → v ≡ w
same_says one other at here a b v w same (inl p) (inl q) = p.1 ∙ ap (λ (cache : Cache). Ok cache) same.cache ∙ sym q.1
same_says one other at here a b v w same (inl p) (inr q) = absurd (q.0 (sym same.behind ∙ p.0))
same_says one other at here a b v w same (inr p) (inl q) = absurd (p.0 (same.behind ∙ q.0))
same_says one other at here a b v w same (inr p) (inr q) = p.1 ∙ ap (λ (n : ℕ). Err (BadItem n)) same.offset ∙ sym q.1

same_ran : (bytes : List ℕ) (v w : Result Cache CacheFault) → Ran bytes v → Ran bytes w → v ≡ w
same_ran bytes v w p q =
    same_says p.cache q.cache p.at q.at p.behind q.behind v w (same_reached bytes p.layout q.layout p.cache q.cache p.at q.at p.behind q.behind p.reached q.reached p.end q.end) p.says q.says

-- how far a file is read
data Way (bytes : List ℕ) (v : Result Cache CacheFault) : Type 0 where
  is_long : file_limit < length bytes → v ≡ Err TooLong → Way bytes v
  is_other : LacksVersion bytes → v ≡ Err Version → Way bytes v
  is_wrong : LacksHeader bytes → v ≡ Err Header → Way bytes v
  is_nameless : (at : ℕ) → LacksDefault bytes at → v ≡ Err (BadItem at) → Way bytes v
  has_ran : Ran bytes v → Way bytes v

way : (bytes : List ℕ) (v : Result Cache CacheFault) → IsAnswerOf bytes v → Way bytes v
way bytes (Ok cache) a = has_ran (record { limit = a.limit; layout = a.layout; cache = cache; at = a.at; behind = []; reached = a.reached; end = inl refl; says = inl (refl, refl) })
way bytes (Err TooLong) a = is_long a refl
way bytes (Err Version) a = is_other a refl
way bytes (Err Header) a = is_wrong a refl
way bytes (Err (BadItem at)) (inl f) = is_nameless at f refl
way bytes (Err (BadItem at)) (inr f) = has_ran (record { limit = f.limit; layout = f.layout; cache = f.cache; at = at; behind = f.behind; reached = f.reached; end = inr f.missing; says = inr (f.more, refl) })
way bytes (Err Read) a = absurd a
way bytes (Err OutOfMemory) a = absurd a

-- what goes past one way is no other

module _ (bytes : List ℕ) where
  ran_start : (v : Result Cache CacheFault) (r : Ran bytes v) → Start bytes r.layout r.cache.header (name_bytes r.cache.default_principal ++ after_name r.reached.spelled r.behind)
  ran_start v r = reached_start bytes r.layout r.at r.cache r.behind r.reached

  default_start : (at : ℕ) (f : LacksDefault bytes at) → Start bytes f.layout f.header f.behind
  default_start at f = record { fits = f.header_fits; bytes_are = f.bytes_are }

  some_version : (layout : Layout) (header : List HeaderField) (behind : List ℕ) → LacksVersion bytes → Start bytes layout header behind → ⊥
  some_version layout header behind lacks start = lacks.missing layout (head_bytes layout header ++ behind) (versioned bytes layout header behind start.bytes_are)

  no_header : (layout : Layout) (header : List HeaderField) (behind : List ℕ) → LacksHeader bytes → Start bytes layout header behind → ⊥
  no_header layout header behind lacks start =
      let same = same_layout lacks.layout layout lacks.behind (head_bytes layout header ++ behind) (sym lacks.bytes_are ∙ versioned bytes layout header behind start.bytes_are) in
      lacks.missing header behind (subst (λ (l : Layout). FitsHead l header) (sym same.0) start.fits) (same.1 ∙ ap (λ (l : Layout). head_bytes l header ++ behind) (sym same.0))

  no_name : (at : ℕ) (v : Result Cache CacheFault) → LacksDefault bytes at → Ran bytes v → ⊥
  no_name at v lacks r =
      let start = same_start bytes lacks.layout r.layout lacks.header r.cache.header lacks.behind _ (default_start at lacks) (ran_start v r) in
      lacks.missing r.cache.default_principal (after_name r.reached.spelled r.behind) r.reached.name_fits start.behinds

  same_default : (one two : ℕ) → LacksDefault bytes one → LacksDefault bytes two → one ≡ two
  same_default one two p q =
      let start = same_start bytes p.layout q.layout p.header q.header p.behind q.behind (default_start one p) (default_start two q) in
      p.at_is ∙ ap₂ (λ (l : Layout) (header : List HeaderField). length (start_bytes l header)) start.layouts start.headers ∙ sym q.at_is

  same_way : (v w : Result Cache CacheFault) → Way bytes v → Way bytes w → v ≡ w
  same_way v w (is_long p e) (is_long q f) = e ∙ sym f
  same_way v w (is_long p e) (is_other q f) = absurd (omega (arith, p, q.limit))
  same_way v w (is_long p e) (is_wrong q f) = absurd (omega (arith, p, q.limit))
  same_way v w (is_long p e) (is_nameless at q f) = absurd (omega (arith, p, q.limit))
  same_way v w (is_long p e) (has_ran q) = absurd (omega (arith, p, q.limit))
  same_way v w (is_other p e) (is_long q f) = absurd (omega (arith, q, p.limit))
  same_way v w (is_other p e) (is_other q f) = e ∙ sym f
  same_way v w (is_other p e) (is_wrong q f) = absurd (p.missing q.layout q.behind q.bytes_are)
  same_way v w (is_other p e) (is_nameless at q f) = absurd (some_version q.layout q.header q.behind p (default_start at q))
  same_way v w (is_other p e) (has_ran q) = absurd (some_version q.layout q.cache.header _ p (ran_start w q))
  same_way v w (is_wrong p e) (is_long q f) = absurd (omega (arith, q, p.limit))
  same_way v w (is_wrong p e) (is_other q f) = absurd (q.missing p.layout p.behind p.bytes_are)
  same_way v w (is_wrong p e) (is_wrong q f) = e ∙ sym f
  same_way v w (is_wrong p e) (is_nameless at q f) = absurd (no_header q.layout q.header q.behind p (default_start at q))
  same_way v w (is_wrong p e) (has_ran q) = absurd (no_header q.layout q.cache.header _ p (ran_start w q))
  same_way v w (is_nameless at p e) (is_long q f) = absurd (omega (arith, q, p.limit))
  same_way v w (is_nameless at p e) (is_other q f) = absurd (some_version p.layout p.header p.behind q (default_start at p))
  same_way v w (is_nameless at p e) (is_wrong q f) = absurd (no_header p.layout p.header p.behind q (default_start at p))
  same_way v w (is_nameless at p e) (is_nameless here q f) = e ∙ ap (λ (n : ℕ). Err (BadItem n)) (same_default at here p q) ∙ sym f
  same_way v w (is_nameless at p e) (has_ran q) = absurd (no_name at w p q)
  same_way v w (has_ran p) (is_long q f) = absurd (omega (arith, q, p.limit))
  same_way v w (has_ran p) (is_other q f) = absurd (some_version p.layout p.cache.header _ q (ran_start v p))
  same_way v w (has_ran p) (is_wrong q f) = absurd (no_header p.layout p.cache.header _ q (ran_start v p))
  same_way v w (has_ran p) (is_nameless at q f) = absurd (no_name at v q p)
  same_way v w (has_ran p) (has_ran q) = same_ran bytes v w p q

pub one_answer : (bytes : List ℕ) (v w : Result Cache CacheFault) → IsAnswerOf bytes v → IsAnswerOf bytes w → v ≡ w
one_answer bytes v w a b = same_way bytes v w (way bytes v a) (way bytes w b)

-- ---- the answer that holds is the one that is given, memory aside

no_memory : (fault : CacheFault) → (fault ≡ OutOfMemory) ⊎ (fault ≢ OutOfMemory)
no_memory OutOfMemory = inl refl
no_memory _ = inr (λ e. cc)

-- a file has one fault, and none where it is a cache
pub one_fault : (bytes : List ℕ) (one other : CacheFault) → IsFaultOf bytes one → IsFaultOf bytes other → one ≡ other
one_fault bytes one other a b = same_errs one other (one_answer bytes (Err one) (Err other) a b)
  where
    same_errs : (x y : CacheFault) → (let r : Result Cache CacheFault = Err x in r) ≡ Err y → x ≡ y
    same_errs x y e = cc

pub no_fault : (bytes : List ℕ) (cache : Cache) (fault : CacheFault) → IsCache bytes cache → IsFaultOf bytes fault → ⊥
no_fault bytes cache fault a b = never cache fault (one_answer bytes (Ok cache) (Err fault) a b)
  where
    never : (x : Cache) (y : CacheFault) → (let r : Result Cache CacheFault = Ok x in r) ≡ Err y → ⊥
    never x y e = cc

pub only_answer : (bytes : List ℕ) (result answer : Result Cache CacheFault) → IfOk result (IsCache bytes) → IfErr result (λ fault. fault ≢ OutOfMemory → IsFaultOf bytes fault)
    → IsAnswerOf bytes answer → (result ≡ answer) ⊎ (result ≡ Err OutOfMemory)
only_answer bytes (Ok cache) answer found fault a = inl (one_answer bytes (Ok cache) answer found a)
only_answer bytes (Err f) answer found fault a =
    elim (no_memory f) [
      | inl same ↦ inr (ap (λ (g : CacheFault). Err g) same)
      | inr not ↦ inl (one_answer bytes (Err f) answer (fault not) a)
    ]

-- ---- some answer

abbrev pub HasAnswer : List ℕ → Type 0
HasAnswer bytes = (answer : Result Cache CacheFault) × IsAnswerOf bytes answer

none_or_some : (bytes : List ℕ) → (bytes ≡ []) ⊎ (bytes ≡ [] → ⊥)
none_or_some [] = inl refl
none_or_some (x ∷ xs) = inr (λ e. cc)

module _ (bytes : List ℕ) (limit : length bytes ≤ file_limit) (layout : Layout) where
  -- a start, a principal and whole credentials up to this place
  credentials_answer : (header : List HeaderField) (name : Principal) (place : Place) → FitsHead layout header → FitsName name → IsBytes place.rest
      → bytes ≡ start_bytes layout header ++ (name_bytes name ++ place.rest) → place.at ≡ length (start_bytes layout header) + length (name_bytes name) → HasAnswer bytes
  credentials_answer header name place h n fits is at =
      let ended = runs_out (spelled_at layout) bytes_of (Spells layout) (IsField-spelled layout) (spelled_bytes_some layout) place fits in
      let c : List ℕ = flat_map bytes_of ended.xs in
      let s : List ℕ = start_bytes layout header in
      let cache : Cache = read_cache header name ended.xs in
      let parts : bytes ≡ s ++ (name_bytes name ++ (c ++ ended.behind.rest)) = is ∙ ap (λ (t : List ℕ). s ++ (name_bytes name ++ t)) ended.reach.takes.parts in
      let reached = is_reached layout bytes ended.behind.at header name ended.xs ended.behind.rest h n ended.reach.fit (parts ∙ sym (grouped s (name_bytes name) c ended.behind.rest))
      (omega (arith, at, ended.reach.takes.at, length-append s (name_bytes name ++ c), length-append (name_bytes name) c)) in
      elim (none_or_some ended.behind.rest) [
        | inl none ↦ (Ok cache, record { limit = limit; layout = layout; at = ended.behind.at; reached = subst (IsReached layout bytes ended.behind.at cache) none reached })
        | inr more ↦ elim ended.end [
          | inl none ↦ absurd (more none)
          | inr missing ↦ (Err (BadItem ended.behind.at), inr (record { limit = limit; layout = layout; cache = cache; behind = ended.behind.rest; reached = reached; more = more; missing = missing }))
        ]
      ]

  name_answer : (header : List HeaderField) (place : Place) → FitsHead layout header → IsBytes place.rest → bytes ≡ start_bytes layout header ++ place.rest → place.at ≡ length (start_bytes layout header)
      → (read : Option (Principal × Place)) → name_at place ≡ read → HasAnswer bytes
  name_answer header place h fits is at None e =
      (Err (BadItem place.at), inl (record { limit = limit; layout = layout; header = header; behind = place.rest; header_fits = h; bytes_are = is; at_is = at; missing = name_missing place e }))
  name_answer header place h fits is at (Some (name, middle)) e =
      let lies = name_lies place name middle fits e in
      credentials_answer header name middle h lies.fits lies.takes.rest_fits (is ∙ ap (λ (t : List ℕ). start_bytes layout header ++ t) lies.takes.parts) (omega (arith, at, lies.takes.at))

-- a file that has a header, up to it
header_answer : (bytes : List ℕ) → length bytes ≤ file_limit → (place : Place) → IsBytes place.rest → bytes ≡ version_of Version4 ++ place.rest → place.at ≡ 2 → (read : Option (List ℕ × Place)) → data_at w16 place ≡ read → HasAnswer bytes
header_answer bytes limit place fits is at None e = (Err Header, record { limit = limit; layout = Version4; behind = place.rest; bytes_are = is; missing = header_cut place e })
header_answer bytes limit place fits is at (Some (body, behind)) e =
    let t = IsField-data16.takes place body behind fits e in
    let ended = runs_out field_at field_bytes FitsField IsField-field field_some (record { at = 0; rest = body }) (subst IsBytes (drop_at (number_bytes w16 (length body)) body 2 refl) (IsBytes-drop 2 (data_bytes w16 body) t.0.text_fits)) in
    elim (none_or_some ended.behind.rest) [
      | inl none ↦
          let lies = header_lies place body behind ended.xs fits e (filled body ended.behind ended.xs t.1 ended.reach none) in
          name_answer bytes limit Version4 ended.xs behind lies.fits t.0.rest_fits (is ∙ ap (λ (u : List ℕ). version_of Version4 ++ u) lies.takes.parts ∙ sym (append_assoc (version_of Version4) (header_bytes ended.xs) behind.rest))
          (omega (arith, at, lies.takes.at)) (name_at behind) refl
      | inr more ↦ elim ended.end [
        | inl none ↦ absurd (more none)
        | inr missing ↦ (
          Err Header,
          record { limit = limit; layout = Version4; behind = place.rest; bytes_are = is; missing = header_wrong place body behind fits e (λ header fills. more (filled_same body ended.behind ended.xs ended.reach (inr missing) header fills)) },
        )
      ]
    ]

version_answer : (bytes : List ℕ) → IsBytes bytes → length bytes ≤ file_limit → (read : Option (Layout × Place)) → layout_at (record { at = 0; rest = bytes }) ≡ read → HasAnswer bytes
version_answer bytes fits limit None e = (Err Version, record { limit = limit; missing = λ layout others is. missing_where layout_at version_of Any IsField-layout (record { at = 0; rest = bytes }) e layout others tt is })
version_answer bytes fits limit (Some (Version3, place)) e =
    let t = (IsField-layout.takes (record { at = 0; rest = bytes }) Version3 place fits e).0 in
    name_answer bytes limit Version3 [] place refl t.rest_fits t.parts (omega (arith, t.at)) (name_at place) refl
version_answer bytes fits limit (Some (Version4, place)) e =
    let t = (IsField-layout.takes (record { at = 0; rest = bytes }) Version4 place fits e).0 in
    header_answer bytes limit place t.rest_fits t.parts (omega (arith, t.at)) (data_at w16 place) refl

pub some_answer : (bytes : List ℕ) → IsBytes bytes → HasAnswer bytes
some_answer bytes fits =
    elim (cases_lt file_limit (length bytes)) [
      | inl long ↦ (Err TooLong, long)
      | inr limit ↦ version_answer bytes fits limit (layout_at (record { at = 0; rest = bytes })) refl
    ]

-- ---- one value, one spelling in version 0x0504

pub one_value : (bytes : List ℕ) (one two : Cache) → IsCache bytes one → IsCache bytes two → one ≡ two
one_value bytes one two p q = (same_reached bytes p.layout q.layout one two p.at q.at [] [] p.reached q.reached (inl refl) (inl refl)).cache

-- a file of version 0x0504 is what is written of its cache
pub spelled_again : (bytes others : List ℕ) (cache : Cache) → IsCache bytes cache → bytes ≡ version_of Version4 ++ others → bytes ≡ written cache
spelled_again bytes others cache k e =
    let same = same_layout k.layout Version4 _ others (sym (versioned bytes k.layout cache.header _ k.reached.bytes_are) ∙ e) in
    reached_written bytes k.at cache (subst (λ (l : Layout). IsReached l bytes k.at cache []) same.0 k.reached)

pub same_written : (one other : Cache) → Fits one → Fits other → written one ≡ written other → one ≡ other
same_written one other p q e =
    let also : IsReached Version4 (written one) (length (written other)) other [] = subst (λ (t : List ℕ). IsReached Version4 t (length (written other)) other []) (sym e) (written_reached other q) in
    (same_reached (written one) Version4 Version4 one other _ _ [] [] (written_reached one p) also (inl refl) (inl refl)).cache

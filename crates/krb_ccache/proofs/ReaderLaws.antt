-- What a reader has taken of a file, step by step.
use Rattle.std.proofs.Common.{◌≡◌, ℕ, ◌+◌, ◌-◌, ◌<◌, ◌≤◌, Bool, true, false, take, drop, List, [], ◌++◌, length, Option, Some, None, Result, Ok, Err, refl, sym, ap, ap₂, subst, ◌∙◌, append_assoc, append-nil, arith, inl, inr}
use Rattle.std.specs.Prelude.{◌≢◌, max, IfOk, IfErr, IfSome, OnErr}
use Rattle.std.specs.Io.KnownBytes.{Consumes, IsAtEnd}
use Rattle.std.proofs.KnownBytes.{Consumes-trans, Consumes-nil}
use Rattle.std.proofs.lemmas.List.{length-append, nil_from_length, length-take, take-append-drop}
use Rattle.std.proofs.lemmas.List.Elements.{All-nil}
use Rattle.krb_file.specs.Window.{AtHand}
use Rattle.krb_file.specs.Hand.{Hand, window_hand}
use Rattle.krb_ccache.specs.Types.{Principal, HeaderField, Credential, Layout, CacheFault, Version, Header, BadItem, Read, OutOfMemory}
use Rattle.krb_ccache.specs.Spelling.{name_bytes}
use Rattle.krb_ccache.specs.Value.{Cache, cache_of, FitsName}
use Rattle.krb_file.specs.File.{file_limit, IsGiven}
use Rattle.krb_ccache.specs.Format.{version_of, head_bytes, FitsHead, start_bytes, Spelled, Spells, IsReached, IsFaultOf}
use Rattle.krb_ccache.specs.Reader.{Reading, ended_by, ended_passed, passed, HasTaken, HasRead, GaveOne, PassedOne, StaysAtEnd, GoesTo, GaveCache, GaveFault, with_credential}
use Rattle.krb_ccache.specs.Inner.Standing.{bytes_of, IsMissing, spelled_as}
use Rattle.krb_ccache.specs.Inner.Stepping.{Any, Comes, Gives, Tells, Misses, MissesOne, IsStep}
use Rattle.std.proofs.lemmas.Bool.{cases_lt}
use Rattle.std.proofs.Math.Seq.{take-append-add}
use Rattle.krb_ccache.proofs.AnswerLaws.{same_reached}
use Rattle.krb_ccache.proofs.FileLaws.{spelled_bytes_some}
use Rattle.krb_ccache.proofs.WalkLaws.{shorter_front}
use Rattle.krb_ccache.proofs.LayoutLaws.{version_length, name_more, spelled_length, is_reached, front_of, reached_bytes, reached_at, reached_too, reached_all, reached_end, reached_before, reached_more}

-- ---- no credential within the limit

abbrev NoneWithin : Layout → ℕ → List ℕ → Type 0
NoneWithin layout at bytes = (one : Spelled) (others : List ℕ) → Spells layout one → at + length one.bytes ≤ file_limit → bytes ≡ one.bytes ++ others → ⊥

none_comes : (layout : Layout) (whole : List ℕ) (a b : Option (List ℕ)) (before bytes : List ℕ) (at given : ℕ) → Consumes (Some whole) a before → Consumes a b bytes → (given ≤ file_limit → IsAtEnd b) → given ≡ at + length bytes → NoneWithin layout at bytes
    → (behind : List ℕ) × (whole ≡ before ++ behind) × NoneWithin layout at behind
none_comes layout whole None b before bytes at given p q end total missing = absurd p
none_comes layout whole (Some rest) None before bytes at given p q end total missing = absurd q
none_comes layout whole (Some rest) (Some more) before bytes at given p q end total missing = (rest, p, none)
  where
    none : NoneWithin layout at rest
    none one others spells le e =
        elim (cases_lt file_limit given) [
          | inl long ↦ missing one (drop (length one.bytes) bytes) spells le (shorter_front one.bytes bytes others more (omega (arith, le, long, total)) (sym e ∙ q))
          | inr within ↦ missing one others spells le (sym (q ∙ ap (λ (t : List ℕ). bytes ++ t) (end within) ∙ append-nil bytes) ∙ e)
        ]

-- ---- there is one place to stop

-- the bytes within the limit
record Cut (layout : Layout) (bytes : List ℕ) (at : ℕ) (cache : Cache) : Type 0 where
  tail : List ℕ
  reached : IsReached layout (take file_limit bytes) at cache tail
  missing : IsMissing bytes_of (Spells layout) tail

cut_in : (layout : Layout) (bytes : List ℕ) (at : ℕ) (cache : Cache) (behind : List ℕ) → IsReached layout bytes at cache behind → at ≤ file_limit → NoneWithin layout at behind → Cut layout bytes at cache
cut_in layout bytes at cache behind r within none =
    let n : ℕ = file_limit - at in
    let before : List ℕ = front_of layout bytes at cache behind r in
    let total : file_limit ≡ length before + n = omega (arith, reached_at layout bytes at cache behind r, within) in
    record {
      tail = take n behind;
      reached = reached_too layout bytes at cache behind r (take n behind) (take file_limit bytes)
          (ap₂ (λ (count : ℕ) (t : List ℕ). take count t) total (reached_bytes layout bytes at cache behind r) ∙ take-append-add before behind n);
      missing = λ one others spells e.
          none one (others ++ drop n behind) spells (omega (arith, ap length e, length-append one.bytes others, length-take n behind, within))
          (sym (take-append-drop n behind) ∙ ap (λ (t : List ℕ). t ++ drop n behind) e ∙ append_assoc one.bytes others (drop n behind));
    }

pub one_stop : (bytes : List ℕ) (one other : Cache) → GoesTo bytes one → GoesTo bytes other → one ≡ other
one_stop bytes one other p q =
    let a = cut_in p.layout bytes p.at one p.behind p.reached p.within p.missing in
    let b = cut_in q.layout bytes q.at other q.behind q.reached q.within q.missing in
    (same_reached (take file_limit bytes) p.layout q.layout one other p.at q.at a.tail b.tail a.reached b.reached (inr a.missing) (inr b.missing)).cache

-- ---- a reader

-- bytes after those that came before
given : (from : Option (List ℕ)) (old new : Hand) (before bytes : List ℕ) → Consumes from old.source before → old.given ≡ length before → Gives old new bytes → new.given ≤ file_limit + 1
    → (new.given ≤ file_limit → IsAtEnd new.source) → IsGiven from new.source (before ++ bytes)
given from old new before bytes taken at g one_past end = record {
  given = Consumes-trans from old.source new.source before bytes taken g.consumed;
  limit = omega (arith, one_past, g.given, at, length-append before bytes);
  end = λ within. end (omega (arith, within, g.given, at, length-append before bytes));
}

module _ {X : Type 0} (s : X → List ℕ) (P : X → Type 0) where
  -- the fault of a part that isn't there
  faulty : (from : Option (List ℕ)) (old new : Hand) (before : List ℕ) (fault told : CacheFault) → Consumes from old.source before → old.given ≡ length before → Misses s P old new fault told → told ≢ OutOfMemory → told ≢ Read
      → ((bytes : List ℕ) → length (before ++ bytes) ≤ file_limit → new.given ≡ length (before ++ bytes) → told ≡ fault → ((x : X) (others : List ℕ) → P x → bytes ≡ s x ++ others → ⊥) → IsFaultOf (before ++ bytes) told)
      → (bytes : List ℕ) × IsGiven from new.source bytes × IsFaultOf bytes told
  faulty from old new before fault told taken at m memory read within =
      let l = m.lacks read memory in
      let total : new.given ≡ length (before ++ l.bytes) = omega (arith, l.gives.given, at, length-append before l.bytes) in
      elim (m.tells memory) [
        | inl failed ↦ absurd (read failed)
        | inr (inl long) ↦ (
          before ++ l.bytes,
          given from old new before l.bytes taken at l.gives l.one_past (λ few. absurd (omega (arith, few, long.1))),
          subst (IsFaultOf (before ++ l.bytes)) (sym long.0) (omega (arith, long.1, total)),
        )
        | inr (inr same) ↦ (
          before ++ l.bytes,
          given from old new before l.bytes taken at l.gives l.one_past (λ few. same.1.0),
          within l.bytes (omega (arith, same.1.1, total)) total same.0 (λ x others p e. l.missing x others p (omega (arith, ap length e, length-append (s x) others, same.1.1, l.gives.given)) e),
        )
      ]

-- ---- the start of a file

pub version_fault : (old new : Hand) (told : CacheFault) → old.given ≡ 0 → Misses version_of Any old new Version told → GaveFault old.source new.source told
version_fault old new told start m memory read =
    faulty version_of Any old.source old new [] Version told (Consumes-nil old.source) start m memory read
    (λ bytes within total is missing. subst (IsFaultOf bytes) (sym is) (record { limit = within; missing = λ layout others e. missing layout others tt e }))

module _ (layout : Layout) where
  -- after the version
  pub header_fault : (old middle new : Hand) (told : CacheFault) → old.given ≡ 0 → Comes version_of Any old middle layout → Misses (head_bytes layout) (FitsHead layout) middle new Header told → GaveFault old.source new.source told
  header_fault old middle new told start v m memory read =
      faulty (head_bytes layout) (FitsHead layout) old.source middle new (version_of layout) Header told v.consumed (omega (arith, start, v.given)) m memory read
      (λ bytes within total is missing. subst (IsFaultOf (version_of layout ++ bytes)) (sym is) (record { limit = within; layout = layout; behind = bytes; bytes_are = refl; missing = λ header others p e. missing header others p e }))

  -- after the header
  pub name_fault : (old first middle new : Hand) (header : List HeaderField) (fault told : CacheFault) → old.given ≡ 0 → Comes version_of Any old first layout → Comes (head_bytes layout) (FitsHead layout) first middle header
      → Misses name_bytes FitsName middle new fault told → fault ≡ BadItem middle.given → GaveFault old.source new.source told
  name_fault old first middle new header fault told start v h m place memory read =
      let s : List ℕ = start_bytes layout header in
      let at : middle.given ≡ length s = omega (arith, start, v.given, h.given, length-append (version_of layout) (head_bytes layout header)) in
      faulty name_bytes FitsName old.source middle new s fault told
      (Consumes-trans old.source first.source middle.source (version_of layout) (head_bytes layout header) v.consumed h.consumed) at m memory read
      (λ bytes within total is missing. subst (IsFaultOf (s ++ bytes)) (sym (is ∙ place))
      (inl (record { limit = within; layout = layout; header = header; behind = bytes; header_fits = h.fits; bytes_are = refl; at_is = at; missing = λ name others p e. missing name others p e })))

  -- ---- a start and whole credentials

  pub begun : (old first middle new : Hand) (header : List HeaderField) (name : Principal) → old.given ≡ 0 → Comes version_of Any old first layout → Comes (head_bytes layout) (FitsHead layout) first middle header
      → Comes name_bytes FitsName middle new name → HasTaken layout old.source new.source new.given (cache_of header name [])
  begun old first middle new header name start v h n =
      let s : List ℕ = start_bytes layout header in
      let joined : s ++ name_bytes name ≡ (s ++ (name_bytes name ++ [])) ++ [] = ap (λ (t : List ℕ). s ++ t) (sym (append-nil (name_bytes name))) ∙ sym (append-nil (s ++ (name_bytes name ++ []))) in
      let started = Consumes-trans old.source first.source middle.source (version_of layout) (head_bytes layout header) v.consumed h.consumed in
      record {
        bytes = s ++ name_bytes name;
        taken = Consumes-trans old.source middle.source new.source s (name_bytes name) started n.consumed;
        reached = is_reached layout (s ++ name_bytes name) new.given header name [] [] h.fits n.fits (All-nil (Spells layout)) joined
            (omega (arith, start, v.given, h.given, n.given, length-append (version_of layout) (head_bytes layout header), length-append s (name_bytes name), ap length joined, ap length (append-nil (s ++ (name_bytes name ++ [])))));
      }

  -- no more was at hand than of the longest of these
  pub begun_peak : (old first middle new : Hand) (header : List HeaderField) (name : Principal) → Comes version_of Any old first layout → Comes (head_bytes layout) (FitsHead layout) first middle header → Comes name_bytes FitsName middle new name
      → new.peak ≡ max old.peak (max (length (head_bytes layout header)) (length (name_bytes name)))
  begun_peak old first middle new header name v h n = omega (arith, v.peak, version_length layout, h.peak, n.peak, name_more name)

  pub item_taken : (from : Option (List ℕ)) (old new : Hand) (cache : Cache) (one : Spelled) → HasTaken layout from old.source old.given cache → Comes bytes_of (Spells layout) old new one
      → HasTaken layout from new.source new.given (with_credential cache one.credential)
  item_taken from old new cache one h c = record {
    bytes = h.bytes ++ one.bytes;
    taken = Consumes-trans from old.source new.source h.bytes one.bytes h.taken c.consumed;
    reached = subst (λ (n : ℕ). IsReached layout (h.bytes ++ one.bytes) n (with_credential cache one.credential) []) (sym c.given) (reached_more layout h.bytes old.given cache h.reached one c.fits);
  }

  -- no bytes came, if no part did
  all_came : (new : Hand) (at : ℕ) → Tells new (BadItem at) (BadItem at) → IsAtEnd new.source × (new.given ≤ file_limit)
  all_came new at tells =
      elim tells [
        | inl failed ↦ absurd cc
        | inr (inl long) ↦ let other = long.0 in absurd cc
        | inr (inr same) ↦ same.1
      ]

  pub end_taken : (from : Option (List ℕ)) (old new : Hand) (cache : Cache) → HasTaken layout from old.source old.given cache → MissesOne layout old new (BadItem old.given) → new.given ≡ old.given → GaveCache from new.source cache
  end_taken from old new cache h m same =
      let l = m.lacks (λ e. absurd cc) (λ e. absurd cc) in
      let came = all_came new old.given (m.tells (λ e. absurd cc)) in
      let none : l.bytes ≡ [] = nil_from_length l.bytes (omega (arith, l.gives.given, same)) in
      let consumed : Consumes from new.source h.bytes = subst (λ (x : List ℕ). Consumes from new.source x) (ap (λ (x : List ℕ). h.bytes ++ x) none ∙ append-nil h.bytes)
      (Consumes-trans from old.source new.source h.bytes l.bytes h.taken l.gives.consumed) in
      let few : length h.bytes ≤ file_limit = omega (arith, reached_end layout h.bytes old.given cache h.reached, same, came.1) in (
        h.bytes,
        record { given = consumed; limit = omega (arith, few); end = λ k. came.0 },
        record { limit = few; layout = layout; at = old.given; reached = h.reached },
      )

  pub item_fault : (from : Option (List ℕ)) (old new : Hand) (cache : Cache) (told : CacheFault) → HasTaken layout from old.source old.given cache → MissesOne layout old new told
      → (told ≡ BadItem old.given → new.given ≢ old.given) → GaveFault from new.source told
  item_fault from old new cache told h m more memory read =
      let at : old.given ≡ length h.bytes = reached_end layout h.bytes old.given cache h.reached in
      faulty bytes_of (Spells layout) from old new h.bytes (BadItem old.given) told h.taken at m memory read
      (λ bytes within total is missing. subst (IsFaultOf (h.bytes ++ bytes)) (sym is)
      (inr (record {
        limit = within;
        layout = layout;
        cache = cache;
        behind = bytes;
        reached = reached_before layout h.bytes old.given cache h.reached bytes;
        more = λ none. more is (omega (arith, total, at, ap length none, length-append h.bytes bytes));
        missing = λ one others p e. missing one others p e;
      })))

  -- ---- where a reader stops

  ended_at : (new : Hand) (fault told : CacheFault) → told ≢ Read → Tells new fault told → new.given ≤ file_limit → IsAtEnd new.source
  ended_at new fault told read tells within =
      elim tells [
        | inl failed ↦ absurd (read failed)
        | inr (inl long) ↦ absurd (omega (arith, long.1, within))
        | inr (inr same) ↦ same.1.0
      ]

  -- ---- the answer of a step

  -- a reader, with what it took of its source
  abbrev reading : {S : Type 0} → List HeaderField → Principal → Option (Result (Unit {0}) CacheFault) → AtHand S → Reading S
  reading header name ended window = record { source = window.source; layout = layout; header = header; default_principal = name; given = window.given; held = window.peak; ended = ended }

  pub next_item : {S : Type 0} (left : S → Option (List ℕ)) (from : Option (List ℕ)) (old new : AtHand S) (header : List HeaderField) (name : Principal) (ended : Option (Result (Unit {0}) CacheFault)) (cache : Cache) (result : Result (Option Credential) CacheFault) → IsStep layout (window_hand left old) (window_hand left new) result
      → HasTaken layout from (left old.source) old.given cache → ended ≡ ended_by result → IfOk result (λ next. IfSome next (λ credential. HasRead left from (reading header name ended new) (with_credential cache credential)))
  next_item left from old new header name ended cache (Ok (Some credential)) step h is = record { going = is; taken = item_taken from (window_hand left old) (window_hand left new) cache (spelled_as step.0 credential) h step.1 }
  next_item left from old new header name ended cache (Ok None) step h is = tt
  next_item left from old new header name ended cache (Err fault) step h is = tt

  gave_one : (old new : Hand) (bytes : List ℕ) (credential : Credential) → Comes bytes_of (Spells layout) old new (spelled_as bytes credential) → GaveOne layout old.given new.given credential
  gave_one old new bytes credential comes =
      let one : Spelled = spelled_as bytes credential in
      record { given = omega (arith, comes.given, spelled_length layout one comes.fits); some = omega (arith, comes.given, spelled_bytes_some layout one comes.fits); limit = comes.within }

  pub next_more : (old new : Hand) (result : Result (Option Credential) CacheFault) → IsStep layout old new result → IfOk result (λ next. IfSome next (λ credential. GaveOne layout old.given new.given credential))
  next_more old new (Ok (Some credential)) step = gave_one old new step.0 credential step.1
  next_more old new (Ok None) step = tt
  next_more old new (Err fault) step = tt

  -- of a credential it is only said that it was there
  pub passed_end : (answer : Result (Option Credential) CacheFault) (said : Result Bool CacheFault) → said ≡ passed answer → said ≡ Ok false → answer ≡ Ok None
  passed_end (Ok (Some credential)) said is end = absurd cc
  passed_end (Ok None) said is end = refl
  passed_end (Err fault) said is end = absurd cc

  pub passed_err : (answer : Result (Option Credential) CacheFault) (said : Result Bool CacheFault) (P : CacheFault → Type 0) → said ≡ passed answer → IfErr answer P → IfErr said P
  passed_err (Ok (Some credential)) said P is h = subst (λ (s : Result Bool CacheFault). IfErr s P) (sym is) tt
  passed_err (Ok None) said P is h = subst (λ (s : Result Bool CacheFault). IfErr s P) (sym is) tt
  passed_err (Err fault) said P is h = subst (λ (s : Result Bool CacheFault). IfErr s P) (sym is) h

  pub on_err : (said : Result Bool CacheFault) (P : Type 0) → P → OnErr said P
  on_err (Ok there) P h = tt
  on_err (Err fault) P h = h

  pub passed_one : {S : Type 0} (left : S → Option (List ℕ)) (old new : AtHand S) (header : List HeaderField) (name : Principal) (was now : Option (Result (Unit {0}) CacheFault)) (answer : Result (Option Credential) CacheFault) (said : Result Bool CacheFault) → IsStep layout (window_hand left old) (window_hand left new) answer → said ≡ passed answer → said ≡ Ok true
      → now ≡ ended_passed said → (credential : Credential) × PassedOne left (reading header name was old) (reading header name now new) credential
  passed_one left old new header name was now (Ok None) said step is there ended = absurd cc
  passed_one left old new header name was now (Err fault) said step is there ended = absurd cc
  passed_one left old new header name was now (Ok (Some credential)) said step is there ended = (
    credential,
    record {
      gave = gave_one (window_hand left old) (window_hand left new) step.0 credential step.1;
      held = omega (arith, step.1.peak, spelled_length layout (spelled_as step.0 credential) step.1.fits);
      read = λ from cache read. next_item left from old new header name now cache (Ok (Some credential)) step read.taken (ended ∙ ap ended_passed is);
    },
  )

  pub next_end : (from : Option (List ℕ)) (old new : Hand) (cache : Cache) (result : Result (Option Credential) CacheFault) → IsStep layout old new result → HasTaken layout from old.source old.given cache → result ≡ Ok None → GaveCache from new.source cache
  next_end from old new cache (Ok None) step h e = end_taken from old new cache h step.0 step.1
  next_end from old new cache (Ok (Some credential)) step h e = absurd cc
  next_end from old new cache (Err fault) step h e = absurd cc

  pub passed_taken : (from : Option (List ℕ)) (old new : Hand) (cache : Cache) (answer : Result (Option Credential) CacheFault) → Ok true ≡ passed answer → IsStep layout old new answer → HasTaken layout from old.source old.given cache
      → (next : Cache) × HasTaken layout from new.source new.given next × (old.given < new.given) × (new.given ≤ file_limit)
  passed_taken from old new cache (Ok (Some credential)) there step h =
      let one = gave_one old new step.0 credential step.1 in
      (with_credential cache credential, item_taken from old new cache (spelled_as step.0 credential) h step.1, one.some, one.limit)
  passed_taken from old new cache (Ok None) there step h = absurd cc
  passed_taken from old new cache (Err fault) there step h = absurd cc

  -- at the end nothing more came
  pub stays : {S : Type 0} (left : S → Option (List ℕ)) (old new : AtHand S) (header : List HeaderField) (name : Principal) (was now : Option (Result (Unit {0}) CacheFault)) (answer : Result (Option Credential) CacheFault) → IsStep layout (window_hand left old) (window_hand left new) answer → answer ≡ Ok None
      → StaysAtEnd (left new.source) (reading header name was old) (reading header name now new)
  stays left old new header name was now (Ok (Some credential)) step end = absurd cc
  stays left old new header name was now (Err fault) step end = absurd cc
  stays left old new header name was now (Ok None) step end =
      let some = step.0.some.1 in
      record { end = (all_came (window_hand left new) old.given (step.0.tells (λ e. absurd cc))).0; given = step.1; held = omega (arith, step.1, some.given, some.grows, some.peak) }

  pub next_fault : (from : Option (List ℕ)) (old new : Hand) (cache : Cache) (result : Result (Option Credential) CacheFault) → IsStep layout old new result → HasTaken layout from old.source old.given cache
      → IfErr result (GaveFault from new.source)
  next_fault from old new cache (Ok (Some credential)) step h = tt
  next_fault from old new cache (Ok None) step h = tt
  next_fault from old new cache (Err fault) step h = λ memory read. item_fault from old new cache fault h step.0 step.1 memory read

  pub next_stops : (from : Option (List ℕ)) (old new : Hand) (cache : Cache) (result : Result (Option Credential) CacheFault) → IsStep layout old new result → HasTaken layout from old.source old.given cache → old.given ≤ file_limit
      → IfErr result (λ fault. fault ≢ OutOfMemory → fault ≢ Read → IfSome from (λ bytes. GoesTo bytes cache))
  next_stops from old new cache (Ok (Some credential)) step h within = tt
  next_stops from old new cache (Ok None) step h within = tt
  next_stops None old new cache (Err fault) step h within = λ memory read. tt
  next_stops (Some whole) old new cache (Err fault) step h within = λ memory read.
      let l = step.0.lacks read memory in
      let known = none_comes layout whole old.source new.source h.bytes l.bytes old.given new.given h.taken l.gives.consumed (ended_at new (BadItem old.given) fault read (step.0.tells memory)) l.gives.given l.missing in
      record {
        layout = layout;
        at = old.given;
        behind = known.0;
        reached = reached_too layout h.bytes old.given cache [] h.reached known.0 whole (known.1 ∙ ap (λ (t : List ℕ). t ++ known.0) (reached_all layout h.bytes old.given cache h.reached));
        within = within;
        missing = known.2;
      }

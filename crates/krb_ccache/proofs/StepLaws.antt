-- What one step of a reader takes of its source.
use Rattle.std.proofs.Common.{◌≡◌, ◌⊎◌, ℕ, ◌+◌, ◌≤◌, Bool, true, List, [], ◌++◌, length, Option, Some, None, Result, Ok, Err, refl, sym, ap, subst, ◌∙◌, append_assoc, append-nil, arith, inl, inr}
use Rattle.std.specs.Io.KnownBytes.{Consumes}
use Rattle.std.proofs.KnownBytes.{Consumes-trans}
use Rattle.std.proofs.lemmas.List.{length-append, nil_from_length}
use Rattle.krb_file.specs.Cursor.{Place}
use Rattle.krb_file.specs.Window.{Keeps}
use Rattle.krb_file.specs.Hand.{Hand}
use Rattle.krb_file.specs.File.{file_limit, GivesWithin}
use Rattle.krb_ccache.specs.Types.{CacheFault, Layout, Credential, BadItem, OutOfMemory, HeaderField, Read}
use Rattle.krb_ccache.specs.declared.walking.TakeFault.{TakeFault}
use Rattle.krb_ccache.specs.declared.walking.TakeFault.TheVariants as stop
use Rattle.krb_ccache.specs.Reader.{HeldPart, passed}
use Rattle.krb_ccache.specs.Value.{FitsCredential}
use Rattle.krb_ccache.specs.Inner.Standing.{bytes_of, Lies, IsMissing, spelled_as}
use Rattle.krb_ccache.specs.Inner.Walking.{CantCome, Walks, Halts, FitsKeyed, whole}
use Rattle.krb_ccache.specs.Inner.Stepping.{Any, Stands, cleared, Comes, IsPassed, Gives, Runs, IsTold, Lacks, Misses, MissesOne, IsStep, IsAtHand, IsNone, Tells}
use Rattle.std.specs.Prelude.{◌≢◌}
use Rattle.krb_ccache.specs.Format.{version_of, head_bytes, FitsHead, second_size, Spelled, Spells}
use Rattle.krb_file.proofs.FileLaws.{gives_then}
use Rattle.krb_ccache.proofs.WalkLaws.{front_same}

abbrev pub unit_err : CacheFault → Result (Unit {0}) CacheFault
unit_err fault = Err fault

module _ {X : Type 0} (s : X → List ℕ) (P : X → Type 0) where
  -- what was taken is the thing that was read
  pub came : (old start new : Hand) (bytes : List ℕ) (x : X) → Walks s P start new → start ≡ cleared old → bytes ≡ new.bytes → Stands s P bytes x → Comes s P old new x
  came old start new bytes x walks e at_hand stands =
      let w = subst (λ (t : Hand). Walks s P t new) e walks in
      let parts : w.piece ≡ s x ++ stands.others = sym (at_hand ∙ w.keeps.bytes) ∙ stands.bytes_are in
      let len : length (s x) ≡ length w.piece = w.spans x [] stands.others stands.fits (append-nil w.piece ∙ parts) in
      let none : stands.others ≡ [] = nil_from_length stands.others (omega (arith, len, ap length parts, length-append (s x) stands.others)) in
      let whole : w.piece ≡ s x = parts ∙ ap (λ (t : List ℕ). s x ++ t) none ∙ append-nil (s x) in
      record {
        fits = stands.fits;
        consumed = subst (λ (t : List ℕ). Consumes old.source new.source t) whole w.keeps.consumed;
        given = omega (arith, w.keeps.given, len);
        within = w.within;
        peak = omega (arith, w.keeps.peak, ap length w.keeps.bytes, len);
      }

  pub passed_by : (old start new : Hand) → Walks s P start new → start ≡ cleared old → (x : X) × Stands s P new.bytes x → IsPassed s P old new
  passed_by old start new walks e one = record { some = one.0; stands = one.1; comes = λ x stands. came old start new new.bytes x walks e refl stands }

  -- there is no memory to make it
  pub lost : (old new : Hand) (fault : CacheFault) (x : X) → Comes s P old new x → Misses s P old new fault OutOfMemory
  lost old new fault x one = record {
    some = (
      s x,
      record {
        consumed = one.consumed;
        given = one.given;
        grows = omega (arith, one.peak);
        peak = omega (arith, one.peak);
        limit = λ old_limit. omega (arith, one.peak, one.given, one.within, old_limit);
        one_past = omega (arith, one.within);
      },
    );
    lacks = λ read memory. absurd (memory refl);
    tells = λ memory. absurd (memory refl);
  }

  pub not_kept : (old new : Hand) (fault : CacheFault) → IsPassed s P old new → Misses s P old new fault OutOfMemory
  not_kept old new fault passed = lost old new fault passed.some (passed.comes passed.some passed.stands)

  -- there is no memory for its bytes
  pub lacks_memory : {memory : Type 0} (old new : Hand) (fault : TakeFault) → Halts s P memory old new fault → fault ≡ stop.OutOfMemory → memory
  lacks_memory {memory} old new fault h e = subst (λ (x : TakeFault). CantCome memory x new.source new.given h.count) e h.cant_come

  -- what was taken is no such thing
  pub missed : {memory : Type 0} (old start new : Hand) → Walks s P start new → start ≡ cleared old → IsMissing s P new.bytes → Halts s P memory (cleared old) new stop.Long
  missed old start new walks e missing =
      let w = subst (λ (t : Hand). Walks s P t new) e walks in
      record {
        piece = w.piece;
        keeps = w.keeps;
        within = w.within;
        count = file_limit + 1;
        wants = λ x more others p same.
            let front = front_same w.piece (s x) more others (sym (w.spans x more others p same)) same in
            absurd (missing x [] p (w.keeps.bytes ∙ front.0 ∙ sym (append-nil (s x))));
        cant_come = omega arith;
      }

  pub halts_cleared : {memory : Type 0} (old start new : Hand) (stop : TakeFault) → Halts s P memory start new stop → start ≡ cleared old → Halts s P memory (cleared old) new stop
  halts_cleared {memory} old start new stop h e = subst (λ (t : Hand). Halts s P memory t new stop) e h

  some_given : (old new : Hand) (piece : List ℕ) → Keeps old.source new.source (cleared old) new piece → new.given ≤ file_limit → Gives old new piece
  some_given old new piece k within = record {
    consumed = k.consumed;
    given = k.given;
    grows = omega (arith, k.peak);
    peak = omega (arith, k.peak, ap length k.bytes);
    limit = λ old_limit. omega (arith, k.peak, ap length k.bytes, k.given, within, old_limit);
    one_past = omega (arith, within);
  }

  then_run : (old middle new : Hand) (piece : List ℕ) → Keeps old.source middle.source (cleared old) middle piece → middle.given ≤ file_limit → (r : Runs middle new) → Gives old new (piece ++ r.piece)
  then_run old middle new piece k within r = record {
    consumed = Consumes-trans old.source middle.source new.source piece r.piece k.consumed r.skips.consumed;
    given = omega (arith, k.given, r.skips.given, length-append piece r.piece);
    grows = omega (arith, k.peak, r.skips.peak);
    peak = omega (arith, k.peak, ap length k.bytes, r.skips.peak, length-append piece r.piece);
    limit = λ old_limit. omega (arith, k.peak, ap length k.bytes, k.given, within, old_limit, r.skips.peak);
    one_past = r.one_past;
  }

  -- where the end came, or the limit was passed, no such thing stands within the limit
  ended : {memory : Type 0} (old new : Hand) → Halts s P memory (cleared old) new stop.End → Lacks s P old new
  ended old new h = record {
    bytes = h.piece;
    gives = some_given old new h.piece h.keeps h.within;
    one_past = omega (arith, h.within);
    missing = λ x others p le e. omega (arith, h.wants x [] others p (append-nil h.piece ∙ e), h.cant_come.1, ap length e, length-append (s x) others);
  }

  ran : {memory : Type 0} (old middle new : Hand) → Halts s P memory (cleared old) middle stop.Long → Runs middle new → Lacks s P old new
  ran old middle new h r = record {
    bytes = h.piece ++ r.piece;
    gives = then_run old middle new h.piece h.keeps h.within r;
    one_past = r.one_past;
    missing = λ x others p le e. omega (arith, h.wants x r.piece others p e, h.cant_come, h.keeps.given, le);
  }

  -- nothing was read after that
  stayed : {memory : Type 0} (old middle new : Hand) (stop : TakeFault) (fault told : CacheFault) → Halts s P memory (cleared old) middle stop → new ≡ middle → (told ≢ Read → told ≢ OutOfMemory → Lacks s P old middle) → (told ≢ OutOfMemory → Tells middle fault told)
      → Misses s P old new fault told
  stayed old middle new stop fault told h same lacks tells =
      subst (λ (w : Hand). Misses s P old w fault told) (sym same) (record { some = (h.piece, some_given old middle h.piece h.keeps h.within); lacks = lacks; tells = tells })

  pub misses : {memory : Type 0} (old middle new : Hand) (stop : TakeFault) (fault told : CacheFault) → Halts s P memory (cleared old) middle stop → IsTold middle new stop fault told → Misses s P old new fault told
  misses old middle new stop.End fault told h t = stayed old middle new stop.End fault told h t.1 (λ read memory. ended old middle h) (λ memory. inr (inr (t.0, (h.cant_come.0, h.within))))
  misses old middle new stop.Long fault told h t = record {
    some = (h.piece ++ t.0.piece, then_run old middle new h.piece h.keeps h.within t.0);
    lacks = λ read memory. ran old middle new h t.0;
    tells = λ memory. t.1;
  }
  misses old middle new stop.Read fault told h t = stayed old middle new stop.Read fault told h t.1 (λ read memory. absurd (read t.0)) (λ memory. inl t.0)
  misses old middle new stop.OutOfMemory fault told h t = stayed old middle new stop.OutOfMemory fault told h t.1 (λ read memory. absurd (memory t.0)) (λ memory. absurd (memory t.0))

  -- the source gave at most one byte past the limit, whether a thing came or not
  pub comes_gives : (old new : Hand) (x : X) → Comes s P old new x → GivesWithin old.source new.source old.given new.given
  comes_gives old new x c = record { piece = s x; taken = c.consumed; given = c.given; within = λ l. omega (arith, c.within) }

  pub misses_gives : (old new : Hand) (fault told : CacheFault) → Misses s P old new fault told → GivesWithin old.source new.source old.given new.given
  misses_gives old new fault told m = let some = m.some.1 in record { piece = m.some.0; taken = some.consumed; given = some.given; within = λ l. some.one_past }

-- a version and a header came, and then more
pub head_gives : (layout : Layout) (old first middle new : Hand) (header : List HeaderField) → Comes version_of Any old first layout → Comes (head_bytes layout) (FitsHead layout) first middle header
    → GivesWithin middle.source new.source middle.given new.given → GivesWithin old.source new.source old.given new.given
head_gives layout old first middle new header p q more =
    gives_then old.source first.source new.source _ _ _ (comes_gives version_of Any old first layout p)
    (gives_then first.source middle.source new.source _ _ _ (comes_gives (head_bytes layout) (FitsHead layout) first middle header q) more)

-- memory is only lacking for the bytes
pub told_memory : {memory : Type 0} (fault told : CacheFault) (why : TakeFault) → (told ≡ OutOfMemory → (fault ≡ OutOfMemory) ⊎ (why ≡ stop.OutOfMemory)) → fault ≢ OutOfMemory → (why ≡ stop.OutOfMemory → memory) → unit_err told ≡ unit_err OutOfMemory → memory
told_memory fault told why lacks named memory e =
    let same : told ≡ OutOfMemory = cc in
    elim (lacks same) [
      | inl is ↦ absurd (named is)
      | inr is ↦ memory is
    ]

-- ---- no credential came

module _ (layout : Layout) {memory : Type 0} (old middle new : Hand) (stop : TakeFault) (at : ℕ) (told : CacheFault) (here : at ≡ old.given) (halts : Halts bytes_of (Spells layout) memory (cleared old) middle stop)
    (is_told : IsTold middle new stop (BadItem at) told) where
  none_came : MissesOne layout old new told
  none_came = subst (λ (f : CacheFault). Misses bytes_of (Spells layout) old new f told) (ap BadItem here) (misses bytes_of (Spells layout) old middle new stop (BadItem at) told halts is_told)

  pub none_step : (result : Result Bool CacheFault) → IsNone at new.given told result → (answer : Result (Option Credential) CacheFault) × (result ≡ passed answer) × IsStep layout old new answer × IsAtHand layout new.bytes answer
  none_step (Ok there) none = (Ok None, ap (λ (b : Bool). Ok b) none.0, (subst (MissesOne layout old new) (none.1.0 ∙ ap BadItem here) none_came, none.1.1 ∙ here), tt)
  none_step (Err fault) none = (
    Err told,
    ap (λ (f : CacheFault). Err f) none.0,
    (none_came, subst (λ (n : ℕ). told ≡ BadItem n → new.given ≢ n) here none.1),
    tt,
  )

-- ---- what a step leaves

module _ (layout : Layout) (old new : Hand) where
  pub step_gives : (answer : Result (Option Credential) CacheFault) → IsStep layout old new answer → GivesWithin old.source new.source old.given new.given
  step_gives (Ok (Some credential)) step = comes_gives bytes_of (Spells layout) old new (spelled_as step.0 credential) step.1
  step_gives (Ok None) step = misses_gives bytes_of (Spells layout) old new (BadItem old.given) (BadItem old.given) step.0
  step_gives (Err fault) step = misses_gives bytes_of (Spells layout) old new (BadItem old.given) fault step.0

  pub step_limit : (answer : Result (Option Credential) CacheFault) → IsStep layout old new answer → new.given ≤ file_limit + 1
  step_limit (Ok (Some credential)) step = omega (arith, step.1.within)
  step_limit (Ok None) step = step.0.some.1.one_past
  step_limit (Err fault) step = step.0.some.1.one_past

  pub gives_step : (from : Option (List ℕ)) (given : ℕ) (answer : Result (Option Credential) CacheFault) → GivesWithin from old.source given old.given → IsStep layout old new answer → GivesWithin from new.source given new.given
  gives_step from given answer gave step = gives_then from old.source new.source given old.given new.given gave (step_gives answer step)

-- ---- a credential that was passed

-- there was no room for it
pub not_made : (layout : Layout) (old new : Hand) (answer : Result (Option Credential) CacheFault) → Ok true ≡ passed answer → IsStep layout old new answer
    → IsStep layout old new (Err OutOfMemory)
not_made layout old new (Ok None) there step = absurd cc
not_made layout old new (Err fault) there step = absurd cc
not_made layout old new (Ok (Some credential)) there step = (lost bytes_of (Spells layout) old new (BadItem old.given) (spelled_as step.0 credential) step.1, λ e. absurd cc)

-- it was made of the bytes at hand
pub was_made : (layout : Layout) (old new : Hand) (answer : Result (Option Credential) CacheFault) (bytes : List ℕ) (made : Credential) → Ok true ≡ passed answer → IsStep layout old new answer
    → IsAtHand layout new.bytes answer → bytes ≡ new.bytes → ((one : Spelled) → Stands bytes_of (Spells layout) bytes one → made ≡ one.credential) → IsStep layout old new (Ok (Some made))
was_made layout old new (Ok None) bytes made there step hand same is = absurd cc
was_made layout old new (Err fault) bytes made there step hand same is = absurd cc
was_made layout old new (Ok (Some credential)) bytes made there step hand same is =
    let one : Spelled = spelled_as hand.0 credential in
    let stands = subst (λ (t : List ℕ). Stands bytes_of (Spells layout) t one) (sym same) hand.1 in
    subst (λ (x : Credential). IsStep layout old new (Ok (Some x))) (sym (is one stands)) step

-- what lies at the start of the bytes at hand
pub lies_stands : {X : Type 0} {s : X → List ℕ} {P : X → Type 0} (bytes : List ℕ) (place behind : Place) (x : X) → place ≡ record { at = 0; rest = bytes } → Lies s P place x behind → Stands s P bytes x
lies_stands bytes place behind x e lies = record { fits = lies.fits; others = behind.rest; bytes_are = sym (ap (λ (p : Place). p.rest) e) ∙ lies.takes.parts }

-- ---- how much of a credential was at hand

module _ (layout : Layout) where
  part_kept : (old start new : Hand) (piece : List ℕ) → Keeps start.source new.source start new piece → start ≡ cleared old
      → ((credential : Credential) (second : List ℕ) (mark : ℕ) (more others : List ℕ) → FitsCredential credential → length second ≡ second_size layout
      → piece ++ more ≡ whole (record { credential = credential; second = second; mark = mark }) ++ others → length piece ≤ length (whole (record { credential = credential; second = second; mark = mark })))
      → HeldPart layout old.source new.source old.peak new.peak
  part_kept old start new piece keeps e no_longer =
      let k = subst (λ (t : Hand). Keeps t.source new.source t new piece) e keeps in
      record {
        part = piece;
        after = [];
        given = subst (λ (t : List ℕ). Consumes old.source new.source t) (sym (append-nil piece)) k.consumed;
        no_longer = no_longer;
        held = omega (arith, k.peak, ap length k.bytes);
      }

  pub part_walked : (old start new : Hand) → Walks whole (FitsKeyed layout) start new → start ≡ cleared old → HeldPart layout old.source new.source old.peak new.peak
  part_walked old start new w e =
      part_kept old start new w.piece w.keeps e (λ credential second mark more others p size same. omega (arith, w.spans (record { credential = credential; second = second; mark = mark }) more others (p, size) same))

  pub part_halted : {memory : Type 0} (old start new : Hand) (stop : TakeFault) → Halts whole (FitsKeyed layout) memory start new stop → start ≡ cleared old → HeldPart layout old.source new.source old.peak new.peak
  part_halted old start new stop h e =
      part_kept old start new h.piece h.keeps e (λ credential second mark more others p size same. omega (arith, h.wants (record { credential = credential; second = second; mark = mark }) more others (p, size) same))

  pub part_told : (old middle new : Hand) (stop : TakeFault) (fault told : CacheFault) → HeldPart layout old.source middle.source old.peak middle.peak → IsTold middle new stop fault told
      → HeldPart layout old.source new.source old.peak new.peak
  part_told old middle new stop.End fault told h t = subst (λ (w : Hand). HeldPart layout old.source w.source old.peak w.peak) (sym t.1) h
  part_told old middle new stop.Long fault told h t = record {
    part = h.part;
    after = h.after ++ t.0.piece;
    given = subst (λ (l : List ℕ). Consumes old.source new.source l) (append_assoc h.part h.after t.0.piece)
        (Consumes-trans old.source middle.source new.source (h.part ++ h.after) t.0.piece h.given t.0.skips.consumed);
    no_longer = h.no_longer;
    held = omega (arith, h.held, t.0.skips.peak);
  }
  part_told old middle new stop.Read fault told h t = subst (λ (w : Hand). HeldPart layout old.source w.source old.peak w.peak) (sym t.1) h
  part_told old middle new stop.OutOfMemory fault told h t = subst (λ (w : Hand). HeldPart layout old.source w.source old.peak w.peak) (sym t.1) h

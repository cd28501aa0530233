-- What is picked where one entry more is there, whichever keys count.
use Rattle.std.proofs.Common.{◌≡◌, ℕ, ◌<◌, ◌≤◌, ℤ, Bor, subst, List, [], ◌∷◌, ◌++◌, ◌+◌, length, take, drop, get_or, Option, refl, sym, ap, ◌∙◌, append_assoc, append-nil, arith}
use Rattle.std.specs.List.{AllByRecursion}
use Rattle.std.specs.Prelude.{All}
use Rattle.std.proofs.Math.Seq.{get_or-append_seam, take-append_seam}
use Rattle.std.proofs.lemmas.List.Elements.{All-push, All-append, All-cons, All-weaker, All-nil, All-same, recursion_from_All}
use Rattle.std.proofs.lemmas.List.{take_more, take-append-drop, take-append-le}
use Rattle.krb_name.specs.declared.principal.Principal.{Principal}
use Rattle.krb_name.specs.Name.{SameName}
use Rattle.krb_name.specs.Named.{HasOtherName, IsFirstNamed}
use Rattle.krb_keytab.specs.Entry.{KeytabEntry}
use Rattle.krb_keytab.specs.Pick.{IsKeyOf, IsCandidate, HasEntry, IsChosen, IsChoiceBy, Choice, chosen, no_name, no_key, no_version, choice_of}
use Rattle.krb_keytab.specs.Inner.Pick.{or_no_key, or_no_version, IsBelow}
use Rattle.krb_keytab.specs.declared.pick.Picked.{Picked}
use Rattle.krb_keytab.specs.declared.pick.Picked.TheVariants.{Entry}

has_more : (P : KeytabEntry → Type 0) (entries : List KeytabEntry) (e : KeytabEntry) → HasEntry P entries → HasEntry P (entries ++ e ∷ [])
has_more P entries e h = record {
  before = h.before;
  entry = h.entry;
  after = h.after ++ e ∷ [];
  entries_are = ap (λ (t : List KeytabEntry). t ++ e ∷ []) h.entries_are ∙ append_assoc h.before (h.entry ∷ h.after) (e ∷ []);
  holds = h.holds;
}

has_last : (P : KeytabEntry → Type 0) (entries : List KeytabEntry) (e : KeytabEntry) → P e → HasEntry P (entries ++ e ∷ [])
has_last P entries e p = record { before = entries; entry = e; after = []; entries_are = refl; holds = p }

-- an entry that isn't better leaves what was chosen
pub chosen_more : (Usable : KeytabEntry → Type 0) (entries : List KeytabEntry) (name : Principal) (etype : ℤ) (kvno : Option ℕ) (best e : KeytabEntry) → IsChosen Usable entries name etype kvno best
    → (IsCandidate Usable name etype kvno e → e.kvno ≤ best.kvno) → IsChosen Usable (entries ++ e ∷ []) name etype kvno best
chosen_more Usable entries name etype kvno best e h lower = record {
  before = h.before;
  after = h.after ++ e ∷ [];
  entries_are = ap (λ (t : List KeytabEntry). t ++ e ∷ []) h.entries_are ∙ append_assoc h.before (best ∷ h.after) (e ∷ []);
  candidate = h.candidate;
  above = h.above;
  highest = All-push (λ other. IsCandidate Usable name etype kvno other → other.kvno ≤ best.kvno) h.after e h.highest lower;
}

-- an entry above all candidates before it is chosen
chosen_last : (Usable : KeytabEntry → Type 0) (entries : List KeytabEntry) (name : Principal) (etype : ℤ) (kvno : Option ℕ) (e : KeytabEntry) → IsCandidate Usable name etype kvno e
    → All (λ other. IsCandidate Usable name etype kvno other → other.kvno < e.kvno) entries → IsChosen Usable (entries ++ e ∷ []) name etype kvno e
chosen_last Usable entries name etype kvno e candidate above = record {
  before = entries;
  after = [];
  entries_are = refl;
  candidate = candidate;
  above = above;
  highest = All-nil (λ other. IsCandidate Usable name etype kvno other → other.kvno ≤ e.kvno);
}

below_best : (Usable : KeytabEntry → Type 0) (entries : List KeytabEntry) (name : Principal) (etype : ℤ) (kvno : Option ℕ) (best e : KeytabEntry) → IsChosen Usable entries name etype kvno best → best.kvno < e.kvno
    → All (λ other. IsCandidate Usable name etype kvno other → other.kvno < e.kvno) entries
below_best Usable entries name etype kvno best e h lt =
    let P : KeytabEntry → Type 0 = λ other. IsCandidate Usable name etype kvno other → other.kvno < e.kvno in
    let front : All P h.before = All-weaker (λ other. IsCandidate Usable name etype kvno other → other.kvno < best.kvno) P (λ other below candidate. omega (arith, below candidate, lt)) h.before h.above in
    let back : All P h.after = All-weaker (λ other. IsCandidate Usable name etype kvno other → other.kvno ≤ best.kvno) P (λ other below candidate. omega (arith, below candidate, lt)) h.after h.highest in
    All-same P entries (h.before ++ best ∷ h.after) h.entries_are (All-append P h.before (best ∷ h.after) front (All-cons P best h.after (λ candidate. lt) back))

no_candidate : (Usable : KeytabEntry → Type 0) (P : KeytabEntry → Type 0) (entries : List KeytabEntry) (name : Principal) (etype : ℤ) (kvno : Option ℕ) (e : KeytabEntry) → ((other : KeytabEntry) → IsCandidate Usable name etype kvno other → P other) → All (λ other. ¬ P other) entries
    → All (λ other. IsCandidate Usable name etype kvno other → other.kvno < e.kvno) entries
no_candidate Usable P entries name etype kvno e is none = All-weaker (λ other. ¬ P other) (λ other. IsCandidate Usable name etype kvno other → other.kvno < e.kvno) (λ other never candidate. absurd (never (is other candidate))) entries none

no_more : (P Q : KeytabEntry → Type 0) (entries : List KeytabEntry) (e : KeytabEntry) → ((other : KeytabEntry) → Q other → P other) → All (λ other. ¬ P other) entries → ¬ Q e → All (λ other. ¬ Q other) (entries ++ e ∷ [])
no_more P Q entries e is none never = All-push (λ other. ¬ Q other) entries e (All-weaker (λ other. ¬ P other) (λ other. ¬ Q other) (λ other np q. np (is other q)) entries none) never

-- ---- the four steps

pub other_name : (Usable : KeytabEntry → Type 0) (entries : List KeytabEntry) (name : Principal) (etype : ℤ) (kvno : Option ℕ) (e : KeytabEntry) (choice : Choice) → ¬ SameName e.principal name → IsChoiceBy Usable entries name etype kvno choice → IsChoiceBy Usable (entries ++ e ∷ []) name etype kvno choice
other_name Usable entries name etype kvno e (chosen best) never h = chosen_more Usable entries name etype kvno best e h (λ candidate. absurd (never candidate.key_of.same_name))
other_name Usable entries name etype kvno e no_name never h = All-push (λ other. ¬ SameName other.principal name) entries e h never
other_name Usable entries name etype kvno e no_key never h = (has_more (λ other. SameName other.principal name) entries e h.0, All-push (λ other. ¬ IsKeyOf Usable name etype other) entries e h.1 (λ key. never key.same_name))
other_name Usable entries name etype kvno e no_version never h = (has_more (IsKeyOf Usable name etype) entries e h.0, All-push (λ other. ¬ IsCandidate Usable name etype kvno other) entries e h.1 (λ candidate. never candidate.key_of.same_name))

pub name_without_key : (Usable : KeytabEntry → Type 0) (entries : List KeytabEntry) (name : Principal) (etype : ℤ) (kvno : Option ℕ) (e : KeytabEntry) (choice : Choice) → SameName e.principal name → ¬ IsKeyOf Usable name etype e → IsChoiceBy Usable entries name etype kvno choice
    → IsChoiceBy Usable (entries ++ e ∷ []) name etype kvno (or_no_key choice)
name_without_key Usable entries name etype kvno e (chosen best) same never h = chosen_more Usable entries name etype kvno best e h (λ candidate. absurd (never candidate.key_of))
name_without_key Usable entries name etype kvno e no_name same never h = (has_last (λ other. SameName other.principal name) entries e same, no_more (λ other. SameName other.principal name) (IsKeyOf Usable name etype) entries e (λ other key. key.same_name) h never)
name_without_key Usable entries name etype kvno e no_key same never h = (has_more (λ other. SameName other.principal name) entries e h.0, All-push (λ other. ¬ IsKeyOf Usable name etype other) entries e h.1 never)
name_without_key Usable entries name etype kvno e no_version same never h = (has_more (IsKeyOf Usable name etype) entries e h.0, All-push (λ other. ¬ IsCandidate Usable name etype kvno other) entries e h.1 (λ candidate. never candidate.key_of))

pub key_without_version : (Usable : KeytabEntry → Type 0) (entries : List KeytabEntry) (name : Principal) (etype : ℤ) (kvno : Option ℕ) (e : KeytabEntry) (choice : Choice) → IsKeyOf Usable name etype e → ¬ IsCandidate Usable name etype kvno e → IsChoiceBy Usable entries name etype kvno choice
    → IsChoiceBy Usable (entries ++ e ∷ []) name etype kvno (or_no_version choice)
key_without_version Usable entries name etype kvno e (chosen best) key never h = chosen_more Usable entries name etype kvno best e h (λ candidate. absurd (never candidate))
key_without_version Usable entries name etype kvno e no_name key never h = (has_last (IsKeyOf Usable name etype) entries e key, no_more (λ other. SameName other.principal name) (IsCandidate Usable name etype kvno) entries e (λ other candidate. candidate.key_of.same_name) h never)
key_without_version Usable entries name etype kvno e no_key key never h = (has_last (IsKeyOf Usable name etype) entries e key, no_more (IsKeyOf Usable name etype) (IsCandidate Usable name etype kvno) entries e (λ other candidate. candidate.key_of) h.1 never)
key_without_version Usable entries name etype kvno e no_version key never h = (has_more (IsKeyOf Usable name etype) entries e h.0, All-push (λ other. ¬ IsCandidate Usable name etype kvno other) entries e h.1 never)

pub replaced : (Usable : KeytabEntry → Type 0) (entries : List KeytabEntry) (name : Principal) (etype : ℤ) (kvno : Option ℕ) (e : KeytabEntry) (choice : Choice) → IsCandidate Usable name etype kvno e → IsBelow choice e → IsChoiceBy Usable entries name etype kvno choice → IsChosen Usable (entries ++ e ∷ []) name etype kvno e
replaced Usable entries name etype kvno e (chosen best) candidate lt h = chosen_last Usable entries name etype kvno e candidate (below_best Usable entries name etype kvno best e h lt)
replaced Usable entries name etype kvno e no_name candidate lt h = chosen_last Usable entries name etype kvno e candidate (no_candidate Usable (λ other. SameName other.principal name) entries name etype kvno e (λ other c. c.key_of.same_name) h)
replaced Usable entries name etype kvno e no_key candidate lt h = chosen_last Usable entries name etype kvno e candidate (no_candidate Usable (IsKeyOf Usable name etype) entries name etype kvno e (λ other candidate. candidate.key_of) h.1)
replaced Usable entries name etype kvno e no_version candidate lt h = chosen_last Usable entries name etype kvno e candidate (no_candidate Usable (IsCandidate Usable name etype kvno) entries name etype kvno e (λ other c. c) h.1)

-- ---- what a test says

pub key_of : (Usable : KeytabEntry → Type 0) (name : Principal) (etype : ℤ) (e : KeytabEntry) → SameName e.principal name → (e.etype ≡ etype) × Usable e → IsKeyOf Usable name etype e
key_of Usable name etype e same h = record { same_name = same; same_etype = h.0; usable = h.1 }

pub below_at : (picked p : Picked) (e : KeytabEntry) → picked ≡ p → IsBelow (choice_of p) e → IsBelow (choice_of picked) e
below_at picked p e same h = subst (λ (t : Picked). IsBelow (choice_of t) e) (sym same) h

pub not_entry : (picked : Picked) (e : KeytabEntry) → ((best : Bor KeytabEntry) → picked ≡ Entry best → ⊥) → IsBelow (choice_of picked) e
not_entry (Entry best) e never = absurd (never best refl)
not_entry _ e never = tt

-- the same choice is one of the same entries
pub same_choice : (Usable : KeytabEntry → Type 0) (entries : List KeytabEntry) (name : Principal) (etype : ℤ) (kvno : Option ℕ) (choice other : Choice) → other ≡ choice → IsChoiceBy Usable entries name etype kvno choice → IsChoiceBy Usable entries name etype kvno other
same_choice Usable entries name etype kvno choice other same h = subst (λ (t : Choice). IsChoiceBy Usable entries name etype kvno t) (sym same) h

-- ---- as a loop over the entries does it

pub one_more : (Usable : KeytabEntry → Type 0) (entries : List KeytabEntry) (index : ℕ) (e : KeytabEntry) (name : Principal) (etype : ℤ) (kvno : Option ℕ) (choice : Choice) → index < length entries → e ≡ get_or entries index e
    → IsChoiceBy Usable (take index entries ++ e ∷ []) name etype kvno choice → IsChoiceBy Usable (take (index + 1) entries) name etype kvno choice
one_more Usable entries index e name etype kvno choice lt is h =
    subst (λ (t : List KeytabEntry). IsChoiceBy Usable t name etype kvno choice) (ap (λ (x : KeytabEntry). take index entries ++ x ∷ []) is ∙ sym (take_more entries index e lt)) h

-- ---- passing over other names

others_more : (Usable : KeytabEntry → Type 0) (front others : List KeytabEntry) (name : Principal) (etype : ℤ) (kvno : Option ℕ) (choice : Choice) → AllByRecursion (λ (e : KeytabEntry). ¬ SameName e.principal name) others → IsChoiceBy Usable front name etype kvno choice
    → IsChoiceBy Usable (front ++ others) name etype kvno choice
others_more Usable front [] name etype kvno choice all h = subst (λ (t : List KeytabEntry). IsChoiceBy Usable t name etype kvno choice) (sym (append-nil front)) h
others_more Usable front (e ∷ others) name etype kvno choice all h =
    subst (λ (t : List KeytabEntry). IsChoiceBy Usable t name etype kvno choice) (append_assoc front (e ∷ []) others)
    (others_more Usable (front ++ e ∷ []) others name etype kvno choice all.1 (other_name Usable front name etype kvno e choice all.0 h))

others_passed : (Usable : KeytabEntry → Type 0) (entries : List KeytabEntry) (from : ℕ) (name : Principal) (etype : ℤ) (kvno : Option ℕ) (choice : Choice) → All (HasOtherName (λ (e : KeytabEntry). e.principal) name) (drop from entries) → IsChoiceBy Usable (take from entries) name etype kvno choice
    → IsChoiceBy Usable entries name etype kvno choice
others_passed Usable entries from name etype kvno choice all h =
    subst (λ (t : List KeytabEntry). IsChoiceBy Usable t name etype kvno choice) (take-append-drop from entries)
    (others_more Usable (take from entries) (drop from entries) name etype kvno choice (recursion_from_All (λ (e : KeytabEntry). ¬ SameName e.principal name) (drop from entries) all) h)

pub none_left : (Usable : KeytabEntry → Type 0) (entries : List KeytabEntry) (from : ℕ) (name : Principal) (etype : ℤ) (kvno : Option ℕ) (choice : Choice) → All (HasOtherName (λ (e : KeytabEntry). e.principal) name) (drop from entries) → IsChoiceBy Usable (take from entries) name etype kvno choice
    → IsChoiceBy Usable entries name etype kvno choice
none_left Usable entries from name etype kvno choice all h = others_passed Usable entries from name etype kvno choice all h

-- the entries before the one that was found
pub passed_over : (Usable : KeytabEntry → Type 0) (entries : List KeytabEntry) (from at : ℕ) (name : Principal) (etype : ℤ) (kvno : Option ℕ) (choice : Choice) → IsFirstNamed (λ (e : KeytabEntry). e.principal) entries name from at → IsChoiceBy Usable (take from entries) name etype kvno choice
    → IsChoiceBy Usable (take at entries) name etype kvno choice
passed_over Usable entries from at name etype kvno choice first h =
    let short : take from entries ≡ take from first.before = ap (take from) first.items_are ∙ take-append-le from first.before (first.one ∷ first.after) (omega (arith, first.forward, first.at_is)) in
    let whole : take at entries ≡ first.before = ap (take at) first.items_are ∙ ap (λ n. take n (first.before ++ first.one ∷ first.after)) first.at_is ∙ take-append_seam first.before (first.one ∷ first.after) in
    subst (λ (t : List KeytabEntry). IsChoiceBy Usable t name etype kvno choice) (sym whole)
    (others_passed Usable first.before from name etype kvno choice first.others (subst (λ (t : List KeytabEntry). IsChoiceBy Usable t name etype kvno choice) short h))

-- and that one
pub found_name : (entries : List KeytabEntry) (from at : ℕ) (name : Principal) (e : KeytabEntry) → IsFirstNamed (λ (e : KeytabEntry). e.principal) entries name from at → e ≡ get_or entries at e → SameName e.principal name
found_name entries from at name e first is =
    let one : e ≡ first.one = is ∙ ap (λ (t : List KeytabEntry). get_or t at e) first.items_are ∙ ap (λ n. get_or (first.before ++ first.one ∷ first.after) n e) first.at_is ∙ get_or-append_seam first.before first.one first.after e in
    subst (λ (x : KeytabEntry). SameName x.principal name) (sym one) first.same

-- One choice is right for a list of entries, whichever keys count.
use Rattle.std.proofs.Common.{◌≡◌, ℕ, ◌<◌, ◌≤◌, ℤ, List, [], ◌∷◌, ◌++◌, Option, refl, sym, ap, subst, ◌∙◌, arith}
use Rattle.std.specs.Prelude.{All}
use Rattle.std.specs.List.{AllByRecursion}
use Rattle.std.proofs.lemmas.List.Elements.{recursion_from_All, All-same}
use Rattle.krb_name.specs.declared.principal.Principal.{Principal}
use Rattle.krb_name.specs.Name.{SameName}
use Rattle.krb_keytab.specs.Entry.{KeytabEntry}
use Rattle.krb_keytab.proofs.FileLaws.{at_middle}
use Rattle.krb_keytab.specs.Pick.{IsKeyOf, IsCandidate, HasEntry, IsChosen, IsChoiceBy, Choice, chosen, no_name, no_key, no_version}

has_none : (P : KeytabEntry → Type 0) (entries : List KeytabEntry) → HasEntry P entries → All (λ e. ¬ P e) entries → ⊥
has_none P entries has none =
    at_middle (λ e. ¬ P e) has.before has.entry has.after (All-same (λ e. ¬ P e) (has.before ++ has.entry ∷ has.after) entries (sym has.entries_are) none) has.holds

abbrev Below : (KeytabEntry → Type 0) → KeytabEntry → KeytabEntry → Type 0
Below C e other = C other → other.kvno < e.kvno

abbrev AtMost : (KeytabEntry → Type 0) → KeytabEntry → KeytabEntry → Type 0
AtMost C e other = C other → other.kvno ≤ e.kvno

same_place : (C : KeytabEntry → Type 0) (before others : List KeytabEntry) (e f : KeytabEntry) (after rest : List KeytabEntry) → C e → C f → AllByRecursion (Below C e) before → All (AtMost C e) after
    → AllByRecursion (Below C f) others → All (AtMost C f) rest → before ++ e ∷ after ≡ others ++ f ∷ rest → e ≡ f
same_place C [] [] e f after rest ce cf be ae bf af same = cc
same_place C [] (y ∷ others) e f after rest ce cf be ae bf af same =
    let first : e ≡ y = cc in
    let behind : after ≡ others ++ f ∷ rest = cc in
    let less : e.kvno < f.kvno = (subst (Below C f) (sym first) bf.0) ce in
    let more : f.kvno ≤ e.kvno = at_middle (AtMost C e) others f rest (subst (All (AtMost C e)) behind ae) cf in
    absurd (omega arith)
same_place C (x ∷ before) [] e f after rest ce cf be ae bf af same =
    let first : f ≡ x = cc in
    let behind : rest ≡ before ++ e ∷ after = cc in
    let less : f.kvno < e.kvno = (subst (Below C e) (sym first) be.0) cf in
    let more : e.kvno ≤ f.kvno = at_middle (AtMost C f) before e after (subst (All (AtMost C f)) behind af) ce in
    absurd (omega arith)
same_place C (x ∷ before) (y ∷ others) e f after rest ce cf be ae bf af same = same_place C before others e f after rest ce cf be.1 ae bf.1 af cc

same_chosen : (Usable : KeytabEntry → Type 0) (entries : List KeytabEntry) (name : Principal) (etype : ℤ) (kvno : Option ℕ) (e f : KeytabEntry) → IsChosen Usable entries name etype kvno e → IsChosen Usable entries name etype kvno f → e ≡ f
same_chosen Usable entries name etype kvno e f p q =
    let C : KeytabEntry → Type 0 = IsCandidate Usable name etype kvno in
    same_place C p.before q.before e f p.after q.after p.candidate q.candidate (recursion_from_All (Below C e) p.before p.above) p.highest
    (recursion_from_All (Below C f) q.before q.above) q.highest (sym p.entries_are ∙ q.entries_are)

chosen_there : (Usable : KeytabEntry → Type 0) (entries : List KeytabEntry) (name : Principal) (etype : ℤ) (kvno : Option ℕ) (e : KeytabEntry) → IsChosen Usable entries name etype kvno e → HasEntry (IsCandidate Usable name etype kvno) entries
chosen_there Usable entries name etype kvno e p = record { before = p.before; entry = e; after = p.after; entries_are = p.entries_are; holds = p.candidate }

key_there : (Usable : KeytabEntry → Type 0) (entries : List KeytabEntry) (name : Principal) (etype : ℤ) (kvno : Option ℕ) → HasEntry (IsCandidate Usable name etype kvno) entries → HasEntry (IsKeyOf Usable name etype) entries
key_there Usable entries name etype kvno h = record { before = h.before; entry = h.entry; after = h.after; entries_are = h.entries_are; holds = h.holds.key_of }

name_there : (Usable : KeytabEntry → Type 0) (entries : List KeytabEntry) (name : Principal) (etype : ℤ) → HasEntry (IsKeyOf Usable name etype) entries → HasEntry (λ e. SameName e.principal name) entries
name_there Usable entries name etype h = record { before = h.before; entry = h.entry; after = h.after; entries_are = h.entries_are; holds = h.holds.same_name }

pub one_choice : (Usable : KeytabEntry → Type 0) (entries : List KeytabEntry) (name : Principal) (etype : ℤ) (kvno : Option ℕ) (one other : Choice) → IsChoiceBy Usable entries name etype kvno one → IsChoiceBy Usable entries name etype kvno other → one ≡ other
one_choice Usable entries name etype kvno (chosen e) (chosen f) p q = ap chosen (same_chosen Usable entries name etype kvno e f p q)
one_choice Usable entries name etype kvno (chosen e) no_name p q = absurd (has_none (λ x. SameName x.principal name) entries (name_there Usable entries name etype (key_there Usable entries name etype kvno (chosen_there Usable entries name etype kvno e p))) q)
one_choice Usable entries name etype kvno (chosen e) no_key p q = absurd (has_none (IsKeyOf Usable name etype) entries (key_there Usable entries name etype kvno (chosen_there Usable entries name etype kvno e p)) q.1)
one_choice Usable entries name etype kvno (chosen e) no_version p q = absurd (has_none (IsCandidate Usable name etype kvno) entries (chosen_there Usable entries name etype kvno e p) q.1)
one_choice Usable entries name etype kvno no_name (chosen f) p q = absurd (has_none (λ x. SameName x.principal name) entries (name_there Usable entries name etype (key_there Usable entries name etype kvno (chosen_there Usable entries name etype kvno f q))) p)
one_choice Usable entries name etype kvno no_name no_name p q = refl
one_choice Usable entries name etype kvno no_name no_key p q = absurd (has_none (λ x. SameName x.principal name) entries q.0 p)
one_choice Usable entries name etype kvno no_name no_version p q = absurd (has_none (λ x. SameName x.principal name) entries (name_there Usable entries name etype q.0) p)
one_choice Usable entries name etype kvno no_key (chosen f) p q = absurd (has_none (IsKeyOf Usable name etype) entries (key_there Usable entries name etype kvno (chosen_there Usable entries name etype kvno f q)) p.1)
one_choice Usable entries name etype kvno no_key no_name p q = absurd (has_none (λ x. SameName x.principal name) entries p.0 q)
one_choice Usable entries name etype kvno no_key no_key p q = refl
one_choice Usable entries name etype kvno no_key no_version p q = absurd (has_none (IsKeyOf Usable name etype) entries q.0 p.1)
one_choice Usable entries name etype kvno no_version (chosen f) p q = absurd (has_none (IsCandidate Usable name etype kvno) entries (chosen_there Usable entries name etype kvno f q) p.1)
one_choice Usable entries name etype kvno no_version no_name p q = absurd (has_none (λ x. SameName x.principal name) entries (name_there Usable entries name etype p.0) q)
one_choice Usable entries name etype kvno no_version no_key p q = absurd (has_none (IsKeyOf Usable name etype) entries p.0 q.1)
one_choice Usable entries name etype kvno no_version no_version p q = refl

-- There is a choice for each list of entries.
use Rattle.std.proofs.Common.{◌≡◌, ℕ, ℤ, pos, Bool, true, false, List, [], ◌∷◌, ◌++◌, length, Option, Some, None, refl, sym, subst, inl, inr, append_assoc}
use Rattle.std.specs.Prelude.{IfSome, ◌⊎◌}
use Rattle.std.specs.Bool.{Decides}
use Rattle.std.specs.Str.{bytes_eq}
use Rattle.std.proofs.lemmas.Bool.{cases_lt, cases_eq}
use Rattle.std.proofs.lemmas.Bool.Decides.{Decides-int_eq, Decides-eqb, Decides-and, Decides-or}
use Rattle.std.proofs.lemmas.Slice.Eq.{bytes_eq-Decides, slice_eq-Decides}
use Rattle.std.proofs.lemmas.List.{append-nil}
use Rattle.std.proofs.lemmas.List.Elements.{All-nil}
use Rattle.krb_name.specs.declared.principal.Principal.{Principal}
use Rattle.krb_name.specs.Name.{SameName}
use Rattle.krb_keytab.specs.Entry.{KeytabEntry}
use Rattle.krb_keytab.specs.Usable.{IsUsable}
use Rattle.krb_keytab.specs.Pick.{IsKeyOf, IsCandidate, IsChoice, Choice, chosen, no_name}
use Rattle.krb_keytab.specs.Inner.Pick.{or_no_key, or_no_version}
use Rattle.krb_keytab.proofs.PickLaws.{other_name, name_without_key, key_without_version, chosen_more, replaced}

-- ---- what is decided

decided_by : (P : Type 0) (b : Bool) → Decides b P → P ⊎ (P → ⊥)
decided_by P true d = inl (d.0 refl)
decided_by P false d = inr (λ p. let bad : false ≡ true = d.1 p in absurd cc)

pub same_bytes : (one other : List ℕ) → (one ≡ other) ⊎ (one ≡ other → ⊥)
same_bytes one other = decided_by (one ≡ other) (bytes_eq one other) (bytes_eq-Decides one other)

name_decided : (one other : Principal) → SameName one other ⊎ (SameName one other → ⊥)
name_decided one other =
    elim (decided_by _ _ (Decides-and _ _ (bytes_eq-Decides one.realm other.realm) (slice_eq-Decides bytes_eq-Decides one.components other.components _ refl))) [
      | inl same ↦ inl (record { realm = same.0; components = same.1 })
      | inr differ ↦ inr (λ h. differ (h.realm, h.components))
    ]

key_decided : (name : Principal) (etype : ℤ) (e : KeytabEntry) → SameName e.principal name → IsKeyOf IsUsable name etype e ⊎ (IsKeyOf IsUsable name etype e → ⊥)
key_decided name etype e same =
    let short = Decides-and _ _ (Decides-int_eq e.etype (pos 19)) (Decides-eqb (length e.key) 16) in
    let long = Decides-and _ _ (Decides-int_eq e.etype (pos 20)) (Decides-eqb (length e.key) 32) in
    elim (decided_by _ _ (Decides-and _ _ (Decides-int_eq e.etype etype) (Decides-or _ _ short long))) [
      | inl key ↦ inl (record { same_name = same; same_etype = key.0; usable = key.1 })
      | inr none ↦ inr (λ key. none (key.same_etype, key.usable))
    ]

version_decided : (kvno : Option ℕ) (e : KeytabEntry) → IfSome kvno (λ number. e.kvno ≡ number) ⊎ (IfSome kvno (λ number. e.kvno ≡ number) → ⊥)
version_decided None e = inl tt
version_decided (Some number) e = cases_eq e.kvno number

-- ---- a choice where one entry more is there

unfoldable better : (entries : List KeytabEntry) (name : Principal) (etype : ℤ) (kvno : Option ℕ) (e : KeytabEntry) (choice : Choice) → IsCandidate IsUsable name etype kvno e → IsChoice entries name etype kvno choice
    → (more : Choice) × IsChoice (entries ++ e ∷ []) name etype kvno more
better entries name etype kvno e (chosen best) candidate h =
    elim (cases_lt best.kvno e.kvno) [
      | inl below ↦ (chosen e, replaced IsUsable entries name etype kvno e (chosen best) candidate below h)
      | inr least ↦ (chosen best, chosen_more IsUsable entries name etype kvno best e h (λ _. least))
    ]
better entries name etype kvno e choice candidate h = (chosen e, replaced IsUsable entries name etype kvno e choice candidate tt h)

one_entry_more : (entries : List KeytabEntry) (name : Principal) (etype : ℤ) (kvno : Option ℕ) (e : KeytabEntry) (choice : Choice) → IsChoice entries name etype kvno choice
    → (more : Choice) × IsChoice (entries ++ e ∷ []) name etype kvno more
one_entry_more entries name etype kvno e choice h =
    elim (name_decided e.principal name) [
      | inr other ↦ (choice, other_name IsUsable entries name etype kvno e choice other h)
      | inl same ↦
          elim (key_decided name etype e same) [
            | inr none ↦ (or_no_key choice, name_without_key IsUsable entries name etype kvno e choice same none h)
            | inl key ↦
                elim (version_decided kvno e) [
                  | inr none ↦ (or_no_version choice, key_without_version IsUsable entries name etype kvno e choice key (λ candidate. none candidate.version) h)
                  | inl version ↦ better entries name etype kvno e choice (record { key_of = key; version = version }) h
                ]
          ]
    ]

with_those_behind : (entries behind : List KeytabEntry) (name : Principal) (etype : ℤ) (kvno : Option ℕ) (choice : Choice) → IsChoice entries name etype kvno choice
    → (all : Choice) × IsChoice (entries ++ behind) name etype kvno all
with_those_behind entries [] name etype kvno choice h =
    (choice, subst (λ (t : List KeytabEntry). IsChoice t name etype kvno choice) (sym (append-nil entries)) h)
with_those_behind entries (e ∷ behind) name etype kvno choice h =
    let more = one_entry_more entries name etype kvno e choice h in
    let all = with_those_behind (entries ++ e ∷ []) behind name etype kvno more.0 more.1 in
    (all.0, subst (λ (t : List KeytabEntry). IsChoice t name etype kvno all.0) (append_assoc entries (e ∷ []) behind) all.1)

pub some_choice : (entries : List KeytabEntry) (name : Principal) (etype : ℤ) (kvno : Option ℕ) → (choice : Choice) × IsChoice entries name etype kvno choice
some_choice entries name etype kvno =
    with_those_behind [] entries name etype kvno no_name (All-nil (λ e. ¬ SameName e.principal name))

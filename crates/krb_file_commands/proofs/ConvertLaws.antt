-- A file that is written again, or is too long for that.
use Rattle.std.proofs.Common.{◌≡◌, ◌⊎◌, ◌<◌, ◌≤◌, ℕ, List, Option, Result, Ok, Err, length, refl, sym, ap, subst, ◌∙◌, arith, inl, inr}
use Rattle.std.specs.Prelude.{◌≢◌, ◌↔◌, ⊤, IfOk, IfErr, OnErr, OnOk}
use Rattle.krb_file.specs.File.{ReadsFile, file_limit}
use Rattle.krb_file.specs.Flow.{counted}
use Rattle.krb_keytab.specs.declared.fault.KeytabFault.{KeytabFault}
use Rattle.krb_keytab.specs.declared.fault.KeytabFault.TheVariants as keytab
use Rattle.krb_file_commands.specs.Converting.{IsUnwritten}
use Rattle.krb_file_commands.specs.Engine.{Makes, OfFile}
use Rattle.krb_file_commands.proofs.FaultLaws.{if_some_map, no_ok, same_err, same_ok}
use Rattle.krb_file_commands.proofs.FileLaws.{of_file}
use Rattle.krb_file_commands.proofs.ReadingLaws.{faulty, lacking, value_made}

module _ {V F X : Type 0} (items : X → List ℕ) (Is : List ℕ → Result V F → Type 0) (memory unread too_long : F) (exit failed : F → ℕ) (written : V → List ℕ) where
  abbrev Rewrites : Option (List ℕ) → Option (List ℕ) → ℕ → ℕ → Result X F → Type 0
  Rewrites from to before after result =
      Makes (λ made. OfFile (λ bytes value. Is bytes (Ok value)) from (λ value. items made ≡ written value)) (λ given fault. IsUnwritten (λ bytes value. Is bytes (Ok value)) (λ bytes f. Is bytes (Err f)) too_long written given fault)
      (λ _. ⊤) exit failed from to before after result

  no_fault : (one : (bytes : List ℕ) (answer other : Result V F) → Is bytes answer → Is bytes other → answer ≡ other) (value : V) → length (written value) ≤ file_limit → (given : List ℕ) (e : F) → Is given (Ok value)
      → IsUnwritten (λ bytes value. Is bytes (Ok value)) (λ bytes f. Is bytes (Err f)) too_long written given e → ⊥
  no_fault one value within given e is has = elim has [
    | inl its ↦ no_ok value e (one given (Ok value) (Err e) is its)
    | inr long ↦
        let same = same_ok value long.1.0 (one given (Ok value) (Ok long.1.0) is long.1.1.0) in
        let longer = subst (λ (v : V). file_limit < length (written v)) (sym same) long.1.1.1 in
        omega (arith, longer, within)
  ]

  pub rewritten : exit memory ≡ 3 → failed memory ≡ 0 → failed too_long ≡ 0 → (one : (bytes : List ℕ) (answer other : Result V F) → Is bytes answer → Is bytes other → answer ≡ other) (from to : Option (List ℕ)) (before after : ℕ)
      (read : Result V F) (value : V) (result : Result X F) → ReadsFile Is memory unread from to read → read ≡ Ok value → after ≡ counted before 0 → IfOk result (λ made. items made ≡ written value) → OnOk result (length (written value) ≤ file_limit)
      → IfErr result (λ e. (e ≡ memory) ⊎ ((e ≡ too_long) × (file_limit < length (written value)))) → Rewrites from to before after result
  rewritten exits none no_read one from to before after read value (Ok made) reads is failures made_is within which =
      value_made _ _ _ _ _ _ _ _ _ Is memory unread read reads value made is (of_file (λ bytes value. Is bytes (Ok value)) from value (λ v. items made ≡ written v) (rw is at reads.found) made_is) (no_fault one value within) failures
  rewritten exits none no_read one from to before after read value (Err e) reads is failures made_is within which = elim which [
    | inl m ↦ lacking _ _ _ _ _ _ _ _ _ e (ap exit m ∙ exits) tt (failures ∙ ap (counted before) (sym (ap failed m ∙ none))) reads.taken
    | inr long ↦ faulty _ _ _ _ _ _ _ _ _ e (if_some_map from (λ given its. inr (long.0, (value, (its, long.1)))) (rw is at reads.found)) tt
        (failures ∙ ap (counted before) (sym (ap failed long.0 ∙ no_read))) reads.taken
  ]

-- why a keytab isn't written
pub keytab_unwritten : {X : Type 0} (result : Result X KeytabFault) (written : List ℕ) → IfErr result (λ e. e ≢ keytab.OutOfMemory → (e ≡ keytab.TooLong) × (file_limit < length written))
    → IfErr result (λ e. (e ≡ keytab.OutOfMemory) ⊎ ((e ≡ keytab.TooLong) × (file_limit < length written)))
keytab_unwritten (Ok it) written is = tt
keytab_unwritten (Err keytab.OutOfMemory) written is = inl refl
keytab_unwritten (Err keytab.Version) written is = inr (is (λ e. cc))
keytab_unwritten (Err (keytab.Truncated at)) written is = inr (is (λ e. cc))
keytab_unwritten (Err (keytab.BadEntry at)) written is = inr (is (λ e. cc))
keytab_unwritten (Err keytab.TooLong) written is = inr (is (λ e. cc))
keytab_unwritten (Err keytab.NoSuchEntry) written is = inr (is (λ e. cc))
keytab_unwritten (Err keytab.Read) written is = inr (is (λ e. cc))

-- and a cache
pub cache_unwritten : {X F : Type 0} (result : Result X F) (memory too_long : F) (written : List ℕ) → ((result ≡ Err too_long) ↔ (file_limit < length written)) → OnErr result ((result ≡ Err too_long) ⊎ (result ≡ Err memory))
    → IfErr result (λ e. (e ≡ memory) ⊎ ((e ≡ too_long) × (file_limit < length written)))
cache_unwritten (Ok it) memory too_long written long which = tt
cache_unwritten (Err e) memory too_long written long which = elim which [
  | inl is ↦ inr (same_err e too_long is, long.0 is)
  | inr is ↦ inl (same_err e memory is)
]

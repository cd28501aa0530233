-- What the steps of a replacement make of the two files.
use Rattle.std.proofs.Common.{◌≡◌, ◌∙◌, List, ℕ, Option, Some, None, ap, refl, subst, sym}
use Rattle.std.specs.Prelude.{option_map}
use Rattle.krb_file_commands.specs.Replacing.{Becomes, Holds, IsAlone, IsEmpty, IsSafe, Stays, TwoFiles, created, held_of, removed, renamed, synced, with_bytes, written}

-- a step that leaves what the file holds
stays : (step : TwoFiles → TwoFiles) → ((two : TwoFiles) → held_of (step two) ≡ held_of two) → (old new : Option TwoFiles) → Becomes step old new → Stays old new
stays step keeps None new is = ap (option_map held_of) is
stays step keeps (Some two) new is = ap (option_map held_of) is ∙ ap Some (keeps two)

pub created_stays : (old new : Option TwoFiles) → Becomes created old new → Stays old new
created_stays old new is = stays created (λ two. refl) old new is

pub written_stays : (bytes : List ℕ) (old new : Option TwoFiles) → Becomes (written bytes) old new → Stays old new
written_stays bytes old new is = stays (written bytes) (λ two. refl) old new is

pub synced_stays : (old new : Option TwoFiles) → Becomes synced old new → Stays old new
synced_stays old new is = stays synced (λ two. refl) old new is

pub removed_stays : (old new : Option TwoFiles) → Becomes removed old new → Stays old new
removed_stays old new is = stays removed (λ two. refl) old new is

pub created_empty : (old new : Option TwoFiles) → Becomes created old new → IsEmpty new
created_empty None new is = subst (λ (f : Option TwoFiles). IsEmpty f) (sym is) tt
created_empty (Some two) new is = subst (λ (f : Option TwoFiles). IsEmpty f) (sym is) refl

pub synced_safe : (old new : Option TwoFiles) → Becomes synced old new → IsSafe new
synced_safe None new is = subst (λ (f : Option TwoFiles). IsSafe f) (sym is) tt
synced_safe (Some two) new is = subst (λ (f : Option TwoFiles). IsSafe f) (sym is) refl

pub removed_alone : (old new : Option TwoFiles) → Becomes removed old new → IsAlone new
removed_alone None new is = subst (λ (f : Option TwoFiles). IsAlone f) (sym is) tt
removed_alone (Some two) new is = subst (λ (f : Option TwoFiles). IsAlone f) (sym is) refl

-- all steps, one after another
pub replaced : (bytes : List ℕ) (empty full safe new : Option TwoFiles) → IsEmpty empty → Becomes (written bytes) empty full → Becomes synced full safe → Becomes renamed safe new → Holds bytes new
replaced bytes None full safe new is wrote synced_is renamed_is =
    subst (λ (f : Option TwoFiles). Holds bytes f) (sym (renamed_is ∙ ap (option_map renamed) (synced_is ∙ ap (option_map synced) wrote))) tt
replaced bytes (Some two) full safe new is wrote synced_is renamed_is =
    subst (λ (f : Option TwoFiles). Holds bytes f) (sym (renamed_is ∙ ap (option_map renamed) (synced_is ∙ ap (option_map synced) wrote))) (ap (with_bytes bytes) is, refl)

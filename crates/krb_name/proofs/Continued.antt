-- A text that was written on, and how it is cut back.
use Rattle.std.proofs.Common.{◌≡◌, ℕ, ◌≤◌, List, [], ◌++◌, take, length, length-append, append-nil, append_assoc, sym, ap, subst, ◌∙◌, arith}
use Rattle.std.proofs.Math.Seq.{take-append_seam}
use Rattle.std.proofs.lemmas.Str.{IsCharBoundary-from_take}
use Rattle.std.specs.Str.{IsUtf8}
use Rattle.std.specs.String.Boundary.{IsSplitPoint}
use Rattle.krb_name.specs.Inner.Components.{Continues}

pub unchanged : (old new : List ℕ) → new ≡ old → Continues old new
unchanged old new same = record { more = []; is = same ∙ sym (append-nil old) }

-- what was written in full is gone on with
pub goes_on : (old now new part : List ℕ) → now ≡ old ++ part → Continues now new → Continues old new
goes_on old now new part written continues =
    record {
      more = part ++ continues.more;
      is = continues.is ∙ ap (λ (text : List ℕ). text ++ continues.more) written ∙ append_assoc old part continues.more;
    }

-- the old text is cut off the new one
pub cut_back : (old new : List ℕ) → Continues old new → take (length old) new ≡ old
cut_back old new continues = ap (λ (text : List ℕ). take (length old) text) continues.is ∙ take-append_seam old continues.more

not_shorter : (old new : List ℕ) → Continues old new → length old ≤ length new
not_shorter old new continues = omega (arith, length-append old continues.more, ap length continues.is)

-- and no character is cut
pub is_seam : (old new : List ℕ) (n : ℕ) → n ≡ length old → IsUtf8 old → IsUtf8 new → Continues old new → IsSplitPoint new n
is_seam old new n whole old_is new_is continues =
    let boundary = IsCharBoundary-from_take new (length old) new_is (not_shorter old new continues) (subst IsUtf8 (sym (cut_back old new continues)) old_is) in
    subst (IsSplitPoint new) (sym whole) (boundary.0, λ some. boundary.1)

-- what was gone on with is gone on with further
pub further : (old now new : List ℕ) → Continues old now → Continues now new → Continues old new
further old now new first continues = goes_on old now new first.more first.is continues

-- and so is it if a part was written
pub written : (old now new part : List ℕ) → Continues old now → new ≡ now ++ part → Continues old new
written old now new part first is = further old now new first (record { more = part; is = is })

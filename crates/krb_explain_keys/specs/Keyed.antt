-- What is explained of bytes with the keys of a keytab, at a second of the service's clock.
use Rattle.std.specs.Prelude.{◌≡◌, ℕ, ℤ, List, [], ◌∷◌, ◌++◌, Option, Some, None, codes}
use Rattle.krb_keytab.specs.Entry.{KeytabEntry}
use Rattle.krb_ap.specs.Setup.{Setup, arrival}
use Rattle.krb_ap.specs.Times.{second_at}
use Rattle.krb_ap.specs.Taken.{Taken, Accept}
use Rattle.krb_ap.specs.Causes.{Cause}
use Rattle.krb_ap.specs.declared.refusal.Refusal.{Refusal}
use Rattle.krb_explain.specs.Date.{IsDateLine}
use Rattle.krb_explain.specs.Explained.{Explains}
use Rattle.krb_explain.specs.Page.{page_of}
use Rattle.krb_explain_keys.specs.CauseLines.{verdict_lines}
use Rattle.krb_explain_keys.specs.Seen.{Sees, Sight}

-- a service that was never started again, and has seen nothing
abbrev pub new_service : List KeytabEntry → ℕ → Setup
new_service entries skew = record { entries = entries; skew = skew; start = None }

-- it accepts the request, or this is the first cause for refusing it
abbrev pub IsVerdict : Setup → ℤ → List ℕ → Option Refusal → Type 0
IsVerdict setup now request None = (taken : Taken) × Accept setup [] (arrival request now) taken
IsVerdict setup now request (Some cause) = Cause setup [] (arrival request now) cause

-- the lines of a request: what is seen of it, the service's time, and the verdict
pub record AreRequestLines (setup : Setup) (second : ℤ) (request : List ℕ) (lines : List (List ℕ)) : Type 0 where
  pub sight : Sight
  pub date : List ℕ
  pub first : Option Refusal
  pub sees : Sees setup (second_at second) request sight
  pub date_is : IsDateLine (codes "service's clock: ") second date
  pub verdict : IsVerdict setup (second_at second) request first
  pub lines_are : lines ≡ sight.lines ++ (date ∷ verdict_lines first sight)

-- nothing is judged of what a service sends, nor of a token with a fault
abbrev pub AreJudgedLines : Setup → ℤ → Option (List ℕ) → List (List ℕ) → Type 0
AreJudgedLines setup second None lines = lines ≡ []
AreJudgedLines setup second (Some request) lines = AreRequestLines setup second request lines

-- the page of the lines that explain the bytes without keys, and after them those of the request
pub record IsKeyedExplanation (setup : Setup) (second : ℤ) (bytes text : List ℕ) : Type 0 where
  pub lines : List (List ℕ)
  pub request : Option (List ℕ)
  pub others : List (List ℕ)
  pub explain : Explains bytes lines request
  pub others_are : AreJudgedLines setup second request others
  pub text_is : text ≡ page_of (lines ++ others)
